-- Worked rows of the news of a link.
use Rattle.std.specs.Prelude.{◌≡◌, refl, [], ◌∷◌, None, Some, pos, codes}
use Rattle.xd_value.specs.Tree.{bytes, text, int, channel, pair, no_pairs}
use Rattle.xd_factory.specs.Said.{Said as Word, Data, Close, Last}
use Rattle.xd_journal.specs.declared.news.What.TheVariants as what
use Rattle.xd_commands.specs.Calls.{call_as_value}
use Rattle.xd_gateway.specs.Calls.{terminate_message}
use Rattle.xd_gateway.specs.News.{Heard, Said, Refused, all_news}

abbrev said_message : Word → Heard
said_message said = record { message = terminate_message; came = Said said }

abbrev refused_message : Heard
refused_message = record { message = terminate_message; came = Refused }

abbrev log_start : Word
log_start = Data 1 (call_as_value (codes "logstart") (pair (text (codes "item_index")) (int (pos 0)) (pair (text (codes "log")) (channel 2) no_pairs)))

abbrev finished_word : Word
finished_word = Data 1 (call_as_value (codes "workerfinished") no_pairs)

-- a close of channel 1 is told
pub close_is_told : all_news (said_message (Close 1 None) ∷ []) ≡ what.Closed None ∷ []
close_is_told = refl

-- a close of channel 1 with an error is told with its text
pub error_is_told : all_news (said_message (Close 1 (Some (codes "fail"))) ∷ []) ≡ what.Closed (Some (codes "fail")) ∷ []
error_is_told = refl

-- a close of channel 1 after workerfinished is no news
pub close_after_finished : all_news (said_message (Close 1 None) ∷ said_message finished_word ∷ []) ≡ what.Finished ∷ []
close_after_finished = refl

-- an end of channel 1 that is no close is stray
pub last_is_stray : all_news (said_message (Last 1) ∷ []) ≡ what.Stray ∷ []
last_is_stray = refl

-- bytes on the channel of a log are its output, until it is closed
pub log_is_told : all_news (said_message (Data 2 (bytes (7 ∷ []))) ∷ said_message (Close 2 None) ∷ said_message (Data 2 (bytes (7 ∷ []))) ∷ said_message log_start ∷ []) ≡ what.LogStart 0 2 ∷ what.Piece 2 (7 ∷ []) ∷ what.LogClosed 2 ∷ what.Stray ∷ []
log_is_told = refl

-- bytes on a channel that no log names are stray, also where a log names it later
pub bytes_are_stray : all_news (said_message (Data 2 (bytes (7 ∷ []))) ∷ []) ≡ what.Stray ∷ []
bytes_are_stray = refl

-- each message from the first refused one on is stray
pub refusals_are_stray : all_news (refused_message ∷ refused_message ∷ []) ≡ what.Stray ∷ what.Stray ∷ []
refusals_are_stray = refl
