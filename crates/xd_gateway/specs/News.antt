-- What the messages of a worker's link mean to its controller, one after another. An event on channel 1 is the news of its
-- name, as in pytest-xdist's workermanage.py. That the output of a test comes on a channel of its own is a choice of this
-- project.
use Rattle.std.specs.Prelude.{◌≡◌, ℕ, ◌+◌, ◌≤◌, ◌==◌, ◌||◌, ◌%◌, Bool, true, false, List, [], ◌∷◌, ◌++◌, Option, Some, None, option_to_list, unwrap_or, if◌then◌else◌}
use Rattle.xd_value.specs.Tree.{Tree, bytes}
use Rattle.xd_channel.specs.declared.end.End.{End}
use Rattle.xd_channel.specs.declared.end.End.TheVariants as end
use Rattle.xd_frame.specs.Message.{MessageView}
use Rattle.xd_factory.specs.declared.parity.Parity.TheVariants.{Odd}
use Rattle.xd_factory.specs.declared.taken.Taken.{Taken}
use Rattle.xd_factory.specs.declared.taken.Taken.TheVariants as taken
use Rattle.xd_factory.specs.declared.faults.SideFault.{SideFault}
use Rattle.xd_factory.specs.Numbers.{is_mine}
use Rattle.xd_factory.specs.Said.{Said as Word, Means, names_of}
use Rattle.xd_factory.specs.Slot.{hooked_slot, is_new}
use Rattle.xd_factory.specs.Table.{opened_count}
use Rattle.xd_factory.specs.SideTable.{ChannelTable, Counts, RefusedBy, answer, changed_at, heard_of_message, new_table}
use Rattle.xd_journal.specs.declared.news.What.{What}
use Rattle.xd_journal.specs.declared.news.What.TheVariants as what
use Rattle.xd_commands.specs.Events.{tree_event}
use Rattle.xd_gateway.specs.Calls.{exec_opened}

-- the channels of the controller's side, whether it has refused a message, and whether the worker said that it has finished
pub record Ear : Type 0 where
  pub table : ChannelTable
  pub failed : Bool
  pub finished : Bool

-- `run_tests` was called on channel 1, and nothing has come
abbrev pub first_ear : Ear
first_ear = record { table = exec_opened (new_table Odd); failed = false; finished = false }

-- an item on channel 1 is an event, else stray
abbrev pub event_or_stray : Tree → What
event_or_stray v = unwrap_or (tree_event v) what.Stray

-- bytes on the channel of a log are its output, another item is stray
abbrev pub piece_or_stray : ℕ → Tree → What
piece_or_stray n (bytes bs) = what.Piece n bs
piece_or_stray n _ = what.Stray

-- an end of channel 1: with a close the worker has ended, which is no news where it said before that it has finished
abbrev pub close_of : Bool → End → Option What
close_of true end.Closed = None
close_of false end.Closed = Some (what.Closed None)
close_of true (end.Error text) = None
close_of false (end.Error text) = Some (what.Closed (Some text))
close_of finished end.LastMessage = Some what.Stray
close_of finished end.Lost = Some what.Stray

-- The news of a message that the side took. Callbacks are set on channel 1 and on the channels of logs alone, so an item or
-- an end that is handed out is of one of these; what is not handed out is stray.
abbrev pub news_by : Bool → Taken Tree → Option What
news_by finished (taken.Handed n v) = Some (if n == 1 then event_or_stray v else piece_or_stray n v)
news_by finished (taken.EndHanded n e) = if n == 1 then close_of finished e else Some (what.LogClosed n)
news_by finished _ = Some what.Stray

-- the channel of a log gets a callback where its number is even, as the worker's numbers are
abbrev pub log_hooked : Option What → ChannelTable → ChannelTable
log_hooked (Some (what.LogStart index log)) t = if log % 2 == 0 then changed_at log hooked_slot t else t
log_hooked _ t = t

-- the news is that the worker has finished: `workerfinished` of pytest-xdist's remote.py
abbrev pub is_finish : Option What → Bool
is_finish (Some what.Finished) = true
is_finish _ = false

-- what a message was: it said something, or the side refused it
pub data CameAs : Type 0 where
  Said : Word → CameAs
  Refused : CameAs

-- the news of a message, by what it was; one that the side refuses is stray
abbrev pub came_news : Ear → CameAs → Option What
came_news e (Said said) = news_by e.finished (answer said e.table)
came_news e Refused = Some what.Stray

-- the ear after one message more
abbrev pub ear_with : Ear → CameAs → Ear
ear_with e (Said said) =
    let news = came_news e (Said said) in
    record { table = log_hooked news (heard_of_message said e.table); failed = false; finished = e.finished || is_finish news }
ear_with e Refused = record e { failed = true }

-- a message, with what it was
pub record Heard : Type 0 where
  pub message : MessageView
  pub came : CameAs

-- the ear after these messages, of which the last stands first
abbrev pub ear_after : List Heard → Ear
ear_after [] = first_ear
ear_after (g ∷ h) = ear_with (ear_after h) g.came

-- the messages alone, in the order in which they came
abbrev pub all_messages : List Heard → List MessageView
all_messages [] = []
all_messages (g ∷ h) = all_messages h ++ g.message ∷ []

-- the news of all these messages, in order
-- Example: a start of a test with log 2, bytes on 2, CHANNEL_CLOSE on 2 and bytes on 2 are `LogStart`, `Piece`, `LogClosed`,
-- `Stray`.
abbrev pub all_news : List Heard → List What
all_news [] = []
all_news (g ∷ h) = all_news h ++ option_to_list (came_news (ear_after h) g.came)

-- there is room for the numbers that a message opens
abbrev pub HasRoom : ChannelTable → Word → Type 0
HasRoom t said = (n : ℕ) × Counts t.slot n × (n + opened_count (λ c. is_new (is_mine t.parity c) (t.slot c)) (names_of said) ≤ 4096)

-- the side takes a message that says this
pub record Takes (e : Ear) (m : MessageView) (said : Word) : Type 0 where
  pub good : e.failed ≡ false
  pub means : Means m said
  pub room : HasRoom e.table said

-- the side refuses a message: it did so before, or for what the message is
abbrev pub SideRefuses : Bool → ChannelTable → MessageView → Type 0
SideRefuses true t m = Unit {0}
SideRefuses false t m = (fault : SideFault) × RefusedBy None t m fault

-- a message is what it is said to be: the side takes it and it says this, or the side refuses it
abbrev pub IsCame : Ear → MessageView → CameAs → Type 0
IsCame e m (Said said) = Takes e m said
IsCame e m Refused = SideRefuses e.failed e.table m

-- each message was what it is there
abbrev pub AreHeard : List Heard → Type 0
AreHeard [] = Unit {0}
AreHeard (g ∷ h) = AreHeard h × IsCame (ear_after h) g.message g.came

-- these news are those of these messages, in order
pub record IsNewsOf (messages : List MessageView) (news : List What) : Type 0 where
  pub heard : List Heard
  pub are : AreHeard heard
  pub messages_are : all_messages heard ≡ messages
  pub news_are : all_news heard ≡ news
