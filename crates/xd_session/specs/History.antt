-- What a list of news makes of a run.
use Rattle.std.specs.Prelude.{◌≡◌, ℕ, ◌==◌, List, [], ◌∷◌, ◌++◌, map, filter, fold, Option, Some, None}
use Rattle.xd_journal.specs.declared.settings.Settings.{Settings}
use Rattle.xd_journal.specs.declared.entry.Entry.{Entry}
use Rattle.xd_journal.specs.declared.news.News.{News}
use Rattle.xd_journal.specs.declared.news.What.{What}
use Rattle.xd_run.specs.Sharing.{State}
use Rattle.xd_run.specs.Outputs.{outputs, after_input}
use Rattle.xd_run.specs.Histories.{first_starts, after_starts, journal_of, after_inputs}
use Rattle.xd_run.specs.Meaning.{meaning}
use Rattle.xd_run.specs.Proper.{IsProper}

-- a run so far
pub record Run : Type 0 where
  pub entries : List Entry  -- its journal
  pub state : State  -- after these entries
  pub inputs : List Entry  -- what the news meant, in order
  pub taken : List News  -- the news themselves, in order

-- what one worker said, in order
abbrev pub said_by : ℕ → List News → List What
said_by worker taken = map (λ n. n.what) (filter (λ n. n.worker == worker) taken)

-- no news yet: the first workers are started
abbrev pub begun_run : Settings → Run
begun_run settings = record { entries = first_starts settings; state = after_starts settings; inputs = []; taken = [] }

-- the input comes into the journal, with its outputs after it
abbrev pub entries_with : Option Entry → List Entry → State → List Entry
entries_with None entries s = entries
entries_with (Some e) entries s = entries ++ (e ∷ outputs s e)

-- the state after the input and its outputs, where there is an input
abbrev pub state_with : Option Entry → State → State
state_with None s = s
state_with (Some e) s = after_input s e

-- the inputs with this one at their end, where there is one
abbrev pub inputs_with : Option Entry → List Entry → List Entry
inputs_with None inputs = inputs
inputs_with (Some e) inputs = inputs ++ e ∷ []

-- the input that the news means
abbrev pub input_of : Run → News → Option Entry
input_of r n = meaning n.worker r.entries r.state (said_by n.worker r.taken) n.what

-- the run after one more piece of news
abbrev pub after_news : Run → News → Run
after_news r n = record {
  entries = entries_with (input_of r n) r.entries r.state;
  state = state_with (input_of r n) r.state;
  inputs = inputs_with (input_of r n) r.inputs;
  taken = r.taken ++ n ∷ [];
}

-- the run after these news
-- Example: gw0 says twice that it is ready; the second time means Down with Breach, Kill and a new Start.
abbrev pub run_of : Settings → List News → Run
run_of settings taken = fold after_news (begun_run settings) taken

-- what the news meant are proper inputs of a run with these settings, and the run is theirs
-- Example: gw0 sends a piece of a log that it never started: the Down with Breach that this means breaks no rule.
pub record IsProperRun (settings : Settings) (r : Run) : Type 0 where
  pub proper : IsProper settings r.inputs
  pub journal : r.entries ≡ journal_of settings r.inputs
  pub state : r.state ≡ after_inputs (after_starts settings) r.inputs
