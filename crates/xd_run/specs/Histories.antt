-- Whole journals of runs with workers, by their inputs.
use Rattle.std.specs.Prelude.{ℕ, zero, suc, ◌+◌, Bool, not, ◌&&◌, List, [], ◌∷◌, ◌++◌, unwrap_or}
use Rattle.xd_journal.specs.declared.settings.Settings.{Settings}
use Rattle.xd_journal.specs.declared.entry.RunStop.{RunStop}
use Rattle.xd_journal.specs.declared.entry.RunStop.TheVariants.{Completed}
use Rattle.xd_journal.specs.declared.entry.Entry.{Entry}
use Rattle.xd_journal.specs.declared.entry.Entry.TheVariants.{Start}
use Rattle.xd_run.specs.Books.{Books}
use Rattle.xd_run.specs.Workers.{some_active}
use Rattle.xd_run.specs.Stops.{is_shutting}
use Rattle.xd_run.specs.Sharing.{State}
use Rattle.xd_run.specs.State.{state_at}
use Rattle.xd_run.specs.Outputs.{outputs, after_input}

-- the starts of n workers from this one on, each at the slot of its number
abbrev pub starts_from : ℕ → ℕ → List Entry
starts_from w zero = []
starts_from w (suc n) = Start w w ∷ starts_from (w + 1) n

-- the Start entries with which a run begins, one for each worker that its settings say
abbrev pub first_starts : Settings → List Entry
first_starts settings = starts_from 0 settings.workers

-- the state after the first Start entries
abbrev pub after_starts : Settings → State
after_starts settings = state_at settings (first_starts settings)

-- the inputs, each with its outputs after it
abbrev pub grown : State → List Entry → List Entry
grown s [] = []
grown s (e ∷ es) = (e ∷ outputs s e) ++ grown (after_input s e) es

-- the journal that these inputs make, before its end
-- Example: with no input yet and two workers: Start gw0 at 0, Start gw1 at 1.
abbrev pub journal_of : Settings → List Entry → List Entry
journal_of settings inputs = first_starts settings ++ grown (after_starts settings) inputs

-- the state after these inputs and their outputs
abbrev pub after_inputs : State → List Entry → State
after_inputs s [] = s
after_inputs s (e ∷ es) = after_inputs (after_input s e) es

-- the run is over where it is shutting and no worker is active
abbrev pub is_over : Books → Bool
is_over b = is_shutting b && not (some_active b)

-- how it ends: the first stop, or all was done
abbrev pub run_end_of : Books → RunStop
run_end_of b = unwrap_or b.stop Completed
