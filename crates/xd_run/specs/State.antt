-- The state of a run after a part of its journal.
use Rattle.std.specs.Prelude.{◌==◌, Bool, true, false, not, ◌&&◌, ◌||◌, nat_lt, List, [], ◌∷◌, length, fold, Some, None, is_none, if◌then◌else◌}
use Rattle.std.specs.List.{list_all}
use Rattle.xd_journal.specs.declared.settings.Settings.{Settings}
use Rattle.xd_journal.specs.declared.entry.RunStop.TheVariants.{CollectError}
use Rattle.xd_journal.specs.declared.entry.Entry.{Entry}
use Rattle.xd_journal.specs.declared.entry.Entry.TheVariants.{Ready, Collected, Done, Back, Finished, Refused, Down, NotStarted, Start, Run, RunAll, Steal, Shutdown, Kill, Over}
use Rattle.xd_run.specs.Table.{Table, fresh_table, left_rota, shut_down}
use Rattle.xd_run.specs.Plan.{Plan, with_open_steal, items_named}
use Rattle.xd_run.specs.Books.{on_table, marked}
use Rattle.xd_run.specs.Workers.{begun_at, slot_of, made_ready, made_shut}
use Rattle.xd_run.specs.Stops.{is_stopped, stopped_by}
use Rattle.xd_run.specs.Sharing.{State, in_books}
use Rattle.xd_run.specs.Collecting.{after_collected}
use Rattle.xd_run.specs.Deaths.{gone, after_down}
use Rattle.xd_run.specs.Handing.{after_run, after_run_all, after_back}
use Rattle.xd_run.specs.Results.{done_books}

-- the state after one more entry
-- Example: a Done of test 0 takes it from gw0 and puts it among the reported ones.
abbrev pub after_effect : State → Entry → State
after_effect s (Start worker slot) = in_books (begun_at worker slot) s
after_effect s (Ready worker) = in_books (marked (made_ready worker)) s
after_effect s (Collected worker given) = after_collected worker given s
after_effect s (Done worker index outcome ms output) = in_books (done_books worker (items_named (slot_of worker s.books) (index ∷ []) s.plan) outcome) s
after_effect s (Back worker indices) = after_back worker indices s
after_effect s (Finished worker) = in_books (λ b. gone worker (on_table (left_rota worker) b)) s
after_effect s (Refused worker text) = in_books (λ b. stopped_by (Some (CollectError worker)) (gone worker b)) s
after_effect s (Down worker cause output) = after_down worker s
after_effect s (NotStarted worker) = after_down worker s
after_effect s (Run worker indices) = after_run worker indices s
after_effect s (RunAll worker) = after_run_all worker s
after_effect s (Steal worker indices) = record s { plan = with_open_steal worker indices s.plan }
after_effect s (Shutdown worker) = in_books (λ b. marked (made_shut worker) (on_table (shut_down worker) b)) s
after_effect s (Kill worker) = s
after_effect s (Over how) = s

-- what a worker said, and not what it was told
abbrev pub is_input : Entry → Bool
is_input (Ready w) = true
is_input (Collected w i) = true
is_input (Done w i o m b) = true
is_input (Back w i) = true
is_input (Finished w) = true
is_input (Refused w t) = true
is_input (Down w c o) = true
is_input (NotStarted w) = true
is_input _ = false

-- nothing is left to hand out, the schedulers' `tests_finished`: the pool is empty, no steal is open, and no worker holds
-- more than the last test of its own
abbrev pub is_handed_out : Table → Plan → Bool
is_handed_out t p = (length t.pool == 0) && is_none p.steal && list_all (λ seat. nat_lt (length seat.held) 2) t.rota

-- a run that was shared and not stopped is shutting from then on
abbrev pub settles : State → Bool
settles s = not (is_stopped s.books) && s.books.shared && is_handed_out s.books.table s.plan

-- the state with the mark that the run is shutting, where it settles; each new worker clears the mark
abbrev pub settled : State → State
settled s = in_books (λ b. record b { shutting = b.shutting || settles s }) s

-- the state that an entry finds: an input comes after a whole rule, where that mark is set, and an output inside one
abbrev pub reached : State → Entry → State
reached s e = if is_input e then settled s else s

-- the state after one more entry of a run
abbrev pub after_entry : State → Entry → State
after_entry s e = after_effect (reached s e) e

-- the state after more entries of a run
abbrev pub after_entries : State → List Entry → State
after_entries s es = fold after_entry s es

-- the state before any entry
abbrev pub no_one : Settings → State
no_one settings = record {
  books = record { settings = settings; members = []; lists = []; table = fresh_table []; shared = false; failures = 0; deaths = 0; lost = []; stop = None; shutting = false };
  plan = record { mode = settings.mode; chunk = settings.chunk; reorder = settings.reorder; sizes = []; queue = []; given = []; steal = None };
}

-- the state after these entries
abbrev pub state_at : Settings → List Entry → State
state_at settings entries = settled (after_entries (no_one settings) entries)
