-- What tests that are handed out, and that come back, change in the state of a run. pytest-xdist's schedulers: `_send_tests`,
-- `remove_pending_tests_from_node`.
use Rattle.std.specs.Prelude.{ℕ, List, None, if◌then◌else◌}
use Rattle.xd_run.specs.Table.{assigned, given_back}
use Rattle.xd_run.specs.Plan.{Plan, is_scope, items_named, slot_items}
use Rattle.xd_run.specs.Units.{unit_handed}
use Rattle.xd_run.specs.Books.{on_table}
use Rattle.xd_run.specs.Workers.{slot_of}
use Rattle.xd_run.specs.Sharing.{State, in_books}

-- in the scope modes the unit that the Run names is handed out
abbrev pub run_plan : ℕ → List ℕ → Plan → Plan
run_plan worker indices p = record p {
  queue = if is_scope p.mode then (unit_handed worker indices p).queue else p.queue;
  given = if is_scope p.mode then (unit_handed worker indices p).given else p.given;
}

-- the state after a Run
abbrev pub after_run : ℕ → List ℕ → State → State
after_run worker indices s = record s {
  books = on_table (assigned worker (items_named (slot_of worker s.books) indices s.plan)) s.books;
  plan = run_plan worker indices s.plan;
}

-- the state after a RunAll
abbrev pub after_run_all : ℕ → State → State
after_run_all worker s = in_books (on_table (assigned worker (slot_items (slot_of worker s.books) s.plan))) s

-- the state after a Back
abbrev pub after_back : ℕ → List ℕ → State → State
after_back worker indices s = record s {
  books = on_table (given_back worker (items_named (slot_of worker s.books) indices s.plan)) s.books;
  plan = record (s.plan) { steal = None };
}
