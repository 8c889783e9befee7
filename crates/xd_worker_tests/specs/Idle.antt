-- What is left of the line of a call that runs nothing. That a test waits until another entry stands after it is the
-- rule of pytest-xdist's `remote.py`.
use Rattle.std.specs.Prelude.{◌≡◌, ◌⊎◌, ℕ, List, [], ◌∷◌, false}
use Rattle.xd_worker_tests.specs.declared.phase.Phase.TheVariants.{Serving}
use Rattle.xd_worker_tests.specs.declared.line_entry.LineEntry.{LineEntry}
use Rattle.xd_worker_tests.specs.declared.line_entry.LineEntry.TheVariants.{Test}
use Rattle.xd_worker_tests.specs.History.{Given, call_after}
use Rattle.xd_worker_tests.specs.Line.{FunctionCall, left}

-- nothing, or one test
abbrev pub IsIdle : List LineEntry → Type 0
IsIdle ps = (ps ≡ []) ⊎ ((n : ℕ) × (ps ≡ Test n ∷ []))

-- a call that serves its suite and runs nothing has no more left
abbrev pub WaitsForNext : FunctionCall → Type 0
WaitsForNext c = c.phase ≡ Serving → c.running ≡ false → IsIdle (left c)

-- Whatever comes, a call that serves and runs nothing has no more than one test left.
-- Example: of three tests the worker is to run the first: it waits, and one test is left; with a mark after it, it would
-- run.
abbrev pub IdleLaw : Type 0
IdleLaw = (h : List Given) → WaitsForNext (call_after h)
