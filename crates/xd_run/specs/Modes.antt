-- What each mode does at each of its calls.
use Rattle.std.specs.Prelude.{ℕ, List}
use Rattle.xd_edge.specs.declared.mode.ModeKind.{ModeKind}
use Rattle.xd_edge.specs.declared.mode.ModeKind.TheVariants.{Local, Each, Load, LoadScope, LoadFile, LoadGroup, WorkSteal}
use Rattle.xd_run.specs.Turn.{Turn}
use Rattle.xd_run.specs.Load as load
use Rattle.xd_run.specs.Each as each
use Rattle.xd_run.specs.Worksteal as worksteal
use Rattle.xd_run.specs.ScopeModes as scopes

-- the calls of a mode: the tests are shared, among workers of these slots in rota order; a worker of this slot joined
-- after the share; a test of a worker ended, which took `ms` milliseconds; tests came back; a worker died
pub data ModeCall : Type 0 where
  Share : (slots : List ℕ) → ModeCall
  Joined : (worker : ℕ) → (slot : ℕ) → ModeCall
  TestDone : (worker : ℕ) → (ms : ℕ) → ModeCall
  TestsBack : ModeCall
  Died : ModeCall

-- the turn after a call of mode load: a test that ended refills its worker, a join or a death every worker
abbrev pub load_turn : ModeCall → Turn → Turn
load_turn (Share slots) t = load.load_share t
load_turn (Joined w slot) t = load.load_refill_all t
load_turn (TestDone w ms) t = load.load_refill ms w t
load_turn TestsBack t = t
load_turn Died t = load.load_refill_all t

-- the turn after a call of mode each, which only the share and a worker that joins change
abbrev pub each_turn : ModeCall → Turn → Turn
each_turn (Share slots) t = each.each_share slots t
each_turn (Joined w slot) t = each.joins w slot t
each_turn _ t = t

-- the turn after a call of mode worksteal: the share, or its one rule at every other call
abbrev pub worksteal_turn : ModeCall → Turn → Turn
worksteal_turn (Share slots) t = worksteal.steal_share t
worksteal_turn _ t = worksteal.rule t

-- the turn after a call of a scope mode: it refills the workers that mode load does, with units
abbrev pub scope_turn : ModeCall → Turn → Turn
scope_turn (Share slots) t = scopes.scope_share t
scope_turn (Joined w slot) t = scopes.scope_refill_all t
scope_turn (TestDone w ms) t = scopes.scope_refill w t
scope_turn TestsBack t = t
scope_turn Died t = scopes.scope_refill_all t

-- the turn after the call, by the mode
-- Example: in mode load a test that ended refills its worker alone, and a death every worker.
abbrev pub turned : ModeKind → ModeCall → Turn → Turn
turned Local c t = t
turned Each c t = each_turn c t
turned Load c t = load_turn c t
turned LoadScope c t = scope_turn c t
turned LoadFile c t = scope_turn c t
turned LoadGroup c t = scope_turn c t
turned WorkSteal c t = worksteal_turn c t
