-- The ids of each mode are free of repeats.
use Rattle.std.proofs.Common.{◌≡◌, ℕ, List, Option, Some, None, option_map, refl}
use Rattle.xd_edge.specs.declared.mode.ModeKind.{ModeKind}
use Rattle.xd_edge.specs.declared.mode.ModeKind.TheVariants.{Local, Each, Load, LoadScope, LoadFile, LoadGroup, WorkSteal}
use Rattle.xd_suite.specs.declared.test.Test.{Test}
use Rattle.xd_suite.specs.declared.fault.SuiteFault.{SuiteFault}
use Rattle.xd_suite.specs.declared.fault.SuiteWhat.TheVariants.{Repeated}
use Rattle.xd_suite.specs.Faults.{earlier, fault_of_ids, of_test, repeat_of}
use Rattle.xd_suite.specs.Tests.{ids_by_mode}

neither : (f : ℕ → SuiteFault) (a b : Option ℕ) → option_map f (earlier a b) ≡ None → (a ≡ None) × (b ≡ None)
neither f None None e = (refl, refl)
neither f None (Some n) e = absurd (cc)
neither f (Some m) None e = absurd (cc)
neither f (Some m) (Some n) e = absurd (cc)

module _ (ts : List Test) (good : fault_of_ids ts ≡ None) where
  none : (repeat_of (ids_by_mode Load ts) ≡ None) × (repeat_of (ids_by_mode LoadGroup ts) ≡ None)
  none = neither (λ number. of_test number Repeated) (repeat_of (ids_by_mode Load ts)) (repeat_of (ids_by_mode LoadGroup ts)) good

  pub no_repeat : (mode : ModeKind) → repeat_of (ids_by_mode mode ts) ≡ None
  no_repeat Local = none.0
  no_repeat Each = none.0
  no_repeat Load = none.0
  no_repeat LoadScope = none.0
  no_repeat LoadFile = none.0
  no_repeat LoadGroup = none.1
  no_repeat WorkSteal = none.0
