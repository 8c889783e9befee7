-- What holds where a report could not be printed.
use Rattle.std.proofs.Common.{◌≡◌, Bool, true, false, Result, Err, subst, sym}
use Rattle.std.specs.Prelude.{⊤}
use Rattle.xd_report.specs.declared.printing.PrintFault.{PrintFault}
use Rattle.xd_report.specs.declared.printing.PrintFault.TheVariants.{Failed, OutOfMemory}
use Rattle.xd_report.specs.Printing.{OnPrinted, printed_as}

-- a fault is handed on
ends_by : (e : PrintFault) (P Q : Bool → Type 0) → (P false → Q false) → OnPrinted {A = ⊤} (Err e) P → OnPrinted {A = ⊤} (Err e) Q
ends_by Failed P Q f p = f p
ends_by OutOfMemory P Q f p = tt

pub ends_on : (other e : PrintFault) (P Q : Bool → Type 0) → other ≡ e → (P false → Q false) → OnPrinted {A = ⊤} (Err e) P → OnPrinted {A = ⊤} (Err other) Q
ends_on other e P Q same f p = subst (λ (x : PrintFault). OnPrinted {A = ⊤} (Err x) Q) (sym same) (ends_by e P Q f p)

-- what holds of how it ended
pub ends_as : (printed : Result ⊤ PrintFault) (shown : Bool) (P : Bool → Type 0) → printed ≡ printed_as shown → OnPrinted printed P → P shown
ends_as printed true P is p = let q : OnPrinted (printed_as true) P = subst (λ (r : Result ⊤ PrintFault). OnPrinted r P) is p in q
ends_as printed false P is p = let q : OnPrinted (printed_as false) P = subst (λ (r : Result ⊤ PrintFault). OnPrinted r P) is p in q
