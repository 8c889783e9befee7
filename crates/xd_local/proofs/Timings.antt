-- How long tests took.
use Rattle.std.proofs.Common.{◌≡◌, ℕ, ◌+◌, ◌-◌, List, [], ◌∷◌, ◌++◌, refl, subst, arith}
use Rattle.xd_journal.specs.Local.{TestResult}
use Rattle.xd_edge.specs.Clock.{Lasts, Ticking, Ticks}
use Rattle.xd_local.specs.Timing.{AreTimed}

-- the clock was asked twice
pub lasts : (start end : ℕ) (old mid new : Ticking) → Ticks start old mid → Ticks end mid new → Lasts (end - start) old new
lasts start end old mid new begins ends =
    let joined : end ≡ start + (end - start) = omega (arith, begins.last, ends.later) in
    record { start = start; mid = mid; begins = begins; ends = subst (λ (n : ℕ). Ticks n mid new) joined ends }

-- one result more
pub timed_more : (results : List TestResult) (r : TestResult) (old mid new : Ticking) → AreTimed results old mid → Lasts r.ms mid new → AreTimed (results ++ r ∷ []) old new
timed_more [] r old mid new same lasts = (new, subst (λ (t : Ticking). Lasts r.ms t new) same lasts, refl)
timed_more (x ∷ xs) r old mid new timed lasts = (timed.0, timed.1, timed_more xs r timed.0 mid new timed.2 lasts)
