-- The rota before the share.
use Rattle.std.proofs.Common.{◌≡◌, ℕ, List, [], ◌∷◌, ◌++◌, refl, ap, ◌∙◌, arith, true, false}
use Rattle.std.specs.Prelude.{◌==◌}
use Rattle.std.proofs.lemmas.Bool.Decides.{nat_tests}
use Rattle.std.proofs.lemmas.List.Folds.{list_any-append}
use Rattle.xd_run.specs.declared.seat.Seat.{Seat}
use Rattle.xd_run.specs.Table.{Table, held_by_all, in_rota, joined}
use Rattle.xd_session_rules.specs.Joining.{IsBare}

abbrev new_seat : ℕ → Seat
new_seat w = record { worker = w; held = []; shut = false }

-- another one joins
held-new : (ss : List Seat) (w : ℕ) → held_by_all (ss ++ new_seat w ∷ []) ≡ held_by_all ss
held-new [] w = refl
held-new (s ∷ ss) w = ap (λ xs. s.held ++ xs) (held-new ss w)

pub bare-joined : (w : ℕ) (t : Table) → IsBare t → IsBare (joined w t)
bare-joined w t bare = ap (λ xs. t.pool ++ (xs ++ t.reported)) (held-new t.rota w) ∙ bare

pub in-joined : (w : ℕ) (t : Table) → in_rota w (joined w t) ≡ true
in-joined w t = list_any-append (λ s. s.worker == w) t.rota (new_seat w ∷ []) ∙ grind (arith, nat_tests)
