-- What is read of the parts that a reporter keeps is what is read of the state.
use Rattle.std.proofs.Common.{◌≡◌, ℕ, ◌+◌, ◌==◌, true, false, not, List, [], ◌∷◌, map, take, sum, refl, sym, ◌∙◌, ap, zero-add, if◌then◌else◌}
use Rattle.xd_run.specs.declared.seat.Seat.{Seat}
use Rattle.xd_run.specs.Plan.{Plan, base, is_each, items_named}
use Rattle.xd_run.specs.Table.{at_seat, held_in, without_seat}
use Rattle.xd_held.specs.declared.holder.Holder.{Holder}
use Rattle.xd_held.specs.Holders.{seat_of_holder}
use Rattle.xd_report.specs.Follows.{bare_seat}

pub held_kept : (w : ℕ) (ss : List Seat) → held_in w (map bare_seat ss) ≡ held_in w ss
held_kept w [] = refl
held_kept w (s ∷ ss) = ap (λ l. if s.worker == w then s.held else l) (held_kept w ss)

-- a change of what a worker holds
pub change_kept : (w : ℕ) (change : Seat → Seat) (ss : List Seat) → ((s : Seat) → bare_seat (change s) ≡ change (bare_seat s)) → map bare_seat (at_seat w change ss) ≡ at_seat w change (map bare_seat ss)
change_kept w change [] same = refl
change_kept w change (s ∷ ss) same =
    let rest = change_kept w change ss same in
    elim (s.worker == w) as (λ b. bare_seat (if b then change s else s) ∷ map bare_seat (at_seat w change ss) ≡ (if b then change (bare_seat s) else bare_seat s) ∷ at_seat w change (map bare_seat ss)) [
      | true ↦ ap (λ (x : Seat). x ∷ map bare_seat (at_seat w change ss)) (same s) ∙ ap (λ (l : List Seat). change (bare_seat s) ∷ l) rest
      | false ↦ ap (λ (l : List Seat). bare_seat s ∷ l) rest
    ]

-- a change that is not kept
pub change_not_kept : (w : ℕ) (change : Seat → Seat) (ss : List Seat) → ((s : Seat) → bare_seat (change s) ≡ bare_seat s) → map bare_seat (at_seat w change ss) ≡ map bare_seat ss
change_not_kept w change [] same = refl
change_not_kept w change (s ∷ ss) same =
    let rest = change_not_kept w change ss same in
    elim (s.worker == w) as (λ b. bare_seat (if b then change s else s) ∷ map bare_seat (at_seat w change ss) ≡ bare_seat s ∷ map bare_seat ss) [
      | true ↦ ap (λ (x : Seat). x ∷ map bare_seat (at_seat w change ss)) (same s) ∙ ap (λ (l : List Seat). bare_seat s ∷ l) rest
      | false ↦ ap (λ (l : List Seat). bare_seat s ∷ l) rest
    ]

pub without_kept : (w : ℕ) (ss : List Seat) → map bare_seat (without_seat w ss) ≡ without_seat w (map bare_seat ss)
without_kept w [] = refl
without_kept w (s ∷ ss) =
    let rest = without_kept w ss in
    elim (s.worker == w) as (λ b. map bare_seat (if not b then s ∷ without_seat w ss else without_seat w ss) ≡ (if not b then bare_seat s ∷ without_seat w (map bare_seat ss) else without_seat w (map bare_seat ss))) [
      | true ↦ rest
      | false ↦ ap (λ (l : List Seat). bare_seat s ∷ l) rest
    ]

-- what stands of the seats after a change
pub changed_kept : (w : ℕ) (change : Seat → Seat) (ss : List Seat) (old new : List Holder) → ((s : Seat) → bare_seat (change s) ≡ change (bare_seat s)) → map bare_seat ss ≡ map seat_of_holder old → map seat_of_holder new ≡ at_seat w change (map seat_of_holder old) → map bare_seat (at_seat w change ss) ≡ map seat_of_holder new
changed_kept w change ss old new same before now = change_kept w change ss same ∙ ap (at_seat w change) before ∙ sym now

pub left_kept : (w : ℕ) (ss : List Seat) (old new : List Holder) → map bare_seat ss ≡ map seat_of_holder old → map seat_of_holder new ≡ without_seat w (map seat_of_holder old) → map bare_seat (without_seat w ss) ≡ map seat_of_holder new
left_kept w ss old new before now = without_kept w ss ∙ ap (without_seat w) before ∙ sym now

none_more : (xs : List ℕ) → map (λ n. 0 + n) xs ≡ xs
none_more [] = refl
none_more (x ∷ xs) = rw (zero-add x, none_more xs) refl

-- the items that a worker calls by these numbers
pub named : (slot : ℕ) (xs : List ℕ) (p : Plan) → map (λ n. base slot p + n) xs ≡ items_named slot xs p
named slot xs p =
    elim (is_each p.mode) as (λ b. map (λ n. (if b then sum (take slot p.sizes) else 0) + n) xs ≡ (if b then map (λ n. (if b then sum (take slot p.sizes) else 0) + n) xs else xs)) [
      | true ↦ refl
      | false ↦ none_more xs
    ]
