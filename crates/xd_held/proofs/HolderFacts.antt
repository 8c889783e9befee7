-- Holders that are changed one after another.
use Rattle.std.proofs.Common.{◌≡◌, ℕ, ◌+◌, ◌<◌, true, false, not, ◌==◌, List, [], ◌∷◌, ◌++◌, length, take, drop, map, filter, refl, sym, ◌∙◌, ap, arith, get_or, if◌then◌else◌}
use Rattle.std.proofs.lemmas.List.{map-set, length-map, get_or-map}
use Rattle.std.proofs.Math.ListN.{set}
use Rattle.xd_run.specs.declared.seat.Seat.{Seat}
use Rattle.xd_run.specs.Table.{without_seat}
use Rattle.xd_run.proofs.Changed.{one_changed}
use Rattle.xd_held.specs.declared.holder.Holder.{Holder}
use Rattle.xd_held.specs.Holders.{seat_of_holder}

-- the first seats are changed, and so is the next one
pub seat_changed : (f : Seat → Seat) (xs ds : List Holder) (i : ℕ) (x y d : Holder) → map seat_of_holder ds ≡ map f (take i (map seat_of_holder xs)) ++ drop i (map seat_of_holder xs) → i < length xs → length ds ≡ length xs → x ≡ get_or ds i d → seat_of_holder y ≡ f (seat_of_holder x)
    → map seat_of_holder (set ds i y) ≡ map f (take (i + 1) (map seat_of_holder xs)) ++ drop (i + 1) (map seat_of_holder xs)
seat_changed f xs ds i x y d e lt same at is =
    let at_seat : seat_of_holder x ≡ get_or (map seat_of_holder ds) i (seat_of_holder x) = ap seat_of_holder at ∙ sym (get_or-map seat_of_holder ds i d (seat_of_holder x) (omega arith)) in
    map-set seat_of_holder ds i y ∙ one_changed f (map seat_of_holder xs) (map seat_of_holder ds) i (seat_of_holder x) (seat_of_holder y) (seat_of_holder x) e (omega (arith, length-map xs seat_of_holder)) at_seat is

pub left-seats : (w : ℕ) (ds : List Holder) → map seat_of_holder (filter (λ d. not (d.worker == w)) ds) ≡ without_seat w (map seat_of_holder ds)
left-seats w [] = refl
left-seats w (d ∷ ds) =
    let rest = left-seats w ds in
    elim (d.worker == w) as (λ b. map seat_of_holder (if not b then d ∷ filter (λ d. not (d.worker == w)) ds else filter (λ d. not (d.worker == w)) ds) ≡ (if not b then seat_of_holder d ∷ without_seat w (map seat_of_holder ds) else without_seat w (map seat_of_holder ds))) [
      | true ↦ rest
      | false ↦ ap (λ (l : List Seat). seat_of_holder d ∷ l) rest
    ]
