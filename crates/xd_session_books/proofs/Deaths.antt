-- Deaths of workers that have no seat, and changes of seats.
use Rattle.std.proofs.Common.{◌≡◌, ℕ, drop, List, [], ◌∷◌, ◌++◌, length, refl, ap, sym, ◌∙◌, arith, Bool, true, false}
use Rattle.std.specs.Prelude.{if◌then◌else◌, ◌==◌}
use Rattle.std.specs.List.{list_any}
use Rattle.std.proofs.lemmas.Bool.Decides.{nat_tests}
use Rattle.xd_run.specs.declared.seat.Seat.{Seat}
use Rattle.xd_run.specs.Numbers.{all_among, among, without}
use Rattle.xd_run.specs.Table.{Table, at_seat, crash_item, died, given_back, held, held_in, in_rota, retried_item}
use Rattle.xd_run_laws.proofs.Logic.{differ, split-and}
use Rattle.xd_run_laws.proofs.Rota.{seat-of_held}
use Rattle.xd_ledger.proofs.Seats.{no_seat-kept, no_seat-of_any}

append-none : (xs : List ℕ) → xs ≡ xs ++ []
append-none [] = refl
append-none (x ∷ xs) = ap (λ ys. x ∷ ys) (append-none xs)

pub no_seat-held : (w : ℕ) (ss : List Seat) → list_any (λ s. s.worker == w) ss ≡ false → held_in w ss ≡ []
no_seat-held w [] h = refl
no_seat-held w (s ∷ ss) h = grind (arith, nat_tests, no_seat-held w ss)

-- a death of whoever held nothing moves nothing
none-dead : (retry : Bool) (t : Table) → t ≡ record t { pool = retried_item retry [] ++ (t.pool ++ []); reported = t.reported ++ crash_item retry [] }
none-dead true t =
    let pools : List ℕ → Table = λ xs. record t { pool = xs } in
    let reports : List ℕ → Table = λ xs. record t { pool = t.pool ++ []; reported = xs } in
    ap pools (append-none t.pool) ∙ ap reports (append-none t.reported)
none-dead false t =
    let pools : List ℕ → Table = λ xs. record t { pool = xs } in
    let reports : List ℕ → Table = λ xs. record t { pool = t.pool ++ []; reported = xs } in
    ap pools (append-none t.pool) ∙ ap reports (append-none t.reported)

pub no_seat-dead : (w : ℕ) (retry : Bool) (t : Table) → in_rota w t ≡ false → t ≡ died w retry t
no_seat-dead w retry t h =
    let none = no_seat-held w t.rota h in
    let k = no_seat-kept w t.rota (no_seat-of_any w t.rota h) in
    let f : List ℕ → Table = λ hs. record t { pool = retried_item retry hs ++ (t.pool ++ drop 1 hs); reported = t.reported ++ crash_item retry hs } in
    let g : List Seat → Table = λ ss. record (f (held w t)) { rota = ss } in
    none-dead retry t ∙ ap f (sym none) ∙ ap g (sym k)

pub rota-changed : (w v : ℕ) (f : Seat → Seat) (ss : List Seat) → ((s : Seat) → (f s).worker ≡ s.worker) → list_any (λ s. s.worker == w) (at_seat v f ss) ≡ list_any (λ s. s.worker == w) ss
rota-changed w v f [] h = refl
rota-changed w v f (s ∷ ss) h = (let e = h s in let ih = rota-changed w v f ss h in grind (arith, nat_tests))

-- tests that are given back

without-none : (xs : List ℕ) → xs ≡ without [] xs
without-none [] = refl
without-none (x ∷ xs) = ap (λ ys. x ∷ ys) (without-none xs)

seats-none : (w : ℕ) (ss : List Seat) → ss ≡ at_seat w (λ s. record s { held = without [] s.held }) ss
seats-none w [] = refl
seats-none w (s ∷ ss) = seat-none (s.worker == w) ∙ ap (λ rest. (if s.worker == w then record s { held = without [] s.held } else s) ∷ rest) (seats-none w ss)
  where
    seat-none : (b : Bool) → s ∷ ss ≡ (if b then record s { held = without [] s.held } else s) ∷ ss
    seat-none true = ap (λ hs. record s { held = hs } ∷ ss) (without-none s.held)
    seat-none false = refl

-- none is no change
pub none-back : (w : ℕ) (items : List ℕ) (t : Table) → items ≡ [] → t ≡ given_back w items t
none-back w items t h =
    let pools : List ℕ → Table = λ xs. record t { pool = xs } in
    let seats : List Seat → Table = λ ss. record t { pool = t.pool ++ []; rota = ss } in
    ap pools (append-none t.pool) ∙ ap seats (seats-none w t.rota) ∙ ap (λ is. given_back w is t) (sym h)

-- whoever holds some of them is in the rota
pub some-seat : (w : ℕ) (items : List ℕ) (t : Table) → (length items == 0) ≡ false → all_among items (held w t) ≡ true → in_rota w t ≡ true
some-seat w [] t n h = absurd (differ (sym n))
some-seat w (i ∷ is) t n h = seat-of_held w t.rota i (split-and (among i (held w t)) (all_among is (held w t)) h).0
