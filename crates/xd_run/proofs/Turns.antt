-- The moves of a turn keep the rota's workers, and go on one by one.
use Rattle.std.proofs.Common.{◌≡◌, ℕ, zero, suc, ◌+◌, ◌<◌, List, [], ◌∷◌, ◌++◌, take, length, get_or, true, refl, ap, sym, ◌∙◌, arith, map}
use Rattle.std.proofs.lemmas.List.{length-map, take_more}
use Rattle.std.specs.Prelude.{◌==◌, None}
use Rattle.std.specs.List.{list_any}
use Rattle.std.proofs.lemmas.Bool.Decides.{nat_tests}
use Rattle.xd_edge.specs.declared.mode.ModeKind.TheVariants.{Local}
use Rattle.xd_run.specs.declared.seat.Seat.{Seat}
use Rattle.xd_run.specs.Table.{Table, at_seat, workers_of, in_rota}
use Rattle.xd_run.specs.Plan.{Plan}
use Rattle.xd_run.specs.Turn.{Turn, in_turn, give, shut}

pub workers-at_seat : (w : ℕ) (items : List ℕ) (ss : List Seat) → map (λ s. s.worker) (at_seat w (λ s. record s { held = s.held ++ items }) ss) ≡ map (λ s. s.worker) ss
workers-at_seat w items [] = refl
workers-at_seat w items (s ∷ ss) = grind (arith, nat_tests, workers-at_seat w items ss)

pub workers-shut : (w : ℕ) (ss : List Seat) → map (λ s. s.worker) (at_seat w (λ s. record s { shut = true }) ss) ≡ map (λ s. s.worker) ss
workers-shut w [] = refl
workers-shut w (s ∷ ss) = grind (arith, nat_tests, workers-shut w ss)

pub workers-give : (w : ℕ) (items : List ℕ) (t : Turn) → workers_of (give w items t).table ≡ workers_of t.table
workers-give w [] t = refl
workers-give w (i ∷ is) t = workers-at_seat w (i ∷ is) t.table.rota

pub workers-shut_turn : (w : ℕ) (t : Turn) → workers_of (shut w t).table ≡ workers_of t.table
workers-shut_turn w t = grind (arith, nat_tests, workers-shut w t.table.rota)

-- some plan: what a move does to the table is the same by each
abbrev pub some_plan : Plan
some_plan = record { mode = Local; chunk = None; reorder = true; sizes = []; queue = []; given = []; steal = None }

pub in_turn-more : (f : ℕ → Turn → Turn) (ws : List ℕ) (w : ℕ) (t : Turn) → in_turn f (ws ++ w ∷ []) t ≡ f w (in_turn f ws t)
in_turn-more f [] w t = refl
in_turn-more f (v ∷ ws) w t = in_turn-more f ws w (f v t)

pub in_rota-found : (w : ℕ) (ss : List Seat) (k : ℕ) → k < length ss → get_or (map (λ s. s.worker) ss) k 0 ≡ w → list_any (λ s. s.worker == w) ss ≡ true
in_rota-found w [] k h e = absurd (omega arith)
in_rota-found w (s ∷ ss) zero h e = grind (arith, nat_tests)
in_rota-found w (s ∷ ss) (suc k) h e = grind (arith, nat_tests, in_rota-found w ss k)

pub in_turn-one_more : (f : ℕ → Turn → Turn) (ws : List ℕ) (k : ℕ) (t : Turn) → k < length ws → in_turn f (take (k + 1) ws) t ≡ f (get_or ws k 0) (in_turn f (take k ws) t)
in_turn-one_more f ws k t h = ap (λ vs. in_turn f vs t) (take_more ws k 0 h) ∙ in_turn-more f (take k ws) (get_or ws k 0) t

pub in_rota-at : (t : Table) (k : ℕ) → k < length (workers_of t) → in_rota (get_or (workers_of t) k 0) t ≡ true
in_rota-at t k h = in_rota-found (get_or (workers_of t) k 0) t.rota k (omega (arith, length-map t.rota (λ s. s.worker))) refl

pub one_more : (f : ℕ → Turn → Turn) (w k : ℕ) (ws : List ℕ) (t u v : Turn) → v ≡ f w u → u ≡ in_turn f (take k ws) t → w ≡ get_or ws k 0 → k < length ws → v ≡ in_turn f (take (k + 1) ws) t
one_more f w k ws t u v a b e h = let m = in_turn-one_more f ws k t h in cc

pub in_turn-append : (f : ℕ → Turn → Turn) (ws vs : List ℕ) (t : Turn) → in_turn f (ws ++ vs) t ≡ in_turn f vs (in_turn f ws t)
in_turn-append f [] vs t = refl
in_turn-append f (w ∷ ws) vs t = in_turn-append f ws vs (f w t)

-- who is in the rota goes by its workers alone

in_workers : (w : ℕ) (ss : List Seat) → list_any (λ s. s.worker == w) ss ≡ list_any (λ v. v == w) (map (λ s. s.worker) ss)
in_workers w [] = refl
in_workers w (s ∷ ss) = grind (arith, nat_tests, in_workers w ss)

pub in_rota-same : (w : ℕ) (t u : Table) → workers_of t ≡ workers_of u → in_rota w t ≡ in_rota w u
in_rota-same w t u e = in_workers w t.rota ∙ ap (λ vs. list_any (λ v. v == w) vs) e ∙ sym (in_workers w u.rota)
