-- The turns of the modes with scopes are in order.
use Rattle.std.proofs.Common.{◌≡◌, ℕ, zero, suc, ◌≤◌, List, [], ◌∷◌, ◌++◌, take, drop, length, reverse, true, false, ◌||◌, refl, ap, sym, ◌∙◌, subst, arith}
use Rattle.std.specs.Prelude.{if◌then◌else◌, ◌==◌, nat_lt}
use Rattle.std.proofs.lemmas.Bool.Decides.{nat_tests}
use Rattle.std.proofs.lemmas.List.{reverse-append}
use Rattle.xd_journal.specs.declared.entry.Entry.TheVariants.{Run, Shutdown}
use Rattle.xd_run.specs.Numbers.{among, all_distinct, all_among, times}
use Rattle.xd_run.specs.Table.{Table, held, seat_shut, workers_of, assigned, shut_down}
use Rattle.xd_run.specs.Plan.{Plan, is_each, is_scope}
use Rattle.xd_run.specs.Turn.{Turn, shut, in_turn, shut_each}
use Rattle.xd_run.specs.Units.{unit_handed}
use Rattle.xd_run.specs.ScopeModes.{give_unit, give_more, scope_refill, scope_refill_all, shut_where_spent, scope_share}
use Rattle.xd_run.specs.Turn.{enough}
use Rattle.xd_run.specs.Workers.{slot_of}
use Rattle.xd_run.specs.Sharing.{State}
use Rattle.xd_run.specs.Handing.{run_plan}
use Rattle.xd_run.specs.State.{after_entries}
use Rattle.xd_run.specs.Outputs.{turn_of}
use Rattle.xd_run.specs.Orderly.{not_empty}
use Rattle.xd_run.specs.Suits.{tests_of_units}
use Rattle.xd_run.proofs.Handing.{give_unit-front, handed-front}
use Rattle.xd_run_laws.proofs.Logic.{differ, split-and, in_both}
use Rattle.xd_run_laws.proofs.Counts.{times-append, among-times, times-among, distinct-of_times, all_among-of, all_among-self, all_among-take, all_among-drop, among_of-all_among}
use Rattle.xd_run_laws.proofs.Rota.{told-change, workers-change}
use Rattle.xd_run_laws.proofs.Places.{times-table}
use Rattle.xd_run_laws.proofs.Turns.{Tidy, Good, InRota, in_rota-following, unshut-of, turn-once, orderly-run, named-plain, good-more, good-shut, in_turn-keeps}
use Rattle.xd_run_laws.proofs.Units.{none_empty}
use Rattle.xd_run_laws.proofs.Queue.{QueueFits, handed_out, queue-shut, queue-given}
use Rattle.xd_run_laws.proofs.EachTurns.{told-other, rota-distinct}

-- the mode keeps scopes together
pub record IsScoped (s : State) : Type 0 where
  pub scope : is_scope s.plan.mode ≡ true
  pub each : is_each s.plan.mode ≡ false

-- a turn in order whose queue fits its table
pub record Fine (s : State) (t : Turn) : Type 0 where
  pub good : Good s t
  pub queue : QueueFits t.table t.plan s.books.members

fine-shut : (s : State) (w : ℕ) (t : Turn) → InRota s w → Fine s t → Fine s (shut w t)
fine-shut s w t a f = record {
  good = good-shut s w t a f.good;
  queue = in_both (λ (u : Turn). QueueFits u.table u.plan s.books.members) (seat_shut w t.table) t (record t { table = shut_down w t.table; acts = t.acts ++ Shutdown w ∷ [] })
      (λ h. f.queue) (λ h. queue-shut t.table t.plan s.books.members w f.queue);
}

pub fine-shut_each : (s : State) (ws : List ℕ) (t : Turn) → all_among ws (workers_of s.books.table) ≡ true → Fine s t → Fine s (shut_each ws t)
fine-shut_each s ws t h f = in_turn-keeps (Fine s) shut (workers_of s.books.table) (fine-shut s) ws t h f

-- a unit is handed out

run-scope : (w : ℕ) (u : List ℕ) (p : Plan) → is_scope p.mode ≡ true → run_plan w u p ≡ unit_handed w u p
run-scope w u p h = rw h

plan-scope : (w : ℕ) (u : List ℕ) (us : List (List ℕ)) (p : Plan) → is_scope p.mode ≡ true → p.queue ≡ u ∷ us → run_plan w u p ≡ handed_out w u us p
plan-scope w u us p h e = run-scope w u p h ∙ handed-front w u us p e

-- the turn after the first unit
abbrev pub with_unit : ℕ → List ℕ → List (List ℕ) → Turn → Turn
with_unit w u us t = record { table = assigned w u t.table; plan = handed_out w u us t.plan; acts = t.acts ++ Run w u ∷ [] }

fine-unit : (s : State) (w : ℕ) (u : List ℕ) (us : List (List ℕ)) (t : Turn) → IsScoped s → InRota s w → Fine s t → seat_shut w t.table ≡ false → t.plan.queue ≡ u ∷ us → Fine s (with_unit w u us t)
fine-unit s w u us t k a f unshut e =
    let g = f.good in
    let m = after_entries s t.acts in
    let once = turn-once s t g in
    let within : (x : ℕ) → times x u ≤ times x t.table.pool = λ x.
    (let q : times x (u ++ tests_of_units us) ≤ times x t.table.pool = subst (λ (vs : List (List ℕ)). times x (tests_of_units vs) ≤ times x t.table.pool) e (f.queue.whole x) in omega (arith, q, times-append x u (tests_of_units us))) in
    let filled : not_empty u ≡ true = (split-and (not_empty u) (none_empty us) (ap none_empty (sym e) ∙ f.queue.filled)).0 in
    let distinct : all_distinct u ≡ true = distinct-of_times u (λ x. omega (arith, within x, once x, times-table x t.table)) in
    let inside : all_among u t.table.pool ≡ true = all_among-of u t.table.pool (λ x h. times-among x t.table.pool (omega (arith, within x, among-times x u h))) in
    let mode : m.plan.mode ≡ s.plan.mode = ap (λ (p : Plan). p.mode) g.plan ∙ g.mode in
    let each : is_each m.plan.mode ≡ false = ap is_each mode ∙ k.each in
    let rota = in_rota-following s t w g a in
    record {
      good = good-more s t (with_unit w u us t) (Run w u) g refl refl
          (orderly-run m w u each rota (unshut-of s t w g a unshut) filled distinct (ap (λ (v : Table). all_among u v.pool) g.table ∙ inside))
          (ap (λ (xs : List ℕ). assigned w xs m.books.table) (named-plain (slot_of w m.books) u m.plan each) ∙ ap (λ (v : Table). assigned w u v) g.table)
          (ap (λ (p : Plan). run_plan w u p) g.plan ∙ plan-scope w u us t.plan (ap is_scope g.mode ∙ k.scope) e)
          (workers-change w (λ s. record s { held = s.held ++ u }) t.table.rota (λ s. refl)) refl;
      queue = queue-given t.table t.plan s.books.members w u us once (sym (g.kin.collected_same w) ∙ g.tidy.placed.fits.collected w rota) e f.queue;
    }

pub unit-none : (w : ℕ) (t : Turn) → t.plan.queue ≡ [] → give_unit w t ≡ t
unit-none w t e = rw e refl

-- what holds after a unit that is handed out
pub unit-by : (P : Turn → Type 0) (w : ℕ) (t : Turn) → P t → ((u : List ℕ) (us : List (List ℕ)) → t.plan.queue ≡ u ∷ us → P (with_unit w u us t)) → P (give_unit w t)
unit-by P w t p k = by t.plan.queue refl
  where
    by : (q : List (List ℕ)) → t.plan.queue ≡ q → P (give_unit w t)
    by [] e = subst P (sym (unit-none w t e)) p
    by (u ∷ us) e = subst P (sym (give_unit-front w u us t e)) (k u us e)

pub fine-give_unit : (s : State) (w : ℕ) (t : Turn) → IsScoped s → InRota s w → Fine s t → seat_shut w t.table ≡ false → Fine s (give_unit w t)
fine-give_unit s w t k a f unshut = unit-by (Fine s) w t f (λ u us e. fine-unit s w u us t k a f unshut e)

pub told-give_unit : (v w : ℕ) (t : Turn) → seat_shut v (give_unit w t).table ≡ seat_shut v t.table
told-give_unit v w t = unit-by (λ (u : Turn). seat_shut v u.table ≡ seat_shut v t.table) w t refl
    (λ u us e. told-change v w (λ s. record s { held = s.held ++ u }) t.table.rota (λ s. refl) (λ s. refl))

-- a worker is refilled

fine-give_more : (s : State) (n w : ℕ) (t : Turn) → IsScoped s → InRota s w → Fine s t → seat_shut w t.table ≡ false → Fine s (give_more n w t)
fine-give_more s zero w t k a f unshut = f
fine-give_more s (suc n) w t k a f unshut = in_both (Fine s) (nat_lt (length (held w t.table)) enough) (give_more n w (give_unit w t)) t
    (λ h. fine-give_more s n w (give_unit w t) k a (fine-give_unit s w t k a f unshut) (told-give_unit w w t ∙ unshut)) (λ h. f)

refill-by : (s : State) (w : ℕ) (q : List (List ℕ)) (t : Turn) → IsScoped s → InRota s w → Fine s t → seat_shut w t.table ≡ false
    → Fine s (elim q as (λ _. Turn) [ [] ↦ shut w t | u ∷ us ↦ (if nat_lt enough (length (held w t.table)) then t else give_more enough w (give_unit w t)) ])
refill-by s w [] t k a f unshut = fine-shut s w t a f
refill-by s w (u ∷ us) t k a f unshut = in_both (Fine s) (nat_lt enough (length (held w t.table))) t (give_more enough w (give_unit w t)) (λ h. f)
    (λ h. fine-give_more s enough w (give_unit w t) k a (fine-give_unit s w t k a f unshut) (told-give_unit w w t ∙ unshut))

pub fine-refill : (s : State) (w : ℕ) (t : Turn) → IsScoped s → InRota s w → Fine s t → Fine s (scope_refill w t)
fine-refill s w t k a f =
    in_both (Fine s) (seat_shut w t.table) t (elim t.plan.queue as (λ _. Turn) [ [] ↦ shut w t | u ∷ us ↦ (if nat_lt enough (length (held w t.table)) then t else give_more enough w (give_unit w t)) ])
    (λ h. f) (λ h. refill-by s w t.plan.queue t k a f h)

fine-refills : (s : State) (ws : List ℕ) (t : Turn) → IsScoped s → all_among ws (workers_of s.books.table) ≡ true → Fine s t → Fine s (in_turn scope_refill ws t)
fine-refills s ws t k h f = in_turn-keeps (Fine s) scope_refill (workers_of s.books.table) (λ w u a g. fine-refill s w u k a g) ws t h f

pub fine-refill_all : (s : State) → IsScoped s → Fine s (turn_of s) → Fine s (scope_refill_all (turn_of s))
fine-refill_all s k f = fine-refills s (workers_of s.books.table) (turn_of s) k (all_among-self (workers_of s.books.table)) f

-- the share

spent-by : (s : State) (q : List (List ℕ)) (t : Turn) → Fine s t → Fine s (elim q as (λ _. Turn) [ [] ↦ shut_each (workers_of t.table) t | u ∷ us ↦ t ])
spent-by s [] t f = fine-shut_each s (workers_of t.table) t (ap (λ (ws : List ℕ). all_among ws (workers_of s.books.table)) f.good.rota ∙ all_among-self (workers_of s.books.table)) f
spent-by s (u ∷ us) t f = f

-- a turn in which those may still be told
pub record FineFor (s : State) (ws : List ℕ) (t : Turn) : Type 0 where
  pub fine : Fine s t
  pub untold : (v : ℕ) → among v ws ≡ true → seat_shut v t.table ≡ false

pub fine-units : (s : State) (ws : List ℕ) (t : Turn) → IsScoped s → all_among ws (workers_of s.books.table) ≡ true → FineFor s ws t → FineFor s ws (in_turn give_unit ws t)
fine-units s ws t k h f =
    in_turn-keeps (FineFor s ws) give_unit ws
    (λ w u a g. record {
      fine = fine-give_unit s w u k (among_of-all_among w ws (workers_of s.books.table) h a) g.fine (g.untold w a);
      untold = λ v b. told-give_unit v w u ∙ g.untold v b;
    }) ws t (all_among-self ws) f

pub told-others : (v : ℕ) (ws : List ℕ) (t : Turn) → among v ws ≡ false → seat_shut v (shut_each ws t).table ≡ seat_shut v t.table
told-others v [] t h = refl
told-others v (w ∷ ws) t h =
    let other : (v == w) ≡ false = grind (arith, nat_tests, h) in
    told-others v ws (shut w t) (grind (arith, nat_tests, h)) ∙ told-other v w t other

among-join : (x : ℕ) (xs ys : List ℕ) → among x (xs ++ ys) ≡ (among x xs || among x ys)
among-join x [] ys = refl
among-join x (y ∷ xs) ys = grind (arith, nat_tests, among-join x xs ys)

pub among-reverse : (x : ℕ) (xs : List ℕ) → among x (reverse xs) ≡ among x xs
among-reverse x [] = refl
among-reverse x (y ∷ xs) = ap (λ (zs : List ℕ). among x zs) (reverse-append (y ∷ []) xs) ∙ among-join x (reverse xs) (y ∷ []) ∙ grind (arith, nat_tests, among-reverse x xs)

-- whoever stands in front does not stand again
pub front-only : (v n : ℕ) (ws : List ℕ) → all_distinct ws ≡ true → among v (take n ws) ≡ true → among v (drop n ws) ≡ false
front-only v zero ws d h = absurd (differ h)
front-only v (suc n) [] d h = absurd (differ h)
front-only v (suc n) (w ∷ ws) d h = grind (arith, nat_tests, d, h, front-only v n ws, following v n ws)
  where
    following : (v n : ℕ) (ws : List ℕ) → among v ws ≡ false → among v (drop n ws) ≡ false
    following v zero ws h = h
    following v (suc n) [] h = h
    following v (suc n) (w ∷ ws) h = following v n ws (grind (arith, nat_tests, h))

share-by : (s : State) (pool : List ℕ) (t : Turn) (shared : Turn) → Fine s t → Fine s shared → Fine s (elim pool as (λ _. Turn) [ [] ↦ t | x ∷ xs ↦ shared ])
share-by s [] t u f g = f
share-by s (x ∷ xs) t u f g = g

pub fine-share : (s : State) → IsScoped s → Tidy s → ((v : ℕ) → InRota s v → seat_shut v s.books.table ≡ false) → Fine s (turn_of s) → Fine s (scope_share (turn_of s))
fine-share s k d unshut f =
    let t = turn_of s in
    let n = length t.plan.queue in
    let ws = workers_of s.books.table in
    let front = take n ws in
    let back = reverse (drop n ws) in
    let preceding = all_among-take n ws in
    let following : all_among back ws ≡ true = all_among-of back ws (λ x h. among_of-all_among x (drop n ws) ws (all_among-drop n (drop n ws) ws (all_among-self (drop n ws))) (sym (among-reverse x (drop n ws)) ∙ h)) in
    let first = shut_each back t in
    let untold : (v : ℕ) → among v front ≡ true → seat_shut v first.table ≡ false = λ v h.
    told-others v back t (among-reverse v (drop n ws) ∙ front-only v n ws (rota-distinct s d) h) ∙ unshut v (among_of-all_among v front ws preceding h) in
    let units = fine-units s front first k preceding (record { fine = fine-shut_each s back t following f; untold = untold }) in
    let last = in_turn scope_refill front (in_turn give_unit front first) in
    share-by s t.table.pool t (shut_where_spent last) f (spent-by s last.plan.queue last (fine-refills s front (in_turn give_unit front first) k preceding units.fine))
