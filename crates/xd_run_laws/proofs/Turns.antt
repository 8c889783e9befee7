-- What a turn of a mode computes is what its outputs do to the state, and each of them is in order.
use Rattle.std.proofs.Common.{◌≡◌, ℕ, List, [], ◌∷◌, ◌++◌, take, Bool, true, false, not, ◌&&◌, refl, ap, sym, ◌∙◌, subst, arith, ◌||◌}
use Rattle.std.proofs.lemmas.Grind.{fold-append}
use Rattle.xd_edge.specs.declared.mode.ModeKind.{ModeKind}
use Rattle.xd_journal.specs.declared.entry.Entry.{Entry}
use Rattle.xd_journal.specs.declared.entry.Entry.TheVariants.{Ready, Collected, Done, Back, Finished, Refused, Down, NotStarted, Start, Run, RunAll, Steal, Shutdown, Kill, Over}
use Rattle.xd_run.specs.Numbers.{among, all_distinct, all_among}
use Rattle.xd_run.specs.Table.{Table, in_rota, seat_shut, workers_of, assigned, shut_down}
use Rattle.xd_run.specs.Plan.{Plan, items_named, is_each, is_scope}
use Rattle.xd_run.specs.Turn.{Turn, give, give_front, shut, in_turn, shut_each, shut_where_empty}
use Rattle.xd_run.specs.Workers.{is_active, was_ready, is_shut, slot_of}
use Rattle.xd_run.specs.Sharing.{State}
use Rattle.xd_run.specs.Handing.{run_plan}
use Rattle.xd_run.specs.State.{after_effect, after_entry, after_entries}
use Rattle.xd_run.specs.Outputs.{turn_of}
use Rattle.xd_run.specs.Orderly.{is_orderly, all_orderly, not_empty}
use Rattle.xd_run.specs.Stops.{is_stopped}
use Rattle.xd_run_laws.proofs.Members.{has}
use Rattle.xd_run_laws.proofs.Logic.{or-right, differ, split-and, and, in_both}
use Rattle.xd_run_laws.proofs.Counts.{distinct-take, all_among-take, all_among-self, distinct-of_times}
use Rattle.xd_run_laws.proofs.Rota.{seat-among, workers-change}
use Rattle.xd_run_laws.proofs.Places.{AtMostOnce, times-table}
use Rattle.xd_run_laws.proofs.Placed.{Placed, placed-output, at_most_once}
use Rattle.xd_run_laws.proofs.MembersFit.{MembersFit, Kin, kin-same, kin-then, kin-shut, members-shut}

-- a run is shutting only once the tests are shared, and before a stop and the share nobody is told to shut down
pub record Calm (s : State) : Type 0 where
  pub late : s.books.shutting ≡ true → s.books.shared ≡ true
  pub unshut : is_stopped s.books ≡ false → s.books.shared ≡ false → (v : ℕ) → has v (λ m. m.shut) s.books.members ≡ false

-- what holds of every state of a run
pub record Tidy (s : State) : Type 0 where
  pub placed : Placed s
  pub members : MembersFit s.books.members s.books.settings.workers
  pub calm : Calm s

-- workers may be told to shut down: after a stop or the share
abbrev pub MayShut : State → Type 0
MayShut s = (is_stopped s.books || s.books.shared) ≡ true

-- lists of outputs

pub next-output : (s : State) (e : Entry) → is_orderly s e ≡ true → after_entry s e ≡ after_effect s e
next-output s (Start w slot) h = refl
next-output s (Run w is) h = refl
next-output s (RunAll w) h = refl
next-output s (Steal w is) h = refl
next-output s (Shutdown w) h = refl
next-output s (Kill w) h = refl
next-output s (Over how) h = refl
next-output s (Ready w) h = absurd (differ h)
next-output s (Collected w g) h = absurd (differ h)
next-output s (Done w i u m o) h = absurd (differ h)
next-output s (Back w i) h = absurd (differ h)
next-output s (Finished w) h = absurd (differ h)
next-output s (Refused w t) h = absurd (differ h)
next-output s (Down w c o) h = absurd (differ h)
next-output s (NotStarted w) h = absurd (differ h)

pub after_entries-first : (s : State) (e : Entry) (es : List Entry) → is_orderly s e ≡ true → after_entries s (e ∷ es) ≡ after_entries (after_effect s e) es
after_entries-first s e es h = ap (λ (u : State). after_entries u es) (next-output s e h)

pub after_entries-join : (s : State) (xs ys : List Entry) → after_entries s (xs ++ ys) ≡ after_entries (after_entries s xs) ys
after_entries-join s xs ys = fold-append after_entry s xs ys

pub after_entries-more : (s : State) (es : List Entry) (e : Entry) → is_orderly (after_entries s es) e ≡ true → after_entries s (es ++ e ∷ []) ≡ after_effect (after_entries s es) e
after_entries-more s es e h = after_entries-join s es (e ∷ []) ∙ next-output (after_entries s es) e h

pub all_orderly-join : (s : State) (xs ys : List Entry) → all_orderly s xs ≡ true → all_orderly (after_entries s xs) ys ≡ true → all_orderly s (xs ++ ys) ≡ true
all_orderly-join s [] ys a b = b
all_orderly-join s (x ∷ xs) ys a b =
    let p = split-and (is_orderly s x) (all_orderly (after_effect s x) xs) a in
    and p.0 (all_orderly-join (after_effect s x) xs ys p.1 (subst (λ (u : State). all_orderly u ys ≡ true) (after_entries-first s x xs p.0) b))

-- an output that starts no one
abbrev pub is_quiet : Entry → Bool
is_quiet (Start w slot) = false
is_quiet _ = true

kin-quiet : (s : State) (e : Entry) → is_quiet e ≡ true → is_orderly s e ≡ true → Kin s.books.members (after_effect s e).books.members
kin-quiet s (Start w slot) a h = absurd (differ a)
kin-quiet s (Run w is) a h = kin-same s.books.members
kin-quiet s (RunAll w) a h = kin-same s.books.members
kin-quiet s (Steal w is) a h = kin-same s.books.members
kin-quiet s (Shutdown w) a h = kin-shut w s.books.members
kin-quiet s (Kill w) a h = kin-same s.books.members
kin-quiet s (Over how) a h = kin-same s.books.members
kin-quiet s (Ready w) a h = absurd (differ h)
kin-quiet s (Collected w g) a h = absurd (differ h)
kin-quiet s (Done w i u m o) a h = absurd (differ h)
kin-quiet s (Back w i) a h = absurd (differ h)
kin-quiet s (Finished w) a h = absurd (differ h)
kin-quiet s (Refused w t) a h = absurd (differ h)
kin-quiet s (Down w c o) a h = absurd (differ h)
kin-quiet s (NotStarted w) a h = absurd (differ h)

fixed-output : (s : State) (e : Entry) → is_orderly s e ≡ true → ((after_effect s e).books.settings ≡ s.books.settings) × ((after_effect s e).books.shared ≡ s.books.shared)
fixed-output s (Start w slot) h = (refl, refl)
fixed-output s (Run w is) h = (refl, refl)
fixed-output s (RunAll w) h = (refl, refl)
fixed-output s (Steal w is) h = (refl, refl)
fixed-output s (Shutdown w) h = (refl, refl)
fixed-output s (Kill w) h = (refl, refl)
fixed-output s (Over how) h = (refl, refl)
fixed-output s (Ready w) h = absurd (differ h)
fixed-output s (Collected w g) h = absurd (differ h)
fixed-output s (Done w i u m o) h = absurd (differ h)
fixed-output s (Back w i) h = absurd (differ h)
fixed-output s (Finished w) h = absurd (differ h)
fixed-output s (Refused w t) h = absurd (differ h)
fixed-output s (Down w c o) h = absurd (differ h)
fixed-output s (NotStarted w) h = absurd (differ h)

members-shutdown : (s : State) (w : ℕ) → is_orderly s (Shutdown w) ≡ true → MembersFit s.books.members s.books.settings.workers → MembersFit (after_effect s (Shutdown w)).books.members s.books.settings.workers
members-shutdown s w h c =
    let a = split-and (is_active w s.books && was_ready w s.books) (not (is_shut w s.books)) h in
    members-shut s.books.members s.books.settings.workers w c (split-and (is_active w s.books) (was_ready w s.books) a.0).1

unstopped-shared : (a b : Bool) → (a || b) ≡ true → a ≡ false → b ≡ false → ⊥
unstopped-shared true b h k l = differ (sym k)
unstopped-shared false b h k l = differ (sym l ∙ h)

calm-shutdown : (s : State) (w : ℕ) → MayShut s → Calm s → Calm (after_effect s (Shutdown w))
calm-shutdown s w p c = record { late = c.late; unshut = λ a b v. absurd (unstopped-shared (is_stopped s.books) s.books.shared p a b) }

pub tidy-quiet : (s : State) (e : Entry) → is_quiet e ≡ true → is_orderly s e ≡ true → MayShut s → Tidy s → Tidy (after_effect s e)
tidy-quiet s (Start w slot) a h p d = absurd (differ a)
tidy-quiet s (Run w is) a h p d = record { placed = placed-output s (Run w is) h d.placed; members = d.members; calm = record { late = d.calm.late; unshut = d.calm.unshut } }
tidy-quiet s (RunAll w) a h p d = record { placed = placed-output s (RunAll w) h d.placed; members = d.members; calm = record { late = d.calm.late; unshut = d.calm.unshut } }
tidy-quiet s (Steal w is) a h p d = record { placed = placed-output s (Steal w is) h d.placed; members = d.members; calm = record { late = d.calm.late; unshut = d.calm.unshut } }
tidy-quiet s (Shutdown w) a h p d = record { placed = placed-output s (Shutdown w) h d.placed; members = members-shutdown s w h d.members; calm = calm-shutdown s w p d.calm }
tidy-quiet s (Kill w) a h p d = d
tidy-quiet s (Over how) a h p d = d
tidy-quiet s (Ready w) a h p d = absurd (differ h)
tidy-quiet s (Collected w g) a h p d = absurd (differ h)
tidy-quiet s (Done w i u m o) a h p d = absurd (differ h)
tidy-quiet s (Back w i) a h p d = absurd (differ h)
tidy-quiet s (Finished w) a h p d = absurd (differ h)
tidy-quiet s (Refused w t) a h p d = absurd (differ h)
tidy-quiet s (Down w c o) a h p d = absurd (differ h)
tidy-quiet s (NotStarted w) a h p d = absurd (differ h)

-- a turn that follows a tidy state, so far in order
pub record Good (s : State) (t : Turn) : Type 0 where
  pub table : (after_entries s t.acts).books.table ≡ t.table
  pub plan : (after_entries s t.acts).plan ≡ t.plan
  pub orderly : all_orderly s t.acts ≡ true
  pub tidy : Tidy (after_entries s t.acts)
  pub kin : Kin s.books.members (after_entries s t.acts).books.members
  pub rota : workers_of t.table ≡ workers_of s.books.table
  pub mode : t.plan.mode ≡ s.plan.mode
  pub settings : (after_entries s t.acts).books.settings ≡ s.books.settings
  pub shared : (after_entries s t.acts).books.shared ≡ true

pub good-first : (s : State) → Tidy s → s.books.shared ≡ true → Good s (turn_of s)
good-first s d h = record { table = refl; plan = refl; orderly = refl; tidy = d; kin = kin-same s.books.members; rota = refl; mode = refl; settings = refl; shared = h }

-- the worker is in the rota
abbrev pub InRota : State → ℕ → Type 0
InRota s w = among w (workers_of s.books.table) ≡ true

pub in_rota-of : (s : State) (t : Turn) (w : ℕ) → Good s t → InRota s w → in_rota w t.table ≡ true
in_rota-of s t w g a = seat-among w t.table.rota ∙ ap (λ (ws : List ℕ). among w ws) g.rota ∙ a

pub in_rota-following : (s : State) (t : Turn) (w : ℕ) → Good s t → InRota s w → in_rota w (after_entries s t.acts).books.table ≡ true
in_rota-following s t w g a = ap (λ (u : Table). in_rota w u) g.table ∙ in_rota-of s t w g a

-- both marks of a Shutdown agree
pub unshut-of : (s : State) (t : Turn) (w : ℕ) → Good s t → InRota s w → seat_shut w t.table ≡ false → is_shut w (after_entries s t.acts).books ≡ false
unshut-of s t w g a h = g.tidy.placed.fits.marks w (in_rota-following s t w g a) ∙ ap (λ (u : Table). seat_shut w u) g.table ∙ h

pub pool-distinct : (s : State) → Placed s → all_distinct s.books.table.pool ≡ true
pool-distinct s k = distinct-of_times s.books.table.pool (λ x. omega (arith, at_most_once s k x, times-table x s.books.table))

pub turn-once : (s : State) (t : Turn) → Good s t → AtMostOnce t.table
turn-once s t g = subst AtMostOnce g.table (at_most_once (after_entries s t.acts) g.tidy.placed)

pub turn-distinct : (s : State) (t : Turn) → Good s t → all_distinct t.table.pool ≡ true
turn-distinct s t g = ap (λ (u : Table). all_distinct u.pool) (sym g.table) ∙ pool-distinct (after_entries s t.acts) g.tidy.placed

-- one output more
pub good-more : (s : State) (t u : Turn) (e : Entry) → Good s t → u.acts ≡ t.acts ++ e ∷ [] → is_quiet e ≡ true
    → is_orderly (after_entries s t.acts) e ≡ true
    → (after_effect (after_entries s t.acts) e).books.table ≡ u.table → (after_effect (after_entries s t.acts) e).plan ≡ u.plan
    → workers_of u.table ≡ workers_of t.table → u.plan.mode ≡ t.plan.mode → Good s u
good-more s t u e g acts quiet h table plan rota mode =
    let m = after_entries s t.acts in
    let after : after_entries s u.acts ≡ after_effect m e = ap (λ (es : List Entry). after_entries s es) acts ∙ after_entries-more s t.acts e h in
    record {
      table = ap (λ (x : State). x.books.table) after ∙ table;
      plan = ap (λ (x : State). x.plan) after ∙ plan;
      orderly = ap (λ (es : List Entry). all_orderly s es) acts ∙ all_orderly-join s t.acts (e ∷ []) g.orderly (and h refl);
      tidy = subst (λ (x : State). Tidy x) (sym after) (tidy-quiet m e quiet h (or-right (is_stopped m.books) m.books.shared g.shared) g.tidy);
      kin = subst (λ (x : State). Kin s.books.members x.books.members) (sym after) (kin-then s.books.members m.books.members (after_effect m e).books.members g.kin (kin-quiet m e quiet h));
      rota = rota ∙ g.rota;
      mode = mode ∙ g.mode;
      settings = ap (λ (x : State). x.books.settings) after ∙ (fixed-output m e h).0 ∙ g.settings;
      shared = ap (λ (x : State). x.books.shared) after ∙ (fixed-output m e h).1 ∙ g.shared;
    }

-- a Shutdown

pub orderly-shutdown : (m : State) (w : ℕ) → is_active w m.books ≡ true → was_ready w m.books ≡ true → is_shut w m.books ≡ false → is_orderly m (Shutdown w) ≡ true
orderly-shutdown m w a b c = rw (a, b, c)

good-shut_new : (s : State) (w : ℕ) (t : Turn) → Good s t → InRota s w → seat_shut w t.table ≡ false
    → Good s (record t { table = shut_down w t.table; acts = t.acts ++ Shutdown w ∷ [] })
good-shut_new s w t g a unshut =
    let m = after_entries s t.acts in
    let there = in_rota-following s t w g a in
    let f = g.tidy.placed.fits in
    good-more s t (record t { table = shut_down w t.table; acts = t.acts ++ Shutdown w ∷ [] }) (Shutdown w) g refl refl
    (orderly-shutdown m w (f.active w there) (f.ready w there) (unshut-of s t w g a unshut))
    (ap (λ (u : Table). shut_down w u) g.table) g.plan (workers-change w (λ s. record s { shut = true }) t.table.rota (λ s. refl)) refl

pub good-shut : (s : State) (w : ℕ) (t : Turn) → InRota s w → Good s t → Good s (shut w t)
good-shut s w t a g = in_both (Good s) (seat_shut w t.table) t (record t { table = shut_down w t.table; acts = t.acts ++ Shutdown w ∷ [] }) (λ h. g) (λ h. good-shut_new s w t g a h)

-- a step for one worker after another
pub in_turn-keeps : (P : Turn → Type 0) (f : ℕ → Turn → Turn) (all : List ℕ) → ((w : ℕ) (t : Turn) → among w all ≡ true → P t → P (f w t))
    → (ws : List ℕ) (t : Turn) → all_among ws all ≡ true → P t → P (in_turn f ws t)
in_turn-keeps P f all step [] t h p = p
in_turn-keeps P f all step (w ∷ ws) t h p =
    let q = split-and (among w all) (all_among ws all) h in
    in_turn-keeps P f all step ws (f w t) q.1 (step w t q.0 p)

pub good-shut_each : (s : State) (ws : List ℕ) (t : Turn) → all_among ws (workers_of s.books.table) ≡ true → Good s t → Good s (shut_each ws t)
good-shut_each s ws t h g = in_turn-keeps (Good s) shut (workers_of s.books.table) (good-shut s) ws t h g

pub rota-all : (s : State) (t : Turn) → Good s t → all_among (workers_of t.table) (workers_of s.books.table) ≡ true
rota-all s t g = ap (λ (ws : List ℕ). all_among ws (workers_of s.books.table)) g.rota ∙ all_among-self (workers_of s.books.table)

shut_empty-by : (s : State) (pool : List ℕ) (t : Turn) → Good s t → Good s (elim pool as (λ _. Turn) [ [] ↦ shut_each (workers_of t.table) t | x ∷ xs ↦ t ])
shut_empty-by s [] t g = good-shut_each s (workers_of t.table) t (rota-all s t g) g
shut_empty-by s (x ∷ xs) t g = g

pub good-shut_where_empty : (s : State) (t : Turn) → Good s t → Good s (shut_where_empty t)
good-shut_where_empty s t g = shut_empty-by s t.table.pool t g

-- tests are handed out, in a mode whose entries name the items themselves

pub record IsPlain (mode : ModeKind) : Type 0 where
  pub each : is_each mode ≡ false
  pub scope : is_scope mode ≡ false

pub named-plain : (slot : ℕ) (items : List ℕ) (p : Plan) → is_each p.mode ≡ false → items_named slot items p ≡ items
named-plain slot items p h = rw h

pub plan-plain : (w : ℕ) (items : List ℕ) (p : Plan) → is_scope p.mode ≡ false → run_plan w items p ≡ p
plan-plain w items p h = rw h

pub orderly-run : (m : State) (w : ℕ) (items : List ℕ) → is_each m.plan.mode ≡ false → in_rota w m.books.table ≡ true → is_shut w m.books ≡ false
    → not_empty items ≡ true → all_distinct items ≡ true → all_among items m.books.table.pool ≡ true → is_orderly m (Run w items) ≡ true
orderly-run m w items mode rota unshut filled distinct within = rw (mode, rota, unshut, filled, distinct, within)

pub good-give : (s : State) (w : ℕ) (items : List ℕ) (t : Turn) → IsPlain s.plan.mode → InRota s w → Good s t → seat_shut w t.table ≡ false
    → all_distinct items ≡ true → all_among items t.table.pool ≡ true → Good s (give w items t)
good-give s w [] t plain a g unshut distinct within = g
good-give s w (i ∷ is) t plain a g unshut distinct within =
    let m = after_entries s t.acts in
    let items = i ∷ is in
    let mode : m.plan.mode ≡ s.plan.mode = ap (λ (p : Plan). p.mode) g.plan ∙ g.mode in
    let each : is_each m.plan.mode ≡ false = ap is_each mode ∙ plain.each in
    let scope : is_scope m.plan.mode ≡ false = ap is_scope mode ∙ plain.scope in
    good-more s t (record t { table = assigned w items t.table; acts = t.acts ++ Run w items ∷ [] }) (Run w items) g refl refl
    (orderly-run m w items each (in_rota-following s t w g a) (unshut-of s t w g a unshut) refl distinct (ap (λ (u : Table). all_among items u.pool) g.table ∙ within))
    (ap (λ (xs : List ℕ). assigned w xs m.books.table) (named-plain (slot_of w m.books) items m.plan each) ∙ ap (λ (u : Table). assigned w items u) g.table)
    (plan-plain w items m.plan scope ∙ g.plan)
    (workers-change w (λ s. record s { held = s.held ++ items }) t.table.rota (λ s. refl)) refl

pub good-give_front : (s : State) (w n : ℕ) (t : Turn) → IsPlain s.plan.mode → InRota s w → Good s t → seat_shut w t.table ≡ false → Good s (give_front w n t)
good-give_front s w n t plain a g unshut =
    good-give s w (take n t.table.pool) t plain a g unshut (distinct-take n t.table.pool (turn-distinct s t g)) (all_among-take n t.table.pool)
