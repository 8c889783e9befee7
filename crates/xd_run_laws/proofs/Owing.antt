-- What holds after each whole rule of a run, and that someone owes the next step by it.
use Rattle.std.proofs.Common.{◌≡◌, ℕ, ◌≤◌, ◌<◌, List, [], ◌∷◌, length, map, Bool, true, false, not, ◌&&◌, ◌||◌, refl, ap, sym, ◌∙◌, subst, arith, inl, inr}
use Rattle.std.specs.Prelude.{◌==◌, ◌⊎◌, nat_le, nat_lt, Option, Some, None, is_none}
use Rattle.std.specs.List.{list_all, list_any}
use Rattle.std.proofs.lemmas.Bool.Decides.{nat_tests}
use Rattle.std.proofs.lemmas.List.{length-map}
use Rattle.xd_run.specs.declared.member.Member.{Member}
use Rattle.xd_run.specs.declared.seat.Seat.{Seat}
use Rattle.xd_run.specs.Numbers.{all_distinct, among}
use Rattle.xd_run.specs.Table.{held, held_in, in_rota, seat_shut, workers_of}
use Rattle.xd_run.specs.Plan.{UnansweredSteal, is_each, slot_items}
use Rattle.xd_run.specs.Workers.{slot_in, slot_of, some_active}
use Rattle.xd_run.specs.Stops.{is_shutting, is_stopped}
use Rattle.xd_run.specs.Sharing.{State}
use Rattle.xd_run.specs.State.{is_handed_out, settles}
use Rattle.xd_run.specs.Histories.{is_over}
use Rattle.xd_run.specs.Owes.{owes, someone_owes, steal_open_to}
use Rattle.xd_run_laws.proofs.Logic.{and, cases_of, differ, or-left, or-right, split-and, split-or, not_true}
use Rattle.xd_run_laws.proofs.Members.{distinct-numbered, has, numbers}
use Rattle.xd_run_laws.proofs.Rota.{has_seat, one-of_seat, seat-among, seats_of}
use Rattle.xd_run_laws.proofs.Turns.{InRota, Tidy}
use Rattle.xd_run_laws.proofs.Pigeons.{as-many}
use Rattle.xd_run_laws.proofs.Slots.{slot_items-same}
use Rattle.xd_run_laws.proofs.Busy.{AllWork}

-- whoever is active and ready was told to shut down
abbrev pub AllTold : State → Type 0
AllTold s = (v : ℕ) → has v (λ m. m.active) s.books.members ≡ true → has v (λ m. m.ready) s.books.members ≡ true → has v (λ m. m.shut) s.books.members ≡ true

-- in mode each the item is one of the worker's slot
abbrev pub FitsSlot : State → ℕ → ℕ → Type 0
FitsSlot s v x = is_each s.plan.mode ≡ true → among x (slot_items (slot_of v s.books) s.plan) ≡ true

-- an active worker that was told nothing, which may take the item
pub record Awaits (s : State) (x : ℕ) : Type 0 where
  pub who : ℕ
  pub active : has who (λ m. m.active) s.books.members ≡ true
  pub untold : has who (λ m. m.shut) s.books.members ≡ false
  pub fits : FitsSlot s who x

abbrev pub Awaited : State → Type 0
Awaited s = (x : ℕ) → among x s.books.table.pool ≡ true → Awaits s x

-- whoever is asked for tests is active and was told nothing
abbrev pub AskedOpen : State → Type 0
AskedOpen s = (a : UnansweredSteal) → s.plan.steal ≡ Some a → (has a.worker (λ m. m.active) s.books.members ≡ true) × (has a.worker (λ m. m.shut) s.books.members ≡ false)

-- a worker of this slot is active
pub record HasSlot (s : State) (k : ℕ) : Type 0 where
  pub who : ℕ
  pub active : has who (λ m. m.active) s.books.members ≡ true
  pub slot : slot_in who s.books.members ≡ k

-- who is active, has collected, and was told nothing, is in the rota
abbrev pub Seated : State → Type 0
Seated s = (v : ℕ) → has v (λ m. m.active) s.books.members ≡ true → has v (λ m. m.collected) s.books.members ≡ true → has v (λ m. m.shut) s.books.members ≡ false → InRota s v

-- in mode each whoever is in the rota was told
abbrev pub EachTold : State → Type 0
EachTold s = is_each s.plan.mode ≡ true → (v : ℕ) → InRota s v → seat_shut v s.books.table ≡ true

-- who waits for an item still waits for it
pub awaits-by : (s t : State) (x : ℕ) (o : Awaits s x) → has o.who (λ m. m.active) t.books.members ≡ true → has o.who (λ m. m.shut) t.books.members ≡ false
    → slot_in o.who t.books.members ≡ slot_in o.who s.books.members → t.plan.sizes ≡ s.plan.sizes → t.plan.mode ≡ s.plan.mode → Awaits t x
awaits-by s t x o active untold slot sizes mode = record {
  who = o.who;
  active = active;
  untold = untold;
  fits = λ e. ap (λ (i : ℕ). among x (slot_items i t.plan)) slot ∙ ap (λ (xs : List ℕ). among x xs) (slot_items-same (slot_in o.who s.books.members) t.plan s.plan sizes mode) ∙ o.fits (ap is_each (sym mode) ∙ e);
}

-- what holds of a run that was not stopped
pub record Going (s : State) : Type 0 where
  pub seated : Seated s
  pub work : s.books.shared ≡ true → AllWork (workers_of s.books.table) s.books.table
  pub told : s.books.shared ≡ true → EachTold s
  pub awaited : Awaited s
  pub asked : AskedOpen s
  pub slots : s.books.shared ≡ false → (k : ℕ) → k < s.books.settings.workers → HasSlot s k
  pub room : s.books.shared ≡ false → length s.books.table.rota < s.books.settings.workers

pub record Owing (s : State) : Type 0 where
  pub told : is_shutting s.books ≡ true → AllTold s
  pub going : is_stopped s.books ≡ false → Going s

-- someone owes

-- the member has both marks
pub has-both : (v : ℕ) (f g : Member → Bool) (ms : List Member) → all_distinct (numbers ms) ≡ true → has v f ms ≡ true → has v g ms ≡ true → has v (λ m. f m && g m) ms ≡ true
has-both v f g [] d a b = absurd (differ a)
has-both v f g (m ∷ ms) d a b =
    let p = split-and (not (among m.worker (numbers ms))) (all_distinct (numbers ms)) d in
    let none = not_true (among m.worker (numbers ms)) p.0 in
    elim (cases_of (m.worker == v)) [
      | inl same ↦
          (let out : among v (numbers ms) ≡ false = (let e : m.worker ≡ v = grind (arith, nat_tests, same) in subst (λ (u : ℕ). among u (numbers ms) ≡ false) e none) in
          let na = absent v f ms out in
          let nb = absent v g ms out in
          grind (arith, nat_tests, same, a, b, na, nb))
      | inr other ↦ (let rest = has-both v f g ms p.1 (grind (arith, nat_tests, other, a)) (grind (arith, nat_tests, other, b)) in grind (arith, nat_tests, other, rest))
    ]
  where
    absent : (w : ℕ) (test : Member → Bool) (ms : List Member) → among w (numbers ms) ≡ false → has w test ms ≡ false
    absent w test [] h = refl
    absent w test (m ∷ ms) h = grind (arith, nat_tests, absent w test ms)

-- the member has the mark of its number
any-of : (v : ℕ) (test : Member → Bool) (goal : Member → Bool) (ms : List Member) → ((m : Member) → (m.worker == v) ≡ true → test m ≡ true → goal m ≡ true) → has v test ms ≡ true → list_any goal ms ≡ true
any-of v test goal [] k h = absurd (differ h)
any-of v test goal (m ∷ ms) k h = elim (split-or (m.worker == v && test m) (has v test ms) h) [
  | inl a ↦ (let p = split-and (m.worker == v) (test m) a in or-left (goal m) (list_any goal ms) (k m p.0 p.1))
  | inr a ↦ or-right (goal m) (list_any goal ms) (any-of v test goal ms k a)
]

-- of whoever has one mark and not the other there is a member so
pub has-without : (v : ℕ) (f g : Member → Bool) (ms : List Member) → has v f ms ≡ true → has v g ms ≡ false → has v (λ m. f m && not (g m)) ms ≡ true
has-without v f g [] a b = absurd (differ a)
has-without v f g (m ∷ ms) a b = grind (arith, nat_tests, a, b, has-without v f g ms)

abbrev rest_of : State → Member → Bool
rest_of s m = not m.ready || not m.collected || m.shut || nat_le 2 (length (held m.worker s.books.table)) || steal_open_to m.worker s

owes-by : (s : State) (v : ℕ) (mark : Member → Bool) → ((m : Member) → (m.worker == v) ≡ true → mark m ≡ true → rest_of s m ≡ true) → has v (λ m. m.active && mark m) s.books.members ≡ true → someone_owes s ≡ true
owes-by s v mark k h = any-of v (λ m. m.active && mark m) (owes s) s.books.members (λ m e a. (let p = split-and m.active (mark m) a in and p.0 (k m e p.1))) h

unready-owes : (s : State) (v : ℕ) → has v (λ m. m.active) s.books.members ≡ true → has v (λ m. m.ready) s.books.members ≡ false → someone_owes s ≡ true
unready-owes s v a b = owes-by s v (λ m. not m.ready) (λ m e h. first m.ready (not m.collected) m.shut (nat_le 2 (length (held m.worker s.books.table))) (steal_open_to m.worker s) h) (has-without v (λ m. m.active) (λ m. m.ready) s.books.members a b)
  where
    first : (r c d e f : Bool) → not r ≡ true → (not r || c || d || e || f) ≡ true
    first false c d e f h = refl
    first true c d e f h = absurd (differ h)

uncollected-owes : (s : State) (v : ℕ) → has v (λ m. m.active) s.books.members ≡ true → has v (λ m. m.collected) s.books.members ≡ false → someone_owes s ≡ true
uncollected-owes s v a b = owes-by s v (λ m. not m.collected) (λ m e h. second (not m.ready) m.collected m.shut (nat_le 2 (length (held m.worker s.books.table))) (steal_open_to m.worker s) h) (has-without v (λ m. m.active) (λ m. m.collected) s.books.members a b)
  where
    second : (r c d e f : Bool) → not c ≡ true → (r || not c || d || e || f) ≡ true
    second true c d e f h = refl
    second false false d e f h = refl
    second false true d e f h = absurd (differ h)

told-owes : (s : State) (v : ℕ) → Tidy s → has v (λ m. m.active) s.books.members ≡ true → has v (λ m. m.shut) s.books.members ≡ true → someone_owes s ≡ true
told-owes s v d a b = owes-by s v (λ m. m.shut) (λ m e h. third (not m.ready) (not m.collected) m.shut (nat_le 2 (length (held m.worker s.books.table))) (steal_open_to m.worker s) h)
    (has-both v (λ m. m.active) (λ m. m.shut) s.books.members (distinct-numbered s.books.members d.members.numbered) a b)
  where
    third : (r c d e f : Bool) → d ≡ true → (r || c || d || e || f) ≡ true
    third true c d e f h = refl
    third false true d e f h = refl
    third false false true e f h = refl
    third false false false e f h = absurd (differ h)

busy-owes : (s : State) (v : ℕ) → has v (λ m. m.active) s.books.members ≡ true → 2 ≤ length (held v s.books.table) → someone_owes s ≡ true
busy-owes s v a b = owes-by s v (λ m. true)
    (λ m e h. (let same : m.worker ≡ v = grind (arith, nat_tests, e) in
    let k : 2 ≤ length (held m.worker s.books.table) = subst (λ (u : ℕ). 2 ≤ length (held u s.books.table)) (sym same) b in
    fourth (not m.ready) (not m.collected) m.shut (nat_le 2 (length (held m.worker s.books.table))) (steal_open_to m.worker s) (grind (arith, nat_tests, k))))
    (any-has v s.books.members a)
  where
    fourth : (r c d e f : Bool) → e ≡ true → (r || c || d || e || f) ≡ true
    fourth true c d e f h = refl
    fourth false true d e f h = refl
    fourth false false true e f h = refl
    fourth false false false true f h = refl
    fourth false false false false f h = absurd (differ h)

    any-has : (v : ℕ) (ms : List Member) → has v (λ m. m.active) ms ≡ true → has v (λ m. m.active && true) ms ≡ true
    any-has v [] h = h
    any-has v (m ∷ ms) h = grind (arith, nat_tests, h, any-has v ms)

asked-owes : (s : State) (a : UnansweredSteal) → s.plan.steal ≡ Some a → has a.worker (λ m. m.active) s.books.members ≡ true → someone_owes s ≡ true
asked-owes s a e h = owes-by s a.worker (λ m. true)
    (λ m q z. (let same : a.worker ≡ m.worker = grind (arith, nat_tests, q) in
    let open_ : steal_open_to m.worker s ≡ true = ap (λ (o : Option UnansweredSteal). elim o as (λ _. Bool) [ None ↦ false | Some b ↦ b.worker == m.worker ]) e ∙ grind (arith, nat_tests, same) in
    fifth (not m.ready) (not m.collected) m.shut (nat_le 2 (length (held m.worker s.books.table))) (steal_open_to m.worker s) open_))
    (any-has a.worker s.books.members h)
  where
    fifth : (r c d e f : Bool) → f ≡ true → (r || c || d || e || f) ≡ true
    fifth true c d e f h = refl
    fifth false true d e f h = refl
    fifth false false true e f h = refl
    fifth false false false true f h = refl
    fifth false false false false f h = h

    any-has : (v : ℕ) (ms : List Member) → has v (λ m. m.active) ms ≡ true → has v (λ m. m.active && true) ms ≡ true
    any-has v [] h = h
    any-has v (m ∷ ms) h = grind (arith, nat_tests, h, any-has v ms)

-- an active worker owes, or it is ready, has collected, was told nothing, and is in the rota
rota-or : (s : State) (v : ℕ) → Tidy s → Going s → has v (λ m. m.active) s.books.members ≡ true → has v (λ m. m.shut) s.books.members ≡ false → (someone_owes s ≡ true) ⊎ (InRota s v)
rota-or s v d g a n = elim (cases_of (has v (λ m. m.collected) s.books.members)) [
  | inl c ↦ inr (g.seated v a c n)
  | inr c ↦ inl (uncollected-owes s v a c)
]

-- the run is shutting and someone is active
shutting-owes : (s : State) → Tidy s → AllTold s → some_active s.books ≡ true → someone_owes s ≡ true
shutting-owes s d t h =
    let one = first-active s.books.members h in
    elim (cases_of (has one.0 (λ m. m.ready) s.books.members)) [
      | inl r ↦ told-owes s one.0 d one.1 (t one.0 one.1 r)
      | inr r ↦ unready-owes s one.0 one.1 r
    ]
  where
    first-active : (ms : List Member) → list_any (λ m. m.active) ms ≡ true → (v : ℕ) × (has v (λ m. m.active) ms ≡ true)
    first-active [] h = absurd (differ h)
    first-active (m ∷ ms) h = elim (cases_of m.active) [
      | inl a ↦ (m.worker, grind (arith, nat_tests, a))
      | inr a ↦ (let r = first-active ms (grind (arith, nat_tests, a, h)) in (r.0, or-right (m.worker == r.0 && m.active) (has r.0 (λ x. x.active) ms) r.1))
    ]

-- nothing is shared, and a worker is missing in the rota
unshared-owes : (s : State) → Tidy s → Going s → is_stopped s.books ≡ false → s.books.shared ≡ false → someone_owes s ≡ true
unshared-owes s d g u n = elim (cases_of (someone_owes s)) [
  | inl h ↦ h
  | inr h ↦
      (let ws = workers_of s.books.table in
      let there : (k : ℕ) → k < s.books.settings.workers → among k (map (λ w. slot_of w s.books) ws) ≡ true = λ k l.
      (let one = g.slots n k l in
      elim (rota-or s one.who d g one.active (d.calm.unshut u n one.who)) [
        | inl o ↦ absurd (differ (sym h ∙ o))
        | inr r ↦ among-mapped (λ w. slot_of w s.books) one.who k ws r one.slot
      ]) in
      let many = as-many s.books.settings.workers (map (λ w. slot_of w s.books) ws) there in
      let a = length-map ws (λ (w : ℕ). slot_of w s.books) in
      let b = length-map s.books.table.rota (λ (x : Seat). x.worker) in
      absurd (omega (arith, many, a, b, g.room n)))
]
  where
    among-mapped : (f : ℕ → ℕ) (w k : ℕ) (ws : List ℕ) → among w ws ≡ true → f w ≡ k → among k (map f ws) ≡ true
    among-mapped f w k [] h e = absurd (differ h)
    among-mapped f w k (v ∷ ws) h e = elim (split-or (w == v) (among w ws) h) [
      | inl a ↦ (let same : w ≡ v = grind (arith, nat_tests, a) in let z : k ≡ f v = sym e ∙ ap f same in grind (arith, nat_tests, z))
      | inr a ↦ or-right (k == f v) (among k (map f ws)) (among-mapped f w k ws a e)
    ]

-- the seat holds two
seats-owe : (ss : List Seat) → ((w : ℕ) → seats_of w ss ≤ 1) → list_all (λ x. nat_lt (length x.held) 2) ss ≡ false → (w : ℕ) × (has_seat w ss ≡ true) × (2 ≤ length (held_in w ss))
seats-owe [] one k = absurd (differ (sym k))
seats-owe (x ∷ ss) one k = elim (cases_of (nat_lt (length x.held) 2)) [
  | inl few ↦
      (let r = seats-owe ss (λ w. (let z = one w in omega (arith, z))) (grind (arith, nat_tests, few, k)) in
      let other : (x.worker == r.0) ≡ false = elim (cases_of (x.worker == r.0)) [
        | inl same ↦ absurd (grind (arith, nat_tests, one r.0, one-of_seat r.0 ss r.1, same))
        | inr z ↦ z
      ] in
      let holds : held_in r.0 (x ∷ ss) ≡ held_in r.0 ss = rw other refl in
      (r.0, rw other r.1, subst (λ (xs : List ℕ). 2 ≤ length xs) (sym holds) r.2))
  | inr many ↦
      (let holds : held_in x.worker (x ∷ ss) ≡ x.held = grind (arith, nat_tests) in
      (x.worker, grind (arith, nat_tests), subst (λ (xs : List ℕ). 2 ≤ length xs) (sym holds) (grind (arith, nat_tests, many))))
]

third-false : (a b c : Bool) → a ≡ true → b ≡ true → ((a && b) && c) ≡ false → c ≡ false
third-false true true c h k f = f
third-false true false c h k f = absurd (differ k)
third-false false b c h k f = absurd (differ h)

-- the tests are shared, and not all is done
shared-owes : (s : State) → Tidy s → Going s → s.books.shared ≡ true → is_handed_out s.books.table s.plan ≡ false → someone_owes s ≡ true
shared-owes s d g h f = by s.books.table.pool refl s.plan.steal refl
  where
    pool-owes : (x : ℕ) → among x s.books.table.pool ≡ true → someone_owes s ≡ true
    pool-owes x a =
        let one = g.awaited x a in
        elim (rota-or s one.who d g one.active one.untold) [
          | inl o ↦ o
          | inr r ↦ (elim (g.work h) [
            | inl e ↦ absurd (differ (ap (λ (xs : List ℕ). among x xs) (sym e) ∙ a))
            | inr k ↦ (let rota : in_rota one.who s.books.table ≡ true = seat-among one.who s.books.table.rota ∙ r in
                let untold : seat_shut one.who s.books.table ≡ false = sym (d.placed.fits.marks one.who rota) ∙ one.untold in
                elim (split-or (seat_shut one.who s.books.table) (nat_le 2 (length (held one.who s.books.table))) (k one.who r)) [
                  | inl t ↦ absurd (differ (sym untold ∙ t))
                  | inr t ↦ busy-owes s one.who one.active (grind (arith, nat_tests, t))
                ])
          ])
        ]

    by_seats : list_all (λ x. nat_lt (length x.held) 2) s.books.table.rota ≡ false → someone_owes s ≡ true
    by_seats k = (let r = seats-owe s.books.table.rota (λ w. d.placed.fits.seats w) k in busy-owes s r.0 (d.placed.fits.active r.0 r.1) r.2)

    by : (pool : List ℕ) → s.books.table.pool ≡ pool → (o : Option UnansweredSteal) → s.plan.steal ≡ o → someone_owes s ≡ true
    by (x ∷ xs) e o q = pool-owes x (ap (λ (ys : List ℕ). among x ys) e ∙ grind (arith, nat_tests))
    by [] e (Some a) q = asked-owes s a q (g.asked a q).0
    by [] e None q = by_seats (third-false (length s.books.table.pool == 0) (is_none s.plan.steal) (list_all (λ x. nat_lt (length x.held) 2) s.books.table.rota)
        (ap (λ (ys : List ℕ). length ys == 0) e) (ap is_none q) f)

-- after a whole rule of a run that is not over
pub owing-owes : (s : State) → Tidy s → Owing s → (settles s ≡ true → s.books.shutting ≡ true) → is_over s.books ≡ false → someone_owes s ≡ true
owing-owes s d o settled h = elim (cases_of (is_shutting s.books)) [
  | inl k ↦ shutting-owes s d (o.told k) (some-left (is_shutting s.books) (some_active s.books) k h)
  | inr k ↦
      (let n = neither (is_stopped s.books) s.books.shutting k in
      let g = o.going n.0 in
      elim (cases_of s.books.shared) [
        | inl z ↦ shared-owes s d g z (elim (cases_of (is_handed_out s.books.table s.plan)) [
          | inl f ↦ absurd (differ (sym n.1 ∙ settled (and (and (rw (n.0) refl) z) f)))
          | inr f ↦ f
        ])
        | inr z ↦ unshared-owes s d g n.0 z
      ])
]
  where
    some-left : (a b : Bool) → a ≡ true → (a && not b) ≡ false → b ≡ true
    some-left true true h k = refl
    some-left true false h k = absurd (differ (sym k))
    some-left false b h k = absurd (differ h)

    neither : (a b : Bool) → (a || b) ≡ false → (a ≡ false) × (b ≡ false)
    neither true b h = absurd (differ (sym h))
    neither false b h = (refl, h)
