-- The queue of units fits the table, whatever happens to them.
use Rattle.std.proofs.Common.{◌≡◌, ℕ, ◌+◌, ◌≤◌, List, [], ◌∷◌, ◌++◌, drop, Bool, true, false, not, ◌&&◌, refl, ap, sym, ◌∙◌, subst, arith, inl, inr}
use Rattle.std.specs.Prelude.{if◌then◌else◌, ◌==◌, None}
use Rattle.std.proofs.lemmas.Bool.Decides.{nat_tests}
use Rattle.std.proofs.lemmas.List.{append-nil}
use Rattle.xd_run.specs.declared.seat.Seat.{Seat}
use Rattle.xd_run.specs.declared.member.Member.{Member}
use Rattle.xd_run.specs.Numbers.{among, without, times}
use Rattle.xd_run.specs.Table.{Table, crash_item, held, held_in, in_rota, at_seat, without_seat, assigned, completed, left_rota, died, joined, retried_item, shut_down}
use Rattle.xd_run.specs.Plan.{Plan, Handed, with_handed}
use Rattle.xd_run.specs.Units.{units_left, unless_empty}
use Rattle.xd_run.specs.Orderly.{not_empty}
use Rattle.xd_run.specs.Suits.{tests_of_units}
use Rattle.xd_run_laws.proofs.Logic.{differ, cases_of, split-and, split-or, not_true}
use Rattle.xd_run_laws.proofs.Counts.{times-append, times-without, among-times}
use Rattle.xd_run_laws.proofs.Rota.{has_seat, seat-change, seat-left, seat-joined}
use Rattle.xd_run_laws.proofs.Places.{AtMostOnce, times-table, held-within}
use Rattle.xd_run_laws.proofs.Members.{has}
use Rattle.xd_run_laws.proofs.Units.{none_empty, tests-append, none_empty-append, given_to, given-more, tests-left, none_empty-left, none_empty-unless, times-unless_empty}

-- what one worker holds

pub held-none : (w : ℕ) (ss : List Seat) → has_seat w ss ≡ false → held_in w ss ≡ []
held-none w [] h = refl
held-none w (s ∷ ss) h = grind (arith, nat_tests, held-none w ss)

pub held-more : (x v w : ℕ) (items : List ℕ) (ss : List Seat) → has_seat v ss ≡ true
    → times x (held_in v (at_seat w (λ s. record s { held = s.held ++ items }) ss)) ≡ times x (held_in v ss) + (if v == w then times x items else 0)
held-more x v w items [] h = absurd (differ h)
held-more x v w items (s ∷ ss) h = grind (arith, nat_tests, held-more x v w items ss, times-append x s.held items)

pub held-fewer : (x v w : ℕ) (items : List ℕ) (ss : List Seat)
    → times x (held_in v (at_seat w (λ s. record s { held = without items s.held }) ss)) ≡ (if (v == w) && among x items then 0 else times x (held_in v ss))
held-fewer x v w items [] = grind (arith, nat_tests)
held-fewer x v w items (s ∷ ss) = grind (arith, nat_tests, held-fewer x v w items ss, times-without x items s.held)

pub held-shut : (v w : ℕ) (ss : List Seat) → held_in v (at_seat w (λ s. record s { shut = true }) ss) ≡ held_in v ss
held-shut v w [] = refl
held-shut v w (s ∷ ss) = grind (arith, nat_tests, held-shut v w ss)

pub held-left : (v w : ℕ) (ss : List Seat) → (v == w) ≡ false → held_in v (without_seat w ss) ≡ held_in v ss
held-left v w [] h = refl
held-left v w (s ∷ ss) h = grind (arith, nat_tests, held-left v w ss)

pub held-joined : (v : ℕ) (ss : List Seat) (s : Seat) → has_seat v ss ≡ true → held_in v (ss ++ s ∷ []) ≡ held_in v ss
held-joined v [] s h = absurd (differ h)
held-joined v (x ∷ ss) s h = grind (arith, nat_tests, held-joined v ss s)

-- the units in the queue have tests of the pool alone, and none is empty; whatever was given to a worker of the rota is
-- held by it or reported; who has not collected got nothing; and no steal is open
pub record QueueFits (t : Table) (p : Plan) (ms : List Member) : Type 0 where
  pub whole : (x : ℕ) → times x (tests_of_units p.queue) ≤ times x t.pool
  pub filled : none_empty p.queue ≡ true
  pub given : (w x : ℕ) → in_rota w t ≡ true → times x (given_to w p.given) ≤ times x (held w t) + times x t.reported
  pub late : (w : ℕ) → has w (λ m. m.collected) ms ≡ false → given_to w p.given ≡ []
  pub steal : p.steal ≡ None

-- only the marks change
pub queue-members : (t : Table) (p : Plan) (ms ns : List Member) → ((v : ℕ) → has v (λ m. m.collected) ns ≡ false → has v (λ m. m.collected) ms ≡ false) → QueueFits t p ms → QueueFits t p ns
queue-members t p ms ns h q = record { whole = q.whole; filled = q.filled; given = q.given; late = λ w k. q.late w (h w k); steal = q.steal }

pub queue-shut : (t : Table) (p : Plan) (ms : List Member) (w : ℕ) → QueueFits t p ms → QueueFits (shut_down w t) p ms
queue-shut t p ms w q = record {
  whole = q.whole;
  filled = q.filled;
  given = λ v x h. (let e : times x (held_in v (at_seat w (λ s. record s { shut = true }) t.rota)) ≡ times x (held v t) = ap (λ (xs : List ℕ). times x xs) (held-shut v w t.rota) in
      let k = q.given v x (sym (seat-change v w (λ s. record s { shut = true }) t.rota (λ s. refl)) ∙ h) in omega (arith, e, k));
  late = q.late;
  steal = q.steal;
}

-- the first unit is handed out

-- the plan after that
abbrev pub handed_out : ℕ → List ℕ → List (List ℕ) → Plan → Plan
handed_out w u us p = record p { queue = us; given = with_handed w u p }

given-rest : (w v : ℕ) (b : Bool) (u : List ℕ) (old : List ℕ) → b ≡ false → old ≡ [] → old ++ (if b then u else []) ≡ []
given-rest w v true u old h k = absurd (differ (sym h))
given-rest w v false u old h k = append-nil old ∙ k

pub queue-given : (t : Table) (p : Plan) (ms : List Member) (w : ℕ) (u : List ℕ) (us : List (List ℕ)) → AtMostOnce t → has w (λ m. m.collected) ms ≡ true → p.queue ≡ u ∷ us
    → QueueFits t p ms → QueueFits (assigned w u t) (handed_out w u us p) ms
queue-given t p ms w u us once collected e q =
    let new : Handed = record { worker = w; tests = u } in
    record {
      whole = λ x. (let a : times x (u ++ tests_of_units us) ≤ times x t.pool = subst (λ (vs : List (List ℕ)). times x (tests_of_units vs) ≤ times x t.pool) e (q.whole x) in
          grind (arith, nat_tests, a, times-append x u (tests_of_units us), times-without x u t.pool, among-times x u, once x, times-table x t));
      filled = (split-and (not_empty u) (none_empty us) (ap none_empty (sym e) ∙ q.filled)).1;
      given = λ v x h. (let rota : has_seat v t.rota ≡ true = sym (seat-change v w (λ s. record s { held = s.held ++ u }) t.rota (λ s. refl)) ∙ h in
          let a : times x (given_to v (p.given ++ new ∷ [])) ≡ times x (given_to v p.given ++ (if w == v then u else [])) = ap (λ (xs : List ℕ). times x xs) (given-more v p.given new) in
          grind (arith, nat_tests, a, times-append x (given_to v p.given) (if w == v then u else []), held-more x v w u t.rota rota, q.given v x rota));
      late = λ v h. (let other : (w == v) ≡ false = elim (cases_of (w == v)) [ inl k ↦ absurd (let z : w ≡ v = grind (arith, nat_tests, k) in differ (sym h ∙ ap (λ (y : ℕ). has y (λ m. m.collected) ms) (sym z) ∙ collected)) | inr k ↦ k ] in
          given-more v p.given new ∙ given-rest w v (w == v) u (given_to v p.given) other (q.late v h));
      steal = q.steal;
    }

-- a test ends

pub queue-completed : (t : Table) (p : Plan) (ms : List Member) (w item : ℕ) → AtMostOnce t → QueueFits t p ms → QueueFits (completed w item t) p ms
queue-completed t p ms w item once q = record {
  whole = q.whole;
  filled = q.filled;
  given = λ v x h. (let rota : has_seat v t.rota ≡ true = sym (seat-change v w (λ s. record s { held = without (item ∷ []) s.held }) t.rota (λ s. refl)) ∙ h in
      grind (arith, nat_tests, held-fewer x v w (item ∷ []) t.rota, times-append x t.reported (item ∷ []), q.given v x rota, once x, times-table x t, held-within x v t.rota));
  late = q.late;
  steal = q.steal;
}

-- a worker goes

stays : (v w : ℕ) (ss : List Seat) → has_seat v (without_seat w ss) ≡ true → ((v == w) ≡ false) × (has_seat v ss ≡ true)
stays v w ss h = let p = split-and (not (v == w)) (has_seat v ss) (sym (seat-left v w ss) ∙ h) in (not_true (v == w) p.0, p.1)

pub queue-left : (t : Table) (p : Plan) (ms : List Member) (w : ℕ) → QueueFits t p ms → QueueFits (left_rota w t) p ms
queue-left t p ms w q = record {
  whole = q.whole;
  filled = q.filled;
  given = λ v x h. (let s = stays v w t.rota h in
      let e : times x (held_in v (without_seat w t.rota)) ≡ times x (held v t) = ap (λ (xs : List ℕ). times x xs) (held-left v w t.rota s.0) in
      let k = q.given v x s.1 in omega (arith, e, k));
  late = q.late;
  steal = q.steal;
}

-- what is left of the units of a worker is part of what it held
left-within : (x w : ℕ) (t : Table) (p : Plan) (ms : List Member) → AtMostOnce t → QueueFits t p ms → times x (tests_of_units (units_left w (drop 1 (held w t)) p.given)) ≤ times x (drop 1 (held w t))
left-within x w t p ms once q = elim (cases_of (in_rota w t)) [
  | inl r ↦ grind (arith, nat_tests, tests-left x w (drop 1 (held w t)) p.given, q.given w x r, once x, times-table x t, held-within x w t.rota, among-times x (drop 1 (held w t)))
  | inr r ↦
      (let none : drop 1 (held w t) ≡ [] = ap (λ (xs : List ℕ). drop 1 xs) (held-none w t.rota r) in
      subst (λ (xs : List ℕ). times x (tests_of_units (units_left w xs p.given)) ≤ times x xs) (sym none) (let k = tests-left x w [] p.given in omega (arith, k)))
]

-- the plan of a mode with scopes after a death
abbrev pub buried_plan : ℕ → List ℕ → List ℕ → Plan → Plan
buried_plan w retried rest p = record p { queue = unless_empty retried ++ (p.queue ++ units_left w rest p.given); steal = None }

pub queue-died : (t : Table) (p : Plan) (ms : List Member) (w : ℕ) (retry : Bool) → AtMostOnce t → QueueFits t p ms
    → QueueFits (died w retry t) (buried_plan w (retried_item retry (held w t)) (drop 1 (held w t)) p) ms
queue-died t p ms w retry once q =
    let first = retried_item retry (held w t) in
    let rest = drop 1 (held w t) in
    let left_rota = units_left w rest p.given in
    record {
      whole = λ x. omega (
        arith,
        tests-append x (unless_empty first) (p.queue ++ left_rota),
        times-unless_empty x first,
        tests-append x p.queue left_rota,
        left-within x w t p ms once q,
        q.whole x,
        times-append x first (t.pool ++ rest),
        times-append x t.pool rest,
      );
      filled = none_empty-append (unless_empty first) (p.queue ++ left_rota) (none_empty-unless first) (none_empty-append p.queue left_rota q.filled (none_empty-left w rest p.given));
      given = λ v x h. (let s = stays v w t.rota h in
          let e : times x (held_in v (without_seat w t.rota)) ≡ times x (held v t) = ap (λ (xs : List ℕ). times x xs) (held-left v w t.rota s.0) in
          let k = q.given v x s.1 in omega (arith, e, k, times-append x t.reported (crash_item retry (held w t))));
      late = q.late;
      steal = refl;
    }

-- a worker comes

pub queue-joined : (t : Table) (p : Plan) (ms : List Member) (w : ℕ) → given_to w p.given ≡ [] → QueueFits t p ms → QueueFits (joined w t) p ms
queue-joined t p ms w none q =
    let new : Seat = record { worker = w; held = []; shut = false } in
    record {
      whole = q.whole;
      filled = q.filled;
      given = λ v x h. elim (split-or (has_seat v t.rota) (w == v) (sym (seat-joined v t.rota new) ∙ h)) [
        | inl r ↦
            (let e : times x (held_in v (t.rota ++ new ∷ [])) ≡ times x (held v t) = ap (λ (xs : List ℕ). times x xs) (held-joined v t.rota new r) in
            let k = q.given v x r in omega (arith, e, k))
        | inr r ↦
            (let same : w ≡ v = grind (arith, nat_tests, r) in
            let e : times x (given_to v p.given) ≡ 0 = ap (λ (u : ℕ). times x (given_to u p.given)) (sym same) ∙ ap (λ (xs : List ℕ). times x xs) none in
            omega (arith, e))
      ];
      late = q.late;
      steal = q.steal;
    }
