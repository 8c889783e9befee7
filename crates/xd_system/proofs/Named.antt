-- The items of a worker's tests, by its slot.
use Rattle.std.proofs.Common.{◌≡◌, ℕ, ◌+◌, List, [], ◌∷◌, ◌++◌, map, Bool, true, false, not, refl, ap, sym, ◌∙◌, subst, arith, inl, inr}
use Rattle.std.specs.Prelude.{◌==◌, filter, if◌then◌else◌}
use Rattle.std.proofs.lemmas.Bool.Decides.{nat_tests}
use Rattle.xd_run.specs.Numbers.{all_among, all_distinct, among, without}
use Rattle.xd_run.specs.Plan.{Plan, base, is_each, items_named}
use Rattle.xd_run_laws.proofs.Counts.{among_of-all_among}
use Rattle.xd_run_laws.proofs.Logic.{and, cases_of, differ, split-and}

abbrev pub item_at : ℕ → ℕ → Plan → ℕ
item_at slot n p = if is_each p.mode then base slot p + n else n

pub named-first : (slot n : ℕ) (ns : List ℕ) (p : Plan)
    → items_named slot (n ∷ ns) p ≡ item_at slot n p ∷ items_named slot ns p
named-first slot n ns p = go (is_each p.mode)
  where
    go : (b : Bool) → (if b then map (λ i. base slot p + i) (n ∷ ns) else (n ∷ ns)) ≡ (if b then base slot p + n else n) ∷ (if b then map (λ i. base slot p + i) ns else ns)
    go true = refl
    go false = refl

pub named-none : (slot : ℕ) (p : Plan) → items_named slot [] p ≡ []
named-none slot p = go (is_each p.mode)
  where
    go : (b : Bool) → (if b then map (λ i. base slot p + i) [] else []) ≡ []
    go true = refl
    go false = refl

pub item-same : (slot m n : ℕ) (p : Plan) → item_at slot m p ≡ item_at slot n p → m ≡ n
item-same slot m n p = go (is_each p.mode)
  where
    go : (b : Bool) → (if b then base slot p + m else m) ≡ (if b then base slot p + n else n) → m ≡ n
    go true e = omega (arith, e)
    go false e = e

pub named-append : (slot : ℕ) (ms ns : List ℕ) (p : Plan)
    → items_named slot (ms ++ ns) p ≡ items_named slot ms p ++ items_named slot ns p
named-append slot [] ns p = ap (λ (l : List ℕ). l ++ items_named slot ns p) (sym (named-none slot p))
named-append slot (m ∷ ms) ns p =
    named-first slot m (ms ++ ns) p ∙ ap (λ (l : List ℕ). item_at slot m p ∷ l) (named-append slot ms ns p)
    ∙ ap (λ (l : List ℕ). l ++ items_named slot ns p) (sym (named-first slot m ms p))

-- which tests are held, where their items are these
pub named-head : (slot x : ℕ) (ns rest : List ℕ) (p : Plan) → items_named slot ns p ≡ item_at slot x p ∷ rest
    → (more : List ℕ) × (ns ≡ x ∷ more) × (rest ≡ items_named slot more p)
named-head slot x [] rest p h = (let e : [] ≡ item_at slot x p ∷ rest = sym (named-none slot p) ∙ h in absurd cc)
named-head slot x (n ∷ ns) rest p h =
    let e : item_at slot n p ∷ items_named slot ns p ≡ item_at slot x p ∷ rest = sym (named-first slot n ns p) ∙ h in
    let head : item_at slot n p ≡ item_at slot x p = cc in
    let tail : items_named slot ns p ≡ rest = cc in
    (ns, ap (λ (y : ℕ). y ∷ ns) (item-same slot n x p head), sym tail)

pub same-items : (slot m : ℕ) (ns : List ℕ) (p : Plan) → among (item_at slot m p) (items_named slot ns p) ≡ among m ns
same-items slot m [] p = ap (among (item_at slot m p)) (named-none slot p)
same-items slot m (n ∷ ns) p =
    let rest = same-items slot m ns p in
    let e : among (item_at slot m p) (items_named slot (n ∷ ns) p) ≡ among (item_at slot m p) (item_at slot n p ∷ items_named slot ns p) = ap (among (item_at slot m p)) (named-first slot n ns p) in
    elim (cases_of (m == n)) [
      | inl h ↦ (let same : m ≡ n = grind (arith, nat_tests, h) in e ∙ subst (λ (k : ℕ). among (item_at slot m p) (item_at slot k p ∷ items_named slot ns p) ≡ among m (k ∷ ns)) same (grind (arith, nat_tests)))
      | inr h ↦ (let other : (item_at slot m p == item_at slot n p) ≡ false = apart h in e ∙ grind (arith, nat_tests, rest, other, h))
    ]
  where
    apart : (m == n) ≡ false → (item_at slot m p == item_at slot n p) ≡ false
    apart h = elim (cases_of (item_at slot m p == item_at slot n p)) [
      | inl k ↦ (let i : item_at slot m p ≡ item_at slot n p = grind (arith, nat_tests, k) in
          let same : m ≡ n = item-same slot m n p i in absurd (differ (sym h ∙ grind (arith, nat_tests, same))))
      | inr k ↦ k
    ]

pub named-without : (slot : ℕ) (ns L : List ℕ) (p : Plan)
    → without (items_named slot ns p) (items_named slot L p) ≡ items_named slot (without ns L) p
named-without slot ns [] p = ap (without (items_named slot ns p)) (named-none slot p) ∙ sym (named-none slot p)
named-without slot ns (x ∷ L) p = ap (without (items_named slot ns p)) (named-first slot x L p)
    ∙ go (named-without slot ns L p) (among x ns) refl
  where
    go : without (items_named slot ns p) (items_named slot L p) ≡ items_named slot (without ns L) p → (b : Bool)
        → among x ns ≡ b
        → without (items_named slot ns p) (item_at slot x p ∷ items_named slot L p) ≡ items_named slot (without ns (x ∷ L)) p
    go rest true h =
        ap (λ (q : Bool). if not q then item_at slot x p ∷ without (items_named slot ns p) (items_named slot L p) else without (items_named slot ns p) (items_named slot L p)) (same-items slot x ns p ∙ h)
        ∙ rest ∙ ap (λ (l : List ℕ). items_named slot l p) (sym (ap (λ (q : Bool). if not q then x ∷ without ns L else without ns L) h))
    go rest false h =
        ap (λ (q : Bool). if not q then item_at slot x p ∷ without (items_named slot ns p) (items_named slot L p) else without (items_named slot ns p) (items_named slot L p)) (same-items slot x ns p ∙ h)
        ∙ ap (λ (l : List ℕ). item_at slot x p ∷ l) (rest) ∙ sym (named-first slot x (without ns L) p)
        ∙ ap (λ (l : List ℕ). items_named slot l p) (sym (ap (λ (q : Bool). if not q then x ∷ without ns L else without ns L) h))

pub among-named : (slot x : ℕ) (L rest : List ℕ) (p : Plan) → among x L ≡ true
    → all_among (items_named slot L p) rest ≡ true → among (item_at slot x p) rest ≡ true
among-named slot x L rest p h k =
    among_of-all_among (item_at slot x p) (items_named slot L p) rest k (same-items slot x L p ∙ h)

pub named-distinct : (slot : ℕ) (ns : List ℕ) (p : Plan) → all_distinct (items_named slot ns p) ≡ true
    → all_distinct ns ≡ true
named-distinct slot [] p h = refl
named-distinct slot (n ∷ ns) p h =
    let d = split-and (not (among (item_at slot n p) (items_named slot ns p))) (all_distinct (items_named slot ns p)) (sym (ap all_distinct (named-first slot n ns p)) ∙ h) in
    and (ap not (sym (same-items slot n ns p)) ∙ d.0) (named-distinct slot ns p d.1)

pub named-injective : (slot : ℕ) (ms ns : List ℕ) (p : Plan) → items_named slot ms p ≡ items_named slot ns p → ms ≡ ns
named-injective slot [] [] p h = refl
named-injective slot [] (n ∷ ns) p h =
    absurd (let e : [] ≡ item_at slot n p ∷ items_named slot ns p = sym (named-none slot p) ∙ h ∙ named-first slot n ns p in cc)
named-injective slot (m ∷ ms) [] p h =
    absurd (let e : item_at slot m p ∷ items_named slot ms p ≡ [] = sym (named-first slot m ms p) ∙ h ∙ named-none slot p in cc)
named-injective slot (m ∷ ms) (n ∷ ns) p h =
    let e : item_at slot m p ∷ items_named slot ms p ≡ item_at slot n p ∷ items_named slot ns p = sym (named-first slot m ms p)
    ∙ h ∙ named-first slot n ns p in
    let head : item_at slot m p ≡ item_at slot n p = cc in
    let tail : items_named slot ms p ≡ items_named slot ns p = cc in
    ap (λ (y : ℕ). y ∷ ms) (item-same slot m n p head)
    ∙ ap (λ (l : List ℕ). n ∷ l) (named-injective slot ms ns p tail)

pub named-filter : (slot : ℕ) (ns L : List ℕ) (p : Plan)
    → filter (λ y. among y (items_named slot ns p)) (items_named slot L p) ≡ items_named slot (filter (λ y. among y ns) L) p
named-filter slot ns [] p = ap (filter (λ y. among y (items_named slot ns p))) (named-none slot p)
    ∙ sym (named-none slot p)
named-filter slot ns (x ∷ L) p = ap (filter (λ y. among y (items_named slot ns p))) (named-first slot x L p)
    ∙ go (named-filter slot ns L p) (among x ns) refl
  where
    go : filter (λ y. among y (items_named slot ns p)) (items_named slot L p) ≡ items_named slot (filter (λ y. among y ns) L) p
        → (b : Bool) → among x ns ≡ b
        → filter (λ y. among y (items_named slot ns p)) (item_at slot x p ∷ items_named slot L p) ≡ items_named slot (filter (λ y. among y ns) (x ∷ L)) p
    go rest true h =
        ap (λ (q : Bool). if q then item_at slot x p ∷ filter (λ y. among y (items_named slot ns p)) (items_named slot L p) else filter (λ y. among y (items_named slot ns p)) (items_named slot L p)) (same-items slot x ns p ∙ h)
        ∙ ap (λ (l : List ℕ). item_at slot x p ∷ l) (rest) ∙ sym (named-first slot x (filter (λ y. among y ns) L) p)
        ∙ ap (λ (l : List ℕ). items_named slot l p) (sym (ap (λ (q : Bool). if q then x ∷ filter (λ y. among y ns) L else filter (λ y. among y ns) L) h))
    go rest false h =
        ap (λ (q : Bool). if q then item_at slot x p ∷ filter (λ y. among y (items_named slot ns p)) (items_named slot L p) else filter (λ y. among y (items_named slot ns p)) (items_named slot L p)) (same-items slot x ns p ∙ h)
        ∙ rest ∙ ap (λ (l : List ℕ). items_named slot l p) (sym (ap (λ (q : Bool). if q then x ∷ filter (λ y. among y ns) L else filter (λ y. among y ns) L) h))
