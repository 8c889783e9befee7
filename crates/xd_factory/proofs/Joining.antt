-- A number joins the runs: what becomes of the map from the first number of each run to its last.
use Rattle.std.proofs.Common.{◌≡◌, ℕ, ◌+◌, ◌-◌, ◌<◌, ◌≤◌, ◌⊎◌, inl, inr, Bool, true, false, Option, Some, None, refl, sym, ap, subst, ◌∙◌, arith}
use Rattle.std.specs.Prelude.{◌||◌, ◌==◌, cond}
use Rattle.std.specs.Option.{IsSome, is_some, unwrap_or}
use Rattle.std.specs.Ordering.{nat_cmp}
use Rattle.std.specs.List.{list_any}
use Rattle.std.specs.BTreeMap.{BTreeMap, get, is_at, IsOrdered}
use Rattle.std.proofs.lemmas.Bool.{cases_order, cases_eq, cases_lt, cases_Bool, or_cases, eqb-true}
use Rattle.std.proofs.lemmas.Bool.Decides.{nat_tests}
use Rattle.xd_factory.specs.inner.Runs.{is_between}
use Rattle.xd_factory.proofs.Spans.{Forward, Apart, Covers, some_of, one_value, covered, covering, has_is}

at_yes : (a q : ℕ) → q ≡ a → is_at (nat_cmp a) q ≡ true
at_yes a q h = grind (arith, nat_tests)

at_no : (a q : ℕ) → (q ≡ a → ⊥) → is_at (nat_cmp a) q ≡ false
at_no a q h = elim (cases_Bool (is_at (nat_cmp a) q)) [
  | inl is ↦ absurd (h (grind (arith, nat_tests)))
  | inr is_not ↦ is_not
]

module _ (f mid g : ℕ → Option ℕ) (n a d : ℕ) (forward : Forward f) (apart : Apart f)
    (below : a ≤ n) (starts : a < n → f a ≡ Some (n - 1))
    (free : (q : ℕ) → (b : ℕ) → f q ≡ Some b → q ≤ n → b < n)
    (ends : (q : ℕ) → (b : ℕ) → f q ≡ Some b → b + 1 ≡ n → q ≡ a)
    (reach : d ≡ unwrap_or (f (n + 1)) n)
    (put : (q : ℕ) → mid q ≡ cond (is_at (nat_cmp a) q) (Some d) (f q))
    (taken : (q : ℕ) → g q ≡ cond (is_at (nat_cmp (n + 1)) q) None (mid q)) where
  -- the run after the number, if one begins there
  right : ((f (n + 1) ≡ Some d) × (n + 1 ≤ d)) ⊎ (d ≡ n)
  right = by_case (f (n + 1)) refl
    where
      by_case : (o : Option ℕ) → f (n + 1) ≡ o → ((f (n + 1) ≡ Some d) × (n + 1 ≤ d)) ⊎ (d ≡ n)
      by_case None e = inr (reach ∙ ap (λ (x : Option ℕ). unwrap_or x n) e)
      by_case (Some x) e = let same : d ≡ x = reach ∙ ap (λ (y : Option ℕ). unwrap_or y n) e in let z = forward (n + 1) x e in inl (e ∙ ap (λ (y : ℕ). Some y) (sym same), omega arith)

  far : n ≤ d
  far = elim right [ inl w ↦ let z = w.1 in omega arith | inr w ↦ omega arith ]

  none_between : (c : ℕ) → a < c → c ≤ n → IsSome (f c) → ⊥
  none_between c lt le is = let z = apart a (n - 1) c (starts (omega arith)) lt is in omega arith

  kept : (q : ℕ) → (q ≡ n + 1 → ⊥) → g q ≡ mid q
  kept q off = taken q ∙ ap (λ (b : Bool). cond b None (mid q)) (at_no (n + 1) q off)

  pub whole : g a ≡ Some d
  whole = kept a (λ e. omega arith) ∙ put a ∙ ap (λ (b : Bool). cond b (Some d) (f a)) (at_yes a a refl)

  others : (q : ℕ) → (q ≡ n + 1 → ⊥) → (q ≡ a → ⊥) → g q ≡ f q
  others q off away = kept q off ∙ put q ∙ ap (λ (b : Bool). cond b (Some d) (f q)) (at_no a q away)

  gone : g (n + 1) ≡ None
  gone = taken (n + 1) ∙ ap (λ (b : Bool). cond b None (mid (n + 1))) (at_yes (n + 1) (n + 1) refl)

  -- a run of the new ones is the joined one or an old one
  which : (q : ℕ) (b : ℕ) → g q ≡ Some b → ((q ≡ a) × (b ≡ d)) ⊎ ((f q ≡ Some b) × (q ≡ n + 1 → ⊥) × (q ≡ a → ⊥))
  which q b is = elim (cases_eq q (n + 1)) [
    | inl end ↦ absurd (let z : Some b ≡ None = sym is ∙ ap g end ∙ gone in cc)
    | inr off ↦ elim (cases_eq q a) [
      | inl same ↦ inl (same, one_value (g a) b d (sym (ap g same) ∙ is) whole)
      | inr away ↦ inr (sym (others q off away) ∙ is, off, away)
    ]
  ]

  pub new_forward : Forward g
  new_forward q b is = elim (which q b is) [
    | inl w ↦ let x = w.0 in let y = w.1 in let z = far in omega arith
    | inr w ↦ forward q b w.0
  ]

  following : (c : ℕ) → a < c → IsSome (f c) → (c ≡ n + 1 → ⊥) → d + 1 < c
  following c lt is off = elim (cases_lt n c) [
    | inr le ↦ absurd (none_between c lt le is)
    | inl past ↦ elim (cases_lt (n + 1) c) [
      | inr le ↦ absurd (off (omega arith))
      | inl more ↦ elim right [ inl w ↦ apart (n + 1) d c w.0 more is | inr w ↦ omega arith ]
    ]
  ]

  preceding : (q : ℕ) (b : ℕ) → f q ≡ Some b → q < a → (q ≡ a → ⊥) → b + 1 < a
  preceding q b is lt away = elim (cases_lt a n) [
    | inl less ↦ apart q b a is lt (ap is_some (starts less))
    | inr le ↦ let z = free q b is (omega arith) in elim (cases_lt (b + 1) n) [
      | inl y ↦ omega arith
      | inr y ↦ absurd (away (ends q b is (omega arith)))
    ]
  ]

  apart_from : (q : ℕ) (b : ℕ) (c : ℕ) (e : ℕ) → g q ≡ Some b → q < c → g c ≡ Some e → b + 1 < c
  apart_from q b c e is lt at = elim (which q b is) [
    | inl w ↦ elim (which c e at) [
      | inl v ↦ absurd (let x = w.0 in let y = v.0 in omega arith)
      | inr v ↦ let x = w.1 in let z = following c (let y = w.0 in omega arith) (ap is_some v.0) v.1 in omega arith
    ]
    | inr w ↦ elim (which c e at) [
      | inl v ↦ let x = v.0 in let z = preceding q b w.0 (omega arith) w.2 in omega arith
      | inr v ↦ apart q b c w.0 lt (ap is_some v.0)
    ]
  ]

  pub new_apart : Apart g
  new_apart q b c is lt at = let e = some_of (g c) at in apart_from q b c e.0 is lt e.1

  pub new_covers : (c : ℕ) → Covers g c → (n ≡ c) ⊎ Covers f c
  new_covers c h = elim (which h.0 h.1 h.2) [
    | inr w ↦ inr (h.0, h.1, w.0, h.3, h.4)
    | inl w ↦ let x = w.0 in let y = w.1 in let u = h.3 in let v = h.4 in elim (cases_order c n) [
      | inl same ↦ inl (sym same)
      | inr (inl less) ↦ inr (a, n - 1, starts (omega arith), omega arith, omega arith)
      | inr (inr more) ↦ elim right [ inl r ↦ inr (n + 1, d, r.0, omega arith, omega arith) | inr r ↦ absurd (omega arith) ]
    ]
  ]

  pub covers_number : Covers g n
  covers_number = (a, d, whole, below, far)

  pub keeps_covers : (c : ℕ) → Covers f c → Covers g c
  keeps_covers c h = elim (cases_eq h.0 (n + 1)) [
    | inl same ↦ let at : f (n + 1) ≡ Some h.1 = subst (λ (x : ℕ). f x ≡ Some h.1) same h.2 in
        let last : d ≡ h.1 = reach ∙ ap (λ (o : Option ℕ). unwrap_or o n) at in
        let u = h.3 in let v = h.4 in (a, d, whole, omega arith, omega arith)
    | inr off ↦ elim (cases_eq h.0 a) [
      | inl same ↦ let z = free h.0 h.1 h.2 (omega arith) in let u = h.3 in let v = h.4 in let y = far in (a, d, whole, omega arith, omega arith)
      | inr away ↦ (h.0, h.1, others h.0 off away ∙ h.2, h.3, h.4)
    ]
  ]

same_number : (n c : ℕ) → n ≡ c → (n == c) ≡ true
same_number n c h = grind (arith, nat_tests)

or_left : (a b : Bool) → a || b ≡ false → a ≡ true → ⊥
or_left true b h k = absurd (let z = h in cc)
or_left false b h k = absurd (let z = k in cc)

or_right : (a b : Bool) → a || b ≡ false → b ≡ true → ⊥
or_right true b h k = absurd (let z = h in cc)
or_right false b h k = absurd (let z : true ≡ false = sym k ∙ h in cc)

-- the numbers after the joining are those before it and the number
pub joined_has : (m mid t : BTreeMap ℕ ℕ) (n a d : ℕ) → IsOrdered nat_cmp m → IsOrdered nat_cmp t → Forward (get nat_cmp m) → Apart (get nat_cmp m)
    → a ≤ n → (a < n → get nat_cmp m a ≡ Some (n - 1))
    → ((q : ℕ) → (b : ℕ) → get nat_cmp m q ≡ Some b → q ≤ n → b < n)
    → ((q : ℕ) → (b : ℕ) → get nat_cmp m q ≡ Some b → b + 1 ≡ n → q ≡ a)
    → d ≡ unwrap_or (get nat_cmp m (n + 1)) n
    → ((q : ℕ) → get nat_cmp mid q ≡ cond (is_at (nat_cmp a) q) (Some d) (get nat_cmp m q))
    → ((q : ℕ) → get nat_cmp t q ≡ cond (is_at (nat_cmp (n + 1)) q) None (get nat_cmp mid q))
    → (c : ℕ) → list_any (is_between c) t.entries ≡ (n == c) || list_any (is_between c) m.entries
joined_has m mid t n a d om ot forward apart below starts free ends reach put taken c =
    sym (has_is t c ((n == c) || list_any (is_between c) m.entries) ot
    (λ h. elim (or_cases (n == c) (list_any (is_between c) m.entries) h) [
      | inl is ↦ subst (λ (x : ℕ). Covers (get nat_cmp t) x) (eqb-true n c is) (covers_number (get nat_cmp m) (get nat_cmp mid) (get nat_cmp t) n a d forward apart below starts free ends reach put taken)
      | inr is ↦ keeps_covers (get nat_cmp m) (get nat_cmp mid) (get nat_cmp t) n a d forward apart below starts free ends reach put taken c (covered m c om is)
    ])
    (λ h k. elim (new_covers (get nat_cmp m) (get nat_cmp mid) (get nat_cmp t) n a d forward apart below starts free ends reach put taken c k) [
      | inl is ↦ or_left (n == c) (list_any (is_between c) m.entries) h (same_number n c is)
      | inr is ↦ or_right (n == c) (list_any (is_between c) m.entries) h (covering m c is)
    ]))
