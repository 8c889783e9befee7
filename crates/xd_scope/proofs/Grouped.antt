-- Tests join the units of their scopes.
use Rattle.std.proofs.Common.{◌≡◌, ℕ, suc, ◌+◌, ◌<◌, List, [], ◌∷◌, ◌++◌, take, length, get_or, set, map, Bool, true, false, cond, Option, Some, None, refl, ap, sym, ◌∙◌, arith, inl, inr}
use Rattle.std.specs.Prelude.{if◌then◌else◌, option_map}
use Rattle.std.specs.BTreeMap.{BTreeMap, get_by}
use Rattle.std.specs.Cmp.Lexicographic.{slice_cmp}
use Rattle.std.specs.Map.{update}
use Rattle.std.specs.Ordering.{nat_cmp}
use Rattle.std.specs.Str.{IsUtf8, bytes_eq, chars, encode_utf8_all}
use Rattle.std.proofs.lemmas.Bool.{cases_Bool}
use Rattle.std.proofs.lemmas.Bool.Decides.{nat_tests}
use Rattle.std.proofs.lemmas.List.{length-map, length-take-le, map-append, take_more}
use Rattle.std.proofs.lemmas.Str.{encodes-chars}
use denote.Ref.{Bor}
use Rattle.xd_edge.specs.declared.mode.ModeKind.{ModeKind}
use Rattle.xd_run.specs.Scopes.{scope_of}
use Rattle.xd_run.specs.Units.{Group, added, grouped}
use Rattle.xd_scope.specs.Stands.{AreGrouped, place_of_scope}

-- texts are the same where their characters are

eq-self : (xs : List ℕ) → bytes_eq xs xs ≡ true
eq-self [] = refl
eq-self (x ∷ xs) = grind (arith, nat_tests, eq-self xs)

eq-is : (xs ys : List ℕ) → bytes_eq xs ys ≡ true → xs ≡ ys
eq-is [] [] h = refl
eq-is [] (y ∷ ys) h = absurd (cc)
eq-is (x ∷ xs) [] h = absurd (cc)
eq-is (x ∷ xs) (y ∷ ys) h =
    let a : x ≡ y = grind (arith, nat_tests) in
    let b : bytes_eq xs ys ≡ true = grind (arith, nat_tests) in
    let r = eq-is xs ys b in cc

same-chars : (a b : List ℕ) → IsUtf8 a → IsUtf8 b → bytes_eq (chars a) (chars b) ≡ bytes_eq a b
same-chars a b u v = elim (cases_Bool (bytes_eq a b)) [
  | inl h ↦ ap (λ (z : List ℕ). bytes_eq (chars a) (chars z)) (sym (eq-is a b h)) ∙ eq-self (chars a) ∙ sym h
  | inr h ↦ (elim (cases_Bool (bytes_eq (chars a) (chars b))) [
    | inr k ↦ k ∙ sym h
    | inl k ↦
        (let e = sym (encodes-chars a u) ∙ ap encode_utf8_all (eq-is (chars a) (chars b) k) ∙ encodes-chars b v in
        let t : bytes_eq a b ≡ true = ap (bytes_eq a) (sym e) ∙ eq-self a in k ∙ sym t)
  ])
]

-- the place of a scope

unmap : (o : Option ℕ) (k : ℕ) → option_map suc o ≡ Some k → (j : ℕ) × (o ≡ Some j) × (k ≡ suc j)
unmap None k h = absurd (cc)
unmap (Some j) k h = (j, refl, cc)

unmap-none : (o : Option ℕ) → option_map suc o ≡ None → o ≡ None
unmap-none None h = refl
unmap-none (Some j) h = absurd (cc)

at-first : (b : Bool) (o q : Option ℕ) → b ≡ true → (if b then Some 0 else o) ≡ q → Some 0 ≡ q
at-first b o q h e = sym (ap (λ (c : Bool). if c then Some 0 else o) h) ∙ e

at-later : (b : Bool) (o q : Option ℕ) → b ≡ false → (if b then Some 0 else o) ≡ q → o ≡ q
at-later b o q h e = sym (ap (λ (c : Bool). if c then Some 0 else o) h) ∙ e

place-found : (scope : List ℕ) (gs : List Group) (k : ℕ) → place_of_scope scope gs ≡ Some k → k < length gs
place-found scope [] k h = absurd (cc)
place-found scope (g ∷ gs) k h = elim (cases_Bool (bytes_eq g.scope scope)) [
  | inl b ↦ (let e : k ≡ 0 = (let s = at-first (bytes_eq g.scope scope) (option_map suc (place_of_scope scope gs)) (Some k) b h in cc) in omega arith)
  | inr b ↦
      (let r = unmap (place_of_scope scope gs) k (at-later (bytes_eq g.scope scope) (option_map suc (place_of_scope scope gs)) (Some k) b h) in
      let p = place-found scope gs r.0 r.1 in omega (arith, p, r.2))
]

abbrev pub tests_in : List Group → List (List ℕ)
tests_in gs = map (λ g. g.tests) gs

added-found : (scope : List ℕ) (test : ℕ) (gs : List Group) (k : ℕ) → place_of_scope scope gs ≡ Some k → tests_in (added scope test gs) ≡ set (tests_in gs) k (get_or (tests_in gs) k [] ++ test ∷ [])
added-found scope test [] k h = absurd (cc)
added-found scope test (g ∷ gs) k h = elim (cases_Bool (bytes_eq g.scope scope)) [
  | inl b ↦ (let e : k ≡ 0 = (let s = at-first (bytes_eq g.scope scope) (option_map suc (place_of_scope scope gs)) (Some k) b h in cc) in rw (b, e))
  | inr b ↦
      (let r = unmap (place_of_scope scope gs) k (at-later (bytes_eq g.scope scope) (option_map suc (place_of_scope scope gs)) (Some k) b h) in
      let e : k ≡ suc r.0 = r.2 in
      rw (b, e) (ap (λ (vs : List (List ℕ)). g.tests ∷ vs) (added-found scope test gs r.0 r.1)))
]

added-place : (scope : List ℕ) (test : ℕ) (gs : List Group) (key : List ℕ) (k : ℕ) → place_of_scope scope gs ≡ Some k → place_of_scope key (added scope test gs) ≡ place_of_scope key gs
added-place scope test [] key k h = absurd (cc)
added-place scope test (g ∷ gs) key k h = elim (cases_Bool (bytes_eq g.scope scope)) [
  | inl b ↦ rw b
  | inr b ↦
      (let r = unmap (place_of_scope scope gs) k (at-later (bytes_eq g.scope scope) (option_map suc (place_of_scope scope gs)) (Some k) b h) in
      rw b (ap (λ (o : Option ℕ). if bytes_eq g.scope key then Some 0 else option_map suc o) (added-place scope test gs key r.0 r.1)))
]

abbrev new_group : List ℕ → ℕ → Group
new_group scope test = record { scope = scope; tests = test ∷ [] }

added-new : (scope : List ℕ) (test : ℕ) (gs : List Group) → place_of_scope scope gs ≡ None → added scope test gs ≡ gs ++ new_group scope test ∷ []
added-new scope test [] h = refl
added-new scope test (g ∷ gs) h = elim (cases_Bool (bytes_eq g.scope scope)) [
  | inl b ↦ absurd (let s = at-first (bytes_eq g.scope scope) (option_map suc (place_of_scope scope gs)) None b h in cc)
  | inr b ↦
      (let r = unmap-none (place_of_scope scope gs) (at-later (bytes_eq g.scope scope) (option_map suc (place_of_scope scope gs)) None b h) in
      rw b (ap (λ (hs : List Group). g ∷ hs) (added-new scope test gs r)))
]

place-new : (scope key : List ℕ) (test : ℕ) (gs : List Group) → place_of_scope scope gs ≡ None
    → place_of_scope key (gs ++ new_group scope test ∷ []) ≡ (if bytes_eq scope key then Some (length gs) else place_of_scope key gs)
place-new scope key test [] h = refl
place-new scope key test (g ∷ gs) h = elim (cases_Bool (bytes_eq g.scope scope)) [
  | inl b ↦ absurd (let s = at-first (bytes_eq g.scope scope) (option_map suc (place_of_scope scope gs)) None b h in cc)
  | inr b ↦
      (let r = unmap-none (place_of_scope scope gs) (at-later (bytes_eq g.scope scope) (option_map suc (place_of_scope scope gs)) None b h) in
      let i = place-new scope key test gs r in
      elim (cases_Bool (bytes_eq scope key)) [
        | inl k ↦ (let f : bytes_eq g.scope key ≡ false = ap (bytes_eq g.scope) (sym (eq-is scope key k)) ∙ b in rw (f, i, k))
        | inr k ↦ rw (i, k)
      ])
]

-- one test more

pub place-fits : (gs : List Group) (places : BTreeMap (Bor (List ℕ)) ℕ) (us : List (List ℕ)) (s : List ℕ) (place : ℕ) → IsUtf8 s → AreGrouped gs places us → get_by (λ k. slice_cmp nat_cmp s k.now) places ≡ Some place → place < length us
place-fits gs places us s place u a e =
    let p = place-found (chars s) gs place (sym (a.places_are s u) ∙ e) in
    omega (arith, p, ap length a.units_are, length-map gs (λ (g : Group). g.tests))

pub found-step : (gs : List Group) (places : BTreeMap (Bor (List ℕ)) ℕ) (us now : List (List ℕ)) (s : List ℕ) (test place : ℕ) → IsUtf8 s → AreGrouped gs places us → get_by (λ k. slice_cmp nat_cmp s k.now) places ≡ Some place
    → now ≡ set us place (get_or us place [] ++ test ∷ []) → AreGrouped (added (chars s) test gs) places now
found-step gs places us now s test place u a e f =
    let h : place_of_scope (chars s) gs ≡ Some place = sym (a.places_are s u) ∙ e in
    record {
      units_are = f ∙ ap (λ (vs : List (List ℕ)). set vs place (get_or vs place [] ++ test ∷ [])) a.units_are ∙ sym (added-found (chars s) test gs place h);
      places_are = λ bs v. a.places_are bs v ∙ sym (added-place (chars s) test gs (chars bs) place h);
    }

pub new-step : (gs : List Group) (places now_places : BTreeMap (Bor (List ℕ)) ℕ) (us now : List (List ℕ)) (s : List ℕ) (test n : ℕ) → IsUtf8 s → AreGrouped gs places us → get_by (λ k. slice_cmp nat_cmp s k.now) places ≡ None
    → n ≡ length us → ((cs : List ℕ) → get_by (λ k. slice_cmp nat_cmp cs k.now) now_places ≡ update bytes_eq (λ ds. get_by (λ k. slice_cmp nat_cmp ds k.now) places) s (Some n) cs)
    → now ≡ us ++ (test ∷ []) ∷ [] → AreGrouped (added (chars s) test gs) now_places now
new-step gs places now_places us now s test n u a e len new f =
    let h : place_of_scope (chars s) gs ≡ None = sym (a.places_are s u) ∙ e in
    let grown = added-new (chars s) test gs h in
    let count : n ≡ length gs = omega (arith, len, ap length a.units_are, length-map gs (λ (g : Group). g.tests)) in
    record {
      units_are = f ∙ ap (λ (vs : List (List ℕ)). vs ++ (test ∷ []) ∷ []) a.units_are ∙ sym (ap tests_in grown ∙ map-append (λ (g : Group). g.tests) gs (new_group (chars s) test ∷ []));
      places_are = λ bs v.
          (new bs ∙ ap (λ (b : Bool). cond b (Some n) (get_by (λ k. slice_cmp nat_cmp bs k.now) places)) (sym (same-chars s bs u v))
          ∙ ap (λ (m : ℕ). cond (bytes_eq (chars s) (chars bs)) (Some m) (get_by (λ k. slice_cmp nat_cmp bs k.now) places)) count
          ∙ ap (λ (o : Option ℕ). cond (bytes_eq (chars s) (chars bs)) (Some (length gs)) o) (a.places_are bs v)
          ∙ sym (ap (place_of_scope (chars bs)) grown ∙ place-new (chars s) (chars bs) test gs h));
    }

-- the next id

grouped-last : (mode : ModeKind) (k : ℕ) (ids : List (List ℕ)) (id : List ℕ) (gs : List Group) → grouped mode k (ids ++ id ∷ []) gs ≡ added (scope_of mode id) (k + length ids) (grouped mode k ids gs)
grouped-last mode k [] id gs = ap (λ (n : ℕ). added (scope_of mode id) n gs) (omega arith)
grouped-last mode k (x ∷ ids) id gs =
    grouped-last mode (k + 1) ids id (added (scope_of mode x) k gs)
    ∙ ap (λ (n : ℕ). added (scope_of mode id) n (grouped mode k (x ∷ ids) gs)) (omega arith)

pub grouped-next : (mode : ModeKind) (ids : List (List ℕ)) (k : ℕ) (id scope : List ℕ) → k < length ids → id ≡ get_or ids k id → scope ≡ scope_of mode id
    → added scope k (grouped mode 0 (take k ids) []) ≡ grouped mode 0 (take (k + 1) ids) []
grouped-next mode ids k id scope h at e =
    let n : 0 + length (take k ids) ≡ k = ap (λ (m : ℕ). 0 + m) (length-take-le k ids (omega arith)) ∙ omega arith in
    let cut = take_more ids k id h in
    let one = ap (λ (xs : List (List ℕ)). grouped mode 0 xs []) cut ∙ grouped-last mode 0 (take k ids) (get_or ids k id) [] in
    let two = ap (λ (x : List ℕ). added (scope_of mode x) (0 + length (take k ids)) (grouped mode 0 (take k ids) [])) (sym at) in
    let three = ap (λ (m : ℕ). added (scope_of mode id) m (grouped mode 0 (take k ids) [])) n in
    ap (λ (x : List ℕ). added x k (grouped mode 0 (take k ids) [])) e ∙ sym (one ∙ two ∙ three)
