-- Collections: where they differ, and which one is kept for a slot.
use Rattle.std.proofs.Common.{◌≡◌, ℕ, zero, suc, ◌+◌, ◌<◌, ◌≤◌, List, [], ◌∷◌, ◌++◌, take, drop, length, get_or, refl, ap, sym, ◌∙◌, arith, Bool, true, false, not, ◌&&◌, ◌||◌, cond, Result, Ok, Err}
use Rattle.std.specs.Prelude.{Option, Some, None, OnOk, OnErr}
use Rattle.std.proofs.lemmas.Bool.Decides.{nat_tests}
use Rattle.std.proofs.lemmas.List.{take_more, take-append-drop}
use Rattle.std.proofs.lemmas.List.Folds.{list_all-append, list_any-append}
use Rattle.std.proofs.lemmas.Map.Text.{is_eq-slice_cmp}
use Rattle.std.specs.List.{list_all, list_any}
use Rattle.std.specs.Borrow.{Bor}
use Rattle.std.specs.BTreeSet.{BTreeSet, contains, Updates}
use Rattle.std.specs.Cmp.Lexicographic.{slice_cmp}
use Rattle.std.specs.declared.cmp.Ordering.{Ordering}
use Rattle.std.specs.Ordering.{is_eq, nat_cmp}
use Rattle.std.specs.Str.{bytes_eq, encode_utf8_all}
use Rattle.xd_edge.proofs.TextLemmas.{bytes_eq-encodes, bytes_eq-sym}
use Rattle.xd_run.specs.declared.member.Listed.{Listed}
use Rattle.xd_journal.specs.declared.entry.Ids.TheVariants as ids
use Rattle.xd_run.specs.Books.{Books}
use Rattle.xd_run.specs.Collections.{ids_of, key, listed, listed_in, lists_with, with_list}
use Rattle.xd_run.specs.Proper.{no_text_twice}
use Rattle.xd_session_books.specs.Compared.{comparison, ids_to_list, place_in_lists}

-- a collection that is kept is as all others are
pub all_with : (p : Listed → Bool) (o : Option Listed) (l : Listed) (ls : List Listed) → list_all p ls ≡ true → p l ≡ true → list_all p (lists_with o l ls) ≡ true
all_with p (Some first) l ls all one = all
all_with p None l ls all one = list_all-append p ls (l ∷ []) ∙ rw (all, one) refl

-- where memory runs out none is kept
pub all_listed : {A B : Type 0} → (r : Result A B) (p : Listed → Bool) (b c : Books) (w : ℕ) (own : List (List ℕ)) → OnOk r (c ≡ with_list w (ids.List own) b) → OnErr r (c ≡ b)
    → list_all p b.lists ≡ true → p (record { slot = key w b; worker = w; ids = own }) ≡ true → list_all p c.lists ≡ true
all_listed (Ok x) p b c w own ok err all one = ap (λ (d : Books). list_all p d.lists) ok ∙ all_with p (listed w b) (record { slot = key w b; worker = w; ids = own }) b.lists all one
all_listed (Err x) p b c w own ok err all one = ap (λ (d : Books). list_all p d.lists) err ∙ all

pub settings_stay : {A B : Type 0} → (r : Result A B) (b c : Books) (w : ℕ) (own : List (List ℕ)) → OnOk r (c ≡ with_list w (ids.List own) b) → OnErr r (c ≡ b) → c.settings ≡ b.settings
settings_stay (Ok x) b c w own ok err = ap (λ (d : Books). d.settings) ok
settings_stay (Err x) b c w own ok err = ap (λ (d : Books). d.settings) err

-- an equal collection is kept by no one
pub given-list : (o : Option Listed) (slot worker : ℕ) (own : List (List ℕ)) (ls : List Listed)
    → lists_with o (record { slot = slot; worker = worker; ids = own }) ls ≡ lists_with o (record { slot = slot; worker = worker; ids = ids_of (ids_to_list (comparison own o) own) }) ls
given-list None slot worker own ls = refl
given-list (Some first) slot worker own ls = refl

-- the collection of a slot

pub place-more : (w : ℕ) (ls : List Listed) (i : ℕ) (d : Listed) → i < length ls → ((get_or ls i d).slot ≡ w → ⊥) → place_in_lists w (drop i ls) ≡ suc (place_in_lists w (drop (i + 1) ls))
place-more w [] i d h e = absurd (omega arith)
place-more w (l ∷ ls) zero d h e = grind (arith, nat_tests)
place-more w (l ∷ ls) (suc i) d h e =
    let z : suc i + 1 ≡ suc (i + 1) = omega arith in
    place-more w ls i d (omega arith) e ∙ ap (λ n. suc (place_in_lists w (drop n (l ∷ ls)))) (sym z)

pub place-here : (w : ℕ) (ls : List Listed) (i : ℕ) (d : Listed) → i < length ls → (get_or ls i d).slot ≡ w → place_in_lists w (drop i ls) ≡ 0
place-here w [] i d h e = absurd (omega arith)
place-here w (l ∷ ls) zero d h e = grind (arith, nat_tests)
place-here w (l ∷ ls) (suc i) d h e = place-here w ls i d (omega arith) e

list-at : (w : ℕ) (ls : List Listed) (d : Listed) → place_in_lists w ls < length ls → listed_in w ls ≡ Some (get_or ls (place_in_lists w ls) d)
list-at w [] d h = absurd (omega arith)
list-at w (l ∷ ls) d h = grind (arith, nat_tests, list-at w ls d)

list-none : (w : ℕ) (ls : List Listed) → length ls ≤ place_in_lists w ls → listed_in w ls ≡ None
list-none w [] h = refl
list-none w (l ∷ ls) h = grind (arith, nat_tests, list-none w ls)

pub list-found : (w p : ℕ) (ls : List Listed) (x : Listed) → p ≡ place_in_lists w ls → p < length ls → x ≡ get_or ls p x → listed_in w ls ≡ Some x
list-found w p ls x k h g =
    let q : place_in_lists w ls < length ls = omega arith in
    list-at w ls x q ∙ ap (λ n. Some (get_or ls n x)) (sym k) ∙ ap (λ y. Some y) (sym g)

pub list-missing : (w p : ℕ) (ls : List Listed) → p ≡ place_in_lists w ls → length ls ≤ p → listed_in w ls ≡ None
list-missing w p ls k h = list-none w ls (omega (arith, k, h))

-- texts that stand once

abbrev pub TextSet : Type 0
TextSet = BTreeSet (Bor (List ℕ))

abbrev pub text_order : Bor (List ℕ) → Bor (List ℕ) → Ordering
text_order x y = slice_cmp nat_cmp x.now y.now

abbrev pub to_text : List ℕ → Bor (List ℕ)
to_text bs = record { ref_ptr = (0, 0); now = bs }

-- the set has the text of these characters
abbrev pub has_seen : TextSet → List ℕ → Bool
has_seen s cs = contains text_order s (to_text (encode_utf8_all cs))

-- the first i texts stand once, and are in the set
pub record LookedThrough (texts : List (List ℕ)) (i : ℕ) (seen : TextSet) : Type 0 where
  pub once : no_text_twice (take i texts) ≡ true
  pub known : (cs : List ℕ) → has_seen seen cs ≡ list_any (bytes_eq cs) (take i texts)

or-last : (b c : Bool) → (b || c) ≡ (c || (b || false))
or-last true true = refl
or-last true false = refl
or-last false true = refl
or-last false false = refl

cond-or : (b c : Bool) → cond b true c ≡ (b || c)
cond-or true c = refl
cond-or false c = refl

seen-insert : (old new : TextSet) (id cs : List ℕ) (key : Bor (List ℕ)) → key.now ≡ encode_utf8_all id → Updates text_order old new key true → has_seen new cs ≡ (bytes_eq id cs || has_seen old cs)
seen-insert old new id cs key is updates =
    let at : is_eq (slice_cmp nat_cmp key.now (encode_utf8_all cs)) ≡ bytes_eq id cs =
    ap (λ (l : List ℕ). is_eq (slice_cmp nat_cmp l (encode_utf8_all cs))) is ∙ is_eq-slice_cmp (encode_utf8_all id) (encode_utf8_all cs) ∙ bytes_eq-encodes id cs in
    updates.0 (to_text (encode_utf8_all cs)) ∙ ap (λ (b : Bool). cond b true (has_seen old cs)) at ∙ cond-or (bytes_eq id cs) (has_seen old cs)

was-not : (b : Bool) → true ≡ not b → b ≡ false
was-not true e = e
was-not false e = refl

was : (b : Bool) → false ≡ not b → b ≡ true
was true e = refl
was false e = e

-- one more text stands once where it did not stand yet
not-or : (a b c d : Bool) → (not (a || (b || false)) && (c && not d)) ≡ ((not a && c) && not (b || d))
not-or true b c d = refl
not-or false true true d = refl
not-or false true false d = refl
not-or false false c d = refl

twice-more : (xs : List (List ℕ)) (x : List ℕ) → no_text_twice (xs ++ x ∷ []) ≡ (no_text_twice xs && not (list_any (bytes_eq x) xs))
twice-more [] x = refl
twice-more (y ∷ xs) x =
    let p : list_any (bytes_eq y) (xs ++ x ∷ []) ≡ (list_any (bytes_eq y) xs || (bytes_eq y x || false)) = list_any-append (bytes_eq y) xs (x ∷ []) in
    let q = twice-more xs x in
    ap (λ b. not b && no_text_twice (xs ++ x ∷ [])) p ∙ ap (λ b. not (list_any (bytes_eq y) xs || (bytes_eq y x || false)) && b) q
    ∙ not-or (list_any (bytes_eq y) xs) (bytes_eq y x) (no_text_twice xs) (list_any (bytes_eq x) xs)
    ∙ ap (λ b. (not (list_any (bytes_eq y) xs) && no_text_twice xs) && not (b || list_any (bytes_eq x) xs)) (bytes_eq-sym y x)

and-no : (a b : Bool) → b ≡ false → (a && b) ≡ false
and-no true b h = h
and-no false b h = refl

twice-by : (a b c d : Bool) → (c ≡ false → d ≡ false) → (not a && c) ≡ false → (not (a || b) && d) ≡ false
twice-by true b c d f h = refl
twice-by false true c d f h = refl
twice-by false false c d f h = f h

-- what stands twice in a first part stands twice
twice-part : (xs ys : List (List ℕ)) → no_text_twice xs ≡ false → no_text_twice (xs ++ ys) ≡ false
twice-part [] ys h = cc
twice-part (x ∷ xs) ys h =
    let p : list_any (bytes_eq x) (xs ++ ys) ≡ (list_any (bytes_eq x) xs || list_any (bytes_eq x) ys) = list_any-append (bytes_eq x) xs ys in
    ap (λ b. not b && no_text_twice (xs ++ ys)) p ∙ twice-by (list_any (bytes_eq x) xs) (list_any (bytes_eq x) ys) (no_text_twice xs) (no_text_twice (xs ++ ys)) (twice-part xs ys) h

module _ (texts : List (List ℕ)) (i : ℕ) (d : List ℕ) (within : i < length texts) where
  abbrev text : List ℕ
  text = get_or texts i d

  one_more : take (i + 1) texts ≡ take i texts ++ text ∷ []
  one_more = take_more texts i d within

  module _ (seen : TextSet) (key : Bor (List ℕ)) (is : key.now ≡ encode_utf8_all text) (before : LookedThrough texts i seen) where
    stood : contains text_order seen key ≡ list_any (bytes_eq text) (take i texts)
    stood = ap (λ (l : List ℕ). contains text_order seen (to_text l)) is ∙ before.known text

    once_more : no_text_twice (take (i + 1) texts) ≡ (true && not (contains text_order seen key))
    once_more = ap no_text_twice one_more ∙ twice-more (take i texts) text ∙ ap (λ b. b && not (list_any (bytes_eq text) (take i texts))) before.once ∙ ap (λ b. true && not b) (sym stood)

    pub look_further : (new : TextSet) → true ≡ not (contains text_order seen key) → Updates text_order seen new key true → LookedThrough texts (i + 1) new
    look_further new fresh updates =
        record {
          once = once_more ∙ sym fresh;
          known = λ cs. seen-insert seen new text cs key is updates ∙ ap (λ (b : Bool). bytes_eq text cs || b) (before.known cs)
              ∙ or-last (bytes_eq text cs) (list_any (bytes_eq cs) (take i texts))
              ∙ ap (λ (b : Bool). list_any (bytes_eq cs) (take i texts) || (b || false)) (bytes_eq-sym text cs)
              ∙ sym (ap (list_any (bytes_eq cs)) one_more ∙ list_any-append (bytes_eq cs) (take i texts) (text ∷ []));
        }

    pub found : false ≡ not (contains text_order seen key) → false ≡ no_text_twice texts
    found again = sym (ap no_text_twice (sym (take-append-drop (i + 1) texts)) ∙ twice-part (take (i + 1) texts) (drop (i + 1) texts) (once_more ∙ sym again))
