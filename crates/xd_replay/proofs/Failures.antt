-- The ids of failed reports, entry by entry, and each text once.
use Rattle.std.proofs.Common.{◌≡◌, ℕ, ◌+◌, ◌<◌, List, [], ◌∷◌, ◌++◌, take, length, get_or, refl, ap, sym, ◌∙◌, Bool, true, false, not, ◌||◌, cond}
use Rattle.std.specs.Prelude.{Option, Some, None, filter, if◌then◌else◌}
use Rattle.std.specs.List.{list_any}
use Rattle.std.specs.Str.{bytes_eq, encode_utf8_all}
use Rattle.std.proofs.lemmas.Grind.{fold-append}
use Rattle.std.proofs.lemmas.List.{take_more}
use Rattle.std.proofs.lemmas.List.Elements.{filter-append}
use Rattle.xd_edge.proofs.TextLemmas.{bytes_eq-encodes, bytes_eq-sym}
use Rattle.std.proofs.lemmas.Map.Text.{is_eq-slice_cmp}
use Rattle.std.proofs.lemmas.List.Folds.{list_any-append}
use Rattle.std.specs.BTreeSet.{contains, Updates}
use Rattle.std.specs.Borrow.{Bor}
use Rattle.std.specs.Cmp.Lexicographic.{slice_cmp}
use Rattle.std.specs.Ordering.{is_eq, nat_cmp}
use Rattle.xd_journal.specs.declared.entry.Entry.{Entry}
use Rattle.xd_run.specs.Sharing.{State}
use Rattle.xd_run.specs.State.{after_entries, after_entry, reached}
use Rattle.xd_report.specs.Blocks.{failed_id}
use Rattle.xd_session_books.proofs.Compares.{TextSet, has_seen, text_order, to_text}
use Rattle.xd_replay.specs.Failed.{each_once, failed_from, with_id}

pub with-more : (o : Option (List ℕ)) (xs ys : List (List ℕ)) → with_id o (xs ++ ys) ≡ with_id o xs ++ ys
with-more None xs ys = refl
with-more (Some x) xs ys = refl

failed-more : (s : State) (es fs : List Entry) → failed_from s (es ++ fs) ≡ failed_from s es ++ failed_from (after_entries s es) fs
failed-more s [] fs = refl
failed-more s (e ∷ es) fs =
    ap (with_id (failed_id (reached s e) e)) (failed-more (after_entry s e) es fs)
    ∙ with-more (failed_id (reached s e) e) (failed_from (after_entry s e) es) (failed_from (after_entries (after_entry s e) es) fs)

module _ (s : State) (es : List Entry) (i : ℕ) (e : Entry) (within : i < length es) (here : e ≡ get_or es i e) where
  one_more : take (i + 1) es ≡ take i es ++ e ∷ []
  one_more = take_more es i e within ∙ ap (λ x. take i es ++ x ∷ []) (sym here)

  pub failed-step : failed_from s (take (i + 1) es) ≡ failed_from s (take i es) ++ with_id (failed_id (reached (after_entries s (take i es)) e) e) []
  failed-step = ap (failed_from s) one_more ∙ failed-more s (take i es) (e ∷ [])

-- ---- each text once

once-by : (x y : List ℕ) (xs : List (List ℕ)) (any same other : Bool) → other ≡ same
    → y ∷ (filter (λ z. not (bytes_eq y z)) xs ++ (if any then [] else (if not same then x ∷ [] else []))) ≡ y ∷ filter (λ z. not (bytes_eq y z)) xs ++ (if other || any then [] else x ∷ [])
once-by x y xs true true other e = ap (λ b. y ∷ filter (λ z. not (bytes_eq y z)) xs ++ (if b || true then [] else x ∷ [])) (sym e)
once-by x y xs true false other e = ap (λ b. y ∷ filter (λ z. not (bytes_eq y z)) xs ++ (if b || true then [] else x ∷ [])) (sym e)
once-by x y xs false true other e = ap (λ b. y ∷ filter (λ z. not (bytes_eq y z)) xs ++ (if b || false then [] else x ∷ [])) (sym e)
once-by x y xs false false other e = ap (λ b. y ∷ filter (λ z. not (bytes_eq y z)) xs ++ (if b || false then [] else x ∷ [])) (sym e)

filter-where : (p : List ℕ → Bool) (x : List ℕ) (any : Bool) → filter p (if any then [] else x ∷ []) ≡ (if any then [] else (if p x then x ∷ [] else []))
filter-where p x true = refl
filter-where p x false = refl

-- one text more stands at the end, where it stood nowhere before
pub once-more : (xs : List (List ℕ)) (x : List ℕ) → each_once (xs ++ x ∷ []) ≡ each_once xs ++ (if list_any (bytes_eq x) xs then [] else x ∷ [])
once-more [] x = refl
once-more (y ∷ xs) x =
    let any = list_any (bytes_eq x) xs in
    let p : List ℕ → Bool = λ z. not (bytes_eq y z) in
    ap (λ zs. y ∷ filter p zs) (once-more xs x) ∙ ap (λ zs. y ∷ zs) (filter-append p (each_once xs) (if any then [] else x ∷ []) ∙ ap (λ zs. filter p (each_once xs) ++ zs) (filter-where p x any))
    ∙ once-by x y (each_once xs) any (bytes_eq y x) (bytes_eq x y) (bytes_eq-sym x y)

-- ---- a walk over texts

-- the first i texts are gathered, each once, and are in the set
pub record Gathered (texts : List (List ℕ)) (i : ℕ) (seen : TextSet) (items : List (List ℕ)) : Type 0 where
  pub items_are : items ≡ each_once (take i texts)
  pub known : (cs : List ℕ) → has_seen seen cs ≡ list_any (bytes_eq cs) (take i texts)

cond-or : (b c d : Bool) → b ≡ d → cond b true c ≡ (c || (d || false))
cond-or true true d e = ap (λ x. true || (x || false)) e
cond-or true false d e = ap (λ x. false || (x || false)) e
cond-or false true d e = refl
cond-or false false d e = ap (λ x. false || (x || false)) e

known-more : (seen new : TextSet) (texts : List (List ℕ)) (id cs : List ℕ) (key : Bor (List ℕ)) → key.now ≡ encode_utf8_all id → Updates text_order seen new key true
    → has_seen seen cs ≡ list_any (bytes_eq cs) texts → has_seen new cs ≡ list_any (bytes_eq cs) (texts ++ id ∷ [])
known-more seen new texts id cs key is updates known =
    let at : is_eq (slice_cmp nat_cmp key.now (encode_utf8_all cs)) ≡ bytes_eq cs id =
    ap (λ (l : List ℕ). is_eq (slice_cmp nat_cmp l (encode_utf8_all cs))) is ∙ is_eq-slice_cmp (encode_utf8_all id) (encode_utf8_all cs) ∙ bytes_eq-encodes id cs ∙ bytes_eq-sym id cs in
    updates.0 (to_text (encode_utf8_all cs)) ∙ ap (λ (b : Bool). cond (is_eq (slice_cmp nat_cmp key.now (encode_utf8_all cs))) true b) known
    ∙ cond-or (is_eq (slice_cmp nat_cmp key.now (encode_utf8_all cs))) (list_any (bytes_eq cs) texts) (bytes_eq cs id) at ∙ sym (list_any-append (bytes_eq cs) texts (id ∷ []))

if-new : (is_new stood : Bool) (x : List ℕ) → is_new ≡ not stood → (if is_new then (x ∷ []) else []) ≡ (if stood then [] else (x ∷ []))
if-new is_new true x e = ap (λ (b : Bool). if b then (x ∷ []) else []) e
if-new is_new false x e = ap (λ (b : Bool). if b then (x ∷ []) else []) e

module _ (texts : List (List ℕ)) (i : ℕ) (d : List ℕ) (within : i < length texts) (seen : TextSet) (items : List (List ℕ)) (key : Bor (List ℕ)) (is : key.now ≡ encode_utf8_all (get_or texts i d)) (before : Gathered texts i seen items) where
  abbrev text : List ℕ
  text = get_or texts i d

  one_text_more : take (i + 1) texts ≡ take i texts ++ text ∷ []
  one_text_more = take_more texts i d within

  stood : contains text_order seen key ≡ list_any (bytes_eq text) (take i texts)
  stood = ap (λ (l : List ℕ). contains text_order seen (to_text l)) is ∙ before.known text

  -- the next text was looked for, and stands after the others where it was not found
  pub gather-more : (new : TextSet) (is_new : Bool) (after : List (List ℕ)) → is_new ≡ not (contains text_order seen key) → Updates text_order seen new key true → after ≡ items ++ (if is_new then (text ∷ []) else [])
      → Gathered texts (i + 1) new after
  gather-more new is_new after added updates put = record {
    items_are = put ∙ ap (λ (l : List (List ℕ)). l ++ (if is_new then (text ∷ []) else [])) before.items_are
        ∙ ap (λ (l : List (List ℕ)). each_once (take i texts) ++ l) (if-new is_new (list_any (bytes_eq text) (take i texts)) text (added ∙ ap not stood))
        ∙ sym (ap each_once one_text_more ∙ once-more (take i texts) text);
    known = λ cs. known-more seen new (take i texts) text cs key is updates (before.known cs) ∙ ap (list_any (bytes_eq cs)) (sym one_text_more);
  }
