-- Outputs that are performed one after another.
use Rattle.std.proofs.Common.{◌≡◌, ℕ, suc, zero, ◌+◌, ◌<◌, List, [], ◌∷◌, ◌++◌, length, take, drop, get_or, Bool, true, false, Option, Some, None, option_map, refl, sym, ◌∙◌, ap, subst, arith, append_assoc}
use Rattle.std.specs.Prelude.{filter, if◌then◌else◌}
use Rattle.std.proofs.Math.Path.{fun_ext}
use Rattle.std.proofs.lemmas.List.{append-nil, take-append-drop, take_more}
use Rattle.std.proofs.lemmas.List.Elements.{filter-append}
use Rattle.xd_journal.specs.declared.entry.Entry.{Entry}
use Rattle.xd_journal.specs.declared.news.News.{News}
use Rattle.xd_run_laws.proofs.Logic.{split-and}
use Rattle.xd_drive.specs.Marks.{Marks}
use Rattle.xd_drive.specs.Calls.{calls_in, is_call}
use Rattle.xd_drive.specs.Performing.{marks_after, marks_after_entry, all_possible, possible}
use Rattle.xd_drive.specs.Seen.{GaveNews, HubSeen, Performs, HubTells, with_calls, with_more, after_one_given}

-- what a hub tells

abbrev seen_of : List Entry → List News → HubSeen
seen_of calls given = record { calls = calls; given = given }

module _ (es fs : List Entry) where
  calls-join : (l : List Entry) → (l ++ calls_in es) ++ calls_in fs ≡ l ++ calls_in (es ++ fs)
  calls-join l = append_assoc l (calls_in es) (calls_in fs) ∙ ap (λ (k : List Entry). l ++ k) (sym (filter-append is_call es fs))

  pub performs-more : (old mid new : Option HubSeen) → Performs es old mid → Performs fs mid new → Performs (es ++ fs) old new
  performs-more None mid new a b = b ∙ ap (option_map (with_calls fs)) a
  performs-more (Some s) mid new a b = b ∙ ap (option_map (with_calls fs)) a ∙ ap (λ (l : List Entry). Some (seen_of l s.given)) (calls-join s.calls)

  pub tells-more : (ns ms : List News) (old mid new : Option HubSeen) → HubTells es ns old mid → HubTells fs ms mid new → HubTells (es ++ fs) (ns ++ ms) old new
  tells-more ns ms None mid new a b = b ∙ ap (option_map (with_more fs ms)) a
  tells-more ns ms (Some s) mid new a b =
      b ∙ ap (option_map (with_more fs ms)) a ∙ ap (λ (l : List Entry). Some (seen_of l ((s.given ++ ns) ++ ms))) (calls-join s.calls)
      ∙ ap (λ (g : List News). Some (seen_of (s.calls ++ calls_in (es ++ fs)) g)) (append_assoc s.given ns ms)

  pub tells-performed : (ns : List News) (old mid new : Option HubSeen) → HubTells es ns old mid → Performs fs mid new → HubTells (es ++ fs) ns old new
  tells-performed ns None mid new a b = b ∙ ap (option_map (with_calls fs)) a
  tells-performed ns (Some s) mid new a b = b ∙ ap (option_map (with_calls fs)) a ∙ ap (λ (l : List Entry). Some (seen_of l (s.given ++ ns))) (calls-join s.calls)

pub performs-none : (old : Option HubSeen) → Performs [] old old
performs-none None = refl
performs-none (Some s) = ap (λ (l : List Entry). Some (seen_of l s.given)) (sym (append-nil s.calls))

pub tells-first : (es : List Entry) (old new : Option HubSeen) → Performs es old new → HubTells es [] old new
tells-first es None new a = a
tells-first es (Some s) new a = a ∙ ap (λ (g : List News). Some (seen_of (s.calls ++ calls_in es) g)) (sym (append-nil s.given))

pub tells-gave : (es : List Entry) (ns : List News) (n : News) (old mid new : Option HubSeen) → HubTells es ns old mid → GaveNews n mid new → HubTells es (ns ++ n ∷ []) old new
tells-gave es ns n None mid new a b = b ∙ ap (option_map (after_one_given n)) a
tells-gave es ns n (Some s) mid new a b = b ∙ ap (option_map (after_one_given n)) a ∙ ap (λ (g : List News). Some (seen_of (s.calls ++ calls_in es) g)) (append_assoc s.given ns (n ∷ []))

pub gave-performed : (n : News) (es : List Entry) (old mid new : Option HubSeen) → GaveNews n old mid → Performs es mid new → HubTells es (n ∷ []) old new
gave-performed n es None mid new a b = b ∙ ap (option_map (with_calls es)) a
gave-performed n es (Some s) mid new a b = b ∙ ap (option_map (with_calls es)) a

-- marks

pub after_all-join : (xs ys : List Entry) (marks : ℕ → Marks) → marks_after (xs ++ ys) marks ≡ marks_after ys (marks_after xs marks)
after_all-join [] ys marks = refl
after_all-join (x ∷ xs) ys marks = after_all-join xs ys (marks_after_entry x marks)

pub possible-join : (slots : ℕ) (marks : ℕ → Marks) (xs ys : List Entry) → all_possible slots marks (xs ++ ys) ≡ true → (all_possible slots marks xs ≡ true) × (all_possible slots (marks_after xs marks) ys ≡ true)
possible-join slots marks [] ys h = (refl, h)
possible-join slots marks (x ∷ xs) ys h =
    let p = split-and (possible slots marks x) (all_possible slots (marks_after_entry x marks) (xs ++ ys)) h in
    let q = possible-join slots (marks_after_entry x marks) xs ys p.1 in
    (cc, q.1)

pub possible-at : (slots : ℕ) (marks : ℕ → Marks) (es : List Entry) (i : ℕ) (e : Entry) → i < length es → e ≡ get_or es i e → all_possible slots marks es ≡ true → possible slots (marks_after (take i es) marks) e ≡ true
possible-at slots marks [] i e l is h = absurd (omega (arith, l))
possible-at slots marks (x ∷ xs) zero e l is h = subst (λ (y : Entry). possible slots marks y ≡ true) (sym is) (split-and (possible slots marks x) (all_possible slots (marks_after_entry x marks) xs) h).0
possible-at slots marks (x ∷ xs) (suc i) e l is h = possible-at slots (marks_after_entry x marks) xs i e (omega (arith, l)) is (split-and (possible slots marks x) (all_possible slots (marks_after_entry x marks) xs) h).1

pub possible-same : (slots0 slots1 : ℕ) (a b : ℕ → Marks) (e : Entry) → slots1 ≡ slots0 → ((w : ℕ) → b w ≡ a w) → possible slots0 a e ≡ true → possible slots1 b e ≡ true
possible-same slots0 slots1 a b e s m h = ap (λ (k : ℕ). possible k b e) s ∙ ap (λ (f : ℕ → Marks). possible slots0 f e) (fun_ext m) ∙ h

pub all_possible-same : (slots0 slots1 : ℕ) (a b : ℕ → Marks) (es : List Entry) → slots1 ≡ slots0 → ((w : ℕ) → b w ≡ a w) → all_possible slots0 a es ≡ true → all_possible slots1 b es ≡ true
all_possible-same slots0 slots1 a b es s m h = ap (λ (k : ℕ). all_possible k b es) s ∙ ap (λ (f : ℕ → Marks). all_possible slots0 f es) (fun_ext m) ∙ h

-- from one entry to the next
module _ (es : List Entry) (i : ℕ) (e : Entry) (l : i < length es) (is : e ≡ get_or es i e) where
  next_entry : take (i + 1) es ≡ take i es ++ e ∷ []
  next_entry = take_more es i e l ∙ ap (λ (x : Entry). take i es ++ x ∷ []) (sym is)

  pub marks-next : (a b c : ℕ → Marks) → ((w : ℕ) → b w ≡ marks_after (take i es) a w) → ((w : ℕ) → c w ≡ marks_after_entry e b w) → (w : ℕ) → c w ≡ marks_after (take (i + 1) es) a w
  marks-next a b c before following w =
      following w ∙ ap (λ (f : ℕ → Marks). marks_after_entry e f w) (fun_ext before)
      ∙ sym (ap (λ (xs : List Entry). marks_after xs a w) next_entry ∙ ap (λ (f : ℕ → Marks). f w) (after_all-join (take i es) (e ∷ []) a))

  pub performs-next : (old mid new : Option HubSeen) → Performs (take i es) old mid → Performs (e ∷ []) mid new → Performs (take (i + 1) es) old new
  performs-next old mid new a b = subst (λ (xs : List Entry). Performs xs old new) (sym next_entry) (performs-more (take i es) (e ∷ []) old mid new a b)

-- those alone that pass a test
module _ (f : Entry → Bool) (es : List Entry) (i : ℕ) (e : Entry) (l : i < length es) (is : e ≡ get_or es i e) where
  kept_next : filter f (take (i + 1) es) ≡ filter f (take i es) ++ filter f (e ∷ [])
  kept_next = ap (filter f) (next_entry es i e l is) ∙ filter-append f (take i es) (e ∷ [])

  kept_all : filter f es ≡ (filter f (take i es) ++ filter f (e ∷ [])) ++ filter f (drop (i + 1) es)
  kept_all = ap (filter f) (sym (take-append-drop (i + 1) es)) ∙ filter-append f (take (i + 1) es) (drop (i + 1) es) ∙ ap (λ (xs : List Entry). xs ++ filter f (drop (i + 1) es)) kept_next

  pub kept-possible : (slots : ℕ) (marks : ℕ → Marks) → all_possible slots marks (filter f es) ≡ true → all_possible slots (marks_after (filter f (take i es)) marks) (filter f (e ∷ [])) ≡ true
  kept-possible slots marks h =
      (possible-join slots marks (filter f (take i es)) (filter f (e ∷ []))
      (possible-join slots marks (filter f (take i es) ++ filter f (e ∷ [])) (filter f (drop (i + 1) es)) (sym (ap (all_possible slots marks) kept_all) ∙ h)).0).1

  pub kept-marks : (a b c : ℕ → Marks) → ((w : ℕ) → b w ≡ marks_after (filter f (take i es)) a w) → ((w : ℕ) → c w ≡ marks_after (filter f (e ∷ [])) b w) → (w : ℕ) → c w ≡ marks_after (filter f (take (i + 1) es)) a w
  kept-marks a b c before following w =
      following w ∙ ap (λ (g : ℕ → Marks). marks_after (filter f (e ∷ [])) g w) (fun_ext before)
      ∙ sym (ap (λ (xs : List Entry). marks_after xs a w) kept_next ∙ ap (λ (g : ℕ → Marks). g w) (after_all-join (filter f (take i es)) (filter f (e ∷ [])) a))

  pub kept-performs : (old mid new : Option HubSeen) → Performs (filter f (take i es)) old mid → Performs (filter f (e ∷ [])) mid new → Performs (filter f (take (i + 1) es)) old new
  kept-performs old mid new a b = subst (λ (xs : List Entry). Performs xs old new) (sym kept_next) (performs-more (filter f (take i es)) (filter f (e ∷ [])) old mid new a b)

-- one entry that passes, and one that does not

pub kept-one : (f : Entry → Bool) (e : Entry) → f e ≡ true → filter f (e ∷ []) ≡ e ∷ []
kept-one f e h = ap (λ (b : Bool). if b then e ∷ [] else []) h

pub kept-none : (f : Entry → Bool) (e : Entry) → f e ≡ false → filter f (e ∷ []) ≡ []
kept-none f e h = ap (λ (b : Bool). if b then e ∷ [] else []) h
