-- What is taken of a worker that was there from the start, and that says all that its call tells before its link ends.
use Rattle.std.proofs.Common.{◌≡◌, ◌⊎◌, ℕ, List, [], ◌∷◌, ◌++◌, Bool, true, false, not, ◌&&◌, ◌||◌, refl, ap, sym, ◌∙◌, subst, append_assoc, append-nil, arith, inl, inr}
use Rattle.std.specs.Prelude.{◌==◌, Option, Some, None, if◌then◌else◌}
use Rattle.std.specs.List.{list_any}
use Rattle.std.proofs.lemmas.Bool.Decides.{nat_tests}
use Rattle.std.proofs.lemmas.Grind.{fold-append}
use Rattle.std.proofs.lemmas.List.Folds.{list_any-append}
use Rattle.xd_journal.specs.declared.entry.Entry.{Entry}
use Rattle.xd_journal.specs.declared.news.News.{News}
use Rattle.xd_journal.specs.declared.news.What.{What}
use Rattle.xd_journal.specs.declared.settings.Settings.{Settings}
use Rattle.xd_run.specs.Histories.{journal_of}
use Rattle.xd_run.specs.Proper.{IsProper}
use Rattle.xd_run.specs.Sharing.{State}
use Rattle.xd_run.specs.Workers.{has_member, is_active}
use Rattle.xd_run_laws.proofs.Logic.{cases_of, differ, not_true, or-false, or-left, or-right, split-and, split-or}
use Rattle.xd_session.specs.History.{IsProperRun, begun_run, input_of, run_of, said_by}
use Rattle.xd_session.specs.Part.{is_end_of, is_ended}
use Rattle.xd_session.proofs.Activity.{active-following}
use Rattle.xd_session.proofs.Steps.{sound-run}
use Rattle.xd_drive.specs.Taken.{taken_of, taken_with}
use Rattle.xd_group_peer.specs.ToLink.{has_left, is_farewell}
use Rattle.xd_system.specs.Moment.{IsFirstPart}
use Rattle.xd_system.proofs.Runs.{member-fold}
use Rattle.xd_system.proofs.Said.{said-join, said-other, said-own}
use Rattle.xd_system_messages.proofs.Prefixes.{last_or_less}
use Rattle.xd_complete.proofs.Entries.{any-more, input-farewell, input_after, of_input, only-inputs-end}
use Rattle.xd_complete.proofs.Lists.{first_or, forward, not_so, without_last}

-- a member is active where nothing ended it
active-is : (settings : Settings) (taken : List News) (w : ℕ) → IsProper settings []
    → is_active w (run_of settings taken).state.books ≡ (has_member w (λ m. true) (run_of settings taken).state.books && not (is_ended w (run_of settings taken).entries))
active-is settings taken w proper =
    let r = run_of settings taken in
    let sound = sound-run settings taken proper in
    let k = active-following settings r.inputs w sound.proper in
    ap (λ (s : State). is_active w s.books) sound.state ∙ k.active
    ∙ ap (λ (s : State). has_member w (λ m. true) s.books && not (is_ended w (journal_of settings r.inputs))) (sym sound.state)
    ∙ ap (λ (es : List Entry). has_member w (λ m. true) r.state.books && not (is_ended w es)) (sym sound.journal)

unended : (m e : Bool) → (m && not e) ≡ true → e ≡ false
unended true true h = absurd (differ h)
unended true false h = refl
unended false e h = absurd (differ h)

goes-on : (m e : Bool) → m ≡ true → e ≡ false → (m && not e) ≡ true
goes-on true false h k = refl
goes-on true true h k = absurd (differ (sym k))
goes-on false e h k = absurd (differ h)

ended-not : (m e : Bool) → e ≡ true → (m && not e) ≡ false
ended-not true true h = refl
ended-not false true h = refl
ended-not m false h = absurd (differ h)

snoc_same : {A : Type 0} (xs ys : List A) (x y : A) → xs ++ x ∷ [] ≡ ys ++ y ∷ [] → xs ≡ ys
snoc_same [] [] x y e = refl
snoc_same [] (z ∷ ys) x y e = absurd (none ys (let q : [] ≡ ys ++ y ∷ [] = cc in q))
  where
    none : (l : List _) → [] ≡ l ++ y ∷ [] → ⊥
    none [] q = cc
    none (a ∷ l) q = cc
snoc_same (z ∷ xs) [] x y e = absurd (none xs (let q : xs ++ x ∷ [] ≡ [] = cc in q))
  where
    none : (l : List _) → l ++ x ∷ [] ≡ [] → ⊥
    none [] q = cc
    none (a ∷ l) q = cc
snoc_same {A} (z ∷ xs) (u ∷ ys) x y e =
    ap (λ (l : List A). z ∷ l) (snoc_same xs ys x y (let q : xs ++ x ∷ [] ≡ ys ++ y ∷ [] = cc in q)) ∙ ap (λ (b : A). b ∷ ys) (let q : z ≡ u = cc in q)

module _ (settings : Settings) (w : ℕ) (proper : IsProper settings []) (first : has_member w (λ m. true) (begun_run settings).state.books ≡ true) (told : List What) (last : What) (left : has_left told ≡ true) where
  is-member : (taken : List News) → has_member w (λ m. true) (run_of settings taken).state.books ≡ true
  is-member taken = member-fold settings w (begun_run settings) taken (sound-run settings [] proper) first

  abbrev Acts : List News → Bool
  Acts taken = is_active w (run_of settings taken).state.books

  -- whoever is active was so before
  was-active : (taken : List News) (n : News) → Acts (taken ++ n ∷ []) ≡ true → Acts taken ≡ true
  was-active taken n h =
      let now = unended (has_member w (λ m. true) (run_of settings (taken ++ n ∷ [])).state.books) (is_ended w (run_of settings (taken ++ n ∷ [])).entries) (sym (active-is settings (taken ++ n ∷ []) w proper) ∙ h) in
      let before = first_or (is_ended w (run_of settings taken).entries) (of_input (is_end_of w) (input_after settings taken n)) (sym (any-more settings taken n proper (is_end_of w) (only-inputs-end w)) ∙ now) in
      active-is settings taken w proper ∙ goes-on (has_member w (λ m. true) (run_of settings taken).state.books) (is_ended w (run_of settings taken).entries) (is-member taken) before

  -- whoever said farewell is not active
  leaves : (taken : List News) (n : News) → is_farewell n.what ≡ true → (n.worker == w) ≡ true → is_active n.worker (run_of settings taken).state.books ≡ true → Acts (taken ++ n ∷ []) ≡ false
  leaves taken n h own active =
      active-is settings (taken ++ n ∷ []) w proper
      ∙ ended-not (has_member w (λ m. true) (run_of settings (taken ++ n ∷ [])).state.books) (is_ended w (run_of settings (taken ++ n ∷ [])).entries)
      (any-more settings taken n proper (is_end_of w) (only-inputs-end w)
      ∙ or-right (is_ended w (run_of settings taken).entries) (of_input (is_end_of w) (input_after settings taken n)) (input-farewell settings taken n w h own active))

  -- What was taken of the worker is a first part of what its call tells, and all that was given where it is active; and
  -- after its farewell it is not.
  record Follows (given taken : List News) : Type 0 where
    part : IsFirstPart (said_by w taken) told
    all : Acts taken ≡ true → said_by w taken ≡ said_by w given
    over : has_left (said_by w taken) ≡ true → Acts taken ≡ false

  abbrev Whole : List What
  Whole = told ++ last ∷ []

  own-said : (taken : List News) (n : News) → (n.worker == w) ≡ true → said_by w (taken ++ n ∷ []) ≡ said_by w taken ++ n.what ∷ []
  own-said taken n own = said-join w taken (n ∷ []) ∙ ap (λ (l : List What). said_by w taken ++ l) (said-own w n own)

  other-said : (taken : List News) (n : News) → (n.worker == w) ≡ false → said_by w (taken ++ n ∷ []) ≡ said_by w taken
  other-said taken n other = said-join w taken (n ∷ []) ∙ (ap (λ (l : List What). said_by w taken ++ l) (said-other w n other) ∙ append-nil (said_by w taken))

  -- the news are not taken
  dropped : (given taken : List News) (n : News) → Follows given taken → is_active n.worker (run_of settings taken).state.books ≡ false → Follows (given ++ n ∷ []) taken
  dropped given taken n k off = record {
    part = k.part;
    all = λ a. k.all a ∙ sym (other-said given n (elim (cases_of (n.worker == w)) [
      | inl own ↦ (let same : n.worker ≡ w = grind (arith, nat_tests, own) in absurd (differ (sym off ∙ ap (λ (u : ℕ). is_active u (run_of settings taken).state.books) same ∙ a)))
      | inr other ↦ other
    ]));
    over = k.over;
  }

  -- the news are taken, and are another worker's
  took-other : (given taken : List News) (n : News) → Follows given taken → (n.worker == w) ≡ false → Follows (given ++ n ∷ []) (taken ++ n ∷ [])
  took-other given taken n k other = record {
    part = subst (λ (l : List What). IsFirstPart l told) (sym (other-said taken n other)) k.part;
    all = λ a. other-said taken n other ∙ k.all (was-active taken n a) ∙ sym (other-said given n other);
    over = λ f. not_so (Acts (taken ++ n ∷ [])) (λ a. differ (sym (k.over (ap has_left (sym (other-said taken n other)) ∙ f)) ∙ was-active taken n a));
  }

  -- the news are taken, and are the worker's
  took-own : (given taken : List News) (n : News) → IsFirstPart (said_by w (given ++ n ∷ [])) Whole → Follows given taken → (n.worker == w) ≡ true → is_active n.worker (run_of settings taken).state.books ≡ true → Follows (given ++ n ∷ []) (taken ++ n ∷ [])
  took-own given taken n p k own active = record {
    part = by_part (last_or_less (said_by w taken ++ n.what ∷ []) told p.0 last (p.1 ∙ ap (λ (l : List What). l ++ p.0) (own-said given n own ∙ ap (λ (l : List What). l ++ n.what ∷ []) (sym same))));
    all = λ a. own-said taken n own ∙ ap (λ (l : List What). l ++ n.what ∷ []) same ∙ sym (own-said given n own);
    over = λ f. by_left (split-or (has_left (said_by w taken)) (is_farewell n.what || false) (sym (list_any-append is_farewell (said_by w taken) (n.what ∷ [])) ∙ ap has_left (sym (own-said taken n own)) ∙ f));
  }
    where
      acts : Acts taken ≡ true
      acts = (let who : n.worker ≡ w = grind (arith, nat_tests, own) in ap (λ (u : ℕ). is_active u (run_of settings taken).state.books) (sym who) ∙ active)

      same : said_by w taken ≡ said_by w given
      same = k.all acts

      by_part : IsFirstPart (said_by w taken ++ n.what ∷ []) told ⊎ (said_by w taken ++ n.what ∷ [] ≡ Whole) → IsFirstPart (said_by w (taken ++ n ∷ [])) told
      by_part (inl q) = subst (λ (l : List What). IsFirstPart l told) (sym (own-said taken n own)) q
      by_part (inr q) = absurd (differ (sym (k.over (ap has_left (snoc_same (said_by w taken) told n.what last q) ∙ left)) ∙ acts))

      by_left : (has_left (said_by w taken) ≡ true) ⊎ ((is_farewell n.what || false) ≡ true) → Acts (taken ++ n ∷ []) ≡ false
      by_left (inl q) = absurd (differ (sym (k.over q) ∙ acts))
      by_left (inr q) = leaves taken n (sym (or-false (is_farewell n.what)) ∙ q) own active

  taken-more : (given : List News) (n : News) → taken_of settings (given ++ n ∷ []) ≡ taken_with settings (taken_of settings given) n
  taken-more given n = fold-append (taken_with settings) [] given (n ∷ [])

  follows : (given : List News) → IsFirstPart (said_by w given) Whole → Follows given (taken_of settings given)
  follows =
      forward (λ (given : List News). IsFirstPart (said_by w given) Whole → Follows given (taken_of settings given))
      (λ p. record { part = (told, refl); all = λ a. refl; over = λ f. absurd (differ f) }) more
    where
      one : (given taken : List News) (n : News) → IsFirstPart (said_by w (given ++ n ∷ [])) Whole → Follows given taken → (b : Bool) → is_active n.worker (run_of settings taken).state.books ≡ b
          → Follows (given ++ n ∷ []) (if b then taken ++ n ∷ [] else taken)
      one given taken n p k false off = dropped given taken n k off
      one given taken n p k true on = elim (cases_of (n.worker == w)) [ inl own ↦ took-own given taken n p k own on | inr other ↦ took-other given taken n k other ]

      more : (given : List News) (n : News) → (IsFirstPart (said_by w given) Whole → Follows given (taken_of settings given)) → IsFirstPart (said_by w (given ++ n ∷ [])) Whole
          → Follows (given ++ n ∷ []) (taken_of settings (given ++ n ∷ []))
      more given n k p =
          let earlier = without_last (said_by w given) (said_by w (n ∷ [])) Whole (subst (λ (l : List What). IsFirstPart l Whole) (said-join w given (n ∷ [])) p) in
          subst (Follows (given ++ n ∷ [])) (sym (taken-more given n))
          (one given (taken_of settings given) n p (k earlier) (is_active n.worker (run_of settings (taken_of settings given)).state.books) refl)

  -- All that was taken of the worker is a first part of what its call tells.
  pub took-told : (given : List News) → IsFirstPart (said_by w given) Whole → IsFirstPart (said_by w (taken_of settings given)) told
  took-told given p = (follows given p).part
