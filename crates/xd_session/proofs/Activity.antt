-- A worker is active from its start up to the entry that ended it.
use Rattle.std.proofs.Common.{◌≡◌, ℕ, List, [], ◌∷◌, ◌++◌, map, Bool, true, false, not, ◌&&◌, ◌||◌, refl, ap, sym, ◌∙◌, subst, arith, inl, inr}
use Rattle.std.specs.Prelude.{◌==◌}
use Rattle.std.proofs.lemmas.Bool.Decides.{nat_tests}
use Rattle.std.proofs.lemmas.List.Folds.{list_any-append}
use Rattle.xd_journal.specs.declared.settings.Settings.{Settings}
use Rattle.xd_journal.specs.declared.entry.Entry.{Entry}
use Rattle.xd_journal.specs.declared.entry.Entry.TheVariants.{Ready, Collected, Done, Back, Finished, Refused, Down, NotStarted, Start, Run, RunAll, Steal, Shutdown, Kill, Over}
use Rattle.xd_run.specs.declared.member.Member.{Member}
use Rattle.xd_run.specs.Books.{marked}
use Rattle.xd_run.specs.Collections.{listed, unequal, with_list}
use Rattle.xd_run.specs.Histories.{after_starts, journal_of, after_inputs}
use Rattle.xd_run.specs.Orderly.{is_orderly}
use Rattle.xd_run.specs.Proper.{IsProper, may_follow}
use Rattle.xd_run.specs.Sharing.{State, in_books}
use Rattle.xd_run.specs.State.{after_effect}
use Rattle.xd_run.specs.Workers.{has_collected, is_active, is_shut, made_collected, made_gone, made_ready, made_shut, started, was_ready}
use Rattle.xd_run_laws.proofs.Members.{has, has-cleared, has-member, has-more, has-same, is_member}
use Rattle.xd_run_laws.proofs.Inputs.{collecting-keeps}
use Rattle.xd_run_laws.proofs.Laws.{journal-keeps}
use Rattle.xd_run_laws.proofs.Logic.{differ, not_true, split-and, split-or}
use Rattle.xd_run_laws.proofs.Walk.{Keeps}
use Rattle.xd_session.specs.Part.{is_end_of, is_ended}

abbrev Acts : ℕ → List Member → Bool
Acts w ms = has w (λ m. m.active) ms

-- after these entries the worker is active where it was started and none of them ended it, and whoever was ended was started
pub record Active (w : ℕ) (ms : List Member) (es : List Entry) : Type 0 where
  pub active : Acts w ms ≡ (is_member w ms && not (is_ended w es))
  pub known : is_ended w es ≡ true → is_member w ms ≡ true

cleared-twice : (m a b : Bool) → (not b && (m && not a)) ≡ (m && not (a || (b || false)))
cleared-twice true true true = refl
cleared-twice true true false = refl
cleared-twice true false true = refl
cleared-twice true false false = refl
cleared-twice false true true = refl
cleared-twice false true false = refl
cleared-twice false false true = refl
cleared-twice false false false = refl

or-false-true : (b : Bool) → (b || false) ≡ true → b ≡ true
or-false-true true h = refl
or-false-true false h = h

-- the marks of the worker, after an entry that starts no one
active-more : (w : ℕ) (ms ns : List Member) (es : List Entry) (e : Entry) → is_member w ns ≡ is_member w ms → Acts w ns ≡ (not (is_end_of w e) && Acts w ms)
    → (is_end_of w e ≡ true → is_member w ms ≡ true) → Active w ms es → Active w ns (es ++ e ∷ [])
active-more w ms ns es e same now started k =
    let more : is_ended w (es ++ e ∷ []) ≡ (is_ended w es || (is_end_of w e || false)) = list_any-append (is_end_of w) es (e ∷ []) in
    record {
      active = now ∙ ap (λ (b : Bool). not (is_end_of w e) && b) k.active ∙ cleared-twice (is_member w ms) (is_ended w es) (is_end_of w e)
          ∙ ap (λ (b : Bool). b && not (is_ended w es || (is_end_of w e || false))) (sym same) ∙ ap (λ (b : Bool). is_member w ns && not b) (sym more);
      known = λ h. same ∙ (elim (split-or (is_ended w es) (is_end_of w e || false) (sym more ∙ h)) [
        | inl a ↦ k.known a
        | inr a ↦ started (or-false-true (is_end_of w e) a)
      ]);
    }

active-same : (w : ℕ) (ms : List Member) (es : List Entry) (e : Entry) → is_end_of w e ≡ false → Active w ms es → Active w ms (es ++ e ∷ [])
active-same w ms es e h k = active-more w ms ms es e refl (ap (λ (b : Bool). not b && Acts w ms) (sym h)) (λ a. absurd (differ (sym h ∙ a))) k

active-marked : (w : ℕ) (ms : List Member) (change : Member → Member) (es : List Entry) (e : Entry) → ((m : Member) → (change m).worker ≡ m.worker) → ((m : Member) → (change m).active ≡ m.active)
    → is_end_of w e ≡ false → Active w ms es → Active w (map change ms) (es ++ e ∷ [])
active-marked w ms change es e a b h k =
    active-more w ms (map change ms) es e (has-same w (λ m. true) change ms a (λ m. refl)) (has-same w (λ m. m.active) change ms a b ∙ ap (λ (q : Bool). not q && Acts w ms) (sym h)) (λ q. absurd (differ (sym h ∙ q))) k

other-way : (v w : ℕ) → (w == v) ≡ (v == w)
other-way v w = grind (arith, nat_tests)

ended-member : (v w : ℕ) (ms : List Member) → Acts v ms ≡ true → (v == w) ≡ true → is_member w ms ≡ true
ended-member v w ms a h = (let e : v ≡ w = grind (arith, nat_tests, h) in subst (λ (u : ℕ). is_member u ms ≡ true) e (has-member v (λ m. m.active) ms a))

-- the entry ends a worker that was active
active-gone : (w v : ℕ) (ms : List Member) (es : List Entry) (e : Entry) → is_end_of w e ≡ (v == w) → Acts v ms ≡ true → Active w ms es → Active w (map (made_gone v) ms) (es ++ e ∷ [])
active-gone w v ms es e ends a k =
    active-more w ms (map (made_gone v) ms) es e (has-same w (λ m. true) (made_gone v) ms (λ m. refl) (λ m. refl))
    (has-cleared w v (λ m. m.active) (made_gone v) ms (λ m. refl) (λ m. refl) ∙ ap (λ (b : Bool). not b && Acts w ms) (other-way v w ∙ sym ends))
    (λ h. ended-member v w ms a (sym ends ∙ h)) k

-- a worker is started
started-by : (b m a x : Bool) → (b ≡ true → m ≡ false) → (a ≡ true → m ≡ true) → x ≡ (m && not a) → (x || b) ≡ ((m || b) && not (a || false))
started-by false true true x h k e = rw e refl
started-by false true false x h k e = rw e refl
started-by false false a x h k e = rw e refl
started-by true true a x h k e = absurd (differ (sym (h refl)))
started-by true false true x h k e = absurd (differ (k refl))
started-by true false false x h k e = rw e refl

active-started : (w v slot : ℕ) (ms : List Member) (es : List Entry) (e : Entry) → is_end_of w e ≡ false → is_member v ms ≡ false → Active w ms es → Active w (ms ++ started v slot ∷ []) (es ++ e ∷ [])
active-started w v slot ms es e none new k =
    let b = (v == w) && true in
    let acts : Acts w (ms ++ started v slot ∷ []) ≡ (Acts w ms || b) = has-more w (λ m. m.active) ms (started v slot) in
    let member : is_member w (ms ++ started v slot ∷ []) ≡ (is_member w ms || b) = has-more w (λ m. true) ms (started v slot) in
    let more : is_ended w (es ++ e ∷ []) ≡ (is_ended w es || false) = list_any-append (is_end_of w) es (e ∷ []) ∙ ap (λ (q : Bool). is_ended w es || (q || false)) none in
    let no_member : b ≡ true → is_member w ms ≡ false = λ h. (let same : v ≡ w = grind (arith, nat_tests, (split-and (v == w) true h).0) in subst (λ (u : ℕ). is_member u ms ≡ false) same new) in
    record {
      active = acts ∙ started-by b (is_member w ms) (is_ended w es) (Acts w ms) no_member k.known k.active ∙ ap (λ (q : Bool). q && not (is_ended w es || false)) (sym member) ∙ ap (λ (q : Bool). is_member w (ms ++ started v slot ∷ []) && not q) (sym more);
      known = λ h. member ∙ ap (λ (q : Bool). q || b) (k.known (or-false-true (is_ended w es) (sym more ∙ h)));
    }

-- after each entry

abbrev Now : ℕ → State → List Entry → Type 0
Now w s es = Active w s.books.members es

said : (w : ℕ) (s : State) (es : List Entry) (e : Entry) → may_follow s e ≡ true → Now w s es → Now w (after_effect s e) (es ++ e ∷ [])
said w s es (Ready v) h k = active-marked w s.books.members (made_ready v) es (Ready v) (λ m. refl) (λ m. refl) refl k
said w s es (Collected v g) h k =
    let ms = s.books.members in
    let members : (after_effect s (Collected v g)).books.members ≡ map (made_collected v) ms =
    collecting-keeps (λ (u : State). u.books.members ≡ map (made_collected v) ms) (in_books (λ b. marked (made_collected v) (with_list v g b)) s) v (unequal v g (listed v s.books)) refl refl refl (λ n. refl) in
    subst (λ (ns : List Member). Active w ns (es ++ Collected v g ∷ [])) (sym members) (active-marked w ms (made_collected v) es (Collected v g) (λ m. refl) (λ m. refl) refl k)
said w s es (Done v i u m o) h k = active-same w s.books.members es (Done v i u m o) refl k
said w s es (Back v is) h k = active-same w s.books.members es (Back v is) refl k
said w s es (Finished v) h k =
    let a = split-and (is_active v s.books) (is_shut v s.books) (split-and (is_active v s.books && is_shut v s.books) (has_collected v s.books) (split-and (is_active v s.books && is_shut v s.books && has_collected v s.books) _ h).0).0 in
    active-gone w v s.books.members es (Finished v) refl a.0 k
said w s es (Refused v t) h k = active-gone w v s.books.members es (Refused v t) refl (split-and (is_active v s.books) (not (has_collected v s.books)) h).0 k
said w s es (Down v c o) h k = active-gone w v s.books.members es (Down v c o) refl h k
said w s es (NotStarted v) h k = active-gone w v s.books.members es (NotStarted v) refl (split-and (is_active v s.books) (not (was_ready v s.books)) h).0 k
said w s es (Start v slot) h k = absurd (differ h)
said w s es (Run v is) h k = absurd (differ h)
said w s es (RunAll v) h k = absurd (differ h)
said w s es (Steal v is) h k = absurd (differ h)
said w s es (Shutdown v) h k = absurd (differ h)
said w s es (Kill v) h k = absurd (differ h)
said w s es (Over how) h k = absurd (differ h)

told : (w : ℕ) (s : State) (es : List Entry) (e : Entry) → is_orderly s e ≡ true → Now w s es → Now w (after_effect s e) (es ++ e ∷ [])
told w s es (Start v slot) h k = active-started w v slot s.books.members es (Start v slot) refl (not_true (is_member v s.books.members) h) k
told w s es (Run v is) h k = active-same w s.books.members es (Run v is) refl k
told w s es (RunAll v) h k = active-same w s.books.members es (RunAll v) refl k
told w s es (Steal v is) h k = active-same w s.books.members es (Steal v is) refl k
told w s es (Shutdown v) h k = active-marked w s.books.members (made_shut v) es (Shutdown v) (λ m. refl) (λ m. refl) refl k
told w s es (Kill v) h k = active-same w s.books.members es (Kill v) refl k
told w s es (Over how) h k = active-same w s.books.members es (Over how) refl k
told w s es (Ready v) h k = absurd (differ h)
told w s es (Collected v g) h k = absurd (differ h)
told w s es (Done v i u m o) h k = absurd (differ h)
told w s es (Back v is) h k = absurd (differ h)
told w s es (Finished v) h k = absurd (differ h)
told w s es (Refused v t) h k = absurd (differ h)
told w s es (Down v c o) h k = absurd (differ h)
told w s es (NotStarted v) h k = absurd (differ h)

keeps_active : (settings : Settings) (w : ℕ) → Keeps settings (Now w)
keeps_active settings w = record {
  said = λ s es e d h at k. said w s es e h k;
  told = λ s es e p h at k. told w s es e h k;
  settled = λ s es k. record { active = k.active; known = k.known };
}

pub active-following : (settings : Settings) (inputs : List Entry) (w : ℕ) → IsProper settings inputs → Now w (after_inputs (after_starts settings) inputs) (journal_of settings inputs)
active-following settings inputs w p = journal-keeps settings inputs (Now w) (keeps_active settings w) p (record { active = refl; known = λ h. absurd (differ h) })
