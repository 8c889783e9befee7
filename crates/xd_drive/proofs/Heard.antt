-- The marks of a hub agree with the run after a piece of news.
use Rattle.std.proofs.Common.{◌≡◌, ℕ, List, map, Bool, true, false, not, ◌&&◌, ◌||◌, refl, ap, sym, ◌∙◌, subst, arith, inl, inr}
use Rattle.std.specs.Prelude.{◌==◌, ◌⊎◌, if◌then◌else◌}
use Rattle.std.proofs.lemmas.Bool.Decides.{nat_tests}
use Rattle.xd_journal.specs.declared.news.News.{News}
use Rattle.xd_journal.specs.declared.entry.Entry.{Entry}
use Rattle.xd_journal.specs.declared.entry.Entry.TheVariants.{Ready, Collected, Done, Back, Finished, Refused, Down, NotStarted, Start, Run, RunAll, Steal, Shutdown, Kill, Over}
use Rattle.xd_run.specs.declared.member.Member.{Member}
use Rattle.xd_run.specs.Books.{Books, marked}
use Rattle.xd_run.specs.Workers.{is_active, made_ready, made_collected, made_gone}
use Rattle.xd_run.specs.Collections.{unequal, listed, with_list}
use Rattle.xd_run.specs.Sharing.{State, in_books}
use Rattle.xd_run.specs.State.{after_effect}
use Rattle.xd_run.specs.Proper.{may_follow}
use Rattle.xd_run_laws.proofs.Logic.{differ, split-and, split-or, cases_of}
use Rattle.xd_run_laws.proofs.Members.{has, is_member, has-member, has-same, has-set, has-cleared}
use Rattle.xd_run_laws.proofs.Inputs.{collecting-keeps}
use Rattle.xd_drive.specs.Agrees.{Agrees}
use Rattle.xd_journal.specs.Said.{is_end, is_ready}
use Rattle.xd_drive.specs.Marks.{Marks, marked_heard}
use Rattle.xd_drive.proofs.Runs.{Meant, leaves, readies}

abbrev pub active : ℕ → List Member → Bool
active w ms = has w (λ m. m.active) ms

abbrev pub ready : ℕ → List Member → Bool
ready w ms = has w (λ m. m.ready) ms

-- the members after an input
pub record MembersAfter (before : List Member) (e : Entry) (following : List Member) : Type 0 where
  pub members : (v : ℕ) → is_member v following ≡ is_member v before
  pub active : (v : ℕ) → active v following ≡ (active v before && not (leaves v e))
  pub ready : (v : ℕ) → ready v following ≡ true → (ready v before ≡ true) ⊎ (readies v e ≡ true)

and-true : (b : Bool) → b ≡ (b && true)
and-true true = refl
and-true false = refl

following-same : (ms : List Member) (e : Entry) → ((v : ℕ) → leaves v e ≡ false) → MembersAfter ms e ms
following-same ms e k = record { members = λ v. refl; active = λ v. and-true (active v ms) ∙ ap (λ (b : Bool). active v ms && not b) (sym (k v)); ready = λ v h. inl h }

following-ready : (ms : List Member) (w : ℕ) → MembersAfter ms (Ready w) (map (made_ready w) ms)
following-ready ms w = record {
  members = λ v. has-same v (λ m. true) (made_ready w) ms (λ m. refl) (λ m. refl);
  active = λ v. has-same v (λ m. m.active) (made_ready w) ms (λ m. refl) (λ m. refl) ∙ and-true (active v ms);
  ready = λ v h. (let q = sym (has-set v w (λ m. m.ready) (made_ready w) ms (λ m. refl) (λ m. refl)) ∙ h in elim (cases_of (v == w)) [
    | inl e ↦ inr (grind (arith, nat_tests, e))
    | inr e ↦ inl (sym (ap (λ (b : Bool). if b then is_member v ms else ready v ms) e) ∙ q)
  ]);
}

following-collected : (ms : List Member) (w : ℕ) (g : _) → MembersAfter ms (Collected w g) (map (made_collected w) ms)
following-collected ms w g = record {
  members = λ v. has-same v (λ m. true) (made_collected w) ms (λ m. refl) (λ m. refl);
  active = λ v. has-same v (λ m. m.active) (made_collected w) ms (λ m. refl) (λ m. refl) ∙ and-true (active v ms);
  ready = λ v h. inl (sym (has-same v (λ m. m.ready) (made_collected w) ms (λ m. refl) (λ m. refl)) ∙ h);
}

and-turned : (v w : ℕ) (b : Bool) → (not (v == w) && b) ≡ (b && not (w == v))
and-turned v w true = grind (arith, nat_tests)
and-turned v w false = grind (arith, nat_tests)

following-gone : (ms : List Member) (w : ℕ) (e : Entry) → ((v : ℕ) → leaves v e ≡ (w == v)) → MembersAfter ms e (map (made_gone w) ms)
following-gone ms w e k = record {
  members = λ v. has-same v (λ m. true) (made_gone w) ms (λ m. refl) (λ m. refl);
  active = λ v. has-cleared v w (λ m. m.active) (made_gone w) ms (λ m. refl) (λ m. refl) ∙ and-turned v w (active v ms) ∙ ap (λ (b : Bool). active v ms && not b) (sym (k v));
  ready = λ v h. inl (sym (has-same v (λ m. m.ready) (made_gone w) ms (λ m. refl) (λ m. refl)) ∙ h);
}

pub members-following : (s : State) (e : Entry) → may_follow s e ≡ true → MembersAfter s.books.members e (after_effect s e).books.members
members-following s (Ready w) h = following-ready s.books.members w
members-following s (Collected w g) h =
    let ms = s.books.members in
    subst (λ (ns : List Member). MembersAfter ms (Collected w g) ns)
    (sym (collecting-keeps (λ (u : State). u.books.members ≡ map (made_collected w) ms) (in_books (λ b. marked (made_collected w) (with_list w g b)) s) w (unequal w g (listed w s.books)) refl refl refl (λ n. refl)))
    (following-collected ms w g)
members-following s (Done w i u m o) h = following-same s.books.members (Done w i u m o) (λ v. refl)
members-following s (Back w is) h = following-same s.books.members (Back w is) (λ v. refl)
members-following s (Finished w) h = following-gone s.books.members w (Finished w) (λ v. refl)
members-following s (Refused w t) h = following-gone s.books.members w (Refused w t) (λ v. refl)
members-following s (Down w c o) h = following-gone s.books.members w (Down w c o) (λ v. refl)
members-following s (NotStarted w) h = following-gone s.books.members w (NotStarted w) (λ v. refl)
members-following s (Start w slot) h = absurd (differ h)
members-following s (Run w is) h = absurd (differ h)
members-following s (RunAll w) h = absurd (differ h)
members-following s (Steal w is) h = absurd (differ h)
members-following s (Shutdown w) h = absurd (differ h)
members-following s (Kill w) h = absurd (differ h)
members-following s (Over how) h = absurd (differ h)

or-none : (b c : Bool) → (b || (c && false)) ≡ b
or-none true c = refl
or-none false true = refl
or-none false false = refl

-- news that mean nothing are no mark
pub agrees-silent : (b : Books) (marks : ℕ → Marks) (n : News) → is_end n.what ≡ false → is_ready n.what ≡ false → Agrees b marks → Agrees b (λ w. marked_heard n w (marks w))
agrees-silent b marks n e r a = record {
  started = a.started;
  killed = a.killed;
  ended = λ w h. a.ended w (sym (ap (λ (q : Bool). (marks w).ended || (n.worker == w && q)) e ∙ or-none (marks w).ended (n.worker == w)) ∙ h);
  ready = λ w h. ap (λ (q : Bool). (marks w).ready || (n.worker == w && q)) r ∙ or-none (marks w).ready (n.worker == w) ∙ a.ready w h;
}

same_of : (v w : ℕ) → (v == w) ≡ true → v ≡ w
same_of v w h = grind (arith, nat_tests)

-- an input keeps the agreement
pub agrees-meant : (s : State) (marks : ℕ → Marks) (n : News) (e : Entry) → is_active n.worker s.books ≡ true → Meant s n.worker n.what e → Agrees s.books marks → Agrees (after_effect s e).books (λ w. marked_heard n w (marks w))
agrees-meant s marks n e here m a =
    let k = members-following s e m.follow in
    let still : (w : ℕ) → is_active w s.books ≡ false → is_active w (after_effect s e).books ≡ false = λ w h. k.active w ∙ ap (λ (b : Bool). b && not (leaves w e)) h in
    record {
      started = λ w. a.started w ∙ sym (k.members w);
      killed = λ w h. (let p = a.killed w h in (k.members w ∙ p.0, still w p.1));
      ended = λ w h. elim (split-or (marks w).ended (n.worker == w && is_end n.what) h) [
        | inl old ↦ (let p = a.ended w old in (k.members w ∙ p.0, still w p.1))
        | inr new ↦
            (let p = split-and (n.worker == w) (is_end n.what) new in
            let same = same_of n.worker w p.0 in
            let member : is_member n.worker s.books.members ≡ true = has-member n.worker (λ m. m.active) s.books.members here in
            let out : is_active n.worker (after_effect s e).books ≡ false = k.active n.worker ∙ ap (λ (b : Bool). active n.worker s.books.members && not b) (m.left p.1) ∙ and-no (active n.worker s.books.members) in
            subst (λ (v : ℕ). (is_member v (after_effect s e).books.members ≡ true) × (is_active v (after_effect s e).books ≡ false)) same (k.members n.worker ∙ member, out))
      ];
      ready = λ w h. elim (k.ready w h) [
        | inl old ↦ or-first (marks w).ready (n.worker == w && is_ready n.what) (a.ready w old)
        | inr new ↦ (let p = m.ready w new in or-second (marks w).ready (n.worker == w) (is_ready n.what) p.1 p.0)
      ];
    }
  where
    and-no : (b : Bool) → (b && false) ≡ false
    and-no true = refl
    and-no false = refl

    or-first : (b c : Bool) → b ≡ true → (b || c) ≡ true
    or-first true c h = refl
    or-first false c h = absurd (differ h)

    or-second : (b c d : Bool) → c ≡ true → d ≡ true → (b || (c && d)) ≡ true
    or-second true c d h k = refl
    or-second false true true h k = refl
    or-second false true false h k = absurd (differ k)
    or-second false false d h k = absurd (differ h)
