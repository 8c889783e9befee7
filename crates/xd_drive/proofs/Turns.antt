-- One piece of news of an active worker: what it adds can be performed, and the marks agree after it.
use Rattle.std.proofs.Common.{◌≡◌, ℕ, zero, suc, ◌+◌, ◌≤◌, ◌<◌, List, [], ◌∷◌, ◌++◌, Bool, true, false, not, ◌&&◌, refl, ap, sym, ◌∙◌, subst, arith, inl, inr}
use Rattle.std.specs.Prelude.{◌==◌, fold, Option, Some, None}
use Rattle.std.proofs.lemmas.List.{append-nil}
use Rattle.std.proofs.Math.Path.{fun_ext}
use Rattle.std.proofs.lemmas.Bool.Decides.{nat_tests}
use Rattle.xd_journal.specs.declared.settings.Settings.{Settings}
use Rattle.xd_journal.specs.declared.news.News.{News}
use Rattle.xd_journal.specs.declared.entry.Entry.{Entry}
use Rattle.xd_journal.specs.declared.entry.Entry.TheVariants.{Ready, Collected, Done, Back, Finished, Refused, Down, NotStarted, Start, Run, RunAll, Steal, Shutdown, Kill, Over}
use Rattle.xd_run.specs.Workers.{has_member, is_active, slot_of}
use Rattle.xd_run.specs.Sharing.{State}
use Rattle.xd_run.specs.State.{after_effect, after_entries, no_one, settled}
use Rattle.xd_run.specs.Outputs.{outputs}
use Rattle.xd_run.specs.Histories.{first_starts, starts_from}
use Rattle.xd_run.specs.Proper.{IsProper, may_follow}
use Rattle.xd_run.specs.Orderly.{all_orderly}
use Rattle.xd_session.specs.History.{Run as TheRun, begun_run, after_news, input_of, run_of, entries_with, state_with}
use Rattle.xd_run_laws.proofs.Logic.{and, cases_of, differ}
use Rattle.xd_run_laws.proofs.Members.{has-member, is_member}
use Rattle.xd_run_laws.proofs.Inputs.{tidy-input}
use Rattle.xd_run_laws.proofs.Turns.{Tidy, after_entries-first}
use Rattle.xd_drive.specs.Agrees.{Agrees}
use Rattle.xd_drive.specs.Going.{entries_added, added_by}
use Rattle.xd_drive.specs.Marks.{Marks, marked_heard}
use Rattle.xd_drive.specs.Performing.{marks_after, marks_after_entry, all_possible, is_start_of, possible}
use Rattle.xd_drive.proofs.Bounds.{Bounded, bounded-input}
use Rattle.xd_drive.proofs.Heard.{agrees-meant, agrees-silent, members-following}
use Rattle.xd_drive.proofs.Outs.{AllGo, Plain, all-go, bounded-all, follow, kill-goes}
use Rattle.xd_drive.proofs.Runs.{Follows, InRun, Lawful, Means, in_run, in_run-next, input-follows, input-means, lawful, run-more}

pub entries-added : (r : TheRun) (o : Option Entry) → entries_with o r.entries r.state ≡ r.entries ++ entries_added r.state o
entries-added r None = sym (append-nil r.entries)
entries-added r (Some e) = refl

abbrev pub heard_by : News → (ℕ → Marks) → ℕ → Marks
heard_by n marks = λ w. marked_heard n w (marks w)

-- an input is not performed

record NotPerformed (slots : ℕ) (marks : ℕ → Marks) (e : Entry) : Type 0 where
  possible : possible slots marks e ≡ true
  same : (w : ℕ) → marks_after_entry e marks w ≡ marks w
  starts_no_one : (w : ℕ) → is_start_of w e ≡ false

not-performed : (slots : ℕ) (marks : ℕ → Marks) (s : State) (e : Entry) → may_follow s e ≡ true → NotPerformed slots marks e
not-performed slots marks s (Ready w) h = record { possible = refl; same = λ v. refl; starts_no_one = λ v. refl }
not-performed slots marks s (Collected w g) h = record { possible = refl; same = λ v. refl; starts_no_one = λ v. refl }
not-performed slots marks s (Done w i u m o) h = record { possible = refl; same = λ v. refl; starts_no_one = λ v. refl }
not-performed slots marks s (Back w is) h = record { possible = refl; same = λ v. refl; starts_no_one = λ v. refl }
not-performed slots marks s (Finished w) h = record { possible = refl; same = λ v. refl; starts_no_one = λ v. refl }
not-performed slots marks s (Refused w x) h = record { possible = refl; same = λ v. refl; starts_no_one = λ v. refl }
not-performed slots marks s (Down w c o) h = record { possible = refl; same = λ v. refl; starts_no_one = λ v. refl }
not-performed slots marks s (NotStarted w) h = record { possible = refl; same = λ v. refl; starts_no_one = λ v. refl }
not-performed slots marks s (Start w slot) h = absurd (differ h)
not-performed slots marks s (Run w is) h = absurd (differ h)
not-performed slots marks s (RunAll w) h = absurd (differ h)
not-performed slots marks s (Steal w is) h = absurd (differ h)
not-performed slots marks s (Shutdown w) h = absurd (differ h)
not-performed slots marks s (Kill w) h = absurd (differ h)
not-performed slots marks s (Over how) h = absurd (differ h)

agrees-settled : (u : State) (marks : ℕ → Marks) → Agrees u.books marks → Agrees (settled u).books marks
agrees-settled u marks a = record { started = a.started; killed = a.killed; ended = a.ended; ready = a.ready }

bounded-settled : (settings : Settings) (u : State) → Bounded settings u → Bounded settings (settled u)
bounded-settled settings u b = record { settings_are = b.settings_are; sizes = b.sizes; whole = b.whole; lists = b.lists }

-- the outputs of an input

slots-low : (settings : Settings) (s : State) (e : Entry) → may_follow s e ≡ true → Tidy s → Bounded settings s → (w : ℕ) → is_active w s.books ≡ true → slot_of w (after_effect s e).books < settings.workers
slots-low settings s e h d b w a =
    let t = tidy-input s e h d in
    let k = members-following s e h in
    let member : is_member w (after_effect s e).books.members ≡ true = k.members w ∙ has-member w (λ m. m.active) s.books.members a in
    subst (λ (x : Settings). slot_of w (after_effect s e).books < x.workers) (bounded-input settings s e h b).settings_are (t.members.below w member)

module _ (settings : Settings) (slots : ℕ) (marks : ℕ → Marks) (s : State) (e : Entry) (l : settings.workers ≤ slots) (h : may_follow s e ≡ true) (d : Lawful s e) (b : Bounded settings s) (a : Agrees (after_effect s e).books marks) where
  abbrev t : State
  t = after_effect s e

  outs-plain : (rest : List Entry) → outputs s e ≡ rest → Plain (not (Rattle.xd_run.specs.Plan.is_each t.plan.mode)) settings.workers rest → AllGo slots marks (outputs s e) (after_entries t (outputs s e))
  outs-plain rest is p =
      subst (λ (es : List Entry). AllGo slots marks es (after_entries t es)) (sym is)
      (all-go settings slots settings.workers marks t rest l p (sym (ap (all_orderly t) is) ∙ d.orderly) (bounded-input settings s e h b) (tidy-input s e h d.tidy).placed a)

  outs-kill : (w : ℕ) (rest : List Entry) → outputs s e ≡ Kill w ∷ rest → has_member w (λ m. true) t.books ≡ true → is_active w t.books ≡ false → (marks w).killed ≡ false
      → Plain (not (Rattle.xd_run.specs.Plan.is_each t.plan.mode)) settings.workers rest → AllGo slots marks (outputs s e) (after_entries t (outputs s e))
  outs-kill w rest is m n k p =
      let one = kill-goes slots marks t w m n k a in
      let more = all-go settings slots settings.workers (marks_after_entry (Kill w) marks) t rest l p (sym (ap (all_orderly t) is) ∙ d.orderly) (bounded-input settings s e h b) (tidy-input s e h d.tidy).placed one.agrees in
      subst (λ (es : List Entry). AllGo slots marks es (after_entries t es)) (sym is) (record {
        possible = and one.possible more.possible;
        agrees = subst (λ (u : State). Agrees u.books (marks_after rest (marks_after_entry (Kill w) marks))) (sym (after_entries-first t (Kill w) rest refl)) more.agrees;
      })

  abbrev low : (w : ℕ) → is_active w s.books ≡ true → slot_of w t.books < settings.workers
  low = slots-low settings s e h d.tidy b

pub outs-go : (settings : Settings) (slots : ℕ) (marks : ℕ → Marks) (s : State) (e : Entry) → settings.workers ≤ slots → may_follow s e ≡ true → Lawful s e → Bounded settings s
    → Agrees (after_effect s e).books marks → ((w : ℕ) → is_active w s.books ≡ true → (marks w).killed ≡ false)
    → AllGo slots marks (outputs s e) (after_entries (after_effect s e) (outputs s e))
outs-go settings slots marks s (Down w c o) l h d b a u =
    let f = follow s (Down w c o) settings.workers h (low settings slots marks s (Down w c o) l h d b a) in
    let k = members-following s (Down w c o) h in
    outs-kill settings slots marks s (Down w c o) l h d b a w f.rest f.outs
    (k.members w ∙ has-member w (λ m. m.active) s.books.members h)
    (k.active w ∙ ap (λ (q : Bool). is_active w s.books && not q) (same_number w) ∙ and-no (is_active w s.books))
    (u w h) f.plain_rest
  where
    same_number : (v : ℕ) → (v == v) ≡ true
    same_number v = grind (arith, nat_tests)

    and-no : (q : Bool) → (q && false) ≡ false
    and-no true = refl
    and-no false = refl
outs-go settings slots marks s (Ready w) l h d b a u = (let f = follow s (Ready w) settings.workers h (low settings slots marks s (Ready w) l h d b a) in outs-plain settings slots marks s (Ready w) l h d b a f.rest f.outs f.plain_rest)
outs-go settings slots marks s (Collected w g) l h d b a u = (let f = follow s (Collected w g) settings.workers h (low settings slots marks s (Collected w g) l h d b a) in outs-plain settings slots marks s (Collected w g) l h d b a f.rest f.outs f.plain_rest)
outs-go settings slots marks s (Done w i x m o) l h d b a u = (let f = follow s (Done w i x m o) settings.workers h (low settings slots marks s (Done w i x m o) l h d b a) in outs-plain settings slots marks s (Done w i x m o) l h d b a f.rest f.outs f.plain_rest)
outs-go settings slots marks s (Back w is) l h d b a u = (let f = follow s (Back w is) settings.workers h (low settings slots marks s (Back w is) l h d b a) in outs-plain settings slots marks s (Back w is) l h d b a f.rest f.outs f.plain_rest)
outs-go settings slots marks s (Finished w) l h d b a u = (let f = follow s (Finished w) settings.workers h (low settings slots marks s (Finished w) l h d b a) in outs-plain settings slots marks s (Finished w) l h d b a f.rest f.outs f.plain_rest)
outs-go settings slots marks s (Refused w x) l h d b a u = (let f = follow s (Refused w x) settings.workers h (low settings slots marks s (Refused w x) l h d b a) in outs-plain settings slots marks s (Refused w x) l h d b a f.rest f.outs f.plain_rest)
outs-go settings slots marks s (NotStarted w) l h d b a u = (let f = follow s (NotStarted w) settings.workers h (low settings slots marks s (NotStarted w) l h d b a) in outs-plain settings slots marks s (NotStarted w) l h d b a f.rest f.outs f.plain_rest)
outs-go settings slots marks s (Start w slot) l h d b a u = absurd (differ h)
outs-go settings slots marks s (Run w is) l h d b a u = absurd (differ h)
outs-go settings slots marks s (RunAll w) l h d b a u = absurd (differ h)
outs-go settings slots marks s (Steal w is) l h d b a u = absurd (differ h)
outs-go settings slots marks s (Shutdown w) l h d b a u = absurd (differ h)
outs-go settings slots marks s (Kill w) l h d b a u = absurd (differ h)
outs-go settings slots marks s (Over how) l h d b a u = absurd (differ h)

-- who is active was not killed, and has not ended
pub unkilled : (b : _) (marks : ℕ → Marks) → Agrees b marks → (w : ℕ) → is_active w b ≡ true → (marks w).killed ≡ false
unkilled b marks a w h = elim (cases_of (marks w).killed) [ inl k ↦ absurd (differ (sym (a.killed w k).1 ∙ h)) | inr k ↦ k ]

-- the whole step
step-with : (settings : Settings) (slots : ℕ) (marks : ℕ → Marks) (r : TheRun) (n : News) (o : Option Entry) → settings.workers ≤ slots → InRun settings r → Bounded settings r.state → Agrees r.state.books marks → is_active n.worker r.state.books ≡ true → Means r.state n.worker n.what o
    → (all_possible slots (heard_by n marks) (entries_added r.state o) ≡ true) × (Agrees (state_with o r.state).books (marks_after (entries_added r.state o) (heard_by n marks))) × (Bounded settings (state_with o r.state))
step-with settings slots marks r n None l i b a here m = (refl, agrees-silent r.state.books marks n m.0 m.1 a, b)
step-with settings slots marks r n (Some e) l i b a here m =
    let s = r.state in
    let d = lawful settings r e i m.follow in
    let heard = heard_by n marks in
    let input = not-performed slots heard s e m.follow in
    let g = outs-go settings slots heard s e l m.follow d b (agrees-meant s marks n e here m a) (unkilled s.books marks a) in
    let same : (λ w. marks_after_entry e heard w) ≡ heard = fun_ext input.same in
    let first : marks_after_entry e heard ≡ heard = same in (
      and input.possible (ap (λ (f : ℕ → Marks). all_possible slots f (outputs s e)) first ∙ g.possible),
      agrees-settled (after_entries (after_effect s e) (outputs s e)) (marks_after (outputs s e) (marks_after_entry e heard))
          (subst (λ (f : ℕ → Marks). Agrees (after_entries (after_effect s e) (outputs s e)).books (marks_after (outputs s e) f)) (sym first) g.agrees),
      bounded-settled settings (after_entries (after_effect s e) (outputs s e)) (bounded-all settings (after_effect s e) (outputs s e) d.orderly (bounded-input settings s e m.follow b)),
    )

-- in the words of a session
module _ (settings : Settings) (proper : IsProper settings []) (slots : ℕ) (marks : ℕ → Marks) (taken : List News) (n : News) where
  abbrev r : TheRun
  r = run_of settings taken

  pub step-possible : settings.workers ≤ slots → Bounded settings r.state → Agrees r.state.books marks → is_active n.worker r.state.books ≡ true → all_possible slots (heard_by n marks) (added_by settings taken n) ≡ true
  step-possible l b a here = (step-with settings slots marks r n (input_of r n) l (in_run settings proper taken) b a here (input-means r n here)).0

  pub step-agrees : settings.workers ≤ slots → Bounded settings r.state → Agrees r.state.books marks → is_active n.worker r.state.books ≡ true
      → Agrees (run_of settings (taken ++ n ∷ [])).state.books (marks_after (added_by settings taken n) (heard_by n marks))
  step-agrees l b a here = subst (λ (q : TheRun). Agrees q.state.books (marks_after (added_by settings taken n) (heard_by n marks))) (sym (run-more settings taken n))
      (step-with settings slots marks r n (input_of r n) l (in_run settings proper taken) b a here (input-means r n here)).1

  pub step-entries : (run_of settings (taken ++ n ∷ [])).entries ≡ r.entries ++ added_by settings taken n
  step-entries = ap (λ (q : TheRun). q.entries) (run-more settings taken n) ∙ entries-added r (input_of r n)

-- no collection of a run has too many tests

bounded-with : (settings : Settings) (r : TheRun) (o : Option Entry) → InRun settings r → Bounded settings r.state → Follows r.state o → Bounded settings (state_with o r.state)
bounded-with settings r None i b f = b
bounded-with settings r (Some e) i b f =
    let s = r.state in
    let d = lawful settings r e i f in
    bounded-settled settings (after_entries (after_effect s e) (outputs s e)) (bounded-all settings (after_effect s e) (outputs s e) d.orderly (bounded-input settings s e f b))

bounded-news : (settings : Settings) (taken : List News) (r : TheRun) → InRun settings r → Bounded settings r.state → Bounded settings (fold after_news r taken).state
bounded-news settings [] r i b = b
bounded-news settings (n ∷ ns) r i b = bounded-news settings ns (after_news r n) (in_run-next settings r n i) (bounded-with settings r (input_of r n) i b (input-follows r n))

bounded-starts : (settings : Settings) (s : State) (w k : ℕ) → Bounded settings s → Bounded settings (after_entries s (starts_from w k))
bounded-starts settings s w zero b = b
bounded-starts settings s w (suc k) b = bounded-starts settings (after_effect s (Start w w)) (w + 1) k (record { settings_are = b.settings_are; sizes = b.sizes; whole = b.whole; lists = b.lists })

pub bounded : (settings : Settings) → IsProper settings [] → (taken : List News) → Bounded settings (run_of settings taken).state
bounded settings p taken =
    let none : Bounded settings (no_one settings) = record { settings_are = refl; sizes = λ slot. omega arith; whole = λ h. omega arith; lists = λ slot. omega arith } in
    bounded-news settings taken (begun_run settings) (in_run settings p [])
    (bounded-settled settings (after_entries (no_one settings) (first_starts settings)) (bounded-starts settings (no_one settings) 0 settings.workers none))
