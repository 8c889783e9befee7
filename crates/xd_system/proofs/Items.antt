-- Where nobody went down, each item of a run that is over and was not stopped ran once.
use Rattle.std.proofs.Common.{◌≡◌, ℕ, ◌+◌, ◌<◌, List, [], ◌∷◌, map, length, Bool, true, false, refl, ap, sym, ◌∙◌, subst, arith, inl, inr}
use Rattle.std.specs.Prelude.{◌==◌, filter, if◌then◌else◌}
use Rattle.std.specs.List.{list_any}
use Rattle.std.proofs.lemmas.Bool.Decides.{nat_tests}
use Rattle.xd_journal.specs.declared.entry.Entry.{Entry}
use Rattle.xd_journal.specs.declared.entry.Outcome.{Outcome}
use Rattle.xd_journal.specs.declared.news.News.{News}
use Rattle.xd_journal.specs.declared.settings.Settings.{Settings}
use Rattle.xd_run.specs.Histories.{is_over}
use Rattle.xd_run.specs.Numbers.{times}
use Rattle.xd_run.specs.Plan.{base, total}
use Rattle.xd_run.specs.Proper.{IsProper}
use Rattle.xd_run.specs.Reports.{Report, Result, Crash, item_of, reports}
use Rattle.xd_run.specs.Sharing.{State}
use Rattle.xd_run.specs.Stops.{is_stopped}
use Rattle.xd_run.specs.State.{no_one}
use Rattle.xd_run.specs.Workers.{has_member, slot_of}
use Rattle.xd_run_laws.specs.Stopped.{is_death}
use Rattle.xd_run_laws.proofs.Laws.{reported_once}
use Rattle.xd_run_laws.proofs.Logic.{cases_of}
use Rattle.xd_session.specs.History.{IsProperRun, Run as SoFar, run_of}
use Rattle.xd_session.proofs.Steps.{sound-run}
use Rattle.xd_system.specs.Laws.{RanOnce, ReportsItsTests, RunsEachOnce, is_report_of}
use Rattle.xd_system.specs.Moment.{IsHonestAt, LinkNow}
use Rattle.xd_system.specs.Tells.{outcomes}
use Rattle.xd_system.proofs.Once.{reports_its_tests}
use Rattle.xd_system.proofs.NoCrash.{no-crashes}
use Rattle.xd_system.proofs.Results.{Reported, keeps_reported, reported-none, results}
use Rattle.xd_system.proofs.Walks.{at-run}

-- lists of which one is looked for

commutes : {A : Type 0} (f g : A → Bool) (xs : List A) → filter f (filter g xs) ≡ filter g (filter f xs)
commutes f g [] = refl
commutes f g (x ∷ xs) = grind (arith, commutes f g xs)

mapped : {A B : Type 0} (f : B → Bool) (h : A → B) (xs : List A)
    → filter f (map h xs) ≡ map h (filter (λ x. f (h x)) xs)
mapped f h [] = refl
mapped f h (x ∷ xs) = go (f (h x)) (mapped f h xs)
  where
    go : (b : Bool) → filter f (map h xs) ≡ map h (filter (λ y. f (h y)) xs)
        → (if b then h x ∷ filter f (map h xs) else filter f (map h xs)) ≡ map h (if b then x ∷ filter (λ y. f (h y)) xs else filter (λ y. f (h y)) xs)
    go true k = ap (λ (l : List _). h x ∷ l) k
    go false k = k

none-named : (x : ℕ) (rs : List Report) → times x (map item_of rs) ≡ 0 → filter (λ q. x == item_of q) rs ≡ []
none-named x [] h = refl
none-named x (r ∷ rs) h = go (x == item_of r) (none-named x rs) h
  where
    go : (b : Bool) → (times x (map item_of rs) ≡ 0 → filter (λ q. x == item_of q) rs ≡ [])
        → (if b then 1 else 0) + times x (map item_of rs) ≡ 0
        → (if b then r ∷ filter (λ q. x == item_of q) rs else filter (λ q. x == item_of q) rs) ≡ []
    go true rest z = absurd (omega (arith, z))
    go false rest z = rest (omega (arith, z))

one-named : (x : ℕ) (rs : List Report) → times x (map item_of rs) ≡ 1
    → (q : Report) × (filter (λ q. x == item_of q) rs ≡ q ∷ [])
one-named x [] h = absurd (omega (arith, h))
one-named x (r ∷ rs) h = go (x == item_of r) (one-named x rs) h
  where
    go : (b : Bool) → (times x (map item_of rs) ≡ 1 → (q : Report) × (filter (λ q. x == item_of q) rs ≡ q ∷ []))
        → (if b then 1 else 0) + times x (map item_of rs) ≡ 1
        → (q : Report) × ((if b then r ∷ filter (λ q. x == item_of q) rs else filter (λ q. x == item_of q) rs) ≡ q ∷ [])
    go true rest z = (r, ap (λ (l : List Report). r ∷ l) (none-named x rs (omega (arith, z))))
    go false rest z = rest (omega (arith, z))

counted : (n : ℕ) (ds : List (ℕ × Outcome))
    → times n (map (λ (p : ℕ × Outcome). p.0) ds) ≡ length (filter (λ (p : ℕ × Outcome). n == p.0) ds)
counted n [] = refl
counted n (d ∷ ds) = go (n == d.0) (counted n ds)
  where
    go : (b : Bool) → times n (map (λ (p : ℕ × Outcome). p.0) ds) ≡ length (filter (λ (p : ℕ × Outcome). n == p.0) ds)
        → (if b then 1 else 0) + times n (map (λ (p : ℕ × Outcome). p.0) ds) ≡ length (if b then d ∷ filter (λ (p : ℕ × Outcome). n == p.0) ds else filter (λ (p : ℕ × Outcome). n == p.0) ds)
    go true k = omega (arith, k)
    go false k = omega (arith, k)

-- items from one number on are the same where the tests are
shifted : (b n : ℕ) (ds : List (ℕ × Outcome))
    → filter (λ (p : ℕ × Outcome). b + n == b + p.0) ds ≡ filter (λ (p : ℕ × Outcome). n == p.0) ds
shifted b n [] = refl
shifted b n (d ∷ ds) =
    ap (λ (c : Bool). if c then d ∷ filter (λ (p : ℕ × Outcome). b + n == b + p.0) ds else filter (λ (p : ℕ × Outcome). b + n == b + p.0) ds) (same b n d.0)
    ∙ ap (λ (l : List (ℕ × Outcome)). if n == d.0 then d ∷ l else l) (shifted b n ds)
  where
    same : (b n m : ℕ) → (b + n == b + m) ≡ (n == m)
    same b n m = grind (arith, nat_tests)

-- the first of what is kept has what it was kept for
kept-has : {A : Type 0} (f : A → Bool) (xs : List A) (y : A) (ys : List A) → filter f xs ≡ y ∷ ys → f y ≡ true
kept-has f [] y ys h = absurd cc
kept-has f (x ∷ xs) y ys h = go (f x) refl (kept-has f xs y ys) h
  where
    go : (b : Bool) → f x ≡ b → (filter f xs ≡ y ∷ ys → f y ≡ true)
        → (if b then x ∷ filter f xs else filter f xs) ≡ y ∷ ys → f y ≡ true
    go true e rest z = (let same : x ≡ y = cc in sym (ap f same) ∙ e)
    go false e rest z = rest z

-- the worker of a report
abbrev worker_of : Report → ℕ
worker_of (Result v item outcome) = v
worker_of (Crash v item) = v

reports-of : (w : ℕ) (q : Report) → is_report_of w q ≡ (worker_of q == w)
reports-of w (Result v item outcome) = refl
reports-of w (Crash v item) = refl

module _ (settings : Settings) (taken : List News) (links : ℕ → LinkNow) (proper : IsProper settings [])
    (honest : (w : ℕ) → has_member w (λ m. true) (run_of settings taken).state.books ≡ true → IsHonestAt settings taken w (links w))
    (alive : list_any is_death (run_of settings taken).entries ≡ false) (over : is_over (run_of settings taken).state.books ≡ true)
    (unstopped : is_stopped (run_of settings taken).state.books ≡ false) where
  abbrev r : SoFar
  r = run_of settings taken

  abbrev rs : List Report
  rs = reports settings r.entries

  abbrev first : ℕ → ℕ
  first w = base (slot_of w r.state.books) r.state.plan

  sound : IsProperRun settings (run_of settings taken)
  sound = sound-run settings taken proper

  once : (x : ℕ) → x < total (run_of settings taken).state.plan
      → times x (map item_of (reports settings (run_of settings taken).entries)) ≡ 1
  once x low = ap (λ (es : List Entry). times x (map item_of (reports settings es))) sound.journal
      ∙ (reported_once settings r.inputs sound.proper).all_told (sym (ap (λ (s : State). is_over s.books) sound.state) ∙ over)
      (sym (ap (λ (s : State). is_stopped s.books) sound.state) ∙ unstopped) x (subst (λ (s : State). x < total s.plan) sound.state low)

  its-tests : (w : ℕ) → has_member w (λ m. true) (run_of settings taken).state.books ≡ true
      → ReportsItsTests (run_of settings taken) settings w (links w).given
  its-tests w member = reports_its_tests settings taken links proper honest alive over unstopped w member

  -- what a worker that was not started reports
  unstarted : (w : ℕ) → has_member w (λ m. true) (run_of settings taken).state.books ≡ false
      → filter (is_report_of w) (reports settings (run_of settings taken).entries) ≡ []
  unstarted w none =
      let reported = at-run settings r (Reported settings w) (keeps_reported settings w) sound (reported-none settings w) in
      no-crashes w (no_one settings) r.entries alive ∙ reported.results_are ∙ ap (results w r.state) (reported.unstarted none)

  module _ (x : ℕ) (low : x < total (run_of settings taken).state.plan) where
    one : (q : Report) × (filter (λ q. x == item_of q) (reports settings (run_of settings taken).entries) ≡ q ∷ [])
    one = one-named x rs (once x low)

    -- of each worker's reports those that name the item
    by_worker : (w : ℕ) → filter (λ q. x == item_of q) (filter (is_report_of w) (reports settings (run_of settings taken).entries)) ≡ (if worker_of one.0 == w then one.0 ∷ [] else [])
    by_worker w = commutes (λ q. x == item_of q) (is_report_of w) rs ∙ ap (filter (is_report_of w)) one.1
        ∙ ap (λ (b : Bool). if b then one.0 ∷ [] else []) (reports-of w one.0)

    by_member : (w : ℕ) → has_member w (λ m. true) (run_of settings taken).state.books ≡ true
        → map (λ (p : ℕ × Outcome). Result w (base (slot_of w (run_of settings taken).state.books) (run_of settings taken).state.plan + p.0) p.1)
        (filter (λ (p : ℕ × Outcome). x == base (slot_of w (run_of settings taken).state.books) (run_of settings taken).state.plan + p.0) (outcomes (links w).given))
        ≡ (if worker_of one.0 == w then one.0 ∷ [] else [])
    by_member w member =
        sym (mapped (λ q. x == item_of q) (λ (p : ℕ × Outcome). Result w (first w + p.0) p.1) (outcomes (links w).given))
        ∙ sym (ap (filter (λ q. x == item_of q)) (its-tests w member).reports_are) ∙ by_worker w

    abbrev its : ℕ
    its = worker_of one.0

    is-its : (worker_of one.0 == worker_of one.0) ≡ true
    is-its = grind (arith, nat_tests)

    member : has_member (worker_of one.0) (λ m. true) (run_of settings taken).state.books ≡ true
    member = elim (cases_of (has_member its (λ m. true) r.state.books)) [
      | inl m ↦ m
      | inr none ↦ absurd (let z : [] ≡ one.0 ∷ [] = sym (ap (filter (λ q. x == item_of q)) (unstarted its none)) ∙ by_worker its ∙ ap (λ (b : Bool). if b then one.0 ∷ [] else []) is-its in cc)
    ]

    abbrev ends : List (ℕ × Outcome)
    ends = outcomes (links its).given

    -- the one test of the worker that is the item
    found : (ds : List (ℕ × Outcome))
        → filter (λ (p : ℕ × Outcome). x == first its + p.0) (outcomes (links (worker_of one.0)).given) ≡ ds
        → RanOnce (run_of settings taken) settings links x
    found [] e = absurd (let z : [] ≡ one.0 ∷ [] = sym (ap (map (λ (p : ℕ × Outcome). Result its (first its + p.0) p.1)) e) ∙ by_member its member ∙ ap (λ (b : Bool). if b then one.0 ∷ [] else []) is-its in cc)
    found (d ∷ ds) e =
        let all : Result its (first its + d.0) d.1 ∷ map (λ (p : ℕ × Outcome). Result its (first its + p.0) p.1) ds ≡ one.0 ∷ []
        = sym (ap (map (λ (p : ℕ × Outcome). Result its (first its + p.0) p.1)) e) ∙ by_member its member
        ∙ ap (λ (b : Bool). if b then one.0 ∷ [] else []) is-its in
        let report : Result its (first its + d.0) d.1 ≡ one.0 = cc in
        let rest : map (λ (p : ℕ × Outcome). Result its (first its + p.0) p.1) ds ≡ [] = cc in
        let here : (x == first its + d.0) ≡ true = kept-has (λ (p : ℕ × Outcome). x == first its + p.0) ends d ds e in
        let item : first its + d.0 ≡ x = grind (arith, nat_tests, here) in
        let alone : filter (λ (p : ℕ × Outcome). d.0 == p.0) ends ≡ d ∷ []
        = sym (shifted (first its) d.0 ends)
        ∙ ap (λ (y : ℕ). filter (λ (p : ℕ × Outcome). y == first its + p.0) ends) item ∙ e
        ∙ ap (λ (l : List (ℕ × Outcome)). d ∷ l) (unmapped ds rest) in
        record {
          worker = its;
          test = d.0;
          outcome = d.1;
          member = member;
          item = item;
          started = ap (times d.0) (sym (its-tests its member).each_ended) ∙ counted d.0 ends ∙ ap length alone;
          ended = alone;
          report = one.1 ∙ ap (λ (q : Report). q ∷ []) (sym report) ∙ ap (λ (y : ℕ). Result its y d.1 ∷ []) item;
          no_other = λ v n m other at. (let none : map (λ (p : ℕ × Outcome). Result v (first v + p.0) p.1) (filter (λ (p : ℕ × Outcome). x == first v + p.0) (outcomes (links v).given)) ≡ []
              = by_member v m ∙ ap (λ (b : Bool). if b then one.0 ∷ [] else []) (unlike v its other) in
              ap (times n) (sym (its-tests v m).each_ended) ∙ counted n (outcomes (links v).given)
              ∙ ap length (sym (shifted (first v) n (outcomes (links v).given)) ∙ ap (λ (y : ℕ). filter (λ (p : ℕ × Outcome). y == first v + p.0) (outcomes (links v).given)) at
              ∙ unmapped-of v (filter (λ (p : ℕ × Outcome). x == first v + p.0) (outcomes (links v).given)) none));
        }
      where
        unmapped-of : (v : ℕ) (cs : List (ℕ × Outcome))
            → map (λ (p : ℕ × Outcome). Result v (first v + p.0) p.1) cs ≡ [] → cs ≡ []
        unmapped-of v [] h = refl
        unmapped-of v (c ∷ cs) h = absurd cc

        unmapped : (cs : List (ℕ × Outcome)) → map (λ (p : ℕ × Outcome). Result its (first its + p.0) p.1) cs ≡ []
            → cs ≡ []
        unmapped cs h = unmapped-of its cs h

        unlike : (v w : ℕ) → (v == w) ≡ false → (w == v) ≡ false
        unlike v w h = grind (arith, nat_tests, h)

    ran : RanOnce (run_of settings taken) settings links x
    ran = found (filter (λ (p : ℕ × Outcome). x == first its + p.0) ends) refl

pub runs_once : RunsEachOnce
runs_once settings taken links proper honest alive over unstopped = record {
  by_worker = λ w member. its-tests settings taken links proper honest alive over unstopped w member;
  by_item = λ x low. ran settings taken links proper honest alive over unstopped x low;
}
