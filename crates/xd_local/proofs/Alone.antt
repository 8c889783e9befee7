-- What the definitions of a run make of a journal without workers.
use Rattle.std.proofs.Common.{◌≡◌, ◌==◌, ◌<◌, ℕ, Bool, zero, suc, ◌+◌, true, false, List, [], ◌∷◌, ◌++◌, length, take, map, if◌then◌else◌, Option, Some, None, refl, sym, ◌∙◌, ap, subst, arith}
use Rattle.std.proofs.lemmas.Bool.Decides.{nat_tests}
use Rattle.std.specs.List.{range_with_len}
use Rattle.std.specs.Prelude.{fold, is_some, unwrap_or}
use Rattle.xd_edge.specs.declared.mode.ModeKind.{ModeKind}
use Rattle.xd_edge.specs.declared.mode.ModeKind.TheVariants.{Local}
use Rattle.xd_journal.specs.declared.entry.Entry.TheVariants.{Run, Over}
use Rattle.xd_journal.specs.declared.entry.Outcome.{Outcome}
use Rattle.xd_journal.specs.declared.entry.Outcome.TheVariants.{Passed, Skipped, Failed}
use Rattle.xd_journal.specs.declared.entry.RunStop.{RunStop}
use Rattle.xd_journal.specs.declared.entry.RunStop.TheVariants.{Completed, MaxFail}
use Rattle.xd_journal.specs.Stop.{reaches}
use Rattle.xd_journal.specs.Local.{TestResult, round, rounds}
use Rattle.xd_run.specs.Books.{Books}
use Rattle.xd_run.specs.Stops.{or_stop}
use Rattle.xd_run.specs.Plan.{Plan, base, is_each, items_named}
use Rattle.xd_run.specs.Reports.{Report, item_of, reports_from}
use Rattle.xd_run.specs.Reports.Report.{Result}
use Rattle.xd_run.specs.Sharing.{State}
use Rattle.xd_run.specs.Results.{done_books, failing}
use Rattle.xd_run.specs.State.{after_entries, after_effect, settled}
use Rattle.xd_run.specs.Workers.{slot_of}
use Rattle.xd_child.specs.Ending.{fault_count}
use Rattle.xd_local.specs.Local.{faults_of_reports, report_faults, stop_at}
use Rattle.xd_local.specs.Print.{failures_in}
use Rattle.xd_local.specs.inner.Running.{BelowLimit, failed_of, result_faults}

-- the reports of the tests from a number on
abbrev pub reports_alone : ℕ → List TestResult → List Report
reports_alone n [] = []
reports_alone n (r ∷ rs) = Result 0 n r.outcome ∷ reports_alone (n + 1) rs

item-alone : (slot n : ℕ) (p : Plan) → p.mode ≡ Local → items_named slot (n ∷ []) p ≡ n ∷ []
item-alone slot n p e = ap (λ (m : ModeKind). if is_each m then map (λ i. base slot p + i) (n ∷ []) else n ∷ []) e

-- the state after one test
abbrev after_one : ℕ → TestResult → State → State
after_one n r s = after_entries s (round n r)

pub reports-rounds : (s : State) (n : ℕ) (rs : List TestResult) (how : RunStop) → s.plan.mode ≡ Local → reports_from s (rounds n rs ++ Over how ∷ []) ≡ reports_alone n rs
reports-rounds s n [] how e = refl
reports-rounds s n (r ∷ rs) how e =
    ap (λ (items : List ℕ). map (λ item. Result 0 item r.outcome) items ++ reports_from (after_one n r s) (rounds (n + 1) rs ++ Over how ∷ [])) (item-alone _ n s.plan e)
    ∙ ap (λ (l : List Report). Result 0 n r.outcome ∷ l) (reports-rounds (after_one n r s) (n + 1) rs how e)

pub items-alone : (n : ℕ) (rs : List TestResult) → map item_of (reports_alone n rs) ≡ range_with_len n (length rs)
items-alone n [] = refl
items-alone n (r ∷ rs) = ap (λ (l : List ℕ). n ∷ l) (items-alone (n + 1) rs)

pub length-alone : (n : ℕ) (rs : List TestResult) → length (reports_alone n rs) ≡ length rs
length-alone n [] = refl
length-alone n (r ∷ rs) = ap suc (length-alone (n + 1) rs)

faults-from : (so_far n : ℕ) (rs : List TestResult) → fold (λ k report. k + report_faults report) so_far (reports_alone n rs) ≡ fold (λ k r. k + fault_count r.outcome) so_far rs
faults-from so_far n [] = refl
faults-from so_far n (r ∷ rs) = faults-from (so_far + fault_count r.outcome) (n + 1) rs

pub faults-alone : (n : ℕ) (rs : List TestResult) → faults_of_reports (reports_alone n rs) ≡ result_faults rs
faults-alone n rs = faults-from 0 n rs

-- the failures among the reports are those of the results
failed-one : (o : Outcome) (n : ℕ) (l : List Report) → failures_in (Result 0 n o ∷ l) ≡ failing o + failures_in l
failed-one Passed n l = let e : failures_in l ≡ 0 + failures_in l = omega arith in e
failed-one Skipped n l = let e : failures_in l ≡ 0 + failures_in l = omega arith in e
failed-one (Failed code) n l = let e : suc (failures_in l) ≡ 1 + failures_in l = omega arith in e

pub failures-alone : (n : ℕ) (rs : List TestResult) → failures_in (reports_alone n rs) ≡ failed_of rs
failures-alone n [] = refl
failures-alone n (r ∷ rs) = failed-one r.outcome n (reports_alone (n + 1) rs) ∙ ap (λ k. failing r.outcome + k) (failures-alone (n + 1) rs)

pub take-alone : (k n : ℕ) (rs : List TestResult) → take k (reports_alone n rs) ≡ reports_alone n (take k rs)
take-alone zero n rs = refl
take-alone (suc k) n [] = refl
take-alone (suc k) n (r ∷ rs) = ap (λ (l : List Report). Result 0 n r.outcome ∷ l) (take-alone k (n + 1) rs)

-- only a failure that reaches the limit stops the run

abbrev pub stop_by : ℕ → ℕ → Option RunStop
stop_by limit failures = if reaches limit failures then Some (MaxFail failures) else None

never-zero : (limit : ℕ) → reaches limit 0 ≡ false
never-zero zero = refl
never-zero (suc limit) = grind (arith, nat_tests)

pub low-none : (limit failures : ℕ) → reaches limit failures ≡ false → stop_by limit failures ≡ None
low-none limit failures low = ap (λ b. if b then Some (MaxFail failures) else None) low

pub is_some-stop : (limit failures : ℕ) → is_some (stop_by limit failures) ≡ reaches limit failures
is_some-stop limit failures = by_case (reaches limit failures)
  where
    by_case : (b : Bool) → is_some (if b then Some (MaxFail failures) else None) ≡ b
    by_case true = refl
    by_case false = refl

pub unwrap-stop : (limit failures : ℕ) → unwrap_or (stop_by limit failures) Completed ≡ stop_at limit failures
unwrap-stop limit failures = by_case (reaches limit failures)
  where
    by_case : (b : Bool) → unwrap_or (if b then Some (MaxFail failures) else None) Completed ≡ (if b then MaxFail failures else Completed)
    by_case true = refl
    by_case false = refl

plus-none : (n : ℕ) → n + 0 ≡ n
plus-none n = omega arith

done-stop : (limit : ℕ) (items : List ℕ) (o : Outcome) (b : Books) → b.settings.maxfail ≡ limit → b.stop ≡ None → reaches limit b.failures ≡ false → (done_books 0 items o b).stop ≡ stop_by limit (b.failures + failing o)
done-stop limit items Passed b same none low = ap (λ (x : Option RunStop). or_stop x None) none ∙ sym (low-none limit (b.failures + 0) (ap (reaches limit) (plus-none b.failures) ∙ low))
done-stop limit items Skipped b same none low = ap (λ (x : Option RunStop). or_stop x None) none ∙ sym (low-none limit (b.failures + 0) (ap (reaches limit) (plus-none b.failures) ∙ low))
done-stop limit items (Failed code) b same none low = ap (λ (x : Option RunStop). or_stop x (stop_by b.settings.maxfail (b.failures + 1))) none ∙ ap (λ k. stop_by k (b.failures + 1)) same

-- after these results, none but the last of which may have reached the limit
stop-rounds : (limit : ℕ) (s : State) (n : ℕ) (rs : List TestResult) → s.books.settings.maxfail ≡ limit → s.books.stop ≡ stop_by limit s.books.failures → BelowLimit limit s.books.failures rs
    → (after_entries s (rounds n rs)).books.stop ≡ stop_by limit (s.books.failures + failed_of rs)
stop-rounds limit s n [] same at below = at ∙ ap (stop_by limit) (sym (plus-none s.books.failures))
stop-rounds limit s n (r ∷ rs) same at below =
    let ran : State = settled (after_effect s (Run 0 (n ∷ []))) in
    let none : s.books.stop ≡ None = at ∙ low-none limit s.books.failures below.0 in
    let e : s.books.failures + failing r.outcome + failed_of rs ≡ s.books.failures + (failing r.outcome + failed_of rs) = omega arith in
    stop-rounds limit (after_one n r s) (n + 1) rs same (done-stop limit (items_named (slot_of 0 ran.books) (n ∷ []) ran.plan) r.outcome ran.books same none below.0) below.1
    ∙ ap (stop_by limit) e

-- one result more, where the limit was not reached
below-more : (limit before : ℕ) (rs : List TestResult) (r : TestResult) → BelowLimit limit before rs → reaches limit (before + failed_of rs) ≡ false → BelowLimit limit before (rs ++ r ∷ [])
below-more limit before [] r below low = (ap (reaches limit) (sym (plus-none before)) ∙ low, tt)
below-more limit before (x ∷ rs) r below low =
    let e : before + failing x.outcome + failed_of rs ≡ before + (failing x.outcome + failed_of rs) = omega arith in
    (below.0, below-more limit (before + failing x.outcome) rs r below.1 (ap (reaches limit) e ∙ low))

-- the first of them
pub below-first : (limit before k : ℕ) (rs : List TestResult) → BelowLimit limit before rs → BelowLimit limit before (take k rs)
below-first limit before zero rs below = tt
below-first limit before (suc k) [] below = tt
below-first limit before (suc k) (r ∷ rs) below = (below.0, below-first limit (before + failing r.outcome) k rs below.1)

below-preceding : (limit before k : ℕ) (rs : List TestResult) → k < length rs → BelowLimit limit before rs → reaches limit (before + failed_of (take k rs)) ≡ false
below-preceding limit before k [] h below = absurd (omega (arith, h))
below-preceding limit before zero (r ∷ rs) h below = ap (reaches limit) (plus-none before) ∙ below.0
below-preceding limit before (suc k) (r ∷ rs) h below =
    let e : before + (failing r.outcome + failed_of (take k rs)) ≡ before + failing r.outcome + failed_of (take k rs) = omega arith in
    ap (reaches limit) e ∙ below-preceding limit (before + failing r.outcome) k rs (omega (arith, h)) below.1

-- the same from the start of a run on

zero-plus : (n : ℕ) → 0 + n ≡ n
zero-plus n = omega arith

pub stop-begun : (limit : ℕ) (s : State) (rs : List TestResult) → s.books.settings.maxfail ≡ limit → s.books.failures ≡ 0 → s.books.stop ≡ None → BelowLimit limit 0 rs → (after_entries s (rounds 0 rs)).books.stop ≡ stop_by limit (failed_of rs)
stop-begun limit s rs same zeros none below =
    stop-rounds limit s 0 rs same (none ∙ sym (low-none limit s.books.failures (ap (reaches limit) zeros ∙ never-zero limit))) (subst (λ n. BelowLimit limit n rs) (sym zeros) below)
    ∙ ap (λ n. stop_by limit (n + failed_of rs)) zeros ∙ ap (stop_by limit) (zero-plus (failed_of rs))

pub below-next : (limit : ℕ) (rs : List TestResult) (r : TestResult) → BelowLimit limit 0 rs → reaches limit (failed_of rs) ≡ false → BelowLimit limit 0 (rs ++ r ∷ [])
below-next limit rs r below low = below-more limit 0 rs r below (ap (reaches limit) (zero-plus (failed_of rs)) ∙ low)

pub below-at : (limit k : ℕ) (rs : List TestResult) → k < length rs → BelowLimit limit 0 rs → reaches limit (failed_of (take k rs)) ≡ false
below-at limit k rs h below = ap (reaches limit) (sym (zero-plus (failed_of (take k rs)))) ∙ below-preceding limit 0 k rs h below

pub lists-rounds : (s : State) (n : ℕ) (rs : List TestResult) (how : RunStop) → (after_entries s (rounds n rs ++ Over how ∷ [])).books.lists ≡ s.books.lists
lists-rounds s n [] how = refl
lists-rounds s n (r ∷ rs) how = lists-rounds (after_one n r s) (n + 1) rs how

pub failures-rounds : (s : State) (n : ℕ) (rs : List TestResult) (how : RunStop) → (after_entries s (rounds n rs ++ Over how ∷ [])).books.failures ≡ s.books.failures + failed_of rs
failures-rounds s n [] how = sym (plus-none s.books.failures)
failures-rounds s n (r ∷ rs) how =
    let e : s.books.failures + failing r.outcome + failed_of rs ≡ s.books.failures + (failing r.outcome + failed_of rs) = omega arith in
    failures-rounds (after_one n r s) (n + 1) rs how ∙ e

pub eq_same : (n : ℕ) → (n == n) ≡ true
eq_same n = grind (arith, nat_tests)
