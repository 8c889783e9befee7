-- Small journals that the laws of whole journals speak of, and others that they rule out.
use Rattle.std.specs.Prelude.{◌≡◌, ℕ, List, [], ◌∷◌, ◌++◌, true, false, Some, None, map, pos}
use Rattle.std.proofs.Common.{refl, arith, length, ap, sym, ◌∙◌, subst, take}
use Rattle.std.specs.List.{list_any}
use Rattle.xd_journal.specs.declared.settings.Settings.{Settings}
use Rattle.xd_journal.specs.declared.journal.Journal.{Journal}
use Rattle.xd_journal.specs.declared.entry.Cause.{Cause}
use Rattle.xd_journal.specs.declared.entry.Cause.TheVariants.{Ended}
use Rattle.xd_journal.specs.declared.entry.Ids.TheVariants as ids
use Rattle.xd_journal.specs.declared.entry.Outcome.TheVariants.{Failed, Passed}
use Rattle.xd_journal.specs.declared.entry.RunStop.{RunStop}
use Rattle.xd_journal.specs.declared.entry.RunStop.TheVariants.{Completed, MaxFail, OutFault}
use Rattle.xd_journal.specs.declared.entry.Entry.{Entry}
use Rattle.xd_journal.specs.declared.entry.Entry.TheVariants.{Ready, Collected, Done, Down, Start, Run, Kill, Over}
use Rattle.xd_run.specs.Numbers.{first_of, times}
use Rattle.xd_run.specs.Table.{held}
use Rattle.xd_run.specs.Sharing.{in_books}
use Rattle.xd_run.specs.Histories.{after_starts, is_over, journal_of, after_inputs}
use Rattle.xd_run.specs.Ending.{ending, stop_in, stop_of}
use Rattle.xd_run.specs.State.{state_at}
use Rattle.xd_run.specs.Plan.{total}
use Rattle.xd_run.specs.Proper.{IsProper}
use Rattle.xd_run.specs.Reports.{Report, item_of, reports, reports_in}
use Rattle.xd_run_laws.specs.Collected.{IsShared, collected}
use Rattle.xd_run_laws.specs.Crashes.{IsDeath}
use Rattle.xd_run_laws.specs.Places.{HeldBy, InPool, Reported, StandsAt, place_by}
use Rattle.xd_run_laws.specs.Stopped.{Brings, StopsBy, is_death}
use Rattle.xd_run_laws.specs.Whole.{EndsRightly, IsWhole, NamesEach, tests_in}
use Rattle.xd_run_laws.proofs.Logic.{differ, or-right}
use Rattle.xd_run_laws.proofs.Laws.{no_early}
use Rattle.xd_run_laws.proofs.Rows.{a_death, a_death-proper, ended, three}

-- the tests were shared

a_death-total : total ended.plan ≡ 3
a_death-total = refl

a_death-collected : collected ended.books ≡ 3
a_death-collected = refl

a_death-shared : IsShared ended
a_death-shared = record { shared = refl; tests = a_death-total ∙ sym a_death-collected }

-- a run is over and was not stopped, and what it collected was never shared
never_shared : IsShared (in_books (λ b. record b { shared = false }) ended) → ⊥
never_shared k = differ k.shared

-- a run has fewer tests than were collected
too_few : IsShared (record ended { plan = record (ended.plan) { sizes = 2 ∷ [] } }) → ⊥
too_few k =
    let few : 2 ≡ 3 = k.tests in
    omega (few, arith)

-- each collected test has its report

a_death-whole : (j : Journal) → j.settings ≡ three → j.entries.items ≡ journal_of three a_death ++ Over Completed ∷ [] → IsWhole j
a_death-whole j s e = record {
  inputs = a_death;
  proper = subst (λ (x : Settings). IsProper x a_death) (sym s) a_death-proper;
  out_failed = false;
  may = ap (λ (x : Settings). is_over (after_inputs (after_starts x) a_death).books) s;
  entries = e ∙ ap (λ (x : Settings). journal_of x a_death ++ ending false (after_inputs (after_starts x) a_death).books) (sym s);
}

-- worker 2 was about to run test 2, and the journal ends as if all was done
abbrev unfinished : List Entry
unfinished = journal_of three (take 9 a_death) ++ Over Completed ∷ []

unreported : (j : Journal) → j.settings ≡ three → j.entries.items ≡ unfinished → NamesEach j → ⊥
unreported j s e n =
    let stop : stop_of j ≡ Completed = ap (λ (x : Settings). stop_in x j.entries.items) s ∙ ap (λ (es : List Entry). stop_in three es) e in
    let tests : tests_in j ≡ 3 = ap (λ (x : Settings). collected (state_at x j.entries.items).books) s ∙ ap (λ (es : List Entry). collected (state_at three es).books) e in
    let told : times 2 (map item_of (reports_in j)) ≡ 0 =
    ap (λ (x : Settings). times 2 (map item_of (reports x j.entries.items))) s ∙ ap (λ (es : List Entry). times 2 (map item_of (reports three es))) e in
    let once = n.each stop 2 (omega (arith, tests)) in
    omega (arith, told, once)

-- the stop

abbrev one_failure : Settings
one_failure = record three { maxfail = 1 }

-- test 0 fails, and that reaches the limit
abbrev a_failure : List Entry
a_failure = Ready 0 ∷ Collected 0 (ids.List ((97 ∷ []) ∷ (98 ∷ []) ∷ (99 ∷ []) ∷ [])) ∷ Ready 1 ∷ Collected 1 ids.Same ∷ Done 0 0 (Failed (pos 1)) 5 [] ∷ []

a_failure-proper : IsProper one_failure a_failure
a_failure-proper = record { mode = refl; some_worker = refl; few_workers = refl; few_restarts = refl; follow = refl }

a_failure-stops : (after_inputs (after_starts one_failure) a_failure).books.stop ≡ Some (MaxFail 1)
a_failure-stops = refl

completed-not : (n : ℕ) → MaxFail n ≡ Completed → ⊥
completed-not n h = absurd cc

faulty-not : (n : ℕ) → MaxFail n ≡ OutFault → ⊥
faulty-not n h = absurd cc

-- a journal says that failures reached the limit, and has no limit
no_limit_reached : (j : Journal) → j.settings ≡ three → j.entries.items ≡ journal_of three a_death ++ Over (MaxFail 1) ∷ [] → EndsRightly j → ⊥
no_limit_reached j s e n =
    let stop : stop_of j ≡ MaxFail 1 = ap (λ (x : Settings). stop_in x j.entries.items) s ∙ ap (λ (es : List Entry). stop_in three es) e in
    let by : StopsBy j.settings j.entries.items (MaxFail 1) =
    subst (λ (x : RunStop). StopsBy j.settings j.entries.items x) stop (n.stop (λ h. completed-not 1 (sym stop ∙ h)) (λ h. faulty-not 1 (sym stop ∙ h))) in
    let brought : Brings three by.before by.last (MaxFail 1) = subst (λ (x : Settings). Brings x by.before by.last (MaxFail 1)) s by.brings in
    differ brought.now

-- nothing is reported before the first collection

a_death-start : reports three (take 4 (journal_of three a_death)) ≡ []
a_death-start = refl

abbrev too_early : List Entry
too_early = Start 0 0 ∷ Start 1 1 ∷ Ready 0 ∷ Done 0 0 Passed 5 [] ∷ []

reported_early : (inputs : List Entry) (after : List Entry) → IsProper three inputs → journal_of three inputs ≡ too_early ++ after → ⊥
reported_early inputs after p e =
    let none : reports three too_early ≡ [] = no_early three inputs p too_early after e refl in
    let one : 1 ≡ 0 = ap (λ (rs : List Report). length rs) none in
    omega (one, arith)

-- the last entry that moves a test decides its place

a_death-place : place_by three (journal_of three a_death) 0 ≡ Some Reported
a_death-place = refl

a_share-place : place_by three (journal_of three (take 4 a_death)) 0 ≡ Some (HeldBy 0)
a_share-place = refl

a_share-pool : place_by three (journal_of three (take 3 a_death)) 0 ≡ None
a_share-pool = refl

-- the head of a worker that died is in the pool again
crashed_in_pool : StandsAt ended.books.table 0 (Some InPool) → ⊥
crashed_in_pool h = differ h

-- a crash names the test at whose head its worker went down

-- both workers have collected, and worker 0 has tests 0 and 2
abbrev dealt : List Entry
dealt = Start 0 0 ∷ Start 1 1 ∷ Ready 0 ∷ Collected 0 (ids.List ((97 ∷ []) ∷ (98 ∷ []) ∷ (99 ∷ []) ∷ [])) ∷ Ready 1 ∷ Collected 1 ids.Same ∷ Run 0 (0 ∷ []) ∷ Run 1 (1 ∷ []) ∷ Run 0 (2 ∷ []) ∷ []

abbrev crashed : List Entry
crashed = dealt ++ Down 0 Ended [] ∷ Kill 0 ∷ []

crashed-head : IsDeath three crashed [] 0 0
crashed-head = record { before = dealt; cause = Ended; output = []; after = Kill 0 ∷ []; are = refl; head = refl; final = refl; reported = refl }

-- it stands for the test after the head
crash_after_head : first_of (held 0 (state_at three dealt).books.table) ≡ Some 2 → ⊥
crash_after_head h = absurd cc

dies-told : (before after : List Entry) (w : ℕ) (c : Cause) (o : List ℕ) → list_any is_death (before ++ Down w c o ∷ after) ≡ true
dies-told [] after w c o = refl
dies-told (e ∷ before) after w c o = or-right (is_death e) (list_any is_death (before ++ Down w c o ∷ after)) (dies-told before after w c o)

-- a crash is reported of a worker, and none went down
crash_without_death : IsDeath three dealt [] 0 0 → ⊥
crash_without_death d = differ (ap (list_any is_death) d.are ∙ dies-told d.before d.after 0 d.cause d.output)
