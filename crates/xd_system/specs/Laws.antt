-- What holds of both ends of a run at once, at each moment of a system whose workers are honest. A worker is
-- called by its number, and its items are the numbers of its tests in the whole run, which differ in mode each
-- alone.
use Rattle.std.specs.Prelude.{◌≡◌, ◌<◌, ◌+◌, ◌==◌, ℕ, Bool, true, false, List, [], ◌∷◌, ◌++◌, filter, map}
use Rattle.std.specs.List.{list_any, flat_map}
use Rattle.xd_journal.specs.declared.entry.Outcome.{Outcome}
use Rattle.xd_journal.specs.declared.news.News.{News}
use Rattle.xd_journal.specs.declared.settings.Settings.{Settings}
use Rattle.xd_run.specs.Histories.{is_over}
use Rattle.xd_run.specs.Numbers.{times, without}
use Rattle.xd_run.specs.Owes.{owes}
use Rattle.xd_run.specs.Plan.{base, items_named, total}
use Rattle.xd_run.specs.Proper.{IsProper}
use Rattle.xd_run.specs.Reports.{Report, Result, Crash, item_of, reports}
use Rattle.xd_run.specs.Stops.{is_stopped}
use Rattle.xd_run.specs.Table.{held}
use Rattle.xd_run.specs.Workers.{has_member, is_active, slot_of}
use Rattle.xd_run_laws.specs.Stopped.{is_death}
use Rattle.xd_worker_tests.specs.declared.phase.Phase.TheVariants.{Awaiting}
use Rattle.xd_worker_tests.specs.History.{Given, call_after, started_tests}
use Rattle.xd_worker_tests.specs.Line.{left, tests_in_line}
use Rattle.xd_session.specs.History.{Run, run_of}
use Rattle.xd_system.specs.LineGiven.{all_given}
use Rattle.xd_system.specs.Moment.{IsHonestAt, LinkNow, WasBegun, news_on_way, orders_on_way}
use Rattle.xd_system.specs.Own.{answers_in, ends_in, is_accused}
use Rattle.xd_system.specs.Tells.{outcomes}

-- No honest worker is called in breach, whatever is on the way, and wherever its link was cut.
-- Example: it gives back 8 and 9 although the controller asked before it heard of the ends of 5 and 6.
abbrev pub NeverAccused : Type 0
NeverAccused =
    (settings : Settings) (taken : List News) (w : ℕ) (l : LinkNow)
    → IsProper settings [] → IsHonestAt settings taken w l
    → is_accused w (run_of settings taken).entries ≡ false

-- the tests of a worker, by its end of the link and by what is on the way: those whose end is on the way, then
-- the running one, the next one and the queue, then those of orders on the way
abbrev pub tests_of_link : Settings → List News → ℕ → LinkNow → List ℕ
tests_of_link settings taken w l =
    let call = call_after l.given in
    ends_in (news_on_way taken w l)
    ++ (tests_in_line (left call) ++ all_given call.size (orders_on_way settings taken w l))

-- the same as items of the run
abbrev pub items_of_link : Settings → List News → ℕ → LinkNow → List ℕ
items_of_link settings taken w l =
    let s = (run_of settings taken).state in
    items_named (slot_of w s.books) (tests_of_link settings taken w l) s.plan

-- the items of the answers to steals that are on the way
abbrev pub items_given_back : Settings → List News → ℕ → LinkNow → List ℕ
items_given_back settings taken w l =
    let s = (run_of settings taken).state in
    items_named (slot_of w s.books) (flat_map (λ tests. tests) (answers_in (news_on_way taken w l))) s.plan

-- What the controller thinks that an active worker holds, without the tests of answers on the way, is in order
-- what is there of it, where its link is whole: each test is in one place of the whole system.
-- Example: gw1 holds 5 to 9; the ends of 5 and 6 are on the way, it runs 7, 8 is next, and 9 is queued.
abbrev pub EachInItsPlace : Type 0
EachInItsPlace =
    (settings : Settings) (taken : List News) (w : ℕ) (l : LinkNow)
    → IsProper settings [] → IsHonestAt settings taken w l
    → l.whole ≡ true → is_active w (run_of settings taken).state.books ≡ true
    → without (items_given_back settings taken w l) (held w (run_of settings taken).state.books.table)
    ≡ items_of_link settings taken w l

-- Something goes on at a worker or between it and the controller: its call, news or an order are on the way, or
-- its suite is asked for, or a test runs.
pub data IsMoving (settings : Settings) (taken : List News) (w : ℕ) (l : LinkNow) : Type 0 where
  CallOnWay : l.called ≡ false → IsMoving settings taken w l
  NewsOnWay : (news_on_way taken w l ≡ [] → ⊥) → IsMoving settings taken w l
  OrderOnWay : (orders_on_way settings taken w l ≡ [] → ⊥) → IsMoving settings taken w l
  SuiteAsked : (call_after l.given).phase ≡ Awaiting → IsMoving settings taken w l
  TestRuns : (call_after l.given).running ≡ true → IsMoving settings taken w l

-- the worker owes the next step of the run after these news
abbrev pub owes_step : Settings → List News → ℕ → Bool
owes_step settings taken w =
    let s = (run_of settings taken).state in
    list_any (λ m. m.worker == w) (filter (owes s) s.books.members)

-- Something goes on wherever an honest worker owes the next step of the run and its link is whole. So a run that is
-- not over, and whose workers are honest and have whole links, stands still at no moment, since one of them owes.
abbrev pub SomethingMoves : Type 0
SomethingMoves =
    (settings : Settings) (taken : List News) (w : ℕ) (l : LinkNow)
    → IsProper settings [] → IsHonestAt settings taken w l
    → l.whole ≡ true → owes_step settings taken w ≡ true → IsMoving settings taken w l

-- the report is of this worker
abbrev pub is_report_of : ℕ → Report → Bool
is_report_of w (Result v item outcome) = v == w
is_report_of w (Crash v item) = v == w

-- The worker's reports are the results of the tests that it started, in order, each with its program's outcome.
pub record ReportsItsTests (r : Run) (settings : Settings) (w : ℕ) (gs : List Given) : Type 0 where
  pub reports_are : filter (is_report_of w) (reports settings r.entries)
      ≡ map (λ p. Result w (base (slot_of w r.state.books) r.state.plan + p.0) p.1) (outcomes gs)
  pub each_ended : map (λ (p : ℕ × Outcome). p.0) (outcomes gs) ≡ started_tests gs

-- The item is a test of one worker, which started its program once; no other worker started it; and the item's
-- one report is the outcome of that program.
pub record RanOnce (r : Run) (settings : Settings) (links : ℕ → LinkNow) (x : ℕ) : Type 0 where
  pub worker : ℕ
  pub test : ℕ
  pub outcome : Outcome
  pub member : has_member worker (λ m. true) r.state.books ≡ true
  pub item : base (slot_of worker r.state.books) r.state.plan + test ≡ x
  pub started : times test (started_tests (links worker).given) ≡ 1
  pub ended : filter (λ (p : ℕ × Outcome). test == p.0) (outcomes (links worker).given) ≡ (test, outcome) ∷ []
  pub report : filter (λ q. x == item_of q) (reports settings r.entries) ≡ Result worker x outcome ∷ []
  pub no_other : (v n : ℕ) → has_member v (λ m. true) r.state.books ≡ true → (v == worker) ≡ false
      → base (slot_of v r.state.books) r.state.plan + n ≡ x → times n (started_tests (links v).given) ≡ 0

-- Each worker that was started is honest, and the controller took these news of them.
abbrev pub AreHonestAt : Settings → List News → (ℕ → LinkNow) → Type 0
AreHonestAt settings taken links = (w : ℕ) → WasBegun settings taken w → IsHonestAt settings taken w (links w)

-- Each worker reports its own tests, and each item of the run ran once.
pub record AllRanOnce (r : Run) (settings : Settings) (links : ℕ → LinkNow) : Type 0 where
  pub by_worker : (w : ℕ) → has_member w (λ m. true) r.state.books ≡ true
      → ReportsItsTests r settings w (links w).given
  pub by_item : (x : ℕ) → x < total r.state.plan → RanOnce r settings links x

-- Where every worker is honest, none went down and none failed to start, a run that is over and was not stopped
-- started each item's program exactly once, and the item's report is that program's outcome.
abbrev pub RunsEachOnce : Type 0
RunsEachOnce =
    (settings : Settings) (taken : List News) (links : ℕ → LinkNow)
    → IsProper settings [] → AreHonestAt settings taken links
    → list_any is_death (run_of settings taken).entries ≡ false
    → is_over (run_of settings taken).state.books ≡ true → is_stopped (run_of settings taken).state.books ≡ false
    → AllRanOnce (run_of settings taken) settings links
