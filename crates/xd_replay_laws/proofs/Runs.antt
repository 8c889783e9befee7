-- The journals that runs leave are checked.
use Rattle.std.proofs.Common.{◌≡◌, ℕ, ◌+◌, List, [], ◌∷◌, ◌++◌, length, map, drop, get_or, refl, ap, sym, subst, ◌∙◌, Bool, true, false}
use Rattle.std.specs.Prelude.{nat_le, Option, Some, None, option_map, unwrap_or}
use Rattle.xd_edge.specs.Children.{ChildRun}
use Rattle.xd_suite.specs.declared.test.Test.{Test}
use Rattle.xd_journal.specs.declared.entry.Outcome.{Outcome}
use Rattle.xd_journal.specs.declared.entry.Outcome.TheVariants.{Failed, Passed, Skipped}
use Rattle.xd_journal.specs.declared.journal.Journal.{Journal}
use Rattle.xd_journal.specs.declared.news.News.{News}
use Rattle.xd_journal.specs.declared.settings.Settings.{Settings}
use Rattle.xd_journal.specs.Kept.{kept_of, output_room}
use Rattle.xd_journal.specs.Local.{TestResult}
use Rattle.xd_run.specs.Ending.{stop_of}
use Rattle.xd_child.specs.Ending.{outcome_of}
use Rattle.xd_run_laws.proofs.Logic.{and}
use Rattle.xd_session.proofs.Begin.{begun-proper}
use Rattle.xd_session.specs.Ends.{is_out_fault}
use Rattle.xd_session.specs.Stands.{CanBegin}
use Rattle.xd_drive.specs.Driven.{Drove, Ended, IsJournalOf}
use Rattle.xd_drive.specs.Seen.{HubScene, TurnScene}
use Rattle.xd_drive.specs.Taken.{taken_of}
use Rattle.xd_local.specs.Local.{RoundSeen, RunsTests, kept_of_starts, local_settings}
use Rattle.xd_local.specs.Outside.{Reach}
use Rattle.xd_dist.specs.Linked.{DrivesTo, EndedLink, LinkedRun, LinksSeen, Setup}
use Rattle.xd_edge.specs.Sink.{Sunk}
use Rattle.xd_journal.specs.declared.entry.Entry.{Entry}
use Rattle.xd_replay.specs.Alone.{AreAlone, all_kept, most_retries}
use Rattle.xd_replay.specs.Checked.{CanBeLeft, IsChecked}
use Rattle.xd_replay.specs.Told.{room_after}
use Rattle.xd_replay.proofs.Lone.{left-legal}
use Rattle.xd_replay.proofs.Tells.{left-by-run, taken-few}

-- ---- with workers

-- the journal of these news, with its end, whether the output failed or not
abbrev EndedBySome : Journal → Type 0
EndedBySome j = (failed : Bool) × (given : List News) × Ended failed given j

ended-left : (settings : Settings) (j : Journal) → CanBegin settings → nat_le settings.retries most_retries ≡ true → IsJournalOf settings j → EndedBySome j → IsChecked j
ended-left settings j can few is (failed, given, e) =
    let here = is.settings in
    subst (CanBeLeft j.settings) (sym e.entries)
    (left-by-run j.settings (taken_of j.settings given) failed (begun-proper j.settings (subst CanBegin (sym here) can)) (ap (λ (s : Settings). nat_le s.retries most_retries) here ∙ few) e.may_end)

drove-ended : (settings : Settings) (j : Journal) (old new : HubScene) (moments : List TurnScene) → Drove settings j old new moments → (b : Bool) → is_out_fault (stop_of j) ≡ b → EndedBySome j
drove-ended settings j old new moments d true e = (true, (d.broken e).1, (d.broken e).2.ended)
drove-ended settings j old new moments d false e = (false, (d.whole e).0, (d.whole e).1.ended)

drives-ended : (j : Journal) (calls : List Entry) (given : List News) (old new : Option Sunk) (moments : List TurnScene) → DrivesTo j calls given old new moments → (b : Bool) → is_out_fault (stop_of j) ≡ b → EndedBySome j
drives-ended j calls given old new moments d true e = (true, (d.broken e).1, (d.broken e).2.ended)
drives-ended j calls given old new moments d false e = (false, (d.whole e).0, (d.whole e).1.ended)

-- a session that was driven to its end leaves a checked journal
pub drove-checked : (settings : Settings) (j : Journal) (old new : HubScene) (moments : List TurnScene) → CanBegin settings → nat_le settings.retries most_retries ≡ true → Drove settings j old new moments → IsChecked j
drove-checked settings j old new moments can few d = ended-left settings j can few d.journal (drove-ended settings j old new moments d (is_out_fault (stop_of j)) refl)

-- a run of a suite on workers leaves one
pub linked-checked : (setup : Setup) (j : Journal) (code : ℕ) (links : List EndedLink) (old new : LinksSeen) (moments : List TurnScene) → CanBegin setup.settings → nat_le setup.settings.retries most_retries ≡ true
    → LinkedRun setup j code links old new moments → IsChecked j
linked-checked setup j code links old new moments can few l =
    ended-left setup.settings j can few l.journal (drives-ended j l.runs.calls l.runs.given old.sunk new.sunk moments l.runs.drives (is_out_fault (stop_of j)) refl)

-- ---- without workers

kept-few : (o : Outcome) (spent : ℕ) (bytes : List ℕ) → nat_le (length (kept_of o (output_room spent) bytes)) (room_after o spent) ≡ true
kept-few (Failed code) spent bytes = taken-few (output_room spent) bytes
kept-few Passed spent bytes = refl
kept-few Skipped spent bytes = refl

-- what is kept of a program that came to this
abbrev kept_by_end : ℕ → ChildRun → Option Outcome → List ℕ
kept_by_end spent x o = unwrap_or (option_map (λ o. kept_of o (output_room spent) x.output) o) []

one-kept : (spent : ℕ) (r : TestResult) (x : ChildRun) → outcome_of x.fate ≡ Some r.outcome → r.output ≡ kept_by_end spent x (outcome_of x.fate) → nat_le (length r.output) (room_after r.outcome spent) ≡ true
one-kept spent r x outcome output =
    ap (λ (bytes : List ℕ). nat_le (length bytes) (room_after r.outcome spent)) (output ∙ ap (kept_by_end spent x) outcome) ∙ kept-few r.outcome spent x.output

results-kept : (spent : ℕ) (rs : List TestResult) (xs : List ChildRun) → map (λ (x : ChildRun). outcome_of x.fate) xs ≡ map (λ (r : TestResult). Some r.outcome) rs
    → map (λ (r : TestResult). r.output) rs ≡ kept_of_starts spent xs → all_kept spent rs ≡ true
results-kept spent [] xs outcomes outputs = refl
results-kept spent (r ∷ rs) [] outcomes outputs = cc
results-kept spent (r ∷ rs) (x ∷ xs) outcomes outputs =
    let outcome : outcome_of x.fate ≡ Some r.outcome = ap (λ (os : List (Option Outcome)). get_or os 0 None) outcomes in
    let output : r.output ≡ kept_by_end spent x (outcome_of x.fate) = ap (λ (bs : List (List ℕ)). get_or bs 0 []) outputs in
    and (one-kept spent r x outcome output)
    (results-kept (spent + length r.output) rs xs (ap (drop 1) outcomes) (ap (drop 1) outputs ∙ ap (λ (bytes : List ℕ). kept_of_starts (spent + length bytes) xs) (sym output)))

are-alone : (settings : Settings) (maxfail : ℕ) → settings ≡ local_settings maxfail → AreAlone settings
are-alone settings maxfail is = subst AreAlone (sym is) (record { mode = refl; workers = refl; restarts = refl; retries = refl })

-- a run without workers leaves one
pub local-checked : (tests : List Test) (maxfail : ℕ) (j : Journal) (old new : Reach) (moments : List RoundSeen) → RunsTests tests maxfail j old new moments → IsChecked j
local-checked tests maxfail j old new moments run =
    left-legal j (map (λ (t : Test). t.id) tests) run.suite.results (are-alone j.settings maxfail run.settings) run.legal run.suite.entries
    (results-kept 0 run.suite.results run.suite.ran.runs run.suite.ran.outcomes run.suite.ran.outputs)
