-- From each number of tests to the next.
use Rattle.std.proofs.Common.{◌≡◌, ℕ, ◌+◌, ◌-◌, ◌^◌, ◌<◌, ◌≤◌, Bool, true, false, List, [], ◌∷◌, ◌++◌, length, take, map, Option, Some, None, option_map, refl, sym, ◌∙◌, ap, subst, arith, inl, inr, append_assoc, length-append}
use Rattle.std.proofs.lemmas.List.{append-nil, map-append, take_more, length-map}
use Rattle.std.proofs.lemmas.List.Sums.{sum_by-append}
use Rattle.std.proofs.lemmas.Bool.Decides.{nat_tests}
use Rattle.std.proofs.lemmas.Grind.{common_steps}
use Rattle.std.specs.List.{list_all}
use Rattle.std.specs.Prelude.{is_some, nat_le, unwrap_or}
use Rattle.xd_edge.specs.Children.{ChildRun, AddsRun}
use Rattle.xd_edge.specs.Faults.{RoseBy}
use Rattle.xd_edge.specs.Printing.{ShowsSome}
use Rattle.xd_edge.specs.Sink.{TookPart}
use Rattle.xd_edge.proofs.PrintLemmas.{shows-more}
use Rattle.xd_trace.proofs.Each.{each-more, each-none}
use Rattle.xd_suite.specs.declared.test.Test.{Test}
use Rattle.xd_suite.specs.Tests.{run_at}
use Rattle.xd_journal.specs.declared.entry.Entry.{Entry}
use Rattle.xd_journal.specs.declared.entry.Entry.TheVariants.{Collected}
use Rattle.xd_journal.specs.declared.entry.Ids.TheVariants.{List as Listed}
use Rattle.xd_journal.specs.declared.entry.Outcome.{Outcome}
use Rattle.xd_journal.specs.declared.entry.Outcome.TheVariants.{Passed, Skipped, Failed}
use Rattle.xd_journal.specs.declared.journal.Journal.{Journal}
use Rattle.xd_journal.specs.declared.settings.Settings.{Settings}
use Rattle.xd_journal.specs.Kept.{most_of_one, output_room, kept_of}
use Rattle.xd_journal.specs.Local.{TestResult, round, rounds, local_entries}
use Rattle.xd_journal.specs.Stop.{reaches}
use Rattle.xd_run.specs.State.{after_entries, after_entry, no_one}
use Rattle.xd_run.specs.Stops.{is_stopped}
use Rattle.xd_report.specs.Follows.{Follows}
use Rattle.xd_report.specs.Printing.{ShowsLines}
use Rattle.xd_report.specs.Lines.{lines_from, run_lines}
use Rattle.xd_report.proofs.Texts.{lines-more}
use Rattle.xd_child.specs.Ending.{fault_count, outcome_of}
use Rattle.xd_child.specs.Running.{RanChild}
use Rattle.xd_local.specs.Local.{IsAfterTest, LinesCame, LinesInTime, RanTests, RoundSeen, kept_by, kept_of_starts, local_settings}
use Rattle.xd_local.specs.Outside.{Programs}
use Rattle.xd_local.specs.Timing.{AreTimed}
use Rattle.xd_local.specs.Print.{AtStep}
use Rattle.xd_local.specs.inner.Running.{child_of, failed_of, ids_of_tests, result_faults, after_journal, WasCollected, Progress, RanAll, RanTest, Running, LocalScene, SoFar, round_at}
use Rattle.xd_local.proofs.Alone.{below-next, is_some-stop, stop-begun, stop_by}
use Rattle.xd_local.proofs.Timings.{timed_more}

rounds-last : (n : ℕ) (rs : List TestResult) (r : TestResult) → rounds n (rs ++ r ∷ []) ≡ rounds n rs ++ round (n + length rs) r
rounds-last n [] r = let same : n ≡ n + 0 = omega arith in ap (λ k. round k r) same
rounds-last n (x ∷ rs) r =
    let same : n + 1 + length rs ≡ n + length (x ∷ rs) = omega arith in
    ap (λ (l : List Entry). round n x ++ l) (rounds-last (n + 1) rs r ∙ ap (λ k. rounds (n + 1) rs ++ round k r) same)

added_more : (runs : List ChildRun) (run : ChildRun) (old mid new : Option (List ChildRun)) → mid ≡ option_map (λ l. l ++ runs) old → AddsRun run mid new → new ≡ option_map (λ l. l ++ (runs ++ run ∷ [])) old
added_more runs run None mid new before adds = adds ∙ ap (option_map (λ l. l ++ run ∷ [])) before
added_more runs run (Some l) mid new before adds = adds ∙ ap (option_map (λ l. l ++ run ∷ [])) before ∙ ap Some (append_assoc l runs (run ∷ []))

added_none : (old : Option (List ChildRun)) → old ≡ option_map (λ l. l ++ []) old
added_none None = refl
added_none (Some l) = ap Some (sym (append-nil l))

rose_more : (a b x y z : ℕ) → RoseBy a x y → RoseBy b y z → y ≤ z → RoseBy (a + b) x z
rose_more a b x y z first then later = λ below.
    let mid : y < 2 ^ 64 - 1 = omega arith in
    omega (arith, first mid, then below)

-- what is kept of one start
abbrev kept_at : ℕ → ChildRun → List ℕ
kept_at room run = unwrap_or (option_map (λ o. kept_of o room run.output) (outcome_of run.fate)) []

kept_run : (run : ChildRun) (o : Outcome) (room : ℕ) → outcome_of run.fate ≡ Some o → kept_of o room run.output ≡ kept_at room run
kept_run run o room e = sym (ap (λ (x : Option Outcome). unwrap_or (option_map (λ o. kept_of o room run.output) x) []) e)

abbrev lengths : List (List ℕ) → ℕ
lengths [] = 0
lengths (l ∷ ls) = length l + lengths ls

kept_outputs-last : (spent : ℕ) (runs : List ChildRun) (run : ChildRun) → kept_of_starts spent (runs ++ run ∷ []) ≡ kept_of_starts spent runs ++ kept_at (output_room (spent + lengths (kept_of_starts spent runs))) run ∷ []
kept_outputs-last spent [] run = let e : spent + 0 ≡ spent = omega arith in ap (λ (n : ℕ). kept_at (output_room n) run ∷ []) (sym e)
kept_outputs-last spent (r ∷ rs) run =
    let k = kept_at (output_room spent) r in
    let e : spent + length k + lengths (kept_of_starts (spent + length k) rs) ≡ spent + (length k + lengths (kept_of_starts (spent + length k) rs)) = omega arith in
    ap (λ (l : List (List ℕ)). k ∷ l) (kept_outputs-last (spent + length k) rs run ∙ ap (λ (n : ℕ). kept_of_starts (spent + length k) rs ++ kept_at (output_room n) run ∷ []) e)

kept_by-more : (results : List TestResult) (r : TestResult) → kept_by (results ++ r ∷ []) ≡ kept_by results + length r.output
kept_by-more [] r = omega arith
kept_by-more (x ∷ xs) r = omega (arith, kept_by-more xs r)

sum-outputs : (results : List TestResult) → kept_by results ≡ lengths (map (λ r. r.output) results)
sum-outputs [] = refl
sum-outputs (r ∷ rs) = ap (λ (n : ℕ). length r.output + n) (sum-outputs rs)

zero_more : (n : ℕ) → n ≡ 0 + n
zero_more n = omega arith

kept_total : (results : List TestResult) (runs : List ChildRun) (spent : ℕ) → map (λ r. r.output) results ≡ kept_of_starts spent runs → kept_by results ≡ lengths (kept_of_starts spent runs)
kept_total results runs spent e = sum-outputs results ∙ ap lengths e

low_of : (args : List (List ℕ)) (room : ℕ) (o : Outcome) (kept : List ℕ) (old new : Option (List ChildRun)) → RanChild args room (record { outcome = o; output = kept }) old new → length kept ≤ room
low_of args room Passed kept old new r = let l = ap length r.kept_is in grind (arith, common_steps)
low_of args room Skipped kept old new r = let l = ap length r.kept_is in grind (arith, common_steps)
low_of args room (Failed c) kept old new r = let l = ap length r.kept_is in grind (arith, common_steps)

few_more : (results : List TestResult) (r : TestResult) (spent : ℕ) → list_all (λ r. nat_le (length r.output) most_of_one) results ≡ true → length r.output ≤ output_room spent → list_all (λ r. nat_le (length r.output) most_of_one) (results ++ r ∷ []) ≡ true
few_more [] r spent h l = grind (arith, nat_tests)
few_more (x ∷ xs) r spent h l = let ih = few_more xs r spent in grind (arith, nat_tests, ih)

module _ (tests : List Test) where
  one_more : (results : List TestResult) (r : TestResult) (old mid new : Option (List ChildRun)) → length results < length tests → RanTests tests results old mid → RanChild (run_at tests (length results)) (output_room (kept_by results)) (child_of r) mid new → RanTests tests (results ++ r ∷ []) old new
  one_more results r old mid new within ran more =
      let run : ChildRun = more.run in
      let long : length (results ++ r ∷ []) ≡ length results + 1 = omega (arith, length-append results (r ∷ [])) in
      record {
        runs = ran.runs ++ run ∷ [];
        commands = map-append (λ r. r.args) ran.runs (run ∷ []) ∙ ap (λ (l : List (List (List ℕ))). l ++ run.args ∷ []) ran.commands
            ∙ ap (λ (a : List (List ℕ)). take (length results) (map (λ t. t.run) tests) ++ a ∷ []) more.args_are
            ∙ sym (take_more (map (λ t. t.run) tests) (length results) [] (omega (arith, length-map tests (λ (t : Test). t.run))))
            ∙ ap (λ n. take n (map (λ t. t.run) tests)) (sym long);
        outcomes = map-append (λ r. outcome_of r.fate) ran.runs (run ∷ []) ∙ ap (λ (l : List (Option Outcome)). l ++ outcome_of run.fate ∷ []) ran.outcomes
            ∙ ap (λ (x : Option Outcome). map (λ (r : TestResult). Some r.outcome) results ++ x ∷ []) more.came_to ∙ sym (map-append (λ (r : TestResult). Some r.outcome) results (r ∷ []));
        outputs = map-append (λ r. r.output) results (r ∷ [])
            ∙ ap (λ (l : List (List ℕ)). l ++ r.output ∷ []) ran.outputs
            ∙ ap (λ (k : List ℕ). kept_of_starts 0 ran.runs ++ k ∷ []) (more.kept_is ∙ kept_run run r.outcome (output_room (kept_by results)) more.came_to)
            ∙ ap (λ (n : ℕ). kept_of_starts 0 ran.runs ++ kept_at (output_room n) run ∷ []) (kept_total results ran.runs 0 ran.outputs ∙ zero_more (lengths (kept_of_starts 0 ran.runs)))
            ∙ sym (kept_outputs-last 0 ran.runs run);
        added = added_more ran.runs run old mid new ran.added more.added;
      }

  abbrev After : LocalScene → List TestResult → TestResult → RoundSeen → Type 0
  After old before r m = IsAfterTest old.run.journal.settings tests before r (round_at old) m

  module _ (old : LocalScene) (is_local : old.run.journal.settings ≡ local_settings old.run.journal.settings.maxfail) where
    abbrev limit : ℕ
    limit = old.run.journal.settings.maxfail

    -- each of these results had its moment
    all-came : {P : Type 0} (results : List TestResult) (ms : List RoundSeen) → LinesInTime old.run.journal.settings tests results (round_at old) ms → LinesCame P old.run.journal.settings tests results (round_at old) ms
    all-came results ms lines = record { told = results; last = []; split = sym (append-nil results); one = omega arith; none = λ _. refl; in_time = lines }

    -- no test was run yet
    none_ran : (r : Running) → r.journal.entries.items ≡ local_entries (ids_of_tests tests) [] → r.journal.settings ≡ old.run.journal.settings → r.programs ≡ old.run.programs → SoFar [] tests old.run r
    none_ran r is same_settings same = record {
      entries = is;
      settings = same_settings;
      ran = record { runs = []; commands = refl; outcomes = refl; outputs = refl; added = ap (λ (p : Programs). p.runs) same ∙ added_none old.run.programs.runs };
      faults = λ below. omega (arith, ap (λ (p : Programs). p.faults) same);
      still = λ none. ap (λ (p : Programs). p.faults) same;
      few_kept = refl;
      few_in_all = omega arith;
      below = tt;
      within = omega arith;
    }

    module _ (begun : WasCollected tests old.run) (new : LocalScene) (same : new.run ≡ record (old.run) { reporter = new.run.reporter }) (same_clock : new.clock ≡ old.clock) where
      entries_same : new.run.journal.entries.items ≡ local_entries (ids_of_tests tests) []
      entries_same = ap (λ (r : Running). r.journal.entries.items) same ∙ begun.entries

      first : SoFar [] tests old.run new.run
      first = none_ran new.run entries_same (ap (λ (r : Running). r.journal.settings) same) (ap (λ (r : Running). r.programs) same)

      abbrev lines : Journal → List ℕ
      lines j = run_lines j.settings j.entries.items

      lines_same : lines new.run.journal ≡ lines old.run.journal
      lines_same = ap (λ (r : Running). lines r.journal) same

      pub start : (ms : List RoundSeen) → ShowsLines true (lines old.run.journal) old.sunk new.sunk → Follows new.run.reporter (after_journal old.run.journal) → Progress 0 tests old new ms
      start ms shows follows = record {
        results = [];
        so_far = first;
        timed = same_clock;
        counted = refl;
        spent_is = ap (λ (r : Running). r.spent) same ∙ begun.nothing_kept;
        lines = each-none (After old) ms;
        shows = subst (λ (l : List ℕ). ShowsSome l old.sunk new.sunk) (sym lines_same) shows;
        told = subst (λ (j : Journal). Follows new.run.reporter (after_journal j)) (sym (ap (λ (r : Running). r.journal) same)) follows;
      }

      pub not_collected : (ms : List RoundSeen) → ShowsLines false (lines old.run.journal) old.sunk new.sunk → RanAll false tests old new ms
      not_collected ms shows = record {
        results = [];
        so_far = first;
        timed = same_clock;
        lines = record { told = []; last = []; split = refl; one = omega arith; none = λ _. refl; in_time = each-none (After old) ms };
        all = λ no. cc;
        shows = record {
          before = [];
          step = local_entries (ids_of_tests tests) [];
          entries = entries_same;
          is_step = inl (ids_of_tests tests, refl);
          shows = (old.sunk, inl (refl, refl), subst (λ (es : List Entry). TookPart (run_lines new.run.journal.settings es) old.sunk new.sunk) entries_same (subst (λ (l : List ℕ). TookPart l old.sunk new.sunk) (sym lines_same) shows));
        };
        told = λ no. cc;
      }

    -- the state after the first tests has the stop that their failures make
    stop_so_far : (r : Running) (results : List TestResult) → SoFar results tests old.run r → (after_journal r.journal).books.stop ≡ stop_by limit (failed_of results)
    stop_so_far r results so_far =
        ap (λ (st : Settings). (after_entries (no_one st) r.journal.entries.items).books.stop) (so_far.settings ∙ is_local)
        ∙ ap (λ (es : List Entry). (after_entries (no_one (local_settings limit)) es).books.stop) so_far.entries
        ∙ stop-begun limit (after_entry (no_one (local_settings limit)) (Collected 0 (Listed (ids_of_tests tests)))) results refl refl refl so_far.below

    reached_is : (r : Running) (results : List TestResult) (b : Bool) → SoFar results tests old.run r → b ≡ is_stopped (after_journal r.journal).books → b ≡ reaches limit (failed_of results)
    reached_is r results b so_far is = is ∙ ap is_some (stop_so_far r results so_far) ∙ is_some-stop limit (failed_of results)

    -- after the test that reached the limit
    pub limited : (count : ℕ) (new : LocalScene) (ms : List RoundSeen) (b : Bool) → Progress count tests old new ms → b ≡ is_stopped (after_journal new.run.journal).books → b ≡ true → RanAll true tests old new ms
    limited count new ms b p is reached = record {
      results = p.results;
      so_far = p.so_far;
      timed = p.timed;
      lines = all-came p.results ms p.lines;
      all = λ _. inl (sym (reached_is new.run p.results b p.so_far is) ∙ reached);
      shows = p.shows;
      told = λ _. p.told;
    }

    module _ (k : ℕ) (mid new : LocalScene) (ms : List RoundSeen) (p : Progress k tests old mid ms) (within : k < length tests) (b : Bool) (b_is : b ≡ is_stopped (after_journal mid.run.journal).books) (go_on : b ≡ false)
        (shown : Bool) (more : RanTest shown k (run_at tests k) mid new) where
      abbrev es1 : List Entry
      es1 = mid.run.journal.entries.items

      abbrev es2 : List Entry
      es2 = new.run.journal.entries.items

      abbrev results : List TestResult
      results = p.results ++ more.result ∷ []

      long : length results ≡ k + 1
      long = omega (arith, p.counted, length-append p.results (more.result ∷ []))

      entries_are : local_entries (ids_of_tests tests) results ≡ local_entries (ids_of_tests tests) p.results ++ round k more.result
      entries_are =
          let at : 0 + length p.results ≡ k = omega (arith, p.counted) in
          ap (λ (l : List Entry). local_entries (ids_of_tests tests) [] ++ l) (rounds-last 0 p.results more.result ∙ ap (λ n. rounds 0 p.results ++ round n more.result) at)

      grown : es2 ≡ local_entries (ids_of_tests tests) results
      grown = more.noted.entries ∙ ap (λ (l : List Entry). l ++ round k more.result) p.so_far.entries ∙ sym entries_are

      low : length more.result.output ≤ output_room mid.run.spent
      low = low_of _ _ more.result.outcome more.result.output mid.run.programs.runs new.run.programs.runs more.noted.ran

      total_kept : kept_by results ≡ kept_by p.results + length more.result.output
      total_kept = kept_by-more p.results more.result

      faults_total : result_faults results ≡ result_faults p.results + fault_count more.result.outcome
      faults_total = omega (arith, sum_by-append (λ (r : TestResult). fault_count r.outcome) p.results (more.result ∷ []))

      so_far : SoFar results tests old.run new.run
      so_far = record {
        entries = grown;
        settings = more.noted.settings ∙ p.so_far.settings;
        ran = one_more p.results more.result old.run.programs.runs mid.run.programs.runs new.run.programs.runs (omega (arith, p.counted, within)) p.so_far.ran
            (subst (λ n. RanChild (run_at tests (length p.results)) (output_room n) (child_of more.result) mid.run.programs.runs new.run.programs.runs) p.spent_is
            (subst (λ n. RanChild (run_at tests n) (output_room mid.run.spent) (child_of more.result) mid.run.programs.runs new.run.programs.runs) (sym p.counted) more.noted.ran));
        faults =
            subst (λ n. RoseBy n old.run.programs.faults new.run.programs.faults) (sym faults_total)
            (rose_more (result_faults p.results) (fault_count more.result.outcome) old.run.programs.faults mid.run.programs.faults new.run.programs.faults p.so_far.faults more.noted.faults more.noted.later);
        still = λ none. more.noted.still (omega (arith, none, faults_total)) ∙ p.so_far.still (omega (arith, none, faults_total));
        few_kept = few_more p.results more.result mid.run.spent p.so_far.few_kept low;
        few_in_all = (let t = total_kept in let l = low in let s = p.spent_is in let f = p.so_far.few_in_all in grind (arith, common_steps));
        below = below-next limit p.results more.result p.so_far.below (sym (reached_is mid.run p.results b p.so_far b_is) ∙ go_on);
        within = omega (arith, long, within);
      }

      timed : AreTimed results old.clock new.clock
      timed = timed_more p.results more.result old.clock mid.clock new.clock p.timed more.timed

      abbrev added : List ℕ
      added = lines_from (after_journal mid.run.journal) (round k more.result)

      text : run_lines new.run.journal.settings es2 ≡ run_lines mid.run.journal.settings es1 ++ added
      text = ap (λ (st : Settings). run_lines st es2) more.noted.settings ∙ ap (run_lines mid.run.journal.settings) more.noted.entries ∙ lines-more (no_one mid.run.journal.settings) es1 (round k more.result)

      -- at the lines of this test
      broke : TookPart added mid.sunk new.sunk → AtStep mid.run.journal.settings es2 old.sunk new.sunk
      broke part = record {
        before = es1;
        step = round k more.result;
        entries = more.noted.entries;
        is_step = inr (k, more.result, refl);
        shows = (mid.sunk, p.shows, part);
      }

      shows-all-so-far : shown ≡ true → ShowsSome (run_lines new.run.journal.settings es2) old.sunk new.sunk
      shows-all-so-far is = subst (λ (l : List ℕ). ShowsSome l old.sunk new.sunk) (sym text)
          (shows-more (run_lines mid.run.journal.settings es1) added old.sunk mid.sunk new.sunk p.shows (subst (λ b. ShowsLines b added mid.sunk new.sunk) is more.shows))

      pub go : shown ≡ true → (after : List RoundSeen) → after ≡ ms ++ round_at new ∷ [] → Progress (k + 1) tests old new after
      go is after noted = record {
        results = results;
        so_far = so_far;
        timed = timed;
        counted = long;
        spent_is = more.noted.spent ∙ (let s = p.spent_is in let t = total_kept in omega arith);
        lines = subst (LinesInTime old.run.journal.settings tests results (round_at old)) (sym noted) (each-more (After old) p.results more.result ms (round_at new) p.lines (record {
          ran = so_far.ran;
          shows = subst (λ (es : List Entry). ShowsSome (run_lines old.run.journal.settings es) old.sunk new.sunk) grown (subst (λ (st : Settings). ShowsSome (run_lines st es2) old.sunk new.sunk) so_far.settings (shows-all-so-far is));
        }));
        shows = shows-all-so-far is;
        told = more.told is;
      }

      pub stop : shown ≡ false → RanAll false tests old new ms
      stop is = record {
        results = results;
        so_far = so_far;
        timed = timed;
        lines = record { told = p.results; last = more.result ∷ []; split = refl; one = omega arith; none = λ no. cc; in_time = p.lines };
        all = λ no. cc;
        shows = subst (λ (st : Settings). AtStep st es2 old.sunk new.sunk) (sym more.noted.settings) (broke (subst (λ b. ShowsLines b added mid.sunk new.sunk) is more.shows));
        told = λ no. cc;
      }

    pub finish : (new : LocalScene) (ms : List RoundSeen) → Progress (length tests) tests old new ms → RanAll true tests old new ms
    finish new ms p = record { results = p.results; so_far = p.so_far; timed = p.timed; lines = all-came p.results ms p.lines; all = λ _. inr p.counted; shows = p.shows; told = λ _. p.told }
