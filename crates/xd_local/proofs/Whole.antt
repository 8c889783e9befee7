-- A whole run, with its end.
use Rattle.std.proofs.Common.{◌≡◌, ℕ, ◌+◌, inl, inr, Bool, true, false, List, [], ◌∷◌, ◌++◌, length, map, take, if◌then◌else◌, Option, refl, sym, ◌∙◌, ap, subst, arith}
use Rattle.std.proofs.lemmas.List.{length-map}
use Rattle.std.specs.List.{range_with_len}
use Rattle.std.specs.Prelude.{◌≢◌, ◌==◌, ◌||◌, ◌≤◌, ◌⊎◌, is_some, unwrap_or}
use Rattle.xd_edge.specs.Faults.{Counted, Rose, RoseBy, StoodStill}
use Rattle.xd_edge.specs.Sink.{PrintedPart, Sunk}
use Rattle.xd_suite.specs.declared.test.Test.{Test}
use Rattle.xd_journal.specs.declared.settings.Settings.{Settings}
use Rattle.xd_journal.specs.declared.entry.Entry.{Entry}
use Rattle.xd_journal.specs.declared.entry.Entry.TheVariants.{Collected, Over}
use Rattle.xd_journal.specs.declared.entry.Ids.TheVariants.{List as Listed}
use Rattle.xd_journal.specs.declared.entry.RunStop.{RunStop}
use Rattle.xd_journal.specs.declared.entry.RunStop.TheVariants.{Completed, MaxFail, OutFault}
use Rattle.xd_journal.specs.declared.journal.Journal.{Journal}
use Rattle.xd_journal.specs.Local.{TestResult, local_entries, rounds}
use Rattle.xd_journal.specs.Stop.{reaches}
use Rattle.xd_run.specs.Legal.{IsLegal, books_after}
use Rattle.xd_run.specs.Reports.{NamesInOrder, Report, collected_ids, item_of, reports, reports_in}
use Rattle.xd_run.specs.Sharing.{State, ids_at}
use Rattle.xd_run.specs.Stops.{is_stopped}
use Rattle.xd_run.specs.Ending.{over_in, stop_of}
use Rattle.xd_run.specs.Histories.{run_end_of}
use Rattle.xd_run.specs.State.{after_entries, after_entry, no_one, state_at}
use Rattle.xd_report.specs.Blocks.{blocks_from}
use Rattle.xd_report.specs.EachReport.{HasNamedBlockEach, HasNamedLineEach, NamesTests, id_in, kept_outputs}
use Rattle.xd_report.specs.declared.reporter.Reporter.{Reporter}
use Rattle.xd_report.specs.Follows.{Follows}
use Rattle.xd_report.specs.Lines.{run_lines}
use Rattle.xd_report.specs.Printing.{ShowsEnd}
use Rattle.xd_report.specs.Status.{status_in, status_of}
use Rattle.xd_report.specs.Summary.{counts}
use Rattle.xd_report.specs.Text.{run_text, text_of}
use Rattle.xd_report.proofs.EachReport.{failed-all}
use Rattle.xd_report.proofs.Failures.{status-faulty, status-over}
use Rattle.xd_report.proofs.Named.{blocks-named, lines-named}
use Rattle.xd_report.proofs.Texts.{over-same}
use Rattle.xd_local.specs.Local.{LinesCame, LinesInTime, RoundSeen, faults_of_reports, KeepsLimit, RunsSuite, RunsTests, local_settings, stop_after, stop_at}
use Rattle.xd_local.specs.Outside.{Programs}
use Rattle.xd_edge.specs.Clock.{Ticking}
use Rattle.xd_local.specs.Print.{AtStep, AtEndOfTests, DidAll, OutputFailedAt, PrintsReport, failures_in}
use Rattle.xd_local.specs.inner.Running.{BelowLimit, ClosedJournal, HasCollected, HasEnded, HasStatus, WasCollected, NothingCollected, RanPrinted, Running, LocalScene, ShowsReport, FollowsJournal, after_journal, failed_of, ids_of_tests, round_at}
use Rattle.xd_local.proofs.Alone.{below-at, below-first, eq_same, failures-alone, failures-rounds, faults-alone, is_some-stop, items-alone, length-alone, lists-rounds, low-none, reports-rounds, reports_alone, stop-begun, stop_by, take-alone, unwrap-stop}
use Rattle.xd_local.proofs.Report.{failed_part}

over_in-rounds : (n : ℕ) (rs : List TestResult) (how other : RunStop) → over_in (rounds n rs ++ Over how ∷ []) other ≡ how
over_in-rounds n [] how other = refl
over_in-rounds n (r ∷ rs) how other = over_in-rounds (n + 1) rs how other

or-true : (b : Bool) → (b || true) ≡ true
or-true true = refl
or-true false = refl

-- A run that was printed, or was not, and its journal with the end.
pub record Ended (tests : List Test) (maxfail : ℕ) (j : Journal) (shown : Bool) (old new : LocalScene) (ms : List RoundSeen) : Type 0 where
  pub ran : RanPrinted shown tests old new ms
  pub settings : old.run.journal.settings ≡ local_settings maxfail
  pub same_settings : j.settings ≡ new.run.journal.settings
  pub ended : j.entries.items ≡ new.run.journal.entries.items ++ Over (stop_after shown (after_journal new.run.journal).books.stop) ∷ []

module _ (tests : List Test) (maxfail : ℕ) (j1 : Journal) (shown : Bool) (old new : LocalScene) (ms : List RoundSeen) (e : Ended tests maxfail j1 shown old new ms) where
  abbrev ids : List (List ℕ)
  ids = map (λ t. t.id) tests

  abbrev j0 : Journal
  j0 = new.run.journal

  abbrev results : List TestResult
  results = e.ran.results

  abbrev how : RunStop
  how = stop_after shown (after_journal j0).books.stop

  entries_are : j1.entries.items ≡ local_entries ids results ++ Over how ∷ []
  entries_are = e.ended ∙ ap (λ (l : List Entry). l ++ Over how ∷ []) e.ran.so_far.entries

  stop_is : stop_of j1 ≡ how
  stop_is = ap (λ (es : List Entry). over_in es (run_end_of (state_at j1.settings j1.entries.items).books)) entries_are ∙ over_in-rounds 0 results how (run_end_of (state_at j1.settings j1.entries.items).books)

  -- after the collection
  abbrev start : State
  start = after_entry (no_one (local_settings maxfail)) (Collected 0 (Listed ids))

  settings_before : j0.settings ≡ local_settings maxfail
  settings_before = e.ran.so_far.settings ∙ e.settings

  settings_are : j1.settings ≡ local_settings maxfail
  settings_are = e.same_settings ∙ settings_before

  below : BelowLimit maxfail 0 results
  below = subst (λ (s : Settings). BelowLimit s.maxfail 0 results) e.settings e.ran.so_far.below

  -- how many failures there are
  abbrev failures : ℕ
  failures = failed_of results

  books_stop : (rs : List TestResult) → BelowLimit maxfail 0 rs → (books_after j1.settings ids rs).stop ≡ stop_by maxfail (failed_of rs)
  books_stop rs low = ap (λ (st : Settings). (books_after st ids rs).stop) settings_are ∙ stop-begun maxfail start rs refl refl refl low

  first_stop : (after_journal j0).books.stop ≡ stop_by maxfail failures
  first_stop =
      ap (λ (st : Settings). (after_entries (no_one st) j0.entries.items).books.stop) settings_before
      ∙ ap (λ (es : List Entry). (after_entries (no_one (local_settings maxfail)) es).books.stop) e.ran.so_far.entries
      ∙ stop-begun maxfail start results refl refl refl below

  -- where all was printed
  how_printed : shown ≡ true → stop_of j1 ≡ stop_at maxfail failures
  how_printed is = stop_is ∙ ap (λ b. stop_after b (after_journal j0).books.stop) is ∙ ap (λ (s : Option RunStop). unwrap_or s Completed) first_stop ∙ unwrap-stop maxfail failures

  how_broken : shown ≡ false → stop_of j1 ≡ OutFault
  how_broken is = stop_is ∙ ap (λ b. stop_after b (after_journal j0).books.stop) is

  not_fault : (limit failures : ℕ) → stop_at limit failures ≡ OutFault → ⊥
  not_fault limit failures = by_case (reaches limit failures)
    where
      by_case : (b : Bool) → (if b then MaxFail failures else Completed) ≡ OutFault → ⊥
      by_case true is = let no : MaxFail failures ≡ OutFault = is in absurd (cc)
      by_case false is = let no : Completed ≡ OutFault = is in absurd (cc)

  reports_are : reports_in j1 ≡ reports_alone 0 results
  reports_are =
      ap (λ (st : Settings). reports st j1.entries.items) settings_are ∙ ap (reports (local_settings maxfail)) entries_are ∙ reports-rounds start 0 results how refl

  failures_are : failures_in (reports_in j1) ≡ failures
  failures_are = ap failures_in reports_are ∙ failures-alone 0 results

  reports_count : length (reports_in j1) ≡ length results
  reports_count = ap length reports_are ∙ length-alone 0 results

  collected_are : collected_ids j1 ≡ ids
  collected_are =
      ap (λ (st : Settings). ids_at 0 (state_at st j1.entries.items).books.lists) settings_are
      ∙ ap (λ (es : List Entry). ids_at 0 (state_at (local_settings maxfail) es).books.lists) entries_are
      ∙ ap (ids_at 0) (lists-rounds start 0 results how)

  -- the run stopped by its limit, or ran all tests
  has_ended : HasEnded old.run.journal.settings.maxfail tests results → (is_stopped (books_after j1.settings ids results) || (length results == length ids)) ≡ true
  has_ended (inl reached) =
      let stopped : is_stopped (books_after j1.settings ids results) ≡ true =
      ap is_some (books_stop results below) ∙ is_some-stop maxfail failures ∙ sym (ap (λ (s : Settings). reaches s.maxfail failures) e.settings) ∙ reached in
      ap (λ b. b || (length results == length ids)) stopped
  has_ended (inr all) =
      let ran_all : (length results == length ids) ≡ true = ap (λ n. n == length ids) (all ∙ sym (length-map tests (λ (t : Test). t.id))) ∙ eq_same (length ids) in
      ap (λ b. is_stopped (books_after j1.settings ids results) || b) ran_all ∙ or-true (is_stopped (books_after j1.settings ids results))

  ends : (stop_of j1 ≡ OutFault)
      ⊎ ((stop_of j1 ≡ run_end_of (books_after j1.settings ids results))
      × ((is_stopped (books_after j1.settings ids results) || (length results == length ids)) ≡ true))
  ends = by_end shown refl
    where
      by_end : (b : Bool) → shown ≡ b → (stop_of j1 ≡ OutFault)
          ⊎ ((stop_of j1 ≡ run_end_of (books_after j1.settings ids results))
          × ((is_stopped (books_after j1.settings ids results) || (length results == length ids)) ≡ true))
      by_end false is_shown = inl (how_broken is_shown)
      by_end true is_shown = inr (
        how_printed is_shown ∙ sym (unwrap-stop maxfail failures) ∙ sym (ap (λ (s : Option RunStop). unwrap_or s Completed) (books_stop results below)),
        has_ended (e.ran.all is_shown),
      )

  legal : IsLegal j1
  legal = inl (record {
    mode = ap (λ (s : Settings). s.mode) settings_are;
    ids = ids;
    results = results;
    entries = entries_are ∙ ap (λ (s : RunStop). local_entries ids results ++ Over s ∷ []) (sym stop_is);
    within = omega (arith, e.ran.so_far.within, length-map tests (λ (t : Test). t.id));
    unstopped = λ k h. books_stop (take k results) (below-first maxfail 0 k results below) ∙ low-none maxfail (failed_of (take k results)) (below-at maxfail k results h below);
    ends = ends;
  })

  -- no test was run after the one that reached the limit
  limit : KeepsLimit maxfail j1
  limit = record {
    none_later = λ k h.
        ap (λ (rs : List Report). reaches maxfail (failures_in (take k rs))) reports_are
        ∙ ap (λ (rs : List Report). reaches maxfail (failures_in rs)) (take-alone k 0 results)
        ∙ ap (reaches maxfail) (failures-alone 0 (take k results))
        ∙ below-at maxfail k results (omega (arith, h, reports_count)) below;
    how = λ stopped. by_end stopped shown refl;
  }
    where
      by_end : stop_of j1 ≢ OutFault → (b : Bool) → shown ≡ b → stop_of j1 ≡ stop_at maxfail (failures_in (reports_in j1))
      by_end stopped true is_shown = how_printed is_shown ∙ ap (stop_at maxfail) (sym failures_are)
      by_end stopped false is_shown = absurd (stopped (how_broken is_shown))

  suite : (before now : ℕ) → RunsSuite tests j1 (record { out = record { sunk = old.sunk; faults = before }; programs = old.run.programs; clock = old.clock }) (record { out = record { sunk = new.sunk; faults = now }; programs = new.run.programs; clock = new.clock }) ms
  suite before now = record {
    results = e.ran.results;
    entries = entries_are ∙ ap (λ (s : RunStop). local_entries ids results ++ Over s ∷ []) (sym stop_is);
    ran = e.ran.so_far.ran;
    timed = e.ran.timed;
    few_kept = e.ran.so_far.few_kept;
    few_in_all = e.ran.so_far.few_in_all;
    lines = came e.ran.lines;
  }
    where
      printed_all : stop_of j1 ≢ OutFault → (b : Bool) → shown ≡ b → shown ≡ true
      printed_all stopped true is = is
      printed_all stopped false is = absurd (stopped (how_broken is))

      came : LinesCame (shown ≡ true) old.run.journal.settings tests e.ran.results (round_at old) ms → LinesCame (stop_of j1 ≢ OutFault) j1.settings tests e.ran.results (round_at old) ms
      came l = record {
        told = l.told;
        last = l.last;
        split = l.split;
        one = l.one;
        none = λ stopped. l.none (printed_all stopped shown refl);
        in_time = subst (λ (st : Settings). LinesInTime st tests l.told (round_at old) ms) (e.settings ∙ sym settings_are) l.in_time;
      }

  once : NamesInOrder j1
  once = record {
    in_order = ap (map item_of) reports_are ∙ items-alone 0 results ∙ ap (range_with_len 0) (sym reports_count);
    within = omega (arith, e.ran.so_far.within, reports_count, ap length collected_are, length-map tests (λ (t : Test). t.id));
    all = λ completed. by_end completed shown refl;
  }
    where
      not_limit : (limit failures : ℕ) → stop_at limit failures ≡ Completed → reaches limit failures ≡ true → ⊥
      not_limit limit failures is reached = let no : MaxFail failures ≡ Completed = ap (λ b. if b then MaxFail failures else Completed) (sym reached) ∙ is in absurd (cc)

      by_all : stop_at maxfail failures ≡ Completed → HasEnded old.run.journal.settings.maxfail tests results → length (reports_in j1) ≡ length (collected_ids j1)
      by_all is (inl reached) = absurd (not_limit maxfail failures is (sym (ap (λ (s : Settings). reaches s.maxfail failures) e.settings) ∙ reached))
      by_all is (inr all) = omega (arith, all, reports_count, ap length collected_are, length-map tests (λ (t : Test). t.id))

      by_end : stop_of j1 ≡ Completed → (b : Bool) → shown ≡ b → length (reports_in j1) ≡ length (collected_ids j1)
      by_end completed true is_shown = by_all (sym (how_printed is_shown) ∙ completed) (e.ran.all is_shown)
      by_end completed false is_shown = let no : OutFault ≡ Completed = sym (how_broken is_shown) ∙ completed in absurd (cc)

  -- the collection of such a run
  abbrev first : Entry
  first = Collected 0 (Listed ids)

  abbrev rest : List Entry
  rest = rounds 0 results ++ Over how ∷ []

  names : NamesTests j1
  names = record {
    lines = stands Lines (lines-named (local_settings maxfail) (first ∷ []) rest (record { slot = 0; worker = 0; ids = ids }) refl refl refl refl);
    blocks = stands Blocks (blocks-named (local_settings maxfail) (first ∷ []) rest (record { slot = 0; worker = 0; ids = ids }) refl refl refl);
  }
    where
      Lines : Settings → List Entry → List (List ℕ) → Type 0
      Lines st es collected = HasNamedLineEach (id_in collected) st.mode (run_lines st es) (reports st es)

      Blocks : Settings → List Entry → List (List ℕ) → Type 0
      Blocks st es collected = HasNamedBlockEach (id_in collected) st.mode (blocks_from (no_one st) es) (reports st es) (kept_outputs st es)

      stands : (T : Settings → List Entry → List (List ℕ) → Type 0) → T (local_settings maxfail) (first ∷ rest) ids → T j1.settings j1.entries.items (collected_ids j1)
      stands T x =
          subst (λ (c : List (List ℕ)). T j1.settings j1.entries.items c) (sym collected_are)
          (subst (λ (es : List Entry). T j1.settings es ids) (sym entries_are)
          (subst (λ (st : Settings). T st (first ∷ rest) ids) (sym settings_are) x))

  child_faults : RoseBy (faults_of_reports (reports_in j1)) old.run.programs.faults new.run.programs.faults
  child_faults = subst (λ n. RoseBy n old.run.programs.faults new.run.programs.faults) (sym (ap faults_of_reports reports_are ∙ faults-alone 0 results)) e.ran.so_far.faults

  child_still : faults_of_reports (reports_in j1) ≡ 0 → new.run.programs.faults ≡ old.run.programs.faults
  child_still none = e.ran.so_far.still (sym (ap faults_of_reports reports_are ∙ faults-alone 0 results) ∙ none)

  out_fault : (before now : ℕ) → (shown ≡ false → Rose before now) → stop_of j1 ≡ OutFault → Rose before now
  out_fault before now rose stopped = by_end shown refl
    where
      by_end : (b : Bool) → shown ≡ b → Rose before now
      by_end true is_shown = absurd (not_fault maxfail failures (sym (how_printed is_shown) ∙ stopped))
      by_end false is_shown = rose is_shown

  still : (before now : ℕ) → (shown ≡ true → now ≡ before) → stop_of j1 ≢ OutFault → now ≡ before
  still before now same stopped = by_end shown refl
    where
      by_end : (b : Bool) → shown ≡ b → now ≡ before
      by_end true is_shown = same is_shown
      by_end false is_shown = absurd (stopped (how_broken is_shown))

  completed : (before now : ℕ) → (shown ≡ false → Rose before now) → StoodStill before now → stop_of j1 ≡ stop_at maxfail (failures_in (reports_in j1))
  completed before now rose still = by_end shown refl
    where
      by_end : (b : Bool) → shown ≡ b → stop_of j1 ≡ stop_at maxfail (failures_in (reports_in j1))
      by_end true is_shown = how_printed is_shown ∙ ap (stop_at maxfail) (sym failures_are)
      by_end false is_shown = let more : before + 1 ≤ now = rose is_shown still.1 in absurd (omega (arith, more, still.0))

  text_same : text_of j1 ≡ text_of j0
  text_same = ap (λ (st : Settings). run_text st j1.entries.items) e.same_settings ∙ ap (run_text j0.settings) e.ended ∙ over-same how j0.settings j0.entries.items

  did_all : HasEnded old.run.journal.settings.maxfail tests results → DidAll j1
  did_all (inl reached) = inr (ap (λ n. reaches j1.settings.maxfail n) failures_are ∙ ap (λ (s : Settings). reaches s.maxfail failures) (settings_are ∙ sym e.settings) ∙ reached)
  did_all (inr all) = inl (omega (arith, all, reports_count, ap length collected_are, length-map tests (λ (t : Test). t.id)))

  failed_at : OutputFailedAt (HasEnded old.run.journal.settings.maxfail tests results) j0.settings j0.entries.items old.sunk new.sunk → OutputFailedAt (DidAll j1) j1.settings j0.entries.items old.sunk new.sunk
  failed_at (inl s) = inl (subst (λ (st : Settings). AtStep st j0.entries.items old.sunk new.sunk) (sym e.same_settings) s)
  failed_at (inr t) = inr (subst (λ (st : Settings). AtEndOfTests (DidAll j1) st j0.entries.items old.sunk new.sunk) (sym e.same_settings) (record { all = did_all t.all; shows = t.shows }))

  -- whichever of the two stops it is, the whole report was printed
  ends_shown : (limit failures : ℕ) → ShowsEnd true (text_of j1) old.sunk new.sunk → PrintsReport (stop_at limit failures) j1 old.sunk new.sunk
  ends_shown limit failures shows = by_case (reaches limit failures)
    where
      by_case : (b : Bool) → PrintsReport (if b then MaxFail failures else Completed) j1 old.sunk new.sunk
      by_case true = shows
      by_case false = shows

  printed : PrintsReport (stop_of j1) j1 old.sunk new.sunk
  printed = by_end shown refl e.ran.shows
    where
      by_end : (b : Bool) → shown ≡ b → ShowsReport b (HasEnded old.run.journal.settings.maxfail tests results) j0 old.sunk new.sunk → PrintsReport (stop_of j1) j1 old.sunk new.sunk
      by_end true is_shown all =
          subst (λ (s : RunStop). PrintsReport s j1 old.sunk new.sunk) (sym (how_printed is_shown)) (ends_shown maxfail failures (subst (λ (t : List ℕ). ShowsEnd true t old.sunk new.sunk) (sym text_same) all))
      by_end false is_shown failed = subst (λ (s : RunStop). PrintsReport s j1 old.sunk new.sunk) (sym (how_broken is_shown)) (record {
        es = j0.entries.items;
        entries = e.ended ∙ ap (λ (b : Bool). j0.entries.items ++ Over (stop_after b (after_journal j0).books.stop) ∷ []) is_shown;
        failed = failed_at failed;
        shows = subst (λ (t : List ℕ). PrintedPart t old.sunk new.sunk) (sym text_same) (failed_part j0.settings j0.entries.items old.sunk new.sunk _ failed);
      })

  -- the failures that the books keep are the failed reports
  failures_kept : (after_entries (no_one j1.settings) j1.entries.items).books.failures ≡ (counts j1.settings j1.entries.items).failed
  failures_kept =
      let kept : (after_entries (no_one j1.settings) j1.entries.items).books.failures ≡ 0 + failures =
      ap (λ (st : Settings). (after_entries (no_one st) j1.entries.items).books.failures) settings_are
      ∙ ap (λ (es : List Entry). (after_entries (no_one (local_settings maxfail)) es).books.failures) entries_are
      ∙ failures-rounds start 0 results how in
      let told : (counts j1.settings j1.entries.items).failed ≡ 0 + failures_in (reports_in j1) = failed-all (no_one j1.settings) j1.entries.items (record { failed = 0; passed = 0; skipped = 0 }) in
      omega (kept, told, failures_are, arith)

  -- the exit status, by whether all was printed
  status_by : (status : ℕ) → HasStatus shown new.run status → (b : Bool) → shown ≡ b → status ≡ status_of j1
  status_by status h true is =
      h.told (after_journal j0) (e.ran.told is)
      ∙ ap (λ (st : Settings). status_in (after_entries (no_one st) j0.entries.items) how) (sym e.same_settings)
      ∙ status-over j1 j0.entries.items how e.ended stop_is failures_kept
  status_by status h false is = h.broken is ∙ sym (status-faulty j1 (how_broken is))

  pub status_is : (status : ℕ) → HasStatus shown new.run status → status ≡ status_of j1
  status_is status h = status_by status h shown refl

  -- the run, by how the output's count of faults went with it
  pub runs_tests : (before now : ℕ) → Counted shown before now
      → RunsTests tests maxfail j1 (record { out = record { sunk = old.sunk; faults = before }; programs = old.run.programs; clock = old.clock }) (record { out = record { sunk = new.sunk; faults = now }; programs = new.run.programs; clock = new.clock }) ms
  runs_tests before now count = record {
    legal = legal;
    settings = settings_are;
    suite = suite before now;
    once = once;
    limit = limit;
    names = names;
    printed = printed;
    out_fault = out_fault before now count.rose;
    still = still before now count.still;
    completed = completed before now count.rose;
    child_faults = child_faults;
    child_still = child_still;
  }

-- the tests of a new run were collected
pub begins : (tests : List Test) (maxfail : ℕ) (r0 r1 : Running) → NothingCollected maxfail r0 → HasCollected tests r0 r1 → WasCollected tests r1
begins tests maxfail r0 r1 n c = record {
  settings = (let e = c.settings ∙ n.settings in e ∙ ap (λ (s : Settings). local_settings s.maxfail) (sym e));
  entries = c.entries ∙ ap (λ (es : List Entry). es ++ local_entries (ids_of_tests tests) []) n.entries;
  unseen = subst (λ (s : Settings). Follows r1.reporter (no_one s)) (sym (c.settings ∙ n.settings)) (subst (λ (r : Reporter). Follows r (no_one (local_settings maxfail))) (sym c.reporter) n.unseen);
  nothing_kept = c.spent ∙ n.nothing_kept;
}

closed_as : (shown : Bool) (r : Running) (j : Journal) → ClosedJournal shown r j → (shown ≡ true → FollowsJournal r) → j.entries.items ≡ r.journal.entries.items ++ Over (stop_after shown (after_journal r.journal).books.stop) ∷ []
closed_as true r j c told = c.entries (after_journal r.journal) (told refl)
closed_as false r j c told = c.broken refl

-- from the words to the end: what the parts of a run came to
ended_as : (tests : List Test) (maxfail : ℕ) (r0 r1 r2 : Running) (j : Journal) (out0 out1 : Option Sunk) (shown : Bool) (clock0 clock1 : Ticking) (ms : List RoundSeen)
    → NothingCollected maxfail r0 → HasCollected tests r0 r1 → RanPrinted shown tests (record { run = r1; sunk = out0; clock = clock0 }) (record { run = r2; sunk = out1; clock = clock1 }) ms → ClosedJournal shown r2 j
    → Ended tests maxfail j shown (record { run = r1; sunk = out0; clock = clock0 }) (record { run = r2; sunk = out1; clock = clock1 }) ms
ended_as tests maxfail r0 r1 r2 j out0 out1 shown clock0 clock1 ms n c ran closed = record {
  ran = ran;
  settings = c.settings ∙ n.settings;
  same_settings = closed.settings;
  ended = closed_as shown r2 j closed ran.told;
}

-- the run as a whole
pub whole_run : (tests : List Test) (maxfail : ℕ) (r0 r1 r2 : Running) (j : Journal) (out0 out1 : Option Sunk) (shown : Bool) (before now : ℕ) (p0 p1 : Programs) (clock0 clock1 : Ticking) (ms : List RoundSeen)
    → NothingCollected maxfail r0 → r0.programs ≡ p0 → HasCollected tests r0 r1 → RanPrinted shown tests (record { run = r1; sunk = out0; clock = clock0 }) (record { run = r2; sunk = out1; clock = clock1 }) ms → Counted shown before now → ClosedJournal shown r2 j → r2.programs ≡ p1
    → RunsTests tests maxfail j (record { out = record { sunk = out0; faults = before }; programs = p0; clock = clock0 }) (record { out = record { sunk = out1; faults = now }; programs = p1; clock = clock1 }) ms
whole_run tests maxfail r0 r1 r2 j out0 out1 shown before now p0 p1 clock0 clock1 ms n first c ran count closed last =
    let e = ended_as tests maxfail r0 r1 r2 j out0 out1 shown clock0 clock1 ms n c ran closed in
    subst (λ (p : Programs). RunsTests tests maxfail j (record { out = record { sunk = out0; faults = before }; programs = p; clock = clock0 }) (record { out = record { sunk = out1; faults = now }; programs = p1; clock = clock1 }) ms) (c.programs ∙ first)
    (subst (λ (p : Programs). RunsTests tests maxfail j (record { out = record { sunk = out0; faults = before }; programs = r1.programs; clock = clock0 }) (record { out = record { sunk = out1; faults = now }; programs = p; clock = clock1 }) ms) last
    (runs_tests tests maxfail j shown (record { run = r1; sunk = out0; clock = clock0 }) (record { run = r2; sunk = out1; clock = clock1 }) ms e before now count))

-- the same of its exit status
pub whole_status : (tests : List Test) (maxfail : ℕ) (r0 r1 r2 : Running) (j : Journal) (out0 out1 : Option Sunk) (shown : Bool) (status : ℕ) (clock0 clock1 : Ticking) (ms : List RoundSeen)
    → NothingCollected maxfail r0 → HasCollected tests r0 r1 → RanPrinted shown tests (record { run = r1; sunk = out0; clock = clock0 }) (record { run = r2; sunk = out1; clock = clock1 }) ms → ClosedJournal shown r2 j → HasStatus shown r2 status → status ≡ status_of j
whole_status tests maxfail r0 r1 r2 j out0 out1 shown status clock0 clock1 ms n c ran closed h =
    status_is tests maxfail j shown (record { run = r1; sunk = out0; clock = clock0 }) (record { run = r2; sunk = out1; clock = clock1 }) ms (ended_as tests maxfail r0 r1 r2 j out0 out1 shown clock0 clock1 ms n c ran closed) status h
