-- The report of a run, with its tail.
use Rattle.std.proofs.Common.{◌≡◌, ℕ, inl, inr, Bool, true, false, List, ◌++◌, Option, refl, sym, ◌∙◌, ap, subst}
use Rattle.xd_edge.specs.Sink.{Sunk, PrintedPart}
use Rattle.xd_edge.proofs.PrintLemmas.{broken-part, printed_is_part, shows-all}
use Rattle.xd_edge.proofs.SinkLemmas.{printed_part_of_more}
use Rattle.xd_suite.specs.declared.test.Test.{Test}
use Rattle.xd_journal.specs.declared.entry.Entry.{Entry}
use Rattle.xd_journal.specs.declared.settings.Settings.{Settings}
use Rattle.xd_run.specs.State.{after_entries, no_one}
use Rattle.xd_report.specs.Lines.{lines_from, run_lines}
use Rattle.xd_report.specs.Text.{run_tail, run_text, tail_text}
use Rattle.xd_report.specs.Breaking.{BrokeAtEnd}
use Rattle.xd_report.specs.Printing.{ShowsEnd}
use Rattle.xd_report.proofs.Prints.{shows-end}
use Rattle.xd_report.proofs.Texts.{lines-more}
use Rattle.xd_local.specs.Local.{LinesCame, RoundSeen}
use Rattle.xd_local.specs.Print.{AtStep, OutputFailedAt}
use Rattle.xd_local.specs.inner.Running.{HasEnded, RanAll, RanPrinted, LocalScene, ShowsReport, round_at}

module _ (tests : List Test) (old : LocalScene) where
  pub not_ran : (new : LocalScene) (ms : List RoundSeen) → RanAll false tests old new ms → RanPrinted false tests old new ms
  not_ran new ms ran = record {
    results = ran.results;
    so_far = ran.so_far;
    timed = ran.timed;
    lines = ran.lines;
    all = ran.all;
    shows = inl ran.shows;
    told = ran.told;
  }

  -- the tail goes to the output, and leaves the run as it was
  pub printed : (shown : Bool) (mid : LocalScene) (out : Option Sunk) (ms : List RoundSeen) → RanAll true tests old mid ms → ShowsEnd shown (tail_text mid.run.journal) mid.sunk out → RanPrinted shown tests old (record { run = mid.run; sunk = out; clock = mid.clock }) ms
  printed shown mid out ms ran shows = record { results = ran.results; so_far = ran.so_far; timed = ran.timed; lines = came ran.lines; all = λ is. ran.all refl; shows = both shown shows; told = λ is. ran.told refl }
    where
      came : LinesCame (true ≡ true) old.run.journal.settings tests ran.results (round_at old) ms → LinesCame (shown ≡ true) old.run.journal.settings tests ran.results (round_at old) ms
      came l = record { told = l.told; last = l.last; split = l.split; one = l.one; none = λ _. l.none refl; in_time = l.in_time }

      both : (b : Bool) → ShowsEnd b (tail_text mid.run.journal) mid.sunk out → ShowsReport b (HasEnded old.run.journal.settings.maxfail tests ran.results) mid.run.journal old.sunk out
      both true tail = shows-end (run_lines mid.run.journal.settings mid.run.journal.entries.items) (tail_text mid.run.journal) old.sunk mid.sunk out ran.shows tail
      both false (inl tail) = inr (record { all = ran.all refl; shows = inl (mid.sunk, ran.shows, tail) })
      both false (inr tail) = inr (record { all = ran.all refl; shows = inr (shows-all (run_lines mid.run.journal.settings mid.run.journal.entries.items) (tail_text mid.run.journal) old.sunk mid.sunk out ran.shows tail) })

module _ (settings : Settings) (es : List Entry) (old new : Option Sunk) where
  step_part : AtStep settings es old new → PrintedPart (run_lines settings es) old new
  step_part s =
      let joined : run_lines settings es ≡ run_lines settings s.before ++ lines_from (after_entries (no_one settings) s.before) s.step =
      ap (run_lines settings) s.entries ∙ lines-more (no_one settings) s.before s.step in
      subst (λ (l : List ℕ). PrintedPart l old new) (sym joined) (broken-part _ _ old new s.shows)

  -- of the report a first part was taken
  pub failed_part : (did_all : Type 0) → OutputFailedAt did_all settings es old new → PrintedPart (run_text settings es) old new
  failed_part did_all (inl s) = printed_part_of_more (run_lines settings es) (run_tail settings es) old new (step_part s)
  failed_part did_all (inr t) = by t.shows
    where
      by : BrokeAtEnd settings es es old new → PrintedPart (run_text settings es) old new
      by (inl b) = broken-part (run_lines settings es) (run_tail settings es) old new b
      by (inr p) = printed_is_part (run_text settings es) old new p
