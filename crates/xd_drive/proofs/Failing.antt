-- Where in the report the output failed.
use Rattle.std.proofs.Common.{◌≡◌, ◌≤◌, ℕ, List, ◌++◌, length, take, drop, true, Option, sym, ◌∙◌, ap, subst, inl, inr}
use Rattle.std.specs.Prelude.{◌⊎◌}
use Rattle.std.specs.List.{list_all}
use Rattle.std.proofs.lemmas.List.{drop-append-le, take-append-drop, take-append-le}
use Rattle.xd_edge.specs.Sink.{Sunk, Printed, PrintedPart}
use Rattle.xd_edge.proofs.SinkLemmas.{printed_part_of_more}
use Rattle.xd_journal.specs.declared.settings.Settings.{Settings}
use Rattle.xd_journal.specs.declared.entry.Entry.{Entry}
use Rattle.xd_journal.specs.declared.news.News.{News}
use Rattle.xd_run.specs.State.{after_entries, no_one}
use Rattle.xd_report.specs.Lines.{lines_from, run_lines}
use Rattle.xd_report.specs.Text.{run_tail, run_text}
use Rattle.xd_session.specs.History.{run_of}
use Rattle.xd_drive.specs.Failing.{FailedAt}
use Rattle.xd_edge.specs.Printing.{BreaksOff}
use Rattle.xd_drive.proofs.Loop.{lines-join}
use Rattle.xd_edge.proofs.PrintLemmas.{broken-part, printed_is_part}
use Rattle.xd_drive.proofs.Texts.{lines-following, silent, tail-following, text-following}

module _ (x : Settings) (taken : List News) (count : ℕ) (es : List Entry) (old new : Option Sunk) where
  -- entries after that print nothing change nothing of it
  module _ (ys : List Entry) (quiet : list_all silent ys ≡ true) (within : count ≤ length es) where
    first-are : take count (es ++ ys) ≡ take count es
    first-are = take-append-le count es ys within

    lines-are : lines_from (after_entries (no_one x) (take count (es ++ ys))) (drop count (es ++ ys)) ≡ lines_from (after_entries (no_one x) (take count es)) (drop count es)
    lines-are =
        ap (λ (l : List Entry). lines_from (after_entries (no_one x) l) (drop count (es ++ ys))) first-are
        ∙ ap (lines_from (after_entries (no_one x) (take count es))) (drop-append-le count es ys within) ∙ lines-following ys quiet (after_entries (no_one x) (take count es)) (drop count es)

    breaks-following : (a b : List ℕ) → a ≡ b → BreaksOff (run_lines x (take count es)) a old new → BreaksOff (run_lines x (take count (es ++ ys))) b old new
    breaks-following a b same h = subst (λ (l : List ℕ). BreaksOff (run_lines x (take count (es ++ ys))) l old new) same (subst (λ (l : List Entry). BreaksOff (run_lines x l) a old new) (sym first-are) h)

    shows-following : BreaksOff (run_lines x (take count es)) (run_tail x es) old new ⊎ Printed (run_text x es) old new
        → BreaksOff (run_lines x (take count (es ++ ys))) (run_tail x (es ++ ys)) old new ⊎ Printed (run_text x (es ++ ys)) old new
    shows-following (inl h) = inl (breaks-following (run_tail x es) (run_tail x (es ++ ys)) (sym (tail-following ys quiet x es)) h)
    shows-following (inr h) = inr (subst (λ (l : List ℕ). Printed l old new) (sym (text-following ys quiet x es)) h)

    pub failed-following : FailedAt x taken count es old new → FailedAt x taken count (es ++ ys) old new
    failed-following (inl f) = inl (record {
      before = (f.before.0, f.before.1, f.before.2, first-are ∙ f.before.3);
      shows = breaks-following _ _ (sym lines-are) f.shows;
    })
    failed-following (inr f) = inr (record { over = f.over; all = first-are ∙ f.all; shows = shows-following f.shows })

  lines-whole : run_lines x (take count es) ++ lines_from (after_entries (no_one x) (take count es)) (drop count es) ≡ run_lines x es
  lines-whole = sym (lines-join (no_one x) (take count es) (drop count es)) ∙ ap (run_lines x) (take-append-drop count es)

  part-by : take count es ≡ es → BreaksOff (run_lines x (take count es)) (run_tail x es) old new ⊎ Printed (run_text x es) old new → PrintedPart (run_text x es) old new
  part-by all (inl h) = subst (λ (l : List Entry). PrintedPart (run_lines x l ++ run_tail x es) old new) all (broken-part (run_lines x (take count es)) (run_tail x es) old new h)
  part-by all (inr h) = printed_is_part (run_text x es) old new h

  -- of the report a first part was taken
  pub failed-part : es ≡ (run_of x taken).entries → FailedAt x taken count es old new → PrintedPart (run_text x es) old new
  failed-part is (inl f) = printed_part_of_more (run_lines x es) (run_tail x es) old new (subst (λ (l : List ℕ). PrintedPart l old new) lines-whole (broken-part _ _ old new f.shows))
  failed-part is (inr f) = part-by (f.all ∙ sym is) f.shows
