-- Where a report broke off.
use Rattle.std.specs.Prelude.{◌⊎◌, List, Option}
use Rattle.xd_edge.specs.Printing.{BreaksOff}
use Rattle.xd_edge.specs.Sink.{Sunk, Printed}
use Rattle.xd_journal.specs.declared.entry.Entry.{Entry}
use Rattle.xd_journal.specs.declared.settings.Settings.{Settings}
use Rattle.xd_run.specs.State.{after_entries, no_one}
use Rattle.xd_report.specs.Lines.{lines_from, run_lines}
use Rattle.xd_report.specs.Text.{run_tail, run_text}

-- At the lines of some entries: those of the entries before them were printed, and of their own a first part was taken.
abbrev pub BrokeAtLines : Settings → List Entry → List Entry → Option Sunk → Option Sunk → Type 0
BrokeAtLines settings before more old new = BreaksOff (run_lines settings before) (lines_from (after_entries (no_one settings) before) more) old new

-- At the end of a report: the lines of these entries were printed and of its tail a first part was taken, or all of it was
-- printed and the output was not closed.
-- Example: all lines were handed on and then the disk is full.
abbrev pub BrokeAtEnd : Settings → List Entry → List Entry → Option Sunk → Option Sunk → Type 0
BrokeAtEnd settings before es old new = BreaksOff (run_lines settings before) (run_tail settings es) old new ⊎ Printed (run_text settings es) old new
