use Rattle.xd_run.specs.State.{after_entries, no_one}
use Rattle.std.proofs.Common.{take}
use Rattle.xd_report.proofs.Endings.{ends_as}
use Rattle.xd_drive.proofs.Follow.{follows-to}
use Rattle.xd_drive.proofs.printing.print_between.Goals as goal

pub returns-clause-shows : goal.returns-clause-shows
returns-clause-shows g c =
    ends_as c.print_lines-printed.result c.in_ok-shown.shown _ c.in_ok-shown.ensures
    (rw (c.deref.ensures.value) at (c.print_lines-printed.ensures.shows (after_entries (no_one c.args.journal.now.settings) (take c.args.from c.args.journal.now.entries.items)) c.requires.follows))

pub returns-clause-follows : goal.returns-clause-follows
returns-clause-follows g c =
    follows-to c.print_lines-printed.new.reporter (no_one c.args.journal.now.settings) c.args.from c.args.to _ c.args.journal.now.entries.items c.requires.order c.deref.ensures.value
    (ends_as c.print_lines-printed.result c.in_ok-shown.shown _ c.in_ok-shown.ensures
    (c.print_lines-printed.ensures.follows (after_entries (no_one c.args.journal.now.settings) (take c.args.from c.args.journal.now.entries.items)) c.requires.follows))

pub returns-clause-counted : goal.returns-clause-counted
returns-clause-counted g c = ends_as c.print_lines-printed.result c.in_ok-shown.shown _ c.in_ok-shown.ensures c.print_lines-printed.ensures.counted
