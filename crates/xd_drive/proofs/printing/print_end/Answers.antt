use Rattle.xd_report.proofs.Endings.{ends_as}
use Rattle.xd_drive.proofs.printing.print_end.Goals as goal

pub returns-clause-shows : goal.returns-clause-shows
returns-clause-shows g c = ends_as c.print_tail-printed.result c.in_ok-shown.shown _ c.in_ok-shown.ensures c.print_tail-printed.ensures.shows

pub returns-clause-counted : goal.returns-clause-counted
returns-clause-counted g c = ends_as c.print_tail-printed.result c.in_ok-shown.shown _ c.in_ok-shown.ensures c.print_tail-printed.ensures.counted
