use Rattle.std.proofs.Common.{◌≡◌}
use Rattle.xd_run.specs.Sharing.{sizes_from}
use Rattle.xd_report.proofs.collecting.sizes_of.Given as goal

abbrev pub invariant-loop-slot : goal.invariant-loop-slot
invariant-loop-slot l = l.sizes.items ≡ sizes_from l.books.lists 0 l.slot
