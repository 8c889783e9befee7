use Rattle.std.proofs.Common.{◌≡◌, ◌+◌, drop, option_map}
use Rattle.xd_run.specs.Collections.{differ_at}
use Rattle.xd_books.proofs.listing.place_of_difference.Given as goal

abbrev pub invariant-loop-i : goal.invariant-loop-i
invariant-loop-i l = differ_at l.first l.other ≡ option_map (λ n. l.i + n) (differ_at (drop l.i l.first) (drop l.i l.other))
