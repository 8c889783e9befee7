use Rattle.std.proofs.Common.{◌≡◌, drop}
use Rattle.xd_run.specs.Collections.{listed_in}
use Rattle.xd_books.proofs.listing.listed_in.Given as goal

abbrev pub invariant-loop-listed : goal.invariant-loop-listed
invariant-loop-listed l = listed_in l.slot l.lists ≡ listed_in l.slot (drop l.listed-index l.lists)
