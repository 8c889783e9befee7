use Rattle.std.proofs.Common.{◌≡◌, []}
use Rattle.std.specs.Prelude.{None, replicate}
use Rattle.xd_link.specs.declared.place.Place.TheVariants.{Popen}
use Rattle.xd_words.proofs.plan.children.Given as goal

abbrev pub invariant-loop : goal.invariant-loop
invariant-loop l = l.items.items ≡ replicate l.counter (Popen None [])
