use Rattle.std.proofs.Common.{◌≡◌, ◌++◌, drop}
use Rattle.toml.specs.View.{items_view}
use Rattle.xd_suite.specs.Tests.{texts_of}
use Rattle.xd_suite.proofs.reading.texts_of.Given as goal

abbrev pub invariant-loop-value : goal.invariant-loop-value
invariant-loop-value l = texts_of (items_view l.array.items) ≡ l.items.items ++ texts_of (items_view (drop l.value-index l.array.items))
