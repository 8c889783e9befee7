use Rattle.std.proofs.Common.{◌≡◌, take, map}
use Rattle.xd_value.specs.Tree.{text}
use Rattle.xd_value.specs.View.{view}
use Rattle.xd_commands.proofs.kwargs.texts_value.Given as goal

abbrev pub invariant-loop-text : goal.invariant-loop-text
invariant-loop-text l = map view l.items.items ≡ map text (take l.text-index l.texts)
