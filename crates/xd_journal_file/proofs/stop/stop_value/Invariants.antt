use Rattle.std.proofs.Common.{◌≡◌, ◌∷◌, take, map}
use Rattle.std.specs.Prelude.{codes}
use Rattle.xd_value.specs.Tree.{text}
use Rattle.xd_value.specs.View.{view}
use Rattle.xd_journal_file.specs.Written.{number_tree}
use Rattle.xd_journal_file.proofs.stop.stop_value.Given as goal

abbrev pub invariant-loop-number : goal.invariant-loop-number
invariant-loop-number l = map view l.items.items ≡ text (codes "over") ∷ text l.word ∷ map number_tree (take l.number-index l.numbers)
