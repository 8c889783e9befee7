use Rattle.std.proofs.Common.{◌≡◌, ◌++◌, drop, option_map}
use Rattle.xd_value.specs.View.{views}
use Rattle.xd_commands.specs.Kwargs.{each_of, text_in_tree}
use Rattle.xd_commands.proofs.kwargs.texts_of.Given as goal

abbrev pub invariant-loop-value : goal.invariant-loop-value
invariant-loop-value l = each_of text_in_tree (views l.values) ≡ option_map (λ xs. l.items.items ++ xs) (each_of text_in_tree (views (drop l.value-index l.values)))
