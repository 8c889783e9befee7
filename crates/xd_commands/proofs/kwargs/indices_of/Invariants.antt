use Rattle.std.proofs.Common.{◌≡◌, ◌++◌, drop, option_map}
use Rattle.xd_value.specs.View.{views}
use Rattle.xd_commands.specs.Kwargs.{each_of, test_index_of}
use Rattle.xd_commands.proofs.kwargs.indices_of.Given as goal

abbrev pub invariant-loop-value : goal.invariant-loop-value
invariant-loop-value l = each_of test_index_of (views l.values) ≡ option_map (λ xs. l.items.items ++ xs) (each_of test_index_of (views (drop l.value-index l.values)))
