-- The trees of values whose parts can be written at all, as those of each `Value` can.
use Rattle.std.specs.Prelude.{◌≡◌, true, FitsSigned}
use Rattle.std.specs.Int.{w128}
use Rattle.std.specs.Str.{all_scalars}
use Rattle.xd_value.specs.Tree.{Tree, Trees, Pairs, none, truth, int, bytes, text, list, tuple, set, frozenset, dict, channel, no_trees, tree, no_pairs, pair}

-- each integer has 128 bits, and each text is of Unicode's scalar values
-- Example: a list of the integer 1 and the text `a` is; a text of the surrogate 55296 is not.
abbrev mutual
  pub Writable : Tree → Type 0
  Writable none = Unit {0}
  Writable (truth b) = Unit {0}
  Writable (int z) = FitsSigned w128 z
  Writable (bytes bs) = Unit {0}
  Writable (text cs) = all_scalars cs ≡ true
  Writable (list ts) = AllWritable ts
  Writable (tuple ts) = AllWritable ts
  Writable (set ts) = AllWritable ts
  Writable (frozenset ts) = AllWritable ts
  Writable (dict ps) = PairsWritable ps
  Writable (channel n) = Unit {0}

  pub AllWritable : Trees → Type 0
  AllWritable no_trees = Unit {0}
  AllWritable (tree t ts) = Writable t × AllWritable ts

  pub PairsWritable : Pairs → Type 0
  PairsWritable no_pairs = Unit {0}
  PairsWritable (pair k v ps) = (Writable k × Writable v) × PairsWritable ps
