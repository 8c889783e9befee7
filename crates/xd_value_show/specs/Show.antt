-- The text that a value is printed as, in characters. A choice of this project, in the notation of Python.
use Rattle.std.specs.Prelude.{ℕ, ◌/◌, ◌%◌, ◌==◌, ◌||◌, nat_lt, if◌then◌else◌, List, [], ◌∷◌, ◌++◌, codes}
use Rattle.std.specs.Char.{digit_char}
use Rattle.std.specs.List.{flat_map}
use Rattle.std.specs.Fmt.{decimal, signed_decimal}
use Rattle.xd_value.specs.Tree.{Tree, Trees, Pairs, none, truth, int, bytes, text, list, tuple, set, frozenset, dict, channel, no_trees, tree, no_pairs, pair, count}

-- a byte: two lower-case hexadecimal digits
abbrev pub hex_pair : ℕ → List ℕ
hex_pair b = digit_char (b / 16) ∷ digit_char (b % 16) ∷ []

-- bytes, each as two digits
abbrev pub hex : List ℕ → List ℕ
hex bs = flat_map hex_pair bs

-- a character inside a text: `"` and `\` stand after a backslash, and one below U+0020 or U+007F as `\x` and its code
abbrev pub escaped : ℕ → List ℕ
escaped c =
    if c == 34 || c == 92 then 92 ∷ c ∷ []
    else if nat_lt c 32 || c == 127 then 92 ∷ 120 ∷ hex_pair c
    else c ∷ []

-- the characters of a text, one after the other
abbrev pub escapes : List ℕ → List ℕ
escapes cs = flat_map escaped cs

-- what stands between two marks
abbrev pub between : List ℕ → List ℕ → List ℕ → List ℕ
between first inner last = first ++ (inner ++ last)

-- the end of a tuple: one item alone is followed by a comma
abbrev pub tuple_end : ℕ → List ℕ
tuple_end n = if n == 1 then codes ",)" else codes ")"

-- the items of a set between these marks, or the word for a set without items
abbrev pub shown_set : List ℕ → List ℕ → List ℕ → List ℕ → ℕ → List ℕ
shown_set empty first inner last n = if n == 0 then empty else between first inner last

-- a value as it is printed; items stand in held order
-- Example: `("runtests", {"indices": [0, 1]})`.
abbrev mutual
  pub shown : Tree → List ℕ
  shown none = codes "None"
  shown (truth b) = if b then codes "True" else codes "False"
  shown (int z) = signed_decimal z
  shown (bytes bs) = between (codes "bytes(") (hex bs) (codes ")")
  shown (text cs) = between (codes "\"") (escapes cs) (codes "\"")
  shown (list ts) = between (codes "[") (shown_items [] ts) (codes "]")
  shown (tuple ts) = between (codes "(") (shown_items [] ts) (tuple_end (count ts))
  shown (set ts) = shown_set (codes "set()") (codes "{") (shown_items [] ts) (codes "}") (count ts)
  shown (frozenset ts) = shown_set (codes "frozenset()") (codes "frozenset({") (shown_items [] ts) (codes "})") (count ts)
  shown (dict ps) = between (codes "{") (shown_pairs [] ps) (codes "}")
  shown (channel n) = between (codes "channel(") (decimal n) (codes ")")

  -- items, the first after the given mark and each other one after a comma
  pub shown_items : List ℕ → Trees → List ℕ
  shown_items before no_trees = []
  shown_items before (tree t ts) = before ++ (shown t ++ shown_items (codes ", ") ts)

  -- pairs, the first after the given mark and each other one after a comma
  pub shown_pairs : List ℕ → Pairs → List ℕ
  shown_pairs before no_pairs = []
  shown_pairs before (pair k v ps) = before ++ (shown k ++ (codes ": " ++ (shown v ++ shown_pairs (codes ", ") ps)))
