-- The tests that the data of a suite file lists, and their ids. The file's form is a choice of this project, over TOML 1.0.
use Rattle.std.specs.Prelude.{ℕ, List, [], ◌∷◌, ◌++◌, map, slice_index_or, Option, Some, None, option_map, option_and_then, unwrap_or, codes}
use Rattle.std.specs.Str.{chars}
use Rattle.toml.specs.Data.{Data, table, Items, no_items, item, Members, no_members, get_member, as_str, as_array}
use Rattle.xd_edge.specs.declared.mode.ModeKind.{ModeKind}
use Rattle.xd_edge.specs.declared.mode.ModeKind.TheVariants.{Local, Each, Load, LoadScope, LoadFile, LoadGroup, WorkSteal}
use Rattle.xd_suite.specs.declared.test.Test.{Test}

-- the text that stands under a key, if one does
abbrev pub text_at : List ℕ → Members → Option (List ℕ)
text_at key ms = option_and_then as_str (get_member key ms)

-- the array that stands under a key, if one does
abbrev pub array_at : List ℕ → Members → Option Items
array_at key ms = option_and_then as_array (get_member key ms)

-- the characters of each item; what is no text has none
abbrev pub texts_of : Items → List (List ℕ)
texts_of no_items = []
texts_of (item d ds) = chars (unwrap_or (as_str d) []) ∷ texts_of ds

-- the test of a table: its id, its program with the arguments, and its group where it has one
-- Example: the first of the README is `net.py::test_connect` with the command `sh`, `-c`, `exit 0`, and has no group.
abbrev pub test_of : Members → Test
test_of ms = record {
  id = chars (unwrap_or (text_at (codes "id") ms) []);
  run = texts_of (unwrap_or (array_at (codes "run") ms) no_items);
  group = option_map chars (text_at (codes "group") ms);
}

-- the members of a table; what is no table has none
abbrev pub members_of : Data → Members
members_of (table ms) = ms
members_of _ = no_members

-- the tests of the items, in order
abbrev pub tests_of : Items → List Test
tests_of no_items = []
tests_of (item d ds) = test_of (members_of d) ∷ tests_of ds

-- the items under the key `test`; without the key there are none
abbrev pub test_items : Members → Items
test_items ms = unwrap_or (array_at (codes "test") ms) no_items

-- an id, `@` and a group, as pytest-xdist's `remote.py` joins them; the id alone where there is no group
abbrev pub with_group : List ℕ → Option (List ℕ) → List ℕ
with_group id None = id
with_group id (Some group) = id ++ 64 ∷ group

-- the id of a test by its group
abbrev pub group_id : Test → List ℕ
group_id t = with_group t.id t.group

-- the id of a test in a mode: that by its group in loadgroup, else the id alone
-- Example: a test `a` of the group `g` is `a@g` in loadgroup and `a` elsewhere.
abbrev pub id_by_mode : ModeKind → Test → List ℕ
id_by_mode LoadGroup t = group_id t
id_by_mode Local t = t.id
id_by_mode Each t = t.id
id_by_mode Load t = t.id
id_by_mode LoadScope t = t.id
id_by_mode LoadFile t = t.id
id_by_mode WorkSteal t = t.id

-- the ids of tests in a mode, in order
abbrev pub ids_by_mode : ModeKind → List Test → List (List ℕ)
ids_by_mode mode ts = map (id_by_mode mode) ts

-- the command of a test
-- Example: that of test 2 in the README is `sh`, `-c`, `exit 77`.
abbrev pub run_at : List Test → ℕ → List (List ℕ)
run_at ts k = slice_index_or (map (λ t. t.run) ts) k []
