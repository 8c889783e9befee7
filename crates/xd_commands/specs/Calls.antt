-- A call by name, as a value: a tuple of a name and a dict of keyword arguments. Commands and events are such calls, as
-- sendcommand in pytest-xdist's workermanage.py and sendevent in its remote.py make them.
use Rattle.std.specs.Prelude.{ℕ, Bool, true, ◌&&◌, List, Option, Some, None, if◌then◌else◌}
use Rattle.xd_value.specs.Tree.{Tree, Pairs, is_text, text, tuple, dict, no_trees, tree, no_pairs, pair}

-- a name, with its keyword arguments
pub record Call : Type 0 where
  pub name : List ℕ
  pub kwargs : Pairs

-- the call of a name with these keyword arguments, as it is written
abbrev pub call_as_value : List ℕ → Pairs → Tree
call_as_value name kwargs = tuple (tree (text name) (tree (dict kwargs) no_trees))

-- each key is a text, as the names of keyword arguments are in Python
abbrev pub has_text_keys : Pairs → Bool
has_text_keys no_pairs = true
has_text_keys (pair k v ps) = is_text k && has_text_keys ps

-- the call of a text with a dict that has text keys; other values make none
abbrev pub call_by : Tree → Tree → Option Call
call_by (text name) (dict kwargs) = if has_text_keys kwargs then Some (record { name = name; kwargs = kwargs }) else None
call_by _ _ = None

-- the call that a value is: a tuple of just two values that make one, and nothing else
-- Example: `("shutdown", {})` is the call by the name `shutdown`, and `("shutdown", {}, 1)` is none.
abbrev pub call_in : Tree → Option Call
call_in (tuple (tree name (tree kwargs no_trees))) = call_by name kwargs
call_in _ = None
