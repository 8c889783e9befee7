-- What a worker tells of itself, as execnet's gateway_base.py does for remote_status.
use Rattle.std.specs.Prelude.{ℕ, codes, pos}
use Rattle.xd_value.specs.Tree.{Tree, text, int, dict, no_pairs, pair}

-- how many channels are in its table, how many functions have not ended, and that functions run on threads
-- Example: `{"numchannels": 0, "numexecuting": 0, "execmodel": "thread"}`.
abbrev pub status_tree : ℕ → ℕ → Tree
status_tree channels functions =
    dict (pair (text (codes "numchannels")) (int (pos channels))
    (pair (text (codes "numexecuting")) (int (pos functions))
    (pair (text (codes "execmodel")) (text (codes "thread")) no_pairs)))
