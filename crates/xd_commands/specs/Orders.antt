-- Commands: what a controller tells a worker, under the names that pytest-xdist's remote.py knows.
use Rattle.std.specs.Prelude.{Option, Some, None, option_map, option_and_then, codes, if◌then◌else◌}
use Rattle.std.specs.Str.{bytes_eq}
use Rattle.xd_value.specs.Tree.{Tree, no_pairs}
use Rattle.xd_journal.specs.declared.entry.Entry.{Entry}
use Rattle.xd_journal.specs.declared.entry.Entry.TheVariants.{Run, RunAll as RunEach, Steal as StealFrom, Shutdown as ShutDown}
use Rattle.xd_commands.specs.declared.order.Order.{Order}
use Rattle.xd_commands.specs.declared.order.Order.TheVariants.{RunTests, RunAll, Steal, Shutdown}
use Rattle.xd_commands.specs.Calls.{Call, call_as_value, call_in}
use Rattle.xd_commands.specs.Kwargs.{AreIndices, indices_at, indices_kwargs}

-- the order that an entry gives to its worker; the other entries give none
abbrev pub order_of : Entry → Option Order
order_of (Run w ns) = Some (RunTests ns)
order_of (RunEach w) = Some RunAll
order_of (StealFrom w ns) = Some (Steal ns)
order_of (ShutDown w) = Some Shutdown
order_of _ = None

-- an order, as it is written
-- Example: `("runtests", {"indices": [0, 1]})`.
abbrev pub order_tree : Order → Tree
order_tree (RunTests ns) = call_as_value (codes "runtests") (indices_kwargs ns)
order_tree RunAll = call_as_value (codes "runtests_all") no_pairs
order_tree (Steal ns) = call_as_value (codes "steal") (indices_kwargs ns)
order_tree Shutdown = call_as_value (codes "shutdown") no_pairs

-- the order that a call is
abbrev pub called_order : Call → Option Order
called_order c =
    if bytes_eq c.name (codes "runtests") then option_map RunTests (indices_at c.kwargs)
    else (if bytes_eq c.name (codes "runtests_all") then Some RunAll
    else (if bytes_eq c.name (codes "steal") then option_map Steal (indices_at c.kwargs)
    else (if bytes_eq c.name (codes "shutdown") then Some Shutdown else None)))

-- the order that a value is, or that it is none
abbrev pub tree_order : Tree → Option Order
tree_order t = option_and_then called_order (call_in t)

-- the numbers in an order are ones that a test may have
abbrev pub IsOrder : Order → Type 0
IsOrder (RunTests ns) = AreIndices ns
IsOrder RunAll = Unit {0}
IsOrder (Steal ns) = AreIndices ns
IsOrder Shutdown = Unit {0}
