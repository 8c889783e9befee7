-- Items seen as the trees that they stand for.
use Rattle.std.specs.Prelude.{List, ◌≡◌, map, Option, Some, None, Result, Ok, Err}
use Rattle.xd_value.specs.Tree.{Tree}
use Rattle.xd_value.specs.View.{view}
use Rattle.xd_value.specs.declared.value.Value.{Value}
use Rattle.xd_channel.specs.State.{EndState}
use Rattle.xd_channel.specs.declared.answers.Arrived.{Arrived}
use Rattle.xd_channel.specs.declared.answers.Arrived.TheVariants as arrived
use Rattle.xd_channel.specs.declared.answers.Got.{Got}
use Rattle.xd_channel.specs.declared.answers.Got.TheVariants.{Item, Ended, NotYet}
use Rattle.xd_channel.specs.declared.answers.HasCallback.{HasCallback}
use Rattle.xd_channel.specs.declared.answers.Waiting.{Waiting}
use Rattle.xd_channel.specs.declared.end.End.{End}
use Rattle.xd_factory.specs.declared.taken.Taken.{Taken}
use Rattle.xd_factory.specs.declared.taken.Taken.TheVariants as taken
use Rattle.xd_factory.specs.declared.faults.HookFault.{HookFault}

-- an end with its items seen as trees
abbrev pub end_trees : EndState Value → EndState Tree
end_trees s = record { waiting = map view s.waiting; marker = s.marker; sending = s.sending; callback = s.callback; given = s.given }

-- an end, where there is one, with its items seen as trees
abbrev pub trees_at : Option (EndState Value) → Option (EndState Tree)
trees_at None = None
trees_at (Some s) = Some (end_trees s)

-- what became of an item, which is seen as a tree
abbrev pub arrived_tree : Arrived Value → Arrived Tree
arrived_tree arrived.Kept = arrived.Kept
arrived_tree (arrived.Handed v) = arrived.Handed (view v)
arrived_tree arrived.Dropped = arrived.Dropped

-- what a receive gave, its item seen as a tree
abbrev pub got_tree : Got Value → Got Tree
got_tree (Item v) = Item (view v)
got_tree (Ended end) = Ended end
got_tree NotYet = NotYet

-- what a message did, its value seen as a tree
abbrev pub taken_tree : Taken Value → Taken Tree
taken_tree (taken.Kept n) = taken.Kept n
taken_tree (taken.Handed n v) = taken.Handed n (view v)
taken_tree (taken.EndKept n) = taken.EndKept n
taken_tree (taken.EndHanded n end) = taken.EndHanded n end
taken_tree taken.Dropped = taken.Dropped
taken_tree (taken.Status n) = taken.Status n
taken_tree (taken.Exec n v) = taken.Exec n (view v)
taken_tree taken.Terminate = taken.Terminate

-- the answer is this one, its item seen as a tree
abbrev pub IsGot : Result (Got Value) HookFault → Result (Got Tree) HookFault → Type 0
IsGot (Ok got) answer = answer ≡ Ok (got_tree got)
IsGot (Err fault) answer = answer ≡ Err fault

-- what a receive gave, its item seen as a tree, for the history of its number
abbrev pub received_trees : Result (Got Value) HookFault → Result (Got Tree) HasCallback
received_trees (Ok got) = Ok (got_tree got)
received_trees (Err fault) = Err (record {})

-- what a callback was handed as it was set, the items seen as trees, for the history of its number
abbrev pub hooked_trees : Result (Waiting Value) HookFault → Result (List Tree × Option End) HasCallback
hooked_trees (Ok w) = Ok (map view w.items.items, w.end)
hooked_trees (Err fault) = Err (record {})
