-- What a call of a side hands out at each number: the items, and the end. A choice of this project.
use Rattle.std.specs.Prelude.{◌≡◌, ℕ, ◌==◌, ◌||◌, List, [], ◌∷◌, ◌++◌, map, Option, Some, None, Result, Ok, Err, if◌then◌else◌}
use Rattle.xd_value.specs.Tree.{Tree}
use Rattle.xd_value.specs.View.{view}
use Rattle.xd_value.specs.declared.value.Value.{Value}
use Rattle.xd_channel.specs.declared.end.End.{End}
use Rattle.xd_channel.specs.declared.answers.Got.{Got}
use Rattle.xd_channel.specs.declared.answers.Waiting.{Waiting}
use Rattle.xd_factory.specs.Trees.{got_tree, taken_tree}
use Rattle.xd_factory.specs.declared.faults.HookFault.{HookFault}
use Rattle.xd_factory.specs.declared.taken.Taken.{Taken}
use Rattle.xd_factory.specs.declared.taken.Taken.TheVariants as taken
use Rattle.xd_pair.specs.Part.{is_end_but_loss, is_lost}
use Rattle.xd_pair.specs.Pair.{Actor}

-- from the first actor to the second, these items and these ends were handed out, at each number
pub record Hands (a b : Actor) (items : ℕ → List Tree) (end : ℕ → Option End) : Type 0 where
  pub got : (c : ℕ) → (b.part c).got ≡ (a.part c).got ++ items c
  pub ended : (c : ℕ) → (b.part c).ended ≡ is_end_but_loss (end c) || (a.part c).ended
  pub lost : (c : ℕ) → (b.part c).lost ≡ is_lost (end c) || (a.part c).lost

-- these items at one number, and none at the others
abbrev pub items_at : ℕ → List Tree → ℕ → List Tree
items_at n vs c = if n == c then vs else []

-- this end at one number, and none at the others
abbrev pub end_at : ℕ → Option End → ℕ → Option End
end_at n end c = if n == c then end else None

-- what a receive gave, its item seen as a tree
abbrev pub received_tree : Result (Got Value) HookFault → Result (Got Tree) HookFault
received_tree (Ok got) = Ok (got_tree got)
received_tree (Err fault) = Err fault

-- the items that a callback was handed as it was set
abbrev pub waiting_items : Result (Waiting Value) HookFault → List Tree
waiting_items (Ok w) = map view w.items.items
waiting_items (Err fault) = []

-- the end that a callback was handed as it was set, if it was handed one
abbrev pub waiting_end : Result (Waiting Value) HookFault → Option End
waiting_end (Ok w) = w.end
waiting_end (Err fault) = None

-- the item that a callback at the number is handed by a message, if it is
abbrev pub taken_items : Taken Tree → ℕ → List Tree
taken_items (taken.Handed n v) c = items_at n (v ∷ []) c
taken_items (taken.Kept n) c = []
taken_items (taken.EndKept n) c = []
taken_items (taken.EndHanded n end) c = []
taken_items taken.Dropped c = []
taken_items (taken.Status n) c = []
taken_items (taken.Exec n v) c = []
taken_items taken.Terminate c = []

-- the end that a callback at the number is handed by a message, if it is
abbrev pub taken_end : Taken Tree → ℕ → Option End
taken_end (taken.EndHanded n end) c = end_at n (Some end) c
taken_end (taken.Handed n v) c = None
taken_end (taken.Kept n) c = None
taken_end (taken.EndKept n) c = None
taken_end taken.Dropped c = None
taken_end (taken.Status n) c = None
taken_end (taken.Exec n v) c = None
taken_end taken.Terminate c = None

-- the first end that the list has for the number
abbrev pub owed_end : List (ℕ × End) → ℕ → Option End
owed_end [] c = None
owed_end (x ∷ xs) c = if x.0 == c then Some x.1 else owed_end xs c

-- the item that the next message handed out at the number, where there was a message
abbrev pub next_items : Option (Taken Value) → ℕ → List Tree
next_items (Some t) c = taken_items (taken_tree t) c
next_items None c = []

-- the end that the next message handed out at the number, where there was a message
abbrev pub next_end : Option (Taken Value) → ℕ → Option End
next_end (Some t) c = taken_end (taken_tree t) c
next_end None c = None
