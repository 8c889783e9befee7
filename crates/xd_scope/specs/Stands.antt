-- What a scope mode keeps of a plan, and the turn that a call leaves it at.
use Rattle.std.specs.Prelude.{◌≡◌, ℕ, suc, ◌==◌, nat_lt, true, List, [], ◌∷◌, ◌++◌, Option, Some, None, option_map, unwrap_or, length, take, drop, reverse, map, filter, if◌then◌else◌}
use Rattle.std.specs.BTreeMap.{BTreeMap, get_by}
use Rattle.std.specs.BTreeSet.{BTreeSet, contains}
use Rattle.std.specs.Cmp.Lexicographic.{slice_cmp}
use Rattle.std.specs.Ordering.{nat_cmp}
use Rattle.std.specs.Str.{IsUtf8, bytes_eq, chars}
use denote.Ref.{Bor}
use Rattle.xd_run.specs.Numbers.{among}
use Rattle.xd_run.specs.Units.{Group, unless_empty}
use Rattle.xd_journal.specs.declared.entry.Entry.{Entry}
use Rattle.xd_run.specs.Table.{Table, held}
use Rattle.xd_run.specs.Turn.{Turn, enough, in_turn, shut_each}
use Rattle.xd_run.specs.Plan.{Handed, Plan, is_scope}
use Rattle.xd_run.specs.ScopeModes.{give_unit, scope_refill}
use Rattle.xd_scope.specs.declared.refill.Deal.{Deal}
use Rattle.xd_scope.specs.declared.refill.Deal.TheVariants as deals
use Rattle.xd_scope.specs.declared.units.Units.{Units}

-- the units of this worker, in order of assignment
abbrev pub units_of : ℕ → List Handed → List (List ℕ)
units_of worker [] = []
units_of worker (u ∷ us) = if u.worker == worker then u.tests ∷ units_of worker us else units_of worker us

-- the worker's units, none where the map has no list of it
abbrev pub given_to : ℕ → BTreeMap ℕ (List (List ℕ)) → List (List ℕ)
given_to worker lists = unwrap_or (get_by (nat_cmp worker) lists) []

-- the mode, its order of units, the units that wait and those that each worker was given; nobody steals
-- Example: a mode whose queue is empty keeps no plan in which a unit waits.
pub record Keeps (u : Units) (p : Plan) : Type 0 where
  pub mode : p.mode ≡ u.kind
  pub scope : is_scope u.kind ≡ true
  pub reorder : p.reorder ≡ u.reorder
  pub queue : p.queue ≡ u.queue.items
  pub given : (worker : ℕ) → units_of worker p.given ≡ given_to worker u.given
  pub steal : p.steal ≡ None

-- the table and the outputs are those of the turn, and its plan is kept
pub record IsAt (t : Turn) (table : Table) (acts : List Entry) (u : Units) : Type 0 where
  pub table_is : table ≡ t.table
  pub acts_are : acts ≡ t.acts
  pub keeps : Keeps u t.plan

-- a unit, where the worker holds fewer tests than it needs
abbrev pub give_where_few : ℕ → Turn → Turn
give_where_few worker t = if nat_lt (length (held worker t.table)) enough then give_unit worker t else t

-- what a worker gets: a unit, or a refill
abbrev pub dealt_to : Deal → ℕ → Turn → Turn
dealt_to deals.FirstUnit worker t = give_unit worker t
dealt_to deals.Refill worker t = scope_refill worker t

-- the first k of these workers get a unit each, and then each of them is refilled; the others are shut down, the
-- last one first
abbrev pub served_share : ℕ → List ℕ → Turn → Turn
served_share k ws t = in_turn scope_refill (take k ws) (in_turn give_unit (take k ws) (shut_each (reverse (drop k ws)) t))

-- the set has these numbers
abbrev pub IsSetOf : List ℕ → BTreeSet ℕ → Type 0
IsSetOf xs s = (x : ℕ) → contains nat_cmp s x ≡ among x xs

-- what is left of a unit: the tests that are among the rest, where there are any
-- Example: of the unit of 0, 1 and 2 whose worker died at 1, the unit of 2 is left.
abbrev pub left_of : List ℕ → List ℕ → List (List ℕ)
left_of rest tests = unless_empty (filter (λ t. among t rest) tests)

-- what is left of each of these units, in order
abbrev pub left_of_each : List ℕ → List (List ℕ) → List (List ℕ)
left_of_each rest [] = []
left_of_each rest (u ∷ us) = left_of rest u ++ left_of_each rest us

-- the place of the scope's group, where it has one
-- Example: after the ids `a::1`, `b::1` and `a::2` the scope `b` has place 1.
abbrev pub place_of_scope : List ℕ → List Group → Option ℕ
place_of_scope scope [] = None
place_of_scope scope (g ∷ gs) = if bytes_eq g.scope scope then Some 0 else option_map suc (place_of_scope scope gs)

-- the units are those of the groups, and the map knows the place of each scope
pub record AreGrouped (gs : List Group) (places : BTreeMap (Bor (List ℕ)) ℕ) (us : List (List ℕ)) : Type 0 where
  pub units_are : us ≡ map (λ g. g.tests) gs
  pub places_are : (bs : List ℕ) → IsUtf8 bs → get_by (λ k. slice_cmp nat_cmp bs k.now) places ≡ place_of_scope (chars bs) gs
