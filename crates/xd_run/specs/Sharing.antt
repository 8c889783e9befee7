-- How workers join, and when the tests are shared. pytest-xdist's `add_node_collection` and `collection_is_completed`.
use Rattle.std.specs.Prelude.{ℕ, zero, suc, ◌+◌, ◌==◌, Bool, true, not, ◌&&◌, List, [], ◌∷◌, length, sum, Some, None, if◌then◌else◌}
use Rattle.std.specs.List.{range_with_len}
use Rattle.xd_run.specs.declared.member.Listed.{Listed}
use Rattle.xd_run.specs.Table.{joined}
use Rattle.xd_run.specs.Plan.{Plan, is_each, is_scope}
use Rattle.xd_run.specs.Units.{units}
use Rattle.xd_run.specs.Books.{Books, on_table}
use Rattle.xd_run.specs.Collections.{listed_in}

-- the state of a run: what the controller keeps, and what the mode remembers
pub record State : Type 0 where
  pub books : Books
  pub plan : Plan

-- a change of the books alone
abbrev pub in_books : (Books → Books) → State → State
in_books change s = record s { books = change s.books }

-- the ids that stand for the slot
abbrev pub ids_at : ℕ → List Listed → List (List ℕ)
ids_at slot ls = elim (listed_in slot ls) [ None ↦ [] | Some l ↦ l.ids ]

-- how many tests each of n slots has, from this slot on
abbrev pub sizes_from : List Listed → ℕ → ℕ → List ℕ
sizes_from ls slot zero = []
sizes_from ls slot (suc n) = length (ids_at slot ls) ∷ sizes_from ls (slot + 1) n

-- the plan once tests are shared: how many each slot has, a single number but in mode each, and in the scope modes the units
-- of the ids
-- Example: in mode each two slots with three and two tests give the sizes 3 and 2, and no unit.
abbrev pub shared_plan : List ℕ → List (List ℕ) → Plan → Plan
shared_plan sizes ids p = record p { sizes = sizes; queue = if is_scope p.mode then units p.mode p.reorder ids else [] }

-- the plan once the tests of these collections are shared
abbrev pub planned : List Listed → ℕ → Plan → Plan
planned ls workers p = shared_plan (sizes_from ls 0 (if is_each p.mode then workers else 1)) (ids_at 0 ls) p

-- all items come into the pool, in order
abbrev pub shared_now : State → State
shared_now s =
    let p = planned s.books.lists s.books.settings.workers s.plan in
    record {
      books = record (s.books) { shared = true; table = record (s.books.table) { pool = range_with_len 0 (sum p.sizes) } };
      plan = p;
    }

-- the rota has as many workers as the settings say, for the first time
abbrev pub is_full : Books → Bool
is_full b = not b.shared && (length b.table.rota == b.settings.workers)

-- the state once the tests are shared, where the last worker that was missing has joined
abbrev pub share_where_full : State → State
share_where_full s = if is_full s.books then shared_now s else s

-- the worker joins, and the last one that was missing brings the share
-- Example: with two workers the second collection brings the share; a third worker finds the tests shared.
abbrev pub joining : ℕ → State → State
joining worker s = share_where_full (in_books (on_table (joined worker)) s)
