-- Which outputs are in order: what they ask is possible where they stand.
use Rattle.std.specs.Prelude.{ℕ, Bool, true, false, not, ◌&&◌, List, [], ◌∷◌, drop, filter, is_none, if◌then◌else◌}
use Rattle.std.specs.Str.{bytes_eq}
use Rattle.xd_journal.specs.declared.entry.Entry.{Entry}
use Rattle.xd_journal.specs.declared.entry.Entry.TheVariants.{Start, Run, RunAll, Steal, Shutdown, Kill, Over}
use Rattle.xd_run.specs.Numbers.{among, all_distinct, all_among}
use Rattle.xd_run.specs.Table.{held, in_rota}
use Rattle.xd_run.specs.Plan.{is_each, items_named, slot_items}
use Rattle.xd_run.specs.Workers.{has_member, is_active, was_ready, is_shut, slot_of}
use Rattle.xd_run.specs.Sharing.{State}
use Rattle.xd_run.specs.State.{after_effect}
use Rattle.xd_run.specs.Outputs.{outputs, after_input}

-- there is a number in the list
abbrev pub not_empty : List ℕ → Bool
not_empty [] = false
not_empty (x ∷ xs) = true

-- the worker is in the rota and was not told to shut down
abbrev pub may_run : ℕ → State → Bool
may_run w s = in_rota w s.books.table && not (is_shut w s.books)

-- these stand in the list, in its order
-- Example: of 5 to 9, 8 and 9 are, and 9 and 8 are not.
abbrev pub is_in_order : List ℕ → List ℕ → Bool
is_in_order xs ys = bytes_eq xs (filter (λ y. among y xs) ys)

-- the output is in order after this state: a Start is of a new worker; a Run gives items of the pool, in mode
-- each of the worker's slot; a RunAll stands after the share; a Steal asks for tests after the first two, in the
-- order in which they are held; a Shutdown is the worker's first, and it was ready
-- Example: gw1 holds 5 to 9: a Steal of 8 and 9 is orderly, one of 9 and 8 is not, nor one of 6.
abbrev pub is_orderly : State → Entry → Bool
is_orderly s (Start w slot) = not (has_member w (λ m. true) s.books)
is_orderly s (Run w indices) =
    let items = items_named (slot_of w s.books) indices s.plan in
    may_run w s && not_empty indices && all_distinct items && all_among items s.books.table.pool
    && (if is_each s.plan.mode then all_among items (slot_items (slot_of w s.books) s.plan) else true)
is_orderly s (RunAll w) =
    is_each s.plan.mode && s.books.shared && may_run w s
    && all_among (slot_items (slot_of w s.books) s.plan) s.books.table.pool
is_orderly s (Steal w indices) =
    may_run w s && is_in_order (items_named (slot_of w s.books) indices s.plan) (held w s.books.table)
    && is_none s.plan.steal && not_empty indices && all_distinct indices
    && all_among indices (drop 2 (held w s.books.table))
is_orderly s (Shutdown w) = is_active w s.books && was_ready w s.books && not (is_shut w s.books)
is_orderly s (Kill w) = true
is_orderly s (Over how) = true
is_orderly s _ = false

-- each of these outputs is in order where it stands
abbrev pub all_orderly : State → List Entry → Bool
all_orderly s [] = true
all_orderly s (e ∷ es) = is_orderly s e && all_orderly (after_effect s e) es

-- the outputs of each input are in order
abbrev pub is_orderly_run : State → List Entry → Bool
is_orderly_run s [] = true
is_orderly_run s (e ∷ es) = all_orderly (after_effect s e) (outputs s e) && is_orderly_run (after_input s e) es
