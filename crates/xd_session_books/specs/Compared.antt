-- How a collection compares with an earlier one.
use Rattle.std.specs.Prelude.{ℕ, zero, suc, ◌==◌, List, [], ◌∷◌, Option, Some, None, if◌then◌else◌}
use Rattle.xd_journal.specs.declared.entry.Ids.{Ids}
use Rattle.xd_journal.specs.declared.entry.Ids.TheVariants as ids
use Rattle.xd_journal.specs.declared.entry.RunStop.{RunStop}
use Rattle.xd_journal.specs.declared.entry.RunStop.TheVariants.{Unequal}
use Rattle.xd_run.specs.declared.member.Listed.{Listed}
use Rattle.xd_run.specs.Collections.{differ_at}
use Rattle.xd_session_books.specs.declared.lists.Comparison.{Comparison}
use Rattle.xd_session_books.specs.declared.lists.Comparison.TheVariants.{First, Same, Differs}

-- how a collection compares with the other worker's, by the first place where they differ, if any
abbrev pub compared : ℕ → Option ℕ → Comparison
compared other None = Same
compared other (Some place) = Differs other place

-- with the collection that it is compared with, where there is one
-- Example: a collection that equals the first one is Same.
abbrev pub comparison : List (List ℕ) → Option Listed → Comparison
comparison own None = First
comparison own (Some l) = compared l.worker (differ_at l.ids own)

-- an equal collection is not listed again
abbrev pub ids_to_list : Comparison → List (List ℕ) → Ids
ids_to_list Same own = ids.Same
ids_to_list First own = ids.List own
ids_to_list (Differs other place) own = ids.List own

-- a collection that differs stops the run
abbrev pub stop_of_comparison : ℕ → Comparison → Option RunStop
stop_of_comparison worker First = None
stop_of_comparison worker Same = None
stop_of_comparison worker (Differs other place) = Some (Unequal worker other place)

-- the place of the collection of the slot, or the count of all
abbrev pub place_in_lists : ℕ → List Listed → ℕ
place_in_lists slot [] = zero
place_in_lists slot (l ∷ ls) = if l.slot == slot then zero else suc (place_in_lists slot ls)
