-- The collections that are compared: each with the first one of the run, in mode each with the first one of its slot.
-- pytest-xdist's `report_collection_diff`.
use Rattle.std.specs.Prelude.{ℕ, suc, ◌==◌, List, [], ◌∷◌, ◌++◌, Option, Some, None, if◌then◌else◌}
use Rattle.std.specs.Str.{bytes_eq}
use Rattle.xd_journal.specs.declared.entry.Ids.{Ids}
use Rattle.xd_journal.specs.declared.entry.Ids.TheVariants as ids
use Rattle.xd_journal.specs.declared.entry.RunStop.{RunStop}
use Rattle.xd_journal.specs.declared.entry.RunStop.TheVariants.{Unequal}
use Rattle.xd_run.specs.declared.member.Listed.{Listed}
use Rattle.xd_run.specs.Books.{Books}
use Rattle.xd_run.specs.Plan.{is_each}
use Rattle.xd_run.specs.Workers.{slot_of}

-- under which slot the worker's collection is kept
abbrev pub key : ℕ → Books → ℕ
key worker b = if is_each b.settings.mode then slot_of worker b else 0

-- the collection that is kept under the slot, where there is one
abbrev pub listed_in : ℕ → List Listed → Option Listed
listed_in slot [] = None
listed_in slot (l ∷ ls) = if l.slot == slot then Some l else listed_in slot ls

-- the collection with which the worker's is compared, where it stands
abbrev pub listed : ℕ → Books → Option Listed
listed worker b = listed_in (key worker b) b.lists

-- the first place where the lists differ, from 0, where they do; the shorter length where one begins the other
-- Example: a, b, c, d, e and a, b, c, d, f differ at place 4.
abbrev pub differ_at : List (List ℕ) → List (List ℕ) → Option ℕ
differ_at [] [] = None
differ_at [] (y ∷ ys) = Some 0
differ_at (x ∷ xs) [] = Some 0
differ_at (x ∷ xs) (y ∷ ys) = if bytes_eq x y then (elim (differ_at xs ys) [ None ↦ None | Some n ↦ Some (suc n) ]) else Some 0

-- the stop of a collection that differs
abbrev pub unequal : ℕ → Ids → Option Listed → Option RunStop
unequal worker given None = None
unequal worker ids.Same (Some l) = None
unequal worker (ids.List own) (Some l) = elim (differ_at l.ids own) [ None ↦ None | Some place ↦ Some (Unequal worker l.worker place) ]

-- the ids that a collection gives of its own; none where it is marked as equal to the one it is compared with
abbrev pub ids_of : Ids → List (List ℕ)
ids_of ids.Same = []
ids_of (ids.List own) = own

-- the collections with this one, where none stood
abbrev pub lists_with : Option Listed → Listed → List Listed → List Listed
lists_with None l ls = ls ++ l ∷ []
lists_with (Some first) l ls = ls

-- the books with the worker's collection, which is kept where it is the first under its slot
abbrev pub with_list : ℕ → Ids → Books → Books
with_list worker given b = record b { lists = lists_with (listed worker b) (record { slot = key worker b; worker = worker; ids = ids_of given }) b.lists }
