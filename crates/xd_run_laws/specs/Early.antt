-- The start of a journal: what stands before the first collection.
use Rattle.std.specs.Prelude.{Bool, true, false, List}
use Rattle.std.specs.List.{list_any}
use Rattle.xd_journal.specs.declared.entry.Entry.{Entry}
use Rattle.xd_journal.specs.declared.entry.Entry.TheVariants.{Collected}

-- the entry is a worker's collection
abbrev pub is_collection : Entry → Bool
is_collection (Collected worker given) = true
is_collection _ = false

-- a collection stands among these entries
abbrev pub has_collection : List Entry → Bool
has_collection es = list_any is_collection es
