-- The journals of proper runs, and that what is told in them is in order.
use Rattle.std.specs.Prelude.{◌≡◌, true, false, List, ◌∷◌, ◌++◌}
use Rattle.xd_journal.specs.declared.entry.Entry.{Entry}
use Rattle.xd_journal.specs.declared.journal.Journal.{Journal}
use Rattle.xd_run.specs.Histories.{after_inputs, after_starts, journal_of}
use Rattle.xd_run.specs.Legal.{EndsWith}
use Rattle.xd_run.specs.Orderly.{is_orderly}
use Rattle.xd_run.specs.Proper.{IsProper}
use Rattle.xd_run.specs.State.{after_entries, is_input, no_one}

-- The journal is the one that proper inputs make, with or without its end.
-- Example: the first starts alone, of inputs that have not come yet.
pub record IsProperJournal (j : Journal) : Type 0 where
  pub inputs : List Entry
  pub proper : IsProper j.settings inputs
  pub last : List Entry
  pub entries : j.entries.items ≡ journal_of j.settings inputs ++ last
  pub ends : EndsWith (after_inputs (after_starts j.settings) inputs).books last

-- Each entry that tells something is in order where it stands: each Start, also the first ones, each order, each
-- Kill.
-- Example: after Start gw0 a second Start gw0 is not in order.
abbrev pub TellsInOrder : Journal → Type 0
TellsInOrder j =
    (before after : List Entry) (e : Entry) → j.entries.items ≡ before ++ e ∷ after → is_input e ≡ false
    → is_orderly (after_entries (no_one j.settings) before) e ≡ true
