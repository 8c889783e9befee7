-- The file of a journal: a message for its settings, and one for each entry, each CHANNEL_DATA on channel 1 as execnet
-- sends an item. A choice of this project.
use Rattle.std.specs.Prelude.{ℕ, zero, suc, ◌≡◌, ◌<◌, ◌≤◌, List, ◌∷◌, ◌++◌, map, length}
use Rattle.std.specs.List.{AllByRecursion}
use Rattle.xd_value.specs.Tree.{Tree}
use Rattle.xd_value.specs.Canonical.{canonical}
use Rattle.xd_value.specs.Payload.{IsPayload}
use Rattle.xd_frame.specs.declared.kind.Kind.TheVariants.{Item}
use Rattle.xd_frame.specs.Message.{MessageView, max_payload, frames}
use Rattle.xd_journal.specs.declared.entry.Entry.{Entry}
use Rattle.xd_journal.specs.declared.journal.Journal.{Journal}
use Rattle.xd_journal.specs.declared.settings.Settings.{Settings}
use Rattle.xd_journal_file.specs.Written.{entry_tree, settings_tree}
use Rattle.xd_journal_file.specs.Sizes.{IsSizedEntry, AreSizedSettings}

-- the item on channel 1 with this payload
abbrev pub item_with : List ℕ → MessageView
item_with payload = record { kind = Item; channel = 1; payload = payload }

-- the message of a value, with its canonical payload
-- Example: that of `("ready", 0)` has the payload `N 00000005 ready F 00000000 @ 00000002 Q`.
abbrev pub message_of_value : Tree → MessageView
message_of_value t = item_with (canonical t)

-- a message holds the value: its canonical payload is read as it, and is short enough
pub record FitsMessage (t : Tree) : Type 0 where
  pub payload : IsPayload t (canonical t)
  pub short : length (canonical t) ≤ max_payload

-- the settings can stand in a file
pub record AreWritable (s : Settings) : Type 0 where
  pub sized : AreSizedSettings s
  pub fits : FitsMessage (settings_tree s)

-- the entry can stand in a file
pub record IsWritable (e : Entry) : Type 0 where
  pub sized : IsSizedEntry e
  pub fits : FitsMessage (entry_tree e)

-- the messages of settings and entries, in order
abbrev pub journal_messages : Settings → List Entry → List MessageView
journal_messages settings entries = message_of_value (settings_tree settings) ∷ map (λ e. message_of_value (entry_tree e)) entries

-- These bytes begin with the messages of these settings and entries, and go on with these others.
pub record BeginsFile (settings : Settings) (entries : List Entry) (bytes following : List ℕ) : Type 0 where
  pub settings_fit : AreWritable settings
  pub entries_fit : AllByRecursion IsWritable entries
  pub whole : bytes ≡ frames (journal_messages settings entries) ++ following

-- These bytes are the file of this journal.
-- Example: the file of a run of three tests without workers has nine messages: of the settings, of the collection, of
-- three starts and three ends of tests, and of the end.
pub record IsFileOf (j : Journal) (bytes : List ℕ) : Type 0 where
  pub settings_fit : AreWritable j.settings
  pub entries_fit : AllByRecursion IsWritable j.entries.items
  pub whole : bytes ≡ frames (journal_messages j.settings j.entries.items)

-- These bytes begin with this number of messages of the form: one of settings, the others of entries.
abbrev pub HasForm : ℕ → List ℕ → Type 0
HasForm zero bytes = Unit {0}
HasForm (suc n) bytes = (settings : Settings) × (entries : List Entry) × (following : List ℕ) × (n ≡ length entries) × BeginsFile settings entries bytes following

-- The message of this number, counted from 0, is the first that is not there whole, or not of the form; and the bytes are
-- no file of a journal.
-- Example: of an empty file it is 0, and of a file that ends within its third message 2.
pub record IsBadAt (number : ℕ) (bytes : List ℕ) : Type 0 where
  pub before : HasForm number bytes
  pub not_after : HasForm (suc number) bytes → ⊥
  pub no_file : (j : Journal) → IsFileOf j bytes → ⊥

-- The entry of this place, counted from 0, is the first whose payload is too long for a message.
-- Example: a worker's error of 17,000,000 bytes at place 3; each entry before it can stand in a file.
pub record IsTooLongAt (place : ℕ) (entries : List Entry) : Type 0 where
  pub before : List Entry
  pub entry : Entry
  pub after : List Entry
  pub parts : entries ≡ before ++ entry ∷ after
  pub place_is : place ≡ length before
  pub fit : AllByRecursion IsWritable before
  pub long : max_payload < length (canonical (entry_tree entry))
