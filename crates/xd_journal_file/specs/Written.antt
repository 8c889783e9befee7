-- A journal's settings and entries as values, as they are written into its file. A choice of this project: neither execnet
-- nor pytest-xdist has such a file; that each stands in a message makes it one that `wire` prints.
use Rattle.std.specs.Prelude.{ℕ, pos, List, [], ◌∷◌, map, Option, Some, None, codes}
use Rattle.xd_edge.specs.declared.mode.ModeKind.{ModeKind}
use Rattle.xd_edge.specs.declared.mode.ModeKind.TheVariants.{Local, Each, Load, LoadScope, LoadFile, LoadGroup, WorkSteal}
use Rattle.xd_value.specs.Tree.{Tree, none, truth, int, bytes, text, list, tuple}
use Rattle.xd_value.specs.View.{trees_of}
use Rattle.xd_journal.specs.declared.settings.Settings.{Settings}
use Rattle.xd_journal.specs.declared.entry.Ids.{Ids}
use Rattle.xd_journal.specs.declared.entry.Ids.TheVariants as ids
use Rattle.xd_journal.specs.declared.entry.Outcome.{Outcome}
use Rattle.xd_journal.specs.declared.entry.Outcome.TheVariants.{Passed, Skipped, Failed}
use Rattle.xd_journal.specs.declared.entry.Cause.{Cause}
use Rattle.xd_journal.specs.declared.entry.Cause.TheVariants as cause
use Rattle.xd_journal.specs.declared.entry.RunStop.{RunStop}
use Rattle.xd_journal.specs.declared.entry.RunStop.TheVariants.{Completed, MaxFail, Restarts, Unequal, CollectError, OutFault}
use Rattle.xd_journal.specs.declared.entry.Entry.{Entry}
use Rattle.xd_journal.specs.declared.entry.Entry.TheVariants.{Ready, Collected, Done, Back, Finished, Refused, Down, NotStarted, Start, Run, RunAll, Steal, Shutdown, Kill, Over}

-- a number
abbrev pub number_tree : ℕ → Tree
number_tree n = int (pos n)

-- a name followed by its fields
-- Example: `("start", 2, 0)`.
abbrev pub named_fields : List ℕ → List Tree → Tree
named_fields name fields = tuple (trees_of (text name ∷ fields))

-- the word of a mode; without workers it is `local`
abbrev pub mode_word : ModeKind → List ℕ
mode_word Local = codes "local"
mode_word Each = codes "each"
mode_word Load = codes "load"
mode_word LoadScope = codes "loadscope"
mode_word LoadFile = codes "loadfile"
mode_word LoadGroup = codes "loadgroup"
mode_word WorkSteal = codes "worksteal"

-- a number that may be absent
abbrev pub optional_tree : Option ℕ → Tree
optional_tree None = none
optional_tree (Some n) = number_tree n

-- the settings, after the name of the form and its version
-- Example: `("xdrun journal", 1, "load", 2, 0, 8, None, True, 0)`.
abbrev pub settings_tree : Settings → Tree
settings_tree s = named_fields (codes "xdrun journal")
    (number_tree 1 ∷ text (mode_word s.mode) ∷ number_tree s.workers ∷ number_tree s.maxfail ∷ number_tree s.restarts ∷ optional_tree s.chunk ∷ truth s.reorder ∷ number_tree s.retries ∷ [])

-- the ids of a collection; None where they are those that it is compared with
abbrev pub ids_tree : Ids → Tree
ids_tree (ids.List own) = list (trees_of (map text own))
ids_tree ids.Same = none

-- the numbers of tests
abbrev pub indices_tree : List ℕ → Tree
indices_tree ns = list (trees_of (map number_tree ns))

-- how a test went: a word, or the code of a failure
abbrev pub outcome_tree : Outcome → Tree
outcome_tree Passed = text (codes "passed")
outcome_tree Skipped = text (codes "skipped")
outcome_tree (Failed code) = int code

-- the word of a cause
abbrev pub cause_word : Cause → List ℕ
cause_word cause.Ended = codes "ended"
cause_word cause.Cut = codes "cut"
cause_word cause.Garbled = codes "garbled"
cause_word cause.ReadFault = codes "readfault"
cause_word cause.SendFault = codes "sendfault"
cause_word cause.Breach = codes "breach"

-- a stop: its name, and its fields
abbrev pub stop_trees : RunStop → List Tree
stop_trees Completed = text (codes "completed") ∷ []
stop_trees (MaxFail count) = text (codes "maxfail") ∷ number_tree count ∷ []
stop_trees (Restarts worker limit) = text (codes "restarts") ∷ number_tree worker ∷ number_tree limit ∷ []
stop_trees (Unequal worker other place) = text (codes "unequal") ∷ number_tree worker ∷ number_tree other ∷ number_tree place ∷ []
stop_trees (CollectError worker) = text (codes "collecterror") ∷ number_tree worker ∷ []
stop_trees OutFault = text (codes "outfault") ∷ []

-- an entry: its name in lower case, and its fields in order
-- Example: `("done", 0, 3, "passed", 12, bytes())` and `("over", "completed")`.
abbrev pub entry_tree : Entry → Tree
entry_tree (Ready w) = named_fields (codes "ready") (number_tree w ∷ [])
entry_tree (Collected w given) = named_fields (codes "collected") (number_tree w ∷ ids_tree given ∷ [])
entry_tree (Done w i o ms b) = named_fields (codes "done") (number_tree w ∷ number_tree i ∷ outcome_tree o ∷ number_tree ms ∷ bytes b ∷ [])
entry_tree (Back w ns) = named_fields (codes "back") (number_tree w ∷ indices_tree ns ∷ [])
entry_tree (Finished w) = named_fields (codes "finished") (number_tree w ∷ [])
entry_tree (Refused w t) = named_fields (codes "refused") (number_tree w ∷ text t ∷ [])
entry_tree (Down w c b) = named_fields (codes "down") (number_tree w ∷ text (cause_word c) ∷ bytes b ∷ [])
entry_tree (NotStarted w) = named_fields (codes "notstarted") (number_tree w ∷ [])
entry_tree (Start w slot) = named_fields (codes "start") (number_tree w ∷ number_tree slot ∷ [])
entry_tree (Run w ns) = named_fields (codes "run") (number_tree w ∷ indices_tree ns ∷ [])
entry_tree (RunAll w) = named_fields (codes "runall") (number_tree w ∷ [])
entry_tree (Steal w ns) = named_fields (codes "steal") (number_tree w ∷ indices_tree ns ∷ [])
entry_tree (Shutdown w) = named_fields (codes "shutdown") (number_tree w ∷ [])
entry_tree (Kill w) = named_fields (codes "kill") (number_tree w ∷ [])
entry_tree (Over how) = named_fields (codes "over") (stop_trees how)
