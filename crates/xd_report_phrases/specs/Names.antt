-- The words of a report. Those of a result, of a worker and of a mode are pytest-xdist's; those of a test that is tried
-- again, the causes, and that a run without workers has the name `main`, are a choice of this project, but for the first
-- cause.
use Rattle.std.specs.Prelude.{ℕ, ◌==◌, ◌||◌, nat_lt, Bool, true, false, List, [], ◌∷◌, ◌++◌, map, codes, if◌then◌else◌}
use Rattle.std.specs.Fmt.{decimal}
use Rattle.std.specs.Str.{encode_utf8_all}
use Rattle.xd_edge.specs.declared.mode.ModeKind.{ModeKind}
use Rattle.xd_edge.specs.declared.mode.ModeKind.TheVariants.{Local, Each, Load, LoadScope, LoadFile, LoadGroup, WorkSteal}
use Rattle.xd_journal.specs.declared.entry.Cause.{Cause}
use Rattle.xd_journal.specs.declared.entry.Cause.TheVariants.{Ended, Cut, Garbled, ReadFault, SendFault, Breach}
use Rattle.xd_journal.specs.declared.entry.Outcome.{Outcome}
use Rattle.xd_journal.specs.declared.entry.Outcome.TheVariants.{Passed, Skipped, Failed}
use Rattle.xd_journal.specs.Local.{is_local_mode}

-- the text with a newline at its end
abbrev pub line : List ℕ → List ℕ
line text = text ++ 10 ∷ []

-- the name of a worker; a run without workers has only one, which is `main`
unfoldable pub name : ModeKind → ℕ → List ℕ
name mode worker = if is_local_mode mode then codes "main" else (codes "gw" ++ decimal worker)

-- the name in brackets, in front of what is told of a worker
-- Example: `[gw2] `.
unfoldable pub tag : ModeKind → ℕ → List ℕ
tag mode worker = codes "[" ++ (name mode worker ++ codes "] ")

-- a control character is printed as '?'
abbrev pub printable : ℕ → ℕ
printable c = if nat_lt c 32 || (c == 127) then 63 else c

-- a text that came from a worker, in UTF-8
-- Example: an id of a tab and `a` is printed as `?a`.
unfoldable pub plain : List ℕ → List ℕ
plain text = encode_utf8_all (map printable text)

-- the word for how a test went
abbrev pub outcome_text : Outcome → List ℕ
outcome_text Passed = codes "PASSED "
outcome_text Skipped = codes "SKIPPED "
outcome_text (Failed code) = codes "FAILED "

-- of the test at the head of a worker that went down: it is tried again, or it crashed
abbrev pub lost_text : Bool → List ℕ
lost_text true = codes "RETRY "
lost_text false = codes "CRASHED "

-- the word for a mode, as `--dist` takes it; none for a run without workers
abbrev pub mode_text : ModeKind → List ℕ
mode_text Each = codes "each"
mode_text Load = codes "load"
mode_text LoadScope = codes "loadscope"
mode_text LoadFile = codes "loadfile"
mode_text LoadGroup = codes "loadgroup"
mode_text WorkSteal = codes "worksteal"
mode_text Local = []

-- the words for why a worker went down
abbrev pub cause_text : Cause → List ℕ
cause_text Ended = codes "Not properly terminated"
cause_text Cut = codes "message cut short"
cause_text Garbled = codes "bad message"
cause_text ReadFault = codes "read fault"
cause_text SendFault = codes "send fault"
cause_text Breach = codes "rules broken"
