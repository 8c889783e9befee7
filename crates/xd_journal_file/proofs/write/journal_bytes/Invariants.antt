use Rattle.std.proofs.Common.{[], take}
use Rattle.xd_journal_file.specs.FileOf.{BeginsFile}
use Rattle.xd_journal_file.proofs.write.journal_bytes.Given as goal

-- the bytes are the messages of the settings and of the entries so far
abbrev pub invariant-loop-place : goal.invariant-loop-place
invariant-loop-place l = BeginsFile l.journal.settings (take l.place l.journal.entries.items) l.bytes.items []
