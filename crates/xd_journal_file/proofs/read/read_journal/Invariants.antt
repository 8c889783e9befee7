use Rattle.std.proofs.Common.{length}
use Rattle.xd_journal_file.specs.FileOf.{BeginsFile}
use Rattle.xd_journal_file.proofs.read.read_journal.Given as goal

-- the entries so far were read, and the rest follows them
abbrev pub invariant-messages : goal.invariant-messages
invariant-messages l = BeginsFile l.journal.settings l.journal.entries.items l.bytes l.rest

abbrev pub decreases-messages : goal.decreases-messages
decreases-messages l = length l.rest
