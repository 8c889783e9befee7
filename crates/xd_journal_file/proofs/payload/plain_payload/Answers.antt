use Rattle.xd_journal_file.proofs.Plain.{written, not_written}
use Rattle.xd_journal_file.proofs.payload.plain_payload.Goals as goal

pub returns-in-Ok : goal.returns-in-Ok
returns-in-Ok c = (let e = c.in-Ok.ensures in written _ _ c.requires e.dumped e.payload)

pub returns-in_default : goal.returns-in_default
returns-in_default c = (let e = c.in-Err.ensures in not_written _ c.in-Err.fault c.requires c.in_default.not-OutOfMemory e.dumped)
