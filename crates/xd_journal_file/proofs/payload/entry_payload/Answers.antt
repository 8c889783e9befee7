use Rattle.std.proofs.Common.{subst, sym}
use Rattle.xd_journal_file.specs.inner.Steps.{IsPlainValue}
use Rattle.xd_journal_file.proofs.Plain.{entry_plain}
use Rattle.xd_journal_file.proofs.payload.entry_payload.Goals as goal

pub plain_payload-requires : goal.plain_payload-requires
plain_payload-requires c = (let e = c.in_ok-value.ensures in subst IsPlainValue (sym e.form) (entry_plain c.args.entry.now))
