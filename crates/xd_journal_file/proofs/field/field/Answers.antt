use Rattle.xd_journal_file.proofs.Fields.{field_read}
use Rattle.xd_journal_file.proofs.field.field.Goals as goal

pub returns : goal.returns
returns c = field_read c.args.items.now c.args.place c.get.result c.get.ensures.lookup
