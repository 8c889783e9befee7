use Rattle.xd_factory.specs.Numbers.{is_known}
use Rattle.xd_factory.proofs.Entries.{here_entries}
use Rattle.xd_factory.proofs.side.Side.status.Goals as goal

pub returns-clause-entries : goal.returns-clause-entries
returns-clause-entries c = λ q. let s = c.args.self.now in here_entries s.ends.entries q (is_known s.parity s.next s.seen q)
