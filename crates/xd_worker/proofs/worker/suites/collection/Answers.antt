use Rattle.xd_worker.proofs.Standing.{refused_input}
use Rattle.xd_worker.proofs.worker.suites.collection.Goals as goal

pub returns-in_ok-text-clause-input : goal.returns-in_ok-text-clause-input
returns-in_ok-text-clause-input c = refused_input c.in_ok-written.written c.args.ids c.in_ok-text.text c.in_ok-written.ensures c.if-written.false c.in_ok-text.ensures
