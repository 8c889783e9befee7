use Rattle.std.proofs.Common.{sym, subst, None}
use Rattle.xd_worker_tests.specs.declared.ask.Ask.{Ask}
use Rattle.xd_worker.specs.Talk.{function_ended}
use Rattle.xd_worker.specs.Turns.{asked, at_talk}
use Rattle.xd_worker.specs.Logs.{AllOpen}
use Rattle.xd_worker.specs.Stands.{IsWorkerTurn}
use Rattle.xd_worker.proofs.Standing.{announced, spoke}
use Rattle.xd_worker.proofs.worker.WorkerCore.carry.Goals as goal

pub returns-in_ok-end_function-in-End : goal.returns-in_ok-end_function-in-End
returns-in_ok-end_function-in-End c = λ t h k.
    let f = function_ended c.args.channel c.in-End.text None in
    subst (λ (x : Ask). IsWorkerTurn c.end_service.new.self (record (c.args.acts.now) { say = c.end_function.new.say }) (asked c.args.channel x t)) (sym c.in-End.is)
    (c.end_service.ensures (record (c.args.acts.now) { say = c.end_function.new.say }) (at_talk f t) (spoke c.args.self.now c.end_function.new.side c.args.acts.now c.end_function.new.say t f c.in_ok-end_function-in-End.ensures h))

pub returns-in_ok-announce-in-Tell : goal.returns-in_ok-announce-in-Tell
returns-in_ok-announce-in-Tell c = λ t h k.
    subst (λ (x : Ask). IsWorkerTurn (record (c.args.self.now) { side = c.announce.new.side }) (record (c.args.acts.now) { say = c.announce.new.say }) (asked c.args.channel x t)) (sym c.in-Tell.is)
    (announced c.args.self.now c.announce.new.side c.args.acts.now c.announce.new.say t c.args.channel c.in-Tell.event c.in_ok-announce-in-Tell.ensures h
    (subst (λ (x : Ask). AllOpen (asked c.args.channel x t).logs) c.in-Tell.is k))
