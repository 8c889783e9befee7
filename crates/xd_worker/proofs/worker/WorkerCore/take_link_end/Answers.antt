use Rattle.std.proofs.Common.{refl, ap}
use Rattle.xd_factory.specs.SideTable.{ChannelTable, lost}
use Rattle.xd_worker.specs.Talk.{Talk}
use Rattle.xd_worker.specs.Worker.{worker_turn_of}
use Rattle.xd_worker.specs.History.{HeardInput}
use Rattle.xd_worker.specs.Turns.{LinkEnded, at_talk}
use Rattle.xd_worker.proofs.Standing.{lost_counts, spoke}
use Rattle.xd_worker.proofs.worker.WorkerCore.take_link_end.Goals as goal

pub returns : goal.returns
returns c = λ w h l.
    let f : Talk → Talk = λ d. record d { table = lost d.table } in
    let say = c.args.acts.now.say in
    let came : HeardInput = record { came = LinkEnded; channels = c.channels-channels.result } in
    let counts = lost_counts c.lose.new.side c.args.self.now.side say w c.channels-channels.result h.talk_is c.in_ok-lose.ensures c.channels-channels.ensures in
    record {
      heard = came;
      is = refl;
      counts = counts;
      stands = c.in_ok-stop.ensures (at_talk f (worker_turn_of w))
          (spoke c.args.self.now c.lose.new.side c.args.acts.now say (worker_turn_of w) f (ap (λ (x : ChannelTable). record { table = x; says = say }) c.in_ok-lose.ensures) h)
          (l came counts);
    }
