use Rattle.std.proofs.Common.{refl}
use Rattle.xd_worker.specs.Worker.{worker_turn_of}
use Rattle.xd_worker.specs.History.{HeardInput}
use Rattle.xd_worker.specs.Turns.{ChildEnded}
use Rattle.xd_worker.proofs.Standing.{counts_at}
use Rattle.xd_worker.proofs.worker.WorkerCore.take_end.Goals as goal

pub returns : goal.returns
returns c = λ w h l.
    let came : HeardInput = record { came = ChildEnded c.args.outcome c.args.ms; channels = c.channels-channels.result } in
    let counts = counts_at c.args.self.now.side c.args.acts.now.say w c.channels-channels.result h.talk_is c.channels-channels.ensures in
    record { heard = came; is = refl; counts = counts; stands = c.in_ok-feed.ensures (worker_turn_of w) h (l came counts) }
