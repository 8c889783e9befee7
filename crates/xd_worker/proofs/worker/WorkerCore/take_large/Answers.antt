use Rattle.std.proofs.Common.{ap}
use Rattle.xd_worker.specs.Worker.{worker_turn_of}
use Rattle.xd_worker.specs.History.{HeardInput}
use Rattle.xd_worker.specs.Turns.{NoSuite}
use Rattle.xd_worker.proofs.Standing.{counts_at}
use Rattle.xd_worker.proofs.worker.WorkerCore.take_large.Goals as goal

pub returns : goal.returns
returns c = λ w h l.
    let came : HeardInput = record { came = NoSuite c.in_ok-text.text; channels = c.channels-channels.result } in
    let counts = counts_at c.args.self.now.side c.args.acts.now.say w c.channels-channels.result h.talk_is c.channels-channels.ensures in
    record { heard = came; is = ap NoSuite c.in_ok-text.ensures; counts = counts; stands = c.in_ok-refuse_owed.ensures (worker_turn_of w) h (l came counts) }
