use Rattle.xd_worker.proofs.Standing.{fed_by}
use Rattle.xd_worker.proofs.tests_call.TestsCall.feed.Goals as goal

pub returns : goal.returns
returns c = λ s h.
    fed_by c.args.self.now c.step.new.self s c.args.input c.has_room-room.result c.args.channels c.in_ok-acts.acts h (c.has_room-room.ensures s c.args.input h)
    (c.in_ok-acts.ensures.history s.given h.follows) (c.in_ok-acts.ensures.asks s.given h.follows) (c.in_ok-acts.ensures.run s.given h.follows)
