use Rattle.xd_frame.proofs.Written.{next_print}
use Rattle.xd_worker_serve.proofs.speaker.Speaker.say.Goals as goal

pub returns-then-not-self-clause-writes : goal.returns-then-not-self-clause-writes
returns-then-not-self-clause-writes g c = next_print c.print_frames.result c.args.self.now.is_broken c.is_err-self.result _ _ _ c.if-not-self.true c.is_err-self.ensures.value c.print_frames.ensures.ok c.print_frames.ensures.part
