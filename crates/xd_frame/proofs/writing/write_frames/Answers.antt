use Rattle.std.proofs.Common.{take, drop, ◌+◌}
use Rattle.std.proofs.lemmas.Result.{err_from_is_err_and}
use Rattle.xd_frame.proofs.Written.{frames_part, parted}
use Rattle.xd_frame.proofs.writing.write_frames.Goals as goal

pub returns-in_err-write_frame-clause-part : goal.returns-in_err-write_frame-clause-part
returns-in_err-write_frame-clause-part g c =
    let failed = err_from_is_err_and c.from_residual.result c.from_residual.ensures.1 in
    rw (failed.1) (frames_part (take c.loop-message.message-index c.args.messages.now) _ (drop (c.loop-message.message-index + 1) c.args.messages.now) c.args.messages.now _ _ _
    (parted c.args.messages.now c.loop-message.message-index c.message-item.result c.loop-message-test.true c.message-item.is) c.loop-message.invariant.took c.in_err-write_frame.ensures.part)
