use Rattle.std.proofs.lemmas.Result.{err_from_is_err_and}
use Rattle.xd_frame.proofs.Written.{header_part, payload_part}
use Rattle.xd_frame.proofs.writing.write_frame.Goals as goal

pub returns-in_err-write_all-clause-part : goal.returns-in_err-write_all-clause-part
returns-in_err-write_all-clause-part g c =
    let failed = err_from_is_err_and c.from_residual.result c.from_residual.ensures.1 in
    rw (failed.1) (header_part _ c.args.message.now _ _ c.header_of.ensures c.in_err-write_all.ensures.part)

pub returns-in_err-write_all-2-clause-part : goal.returns-in_err-write_all-2-clause-part
returns-in_err-write_all-2-clause-part g c =
    let failed = err_from_is_err_and c.from_residual-in_err-write_all-2.result c.from_residual-in_err-write_all-2.ensures.1 in
    rw (failed.1) (payload_part _ _ c.args.message.now _ _ _ c.header_of.ensures (let a = c.as_slice.ensures in let b = c.message.view_is in cc) c.in_ok-write_all.ensures.ok c.in_err-write_all-2.ensures.part)
