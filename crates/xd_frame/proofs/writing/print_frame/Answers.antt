use Rattle.std.proofs.Common.{◌∙◌}
use Rattle.std.proofs.lemmas.Result.{err_from_is_err_and}
use Rattle.xd_edge.proofs.SinkLemmas.{took_is_part}
use Rattle.xd_frame.proofs.writing.print_frame.Goals as goal

pub returns-in_err-write_frame-clause-part : goal.returns-in_err-write_frame-clause-part
returns-in_err-write_frame-clause-part g c =
    let failed = err_from_is_err_and c.from_residual.result c.from_residual.ensures.1 in
    rw (failed.1) (c.in_err-write_frame.ensures.part)

pub returns-in_err-flush-clause-part : goal.returns-in_err-flush-clause-part
returns-in_err-flush-clause-part g c =
    let failed = err_from_is_err_and c.from_residual-in_err-flush.result c.from_residual-in_err-flush.ensures.1 in
    rw (failed.1) (took_is_part _ _ _ (c.in_err-flush.ensures.kept ∙ c.in_ok-write_frame.ensures.ok))
