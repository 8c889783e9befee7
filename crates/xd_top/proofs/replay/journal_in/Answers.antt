use Rattle.std.proofs.Common.{◌≡◌, Err, ap, subst, ◌∙◌}
use Rattle.xd_journal_file.specs.FileOf.{IsBadAt, IsFileOf}
use Rattle.xd_replay.specs.Verdict.{IsVerdict}
use Rattle.xd_replay.specs.declared.checking.Verdict.{Verdict}
use Rattle.xd_top.proofs.replay.journal_in.Goals as goal

pub returns-in-Err-Bad : goal.returns-in-Err-Bad
returns-in-Err-Bad c =
    let same : c.as_slice.result.now ≡ c.args.bytes = (let a = c.as_slice.ensures in let b = c.bytes.view_is in cc) in
    rw (c.in-Err-Bad.field-0-is) (subst (IsBadAt c.in-Err-Bad.number) same (c.read_journal.ensures.bad c.in-Err-Bad.number (c.in-Err-Bad.is ∙ ap Err c.in-Err-Bad.field-0-is)))

pub returns : goal.returns
returns c =
    let same : c.as_slice.result.now ≡ c.args.bytes = (let a = c.as_slice.ensures in let b = c.bytes.view_is in cc) in
    (c.in-Ok.journal, subst (IsFileOf c.in-Ok.journal) same c.in-Ok.ensures.file, subst (λ (v : Verdict). IsVerdict v c.in-Ok.journal) c.in-BadAt.is c.in_ok-check.ensures)
