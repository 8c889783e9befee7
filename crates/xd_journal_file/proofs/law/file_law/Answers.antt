use Rattle.std.proofs.Common.{sym, ◌∙◌}
use Rattle.xd_journal_file.proofs.Files.{one_bad, one_journal}
use Rattle.xd_journal_file.proofs.law.file_law.Goals as goal

pub returns-clause-one : goal.returns-clause-one
returns-clause-one c = one_journal

pub returns-clause-same : goal.returns-clause-same
returns-clause-same c = λ j a b h k. h.whole ∙ sym k.whole

pub returns-clause-first : goal.returns-clause-first
returns-clause-first c = one_bad
