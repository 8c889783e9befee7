use Rattle.std.proofs.Common.{[], ◌∷◌, ◌∙◌}
use Rattle.std.proofs.lemmas.List.{append-nil}
use Rattle.xd_journal.specs.declared.entry.Entry.TheVariants.{Over}
use Rattle.xd_journal.specs.Local.{local_entries}
use Rattle.xd_run.specs.State.{no_one}
use Rattle.xd_report.specs.Lines.{run_lines}
use Rattle.xd_report.proofs.LocalLines.{local-lines}
use Rattle.xd_report.proofs.Texts.{lines-more}
use Rattle.xd_report.proofs.laws.local_law.Goals as goal

pub returns-clause-so_far : goal.returns-clause-so_far
returns-clause-so_far c = λ settings ids rs local few. local-lines settings ids rs local few

pub returns-clause-ended : goal.returns-clause-ended
returns-clause-ended c = λ settings ids rs how local few.
    lines-more (no_one settings) (local_entries ids rs) (Over how ∷ []) ∙ append-nil (run_lines settings (local_entries ids rs)) ∙ local-lines settings ids rs local few
