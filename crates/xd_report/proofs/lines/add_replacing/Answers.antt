use Rattle.std.specs.Prelude.{codes, ◌∷◌, []}
use Rattle.xd_report_phrases.specs.Names.{name}
use Rattle.xd_report_phrases.proofs.Pieces.{three_more}
use Rattle.xd_report.proofs.lines.add_replacing.Goals as goal

pub returns-in_ok-add-in-Some : goal.returns-in_ok-add-in-Some
returns-in_ok-add-in-Some c = rw c.in-Some.is (three_more c.args.out.now.items (codes "replacing crashed worker ") (name c.args.mode c.in-Some.old) (10 ∷ []) _ _ _ c.in_ok-add_text-in-Some.ensures c.in_ok-add_name-in-Some.ensures c.in_ok-add-in-Some.ensures)
