use Rattle.std.specs.Prelude.{codes, ◌++◌, ◌∷◌, []}
use Rattle.xd_report_phrases.specs.Names.{name}
use Rattle.xd_report_phrases.specs.StopLine.{disabled_line}
use Rattle.xd_report_phrases.proofs.Pieces.{three_more}
use Rattle.xd_report_phrases.proofs.stop_line.add_disabled.Goals as goal

pub returns : goal.returns
unfolding disabled_line
returns c = three_more c.args.out.now.items (codes "worker ") (name c.args.mode c.args.worker) (codes " crashed and worker restarting disabled" ++ 10 ∷ []) _ _ _ c.in_ok-add_text.ensures c.in_ok-add_name.ensures c.in_ok-add_text-2.ensures
