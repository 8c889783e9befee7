use Rattle.std.specs.Prelude.{codes}
use Rattle.std.specs.Str.{chars}
use Rattle.xd_report_phrases.specs.Names.{name}
use Rattle.xd_report_phrases.specs.StopLine.{refusal_text}
use Rattle.xd_report_phrases.proofs.Pieces.{three_more}
use Rattle.xd_report_phrases.proofs.stop_line.add_refused.Goals as goal

pub returns : goal.returns
returns c = three_more c.args.out.now.items (codes "collection failed on ") (name c.args.mode c.args.worker) (refusal_text (chars c.args.text.now)) _ _ _ c.in_ok-add_text.ensures c.in_ok-add_name.ensures c.in_ok-add_refusal.ensures
