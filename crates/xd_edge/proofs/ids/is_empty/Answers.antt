use Rattle.std.proofs.Common.{◌∙◌}
use Rattle.xd_edge.proofs.TextLemmas.{length-chars-0}
use Rattle.xd_edge.proofs.ids.is_empty.Goals as goal

pub returns : goal.returns
returns c = c.is_empty.ensures ∙ length-chars-0 c.args.text.now c.utf8.text
