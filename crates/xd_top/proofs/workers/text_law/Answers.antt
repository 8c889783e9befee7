use Rattle.std.proofs.Common.{◌∙◌, ap, sym}
use Rattle.std.specs.Str.{all_scalars}
use Rattle.std.proofs.lemmas.Str.{scalars-chars}
use Rattle.xd_top.proofs.workers.text_law.Goals as goal

pub returns : goal.returns
returns c = ap all_scalars (sym c.as_str.ensures.characters) ∙ scalars-chars _ c.as_str.utf8
