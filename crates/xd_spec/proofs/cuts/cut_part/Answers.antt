use Rattle.xd_spec.proofs.Splits.{cut_part_is}
use Rattle.xd_spec.proofs.cuts.cut_part.Goals as goal

pub returns-clause-parts : goal.returns-clause-parts
returns-clause-parts c = cut_part_is c.args.text.now c.split_once.result c.split_once.ensures.cases
