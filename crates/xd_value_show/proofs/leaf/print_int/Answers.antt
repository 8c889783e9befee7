use Rattle.xd_value_show.proofs.Prints.{all_ascii}
use Rattle.xd_value_show.proofs.leaf.print_int.Goals as goal

pub put-requires : goal.put-requires
put-requires c = all_ascii c.format.result.now c.format.ensures.ascii
