use Rattle.std.proofs.Common.{◌≡◌, Ok, rules}
use Rattle.xd_value.specs.Canonical.{dumped}
use Rattle.xd_value.specs.View.{view}
use Rattle.xd_value.proofs.Dumped.{dumped_payload}
use Rattle.xd_value.proofs.writing.dumps.Goals as goal

pub returns-clause-payload : goal.returns-clause-payload
unfolding dumped
returns-clause-payload c =
    let is : dumped (view c.args.value.now) ≡ Ok c.from_vec.result = search rules in
    dumped_payload (view c.args.value.now) c.from_vec.result c.in_ok-bytes.ensures.writable is
