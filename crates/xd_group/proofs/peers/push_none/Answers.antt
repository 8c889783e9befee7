use Rattle.std.proofs.Common.{◌≡◌, ◌∷◌, ◌++◌, [], None, rules}
use Rattle.xd_group.proofs.LossFacts.{lost_more}
use Rattle.xd_group.proofs.peers.push_none.Goals as goal

pub returns-clause-lost : goal.returns-clause-lost
returns-clause-lost g c =
    let is : c.push.new.self.items ≡ c.args.peers.now.items ++ None ∷ [] = search rules in
    lost_more c.args.peers.now.items c.push.new.self.items None is
