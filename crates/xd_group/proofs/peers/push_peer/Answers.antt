use Rattle.std.proofs.Common.{◌≡◌, ◌∷◌, ◌++◌, [], Some, rules}
use Rattle.xd_group.proofs.LossFacts.{lost_more}
use Rattle.xd_group.proofs.peers.push_peer.Goals as goal

pub returns-clause-lost : goal.returns-clause-lost
returns-clause-lost g c =
    let is : c.push_reserved.new.self.items ≡ c.args.peers.now.items ++ Some c.in_ok-peer.peer ∷ [] = search rules in
    lost_more c.args.peers.now.items c.push_reserved.new.self.items (Some c.in_ok-peer.peer) is
