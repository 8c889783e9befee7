use Rattle.std.proofs.Math.Logic.{∥∥₁_map}
use Rattle.xd_links.specs.Runs.{news_of}
use Rattle.xd_post.specs.Mails.{mails}
use Rattle.xd_group_peer.specs.PeerView.{pages_of}
use Rattle.xd_group.proofs.Ending.{late_heard, late_there}
use Rattle.xd_group.proofs.group.Group.take_late.Goals as goal

pub hear_late_at-requires : goal.hear_late_at-requires
hear_late_at-requires g c =
    let took = c.next-number.ensures.news in
    let late = c.requires.late in
    record { late = ∥∥₁_map late.1 (λ l. late_there late.0 (news_of (mails c.args.links.now.desk)) (pages_of c.args.peers.now.items) c.next-number.result.0 took.0 took.1 l) }

pub returns-clause-late : goal.returns-clause-late
returns-clause-late g c first late =
    let took = c.next-number.ensures.news in
    ∥∥₁_map late
    (λ l. late_heard first (news_of (mails c.args.links.now.desk)) _ (pages_of c.args.peers.now.items) _ c.next-number.result.0 c.next-number.result.1 took.0 took.1 took.2 c.in_ok-hear_late_at.ensures.late l)
