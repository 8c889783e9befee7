use Rattle.std.proofs.Math.Logic.{∥∥₁_map, ∥∥₁_map₂}
use Rattle.xd_link.specs.Spring.{spring}
use Rattle.xd_links.specs.Runs.{news_of}
use Rattle.xd_post.specs.Mails.{mails}
use Rattle.xd_group_peer.specs.PeerView.{pages_of}
use Rattle.xd_group.proofs.EndFacts.{late_ended, source_late}
use Rattle.xd_group.proofs.Ending.{late_closed, ran_at}
use Rattle.xd_group.proofs.group.Group.close.Goals as goal

pub leave_at-sink-requires : goal.leave_at-sink-requires
leave_at-sink-requires g c =
    let late = c.requires.late in
    record { known = late_ended late.0 (news_of (mails c.args.links.now.desk)) c.args.peers.now.items c.args.number c.requires.ended late.1; ended = c.requires.ended }

pub close-source-requires : goal.close-source-requires
close-source-requires g c =
    let links = c.args.links.now in
    let there = c.leave_at-sink.ensures.ends in
    let late = c.requires.late in
    source_late g.C.Crew.job_of late.0 (mails links.desk) links.handles.items (pages_of c.args.peers.now.items) c.args.number there.0 links.rings there.1 late.1

pub returns-clause-ran : goal.returns-clause-ran
returns-clause-ran g c first late =
    let there = c.leave_at-sink.ensures.ends in
    let source = c.close-source.result in
    ∥∥₁_map₂ late there.2
    (λ l e. ran_at first (news_of (mails c.args.links.now.desk)) (pages_of c.args.peers.now.items) c.args.number there.0 (spring (g.S.Source.supply source) (g.S.Source.is_ended source) (g.S.Source.faults source)) _ _ there.1 c.close-source.ensures.run e l)

pub returns-clause-late : goal.returns-clause-late
returns-clause-late g c first late =
    ∥∥₁_map late (λ l. late_closed first (news_of (mails c.args.links.now.desk)) _ (pages_of c.args.peers.now.items) _ c.args.number c.close-source.ensures.news c.leave_at-sink.ensures.gone l)

pub returns-clause-others : goal.returns-clause-others
returns-clause-others g c = (c.leave_at-sink.ensures.others, c.leave_at-sink.ensures.ended)
