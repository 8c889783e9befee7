use Rattle.std.proofs.Common.{◌≤◌, ◌<◌, ap, length, refl, rules, sym, ◌∙◌}
use Rattle.std.proofs.lemmas.Option.{slice_get_read}
use Rattle.xd_group_peer.specs.PeerView.{is_ended_at, is_lost_at, page_by}
use Rattle.xd_group.proofs.LossFacts.{flag_kept, flag_none, flag_past, flag_there, lost_left}
use Rattle.xd_group.proofs.PageFacts.{late_peer, peer_gone, peer_page}
use Rattle.xd_group.proofs.peers.leave_at.Goals as goal

pub unreachable-requires : goal.unreachable-requires
unreachable-requires g c =
    let xs = c.args.peers.now.items in
    let past : length xs ≤ c.args.at = search rules in
    flag_past is_ended_at xs c.args.at past c.requires.ended

pub unreachable-requires-in-None : goal.unreachable-requires-in-None
unreachable-requires-in-None g c = flag_none is_ended_at c.args.peers.now.items c.args.at c.index_mut.result.now refl c.index_mut.ensures.value c.requires.ended (sym c.take.ensures.value ∙ c.in-None.is)

pub leave-requires : goal.leave-requires
leave-requires g c =
    let xs = c.args.peers.now.items in
    let was = c.index_mut.result.now in
    let is = sym c.take.ensures.value ∙ c.in-Some.is in
    record {
      known = late_peer xs c.args.at was c.in-Some.peer c.index_mut.ensures.value is c.requires.known;
      ended = sym (ap is_ended_at is) ∙ flag_there is_ended_at xs c.args.at was c.index_mut.ensures.value c.requires.ended;
    }

pub returns-clause-ends : goal.returns-clause-ends
returns-clause-ends g c =
    let xs = c.args.peers.now.items in
    let was = c.index_mut.result.now in
    let within : c.args.at < length xs = search rules in
    (page_by c.in-Some.peer, peer_page xs c.args.at was c.in-Some.peer (sym c.take.ensures.value ∙ c.in-Some.is) (slice_get_read xs (length xs) c.args.at was refl within c.index_mut.ensures.value), c.leave.ensures.ends)

pub returns-clause-gone : goal.returns-clause-gone
returns-clause-gone g c = peer_gone c.args.peers.now.items c.args.at c.take.new.self c.take.ensures.after

pub returns-clause-lost : goal.returns-clause-lost
returns-clause-lost g c =
    lost_left _ c.args.peers.now.items c.args.at c.index_mut.result.now c.in-Some.peer c.index_mut.ensures.value (sym c.take.ensures.value ∙ c.in-Some.is) c.leave.ensures.lost

pub returns-clause-others : goal.returns-clause-others
returns-clause-others g c = λ k h e. flag_kept is_lost_at c.args.peers.now.items c.args.at k c.take.new.self h e

pub returns-clause-ended : goal.returns-clause-ended
returns-clause-ended g c = λ k h e. flag_kept is_ended_at c.args.peers.now.items c.args.at k c.take.new.self h e
