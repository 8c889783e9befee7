use Rattle.std.proofs.Common.{◌≤◌, ◌<◌, length, refl, rules}
use Rattle.std.proofs.lemmas.Option.{slice_get_read}
use Rattle.xd_group.proofs.LossFacts.{lost_kept, seats_kept}
use Rattle.xd_group.proofs.PageFacts.{late_peer, none_late, none_of, past_late, peer_late}
use Rattle.xd_group.proofs.peers.hear_late_at.Goals as goal

pub returns-clause-keeps : goal.returns-clause-keeps
returns-clause-keeps g c = lost_kept c.args.peers.now.items c.args.at c.index_mut.result.now c.in-Some.peer c.hear_late.new.self c.index_mut.ensures.value c.in-Some.is c.in_ok-hear_late.ensures.keeps

pub returns-clause-seats : goal.returns-clause-seats
returns-clause-seats g c =
    let xs = c.args.peers.now.items in
    let within : c.args.at < length xs = search rules in
    seats_kept xs c.args.at c.index_mut.result.now c.in-Some.peer c.hear_late.new.self c.in-Some.is (slice_get_read xs (length xs) c.args.at c.index_mut.result.now refl within c.index_mut.ensures.value)

pub returns-clause-late : goal.returns-clause-late
returns-clause-late g c p there = (
  _,
  peer_late c.args.peers.now.items c.args.at c.index_mut.result.now c.in-Some.peer c.hear_late.new.self c.args.item p c.index_mut.ensures.value c.in-Some.is c.in_ok-hear_late.ensures.same c.in_ok-hear_late.ensures.taken c.in_ok-hear_late.ensures.said c.in_ok-hear_late.ensures.known there,
)

pub unreachable-requires : goal.unreachable-requires
unreachable-requires g c =
    let xs = c.args.peers.now.items in
    let past : length xs ≤ c.args.at = search rules in
    past_late xs c.args.at past c.requires.late

pub unreachable-requires-in_default : goal.unreachable-requires-in_default
unreachable-requires-in_default g c = none_late c.args.peers.now.items c.args.at c.index_mut.result.now c.index_mut.ensures.value (none_of c.index_mut.result.now c.in_default.not-Some) c.requires.late

pub hear_late-requires : goal.hear_late-requires
hear_late-requires g c = record { known = late_peer c.args.peers.now.items c.args.at c.index_mut.result.now c.in-Some.peer c.index_mut.ensures.value c.in-Some.is c.requires.late }
