use Rattle.std.proofs.Common.{◌≤◌, ◌<◌, length, refl, rules}
use Rattle.std.proofs.lemmas.Option.{slice_get_read}
use Rattle.xd_group.proofs.LossFacts.{lost_set, seats_kept}
use Rattle.xd_group.proofs.PageFacts.{peer_told, told_peer, past_told, none_told, none_of}
use Rattle.xd_group.proofs.peers.tell_at.Goals as goal

pub returns-clause-told : goal.returns-clause-told
returns-clause-told g c p there =
    peer_told c.args.peers.now.items c.args.at c.index_mut.result.now c.in-Some.peer c.tell.new.self c.args.order.now p c.index_mut.ensures.value c.in-Some.is c.in_ok-is_lost.ensures.same c.in_ok-is_lost.ensures.told c.in_ok-is_lost.ensures.said c.in_ok-is_lost.ensures.known there

pub returns-clause-seats : goal.returns-clause-seats
returns-clause-seats g c =
    let xs = c.args.peers.now.items in
    let within : c.args.at < length xs = search rules in
    seats_kept xs c.args.at c.index_mut.result.now c.in-Some.peer c.tell.new.self c.in-Some.is (slice_get_read xs (length xs) c.args.at c.index_mut.result.now refl within c.index_mut.ensures.value)

pub returns-clause-lost : goal.returns-clause-lost
returns-clause-lost g c =
    let xs = c.args.peers.now.items in
    let within : c.args.at < length xs = search rules in
    lost_set xs c.args.at c.index_mut.result.now c.in-Some.peer c.tell.new.self c.in_ok-is_lost.is_lost c.index_mut.ensures.value c.in-Some.is within c.in_ok-is_lost.ensures.keeps c.in_ok-is_lost.ensures.lost

pub unreachable-requires : goal.unreachable-requires
unreachable-requires g c =
    let xs = c.args.peers.now.items in
    let past : length xs ≤ c.args.at = search rules in
    past_told xs c.args.at past c.requires.told

pub unreachable-requires-in_default : goal.unreachable-requires-in_default
unreachable-requires-in_default g c = none_told c.args.peers.now.items c.args.at c.index_mut.result.now c.index_mut.ensures.value (none_of c.index_mut.result.now c.in_default.not-Some) c.requires.told

pub tell-requires-clause-known : goal.tell-requires-clause-known
tell-requires-clause-known g c = (told_peer c.args.peers.now.items c.args.at c.index_mut.result.now c.in-Some.peer c.index_mut.ensures.value c.in-Some.is c.requires.told).0

pub tell-requires-clause-on_time : goal.tell-requires-clause-on_time
tell-requires-clause-on_time g c = (told_peer c.args.peers.now.items c.args.at c.index_mut.result.now c.in-Some.peer c.index_mut.ensures.value c.in-Some.is c.requires.told).1

pub tell-requires-clause-going : goal.tell-requires-clause-going
tell-requires-clause-going g c = (told_peer c.args.peers.now.items c.args.at c.index_mut.result.now c.in-Some.peer c.index_mut.ensures.value c.in-Some.is c.requires.told).2
