use Rattle.std.proofs.Common.{◌≤◌, ◌<◌, length, refl, rules}
use Rattle.std.proofs.lemmas.Option.{slice_get_read}
use Rattle.xd_group.proofs.LossFacts.{lost_set, seats_kept}
use Rattle.xd_group.proofs.PageFacts.{peer_heard, heard_peer, past_heard, none_heard, none_of}
use Rattle.xd_group.proofs.peers.hear_at.Goals as goal

pub returns-clause-heard : goal.returns-clause-heard
returns-clause-heard g c p there =
    peer_heard c.args.peers.now.items c.args.at c.index_mut.result.now c.in-Some.peer c.hear.new.self c.args.item c.in_ok-heard.heard.what p c.index_mut.ensures.value c.in-Some.is c.in_ok-heard.ensures.same c.in_ok-heard.ensures.taken c.in_ok-heard.ensures.said c.in_ok-heard.ensures.late c.in_ok-heard.ensures.known there

pub returns-clause-seats : goal.returns-clause-seats
returns-clause-seats g c =
    let xs = c.args.peers.now.items in
    let within : c.args.at < length xs = search rules in
    seats_kept xs c.args.at c.index_mut.result.now c.in-Some.peer c.hear.new.self c.in-Some.is (slice_get_read xs (length xs) c.args.at c.index_mut.result.now refl within c.index_mut.ensures.value)

pub returns-clause-lost : goal.returns-clause-lost
returns-clause-lost g c =
    let xs = c.args.peers.now.items in
    let within : c.args.at < length xs = search rules in
    lost_set xs c.args.at c.index_mut.result.now c.in-Some.peer c.hear.new.self c.in_ok-heard.heard.is_cut c.index_mut.ensures.value c.in-Some.is within c.in_ok-heard.ensures.keeps c.in_ok-heard.ensures.lost

pub unreachable-requires : goal.unreachable-requires
unreachable-requires g c =
    let xs = c.args.peers.now.items in
    let past : length xs ≤ c.args.at = search rules in
    past_heard xs c.args.at past c.requires.heard

pub unreachable-requires-in_default : goal.unreachable-requires-in_default
unreachable-requires-in_default g c = none_heard c.args.peers.now.items c.args.at c.index_mut.result.now c.index_mut.ensures.value (none_of c.index_mut.result.now c.in_default.not-Some) c.requires.heard

pub hear-requires-clause-known : goal.hear-requires-clause-known
hear-requires-clause-known g c = (heard_peer c.args.peers.now.items c.args.at c.index_mut.result.now c.in-Some.peer c.index_mut.ensures.value c.in-Some.is c.requires.heard).0

pub hear-requires-clause-on_time : goal.hear-requires-clause-on_time
hear-requires-clause-on_time g c = (heard_peer c.args.peers.now.items c.args.at c.index_mut.result.now c.in-Some.peer c.index_mut.ensures.value c.in-Some.is c.requires.heard).1
