use Rattle.std.proofs.Common.{◌≡◌, []}
use Rattle.xd_link.specs.Spring.{spring}
use Rattle.xd_post.specs.Post.{put, ring_of_sender}
use Rattle.xd_reader.proofs.Listening.{SoFar}
use Rattle.xd_reader.proofs.reading.read_messages.Given as goal

abbrev pub invariant-loop : goal.invariant-loop
invariant-loop g l = record {
  so_far : SoFar l.framer (spring (g.S.Source.supply l.fn.source) (g.S.Source.is_ended l.fn.source) (g.S.Source.faults l.fn.source)) (spring (g.S.Source.supply l.source) (g.S.Source.is_ended l.source) (g.S.Source.faults l.source)) (put l.fn.sender) (put l.sender);
  none_waits : l.framer.waiting ≡ [];
  ring : ring_of_sender l.sender ≡ ring_of_sender l.fn.sender;
}
