use Rattle.std.proofs.Common.{◌∙◌}
use Rattle.xd_reader.proofs.Listening.{goes_on, puts_stopped}
use Rattle.xd_reader.proofs.reading.read_messages.Goals as goal

pub returns-in-Some-read_next-clause-puts : goal.returns-in-Some-read_next-clause-puts
returns-in-Some-read_next-clause-puts g c =
    let f = c.loop.invariant.so_far in
    puts_stopped c.in-Some-read_next.stop c.loop.framer c.read_next.new.framer _ _ _ _ _ _ f (c.in-Some-read_next.ensures.steps f.bytes f.put f.listens)

pub loop-preserved : goal.loop-preserved
loop-preserved g c =
    let f = c.loop.invariant.so_far in
    record {
      so_far = goes_on c.read_next.result c.loop.framer c.read_next.new.framer _ _ _ _ _ _ c.in_default.not-Some f (c.read_next.ensures.steps f.bytes f.put f.listens);
      none_waits = c.read_next.ensures.none_waits;
      ring = c.read_next.ensures.ring ∙ c.loop.invariant.ring;
    }
