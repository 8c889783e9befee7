use Rattle.xd_memory.proofs.LinkLemmas.{rest_fresh}
use Rattle.xd_memory.proofs.mem_starter.MemStarter.next_link.Goals as goal

pub invariant_of-self-in-Some-1 : goal.invariant_of-self-in-Some-1
invariant_of-self-in-Some-1 c = record { fresh = rest_fresh c.args.self.now.links.items c.pop_front.new.self.items (c.in-Some.source, c.in-Some.sink) c.in-Some.ensures.items c.args.self.now.fresh }
