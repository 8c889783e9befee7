use Rattle.std.proofs.Common.{ap, take}
use Rattle.xd_memory.specs.declared.mem_source.MemSource.{MemSource}
use Rattle.xd_memory.proofs.SourceLemmas.{gave_at}
use Rattle.xd_memory.proofs.mem_source.MemSourceSource.read.Goals as goal

pub returns-clause-gave : goal.returns-clause-gave
returns-clause-gave g c =
    gave_at _ c.args.self.now.bytes c.as_slice.result.now _ c.args.self.now.given c.give-n.result (take c.give-n.result c.give-n.new.into)
    (ap (λ (s : MemSource). s.bytes) c.self.view_is) (ap (λ (s : MemSource). s.given) c.self.view_is) c.as_slice.ensures c.give-n.ensures.bytes c.give-n.ensures.within
