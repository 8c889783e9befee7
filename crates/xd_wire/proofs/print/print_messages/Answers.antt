use Rattle.std.proofs.Common.{Bool, Result, Ok, subst}
use Rattle.xd_edge.specs.declared.refusals.Failed.{Failed}
use Rattle.xd_wire.specs.inner.Lines.{texts_at}
use Rattle.xd_wire.specs.Printing.{Leaves}
use Rattle.xd_wire.proofs.PrintLemmas.{has_text}
use Rattle.xd_wire.proofs.print.print_messages.Goals as goal

pub returns-clause-text : goal.returns-clause-text
returns-clause-text g c =
    rw c.end_with.ensures (has_text c.args.bytes.now c.in-Ok.faulty _ _
    (subst (λ (w : Result Bool Failed). Leaves (Ok w) (texts_at c.args.bytes.now 0) (g.O.Sink.sunk c.args.out.now) (g.O.Sink.sunk c.write_lines.new.out)) c.in-Ok.is c.in_ok-written.ensures.leaves))
