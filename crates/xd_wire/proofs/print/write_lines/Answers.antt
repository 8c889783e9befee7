use Rattle.std.proofs.Common.{List, ℕ, length, sym, subst, ◌∙◌}
use Rattle.std.proofs.lemmas.Result.{err_from_is_err_and}
use Rattle.xd_edge.specs.Sink.{Took, TookPart}
use Rattle.xd_wire.specs.declared.step.Then.{Then}
use Rattle.xd_wire.specs.inner.Lines.{BeginsAfter, texts_at, texts_after}
use Rattle.xd_wire.specs.Printing.{TookUpTo}
use Rattle.xd_wire.proofs.PrintLemmas.{up_to_next, up_to_part, up_to_stop, was_ok, when_err, when_ok}
use Rattle.xd_wire.proofs.print.write_lines.Goals as goal

pub returns-in_err-then-clause-leaves : goal.returns-in_err-then-clause-leaves
returns-in_err-then-clause-leaves g c =
    let p = err_from_is_err_and c.from_residual.result c.from_residual.ensures.1 in rw p.1 (up_to_stop _ _ _ _ c.lines.invariant.took)

pub returns-then-is_err-clause-leaves : goal.returns-then-is_err-clause-leaves
returns-then-is_err-clause-leaves g c =
    up_to_part _ _ _ _ _ _ _ c.lines.invariant.took c.in_ok-then.ensures.step
    (subst (λ (l : List ℕ). TookPart l (g.O.Sink.sunk c.lines.out) (g.O.Sink.sunk c.write_all.new.sink)) c.as_bytes.ensures.value
    (when_err c.write_all.result _ (sym c.is_err.ensures.value ∙ c.if-is_err.true) c.write_all.ensures.part))

pub lines-preserved : goal.lines-preserved
lines-preserved g c =
    let preceding = subst (BeginsAfter c.lines.at (length c.args.bytes.now)) c.in-At.is c.in_ok-then.ensures.preceding in
    record {
      within = preceding.1;
      took = subst (λ (t : Then). TookUpTo (texts_at c.args.bytes.now 0) (texts_after c.args.bytes.now t) (g.O.Sink.sunk c.args.out.now) (g.O.Sink.sunk c.write_all.new.sink)) c.in-At.is
          (up_to_next _ _ _ _ _ _ _ c.lines.invariant.took c.in_ok-then.ensures.step
          (subst (λ (l : List ℕ). Took l (g.O.Sink.sunk c.lines.out) (g.O.Sink.sunk c.write_all.new.sink)) c.as_bytes.ensures.value
          (when_ok c.write_all.result _ (sym c.is_err.ensures.value ∙ c.if-is_err.false) c.write_all.ensures.ok)));
      still = c.write_all.ensures.counted.still (was_ok c.write_all.result (sym c.is_err.ensures.value ∙ c.if-is_err.false)) ∙ c.lines.invariant.still;
    }

pub returns-in-End-clause-leaves : goal.returns-in-End-clause-leaves
returns-in-End-clause-leaves g c =
    subst (λ (t : Then). TookUpTo (texts_at c.args.bytes.now 0) (texts_after c.args.bytes.now t) (g.O.Sink.sunk c.args.out.now) (g.O.Sink.sunk c.write_all.new.sink)) c.in-End.is
    (up_to_next _ _ _ _ _ _ _ c.lines.invariant.took c.in_ok-then.ensures.step
    (subst (λ (l : List ℕ). Took l (g.O.Sink.sunk c.lines.out) (g.O.Sink.sunk c.write_all.new.sink)) c.as_bytes.ensures.value
    (when_ok c.write_all.result _ (sym c.is_err.ensures.value ∙ c.if-is_err.false) c.write_all.ensures.ok)))
