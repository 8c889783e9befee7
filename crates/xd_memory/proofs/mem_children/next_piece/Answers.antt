use Rattle.std.proofs.Common.{◌≡◌, ℕ, suc, ◌+◌, arith, sym, ap, length, ◌∙◌}
use Rattle.xd_memory.specs.MemChildren.{given_of}
use Rattle.xd_memory.proofs.MemLemmas.{given_next, given_past, piece-index}
use Rattle.xd_memory.proofs.mem_children.next_piece.Goals as goal

pub returns-then-given-as_slice-clause-left : goal.returns-then-given-as_slice-clause-left
returns-then-given-as_slice-clause-left c =
    let same = ap length (c.as_slice.ensures ∙ (c.index-pieces-i.is ∙ piece-index c.args.pieces.now c.loop-i.i c.index-pieces-i.result (omega arith))) in
    λ within. omega (arith, same)

pub loop-i-preserved : goal.loop-i-preserved
loop-i-preserved c =
    let same = ap length (c.as_slice.ensures ∙ (c.index-pieces-i.is ∙ piece-index c.args.pieces.now c.loop-i.i c.index-pieces-i.result (omega arith))) in
    let next : c.loop-i.i + 1 ≡ suc c.loop-i.i = omega arith in
    ap (λ (i : ℕ). given_of c.args.pieces.now i 0) next ∙ (given_next c.args.pieces.now c.loop-i.i c.loop-i.given (omega arith) (omega (arith, same)) ∙ c.loop-i.invariant)

pub returns-clause-same : goal.returns-clause-same
returns-clause-same c =
    given_past c.args.pieces.now (length c.args.pieces.now) 0 (omega arith)
    ∙ sym (given_past c.args.pieces.now c.loop-i.i c.loop-i.given (omega arith))
    ∙ c.loop-i.invariant
