use Rattle.std.proofs.Common.{ℕ, List, arith, ap, take, drop, length, ◌++◌, ◌∙◌}
use Rattle.xd_memory.proofs.MemLemmas.{given_copied, given_past, piece-index, some_left}
use Rattle.xd_memory.proofs.mem_children.give.Goals as goal

pub returns-then-piece-pieces-clause-end : goal.returns-then-piece-pieces-clause-end
returns-then-piece-pieces-clause-end c = λ none some. given_past c.args.pieces.now _ _ (omega arith)

pub slice_bounds-left-count : goal.slice_bounds-left-count
slice_bounds-left-count c =
    let within = c.next_piece-piece.ensures.within in
    let same = ap length (c.as_slice.ensures ∙ (c.index-pieces-piece.is ∙ piece-index c.args.pieces.now c.next_piece-piece.result.0 c.index-pieces-piece.result (omega arith))) in
    let left = c.next_piece-piece.ensures.left (omega arith) in
    omega (arith, same, left)

pub slice_bounds-left-start : goal.slice_bounds-left-start
slice_bounds-left-start c =
    let within = c.next_piece-piece.ensures.within in
    let same = ap length (c.as_slice.ensures ∙ (c.index-pieces-piece.is ∙ piece-index c.args.pieces.now c.next_piece-piece.result.0 c.index-pieces-piece.result (omega arith))) in
    let left = c.next_piece-piece.ensures.left (omega arith) in
    omega (arith, same, left)

pub returns-clause-gave : goal.returns-clause-gave
returns-clause-gave c =
    let within = c.next_piece-piece.ensures.within in
    let ps = c.args.pieces.now in
    let i = c.next_piece-piece.result.0 in
    let whole = c.as_slice.ensures ∙ (c.index-pieces-piece.is ∙ piece-index ps i c.index-pieces-piece.result (omega arith)) in
    let same = ap length whole in
    let left = c.next_piece-piece.ensures.left (omega arith) in
    given_copied ps i c.next_piece-piece.result.1 c.min-n.result c.as_slice.result.now c.args.into.now c.copy_from_slice.new.self (omega arith) whole (omega (arith, same, left)) c.min-n.ensures c.copy_from_slice.ensures.after
    ∙ ap (λ (l : List ℕ). l ++ take c.min-n.result (c.copy_from_slice.new.self ++ drop c.min-n.result c.args.into.now)) c.next_piece-piece.ensures.same

pub returns-clause-end : goal.returns-clause-end
returns-clause-end c = λ none some.
    let within = c.next_piece-piece.ensures.within in
    let ps = c.args.pieces.now in
    let i = c.next_piece-piece.result.0 in
    let whole = c.as_slice.ensures ∙ (c.index-pieces-piece.is ∙ piece-index ps i c.index-pieces-piece.result (omega arith)) in
    let same = ap length whole in
    let left = c.next_piece-piece.ensures.left (omega arith) in
    absurd (some_left c.next_piece-piece.result.1 c.min-n.result c.as_slice.result.now c.args.into.now (omega (arith, same, left)) c.min-n.ensures none some)
