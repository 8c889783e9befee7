use Rattle.std.proofs.Common.{◌≡◌, ◌≢◌, length, drop, Some, sym, ◌∙◌, ap, arith}
use Rattle.std.proofs.lemmas.List.{length-drop}
use Rattle.xd_run.proofs.Changed.{end_differs}
use Rattle.xd_books.proofs.listing.place_of_difference.Goals as goal

pub returns-else-first-other : goal.returns-else-first-other
returns-else-first-other c =
    let i = c.loop-i.i in
    let at : c.min-shorter.result ≡ i = omega (arith, c.loop-i-test.false, c.loop-i.auto.i-end) in
    let first-left = length-drop i c.args.first.now in
    let other-left = length-drop i c.args.other.now in
    let ne : length (drop i c.args.first.now) ≢ length (drop i c.args.other.now) = λ same. c.if-first-other.false (omega (arith, same, first-left, other-left, c.min-shorter.ensures, at)) in
    ap Some at ∙ sym (end_differs (drop i c.args.first.now) (drop i c.args.other.now) i ne (omega (arith, first-left, other-left, c.min-shorter.ensures, at))) ∙ sym c.loop-i.invariant
