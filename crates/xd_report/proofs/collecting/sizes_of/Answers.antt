use Rattle.std.proofs.Common.{rules, ◌≡◌, ◌++◌, ◌∷◌, [], ◌+◌, length, ap, ◌∙◌, zero-add}
use Rattle.xd_run.specs.Sharing.{ids_at, sizes_from}
use Rattle.xd_report.proofs.Loops.{sizes-more}
use Rattle.xd_report.proofs.collecting.sizes_of.Goals as goal

pub loop-slot-preserved : goal.loop-slot-preserved
loop-slot-preserved c =
    let more : sizes_from c.args.books.now.lists 0 (c.loop-slot.slot + 1) ≡ sizes_from c.args.books.now.lists 0 c.loop-slot.slot ++ length (ids_at c.loop-slot.slot c.args.books.now.lists) ∷ [] =
    sizes-more c.args.books.now.lists 0 c.loop-slot.slot ∙ ap (λ k. sizes_from c.args.books.now.lists 0 c.loop-slot.slot ++ length (ids_at k c.args.books.now.lists) ∷ []) (zero-add c.loop-slot.slot) in
    grind (rules, more)
