use Rattle.std.proofs.Common.{◌≡◌, ◌++◌, [], drop}
use Rattle.std.specs.Prelude.{codes, if◌then◌else◌}
use Rattle.xd_value_show.specs.Show.{shown_items, shown_pairs}
use Rattle.xd_value.specs.View.{views, pair_views}
use Rattle.xd_value_show.proofs.printing.+print.Given as goal

abbrev pub invariant-print_items-loop-item : goal.invariant-print_items-loop-item
invariant-print_items-loop-item l =
    l.out ++ shown_items (if l.is_first then [] else codes ", ") (views (drop l.item-index l.items)) ≡ l.fn.out ++ shown_items [] (views l.items)

abbrev pub invariant-print_pairs-loop-pair : goal.invariant-print_pairs-loop-pair
invariant-print_pairs-loop-pair l =
    l.out ++ shown_pairs (if l.is_first then [] else codes ", ") (pair_views (drop l.pair-index l.pairs)) ≡ (l.fn.out ++ codes "{") ++ shown_pairs [] (pair_views l.pairs)
