use Rattle.std.proofs.Common.{◌≡◌, drop, ◌-◌, nat_lt}
use Rattle.xd_value.specs.Canonical.{trees_pass, pairs_pass}
use Rattle.xd_value.specs.Tree.{trees_depth, pairs_depth}
use Rattle.xd_value.specs.View.{views, pair_views}
use Rattle.xd_value.proofs.Notes.{Noting}
use Rattle.xd_value.proofs.noting.+note.Given as goal

abbrev pub invariant-note_items-loop-item : goal.invariant-note_items-loop-item
invariant-note_items-loop-item l =
    record {
      shallow : nat_lt (l.room - 1) (trees_depth (views l.items)) ≡ nat_lt (l.room - 1) (trees_depth (views (drop l.item-index l.items)));
      noting : Noting l.fn.faults l.faults (λ x. trees_pass x (views l.items)) (λ x. trees_pass x (views (drop l.item-index l.items)));
    }

abbrev pub invariant-note_pairs-loop-pair : goal.invariant-note_pairs-loop-pair
invariant-note_pairs-loop-pair l =
    record {
      shallow : nat_lt (l.room - 1) (pairs_depth (pair_views l.pairs)) ≡ nat_lt (l.room - 1) (pairs_depth (pair_views (drop l.pair-index l.pairs)));
      noting : Noting l.fn.faults l.faults (λ x. pairs_pass x (pair_views l.pairs)) (λ x. pairs_pass x (pair_views (drop l.pair-index l.pairs)));
    }
