use Rattle.std.proofs.Common.{◌≡◌, ◌∙◌, ℕ, List, ◌<◌, length, ap, sym, subst, arith, take, slice_index_or}
use Rattle.std.proofs.lemmas.Bool.Decides.{nat_tests}
use Rattle.xd_edge.specs.Children.{with_output, whole_output}
use Rattle.xd_memory.specs.MemChildren.{pieces_in, given_of}
use Rattle.xd_memory.proofs.MemLemmas.{told_gave, whole_set, gave_set, pieces-index, told_given, told_set}
use Rattle.xd_memory.proofs.mem_children.give_at.Goals as goal

pub returns-clause-gave : goal.returns-clause-gave
returns-clause-gave c =
    let old = slice_index_or c.args.runs.now c.args.place c.index-runs-place.result in
    let found = c.in_ok-pieces.ensures.lookup in
    let within : old.child < length c.args.children.now = grind (arith, nat_tests, found.0) in
    let here : c.deref.result.now ≡ pieces_in c.args.children.now old.child = c.deref.ensures.value ∙ (c.pieces.view_is ∙ (ap (λ p. p.1) found.1 ∙ pieces-index c.args.children.now old.child _ within)) in
    let told = told_given c.args.children.now old c.give.new.run c.deref.result.now (take c.give.result c.give.new.into) c.give.ensures.same.0 c.give.ensures.same.1 c.give.ensures.same.2 here c.give.ensures.gave in
    told_set c.args.children.now c.args.place (with_output (take c.give.result c.give.new.into)) c.args.runs.now c.index-runs-place.result c.give.new.run (omega arith) told

pub returns-clause-end : goal.returns-clause-end
returns-clause-end c = λ none some.
    let old = slice_index_or c.args.runs.now c.args.place c.index-runs-place.result in
    let found = c.in_ok-pieces.ensures.lookup in
    let within : old.child < length c.args.children.now = grind (arith, nat_tests, found.0) in
    let here : c.deref.result.now ≡ pieces_in c.args.children.now old.child = c.deref.ensures.value ∙ (c.pieces.view_is ∙ (ap (λ p. p.1) found.1 ∙ pieces-index c.args.children.now old.child _ within)) in
    let now : c.deref.result.now ≡ pieces_in c.args.children.now c.give.new.run.child = here ∙ ap (pieces_in c.args.children.now) (sym c.give.ensures.same.1) in
    told_gave c.args.children.now c.args.place _ _ (gave_set c.args.children.now c.args.place c.args.runs.now c.give.new.run (omega arith)
    (subst (λ (ps : List (List ℕ)). given_of ps c.give.new.run.piece c.give.new.run.given ≡ whole_output ps) now (c.give.ensures.end none some)))

pub returns-clause-same_whole : goal.returns-clause-same_whole
returns-clause-same_whole c = λ k. whole_set c.args.children.now k c.args.place c.args.runs.now c.index-runs-place.result c.give.new.run (omega arith) c.give.ensures.same.1
