use Rattle.std.proofs.Common.{◌≡◌, arith, List, None, sym, ap, subst, ◌∙◌, refl}
use Rattle.xd_value.specs.Keys.{Knows}
use Rattle.xd_value.specs.Tree.{Pairs, has_key, depth}
use Rattle.xd_value.specs.View.{view, pair_views}
use Rattle.xd_value.specs.Reading.{snoc_pair, pair_fault}
use Rattle.xd_value_loads.specs.inner.Seats.{cell_of, seat}
use Rattle.xd_value.specs.declared.value.Value.{Value}
use Rattle.xd_value.proofs.Walks.{view-Dict}
use Rattle.xd_value.proofs.KeyLemmas.{dict_depth, snoc_known, known_or_along}
use Rattle.xd_value.proofs.Cells.{pair_views_push}
use Rattle.xd_value_loads.proofs.putting.put_pair.Goals as goal

pub returns-clause-put : goal.returns-clause-put
returns-clause-put c =
    let grown : pair_views c.push.new.self.items ≡ snoc_pair (pair_views c.args.pairs.now.items) (view c.args.key) (view c.args.value) = ap pair_views c.in_ok-push.ensures.items ∙ pair_views_push c.args.pairs.now.items _ _ in
    let ok : pair_fault (cell_of (seat c.args.value c.args.value_mark.now)) (cell_of (seat c.args.key c.args.key_mark.now)) (pair_views c.args.pairs.now.items) ≡ None =
    ap (λ (ps : List (Value × Value)). pair_fault (cell_of (seat c.args.value c.args.value_mark.now)) (cell_of (seat c.args.key c.args.key_mark.now)) (pair_views ps)) (sym c.deref.ensures.value)
    ∙ sym (c.in_ok-what.ensures.fault (view c.args.value) c.requires.value) ∙ c.in_default.is in
    rw (ok, grown) refl

pub returns-clause-measured : goal.returns-clause-measured
returns-clause-measured c =
    dict_depth c.args.pairs.now c.push.new.self c.args.key c.args.value c.args.mark.now.depth c.args.key_mark.now.depth c.args.value_mark.now.depth c.deepened-mark.result c.in_ok-push.ensures.items c.requires.measured c.requires.key c.requires.value (omega (arith, c.deepened.ensures, c.deepened-mark.ensures))
    ∙ ap depth (view-Dict c.push.new.self)

pub returns-clause-known : goal.returns-clause-known
returns-clause-known c =
    let grown : pair_views c.push.new.self.items ≡ snoc_pair (pair_views c.args.pairs.now.items) (view c.args.key) (view c.args.value) = ap pair_views c.in_ok-push.ensures.items ∙ pair_views_push c.args.pairs.now.items _ _ in
    subst (λ (ps : Pairs). Knows c.pair_fault.new.keys (λ t. has_key t ps)) (sym grown)
    (snoc_known c.pair_fault.new.keys (pair_views c.args.pairs.now.items) (view c.args.key) (view c.args.value)
    (known_or_along c.pair_fault.new.keys (view c.args.key) c.args.pairs.now.items c.deref.result.now c.deref.ensures.value (c.in_ok-what.ensures.known c.in_default.is)))
