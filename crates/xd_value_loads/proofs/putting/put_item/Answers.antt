use Rattle.std.proofs.Common.{◌≡◌, ap, ◌∙◌, rules, refl}
use Rattle.xd_value.specs.Reading.{snoc}
use Rattle.xd_value.specs.Tree.{depth}
use Rattle.xd_value.specs.View.{view, views}
use Rattle.xd_value_loads.specs.inner.Seats.{cell_of, seat}
use Rattle.xd_value.proofs.Walks.{view-List}
use Rattle.xd_value.proofs.KeyLemmas.{list_depth}
use Rattle.xd_value.proofs.Cells.{put_list, views_push}
use Rattle.xd_value_loads.proofs.putting.put_item.Goals as goal

pub returns-in-Some-clause-put : goal.returns-in-Some-clause-put
returns-in-Some-clause-put c =
    let found = c.in-Some.ensures.fault (view c.args.value) c.requires.value in
    put_list (cell_of (seat c.args.value c.args.value_mark.now)) (cell_of (seat c.args.key c.args.key_mark.now)) _ c.args.mark.now.missing c.len.result c.args.items.now.items refl (search rules)
    ∙ rw (← found)

pub returns-clause-put : goal.returns-clause-put
returns-clause-put c =
    let grown : views c.push.new.self.items ≡ snoc (views c.args.items.now.items) (view c.args.value) = ap views c.in_ok-push.ensures.items ∙ views_push c.args.items.now.items c.args.value in
    let none = c.in_default.ensures.fault (view c.args.value) c.requires.value in
    put_list (cell_of (seat c.args.value c.args.value_mark.now)) (cell_of (seat c.args.key c.args.key_mark.now)) _ c.args.mark.now.missing c.len.result c.args.items.now.items refl (search rules)
    ∙ rw (← none, grown)

pub returns-clause-measured : goal.returns-clause-measured
returns-clause-measured c =
    list_depth c.args.items.now c.push.new.self c.args.value c.args.mark.now.depth c.args.value_mark.now.depth c.deepened-mark.result c.in_ok-push.ensures.items c.requires.measured c.requires.value c.deepened-mark.ensures
    ∙ ap depth (view-List c.push.new.self)
