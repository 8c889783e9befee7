use Rattle.std.proofs.Common.{◌≡◌, ◌∙◌, List, ℕ, true, ap, subst, sym}
use Rattle.xd_run.specs.Numbers.{among, all_among, all_distinct}
use Rattle.xd_ledger.specs.Calls.{turn}
use Rattle.xd_run.specs.Table.{workers_of}
use Rattle.xd_run.specs.Turn.{Turn}
use Rattle.xd_ledger.proofs.Lists.{all_among-filter, distinct-filter}
use Rattle.xd_run.proofs.Turns.{in_rota-same}
use Rattle.xd_load.specs.Slots.{items_in}
use Rattle.xd_load.proofs.SlotItems.{each_plan, each_plan-stands, workers-give_of_slot}
use Rattle.xd_load.proofs.slots.join.Goals as goal

pub give_of_slot-requires-clause-distinct : goal.give_of_slot-requires-clause-distinct
give_of_slot-requires-clause-distinct c =
    subst (λ (xs : List ℕ). all_distinct xs ≡ true) (sym (c.deref.ensures.value ∙ c.items.view_is ∙ c.in_ok-items.ensures)) (distinct-filter (λ i. among i (items_in c.args.slot c.args.sizes.now)) c.args.ledger.now.pool c.requires.distinct)

pub give_of_slot-requires-clause-within : goal.give_of_slot-requires-clause-within
give_of_slot-requires-clause-within c =
    subst (λ (xs : List ℕ). all_among xs c.args.ledger.now.pool ≡ true) (sym (c.deref.ensures.value ∙ c.items.view_is ∙ c.in_ok-items.ensures)) (all_among-filter (λ i. among i (items_in c.args.slot c.args.sizes.now)) c.args.ledger.now.pool)

pub shut-requires : goal.shut-requires
shut-requires c =
    let counts = c.args.sizes.now in
    let step = c.in_ok-give_of_slot.ensures (each_plan counts) (each_plan-stands counts) in
    let same = ap (λ (u : Turn). workers_of u.table) step ∙ workers-give_of_slot c.args.worker c.args.slot c.deref.result.now (turn c.args.ledger.now (each_plan counts) c.args.acts.now.items) in
    in_rota-same c.args.worker c.give_of_slot.new.ledger c.args.ledger.now same ∙ c.requires.seated
