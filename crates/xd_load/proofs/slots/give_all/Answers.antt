use Rattle.std.proofs.Common.{◌∙◌, ap}
use Rattle.xd_run.specs.Table.{workers_of}
use Rattle.xd_run.specs.Turn.{shut}
use Rattle.xd_run.proofs.Turns.{in_rota-same, workers-at_seat}
use Rattle.xd_load.specs.Slots.{items_in}
use Rattle.xd_load.proofs.SlotItems.{told}
use Rattle.xd_load.proofs.slots.give_all.Goals as goal

pub shut-requires : goal.shut-requires
shut-requires c =
    let same = ap workers_of c.in_ok-tell_all.ensures.table ∙ workers-at_seat c.args.worker (items_in c.args.slot c.args.sizes.now) c.args.ledger.now.rota in
    in_rota-same c.args.worker c.tell_all.new.ledger c.args.ledger.now same ∙ c.requires.seated

pub returns : goal.returns
returns c = λ p h.
    c.in_ok-shut.ensures p ∙ ap (shut c.args.worker) (told c.args.worker c.args.slot c.args.sizes.now p c.args.ledger.now c.tell_all.new.ledger c.args.acts.now.items c.tell_all.new.acts.items h c.in_ok-tell_all.ensures.table c.in_ok-tell_all.ensures.acts)
