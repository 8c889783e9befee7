use Rattle.std.proofs.Common.{refl, ◌==◌, arith, if◌then◌else◌}
use Rattle.xd_run.specs.Numbers.{without}
use Rattle.xd_held.proofs.HolderFacts.{seat_changed}
use Rattle.xd_held.proofs.holder.take_held.Goals as goal

pub loop-holder-preserved : goal.loop-holder-preserved
loop-holder-preserved c =
    seat_changed (λ s. if s.worker == c.args.worker then record s { held = without c.args.items.now s.held } else s) c.args.rota.now c.loop-holder.rota c.loop-holder.holder-index _ c.take.new.self c.holder-item.result c.loop-holder.invariant (omega arith) c.loop-holder.auto.rota refl c.take.ensures
