use Rattle.std.proofs.Common.{◌≤◌, length, refl, rules, sym, ◌∙◌}
use Rattle.std.specs.Prelude.{is_some}
use Rattle.xd_group.proofs.LossFacts.{flag_kept, flag_none, flag_past}
use Rattle.xd_group.proofs.spare.take_kept.Goals as goal

pub unreachable-requires : goal.unreachable-requires
unreachable-requires g c =
    let xs = c.args.spares.now.items in
    let past : length xs ≤ c.args.at = search rules in
    flag_past is_some xs c.args.at past c.requires.kept

pub unreachable-requires-in-None : goal.unreachable-requires-in-None
unreachable-requires-in-None g c = flag_none is_some c.args.spares.now.items c.args.at c.index_mut.result.now refl c.index_mut.ensures.value c.requires.kept (sym c.take.ensures.value ∙ c.in-None.is)

pub returns : goal.returns
returns g c = record { others = λ k h e. flag_kept is_some c.args.spares.now.items c.args.at k c.take.new.self h e }
