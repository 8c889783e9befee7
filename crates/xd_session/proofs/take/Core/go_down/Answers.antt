use Rattle.std.proofs.Common.{ap, sym, List, ℕ, arith}
use Rattle.std.specs.Prelude.{Some}
use Rattle.std.proofs.lemmas.Grind.{common_steps}
use Rattle.xd_journal.specs.declared.entry.Entry.TheVariants.{Down}
use Rattle.xd_session.proofs.Taking.{active-in, comes, told-ruled}
use Rattle.xd_session.proofs.take.Core.go_down.Goals as goal

pub down-requires : goal.down-requires
down-requires g c = (c.requires.at.0, comes _ _ _ _ _ c.requires.at.1 (active-in c.args.worker _ _ _ _ c.requires.at.1 c.requires.active))

pub returns-clause-told : goal.returns-clause-told
returns-clause-told g c = λ s a.
    told-ruled _ (Down c.args.worker c.args.cause c.in_ok-output.output) s _ _ _ _ _ _ _ (ap (λ (o : List ℕ). Some (Down c.args.worker c.args.cause o)) (sym (c.in_ok-output.ensures.kept s a.at)))
    (c.in_ok-down.ensures s (comes _ _ _ _ _ a (active-in c.args.worker _ _ _ _ a c.requires.active))) (grind (arith, common_steps)) (grind (arith, common_steps, c.in_ok-output.ensures.low))
