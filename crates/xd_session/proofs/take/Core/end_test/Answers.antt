use Rattle.std.proofs.Common.{ap, sym, ◌∙◌, List, ℕ, arith}
use Rattle.std.specs.Prelude.{Some}
use Rattle.std.proofs.lemmas.Grind.{common_steps}
use Rattle.xd_journal.specs.declared.entry.Entry.TheVariants.{Done}
use Rattle.xd_session.proofs.Taking.{active-in, comes, done-follows, done-meant, told-ruled}
use Rattle.xd_session.proofs.take.Core.end_test.Goals as goal

pub done-requires : goal.done-requires
done-requires g c = (c.requires.at.0, comes _ _ _ _ _ c.requires.at.1.0 (done-follows c.args.worker c.args.index c.args.outcome c.args.ms c.in_ok-output.output _ c.requires.at.0 (active-in c.args.worker _ _ _ _ c.requires.at.1.0 c.requires.active) c.requires.at.1.1))

pub returns-clause-told : goal.returns-clause-told
returns-clause-told g c = λ s a h.
    told-ruled _ (Done c.args.worker c.args.index c.args.outcome c.args.ms c.in_ok-output.output) s _ _ _ _ _ _ _
    (done-meant c.args.worker c.args.index c.args.outcome c.args.ms _ _ s h ∙ ap (λ (o : List ℕ). Some (Done c.args.worker c.args.index c.args.outcome c.args.ms o)) (sym (c.in_ok-output.ensures.kept s a.at)))
    (c.in_ok-done.ensures s (comes _ _ _ _ _ a (done-follows c.args.worker c.args.index c.args.outcome c.args.ms c.in_ok-output.output _ s (active-in c.args.worker _ _ _ _ a c.requires.active) h)))
    (grind (arith, common_steps)) (grind (arith, common_steps, c.in_ok-output.ensures.low))
