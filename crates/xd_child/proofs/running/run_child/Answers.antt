use Rattle.std.proofs.Common.{◌≡◌, ◌≤◌, List, ℕ, length, subst}
use Rattle.xd_journal.specs.Kept.{kept_of}
use Rattle.xd_child.proofs.Ran.{kept}
use Rattle.xd_child.proofs.running.run_child.Goals as goal

pub returns-clause-ran : goal.returns-clause-ran
returns-clause-ran g c = kept c.args.args.now c.args.room c.in_ok-outcome.outcome c.run_to_end.new.output.items c.in_ok-kept.kept _ _ c.in_ok-outcome.ensures.ran
    (subst (λ (l : List ℕ). (r : ℕ) → length l ≤ r → c.in_ok-kept.kept ≡ kept_of c.in_ok-outcome.outcome r l) c.deref.ensures.value c.in_ok-kept.ensures)
