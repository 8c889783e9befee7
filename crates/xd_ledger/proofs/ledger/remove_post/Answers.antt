use Rattle.std.proofs.Common.{rules}
use Rattle.std.specs.Prelude.{not, ◌==◌}
use Rattle.std.proofs.lemmas.Fn.{filter_same}
use Rattle.xd_ledger.proofs.ledger.remove_post.Goals as goal

pub returns : goal.returns
returns c = filter_same _ (λ q. not (q.worker == c.args.worker)) _ (λ x b w h. search rules) _ _ c.retain.ensures.filtered
