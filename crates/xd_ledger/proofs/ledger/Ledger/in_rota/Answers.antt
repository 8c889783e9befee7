use Rattle.std.proofs.Common.{◌∙◌, ap, not}
use Rattle.std.specs.Prelude.{◌==◌}
use Rattle.std.specs.Vec.{vec_capacity}
use Rattle.xd_ledger.specs.Posts.{chain_in}
use Rattle.xd_ledger.proofs.Marked.{in_rota_is}
use Rattle.xd_ledger.proofs.ledger.Ledger.in_rota.Goals as goal

pub returns : goal.returns
returns c = ap (λ i. not (i == 0)) (c.chain_of.ensures ∙ ap (chain_in c.args.worker) c.deref.ensures.value) ∙ in_rota_is c.args.worker c.self.inside.chains c.self.inside.rota.items c.self.inside.reported.items c.self.inside.who_joined (vec_capacity c.self.inside.reported) c.args.self.now c.self.view_is c.self.invariant
