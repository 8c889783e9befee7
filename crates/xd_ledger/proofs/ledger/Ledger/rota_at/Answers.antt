use Rattle.std.proofs.Common.{◌∙◌, ◌<◌, ap, sym, arith, length}
use Rattle.std.specs.Prelude.{slice_index}
use Rattle.std.proofs.lemmas.Grind.{common_steps}
use Rattle.xd_ledger.specs.Chains.{chain_at}
use Rattle.xd_run.specs.Table.{workers_of}
use Rattle.xd_ledger.proofs.Posts.{workers-at}
use Rattle.xd_ledger.proofs.ledger.Ledger.rota_at.Goals as goal

pub returns : goal.returns
returns c =
    let b : c.args.place < length c.self.inside.rota.items = grind (arith, common_steps) in
    ap (λ q. q.worker) c.index.ensures ∙ sym (workers-at (chain_at c.self.inside.chains) c.self.inside.rota.items c.args.place c.index.result.now b) ∙ ap (λ t. slice_index (workers_of t) c.args.place) c.self.view_is
