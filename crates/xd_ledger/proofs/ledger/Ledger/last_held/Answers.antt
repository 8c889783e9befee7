use Rattle.std.proofs.Common.{◌≡◌, ap, ◌∙◌, sym, subst, ◌<◌}
use Rattle.std.specs.Vec.{vec_capacity}
use Rattle.xd_ledger.specs.Chains.{chain_at, chains_of, final_of}
use Rattle.xd_ledger.specs.Posts.{chain_in}
use Rattle.xd_run.specs.Table.{held}
use Rattle.xd_ledger.proofs.Kept.{has_at}
use Rattle.xd_ledger.proofs.ledger.Ledger.last_held.Goals as goal

pub last-requires : goal.last-requires
last-requires c =
    let h = has_at c.args.worker c.self.inside.chains c.self.inside.rota.items c.self.inside.reported.items c.self.inside.who_joined (vec_capacity c.self.inside.reported) c.args.self.now c.self.view_is c.self.invariant c.requires in
    let r : c.chain_of.result ≡ chain_in c.args.worker c.self.inside.rota.items = c.chain_of.ensures ∙ ap (chain_in c.args.worker) c.deref.ensures.value in
    subst (λ i. i < chains_of c.self.inside.chains) (sym r) h.below

pub returns : goal.returns
returns c =
    let h = has_at c.args.worker c.self.inside.chains c.self.inside.rota.items c.self.inside.reported.items c.self.inside.who_joined (vec_capacity c.self.inside.reported) c.args.self.now c.self.view_is c.self.invariant c.requires in
    let r : c.chain_of.result ≡ chain_in c.args.worker c.self.inside.rota.items = c.chain_of.ensures ∙ ap (chain_in c.args.worker) c.deref.ensures.value in
    c.last.ensures ∙ ap (λ i. final_of (chain_at c.self.inside.chains i)) r ∙ ap (final_of) (sym h.holds) ∙ ap (λ u. final_of (held c.args.worker u)) c.self.view_is
