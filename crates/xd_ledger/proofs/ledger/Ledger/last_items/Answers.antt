use Rattle.std.proofs.Common.{◌≡◌, ap, ◌∙◌, sym, subst, ◌<◌, ◌≤◌, ◌-◌, length, drop}
use Rattle.std.specs.Vec.{vec_capacity}
use Rattle.xd_ledger.specs.Chains.{chain_at, chains_of}
use Rattle.xd_ledger.specs.Posts.{chain_in}
use Rattle.xd_run.specs.Table.{held}
use Rattle.xd_ledger.proofs.Kept.{has_at}
use Rattle.xd_ledger.proofs.ledger.Ledger.last_items.Goals as goal

pub copy_last-requires-clause-known : goal.copy_last-requires-clause-known
copy_last-requires-clause-known c =
    let h = has_at c.args.worker c.self.inside.chains c.self.inside.rota.items c.self.inside.reported.items c.self.inside.who_joined (vec_capacity c.self.inside.reported) c.args.self.now c.self.view_is c.self.invariant c.requires.seated in
    let r : c.chain_of.result ≡ chain_in c.args.worker c.self.inside.rota.items = c.chain_of.ensures ∙ ap (chain_in c.args.worker) c.deref.ensures.value in
    subst (λ i. i < chains_of c.self.inside.chains) (sym r) h.below

pub copy_last-requires-clause-enough : goal.copy_last-requires-clause-enough
copy_last-requires-clause-enough c =
    let h = has_at c.args.worker c.self.inside.chains c.self.inside.rota.items c.self.inside.reported.items c.self.inside.who_joined (vec_capacity c.self.inside.reported) c.args.self.now c.self.view_is c.self.invariant c.requires.seated in
    let r : c.chain_of.result ≡ chain_in c.args.worker c.self.inside.rota.items = c.chain_of.ensures ∙ ap (chain_in c.args.worker) c.deref.ensures.value in
    let e = ap (λ i. length (chain_at c.self.inside.chains i)) r ∙ ap length (sym h.holds) ∙ ap (λ u. length (held c.args.worker u)) c.self.view_is in
    subst (λ n. c.args.count ≤ n) (sym e) c.requires.enough

pub returns : goal.returns
returns c =
    let h = has_at c.args.worker c.self.inside.chains c.self.inside.rota.items c.self.inside.reported.items c.self.inside.who_joined (vec_capacity c.self.inside.reported) c.args.self.now c.self.view_is c.self.invariant c.requires.seated in
    let r : c.chain_of.result ≡ chain_in c.args.worker c.self.inside.rota.items = c.chain_of.ensures ∙ ap (chain_in c.args.worker) c.deref.ensures.value in
    let e = ap (chain_at c.self.inside.chains) r ∙ sym h.holds ∙ ap (held c.args.worker) c.self.view_is in
    c.in_ok-items.ensures ∙ ap (λ xs. drop (length xs - c.args.count) xs) e
