use Rattle.std.proofs.Common.{◌≡◌, ◌∙◌, ◌<◌, ap, sym, subst, arith, length, List, ℕ}
use Rattle.std.specs.Prelude.{slice_index}
use Rattle.std.specs.Vec.{vec_capacity}
use Rattle.xd_ledger.specs.Chains.{chain_at, chains_of}
use Rattle.xd_ledger.specs.Posts.{chain_in}
use Rattle.xd_run.specs.Table.{held}
use Rattle.xd_ledger.proofs.Kept.{has_at}
use Rattle.xd_ledger.proofs.ledger.Ledger.held_at.Goals as goal

pub at-requires-clause-known : goal.at-requires-clause-known
at-requires-clause-known c =
    let h = has_at c.args.worker c.self.inside.chains c.self.inside.rota.items c.self.inside.reported.items c.self.inside.who_joined (vec_capacity c.self.inside.reported) c.args.self.now c.self.view_is c.self.invariant c.requires.seated in
    let r : c.chain_of.result ≡ chain_in c.args.worker c.self.inside.rota.items = c.chain_of.ensures ∙ ap (chain_in c.args.worker) c.deref.ensures.value in
    subst (λ i. i < chains_of c.self.inside.chains) (sym r) h.below

pub at-requires-clause-within : goal.at-requires-clause-within
at-requires-clause-within c =
    let h = has_at c.args.worker c.self.inside.chains c.self.inside.rota.items c.self.inside.reported.items c.self.inside.who_joined (vec_capacity c.self.inside.reported) c.args.self.now c.self.view_is c.self.invariant c.requires.seated in
    let r : c.chain_of.result ≡ chain_in c.args.worker c.self.inside.rota.items = c.chain_of.ensures ∙ ap (chain_in c.args.worker) c.deref.ensures.value in
    let e : length (chain_at c.self.inside.chains c.chain_of.result) ≡ length (held c.args.worker c.args.self.now) = ap (λ i. (length) (chain_at c.self.inside.chains i)) r ∙ ap (length) (sym h.holds) ∙ ap (λ u. (length) (held c.args.worker u)) c.self.view_is in omega arith

pub returns : goal.returns
returns c =
    let h = has_at c.args.worker c.self.inside.chains c.self.inside.rota.items c.self.inside.reported.items c.self.inside.who_joined (vec_capacity c.self.inside.reported) c.args.self.now c.self.view_is c.self.invariant c.requires.seated in
    let r : c.chain_of.result ≡ chain_in c.args.worker c.self.inside.rota.items = c.chain_of.ensures ∙ ap (chain_in c.args.worker) c.deref.ensures.value in
    c.at.ensures ∙ ap (λ i. slice_index (chain_at c.self.inside.chains i) c.args.place) r ∙ ap (λ (xs : List ℕ). slice_index xs c.args.place) (sym h.holds) ∙ ap (λ u. slice_index (held c.args.worker u) c.args.place) c.self.view_is
