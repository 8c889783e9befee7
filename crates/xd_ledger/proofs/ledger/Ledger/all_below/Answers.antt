use Rattle.std.proofs.Common.{◌∙◌, ap, length}
use Rattle.std.specs.Prelude.{nat_lt}
use Rattle.std.specs.List.{list_all}
use Rattle.xd_ledger.specs.Chains.{chain_at, chains_of}
use Rattle.xd_ledger.proofs.Marked.{all_known, all-posts}
use Rattle.xd_ledger.proofs.ledger.Ledger.all_below.Goals as goal

pub all_below-requires : goal.all_below-requires
all_below-requires c = ap (λ ps. list_all (λ q. nat_lt q.chain (chains_of c.self.inside.chains)) ps) c.deref.ensures.value ∙ all_known (chains_of c.self.inside.chains) c.self.inside.rota.items (λ k i. (c.self.invariant.known k i).1)

pub returns : goal.returns
returns c = c.all_below.ensures ∙ ap (λ ps. list_all (λ q. nat_lt (length (chain_at c.self.inside.chains q.chain)) c.args.count) ps) c.deref.ensures.value ∙ all-posts (chain_at c.self.inside.chains) c.args.count c.self.inside.rota.items ∙ ap (λ t. list_all (λ s. nat_lt (length s.held) c.args.count) t.rota) c.self.view_is
