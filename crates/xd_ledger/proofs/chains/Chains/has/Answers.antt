use Rattle.std.proofs.Common.{◌≡◌, ◌∙◌, sym, ap, arith, length, ◌≤◌, false, nat_lt}
use Rattle.std.specs.Prelude.{◌==◌}
use Rattle.std.proofs.lemmas.Bool.Decides.{nat_tests}
use Rattle.std.proofs.lemmas.Grind.{common_steps}
use Rattle.std.proofs.lemmas.List.{get_or_read}
use Rattle.xd_ledger.specs.Chains.{no_chain, owner_of}
use Rattle.xd_ledger.proofs.ChainCalls.{owner_tells, not_owned}
use Rattle.xd_ledger.proofs.chains.Chains.has.Goals as goal

pub returns-then-item-len : goal.returns-then-item-len
returns-then-item-len c =
    let r : c.index.result.now ≡ owner_of c.self.inside.owner.items c.args.item = get_or_read c.self.inside.owner.items c.args.item c.index.result.now (grind (arith, common_steps)) c.index.ensures no_chain in
    ap (λ v. v == c.args.chain) r ∙ sym (owner_tells c.self.inside.next.items c.self.inside.previous.items c.self.inside.owner.items c.self.inside.counts.items c.args.self.now c.args.chain c.args.item c.self.view_is c.self.invariant c.requires)

pub returns-else-item-len : goal.returns-else-item-len
returns-else-item-len c =
    let far : length c.self.inside.owner.items ≤ c.args.item = grind (arith, common_steps) in
    let f : nat_lt c.args.item c.len.result ≡ false = grind (arith, nat_tests) in
    f ∙ sym (not_owned c.self.inside.next.items c.self.inside.previous.items c.self.inside.owner.items c.self.inside.counts.items c.args.self.now c.args.chain c.args.item c.self.view_is c.self.invariant c.requires far)
