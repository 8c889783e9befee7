use Rattle.std.proofs.Common.{◌≡◌, List, ap, ◌∙◌, sym, subst, arith, ℕ, ◌+◌, ◌≤◌, ◌<◌, ◌++◌, length, drop, false}
use Rattle.std.specs.Prelude.{◌==◌}
use Rattle.std.specs.Vec.{vec_capacity}
use Rattle.xd_ledger.specs.Chains.{chain_at, chains_of, poured}
use Rattle.xd_run.specs.Numbers.{times, first_of}
use Rattle.xd_ledger.specs.Posts.{chain_in, released}
use Rattle.xd_run.specs.Table.{held, crash_item, died}
use Rattle.xd_ledger.proofs.Kept.{has_at, dies_kept, dies_table}
use Rattle.xd_ledger.proofs.Fills.{held_once, held_fits, rest_is}
use Rattle.xd_ledger.proofs.ledger.Ledger.die.Goals as goal

pub invariant_of-self : goal.invariant_of-self
invariant_of-self c =
    let h = has_at c.args.worker c.self.inside.chains c.self.inside.rota.items c.self.inside.reported.items c.self.inside.who_joined (vec_capacity c.self.inside.reported) c.args.self.now c.self.view_is c.self.invariant c.requires in
    let r : c.chain_of-chain.result ≡ chain_in c.args.worker c.self.inside.rota.items = c.chain_of-chain.ensures ∙ ap (chain_in c.args.worker) c.deref.ensures.value in
    dies_kept c.args.worker c.args.retry c.self.inside.chains c.release_first-head.new.chains c.pour.new.self c.self.inside.rota.items _ c.self.inside.reported.items c.release_first-head.new.reported.items c.self.inside.who_joined (vec_capacity c.self.inside.reported) _ c.args.self.now c.self.view_is c.self.invariant c.release_first-head.ensures.capacity c.requires (record {
      reported_is = c.release_first-head.ensures.reported ∙ ap (λ i. c.self.inside.reported.items ++ crash_item c.args.retry (chain_at c.self.inside.chains i)) r;
      head_gone = λ j. c.release_first-head.ensures.lists j ∙ ap (λ i. released c.args.retry i (chain_at c.self.inside.chains) j) r;
      poured_is = λ j. c.pour.ensures.lists j ∙ ap (λ i. poured (length (chain_at c.release_first-head.new.chains i)) i 0 (chain_at c.release_first-head.new.chains) j) r;
      posts_are = c.remove_post.ensures;
    }) (c.pour.ensures.chains ∙ c.release_first-head.ensures.chains)

pub returns-clause-moved : goal.returns-clause-moved
returns-clause-moved c =
    let h = has_at c.args.worker c.self.inside.chains c.self.inside.rota.items c.self.inside.reported.items c.self.inside.who_joined (vec_capacity c.self.inside.reported) c.args.self.now c.self.view_is c.self.invariant c.requires in
    let r : c.chain_of-chain.result ≡ chain_in c.args.worker c.self.inside.rota.items = c.chain_of-chain.ensures ∙ ap (chain_in c.args.worker) c.deref.ensures.value in
    dies_table c.args.worker c.args.retry c.self.inside.chains c.release_first-head.new.chains c.pour.new.self c.self.inside.rota.items _ c.self.inside.reported.items c.release_first-head.new.reported.items c.self.inside.who_joined h (record {
      reported_is = c.release_first-head.ensures.reported ∙ ap (λ i. c.self.inside.reported.items ++ crash_item c.args.retry (chain_at c.self.inside.chains i)) r;
      head_gone = λ j. c.release_first-head.ensures.lists j ∙ ap (λ i. released c.args.retry i (chain_at c.self.inside.chains) j) r;
      poured_is = λ j. c.pour.ensures.lists j ∙ ap (λ i. poured (length (chain_at c.release_first-head.new.chains i)) i 0 (chain_at c.release_first-head.new.chains) j) r;
      posts_are = c.remove_post.ensures;
    }) ∙ ap (died c.args.worker c.args.retry) c.self.view_is

pub release_first-head-requires-clause-known : goal.release_first-head-requires-clause-known
release_first-head-requires-clause-known c =
    let h = has_at c.args.worker c.self.inside.chains c.self.inside.rota.items c.self.inside.reported.items c.self.inside.who_joined (vec_capacity c.self.inside.reported) c.args.self.now c.self.view_is c.self.invariant c.requires in
    let r : c.chain_of-chain.result ≡ chain_in c.args.worker c.self.inside.rota.items = c.chain_of-chain.ensures ∙ ap (chain_in c.args.worker) c.deref.ensures.value in
    subst (λ i. i < chains_of c.self.inside.chains) (sym r) h.below

pub release_first-head-requires-clause-once : goal.release_first-head-requires-clause-once
release_first-head-requires-clause-once c =
    let h = has_at c.args.worker c.self.inside.chains c.self.inside.rota.items c.self.inside.reported.items c.self.inside.who_joined (vec_capacity c.self.inside.reported) c.args.self.now c.self.view_is c.self.invariant c.requires in
    let r : c.chain_of-chain.result ≡ chain_in c.args.worker c.self.inside.rota.items = c.chain_of-chain.ensures ∙ ap (chain_in c.args.worker) c.deref.ensures.value in
    λ x. subst (λ i. times x (chain_at c.self.inside.chains i) ≤ 1) (sym r) (held_once c.args.worker c.self.inside.chains c.self.inside.rota.items c.self.inside.reported.items c.self.inside.who_joined (vec_capacity c.self.inside.reported) c.self.invariant h x)

pub release_first-head-requires-clause-room : goal.release_first-head-requires-clause-room
release_first-head-requires-clause-room c =
    let h = has_at c.args.worker c.self.inside.chains c.self.inside.rota.items c.self.inside.reported.items c.self.inside.who_joined (vec_capacity c.self.inside.reported) c.args.self.now c.self.view_is c.self.invariant c.requires in
    let r : c.chain_of-chain.result ≡ chain_in c.args.worker c.self.inside.rota.items = c.chain_of-chain.ensures ∙ ap (chain_in c.args.worker) c.deref.ensures.value in
    subst (λ i. length c.self.inside.reported.items + length (chain_at c.self.inside.chains i) ≤ (vec_capacity c.self.inside.reported)) (sym r) (held_fits c.args.worker c.self.inside.chains c.self.inside.rota.items c.self.inside.reported.items c.self.inside.who_joined (vec_capacity c.self.inside.reported) c.self.invariant h)

pub len-rest-requires : goal.len-rest-requires
len-rest-requires c =
    let h = has_at c.args.worker c.self.inside.chains c.self.inside.rota.items c.self.inside.reported.items c.self.inside.who_joined (vec_capacity c.self.inside.reported) c.args.self.now c.self.view_is c.self.invariant c.requires in
    let r : c.chain_of-chain.result ≡ chain_in c.args.worker c.self.inside.rota.items = c.chain_of-chain.ensures ∙ ap (chain_in c.args.worker) c.deref.ensures.value in
    let b : c.chain_of-chain.result < chains_of c.self.inside.chains = subst (λ i. i < chains_of c.self.inside.chains) (sym r) h.below in let e = c.release_first-head.ensures.chains in omega arith

pub pour-requires-clause-known : goal.pour-requires-clause-known
pour-requires-clause-known c =
    let h = has_at c.args.worker c.self.inside.chains c.self.inside.rota.items c.self.inside.reported.items c.self.inside.who_joined (vec_capacity c.self.inside.reported) c.args.self.now c.self.view_is c.self.invariant c.requires in
    let r : c.chain_of-chain.result ≡ chain_in c.args.worker c.self.inside.rota.items = c.chain_of-chain.ensures ∙ ap (chain_in c.args.worker) c.deref.ensures.value in
    let b : c.chain_of-chain.result < chains_of c.self.inside.chains = subst (λ i. i < chains_of c.self.inside.chains) (sym r) h.below in let e = c.release_first-head.ensures.chains in let p = c.self.invariant.pool_there in (omega arith, omega arith)

pub pour-requires-clause-apart : goal.pour-requires-clause-apart
pour-requires-clause-apart c =
    let h = has_at c.args.worker c.self.inside.chains c.self.inside.rota.items c.self.inside.reported.items c.self.inside.who_joined (vec_capacity c.self.inside.reported) c.args.self.now c.self.view_is c.self.invariant c.requires in
    let r : c.chain_of-chain.result ≡ chain_in c.args.worker c.self.inside.rota.items = c.chain_of-chain.ensures ∙ ap (chain_in c.args.worker) c.deref.ensures.value in
    ap (λ i. i == 0) r ∙ h.preceding

pub release_first-head-requires-clause-apart : goal.release_first-head-requires-clause-apart
release_first-head-requires-clause-apart c =
    let h = has_at c.args.worker c.self.inside.chains c.self.inside.rota.items c.self.inside.reported.items c.self.inside.who_joined (vec_capacity c.self.inside.reported) c.args.self.now c.self.view_is c.self.invariant c.requires in
    let r : c.chain_of-chain.result ≡ chain_in c.args.worker c.self.inside.rota.items = c.chain_of-chain.ensures ∙ ap (chain_in c.args.worker) c.deref.ensures.value in
    ap (λ i. i == 0) r ∙ h.preceding

pub returns-clause-head : goal.returns-clause-head
returns-clause-head c =
    let h = has_at c.args.worker c.self.inside.chains c.self.inside.rota.items c.self.inside.reported.items c.self.inside.who_joined (vec_capacity c.self.inside.reported) c.args.self.now c.self.view_is c.self.invariant c.requires in
    let r : c.chain_of-chain.result ≡ chain_in c.args.worker c.self.inside.rota.items = c.chain_of-chain.ensures ∙ ap (chain_in c.args.worker) c.deref.ensures.value in
    c.release_first-head.ensures.first ∙ ap (λ i. first_of (chain_at c.self.inside.chains i)) r ∙ ap first_of (sym h.holds) ∙ ap (λ u. first_of (held c.args.worker u)) c.self.view_is

pub returns-clause-rest : goal.returns-clause-rest
returns-clause-rest c =
    let h = has_at c.args.worker c.self.inside.chains c.self.inside.rota.items c.self.inside.reported.items c.self.inside.who_joined (vec_capacity c.self.inside.reported) c.args.self.now c.self.view_is c.self.invariant c.requires in
    let r : c.chain_of-chain.result ≡ chain_in c.args.worker c.self.inside.rota.items = c.chain_of-chain.ensures ∙ ap (chain_in c.args.worker) c.deref.ensures.value in
    let d : (0 == c.chain_of-chain.result) ≡ false = ap (λ i. 0 == i) r ∙ h.after_pool in
    rest_is c.args.retry c.chain_of-chain.result (chain_in c.args.worker c.self.inside.rota.items) c.len-rest.result c.self.inside.chains c.release_first-head.new.chains r d c.release_first-head.ensures.lists c.len-rest.ensures ∙ ap (λ (xs : List ℕ). length (drop 1 xs)) (sym h.holds) ∙ ap (λ u. length (drop 1 (held c.args.worker u))) c.self.view_is
