use Rattle.std.proofs.Common.{ap, ◌∙◌, sym}
use Rattle.std.specs.Vec.{vec_capacity}
use Rattle.xd_ledger.specs.Chains.{final_of, part_before}
use Rattle.xd_run.specs.Numbers.{among}
use Rattle.xd_ledger.specs.Posts.{chain_in}
use Rattle.xd_run.specs.Table.{held}
use Rattle.xd_ledger.proofs.Kept.{has_at}
use Rattle.xd_ledger.proofs.ledger.Ledger.previous_item.Goals as goal

pub returns-clause-held : goal.returns-clause-held
returns-clause-held c = λ w i a. (let h = has_at w c.self.inside.chains c.self.inside.rota.items c.self.inside.reported.items c.self.inside.who_joined (vec_capacity c.self.inside.reported) c.args.self.now c.self.view_is c.self.invariant i in
    let e = sym h.holds ∙ ap (held w) c.self.view_is in
    c.previous.ensures (chain_in w c.self.inside.rota.items) h.below (ap (among c.args.item) e ∙ a) ∙ ap (λ xs. final_of (part_before c.args.item xs)) e)
