use Rattle.std.proofs.Common.{◌∙◌, ap, arith}
use Rattle.std.specs.Vec.{vec_capacity}
use Rattle.std.proofs.lemmas.Grind.{common_steps}
use Rattle.xd_ledger.specs.Posts.{place_in}
use Rattle.xd_ledger.proofs.Marked.{place_fits, is_shut_is}
use Rattle.xd_ledger.proofs.ledger.Ledger.is_shut.Goals as goal

pub index-requires : goal.index-requires
index-requires c = let f = place_fits c.args.worker c.place_of.result c.self.inside.chains c.self.inside.rota.items c.self.inside.reported.items c.self.inside.who_joined c.args.self.now c.self.view_is c.requires (c.place_of.ensures ∙ ap (place_in c.args.worker) c.deref.ensures.value) in grind (arith, common_steps)

pub returns : goal.returns
returns c = is_shut_is c.args.worker c.place_of.result c.self.inside.chains c.self.inside.rota.items c.self.inside.reported.items c.self.inside.who_joined (vec_capacity c.self.inside.reported) c.args.self.now c.index.result.now c.self.view_is c.self.invariant c.requires (c.place_of.ensures ∙ ap (place_in c.args.worker) c.deref.ensures.value) c.index.ensures
