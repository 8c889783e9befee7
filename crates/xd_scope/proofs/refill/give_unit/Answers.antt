use Rattle.std.proofs.Common.{◌≡◌, [], ◌∷◌, ◌++◌, ◌∙◌, List, ℕ, true, refl, ap, subst, sym}
use Rattle.std.specs.Prelude.{◌==◌, if◌then◌else◌}
use Rattle.xd_run.specs.Numbers.{all_among, all_distinct, without}
use Rattle.xd_run.specs.Suits.{AreInPool}
use Rattle.xd_run.specs.Table.{Table, assigned, workers_of}
use Rattle.xd_run.proofs.Turns.{workers-at_seat}
use Rattle.xd_scope.specs.declared.units.Units.{Units}
use Rattle.xd_scope.specs.Stands.{given_to}
use Rattle.xd_scope.proofs.Handing.{given-unit}
use Rattle.xd_scope.proofs.Queue.{is-next}
use Rattle.xd_scope.proofs.refill.give_unit.Goals as goal

pub assign-requires-clause-distinct : goal.assign-requires-clause-distinct
assign-requires-clause-distinct c =
    let next = is-next c.args.units.now.queue.items c.in-Some.unit c.next_unit.new.queue.items c.args.ledger.now.pool c.in-Some.ensures.some c.requires.fits in
    subst (λ (xs : List ℕ). all_distinct xs ≡ true) (sym (c.deref.ensures.value ∙ c.unit.view_is)) next.distinct

pub assign-requires-clause-within : goal.assign-requires-clause-within
assign-requires-clause-within c =
    let next = is-next c.args.units.now.queue.items c.in-Some.unit c.next_unit.new.queue.items c.args.ledger.now.pool c.in-Some.ensures.some c.requires.fits in
    subst (λ (xs : List ℕ). all_among xs c.args.ledger.now.pool ≡ true) (sym (c.deref.ensures.value ∙ c.unit.view_is)) next.within

pub returns-clause-fits : goal.returns-clause-fits
returns-clause-fits c =
    let next = is-next c.args.units.now.queue.items c.in-Some.unit c.next_unit.new.queue.items c.args.ledger.now.pool c.in-Some.ensures.some c.requires.fits in
    let s = subst (λ (xs : List ℕ). AreInPool c.next_unit.new.queue.items (without xs c.args.ledger.now.pool)) (sym (c.deref.ensures.value ∙ c.unit.view_is)) next.rest in
    subst (λ (t : Table). AreInPool c.next_unit.new.queue.items t.pool) (sym c.in_ok-assign.ensures.moved) s

pub returns-clause-rota : goal.returns-clause-rota
returns-clause-rota c = ap workers_of c.in_ok-assign.ensures.moved ∙ workers-at_seat c.args.worker c.deref.result.now c.args.ledger.now.rota

pub returns-clause-turned : goal.returns-clause-turned
returns-clause-turned c = λ p k.
    (let w = c.args.worker in
    let u = c.args.units.now in
    let v : Units = record u { queue = c.next_unit.new.queue; given = c.add_given.new.given } in
    let copied = c.in_ok-tests.ensures ∙ c.deref-2.ensures.value ∙ c.unit.view_is in
    given-unit w c.in-Some.unit u v p c.args.ledger.now c.assign.new.self c.args.acts.now.items c.push.new.self.items k c.in-Some.ensures.some refl refl
    (λ x. c.in_ok-add_given.ensures x ∙ ap (λ (ts : List ℕ). if w == x then given_to x u.given ++ ts ∷ [] else given_to x u.given) copied)
    (c.in_ok-assign.ensures.moved ∙ ap (λ (ts : List ℕ). assigned w ts c.args.ledger.now) (c.deref.ensures.value ∙ c.unit.view_is))
    (c.in_ok-push.ensures.items))
