use Rattle.std.proofs.Common.{ap, ◌∙◌}
use Rattle.std.proofs.lemmas.Result.{on_ok_weaker}
use Rattle.xd_steal.proofs.Rules.{number_for, victim_is, follows_shut, follows_asked}
use Rattle.xd_steal.proofs.rule.ask_or_shut.Goals as goal

pub held_len-requires : goal.held_len-requires
held_len-requires c = (victim_is c.in-Some.worker c.args.ledger.now c.requires.seats c.in-Some.ensures).seated

pub returns-then-count-eq0 : goal.returns-then-count-eq0
returns-then-count-eq0 c =
    let w = c.in-Some.worker in
    let t = c.args.ledger.now in
    let v = victim_is w t c.requires.seats c.in-Some.ensures in
    let n = c.number_of-count.ensures ∙ ap number_for c.held_len.ensures in
    on_ok_weaker c.shut_all-then-count-eq0.result (λ told p s. (follows_shut c.args.workers.now w c.number_of-count.result t c.shut_all-then-count-eq0.new.ledger p c.args.acts.now.items c.shut_all-then-count-eq0.new.acts.items c.args.asked.now v n c.if-count-eq0.true (told p) s)) c.shut_all-then-count-eq0.ensures

pub ask-requires-clause-seated : goal.ask-requires-clause-seated
ask-requires-clause-seated c = (victim_is c.in-Some.worker c.args.ledger.now c.requires.seats c.in-Some.ensures).seated

pub returns : goal.returns
returns c = λ p s.
    (let w = c.in-Some.worker in
    let t = c.args.ledger.now in
    let v = victim_is w t c.requires.seats c.in-Some.ensures in
    let n = c.number_of-count.ensures ∙ ap number_for c.held_len.ensures in
    follows_asked c.args.workers.now w c.number_of-count.result t p c.args.acts.now.items c.ask.new.acts.items c.args.asked.now c.ask.new.asked v n c.if-count-eq0.false c.in_ok-ask.ensures.open c.in_ok-ask.ensures.asks s)
