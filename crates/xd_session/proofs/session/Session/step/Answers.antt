use Rattle.std.proofs.Common.{◌≡◌, ap, ◌∙◌, true}
use Rattle.xd_run.specs.Books.{Books}
use Rattle.xd_run.specs.Workers.{is_active}
use Rattle.xd_session_books.specs.Books.{books_of}
use Rattle.xd_session.specs.Stands.{SessionSeen, state_of}
use Rattle.xd_session.proofs.Steady.{owed-following, stands-inside, stands-next, steady, step-new, step-next}
use Rattle.xd_session.proofs.session.Session.step.Goals as goal

pub take-requires-clause-low : goal.take-requires-clause-low
take-requires-clause-low g c = (c.self.invariant (ap (λ (v : SessionSeen). v.whole) c.self.view_is ∙ c.requires.whole)).spent_low

pub take-requires-clause-joins : goal.take-requires-clause-joins
take-requires-clause-joins g c =
    let k = c.self.invariant (ap (λ (v : SessionSeen). v.whole) c.self.view_is ∙ c.requires.whole) in
    step-new _ _ _ _ _ _ _ k c.args.news.worker
    (ap (λ (b : Books). is_active c.args.news.worker b) k.at.books_are ∙ ap (λ (v : SessionSeen). is_active c.args.news.worker (state_of v).books) c.self.view_is ∙ c.requires.active)

pub take-requires-clause-at : goal.take-requires-clause-at
take-requires-clause-at g c =
    let k = c.self.invariant (ap (λ (v : SessionSeen). v.whole) c.self.view_is ∙ c.requires.whole) in
    (_, steady _ _ _ _ _ _ _ k)

pub take-requires-clause-active : goal.take-requires-clause-active
take-requires-clause-active g c =
    let k = c.self.invariant (ap (λ (v : SessionSeen). v.whole) c.self.view_is ∙ c.requires.whole) in
    ap (λ (b : Books). is_active c.args.news.worker b) k.at.books_are ∙ ap (λ (v : SessionSeen). is_active c.args.news.worker (state_of v).books) c.self.view_is ∙ c.requires.active

pub invariant_of-self-2 : goal.invariant_of-self-2
invariant_of-self-2 g c = λ h.
    (let k = c.self.invariant (ap (λ (v : SessionSeen). v.whole) c.self.view_is ∙ c.requires.whole) in
    let act : is_active c.args.news.worker (books_of c.self.inside.core.state.books) ≡ true =
    ap (λ (b : Books). is_active c.args.news.worker b) k.at.books_are ∙ ap (λ (v : SessionSeen). is_active c.args.news.worker (state_of v).books) c.self.view_is ∙ c.requires.active in
    step-next _ _ _ _ _ _ _ _ _ _ _ _ _ c.args.news.worker c.args.news.what k act (c.in_ok-take.ensures _ (steady _ _ _ _ _ _ _ k) k.short))

pub returns-clause-stands : goal.returns-clause-stands
returns-clause-stands g c = λ taken f.
    (let k = c.self.invariant (ap (λ (v : SessionSeen). v.whole) c.self.view_is ∙ c.requires.whole) in
    let act : is_active c.args.news.worker (books_of c.self.inside.core.state.books) ≡ true =
    ap (λ (b : Books). is_active c.args.news.worker b) k.at.books_are ∙ ap (λ (v : SessionSeen). is_active c.args.news.worker (state_of v).books) c.self.view_is ∙ c.requires.active in
    stands-next _ _ _ _ _ _ _ _ _ _ _ _ _ c.args.news taken k act (c.in_ok-take.ensures _ (steady _ _ _ _ _ _ _ k) k.short)
    (stands-inside _ _ _ _ c.args.self.now taken c.self.view_is c.requires.whole f))

pub returns-clause-owes : goal.returns-clause-owes
returns-clause-owes g c = λ h.
    (let k = c.self.invariant (ap (λ (v : SessionSeen). v.whole) c.self.view_is ∙ c.requires.whole) in
    let act : is_active c.args.news.worker (books_of c.self.inside.core.state.books) ≡ true =
    ap (λ (b : Books). is_active c.args.news.worker b) k.at.books_are ∙ ap (λ (v : SessionSeen). is_active c.args.news.worker (state_of v).books) c.self.view_is ∙ c.requires.active in
    owed-following _ _ _ _ _ _ _ (step-next _ _ _ _ _ _ _ _ _ _ _ _ _ c.args.news.worker c.args.news.what k act (c.in_ok-take.ensures _ (steady _ _ _ _ _ _ _ k) k.short)) h)
