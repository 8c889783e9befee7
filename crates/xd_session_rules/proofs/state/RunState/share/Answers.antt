use Rattle.std.proofs.Common.{◌≡◌, ap, sym, subst, ◌∙◌, List, ℕ, true}
use Rattle.xd_run.specs.Books.{Books}
use Rattle.xd_ledger.specs.Calls.{Turned}
use Rattle.xd_run.specs.Modes.ModeCall.{Share}
use Rattle.xd_run.specs.Outputs.{slots_of_rota}
use Rattle.xd_run.specs.Plan.{Plan}
use Rattle.xd_run.specs.Sharing.{State}
use Rattle.xd_run.specs.Suits.{Suits}
use Rattle.xd_session_books.specs.Books.{books_of}
use Rattle.xd_session_rules.specs.Joining.{filled, shared_in, sizes_in}
use Rattle.xd_session_books.specs.Known.{known_by, steal_told}
use Rattle.xd_session_rules.specs.Rules.{members_told}
use Rattle.xd_session_rules.proofs.Acts.{acted-call, suits-by}
use Rattle.xd_session_rules.proofs.Shares.{calls-share}
use Rattle.xd_session_rules.proofs.state.RunState.share.Goals as goal

pub deal_all-requires-clause-suits : goal.deal_all-requires-clause-suits
deal_all-requires-clause-suits g c =
    let s : State = c.requires.at.0 in
    let a = c.requires.at.1.0 in
    let b : Books = books_of c.args.self.now.books in
    let mode = c.args.self.now.known.mode in
    let slots : slots_of_rota s.books ≡ slots_of_rota b = ap slots_of_rota (sym a.books_are) in
    subst (λ (xs : List ℕ). Suits (Share xs) (shared_in mode b) (filled (sizes_in mode b) c.args.self.now.books.ledger) (g.M.Mode.stands c.args.self.now.mode)) slots
    (suits-by _ _ _ _ _ _ (calls-share s b (known_by c.args.self.now.known) _ a c.requires.at.1.1))

pub returns : goal.returns
returns g c = λ s a m.
    (let b : Books = books_of c.args.self.now.books in
    let mode = c.args.self.now.known.mode in
    let pooled = filled (sizes_in mode b) c.args.self.now.books.ledger in
    let slots : slots_of_rota b ≡ slots_of_rota s.books = ap slots_of_rota a.books_are in
    let turned : (p : Plan) → g.M.Mode.stands c.args.self.now.mode p → Turned (Share (slots_of_rota s.books)) (shared_in mode b p) pooled c.new-acts.result.items c.deal_all.new.books.ledger c.deal_all.new.acts.items (g.M.Mode.stands c.deal_all.new.mode) =
    λ p h. subst (λ (xs : List ℕ). Turned (Share xs) (shared_in mode b p) pooled c.new-acts.result.items c.deal_all.new.books.ledger c.deal_all.new.acts.items (g.M.Mode.stands c.deal_all.new.mode)) slots (c.in_ok-sizes.ensures.dealt p h) in
    acted-call (Share (slots_of_rota s.books)) (shared_in mode b) _ _ _ _ _ c.new-acts.result.items c.deal_all.new.acts.items c.deal_all.new.books.ledger c.args.entries.now.items _ _ _
    c.new-acts.ensures.items (calls-share s b (known_by c.args.self.now.known) _ a m) turned
    (c.in_ok-take_acts.ensures.books ∙ ap (λ (d : Books). record d { members = Rattle.xd_session_rules.specs.Rules.members_told c.deal_all.new.acts.items d.members }) c.share.ensures ∙ ap (λ (d : Books). record d { shared = true; members = Rattle.xd_session_rules.specs.Rules.members_told c.deal_all.new.acts.items d.members }) c.in_ok-sizes.ensures.books)
    (c.in_ok-take_acts.ensures.known ∙ ap (λ (xs : List ℕ). record (known_by c.args.self.now.known) { sizes = xs; steal = steal_told c.deal_all.new.acts.items (known_by c.args.self.now.known).steal }) c.in_ok-sizes.ensures.sizes)
    c.in_ok-take_acts.ensures.entries)
