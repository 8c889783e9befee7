use Rattle.std.proofs.Common.{◌≡◌, [], ap, sym, subst, ◌∙◌, true, false}
use Rattle.std.specs.Prelude.{None, Option, Some}
use Rattle.std.proofs.Common.{inl, inr}
use Rattle.xd_journal.specs.declared.entry.RunStop.{RunStop}
use Rattle.xd_journal.specs.declared.entry.RunStop.TheVariants.{Unequal}
use Rattle.xd_run.specs.Books.{Books}
use Rattle.xd_run.specs.Outputs.{outputs_of_joining, shut_all}
use Rattle.xd_run.specs.Sharing.{State}
use Rattle.xd_run.specs.Stops.{is_stopped, stopped_by}
use Rattle.xd_session_books.specs.declared.lists.Comparison.{Comparison}
use Rattle.xd_session_books.specs.Compared.{stop_of_comparison}
use Rattle.xd_session_books.specs.Books.{books_of}
use Rattle.xd_session_rules.specs.Joining.{TakenIn, taken_in}
use Rattle.xd_session_books.specs.Known.{known_by}
use Rattle.xd_session_rules.specs.Rules.{At}
use Rattle.xd_session_rules.proofs.Acts.{acted-by, acted-shut, choose-second, is_stopped-by, stopped-at}
use Rattle.xd_session_rules.proofs.Shares.{taken-joined}
use Rattle.xd_session_rules.proofs.state.RunState.take_in.Goals as goal

pub returns-in_ok-shut_everyone-in-Differs : goal.returns-in_ok-shut_everyone-in-Differs
returns-in_ok-shut_everyone-in-Differs g c = λ s a m.
    (let w = c.args.worker in
    let how = Unequal w c.in-Differs.other c.in-Differs.place in
    let t : State = taken_in w (Some how) s in
    let b : Books = books_of c.stop_by.new.self in
    let stopped : is_stopped t.books ≡ true = is_stopped-by s.books.stop how in
    let same : b ≡ t.books = c.stop_by.ensures ∙ ap (λ (d : Books). stopped_by (Some how) d) a.books_are in
    let at : At t b (known_by c.args.self.now.known) (g.M.Mode.stands c.args.self.now.mode) = stopped-at t b _ _ (ap is_stopped same ∙ stopped) same a.known_is in
    let going : is_stopped s.books ≡ false = ap is_stopped (sym a.books_are) ∙ c.requires.going in
    let P : Comparison → Type 0 = λ k. TakenIn w (stop_of_comparison w k) s (books_of c.shut_everyone.new.books) (known_by c.args.self.now.known) c.args.entries.now.items c.shut_everyone.new.entries.items (g.M.Mode.stands c.args.self.now.mode) in
    subst P (sym c.in-Differs.is)
    (acted-by (shut_all t.books.members) _ t (books_of c.shut_everyone.new.books) _ c.args.entries.now.items c.shut_everyone.new.entries.items _
    (choose-second (is_stopped s.books) (is_stopped t.books) [] (shut_all t.books.members) (outputs_of_joining w s.books t) going stopped)
    (acted-shut t b (books_of c.shut_everyone.new.books) _ c.args.entries.now.items c.shut_everyone.new.entries.items _ at c.in_ok-shut_everyone-in-Differs.ensures.told c.in_ok-shut_everyone-in-Differs.ensures.noted)))

pub returns-in_ok-join-in-First : goal.returns-in_ok-join-in-First
returns-in_ok-join-in-First g c = λ s a m.
    (let w = c.args.worker in
    let going : is_stopped s.books ≡ false = ap is_stopped (sym a.books_are) ∙ c.requires.going in
    let none : stop_of_comparison w c.args.comparison ≡ None = elim c.in-First.is as (λ _. stop_of_comparison w c.args.comparison ≡ None) [ inl e ↦ ap (stop_of_comparison w) e | inr e ↦ ap (stop_of_comparison w) e ] in
    let P : Option RunStop → Type 0 = λ h. TakenIn w h s (books_of c.join.new.self.books) (known_by c.join.new.self.known) c.args.entries.now.items c.join.new.entries.items (g.M.Mode.stands c.join.new.self.mode) in
    subst P (sym none) (taken-joined w s _ _ c.args.entries.now.items c.join.new.entries.items _ going (c.in_ok-join-in-First.ensures s a (m none))))
