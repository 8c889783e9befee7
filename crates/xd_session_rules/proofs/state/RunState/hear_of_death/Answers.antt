use Rattle.std.proofs.Common.{◌≡◌, [], ap, sym, ◌∙◌, true, false}
use Rattle.xd_run.specs.Books.{Books}
use Rattle.xd_run.specs.Modes.ModeCall.{Died}
use Rattle.xd_run.specs.Outputs.{acts_of}
use Rattle.xd_session_rules.proofs.Acts.{acted-by, acted-none, choose-no, choose-yes}
use Rattle.xd_session_rules.proofs.state.RunState.hear_of_death.Goals as goal

pub returns-then-not-is_shared : goal.returns-then-not-is_shared
returns-then-not-is_shared g c = λ s a m.
    (let none : s.books.shared ≡ false = ap (λ (d : Books). d.shared) (sym a.books_are) ∙ sym c.is_shared.ensures ∙ c.if-not-is_shared.true in
    acted-by [] _ s _ _ c.args.entries.now.items c.args.entries.now.items _ (choose-no s.books.shared (acts_of Died s) [] none)
    (acted-none s _ _ c.args.entries.now.items _ (record { books_are = a.books_are; known_is = a.known_is; stands_for = λ h. m.stays none })))

pub returns : goal.returns
returns g c = λ s a m.
    (let shared : s.books.shared ≡ true = ap (λ (d : Books). d.shared) (sym a.books_are) ∙ sym c.is_shared.ensures ∙ c.if-not-is_shared.false in
    acted-by (acts_of Died s) _ s _ _ c.args.entries.now.items c.call_died.new.entries.items _ (choose-yes s.books.shared (acts_of Died s) [] shared)
    (c.in_ok-call_died.ensures s (record { at = a; going = m.going; called = m.hears shared })))
