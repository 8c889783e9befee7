use Rattle.std.proofs.Common.{◌≡◌, ap, sym, subst, ◌∙◌, List}
use Rattle.xd_journal.specs.declared.settings.Settings.{Settings}
use Rattle.xd_run.specs.Books.{Books}
use Rattle.xd_run.specs.State.{after_entries, no_one}
use Rattle.xd_run.specs.Histories.{starts_from}
use Rattle.xd_session_books.specs.declared.logs.WorkerLog.{WorkerLog}
use Rattle.xd_session_books.specs.Books.{books_of}
use Rattle.xd_session_books.specs.Known.{known_by}
use Rattle.xd_session_rules.specs.Rules.{InStep}
use Rattle.xd_session.proofs.Begin.{begun-step}
use Rattle.xd_session.proofs.Steady.{owed-following}
use Rattle.xd_session.proofs.session.Session.new.Goals as goal

pub invariant_of-result : goal.invariant_of-result
invariant_of-result g c = λ h.
    (let e : (books_of c.in_ok-books.books).settings ≡ c.args.settings = ap (λ (b : Books). b.settings) c.in_ok-books.ensures in
    subst (λ (ls : List WorkerLog). InStep c.new-journal.result.settings c.start_all.new.entries.items ls 0 (books_of c.start_all.new.books) (known_by c.new-2.result) (g.M.Mode.stands c.args.mode)) (sym c.new-3.ensures)
    (begun-step c.args.settings _ _ _ _ _ c.new-journal.ensures.settings c.new-2.ensures c.requires.settings c.requires.fresh
    (c.in_ok-start_all.ensures.books ∙ ap (λ (s : Settings). (after_entries (no_one s) (starts_from 0 c.args.settings.workers)).books) e) c.in_ok-start_all.ensures.entries))

pub returns-clause-owes : goal.returns-clause-owes
returns-clause-owes g c = λ h.
    (let e : (books_of c.in_ok-books.books).settings ≡ c.args.settings = ap (λ (b : Books). b.settings) c.in_ok-books.ensures in
    owed-following _ _ _ _ _ _ _
    (begun-step c.args.settings c.new-journal.result.settings c.start_all.new.entries.items (books_of c.start_all.new.books) (known_by c.new-2.result) (g.M.Mode.stands c.args.mode)
    c.new-journal.ensures.settings c.new-2.ensures c.requires.settings c.requires.fresh
    (c.in_ok-start_all.ensures.books ∙ ap (λ (s : Settings). (after_entries (no_one s) (starts_from 0 c.args.settings.workers)).books) e) c.in_ok-start_all.ensures.entries) h)
