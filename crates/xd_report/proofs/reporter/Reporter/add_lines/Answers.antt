use Rattle.std.proofs.Common.{◌≡◌, Bool, subst, sym, ◌∙◌, ap}
use Rattle.xd_run.specs.Books.{Books}
use Rattle.xd_run.specs.State.{after_entry, reached}
use Rattle.xd_report.proofs.Moves.{reach}
use Rattle.xd_report.proofs.Texts.{Tells, collected-tells}
use Rattle.xd_report.proofs.reporter.Reporter.add_lines.Goals as goal

pub returns-in_ok-add_collected-clause-lines : goal.returns-in_ok-add_collected-clause-lines
returns-in_ok-add_collected-clause-lines c = λ s f.
    let was : Bool = c.is_shared-was_shared.result in
    let shared : s.books.shared ≡ was = ap (λ (b : Books). b.shared) f.books ∙ sym c.is_shared-was_shared.ensures in
    subst (Tells s was c.args.out.now.items c.add_told.new.out.items c.add_collected.new.out.items shared) (sym c.in-Collected.is)
    (collected-tells s was c.args.out.now.items c.add_told.new.out.items c.add_collected.new.out.items shared c.in-Collected.worker c.in-Collected.ids)
    (c.in_ok-add_told.ensures (reached s c.args.entry.now) (reach c.args.self.now s c.args.entry.now f))
    (c.in_ok-add_collected.ensures (after_entry s c.args.entry.now) (c.in_ok-note.ensures s f))
