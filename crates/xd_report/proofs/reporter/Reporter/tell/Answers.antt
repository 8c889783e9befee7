use Rattle.std.proofs.Common.{true, refl, sym, ◌∙◌, ap}
use Rattle.xd_run.specs.Books.{Books, marked}
use Rattle.xd_run.specs.Workers.{made_shut}
use Rattle.xd_report.proofs.Kept.{change_not_kept}
use Rattle.xd_report.proofs.reporter.Reporter.tell.Goals as goal

pub returns : goal.returns
returns c = λ s f. record {
  books = ap (marked (made_shut c.args.worker)) f.books ∙ sym c.mark.ensures;
  mode = f.mode ∙ sym (ap (λ (b : Books). b.settings.mode) c.mark.ensures);
  rota = change_not_kept c.args.worker (λ x. record x { shut = true }) s.books.table.rota (λ x. refl) ∙ f.rota;
  sizes = f.sizes;
}
