use Rattle.std.proofs.Common.{Bool, List, ℕ, sym, ◌∙◌, ap}
use Rattle.xd_run.specs.Books.{Books}
use Rattle.xd_run.specs.Retry.{is_retry}
use Rattle.xd_run.specs.Deaths.{gone, limited, lost_with}
use Rattle.xd_run.specs.Table.{held}
use Rattle.xd_report.proofs.Kept.{left_kept}
use Rattle.xd_report.proofs.reporter.Reporter.bury.Goals as goal

pub returns : goal.returns
returns c = λ s f.
    let items : List ℕ = held c.args.worker s.books.table in
    let ends : Bool → Books → Books = λ r b. limited c.args.worker (gone c.args.worker (lost_with r items b)) in
    let dead = c.in_ok-bury.ensures.buried items (c.head-head.ensures s f) in
    record {
      books = ap (ends (is_retry c.args.worker s.books)) f.books ∙ ap (λ (r : Bool). ends r c.args.self.now.books) (sym (c.is_retry-retry.ensures s f)) ∙ sym dead;
      mode = f.mode ∙ sym (ap (λ (b : Books). b.settings.mode) dead);
      rota = left_kept c.args.worker s.books.table.rota c.args.self.now.rota.items c.leave.new.rota.items f.rota c.leave.ensures;
      sizes = f.sizes;
    }
