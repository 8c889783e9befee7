use Rattle.std.proofs.Common.{List, map, ap, sym, ◌∙◌}
use Rattle.xd_run.specs.Numbers.{first_of}
use Rattle.xd_run.specs.Table.{held_in}
use Rattle.xd_held.specs.declared.holder.Holder.{Holder}
use Rattle.xd_held.specs.Holders.{seat_of_holder}
use Rattle.xd_report.proofs.Kept.{held_kept}
use Rattle.xd_report.proofs.reporter.Reporter.head.Goals as goal

pub returns : goal.returns
returns c = λ s f.
    c.head_in.ensures ∙ ap first_of (ap (λ (ds : List Holder). held_in c.args.worker (map seat_of_holder ds)) c.deref.ensures.value ∙ ap (held_in c.args.worker) (sym f.rota) ∙ held_kept c.args.worker s.books.table.rota)
