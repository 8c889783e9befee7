use Rattle.std.proofs.Common.{ap, refl, ◌∙◌, [], ◌∷◌}
use Rattle.xd_run.specs.Numbers.{without}
use Rattle.xd_run.specs.Table.{Table, in_rota}
use Rattle.xd_session_books.proofs.Deaths.{rota-changed}
use Rattle.xd_session_books.proofs.run_books.RunBooks.score.Goals as goal

pub returns-clause-seated : goal.returns-clause-seated
returns-clause-seated c =
    let k = rota-changed c.args.worker c.args.worker (λ s. record s { held = without (c.args.item ∷ []) s.held }) c.args.self.now.ledger.rota (λ s. refl) in
    ap (λ (t : Table). in_rota c.args.worker t) c.complete.ensures ∙ k ∙ c.requires.seated
