use Rattle.std.proofs.Common.{◌≡◌, ap, sym, subst, ◌∙◌, ℕ, List}
use Rattle.std.specs.Prelude.{◌==◌, if◌then◌else◌}
use Rattle.xd_run.specs.Meaning.{with_news}
use Rattle.xd_session_rules.specs.declared.judge.Verdict.TheVariants.{Silent, Follows, Breach}
use Rattle.xd_session_books.specs.declared.logs.WorkerLog.{WorkerLog}
use Rattle.xd_session_books.specs.Books.{books_of}
use Rattle.xd_session_rules.specs.Judged.{judged}
use Rattle.xd_session_books.specs.Kept.{log_in, shortened}
use Rattle.xd_session_books.specs.Known.{known_by}
use Rattle.xd_session.specs.inner.Told.{TookNews}
use Rattle.xd_session.proofs.Taking.{meaning-breach, meaning-silent, told-as, told-none, took-follows}
use Rattle.xd_session.proofs.take.Core.take.Goals as goal

pub returns-in_ok-follow-in-Follows : goal.returns-in_ok-follow-in-Follows
returns-in_ok-follow-in-Follows g c = λ s a short.
    (let v : judged c.args.worker (log_in c.args.worker c.args.self.now.logs) s c.args.what ≡ Follows = sym (c.in_ok-judge.ensures s a.at a.reached) ∙ c.in-Follows.is in
    subst (λ (ls : List WorkerLog). TookNews c.args.worker c.args.what s c.args.self.now.logs ls c.args.entries.now.items c.follow.new.entries.items c.args.self.now.spent c.follow.new.self.spent (books_of c.follow.new.self.state.books) (known_by c.follow.new.self.state.known) (g.M.Mode.stands c.follow.new.self.state.mode))
    (sym c.in_ok-follow-in-Follows.ensures.logs)
    (took-follows c.args.worker c.args.what s c.args.self.now.logs _ _ _ _ _ _ _ v short (c.in_ok-follow-in-Follows.ensures.told s a v)))

pub returns-in_ok-hear-in-Silent : goal.returns-in_ok-hear-in-Silent
returns-in_ok-hear-in-Silent g c = λ s a short.
    (let v : judged c.args.worker (log_in c.args.worker c.args.self.now.logs) s c.args.what ≡ Silent = sym (c.in_ok-judge.ensures s a.at a.reached) ∙ c.in-Silent.is in
    record { told = told-none _ s _ _ _ _ _ a.at (meaning-silent c.args.worker _ _ s c.args.what v) c.requires.low; logs_are = c.in_ok-hear-in-Silent.ensures short })

pub returns-in_ok-hear-in-Breach : goal.returns-in_ok-hear-in-Breach
returns-in_ok-hear-in-Breach g c = λ s a short.
    (let v : judged c.args.worker (log_in c.args.worker c.args.self.now.logs) s c.args.what ≡ Breach = sym (c.in_ok-judge.ensures s a.at a.reached) ∙ c.in-Breach.is in
    let same = c.in_ok-go_down-in-Breach.ensures.logs in
    let heard : ℕ → List WorkerLog → _ = λ u ls. if u == c.args.worker then shortened (with_news (log_in u ls) c.args.what) else log_in u ls in
    record {
      told = told-as _ _ s _ _ _ _ _ _ _ (sym (meaning-breach c.args.worker _ _ s c.args.what v)) (c.in_ok-go_down-in-Breach.ensures.told s a);
      logs_are = λ u. c.in_ok-hear-in-Breach.ensures (λ x. subst (λ (ls : List WorkerLog). log_in x ls ≡ shortened (log_in x ls)) (sym same) (short x)) u ∙ ap (heard u) same;
    })
