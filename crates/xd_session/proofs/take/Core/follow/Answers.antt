use Rattle.std.proofs.Common.{◌≡◌, ◌∷◌, [], ap, sym, ◌∙◌, ℕ, arith}
use Rattle.std.specs.Prelude.{Option}
use Rattle.xd_journal.specs.declared.entry.Entry.{Entry}
use Rattle.xd_journal.specs.declared.entry.Entry.TheVariants.{Back, Finished, NotStarted}
use Rattle.xd_journal.specs.declared.news.What.{What}
use Rattle.xd_journal.specs.declared.news.What.TheVariants as what
use Rattle.xd_run.specs.Meaning.{Log, breach, given_ids, meaning_of, spent_by}
use Rattle.xd_run.specs.Proper.{may_follow}
use Rattle.xd_session_rules.specs.declared.judge.Verdict.TheVariants.{Follows}
use Rattle.xd_session_rules.specs.Judged.{judged}
use Rattle.xd_session_books.specs.Kept.{log_in}
use Rattle.xd_session_rules.proofs.Shares.{given-is}
use Rattle.xd_session_rules.proofs.Newcomers.{collection}
use Rattle.xd_session.proofs.Taking.{comes, follows-fine, meaning-fine, never-follows, told-ruled}
use Rattle.xd_session.proofs.take.Core.follow.Goals as goal

pub collected-requires-clause-few : goal.collected-requires-clause-few
collected-requires-clause-few g c = (collection c.args.worker c.in-Collected.own c.requires.at.0 _ _ _ c.requires.at.1.0.at c.args.self.now.state.books.few c.args.self.now.state.books.ordered
    (follows-fine (may_follow c.requires.at.0 (given_ids c.args.worker c.in-Collected.own c.requires.at.0)) (ap (λ (n : What). judged c.args.worker (log_in c.args.worker c.args.self.now.logs) c.requires.at.0 n) (sym c.in-Collected.is) ∙ c.requires.at.1.1))).few

pub collected-requires-clause-ordered : goal.collected-requires-clause-ordered
collected-requires-clause-ordered g c = (collection c.args.worker c.in-Collected.own c.requires.at.0 _ _ _ c.requires.at.1.0.at c.args.self.now.state.books.few c.args.self.now.state.books.ordered
    (follows-fine (may_follow c.requires.at.0 (given_ids c.args.worker c.in-Collected.own c.requires.at.0)) (ap (λ (n : What). judged c.args.worker (log_in c.args.worker c.args.self.now.logs) c.requires.at.0 n) (sym c.in-Collected.is) ∙ c.requires.at.1.1))).ordered

pub returns-in_ok-collected-in-Collected-clause-told : goal.returns-in_ok-collected-in-Collected-clause-told
returns-in_ok-collected-in-Collected-clause-told g c = λ s a h.
    (let w : ℕ = c.args.worker in
    let log : Option Log = log_in w c.args.self.now.logs in
    let spent : ℕ = c.args.self.now.spent in
    let e : Entry = given_ids w c.in-Collected.own s in
    let fine : judged w log s (what.Collected c.in-Collected.own) ≡ Follows = ap (λ (n : What). judged w log s n) (sym c.in-Collected.is) ∙ h in
    told-ruled _ e s _ _ _ _ spent _ _ (ap (λ (n : What). meaning_of w log spent s n) c.in-Collected.is ∙ meaning-fine (may_follow s e) e (breach w log spent s) fine)
    (c.in_ok-collected-in-Collected.ensures s (comes e s _ _ _ a (follows-fine (may_follow s e) fine))) (let none : spent_by (e ∷ []) ≡ 0 = ap (λ (x : Entry). spent_by (x ∷ [])) (given-is w c.in-Collected.own s) in omega (arith, none)) c.requires.low)

pub returns-in_ok-back-in-Back-clause-told : goal.returns-in_ok-back-in-Back-clause-told
returns-in_ok-back-in-Back-clause-told g c = λ s a h.
    (let w : ℕ = c.args.worker in
    let log : Option Log = log_in w c.args.self.now.logs in
    let spent : ℕ = c.args.self.now.spent in
    let e : Entry = Back w c.in-Back.indices in
    let fine : judged w log s (what.Back c.in-Back.indices) ≡ Follows = ap (λ (n : What). judged w log s n) (sym c.in-Back.is) ∙ h in
    told-ruled _ e s _ _ _ _ spent _ _ (ap (λ (n : What). meaning_of w log spent s n) c.in-Back.is ∙ meaning-fine (may_follow s e) e (breach w log spent s) fine)
    (c.in_ok-back-in-Back.ensures s (comes e s _ _ _ a (follows-fine (may_follow s e) fine))) (omega arith) c.requires.low)

pub returns-in_ok-finished-in-Finished-clause-told : goal.returns-in_ok-finished-in-Finished-clause-told
returns-in_ok-finished-in-Finished-clause-told g c = λ s a h.
    (let w : ℕ = c.args.worker in
    let log : Option Log = log_in w c.args.self.now.logs in
    let spent : ℕ = c.args.self.now.spent in
    let e : Entry = Finished w in
    let fine : judged w log s (what.Finished) ≡ Follows = ap (λ (n : What). judged w log s n) (sym c.in-Finished.is) ∙ h in
    told-ruled _ e s _ _ _ _ spent _ _ (ap (λ (n : What). meaning_of w log spent s n) c.in-Finished.is ∙ meaning-fine (may_follow s e) e (breach w log spent s) fine)
    (c.in_ok-finished-in-Finished.ensures s (a.at)) (omega arith) c.requires.low)

pub returns-in_ok-not_started-in-NotStarted-clause-told : goal.returns-in_ok-not_started-in-NotStarted-clause-told
returns-in_ok-not_started-in-NotStarted-clause-told g c = λ s a h.
    (let w : ℕ = c.args.worker in
    let log : Option Log = log_in w c.args.self.now.logs in
    let spent : ℕ = c.args.self.now.spent in
    let e : Entry = NotStarted w in
    let fine : judged w log s (what.NotStarted) ≡ Follows = ap (λ (n : What). judged w log s n) (sym c.in-NotStarted.is) ∙ h in
    told-ruled _ e s _ _ _ _ spent _ _ (ap (λ (n : What). meaning_of w log spent s n) c.in-NotStarted.is ∙ meaning-fine (may_follow s e) e (breach w log spent s) fine)
    (c.in_ok-not_started-in-NotStarted.ensures s (comes e s _ _ _ a (follows-fine (may_follow s e) fine))) (omega arith) c.requires.low)

pub returns-in-LogStart-clause-told : goal.returns-in-LogStart-clause-told
returns-in-LogStart-clause-told g c = λ s a h. never-follows _ _ (ap (λ (n : What). judged c.args.worker (log_in c.args.worker c.args.self.now.logs) s n) (sym c.in-LogStart.is) ∙ h)
