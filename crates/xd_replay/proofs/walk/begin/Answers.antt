use Rattle.std.proofs.Common.{◌≡◌, ap, sym, subst, ◌∙◌, refl}
use Rattle.xd_journal.specs.declared.settings.Settings.{Settings}
use Rattle.xd_run.specs.Books.{Books}
use Rattle.xd_run.specs.Histories.{after_starts, starts_from}
use Rattle.xd_run.specs.State.{after_entries, no_one}
use Rattle.xd_session_books.specs.Books.{books_of}
use Rattle.xd_session_books.specs.Known.{Known}
use Rattle.xd_session_rules.specs.Rules.{At}
use Rattle.xd_session_rules.proofs.Starts.{begun-at}
use Rattle.xd_replay.proofs.walk.begin.Goals as goal

pub returns-clause-begun : goal.returns-clause-begun
returns-clause-begun g c =
    let e : (books_of c.in_ok-books.books).settings ≡ c.args.settings = ap (λ (b : Books). b.settings) c.in_ok-books.ensures in
    record {
      at = subst (λ (k : Known). At (after_starts c.args.settings) (books_of c.start_all.new.books) k (g.M.Mode.stands c.args.mode)) (sym c.new-2.ensures)
          (begun-at c.args.settings c.args.settings.workers (books_of c.start_all.new.books) (g.M.Mode.stands c.args.mode) c.requires.fresh
          (c.in_ok-start_all.ensures.books ∙ ap (λ (s : Settings). (after_entries (no_one s) (starts_from 0 c.args.settings.workers)).books) e));
      none_spent = refl;
    }
