use Rattle.std.proofs.Common.{◌++◌, ◌∷◌, [], List, ap, sym, ◌∙◌}
use Rattle.xd_journal.specs.declared.entry.Entry.{Entry}
use Rattle.xd_journal.specs.declared.entry.Entry.TheVariants.{Start}
use Rattle.xd_session_books.specs.Books.{books_of}
use Rattle.xd_session_rules.proofs.Starts.{start-next, started-next}
use Rattle.xd_session_rules.proofs.starting.start_all.Goals as goal

pub loop-worker-preserved : goal.loop-worker-preserved
loop-worker-preserved c =
    let i = c.loop-worker.worker in
    record {
      books = started-next (books_of c.args.books.now).settings i _ _ c.loop-worker.invariant.books c.in_ok-start.ensures;
      entries = c.in_ok-note.ensures ∙ ap (λ (es : List Entry). es ++ Start i i ∷ []) c.loop-worker.invariant.entries ∙ sym (start-next (books_of c.args.books.now).settings i);
    }
