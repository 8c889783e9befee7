use Rattle.std.proofs.Common.{refl}
use Rattle.xd_session_books.specs.Books.{books_of}
use Rattle.xd_session_books.proofs.Loops.{tell-step, note-step}
use Rattle.xd_session_rules.proofs.outputs.tell_all.Goals as goal

pub loop-i-preserved : goal.loop-i-preserved
loop-i-preserved c = record {
  books = tell-step c.args.workers.now c.loop-i.i _ (books_of c.args.books.now) _ _ c.loop-i-test.true refl c.loop-i.invariant.books c.tell.ensures;
  entries = note-step c.args.workers.now c.loop-i.i _ c.args.entries.now.items _ _ c.loop-i-test.true refl c.loop-i.invariant.entries c.in_ok-note.ensures;
}
