use Rattle.std.proofs.Common.{◌-◌, length}
use Rattle.xd_session_books.specs.Books.{books_of}
use Rattle.xd_session_books.specs.Known.{known_by}
use Rattle.xd_replay.specs.inner.Replayed.{Replayed}
use Rattle.xd_replay.proofs.walk.check_with.Given as goal

abbrev pub decreases-loop-count : goal.decreases-loop-count
decreases-loop-count g l = length l.entries - l.count

abbrev pub invariant-loop-count : goal.invariant-loop-count
invariant-loop-count g l = Replayed l.fn.settings l.entries l.count l.replay.spent (books_of l.replay.state.books) (known_by l.replay.state.known) (g.M.Mode.stands l.replay.state.mode)
