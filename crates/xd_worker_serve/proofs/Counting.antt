-- How many programs ended among some news.
use Rattle.std.proofs.Common.{◌≡◌, ℕ, ◌+◌, List, [], ◌∷◌, ◌++◌, arith}
use Rattle.xd_journal.specs.declared.entry.Outcome.{Outcome}
use Rattle.xd_reader.specs.declared.news.LinkNews.{LinkNews}
use Rattle.xd_reader.specs.declared.news.LinkNews.TheVariants as news
use Rattle.xd_worker_serve.specs.inner.News.{dones}

pub dones-append : (a b : List LinkNews) → dones (a ++ b) ≡ dones a + dones b
dones-append [] b = omega arith
dones-append (news.Message m ∷ a) b = dones-append a b
dones-append (news.End why ∷ a) b = dones-append a b
dones-append (news.Output x ∷ a) b = dones-append a b
dones-append (news.ChildDone o ∷ a) b = let e = dones-append a b in omega (arith, e)

pub dones_piece : (a : List LinkNews) (piece : List ℕ) → dones (a ++ news.Output piece ∷ []) ≡ dones a
dones_piece a piece = let e = dones-append a (news.Output piece ∷ []) in omega (arith, e)

pub dones_done : (a : List LinkNews) (o : Outcome) → dones (a ++ news.ChildDone o ∷ []) ≡ dones a + 1
dones_done a o = let e = dones-append a (news.ChildDone o ∷ []) in omega (arith, e)
