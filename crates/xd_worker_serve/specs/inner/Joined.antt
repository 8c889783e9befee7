-- What came back of a worker's two jobs.
use Rattle.std.specs.Prelude.{◌≡◌, ℕ, false, List, [], ◌∷◌, ◌++◌, Some, None}
use Rattle.xd_link.specs.Spring.{Spring}
use Rattle.xd_post.specs.Post.{Ring}
use Rattle.xd_reader.specs.declared.news.LinkNews.{LinkNews}
use Rattle.xd_reader.specs.declared.news.LinkStop.{LinkStop}
use Rattle.xd_reader.specs.Reads.{PutsAll}
use Rattle.xd_worker_runner.specs.Orders.{Mails, RunsOrders, ProgramsSeen as Programs}
use Rattle.xd_worker_serve.specs.inner.Seen.{Seen}
use Rattle.xd_worker_serve.specs.inner.Serves.{Setting}

-- the source and the programs before a link is served
pub record Sources : Type 0 where
  pub source : Spring
  pub programs : Programs

-- what the jobs gave back: the source and the programs, the mailboxes into which they put, and the desk of the orders
pub record Back : Type 0 where
  pub source : Spring
  pub programs : Programs
  pub reader_ring : Ring
  pub reader_put : List LinkNews
  pub runner_ring : Ring
  pub runner_put : List LinkNews
  pub mails : Mails

-- two jobs gave back these parts
abbrev pub back : Spring → Programs → Ring → List LinkNews → Ring → List LinkNews → Mails → Back
back source programs reader_ring reader_put runner_ring runner_put mails = record {
  source = source;
  programs = programs;
  reader_ring = reader_ring;
  reader_put = reader_put;
  runner_ring = runner_ring;
  runner_put = runner_put;
  mails = mails;
}

-- Both jobs came to their end: the reader at this stop, which was taken, and the runner after the empty order, with no
-- program running.
pub record Joined (a : Setting) (before : Sources) (s : Seen) (stop : LinkStop) (ring : Ring) (ordered : List (List (List ℕ))) (back : Back) : Type 0 where
  pub noted : s.link_stop ≡ Some stop
  pub idle : s.started ≡ None
  pub memory : s.short ≡ false
  pub reads : PutsAll false before.source back.source [] back.reader_put
  pub reader_is : back.reader_ring ≡ a.reader
  pub runner_is : back.runner_ring ≡ a.runner
  pub mails : Mails
  pub no_orders : mails ≡ Some (ring, []) ∷ []
  pub runs : RunsOrders mails back.mails before.programs back.programs [] back.runner_put
  pub ordered_are : ordered ≡ s.orders ++ [] ∷ []
