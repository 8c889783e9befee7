-- What is seen of a worker that listens to its link and to its programs.
use Rattle.std.specs.Prelude.{ℕ, Bool, true, false, List, Option}
use Rattle.xd_edge.specs.Sink.{Sunk}
use Rattle.xd_post.specs.Mails.{mails}
use Rattle.xd_post.specs.Post.{Ring, put, ring_of_sender}
use Rattle.xd_reader.specs.declared.news.LinkNews.{LinkNews}
use Rattle.xd_reader.specs.declared.news.LinkStop.{LinkStop}
use Rattle.xd_worker.specs.declared.worker.WorkerCore.{WorkerCore}
use Rattle.xd_worker_serve.specs.declared.server.Door.{Door}
use Rattle.xd_worker_serve.specs.declared.server.Door.TheVariants.{Open, Terminated, Ended}
use Rattle.xd_worker_serve.specs.declared.server.Server.{Server}

-- the worker and its sink, the items that were taken by their inboxes, the orders that were put and their ring, when
-- the running test was started, whether messages are still taken, the reader's end, and whether a job ran out of memory
pub record Seen : Type 0 where
  pub core : WorkerCore
  pub broken : Bool
  pub sunk : Option Sunk
  pub sink_faults : ℕ
  pub mails : List (Option (Ring × List LinkNews))
  pub orders : List (List (List ℕ))
  pub ring : Ring
  pub started : Option ℕ
  pub door : Door
  pub link_stop : Option LinkStop
  pub short : Bool

-- GATEWAY_TERMINATE or the link's end came
abbrev pub is_door_shut : Door → Bool
is_door_shut Open = false
is_door_shut Terminated = true
is_door_shut Ended = true

module _ {N : Type 0} where
  -- what is seen of a server whose sink tells this of what it took and of its faults
  abbrev pub seen : (N → Option Sunk) → (N → ℕ) → Server N → Seen
  seen sunk faults s = record {
    core = s.speaker.core;
    broken = s.speaker.is_broken;
    sunk = sunk s.speaker.sink;
    sink_faults = faults s.speaker.sink;
    mails = mails s.desk;
    orders = put s.orders;
    ring = ring_of_sender s.orders;
    started = s.started;
    door = s.door;
    link_stop = s.link_stop;
    short = s.is_short;
  }
