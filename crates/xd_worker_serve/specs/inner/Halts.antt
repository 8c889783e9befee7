-- Why a worker listens no more.
use Rattle.std.specs.Prelude.{◌≡◌, ◌⊎◌, ◌<◌, ◌≤◌, ℕ, zero, suc, ◌+◌, Bool, true, false, List, [], ◌∷◌, ◌++◌, length, map, Option, Some, None}
use Rattle.xd_edge.specs.Limits.{most_piece_bytes}
use Rattle.xd_edge.specs.Sink.{Sunk}
use Rattle.xd_post.specs.Post.{Ring}
use Rattle.xd_reader.specs.declared.news.LinkNews.{LinkNews}
use Rattle.xd_reader.specs.declared.news.LinkNews.TheVariants as news
use Rattle.xd_reader.specs.declared.news.LinkStop.{LinkStop}
use Rattle.xd_reader.specs.declared.news.LinkStop.TheVariants as link
use Rattle.xd_frame.specs.Message.{MessageView}
use Rattle.xd_worker.specs.declared.input.WorkerInput.{WorkerInput}
use Rattle.xd_worker.specs.declared.input.WorkerInput.TheVariants.{Message}
use Rattle.xd_worker.specs.History.{HeardInput, RefusesFor, is_worker_over, worker_after}
use Rattle.xd_worker.specs.declared.input.WorkerFault.{WorkerFault}
use Rattle.xd_worker.specs.declared.input.WorkerFault.TheVariants as fault
use Rattle.xd_worker.specs.Inputs.{has_link_end, has_terminate, messages_in}
use Rattle.xd_worker_serve.specs.Took.{TookToLast}
use Rattle.xd_worker_serve.specs.Suites.{asked_path}
use Rattle.xd_worker_serve.specs.Programs.{AreLeft, commands_in}
use Rattle.xd_worker_serve.specs.declared.stop.Stop.{Stop}
use Rattle.xd_worker_serve.specs.declared.stop.Stop.TheVariants as stop
use Rattle.xd_worker_serve.specs.declared.server.Door.{Door}
use Rattle.xd_worker_serve.specs.declared.server.Door.TheVariants as door
use Rattle.xd_worker_serve.specs.declared.server.Halt.{Halt}
use Rattle.xd_worker_serve.specs.declared.server.Halt.TheVariants as halt
use Rattle.xd_worker_serve.specs.inner.News.{dones, news_in}
use Rattle.xd_worker_serve.specs.inner.Seen.{Seen}
use Rattle.xd_worker_serve.specs.inner.Serves.{Beside, NoneEmpty, ServesSoFar, Setting, IsEndTaken, nothing, two}
use Rattle.xd_worker_serve.specs.Spoke.{Spoke, voice}
use Rattle.xd_worker_serve.specs.Timing.{Times, one_if}

-- the exit status: 0 where GATEWAY_TERMINATE came or the link ended at a message's edge
abbrev pub worker_status_of : Stop → ℕ
worker_status_of stop.NotRun = 3
worker_status_of stop.Terminated = 0
worker_status_of stop.Ended = 0
worker_status_of stop.Cut = 3
worker_status_of (stop.Header fault) = 3
worker_status_of (stop.Message fault) = 3
worker_status_of stop.ReadFault = 3
worker_status_of stop.WriteFault = 3

-- the sink is whole, but where it failed
abbrev pub is_sink_whole : Stop → Bool
is_sink_whole stop.NotRun = true
is_sink_whole stop.Terminated = true
is_sink_whole stop.Ended = true
is_sink_whole stop.Cut = true
is_sink_whole (stop.Header fault) = true
is_sink_whole (stop.Message fault) = true
is_sink_whole stop.ReadFault = true
is_sink_whole stop.WriteFault = false

-- what is known of the messages that the worker heard, and of the item after them, where it listens no more
abbrev pub Ceases : Stop → List WorkerInput → List HeardInput → List LinkNews → Type 0
Ceases stop.NotRun inputs h preceding = ⊥
Ceases stop.Terminated inputs h preceding = TookToLast (messages_in inputs) × (has_link_end inputs ≡ false) × (is_worker_over (worker_after h) ≡ true)
Ceases stop.Ended inputs h preceding = (preceding ≡ news.End link.Ended ∷ []) × (has_terminate (messages_in inputs) ≡ false) × (has_link_end inputs ≡ true) × (is_worker_over (worker_after h) ≡ true)
Ceases stop.Cut inputs h preceding = (preceding ≡ news.End link.Cut ∷ []) × (has_terminate (messages_in inputs) ≡ false)
Ceases (stop.Header fault) inputs h preceding = (preceding ≡ news.End (link.Garbled fault) ∷ []) × (has_terminate (messages_in inputs) ≡ false)
Ceases (stop.Message fault) inputs h preceding = (m : MessageView) × (preceding ≡ news.Message m ∷ []) × (has_terminate (messages_in inputs) ≡ false) × (has_link_end inputs ≡ false) × RefusesFor (worker_after h) (Message m) fault
Ceases stop.ReadFault inputs h preceding = (preceding ≡ news.End link.ReadFault ∷ []) × (has_terminate (messages_in inputs) ≡ false)
Ceases stop.WriteFault inputs h preceding = Unit {0}

-- Like the parts of `ServesSoFar`, these record types and `Stray` below have no names of their own.

-- What was taken of both inboxes. An end of the reader that is noted is among it, and where no job ran out of memory the end
-- of each program that was ordered, but for the one that runs.
abbrev pub TakenInAll : Setting → Seen → List LinkNews → List LinkNews → Type 0
TakenInAll a s of_reader of_runner = record {
  mails_are : s.mails ≡ two a of_reader of_runner;
  noted : IsEndTaken s.link_stop of_reader;
  drained : s.short ≡ false → length s.orders ≤ dones of_runner + one_if s.started;
}

-- What the worker heard until it listened no more, for this reason, what it said to that, and what was ordered. `preceding`
-- is the item of the reader at which it ceased, if it did so at one, and `running` says how many programs ran then: one, or
-- none.
abbrev pub HeardInAll : Setting → Beside → Stop → Seen → Type 0
HeardInAll a now why s = record {
  inputs : List WorkerInput;
  history : List HeardInput;
  left : List (List (List ℕ));
  preceding : List LinkNews;
  running : ℕ;
  spoke : Spoke a.held inputs history (is_sink_whole why) a.first (voice s.sunk s.sink_faults now.file_faults);
  path_is : is_sink_whole why ≡ true → asked_path history ≡ None;
  cause : Ceases why inputs history preceding;
  commands : commands_in history ≡ s.orders ++ left;
  left_is : AreLeft (is_sink_whole why) left history;
  count : length s.orders ≡ dones (news_in inputs) + running;
  one : running ≤ 1;
  times : Times inputs s.orders a.clock now.clock;
  idle : worker_status_of why ≡ 0 → running ≡ 0;
  some : NoneEmpty s.orders;
  ring : s.ring ≡ a.orders;
}

-- The worker listens no more, and this is why. More items may have been taken since: those that are later or unheard.
abbrev pub Ceased : Setting → Beside → Stop → Seen → Type 0
Ceased a now why s = record {
  heard : HeardInAll a now why s;
  of_reader : List LinkNews;
  of_runner : List LinkNews;
  later : List LinkNews;
  unheard : List LinkNews;
  taken : TakenInAll a s of_reader of_runner;
  from_link : of_reader ≡ map news.Message (messages_in heard.inputs) ++ (heard.preceding ++ later);
  from_programs : of_runner ≡ news_in heard.inputs ++ unheard;
}

-- An item that no reader puts.
abbrev pub IsStrange : LinkNews → Type 0
IsStrange (news.Message m) = ⊥
IsStrange (news.End link.Ended) = ⊥
IsStrange (news.End link.Cut) = ⊥
IsStrange (news.End (link.Garbled fault)) = ⊥
IsStrange (news.End (link.BadGreeting b)) = Unit {0}
IsStrange (news.End link.ReadFault) = ⊥
IsStrange (news.End link.OutOfMemory) = ⊥
IsStrange (news.Output b) = Unit {0}
IsStrange (news.ChildDone outcome) = Unit {0}

-- An item that no runner puts while that many programs run: a message, any end but OutOfMemory, and what comes of a
-- program where none runs, or in pieces that are too large.
abbrev pub IsUncalled : ℕ → LinkNews → Type 0
IsUncalled running (news.Message m) = Unit {0}
IsUncalled running (news.End link.Ended) = Unit {0}
IsUncalled running (news.End link.Cut) = Unit {0}
IsUncalled running (news.End (link.Garbled fault)) = Unit {0}
IsUncalled running (news.End (link.BadGreeting b)) = Unit {0}
IsUncalled running (news.End link.ReadFault) = Unit {0}
IsUncalled running (news.End link.OutOfMemory) = ⊥
IsUncalled running (news.Output b) = (running ≡ 0) ⊎ (most_piece_bytes < length b)
IsUncalled running (news.ChildDone outcome) = running ≡ 0

-- An item that could not come while this many programs ran. Where it is of the reader these messages came before it, and
-- where it is of the runner what precedes it.
abbrev pub Stray : Setting → Seen → Type 0
Stray a s = record {
  item : LinkNews;
  messages : List MessageView;
  preceding : List LinkNews;
  running : ℕ;
  count : length s.orders ≡ dones preceding + running;
  some : NoneEmpty s.orders;
  ring : s.ring ≡ a.orders;
}

-- This item is among those of the reader, after these messages, and no reader puts it; or it is among those of the runner,
-- after these items, and no runner puts it while this many programs run.
abbrev pub Strays : LinkNews → List MessageView → List LinkNews → ℕ → List LinkNews → List LinkNews → Type 0
Strays item messages preceding running of_reader of_runner =
    ((later : List LinkNews) × (of_reader ≡ map news.Message messages ++ item ∷ later) × IsStrange item) ⊎ ((later : List LinkNews) × (of_runner ≡ preceding ++ item ∷ later) × IsUncalled running item)

-- An item was taken that could not come.
pub record Strayed (a : Setting) (s : Seen) : Type 0 where
  pub stray : Stray a s
  pub of_reader : List LinkNews
  pub of_runner : List LinkNews
  pub taken : TakenInAll a s of_reader of_runner
  pub strays : Strays stray.item stray.messages stray.preceding stray.running of_reader of_runner

-- a message was refused for this reason, or memory ran out, of which nothing is said
abbrev pub CeasesBy : WorkerFault → Setting → Beside → Seen → Type 0
CeasesBy (fault.Link f) a now s = Ceased a now (stop.Message f) s
CeasesBy fault.OutOfMemory a now s = Unit {0}

-- whether messages are still taken after one that is GATEWAY_TERMINATE, or is not
abbrev pub door_after : Bool → Door → Door
door_after true d = door.Terminated
door_after false d = d

-- why no more is taken, where GATEWAY_TERMINATE or the link's end came
abbrev pub over_by : Door → Option Halt
over_by door.Open = None
over_by door.Terminated = Some (halt.At stop.Terminated)
over_by door.Ended = Some (halt.At stop.Ended)

-- for this reason, unless messages are taken no more
abbrev pub unless_shut : Bool → Halt → Option Halt
unless_shut true h = None
unless_shut false h = Some h

-- ---- items that are dropped after that

-- the reader's end, where this item of this inbox is one
abbrev pub noted_end : ℕ → LinkNews → Option LinkStop → Option LinkStop
noted_end zero (news.End why) old = Some why
noted_end n item old = old

-- a program runs no more where its end comes, or the runner's
abbrev pub still_started : ℕ → LinkNews → Option ℕ → Option ℕ
still_started (suc k) (news.End why) old = None
still_started (suc k) (news.ChildDone outcome) old = None
still_started n item old = old

-- a job ran out of memory: it did so before, or the runner's end comes, or this end of the reader
abbrev pub is_short_by : ℕ → LinkNews → Bool → Bool
is_short_by (suc k) (news.End why) old = true
is_short_by zero (news.End link.OutOfMemory) old = true
is_short_by n item old = old

-- what is seen of a server that took this item of this inbox and dropped it
abbrev pub without_item : ℕ → LinkNews → List (Option (Ring × List LinkNews)) → Seen → Seen
without_item n item mails s = record s {
  mails = mails;
  link_stop = noted_end n item s.link_stop;
  started = still_started n item s.started;
  short = is_short_by n item s.short;
}

-- what is seen of a server whose sink took this, with this count of faults
abbrev pub at_sink : Option Sunk → ℕ → Seen → Seen
at_sink sunk faults s = record s { sunk = sunk; sink_faults = faults }

-- The worker goes on, or listens no more.
abbrev pub Goes : Option Halt → Setting → Beside → Seen → Type 0
Goes None a now s = ServesSoFar a now nothing s
Goes (Some (halt.At why)) a now s = Ceased a now why s
Goes (Some halt.Astray) a now s = Strayed a s
