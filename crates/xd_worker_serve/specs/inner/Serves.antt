-- How far a worker has come that listens to its link and to its programs.
use Rattle.std.specs.Prelude.{◌≡◌, ℕ, zero, suc, ◌+◌, Bool, true, false, not, List, [], ◌∷◌, ◌++◌, length, map, Option, Some, None}
use Rattle.xd_edge.specs.Files.{Held}
use Rattle.xd_edge.specs.Sink.{Sunk}
use Rattle.xd_post.specs.Post.{Ring}
use Rattle.xd_reader.specs.declared.news.LinkNews.{LinkNews}
use Rattle.xd_reader.specs.declared.news.LinkNews.TheVariants.{Message, End}
use Rattle.xd_reader.specs.declared.news.LinkStop.{LinkStop}
use Rattle.xd_reader.specs.declared.news.LinkStop.TheVariants as link
use Rattle.xd_worker_tests.specs.Line.{running_test}
use Rattle.xd_suite.specs.Tests.{run_at}
use Rattle.xd_worker.specs.declared.input.WorkerInput.{WorkerInput}
use Rattle.xd_worker.specs.declared.worker.WorkerCore.{WorkerCore}
use Rattle.xd_worker.specs.Worker.{Worker, running_in}
use Rattle.xd_worker.specs.History.{HeardInput, worker_after}
use Rattle.xd_worker.specs.Stands.{StandsForInputs}
use Rattle.xd_worker_serve.specs.inner.Running.{call_of_service, rests}
use Rattle.xd_worker.specs.Inputs.{has_link_end, has_terminate, messages_in}
use Rattle.xd_worker_serve.specs.Programs.{commands_in, last_commands}
use Rattle.xd_worker_serve.specs.Took.{TookToLast}
use Rattle.xd_worker_serve.specs.Suites.{asked_path}
use Rattle.xd_worker_serve.specs.declared.server.Door.{Door}
use Rattle.xd_worker_serve.specs.declared.server.Door.TheVariants as door
use Rattle.xd_worker_serve.specs.inner.News.{news_in}
use Rattle.xd_worker_serve.specs.inner.Seen.{Seen, is_door_shut}
use Rattle.xd_worker_serve.specs.Spoke.{Spoke, Voice, voice}
use Rattle.xd_edge.specs.Clock.{Ticking}
use Rattle.xd_worker_serve.specs.Timing.{AreMeasuredSince, durations_in, one_if}

-- what stays while a link is served: the files, the sink, the files' faults and the clock before it, and the rings of the
-- reader, of the runner and of the orders
pub record Setting : Type 0 where
  pub held : Option Held
  pub first : Voice
  pub clock : Ticking
  pub reader : Ring
  pub runner : Ring
  pub orders : Ring

-- a link that is served with these rings, where the outside before it is seen so
abbrev pub setting : Option Held → Option Sunk → ℕ → ℕ → Ticking → Ring → Ring → Ring → Setting
setting held sunk sink_faults file_faults clock reader runner orders = record { held = held; first = voice sunk sink_faults file_faults; clock = clock; reader = reader; runner = runner; orders = orders }

-- what is seen beside the server: the files' faults and the clock
pub record Beside : Type 0 where
  pub file_faults : ℕ
  pub clock : Ticking

-- the files' faults and the clock, where they are seen so
abbrev pub beside : ℕ → Ticking → Beside
beside file_faults clock = record { file_faults = file_faults; clock = clock }

-- what is to be done next: a suite to be read, an item that was taken of the reader or of the runner, and whether a test
-- may have to be started
pub record Owed : Type 0 where
  pub path : Option (List ℕ)
  pub link : Option LinkNews
  pub program : Option LinkNews
  pub starts : Bool

-- nothing is to be done
abbrev pub nothing : Owed
nothing = record { path = None; link = None; program = None; starts = false }

-- an item that was taken of the reader is to be done
abbrev pub owed_of_link : LinkNews → Owed
owed_of_link n = record { path = None; link = Some n; program = None; starts = false }

-- an item that was taken of the runner is to be done
abbrev pub of_program : LinkNews → Owed
of_program n = record { path = None; link = None; program = Some n; starts = false }

-- an item that was taken of the inbox of this number is to be done: 0 is the reader's, the other the runner's
abbrev pub of_inbox : ℕ → LinkNews → Owed
of_inbox zero n = owed_of_link n
of_inbox (suc k) n = of_program n

-- a suite, if any, and then maybe a test
abbrev pub to_start : Option (List ℕ) → Owed
to_start path = record { path = path; link = None; program = None; starts = true }

-- these items, and after them the one that is still to be done, if any
abbrev pub with_item : Option LinkNews → List LinkNews → List LinkNews
with_item None ns = ns
with_item (Some n) ns = ns ++ n ∷ []

-- the desk of two inboxes of which these items were taken
abbrev pub two : Setting → List LinkNews → List LinkNews → List (Option (Ring × List LinkNews))
two a of_reader of_runner = Some (a.reader, of_reader) ∷ Some (a.runner, of_runner) ∷ []

-- The items of the reader are the messages that the worker heard; neither GATEWAY_TERMINATE nor the link's end is among
-- them.
pub record IsListening (inputs : List WorkerInput) (got : List LinkNews) : Type 0 where
  pub got_is : got ≡ map Message (messages_in inputs)
  pub none_last : has_terminate (messages_in inputs) ≡ false
  pub no_end : has_link_end inputs ≡ false

-- The worker heard GATEWAY_TERMINATE as the last message; more items of the reader may have been taken since.
pub record HeardLast (inputs : List WorkerInput) (got : List LinkNews) : Type 0 where
  pub later : List LinkNews
  pub got_is : got ≡ map Message (messages_in inputs) ++ later
  pub last : TookToLast (messages_in inputs)
  pub no_end : has_link_end inputs ≡ false

-- The worker heard the link's end after all messages; more items of the reader may have been taken since.
pub record HeardEnd (inputs : List WorkerInput) (got : List LinkNews) : Type 0 where
  pub later : List LinkNews
  pub got_is : got ≡ map Message (messages_in inputs) ++ End link.Ended ∷ later
  pub none_last : has_terminate (messages_in inputs) ≡ false
  pub end : has_link_end inputs ≡ true

-- What was taken of the reader is what the worker heard, by whether messages are still taken.
abbrev pub FromLink : Door → List WorkerInput → List LinkNews → Type 0
FromLink door.Open inputs got = IsListening inputs got
FromLink door.Terminated inputs got = HeardLast inputs got
FromLink door.Ended inputs got = HeardEnd inputs got

-- this end of the reader was taken
abbrev pub IsEndTaken : Option LinkStop → List LinkNews → Type 0
IsEndTaken None got = Unit {0}
IsEndTaken (Some why) got = (earlier : List LinkNews) × (later : List LinkNews) × (got ≡ earlier ++ End why ∷ later)

-- a test runs in this worker
pub record IsBusy (w : Worker) : Type 0 where
  pub test : ℕ
  pub runs : running_test (call_of_service w.duties.service) ≡ Some test
  pub busy : rests (call_of_service w.duties.service).phase ≡ false

-- A test runs in this worker where one was started, and where one is to be started by this command.
abbrev pub RunsSo : Option ℕ → List (List (List ℕ)) → Worker → Type 0
RunsSo None [] w = (call_of_service w.duties.service).running ≡ false
RunsSo (Some moment) [] w = IsBusy w
RunsSo None (command ∷ more) w = (b : IsBusy w) × (command ≡ run_at w.duties.tests b.test) × (more ≡ [])
RunsSo (Some moment) (command ∷ more) w = ⊥

-- where a suite is to be read, nothing runs and the link has not ended
abbrev pub ReadsSo : Option (List ℕ) → Option ℕ → List (List (List ℕ)) → Door → Worker → Type 0
ReadsSo None started left d w = Unit {0}
ReadsSo (Some path) started left d w = (w.duties.owed ≡ true) × (started ≡ None) × (left ≡ []) × (d ≡ door.Open)

-- no command is empty
abbrev pub NoneEmpty : List (List (List ℕ)) → Type 0
NoneEmpty [] = Unit {0}
NoneEmpty (command ∷ more) = (command ≡ [] → ⊥) × NoneEmpty more

-- this test runs in a worker, whatever it took
abbrev pub RunsTest : ℕ → WorkerCore → Type 0
RunsTest test core = (h : List HeardInput) → StandsForInputs core h → running_in (worker_after h).duties.service ≡ Some test

-- the commands that are left: where a test may have to be started those that the last input starts, and else none
abbrev pub left_commands : Bool → List HeardInput → List (List (List ℕ))
left_commands true h = last_commands h
left_commands false h = []

-- The four parts of `ServesSoFar` are record types that have no names of their own: so a part is of one and the same type
-- for two servers that differ only in what it does not name.

-- What the worker heard and what it said to that, and the items of the reader that were done. Its history asks for this
-- suite, if for any.
abbrev pub HeardSoFar : Setting → Beside → Option (List ℕ) → Seen → Type 0
HeardSoFar a now path s = record {
  inputs : List WorkerInput;
  history : List HeardInput;
  of_reader : List LinkNews;
  spoke : Spoke a.held inputs history (not s.broken) a.first (voice s.sunk s.sink_faults now.file_faults);
  stands : StandsForInputs s.core history;
  path_is : asked_path history ≡ path;
  from_link : FromLink s.door inputs of_reader;
  stopped : (worker_after history).duties.stopped ≡ is_door_shut s.door;
}

-- What was ordered, through one ring: a program for each of these durations, and the one that runs, if one does. They
-- were measured so, and no command is empty.
abbrev pub OrderedSoFar : Setting → Beside → Seen → List ℕ → Type 0
OrderedSoFar a now s durations = record {
  each : length s.orders ≡ length durations + one_if s.started;
  timed : AreMeasuredSince s.started durations a.clock now.clock;
  some : NoneEmpty s.orders;
  ring : s.ring ≡ a.orders;
}

-- What is left to be started, or read: what was ordered and what is left are the commands of the history. Where no test
-- may have to be started the sink is whole.
abbrev pub LeftSoFar : Owed → Seen → List HeardInput → Type 0
LeftSoFar owed s history = record {
  commands : commands_in history ≡ s.orders ++ left_commands owed.starts history;
  whole : owed.starts ≡ false → s.broken ≡ false;
  runs : RunsSo s.started (left_commands owed.starts history) (worker_after history);
  reads : ReadsSo owed.path s.started (left_commands owed.starts history) s.door (worker_after history);
}

-- What was taken of the desk: these items of the reader and of the runner, which were done, and the one that is still to
-- be done, if any. An end of the reader that is noted is among them.
abbrev pub TakenSoFar : Setting → Owed → Seen → List LinkNews → List LinkNews → Type 0
TakenSoFar a owed s of_reader of_runner = record {
  mails_are : s.mails ≡ two a (with_item owed.link of_reader) (with_item owed.program of_runner);
  noted : IsEndTaken s.link_stop (with_item owed.link of_reader);
}

-- All that was taken of the desk was done, but for what is owed: what was spoken, what was ordered, and what was measured.
pub record ServesSoFar (a : Setting) (now : Beside) (owed : Owed) (s : Seen) : Type 0 where
  pub heard : HeardSoFar a now owed.path s
  pub ordered : OrderedSoFar a now s (durations_in heard.inputs)
  pub left : LeftSoFar owed s heard.history
  pub taken : TakenSoFar a owed s heard.of_reader (news_in heard.inputs)
