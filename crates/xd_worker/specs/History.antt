-- What a list of inputs makes a worker say and start. The last of them stands first.
use Rattle.std.specs.Prelude.{◌≡◌, ◌<◌, ℕ, List, [], ◌∷◌, ◌++◌, length, ◌&&◌, Bool, Some, is_none, Result, Ok, Err, codes}
use Rattle.std.specs.Str.{encode_utf8_all}
use Rattle.xd_frame.specs.Message.{MessageView}
use Rattle.xd_factory.specs.declared.faults.SideFault.{SideFault}
use Rattle.xd_factory.specs.Said.{Means}
use Rattle.xd_suite.specs.declared.fault.SuiteFault.{SuiteFault}
use Rattle.xd_suite.specs.declared.test.Test.{Test}
use Rattle.xd_suite.specs.Suite.{IsSuiteOf, IsFaulty}
use Rattle.xd_suite.specs.FaultText.{fault_text}
use Rattle.xd_journal.specs.declared.news.What.{What}
use Rattle.xd_journal.specs.declared.news.What.TheVariants.{Collected}
use Rattle.xd_worker.specs.declared.input.WorkerInput.{WorkerInput}
use Rattle.xd_worker.specs.declared.input.WorkerInput.TheVariants.{Message, SuiteBytes, SuiteTooLarge, SuiteUnread, Output, ChildDone, LinkEnd}
use Rattle.xd_factory.specs.SideTable.{ChannelTable, RefusedBy, MustRefuse, heard_of_message, lost}
use Rattle.xd_worker.specs.Worker.{Worker, WorkerTurn, new_worker, worker_turn_of, after_turn, running_in}
use Rattle.xd_worker.specs.Turns.{Came, Told, SuiteRead, NoSuite, Printed, ChildEnded, LinkEnded, worker_turned}

-- an input, and how many channels are in the table after it came, before anything is done
pub record HeardInput : Type 0 where
  pub came : Came
  pub channels : ℕ

-- what an input makes a worker do
abbrev pub turn_by : Worker → HeardInput → WorkerTurn
turn_by w g = worker_turned g.came g.channels (worker_turn_of w)

-- the worker after these inputs
abbrev pub worker_after : List HeardInput → Worker
worker_after [] = new_worker
worker_after (g ∷ h) = after_turn (turn_by (worker_after h) g)

-- all that was said, in order
-- Example: after CHANNEL_EXEC of `fail` without a text: CHANNEL_CLOSE_ERROR with `fail`, and no test was started.
abbrev pub all_said : List HeardInput → List MessageView
all_said [] = []
all_said (g ∷ h) = all_said h ++ (turn_by (worker_after h) g).talk.says

-- A test that runs, or that is started, is one of the suite that was read.
pub record WorkerKnowsTests : Type 0 where
  pub runs : (h : List HeardInput) (k : ℕ) → running_in (worker_after h).duties.service ≡ Some k → k < length (worker_after h).duties.tests
  pub starts : (h : List HeardInput) (g : HeardInput) (k : ℕ) → (turn_by (worker_after h) g).run ≡ Some k → k < length (worker_after (g ∷ h)).duties.tests

-- the worker is to end, and no test runs
abbrev pub is_worker_over : Worker → Bool
is_worker_over w = w.duties.stopped && is_none (running_in w.duties.service)

-- why there is no suite, in words
abbrev pub IsFaultText : List ℕ → List ℕ → Type 0
IsFaultText b text = (fault : SuiteFault) × IsFaulty b fault × (encode_utf8_all text ≡ fault_text fault)

-- what a message is: it says this
abbrev pub MessageSays : MessageView → Came → Type 0
MessageSays m (Told said) = Means m said
MessageSays m _ = ⊥

-- what the bytes of a suite file are for the worker: its tests, or why there are none
abbrev pub IsSuite : List ℕ → Came → Type 0
IsSuite b (SuiteRead tests) = IsSuiteOf b tests
IsSuite b (NoSuite text) = IsFaultText b text
IsSuite b _ = ⊥

-- what the reading of these bytes gives: the tests of a suite, or in words why they are none
abbrev pub IsRead : List ℕ → Result (List Test) (List ℕ) → Type 0
IsRead b (Ok tests) = IsSuiteOf b tests
IsRead b (Err text) = IsFaultText b text

-- the event that tells a collection: `collectionfinish` of pytest-xdist's remote.py
abbrev pub IsCollected : What → Type 0
IsCollected (Collected ids) = Unit {0}
IsCollected _ = ⊥

-- what an input of the code is among the inputs of the definitions
abbrev pub Is : WorkerInput → Came → Type 0
Is (Message m) came = MessageSays m came
Is (SuiteBytes b) came = IsSuite b came
Is SuiteTooLarge came = came ≡ NoSuite (codes "suite is too large")
Is SuiteUnread came = came ≡ NoSuite (codes "suite cannot be read")
Is (Output b) came = came ≡ Printed b
Is (ChildDone outcome ms) came = came ≡ ChildEnded outcome ms
Is LinkEnd came = came ≡ LinkEnded

-- the table in which the channels are counted
abbrev pub table_after : Came → ChannelTable → ChannelTable
table_after (Told said) t = heard_of_message said t
table_after (SuiteRead ts) t = t
table_after (NoSuite text) t = t
table_after (Printed b) t = t
table_after (ChildEnded outcome ms) t = t
table_after LinkEnded t = lost t

-- a refusal has its reason
abbrev pub RefusesFor : Worker → WorkerInput → SideFault → Type 0
RefusesFor w (Message m) fault = RefusedBy w.table.fault w.table m fault
RefusesFor w _ fault = ⊥

-- a message that is to be refused
abbrev pub IsInputToRefuse : Worker → WorkerInput → SideFault → Type 0
IsInputToRefuse w (Message m) fault = MustRefuse w.table.fault w.table m fault
IsInputToRefuse w _ fault = ⊥
