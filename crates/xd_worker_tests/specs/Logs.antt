-- The logs of the tests that a call of the function runs.
use Rattle.std.specs.Prelude.{◌≡◌, ◌≤◌, ◌+◌, ℕ, List, [], ◌∷◌, Bool, true, false, if◌then◌else◌}
use Rattle.xd_journal.specs.declared.news.What.{What}
use Rattle.xd_journal.specs.declared.news.What.TheVariants.{LogStart}
use Rattle.xd_worker_tests.specs.declared.ask.Ask.{Ask}
use Rattle.xd_worker_tests.specs.declared.ask.Ask.TheVariants.{Tell, Piece, CloseLog, End}
use Rattle.xd_worker_tests.specs.declared.phase.Phase.TheVariants.{Stopped}
use Rattle.xd_worker_tests.specs.Line.{FunctionCall, number_of_log}
use Rattle.xd_worker_tests.specs.History.{Given, call_after, turn_after}

-- how many logs were opened, and whether the last of them is open
pub record Logs : Type 0 where
  pub count : ℕ
  pub is_open : Bool

-- how many tests were started
abbrev pub begun_tests : FunctionCall → ℕ
begun_tests c = c.ended + (if c.running then 1 else 0)

-- each test that was started has one log, which is open while the test runs
abbrev pub logs_of : FunctionCall → Logs
logs_of c = record { count = begun_tests c; is_open = c.running }

-- a log opens where none is open and the table has room; its number is the next own one, and no larger than the largest
abbrev pub EventStep : Bool → What → Logs → Logs → Type 0
EventStep room (LogStart n log) l k = (room ≡ true) × (l.is_open ≡ false) × (log ≡ number_of_log l.count) × (log ≤ 2147483647) × (k ≡ record { count = l.count + 1; is_open = true })
EventStep room _ l k = k ≡ l

-- a piece and a close are of the log that opened last, and the function ends with no log open
abbrev pub LogStep : Bool → Ask → Logs → Logs → Type 0
LogStep room (Tell event) l k = EventStep room event l k
LogStep room (Piece log b) l k = (l.is_open ≡ true) × (log + 2 ≡ number_of_log l.count) × (k ≡ l)
LogStep room (CloseLog log) l k = (l.is_open ≡ true) × (log + 2 ≡ number_of_log l.count) × (k ≡ record { count = l.count; is_open = false })
LogStep room (End text) l k = (l.is_open ≡ false) × (k ≡ l)

-- all of these asks, one after another
abbrev pub LogSteps : Bool → List Ask → Logs → Logs → Type 0
LogSteps room [] l k = k ≡ l
LogSteps room (a ∷ asks) l k = (m : Logs) × LogStep room a l m × LogSteps room asks m k

-- Whatever comes, one log is open at a time: it is that of the running test, and has the number that its start named.
-- After GATEWAY_TERMINATE and the link's end nothing is asked for.
-- Example: two tests ran: the logs 2 and 4 were opened.
pub record OneLog : Type 0 where
  pub steps : (h : List Given) (g : Given) → ((call_after h).phase ≡ Stopped → ⊥) → LogSteps g.room (turn_after h g).asks (logs_of (call_after h)) (logs_of (turn_after h g).call)
  pub silent : (h : List Given) (g : Given) → (call_after h).phase ≡ Stopped → ((turn_after h g).asks ≡ []) × (begun_tests (turn_after h g).call ≡ begun_tests (call_after h)) × ((turn_after h g).call.phase ≡ Stopped)
