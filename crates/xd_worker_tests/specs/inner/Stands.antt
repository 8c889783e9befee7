-- How the parts of a `RunTests` stand for a call of the function.
use Rattle.std.specs.Prelude.{◌≡◌, ℕ, ◌+◌, ◌<◌, List, [], ◌∷◌, ◌++◌, length, Bool, true, false, Option, Some, None, is_some, option_to_list, slice_index_or, slice_set, slice_get, not, ◌&&◌, map, if◌then◌else◌}
use Rattle.xd_worker_tests.specs.declared.line_entry.LineEntry.{LineEntry}
use Rattle.xd_worker_tests.specs.declared.line_entry.LineEntry.TheVariants.{Test, Mark}
use Rattle.xd_worker_tests.specs.declared.line_entry.Standing.{Standing}
use Rattle.xd_worker_tests.specs.declared.line_entry.Standing.TheVariants.{Free, Queued, Passed}
use Rattle.xd_worker_tests.specs.declared.phase.Phase.TheVariants.{Serving}
use Rattle.xd_worker_tests.specs.declared.run_tests.Running.{Running}
use Rattle.xd_worker_tests.specs.declared.ask.Acts.{Acts}
use Rattle.xd_worker_tests.specs.declared.run_tests.steal.Asked.{Asked}
use Rattle.xd_worker_tests.specs.declared.run_tests.steal.Asked.TheVariants.{Bad, Missing, Marked}
use Rattle.xd_worker_tests.specs.declared.run_tests.RunTests.{RunTests}
use Rattle.xd_worker_tests.specs.Line.{FunctionCall, running_test, number_of_log, has_test, can_give, can_ask, is_among, stolen_tests, kept}
use Rattle.xd_worker_tests.specs.Turns.{CallTurn}

-- the running test as an entry of the line, if one runs
abbrev pub running_places : Option Running → List LineEntry
running_places None = []
running_places (Some r) = Test r.test ∷ []

-- the number of the running test, if one runs
abbrev pub test_of_running : Option Running → Option ℕ
test_of_running None = None
test_of_running (Some r) = Some r.test

-- where the tests stand once this entry is before the queue
abbrev pub passing : List Standing → LineEntry → List Standing
passing stands (Test n) = slice_set stands n Passed
passing stands Mark = stands

-- the same of the next entry, where there is one
abbrev pub passing_some : List Standing → Option LineEntry → List Standing
passing_some stands None = stands
passing_some stands (Some p) = passing stands p

-- a test of the suite that does not stand in the line
abbrev pub is_free : Option Standing → Bool
is_free None = false
is_free (Some Free) = true
is_free (Some Queued) = false
is_free (Some Passed) = false

-- the test of this number is one of the suite, and does not stand in the line
abbrev pub free_at : List Standing → ℕ → Bool
free_at stands n = is_free (slice_get stands n)

-- where a test stands that is before the queue, or in it, or neither
abbrev pub standing_by : Bool → Bool → Standing
standing_by is_past is_queued = if is_past then Passed else (if is_queued then Queued else Free)

-- where a test stands, by the entries before the queue and those in it
abbrev pub standing_of : ℕ → List LineEntry → List LineEntry → Standing
standing_of n preceding queue = standing_by (has_test n preceding) (has_test n queue)

-- no test stands twice
abbrev pub once : List LineEntry → Bool
once [] = true
once (Test n ∷ ps) = not (has_test n ps) && once ps
once (Mark ∷ ps) = once ps

-- a test of the suite that stands in the queue
abbrev pub is_queued : Option Standing → Bool
is_queued None = false
is_queued (Some Free) = false
is_queued (Some Queued) = true
is_queued (Some Passed) = false

-- the test of this number stands in the queue
abbrev pub queued_at : List Standing → ℕ → Bool
queued_at stands n = is_queued (slice_get stands n)

-- the test of each of these numbers stands in the queue
abbrev pub all_queued_at : List Standing → List ℕ → Bool
all_queued_at stands [] = true
all_queued_at stands (n ∷ ns) = queued_at stands n && all_queued_at stands ns

-- there is a mark, and it is set
abbrev pub is_true : Option Bool → Bool
is_true None = false
is_true (Some b) = b

-- the marks are those of these tests
pub record AreMarked (marks : List Bool) (ns : List ℕ) : Type 0 where
  pub at : (n : ℕ) → is_true (slice_get marks n) ≡ is_among n ns

-- A steal asks for these tests, none of them twice; all are in the queue, and they are marked.
pub record Asks (size : ℕ) (stands : List Standing) (ns : List ℕ) (marks : List Bool) : Type 0 where
  pub can : can_ask size [] ns ≡ true
  pub queued : all_queued_at stands ns ≡ true
  pub marked : AreMarked marks ns

-- what becomes of a steal of these tests: the command is bad, one of them is not in the queue, or they are marked
abbrev pub IsAsked : List Standing → List ℕ → Asked → Type 0
IsAsked stands ns Bad = can_ask (length stands) [] ns ≡ false
IsAsked stands ns Missing = (can_ask (length stands) [] ns ≡ true) × (all_queued_at stands ns ≡ false)
IsAsked stands ns (Marked v) = Asks (length stands) stands ns v.items

-- where a test stands that has left the queue, or has not
abbrev pub freed_at : Bool → Standing → Standing
freed_at b s = if b then Free else s

-- of a queue some first places were gone through, and the asked tests among them taken out
pub record TakenOut (ns : List ℕ) (before : List Standing) (queue : List LineEntry) (after : List Standing) (rest : List LineEntry) (back : List ℕ) (left : List LineEntry) : Type 0 where
  pub done : List LineEntry
  pub queue_is : queue ≡ done ++ rest
  pub back_is : back ≡ stolen_tests ns done
  pub left_is : left ≡ kept ns done
  pub size : length after ≡ length before
  pub freed : (n : ℕ) → n < length before → slice_index_or after n Free ≡ freed_at (has_test n done && is_among n ns) (slice_index_or before n Free)

-- where each test of the suite stands
pub record EachStandsAt (stands : List Standing) (preceding queue : List LineEntry) : Type 0 where
  pub at : (n : ℕ) → n < length stands → slice_index_or stands n Free ≡ standing_of n preceding queue

-- the line is cut into the ended tests, the running one, the next entry and the queue
pub record IsCut (running : Option Running) (next : Option LineEntry) (queue : List LineEntry) (stands : List Standing) (line : List LineEntry) (ended : ℕ) : Type 0 where
  pub done : List LineEntry
  pub count : length done ≡ ended
  pub line_is : line ≡ (done ++ (running_places running ++ option_to_list next)) ++ queue
  -- after a running test there is a next entry
  pub idle : next ≡ None → running ≡ None
  pub standing : EachStandsAt stands (done ++ (running_places running ++ option_to_list next)) queue

-- the number of the running test's log, if one runs, and that of the log which opens next
abbrev pub IsLog : Option Running → ℕ → ℕ → Type 0
IsLog None next ended = next ≡ number_of_log ended
IsLog (Some r) next ended = (r.log ≡ number_of_log ended) × (next ≡ number_of_log (ended + 1))

-- what holds in every phase
pub record IsHeld (s : RunTests) (c : FunctionCall) : Type 0 where
  pub waiting_is : s.waiting.items ≡ c.waiting
  pub size_is : length s.stands.items ≡ c.size
  pub suite_is : s.size ≡ c.size
  pub sent_is : s.sent ≡ c.sent
  pub once_is : once c.line ≡ true
  pub runs_is : is_some s.running ≡ c.running
  pub test_is : test_of_running s.running ≡ running_test c
  pub log_is : IsLog s.running s.next_log c.ended

-- The parts are those of this call; while it serves, they hold its line, cut into pieces.
-- Example: test 3 is in the queue, so it may be asked back and may not be given again.
pub record IsCall (s : RunTests) (c : FunctionCall) : Type 0 where
  pub held : IsHeld s c
  pub phase_is : s.phase ≡ c.phase
  pub cut : c.phase ≡ Serving → IsCut s.running s.next s.queue.items s.stands.items c.line c.ended

-- without a next entry the queue is empty
abbrev pub IsReady : RunTests → FunctionCall → Type 0
IsReady s c = c.phase ≡ Serving → s.next ≡ None → s.queue.items ≡ []

-- what was asked for so far, and the test to start, are those of a turn
pub record HasActed (a : Acts) (t : CallTurn) : Type 0 where
  pub asks_are : a.asks.items ≡ t.asks
  pub run_is : a.run ≡ t.run

-- a turn of which only what holds in every phase is known
pub record HoldsInAnyPhase (s : RunTests) (a : Acts) (t : CallTurn) : Type 0 where
  pub held : IsHeld s t.call
  pub acted : HasActed a t

-- a turn in which the line has not moved on yet
pub record Moves (s : RunTests) (a : Acts) (t : CallTurn) : Type 0 where
  pub call : IsCall s t.call
  pub acted : HasActed a t

-- the parts and the acts so far are those of a turn
pub record IsCallTurn (s : RunTests) (a : Acts) (t : CallTurn) : Type 0 where
  pub call : IsCall s t.call
  pub ready : IsReady s t.call
  pub acted : HasActed a t

-- tests were put at a queue's end, or one of them cannot be
pub record Appends (stands : List Standing) (queue : List LineEntry) (stands' : List Standing) (queue' : List LineEntry) (ns : List ℕ) (b : Bool) : Type 0 where
  pub size : length stands' ≡ length stands
  pub gives : (preceding : List LineEntry) → EachStandsAt stands preceding queue → b ≡ can_give (length stands) (preceding ++ queue) ns
  pub queue_is : b ≡ true → queue' ≡ queue ++ map Test ns
  pub standing : (preceding : List LineEntry) → b ≡ true → EachStandsAt stands preceding queue → EachStandsAt stands' preceding queue'
