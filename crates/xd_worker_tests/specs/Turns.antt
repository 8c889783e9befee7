-- What one input makes the function do: what it asks for, in order, and a test to start. The events are those of
-- pytest-xdist's remote.py; early ends, the limit on output, and what waits before the collection are choices of this
-- project.
use Rattle.std.specs.Prelude.{ℕ, ◌<◌, ◌^◌, ◌+◌, ◌-◌, ◌&&◌, nat_le, List, [], ◌∷◌, ◌++◌, length, take, map, Bool, true, false, Option, Some, None, if◌then◌else◌, codes}
use Rattle.std.specs.List.{range_with_len}
use Rattle.xd_commands.specs.declared.order.Order.{Order}
use Rattle.xd_commands.specs.declared.order.Order.TheVariants.{RunTests, RunAll, Steal, Shutdown}
use Rattle.xd_journal.specs.Kept.{most_of_one}
use Rattle.xd_journal.specs.declared.entry.Outcome.{Outcome}
use Rattle.xd_journal.specs.declared.news.What.TheVariants.{Collected, LogStart, Done, Back, Finished}
use Rattle.xd_worker_tests.specs.declared.line_entry.LineEntry.{LineEntry}
use Rattle.xd_worker_tests.specs.declared.line_entry.LineEntry.TheVariants.{Test, Mark}
use Rattle.xd_worker_tests.specs.declared.phase.Ending.{Ending}
use Rattle.xd_worker_tests.specs.declared.phase.Ending.TheVariants.{BadCommand, ReceivingEnded}
use Rattle.xd_worker_tests.specs.declared.phase.Phase.{Phase}
use Rattle.xd_worker_tests.specs.declared.phase.Phase.TheVariants.{Awaiting, Serving, Stopped, Over}
use Rattle.xd_worker_tests.specs.declared.phase.Phase.TheVariants as phase
use Rattle.xd_worker_tests.specs.declared.ask.Ask.{Ask}
use Rattle.xd_worker_tests.specs.declared.ask.Ask.TheVariants.{Tell, Piece, CloseLog, End}
use Rattle.xd_worker_tests.specs.declared.input.Input.{Input}
use Rattle.xd_worker_tests.specs.declared.input.Input.TheVariants as input
use Rattle.xd_worker_tests.specs.Line.{FunctionCall, left, front, queue, running_test, number_of_log, can_give, can_ask, all_queued, kept, stolen_tests}

-- an input's effect so far: what the side is asked, and a test to start
pub record CallTurn : Type 0 where
  pub call : FunctionCall
  pub asks : List Ask
  pub run : Option ℕ

-- this is asked for too, after the rest
abbrev pub asking : List Ask → CallTurn → CallTurn
asking asks t = record t { asks = t.asks ++ asks }

-- the error of a function for whose next log there is no channel: a choice of this project
abbrev pub too_many_channels : List ℕ
too_many_channels = codes "too many channels"

-- the error of an early end: a bad command has one, and the end of the receiving direction none
abbrev pub ending_text : Ending → Option (List ℕ)
ending_text BadCommand = Some (codes "bad command")
ending_text ReceivingEnded = None

-- the function ends
abbrev pub over : Option (List ℕ) → CallTurn → CallTurn
over text t = record { call = record (t.call) { phase = Over }; asks = t.asks ++ End text ∷ []; run = t.run }

-- an early end: the function ends, once no test runs
abbrev pub ended_early : Ending → CallTurn → CallTurn
ended_early e t =
    if t.call.running then record t { call = record (t.call) { phase = phase.Ending e } } else over (ending_text e) t

-- a mark was reached: the function tells `workerfinished`, and ends
abbrev pub finished : CallTurn → CallTurn
finished t = over None (asking (Tell Finished ∷ []) t)

-- the number of the log of the test that starts after m others is one that a channel may have
abbrev pub has_log : ℕ → Bool
has_log m = nat_le (number_of_log m) 2147483647

-- a test starts, and `logstart` names its log
abbrev pub test_started : ℕ → CallTurn → CallTurn
test_started n t = record {
  call = record (t.call) { running = true; sent = 0 };
  asks = t.asks ++ Tell (LogStart n (number_of_log t.call.ended)) ∷ [];
  run = Some n;
}

-- what the line's left part lets happen where nothing runs: a mark is reached, or a test with an entry after it
-- Example: 0 and 1 are given, and 0 starts; after its end nothing does, as nothing stands after 1; a shutdown mark starts 1.
abbrev pub moved_on : Bool → List LineEntry → CallTurn → CallTurn
moved_on room [] t = t
moved_on room (Mark ∷ ps) t = finished t
moved_on room (Test n ∷ []) t = t
moved_on room (Test n ∷ (p ∷ ps)) t = if room && has_log t.call.ended then test_started n t else over (Some too_many_channels) t

-- where no test runs, the line moves on
abbrev pub line_settled : Bool → CallTurn → CallTurn
line_settled room t = if t.call.running then t else moved_on room (left t.call) t

-- `runtests`: these tests stand at the line's end, or the command is bad
abbrev pub given : Bool → List ℕ → CallTurn → CallTurn
given room ns t =
    if can_give t.call.size t.call.line ns
    then line_settled room (record t { call = record (t.call) { line = t.call.line ++ map Test ns } })
    else ended_early BadCommand t

-- `steal` of good numbers: all of these tests go back where all stand in the queue, and else none
abbrev pub stolen : List ℕ → CallTurn → CallTurn
stolen ns t =
    if all_queued (queue t.call) ns
    then asking (Tell (Back (stolen_tests ns (queue t.call))) ∷ [])
    (record t { call = record (t.call) { line = front t.call ++ kept ns (queue t.call) } })
    else asking (Tell (Back []) ∷ []) t

-- `steal`: tests are asked back, or the command is bad
abbrev pub stolen_if : List ℕ → CallTurn → CallTurn
stolen_if ns t = if can_ask t.call.size [] ns then stolen ns t else ended_early BadCommand t

-- an item while the function serves: one of the four orders, or a bad command
abbrev pub told : Bool → Option Order → CallTurn → CallTurn
told room None t = ended_early BadCommand t
told room (Some (RunTests ns)) t = given room ns t
told room (Some RunAll) t = given room (range_with_len 0 t.call.size) t
told room (Some (Steal ns)) t = stolen_if ns t
told room (Some Shutdown) t = line_settled room (record t { call = record (t.call) { line = t.call.line ++ Mark ∷ [] } })

-- an item in a phase: before the collection it waits, and after an end it is left out
abbrev pub item_heard_in : Phase → Bool → Option Order → CallTurn → CallTurn
item_heard_in Awaiting room o t = record t { call = record (t.call) { waiting = t.call.waiting ++ o ∷ [] } }
item_heard_in Serving room o t = told room o t
item_heard_in (phase.Ending e) room o t = t
item_heard_in Stopped room o t = t
item_heard_in Over room o t = t

-- an item of the function's channel
abbrev pub item_heard : Bool → Option Order → CallTurn → CallTurn
item_heard room o t = item_heard_in t.call.phase room o t

-- these items, one after another
abbrev pub all_heard : Bool → List (Option Order) → CallTurn → CallTurn
all_heard room [] t = t
all_heard room (o ∷ os) t = all_heard room os (item_heard room o t)

-- the function serves a suite of that many tests from now on
abbrev pub serving_suite : ℕ → FunctionCall → FunctionCall
serving_suite size c = record c { phase = Serving; size = size; waiting = []; line = []; ended = 0; running = false }

-- the collection is sent, and what waited takes effect
abbrev pub collected_in : Phase → Bool → List (List ℕ) → CallTurn → CallTurn
collected_in Awaiting room ids t =
    all_heard room t.call.waiting (record {
      call = serving_suite (length ids) t.call;
      asks = t.asks ++ Tell (Collected ids) ∷ [];
      run = t.run;
    })
collected_in Serving room ids t = t
collected_in (phase.Ending e) room ids t = t
collected_in Stopped room ids t = t
collected_in Over room ids t = t

-- there is no suite: where the function waits for one it ends with this reason
abbrev pub suite_refused_in : Phase → List ℕ → CallTurn → CallTurn
suite_refused_in Awaiting text t = over (Some text) t
suite_refused_in Serving text t = t
suite_refused_in (phase.Ending e) text t = t
suite_refused_in Stopped text t = t
suite_refused_in Over text t = t

-- the controller says nothing more on the channel: an early end, where the function has not come to one
abbrev pub receiving_ended_in : Phase → CallTurn → CallTurn
receiving_ended_in Awaiting t = ended_early ReceivingEnded t
receiving_ended_in Serving t = ended_early ReceivingEnded t
receiving_ended_in (phase.Ending e) t = t
receiving_ended_in Stopped t = t
receiving_ended_in Over t = t

-- output of a log, where there is any
abbrev pub piece_asks : ℕ → List ℕ → List Ask
piece_asks log [] = []
piece_asks log (b ∷ bs) = Piece log (b ∷ bs) ∷ []

-- a piece of output, of which the log takes 8,192 bytes in all
abbrev pub put_out : List ℕ → CallTurn → CallTurn
put_out bytes t = record {
  call = record (t.call) { sent = t.call.sent + length (take (most_of_one - t.call.sent) bytes) };
  asks = t.asks ++ piece_asks (number_of_log t.call.ended) (take (most_of_one - t.call.sent) bytes);
  run = t.run;
}

-- output of the running test in a phase; where the worker is to end, it is left out
abbrev pub output_by_phase : Phase → List ℕ → CallTurn → CallTurn
output_by_phase Stopped bytes t = t
output_by_phase Awaiting bytes t = put_out bytes t
output_by_phase Serving bytes t = put_out bytes t
output_by_phase (phase.Ending e) bytes t = put_out bytes t
output_by_phase Over bytes t = put_out bytes t

-- the running test ended
abbrev pub without_run : FunctionCall → FunctionCall
without_run c = record c { running = false; ended = c.ended + 1 }

-- the running test's log is closed, and its end is told: `runtest_protocol_complete`
abbrev pub told_done : ℕ → Outcome → ℕ → CallTurn → CallTurn
told_done n outcome ms t = record {
  call = without_run t.call;
  asks = t.asks ++ CloseLog (number_of_log t.call.ended) ∷ Tell (Done n outcome ms) ∷ [];
  run = t.run;
}

-- the running test ended in a phase: the line moves on, or an early end that waited comes
abbrev pub done_in : Phase → Bool → ℕ → Outcome → ℕ → CallTurn → CallTurn
done_in Serving room n outcome ms t = line_settled room (told_done n outcome ms t)
done_in (phase.Ending e) room n outcome ms t = over (ending_text e) (told_done n outcome ms t)
done_in Stopped room n outcome ms t = record t { call = without_run t.call }
done_in Awaiting room n outcome ms t = t
done_in Over room n outcome ms t = t

-- the end of the running test's program, where a test runs
abbrev pub done_of : Option ℕ → Phase → Bool → Outcome → ℕ → CallTurn → CallTurn
done_of None phase room outcome ms t = t
done_of (Some n) phase room outcome ms t = done_in phase room n outcome ms t

-- GATEWAY_TERMINATE or the link's end: nothing more is said, and no test starts
abbrev pub call_stopped : CallTurn → CallTurn
call_stopped t = record t { call = record (t.call) { phase = Stopped } }

-- output of the running test's program, where a test runs
abbrev pub output_fed : Option ℕ → Phase → List ℕ → CallTurn → CallTurn
output_fed None phase bytes t = t
output_fed (Some n) phase bytes t = output_by_phase phase bytes t

-- one input in a phase, with a running test or none
abbrev pub answered_in : Phase → Option ℕ → Bool → Input → CallTurn → CallTurn
answered_in phase test room (input.Command o) t = item_heard_in phase room o t
answered_in phase test room input.ReceivingEnded t = receiving_ended_in phase t
answered_in phase test room (input.Suite ids) t = collected_in phase room ids t
answered_in phase test room (input.SuiteRefused text) t = suite_refused_in phase text t
answered_in phase test room (input.Output bytes) t = output_fed test phase bytes t
answered_in phase test room (input.Done outcome ms) t = done_of test phase room outcome ms t
answered_in phase test room input.Stop t = call_stopped t

-- one input; `room` says that the side's table is not full without the log of the running test
abbrev pub answered : Bool → Input → CallTurn → CallTurn
answered room f t = answered_in t.call.phase (running_test t.call) room f t

-- a call before anything was done in this turn
abbrev pub call_turn_of : FunctionCall → CallTurn
call_turn_of c = record { call = c; asks = []; run = None }

-- a suite has fewer tests than 2 ^ 32
abbrev pub CanTake : Input → Type 0
CanTake (input.Command o) = Unit {0}
CanTake input.ReceivingEnded = Unit {0}
CanTake (input.Suite ids) = length ids < 2 ^ 32
CanTake (input.SuiteRefused text) = Unit {0}
CanTake (input.Output bytes) = Unit {0}
CanTake (input.Done outcome ms) = Unit {0}
CanTake input.Stop = Unit {0}
