-- What an honest worker tells its controller: what its call of `run_tests` asks for, as news.
use Rattle.std.specs.Prelude.{ℕ, Bool, true, false, ◌&&◌, nat_le, List, [], ◌∷◌, ◌++◌, Option, Some, None, length}
use Rattle.std.specs.List.{list_all, flat_map}
use Rattle.xd_edge.specs.Ids.{is_id}
use Rattle.xd_edge.specs.Limits.{most_tests}
use Rattle.xd_journal.specs.declared.entry.Outcome.{Outcome}
use Rattle.xd_journal.specs.declared.news.What.{What}
use Rattle.xd_journal.specs.declared.news.What.TheVariants as what
use Rattle.xd_commands.specs.declared.order.Order.{Order}
use Rattle.xd_run.specs.Proper.{no_text_twice}
use Rattle.xd_worker_tests.specs.declared.ask.Ask.{Ask}
use Rattle.xd_worker_tests.specs.declared.ask.Ask.TheVariants as ask
use Rattle.xd_worker_tests.specs.declared.input.Input.{Input}
use Rattle.xd_worker_tests.specs.declared.input.Input.TheVariants as input
use Rattle.xd_worker_tests.specs.History.{Given, all_asks, call_after}
use Rattle.xd_worker_tests.specs.Line.{running_test}

-- The news that an ask is. A call that ends without an error has told `workerfinished` before, and its end says
-- nothing more.
abbrev pub news_of_ask : Ask → List What
news_of_ask (ask.Tell event) = event ∷ []
news_of_ask (ask.Piece log bytes) = what.Piece log bytes ∷ []
news_of_ask (ask.CloseLog log) = what.LogClosed log ∷ []
news_of_ask (ask.End None) = []
news_of_ask (ask.End (Some text)) = what.Closed (Some text) ∷ []

-- the news of several asks, in order
abbrev pub news_of_asks : List Ask → List What
news_of_asks asks = flat_map news_of_ask asks

-- What a worker tells whose call of `run_tests` took these inputs, of which the last stands first.
-- Example: before its suite was read it tells `workerready` alone.
abbrev pub tells : List Given → List What
tells gs = what.Ready ∷ news_of_asks (all_asks gs)

-- the order that an input is, if it is one
abbrev pub order_in : Input → List Order
order_in (input.Command (Some o)) = o ∷ []
order_in _ = []

-- the orders that came to a call with these inputs, in order
abbrev pub orders_of : List Given → List Order
orders_of [] = []
orders_of (g ∷ gs) = orders_of gs ++ order_in g.input

-- the test that ends with an input, with its outcome, where this test runs
abbrev pub outcome_at_end : Option ℕ → Input → List (ℕ × Outcome)
outcome_at_end (Some n) (input.Done outcome ms) = (n, outcome) ∷ []
outcome_at_end _ _ = []

-- the tests of a call whose programs ended, in order, each with its program's outcome
abbrev pub outcomes : List Given → List (ℕ × Outcome)
outcomes [] = []
outcomes (g ∷ gs) = outcomes gs ++ outcome_at_end (running_test (call_after gs)) g.input

-- these can be the ids of a suite that a worker accepts
abbrev pub are_suite_ids : List (List ℕ) → Bool
are_suite_ids ids = nat_le (length ids) most_tests && list_all is_id ids && no_text_twice ids

-- What comes to a call in a run: orders that can be read, a suite or the reason why there is none, and what a
-- test's program gives. The controller does not end its channel before it heard that the call ended, and it ends
-- no link that it reads.
abbrev pub comes_in_run : Input → Bool
comes_in_run (input.Command (Some o)) = true
comes_in_run (input.Command None) = false
comes_in_run input.ReceivingEnded = false
comes_in_run (input.Suite ids) = are_suite_ids ids
comes_in_run (input.SuiteRefused text) = true
comes_in_run (input.Output bytes) = true
comes_in_run (input.Done outcome ms) = true
comes_in_run input.Stop = false

-- An input of a run. Its table of channels has room for a log: the controller opens one channel, and a worker has
-- one log at a time.
abbrev pub is_of_run : Given → Bool
is_of_run g = g.room && comes_in_run g.input
