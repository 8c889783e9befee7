-- What a journal and a list of news have of one worker: its orders, its answers, the tests that it ended, its
-- collections, and whether it was called in breach.
use Rattle.std.specs.Prelude.{ℕ, ◌==◌, Bool, false, List, Option, Some, None, if◌then◌else◌}
use Rattle.std.specs.List.{filter_map, list_any}
use Rattle.xd_journal.specs.declared.entry.Cause.TheVariants.{Breach}
use Rattle.xd_journal.specs.declared.entry.Entry.{Entry}
use Rattle.xd_journal.specs.declared.entry.Entry.TheVariants.{Back, Done, Down, Run, RunAll, Shutdown, Steal}
use Rattle.xd_journal.specs.declared.entry.Outcome.{Outcome}
use Rattle.xd_journal.specs.declared.news.What.{What}
use Rattle.xd_journal.specs.declared.news.What.TheVariants as what
use Rattle.xd_commands.specs.declared.order.Order.{Order}
use Rattle.xd_commands.specs.Orders.{order_of}

-- ---- of a journal

-- the entry is an order to the worker
abbrev pub is_told_to : ℕ → Entry → Bool
is_told_to w (Run v tests) = v == w
is_told_to w (RunAll v) = v == w
is_told_to w (Steal v tests) = v == w
is_told_to w (Shutdown v) = v == w
is_told_to w _ = false

-- the order to the worker that an entry is, if it is one
abbrev pub order_told : ℕ → Entry → Option Order
order_told w e = if is_told_to w e then order_of e else None

-- the orders to the worker, in order
abbrev pub told_to : ℕ → List Entry → List Order
told_to w es = filter_map (order_told w) es

-- the answer of the worker that an entry is, if it is one
abbrev pub answer_in : ℕ → Entry → Option (List ℕ)
answer_in w (Back v tests) = if v == w then Some tests else None
answer_in w _ = None

-- its answers to steals, in order
abbrev pub answers_by : ℕ → List Entry → List (List ℕ)
answers_by w es = filter_map (answer_in w) es

-- the test of the worker that ended with the entry, if one did
abbrev pub test_ended_in : ℕ → Entry → Option ℕ
test_ended_in w (Done v n outcome ms output) = if v == w then Some n else None
test_ended_in w _ = None

-- the tests that it ended, in order
abbrev pub ends_by : ℕ → List Entry → List ℕ
ends_by w es = filter_map (test_ended_in w) es

-- the same test with its outcome
abbrev pub outcome_in : ℕ → Entry → Option (ℕ × Outcome)
outcome_in w (Done v n outcome ms output) = if v == w then Some (n, outcome) else None
outcome_in w _ = None

-- the tests that it ended, in order, each with its outcome
abbrev pub outcomes_by : ℕ → List Entry → List (ℕ × Outcome)
outcomes_by w es = filter_map (outcome_in w) es

-- the entry says that the worker broke a rule
abbrev pub is_breach_of : ℕ → Entry → Bool
is_breach_of w (Down v Breach output) = v == w
is_breach_of w _ = false

-- the worker was called in breach
abbrev pub is_accused : ℕ → List Entry → Bool
is_accused w es = list_any (is_breach_of w) es

-- ---- of the news of one worker

-- the answer to a steal that a piece of news is, if it is one
abbrev pub answer_of_news : What → Option (List ℕ)
answer_of_news (what.Back tests) = Some tests
answer_of_news _ = None

-- the answers to steals among these news, in order
abbrev pub answers_in : List What → List (List ℕ)
answers_in news = filter_map answer_of_news news

-- the test that a piece of news says to have ended, if it says so
abbrev pub end_of_news : What → Option ℕ
end_of_news (what.Done n outcome ms) = Some n
end_of_news _ = None

-- the tests that ended by these news, in order
abbrev pub ends_in : List What → List ℕ
ends_in news = filter_map end_of_news news

-- the same test with its outcome
abbrev pub outcome_of_news : What → Option (ℕ × Outcome)
outcome_of_news (what.Done n outcome ms) = Some (n, outcome)
outcome_of_news _ = None

-- the tests that ended by these news, in order, each with its outcome
abbrev pub outcomes_in : List What → List (ℕ × Outcome)
outcomes_in news = filter_map outcome_of_news news

-- the ids that a piece of news is a collection of, if it is one
abbrev pub collection_of_news : What → Option (List (List ℕ))
collection_of_news (what.Collected ids) = Some ids
collection_of_news _ = None

-- the collections among these news, in order
abbrev pub collections_in : List What → List (List (List ℕ))
collections_in news = filter_map collection_of_news news
