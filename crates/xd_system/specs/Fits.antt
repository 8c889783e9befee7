-- Which news may come of a worker, by the orders to it and its earlier news alone. It does not say in which order
-- these two came, so it names neither the controller's state nor the worker's, and both can be compared with it.
use Rattle.std.specs.Prelude.{◌≡◌, ℕ, ◌==◌, ◌%◌, nat_lt, Bool, true, false, List, [], ◌∷◌, drop, length, Some, None}
use Rattle.std.specs.List.{list_any}
use Rattle.xd_journal.specs.declared.news.What.{What}
use Rattle.xd_journal.specs.declared.news.What.TheVariants as what
use Rattle.xd_commands.specs.declared.order.Order.{Order}
use Rattle.xd_run.specs.Meaning.{log_of, number_of, is_of, is_open_log, any_open}
use Rattle.xd_run.specs.Numbers.{all_among, first_of}
use Rattle.xd_system.specs.LineGiven.{line_given, is_answer, is_shutdown, steals_asked}
use Rattle.xd_system.specs.Own.{answers_in, ends_in}
use Rattle.xd_system.specs.Tells.{are_suite_ids}

-- What a worker holds by these orders and news: its line without the tests that ended.
-- Example: 5 to 9 were given, and 5 and 6 ended: 7, 8 and 9.
abbrev pub holds : ℕ → List Order → List What → List ℕ
holds size orders news = drop (length (ends_in news)) (line_given size [] orders (answers_in news))

-- the piece of news is a collection
abbrev pub is_collected : What → Bool
is_collected (what.Collected ids) = true
is_collected _ = false

-- The news gives these tests back: they answer the first steal that has no answer, by nothing or by all that it
-- asks, and the first test that the worker holds is not among them.
pub record AnswersSteal (size : ℕ) (orders : List Order) (news : List What) (tests : List ℕ) : Type 0 where
  pub asked : List ℕ
  pub later : List (List ℕ)
  pub next : drop (length (answers_in news)) (steals_asked orders) ≡ asked ∷ later
  pub is : is_answer asked tests ≡ true
  pub waits : all_among tests (drop 1 (holds size orders news)) ≡ true

-- The log of the first test that the worker holds starts, once, on an even number above those of the earlier logs.
pub record StartsLog (size : ℕ) (orders : List Order) (news : List What) (n log : ℕ) : Type 0 where
  pub head : first_of (holds size orders news) ≡ Some n
  pub once : is_of n (log_of news) ≡ false
  pub even : (log % 2 == 0) ≡ true
  pub above : nat_lt (number_of (log_of news)) log ≡ true

-- The first test that the worker holds ends, and its log has started and is closed.
pub record EndsHead (size : ℕ) (orders : List Order) (news : List What) (n : ℕ) : Type 0 where
  pub head : first_of (holds size orders news) ≡ Some n
  pub logged : is_of n (log_of news) ≡ true
  pub closed : any_open (log_of news) ≡ false

-- The worker was told to shut down, has collected its tests, and holds none any more.
pub record EndsLine (size : ℕ) (orders : List Order) (news : List What) : Type 0 where
  pub told : list_any is_shutdown orders ≡ true
  pub collected : list_any is_collected news ≡ true
  pub none : holds size orders news ≡ []

-- This may come next of a worker with these orders and earlier news, whose suite has that many tests.
-- Example: 8 and 9 may be given back while the worker holds 7, 8 and 9 and was asked for these two; 7 may not.
abbrev pub FitsNext : ℕ → List Order → List What → What → Type 0
FitsNext size orders news what.Ready = news ≡ []
FitsNext size orders news (what.Collected ids) = (news ≡ what.Ready ∷ []) × (are_suite_ids ids ≡ true)
FitsNext size orders news (what.LogStart n log) = StartsLog size orders news n log
FitsNext size orders news (what.Piece log bytes) = is_open_log log (log_of news) ≡ true
FitsNext size orders news (what.LogClosed log) = is_open_log log (log_of news) ≡ true
FitsNext size orders news (what.Done n outcome ms) = EndsHead size orders news n
FitsNext size orders news (what.Back tests) = AnswersSteal size orders news tests
FitsNext size orders news what.Finished = EndsLine size orders news
FitsNext size orders news (what.Closed None) = ⊥
FitsNext size orders news (what.Closed (Some text)) = list_any is_collected news ≡ false
FitsNext size orders news what.Stray = ⊥
FitsNext size orders news (what.Gone cause) = ⊥
FitsNext size orders news what.NotStarted = ⊥
