-- What a call of `run_tests` is, by the orders that it took and what it told.
use Rattle.std.specs.Prelude.{◌≡◌, ◌⊎◌, ◌<◌, ℕ, nat_lt, Bool, true, false, List, [], ◌∷◌, ◌++◌, length, take, map, Option, Some, if◌then◌else◌, drop}
use Rattle.std.specs.List.{list_all, list_any, range_with_len}
use Rattle.xd_journal.specs.declared.news.What.{What}
use Rattle.xd_journal.specs.declared.news.What.TheVariants as what
use Rattle.xd_commands.specs.declared.order.Order.{Order}
use Rattle.xd_commands.specs.declared.order.Order.TheVariants.{RunTests, RunAll, Steal, Shutdown}
use Rattle.xd_run.specs.Meaning.{Log, any_open, is_of, log_of, number_of}
use Rattle.xd_run.specs.Numbers.{all_distinct, among}
use Rattle.xd_worker_tests.specs.declared.line_entry.LineEntry.{LineEntry}
use Rattle.xd_worker_tests.specs.declared.line_entry.LineEntry.TheVariants.{Test, Mark}
use Rattle.xd_worker_tests.specs.declared.phase.Phase.TheVariants.{Serving, Over}
use Rattle.xd_worker_tests.specs.Line.{FunctionCall, head_test, left, number_of_log, tests_in_line}
use Rattle.xd_worker_tests.specs.Turns.{CallTurn}
use Rattle.xd_run.specs.Orderly.{is_in_order}
use Rattle.xd_system.specs.LineGiven.{are_new, line_given, is_shutdown, marks_last, steals_asked}
use Rattle.xd_system.specs.Fits.{FitsNext, is_collected}
use Rattle.xd_system.specs.Moment.{IsFirstPart}
use Rattle.xd_system.specs.Own.{answers_in, ends_in}
use Rattle.xd_system.specs.Tells.{news_of_asks}

-- the mark of a Shutdown, after all tests
abbrev pub mark_of : List Order → List LineEntry
mark_of orders = if list_any is_shutdown orders then Mark ∷ [] else []

-- the log of the running test is open, and has its number; where none runs no log is open, and all have lower
-- numbers
pub record LogIs (c : FunctionCall) (ended : List ℕ) (log : Option Log) : Type 0 where
  pub opened : c.running ≡ true
      → (any_open log ≡ true) × ((n : ℕ) × (head_test (left c) ≡ Some n) × (is_of n log ≡ true)) × (number_of log ≡ number_of_log c.ended)
  pub closed : c.running ≡ false → (any_open log ≡ false) × (number_of log < number_of_log c.ended)
  pub earlier : c.running ≡ false → (n : ℕ) → is_of n log ≡ true → among n ended ≡ true

-- each piece of news may come where it stands
abbrev pub AllFit : ℕ → List Order → List What → Type 0
AllFit size orders news = (before : List What) (x : What) (after : List What) → news ≡ before ++ x ∷ after
    → FitsNext size orders before x

-- so it may, whatever further orders are on the way
abbrev pub FitAll : ℕ → List Order → List What → Type 0
FitAll size orders news = (all : List Order) → IsFirstPart orders all → marks_last all ≡ true → AllFit size all news

-- the order may take effect after this line
abbrev pub MayTake : ℕ → List ℕ → Order → Type 0
MayTake size line (RunTests ns) = are_new size line ns ≡ true
MayTake size line RunAll = are_new size line (range_with_len 0 size) ≡ true
MayTake size line (Steal ns) = is_in_order ns line ≡ true
MayTake size line Shutdown = Unit {0}

-- the worker says that it is done
abbrev pub is_last_told : What → Bool
is_last_told what.Finished = true
is_last_told (what.Closed text) = true
is_last_told _ = false

-- A call that serves its suite took these orders and told these news: its line is the one that it was given, each
-- steal is answered, and the tests that ended are the first of the line.
pub record IsServing (size : ℕ) (orders : List Order) (news : List What) (c : FunctionCall) : Type 0 where
  pub phase : c.phase ≡ Serving
  pub size_is : c.size ≡ size
  pub line_is : c.line ≡ map Test (line_given size [] orders (answers_in news)) ++ mark_of orders
  pub answered : length (answers_in news) ≡ length (steals_asked orders)
  pub ended_is : c.ended ≡ length (ends_in news)
  pub ended_first : take (length (ends_in news)) (line_given size [] orders (answers_in news)) ≡ ends_in news
  pub distinct : all_distinct (line_given size [] orders (answers_in news)) ≡ true
  pub within : list_all (λ n. nat_lt n size) (line_given size [] orders (answers_in news)) ≡ true
  pub log_is : LogIs c (ends_in news) (log_of news)
  pub collected : list_any is_collected news ≡ true
  pub unfinished : list_any is_last_told news ≡ false

-- a call in a turn: it serves
pub record IsServingTurn (size : ℕ) (orders : List Order) (before : List What) (t : CallTurn) : Type 0 where
  pub serves : IsServing size orders (before ++ news_of_asks t.asks) t.call
  pub fit : FitAll size orders (before ++ news_of_asks t.asks)

-- all that was given has ended
pub record EndedAll (size : ℕ) (orders : List Order) (news : List What) : Type 0 where
  pub shut : list_any is_shutdown orders ≡ true
  pub none : drop (length (ends_in news)) (line_given size [] orders (answers_in news)) ≡ []
  pub answered : length (answers_in news) ≡ length (steals_asked orders)
  pub first : take (length (ends_in news)) (line_given size [] orders (answers_in news)) ≡ ends_in news

-- the last that it told is that it finished
pub record Finishes (news : List What) : Type 0 where
  pub first : List What
  pub are : news ≡ first ++ what.Finished ∷ []
  pub unfinished : list_any is_last_told first ≡ false

-- or it is over, and said so
pub record IsOverTurn (size : ℕ) (orders : List Order) (before : List What) (t : CallTurn) : Type 0 where
  pub phase : t.call.phase ≡ Over
  pub idle : t.call.running ≡ false
  pub said : list_any is_last_told (before ++ news_of_asks t.asks) ≡ true
  pub left_none : tests_in_line (left t.call) ≡ []
  pub passed_is : take t.call.ended t.call.line ≡ map Test (ends_in (before ++ news_of_asks t.asks))
  pub all_ended : list_any is_collected (before ++ news_of_asks t.asks) ≡ true
      → EndedAll size orders (before ++ news_of_asks t.asks)
  pub finishes : list_any is_collected (before ++ news_of_asks t.asks) ≡ true
      → Finishes (before ++ news_of_asks t.asks)
  pub none_ended : list_any is_collected (before ++ news_of_asks t.asks) ≡ false
      → ends_in (before ++ news_of_asks t.asks) ≡ []
  pub fit : FitAll size orders (before ++ news_of_asks t.asks)

-- one of the two
abbrev pub IsTurn : ℕ → List Order → List What → CallTurn → Type 0
IsTurn size orders before t = IsServingTurn size orders before t ⊎ IsOverTurn size orders before t
