-- The line of tests that a worker was given, by the orders to it and by its answers to steals: two lists, which
-- do not say when an answer came. A steal that has no answer yet takes nothing. That a worker gives back all that
-- a steal asks, or nothing, is a choice of this project; the orders are those of pytest-xdist's
-- `workermanage.py`.
use Rattle.std.specs.Prelude.{ℕ, ◌&&◌, ◌||◌, not, nat_lt, Bool, true, false, List, [], ◌∷◌, ◌++◌, drop}
use Rattle.std.specs.List.{list_all, range_with_len}
use Rattle.std.specs.Str.{bytes_eq}
use Rattle.xd_commands.specs.declared.order.Order.{Order}
use Rattle.xd_commands.specs.declared.order.Order.TheVariants.{RunTests, RunAll, Steal, Shutdown}
use Rattle.xd_run.specs.Numbers.{among, without, all_distinct}
use Rattle.xd_run.specs.Orderly.{is_in_order}

-- the first answer, or nothing where there is none
abbrev pub first_answer : List (List ℕ) → List ℕ
first_answer [] = []
first_answer (answer ∷ answers) = answer

-- the answers that are left after an order: a steal takes the first
abbrev pub answers_left : Order → List (List ℕ) → List (List ℕ)
answers_left (Steal tests) answers = drop 1 answers
answers_left (RunTests tests) answers = answers
answers_left RunAll answers = answers
answers_left Shutdown answers = answers

-- the tests that an order gives, of a suite of that many
abbrev pub tests_given : ℕ → Order → List ℕ
tests_given size (RunTests tests) = tests
tests_given size RunAll = range_with_len 0 size
tests_given size (Steal tests) = []
tests_given size Shutdown = []

-- the line after an order, which has the first of these answers if it is a steal
abbrev pub line_after : ℕ → List ℕ → Order → List (List ℕ) → List ℕ
line_after size line (Steal tests) answers = without (first_answer answers) line
line_after size line (RunTests tests) answers = line ++ tests
line_after size line RunAll answers = line ++ range_with_len 0 size
line_after size line Shutdown answers = line

-- the line after these orders, of which the steals have these answers, in order
-- Example: 0 to 4 are given, a steal of 3 and 4 is answered by both, and 5 is given: 0, 1, 2, 5. Without the
-- answer the line is 0 to 5.
abbrev pub line_given : ℕ → List ℕ → List Order → List (List ℕ) → List ℕ
line_given size line [] answers = line
line_given size line (o ∷ orders) answers =
    line_given size (line_after size line o answers) orders (answers_left o answers)

-- all that these orders give, in order, whatever was given back
abbrev pub all_given : ℕ → List Order → List ℕ
all_given size [] = []
all_given size (o ∷ orders) = tests_given size o ++ all_given size orders

-- what one order asks back; an order that is no steal asks nothing
abbrev pub asked_back : Order → List (List ℕ)
asked_back (Steal tests) = tests ∷ []
asked_back (RunTests tests) = []
asked_back RunAll = []
asked_back Shutdown = []

-- the steals among these orders, each by the tests that it asks
abbrev pub steals_asked : List Order → List (List ℕ)
steals_asked [] = []
steals_asked (o ∷ orders) = asked_back o ++ steals_asked orders

-- the last order of a worker, after which it ends once its tests have ended
abbrev pub is_shutdown : Order → Bool
is_shutdown Shutdown = true
is_shutdown (RunTests tests) = false
is_shutdown RunAll = false
is_shutdown (Steal tests) = false

-- each is a test of the suite, none stands in the line yet, and none stands twice
abbrev pub are_new : ℕ → List ℕ → List ℕ → Bool
are_new size line tests = list_all (λ n. nat_lt n size && not (among n line)) tests && all_distinct tests

-- a steal is answered by nothing, or by all that it asks
-- Example: a steal of 8 and 9 may be answered by 8 and 9, and not by 8 alone, nor by 9 and 8.
abbrev pub is_answer : List ℕ → List ℕ → Bool
is_answer asked [] = true
is_answer asked (n ∷ tests) = bytes_eq (n ∷ tests) asked

-- the order may come after this line: it gives new tests, or asks for some of the line in its order, and what
-- answers it is an answer
abbrev pub may_be_told : ℕ → List ℕ → Order → List (List ℕ) → Bool
may_be_told size line (RunTests tests) answers = are_new size line tests
may_be_told size line RunAll answers = are_new size line (range_with_len 0 size)
may_be_told size line (Steal tests) answers = is_in_order tests line && is_answer tests (first_answer answers)
may_be_told size line Shutdown answers = true

-- there is none
abbrev pub is_none_left : List Order → Bool
is_none_left [] = true
is_none_left (o ∷ orders) = false

-- each order may come where it stands
-- Example: 3 is given, asked back, given back and given again: fair. Without the answer it is not.
abbrev pub are_fair : ℕ → List ℕ → List Order → List (List ℕ) → Bool
are_fair size line [] answers = true
are_fair size line (o ∷ orders) answers =
    may_be_told size line o answers && are_fair size (line_after size line o answers) orders (answers_left o answers)

-- after a Shutdown there is no order
abbrev pub marks_last : List Order → Bool
marks_last [] = true
marks_last (o ∷ orders) = (not (is_shutdown o) || is_none_left orders) && marks_last orders
