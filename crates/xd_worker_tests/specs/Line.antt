-- A call of the function `run_tests`. Its orders give one line of tests and shutdown marks, without those that were
-- given back. The tests run from the front of the line, and the queue is what stands after the running test and the
-- next entry. The words are those of pytest-xdist's `remote.py`; that a mark stands in the line with the tests, and
-- what a steal takes, are choices of this project.
use Rattle.std.specs.Prelude.{ℕ, ◌+◌, ◌*◌, ◌==◌, ◌&&◌, ◌||◌, not, nat_lt, List, [], ◌∷◌, ◌++◌, take, drop, Bool, true, false, Option, Some, None, if◌then◌else◌}
use Rattle.xd_commands.specs.declared.order.Order.{Order}
use Rattle.xd_worker_tests.specs.declared.line_entry.LineEntry.{LineEntry}
use Rattle.xd_worker_tests.specs.declared.line_entry.LineEntry.TheVariants.{Test, Mark}
use Rattle.xd_worker_tests.specs.declared.phase.Phase.{Phase}
use Rattle.xd_worker_tests.specs.declared.phase.Phase.TheVariants.{Awaiting}

-- a call of the function: its phase, the items that wait for the collection, how many tests its suite has, its line,
-- how many tests ended, whether one runs, and how many bytes of its output were sent
pub record FunctionCall : Type 0 where
  pub phase : Phase
  pub waiting : List (Option Order)
  pub size : ℕ
  pub line : List LineEntry
  pub ended : ℕ
  pub running : Bool
  pub sent : ℕ

-- a call to which nothing has come yet
abbrev pub new_call : FunctionCall
new_call = record { phase = Awaiting; waiting = []; size = 0; line = []; ended = 0; running = false; sent = 0 }

-- the line without the tests that ended
abbrev pub left : FunctionCall → List LineEntry
left c = drop c.ended c.line

-- the ended tests, the running one and the next
abbrev pub passed : FunctionCall → ℕ
passed c = c.ended + (if c.running then 2 else 1)

-- the line up to its next entry, which no steal can take
abbrev pub front : FunctionCall → List LineEntry
front c = take (passed c) c.line

-- the entries after the next one, of which a steal may take tests
-- Example: all of five tests are given and the first runs: the queue is tests 2, 3 and 4.
abbrev pub queue : FunctionCall → List LineEntry
queue c = drop (passed c) c.line

-- the test that stands first; none where a mark does, or nothing
abbrev pub head_test : List LineEntry → Option ℕ
head_test [] = None
head_test (Test n ∷ ps) = Some n
head_test (Mark ∷ ps) = None

-- the test that runs, if one does: the first that has not ended
abbrev pub running_test : FunctionCall → Option ℕ
running_test c = if c.running then head_test (left c) else None

-- the log of the test that starts after m others: a choice of this project
-- Example: the second test has the log 4.
abbrev pub number_of_log : ℕ → ℕ
number_of_log m = 2 * m + 2

-- a test stands among these entries
abbrev pub has_test : ℕ → List LineEntry → Bool
has_test n [] = false
has_test n (Test m ∷ ps) = (m == n) || has_test n ps
has_test n (Mark ∷ ps) = has_test n ps

-- the tests among these entries, in order, without the marks
abbrev pub tests_in_line : List LineEntry → List ℕ
tests_in_line [] = []
tests_in_line (Test n ∷ ps) = n ∷ tests_in_line ps
tests_in_line (Mark ∷ ps) = tests_in_line ps

-- a number stands among these
abbrev pub is_among : ℕ → List ℕ → Bool
is_among n [] = false
is_among n (m ∷ ms) = (m == n) || is_among n ms

-- an entry is one of the tests that are asked back; a mark never is
abbrev pub is_asked : List ℕ → LineEntry → Bool
is_asked ns (Test n) = is_among n ns
is_asked ns Mark = false

-- each is a test of the suite that does not stand in the line yet
abbrev pub can_give : ℕ → List LineEntry → List ℕ → Bool
can_give size line [] = true
can_give size line (n ∷ ns) = nat_lt n size && not (has_test n line) && can_give size (line ++ Test n ∷ []) ns

-- each is a test of the suite, and none stands twice
abbrev pub can_ask : ℕ → List ℕ → List ℕ → Bool
can_ask size before [] = true
can_ask size before (n ∷ ns) = nat_lt n size && not (is_among n before) && can_ask size (before ++ n ∷ []) ns

-- each of these tests stands in this queue
-- Example: of the line 0, 1, 2, 3, 4, of which 0 runs, 4 and 2 are queued, and 1 is not, as it is the next.
abbrev pub all_queued : List LineEntry → List ℕ → Bool
all_queued q [] = true
all_queued q (n ∷ ns) = has_test n q && all_queued q ns

-- what a steal leaves of a queue, in its order
abbrev pub kept : List ℕ → List LineEntry → List LineEntry
kept ns [] = []
kept ns (p ∷ ps) = if is_asked ns p then kept ns ps else p ∷ kept ns ps

-- the tests that a steal takes from a queue, in the order of the queue
abbrev pub stolen_tests : List ℕ → List LineEntry → List ℕ
stolen_tests ns [] = []
stolen_tests ns (Test n ∷ ps) = if is_among n ns then n ∷ stolen_tests ns ps else stolen_tests ns ps
stolen_tests ns (Mark ∷ ps) = stolen_tests ns ps
