-- What the controller's state has of one worker is a function of the orders to it and of its answers and ends.
use Rattle.std.specs.Prelude.{◌≡◌, ◌≤◌, ◌==◌, ℕ, Bool, true, false, List, [], ◌∷◌, drop, length, take, slice_index, Option, Some, None, if◌then◌else◌}
use Rattle.std.specs.List.{list_any, list_all}
use Rattle.xd_journal.specs.declared.entry.Entry.{Entry}
use Rattle.xd_commands.specs.declared.order.Order.{Order}
use Rattle.xd_run.specs.Numbers.{all_among}
use Rattle.xd_run.specs.Plan.{UnansweredSteal, is_each, items_named, total}
use Rattle.xd_run.specs.Sharing.{State}
use Rattle.xd_run.specs.Table.{held, in_rota}
use Rattle.xd_run.specs.Workers.{has_member, is_active, is_shut, slot_of}
use Rattle.xd_system.specs.LineGiven.{are_fair, line_given, is_shutdown, marks_last, steals_asked}
use Rattle.xd_system.specs.Own.{answers_by, ends_by, told_to}

-- how many tests the worker may be given, once the tests are shared
abbrev pub size_at : ℕ → State → ℕ
size_at w s = if is_each s.plan.mode then slice_index s.plan.sizes (slot_of w s.books) else total s.plan

-- the line of the worker, by the entries so far
abbrev pub line_at : ℕ → State → List Entry → List ℕ
line_at w s es = line_given (size_at w s) [] (told_to w es) (answers_by w es)

-- what the open steal asks of the worker
abbrev pub asked_of : ℕ → Option UnansweredSteal → List (List ℕ)
asked_of w None = []
asked_of w (Some a) = if a.worker == w then a.tests ∷ [] else []

-- nothing but a Shutdown was told
abbrev pub is_quiet : List Order → Bool
is_quiet orders = list_all is_shutdown orders

-- the worker holds its line without the tests that ended, which are the first of it and are reported; the orders
-- so far are fair; the marks are theirs; and the open steal is the one that has no answer
pub record Deal (w : ℕ) (s : State) (es : List Entry) : Type 0 where
  pub held_is : held w s.books.table ≡ items_named (slot_of w s.books) (drop (length (ends_by w es)) (line_at w s es)) s.plan
  pub ended_first : take (length (ends_by w es)) (line_at w s es) ≡ ends_by w es
  pub reported : all_among (items_named (slot_of w s.books) (ends_by w es) s.plan) s.books.table.reported ≡ true
  pub fair : are_fair (size_at w s) [] (told_to w es) (answers_by w es) ≡ true
  pub last : marks_last (told_to w es) ≡ true
  pub marks : is_shut w s.books ≡ list_any is_shutdown (told_to w es)
  pub open_steal : asked_of w s.plan.steal ≡ drop (length (answers_by w es)) (steals_asked (told_to w es))
  pub answered : length (answers_by w es) ≤ length (steals_asked (told_to w es))
  pub early : in_rota w s.books.table ≡ false → is_quiet (told_to w es) ≡ true
  pub unshared : s.books.shared ≡ false → is_quiet (told_to w es) ≡ true

-- nothing is told to a worker before its start, and nothing comes of it
pub record HasNothing (w : ℕ) (es : List Entry) : Type 0 where
  pub told : told_to w es ≡ []
  pub answers : answers_by w es ≡ []
  pub ended : ends_by w es ≡ []

-- what each entry of a proper journal keeps of each worker
pub record Deals (w : ℕ) (s : State) (es : List Entry) : Type 0 where
  pub unstarted : has_member w (λ m. true) s.books ≡ false → HasNothing w es
  pub unasked : has_member w (λ m. true) s.books ≡ false → asked_of w s.plan.steal ≡ []
  pub active : is_active w s.books ≡ true → Deal w s es
