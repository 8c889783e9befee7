-- The suite that a worker asks for, and what the files give.
use Rattle.std.specs.Prelude.{◌≡◌, ◌≤◌, ℕ, List, [], ◌∷◌, length, Bool, true, false, Option, Some, None}
use Rattle.xd_edge.specs.Files.{Held, HasFile, HasLarger}
use Rattle.xd_edge.specs.Limits.{most_suite_bytes}
use Rattle.xd_worker.specs.declared.input.WorkerInput.{WorkerInput}
use Rattle.xd_worker.specs.declared.input.WorkerInput.TheVariants.{Message, SuiteBytes, SuiteTooLarge, SuiteUnread, Output, ChildDone, LinkEnd}
use Rattle.xd_worker.specs.History.{HeardInput, turn_by, worker_after}

-- the path that the last input asked for
abbrev pub asked_path : List HeardInput → Option (List ℕ)
asked_path [] = None
asked_path (g ∷ h) = (turn_by (worker_after h) g).suite

-- What the files gave for a path, as far as they tell; `rose` says that their count of faults rose.
-- Example: for a file of more than 4,194,304 bytes it is SuiteTooLarge.
abbrev pub FilesGave : Option Held → Type 0 → List ℕ → WorkerInput → Type 0
FilesGave held rose path (Message m) = ⊥
FilesGave held rose path (SuiteBytes b) = HasFile held path b × (length b ≤ most_suite_bytes)
FilesGave held rose path SuiteTooLarge = HasLarger held path most_suite_bytes
FilesGave held rose path SuiteUnread = rose
FilesGave held rose path (Output b) = ⊥
FilesGave held rose path (ChildDone outcome ms) = ⊥
FilesGave held rose path LinkEnd = ⊥

-- an input that the files gave: the bytes of a suite file, or why there are none
abbrev pub is_of_files : WorkerInput → Bool
is_of_files (Message m) = false
is_of_files (SuiteBytes b) = true
is_of_files SuiteTooLarge = true
is_of_files SuiteUnread = true
is_of_files (Output b) = false
is_of_files (ChildDone outcome ms) = false
is_of_files LinkEnd = false

-- An input that comes where this path was asked for is what the files gave for it; where none was, it is nothing of theirs.
abbrev pub AnswersAsking : Option Held → Type 0 → Option (List ℕ) → WorkerInput → Type 0
AnswersAsking held rose None i = is_of_files i ≡ false
AnswersAsking held rose (Some path) i = FilesGave held rose path i

-- Directly after each input that asked for a path stands what the files gave for it, and nowhere else.
abbrev pub AreAnswered : Option Held → Type 0 → List WorkerInput → List HeardInput → Type 0
AreAnswered held rose [] h = Unit {0}
AreAnswered held rose (i ∷ is) [] = ⊥
AreAnswered held rose (i ∷ is) (g ∷ h) = AnswersAsking held rose (asked_path h) i × AreAnswered held rose is h
