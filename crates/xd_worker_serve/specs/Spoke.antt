-- What a worker heard, and what it said to that.
use Rattle.std.specs.Prelude.{◌≤◌, ℕ, Bool, true, false, List, [], ◌∷◌, Option}
use Rattle.xd_edge.specs.Faults.{Rose}
use Rattle.xd_edge.specs.Files.{Held}
use Rattle.xd_edge.specs.Sink.{Sunk, Printed, PrintedPart}
use Rattle.xd_frame.specs.Message.{frames}
use Rattle.xd_frame.specs.Writing.{CountAfter}
use Rattle.xd_worker.specs.declared.input.WorkerInput.{WorkerInput}
use Rattle.xd_worker.specs.History.{HeardInput, all_said, turn_by, worker_after}
use Rattle.xd_worker.specs.Inputs.{AreHeardInputs, EndsOnce}
use Rattle.xd_worker_serve.specs.Suites.{AreAnswered}
use Rattle.xd_worker_serve.specs.Speaking.{greeting, written}

-- what is seen of the sink and the files
pub record Voice : Type 0 where
  pub sunk : Option Sunk
  pub sink_faults : ℕ
  pub file_faults : ℕ

-- the sink and the files, where this is seen of them
abbrev pub voice : Option Sunk → ℕ → ℕ → Voice
voice sunk sink_faults file_faults = record { sunk = sunk; sink_faults = sink_faults; file_faults = file_faults }

-- What these inputs make the worker say was written and handed on. Where the sink failed, that of all but the last input
-- was, and a first part of what the last one makes it say.
abbrev pub Speaks : Bool → List HeardInput → Option Sunk → Option Sunk → Type 0
Speaks true h old new = Printed (written (all_said h)) old new
Speaks false [] old new = PrintedPart greeting old new
Speaks false (g ∷ h) old new = (mid : Option Sunk) × Printed (written (all_said h)) old mid × PrintedPart (frames (turn_by (worker_after h) g).talk.says) mid new

-- The inputs came in their time, and what they make the worker say was written, as long as the sink is whole. The sink's
-- count of faults is the one before, where the sink is whole, and else it rose.
pub record Spoke (held : Option Held) (inputs : List WorkerInput) (h : List HeardInput) (whole : Bool) (old new : Voice) : Type 0 where
  pub heard : AreHeardInputs inputs h
  pub ends : EndsOnce inputs
  pub answered : AreAnswered held (Rose old.file_faults new.file_faults) inputs h
  pub says : Speaks whole h old.sunk new.sunk
  pub sink_count : CountAfter whole old.sink_faults new.sink_faults
  pub sink_later : old.sink_faults ≤ new.sink_faults
  pub files_later : old.file_faults ≤ new.file_faults
