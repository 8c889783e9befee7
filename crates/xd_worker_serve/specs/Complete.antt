-- When a link is served to a good end. Spoken of are all the bytes that it has, also those that it did not give.
use Rattle.std.specs.Prelude.{◌≡◌, ◌≢◌, ◌⊎◌, ℕ, true, false, List, [], Option, option_map, IfSome}
use Rattle.xd_edge.specs.Faults.{Rose, StoodStill}
use Rattle.xd_edge.specs.Files.{Held}
use Rattle.xd_edge.specs.Sink.{Sunk, with_close}
use Rattle.xd_factory.specs.declared.faults.SideFault.{SideFault}
use Rattle.xd_frame.specs.Stream.{messages, rest, Clean, Unfinished, Refused}
use Rattle.xd_link.specs.Spring.{Spring}
use Rattle.xd_worker_runner.specs.Programs.{Ran}
use Rattle.xd_worker.specs.declared.input.WorkerInput.{WorkerInput}
use Rattle.xd_worker.specs.History.{HeardInput}
use Rattle.xd_worker_serve.specs.declared.stop.Stop.{Stop}
use Rattle.xd_worker_serve.specs.declared.stop.Stop.TheVariants as stop
use Rattle.xd_worker_serve.specs.Ends.{RunsPrograms, Scene, Served, voice_of}
use Rattle.xd_worker.specs.Inputs.{has_link_end, has_terminate, messages_in}
use Rattle.xd_worker_serve.specs.Spoke.{Spoke, voice}
use Rattle.xd_worker_serve.specs.Took.{TookToRefused}

-- A worker that took the messages before it, and what the outside tells beside them, refuses one of the messages of
-- these bytes; a program may run then, of which the worker did not hear to the end. GATEWAY_TERMINATE is not before it.
pub record RefusesOne (held : Option Held) (bytes : List ℕ) (fault : SideFault) (old new : Scene) : Type 0 where
  pub inputs : List WorkerInput
  pub history : List HeardInput
  pub unheard : List Ran
  pub sunk : Option Sunk
  pub spoke : Spoke held inputs history true (voice_of old) (voice sunk new.sink_faults new.file_faults)
  pub shut : new.sunk ≡ option_map with_close sunk
  pub programs : RunsPrograms inputs history [] unheard old new
  pub no_end : has_link_end inputs ≡ false
  pub refused : TookToRefused (messages bytes) (messages_in inputs) history fault

-- What is wrong with a link that has these bytes: they end inside a message or with a header that is refused, and
-- GATEWAY_TERMINATE is not among their messages; or one of these is refused; or a count of faults rose.
abbrev pub IsWrong : Stop → Option Held → List ℕ → ℕ → ℕ → Scene → Scene → Type 0
IsWrong stop.NotRun held bytes before now old new = Rose old.reader_refusals new.reader_refusals ⊎ Rose old.runner_refusals new.runner_refusals
IsWrong stop.Terminated held bytes before now old new = ⊥
IsWrong stop.Ended held bytes before now old new = ⊥
IsWrong stop.Cut held bytes before now old new = (rest bytes ≡ Unfinished) × (has_terminate (messages bytes) ≡ false)
IsWrong (stop.Header fault) held bytes before now old new = (rest bytes ≡ Refused fault) × (has_terminate (messages bytes) ≡ false)
IsWrong (stop.Message fault) held bytes before now old new = RefusesOne held bytes fault old new
IsWrong stop.ReadFault held bytes before now old new = Rose before now
IsWrong stop.WriteFault held bytes before now old new = Rose old.sink_faults new.sink_faults

-- Something is wrong with a link that has these bytes, by its source's count of faults and what is seen of the outside.
abbrev pub GoesWrong : Option Held → List ℕ → ℕ → ℕ → Scene → Scene → Type 0
GoesWrong held bytes before now old new = (why : Stop) × IsWrong why held bytes before now old new

-- Nothing is wrong with these bytes: they end at a message's edge, or GATEWAY_TERMINATE is among their messages, and no
-- message that comes before it is refused.
-- Example: GATEWAY_TERMINATE with a header of no kind after it is good, as nothing after that message is read.
pub record AreGood (held : Option Held) (bytes : List ℕ) (old new : Scene) : Type 0 where
  pub edge : (rest bytes ≡ Clean) ⊎ (has_terminate (messages bytes) ≡ true)
  pub accepted : (fault : SideFault) → RefusesOne held bytes fault old new → ⊥

-- No count of the sink or of a crew rose.
pub record AreStill (old new : Scene) : Type 0 where
  pub sink : StoodStill old.sink_faults new.sink_faults
  pub readers : StoodStill old.reader_refusals new.reader_refusals
  pub runners : StoodStill old.runner_refusals new.runner_refusals

-- The counts of the source, the sink and both crews are those before.
pub record IsCalm (before now : ℕ) (old new : Scene) : Type 0 where
  pub source : now ≡ before
  pub sink : new.sink_faults ≡ old.sink_faults
  pub readers : new.reader_refusals ≡ old.reader_refusals
  pub runners : new.runner_refusals ≡ old.runner_refusals

-- A link was served to its end, with this exit status. Status 0 stands only where no count of the link or of a crew rose,
-- and another one only where something is wrong. Where the source tells its bytes, nothing is wrong with all of them and
-- no count rises, the status is 0.
-- Example: where standard input ends inside a message, the status is 3.
pub record ServedToEnd (status : ℕ) (held : Option Held) (s0 s1 : Spring) (old new : Scene) : Type 0 where
  pub served : Served status held s0 s1 old new
  pub calm : status ≡ 0 → IsCalm s0.faults s1.faults old new
  pub wrong : status ≢ 0 → IfSome s0.supply (λ s. GoesWrong held s.left s0.faults s1.faults old new)
  pub complete : IfSome s0.supply (λ s. AreGood held s.left old new → StoodStill s0.faults s1.faults → AreStill old new → status ≡ 0)
