-- How a link was served to its end.
use Rattle.std.specs.Prelude.{◌≡◌, ◌≤◌, ◌⊎◌, ℕ, Bool, true, false, ◌&&◌, List, [], ◌∷◌, ◌++◌, Option, None, option_map}
use Rattle.xd_edge.specs.Children.{ChildRun}
use Rattle.xd_edge.specs.Faults.{Rose, RoseBy}
use Rattle.xd_edge.specs.Files.{Held}
use Rattle.xd_edge.specs.Sink.{Sunk, with_close}
use Rattle.xd_frame.specs.Framer.{IsFirstOf}
use Rattle.xd_frame.specs.Stream.{messages, rest, Clean, Unfinished, Refused}
use Rattle.xd_link.specs.Source.{Gave}
use Rattle.xd_link.specs.Spring.{ReadToEnd, Spring}
use Rattle.xd_reader.specs.declared.news.LinkStop.{LinkStop}
use Rattle.xd_reader.specs.declared.news.LinkStop.TheVariants as link
use Rattle.xd_worker.specs.declared.input.WorkerInput.{WorkerInput}
use Rattle.xd_worker.specs.History.{HeardInput, is_worker_over, worker_after}
use Rattle.xd_worker.specs.Inputs.{has_link_end, messages_in}
use Rattle.xd_worker_runner.specs.Programs.{AreRun, Ran, faults_of}
use Rattle.xd_worker_serve.specs.Programs.{AreLeft, commands_in, output_in, ran_in}
use Rattle.xd_worker_serve.specs.Took.{TookAll, TookToLast, TookToRefused}
use Rattle.xd_worker_serve.specs.Suites.{asked_path}
use Rattle.xd_worker_serve.specs.declared.stop.Stop.{Stop}
use Rattle.xd_worker_serve.specs.declared.stop.Stop.TheVariants as stop
use Rattle.xd_worker_serve.specs.inner.Halts.{is_sink_whole, worker_status_of}
use Rattle.xd_worker_serve.specs.Spoke.{Spoke, Voice, voice}
use Rattle.xd_edge.specs.Clock.{Ticking}
use Rattle.xd_worker_serve.specs.Timing.{Times}

-- what is seen of the outside, the link's source apart: the sink, the programs, the files, how often each of the two crews
-- refused a job, and the clock
pub record Scene : Type 0 where
  pub sunk : Option Sunk
  pub sink_faults : ℕ
  pub runs : Option (List ChildRun)
  pub child_faults : ℕ
  pub file_faults : ℕ
  pub reader_refusals : ℕ
  pub runner_refusals : ℕ
  pub clock : Ticking

-- the outside, where this is seen of each of its parts
abbrev pub scene : Option Sunk → ℕ → Option (List ChildRun) → ℕ → ℕ → ℕ → ℕ → Ticking → Scene
scene sunk sink_faults runs child_faults file_faults reader_refusals runner_refusals clock = record {
  sunk = sunk;
  sink_faults = sink_faults;
  runs = runs;
  child_faults = child_faults;
  file_faults = file_faults;
  reader_refusals = reader_refusals;
  runner_refusals = runner_refusals;
  clock = clock;
}

-- the sink and the files of a scene
abbrev pub voice_of : Scene → Voice
voice_of s = voice s.sunk s.sink_faults s.file_faults

-- What a program came to of which the worker did not hear to the end: at most one, whose output begins with what the
-- worker heard of it.
abbrev pub IsUnheard : List ℕ → List Ran → Type 0
IsUnheard heard [] = Unit {0}
IsUnheard heard (r ∷ []) = (more : List ℕ) × (r.output ≡ heard ++ more)
IsUnheard heard (r ∷ (q ∷ rs)) = ⊥

-- The commands that the history starts were run, but for those that are left, and the inputs tell what came of them, but
-- for what is unheard. Their count of faults rose as often as that stands for one, and not where it stands for none.
pub record RunsPrograms (inputs : List WorkerInput) (h : List HeardInput) (left : List (List (List ℕ))) (unheard : List Ran) (old new : Scene) : Type 0 where
  pub started : List (List (List ℕ))
  pub commands : commands_in h ≡ started ++ left
  pub run : AreRun started (ran_in inputs ++ unheard) old.runs new.runs
  pub heard : IsUnheard (output_in inputs) unheard
  pub faults : RoseBy (faults_of (ran_in inputs ++ unheard)) old.child_faults new.child_faults
  pub still : faults_of (ran_in inputs ++ unheard) ≡ 0 → new.child_faults ≡ old.child_faults
  pub later : old.child_faults ≤ new.child_faults

-- What each end says of the bytes that were given, of what came, and of the outside.
-- Example: where the bytes end inside a message it is Cut; where the sink cannot be closed it is WriteFault.
abbrev pub IsCause : Stop → List ℕ → List WorkerInput → List HeardInput → Spring → Spring → Scene → Scene → Type 0
IsCause stop.NotRun bytes inputs h s0 s1 old new =
    (bytes ≡ []) × (inputs ≡ []) × (Rose old.reader_refusals new.reader_refusals ⊎ Rose old.runner_refusals new.runner_refusals)
IsCause stop.Terminated bytes inputs h s0 s1 old new =
    TookToLast (messages_in inputs) × (has_link_end inputs ≡ false) × (is_worker_over (worker_after h) ≡ true)
IsCause stop.Ended bytes inputs h s0 s1 old new =
    TookAll (messages bytes) (messages_in inputs) × (has_link_end inputs ≡ true) × (is_worker_over (worker_after h) ≡ true) × ReadToEnd s1 × (rest bytes ≡ Clean)
IsCause stop.Cut bytes inputs h s0 s1 old new =
    TookAll (messages bytes) (messages_in inputs) × ReadToEnd s1 × (rest bytes ≡ Unfinished)
IsCause (stop.Header fault) bytes inputs h s0 s1 old new =
    TookAll (messages bytes) (messages_in inputs) × (rest bytes ≡ Refused fault)
IsCause (stop.Message fault) bytes inputs h s0 s1 old new =
    TookToRefused (messages bytes) (messages_in inputs) h fault × (has_link_end inputs ≡ false)
IsCause stop.ReadFault bytes inputs h s0 s1 old new =
    (TookAll (messages bytes) (messages_in inputs) ⊎ TookToLast (messages_in inputs)) × Rose s0.faults s1.faults
IsCause stop.WriteFault bytes inputs h s0 s1 old new = Rose old.sink_faults new.sink_faults

-- A sink was closed, or could not be, and then its count rose.
pub record Closes (closed : Bool) (sunk new : Option Sunk) (faults now : ℕ) : Type 0 where
  pub shut : closed ≡ true → new ≡ option_map with_close sunk
  pub kept : closed ≡ false → new ≡ sunk
  pub still : closed ≡ true → now ≡ faults
  pub rose : closed ≡ false → Rose faults now
  pub later : faults ≤ now

-- Where a link ends well neither crew refused its job.
abbrev pub AreNotRefused : Stop → Scene → Scene → Type 0
AreNotRefused why old new = worker_status_of why ≡ 0 → (new.reader_refusals ≡ old.reader_refusals) × (new.runner_refusals ≡ old.runner_refusals)

-- A count is the one before, or rose; where a link ends well it is the one before.
pub record IsStill (why : Stop) (before now : ℕ) : Type 0 where
  pub still_or_rose : (now ≡ before) ⊎ Rose before now
  pub still : worker_status_of why ≡ 0 → now ≡ before

-- GATEWAY_TERMINATE was taken, and the reader stopped so
abbrev pub terminated_by : LinkStop → Stop
terminated_by link.Ended = stop.Terminated
terminated_by link.Cut = stop.Terminated
terminated_by (link.Garbled fault) = stop.Terminated
terminated_by (link.BadGreeting b) = stop.Terminated
terminated_by link.ReadFault = stop.ReadFault
terminated_by link.OutOfMemory = stop.Terminated

-- why the link is served no more, where the worker ceased so, the reader stopped so, and the sink was closed or not
abbrev pub last_link_stop : Bool → Stop → LinkStop → Stop
last_link_stop false why l = stop.WriteFault
last_link_stop true stop.NotRun l = stop.NotRun
last_link_stop true stop.Terminated l = terminated_by l
last_link_stop true stop.Ended l = stop.Ended
last_link_stop true stop.Cut l = stop.Cut
last_link_stop true (stop.Header fault) l = stop.Header fault
last_link_stop true (stop.Message fault) l = stop.Message fault
last_link_stop true stop.ReadFault l = stop.ReadFault
last_link_stop true stop.WriteFault l = stop.WriteFault

-- A link was read until this: the bytes that it gave, what came to the worker and its history, the program of which it did
-- not hear to the end, and the one that was left. The sink took all that the worker said, or not, and then it was closed,
-- or could not be. How long each test ran is what the clock says.
pub record Ends (why : Stop) (held : Option Held) (s0 s1 : Spring) (old new : Scene) : Type 0 where
  pub bytes : List ℕ
  pub inputs : List WorkerInput
  pub history : List HeardInput
  pub left : List (List (List ℕ))
  pub unheard : List Ran
  pub wrote : Bool
  pub closed : Bool
  pub sunk : Option Sunk
  pub sink_faults : ℕ
  pub gave : Gave bytes s0.supply s1.supply
  pub first : IsFirstOf (messages_in inputs) (messages bytes)
  pub spoke : Spoke held inputs history wrote (voice_of old) (voice sunk sink_faults new.file_faults)
  pub closes : Closes closed sunk new.sunk sink_faults new.sink_faults
  pub whole : (wrote && closed) ≡ is_sink_whole why
  pub answered : wrote ≡ true → asked_path history ≡ None
  pub programs : RunsPrograms inputs history left unheard old new
  pub times : Times inputs programs.started old.clock new.clock
  pub left_is : AreLeft wrote left history
  pub heard : worker_status_of why ≡ 0 → unheard ≡ []
  pub source_count : IsStill why s0.faults s1.faults
  pub crews : AreNotRefused why old new
  pub cause : IsCause why bytes inputs history s0 s1 old new

-- A link was served, and this is the exit status.
abbrev pub Served : ℕ → Option Held → Spring → Spring → Scene → Scene → Type 0
Served status held s0 s1 old new = (why : Stop) × (status ≡ worker_status_of why) × Ends why held s0 s1 old new
