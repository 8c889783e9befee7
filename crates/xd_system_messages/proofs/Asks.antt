-- What a call of `run_tests` asks for in a run: events that have a payload, errors that a message can hold, and nothing
-- after its end.
use Rattle.std.proofs.Common.{◌≡◌, ◌⊎◌, ℕ, ◌<◌, ◌≤◌, List, [], ◌∷◌, ◌++◌, length, Bool, true, false, Some, None, sym, subst}
use Rattle.std.specs.List.{list_all}
use Rattle.std.proofs.lemmas.Bool.{and_parts}
use Rattle.xd_edge.specs.Limits.{most_tests}
use Rattle.std.specs.Str.{all_scalars}
use Rattle.xd_factory.specs.Table.{is_long}
use Rattle.xd_value.specs.Tree.{Tree}
use Rattle.xd_journal.specs.Kept.{most_of_one}
use Rattle.xd_journal.specs.declared.news.What.{What}
use Rattle.xd_journal.specs.declared.news.What.TheVariants.{Finished, Done}
use Rattle.xd_commands.specs.Events.{IsEvent, IsOutcome, event_tree}
use Rattle.xd_commands.specs.Limits.{AreIdsForPayload, FitsPayload}
use Rattle.xd_worker_tests.specs.declared.phase.Ending.{Ending}
use Rattle.xd_worker_tests.specs.declared.phase.Ending.TheVariants.{BadCommand, ReceivingEnded}
use Rattle.xd_worker_tests.specs.declared.phase.Phase.{Phase}
use Rattle.xd_worker_tests.specs.declared.phase.Phase.TheVariants.{Awaiting, Serving, Stopped, Over}
use Rattle.xd_worker_tests.specs.declared.phase.Phase.TheVariants as phase
use Rattle.xd_worker_tests.specs.declared.ask.Ask.{Ask}
use Rattle.xd_worker_tests.specs.declared.ask.Ask.TheVariants.{Tell, Piece, CloseLog, End}
use Rattle.xd_worker_tests.specs.declared.input.Input.{Input}
use Rattle.xd_worker_tests.specs.declared.input.Input.TheVariants as input
use Rattle.xd_worker_tests.specs.Line.{FunctionCall}
use Rattle.xd_worker_tests.specs.Turns.{CallTurn}
use Rattle.xd_worker_tests.specs.inner.Stands.{once}
use Rattle.xd_worker_tests.proofs.Once.{and_both}
use Rattle.xd_worker_tests.proofs.Within.{within}

-- a text of Unicode's scalar values that a message can hold, as each reason of a worker is
abbrev pub IsErrorText : List ℕ → Type 0
IsErrorText text = (all_scalars text ≡ true) × (is_long (Some text) ≡ false)

-- what comes to a call in a run: it was neither stopped nor is its channel ended, and what files and programs gave has
-- messages
abbrev pub IsGivenInput : Input → Type 0
IsGivenInput (input.Command o) = Unit {0}
IsGivenInput input.ReceivingEnded = ⊥
IsGivenInput (input.Suite ids) = (length ids ≤ most_tests) × AreIdsForPayload ids
IsGivenInput (input.SuiteRefused text) = IsErrorText text
IsGivenInput (input.Output bytes) = Unit {0}
IsGivenInput (input.Done outcome ms) = IsOutcome outcome × (ms < 18446744073709551616)
IsGivenInput input.Stop = ⊥

-- an event that has a payload
pub record IsSayableEvent (e : What) : Type 0 where
  pub value : Tree
  pub is : event_tree e ≡ Some value
  pub event : IsEvent e
  pub fits : FitsPayload e

-- an ask for which the worker has a message
abbrev pub IsSayableAsk : Ask → Type 0
IsSayableAsk (Tell e) = IsSayableEvent e
IsSayableAsk (Piece log b) = length b ≤ most_of_one
IsSayableAsk (CloseLog log) = Unit {0}
IsSayableAsk (End None) = Unit {0}
IsSayableAsk (End (Some text)) = IsErrorText text

abbrev pub AreSayableAsks : List Ask → Type 0
AreSayableAsks [] = Unit {0}
AreSayableAsks (a ∷ asks) = IsSayableAsk a × AreSayableAsks asks

pub sayable_more : (a b : List Ask) → AreSayableAsks a → AreSayableAsks b → AreSayableAsks (a ++ b)
sayable_more [] b h k = k
sayable_more (x ∷ a) b h k = (h.0, sayable_more a b h.1 k)

-- an ask with which no call ends
abbrev pub is_quiet : Ask → Bool
is_quiet (Tell Finished) = false
is_quiet (End text) = false
is_quiet _ = true

pub quiet_more : (a b : List Ask) → list_all is_quiet a ≡ true → list_all is_quiet b ≡ true → list_all is_quiet (a ++ b) ≡ true
quiet_more [] b h k = k
quiet_more (x ∷ a) b h k = (let p = and_parts (is_quiet x) (list_all is_quiet a) h in and_both (is_quiet x) (list_all is_quiet (a ++ b)) p.0 (quiet_more a b p.1 k))

-- the asks with which a call ends: that it has finished, or an error
abbrev pub IsClosing : List Ask → Type 0
IsClosing asks = (asks ≡ Tell Finished ∷ End None ∷ []) ⊎ ((text : List ℕ) × (asks ≡ End (Some text) ∷ []))

pub record EndsAt (asks : List Ask) : Type 0 where
  pub quiet : List Ask
  pub closing : List Ask
  pub are : asks ≡ quiet ++ closing
  pub are_quiet : list_all is_quiet quiet ≡ true
  pub closes : IsClosing closing

abbrev pub EndsBy : Bool → List Ask → Type 0
EndsBy false asks = list_all is_quiet asks ≡ true
EndsBy true asks = EndsAt asks

abbrev pub is_over : Phase → Bool
is_over Over = true
is_over _ = false

-- an early end that waits is one of a bad command, and the call was not stopped
abbrev pub IsOfRun : Phase → Type 0
IsOfRun (phase.Ending e) = e ≡ BadCommand
IsOfRun Stopped = ⊥
IsOfRun Awaiting = Unit {0}
IsOfRun Serving = Unit {0}
IsOfRun Over = Unit {0}

-- a call in a run: its tests are of its suite, which is not too large, and none stands twice in its line
pub record Lined (c : FunctionCall) : Type 0 where
  pub small : c.size ≤ most_tests
  pub line_in : within c.size c.line ≡ true
  pub once_is : once c.line ≡ true
  pub of_run : IsOfRun c.phase

-- a turn of such a call, with what it asked for
pub record Speaks (t : CallTurn) : Type 0 where
  pub lined : Lined t.call
  pub each : AreSayableAsks t.asks
  pub ends : EndsBy (is_over t.call.phase) t.asks

-- a turn that goes on
pub record Going (t : CallTurn) : Type 0 where
  pub lined : Lined t.call
  pub each : AreSayableAsks t.asks
  pub quiet : list_all is_quiet t.asks ≡ true
  pub open_is : is_over t.call.phase ≡ false

pub speaks : (t : CallTurn) → Going t → Speaks t
speaks t g = record { lined = g.lined; each = g.each; ends = subst (λ (b : Bool). EndsBy b t.asks) (sym g.open_is) g.quiet }

pub goes_on : (t : CallTurn) → is_over t.call.phase ≡ false → Speaks t → Going t
goes_on t e s = record { lined = s.lined; each = s.each; quiet = subst (λ (b : Bool). EndsBy b t.asks) e s.ends; open_is = e }
