-- Small facts of messages, of the test that runs, and of the inputs that are of the files.
use Rattle.std.proofs.Common.{◌≡◌, ℕ, List, [], ◌∷◌, ◌++◌, map, Bool, true, false, ◌||◌, Option, Some, None, refl, ap, sym, ◌∙◌, subst}
use Rattle.std.specs.Prelude.{option_to_list, is_none, if◌then◌else◌}
use Rattle.xd_edge.specs.Files.{Held}
use Rattle.xd_frame.specs.Message.{MessageView}
use Rattle.xd_reader.specs.declared.news.LinkNews.{LinkNews}
use Rattle.xd_worker_tests.specs.Line.{FunctionCall, running_test, head_test, left}
use Rattle.xd_suite.specs.Tests.{run_at}
use Rattle.xd_worker.specs.declared.input.WorkerInput.{WorkerInput}
use Rattle.xd_worker.specs.declared.input.WorkerInput.TheVariants.{Message, SuiteBytes, SuiteTooLarge, SuiteUnread, Output, ChildDone, LinkEnd}
use Rattle.xd_worker.specs.Worker.{Worker, WorkerTurn, worker_turn_of}
use Rattle.xd_worker.specs.Turns.{Came, Told as Says, SuiteRead, NoSuite, Printed, ChildEnded, LinkEnded, worker_turned}
use Rattle.xd_worker.specs.History.{HeardInput, Is, MessageSays, IsSuite, turn_by}
use Rattle.xd_worker.specs.Inputs.{IsDue, has_terminate, is_terminate_kind, is_link_end, is_link_input, message_in}
use Rattle.xd_worker_serve.specs.Suites.{FilesGave}
use Rattle.xd_worker_serve.specs.Programs.{commands_of}
use Rattle.xd_worker_serve.specs.declared.server.Door.{Door}
use Rattle.xd_worker_serve.specs.declared.server.Door.TheVariants as door
use Rattle.xd_worker_serve.specs.inner.Serves.{FromLink, IsListening}
use Rattle.xd_worker_serve.proofs.Steps.{Does, Plain, Waits, message_does, no_suite_does, suite_does}

-- ---- small facts

-- while messages are taken, what was taken of the reader is what the worker heard
pub listens : (d : Door) (inputs : List WorkerInput) (got : List LinkNews) → d ≡ door.Open → FromLink d inputs got → IsListening inputs got
listens d inputs got o f = subst (λ (c : Door). FromLink c inputs got) o f

has_last-append : (a : List MessageView) (m : MessageView) → has_terminate (a ++ m ∷ []) ≡ (has_terminate a || is_terminate_kind m.kind)
has_last-append [] m = or_false (is_terminate_kind m.kind)
  where
    or_false : (b : Bool) → (b || false) ≡ b
    or_false true = refl
    or_false false = refl
has_last-append (x ∷ a) m = ap (λ (b : Bool). is_terminate_kind x.kind || b) (has_last-append a m) ∙ sym (or_assoc (is_terminate_kind x.kind) (has_terminate a) (is_terminate_kind m.kind))
  where
    or_assoc : (a b c : Bool) → ((a || b) || c) ≡ (a || (b || c))
    or_assoc true b c = refl
    or_assoc false b c = refl

pub none_more : (a : List MessageView) (m : MessageView) → has_terminate a ≡ false → is_terminate_kind m.kind ≡ false → has_terminate (a ++ m ∷ []) ≡ false
none_more a m e f = has_last-append a m ∙ (ap (λ (b : Bool). b || is_terminate_kind m.kind) e ∙ f)

runs_if : (b : Bool) (x : Option ℕ) (n : ℕ) → (if b then x else None) ≡ Some n → b ≡ true
runs_if true x n e = refl
runs_if false x n e = cc

pub running_some : (c : FunctionCall) (n : ℕ) → running_test c ≡ Some n → c.running ≡ true
running_some c n e = runs_if c.running (head_test (left c)) n e

none_runs_if : (b : Bool) (x : Option ℕ) → b ≡ false → (if b then x else None) ≡ None
none_runs_if true x e = cc
none_runs_if false x e = refl

pub none_runs : (c : FunctionCall) → c.running ≡ false → running_test c ≡ None
none_runs c e = none_runs_if c.running (head_test (left c)) e

pub no_commands : (u : WorkerTurn) → u.run ≡ None → commands_of u ≡ []
no_commands u e = ap (λ (r : Option ℕ). map (run_at u.duties.tests) (option_to_list r)) e

-- an input that is of the files
pub record Aside (i : WorkerInput) : Type 0 where
  pub link : is_link_input i ≡ false
  pub last : is_link_end i ≡ false
  pub message : message_in i ≡ []
  pub due : (w : Worker) → w.duties.owed ≡ true → IsDue w i
  pub does : (w : Worker) (g : HeardInput) → Is i g.came → Waits w → Plain (turn_by w g)

refused_does : (w : Worker) (g : HeardInput) (text : List ℕ) → g.came ≡ NoSuite text → Waits w → Plain (turn_by w g)
refused_does w g text e i = subst (λ (c : Came). Plain (worker_turned c g.channels (worker_turn_of w))) (sym e) (no_suite_does w text g.channels i)

read_does : (w : Worker) (b : List ℕ) (c : Came) (n : ℕ) → IsSuite b c → Waits w → Plain (worker_turned c n (worker_turn_of w))
read_does w b (Says said) n s i = absurd s
read_does w b (SuiteRead tests) n s i = suite_does w tests n i
read_does w b (NoSuite text) n s i = no_suite_does w text n i
read_does w b (Printed x) n s i = absurd s
read_does w b (ChildEnded outcome ms) n s i = absurd s
read_does w b LinkEnded n s i = absurd s

pub aside : (held : Option Held) (rose : Type 0) (path : List ℕ) (i : WorkerInput) → FilesGave held rose path i → Aside i
aside held rose path (Message m) f = absurd f
aside held rose path (SuiteBytes b) f = record { link = refl; last = refl; message = refl; due = λ w o. o; does = λ w g s i. read_does w b g.came g.channels s i }
aside held rose path SuiteTooLarge f = record { link = refl; last = refl; message = refl; due = λ w o. o; does = λ w g s i. refused_does w g _ s i }
aside held rose path SuiteUnread f = record { link = refl; last = refl; message = refl; due = λ w o. o; does = λ w g s i. refused_does w g _ s i }
aside held rose path (Output b) f = absurd f
aside held rose path (ChildDone outcome ms) f = absurd f
aside held rose path LinkEnd f = absurd f

pub message_came : (w : Worker) (m : MessageView) (c : Came) (n : ℕ) → MessageSays m c → Waits w → Does (is_terminate_kind m.kind) (worker_turned c n (worker_turn_of w))
message_came w m (Says said) n s i = message_does w m said n s i
message_came w m (SuiteRead tests) n s i = absurd s
message_came w m (NoSuite text) n s i = absurd s
message_came w m (Printed x) n s i = absurd s
message_came w m (ChildEnded outcome ms) n s i = absurd s
message_came w m LinkEnded n s i = absurd s

pub none_is : (o : Option ℕ) → o ≡ None → is_none o ≡ true
none_is None e = refl
none_is (Some n) e = cc
