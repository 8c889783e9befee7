-- One input more: what was written, the sink's count, and the suites.
use Rattle.std.proofs.Common.{◌≡◌, ℕ, ◌≤◌, List, [], ◌∷◌, ◌++◌, Bool, true, false, not, Option, Some, None, ap, sym, ◌∙◌, subst, arith}
use Rattle.std.proofs.lemmas.List.Concat.{flat_map-append}
use Rattle.xd_edge.specs.Faults.{Rose}
use Rattle.xd_edge.specs.Files.{Held}
use Rattle.xd_edge.specs.Sink.{Sunk, Printed, PrintedPart}
use Rattle.xd_edge.proofs.SinkLemmas.{printed_more}
use Rattle.xd_frame.specs.Message.{MessageView, frame, frames}
use Rattle.xd_frame.specs.Writing.{CountAfter, CountSince, WritesMore}
use Rattle.xd_worker.specs.declared.input.WorkerInput.{WorkerInput}
use Rattle.xd_worker.specs.declared.input.WorkerInput.TheVariants.{Message, SuiteBytes, SuiteTooLarge, SuiteUnread, Output, ChildDone, LinkEnd}
use Rattle.xd_worker.specs.History.{HeardInput, all_said, turn_by, worker_after}
use Rattle.xd_worker_serve.specs.Speaking.{written}
use Rattle.xd_worker_serve.specs.Spoke.{Speaks}
use Rattle.xd_worker_serve.specs.Suites.{AreAnswered, AnswersAsking, asked_path}

-- ---- counts

pub rose_later : (a b c : ℕ) → Rose a b → b ≤ c → Rose a c
rose_later a b c r l = λ below. let x = r (omega (arith, below, l)) in omega (arith, x, l)

pub rose_earlier : (a b c : ℕ) → a ≤ b → Rose b c → Rose a c
rose_earlier a b c l r = λ below. let x = r below in omega (arith, x, l)

-- ---- what was written

frames_more : (a b : List MessageView) → frames (a ++ b) ≡ frames a ++ frames b
frames_more a b = flat_map-append frame a b

pub written_more : (a b : List MessageView) → written (a ++ b) ≡ written a ++ frames b
written_more a b = ap (λ (l : List ℕ). 49 ∷ l) (frames_more a b)

pub speaks_more : (b0 b1 : Bool) (h : List HeardInput) (g : HeardInput) (bytes : List ℕ) (first mid new : Option Sunk) → b0 ≡ false → bytes ≡ frames (turn_by (worker_after h) g).talk.says
    → Speaks (not b0) h first mid → WritesMore b0 b1 bytes mid new → Speaks (not b1) (g ∷ h) first new
speaks_more true b1 h g bytes first mid new whole is s m = cc
speaks_more false true h g bytes first mid new whole is s m = (mid, s, subst (λ (l : List ℕ). PrintedPart l mid new) is m)
speaks_more false false h g bytes first mid new whole is s m =
    let says = (turn_by (worker_after h) g).talk.says in
    subst (λ (l : List ℕ). Printed l first new) (ap (λ (l : List ℕ). written (all_said h) ++ l) is ∙ sym (written_more (all_said h) says)) (printed_more (written (all_said h)) bytes first mid new s m)

-- the count of a sink after what was written next
pub count_more : (b0 b1 : Bool) (a b c : ℕ) → CountAfter (not b0) a b → CountSince b0 b1 b c → CountAfter (not b1) a c
count_more true true a b c x y = subst (λ (n : ℕ). Rose a n) (sym y.1) x
count_more true false a b c x y = let z = y.0 in cc
count_more false true a b c x y = subst (λ (n : ℕ). Rose n c) x y
count_more false false a b c x y = y ∙ x

-- ---- suites

pub answered_later : (held : Option Held) (P Q : Type 0) → (P → Q) → (is : List WorkerInput) (h : List HeardInput) → AreAnswered held P is h → AreAnswered held Q is h
answered_later held P Q f [] h a = tt
answered_later held P Q f (i ∷ is) [] a = a
answered_later held P Q f (i ∷ is) (g ∷ h) a = (one (asked_path h) i a.0, answered_later held P Q f is h a.1)
  where
    one : (path : Option (List ℕ)) (i : WorkerInput) → AnswersAsking held P path i → AnswersAsking held Q path i
    one None i x = x
    one (Some p) (Message m) x = x
    one (Some p) (SuiteBytes b) x = x
    one (Some p) SuiteTooLarge x = x
    one (Some p) SuiteUnread x = f x
    one (Some p) (Output b) x = x
    one (Some p) (ChildDone outcome ms) x = x
    one (Some p) LinkEnd x = x
