-- How long tests ran: one moment more.
use Rattle.std.proofs.Common.{◌≡◌, ℕ, ◌+◌, ◌-◌, ◌≤◌, List, [], ◌∷◌, length, Option, Some, None, refl, ap, sym, ◌∙◌, subst, arith}
use Rattle.std.specs.Prelude.{IfSome, IsSome}
use Rattle.std.proofs.lemmas.List.{append-nil}
use Rattle.xd_edge.specs.Files.{Held}
use Rattle.xd_worker.specs.declared.input.WorkerInput.{WorkerInput}
use Rattle.xd_worker.specs.declared.input.WorkerInput.TheVariants.{Message, SuiteBytes, SuiteTooLarge, SuiteUnread, Output, ChildDone, LinkEnd}
use Rattle.xd_worker_serve.specs.inner.News.{dones, news_in}
use Rattle.xd_worker_serve.specs.Suites.{FilesGave}
use Rattle.xd_worker_serve.specs.inner.Seen.{Seen}
use Rattle.xd_worker_serve.specs.inner.Serves.{Beside, Owed, ServesSoFar, Setting}
use Rattle.xd_edge.specs.Clock.{Ticking, Ticks}
use Rattle.xd_worker_serve.specs.Timing.{AreMeasured, AreMeasuredSince, Times, durations_in, one_if}
use Rattle.xd_worker_serve.proofs.Counting.{dones_done, dones_piece}

-- each end of a program came with a duration
dones_are : (is : List WorkerInput) → dones (news_in is) ≡ length (durations_in is)
dones_are [] = refl
dones_are (Message m ∷ is) = ap dones (append-nil (news_in is)) ∙ dones_are is
dones_are (SuiteBytes b ∷ is) = ap dones (append-nil (news_in is)) ∙ dones_are is
dones_are (SuiteTooLarge ∷ is) = ap dones (append-nil (news_in is)) ∙ dones_are is
dones_are (SuiteUnread ∷ is) = ap dones (append-nil (news_in is)) ∙ dones_are is
dones_are (Output b ∷ is) = dones_piece (news_in is) b ∙ dones_are is
dones_are (ChildDone outcome ms ∷ is) = let d = dones_done (news_in is) outcome in let e = dones_are is in omega (arith, d, e)
dones_are (LinkEnd ∷ is) = ap dones (append-nil (news_in is)) ∙ dones_are is

-- one program runs at most
pub at_most : (o : Option ℕ) → one_if o ≤ 1
at_most None = omega arith
at_most (Some m) = omega arith

-- as many programs as were ordered ended, but for the one that runs
pub count_of : (a : Setting) (now : Beside) (owed : Owed) (s : Seen) (g : ServesSoFar a now owed s) → length s.orders ≡ dones (news_in g.heard.inputs) + one_if s.started
count_of a now owed s g = g.ordered.each ∙ ap (λ (n : ℕ). n + one_if s.started) (sym (dones_are g.heard.inputs))

pub times_of : (a : Setting) (now : Beside) (owed : Owed) (s : Seen) (g : ServesSoFar a now owed s) → Times g.heard.inputs s.orders a.clock now.clock
times_of a now owed s g = record { running = s.started; each = g.ordered.each; timed = g.ordered.timed }

-- a program begins at a moment
pub begun_at : (o : Option ℕ) (durations : List ℕ) (moment : ℕ) (old mid new : Ticking) → o ≡ None → AreMeasuredSince o durations old mid → Ticks moment mid new → AreMeasuredSince (Some moment) durations old new
begun_at None durations moment old mid new e t k = (mid, t, k)
begun_at (Some m) durations moment old mid new e t k = cc

-- the program that runs ends at a moment
pub ended_at : (o : Option ℕ) (durations : List ℕ) (ms : ℕ) (old mid new : Ticking) → IsSome o → AreMeasuredSince o durations old mid → IfSome o (λ start. Ticks (start + ms) mid new) → AreMeasured (ms ∷ durations) old new
ended_at None durations ms old mid new e t k = cc
ended_at (Some start) durations ms old mid new e t k = (t.0, t.1, record { start = start; mid = mid; begins = t.2; ends = k })

-- the program that runs began at the clock's last moment, and so it lasted up to the next one
pub lasted : (o : Option ℕ) (start end ms : ℕ) (durations : List ℕ) (old mid new : Ticking) → o ≡ Some start → AreMeasuredSince o durations old mid → Ticks end mid new → ms ≡ end - start → IfSome o (λ s. Ticks (s + ms) mid new)
lasted None start end ms durations old mid new e t k m = cc
lasted (Some s) start end ms durations old mid new e t k m =
    let same : s ≡ start = cc in
    subst (λ (n : ℕ). Ticks n mid new) (let b = t.2.last in let l = k.later in omega (arith, same, b, l, m)) k

-- a suite takes no time
pub untimed : (held : Option Held) (rose : Type 0) (path : List ℕ) (i : WorkerInput) (is : List WorkerInput) → FilesGave held rose path i → durations_in (i ∷ is) ≡ durations_in is
untimed held rose path (Message m) is f = absurd f
untimed held rose path (SuiteBytes b) is f = refl
untimed held rose path SuiteTooLarge is f = refl
untimed held rose path SuiteUnread is f = refl
untimed held rose path (Output b) is f = absurd f
untimed held rose path (ChildDone outcome ms) is f = absurd f
untimed held rose path LinkEnd is f = absurd f
