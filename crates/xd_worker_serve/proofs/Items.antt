-- What is taken of the reader where messages are taken no more, and where they are; and what no job puts.
use Rattle.std.proofs.Common.{◌≡◌, ◌≢◌, ℕ, zero, suc, Bool, true, false, Option, Some, None, refl, ap, ◌∙◌}
use Rattle.std.specs.Prelude.{is_some, not}
use Rattle.xd_frame.specs.declared.fault.FrameFault.{FrameFault}
use Rattle.xd_reader.specs.declared.news.LinkNews.{LinkNews}
use Rattle.xd_reader.specs.declared.news.LinkNews.TheVariants as news
use Rattle.xd_reader.specs.declared.news.LinkStop.{LinkStop}
use Rattle.xd_reader.specs.declared.news.LinkStop.TheVariants as link
use Rattle.xd_worker_serve.specs.declared.server.Door.{Door}
use Rattle.xd_worker_serve.specs.declared.server.Door.TheVariants as door
use Rattle.xd_worker_serve.specs.declared.server.Halt.{Halt}
use Rattle.xd_worker_serve.specs.declared.server.Halt.TheVariants as halt
use Rattle.xd_worker_serve.specs.declared.stop.Stop.TheVariants as stop
use Rattle.xd_worker_serve.specs.inner.Halts.{Goes, IsStrange, IsUncalled, unless_shut}
use Rattle.xd_worker_serve.specs.inner.Seen.{Seen, is_door_shut}
use Rattle.xd_worker_serve.specs.inner.Serves.{Beside, ServesSoFar, Setting, of_inbox, owed_of_link, of_program}
use Rattle.xd_worker_serve.specs.Timing.{one_if}
use Rattle.xd_worker_serve.proofs.Settling.{dropped, end_ceases, strange}

-- ---- inboxes

pub of_first : (n : ℕ) (item : LinkNews) → n ≡ 0 → of_inbox n item ≡ owed_of_link item
of_first n item e = ap (λ (k : ℕ). of_inbox k item) e

pub of_other : (n : ℕ) (item : LinkNews) → n ≢ 0 → of_inbox n item ≡ of_program item
of_other zero item e = absurd (e refl)
of_other (suc n) item e = refl

pub open_if : (d : Door) → is_door_shut d ≡ false → d ≡ door.Open
open_if door.Open e = refl
open_if door.Terminated e = cc
open_if door.Ended e = cc

module _ (a : Setting) (now : Beside) (s : Seen) where
  unless : (item : LinkNews) (h : Halt) → (s.door ≡ door.Open → ServesSoFar a now (owed_of_link item) s → Goes (Some h) a now s) → ServesSoFar a now (owed_of_link item) s → Goes (unless_shut (is_door_shut s.door) h) a now s
  unless item h f g = by (is_door_shut s.door) refl
    where
      by : (b : Bool) → is_door_shut s.door ≡ b → Goes (unless_shut b h) a now s
      by true e = dropped a now s item e g
      by false e = f (open_if s.door e) g

  pub cut_unless : ServesSoFar a now (owed_of_link (news.End link.Cut)) s → Goes (unless_shut (is_door_shut s.door) (halt.At stop.Cut)) a now s
  cut_unless g = unless (news.End link.Cut) (halt.At stop.Cut) (λ o x. end_ceases a now s stop.Cut link.Cut refl refl o (λ inputs h n. (refl, n)) x) g

  pub header_unless : (f : FrameFault) → ServesSoFar a now (owed_of_link (news.End (link.Garbled f))) s → Goes (unless_shut (is_door_shut s.door) (halt.At (stop.Header f))) a now s
  header_unless f g = unless (news.End (link.Garbled f)) (halt.At (stop.Header f)) (λ o x. end_ceases a now s (stop.Header f) (link.Garbled f) refl refl o (λ inputs h n. (refl, n)) x) g

  pub unread_unless : ServesSoFar a now (owed_of_link (news.End link.ReadFault)) s → Goes (unless_shut (is_door_shut s.door) (halt.At stop.ReadFault)) a now s
  unread_unless g = unless (news.End link.ReadFault) (halt.At stop.ReadFault) (λ o x. end_ceases a now s stop.ReadFault link.ReadFault refl refl o (λ inputs h n. (refl, n)) x) g

  pub strange_unless : (item : LinkNews) → IsStrange item → ServesSoFar a now (owed_of_link item) s → Goes (unless_shut (is_door_shut s.door) halt.Astray) a now s
  strange_unless item odd g = unless item halt.Astray (λ o x. strange a now s item odd o x) g

-- ---- programs

pub none_runs : (o : Option ℕ) (b : Bool) → is_some o ≡ not b → b ≡ true → one_if o ≡ 0
none_runs None b e f = refl
none_runs (Some m) b e f = let x = e ∙ ap not f in cc

pub none_started : (o : Option ℕ) → ((m : ℕ) → o ≡ Some m → ⊥) → one_if o ≡ 0
none_started None n = refl
none_started (Some m) n = absurd (n m refl)

pub odd_end : (l : LinkStop) (n : ℕ) → l ≢ link.OutOfMemory → IsUncalled n (news.End l)
odd_end link.Ended n e = tt
odd_end link.Cut n e = tt
odd_end (link.Garbled f) n e = tt
odd_end (link.BadGreeting b) n e = tt
odd_end link.ReadFault n e = tt
odd_end link.OutOfMemory n e = absurd (e refl)
