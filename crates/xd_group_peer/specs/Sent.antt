-- What a sink took of some messages.
use Rattle.std.specs.Prelude.{◌≡◌, ◌<◌, ◌∷◌, ◌++◌, [], ℕ, Bool, true, false, List, length, take, Option, IfSome}
use Rattle.xd_edge.specs.Sink.{Sunk}
use Rattle.xd_frame.specs.Message.{MessageView, frames}
use Rattle.xd_journal.specs.declared.entry.Cause.{Cause}
use Rattle.xd_journal.specs.declared.news.What.{What}
use Rattle.xd_journal.specs.declared.news.What.TheVariants.{Gone}
use Rattle.xd_group_peer.specs.Heard.{is_send_fault}

-- A sink that took nothing before took all of these messages, handed them on, and was closed where that is said; or it took
-- a first part of them, where it failed.
pub record SentAs (broken closed : Bool) (sunk : Option Sunk) (faults : ℕ) (messages : List MessageView) : Type 0 where
  pub whole : broken ≡ false → IfSome sunk (λ s. s ≡ record { bytes = frames messages; flushed = length (frames messages); closed = closed })
  pub part : broken ≡ true → (0 < faults) × IfSome sunk (λ s. s.bytes ≡ take (length s.bytes) (frames messages))

-- A sink took all of these messages and handed them on.
pub record HandedOn (messages : List MessageView) (s : Sunk) : Type 0 where
  pub bytes : s.bytes ≡ frames messages
  pub flushed : s.flushed ≡ length (frames messages)

-- Where what was said ends with the link's end, and by another cause than a failed send, the sink handed on all.
abbrev pub EndsWhole : List What → List MessageView → Option Sunk → Type 0
EndsWhole said messages sunk = (all : List What) (why : Cause) → said ≡ all ++ Gone why ∷ [] → is_send_fault why ≡ false → IfSome sunk (HandedOn messages)
