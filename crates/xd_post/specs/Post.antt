-- What contracts see of a mailbox's two ends.
use Rattle.std.specs.Prelude.{◌≡◌, ℕ, List, ◌∷◌, ◌++◌, Option, Some, None}
use Rattle.std.specs.declared.alloc.Global.{Global}
use denote.RawPtr.{Ptr}
use Rattle.rtrb.specs.Ring.{sent, received, known_items, producer_capacity}
use Rattle.rtrb.specs.Shared.{Names}
use Rattle.rtrb.specs.declared.end.End.{End}
use Rattle.xd_post.specs.declared.ends.Sender.{Sender}
use Rattle.xd_post.specs.declared.ends.Inbox.{Inbox}

-- which ring an end is of; the two ends of one mailbox have the same
abbrev pub Ring : Type 0
Ring = Ptr × Ptr × Names × Global

module _ {T : Type 0} where
  -- the ring that one of its ends is of
  abbrev pub ring_of_end : {P : Type 0} → End T Global P → Ring
  ring_of_end e = (e.words, e.slots, e.names, e.heap)

  -- every item that was put, in order
  abbrev pub put : Sender T → List T
  put sender = sent sender.to

  -- the ring that the sender puts into
  abbrev pub ring_of_sender : Sender T → Ring
  ring_of_sender sender = ring_of_end sender.to.end

  -- how many items may be put before one is taken
  abbrev pub room_of : Sender T → ℕ
  room_of sender = producer_capacity sender.to

  -- every item that was taken, in order
  abbrev pub taken : Inbox T → List T
  taken inbox = received inbox.from

  -- the items that the inbox saw in the ring when it last looked, in order; the next takes give them
  abbrev pub known : Inbox T → List T
  known inbox = known_items inbox.from

  -- the ring that the inbox takes from
  abbrev pub ring_of_inbox : Inbox T → Ring
  ring_of_inbox inbox = ring_of_end inbox.from.end

  -- What was taken, and the next item after it, begin what was put. Where there is no next item, what was taken is all
  -- that was put.
  -- Example: `a`, `b`, `c` were put and `a` was taken; the next item is `b`, and `a`, `b` begins what was put.
  abbrev pub Empties : Option T → List T → List T → Type 0
  Empties None got sent_all = got ≡ sent_all
  Empties (Some next) got sent_all = (later : List T) × (sent_all ≡ got ++ next ∷ later)
