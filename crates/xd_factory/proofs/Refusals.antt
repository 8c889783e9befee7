-- Each reason for which a message is refused is told.
use Rattle.std.proofs.Common.{◌≡◌, ℕ, ◌+◌, ◌<◌, ◌≤◌, Bool, Result, Ok, Err, refl, subst, sym, arith}
use Rattle.xd_frame.specs.Message.{MessageView}
use Rattle.xd_factory.specs.declared.word.Word.{Word}
use Rattle.xd_factory.specs.declared.faults.SideFault.{SideFault}
use Rattle.xd_factory.specs.declared.faults.SideFault.TheVariants as fault
use Rattle.xd_factory.specs.Said.{Said, said_of, names_of, IsFault}
use Rattle.xd_factory.specs.Reads.{MessageReads}
use Rattle.xd_factory.specs.Table.{opened_count, Refused, IsHearFault}

abbrev failing : (X : Type 0) → SideFault → Result X SideFault
failing X f = Err f

same_fault : (X Y : Type 0) (f g : SideFault) → IsFault g (failing X f) → IsFault g (failing Y f)
same_fault X Y fault.OutOfMemory g k = tt
same_fault X Y fault.Finished g k = k
same_fault X Y fault.BadNumber g k = k
same_fault X Y fault.Unsupported g k = k
same_fault X Y (fault.BadPayload what) g k = k
same_fault X Y fault.NotText g k = k
same_fault X Y fault.TooManyOpen g k = k

-- a message that was taken had no fault
pub none_refused : (entries : ℕ) (new : ℕ → Bool) (m : MessageView) (w : Word) → MessageReads m (Ok w) → entries + opened_count new (names_of (said_of w)) ≤ 4096
    → (f : SideFault) → Refused entries new m f → ⊥
none_refused entries new m w r h fault.BadNumber q = r.refuses fault.BadNumber q
none_refused entries new m w r h fault.Unsupported q = r.refuses fault.Unsupported q
none_refused entries new m w r h (fault.BadPayload what) q = r.refuses (fault.BadPayload what) q
none_refused entries new m w r h fault.NotText q = r.refuses fault.NotText q
none_refused entries new m w r h fault.Finished q = q
none_refused entries new m w r h fault.OutOfMemory q = q
none_refused entries new m w r h fault.TooManyOpen q =
    let e : q.0 ≡ said_of w = r.only q.0 q.1 in
    let more : 4096 < entries + opened_count new (names_of (said_of w)) = subst (λ (s : Said). 4096 < entries + opened_count new (names_of s)) e q.2 in
    omega arith

-- a message that was read and not done
pub hear_refused : (X : Type 0) (entries : ℕ) (new : ℕ → Bool) (m : MessageView) (w : Word) (g : SideFault) → MessageReads m (Ok w) → IsHearFault (entries + opened_count new (names_of (said_of w))) g
    → (f : SideFault) → Refused entries new m f → IsFault f (failing X g)
hear_refused X entries new m w g r h fault.BadNumber q = absurd (r.refuses fault.BadNumber q)
hear_refused X entries new m w g r h fault.Unsupported q = absurd (r.refuses fault.Unsupported q)
hear_refused X entries new m w g r h (fault.BadPayload what) q = absurd (r.refuses (fault.BadPayload what) q)
hear_refused X entries new m w g r h fault.NotText q = absurd (r.refuses fault.NotText q)
hear_refused X entries new m w g r h fault.Finished q = absurd q
hear_refused X entries new m w g r h fault.OutOfMemory q = absurd q
hear_refused X entries new m w fault.TooManyOpen r h fault.TooManyOpen q = refl
hear_refused X entries new m w fault.OutOfMemory r h fault.TooManyOpen q = tt
hear_refused X entries new m w fault.Finished r h fault.TooManyOpen q = absurd h
hear_refused X entries new m w fault.BadNumber r h fault.TooManyOpen q = absurd h
hear_refused X entries new m w fault.Unsupported r h fault.TooManyOpen q = absurd h
hear_refused X entries new m w (fault.BadPayload what) r h fault.TooManyOpen q = absurd h
hear_refused X entries new m w fault.NotText r h fault.TooManyOpen q = absurd h

-- a message that was not read
pub read_refused : (X : Type 0) (entries : ℕ) (new : ℕ → Bool) (m : MessageView) (g : SideFault) → MessageReads m (Err g)
    → (f : SideFault) → Refused entries new m f → IsFault f (failing X g)
read_refused X entries new m g r fault.BadNumber q = same_fault Word X g fault.BadNumber (r.refuses fault.BadNumber q)
read_refused X entries new m g r fault.Unsupported q = same_fault Word X g fault.Unsupported (r.refuses fault.Unsupported q)
read_refused X entries new m g r (fault.BadPayload what) q = same_fault Word X g (fault.BadPayload what) (r.refuses (fault.BadPayload what) q)
read_refused X entries new m g r fault.NotText q = same_fault Word X g fault.NotText (r.refuses fault.NotText q)
read_refused X entries new m g r fault.Finished q = absurd q
read_refused X entries new m g r fault.OutOfMemory q = absurd q
read_refused X entries new m g r fault.TooManyOpen q = let e : g ≡ fault.OutOfMemory = r.only q.0 q.1 in subst (λ (x : SideFault). IsFault fault.TooManyOpen (failing X x)) (sym e) tt
