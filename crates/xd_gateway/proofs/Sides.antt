-- What the side answers.
use Rattle.std.proofs.Common.{◌≡◌, ℕ, ◌<◌, ◌≤◌, Bool, true, false, Option, Some, None, Err, refl, sym, ◌∙◌, arith}
use Rattle.std.specs.Prelude.{◌==◌, nat_lt, if◌then◌else◌}
use Rattle.std.proofs.lemmas.Bool.{eq-eqb}
use Rattle.std.proofs.lemmas.Bool.Decides.{nat_tests}
use Rattle.xd_frame.specs.Message.{MessageView}
use Rattle.xd_factory.specs.declared.faults.OpenFault.{OpenFault}
use Rattle.xd_factory.specs.declared.faults.OpenFault.TheVariants as open_fault
use Rattle.xd_factory.specs.declared.faults.SideFault.{SideFault}
use Rattle.xd_factory.specs.declared.faults.SideFault.TheVariants as fault
use Rattle.xd_factory.specs.Said.{IsFault}
use Rattle.xd_factory.specs.Table.{Refused, IsRefused}
use Rattle.xd_factory.specs.SideTable.{ChannelTable, Counts, MustRefuse}
use Rattle.xd_factory.proofs.SideTables.{new_in, reason}
use Rattle.xd_gateway.specs.inner.Opening.{IsUnopened, opening_fault}
use Rattle.xd_gateway.specs.Taking.{IsFaultOf}

pub at_most : (a b : ℕ) → (a < b → ⊥) → b ≤ a
at_most a b h = by_test (nat_lt a b) refl
  where
    less : nat_lt a b ≡ true → a < b
    less q = grind (arith, nat_tests)

    by_test : (c : Bool) → nat_lt a b ≡ c → b ≤ a
    by_test true q = absurd (h (less q))
    by_test false q = grind (arith, nat_tests)

pub fault_at : (t : ChannelTable) (m : MessageView) (f : SideFault) (n : ℕ) → ((b : SideFault) → t.fault ≡ Some b → f ≡ b) → (t.fault ≡ None → IsRefused n (new_in t) m f) → Counts t.slot n → IsFaultOf t m f
fault_at t m fault.OutOfMemory n g h k = tt
fault_at t m fault.Finished n g h k = reason t.fault t m fault.Finished n g h k
fault_at t m fault.BadNumber n g h k = reason t.fault t m fault.BadNumber n g h k
fault_at t m fault.Unsupported n g h k = reason t.fault t m fault.Unsupported n g h k
fault_at t m (fault.BadPayload what) n g h k = reason t.fault t m (fault.BadPayload what) n g h k
fault_at t m fault.NotText n g h k = reason t.fault t m fault.NotText n g h k
fault_at t m fault.TooManyOpen n g h k = reason t.fault t m fault.TooManyOpen n g h k

same_fault : (X : Type 0) (f g : SideFault) → g ≡ f → IsFault {X = X} f (Err g)
same_fault X f fault.OutOfMemory h = tt
same_fault X f fault.Finished h = h
same_fault X f fault.BadNumber h = h
same_fault X f fault.Unsupported h = h
same_fault X f (fault.BadPayload what) h = h
same_fault X f fault.NotText h = h
same_fault X f fault.TooManyOpen h = h

pub must_refuse : (X : Type 0) (o : Option SideFault) (t : ChannelTable) (m : MessageView) (f g : SideFault) (n : ℕ) → ((b : SideFault) → o ≡ Some b → g ≡ b) → (o ≡ None → Refused n (new_in t) m f → IsFault {X = X} f (Err g))
    → Counts t.slot n → MustRefuse o t m f → IsFault {X = X} f (Err g)
must_refuse X None t m f g n a b k h = b refl (h n k)
must_refuse X (Some before) t m f g n a b k h = same_fault X f g (a before refl ∙ sym h)

-- ---- a channel that opens, or does not

abbrev refusal_by : Bool → ℕ → ℕ → Option OpenFault
refusal_by finished entries next =
    if finished then Some open_fault.Finished
    else (if entries == 4096 then Some open_fault.TooManyOpen
    else (if nat_lt 2147483647 next then Some open_fault.NumbersSpent else None))

differ : (a b : ℕ) → (a ≡ b → ⊥) → (a == b) ≡ false
differ a b h = grind (arith, nat_tests)

pub accepted : (finished : Bool) (entries next : ℕ) → (finished ≡ true → ⊥) → (finished ≡ false → entries ≡ 4096 → ⊥) → (finished ≡ false → (entries ≡ 4096 → ⊥) → 2147483647 < next → ⊥)
    → (refusal_by finished entries next ≡ None) × (next ≤ 2147483647)
accepted true entries next a b c = absurd (a refl)
accepted false entries next a b c =
    let small : next ≤ 2147483647 = at_most 2147483647 next (c refl (b refl)) in
    (rw (differ entries 4096 (b refl), not_less next small) refl, small)
  where
    not_less : (n : ℕ) → n ≤ 2147483647 → nat_lt 2147483647 n ≡ false
    not_less n h = grind (arith, nat_tests)

pub refused : (finished : Bool) (entries next : ℕ) (f : OpenFault) → (finished ≡ true → f ≡ open_fault.Finished) → (f ≡ open_fault.Finished → finished ≡ true) → (finished ≡ false → f ≡ open_fault.TooManyOpen → entries ≡ 4096)
    → (finished ≡ false → entries ≡ 4096 → f ≡ open_fault.TooManyOpen) → (finished ≡ false → (entries ≡ 4096 → ⊥) → f ≡ open_fault.NumbersSpent → 2147483647 < next)
    → IsUnopened (refusal_by finished entries next) (opening_fault f)
refused finished entries next open_fault.OutOfMemory a b c d e = tt
refused finished entries next open_fault.Finished a b c d e = rw (b refl) refl
refused true entries next open_fault.TooManyOpen a b c d e = absurd (let z = a refl in cc)
refused false entries next open_fault.TooManyOpen a b c d e = rw (eq-eqb entries 4096 (c refl refl)) refl
refused true entries next open_fault.NumbersSpent a b c d e = absurd (let z = a refl in cc)
refused false entries next open_fault.NumbersSpent a b c d e =
    let few : entries ≡ 4096 → ⊥ = λ q. (let z = d refl q in cc) in
    rw (differ entries 4096 few, more next (e refl few refl)) refl
  where
    more : (m : ℕ) → 2147483647 < m → nat_lt 2147483647 m ≡ true
    more m h = grind (arith, nat_tests)
