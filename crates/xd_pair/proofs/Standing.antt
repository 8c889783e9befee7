-- After a call, a side stands for the actor after the move.
use Rattle.std.proofs.Common.{◌≡◌, ℕ, Bool, true, false, sym, ap, subst, ◌∙◌}
use Rattle.std.specs.Prelude.{◌==◌, is_some, if◌then◌else◌}
use Rattle.xd_value.specs.Tree.{Tree}
use Rattle.xd_factory.specs.Slot.{Slot}
use Rattle.xd_factory.specs.View.{slot_of_number, KeepsRest}
use Rattle.xd_factory.specs.declared.side.Side.{Side}
use Rattle.xd_pair.specs.Part.{Part}
use Rattle.xd_pair.specs.Pair.{Actor, part_changed, adds}
use Rattle.xd_pair.specs.Stands.{StandsForActor}
use Rattle.xd_pair.proofs.Says.{if_actor}

-- a call that changes one number
pub at_stands : (odd : Bool) (s t : Side) (a : Actor) (n : ℕ) (f : Slot Tree → Slot Tree) (g : Part → Part)
    → ((p : Part) → (g p).slot ≡ f p.slot) → KeepsRest s t → ((c : ℕ) → slot_of_number t c ≡ (if n == c then f (slot_of_number s c) else slot_of_number s c))
    → StandsForActor odd s a → StandsForActor odd t (part_changed n g a)
at_stands odd s t a n f g e rest slots k = record {
  parity = rest.parity ∙ k.parity;
  slots = λ c. slots c ∙ by_test (n == c) c;
  next = rest.next ∙ k.next;
  finished = rest.finished ∙ k.finished;
  refuses = ap is_some rest.fault ∙ k.refuses;
}
  where
    by_test : (b : Bool) (c : ℕ) → (if b then f (slot_of_number s c) else slot_of_number s c) ≡ (if b then g (a.part c) else a.part c).slot
    by_test true c = ap f (k.slots c) ∙ sym (e (a.part c))
    by_test false c = k.slots c

-- a call that changes nothing
pub same_stands : (odd : Bool) (s t : Side) (a : Actor) → t ≡ s → StandsForActor odd s a → StandsForActor odd t a
same_stands odd s t a e k = subst (λ (x : Side). StandsForActor odd x a) (sym e) k

pub adds_stands : (odd : Bool) (s : Side) (a : Actor) (b : Bool) (n : ℕ) (v : Tree) → StandsForActor odd s a → StandsForActor odd s (if b then adds n v a else a)
adds_stands odd s a b n v k = if_actor (StandsForActor odd s) b (adds n v a) a (record { parity = k.parity; slots = k.slots; next = k.next; finished = k.finished; refuses = k.refuses }) k
