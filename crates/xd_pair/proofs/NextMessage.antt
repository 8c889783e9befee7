-- Taking the next message of the peer, by what the contract of `take_message` says, is a move of every actor.
use Rattle.std.proofs.Common.{◌≡◌, ℕ, List, [], ◌∷◌, Bool, true, false, Some, None, refl, sym, subst}
use Rattle.std.specs.Prelude.{◌||◌, is_some, if◌then◌else◌}
use Rattle.xd_value.specs.Tree.{Tree}
use Rattle.xd_frame.specs.Message.{MessageView}
use Rattle.xd_factory.specs.Numbers.{is_in, is_mine}
use Rattle.xd_factory.specs.Said.{Said, Means, names_of}
use Rattle.xd_factory.specs.Table.{heard_slot, answer_of, OpensAtMost}
use Rattle.xd_factory.specs.View.{slot_of_number, parity_of, next_of, fault_of, is_finished, KeepsRest}
use Rattle.xd_factory.specs.declared.taken.Taken.{Taken}
use Rattle.xd_factory.specs.declared.faults.SideFault.{SideFault}
use Rattle.xd_pair.specs.Pair.{Actor, Take_message, takes, messages_left, after, wire_after}
use Rattle.xd_pair.specs.Handed.{Hands, taken_items, taken_end}
use Rattle.xd_pair.specs.Messages.{AllMean}
use Rattle.xd_pair.specs.Stands.{StandsForActor, IsOpen, IsTake, RefusesNext}
use Rattle.xd_pair.specs.declared.linked.LinkedSide.{LinkedSide}
use Rattle.xd_pair.proofs.Standing.{same_stands}
use Rattle.xd_pair.proofs.Taking.{open_actor, took, none_hands, refused}

pub takes_some : (old new peer left : LinkedSide) (m : MessageView) (answer : Taken Tree) → peer.said.items ≡ m ∷ left.said.items → left.side ≡ peer.side → new.said.items ≡ old.said.items
    → fault_of old.side ≡ None → KeepsRest old.side new.side → ((said : Said) → Means m said → answer ≡ answer_of (parity_of old.side) (slot_of_number old.side) said)
    → ((said : Said) → Means m said → (c : ℕ) → slot_of_number new.side c ≡ heard_slot (parity_of old.side) said c (slot_of_number old.side c))
    → IsTake old new peer left (taken_items answer) (taken_end answer)
takes_some old new peer left m answer items side said f keeps answers slots = record {
  quiet = record { said = said; peer_side = side };
  takes = λ odd a wire k carries.
      let means : AllMean (m ∷ left.said.items) wire = subst (λ (ms : List MessageView). AllMean ms wire) items (carries (open_actor odd old.side a k f)) in
      let r = took odd old.side new.side a wire m left.said.items answer f keeps answers slots k means in
      record { stands = r.stands; carries = λ o. r.carries; hands = r.hands };
}

-- no message was on the way
none_takes : (odd : Bool) (a : Actor) (wire : List Said) → AllMean [] wire → takes odd a wire ≡ a
none_takes odd a [] h = refl
none_takes odd a (w ∷ ws) h = absurd h

none_after : (odd : Bool) (a : Actor) (wire : List Said) → (IsOpen a → AllMean [] wire) → after odd a wire Take_message ≡ a
none_after odd a wire h = by_test (a.failed || a.finished) h
  where
    by_test : (b : Bool) → (b ≡ false → AllMean [] wire) → (if b then a else takes odd a wire) ≡ a
    by_test true k = refl
    by_test false k = none_takes odd a wire (k refl)

none_rest : (b : Bool) (wire : List Said) → AllMean [] wire → AllMean [] (if b then wire else messages_left wire)
none_rest true wire h = h
none_rest false [] h = tt
none_rest false (w ∷ ws) h = absurd h

pub takes_none : (old new peer left : LinkedSide) → peer.said.items ≡ [] → left.said.items ≡ [] → left.side ≡ peer.side → new.said.items ≡ old.said.items → new.side ≡ old.side
    → IsTake old new peer left (λ c. []) (λ c. None)
takes_none old new peer left items none side said same = record {
  quiet = record { said = said; peer_side = side };
  takes = λ odd a wire k carries.
      let means : IsOpen a → AllMean [] wire = λ o. subst (λ (ms : List MessageView). AllMean ms wire) items (carries o) in
      record {
        stands = subst (λ (b : Actor). StandsForActor odd new.side b) (sym (none_after odd a wire means)) (same_stands odd old.side new.side a same k);
        carries = λ o. subst (λ (ms : List MessageView). AllMean ms (wire_after a wire Take_message)) (sym none) (none_rest (a.failed || a.finished) wire (means (subst (λ (b : Actor). IsOpen b) (none_after odd a wire means) o)));
        hands = subst (λ (b : Actor). Hands a b (λ c. []) (λ c. None)) (sym (none_after odd a wire means)) (none_hands a);
      };
}

pub refuses_some : (old new peer left : LinkedSide) (m : MessageView) → peer.said.items ≡ m ∷ left.said.items → left.side ≡ peer.side → new.said.items ≡ old.said.items
    → ((f : SideFault) → fault_of old.side ≡ Some f → new.side ≡ old.side) → is_some (fault_of new.side) ≡ true
    → parity_of new.side ≡ parity_of old.side → next_of new.side ≡ next_of old.side → is_finished new.side ≡ is_finished old.side
    → ((c : ℕ) → OpensAtMost (is_mine (parity_of old.side) c) (slot_of_number old.side c) (slot_of_number new.side c))
    → ((said : Said) → Means m said → (c : ℕ) → is_in c (names_of said) ≡ false → slot_of_number new.side c ≡ slot_of_number old.side c)
    → RefusesNext old new peer left
refuses_some old new peer left m items side said failed fails p n d err others = record {
  quiet = record { said = said; peer_side = side };
  refuses = λ odd a wire k carries.
      let r = refused odd old.side new.side a wire m left.said.items failed fails p n d err others k (λ o. subst (λ (ms : List MessageView). AllMean ms wire) items (carries o)) in
      record { names = r.0; stands = r.1 };
}
