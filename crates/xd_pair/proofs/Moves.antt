-- Calls of a side, by what their contracts say, are moves of every actor that the side stands for.
use Rattle.std.proofs.Common.{◌≡◌, ℕ, List, [], ◌∷◌, ◌++◌, Bool, true, false, Option, None, Ok, refl, sym, ap, subst, ◌∙◌, append_assoc}
use Rattle.std.specs.Prelude.{◌==◌, ◌&&◌, if◌then◌else◌}
use Rattle.std.specs.Option.{option_to_list}
use Rattle.std.proofs.lemmas.Bool.{and_parts, eqb-true}
use Rattle.xd_value.specs.Tree.{Tree}
use Rattle.xd_value.specs.Channels.{channels}
use Rattle.xd_value.specs.Payload.{IsPayload}
use Rattle.xd_value.specs.Canonical.{dumped}
use Rattle.xd_frame.specs.declared.kind.Kind.TheVariants as kind
use Rattle.xd_frame.specs.Message.{MessageView}
use Rattle.xd_factory.specs.Slot.{Slot, Unseen, Here, Gone, is_seen, is_here, closed_slot, function_ended_slot, given_up_slot, give_up_says}
use Rattle.xd_factory.specs.Said.{Said, Exec, Data, Means}
use Rattle.xd_factory.specs.Said as message
use Rattle.xd_factory.specs.Table.{is_long, HasErrorPayload, close_refusal, closing_message, close_says, giving_says, send_refusal, sent_gives}
use Rattle.xd_factory.specs.View.{slot_of_number, KeepsRest}
use Rattle.xd_factory.specs.declared.side.Side.{Side}
use Rattle.xd_pair.specs.Part as part
use Rattle.xd_pair.specs.Pair.{Actor, Send, Call, Answer, Close, End_function, Give_up, knows_numbers, can_send, can_call, can_answer}
use Rattle.xd_pair.specs.Messages.{AllMean, AddsMessages}
use Rattle.xd_pair.specs.Stands.{IsMove, IsMoveIf, Stays}
use Rattle.xd_pair.specs.declared.linked.LinkedSide.{LinkedSide}
use Rattle.xd_pair.proofs.Says.{differ, unasked, here_seen, may_seen}
use Rattle.xd_pair.proofs.Payloads.{close_means}
use Rattle.xd_pair.proofs.Sending.{adds_option, end_said, close_said, give_up_said, item_said, call_said, sent_parts}
use Rattle.xd_pair.proofs.Standing.{at_stands, same_stands, adds_stands}

pub record ChangesAt (old new : Side) (n : ℕ) (f : Slot Tree → Slot Tree) : Type 0 where
  pub slots : (c : ℕ) → slot_of_number new c ≡ (if n == c then f (slot_of_number old c) else slot_of_number old c)
  pub rest : KeepsRest old new

-- a number at which something stands is a channel's
numbered : (a : Actor) (s : Side) (n : ℕ) → ((c : ℕ) → slot_of_number s c ≡ (a.part c).slot) → is_seen (a.part 0).slot ≡ false → is_seen (slot_of_number s n) ≡ true → n == 0 ≡ false
numbered a s n slots zero h = differ a.part n 0 zero (ap is_seen (sym (slots n)) ∙ h)

-- the calls that end a channel
pub close_moves : (old new : LinkedSide) (n : ℕ) (e : Option (List ℕ)) (m : Option MessageView) → HasErrorPayload e → m ≡ close_says n e (slot_of_number old.side n)
    → close_refusal (is_seen (slot_of_number old.side n)) (is_long e) ≡ None → ChangesAt old.side new.side n closed_slot → new.said.items ≡ old.said.items ++ option_to_list m
    → IsMove old new (Close n e)
close_moves old new n e m p says accepted change more odd a wire num u k = record {
  stands = at_stands odd old.side new.side a n closed_slot (λ q. part.closed_in q q.slot) (λ q. refl) change.rest change.slots k;
  says = subst (λ (s : Slot Tree). AddsMessages old.said.items new.said.items (part.close_words n e s)) (k.slots n)
      (adds_option old.said.items new.said.items m (part.close_words n e (slot_of_number old.side n)) more
      (subst (λ (x : Option MessageView). AllMean (option_to_list x) (part.close_words n e (slot_of_number old.side n))) (sym says)
      (close_said n e (slot_of_number old.side n) (numbered a old.side n k.slots num.unseen) accepted p)));
  way = refl;
}

pub end_moves : (old new : LinkedSide) (n : ℕ) (e : Option (List ℕ)) (m : MessageView) → HasErrorPayload e → m ≡ closing_message n e
    → close_refusal (is_seen (slot_of_number old.side n)) (is_long e) ≡ None → ChangesAt old.side new.side n function_ended_slot → new.said.items ≡ old.said.items ++ m ∷ []
    → IsMove old new (End_function n e)
end_moves old new n e m p says accepted change more odd a wire num u k = record {
  stands = at_stands odd old.side new.side a n function_ended_slot (λ q. part.function_ended_in q q.slot) (λ q. refl) change.rest change.slots k;
  says = subst (λ (s : Slot Tree). AddsMessages old.said.items new.said.items (part.function_end_words n e s)) (k.slots n)
      (record {
        more = m ∷ [];
        following = more;
        mean = subst (λ (x : MessageView). AllMean (x ∷ []) (part.function_end_words n e (slot_of_number old.side n))) (sym says)
            (end_said n e (slot_of_number old.side n) (numbered a old.side n k.slots num.unseen) accepted p);
      });
  way = refl;
}

pub give_up_moves : (old new : LinkedSide) (n : ℕ) (m : Option MessageView) → m ≡ giving_says n (give_up_says (slot_of_number old.side n))
    → ChangesAt old.side new.side n given_up_slot → new.said.items ≡ old.said.items ++ option_to_list m → IsMove old new (Give_up n)
give_up_moves old new n m says change more odd a wire num u k = record {
  stands = at_stands odd old.side new.side a n given_up_slot (λ q. part.given_up_in q q.slot) (λ q. refl) change.rest change.slots k;
  says = subst (λ (s : Slot Tree). AddsMessages old.said.items new.said.items (part.give_up_words n s)) (k.slots n)
      (adds_option old.said.items new.said.items m (part.give_up_words n (slot_of_number old.side n)) more
      (subst (λ (x : Option MessageView). AllMean (option_to_list x) (part.give_up_words n (slot_of_number old.side n))) (sym says)
      (give_up_said n (slot_of_number old.side n) (numbered a old.side n k.slots num.unseen))));
  way = refl;
}

-- the calls that send
if_adds : (old new : List MessageView) (b : Bool) (words : List Said) → b ≡ true → AddsMessages old new words → AddsMessages old new (if b then words else [])
if_adds old new true words h k = k
if_adds old new false words h k = absurd (let z = h in cc)

both : (x y : Bool) → x ≡ true → y ≡ true → x && y ≡ true
both true y h k = k
both false y h k = h

pub send_moves : (old new : LinkedSide) (n : ℕ) (v : Tree) (b : List ℕ) (m : MessageView) → IsPayload v b → sent_gives (send_refusal (slot_of_number old.side n)) (dumped v) ≡ Ok b
    → m ≡ record { kind = kind.Item; channel = n; payload = b } → new.side ≡ old.side → new.said.items ≡ old.said.items ++ m ∷ []
    → IsMoveIf (λ a. knows_numbers a.part (channels v)) old new (Send n v)
send_moves old new n v b m p sent is side more odd a wire num known k =
    let parts = sent_parts (slot_of_number old.side n) v b sent in
    let may : part.may_send (a.part n).slot ≡ true = ap part.may_send (sym (k.slots n)) ∙ parts.0 in
    let n_is : n == 0 ≡ false = differ a.part n 0 num.unseen (may_seen (a.part n).slot may) in
    record {
      stands = adds_stands odd new.side a (can_send a n v) n v (same_stands odd old.side new.side a side k);
      says = if_adds old.said.items new.said.items (can_send a n v) (Data n v ∷ []) (both (part.may_send (a.part n).slot) (knows_numbers a.part (channels v)) may known)
          (record { more = m ∷ []; following = more; mean = (subst (λ (x : MessageView). Means x (Data n v)) (sym is) (item_said n v b n_is p parts.1), tt) });
      way = refl;
    }

pub call_moves : (old new : LinkedSide) (n : ℕ) (v : Tree) (b : List ℕ) (m : MessageView) → IsPayload v b → dumped v ≡ Ok b → m ≡ record { kind = kind.Exec; channel = n; payload = b }
    → new.side ≡ old.side → new.said.items ≡ old.said.items ++ m ∷ [] → IsMoveIf (λ a. can_call a n v) old new (Call n v)
call_moves old new n v b m p d is side more odd a wire num can k =
    let parts = and_parts (is_here (a.part n).slot) (knows_numbers a.part (channels v)) can in
    let n_is : n == 0 ≡ false = differ a.part n 0 num.unseen (here_seen (a.part n).slot parts.0) in
    record {
      stands = same_stands odd old.side new.side a side k;
      says = if_adds old.said.items new.said.items (can_call a n v) (Exec n v ∷ []) can
          (record { more = m ∷ []; following = more; mean = (subst (λ (x : MessageView). Means x (Exec n v)) (sym is) (call_said n v b n_is p d), tt) });
      way = refl;
    }

abbrev closing : ℕ → List ℕ → MessageView
closing n b = record { kind = kind.Close; channel = n; payload = b }

pub answer_moves : (old new : LinkedSide) (n : ℕ) (v : Tree) (b none : List ℕ) (m end : MessageView) → IsPayload v b → dumped v ≡ Ok b → none ≡ []
    → m ≡ record { kind = kind.Item; channel = n; payload = b } → end ≡ record { kind = kind.Close; channel = n; payload = none }
    → new.side ≡ old.side → new.said.items ≡ old.said.items ++ m ∷ [] ++ end ∷ [] → IsMoveIf (λ a. can_answer a n v) old new (Answer n v)
answer_moves old new n v b none m end p d empty is end_is side more odd a wire num can k =
    let parts = and_parts (a.part n).asked (knows_numbers a.part (channels v)) can in
    let n_is : n == 0 ≡ false = unasked a.part n 0 num.unasked parts.0 in
    let closes : end ≡ record { kind = kind.Close; channel = n; payload = [] } = end_is ∙ ap (λ (x : List ℕ). closing n x) empty in
    record {
      stands = adds_stands odd new.side a (can_answer a n v) n v (same_stands odd old.side new.side a side k);
      says = if_adds old.said.items new.said.items (can_answer a n v) (Data n v ∷ message.Close n None ∷ []) can
          (record {
            more = m ∷ end ∷ [];
            following = more ∙ append_assoc old.said.items (m ∷ []) (end ∷ []);
            mean = (subst (λ (x : MessageView). Means x (Data n v)) (sym is) (item_said n v b n_is p d), (subst (λ (x : MessageView). Means x (message.Close n None)) (sym closes) (close_means n n_is), tt));
          });
      way = refl;
    }

-- the room for a message changes nothing that is on the way
pub following : (old room new more : List MessageView) → room ≡ old → new ≡ room ++ more → new ≡ old ++ more
following old room new more e h = h ∙ ap (λ (ms : List MessageView). ms ++ more) e

-- a number that was never opened is let go, and nothing changes
given_up_unseen : (s : Slot Tree) → is_seen s ≡ false → given_up_slot s ≡ s
given_up_unseen Unseen h = refl
given_up_unseen (Here x) h = absurd (let z = h in cc)
given_up_unseen Gone h = absurd (let z = h in cc)

stays_by : (s : Side) (n c : ℕ) → is_seen (slot_of_number s n) ≡ false → (b : Bool) → n == c ≡ b → (if b then given_up_slot (slot_of_number s c) else slot_of_number s c) ≡ slot_of_number s c
stays_by s n c u true q = given_up_unseen (slot_of_number s c) (ap (λ (x : ℕ). is_seen (slot_of_number s x)) (sym (eqb-true n c q)) ∙ u)
stays_by s n c u false q = refl

pub unknown_stays : (old new : LinkedSide) (n : ℕ) → is_seen (slot_of_number old.side n) ≡ false → ChangesAt old.side new.side n given_up_slot → new.said.items ≡ old.said.items → Stays old new
unknown_stays old new n u change said = record { slots = λ c. change.slots c ∙ stays_by old.side n c u (n == c) refl; rest = change.rest; said = said }

pub not_unseen : (b : Bool) → (b ≡ false → false ≡ true) → b ≡ true
not_unseen true h = refl
not_unseen false h = h refl
