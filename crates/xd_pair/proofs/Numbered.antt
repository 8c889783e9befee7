-- In every history each side opens its own numbers, and nothing stands at 0.
use Rattle.std.proofs.Common.{◌≡◌, ℕ, ◌+◌, List, [], ◌∷◌, Bool, true, false, refl, sym, ap, subst, ◌∙◌, arith}
use Rattle.std.specs.Prelude.{◌==◌, ◌||◌, ◌&&◌, not, if◌then◌else◌}
use Rattle.std.proofs.lemmas.Bool.Decides.{nat_tests}
use Rattle.xd_value.specs.Tree.{Tree}
use Rattle.xd_factory.specs.Numbers.{is_in, is_odd}
use Rattle.xd_factory.specs.Slot.{Slot, Unseen, Here, Gone, is_seen, named_slot}
use Rattle.xd_factory.specs.Said.{Said}
use Rattle.xd_pair.specs.Notes.{Note, Named, Item, Ends, Lasts, Asked, owns, notes}
use Rattle.xd_pair.specs.Part.{Part, heard, heard_in, heard_all, opened_in, received_in, hooked_in, closed_in, function_ended_in, given_up_in}
use Rattle.xd_pair.specs.Pair.{Actor, World, Move, Open_channel, Send, Call, Ask, Answer, Terminate, Close, End_function, Give_up, Receive, Set_callback, Take_message, Refuse, Finish_receiving, is_told, named_part, part_changed, adds, can_send, can_answer, can_open, takes, after, Step, Odd, Even, happens, run, start}
use Rattle.xd_pair.specs.Stands.{IsNumbered}
use Rattle.xd_pair.proofs.Says.{if_actor, received_not, hooked_not, closed_not, ended_not, given_up_not, lost_not}
use Rattle.xd_pair.proofs.World.{sound_run, sound_start}

-- one side by itself: its next number is its own and not 0, and where 0 is its own, nothing stands there
record IsOwn (odd : Bool) (a : Actor) : Type 0 where
  own : owns odd a.next ≡ true
  positive : a.next == 0 ≡ false
  zero : owns odd 0 ≡ true → is_seen (a.part 0).slot ≡ false

next_odd : (n : ℕ) → is_odd (n + 2) ≡ is_odd n
next_odd n = grind (arith, nat_tests)

next_own : (odd : Bool) (n : ℕ) → owns odd (n + 2) ≡ owns odd n
next_own true n = next_odd n
next_own false n = ap not (next_odd n)

next_positive : (n : ℕ) → (n + 2) == 0 ≡ false
next_positive n = grind (arith, nat_tests)

at_zero : (odd : Bool) (n : ℕ) (f : Part → Part) (a : Actor) → (is_seen (a.part 0).slot ≡ false → is_seen (f (a.part 0)).slot ≡ false) → IsOwn odd a → IsOwn odd (part_changed n f a)
at_zero odd n f a h k = record { own = k.own; positive = k.positive; zero = λ m. by_test (n == 0) (k.zero m) }
  where
    by_test : (b : Bool) → is_seen (a.part 0).slot ≡ false → is_seen (if b then f (a.part 0) else a.part 0).slot ≡ false
    by_test true u = h u
    by_test false u = u

opened_own : (odd : Bool) (a : Actor) → IsOwn odd a → IsOwn odd (record (part_changed a.next (λ p. opened_in p p.slot) a) { next = a.next + 2 })
opened_own odd a k = record {
  own = next_own odd a.next ∙ k.own;
  positive = next_positive a.next;
  zero = λ m. subst (λ b. is_seen (if b then opened_in (a.part 0) (a.part 0).slot else a.part 0).slot ≡ false) (sym k.positive) (k.zero m);
}

heard_not : (p : Part) (s : Slot Tree) (x : Note) → p.slot ≡ s → is_seen s ≡ false → is_seen (heard_in true p s x).slot ≡ false
heard_not p (Here s) x e u = absurd (let z = u in cc)
heard_not p Gone x e u = absurd (let z = u in cc)
heard_not p Unseen Named e u = refl
heard_not p Unseen (Item v) e u = refl
heard_not p Unseen (Ends t) e u = refl
heard_not p Unseen Lasts e u = refl
heard_not p Unseen Asked e u = ap is_seen e

heards_not : (p : Part) (ns : List Note) → is_seen p.slot ≡ false → is_seen (heard_all true p ns).slot ≡ false
heards_not p [] u = u
heards_not p (x ∷ ns) u = heards_not (heard true p x) ns (heard_not p p.slot x refl u)

named_not : (s : Slot Tree) → is_seen s ≡ false → is_seen (named_slot true s) ≡ false
named_not Unseen u = refl
named_not (Here s) u = u
named_not Gone u = u

takes_own : (odd : Bool) (a : Actor) (wire : List Said) → IsOwn odd a → IsOwn odd (takes odd a wire)
takes_own odd a [] k = k
takes_own odd a (m ∷ ms) k = record {
  own = k.own;
  positive = k.positive;
  zero = λ h. subst (λ b. is_seen (heard_all b (a.part 0) (notes 0 m)).slot ≡ false) (sym h) (heards_not (a.part 0) (notes 0 m) (k.zero h));
}

refuse_zero : (b mine : Bool) (p : Part) → mine ≡ true → is_seen p.slot ≡ false → is_seen (if b then named_part mine p p.slot else p).slot ≡ false
refuse_zero true mine p m u = subst (λ x. is_seen (named_slot x p.slot) ≡ false) (sym m) (named_not p.slot u)
refuse_zero false mine p m u = u

same_own : (odd : Bool) (a : Actor) (n : ℕ) (v : Tree) → IsOwn odd a → IsOwn odd (adds n v a)
same_own odd a n v k = record { own = k.own; positive = k.positive; zero = k.zero }

after_own : (odd : Bool) (a : Actor) (wire : List Said) (m : Move) → IsOwn odd a → IsOwn odd (after odd a wire m)
after_own odd a wire Open_channel k = if_actor (IsOwn odd) (can_open odd a) (record (part_changed a.next (λ p. opened_in p p.slot) a) { next = a.next + 2 }) a (opened_own odd a k) k
after_own odd a wire (Send n v) k = if_actor (IsOwn odd) (can_send a n v) (adds n v a) a (same_own odd a n v k) k
after_own odd a wire (Call n v) k = k
after_own odd a wire (Ask n) k = k
after_own odd a wire (Answer n v) k = if_actor (IsOwn odd) (can_answer a n v) (adds n v a) a (same_own odd a n v k) k
after_own odd a wire Terminate k = k
after_own odd a wire (Close n e) k = at_zero odd n (λ p. closed_in p p.slot) a (closed_not (a.part 0).slot) k
after_own odd a wire (End_function n e) k = at_zero odd n (λ p. function_ended_in p p.slot) a (ended_not (a.part 0).slot) k
after_own odd a wire (Give_up n) k = at_zero odd n (λ p. given_up_in p p.slot) a (given_up_not (a.part 0).slot) k
after_own odd a wire (Receive n) k = at_zero odd n (λ p. received_in p p.slot) a (received_not (a.part 0).slot) k
after_own odd a wire (Set_callback n) k = at_zero odd n (λ p. hooked_in p p.slot) a (hooked_not (a.part 0).slot) k
after_own odd a wire Take_message k = if_actor (IsOwn odd) (a.failed || a.finished) a (takes odd a wire) k (takes_own odd a wire k)
after_own odd a wire (Refuse names) k = record { own = k.own; positive = k.positive; zero = λ h. refuse_zero (is_in 0 names && is_told 0 wire) (owns odd 0) (a.part 0) h (k.zero h) }
after_own odd a wire Finish_receiving k = record { own = k.own; positive = k.positive; zero = λ h. lost_not (a.part 0).slot (k.zero h) }

record AreOwn (w : World) : Type 0 where
  odd_own : IsOwn true w.odd
  even_own : IsOwn false w.even

own_step : (w : World) (e : Step) → AreOwn w → AreOwn (happens w e)
own_step w (Odd m) k = record { odd_own = after_own true w.odd w.to_odd m k.odd_own; even_own = k.even_own }
own_step w (Even m) k = record { odd_own = k.odd_own; even_own = after_own false w.even w.to_even m k.even_own }

own_run : (es : List Step) (w : World) → AreOwn w → AreOwn (run es w)
own_run [] w k = k
own_run (e ∷ es) w k = own_run es (happens w e) (own_step w e k)

own_start : AreOwn start
own_start = record {
  odd_own = record { own = refl; positive = refl; zero = λ h. refl };
  even_own = record { own = refl; positive = refl; zero = λ h. refl };
}

-- what holds of the two in every history
pub record AreNumbered (w : World) : Type 0 where
  pub odd_numbered : IsNumbered true w.odd
  pub even_numbered : IsNumbered false w.even

pub numbered : (steps : List Step) → AreNumbered (run steps start)
numbered steps =
    let k = own_run steps start own_start in
    let unseen : is_seen ((run steps start).even.part 0).slot ≡ false = k.even_own.zero refl in
    let silent = (sound_run steps start sound_start).peer_known 0 refl unseen in
    record {
      odd_numbered = record { own = k.odd_own.own; unseen = silent.guest_unseen; unasked = silent.guest_unasked };
      even_numbered = record { own = k.even_own.own; unseen = unseen; unasked = silent.owner_unasked };
    }
