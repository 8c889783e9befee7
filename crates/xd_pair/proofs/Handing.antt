-- The ends that callbacks are owed when the link is lost are those that the loss hands out.
use Rattle.std.proofs.Common.{◌≡◌, ℕ, List, [], ◌∷◌, ◌++◌, Bool, true, false, Option, Some, None, refl, sym, ap, ◌∙◌}
use Rattle.std.specs.Prelude.{◌==◌, ◌||◌, if◌then◌else◌}
use Rattle.std.proofs.lemmas.Bool.{eqb-true}
use Rattle.xd_value.specs.Tree.{Tree}
use Rattle.xd_channel.specs.declared.end.End.{End}
use Rattle.xd_factory.specs.Slot.{Slot, Unseen, Here, Gone, is_here, lost_gives}
use Rattle.xd_factory.specs.Numbers.{is_in, is_known}
use Rattle.xd_factory.specs.Table.{owed_at, owed_of}
use Rattle.xd_factory.specs.View.{slot_of_number, numbers_of}
use Rattle.xd_factory.specs.Said.{Said}
use Rattle.xd_factory.specs.declared.side.Side.{Side}
use Rattle.xd_factory.proofs.Entries.{here_entries}
use Rattle.xd_pair.specs.Part.{is_end_but_loss, is_lost}
use Rattle.xd_pair.specs.Pair.{Actor, Finish_receiving, after}
use Rattle.xd_pair.specs.Handed.{Hands, owed_end}
use Rattle.xd_pair.specs.Stands.{StandsForActor}

first_of : Option End → Option End → Option End
first_of None more = more
first_of (Some e) more = Some e

owed_more : (n c : ℕ) (o : Option End) (xs : List (ℕ × End)) (b : Bool) → n == c ≡ b → owed_end (owed_at n o ++ xs) c ≡ (if b then first_of o (owed_end xs c) else owed_end xs c)
unfolding first_of
owed_more n c None xs true h = refl
owed_more n c None xs false h = refl
owed_more n c (Some e) xs true h = rw h refl
owed_more n c (Some e) xs false h = rw h refl

same_first : (o : Option End) (b : Bool) → first_of o (if b then o else None) ≡ o
unfolding first_of
same_first None true = refl
same_first None false = refl
same_first (Some e) b = refl

owed_next : (slot : ℕ → Slot Tree) (n : ℕ) (ns : List ℕ) (c : ℕ) (b : Bool) → (b ≡ true → lost_gives (slot n) ≡ lost_gives (slot c))
    → owed_end (owed_of slot ns) c ≡ (if is_in c ns then lost_gives (slot c) else None)
    → (if b then first_of (lost_gives (slot n)) (owed_end (owed_of slot ns) c) else owed_end (owed_of slot ns) c) ≡ (if b || is_in c ns then lost_gives (slot c) else None)
owed_next slot n ns c true h k = ap (λ (x : Option End). first_of x (owed_end (owed_of slot ns) c)) (h refl) ∙ ap (first_of (lost_gives (slot c))) k ∙ same_first (lost_gives (slot c)) (is_in c ns)
owed_next slot n ns c false h k = k

owed_all : (slot : ℕ → Slot Tree) (ns : List ℕ) (c : ℕ) → owed_end (owed_of slot ns) c ≡ (if is_in c ns then lost_gives (slot c) else None)
owed_all slot [] c = refl
owed_all slot (n ∷ ns) c = owed_more n c (lost_gives (slot n)) (owed_of slot ns) (n == c) refl
    ∙ owed_next slot n ns c (n == c) (λ q. ap (λ (x : ℕ). lost_gives (slot x)) (eqb-true n c q)) (owed_all slot ns c)

none_lost : (s : Slot Tree) (b : Bool) → is_here s ≡ b → (if b then lost_gives s else None) ≡ lost_gives s
none_lost s true h = refl
none_lost Unseen false h = refl
none_lost Gone false h = refl
none_lost (Here x) false h = absurd (let z = h in cc)

-- the ends that are owed, number by number
pub owed_is : (s : Side) (c : ℕ) → owed_end (owed_of (slot_of_number s) (numbers_of s)) c ≡ lost_gives (slot_of_number s c)
owed_is s c = owed_all (slot_of_number s) (numbers_of s) c ∙ none_lost (slot_of_number s c) (is_in c (numbers_of s)) (here_entries s.ends.entries c (is_known s.parity s.next s.seen c))

pub finish_hands : (odd : Bool) (s : Side) (a : Actor) (wire : List Said) (ends : List (ℕ × End)) → ends ≡ owed_of (slot_of_number s) (numbers_of s) → StandsForActor odd s a → Hands a (after odd a wire Finish_receiving) (λ c. []) (owed_end ends)
finish_hands odd s a wire ends e k = record {
  got = λ c. refl;
  ended = λ c. ap (λ (x : Option End). is_end_but_loss x || (a.part c).ended) (here c);
  lost = λ c. ap (λ (x : Option End). is_lost x || (a.part c).lost) (here c);
}
  where
    here : (c : ℕ) → lost_gives (a.part c).slot ≡ owed_end ends c
    here c = ap lost_gives (sym (k.slots c)) ∙ sym (owed_is s c) ∙ ap (λ (x : List (ℕ × End)). owed_end x c) (sym e)
