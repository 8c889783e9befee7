-- What a message does at a number is what the contract of `take_message` says of it.
use Rattle.std.proofs.Common.{◌≡◌, ℕ, List, [], ◌∷◌, ◌++◌, Bool, true, false, Option, refl, sym, ap, ◌∙◌}
use Rattle.std.specs.Prelude.{◌==◌, ◌||◌, if◌then◌else◌}
use Rattle.xd_value.specs.Tree.{Tree}
use Rattle.xd_value.specs.Channels.{channels}
use Rattle.xd_channel.specs.State.{end_of}
use Rattle.xd_factory.specs.Numbers.{is_in}
use Rattle.xd_factory.specs.Said.{Said, Status, Exec, Data, Close, Last, Terminate}
use Rattle.xd_factory.specs.Slot.{Slot, Unseen, Here, Gone, named_slot, item_slot, peer_closed_slot, peer_last_slot}
use Rattle.xd_factory.specs.Table.{heard_slot, named_in}
use Rattle.xd_factory.proofs.Bounds.{is_in-append}
use Rattle.xd_pair.specs.Notes.{side_parity, owns, notes, Named, Item, Ends, Lasts}
use Rattle.xd_pair.specs.Part.{Part, heard_all}

or_false : (a : Bool) → a || false ≡ a
or_false true = refl
or_false false = refl

pub named_own : (c n : ℕ) (v : Tree) → is_in c (channels v ++ n ∷ []) ≡ is_in c (channels v) || (n == c)
named_own c n v = is_in-append c (channels v) (n ∷ []) ∙ ap (λ b. is_in c (channels v) || b) (or_false (n == c))

pub twice : (mine : Bool) (s : Slot Tree) → named_slot mine (named_slot mine s) ≡ named_slot mine s
twice true Unseen = refl
twice false Unseen = refl
twice mine (Here s) = refl
twice mine Gone = refl

call_by : (mine : Bool) (p : Part) (a b : Bool) → (heard_all mine p ((if a then Named ∷ [] else []) ++ (if b then Named ∷ [] else []))).slot ≡ named_in mine (a || b) p.slot
call_by mine p true true = twice mine p.slot
call_by mine p true false = refl
call_by mine p false true = refl
call_by mine p false false = refl

item_by : (mine : Bool) (p : Part) (v : Tree) (a b : Bool) → (heard_all mine p ((if a then Named ∷ [] else []) ++ (if b then Item v ∷ [] else []))).slot
    ≡ (if b then item_slot (named_in mine (a || b) p.slot) v else named_in mine (a || b) p.slot)
item_by mine p v true true = ap (λ (s : Slot Tree). item_slot s v) (twice mine p.slot)
item_by mine p v true false = refl
item_by mine p v false true = refl
item_by mine p v false false = refl

ends_by : (mine : Bool) (p : Part) (e : Option (List ℕ)) (b : Bool) → (heard_all mine p (if b then Ends e ∷ [] else [])).slot ≡ (if b then peer_closed_slot mine p.slot (end_of e) else p.slot)
ends_by mine p e true = refl
ends_by mine p e false = refl

lasts_by : (mine : Bool) (p : Part) (b : Bool) → (heard_all mine p (if b then Lasts ∷ [] else [])).slot ≡ (if b then peer_last_slot mine p.slot else p.slot)
lasts_by mine p true = refl
lasts_by mine p false = refl

asked_by : (mine : Bool) (p : Part) (n c : ℕ) (b : Bool) → n == c ≡ b → (heard_all mine p (notes c (Status n))).slot ≡ p.slot
asked_by mine p n c true h = rw h refl
asked_by mine p n c false h = rw h refl

pub message_heard : (odd : Bool) (p : Part) (c : ℕ) (said : Said) → (heard_all (owns odd c) p (notes c said)).slot ≡ heard_slot (side_parity odd) said c p.slot
message_heard odd p c (Status n) = asked_by (owns odd c) p n c (n == c) refl
message_heard odd p c (Exec n v) = call_by (owns odd c) p (is_in c (channels v)) (n == c) ∙ ap (λ b. named_in (owns odd c) b p.slot) (sym (named_own c n v))
message_heard odd p c (Data n v) =
    item_by (owns odd c) p v (is_in c (channels v)) (n == c)
    ∙ ap (λ b. if n == c then item_slot (named_in (owns odd c) b p.slot) v else named_in (owns odd c) b p.slot) (sym (named_own c n v))
message_heard odd p c (Close n e) = ends_by (owns odd c) p e (n == c)
message_heard odd p c (Last n) = lasts_by (owns odd c) p (n == c)
message_heard odd p c Terminate = refl
