-- What a side says and does about a number, by what it knows of it.
use Rattle.std.proofs.Common.{◌≡◌, ℕ, ◌+◌, List, [], ◌∷◌, ◌++◌, Bool, true, false, Option, None, refl, sym, ap, subst, ◌∙◌, append_assoc}
use Rattle.std.specs.Prelude.{◌==◌, ◌||◌, ◌&&◌, not, if◌then◌else◌}
use Rattle.std.proofs.lemmas.Bool.{eqb-true, and_parts, and_right}
use Rattle.std.proofs.lemmas.List.{append-nil}
use Rattle.xd_channel.specs.declared.answers.Closing.{Closing}
use Rattle.xd_channel.specs.declared.answers.Closing.TheVariants as closing
use Rattle.xd_channel.specs.declared.answers.GivenUp.{GivenUp}
use Rattle.xd_channel.specs.declared.answers.GivenUp.TheVariants as given_up
use Rattle.xd_channel.specs.State.{close_gives, give_up_gives, after_receive, after_hook, after_close, after_give_up, after_put}
use Rattle.xd_channel.specs.declared.end.End.TheVariants.{Lost}
use Rattle.xd_value.specs.Tree.{Tree}
use Rattle.xd_value.specs.Channels.{channels}
use Rattle.xd_factory.specs.Slot.{Slot, Unseen, Here, Gone, gone_where_done, opened_slot, closed_slot, function_ended_slot, given_up_slot, received_slot, hooked_slot, lost_slot, named_slot}
use Rattle.xd_factory.specs.Numbers.{is_in}
use Rattle.xd_pair.specs.Notes.{owns}
use Rattle.xd_factory.specs.Said.{Said, Status, Exec, Data}
use Rattle.xd_factory.specs.Said as message
use Rattle.xd_pair.specs.Notes.{Note, Named, Item, Ends, Lasts, Asked, named_notes, notes, all_notes, items}
use Rattle.xd_pair.specs.Part.{Part, heard, heard_all, opened_in, received_in, hooked_in, closed_in, function_ended_in, given_up_in, closing_words, close_words, function_end_words, giving_words, give_up_words, may_send}
use Rattle.xd_factory.specs.Slot.{is_seen, is_here}
use Rattle.xd_pair.specs.Pair.{Actor, Move, Open_channel, Send, Call, Ask, Answer, Terminate, Close, End_function, Give_up, Receive, Set_callback, Take_message, Refuse, Finish_receiving, is_told, has_notes, named_part, knows_numbers, part_changed, adds, can_send, can_call, can_answer, can_open, takes, says, after}
use Rattle.xd_pair.proofs.NotesLemmas.{open_or_ended}
use Rattle.xd_pair.proofs.Local.{settled_seen, seen_in}

-- a number that is not seen differs from one that is
pub differ : (part : ℕ → Part) (n c : ℕ) → is_seen (part c).slot ≡ false → is_seen (part n).slot ≡ true → (n == c) ≡ false
differ part n c u k = open_or_ended (n == c) ((n == c) ≡ false) (λ h. let e = ap (λ (x : ℕ). is_seen (part x).slot) (eqb-true n c h) in cc) (λ h. h)

pub unasked : (part : ℕ → Part) (n c : ℕ) → (part c).asked ≡ false → (part n).asked ≡ true → (n == c) ≡ false
unasked part n c u k = open_or_ended (n == c) ((n == c) ≡ false) (λ h. let e = ap (λ (x : ℕ). (part x).asked) (eqb-true n c h) in cc) (λ h. h)

unnamed : (part : ℕ → Part) (c : ℕ) (cs : List ℕ) → is_seen (part c).slot ≡ false → knows_numbers part cs ≡ true → is_in c cs ≡ false
unnamed part c [] u k = refl
unnamed part c (n ∷ cs) u k = let h = and_parts (is_seen (part n).slot) (knows_numbers part cs) k in
    ap (λ b. b || is_in c cs) (differ part n c u h.0) ∙ unnamed part c cs u h.1

pub may_seen : (s : Slot Tree) → may_send s ≡ true → is_seen s ≡ true
may_seen Unseen h = cc
may_seen (Here s) h = refl
may_seen Gone h = refl

pub here_seen : (s : Slot Tree) → is_here s ≡ true → is_seen s ≡ true
here_seen Unseen h = cc
here_seen (Here s) h = refl
here_seen Gone h = refl

if_says : (c : ℕ) (b : Bool) (ms : List Said) → (b ≡ true → all_notes c ms ≡ []) → all_notes c (if b then ms else []) ≡ []
if_says c true ms h = h refl
if_says c false ms h = refl

close_quiet : (n c : ℕ) (e : Option (List ℕ)) (s : Slot Tree) → (n == c ≡ true → is_seen s ≡ false) → all_notes c (close_words n e s) ≡ []
close_quiet n c e Unseen h = refl
close_quiet n c e Gone h = refl
close_quiet n c e (Here s) h = open_or_ended (n == c) (all_notes c (close_words n e (Here s)) ≡ []) (λ q. absurd (let z = h q in cc)) (λ q. by_gives q (close_gives s))
  where
    by_gives : n == c ≡ false → (x : Closing) → all_notes c (closing_words n e x) ≡ []
    by_gives q closing.Say = rw q refl
    by_gives q closing.Nothing = refl

end_quiet : (n c : ℕ) (e : Option (List ℕ)) (s : Slot Tree) → (n == c ≡ true → is_seen s ≡ false) → all_notes c (function_end_words n e s) ≡ []
end_quiet n c e Unseen h = refl
end_quiet n c e Gone h = open_or_ended (n == c) (all_notes c (function_end_words n e Gone) ≡ []) (λ q. absurd (let z = h q in cc)) (λ q. rw q refl)
end_quiet n c e (Here s) h = open_or_ended (n == c) (all_notes c (function_end_words n e (Here s)) ≡ []) (λ q. absurd (let z = h q in cc)) (λ q. rw q refl)

give_up_quiet : (n c : ℕ) (s : Slot Tree) → (n == c ≡ true → is_seen s ≡ false) → all_notes c (give_up_words n s) ≡ []
give_up_quiet n c Unseen h = refl
give_up_quiet n c Gone h = refl
give_up_quiet n c (Here s) h = open_or_ended (n == c) (all_notes c (give_up_words n (Here s)) ≡ []) (λ q. absurd (let z = h q in cc)) (λ q. by_gives q (give_up_gives s))
  where
    by_gives : n == c ≡ false → (x : GivenUp) → all_notes c (giving_words n x) ≡ []
    by_gives q given_up.SayClose = rw q refl
    by_gives q given_up.SayLast = rw q refl
    by_gives q given_up.Nothing = refl

same_slot : (part : ℕ → Part) (n c : ℕ) → is_seen (part c).slot ≡ false → n == c ≡ true → is_seen (part n).slot ≡ false
same_slot part n c u q = ap (λ (x : ℕ). is_seen (part x).slot) (eqb-true n c q) ∙ u

-- a side says nothing about a number that it never saw and was not asked for
pub quiet_says : (odd : Bool) (a : Actor) (m : Move) (c : ℕ) → is_seen (a.part c).slot ≡ false → (a.part c).asked ≡ false → all_notes c (says odd a m) ≡ []
quiet_says odd a Open_channel c u w = refl
quiet_says odd a (Send n v) c u w = if_says c (can_send a n v) (Data n v ∷ []) (λ q. let h = and_parts (may_send (a.part n).slot) (knows_numbers a.part (channels v)) q in
    rw (unnamed a.part c (channels v) u h.1, differ a.part n c u (may_seen (a.part n).slot h.0)) refl)
quiet_says odd a (Call n v) c u w = if_says c (can_call a n v) (Exec n v ∷ []) (λ q. let h = and_parts (is_here (a.part n).slot) (knows_numbers a.part (channels v)) q in
    rw (unnamed a.part c (channels v) u h.1, differ a.part n c u (here_seen (a.part n).slot h.0)) refl)
quiet_says odd a (Ask n) c u w = if_says c (is_here (a.part n).slot) (Status n ∷ []) (λ q. rw (differ a.part n c u (here_seen (a.part n).slot q)) refl)
quiet_says odd a (Answer n v) c u w = if_says c (can_answer a n v) (Data n v ∷ message.Close n None ∷ []) (λ q. let h = and_parts (a.part n).asked (knows_numbers a.part (channels v)) q in
    rw (unnamed a.part c (channels v) u h.1, unasked a.part n c w h.0) refl)
quiet_says odd a Terminate c u w = refl
quiet_says odd a (Close n e) c u w = close_quiet n c e (a.part n).slot (same_slot a.part n c u)
quiet_says odd a (End_function n e) c u w = end_quiet n c e (a.part n).slot (same_slot a.part n c u)
quiet_says odd a (Give_up n) c u w = give_up_quiet n c (a.part n).slot (same_slot a.part n c u)
quiet_says odd a (Receive n) c u w = refl
quiet_says odd a (Set_callback n) c u w = refl
quiet_says odd a Take_message c u w = refl
quiet_says odd a (Refuse names) c u w = refl
quiet_says odd a Finish_receiving c u w = refl

-- what was sent are the items that were said
named_items : (b : Bool) (ns : List Note) → items ((if b then Named ∷ [] else []) ++ ns) ≡ items ns
named_items true ns = refl
named_items false ns = refl

item_said : (b : Bool) (v : Tree) (xs : List Tree) (ns : List Note) → items ns ≡ [] → (if b then xs ++ v ∷ [] else xs) ≡ xs ++ items ((if b then Item v ∷ [] else []) ++ ns)
item_said true v xs ns h = rw h refl
item_said false v xs ns h = rw h (sym (append-nil xs))

same_tests : (b : Bool) (x : Note) → items (x ∷ []) ≡ [] → items ((if b then x ∷ [] else []) ++ []) ≡ []
same_tests true x h = h
same_tests false x h = refl

close_items : (n c : ℕ) (e : Option (List ℕ)) (s : Slot Tree) → items (all_notes c (close_words n e s)) ≡ []
close_items n c e Unseen = refl
close_items n c e Gone = refl
close_items n c e (Here s) = by_gives (close_gives s)
  where
    by_gives : (x : Closing) → items (all_notes c (closing_words n e x)) ≡ []
    by_gives closing.Nothing = refl
    by_gives closing.Say = same_tests (n == c) (Ends e) refl

end_items : (n c : ℕ) (e : Option (List ℕ)) (s : Slot Tree) → items (all_notes c (function_end_words n e s)) ≡ []
end_items n c e Unseen = refl
end_items n c e Gone = same_tests (n == c) (Ends e) refl
end_items n c e (Here s) = same_tests (n == c) (Ends e) refl

give_up_items : (n c : ℕ) (s : Slot Tree) → items (all_notes c (give_up_words n s)) ≡ []
give_up_items n c Unseen = refl
give_up_items n c Gone = refl
give_up_items n c (Here s) = by_gives (give_up_gives s)
  where
    by_gives : (x : GivenUp) → items (all_notes c (giving_words n x)) ≡ []
    by_gives given_up.Nothing = refl
    by_gives given_up.SayClose = same_tests (n == c) (Ends None) refl
    by_gives given_up.SayLast = same_tests (n == c) Lasts refl

pub if_actor : (P : Actor → Type 0) (b : Bool) (x y : Actor) → P x → P y → P (if b then x else y)
if_actor P true x y h k = h
if_actor P false x y h k = k

more_none : (xs ys : List Tree) → ys ≡ [] → xs ≡ xs ++ ys
more_none xs ys h = rw h (sym (append-nil xs))

one_item : (n c : ℕ) (v : Tree) (xs : List Tree) (ns : List Note) → items ns ≡ [] → (if n == c then xs ++ v ∷ [] else xs) ≡ xs ++ items (named_notes c v ++ (if n == c then Item v ∷ [] else []) ++ ns)
one_item n c v xs ns h = item_said (n == c) v xs ns h ∙ ap (λ (t : List Tree). xs ++ t) (sym (ap items (append_assoc (named_notes c v) (if n == c then Item v ∷ [] else []) ns) ∙ named_items (is_in c (channels v)) ((if n == c then Item v ∷ [] else []) ++ ns)))

sends : (b : Bool) (n c : ℕ) (v : Tree) (a : Actor) → (if b then adds n v a else a).sent c ≡ a.sent c ++ items (all_notes c (if b then Data n v ∷ [] else []))
sends true n c v a = one_item n c v (a.sent c) [] refl
sends false n c v a = sym (append-nil (a.sent c))

answers : (b : Bool) (n c : ℕ) (v : Tree) (a : Actor) → (if b then adds n v a else a).sent c ≡ a.sent c ++ items (all_notes c (if b then Data n v ∷ message.Close n None ∷ [] else []))
answers true n c v a = one_item n c v (a.sent c) ((if n == c then Ends None ∷ [] else []) ++ []) (same_tests (n == c) (Ends None) refl)
answers false n c v a = sym (append-nil (a.sent c))

call_items : (b d : Bool) (ns : List Note) → items ns ≡ [] → items ((if b then Named ∷ [] else []) ++ (if d then Named ∷ [] else []) ++ ns) ≡ []
call_items true true ns h = h
call_items true false ns h = h
call_items false true ns h = h
call_items false false ns h = h

calls : (b : Bool) (n c : ℕ) (v : Tree) → items (all_notes c (if b then Exec n v ∷ [] else [])) ≡ []
calls true n c v = call_items (is_in c (channels v)) (n == c) [] refl
calls false n c v = refl

asks : (b : Bool) (n c : ℕ) → items (all_notes c (if b then Status n ∷ [] else [])) ≡ []
asks true n c = same_tests (n == c) Asked refl
asks false n c = refl

pub sent_says : (odd : Bool) (a : Actor) (wire : List Said) (m : Move) (c : ℕ) → (after odd a wire m).sent c ≡ a.sent c ++ items (all_notes c (says odd a m))
sent_says odd a wire Open_channel c = if_actor (λ t. t.sent c ≡ a.sent c ++ []) (can_open odd a) (record (part_changed a.next (λ p. opened_in p p.slot) a) { next = a.next + 2 }) a (sym (append-nil (a.sent c))) (sym (append-nil (a.sent c)))
sent_says odd a wire (Send n v) c = sends (can_send a n v) n c v a
sent_says odd a wire (Call n v) c = more_none _ _ (calls (can_call a n v) n c v)
sent_says odd a wire (Ask n) c = more_none _ _ (asks (is_here (a.part n).slot) n c)
sent_says odd a wire (Answer n v) c = answers (can_answer a n v) n c v a
sent_says odd a wire Terminate c = sym (append-nil (a.sent c))
sent_says odd a wire (Close n e) c = more_none _ _ (close_items n c e (a.part n).slot)
sent_says odd a wire (End_function n e) c = more_none _ _ (end_items n c e (a.part n).slot)
sent_says odd a wire (Give_up n) c = more_none _ _ (give_up_items n c (a.part n).slot)
sent_says odd a wire (Receive n) c = sym (append-nil (a.sent c))
sent_says odd a wire (Set_callback n) c = sym (append-nil (a.sent c))
sent_says odd a [] Take_message c = if_actor (λ t. t.sent c ≡ a.sent c ++ []) (a.failed || a.finished) a a (sym (append-nil (a.sent c))) (sym (append-nil (a.sent c)))
sent_says odd a (m ∷ ms) Take_message c = if_actor (λ t. t.sent c ≡ a.sent c ++ []) (a.failed || a.finished) a (takes odd a (m ∷ ms)) (sym (append-nil (a.sent c))) (sym (append-nil (a.sent c)))
sent_says odd a wire (Refuse names) c = sym (append-nil (a.sent c))
sent_says odd a wire Finish_receiving c = sym (append-nil (a.sent c))

-- a slot that was seen stays so
received_seen : (s : Slot Tree) → is_seen s ≡ true → is_seen (received_slot s) ≡ true
received_seen Unseen u = u
received_seen (Here s) u = settled_seen (after_receive s)
received_seen Gone u = refl

closed_seen : (s : Slot Tree) → is_seen s ≡ true → is_seen (closed_slot s) ≡ true
closed_seen Unseen u = u
closed_seen (Here s) u = settled_seen (after_close s)
closed_seen Gone u = refl

given_up_seen : (s : Slot Tree) → is_seen s ≡ true → is_seen (given_up_slot s) ≡ true
given_up_seen Unseen u = u
given_up_seen (Here s) u = settled_seen (after_give_up s)
given_up_seen Gone u = refl

lost_seen : (s : Slot Tree) → is_seen s ≡ true → is_seen (lost_slot s) ≡ true
lost_seen Unseen u = u
lost_seen (Here s) u = settled_seen (after_put s Lost)
lost_seen Gone u = refl

ended_seen : (s : Slot Tree) → is_seen s ≡ true → is_seen (function_ended_slot s) ≡ true
ended_seen Unseen u = u
ended_seen (Here s) u = refl
ended_seen Gone u = refl

opened_seen : (s : Slot Tree) → is_seen s ≡ true → is_seen (opened_slot s) ≡ true
opened_seen Unseen u = refl
opened_seen (Here s) u = refl
opened_seen Gone u = refl

if_slot : (P : Slot Tree → Type 0) (b : Bool) (x y : Slot Tree) → P x → P y → P (if b then x else y)
if_slot P true x y h k = h
if_slot P false x y h k = k

hooked_seen : (s : Slot Tree) → is_seen s ≡ true → is_seen (hooked_slot s) ≡ true
hooked_seen Unseen u = u
hooked_seen (Here s) u = if_slot (λ t. is_seen t ≡ true) s.callback (Here s) (gone_where_done (after_hook s)) refl (settled_seen (after_hook s))
hooked_seen Gone u = refl

if_part : (P : Part → Type 0) (b : Bool) (x y : Part) → P x → P y → P (if b then x else y)
if_part P true x y h k = h
if_part P false x y h k = k

heards_seen : (mine : Bool) (p : Part) (ns : List Note) → is_seen p.slot ≡ true → is_seen (heard_all mine p ns).slot ≡ true
heards_seen mine p [] h = h
heards_seen mine p (x ∷ ns) h = heards_seen mine (heard mine p x) ns (seen_in mine p p.slot x refl h)

at_seen : (n c : ℕ) (f : Part → Part) (a : Actor) → is_seen (a.part c).slot ≡ true → is_seen (f (a.part c)).slot ≡ true → is_seen ((part_changed n f a).part c).slot ≡ true
at_seen n c f a h k = if_part (λ t. is_seen t.slot ≡ true) (n == c) (f (a.part c)) (a.part c) k h

named_seen : (mine : Bool) (s : Slot Tree) → is_seen s ≡ true → is_seen (named_slot mine s) ≡ true
named_seen mine Unseen u = absurd (let z = u in cc)
named_seen mine (Here s) u = refl
named_seen mine Gone u = refl

seen_stays : (odd : Bool) (a : Actor) (wire : List Said) (m : Move) (c : ℕ) → is_seen (a.part c).slot ≡ true → is_seen ((after odd a wire m).part c).slot ≡ true
seen_stays odd a wire Open_channel c h = if_actor (λ t. is_seen (t.part c).slot ≡ true) (can_open odd a) (record (part_changed a.next (λ p. opened_in p p.slot) a) { next = a.next + 2 }) a (at_seen a.next c (λ p. opened_in p p.slot) a h (opened_seen (a.part c).slot h)) h
seen_stays odd a wire (Send n v) c h = if_actor (λ t. is_seen (t.part c).slot ≡ true) (can_send a n v) (adds n v a) a h h
seen_stays odd a wire (Call n v) c h = h
seen_stays odd a wire (Ask n) c h = h
seen_stays odd a wire (Answer n v) c h = if_actor (λ t. is_seen (t.part c).slot ≡ true) (can_answer a n v) (adds n v a) a h h
seen_stays odd a wire Terminate c h = h
seen_stays odd a wire (Close n e) c h = at_seen n c (λ p. closed_in p p.slot) a h (closed_seen (a.part c).slot h)
seen_stays odd a wire (End_function n e) c h = at_seen n c (λ p. function_ended_in p p.slot) a h (ended_seen (a.part c).slot h)
seen_stays odd a wire (Give_up n) c h = at_seen n c (λ p. given_up_in p p.slot) a h (given_up_seen (a.part c).slot h)
seen_stays odd a wire (Receive n) c h = at_seen n c (λ p. received_in p p.slot) a h (received_seen (a.part c).slot h)
seen_stays odd a wire (Set_callback n) c h = at_seen n c (λ p. hooked_in p p.slot) a h (hooked_seen (a.part c).slot h)
seen_stays odd a [] Take_message c h = if_actor (λ t. is_seen (t.part c).slot ≡ true) (a.failed || a.finished) a a h h
seen_stays odd a (m ∷ ms) Take_message c h = if_actor (λ t. is_seen (t.part c).slot ≡ true) (a.failed || a.finished) a (takes odd a (m ∷ ms)) h (heards_seen (owns odd c) (a.part c) (notes c m) h)
seen_stays odd a wire (Refuse names) c h = if_part (λ t. is_seen t.slot ≡ true) (is_in c names && is_told c wire) (named_part (owns odd c) (a.part c) (a.part c).slot) (a.part c) (named_seen (owns odd c) (a.part c).slot h) h
seen_stays odd a wire Finish_receiving c h = lost_seen (a.part c).slot h

pub seen_back : (odd : Bool) (a : Actor) (wire : List Said) (m : Move) (c : ℕ) → is_seen ((after odd a wire m).part c).slot ≡ false → is_seen (a.part c).slot ≡ false
seen_back odd a wire m c u = open_or_ended (is_seen (a.part c).slot) (is_seen (a.part c).slot ≡ false) (λ h. let z = seen_stays odd a wire m c h in cc) (λ h. h)

-- a number that was not seen and of which nothing comes stays so
unseen_not : (change : Slot Tree → Slot Tree) → is_seen (change Unseen) ≡ false → (s : Slot Tree) → is_seen s ≡ false → is_seen (change s) ≡ false
unseen_not change e Unseen u = e
unseen_not change e (Here s) u = absurd (let z = u in cc)
unseen_not change e Gone u = absurd (let z = u in cc)

pub received_not : (s : Slot Tree) → is_seen s ≡ false → is_seen (received_slot s) ≡ false
received_not s u = unseen_not received_slot refl s u

pub hooked_not : (s : Slot Tree) → is_seen s ≡ false → is_seen (hooked_slot s) ≡ false
hooked_not s u = unseen_not hooked_slot refl s u

pub closed_not : (s : Slot Tree) → is_seen s ≡ false → is_seen (closed_slot s) ≡ false
closed_not s u = unseen_not closed_slot refl s u

pub ended_not : (s : Slot Tree) → is_seen s ≡ false → is_seen (function_ended_slot s) ≡ false
ended_not s u = unseen_not function_ended_slot refl s u

pub given_up_not : (s : Slot Tree) → is_seen s ≡ false → is_seen (given_up_slot s) ≡ false
given_up_not s u = unseen_not given_up_slot refl s u

pub lost_not : (s : Slot Tree) → is_seen s ≡ false → is_seen (lost_slot s) ≡ false
lost_not s u = unseen_not lost_slot refl s u

pub append_empty : (xs ys : List Note) → xs ++ ys ≡ [] → (xs ≡ []) × (ys ≡ [])
append_empty [] ys h = (refl, h)
append_empty (x ∷ xs) ys h = absurd (let z = h in cc)

untold : (c : ℕ) (wire : List Said) → all_notes c wire ≡ [] → is_told c wire ≡ false
untold c [] k = refl
untold c (m ∷ ms) k = ap has_notes (append_empty (notes c m) (all_notes c ms) k).0

abbrev StaysAway : Bool → ℕ → Part → Type 0
StaysAway odd c p = (owns odd c ≡ false → is_seen p.slot ≡ false) × (p.asked ≡ false)

away_at : (odd : Bool) (n c : ℕ) (f : Part → Part) (a : Actor) → is_seen (a.part c).slot ≡ false → (a.part c).asked ≡ false → is_seen (f (a.part c)).slot ≡ false → (f (a.part c)).asked ≡ false → StaysAway odd c ((part_changed n f a).part c)
away_at odd n c f a u w e d = if_part (StaysAway odd c) (n == c) (f (a.part c)) (a.part c) (λ h. e, d) (λ h. u, w)

open_away : (odd : Bool) (a : Actor) (c : ℕ) → owns odd a.next ≡ true → is_seen (a.part c).slot ≡ false → (a.part c).asked ≡ false → StaysAway odd c ((part_changed a.next (λ p. opened_in p p.slot) a).part c)
open_away odd a c q u w = open_or_ended (a.next == c) (StaysAway odd c ((part_changed a.next (λ p. opened_in p p.slot) a).part c))
    (λ h. (λ i. absurd (let z = ap (owns odd) (eqb-true a.next c h) in cc), if_part (λ t. t.asked ≡ false) (a.next == c) (opened_in (a.part c) (a.part c).slot) (a.part c) w w))
    (λ h. subst (λ b. StaysAway odd c (if b then opened_in (a.part c) (a.part c).slot else a.part c)) (sym h) (λ i. u, w))

pub stays_away : (odd : Bool) (a : Actor) (wire : List Said) (m : Move) (c : ℕ) → is_seen (a.part c).slot ≡ false → (a.part c).asked ≡ false → all_notes c wire ≡ [] → StaysAway odd c ((after odd a wire m).part c)
stays_away odd a wire Open_channel c u w k = open_or_ended (can_open odd a) (StaysAway odd c ((after odd a wire Open_channel).part c))
    (λ q. subst (λ b. StaysAway odd c ((if b then record (part_changed a.next (λ p. opened_in p p.slot) a) { next = a.next + 2 } else a).part c)) (sym q) (open_away odd a c (and_parts (owns odd a.next) (not a.finished) q).0 u w))
    (λ q. subst (λ b. StaysAway odd c ((if b then record (part_changed a.next (λ p. opened_in p p.slot) a) { next = a.next + 2 } else a).part c)) (sym q) (λ i. u, w))
stays_away odd a wire (Send n v) c u w k = if_actor (λ t. StaysAway odd c (t.part c)) (can_send a n v) (adds n v a) a (λ i. u, w) (λ i. u, w)
stays_away odd a wire (Call n v) c u w k = (λ i. u, w)
stays_away odd a wire (Ask n) c u w k = (λ i. u, w)
stays_away odd a wire (Answer n v) c u w k = if_actor (λ t. StaysAway odd c (t.part c)) (can_answer a n v) (adds n v a) a (λ i. u, w) (λ i. u, w)
stays_away odd a wire Terminate c u w k = (λ i. u, w)
stays_away odd a wire (Close n e) c u w k = away_at odd n c (λ p. closed_in p p.slot) a u w (closed_not (a.part c).slot u) w
stays_away odd a wire (End_function n e) c u w k = away_at odd n c (λ p. function_ended_in p p.slot) a u w (ended_not (a.part c).slot u) w
stays_away odd a wire (Give_up n) c u w k = away_at odd n c (λ p. given_up_in p p.slot) a u w (given_up_not (a.part c).slot u) w
stays_away odd a wire (Receive n) c u w k = away_at odd n c (λ p. received_in p p.slot) a u w (received_not (a.part c).slot u) w
stays_away odd a wire (Set_callback n) c u w k = away_at odd n c (λ p. hooked_in p p.slot) a u w (hooked_not (a.part c).slot u) w
stays_away odd a [] Take_message c u w k = if_actor (λ t. StaysAway odd c (t.part c)) (a.failed || a.finished) a a (λ i. u, w) (λ i. u, w)
stays_away odd a (m ∷ ms) Take_message c u w k = if_actor (λ t. StaysAway odd c (t.part c)) (a.failed || a.finished) a (takes odd a (m ∷ ms)) (λ i. u, w)
    (subst (λ (ns : List Note). StaysAway odd c (heard_all (owns odd c) (a.part c) ns)) (sym (append_empty (notes c m) (all_notes c ms) k).0) (λ i. u, w))
stays_away odd a wire (Refuse names) c u w k = subst (λ b. StaysAway odd c (if b then named_part (owns odd c) (a.part c) (a.part c).slot else a.part c)) (sym (and_right (is_in c names) (is_told c wire) (untold c wire k))) (λ i. u, w)
stays_away odd a wire Finish_receiving c u w k = (λ i. lost_not (a.part c).slot u, w)
