-- The invariant of two sides and their link, kept by every step, and the law that it gives.
use Rattle.std.proofs.Common.{◌≡◌, ℕ, ◌+◌, List, [], ◌∷◌, ◌++◌, Bool, true, false, refl, sym, ap, subst, ◌∙◌, append_assoc}
use Rattle.std.specs.Prelude.{◌==◌, ◌||◌, ◌&&◌, not, if◌then◌else◌}
use Rattle.std.proofs.lemmas.List.{append-nil}
use Rattle.xd_value.specs.Tree.{Tree}
use Rattle.xd_factory.specs.Slot.{Slot, Unseen, Here, Gone}
use Rattle.xd_factory.specs.Numbers.{is_in, is_odd}
use Rattle.xd_pair.specs.Notes.{owns}
use Rattle.xd_factory.specs.Said.{Said}
use Rattle.xd_pair.specs.Notes.{Note, notes, all_notes, items, before_end, has_end}
use Rattle.xd_pair.specs.Part.{Part, heard_all, opened_in, received_in, hooked_in, closed_in, function_ended_in, given_up_in}
use Rattle.xd_factory.specs.Slot.{is_seen}
use Rattle.xd_pair.specs.Pair.{Actor, World, Move, Open_channel, Send, Call, Ask, Answer, Terminate, Close, End_function, Give_up, Receive, Set_callback, Take_message, Refuse, Finish_receiving, is_told, named_part, part_changed, adds, can_send, can_answer, can_open, takes, messages_left, says, after, wire_after, Step, Odd, Even, happens, run, start, untouched, IsPrefixOf, Law, PairLaw}
use Rattle.xd_pair.proofs.NotesLemmas.{all_notes-append, items-append, open_or_ended, ended_append, still_ended, before_items, longer}
use Rattle.xd_pair.proofs.Local.{named-ok, SlotOk, PartOk, opened-ok, received-ok, hooked-ok, closed-ok, ended-ok, given_up-ok, lost-ok, heard_all-ok}
use Rattle.xd_pair.proofs.Says.{quiet_says, sent_says, seen_back, stays_away, append_empty, if_actor}

-- one side: each number's part fits the notes that were taken
abbrev pub PartsOk : Actor → Type 0
PartsOk a = (c : ℕ) → PartOk a.finished (all_notes c a.taken) (a.part c)

-- what is said is what was taken and what is on the way
abbrev pub SentOk : Actor → List Said → Type 0
SentOk a said = (c : ℕ) → a.sent c ≡ items (all_notes c said)

-- of a number that its owner has not opened nobody knows
pub record Silent (owner guest : Part) (to_guest to_owner : List Note) : Type 0 where
  pub guest_unseen : is_seen guest.slot ≡ false
  pub owner_unasked : owner.asked ≡ false
  pub guest_unasked : guest.asked ≡ false
  pub guest_told : to_guest ≡ []
  pub owner_told : to_owner ≡ []

abbrev pub Known : Part → Part → List Note → List Note → Type 0
Known owner guest to_guest to_owner = is_seen owner.slot ≡ false → Silent owner guest to_guest to_owner

-- both sides of one step: a moves, b is its peer
pub record Both (odd : Bool) (a b : Actor) (to_a to_b : List Said) : Type 0 where
  pub parts : PartsOk a
  pub peer_parts : PartsOk b
  pub sent : SentOk a (b.taken ++ to_b)
  pub peer_sent : SentOk b (a.taken ++ to_a)
  pub known : (c : ℕ) → owns odd c ≡ true → Known (a.part c) (b.part c) (all_notes c (b.taken ++ to_b)) (all_notes c (a.taken ++ to_a))
  pub peer_known : (c : ℕ) → owns odd c ≡ false → Known (b.part c) (a.part c) (all_notes c (a.taken ++ to_a)) (all_notes c (b.taken ++ to_b))

-- the parts
at-ok : (n c : ℕ) (f : Part → Part) (a : Actor) → PartOk a.finished (all_notes c a.taken) (a.part c) → PartOk a.finished (all_notes c a.taken) (f (a.part c)) → PartOk a.finished (all_notes c a.taken) ((part_changed n f a).part c)
at-ok n c f a h k = by_test (n == c)
  where
    by_test : (b : Bool) → PartOk a.finished (all_notes c a.taken) (if b then f (a.part c) else a.part c)
    by_test true = k
    by_test false = h

or_parts : (x y : Bool) → x || y ≡ false → (x ≡ false) × (y ≡ false)
or_parts true y h = absurd (let z = h in cc)
or_parts false y h = (refl, h)

abbrev ActorOk : ℕ → Actor → Type 0
ActorOk c t = PartOk t.finished (all_notes c t.taken) (t.part c)

takes-ok : (odd : Bool) (a : Actor) (wire : List Said) (c : ℕ) → a.finished ≡ false → (owns odd c ≡ true → is_seen (a.part c).slot ≡ false → all_notes c wire ≡ []) → ActorOk c a → ActorOk c (takes odd a wire)
takes-ok odd a [] c f q k = k
takes-ok odd a (m ∷ ms) c f q k =
    let told : all_notes c a.taken ++ notes c m ≡ all_notes c (a.taken ++ m ∷ []) = sym (all_notes-append c a.taken (m ∷ []) ∙ ap (λ (t : List Note). all_notes c a.taken ++ t) (append-nil (notes c m))) in
    let before : PartOk false (all_notes c a.taken) (a.part c) = subst (λ b. PartOk b (all_notes c a.taken) (a.part c)) f k in
    subst (λ b. PartOk b (all_notes c (a.taken ++ m ∷ [])) (heard_all (owns odd c) (a.part c) (notes c m))) (sym f)
    (subst (λ (t : List Note). PartOk false t (heard_all (owns odd c) (a.part c) (notes c m))) told
    (heard_all-ok (owns odd c) (all_notes c a.taken) (notes c m) (a.part c) (λ h u. (append_empty (notes c m) (all_notes c ms) (q h u)).0) before))

moves-ok : (odd : Bool) (a : Actor) (wire : List Said) (m : Move) (c : ℕ) → (owns odd c ≡ true → is_seen (a.part c).slot ≡ false → all_notes c wire ≡ []) → ActorOk c a → ActorOk c (after odd a wire m)
moves-ok odd a wire Open_channel c q k = if_actor (ActorOk c) (can_open odd a) (record (part_changed a.next (λ p. opened_in p p.slot) a) { next = a.next + 2 }) a
    (at-ok a.next c (λ p. opened_in p p.slot) a k (opened-ok a.finished (all_notes c a.taken) (a.part c) (a.part c).slot refl k)) k
moves-ok odd a wire (Send n v) c q k = if_actor (ActorOk c) (can_send a n v) (adds n v a) a k k
moves-ok odd a wire (Call n v) c q k = k
moves-ok odd a wire (Ask n) c q k = k
moves-ok odd a wire (Answer n v) c q k = if_actor (ActorOk c) (can_answer a n v) (adds n v a) a k k
moves-ok odd a wire Terminate c q k = k
moves-ok odd a wire (Close n e) c q k = at-ok n c (λ p. closed_in p p.slot) a k (closed-ok a.finished (all_notes c a.taken) (a.part c) (a.part c).slot refl k)
moves-ok odd a wire (End_function n e) c q k = at-ok n c (λ p. function_ended_in p p.slot) a k (ended-ok a.finished (all_notes c a.taken) (a.part c) (a.part c).slot refl k)
moves-ok odd a wire (Give_up n) c q k = at-ok n c (λ p. given_up_in p p.slot) a k (given_up-ok a.finished (all_notes c a.taken) (a.part c) (a.part c).slot refl k)
moves-ok odd a wire (Receive n) c q k = at-ok n c (λ p. received_in p p.slot) a k (received-ok a.finished (all_notes c a.taken) (a.part c) (a.part c).slot refl k)
moves-ok odd a wire (Set_callback n) c q k = at-ok n c (λ p. hooked_in p p.slot) a k (hooked-ok a.finished (all_notes c a.taken) (a.part c) (a.part c).slot refl k)
moves-ok odd a wire Take_message c q k = open_or_ended (a.failed || a.finished) (ActorOk c (after odd a wire Take_message))
    (λ h. subst (λ b. ActorOk c (if b then a else takes odd a wire)) (sym h) k)
    (λ h. subst (λ b. ActorOk c (if b then a else takes odd a wire)) (sym h) (takes-ok odd a wire c (or_parts a.failed a.finished h).1 q k))
moves-ok odd a wire (Refuse names) c q k = by_test (is_in c names && is_told c wire)
  where
    by_test : (b : Bool) → PartOk a.finished (all_notes c a.taken) (if b then named_part (owns odd c) (a.part c) (a.part c).slot else a.part c)
    by_test true = named-ok a.finished (all_notes c a.taken) (a.part c) (owns odd c) (a.part c).slot refl k
    by_test false = k
moves-ok odd a wire Finish_receiving c q k = lost-ok a.finished (all_notes c a.taken) (a.part c) (a.part c).slot refl k

-- nothing on the way is lost
total_if : (b odd : Bool) (a : Actor) (wire : List Said) → (if b then a else takes odd a wire).taken ++ (if b then wire else messages_left wire) ≡ a.taken ++ wire
total_if true odd a wire = refl
total_if false odd a [] = refl
total_if false odd a (m ∷ ms) = append_assoc a.taken (m ∷ []) ms

total : (odd : Bool) (a : Actor) (wire : List Said) (m : Move) → (after odd a wire m).taken ++ wire_after a wire m ≡ a.taken ++ wire
total odd a wire Open_channel = if_actor (λ t. t.taken ++ wire ≡ a.taken ++ wire) (can_open odd a) (record (part_changed a.next (λ p. opened_in p p.slot) a) { next = a.next + 2 }) a refl refl
total odd a wire (Send n v) = if_actor (λ t. t.taken ++ wire ≡ a.taken ++ wire) (can_send a n v) (adds n v a) a refl refl
total odd a wire (Call n v) = refl
total odd a wire (Ask n) = refl
total odd a wire (Answer n v) = if_actor (λ t. t.taken ++ wire ≡ a.taken ++ wire) (can_answer a n v) (adds n v a) a refl refl
total odd a wire Terminate = refl
total odd a wire (Close n e) = refl
total odd a wire (End_function n e) = refl
total odd a wire (Give_up n) = refl
total odd a wire (Receive n) = refl
total odd a wire (Set_callback n) = refl
total odd a wire Take_message = total_if (a.failed || a.finished) odd a wire
total odd a wire (Refuse names) = refl
total odd a wire Finish_receiving = refl

-- what is said comes after what was said
said_more : (c : ℕ) (taken wire new : List Said) → all_notes c (taken ++ (wire ++ new)) ≡ all_notes c (taken ++ wire) ++ all_notes c new
said_more c taken wire new = ap (all_notes c) (sym (append_assoc taken wire new)) ∙ all_notes-append c (taken ++ wire) new

said_none : (c : ℕ) (taken wire new : List Said) → all_notes c (taken ++ wire) ≡ [] → all_notes c new ≡ [] → all_notes c (taken ++ (wire ++ new)) ≡ []
said_none c taken wire new h k = said_more c taken wire new ∙ ap (λ (t : List Note). t ++ all_notes c new) h ∙ k

on_the_way : (c : ℕ) (taken wire : List Said) → all_notes c (taken ++ wire) ≡ [] → all_notes c wire ≡ []
on_the_way c taken wire h = (append_empty (all_notes c taken) (all_notes c wire) (sym (all_notes-append c taken wire) ∙ h)).1

steps : (odd : Bool) (a b : Actor) (to_a to_b : List Said) (m : Move) → Both odd a b to_a to_b → Both odd (after odd a to_a m) b (wire_after a to_a m) (to_b ++ says odd a m)
steps odd a b to_a to_b m k =
    let new = says odd a m in
    let all : (after odd a to_a m).taken ++ wire_after a to_a m ≡ a.taken ++ to_a = total odd a to_a m in
    record {
      parts = λ c. moves-ok odd a to_a m c (λ h u. on_the_way c a.taken to_a (k.known c h u).owner_told) (k.parts c);
      peer_parts = k.peer_parts;
      sent = λ c. sent_says odd a to_a m c ∙ ap (λ (t : List Tree). t ++ items (all_notes c (says odd a m))) (k.sent c)
          ∙ sym (items-append (all_notes c (b.taken ++ to_b)) (all_notes c (says odd a m))) ∙ ap items (sym (said_more c b.taken to_b (says odd a m)));
      peer_sent = λ c. k.peer_sent c ∙ ap (λ (t : List Said). items (all_notes c t)) (sym all);
      known = λ c h u. let v = seen_back odd a to_a m c u in let s = k.known c h v in record {
        guest_unseen = s.guest_unseen;
        owner_unasked = (stays_away odd a to_a m c v s.owner_unasked (on_the_way c a.taken to_a s.owner_told)).1;
        guest_unasked = s.guest_unasked;
        guest_told = said_none c b.taken to_b (says odd a m) s.guest_told (quiet_says odd a m c v s.owner_unasked);
        owner_told = ap (all_notes c) all ∙ s.owner_told;
      };
      peer_known = λ c h u. let s = k.peer_known c h u in let w = stays_away odd a to_a m c s.guest_unseen s.guest_unasked (on_the_way c a.taken to_a s.guest_told) in record {
        guest_unseen = w.0 h;
        owner_unasked = s.owner_unasked;
        guest_unasked = w.1;
        guest_told = ap (all_notes c) all ∙ s.guest_told;
        owner_told = said_none c b.taken to_b (says odd a m) s.owner_told (quiet_says odd a m c s.guest_unseen s.guest_unasked);
      };
    }

-- seen from the other side
not_not : (b : Bool) → not b ≡ true → b ≡ false
not_not true h = cc
not_not false h = refl

not_false : (b : Bool) → not b ≡ false → b ≡ true
not_false true h = refl
not_false false h = cc

flips : (c : ℕ) (b : Bool) → owns false c ≡ b → is_odd c ≡ not b
flips c true h = not_not (is_odd c) h
flips c false h = not_false (is_odd c) h

pub flip : (a b : Actor) (to_a to_b : List Said) → Both true a b to_a to_b → Both false b a to_b to_a
flip a b to_a to_b k = record {
  parts = k.peer_parts;
  peer_parts = k.parts;
  sent = k.peer_sent;
  peer_sent = k.sent;
  known = λ c h. k.peer_known c (not_not (is_odd c) h);
  peer_known = λ c h. k.known c (not_false (is_odd c) h);
}

pub flip_back : (a b : Actor) (to_a to_b : List Said) → Both false b a to_b to_a → Both true a b to_a to_b
flip_back a b to_a to_b k = record {
  parts = k.peer_parts;
  peer_parts = k.parts;
  sent = k.peer_sent;
  peer_sent = k.sent;
  known = λ c h. k.peer_known c (ap not h);
  peer_known = λ c h. k.known c (ap not h);
}

abbrev pub Sound : World → Type 0
Sound w = Both true w.odd w.even w.to_odd w.to_even

pub sound_step : (w : World) (e : Step) → Sound w → Sound (happens w e)
sound_step w (Odd m) k = steps true w.odd w.even w.to_odd w.to_even m k
sound_step w (Even m) k = flip_back w.odd (after false w.even w.to_even m) (w.to_odd ++ says false w.even m) (wire_after w.even w.to_even m)
    (steps false w.even w.odd w.to_even w.to_odd m (flip w.odd w.even w.to_odd w.to_even k))

pub sound_run : (es : List Step) (w : World) → Sound w → Sound (run es w)
sound_run [] w k = k
sound_run (e ∷ es) w k = sound_run es (happens w e) (sound_step w e k)

untouched-ok : (n : List Note) → n ≡ [] → PartOk false n untouched
untouched-ok n h = record { got_none = refl; none_came = ap before_end h; no_end = ap has_end h; not_ended = refl; lost_fin = λ q. cc }

silent_start : Silent untouched untouched [] []
silent_start = record { guest_unseen = refl; owner_unasked = refl; guest_unasked = refl; guest_told = refl; owner_told = refl }

pub sound_start : Sound start
sound_start = record {
  parts = λ c. untouched-ok [] refl;
  peer_parts = λ c. untouched-ok [] refl;
  sent = λ c. refl;
  peer_sent = λ c. refl;
  known = λ c h u. silent_start;
  peer_known = λ c h u. silent_start;
}

-- the law, from what was kept
prefix_of : (f : Bool) (n : List Note) (s : Slot Tree) (got : List Tree) (e l lo : Bool) → SlotOk f n s got e l lo → (more : List Tree) × (got ++ more ≡ before_end n)
prefix_of f n Unseen got e l lo k = ([], append-nil got ∙ k.got_none ∙ sym k.none_came)
prefix_of f n (Here s) got e l lo k = (s.waiting ++ k.prefix.0, sym (append_assoc got s.waiting k.prefix.0) ∙ k.prefix.1)
prefix_of f n Gone got e l lo k = k.prefix

ended_all : (f : Bool) (n : List Note) (s : Slot Tree) (got : List Tree) (e l lo : Bool) → SlotOk f n s got e l lo → e ≡ true → l ≡ false → lo ≡ false → (got ≡ before_end n) × (has_end n ≡ true)
ended_all f n Unseen got e l lo k a b d = absurd (let z = k.not_ended in cc)
ended_all f n (Here s) got e l lo k a b d = let g = k.ended_given a in
    (sym (ap (λ (x : List Tree). got ++ x) (k.given_last g) ∙ append-nil got) ∙ k.whole b, k.given_came g b d)
ended_all f n Gone got e l lo k a b d = (k.whole b, k.end_came b d)

one_way : (c : ℕ) (a b : Actor) (wire : List Said) → PartsOk b → SentOk a (b.taken ++ wire) → Law (b.part c) (a.sent c) (all_notes c (b.taken ++ wire))
one_way c a b wire k s =
    let n = all_notes c b.taken in
    let p = b.part c in
    let split : all_notes c (b.taken ++ wire) ≡ all_notes c b.taken ++ all_notes c wire = all_notes-append c b.taken wire in
    record {
      prefix = subst (IsPrefixOf (b.part c).got) (sym (s c)) (longer (b.part c).got (before_end (all_notes c b.taken)) (items (all_notes c (b.taken ++ wire)))
          (prefix_of b.finished (all_notes c b.taken) (b.part c).slot (b.part c).got (b.part c).ended (b.part c).let_go (b.part c).lost (k c))
          (subst (λ (t : List Note). (more : List Tree) × (before_end (all_notes c b.taken) ++ more ≡ items t)) (sym split)
          (let r = before_items (all_notes c b.taken) in (r.0 ++ items (all_notes c wire), sym (append_assoc (before_end (all_notes c b.taken)) r.0 (items (all_notes c wire))) ∙ ap (λ (t : List Tree). t ++ items (all_notes c wire)) r.1 ∙ sym (items-append (all_notes c b.taken) (all_notes c wire))))));
      whole = λ x y z. let r = ended_all b.finished (all_notes c b.taken) (b.part c).slot (b.part c).got (b.part c).ended (b.part c).let_go (b.part c).lost (k c) x y z in
          r.0 ∙ sym (ended_append (all_notes c b.taken) (all_notes c wire) r.1) ∙ ap before_end (sym split);
      end_came = λ x y z. let r = ended_all b.finished (all_notes c b.taken) (b.part c).slot (b.part c).got (b.part c).ended (b.part c).let_go (b.part c).lost (k c) x y z in
          ap has_end split ∙ still_ended (all_notes c b.taken) (all_notes c wire) r.1;
    }

pub pair_holds : (steps : List Step) → PairLaw (run steps start)
pair_holds es = let k = sound_run es start sound_start in let w = run es start in record {
  to_even = λ c. one_way c (run es start).odd (run es start).even (run es start).to_even k.peer_parts k.sent;
  to_odd = λ c. one_way c (run es start).even (run es start).odd (run es start).to_odd k.parts k.peer_sent;
}
