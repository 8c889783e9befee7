-- Taking a message is the move Take_message, and refusing one is a move Refuse.
use Rattle.std.proofs.Common.{◌≡◌, ℕ, List, [], ◌∷◌, ◌++◌, Bool, true, false, Option, Some, None, refl, sym, ap, subst, ◌∙◌, ◌⊎◌, inl, inr}
use Rattle.std.specs.Prelude.{◌==◌, ◌||◌, ◌&&◌, is_some, if◌then◌else◌}
use Rattle.std.proofs.lemmas.Bool.{eqb-true}
use Rattle.std.proofs.lemmas.List.{append-nil}
use Rattle.xd_value.specs.Tree.{Tree}
use Rattle.xd_value.specs.Channels.{channels}
use Rattle.xd_channel.specs.State.{end_of, put_gives}
use Rattle.xd_channel.specs.History.{handed}
use Rattle.xd_channel.specs.declared.end.End.{End}
use Rattle.xd_channel.specs.declared.end.End.TheVariants.{LastMessage}
use Rattle.xd_channel.specs.declared.answers.Arrived.{Arrived}
use Rattle.xd_channel.specs.declared.answers.Arrived.TheVariants as arrived
use Rattle.xd_frame.specs.Message.{MessageView}
use Rattle.xd_factory.specs.Numbers.{is_in, is_mine}
use Rattle.xd_factory.specs.Said.{Said, Status, Exec, Data, Close, Last, Terminate, Means, names_of}
use Rattle.xd_factory.specs.Slot.{Slot, Unseen, Here, Gone, is_new, named_slot, item_gives, end_gives}
use Rattle.xd_factory.specs.Table.{heard_slot, answer_of, arrived_answer, end_answer, ended_answer, handed_answer, OpensAtMost}
use Rattle.xd_factory.specs.View.{slot_of_number, parity_of, next_of, fault_of, is_finished, KeepsRest}
use Rattle.xd_factory.specs.declared.parity.Parity.{Parity}
use Rattle.xd_factory.specs.declared.side.Side.{Side}
use Rattle.xd_factory.specs.declared.taken.Taken.{Taken}
use Rattle.xd_factory.specs.declared.taken.Taken.TheVariants as taken
use Rattle.xd_factory.specs.declared.faults.SideFault.{SideFault}
use Rattle.xd_pair.specs.Notes.{Note, Named, Item, Ends, Lasts, Asked, side_parity, owns, notes}
use Rattle.xd_pair.specs.Part.{Part, heard_all, is_end_but_loss, is_lost}
use Rattle.xd_pair.specs.Pair.{Actor, Take_message, Refuse, takes, messages_left, has_notes, is_told, named_part, after, wire_after}
use Rattle.xd_pair.specs.Handed.{Hands, taken_items, taken_end}
use Rattle.xd_pair.specs.Messages.{AllMean}
use Rattle.xd_pair.specs.Stands.{StandsForActor, IsOpen}
use Rattle.xd_pair.proofs.SameWords.{message_heard, named_own, twice}

-- what the notes of one message hand out at a number
record Handing (p q : Part) (items : List Tree) (end : Option End) : Type 0 where
  got : q.got ≡ p.got ++ items
  ended : q.ended ≡ is_end_but_loss end || p.ended
  lost : q.lost ≡ is_lost end || p.lost

nothing : (p q : Part) → q.got ≡ p.got → q.ended ≡ p.ended → q.lost ≡ p.lost → Handing p q [] None
nothing p q g e l = record { got = g ∙ sym (append-nil p.got); ended = e; lost = l }

call_handing : (mine : Bool) (p : Part) (a b : Bool) → Handing p (heard_all mine p ((if a then Named ∷ [] else []) ++ (if b then Named ∷ [] else []))) [] None
call_handing mine p true true = nothing p _ refl refl refl
call_handing mine p true false = nothing p _ refl refl refl
call_handing mine p false true = nothing p _ refl refl refl
call_handing mine p false false = nothing p _ refl refl refl

item_handing : (mine : Bool) (p : Part) (v : Tree) (a b : Bool) → Handing p (heard_all mine p ((if a then Named ∷ [] else []) ++ (if b then Item v ∷ [] else []))) (if b then handed (item_gives (named_slot mine p.slot) v) else []) None
item_handing mine p v true true = record { got = ap (λ (s : Slot Tree). p.got ++ handed (item_gives s v)) (twice mine p.slot); ended = refl; lost = refl }
item_handing mine p v true false = nothing p _ refl refl refl
item_handing mine p v false true = record { got = refl; ended = refl; lost = refl }
item_handing mine p v false false = nothing p _ refl refl refl

ends_handing : (mine : Bool) (p : Part) (e : Option (List ℕ)) (b : Bool) → Handing p (heard_all mine p (if b then Ends e ∷ [] else [])) [] (if b then end_gives p.slot (end_of e) else None)
ends_handing mine p e true = record { got = refl; ended = refl; lost = refl }
ends_handing mine p e false = nothing p _ refl refl refl

lasts_handing : (mine : Bool) (p : Part) (b : Bool) → Handing p (heard_all mine p (if b then Lasts ∷ [] else [])) [] (if b then end_gives p.slot LastMessage else None)
lasts_handing mine p true = record { got = refl; ended = refl; lost = refl }
lasts_handing mine p false = nothing p _ refl refl refl

asked_handing : (mine : Bool) (p : Part) (b : Bool) → Handing p (heard_all mine p (if b then Asked ∷ [] else [])) [] None
asked_handing mine p true = nothing p _ refl refl refl
asked_handing mine p false = nothing p _ refl refl refl

-- what the answer of a message hands out at a number
same_items : (b : Bool) (x : List Tree) → x ≡ (if b then x else x)
same_items true x = refl
same_items false x = refl

arrived_items : (n c : ℕ) (x : Arrived Tree) → taken_items (arrived_answer n x) c ≡ (if n == c then handed x else [])
arrived_items n c (arrived.Handed v) = refl
arrived_items n c arrived.Kept = same_items (n == c) []
arrived_items n c arrived.Dropped = same_items (n == c) []

arrived_end : (n c : ℕ) (x : Arrived Tree) → taken_end (arrived_answer n x) c ≡ None
arrived_end n c (arrived.Handed v) = refl
arrived_end n c arrived.Kept = refl
arrived_end n c arrived.Dropped = refl

same_end : (b : Bool) (x : Option End) → x ≡ (if b then x else x)
same_end true x = refl
same_end false x = refl

ended_end : (n c : ℕ) (end : End) (m : Option End) (hooked : Bool)
    → taken_end (ended_answer n hooked (if is_some m then None else (if hooked then Some end else None))) c ≡ (if n == c then (if is_some m then None else (if hooked then Some end else None)) else None)
ended_end n c end (Some x) true = same_end (n == c) None
ended_end n c end (Some x) false = same_end (n == c) None
ended_end n c end None true = refl
ended_end n c end None false = same_end (n == c) None

answer_end : (n c : ℕ) (s : Slot Tree) (end : End) → taken_end (end_answer n s end) c ≡ (if n == c then end_gives s end else None)
answer_end n c Unseen end = same_end (n == c) None
answer_end n c Gone end = same_end (n == c) None
answer_end n c (Here s) end = ended_end n c end s.marker s.callback

handed_items : (n c : ℕ) (o : Option End) → taken_items (handed_answer n o) c ≡ []
handed_items n c None = refl
handed_items n c (Some e) = refl

ended_items : (n c : ℕ) (hooked : Bool) (o : Option End) → taken_items (ended_answer n hooked o) c ≡ []
ended_items n c true o = handed_items n c o
ended_items n c false o = refl

answer_items : (n c : ℕ) (s : Slot Tree) (end : End) → taken_items (end_answer n s end) c ≡ []
answer_items n c Unseen end = refl
answer_items n c Gone end = refl
answer_items n c (Here s) end = ended_items n c s.callback (put_gives s end)

exec_items : (n c : ℕ) (v : Tree) (b : Bool) → taken_items (if b then taken.Exec n v else taken.Dropped) c ≡ []
exec_items n c v true = refl
exec_items n c v false = refl

exec_end : (n c : ℕ) (v : Tree) (b : Bool) → taken_end (if b then taken.Exec n v else taken.Dropped) c ≡ None
exec_end n c v true = refl
exec_end n c v false = refl

same_handing : (p q : Part) (xs ys : List Tree) (e f : Option End) → xs ≡ ys → e ≡ f → Handing p q xs e → Handing p q ys f
same_handing p q xs ys e f g h k = subst (λ (x : List Tree). Handing p q x f) g (subst (λ (x : Option End). Handing p q xs x) h k)

-- at the number itself and elsewhere
at_own : {X : Type 0} (n c : ℕ) (f : ℕ → X) (z : X) → (if n == c then f c else z) ≡ (if n == c then f n else z)
at_own n c f z = by_test (n == c) (λ q. ap f (sym (eqb-true n c q)))
  where
    by_test : (b : Bool) → (b ≡ true → f c ≡ f n) → (if b then f c else z) ≡ (if b then f n else z)
    by_test true h = h refl
    by_test false h = refl

message_handing : (odd : Bool) (part : ℕ → Part) (c : ℕ) (said : Said) →
    Handing (part c) (heard_all (owns odd c) (part c) (notes c said)) (taken_items (answer_of (side_parity odd) (λ n. (part n).slot) said) c) (taken_end (answer_of (side_parity odd) (λ n. (part n).slot) said) c)
message_handing odd part c (Status n) = asked_handing (owns odd c) (part c) (n == c)
message_handing odd part c (Exec n v) =
    let new = is_new (owns odd n) (part n).slot in
    same_handing (part c) _ [] _ None _ (sym (exec_items n c v new)) (sym (exec_end n c v new)) (call_handing (owns odd c) (part c) (is_in c (channels v)) (n == c))
message_handing odd part c (Data n v) =
    let x = item_gives (named_slot (owns odd n) (part n).slot) v in
    same_handing (part c) _ _ _ None _
    (at_own n c (λ k. handed (item_gives (named_slot (owns odd k) (part k).slot) v)) [] ∙ sym (arrived_items n c x)) (sym (arrived_end n c x))
    (item_handing (owns odd c) (part c) v (is_in c (channels v)) (n == c))
message_handing odd part c (Close n e) =
    same_handing (part c) _ [] _ _ _ (sym (answer_items n c (part n).slot (end_of e)))
    (at_own n c (λ k. end_gives (part k).slot (end_of e)) None ∙ sym (answer_end n c (part n).slot (end_of e)))
    (ends_handing (owns odd c) (part c) e (n == c))
message_handing odd part c (Last n) =
    same_handing (part c) _ [] _ _ _ (sym (answer_items n c (part n).slot LastMessage))
    (at_own n c (λ k. end_gives (part k).slot LastMessage) None ∙ sym (answer_end n c (part n).slot LastMessage))
    (lasts_handing (owns odd c) (part c) (n == c))
message_handing odd part c Terminate = nothing (part c) _ refl refl refl

-- the answer rests on what stands at the numbers
answer_same : (parity : Parity) (f g : ℕ → Slot Tree) (said : Said) → ((n : ℕ) → f n ≡ g n) → answer_of parity f said ≡ answer_of parity g said
answer_same parity f g (Status n) h = refl
answer_same parity f g (Exec n v) h = ap (λ (s : Slot Tree). if is_new (is_mine parity n) s then taken.Exec n v else taken.Dropped) (h n)
answer_same parity f g (Data n v) h = ap (λ (s : Slot Tree). arrived_answer n (item_gives (named_slot (is_mine parity n) s) v)) (h n)
answer_same parity f g (Close n e) h = ap (λ (s : Slot Tree). end_answer n s (end_of e)) (h n)
answer_same parity f g (Last n) h = ap (λ (s : Slot Tree). end_answer n s LastMessage) (h n)
answer_same parity f g Terminate h = refl

-- a side that takes messages stands for an actor that does
pub open_actor : (odd : Bool) (s : Side) (a : Actor) → StandsForActor odd s a → fault_of s ≡ None → IsOpen a
open_actor odd s a k f = sym k.refuses ∙ ap is_some f

-- a message is taken
pub record Took (odd : Bool) (t : Side) (a : Actor) (wire : List Said) (ms : List MessageView) (answer : Taken Tree) : Type 0 where
  pub stands : StandsForActor odd t (after odd a wire Take_message)
  pub carries : AllMean ms (wire_after a wire Take_message)
  pub hands : Hands a (after odd a wire Take_message) (taken_items answer) (taken_end answer)

pub took : (odd : Bool) (s t : Side) (a : Actor) (wire : List Said) (m : MessageView) (ms : List MessageView) (answer : Taken Tree)
    → fault_of s ≡ None → KeepsRest s t → ((said : Said) → Means m said → answer ≡ answer_of (parity_of s) (slot_of_number s) said)
    → ((said : Said) → Means m said → (c : ℕ) → slot_of_number t c ≡ heard_slot (parity_of s) said c (slot_of_number s c))
    → StandsForActor odd s a → AllMean (m ∷ ms) wire → Took odd t a wire ms answer
took odd s t a [] m ms answer f keeps answers slots k means = absurd means
took odd s t a (w ∷ ws) m ms answer f keeps answers slots k means =
    let is_open : a.failed || a.finished ≡ false = open_actor odd s a k f in
    let same : answer ≡ answer_of (side_parity odd) (λ n. (a.part n).slot) w = answers w means.0 ∙ answer_same (parity_of s) (slot_of_number s) (λ n. (a.part n).slot) w k.slots ∙ ap (λ (p : Parity). answer_of p (λ n. (a.part n).slot) w) k.parity in
    record {
      stands = subst (λ b. StandsForActor odd t (if b then a else takes odd a (w ∷ ws))) (sym is_open) (record {
        parity = keeps.parity ∙ k.parity;
        slots = λ c. slots w means.0 c ∙ ap (λ (p : Parity). heard_slot p w c (slot_of_number s c)) k.parity ∙ ap (heard_slot (side_parity odd) w c) (k.slots c) ∙ sym (message_heard odd (a.part c) c w);
        next = keeps.next ∙ k.next;
        finished = keeps.finished ∙ k.finished;
        refuses = ap is_some keeps.fault ∙ k.refuses;
      });
      carries = subst (λ b. AllMean ms (if b then w ∷ ws else messages_left (w ∷ ws))) (sym is_open) means.1;
      hands = subst (λ b. Hands a (if b then a else takes odd a (w ∷ ws)) (taken_items answer) (taken_end answer)) (sym is_open)
          (subst (λ (x : Taken Tree). Hands a (takes odd a (w ∷ ws)) (taken_items x) (taken_end x)) (sym same) (record {
            got = λ c. (message_handing odd a.part c w).got;
            ended = λ c. (message_handing odd a.part c w).ended;
            lost = λ c. (message_handing odd a.part c w).lost;
          }));
    }

-- nothing was on the way
pub none_hands : (a : Actor) → Hands a a (λ c. []) (λ c. None)
none_hands a = record { got = λ c. sym (append-nil (a.part c).got); ended = λ c. refl; lost = λ c. refl }

-- a message is refused: the numbers that opened
has_opened : {A B : Type 0} → A ⊎ B → Bool
has_opened (inl x) = false
has_opened (inr y) = true

kept : (ℕ → Bool) → List ℕ → List ℕ
kept p [] = []
kept p (n ∷ ns) = if p n then n ∷ kept p ns else kept p ns

and_false : (b : Bool) → b && false ≡ false
and_false true = refl
and_false false = refl

kept_next : (p : ℕ → Bool) (c n : ℕ) (ns : List ℕ) (b d : Bool) → n == c ≡ b → (b ≡ true → d ≡ p c) → is_in c (kept p ns) ≡ is_in c ns && p c
    → is_in c (if d then n ∷ kept p ns else kept p ns) ≡ (b || is_in c ns) && p c
kept_next p c n ns true true q h k = ap (λ x. x || is_in c (kept p ns)) q ∙ h refl
kept_next p c n ns true false q h k = k ∙ ap (λ x. is_in c ns && x) (sym (h refl)) ∙ and_false (is_in c ns) ∙ h refl
kept_next p c n ns false true q h k = ap (λ x. x || is_in c (kept p ns)) q ∙ k
kept_next p c n ns false false q h k = k

is_in-kept : (p : ℕ → Bool) (c : ℕ) (ns : List ℕ) → is_in c (kept p ns) ≡ is_in c ns && p c
unfolding kept
is_in-kept p c [] = refl
is_in-kept p c (n ∷ ns) = kept_next p c n ns (n == c) (p n) refl (λ q. ap p (eqb-true n c q)) (is_in-kept p c ns)

told_by : (a b : Bool) (x y : Note) → a || b ≡ true → has_notes ((if a then x ∷ [] else []) ++ (if b then y ∷ [] else [])) ≡ true
told_by true b x y h = refl
told_by false true x y h = refl
told_by false false x y h = cc

told : (c : ℕ) (w : Said) (ws : List Said) → is_in c (names_of w) ≡ true → is_told c (w ∷ ws) ≡ true
told c (Status n) ws h = absurd (let z = h in cc)
told c (Exec n v) ws h = told_by (is_in c (channels v)) (n == c) Named Named (sym (named_own c n v) ∙ h)
told c (Data n v) ws h = told_by (is_in c (channels v)) (n == c) Named (Item v) (sym (named_own c n v) ∙ h)
told c (Close n e) ws h = absurd (let z = h in cc)
told c (Last n) ws h = absurd (let z = h in cc)
told c Terminate ws h = absurd (let z = h in cc)

refused_slot : (mine : Bool) (p : Part) (old new : Slot Tree) (x : OpensAtMost mine old new) (i told : Bool) → old ≡ p.slot → (i ≡ false → new ≡ old) → (i ≡ true → told ≡ true)
    → new ≡ (if (i && has_opened x) && told then named_part mine p p.slot else p).slot
unfolding has_opened
refused_slot mine p old new x false told e h k = h refl ∙ e
refused_slot mine p old new (inl x) true told e h k = x ∙ e
refused_slot mine p old new (inr x) true told e h k =
    subst (λ b. new ≡ (if b then named_part mine p p.slot else p).slot) (sym (k refl)) (x ∙ ap (named_slot mine) e)

-- a side that refuses a message stands for the actor that does
pub refused : (odd : Bool) (s t : Side) (a : Actor) (wire : List Said) (m : MessageView) (ms : List MessageView)
    → ((f : SideFault) → fault_of s ≡ Some f → t ≡ s) → is_some (fault_of t) ≡ true
    → parity_of t ≡ parity_of s → next_of t ≡ next_of s → is_finished t ≡ is_finished s
    → ((c : ℕ) → OpensAtMost (is_mine (parity_of s) c) (slot_of_number s c) (slot_of_number t c))
    → ((said : Said) → Means m said → (c : ℕ) → is_in c (names_of said) ≡ false → slot_of_number t c ≡ slot_of_number s c)
    → StandsForActor odd s a → (IsOpen a → AllMean (m ∷ ms) wire) → (names : List ℕ) × StandsForActor odd t (after odd a wire (Refuse names))
refused odd s t a wire m ms failed fails p n d err others k means = by_fault (fault_of s) refl
  where
    first_words : (wire : List Said) → AllMean (m ∷ ms) wire → (names : List ℕ) × StandsForActor odd t (after odd a wire (Refuse names))
    first_words [] h = absurd h
    first_words (w ∷ ws) h = (
      kept (λ c. has_opened (err c)) (names_of w),
      record {
        parity = p ∙ k.parity;
        slots = λ c. refused_slot (is_mine (parity_of s) c) (a.part c) (slot_of_number s c) (slot_of_number t c) (err c) (is_in c (names_of w)) (is_told c (w ∷ ws)) (k.slots c) (others w h.0 c) (told c w ws)
            ∙ ap (λ b. (if b && is_told c (w ∷ ws) then named_part (is_mine (parity_of s) c) (a.part c) (a.part c).slot else a.part c).slot) (sym (is_in-kept (λ c. has_opened (err c)) c (names_of w)))
            ∙ ap (λ (x : Parity). (if is_in c (kept (λ c. has_opened (err c)) (names_of w)) && is_told c (w ∷ ws) then named_part (is_mine x c) (a.part c) (a.part c).slot else a.part c).slot) k.parity;
        next = n ∙ k.next;
        finished = d ∙ k.finished;
        refuses = fails;
      },
    )

    by_fault : (o : Option SideFault) → fault_of s ≡ o → (names : List ℕ) × StandsForActor odd t (after odd a wire (Refuse names))
    by_fault None h = first_words wire (means (open_actor odd s a k h))
    by_fault (Some f) h = (
      [],
      record {
        parity = p ∙ k.parity;
        slots = λ c. ap (λ (x : Side). slot_of_number x c) (failed f h) ∙ k.slots c;
        next = n ∙ k.next;
        finished = d ∙ k.finished;
        refuses = fails;
      },
    )
