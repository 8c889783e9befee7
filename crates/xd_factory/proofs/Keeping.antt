-- Each call keeps that a side is as its history leaves it.
use Rattle.std.proofs.Common.{◌≡◌, ℕ, List, ◌∷◌, Bool, true, false, Option, Some, None, Result, Ok, Err, refl, sym, ap, subst, ◌∙◌, inl, inr}
use Rattle.std.specs.Prelude.{◌==◌, map, if◌then◌else◌}
use Rattle.std.proofs.lemmas.Bool.{eqb-true}
use Rattle.xd_value.specs.Tree.{Tree}
use Rattle.xd_value.specs.View.{view}
use Rattle.xd_value.specs.declared.value.Value.{Value}
use Rattle.xd_channel.specs.State.{EndState, fresh_end, end_of, hook_gives, got_of}
use Rattle.xd_channel.specs.History as call
use Rattle.xd_channel.specs.declared.end.End.{End}
use Rattle.xd_channel.specs.declared.answers.Got.{Got}
use Rattle.xd_channel.specs.declared.answers.Arrived.{Arrived}
use Rattle.xd_channel.specs.declared.answers.Arrived.TheVariants as arrived
use Rattle.xd_channel.specs.declared.answers.HasCallback.{HasCallback}
use Rattle.xd_channel.specs.declared.answers.Waiting.{Waiting}
use Rattle.xd_factory.specs.declared.parity.Parity.{Parity}
use Rattle.xd_factory.specs.declared.taken.Taken.{Taken}
use Rattle.xd_factory.specs.declared.faults.HookFault.{HookFault}
use Rattle.xd_factory.specs.declared.faults.HookFault.TheVariants as hook
use Rattle.xd_factory.specs.Numbers.{is_mine, is_in}
use Rattle.xd_factory.specs.Said.{Said, names_in}
use Rattle.xd_factory.specs.Said as message
use Rattle.xd_factory.specs.Slot.{Slot, Unseen, Here, Gone, named_slot, item_slot, item_gives, peer_closed_slot, peer_last_slot, lost_slot, closed_slot, given_up_slot, function_ended_slot, received_slot, receive_answer, hooked_slot, hook_fault, hook_items, hook_end}
use Rattle.xd_factory.specs.Trees.{IsGot, got_tree, received_trees, hooked_trees}
use Rattle.xd_factory.specs.Table.{heard_slot, named_in, arrived_answer, answer_of, OpensAtMost}
use Rattle.xd_factory.specs.History.{Act, Open_channel, Take_message, Refuse, Close, Give_up, End_function, Set_callback, Receive, Finish_receiving, Deed, Opens, named_deeds, on_end, ended_deeds, function_deeds, arrived_of, took_deeds, deeds, SlotStands, AllStand}
use Rattle.xd_factory.proofs.Naming.{own_named}
use Rattle.xd_factory.proofs.Tracing.{closed_stands, given_up_stands, lost_stands, function_stands, received_stands, hooked_stands, told_got, told_hook, opened_stands, named_stands, item_stands, peer_closed_stands, peer_last_stands}

-- a call changes one number, and so does its history
at_one : (b : Bool) (s t : Slot Tree) (d e : List Deed) (f : Slot Tree → Slot Tree) → t ≡ (if b then f s else s) → SlotStands s d → (b ≡ true → SlotStands s d → SlotStands (f s) e) → SlotStands t (if b then e else d)
at_one true s t d e f h k g = subst (λ (x : Slot Tree). SlotStands x e) (sym h) (g refl k)
at_one false s t d e f h k g = subst (λ (x : Slot Tree). SlotStands x d) (sym h) k

-- the parity stays
same_parity : (new : ℕ → Slot Tree) (p q : Parity) (h : List Act) → q ≡ p → AllStand new p h → AllStand new q h
same_parity new p q h e k = subst (λ (x : Parity). AllStand new x h) (sym e) k

pub closed_keeps : (old new : ℕ → Slot Tree) (p q : Parity) (n : ℕ) (h : List Act) → q ≡ p → ((c : ℕ) → new c ≡ (if n == c then closed_slot (old c) else old c)) → AllStand old p h → AllStand new q (Close n ∷ h)
closed_keeps old new p q n h e a k = same_parity new p q (Close n ∷ h) e (λ c. at_one (n == c) (old c) (new c) (deeds p c h) (on_end call.Close (deeds p c h)) closed_slot (a c) (k c) (λ b z. closed_stands (old c) (deeds p c h) z))

pub given_up_keeps : (old new : ℕ → Slot Tree) (p q : Parity) (n : ℕ) (h : List Act) → q ≡ p → ((c : ℕ) → new c ≡ (if n == c then given_up_slot (old c) else old c)) → AllStand old p h → AllStand new q (Give_up n ∷ h)
given_up_keeps old new p q n h e a k = same_parity new p q (Give_up n ∷ h) e (λ c. at_one (n == c) (old c) (new c) (deeds p c h) (on_end call.Give_up (deeds p c h)) given_up_slot (a c) (k c) (λ b z. given_up_stands (old c) (deeds p c h) z))

pub function_keeps : (old new : ℕ → Slot Tree) (p q : Parity) (n : ℕ) (h : List Act) → q ≡ p → ((c : ℕ) → new c ≡ (if n == c then function_ended_slot (old c) else old c)) → AllStand old p h → AllStand new q (End_function n ∷ h)
function_keeps old new p q n h e a k = same_parity new p q (End_function n ∷ h) e (λ c. at_one (n == c) (old c) (new c) (deeds p c h) (function_deeds (deeds p c h)) function_ended_slot (a c) (k c) (λ b z. function_stands (old c) (deeds p c h) z))

pub opened_keeps : (old new : ℕ → Slot Tree) (p q : Parity) (n : ℕ) (h : List Act) → q ≡ p → old n ≡ Unseen → ((c : ℕ) → new c ≡ (if n == c then Here fresh_end else old c)) → AllStand old p h → AllStand new q (Open_channel n ∷ h)
opened_keeps old new p q n h e u a k = same_parity new p q (Open_channel n ∷ h) e
    (λ c. at_one (n == c) (old c) (new c) (deeds p c h) (Opens ∷ deeds p c h) (λ s. Here fresh_end) (a c) (k c)
    (λ b z. opened_stands (deeds p c h) (subst (λ (s : Slot Tree). SlotStands s (deeds p c h)) (sym (ap old (eqb-true n c b)) ∙ u) z)))

pub lost_keeps : (old new : ℕ → Slot Tree) (p q : Parity) (h : List Act) → q ≡ p → ((c : ℕ) → new c ≡ lost_slot (old c)) → AllStand old p h → AllStand new q (Finish_receiving ∷ h)
lost_keeps old new p q h e a k = same_parity new p q (Finish_receiving ∷ h) e (λ c. subst (λ (s : Slot Tree). SlotStands s (on_end call.Lose (deeds p c h))) (sym (a c)) (lost_stands (old c) (deeds p c h) (k c)))

pub same_keeps : (old new : ℕ → Slot Tree) (p q : Parity) (h : List Act) → q ≡ p → ((c : ℕ) → new c ≡ old c) → AllStand old p h → AllStand new q h
same_keeps old new p q h e a k = same_parity new p q h e (λ c. subst (λ (s : Slot Tree). SlotStands s (deeds p c h)) (sym (a c)) (k c))

-- what a receive gave is what the end gives
abbrev good : Got Tree → Result (Got Tree) HasCallback
good x = Ok x

got_is : (b : Bool) (w : List Tree) (m : Option End) (r : Result (Got Value) HookFault) → IsGot r (if b then Err hook.HasCallback else Ok (got_of w m)) → received_trees r ≡ (if b then Err (record {}) else Ok (got_of w m))
got_is true w m (Ok g) h = absurd (let z = h in cc)
got_is true w m (Err f) h = refl
got_is false w m (Ok g) h = let z : got_of w m ≡ got_tree g = cc in ap good (sym z)
got_is false w m (Err f) h = absurd (let z = h in cc)

told_of : (s : Slot Tree) (r : Result (Got Value) HookFault) → IsGot r (receive_answer s) → told_got s (received_trees r)
told_of Unseen r h = tt
told_of (Here s) r h = got_is s.callback s.waiting s.marker r h
told_of Gone r h = tt

pub received_keeps : (old new : ℕ → Slot Tree) (p q : Parity) (n : ℕ) (r : Result (Got Value) HookFault) (h : List Act) → q ≡ p → IsGot r (receive_answer (old n)) → ((c : ℕ) → new c ≡ (if n == c then received_slot (old c) else old c))
    → AllStand old p h → AllStand new q (Receive n (received_trees r) ∷ h)
received_keeps old new p q n r h e g a k = same_parity new p q (Receive n (received_trees r) ∷ h) e
    (λ c. at_one (n == c) (old c) (new c) (deeds p c h) (on_end (call.Receive (received_trees r)) (deeds p c h)) received_slot (a c) (k c)
    (λ b z. received_stands (old c) (deeds p c h) (received_trees r) (told_of (old c) r (subst (λ (x : ℕ). IsGot r (receive_answer (old x))) (eqb-true n c b) g)) z))

-- what a callback was handed is what the end hands over
abbrev IsHanded : Slot Tree → Result (Waiting Value) HookFault → Type 0
IsHanded s (Ok w) = (map view w.items.items ≡ hook_items s) × (w.end ≡ hook_end s) × (hook_fault s ≡ None)
IsHanded s (Err f) = hook_fault s ≡ Some f

handed_by : (b : Bool) (s : EndState Tree) (r : Result (Waiting Value) HookFault) → s.callback ≡ b → IsHanded (Here s) r → hooked_trees r ≡ hook_gives s
handed_by true s (Ok w) e h = absurd (let z : (if s.callback then Some hook.HasCallback else None) ≡ None = h.2 in let y : (if true then Some hook.HasCallback else None) ≡ None = subst (λ b. (if b then Some hook.HasCallback else None) ≡ None) e z in cc)
handed_by true s (Err f) e h = rw e refl
handed_by false s (Ok w) e h =
    let items : map view w.items.items ≡ s.waiting = h.0 ∙ rw e refl in
    let end : w.end ≡ s.marker = h.1 ∙ rw e refl in
    rw (e, items, end) refl
handed_by false s (Err f) e h = absurd (let z : (if s.callback then Some hook.HasCallback else None) ≡ Some f = h in let y : (if false then Some hook.HasCallback else None) ≡ Some f = subst (λ b. (if b then Some hook.HasCallback else None) ≡ Some f) e z in cc)

hook_told : (s : Slot Tree) (r : Result (Waiting Value) HookFault) → IsHanded s r → told_hook s (hooked_trees r)
hook_told Unseen r h = tt
hook_told (Here s) r h = handed_by s.callback s r refl h
hook_told Gone r h = tt

hooked_keeps : (old new : ℕ → Slot Tree) (p q : Parity) (n : ℕ) (r : Result (Waiting Value) HookFault) (h : List Act) → q ≡ p → IsHanded (old n) r → ((c : ℕ) → new c ≡ (if n == c then hooked_slot (old c) else old c))
    → AllStand old p h → AllStand new q (Set_callback n (hooked_trees r) ∷ h)
hooked_keeps old new p q n r h e g a k = same_parity new p q (Set_callback n (hooked_trees r) ∷ h) e
    (λ c. at_one (n == c) (old c) (new c) (deeds p c h) (on_end (call.Set_callback (hooked_trees r)) (deeds p c h)) hooked_slot (a c) (k c)
    (λ b z. hooked_stands (old c) (deeds p c h) (hooked_trees r) (hook_told (old c) r (subst (λ (x : ℕ). IsHanded (old x) r) (eqb-true n c b) g)) z))

pub hooked_ok : (old new : ℕ → Slot Tree) (p q : Parity) (n : ℕ) (w : Waiting Value) (h : List Act) → q ≡ p → map view w.items.items ≡ hook_items (old n) → w.end ≡ hook_end (old n) → hook_fault (old n) ≡ None
    → ((c : ℕ) → new c ≡ (if n == c then hooked_slot (old c) else old c)) → AllStand old p h → AllStand new q (Set_callback n (hooked_trees (Ok w)) ∷ h)
hooked_ok old new p q n w h e i m f a k = hooked_keeps old new p q n (Ok w) h e (i, m, f) a k

pub hooked_err : (old new : ℕ → Slot Tree) (p q : Parity) (n : ℕ) (f : HookFault) (h : List Act) → q ≡ p → hook_fault (old n) ≡ Some f
    → ((c : ℕ) → new c ≡ (if n == c then hooked_slot (old c) else old c)) → AllStand old p h → AllStand new q (Set_callback n (hooked_trees (Err f)) ∷ h)
hooked_err old new p q n f h e g a k = hooked_keeps old new p q n (Err f) h e g a k

-- what a message names opens first
named_in_stands : (mine b : Bool) (s : Slot Tree) (d : List Deed) → SlotStands s d → SlotStands (named_in mine b s) (if b then named_deeds mine d else d)
named_in_stands mine true s d k = named_stands mine s d k
named_in_stands mine false s d k = k

if_stands : (b : Bool) (s t : Slot Tree) (d e : List Deed) → (b ≡ true → SlotStands t e) → SlotStands s d → SlotStands (if b then t else s) (if b then e else d)
if_stands true s t d e f k = f refl
if_stands false s t d e f k = k

arrived_back : (n : ℕ) (a : Arrived Tree) → arrived_of (arrived_answer n a) ≡ a
arrived_back n arrived.Kept = refl
arrived_back n (arrived.Handed v) = refl
arrived_back n arrived.Dropped = refl

data_stands : (p : Parity) (old : ℕ → Slot Tree) (n c : ℕ) (v : Tree) (s : Slot Tree) (d : List Deed) → (n == c ≡ true → s ≡ named_slot (is_mine p n) (old n)) → SlotStands s d
    → SlotStands (if n == c then item_slot s v else s) (if n == c then on_end (call.Arrive v (arrived_of (answer_of p old (message.Data n v)))) d else d)
data_stands p old n c v s d own k = if_stands (n == c) s (item_slot s v) d (on_end (call.Arrive v (arrived_of (answer_of p old (message.Data n v)))) d)
    (λ b. subst (λ (a : Arrived Tree). SlotStands (item_slot s v) (on_end (call.Arrive v a) d))
    (ap (λ (x : Slot Tree). item_gives x v) (own b) ∙ sym (arrived_back n (item_gives (named_slot (is_mine p n) (old n)) v))) (item_stands s d v k)) k

own_slot : (p : Parity) (old : ℕ → Slot Tree) (n c : ℕ) (v : Tree) → n == c ≡ true → named_in (is_mine p c) (is_in c (names_in n v)) (old c) ≡ named_slot (is_mine p n) (old n)
own_slot p old n c v b = subst (λ (x : ℕ). named_in (is_mine p x) (is_in x (names_in n v)) (old x) ≡ named_slot (is_mine p n) (old n)) (eqb-true n c b) (ap (λ t. named_in (is_mine p n) t (old n)) (own_named n v))

heard_stands : (p : Parity) (old : ℕ → Slot Tree) (said : Said) (c : ℕ) (d : List Deed) → SlotStands (old c) d → SlotStands (heard_slot p said c (old c)) (took_deeds (is_mine p c) c said (answer_of p old said) d)
heard_stands p old (message.Status n) c d k = k
heard_stands p old message.Terminate c d k = k
heard_stands p old (message.Exec n v) c d k = named_in_stands (is_mine p c) (is_in c (names_in n v)) (old c) d k
heard_stands p old (message.Data n v) c d k =
    data_stands p old n c v (named_in (is_mine p c) (is_in c (names_in n v)) (old c)) (if is_in c (names_in n v) then named_deeds (is_mine p c) d else d)
    (own_slot p old n c v) (named_in_stands (is_mine p c) (is_in c (names_in n v)) (old c) d k)
heard_stands p old (message.Close n e) c d k = if_stands (n == c) (old c) (peer_closed_slot (is_mine p c) (old c) (end_of e)) d (ended_deeds (is_mine p c) (call.Peer_close e) d) (λ b. peer_closed_stands (is_mine p c) (old c) d e k) k
heard_stands p old (message.Last n) c d k = if_stands (n == c) (old c) (peer_last_slot (is_mine p c) (old c)) d (ended_deeds (is_mine p c) call.Peer_last d) (λ b. peer_last_stands (is_mine p c) (old c) d k) k

pub took_keeps : (old new : ℕ → Slot Tree) (p q : Parity) (said : Said) (t : Taken Tree) (h : List Act) → q ≡ p → t ≡ answer_of p old said → ((c : ℕ) → new c ≡ heard_slot p said c (old c))
    → AllStand old p h → AllStand new q (Take_message said t ∷ h)
took_keeps old new p q said t h e g a k = same_parity new p q (Take_message said t ∷ h) e
    (λ c. subst (λ (x : Taken Tree). SlotStands (new c) (took_deeds (is_mine p c) c said x (deeds p c h))) (sym g)
    (subst (λ (s : Slot Tree). SlotStands s (took_deeds (is_mine p c) c said (answer_of p old said) (deeds p c h))) (sym (a c)) (heard_stands p old said c (deeds p c h) (k c))))

-- after a refusal, the numbers that opened
abbrev opened_there : (mine : Bool) (s t : Slot Tree) → OpensAtMost mine s t → Bool
opened_there mine s t (inl e) = false
opened_there mine s t (inr e) = true

failed_stands : (mine : Bool) (s t : Slot Tree) (d : List Deed) (o : OpensAtMost mine s t) → SlotStands s d → SlotStands t (if opened_there mine s t o then named_deeds mine d else d)
failed_stands mine s t d (inl e) k = subst (λ (x : Slot Tree). SlotStands x d) (sym e) k
failed_stands mine s t d (inr e) k = subst (λ (x : Slot Tree). SlotStands x (named_deeds mine d)) (sym e) (named_stands mine s d k)

pub failed_keeps : (old new : ℕ → Slot Tree) (p q : Parity) (h : List Act) → q ≡ p → ((c : ℕ) → OpensAtMost (is_mine p c) (old c) (new c)) → AllStand old p h
    → (which : ℕ → Bool) × AllStand new q (Refuse which ∷ h)
failed_keeps old new p q h e a k = (
  (λ c. opened_there (is_mine p c) (old c) (new c) (a c)),
  same_parity new p q (Refuse (λ c. opened_there (is_mine p c) (old c) (new c) (a c)) ∷ h) e (λ c. failed_stands (is_mine p c) (old c) (new c) (deeds p c h) (a c) (k c)),
)
