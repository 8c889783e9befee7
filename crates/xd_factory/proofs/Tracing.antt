-- What stands at a number is what its history leaves, call by call.
use Rattle.std.proofs.Common.{◌≡◌, ℕ, List, [], ◌∷◌, Bool, true, false, Option, Result, refl, sym, ap, subst, ◌∙◌}
use Rattle.std.specs.Prelude.{◌&&◌, not, if◌then◌else◌}
use Rattle.xd_value.specs.Tree.{Tree}
use Rattle.xd_channel.specs.State.{EndState, fresh_end, is_done, end_of, arrive_gives, after_arrive, after_put, after_peer_close, after_close, after_give_up, after_hook, hook_gives, receive_gives, after_receive}
use Rattle.xd_channel.specs.History.{EndCall, Arrive, Peer_close, Peer_last, Lose, Close as Close_end, Give_up, Set_callback, Receive, send_open, end_given, Stands}
use Rattle.xd_channel.specs.declared.end.End.{End}
use Rattle.xd_channel.specs.declared.end.End.TheVariants.{LastMessage, Lost}
use Rattle.xd_channel.specs.declared.answers.Got.{Got}
use Rattle.xd_channel.specs.declared.answers.Arrived.TheVariants as arrived
use Rattle.xd_channel.specs.declared.answers.HasCallback.{HasCallback}
use Rattle.xd_channel.proofs.Ends.{stands-fresh, stands-arrive, stands-peer_close, stands-peer_last, stands-lost, stands-close, stands-give_up, stands-hook, stands-receive}
use Rattle.xd_factory.specs.Slot.{Slot, Unseen, Here, Gone, gone_where_done, named_slot, item_slot, item_gives, peer_closed_slot, peer_last_slot, lost_slot, closed_slot, given_up_slot, function_ended_slot, received_slot, hooked_slot}
use Rattle.xd_factory.specs.History.{Deed, Opens, On, Shuts, calls, was_shut, has_left_table, is_open, named_deeds, on_end, ended_deeds, function_deeds, HereStands, GoneStands, SlotStands}

-- a call on an end that is in the table
on_open : (k : EndCall Tree) (d : List Deed) → is_open d ≡ true → on_end k d ≡ On k ∷ d
on_open k d h = rw h refl

on_closed : (k : EndCall Tree) (d : List Deed) → is_open d ≡ false → on_end k d ≡ d
on_closed k d h = rw h refl

not_shut : (d : List Deed) → is_open d ≡ true → was_shut d ≡ false
not_shut [] h = refl
not_shut (x ∷ d) h = by_test (was_shut (x ∷ d)) (has_left_table (x ∷ d)) h
  where
    by_test : (a b : Bool) → not a && not b ≡ true → a ≡ false
    by_test true b h = absurd (let z = h in cc)
    by_test false b h = refl

not_left : (d : List Deed) → is_open d ≡ true → has_left_table d ≡ false
not_left [] h = absurd (let z = h in cc)
not_left (x ∷ d) h = by_test (was_shut (x ∷ d)) (has_left_table (x ∷ d)) h
  where
    by_test : (a b : Bool) → not a && not b ≡ true → b ≡ false
    by_test true b h = absurd (let z = h in cc)
    by_test false true h = absurd (let z = h in cc)
    by_test false false h = refl

-- the number left with this call exactly where its end is done
open_after : (k : EndCall Tree) (d : List Deed) (b : Bool) → was_shut d ≡ false → has_left_table (On k ∷ d) ≡ b → is_open (On k ∷ d) ≡ not b
open_after k d b h e = rw (h, e) refl

done_is : (t : EndState Tree) (h : List (EndCall Tree)) → Stands t h → is_done t ≡ (not (send_open h) && end_given h)
done_is t h k = rw (k.sending_is, k.given_is) refl

settles : (t : EndState Tree) (k : EndCall Tree) (d : List Deed) (b : Bool) → is_open d ≡ true → Stands t (k ∷ calls d) → has_left_table (On k ∷ d) ≡ b → SlotStands (if b then Gone else Here t) (On k ∷ d)
settles t k d true o s e = record { closed = open_after k d true (not_shut d o) e; touched = refl }
settles t k d false o s e = record { open_still = open_after k d false (not_shut d o) e; end_stands = s }

-- a call on the end of an entry
called : (t : EndState Tree) (k : EndCall Tree) (d : List Deed) → is_open d ≡ true → Stands t (k ∷ calls d) → SlotStands (gone_where_done t) (on_end k d)
called t k d o s =
    subst (λ (x : List Deed). SlotStands (gone_where_done t) x) (sym (on_open k d o))
    (settles t k d (is_done t) o s (sym (done_is t (k ∷ calls d) s)))

-- and one on a number that is not in the table
uncalled : (k : EndCall Tree) (d : List Deed) → d ≡ [] → on_end k d ≡ []
uncalled k d h = ap (on_end k) h

gone_called : (k : EndCall Tree) (d : List Deed) → GoneStands d → GoneStands (on_end k d)
gone_called k d g = subst GoneStands (sym (on_closed k d g.closed)) g

pub closed_stands : (s : Slot Tree) (d : List Deed) → SlotStands s d → SlotStands (closed_slot s) (on_end Close_end d)
closed_stands Unseen d k = uncalled Close_end d k
closed_stands (Here s) d k = called (after_close s) Close_end d k.open_still (stands-close s (calls d) k.end_stands)
closed_stands Gone d k = gone_called Close_end d k

pub given_up_stands : (s : Slot Tree) (d : List Deed) → SlotStands s d → SlotStands (given_up_slot s) (on_end Give_up d)
given_up_stands Unseen d k = uncalled Give_up d k
given_up_stands (Here s) d k = called (after_give_up s) Give_up d k.open_still (stands-give_up s (calls d) k.end_stands)
given_up_stands Gone d k = gone_called Give_up d k

pub lost_stands : (s : Slot Tree) (d : List Deed) → SlotStands s d → SlotStands (lost_slot s) (on_end Lose d)
lost_stands Unseen d k = uncalled Lose d k
lost_stands (Here s) d k = called (after_put s Lost) Lose d k.open_still (stands-lost s (calls d) k.end_stands)
lost_stands Gone d k = gone_called Lose d k

pub function_stands : (s : Slot Tree) (d : List Deed) → SlotStands s d → SlotStands (function_ended_slot s) (function_deeds d)
function_stands Unseen d k = ap function_deeds k
function_stands (Here s) d k = subst GoneStands (sym (shuts d k.open_still)) (record { closed = refl; touched = refl })
  where
    shuts : (d : List Deed) → is_open d ≡ true → function_deeds d ≡ Shuts ∷ d
    shuts d h = rw h refl
function_stands Gone d k = subst GoneStands (sym (stays d k.closed)) k
  where
    stays : (d : List Deed) → is_open d ≡ false → function_deeds d ≡ d
    stays d h = rw h refl

-- a receive, with the answer that the slot gives
abbrev pub told_got : Slot Tree → Result (Got Tree) HasCallback → Type 0
told_got Unseen r = Unit {0}
told_got (Here s) r = r ≡ receive_gives s
told_got Gone r = Unit {0}

pub received_stands : (s : Slot Tree) (d : List Deed) (r : Result (Got Tree) HasCallback) → told_got s r → SlotStands s d → SlotStands (received_slot s) (on_end (Receive r) d)
received_stands Unseen d r e k = uncalled (Receive r) d k
received_stands (Here s) d r e k = subst (λ (x : Result (Got Tree) HasCallback). SlotStands (gone_where_done (after_receive s)) (on_end (Receive x) d)) (sym e)
    (called (after_receive s) (Receive (receive_gives s)) d k.open_still (stands-receive s (calls d) k.end_stands))
received_stands Gone d r e k = gone_called (Receive r) d k

-- a callback, with what the slot hands over
abbrev pub told_hook : Slot Tree → Result (List Tree × Option End) HasCallback → Type 0
told_hook Unseen r = Unit {0}
told_hook (Here s) r = r ≡ hook_gives s
told_hook Gone r = Unit {0}

pub hooked_stands : (s : Slot Tree) (d : List Deed) (r : Result (List Tree × Option End) HasCallback) → told_hook s r → SlotStands s d → SlotStands (hooked_slot s) (on_end (Set_callback r) d)
hooked_stands Unseen d r e k = uncalled (Set_callback r) d k
hooked_stands Gone d r e k = gone_called (Set_callback r) d k
hooked_stands (Here s) d r e k = subst (λ (x : Result (List Tree × Option End) HasCallback). SlotStands (hooked_slot (Here s)) (on_end (Set_callback x) d)) (sym e)
    (by_callback s.callback refl)
  where
    all : SlotStands (gone_where_done (after_hook s)) (on_end (Set_callback (hook_gives s)) d)
    all = called (after_hook s) (Set_callback (hook_gives s)) d k.open_still (stands-hook s (calls d) k.end_stands)

    open_done : is_done s ≡ false
    open_done = done_is s (calls d) k.end_stands ∙ not_left d k.open_still

    same : s.callback ≡ true → after_hook s ≡ s
    same h = rw h refl

    kept : (b : Bool) → b ≡ false → SlotStands (if b then Gone else Here s) (on_end (Set_callback (hook_gives s)) d) → SlotStands (Here s) (on_end (Set_callback (hook_gives s)) d)
    kept false h k = k
    kept true h k = absurd (let z = h in cc)

    by_callback : (b : Bool) → s.callback ≡ b → SlotStands (if b then Here s else gone_where_done (after_hook s)) (on_end (Set_callback (hook_gives s)) d)
    by_callback false h = all
    by_callback true h = kept (is_done s) open_done (subst (λ (t : EndState Tree). SlotStands (gone_where_done t) (on_end (Set_callback (hook_gives s)) d)) (same h) all)

-- a number opens
pub opened_stands : (d : List Deed) → d ≡ [] → SlotStands (Here fresh_end) (Opens ∷ d)
opened_stands d h = subst (λ (x : List Deed). SlotStands (Here fresh_end) (Opens ∷ x)) (sym h) (record { open_still = refl; end_stands = stands-fresh })

pub named_stands : (mine : Bool) (s : Slot Tree) (d : List Deed) → SlotStands s d → SlotStands (named_slot mine s) (named_deeds mine d)
named_stands true Unseen d k = ap (named_deeds true) k
named_stands false Unseen d k = subst (λ (x : List Deed). SlotStands (Here fresh_end) (named_deeds false x)) (sym k) (record { open_still = refl; end_stands = stands-fresh })
named_stands mine (Here s) [] k = absurd (let z = k.open_still in cc)
named_stands mine (Here s) (x ∷ d) k = k
named_stands mine Gone [] k = absurd (let z = k.touched in cc)
named_stands mine Gone (x ∷ d) k = k

-- an item comes
pub item_stands : (s : Slot Tree) (d : List Deed) (v : Tree) → SlotStands s d → SlotStands (item_slot s v) (on_end (Arrive v (item_gives s v)) d)
item_stands Unseen d v k = uncalled (Arrive v arrived.Dropped) d k
item_stands Gone d v k = gone_called (Arrive v arrived.Dropped) d k
item_stands (Here s) d v k =
    let o = open_after (Arrive v (arrive_gives s v)) d false (not_shut d k.open_still) (not_left d k.open_still) in
    subst (λ (x : List Deed). HereStands (after_arrive s v) x) (sym (on_open (Arrive v (arrive_gives s v)) d k.open_still))
    (record { open_still = o; end_stands = stands-arrive s (calls d) v k.end_stands })

-- the peer ends the channel
pub peer_closed_stands : (mine : Bool) (s : Slot Tree) (d : List Deed) (e : Option (List ℕ)) → SlotStands s d → SlotStands (peer_closed_slot mine s (end_of e)) (ended_deeds mine (Peer_close e) d)
peer_closed_stands true Unseen d e k = ap (ended_deeds true (Peer_close e)) k
peer_closed_stands false Unseen d e k = subst (λ (x : List Deed). GoneStands (ended_deeds false (Peer_close e) x)) (sym k) (record { closed = refl; touched = refl })
peer_closed_stands mine (Here s) [] e k = absurd (let z = k.open_still in cc)
peer_closed_stands mine (Here s) (x ∷ d) e k = called (after_peer_close s (end_of e)) (Peer_close e) (x ∷ d) k.open_still (stands-peer_close s (calls (x ∷ d)) e k.end_stands)
peer_closed_stands mine Gone [] e k = absurd (let z = k.touched in cc)
peer_closed_stands mine Gone (x ∷ d) e k = gone_called (Peer_close e) (x ∷ d) k

pub peer_last_stands : (mine : Bool) (s : Slot Tree) (d : List Deed) → SlotStands s d → SlotStands (peer_last_slot mine s) (ended_deeds mine Peer_last d)
peer_last_stands true Unseen d k = ap (ended_deeds true Peer_last) k
peer_last_stands false Unseen d k = subst (λ (x : List Deed). GoneStands (ended_deeds false Peer_last x)) (sym k) (record { closed = refl; touched = refl })
peer_last_stands mine (Here s) [] k = absurd (let z = k.open_still in cc)
peer_last_stands mine (Here s) (x ∷ d) k = called (after_put s LastMessage) Peer_last (x ∷ d) k.open_still (stands-peer_last s (calls (x ∷ d)) k.end_stands)
peer_last_stands mine Gone [] k = absurd (let z = k.touched in cc)
peer_last_stands mine Gone (x ∷ d) k = gone_called Peer_last (x ∷ d) k
