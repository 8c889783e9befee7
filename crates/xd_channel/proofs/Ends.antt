-- Each call keeps the state that its history leaves.
use Rattle.std.proofs.Common.{◌≡◌, ℕ, List, [], ◌∷◌, ◌++◌, Bool, true, false, Option, Some, None, Result, Ok, Err, refl, sym, ap, subst, arith, append_assoc}
use Rattle.std.specs.Prelude.{is_some, ◌||◌, if◌then◌else◌}
use Rattle.std.proofs.lemmas.List.{append-nil}
use Rattle.std.proofs.lemmas.Grind.{common_steps}
use Rattle.xd_channel.specs.declared.end.End.{End}
use Rattle.xd_channel.specs.declared.end.End.TheVariants.{Closed, LastMessage, Error, Lost}
use Rattle.xd_channel.specs.declared.answers.HasCallback.{HasCallback}
use Rattle.xd_channel.specs.State.{EndState, fresh_end, arrive_gives, after_arrive, after_put, marker_or, once_given, end_of, after_peer_close, after_close, after_give_up, after_hook, hook_gives, receive_gives, after_receive, given_marker}
use Rattle.xd_channel.specs.History.{EndCall, Arrive, Peer_close, Peer_last, Lose, Close, Give_up, Set_callback, Receive, waited, hands_end, Stands, StandsByParts, marker_left, handed, received, gives_end, delivered, arrived, marker, send_open, hooked, end_given}

pub stands-fresh : {V : Type 0} → Stands {V = V} fresh_end []
stands-fresh = record { items_are = refl; marker_is = refl; sending_is = refl; callback_is = refl; given_is = refl; none_waits = λ e. cc; none_kept = λ e. cc; told_last = λ e. refl; told_late = λ e. cc; one_open = λ e f. cc }

-- the state, from what a history left
abbrev state : {V : Type 0} → List V → Option End → Bool → Bool → Bool → EndState V
state w m o c g = record { waiting = w; marker = marker_left g m; sending = o; callback = c; given = g }

is_state : {V : Type 0} (s : EndState V) (d i : List V) (m : Option End) (o c g : Bool) → StandsByParts s d i m o c g → state s.waiting m o c g ≡ s
is_state s d i m o c g k = rw (← k.marker_is, ← k.sending_is, ← k.callback_is, ← k.given_is) refl

-- what holds of a state holds of the same state by its parts
by_parts : {V : Type 0} (P : EndState V → Type 0) (s : EndState V) (d i : List V) (m : Option End) (o c g : Bool) → StandsByParts s d i m o c g → (StandsByParts (state s.waiting m o c g) d i m o c g → P (state s.waiting m o c g)) → P s
by_parts P s d i m o c g k f = let e = is_state s d i m o c g k in subst P e (f (subst (λ t. StandsByParts t d i m o c g) (sym e) k))

arrives : {V : Type 0} (w d i : List V) (m : Option End) (o c g : Bool) (v : V) → StandsByParts (state w m o c g) d i m o c g
    → StandsByParts (after_arrive (state w m o c g) v) (d ++ handed (arrive_gives (state w m o c g) v)) (if is_some m then i else i ++ v ∷ []) m o c g
arrives w d i (Some m) o c true v k = record { items_are = rw append-nil k.items_are; marker_is = k.marker_is; sending_is = refl; callback_is = refl; given_is = refl; none_waits = k.none_waits; none_kept = k.none_kept; told_last = k.told_last; told_late = k.told_late; one_open = k.one_open }
arrives w d i (Some m) o c false v k = record { items_are = rw append-nil k.items_are; marker_is = k.marker_is; sending_is = refl; callback_is = refl; given_is = refl; none_waits = k.none_waits; none_kept = k.none_kept; told_last = k.told_last; told_late = k.told_late; one_open = k.one_open }
arrives w d i None o true g v k = record { items_are = grind (arith, common_steps, k.items_are, k.none_waits refl, append-nil); marker_is = k.marker_is; sending_is = refl; callback_is = refl; given_is = refl; none_waits = k.none_waits; none_kept = k.none_kept; told_last = k.told_last; told_late = k.told_late; one_open = k.one_open }
arrives w d i None o false g v k = record { items_are = grind (arith, common_steps, k.items_are, append_assoc, append-nil); marker_is = k.marker_is; sending_is = refl; callback_is = refl; given_is = refl; none_waits = λ e. cc; none_kept = k.none_kept; told_last = λ e. absurd (let z = k.told_late e in cc); told_late = k.told_late; one_open = k.one_open }

pub stands-arrive : {V : Type 0} (s : EndState V) (h : List (EndCall V)) (v : V) → Stands s h → Stands (after_arrive s v) (Arrive v (arrive_gives s v) ∷ h)
stands-arrive s h v k = by_parts (λ t. Stands (after_arrive t v) (Arrive v (arrive_gives t v) ∷ h)) s _ _ _ _ _ _ k (arrives s.waiting (delivered h) (arrived h) (marker h) (send_open h) (hooked h) (end_given h) v)

put : {V : Type 0} (w d i : List V) (m : Option End) (o c g : Bool) (end : End) → StandsByParts (state w m o c g) d i m o c g
    → StandsByParts (after_put (state w m o c g) end) d i (marker_or m end) o c (c || g)
put w d i (Some m) o false true end k = k
put w d i (Some m) o false false end k = k
put w d i (Some m) o true true end k = k
put w d i (Some m) o true false end k = absurd (let e = k.none_kept refl in cc)
put w d i None o true g end k = record { items_are = k.items_are; marker_is = refl; sending_is = refl; callback_is = refl; given_is = refl; none_waits = k.none_waits; none_kept = λ e. refl; told_last = λ e. k.none_waits refl; told_late = λ e. refl; one_open = λ e f. refl }
put w d i None o false false end k = record { items_are = k.items_are; marker_is = refl; sending_is = refl; callback_is = refl; given_is = refl; none_waits = λ e. cc; none_kept = λ e. cc; told_last = λ e. cc; told_late = λ e. refl; one_open = λ e f. refl }
put w d i None o false true end k = absurd (let e = k.told_late refl in cc)

no_sending : {V : Type 0} (w d i : List V) (m : Option End) (o c g : Bool) → StandsByParts (state w m o c g) d i m o c g → (c ≡ false → is_some m ≡ true) → StandsByParts (state w m false c g) d i m false c g
no_sending w d i m o c g k h = record { items_are = k.items_are; marker_is = k.marker_is; sending_is = refl; callback_is = refl; given_is = refl; none_waits = k.none_waits; none_kept = k.none_kept; told_last = k.told_last; told_late = k.told_late; one_open = λ e f. h f }

closed : {V : Type 0} (w d i : List V) (m : Option End) (o c g : Bool) → StandsByParts (state w m o c g) d i m o c g
    → StandsByParts (after_close (state w m o c g)) d i (marker_or m Closed) false c (c || g)
closed w d i (Some m) o false true k = record { items_are = k.items_are; marker_is = k.marker_is; sending_is = refl; callback_is = refl; given_is = refl; none_waits = k.none_waits; none_kept = k.none_kept; told_last = k.told_last; told_late = k.told_late; one_open = λ e f. refl }
closed w d i (Some m) o false false k = record { items_are = k.items_are; marker_is = k.marker_is; sending_is = refl; callback_is = refl; given_is = refl; none_waits = k.none_waits; none_kept = k.none_kept; told_last = k.told_last; told_late = k.told_late; one_open = λ e f. refl }
closed w d i (Some m) o true true k = record { items_are = k.items_are; marker_is = k.marker_is; sending_is = refl; callback_is = refl; given_is = refl; none_waits = k.none_waits; none_kept = k.none_kept; told_last = λ e. k.none_waits refl; told_late = k.told_late; one_open = λ e f. refl }
closed w d i (Some m) o true false k = absurd (let e = k.none_kept refl in cc)
closed w d i None o true g k = record { items_are = k.items_are; marker_is = refl; sending_is = refl; callback_is = refl; given_is = refl; none_waits = k.none_waits; none_kept = λ e. refl; told_last = λ e. k.none_waits refl; told_late = λ e. refl; one_open = λ e f. refl }
closed w d i None o false false k = record { items_are = k.items_are; marker_is = refl; sending_is = refl; callback_is = refl; given_is = refl; none_waits = λ e. cc; none_kept = λ e. cc; told_last = λ e. cc; told_late = λ e. refl; one_open = λ e f. refl }
closed w d i None o false true k = absurd (let e = k.told_late refl in cc)

given_up : {V : Type 0} (w d i : List V) (m : Option End) (o c g : Bool) → StandsByParts (state w m o c g) d i m o c g
    → StandsByParts (after_give_up (state w m o c g)) d i (if c then m else marker_or m Closed) false c g
given_up w d i (Some m) true false true k = record { items_are = k.items_are; marker_is = k.marker_is; sending_is = refl; callback_is = refl; given_is = refl; none_waits = k.none_waits; none_kept = k.none_kept; told_last = k.told_last; told_late = k.told_late; one_open = λ e f. refl }
given_up w d i (Some m) true true true k = record { items_are = k.items_are; marker_is = k.marker_is; sending_is = refl; callback_is = refl; given_is = refl; none_waits = k.none_waits; none_kept = k.none_kept; told_last = k.told_last; told_late = k.told_late; one_open = λ e f. refl }
given_up w d i (Some m) true false false k = record { items_are = k.items_are; marker_is = k.marker_is; sending_is = refl; callback_is = refl; given_is = refl; none_waits = k.none_waits; none_kept = k.none_kept; told_last = k.told_last; told_late = k.told_late; one_open = λ e f. refl }
given_up w d i (Some m) true true false k = record { items_are = k.items_are; marker_is = k.marker_is; sending_is = refl; callback_is = refl; given_is = refl; none_waits = k.none_waits; none_kept = k.none_kept; told_last = k.told_last; told_late = k.told_late; one_open = λ e f. refl }
given_up w d i (Some m) false false true k = record { items_are = k.items_are; marker_is = k.marker_is; sending_is = refl; callback_is = refl; given_is = refl; none_waits = k.none_waits; none_kept = k.none_kept; told_last = k.told_last; told_late = k.told_late; one_open = λ e f. refl }
given_up w d i (Some m) false true true k = record { items_are = k.items_are; marker_is = k.marker_is; sending_is = refl; callback_is = refl; given_is = refl; none_waits = k.none_waits; none_kept = k.none_kept; told_last = k.told_last; told_late = k.told_late; one_open = λ e f. refl }
given_up w d i (Some m) false false false k = record { items_are = k.items_are; marker_is = k.marker_is; sending_is = refl; callback_is = refl; given_is = refl; none_waits = k.none_waits; none_kept = k.none_kept; told_last = k.told_last; told_late = k.told_late; one_open = λ e f. refl }
given_up w d i (Some m) false true false k = record { items_are = k.items_are; marker_is = k.marker_is; sending_is = refl; callback_is = refl; given_is = refl; none_waits = k.none_waits; none_kept = k.none_kept; told_last = k.told_last; told_late = k.told_late; one_open = λ e f. refl }
given_up w d i None true true g k = record { items_are = k.items_are; marker_is = k.marker_is; sending_is = refl; callback_is = refl; given_is = refl; none_waits = k.none_waits; none_kept = k.none_kept; told_last = k.told_last; told_late = k.told_late; one_open = λ e f. cc }
given_up w d i None false true g k = record { items_are = k.items_are; marker_is = k.marker_is; sending_is = refl; callback_is = refl; given_is = refl; none_waits = k.none_waits; none_kept = k.none_kept; told_last = k.told_last; told_late = k.told_late; one_open = λ e f. cc }
given_up w d i None true false false k = record { items_are = k.items_are; marker_is = refl; sending_is = refl; callback_is = refl; given_is = refl; none_waits = λ e. cc; none_kept = λ e. cc; told_last = k.told_last; told_late = λ e. refl; one_open = λ e f. refl }
given_up w d i None true false true k = absurd (let e = k.told_late refl in cc)
given_up w d i None false false g k = absurd (let e = k.one_open refl refl in cc)

-- a callback is set by such an answer, or was before
abbrev hook_or : {V : Type 0} → Result (List V × Option End) HasCallback → Bool → Bool
hook_or (Ok w) b = true
hook_or (Err e) b = b

once_more : (end : End) → once_given (once_given end) ≡ once_given end
once_more Closed = refl
once_more LastMessage = refl
once_more (Error text) = refl
once_more Lost = refl

told : (g : Bool) (m : End) → given_marker (marker_left g (Some m)) ≡ Some (once_given m)
told true m = ap Some (once_more m)
told false m = refl

got : {V : Type 0} (w d i : List V) (m : Option End) (o c g : Bool) → StandsByParts (state w m o c g) d i m o c g
    → StandsByParts (after_receive (state w m o c g)) (d ++ received (receive_gives (state w m o c g))) i m o c (gives_end (receive_gives (state w m o c g)) || g)
got w d i m o true g k = record { items_are = rw append-nil k.items_are; marker_is = k.marker_is; sending_is = refl; callback_is = refl; given_is = refl; none_waits = k.none_waits; none_kept = k.none_kept; told_last = k.told_last; told_late = k.told_late; one_open = k.one_open }
got (x ∷ xs) d i m o false g k = record { items_are = grind (arith, common_steps, k.items_are, append_assoc); marker_is = k.marker_is; sending_is = refl; callback_is = refl; given_is = refl; none_waits = λ e. cc; none_kept = k.none_kept; told_last = λ e. absurd (let z = k.told_last e in cc); told_late = k.told_late; one_open = k.one_open }
got [] d i (Some m) o false true k = record { items_are = rw append-nil k.items_are; marker_is = told true m; sending_is = refl; callback_is = refl; given_is = refl; none_waits = λ e. cc; none_kept = λ e. cc; told_last = λ e. refl; told_late = λ e. refl; one_open = k.one_open }
got [] d i (Some m) o false false k = record { items_are = rw append-nil k.items_are; marker_is = told false m; sending_is = refl; callback_is = refl; given_is = refl; none_waits = λ e. cc; none_kept = λ e. cc; told_last = λ e. refl; told_late = λ e. refl; one_open = k.one_open }
got [] d i None o false g k = record { items_are = rw append-nil k.items_are; marker_is = k.marker_is; sending_is = refl; callback_is = refl; given_is = refl; none_waits = k.none_waits; none_kept = k.none_kept; told_last = λ e. refl; told_late = k.told_late; one_open = k.one_open }

pub stands-receive : {V : Type 0} (s : EndState V) (h : List (EndCall V)) → Stands s h → Stands (after_receive s) (Receive (receive_gives s) ∷ h)
stands-receive s h k = by_parts (λ t. Stands (after_receive t) (Receive (receive_gives t) ∷ h)) s _ _ _ _ _ _ k (got s.waiting (delivered h) (arrived h) (marker h) (send_open h) (hooked h) (end_given h))

pub stands-close : {V : Type 0} (s : EndState V) (h : List (EndCall V)) → Stands s h → Stands (after_close s) (Close ∷ h)
stands-close s h k = by_parts (λ t. Stands (after_close t) (Close ∷ h)) s _ _ _ _ _ _ k (closed s.waiting (delivered h) (arrived h) (marker h) (send_open h) (hooked h) (end_given h))

pub stands-give_up : {V : Type 0} (s : EndState V) (h : List (EndCall V)) → Stands s h → Stands (after_give_up s) (Give_up ∷ h)
stands-give_up s h k = by_parts (λ t. Stands (after_give_up t) (Give_up ∷ h)) s _ _ _ _ _ _ k (given_up s.waiting (delivered h) (arrived h) (marker h) (send_open h) (hooked h) (end_given h))

pub stands-peer_last : {V : Type 0} (s : EndState V) (h : List (EndCall V)) → Stands s h → Stands (after_put s LastMessage) (Peer_last ∷ h)
stands-peer_last s h k = by_parts (λ t. Stands (after_put t LastMessage) (Peer_last ∷ h)) s _ _ _ _ _ _ k (put s.waiting (delivered h) (arrived h) (marker h) (send_open h) (hooked h) (end_given h) LastMessage)

pub stands-lost : {V : Type 0} (s : EndState V) (h : List (EndCall V)) → Stands s h → Stands (after_put s Lost) (Lose ∷ h)
stands-lost s h k = by_parts (λ t. Stands (after_put t Lost) (Lose ∷ h)) s _ _ _ _ _ _ k (put s.waiting (delivered h) (arrived h) (marker h) (send_open h) (hooked h) (end_given h) Lost)

peer_closed : {V : Type 0} (w d i : List V) (m : Option End) (o c g : Bool) (end : End) → StandsByParts (state w m o c g) d i m o c g
    → StandsByParts (after_peer_close (state w m o c g) end) d i (marker_or m end) false c (c || g)
peer_closed w d i (Some m) o true g end k = put w d i (Some m) false true g end (no_sending w d i (Some m) o true g k (λ e. refl))
peer_closed w d i (Some m) o false g end k = put w d i (Some m) false false g end (no_sending w d i (Some m) o false g k (λ e. refl))
peer_closed w d i None o true g end k = put w d i None false true g end (no_sending w d i None o true g k (λ e. cc))
peer_closed w d i None o false false end k = record { items_are = k.items_are; marker_is = refl; sending_is = refl; callback_is = refl; given_is = refl; none_waits = λ e. cc; none_kept = λ e. cc; told_last = λ e. cc; told_late = λ e. refl; one_open = λ e f. refl }
peer_closed w d i None o false true end k = absurd (let e = k.told_late refl in cc)

pub stands-peer_close : {V : Type 0} (s : EndState V) (h : List (EndCall V)) (error : Option (List ℕ)) → Stands s h → Stands (after_peer_close s (end_of error)) (Peer_close error ∷ h)
stands-peer_close s h error k = by_parts (λ t. Stands (after_peer_close t (end_of error)) (Peer_close error ∷ h)) s _ _ _ _ _ _ k (peer_closed s.waiting (delivered h) (arrived h) (marker h) (send_open h) (hooked h) (end_given h) (end_of error))

hooks : {V : Type 0} (w d i : List V) (m : Option End) (o c g : Bool) → StandsByParts (state w m o c g) d i m o c g
    → StandsByParts (after_hook (state w m o c g)) (d ++ waited (hook_gives (state w m o c g))) i m o (hook_or (hook_gives (state w m o c g)) c) (hands_end (hook_gives (state w m o c g)) || g)
hooks w d i m o true g k = record { items_are = rw append-nil k.items_are; marker_is = k.marker_is; sending_is = refl; callback_is = refl; given_is = refl; none_waits = k.none_waits; none_kept = k.none_kept; told_last = k.told_last; told_late = k.told_late; one_open = k.one_open }
hooks w d i (Some m) o false true k = record { items_are = rw append-nil k.items_are; marker_is = told true m; sending_is = refl; callback_is = refl; given_is = refl; none_waits = λ e. refl; none_kept = λ e. refl; told_last = λ e. refl; told_late = λ e. refl; one_open = λ e f. refl }
hooks w d i (Some m) o false false k = record { items_are = rw append-nil k.items_are; marker_is = told false m; sending_is = refl; callback_is = refl; given_is = refl; none_waits = λ e. refl; none_kept = λ e. refl; told_last = λ e. refl; told_late = λ e. refl; one_open = λ e f. refl }
hooks w d i None o false true k = absurd (let e = k.told_late refl in cc)
hooks w d i None o false false k = record { items_are = rw append-nil k.items_are; marker_is = k.marker_is; sending_is = refl; callback_is = refl; given_is = refl; none_waits = λ e. refl; none_kept = λ e. refl; told_last = λ e. refl; told_late = k.told_late; one_open = λ e f. cc }

hooked_is : {V : Type 0} (r : Result (List V × Option End) HasCallback) (h : List (EndCall V)) → hook_or r (hooked h) ≡ hooked (Set_callback r ∷ h)
hooked_is (Ok w) h = refl
hooked_is (Err e) h = refl

pub stands-hook : {V : Type 0} (s : EndState V) (h : List (EndCall V)) → Stands s h → Stands (after_hook s) (Set_callback (hook_gives s) ∷ h)
stands-hook s h k =
    subst (λ (b : Bool). StandsByParts (after_hook s) (delivered h ++ waited (hook_gives s)) (arrived h) (marker h) (send_open h) b (hands_end (hook_gives s) || end_given h)) (hooked_is (hook_gives s) h)
    (by_parts (λ t. StandsByParts (after_hook t) (delivered h ++ waited (hook_gives t)) (arrived h) (marker h) (send_open h) (hook_or (hook_gives t) (hooked h)) (hands_end (hook_gives t) || end_given h)) s _ _ _ _ _ _ k
    (hooks s.waiting (delivered h) (arrived h) (marker h) (send_open h) (hooked h) (end_given h)))
