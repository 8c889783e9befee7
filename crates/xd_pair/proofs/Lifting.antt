-- A move of one of two sides is a step of their history.
use Rattle.std.proofs.Common.{◌≡◌, ℕ, ◌+◌, List, [], ◌∷◌, ◌++◌, Bool, true, false, Option, refl, sym, ap, subst}
use Rattle.std.specs.Prelude.{◌||◌}
use Rattle.std.proofs.lemmas.List.{append-nil}
use Rattle.xd_value.specs.Tree.{Tree}
use Rattle.xd_channel.specs.declared.end.End.{End}
use Rattle.xd_frame.specs.Message.{MessageView}
use Rattle.xd_factory.specs.Said.{Said}
use Rattle.xd_factory.specs.declared.side.Side.{Side}
use Rattle.xd_pair.specs.Part.{opened_in}
use Rattle.xd_pair.specs.Pair.{Actor, World, Move, Open_channel, Send, Call, Ask, Answer, Terminate, Close, End_function, Give_up, Receive, Set_callback, Take_message, Refuse, Finish_receiving, part_changed, adds, can_send, can_answer, can_open, takes, says, after, wire_after, Step, Odd, Even, happens, run, start}
use Rattle.xd_pair.specs.Messages.{AllMean, AddsMessages}
use Rattle.xd_pair.specs.Handed.{Hands}
use Rattle.xd_pair.specs.Stands.{StandsForActor, IsOpen, IsMoveIf, HandsOut, Carries, IsTake, RefusesNext}
use Rattle.xd_pair.specs.TwoSides.{StandFor, PairStands}
use Rattle.xd_pair.specs.declared.linked.LinkedSide.{LinkedSide}
use Rattle.xd_pair.proofs.Says.{if_actor}
use Rattle.xd_pair.proofs.Sending.{all_mean-append}
use Rattle.xd_pair.proofs.Numbered.{numbered}

run-append : (es : List Step) (e : Step) (w : World) → run (es ++ e ∷ []) w ≡ happens (run es w) e
run-append [] e w = refl
run-append (x ∷ es) e w = run-append es e (happens w x)

-- a side that takes messages after a move took them before it
never : (b : Bool) → b || true ≡ false → ⊥
never true h = let z = h in cc
never false h = let z = h in cc

takes_open : (odd : Bool) (a : Actor) (wire : List Said) → IsOpen (takes odd a wire) → IsOpen a
takes_open odd a [] h = h
takes_open odd a (m ∷ ms) h = h

was_open : (odd : Bool) (a : Actor) (wire : List Said) (m : Move) → IsOpen (after odd a wire m) → IsOpen a
was_open odd a wire Open_channel = if_actor (λ t. IsOpen t → IsOpen a) (can_open odd a) (record (part_changed a.next (λ p. opened_in p p.slot) a) { next = a.next + 2 }) a (λ h. h) (λ h. h)
was_open odd a wire (Send n v) = if_actor (λ t. IsOpen t → IsOpen a) (can_send a n v) (adds n v a) a (λ h. h) (λ h. h)
was_open odd a wire (Call n v) = λ h. h
was_open odd a wire (Ask n) = λ h. h
was_open odd a wire (Answer n v) = if_actor (λ t. IsOpen t → IsOpen a) (can_answer a n v) (adds n v a) a (λ h. h) (λ h. h)
was_open odd a wire Terminate = λ h. h
was_open odd a wire (Close n e) = λ h. h
was_open odd a wire (End_function n e) = λ h. h
was_open odd a wire (Give_up n) = λ h. h
was_open odd a wire (Receive n) = λ h. h
was_open odd a wire (Set_callback n) = λ h. h
was_open odd a wire Take_message = if_actor (λ t. IsOpen t → IsOpen a) (a.failed || a.finished) a (takes odd a wire) (λ h. h) (takes_open odd a wire)
was_open odd a wire (Refuse names) = λ h. absurd (let z = h in cc)
was_open odd a wire Finish_receiving = λ h. absurd (never a.failed h)

-- what is on the way to the peer
more_carried : (a : Actor) (old new : LinkedSide) (wire words : List Said) → AddsMessages old.said.items new.said.items words → Carries a old wire → Carries a new (wire ++ words)
more_carried a old new wire words k h o = subst (λ (ms : List MessageView). AllMean ms (wire ++ words)) (sym k.following) (all_mean-append old.said.items k.more wire words (h o) k.mean)

still_carried : (odd : Bool) (a : Actor) (peer : LinkedSide) (wire : List Said) (m : Move) → wire_after a wire m ≡ wire → Carries a peer wire → Carries (after odd a wire m) peer (wire_after a wire m)
still_carried odd a peer wire m way h o = subst (λ (ws : List Said). AllMean peer.said.items ws) (sym way) (h (was_open odd a wire m o))

next_odd : (steps : List Step) (m : Move) → (run (steps ++ Odd m ∷ []) start).odd ≡ after true (run steps start).odd (run steps start).to_odd m
next_odd steps m = ap (λ (w : World). w.odd) (run-append steps (Odd m) start)

next_even : (steps : List Step) (m : Move) → (run (steps ++ Even m ∷ []) start).even ≡ after false (run steps start).even (run steps start).to_even m
next_even steps m = ap (λ (w : World). w.even) (run-append steps (Even m) start)

pub odd_moves : (odd new even : LinkedSide) (steps : List Step) (test : Actor → Bool) (m : Move) → IsMoveIf test odd new m → test (run steps start).odd ≡ true → PairStands odd even steps → PairStands new even (steps ++ Odd m ∷ [])
odd_moves odd new even steps test m moves passed h =
    let k = moves true (run steps start).odd (run steps start).to_odd (numbered steps).odd_numbered passed h.odd_stands in
    subst (StandFor new even) (sym (run-append steps (Odd m) start)) (record {
      odd_stands = k.stands;
      even_stands = h.even_stands;
      to_odd = still_carried true (run steps start).odd even (run steps start).to_odd m k.way h.to_odd;
      to_even = more_carried (run steps start).even odd new (run steps start).to_even (says true (run steps start).odd m) k.says h.to_even;
    })

pub even_moves : (odd even new : LinkedSide) (steps : List Step) (test : Actor → Bool) (m : Move) → IsMoveIf test even new m → test (run steps start).even ≡ true → PairStands odd even steps → PairStands odd new (steps ++ Even m ∷ [])
even_moves odd even new steps test m moves passed h =
    let k = moves false (run steps start).even (run steps start).to_even (numbered steps).even_numbered passed h.even_stands in
    subst (StandFor odd new) (sym (run-append steps (Even m) start)) (record {
      odd_stands = h.odd_stands;
      even_stands = k.stands;
      to_odd = more_carried (run steps start).odd even new (run steps start).to_odd (says false (run steps start).even m) k.says h.to_odd;
      to_even = still_carried false (run steps start).even odd (run steps start).to_even m k.way h.to_even;
    })

-- what the step hands out
pub odd_hands : (odd even : LinkedSide) (steps : List Step) (m : Move) (items : ℕ → List Tree) (end : ℕ → Option End) → HandsOut odd m items end → PairStands odd even steps → Hands (run steps start).odd (run (steps ++ Odd m ∷ []) start).odd items end
odd_hands odd even steps m items end k h = subst (λ (b : Actor). Hands (run steps start).odd b items end) (sym (next_odd steps m)) (k true (run steps start).odd (run steps start).to_odd h.odd_stands)

pub even_hands : (odd even : LinkedSide) (steps : List Step) (m : Move) (items : ℕ → List Tree) (end : ℕ → Option End) → HandsOut even m items end → PairStands odd even steps → Hands (run steps start).even (run (steps ++ Even m ∷ []) start).even items end
even_hands odd even steps m items end k h = subst (λ (b : Actor). Hands (run steps start).even b items end) (sym (next_even steps m)) (k false (run steps start).even (run steps start).to_even h.even_stands)

-- a message that is taken or refused
same_carried : (a : Actor) (old new : LinkedSide) (wire : List Said) → new.said.items ≡ old.said.items → Carries a old wire → Carries a new (wire ++ [])
same_carried a old new wire e h o = subst (λ (ws : List Said). AllMean new.said.items ws) (sym (append-nil wire)) (subst (λ (ms : List MessageView). AllMean ms wire) (sym e) (h o))

pub odd_takes : (odd new even rest : LinkedSide) (steps : List Step) (items : ℕ → List Tree) (end : ℕ → Option End) → IsTake odd new even rest items end → PairStands odd even steps
    → PairStands new rest (steps ++ Odd Take_message ∷ []) × Hands (run steps start).odd (run (steps ++ Odd Take_message ∷ []) start).odd items end
odd_takes odd new even rest steps items end t h =
    let k = t.takes true (run steps start).odd (run steps start).to_odd h.odd_stands h.to_odd in (
      subst (StandFor new rest) (sym (run-append steps (Odd Take_message) start)) (record {
        odd_stands = k.stands;
        even_stands = subst (λ (s : Side). StandsForActor false s (run steps start).even) (sym t.quiet.peer_side) h.even_stands;
        to_odd = k.carries;
        to_even = same_carried (run steps start).even odd new (run steps start).to_even t.quiet.said h.to_even;
      }),
      subst (λ (b : Actor). Hands (run steps start).odd b items end) (sym (next_odd steps Take_message)) k.hands,
    )

pub even_takes : (odd even new rest : LinkedSide) (steps : List Step) (items : ℕ → List Tree) (end : ℕ → Option End) → IsTake even new odd rest items end → PairStands odd even steps
    → PairStands rest new (steps ++ Even Take_message ∷ []) × Hands (run steps start).even (run (steps ++ Even Take_message ∷ []) start).even items end
even_takes odd even new rest steps items end t h =
    let k = t.takes false (run steps start).even (run steps start).to_even h.even_stands h.to_even in (
      subst (StandFor rest new) (sym (run-append steps (Even Take_message) start)) (record {
        odd_stands = subst (λ (s : Side). StandsForActor true s (run steps start).odd) (sym t.quiet.peer_side) h.odd_stands;
        even_stands = k.stands;
        to_odd = same_carried (run steps start).odd even new (run steps start).to_odd t.quiet.said h.to_odd;
        to_even = k.carries;
      }),
      subst (λ (b : Actor). Hands (run steps start).even b items end) (sym (next_even steps Take_message)) k.hands,
    )

pub odd_refuses : (odd new even rest : LinkedSide) (steps : List Step) → RefusesNext odd new even rest → PairStands odd even steps → (names : List ℕ) × PairStands new rest (steps ++ Odd (Refuse names) ∷ [])
odd_refuses odd new even rest steps t h =
    let k = t.refuses true (run steps start).odd (run steps start).to_odd h.odd_stands h.to_odd in (
      k.names,
      subst (StandFor new rest) (sym (run-append steps (Odd (Refuse k.names)) start)) (record {
        odd_stands = k.stands;
        even_stands = subst (λ (s : Side). StandsForActor false s (run steps start).even) (sym t.quiet.peer_side) h.even_stands;
        to_odd = λ o. absurd (let z = o in cc);
        to_even = same_carried (run steps start).even odd new (run steps start).to_even t.quiet.said h.to_even;
      }),
    )

pub even_refuses : (odd even new rest : LinkedSide) (steps : List Step) → RefusesNext even new odd rest → PairStands odd even steps → (names : List ℕ) × PairStands rest new (steps ++ Even (Refuse names) ∷ [])
even_refuses odd even new rest steps t h =
    let k = t.refuses false (run steps start).even (run steps start).to_even h.even_stands h.to_even in (
      k.names,
      subst (StandFor rest new) (sym (run-append steps (Even (Refuse k.names)) start)) (record {
        odd_stands = subst (λ (s : Side). StandsForActor true s (run steps start).odd) (sym t.quiet.peer_side) h.odd_stands;
        even_stands = k.stands;
        to_odd = same_carried (run steps start).odd even new (run steps start).to_odd t.quiet.said h.to_odd;
        to_even = λ o. absurd (let z = o in cc);
      }),
    )
