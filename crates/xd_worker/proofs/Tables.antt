-- The table of channels after a call of the side.
use Rattle.std.proofs.Common.{◌≡◌, ℕ, ◌<◌, arith, List, [], ◌∷◌, ◌++◌, Bool, true, false, Option, Some, None, refl, sym, ap, subst, ◌∙◌}
use Rattle.std.proofs.Math.Path.{fun_ext}
use Rattle.std.specs.Prelude.{◌==◌, if◌then◌else◌}
use Rattle.std.proofs.lemmas.Bool.{eqb-true}
use Rattle.std.proofs.lemmas.List.{append-nil}
use Rattle.xd_value.specs.Tree.{Tree}
use Rattle.xd_frame.specs.Message.{MessageView}
use Rattle.xd_channel.specs.State.{after_close, is_done}
use Rattle.xd_factory.specs.declared.faults.OpenFault.{OpenFault}
use Rattle.xd_factory.specs.declared.faults.OpenFault.TheVariants as openfault
use Rattle.xd_factory.specs.declared.faults.CloseFault.{CloseFault}
use Rattle.xd_factory.specs.declared.faults.CloseFault.TheVariants as close
use Rattle.xd_factory.specs.declared.side.Side.{Side}
use Rattle.xd_factory.specs.Slot.{Slot, Unseen, Here, Gone, is_seen, closed_slot, function_ended_slot}
use Rattle.xd_factory.specs.Table.{close_refusal, closing_message, IsCloseRefusal}
use Rattle.xd_factory.specs.View.{slot_of_number, next_of, is_finished, entry_count, KeepsRest}
use Rattle.xd_factory.specs.SideTable.{ChannelTable, Counts, channel_table, changed_at}
use Rattle.xd_factory.proofs.SideTables.{tables, same_table}
use Rattle.xd_worker.specs.Logs.{CanOpen}
use Rattle.xd_worker.specs.Talk.{Talk}

-- a change that keeps what stands at the number changes nothing
unchanged : (n c : ℕ) (slot : ℕ → Slot Tree) (f : Slot Tree → Slot Tree) → f (slot n) ≡ slot n → slot c ≡ (if n == c then f (slot c) else slot c)
unchanged n c slot f e = by_test (n == c) (λ q. sym (rw (eqb-true n c q) at e))
  where
    by_test : (b : Bool) → (b ≡ true → slot c ≡ f (slot c)) → slot c ≡ (if b then f (slot c) else slot c)
    by_test true k = k refl
    by_test false k = refl

pub kept_table : (old new : Side) (n : ℕ) (f : Slot Tree → Slot Tree) → f (slot_of_number old n) ≡ slot_of_number old n → ((c : ℕ) → slot_of_number new c ≡ slot_of_number old c) → KeepsRest old new
    → channel_table new ≡ changed_at n f (channel_table old)
kept_table old new n f e s k = same_table old new n f (λ c. s c ∙ unchanged n c (slot_of_number old) f e) k

-- a call that was refused since the number is unknown
pub unknown_ended : (s : Slot Tree) (long : Bool) → close_refusal (is_seen s) long ≡ Some close.Unknown → function_ended_slot s ≡ s
unknown_ended Unseen long h = refl
unknown_ended (Here s) true h = absurd (let z = h in cc)
unknown_ended (Here s) false h = absurd (let z = h in cc)
unknown_ended Gone long h = refl

pub unknown_closed : (s : Slot Tree) (long : Bool) → close_refusal (is_seen s) long ≡ Some close.Unknown → closed_slot s ≡ s
unknown_closed Unseen long h = refl
unknown_closed (Here s) true h = absurd (let z = h in cc)
unknown_closed (Here s) false h = absurd (let z = h in cc)
unknown_closed Gone long h = refl

-- which refusal it is
pub refusal_is : (wanted : Option CloseFault) (f g : CloseFault) → f ≡ g → IsCloseRefusal wanted f → IsCloseRefusal wanted g
refusal_is wanted f g e h = subst (λ (x : CloseFault). IsCloseRefusal wanted x) e h

-- a channel that was closed and then dropped
dropped : (s : Slot Tree) → function_ended_slot (closed_slot s) ≡ function_ended_slot s
dropped Unseen = refl
dropped (Here s) = by_done (is_done (after_close s))
  where
    by_done : (b : Bool) → function_ended_slot (if b then Gone else Here (after_close s)) ≡ Gone
    by_done true = refl
    by_done false = refl
dropped Gone = refl

dropped_at : (b : Bool) (s : Slot Tree) → (if b then function_ended_slot (if b then closed_slot s else s) else (if b then closed_slot s else s)) ≡ (if b then function_ended_slot s else s)
dropped_at true s = dropped s
dropped_at false s = refl

pub closed_dropped : (n : ℕ) (t : ChannelTable) → changed_at n function_ended_slot (changed_at n closed_slot t) ≡ changed_at n function_ended_slot t
closed_dropped n t =
    tables (λ c. if n == c then function_ended_slot (if n == c then closed_slot (t.slot c) else t.slot c) else (if n == c then closed_slot (t.slot c) else t.slot c)) (λ c. if n == c then function_ended_slot (t.slot c) else t.slot c)
    t.parity t.parity t.next t.next t.fault t.fault t.finished t.finished (fun_ext (λ c. dropped_at (n == c) (t.slot c))) refl refl refl refl

pub talks : (a b : ChannelTable) (x y : List MessageView) → a ≡ b → x ≡ y → ◌≡◌ {A = Talk} (record { table = a; says = x }) (record { table = b; says = y })
talks a b x y e f = rw (e, f) refl

-- what the end of a function says, by what the side answered
pub ended_ok : (n : ℕ) (text other : Option (List ℕ)) (seen long : Bool) (says : List MessageView) (m : MessageView) → m ≡ closing_message n text → close_refusal seen long ≡ None
    → says ++ m ∷ [] ≡ says ++ (if seen then closing_message n (if long then other else text) ∷ [] else [])
ended_ok n text other true true says m h k = absurd (let z = k in cc)
ended_ok n text other true false says m h k = ap (λ x. says ++ x ∷ []) h
ended_ok n text other false long says m h k = absurd (let z = k in cc)

pub ended_unknown : (n : ℕ) (text other : Option (List ℕ)) (seen long : Bool) (says : List MessageView) → close_refusal seen long ≡ Some close.Unknown
    → says ≡ says ++ (if seen then closing_message n (if long then other else text) ∷ [] else [])
ended_unknown n text other true true says k = absurd (let z = k in cc)
ended_unknown n text other true false says k = absurd (let z = k in cc)
ended_unknown n text other false long says k = sym (append-nil says)

pub ended_long : (n : ℕ) (text other : Option (List ℕ)) (seen long : Bool) (old new : ChannelTable) (says says' : List MessageView) → new ≡ old → seen ≡ is_seen (old.slot n) → close_refusal seen long ≡ Some close.TooLong
    → says' ≡ says ++ (if is_seen (new.slot n) then closing_message n other ∷ [] else [])
    → says' ≡ says ++ (if is_seen (old.slot n) then closing_message n (if long then other else text) ∷ [] else [])
ended_long n text other true true old new says says' e f k h = h ∙ ap (λ (x : ChannelTable). says ++ (if is_seen (x.slot n) then closing_message n other ∷ [] else [])) e
ended_long n text other true false old new says says' e f k h = absurd (let z = k in cc)
ended_long n text other false long old new says says' e f k h = absurd (let z = k in cc)

-- why a log does not open, where it can
pub only_memory : (s : Side) (number : ℕ) (f : OpenFault) → CanOpen number (channel_table s) → Counts (slot_of_number s) (entry_count s) → (f ≡ openfault.Finished → is_finished s ≡ true) → (is_finished s ≡ false → f ≡ openfault.TooManyOpen → entry_count s ≡ 4096)
    → (is_finished s ≡ false → (entry_count s ≡ 4096 → ⊥) → f ≡ openfault.NumbersSpent → 2147483647 < next_of s) → f ≡ openfault.OutOfMemory
only_memory s number openfault.Finished can k a b d = let z : true ≡ false = sym (a refl) ∙ can.linked in cc
only_memory s number openfault.TooManyOpen can k a b d = let lt = can.room (entry_count s) k in let e = b can.linked refl in absurd (omega (arith, lt, e))
only_memory s number openfault.NumbersSpent can k a b d =
    let lt = can.room (entry_count s) k in
    let le = can.numbered in
    let gt = d can.linked (λ e. omega (arith, lt, e)) refl in
    absurd (omega (arith, le, gt))
only_memory s number openfault.OutOfMemory can k a b d = refl
