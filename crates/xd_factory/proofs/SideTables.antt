-- Tables of a side: two are equal field by field, and a refusal has its reason.
use Rattle.std.proofs.Common.{◌≡◌, ℕ, Bool, Option, Some, None, refl}
use Rattle.std.proofs.Math.Path.{fun_ext}
use Rattle.std.specs.Prelude.{◌==◌, if◌then◌else◌}
use Rattle.xd_value.specs.Tree.{Tree}
use Rattle.xd_frame.specs.Message.{MessageView}
use Rattle.xd_factory.specs.declared.parity.Parity.{Parity}
use Rattle.xd_factory.specs.declared.faults.SideFault.{SideFault}
use Rattle.xd_factory.specs.declared.side.Side.{Side}
use Rattle.xd_factory.specs.Said.{Said}
use Rattle.xd_factory.specs.Numbers.{is_mine}
use Rattle.xd_factory.specs.Slot.{Slot, is_new}
use Rattle.xd_factory.specs.Table.{Refused, heard_slot}
use Rattle.xd_factory.specs.SideTable.{ChannelTable, Counts, RefusedBy, MustRefuse, channel_table, changed_at, heard_of_message}
use Rattle.xd_factory.specs.View.{slot_of_number, parity_of, next_of, fault_of, is_finished, KeepsRest}

pub tables : (s s' : ℕ → Slot Tree) (p p' : Parity) (n n' : ℕ) (f f' : Option SideFault) (l l' : Bool) → s ≡ s' → p ≡ p' → n ≡ n' → f ≡ f' → l ≡ l'
    → ◌≡◌ {A = ChannelTable} (record { slot = s; parity = p; next = n; fault = f; finished = l }) (record { slot = s'; parity = p'; next = n'; fault = f'; finished = l' })
tables s s' p p' n n' f f' l l' a b c d e = rw (a, b, c, d, e) refl

pub same_table : (old new : Side) (n : ℕ) (f : Slot Tree → Slot Tree) → ((c : ℕ) → slot_of_number new c ≡ (if n == c then f (slot_of_number old c) else slot_of_number old c)) → KeepsRest old new
    → channel_table new ≡ changed_at n f (channel_table old)
same_table old new n f e k =
    tables (slot_of_number new) (λ c. if n == c then f (slot_of_number old c) else slot_of_number old c) (parity_of new) (parity_of old) (next_of new) (next_of old) (fault_of new) (fault_of old) (is_finished new) (is_finished old)
    (fun_ext e) k.parity k.next k.fault k.finished

pub kept_all : (old new : Side) → ((c : ℕ) → slot_of_number new c ≡ slot_of_number old c) → KeepsRest old new → channel_table new ≡ channel_table old
kept_all old new s k =
    tables (slot_of_number new) (slot_of_number old) (parity_of new) (parity_of old) (next_of new) (next_of old) (fault_of new) (fault_of old) (is_finished new) (is_finished old)
    (fun_ext s) k.parity k.next k.fault k.finished

pub heard_table : (old new : Side) (said : Said) → ((c : ℕ) → slot_of_number new c ≡ heard_slot (parity_of old) said c (slot_of_number old c)) → KeepsRest old new → channel_table new ≡ heard_of_message said (channel_table old)
heard_table old new said s k =
    tables (slot_of_number new) (λ c. heard_slot (parity_of old) said c (slot_of_number old c)) (parity_of new) (parity_of old) (next_of new) (next_of old) (fault_of new) (fault_of old) (is_finished new) (is_finished old)
    (fun_ext s) k.parity k.next k.fault k.finished

-- ---- refusals

abbrev pub new_in : ChannelTable → ℕ → Bool
new_in t c = is_new (is_mine t.parity c) (t.slot c)

pub reason : (o : Option SideFault) (t : ChannelTable) (m : MessageView) (f : SideFault) (n : ℕ) → ((b : SideFault) → o ≡ Some b → f ≡ b) → (o ≡ None → Refused n (new_in t) m f) → Counts t.slot n → RefusedBy o t m f
reason None t m f n g h k = (n, k, h refl)
reason (Some b) t m f n g h k = g b refl

-- a side that must refuse a message does not take it
pub not_taken : (o : Option SideFault) (t : ChannelTable) (m : MessageView) (f : SideFault) (n : ℕ) → o ≡ None → MustRefuse o t m f → Counts t.slot n → (Refused n (new_in t) m f → ⊥) → ⊥
not_taken None t m f n e h k g = g (h n k)
not_taken (Some b) t m f n e h k g = absurd (let z = e in cc)
