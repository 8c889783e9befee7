-- A file of messages has one text.
use Rattle.std.proofs.Common.{◌≡◌, ℕ, zero, suc, ◌+◌, ◌⊎◌, inl, inr, Bool, true, false, List, [], ◌∷◌, ◌++◌, length, refl, sym, ap, subst, ◌∙◌, arith, append_assoc}
use Rattle.std.specs.Prelude.{codes, encode_utf8_all}
use Rattle.xd_frame.specs.Message.{MessageView, header, frame, frames}
use Rattle.xd_frame.specs.Stream.{AreBytes, messages, left_over, rest, Rest, Clean, Unfinished, Refused}
use Rattle.xd_value.specs.declared.fault.LoadWhat.{LoadWhat}
use Rattle.xd_value.specs.Tree.{Tree}
use Rattle.xd_value.specs.Payload.{IsPayload, FirstFault}
use Rattle.xd_value_show.specs.Show.{shown}
use Rattle.xd_wire.specs.inner.Payloads.{ReadsOne}
use Rattle.xd_wire.specs.Names.{what_name, frame_fault_name}
use Rattle.xd_wire.specs.WireText.{has_value, plain_line, value_line, fault_line, LineBy, FaultBy, IsLine, IsPayloadFault, IsEnd, IsTextFrom, IsWireText}

bytes_left : (a b : List ℕ) → AreBytes (a ++ b) → AreBytes a
bytes_left [] b k i = omega arith
bytes_left (x ∷ a) b k zero = k zero
bytes_left (x ∷ a) b k (suc i) = bytes_left a b (λ j. k (suc j)) i

bytes_right : (a b : List ℕ) → AreBytes (a ++ b) → AreBytes b
bytes_right [] b k = k
bytes_right (x ∷ a) b k = bytes_right a b (λ j. k (suc j))

-- bytes are a payload of a value, or have a first fault
abbrev pub Read : List ℕ → Type 0
Read b = ((v : Tree) × IsPayload v b) ⊎ ((at : ℕ) × (f : LoadWhat) × FirstFault b at f)

line_or_fault : (b : Bool) (m : MessageView) → Read m.payload → ((line : List ℕ) × LineBy b m line) ⊎ ((place : ℕ) × (what : LoadWhat) × FaultBy b m place what)
line_or_fault false m k = inl (plain_line m.kind m.channel (length m.payload), refl)
line_or_fault true m (inl p) = inl (value_line m.kind m.channel (length m.payload) (encode_utf8_all (shown p.0)), (p.0, p.1, refl))
line_or_fault true m (inr p) = inr (p.0, p.1, p.2)

text_with : (at : ℕ) (m : MessageView) (ms : List MessageView) (end : Rest) → ((line : List ℕ) × IsLine m line) ⊎ ((place : ℕ) × (what : LoadWhat) × IsPayloadFault m place what)
    → ((text : List ℕ) × (faulty : Bool) × IsTextFrom (at + (9 + length m.payload)) ms end text faulty) → (text : List ℕ) × (faulty : Bool) × IsTextFrom at (m ∷ ms) end text faulty
text_with at m ms end (inl l) later = (l.0 ++ later.0, later.1, inl (l.0, later.0, l.1, refl, later.2))
text_with at m ms end (inr p) later = (fault_line (what_name p.1) (at + (9 + p.0)), true, inr (p.0, p.1, p.2, refl, refl))

some_from : ((b : List ℕ) → AreBytes b → Read b) → (at : ℕ) (ms : List MessageView) (end : Rest) (r : List ℕ) → AreBytes (frames ms ++ r) → (text : List ℕ) × (faulty : Bool) × IsTextFrom at ms end text faulty
some_from read at [] Clean r k = ([], false, (refl, refl))
some_from read at [] Unfinished r k = (fault_line (codes "Cut") at, true, (refl, refl))
some_from read at [] (Refused f) r k = (fault_line (frame_fault_name f) at, true, (refl, refl))
some_from read at (m ∷ ms) end r k =
    let front : AreBytes (frame m) = bytes_left (frame m) (frames ms) (bytes_left (frame m ++ frames ms) r k) in
    let later : AreBytes (frames ms ++ r) = bytes_right (frame m) (frames ms ++ r) (subst AreBytes (append_assoc (frame m) (frames ms) r) k) in
    text_with at m ms end (line_or_fault (has_value m.kind) m (read m.payload (bytes_right (header m) m.payload front))) (some_from read (at + (9 + length m.payload)) ms end r later)

pub some_text : ((b : List ℕ) → AreBytes b → Read b) → (bytes : List ℕ) → bytes ≡ frames (messages bytes) ++ left_over bytes → AreBytes bytes → (text : List ℕ) × (faulty : Bool) × IsWireText bytes text faulty
some_text read bytes e k = some_from read 0 (messages bytes) (rest bytes) (left_over bytes) (subst AreBytes e k)

pub one_line : (b : Bool) (m : MessageView) (x y : List ℕ) → ReadsOne → LineBy b m x → LineBy b m y → x ≡ y
one_line false m x y one p q = p ∙ sym q
one_line true m x y one p q = p.2 ∙ (ap (λ v. value_line m.kind m.channel (length m.payload) (encode_utf8_all (shown v))) (one.value p.0 q.0 m.payload p.1 q.1) ∙ sym q.2)

pub line_no_fault : (b : Bool) (m : MessageView) (x : List ℕ) (place : ℕ) (what : LoadWhat) → ReadsOne → LineBy b m x → FaultBy b m place what → ⊥
line_no_fault false m x place what one p q = q
line_no_fault true m x place what one p q = one.apart p.0 m.payload place what p.1 q

pub one_place : (b : Bool) (m : MessageView) (p q : ℕ) (f g : LoadWhat) → ReadsOne → FaultBy b m p f → FaultBy b m q g → (p ≡ q) × (f ≡ g)
one_place false m p q f g one x y = absurd x
one_place true m p q f g one x y = one.fault m.payload p q f g x y

one_end : (at : ℕ) (end : Rest) (a b : List ℕ) (e f : Bool) → IsEnd at end a e → IsEnd at end b f → (a ≡ b) × (e ≡ f)
one_end at Clean a b e f x y = (x.0 ∙ sym y.0, x.1 ∙ sym y.1)
one_end at Unfinished a b e f x y = (x.0 ∙ sym y.0, x.1 ∙ sym y.1)
one_end at (Refused g) a b e f x y = (x.0 ∙ sym y.0, x.1 ∙ sym y.1)

one_from : ReadsOne → (at : ℕ) (ms : List MessageView) (end : Rest) (a b : List ℕ) (e f : Bool) → IsTextFrom at ms end a e → IsTextFrom at ms end b f → (a ≡ b) × (e ≡ f)
one_from one at [] end a b e f x y = one_end at end a b e f x y
one_from one at (m ∷ ms) end a b e f (inl x) (inl y) =
    let l : x.0 ≡ y.0 = one_line (has_value m.kind) m x.0 y.0 one x.2 y.2 in
    let k = one_from one (at + (9 + length m.payload)) ms end x.1 y.1 e f x.4 y.4 in
    (x.3 ∙ (ap (λ t. t ++ x.1) l ∙ (ap (λ t. y.0 ++ t) k.0 ∙ sym y.3)), k.1)
one_from one at (m ∷ ms) end a b e f (inl x) (inr y) = absurd (line_no_fault (has_value m.kind) m x.0 y.0 y.1 one x.2 y.2)
one_from one at (m ∷ ms) end a b e f (inr x) (inl y) = absurd (line_no_fault (has_value m.kind) m y.0 x.0 x.1 one y.2 x.2)
one_from one at (m ∷ ms) end a b e f (inr x) (inr y) =
    let k = one_place (has_value m.kind) m x.0 y.0 x.1 y.1 one x.2 y.2 in
    (x.3 ∙ (ap (λ p. fault_line (what_name x.1) (at + (9 + p))) k.0 ∙ (ap (λ w. fault_line (what_name w) (at + (9 + y.0))) k.1 ∙ sym y.3)), x.4 ∙ sym y.4)

pub one_text : ReadsOne → (bytes a b : List ℕ) (e f : Bool) → IsWireText bytes a e → IsWireText bytes b f → (a ≡ b) × (e ≡ f)
one_text one bytes a b e f x y = one_from one 0 (messages bytes) (rest bytes) a b e f x y
