-- Lines, one after another.
use Rattle.std.proofs.Common.{Some, Result, Ok, Err, ◌≡◌, ℕ, ◌+◌, ◌≤◌, inl, inr, true, List, [], ◌∷◌, ◌++◌, length, take, drop, refl, sym, ap, subst, ◌∙◌, arith}
use Rattle.std.specs.Prelude.{IfOk, OnOk}
use Rattle.std.proofs.lemmas.List.{append-nil, drop-drop, length-take-le, length-drop}
use Rattle.xd_frame.specs.declared.header.Header.{Header}
use Rattle.xd_frame.specs.Message.{MessageView}
use Rattle.xd_frame.specs.Stream.{Rest, messages, rest, rest_of, left_over, message_of, FrontSays}
use Rattle.xd_value.specs.declared.fault.LoadWhat.{LoadWhat}
use Rattle.xd_edge.specs.declared.refusals.OutOfMemory.{OutOfMemory}
use Rattle.xd_wire.specs.inner.Payloads.{ReadsOne}
use Rattle.xd_wire.specs.Names.{what_name}
use Rattle.xd_wire.specs.WireText.{has_value, fault_line, message_with, IsLine, IsPayloadFault, IsTextFrom}
use Rattle.xd_wire.specs.declared.step.Then.{Then}
use Rattle.xd_wire.specs.declared.step.Then.TheVariants.{End}
use Rattle.xd_wire.specs.inner.Lines.{LeadsTo, texts_at, texts_after, ended, Continues}
use Rattle.xd_wire.proofs.TextLemmas.{one_line, line_no_fault, one_place}

-- the texts of a message and those after it are its line and a text of those
line_first : ReadsOne → (at next : ℕ) (m : MessageView) (all ms : List MessageView) (last end : Rest) (printed : List ℕ) → all ≡ m ∷ ms → last ≡ end → next ≡ at + (9 + length m.payload) → IsLine m printed
    → Continues (IsTextFrom at all last) printed (IsTextFrom next ms end)
line_first one at next m all ms last end printed ea el en is =
    rw ea (rw el (rw en (record {
      forth = λ more faulty k. inl (printed, more, is, refl, k);
      back = λ text faulty k. elim k [
        | inl w ↦ (w.1, w.3 ∙ ap (λ l. l ++ w.1) (one_line (has_value m.kind) m w.0 printed one w.2 is), w.4)
        | inr w ↦ absurd (line_no_fault (has_value m.kind) m printed w.0 w.1 one is w.2)
      ];
    })))

-- the one text of a message with a fault in its payload, and whatever follows, is the line of that fault
fault_first : ReadsOne → (at : ℕ) (m : MessageView) (all ms : List MessageView) (end : Rest) (printed : List ℕ) (place : ℕ) (found : LoadWhat) → all ≡ m ∷ ms → printed ≡ fault_line (what_name found) (at + (9 + place)) → IsPayloadFault m place found
    → Continues (IsTextFrom at all end) printed (ended true)
fault_first one at m all ms end printed place found ea e is =
    rw ea (record {
      forth = λ more faulty k. inr (place, found, is, ap (λ l. printed ++ l) k.0 ∙ (append-nil printed ∙ e), k.1);
      back = λ text faulty k. elim k [
        | inl w ↦ absurd (line_no_fault (has_value m.kind) m w.0 place found one w.2 is)
        | inr w ↦ (let o = one_place (has_value m.kind) m w.0 place w.1 found one w.2 is in
            ([], w.3 ∙ (ap (λ n. fault_line n (at + (9 + w.0))) (ap what_name o.1) ∙ (ap (λ p. fault_line (what_name found) (at + (9 + p))) o.0 ∙ (sym e ∙ sym (append-nil printed)))), (refl, w.4)))
      ];
    })

-- the messages from a place on, where one with this payload stands there
messages_at : (bytes : List ℕ) (at next : ℕ) (h : Header) (front payload : List ℕ) → front ≡ drop at bytes → payload ≡ take h.length (drop (at + 9) bytes) → next ≡ at + (9 + h.length) → FrontSays front (Ok (Some h))
    → (messages (drop at bytes) ≡ message_with h payload ∷ messages (drop next bytes)) × (rest (drop at bytes) ≡ rest (drop next bytes))
messages_at bytes at next h front payload fe pe ne says =
    let s = subst (λ (d : List ℕ). FrontSays d (Ok (Some h))) fe says in
    let there : drop (9 + h.length) (drop at bytes) ≡ drop next bytes = drop-drop (9 + h.length) at bytes ∙ ap (λ k. drop k bytes) (sym ne) in
    let p : take h.length (drop 9 (drop at bytes)) ≡ payload = ap (take h.length) (drop-drop 9 at bytes) ∙ sym pe in
    (s.0 ∙ (ap (λ d. message_of h (drop at bytes) ∷ messages d) there ∙ ap (λ q. message_with h q ∷ messages (drop next bytes)) p), ap rest_of (s.1 ∙ ap left_over there))

-- a message with a line
pub line_leads : ReadsOne → (bytes : List ℕ) (at : ℕ) (h : Header) (front payload printed : List ℕ) → front ≡ drop at bytes → payload ≡ take h.length (drop (at + 9) bytes) → 9 + h.length ≤ length front
    → FrontSays front (Ok (Some h)) → IsLine (message_with h payload) printed → Continues (texts_at bytes at) printed (texts_at bytes (at + 9 + h.length))
line_leads one bytes at h front payload printed fe pe whole says is =
    let size : length payload ≡ h.length = ap length pe ∙ length-take-le h.length (drop (at + 9) bytes) (omega (arith, whole, ap length fe, length-drop at bytes, length-drop (at + 9) bytes)) in
    let k = messages_at bytes at (at + 9 + h.length) h front payload fe pe (omega arith) says in
    line_first one at (at + 9 + h.length) (message_with h payload) _ _ _ _ printed k.0 k.1 (omega (arith, size)) is

-- a message with a fault in its payload
pub fault_leads : ReadsOne → (r : Result Then OutOfMemory) (bytes : List ℕ) (at : ℕ) (h : Header) (front payload printed name : List ℕ) (place : ℕ) (found : LoadWhat) → front ≡ drop at bytes → payload ≡ take h.length (drop (at + 9) bytes)
    → FrontSays front (Ok (Some h)) → IsPayloadFault (message_with h payload) place found → name ≡ what_name found → OnOk r (printed ≡ fault_line name (at + 9 + place)) → IfOk r (λ t. t ≡ End true)
    → IfOk r (LeadsTo bytes at printed)
fault_leads one (Err e) bytes at h front payload printed name place found fe pe says is ne written then = tt
fault_leads one (Ok s) bytes at h front payload printed name place found fe pe says is ne written then =
    let k = messages_at bytes at (at + (9 + h.length)) h front payload fe pe refl says in
    let there : at + 9 + place ≡ at + (9 + place) = omega arith in
    let e : printed ≡ fault_line (what_name found) (at + (9 + place)) = written ∙ (ap (λ n. fault_line n (at + 9 + place)) ne ∙ ap (fault_line (what_name found)) there) in
    subst (λ (t : Then). Continues (texts_at bytes at) printed (texts_after bytes t)) (sym then) (fault_first one at (message_with h payload) _ _ _ printed place found k.0 e is)
