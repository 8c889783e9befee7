-- A message means one word, and one that means a word is read without a fault.
use Rattle.std.proofs.Common.{◌≡◌, ℕ, ◌+◌, ◌<◌, ◌≤◌, List, [], Bool, true, false, Some, sym, ap, subst, ◌∙◌, arith}
use Rattle.std.proofs.lemmas.List.{append-nil}
use Rattle.xd_value.specs.Tree.{Tree, is_text, text}
use Rattle.xd_value.specs.Payload.{IsPayload}
use Rattle.xd_value.proofs.OneAnswer.{no_fault, one_payload}
use Rattle.xd_frame.specs.declared.kind.Kind.{Kind}
use Rattle.xd_frame.specs.declared.kind.Kind.TheVariants as kind
use Rattle.xd_frame.specs.Message.{MessageView}
use Rattle.xd_factory.specs.declared.faults.SideFault.{SideFault}
use Rattle.xd_factory.specs.declared.faults.SideFault.TheVariants as fault
use Rattle.xd_factory.specs.Said.{Said, Exec, Data, Close, Means, Misread, SaysBy, is_read, names_of}
use Rattle.xd_factory.specs.Table.{Refused, opened_count}

one_value : (v w : Tree) (b : List ℕ) → IsPayload v b → IsPayload w b → v ≡ w
one_value v w b p q = (one_payload v w b b [] p q (sym (append-nil b))).0

text_is : (x y : List ℕ) → text x ≡ text y → x ≡ y
text_is x y h = cc

one_by : (k : Kind) (c : ℕ) (b : List ℕ) (x y : Said) → SaysBy k c b x → SaysBy k c b y → x ≡ y
one_by kind.Status c b x y h q = h ∙ sym q
one_by kind.Reconfigure c b x y h q = absurd h
one_by kind.Terminate c b x y h q = h ∙ sym q
one_by kind.Exec c b x y h q = h.2 ∙ ap (Exec c) (one_value h.0 q.0 b h.1 q.1) ∙ sym q.2
one_by kind.Item c b x y h q = h.2 ∙ ap (Data c) (one_value h.0 q.0 b h.1 q.1) ∙ sym q.2
one_by kind.Close c b x y h q = h ∙ sym q
one_by kind.CloseError c b x y h q = h.2 ∙ ap (λ (t : List ℕ). Close c (Some t)) (text_is h.0 q.0 (one_value (text h.0) (text q.0) b h.1 q.1)) ∙ sym q.2
one_by kind.LastMessage c b x y h q = h ∙ sym q

-- a message means one word
pub one_meaning : (m : MessageView) (x y : Said) → Means m x → Means m y → x ≡ y
one_meaning m x y h q = one_by m.kind m.channel m.payload x y h.says q.says

-- ---- a message that means a word has no fault

no_reconfigure : (k : Kind) (c : ℕ) (b : List ℕ) (said : Said) → k ≡ kind.Reconfigure → SaysBy k c b said → ⊥
no_reconfigure k c b said e h = subst (λ (x : Kind). SaysBy x c b said) e h

-- what is read is a payload
payload_of : (k : Kind) (c : ℕ) (b : List ℕ) (said : Said) → is_read k ≡ true → SaysBy k c b said → (v : Tree) × IsPayload v b
payload_of kind.Exec c b said e h = (h.0, h.1)
payload_of kind.Item c b said e h = (h.0, h.1)
payload_of kind.CloseError c b said e h = (text h.0, h.1)
payload_of kind.Status c b said e h = absurd (let z = e in cc)
payload_of kind.Reconfigure c b said e h = absurd h
payload_of kind.Terminate c b said e h = absurd (let z = e in cc)
payload_of kind.Close c b said e h = absurd (let z = e in cc)
payload_of kind.LastMessage c b said e h = absurd (let z = e in cc)

error_text : (k : Kind) (c : ℕ) (b : List ℕ) (said : Said) → k ≡ kind.CloseError → SaysBy k c b said → (cs : List ℕ) × IsPayload (text cs) b
error_text k c b said e h = let q = subst (λ (x : Kind). SaysBy x c b said) e h in (q.0, q.1)

pub not_misread : (m : MessageView) (said : Said) → Means m said → (f : SideFault) → Misread m f → ⊥
not_misread m said h fault.BadNumber q = let z : true ≡ false = sym q ∙ h.numbered in absurd (cc)
not_misread m said h fault.Unsupported q = no_reconfigure m.kind m.channel m.payload said q h.says
not_misread m said h (fault.BadPayload what) q = let p = payload_of m.kind m.channel m.payload said q.reads h.says in no_fault p.0 m.payload q.at what p.1 q.first
not_misread m said h fault.NotText q =
    let p = error_text m.kind m.channel m.payload said q.error h.says in
    let e : q.value ≡ text p.0 = one_value q.value (text p.0) m.payload q.payload p.1 in
    let z : true ≡ false = sym (ap is_text e) ∙ q.other in absurd (cc)
not_misread m said h fault.Finished q = q
not_misread m said h fault.TooManyOpen q = q
not_misread m said h fault.OutOfMemory q = q

-- where there is room, a message that means a word is not refused
pub not_refused : (n : ℕ) (new : ℕ → Bool) (m : MessageView) (said : Said) → Means m said → n + opened_count new (names_of said) ≤ 4096 → (f : SideFault) → Refused n new m f → ⊥
not_refused n new m said h r fault.TooManyOpen q =
    let e : q.0 ≡ said = one_meaning m q.0 said q.1 h in
    let more : 4096 < n + opened_count new (names_of said) = subst (λ (s : Said). 4096 < n + opened_count new (names_of s)) e q.2 in
    omega arith
not_refused n new m said h r fault.BadNumber q = not_misread m said h fault.BadNumber q
not_refused n new m said h r fault.Unsupported q = not_misread m said h fault.Unsupported q
not_refused n new m said h r (fault.BadPayload what) q = not_misread m said h (fault.BadPayload what) q
not_refused n new m said h r fault.NotText q = not_misread m said h fault.NotText q
not_refused n new m said h r fault.Finished q = q
not_refused n new m said h r fault.OutOfMemory q = q
