-- What is missing of a message, and what stands in front after a read of no more than that.
use Rattle.std.proofs.Common.{◌≡◌, ℕ, ◌+◌, ◌-◌, ◌≤◌, ◌<◌, ◌⊎◌, inl, inr, List, ◌++◌, length, take, Some, None, Result, Ok, Err, refl, sym, ap, ◌∙◌, arith, length-append}
use Rattle.std.proofs.lemmas.Bool.{cases_lt}
use Rattle.std.proofs.lemmas.Grind.{common_steps}
use Rattle.std.proofs.lemmas.List.{take-append-le, take_all}
use Rattle.std.specs.Prelude.{nat_lt}
use Rattle.xd_frame.specs.declared.header.Header.{Header}
use Rattle.xd_frame.specs.declared.fault.FrameFault.{FrameFault}
use Rattle.xd_frame.specs.Header.{header_read}
use Rattle.xd_frame.specs.Stream.{header_in_front, with_payload}
use Rattle.xd_frame.specs.Pull.{IsLess, few, begun, missing, missing_by}
use Rattle.xd_frame.proofs.Front.{chosen, some_front, err_front}

-- a header that was read
abbrev pub ok : Header → Result Header FrameFault
ok h = Ok h

payload_none : (r : Result Header FrameFault) (n : ℕ) → with_payload r n ≡ Ok None → (h : Header) × (r ≡ Ok h) × (n < 9 + h.length)
payload_none (Err f) n e = cc
payload_none (Ok h) n e = (h, refl, grind (arith, common_steps, e))

long_none : (a : List ℕ) → 9 ≤ length a → header_in_front a ≡ Ok None → with_payload (header_read (take 9 a)) (length a) ≡ Ok None
unfolding header_in_front
long_none a l e =
    elim (chosen (nat_lt (length a) 9) (Ok None) (with_payload (header_read (take 9 a)) (length a)) (Ok None) e) [ inl w ↦ absurd (grind (arith, common_steps, w.0, l)) | inr w ↦ w.1 ]

-- a header that is read, and less than its payload after it
pub record Begun (a : List ℕ) : Type 0 where
  pub header : Header
  pub read : header_read (take 9 a) ≡ Ok header
  pub long : 9 ≤ length a
  pub less : length a < 9 + header.length

-- the bytes end inside a message: fewer than a header has, or less than its payload
pub front_none : (a : List ℕ) → header_in_front a ≡ Ok None → (length a < 9) ⊎ Begun a
front_none a e = by (cases_lt (length a) 9)
  where
    by : (length a < 9) ⊎ (9 ≤ length a) → (length a < 9) ⊎ Begun a
    by (inl l) = inl l
    by (inr l) = let p = payload_none (header_read (take 9 a)) (length a) (long_none a l e) in inr (record { header = p.0; read = p.1; long = l; less = p.2 })

pub less_of : (a : List ℕ) → header_in_front a ≡ Ok None → IsLess a
less_of a e = by (front_none a e)
  where
    by : (length a < 9) ⊎ Begun a → IsLess a
    by (inl l) = few l
    by (inr b) = begun b.header b.read b.less

pub none_few : (a : List ℕ) → length a < 9 → header_in_front a ≡ Ok None
unfolding header_in_front
none_few a l = grind (arith, common_steps)

pub none_begun : (a : List ℕ) (h : Header) → header_read (take 9 a) ≡ Ok h → length a < 9 + h.length → header_in_front a ≡ Ok None
unfolding header_in_front
none_begun a h e l = rw e (grind (arith, common_steps))

missing_few : (a : List ℕ) → length a < 9 → missing a ≡ 9 - length a
unfolding missing
missing_few a l = grind (arith, common_steps)

missing_long : (a : List ℕ) → 9 ≤ length a → missing a ≡ missing_by (header_read (take 9 a)) (length a)
unfolding missing
missing_long a l = grind (arith, common_steps)

missing_begun : (a : List ℕ) (b : Begun a) → missing a ≡ (9 + b.header.length) - length a
missing_begun a b = missing_long a b.long ∙ ap (λ (r : Result Header FrameFault). missing_by r (length a)) b.read

-- something is missing
pub missing_some : (a : List ℕ) → header_in_front a ≡ Ok None → 0 < missing a
missing_some a e = by (front_none a e)
  where
    by : (length a < 9) ⊎ Begun a → 0 < missing a
    by (inl l) = omega (arith, missing_few a l)
    by (inr b) = omega (arith, missing_begun a b, b.less)

-- a message that is whole after such a read is all of the bytes
pub just_whole : (a p : List ℕ) (h : Header) → header_in_front a ≡ Ok None → length p ≤ missing a → header_in_front (a ++ p) ≡ Ok (Some h) → length (a ++ p) ≡ 9 + h.length
just_whole a p h e l w = by (front_none a e)
  where
    by : (length a < 9) ⊎ Begun a → length (a ++ p) ≡ 9 + h.length
    by (inl k) = omega (arith, missing_few a k, length-append a p, (some_front (a ++ p) h w).1, l)
    by (inr b) =
        let same : header_read (take 9 (a ++ p)) ≡ header_read (take 9 a) = ap header_read (take-append-le 9 a p b.long) in
        let read : ok b.header ≡ ok h = sym b.read ∙ (sym same ∙ (some_front (a ++ p) h w).0) in
        let one : b.header ≡ h = cc in
        omega (arith, missing_begun a b, b.less, length-append a p, (some_front (a ++ p) h w).1, l, ap (λ (x : Header). x.length) one)

-- a header that is refused after such a read is all of the bytes
pub just_refused : (a p : List ℕ) (f : FrameFault) → header_in_front a ≡ Ok None → length p ≤ missing a → header_in_front (a ++ p) ≡ Err f → (header_read (a ++ p) ≡ Err f) × (length (a ++ p) ≡ 9)
just_refused a p f e l w = by (front_none a e)
  where
    read : header_read (take 9 (a ++ p)) ≡ Err f
    read = (err_front (a ++ p) f w).0

    by : (length a < 9) ⊎ Begun a → (header_read (a ++ p) ≡ Err f) × (length (a ++ p) ≡ 9)
    by (inl k) =
        let nine : length (a ++ p) ≡ 9 = omega (arith, missing_few a k, length-append a p, (err_front (a ++ p) f w).1, l) in (
          ap header_read (sym (take_all 9 (a ++ p) (omega arith))) ∙ read,
          nine,
        )
    by (inr b) =
        let same : header_read (take 9 (a ++ p)) ≡ header_read (take 9 a) = ap header_read (take-append-le 9 a p b.long) in
        let wrong : ok b.header ≡ Err f = sym b.read ∙ (sym same ∙ read) in
        cc
