-- Bytes that a read puts after others.
use Rattle.std.proofs.Common.{◌≡◌, ℕ, ◌+◌, ◌-◌, ◌≤◌, ◌<◌, Bool, true, cond, List, ◌++◌, length, take, drop, get_or, sym, ap, ◌∙◌, arith, append_assoc, length-append, ◌⊎◌, inl, inr}
use Rattle.std.specs.Prelude.{replicate}
use Rattle.std.proofs.lemmas.List.{take_all, take_at, drop_at, take-take, take-append-le, length-replicate, length-take, length-drop, get_or_past}
use Rattle.std.proofs.lemmas.Bool.{cases_lt}
use Rattle.std.proofs.Math.Seq.{take-add}
use Rattle.xd_frame.specs.Stream.{AreBytes}

-- room was made after the old bytes
pub resized : (old now lent : List ℕ) (b s n : ℕ) (ok : Bool) → ok ≡ true → b ≡ length old → n ≡ length old → now ≡ cond ok (take (b + s) old ++ replicate (b + s - n) 0) old → lent ≡ now → (take b lent ≡ old) × (length lent ≡ b + s)
resized old now lent b s n ok e at again is same =
    let all : take (b + s) old ≡ old = take_all (b + s) old (omega arith) in
    let now_is : lent ≡ old ++ replicate (b + s - n) 0 = same ∙ (is ∙ (ap (λ (x : Bool). cond x (take (b + s) old ++ replicate (b + s - n) 0) old) e ∙ ap (λ (l : List ℕ). l ++ replicate (b + s - n) 0) all)) in (
      ap (take b) now_is ∙ take_at old (replicate (b + s - n) 0) b (sym at),
      ap length now_is ∙ (length-append old (replicate (b + s - n) 0) ∙ omega (arith, length-replicate {A = ℕ} (b + s - n) 0)),
    )

-- the read filled the first of that room, and the rest was cut off
pub read_after : (old lent into more rest out : List ℕ) (b n size : ℕ) → take b lent ≡ old → length old ≡ b → n ≤ length into → b + n ≤ size → out ≡ take (b + n) (take size ((take b lent ++ (into ++ more)) ++ rest)) → out ≡ old ++ take n into
read_after old lent into more rest out b n size e at within room is =
    let whole : (take b lent ++ (into ++ more)) ++ rest ≡ old ++ ((into ++ more) ++ rest) = ap (λ (l : List ℕ). (l ++ (into ++ more)) ++ rest) e ∙ append_assoc old (into ++ more) rest in
    let first : take n ((into ++ more) ++ rest) ≡ take n into = ap (take n) (append_assoc into more rest) ∙ take-append-le n into (more ++ rest) within in
    let halves : take (b + n) (old ++ ((into ++ more) ++ rest)) ≡ old ++ take n into =
    take-add b n (old ++ ((into ++ more) ++ rest)) ∙ (ap (λ (l : List ℕ). l ++ take n (drop b (old ++ ((into ++ more) ++ rest)))) (take_at old ((into ++ more) ++ rest) b at) ∙ ap (λ (l : List ℕ). old ++ l) (ap (take n) (drop_at old ((into ++ more) ++ rest) b at) ∙ first)) in
    is ∙ (take-take (b + n) size ((take b lent ++ (into ++ more)) ++ rest) room ∙ (ap (take (b + n)) whole ∙ halves))

-- the room that a read is given
pub room_is : (lent : List ℕ) (b s : ℕ) → length lent ≡ b + s → length (take (length lent - b) (drop b lent)) ≡ s
room_is lent b s e = omega (arith, length-take (length lent - b) (drop b lent), length-drop b lent)

pub small_all : (l : List ℕ) → ((i d : ℕ) → i < length l → get_or l i d < 256) → AreBytes l
small_all l h i = by (cases_lt i (length l))
  where
    by : (i < length l) ⊎ (length l ≤ i) → get_or l i 0 < 256
    by (inl k) = h i 0 k
    by (inr k) = omega (arith, get_or_past l i 0 k)
