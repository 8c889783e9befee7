-- Bytes that a source gives.
use Rattle.std.proofs.Common.{◌≡◌, ℕ, ◌+◌, ◌≤◌, List, ◌++◌, length, take, drop, refl, ap, sym, ◌∙◌, arith, Some}
use Rattle.std.proofs.lemmas.Grind.{common_steps}
use Rattle.std.proofs.lemmas.List.{drop-drop}
use Rattle.std.proofs.Math.Seq.{take-add}
use Rattle.xd_link.specs.Source.{with_given}
use Rattle.xd_memory.specs.MemSource.{supply_at}

length_first : (l : List ℕ) (n : ℕ) → n ≤ length l → length (take n l) ≡ n
length_first l n h = grind (arith, common_steps)

pub gave_next : (b : List ℕ) (g n : ℕ) (x : List ℕ) → x ≡ take n (drop g b) → g + n ≤ length b → (Some (supply_at b (g + n)) ≡ Some (with_given (length x) (supply_at b g))) × (take (length x) (drop g b) ≡ x)
gave_next b g n x e h =
    let size : length x ≡ n = ap length e ∙ length_first (drop g b) n (within b g n h) in
    (rw size (ap Some (both b g n (take-add g n b) (sym (drop-drop n g b)))), rw size (sym e))
  where
    within : (b : List ℕ) (g n : ℕ) → g + n ≤ length b → n ≤ length (drop g b)
    within b g n h = grind (arith, common_steps)

    both : (b : List ℕ) (g n : ℕ) → take (g + n) b ≡ take g b ++ take n (drop g b) → drop (g + n) b ≡ drop n (drop g b) → supply_at b (g + n) ≡ with_given n (supply_at b g)
    both b g n e f = rw (e, f) refl

pub gave_at : (b c v : List ℕ) (g k n : ℕ) (x : List ℕ) → b ≡ c → g ≡ k → v ≡ b → x ≡ take n (drop g v) → g + n ≤ length v → (Some (supply_at b (g + n)) ≡ Some (with_given (length x) (supply_at c k))) × (take (length x) (drop k c) ≡ x)
gave_at b c v g k n x e f s h w = rw (← e, ← f) (gave_next b g n x (h ∙ ap (λ (l : List ℕ). take n (drop g l)) s) (rw s at w))
