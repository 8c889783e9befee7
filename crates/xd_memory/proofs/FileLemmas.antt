-- Files in memory, where one of them is written.
use Rattle.std.proofs.Common.{◌≡◌, Bool, true, false, not, cond, ℕ, suc, ◌+◌, ◌<◌, nat_lt, List, [], ◌∷◌, length, get_or, arith, Option, Some, None, option_map, refl, sym, ap, ◌∙◌}
use Rattle.std.specs.List.{find, position, position_or_len}
use Rattle.std.specs.Str.{bytes_eq}
use Rattle.std.proofs.Math.ListN.{set}
use Rattle.std.proofs.lemmas.List.{set-get_or}
use Rattle.std.proofs.lemmas.List.Folds.{find-set, find_past}
use Rattle.std.proofs.lemmas.List.Quantifiers.{position-Some}
use Rattle.std.proofs.lemmas.Slice.Eq.{bytes_eq-Decides}
use Rattle.xd_memory.specs.declared.mem_file.MemFile.{MemFile}
use Rattle.xd_memory.specs.MemFiles.{file_named, held_by}

is_at : {X : Type 0} → (p : X → Bool) → (xs : List X) (i : ℕ) → position p xs ≡ Some i → i ≡ position_or_len p xs
is_at p xs i e = by (nat_lt (position_or_len p xs) (length xs)) (position_or_len p xs) e where
  by : (b : Bool) (n : ℕ) → cond b (Some n) None ≡ Some i → i ≡ n
  by true n same = search
  by false n same = search

differs : (x y : List ℕ) → (x ≡ y → ⊥) → bytes_eq x y ≡ false
differs x y not_same = by (bytes_eq x y) (bytes_eq-Decides x y).0 where
  by : (b : Bool) → (b ≡ true → x ≡ y) → b ≡ false
  by true same = absurd (not_same (same refl))
  by false same = refl

module _ (fs : List MemFile) (path : List ℕ) (i : ℕ) (d : MemFile) (at : position (λ f. bytes_eq f.name path) fs ≡ Some i) where
  its : (i < length fs) × (bytes_eq (get_or fs i d).name path ≡ true)
  its = let s = position-Some (λ f. bytes_eq f.name path) fs i d at in (s.0, s.1)

  -- the first file of the name
  pub found : file_named fs path ≡ Some (get_or fs i d)
  found = ap (find (λ f. bytes_eq f.name path)) (sym (set-get_or fs i d)) ∙ find-set (λ f. bytes_eq f.name path) fs i (get_or fs i d) (is_at _ fs i at) its.0 its.1

  module _ (file : MemFile) (kept : file.name ≡ (get_or fs i d).name) where
    -- it is the one that was written
    pub held-written : held_by (set fs i file) path ≡ Some file.bytes.items
    held-written = ap (option_map (λ f. f.bytes.items)) (find-set (λ f. bytes_eq f.name path) fs i file (is_at _ fs i at) its.0 (ap (λ n. bytes_eq n path) kept ∙ its.1))

    -- the files of other names are as they were
    pub held-others : (name : List ℕ) → (name ≡ path → ⊥) → held_by (set fs i file) name ≡ held_by fs name
    held-others name other =
        let not_its : bytes_eq (get_or fs i d).name name ≡ false = differs _ name (λ e. other (sym e ∙ (bytes_eq-Decides _ path).0 its.1)) in
        ap (option_map (λ f. f.bytes.items)) (find_past (λ f. bytes_eq f.name name) fs i file d not_its (ap (λ n. bytes_eq n name) kept ∙ not_its))

past : {X : Type 0} → (p : X → Bool) → (xs : List X) → position p xs ≡ None → nat_lt (position_or_len p xs) (length xs) ≡ false
past p xs same = by (nat_lt (position_or_len p xs) (length xs)) (position_or_len p xs) same where
  by : (b : Bool) (n : ℕ) → cond b (Some n) None ≡ None → b ≡ false
  by true n same = search
  by false n same = refl

none : {X : Type 0} → (p : X → Bool) → (xs : List X) → nat_lt (position_or_len p xs) (length xs) ≡ false → find p xs ≡ None
none p [] e = refl
none p (x ∷ xs) e = step (p x) (find p xs) e (λ k. none p xs k) where
  step : (b : Bool) (rest : Option _) → nat_lt (cond (not b) (1 + position_or_len p xs) 0) (suc (length xs)) ≡ false → (nat_lt (position_or_len p xs) (length xs) ≡ false → rest ≡ None) → cond b (Some x) rest ≡ None
  step true rest e k = absurd (grind arith)
  step false rest e k = k (grind arith)

-- no file of the name
pub missing : (fs : List MemFile) (path : List ℕ) → position (λ f. bytes_eq f.name path) fs ≡ None → file_named fs path ≡ None
missing fs path e = none (λ f. bytes_eq f.name path) fs (past (λ f. bytes_eq f.name path) fs e)
