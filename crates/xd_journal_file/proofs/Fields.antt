-- Fields by their places.
use Rattle.std.proofs.Common.{◌≡◌, ℕ, zero, suc, ◌<◌, ◌≤◌, List, [], ◌∷◌, length, Option, Some, None, option_map, refl, sym, ap, ◌∙◌, arith, Bor}
use Rattle.std.specs.Slice.{IsItemAt}
use Rattle.std.specs.Prelude.{slice_index_or}
use Rattle.xd_value.specs.View.{view, views}
use Rattle.xd_value.specs.declared.value.Value.{Value}
use Rattle.xd_journal_file.specs.inner.Reading.{field_at}

past : (xs : List Value) (n : ℕ) → length xs ≤ n → field_at (views xs) n ≡ None
past [] n h = refl
past (x ∷ xs) zero h = absurd (omega arith)
past (x ∷ xs) (suc n) h = past xs n (omega arith)

within : (xs : List Value) (n : ℕ) (d : Value) → n < length xs → field_at (views xs) n ≡ Some (view (slice_index_or xs n d))
within [] n d h = absurd (omega arith)
within (x ∷ xs) zero d h = refl
within (x ∷ xs) (suc n) d h = within xs n d (omega arith)

pub field_read : (xs : List Value) (n : ℕ) (r : Option (Bor Value)) → IsItemAt xs n r → option_map (λ (v : Bor Value). view v.now) r ≡ field_at (views xs) n
field_read xs n None h = sym (past xs n h.3)
field_read xs n (Some v) h = sym (within xs n v.now h.3.0 ∙ ap (λ x. Some (view x)) (sym h.1))
