-- Loops that change one item of a list after another.
use Rattle.std.proofs.Common.{◌≡◌, ℕ, zero, suc, ◌+◌, List, [], ◌∷◌, ◌++◌, length, sym, ◌∙◌, ap, arith, add-one, add-zero}
use Rattle.xd_run.specs.declared.member.Listed.{Listed}
use Rattle.xd_run.specs.Sharing.{ids_at, sizes_from}

-- one slot more
pub sizes-more : (ls : List Listed) (slot n : ℕ) → sizes_from ls slot (n + 1) ≡ sizes_from ls slot n ++ length (ids_at (slot + n) ls) ∷ []
sizes-more ls slot zero = ap (λ k. length (ids_at k ls) ∷ []) (sym (add-zero slot))
sizes-more ls slot (suc n) =
    let at : slot + 1 + n ≡ slot + suc n = omega arith in
    ap (sizes_from ls slot) (add-one (suc n)) ∙ ap (λ l. length (ids_at slot ls) ∷ l) (ap (sizes_from ls (slot + 1)) (sym (add-one n)) ∙ sizes-more ls (slot + 1) n)
    ∙ ap (λ k. length (ids_at slot ls) ∷ (sizes_from ls (slot + 1) n ++ length (ids_at k ls) ∷ [])) at
