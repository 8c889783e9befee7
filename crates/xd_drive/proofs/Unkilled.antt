-- How many workers may still be killed.
use Rattle.std.proofs.Common.{◌≡◌, ℕ, ◌+◌, ◌≤◌, List, [], ◌∷◌, ◌++◌, length, Bool, true, false, ◌||◌, refl, ◌∙◌, arith}
use Rattle.std.specs.Prelude.{◌==◌}
use Rattle.std.proofs.lemmas.Bool.Decides.{nat_tests}
use Rattle.std.proofs.lemmas.List.Folds.{list_any-append}
use Rattle.xd_journal.specs.declared.entry.Entry.{Entry}
use Rattle.xd_journal.specs.declared.entry.Entry.TheVariants.{Kill}
use Rattle.xd_drive.specs.Listed.{is_listed, is_kill_of, unkilled, was_killed}

pub unkilled-most : (calls : List Entry) (ws : List ℕ) → unkilled calls ws ≤ length ws
unkilled-most calls [] = omega arith
unkilled-most calls (w ∷ ws) = grind (arith, nat_tests, unkilled-most calls ws)

killed_then : (v w : ℕ) (calls : List Entry) → was_killed v (calls ++ Kill w ∷ []) ≡ (was_killed v calls || (w == v))
killed_then v w calls = list_any-append (is_kill_of v) calls (Kill w ∷ []) ∙ or_none (was_killed v calls) (w == v)
  where
    or_none : (a b : Bool) → (a || (b || false)) ≡ (a || b)
    or_none a true = refl
    or_none a false = refl

-- a kill lowers the number, by one at least where it is of one of these workers
fewer : (w : ℕ) (calls : List Entry) (ws : List ℕ) → unkilled (calls ++ Kill w ∷ []) ws ≤ unkilled calls ws
fewer w calls [] = omega arith
fewer w calls (v ∷ vs) = grind (arith, nat_tests, killed_then v w calls, fewer w calls vs)

pub unkilled-kill : (w : ℕ) (calls : List Entry) (ws : List ℕ) → is_listed w ws ≡ true → was_killed w calls ≡ false → unkilled (calls ++ Kill w ∷ []) ws + 1 ≤ unkilled calls ws
unkilled-kill w calls [] h k = absurd (cc)
unkilled-kill w calls (v ∷ vs) h k = grind (arith, nat_tests, killed_then v w calls, fewer w calls vs, unkilled-kill w calls vs)
