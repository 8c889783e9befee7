-- The marks of a hub that was called for what a run told so far, and gave the news that it took.
use Rattle.std.specs.Prelude.{◌≡◌, ℕ, true, false}
use Rattle.xd_run.specs.Books.{Books}
use Rattle.xd_run.specs.Workers.{has_member, is_active, was_ready}
use Rattle.xd_drive.specs.Marks.{Marks}

-- whoever was started is known to the run; who was killed or was heard to have ended is known and is not active; who is
-- ready in the run was heard to be ready
pub record Agrees (b : Books) (marks : ℕ → Marks) : Type 0 where
  pub started : (w : ℕ) → (marks w).started ≡ has_member w (λ m. true) b
  pub killed : (w : ℕ) → (marks w).killed ≡ true → (has_member w (λ m. true) b ≡ true) × (is_active w b ≡ false)
  pub ended : (w : ℕ) → (marks w).ended ≡ true → (has_member w (λ m. true) b ≡ true) × (is_active w b ≡ false)
  pub ready : (w : ℕ) → was_ready w b ≡ true → (marks w).ready ≡ true
