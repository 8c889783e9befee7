-- Where the items of a run stand.
use Rattle.std.specs.Prelude.{◌≡◌, ℕ, ◌<◌, ◌≤◌, [], true, false}
use Rattle.xd_run.specs.Numbers.{times}
use Rattle.xd_run.specs.Table.{all_items}
use Rattle.xd_run.specs.Plan.{total}
use Rattle.xd_run.specs.Sharing.{State}

-- once the tests are shared each item of the run stands once among pool, held and reported, and nothing else stands
-- there; before that nothing does
-- Example: gw0 dies with 0 and 2: 0 is reported and 2 is in the pool, and neither stands anywhere else.
pub record IsOnce (s : State) : Type 0 where
  pub each_once : s.books.shared ≡ true → (x : ℕ) → x < total s.plan → times x (all_items s.books.table) ≡ 1
  pub no_other : s.books.shared ≡ true → (x : ℕ) → total s.plan ≤ x → times x (all_items s.books.table) ≡ 0
  pub none_before : s.books.shared ≡ false → all_items s.books.table ≡ []
