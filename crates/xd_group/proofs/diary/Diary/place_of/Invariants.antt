use Rattle.std.proofs.Common.{◌≡◌, ℕ, ◌<◌, Some}
use Rattle.std.specs.Prelude.{slice_get}
use Rattle.xd_group.proofs.diary.Diary.place_of.Given as goal

abbrev pub invariant-loop-at : goal.invariant-loop-at
invariant-loop-at l = record {
  none : (k : ℕ) → k < l.at → slice_get l.self.workers.items k ≡ Some l.worker → ⊥;
}
