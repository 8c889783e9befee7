use Rattle.std.proofs.Common.{refl, arith}
use Rattle.xd_edge.specs.Children.{with_fate}
use Rattle.xd_memory.proofs.MemLemmas.{told_set, told_past, whole_set}
use Rattle.xd_memory.proofs.mem_children.set_fate.Goals as goal

pub returns-then-place-runs : goal.returns-then-place-runs
returns-then-place-runs c = record {
  fate = λ children. told_set children c.args.place (with_fate c.args.fate) c.args.runs.now c.index-runs-place.result _ (omega arith) refl;
  same_whole = λ children k. whole_set children k c.args.place c.args.runs.now c.index-runs-place.result _ (omega arith) refl;
}

pub returns-else-place-runs : goal.returns-else-place-runs
returns-else-place-runs c = record {
  fate = λ children. told_past children c.args.place (with_fate c.args.fate) c.args.runs.now (omega arith);
  same_whole = λ children k. refl;
}
