use Rattle.std.proofs.Common.{refl, ap, arith, slice_index_or}
use Rattle.xd_edge.specs.Children.{ChildRun, with_last}
use Rattle.xd_memory.specs.MemChildren.{told_of_run}
use Rattle.xd_edge.specs.declared.children.Fate.{Fate}
use Rattle.xd_memory.proofs.MemLemmas.{told_set, told_past, whole_set}
use Rattle.xd_memory.proofs.mem_children.set_end.Goals as goal

pub returns-then-place-runs : goal.returns-then-place-runs
returns-then-place-runs c =
    let here = c.index-runs-place.result in
    record {
      fate = λ children.
          let was = told_of_run children (slice_index_or c.args.runs.now c.args.place here) in
          let put : Fate → ChildRun = λ fate. record was { fate = fate } in
          told_set children c.args.place (with_last c.args.fate) c.args.runs.now here _ (omega arith) (ap put c.last_fate-run.ensures);
      same_whole = λ children k. whole_set children k c.args.place c.args.runs.now here _ (omega arith) refl;
    }

pub returns-else-place-runs : goal.returns-else-place-runs
returns-else-place-runs c = record {
  fate = λ children. told_past children c.args.place (with_last c.args.fate) c.args.runs.now (omega arith);
  same_whole = λ children k. refl;
}
