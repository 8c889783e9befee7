use Rattle.std.proofs.Common.{arith}
use Rattle.xd_run.specs.State.{no_one}
use Rattle.xd_run.specs.Reports.{reports}
use Rattle.xd_report.specs.declared.counts.Counts.{Counts}
use Rattle.xd_report.proofs.EachReport.{failed-all, passed-all, skipped-all, each_of_one_kind}
use Rattle.xd_report.proofs.laws.counts_law.Goals as goal

pub returns : goal.returns
returns c = λ settings entries.
    let none : Counts = record { failed = 0; passed = 0; skipped = 0 } in
    let failed = failed-all (no_one settings) entries none in
    let passed = passed-all (no_one settings) entries none in
    let skipped = skipped-all (no_one settings) entries none in
    record {
      failed = omega (failed, arith);
      passed = omega (passed, arith);
      skipped = omega (skipped, arith);
      all = omega (failed, passed, skipped, each_of_one_kind (reports settings entries), arith);
    }
