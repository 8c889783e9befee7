use Rattle.std.proofs.Common.{refl}
use Rattle.xd_top.proofs.Refused.{refuses_suite}
use Rattle.xd_top.proofs.named.run_named.Goals as goal

pub returns-clause-did : goal.returns-clause-did
returns-clause-did g c = refuses_suite _ _ _ _ c.in-Err.why (rw (c.in-Err.is) at c.in_ok-tests.ensures.read) (record {
  four = c.in_ok-status-in-Err.ensures.four;
  files_count = rw (c.in-Err.is) at c.in_ok-tests.ensures.count;
  files_kept = c.in_ok-tests.ensures.kept;
  no_output = refl;
  says = c.in_ok-status-in-Err.ensures.line;
})
