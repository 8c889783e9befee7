use Rattle.std.proofs.Common.{◌≡◌, ℕ, List, take}
use Rattle.std.specs.Process.{command_var, clears_env, SameProgramAndArgs, SameDir}
use Rattle.xd_real.specs.Worker.{var_set}
use Rattle.xd_real.proofs.worker.set_vars.Given as goal

abbrev pub invariant-loop-name : goal.invariant-loop-name
invariant-loop-name l = record {
  vars : (name : List ℕ) → command_var l.command name ≡ var_set (take l.name-index l.pairs) name (command_var l.initial.command name);
  call : SameProgramAndArgs l.initial.command l.command;
  folder : SameDir l.initial.command l.command;
  clears : clears_env l.command ≡ clears_env l.initial.command;
}
