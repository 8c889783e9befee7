use Rattle.std.proofs.Common.{rules, arith, ap, ◌∙◌}
use Rattle.std.specs.Process.{command_var}
use Rattle.xd_real.proofs.Vars.{set_more}
use Rattle.xd_real.proofs.worker.set_vars.Goals as goal

pub loop-name-preserved : goal.loop-name-preserved
loop-name-preserved c =
    let set = c.in_ok-set_var.ensures in
    record {
      vars = λ name.
          set_more c.args.pairs.now c.loop-name.name-index c.loop-name-item.result name _ _ _ (omega arith) c.loop-name-item.is
          (c.loop-name.invariant.vars name) (λ e. ap (command_var c.set_var.new.command) e ∙ set.set) (set.others name);
      call = search rules;
      folder = search rules;
      clears = search rules;
    }
