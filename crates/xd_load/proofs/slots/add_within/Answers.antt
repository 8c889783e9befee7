use Rattle.std.proofs.Common.{◌≡◌, true, false, sym, ◌∙◌, arith}
use Rattle.std.proofs.lemmas.List.{append-nil}
use Rattle.std.proofs.lemmas.Bool.Decides.{nat_tests}
use Rattle.std.specs.List.{range_with_len}
use Rattle.xd_run.specs.Numbers.{among}
use Rattle.xd_ledger.proofs.Lists.{among-range}
use Rattle.xd_load.proofs.slots.add_within.Goals as goal

pub returns-in_ok-push : goal.returns-in_ok-push
returns-in_ok-push c =
    let b : among c.args.item (range_with_len c.args.first c.args.size) ≡ true = among-range c.args.item c.args.first c.args.size ∙ grind (arith, nat_tests) in
    rw b c.in_ok-push.ensures.items

pub returns-else-first-item : goal.returns-else-first-item
returns-else-first-item c =
    let b : among c.args.item (range_with_len c.args.first c.args.size) ≡ false = among-range c.args.item c.args.first c.args.size ∙ grind (arith, nat_tests) in
    rw b (sym (append-nil c.args.items.now.items))
