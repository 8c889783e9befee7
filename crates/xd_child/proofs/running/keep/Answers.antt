use Rattle.std.proofs.Common.{◌≡◌, ℕ, ◌-◌, ◌∙◌, ap, min, length, arith}
use Rattle.std.proofs.lemmas.Grind.{common_steps}
use Rattle.xd_child.proofs.Ran.{kept_front}
use Rattle.xd_child.proofs.running.keep.Goals as goal

pub returns-clause-kept : goal.returns-clause-kept
returns-clause-kept c =
    let len : c.len.result ≡ length c.args.output.now.items = grind (arith, common_steps) in
    c.loop-i.invariant.items ∙ kept_front c.args.output.now.items c.args.bytes.now c.args.room c.min-count.result c.loop-i.i c.requires.within (c.min-count.ensures ∙ ap (λ (n : ℕ). min (length c.args.bytes.now) (c.args.room - n)) len) (omega arith)
