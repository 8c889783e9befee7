use Rattle.std.proofs.Common.{◌∙◌, arith}
use Rattle.xd_value.proofs.CanonicalSpelling.{latin_chars, latin_more}
use Rattle.xd_value_loads.proofs.plain.latin_text.Goals as goal

pub returns : goal.returns
returns c = c.from_string.ensures ∙ latin_chars c.args.bytes.now c.loop-b.b-index _ c.loop-b.invariant (omega arith) (λ i. omega (arith, c.type_inv.bytes i))

pub loop-b-preserved : goal.loop-b-preserved
loop-b-preserved c = latin_more c.args.bytes.now c.loop-b.b-index _ _ c.loop-b.invariant c.loop-b-test.true c.in_ok-push.ensures.bytes
