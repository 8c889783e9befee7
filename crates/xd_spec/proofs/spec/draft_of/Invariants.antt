use denote.Shadow.{shadow}
use denote.Text.{Utf8}
use Rattle.std.proofs.Common.{◌≡◌, length}
use Rattle.std.specs.Prelude.{Ok}
use Rattle.xd_spec.specs.Spec.{empty_draft, spec_parts, with_parts}
use Rattle.xd_spec.proofs.spec.draft_of.Given as goal

-- what is read of the whole is what is read of the rest, after the draft
abbrev pub invariant-loop-part : goal.invariant-loop-part
invariant-loop-part l = shadow (Utf8 l.rest) × (with_parts (Ok empty_draft) (spec_parts l.text) ≡ with_parts (Ok l.draft) (spec_parts l.rest))

abbrev pub decreases-loop-part : goal.decreases-loop-part
decreases-loop-part l = length l.rest
