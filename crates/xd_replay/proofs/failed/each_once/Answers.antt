use Rattle.std.proofs.Common.{ap, ◌∙◌, ◌++◌, ℕ, List, [], ◌∷◌}
use Rattle.std.specs.Prelude.{if◌then◌else◌}
use Rattle.std.specs.Str.{encode_utf8_all}
use Rattle.xd_replay.proofs.Failures.{gather-more}
use Rattle.xd_replay.proofs.failed.each_once.Goals as goal

pub loop-text-preserved : goal.loop-text-preserved
loop-text-preserved c =
    gather-more c.args.texts.now c.loop-text.text-index _ c.loop-text-test.true _ _ c.as_str.result (c.as_str.ensures.bytes ∙ ap encode_utf8_all c.text-item.is) c.loop-text.invariant _ _ _
    c.in_ok-is_new.ensures.added c.in_ok-is_new.ensures.updates (c.in_ok-add_if_new.ensures ∙ ap (λ (t : List ℕ). c.loop-text.items.items ++ (if c.in_ok-is_new.is_new then (t ∷ []) else [])) c.text-item.is)
