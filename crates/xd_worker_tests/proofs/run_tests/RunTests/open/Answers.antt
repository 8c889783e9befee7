use Rattle.std.proofs.Common.{◌≡◌, refl, ap, ◌∙◌, rules, [], None}
use Rattle.std.specs.Prelude.{replicate}
use Rattle.xd_worker_tests.specs.declared.line_entry.Standing.TheVariants.{Free}
use Rattle.xd_worker_tests.specs.declared.phase.Phase.TheVariants.{Serving}
use Rattle.xd_worker_tests.proofs.Ends.{opened_call}
use Rattle.xd_worker_tests.proofs.run_tests.RunTests.open.Goals as goal

pub returns-clause-opened : goal.returns-clause-opened
returns-clause-opened c = λ k h.
    let s = c.args.self.now in
    let free : c.in_ok-self.field-0.items ≡ replicate c.args.size Free = search rules in
    let none : c.replace-waiting.new.dest.items ≡ [] = ap (λ w. w.items) c.replace-waiting.ensures.after ∙ c.new-2.ensures.items in
    opened_call s (record s { phase = Serving; waiting = c.replace-waiting.new.dest; size = c.args.size; stands = c.in_ok-self.field-0; queue = c.new.result; next = None; running = None; next_log = 2 }) k c.args.size refl none refl free c.new.ensures.items refl refl refl refl h
