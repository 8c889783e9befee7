use Rattle.std.proofs.Common.{◌∷◌, ap, sym, ◌∙◌}
use Rattle.xd_worker_tests.specs.declared.run_tests.RunTests.{RunTests}
use Rattle.xd_worker_tests.proofs.Asking.{out_next}
use Rattle.xd_worker_tests.proofs.run_tests.RunTests.take_out.Goals as goal

pub loop-entry-preserved : goal.loop-entry-preserved
loop-entry-preserved c =
    let s = c.args.self.now in
    let m = c.loop-entry.self in
    let r = c.sort_out.new.self in
    let o = c.sort_out.ensures.others in
    record {
      others = o ∙ ap (λ q. record m { queue = q; stands = r.stands }) (sym (ap (λ (x : RunTests). x.queue) o)) ∙ ap (λ (x : RunTests). record x { queue = r.queue; stands = r.stands }) c.loop-entry.invariant.others;
      out = λ ns marked.
          out_next ns s.stands.items s.queue.items r.stands.items c.pop_front.new.self.items r.queue.items c.sort_out.new.back.items c.sort_out.new.left.items (sym (ap (λ (x : RunTests). x.queue.items) o))
          (c.in_ok-sort_out.ensures.sorted ns s.stands.items s.queue.items c.pop_front.new.self.items marked
          (out_next ns s.stands.items s.queue.items m.stands.items m.queue.items (c.in-Some.entry ∷ c.pop_front.new.self.items) c.loop-entry.back.items c.loop-entry.left.items c.in-Some.ensures.items (c.loop-entry.invariant.out ns marked)));
    }
