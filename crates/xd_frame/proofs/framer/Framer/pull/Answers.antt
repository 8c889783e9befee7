use Rattle.std.proofs.Common.{ap, sym, ◌∙◌}
use Rattle.xd_frame.specs.Framer.{FramerView}
use Rattle.xd_frame.specs.Pull.{pull_fault_of}
use Rattle.xd_frame.proofs.PullLemmas.{none_of, pulls, pulls_nothing}
use Rattle.xd_frame.proofs.framer.Framer.pull.Goals as goal

pub returns-in-Some-clause-pulls : goal.returns-in-Some-clause-pulls
returns-in-Some-clause-pulls g c = pulls_nothing c.in-Some.fault c.args.self.now _ (sym c.stop.ensures ∙ c.in-Some.is)

pub returns-clause-pulls : goal.returns-clause-pulls
returns-clause-pulls g c =
    let waits = ap (λ (v : FramerView). v.waiting) c.self.view_is ∙ c.requires in
    let goes = ap pull_fault_of c.self.view_is ∙ (sym c.stop.ensures ∙ none_of c.stop.result c.in_default.not-Some) in
    rw (← c.self.view_is) (pulls _ _ _ _ waits goes waits c.pull_bytes-pulled.result c.is_out_of_memory-self-inside.ensures c.pull_bytes-pulled.ensures)
