use Rattle.std.proofs.Common.{◌∙◌, refl}
use Rattle.xd_link.specs.Spring.{spring}
use Rattle.xd_edge.specs.Clock.{ticking}
use Rattle.xd_top.specs.Outside.{Workplace}
use Rattle.xd_top.specs.Worker.{served_scene}
use Rattle.xd_top.proofs.Serves.{links_one, served_link, serves_link}
use Rattle.xd_top.proofs.worker.serve_at.Goals as goal

pub returns-clause-did : goal.returns-clause-did
returns-clause-did g c =
    let start = spring (g.St.Src.Source.supply c.in-Ok.link.source) (g.St.Src.Source.is_ended c.in-Ok.link.source) (g.St.Src.Source.faults c.in-Ok.link.source) in
    let end = spring (g.St.Src.Source.supply c.in_ok-end.end.source) (g.St.Src.Source.is_ended c.in_ok-end.end.source) (g.St.Src.Source.faults c.in_ok-end.end.source) in
    let old : Workplace = record {
      files = record { held = g.F.Files.held c.args.files.now; faults = g.F.Files.faults c.args.files.now };
      programs = record { runs = g.K.Children.runs c.args.children; faults = g.K.Children.faults c.args.children };
      starter = record { begun = g.St.Starter.begun c.args.starter; faults = g.St.Starter.faults c.args.starter };
      crews = record { readers = g.C.Crew.faults c.args.crew; runners = g.D.Crew.faults c.args.runner.now };
      clock = ticking (g.T.Clock.moment c.args.clock.now) (g.T.Clock.coming c.args.clock.now);
    } in
    let new : Workplace = record {
      files = record { held = g.F.Files.held c.serve.new.files; faults = g.F.Files.faults c.serve.new.files };
      programs = record { runs = g.K.Children.runs c.in_ok-end.end.children; faults = g.K.Children.faults c.in_ok-end.end.children };
      starter = record { begun = g.St.Starter.begun c.start.new.self; faults = g.St.Starter.faults c.start.new.self };
      crews = record { readers = g.C.Crew.faults c.serve.new.crew; runners = g.D.Crew.faults c.serve.new.runner };
      clock = ticking (g.T.Clock.moment c.serve.new.clock) (g.T.Clock.coming c.serve.new.clock);
    } in
    let link = served_link c.in_ok-end.end.status start end (g.St.Snk.Sink.sunk c.in-Ok.link.sink) (g.St.Snk.Sink.faults c.in-Ok.link.sink) old
    (served_scene (g.St.Snk.Sink.sunk c.in_ok-end.end.sink) (g.St.Snk.Sink.faults c.in_ok-end.end.sink) new)
    c.in-Ok.ensures.nothing_given c.in-Ok.ensures.not_ended c.in-Ok.ensures.no_reads c.in-Ok.ensures.nothing_taken c.in-Ok.ensures.no_writes c.in_ok-end.ensures.served.served in
    links_one _ _ _ _ _ _ _ _ (c.in_ok-reserve.ensures.items ∙ c.new-links.ensures.items) c.push_reserved.ensures.items
    (serves_link _ _ _ _ _ refl refl link c.in-Ok.ensures.started (c.in-Ok.ensures.counted.still refl) c.serve.ensures.kept)
