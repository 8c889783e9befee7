use Rattle.std.proofs.Common.{List, ◌-◌, ap, drop, refl, take}
use Rattle.xd_journal.specs.declared.entry.Entry.{Entry}
use Rattle.xd_drive.specs.Moments.{scene_at}
use Rattle.xd_trace.proofs.Each.{seen-more}
use Rattle.xd_drive.proofs.Stepped.{tells-turn}
use Rattle.xd_drive.proofs.news.tell_entries.Goals as goal

pub returns-clause-tells : goal.returns-clause-tells
returns-clause-tells g c =
    tells-turn c.in_ok-shown.shown c.if-not-shown.false _ _ (ap (λ (l : List Entry). take (c.args.to - c.args.from) (drop c.args.from l)) c.deref.ensures.value) _ _ _ _ _
    c.in_ok-perform.ensures.performs c.in_ok-perform.ensures.marks
    (scene_at g.H.Hub.tells g.O.Sink.sunk c.kept.result.now c.print_between.new.out, seen-more (λ p. scene_at g.H.Hub.tells g.O.Sink.sunk p.0 p.1) c.args.moments.now c.look.new.self c.kept.result.now c.print_between.new.out c.look.ensures, c.kept.ensures, refl)
    c.in_ok-shown.ensures.shows
