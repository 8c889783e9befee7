use Rattle.std.proofs.Common.{◌++◌, ◌∷◌, [], refl, sym, ◌∙◌, ap, subst}
use Rattle.xd_journal.specs.declared.settings.Settings.{Settings}
use Rattle.xd_run.specs.Proper.{IsProper}
use Rattle.xd_drive.specs.Seen.{scene_of}
use Rattle.xd_drive.specs.inner.Written.{is_whole}
use Rattle.xd_drive.proofs.Loop.{begins, first-possible, going-next, over-ends, someone-first, someone-still, stop-by, takes-whole, whole-of}
use Rattle.xd_drive.proofs.running.run.Goals as goal

pub perform-requires : goal.perform-requires
perform-requires g c = first-possible c.args.session.now _ _ _ c.requires.slots c.requires.begins c.requires.fresh (c.deref.ensures.value ∙ c.journal.ensures.entries)

pub loop-init : goal.loop-init
loop-init g c =
    let first = begins c.args.session.now (g.H.Hub.slots (g.H.Hub.made c.args.hub.now))
    (scene_of g.H.Hub.marks g.H.Hub.seen g.O.Sink.sunk c.args.hub.now c.args.out.now)
    (scene_of g.H.Hub.marks g.H.Hub.seen g.O.Sink.sunk c.perform.new.hub c.args.out.now)
    _ c.deref.result.now (c.deref.ensures.value ∙ c.journal.ensures.entries) c.requires.slots c.requires.begins c.requires.fresh c.in_ok-perform.ensures.performs c.in_ok-perform.ensures.marks refl in
    record {
      going = ([], first);
      settings = refl;
      reports = c.requires.follows;
      made = c.perform.ensures.made;
      someone = someone-first c.args.session.now _ _ _ c.requires.proper c.requires.begins first;
      still = refl;
    }

pub returns-then-over-clause-ends : goal.returns-then-over-clause-ends
returns-then-over-clause-ends g c =
    over-ends c.loop.invariant.going.0 c.loop.session _ _ _ _ c.loop.invariant.going.1 refl (λ w. refl) c.journal-then-over.result.now c.journal-then-over.ensures.settings c.journal-then-over.ensures.entries
    (sym c.over.ensures ∙ c.if-over.true) (subst (λ (x : Settings). IsProper x []) (sym c.loop.invariant.settings) c.requires.proper) c.in_ok-written.written c.in_ok-written.ensures.ends

pub returns-in-Broken-clause-ends : goal.returns-in-Broken-clause-ends
returns-in-Broken-clause-ends g c =
    let t = c.in_ok-written-2.ensures.takes in
    stop-by c.loop.invariant.going.0 t.0 c.loop.session _ _ _ _ _ _ c.loop.invariant.going.1
    (subst (λ (x : Settings). IsProper x []) (sym c.loop.invariant.settings) c.requires.proper) (sym c.over.ensures ∙ c.if-over.false) c.in_ok-written-2.written c.in-Broken.performed c.in-Broken.is t.1

pub loop-preserved : goal.loop-preserved
loop-preserved g c =
    let t = c.in_ok-written-2.ensures.takes in
    let none = takes-whole t.0 c.loop.session _ _ _ _ _ c.in_ok-written-2.written c.in_default.not-Broken t.1 in
    record {
      going = (
        c.loop.invariant.going.0 ++ t.0 ∷ [],
        going-next c.loop.invariant.going.0 t.0 c.loop.session _ _ _ _ _ _ c.loop.invariant.going.1
            (subst (λ (x : Settings). IsProper x []) (sym c.loop.invariant.settings) c.requires.proper) (sym c.over.ensures ∙ c.if-over.false) none,
      );
      reports = c.in_ok-written-2.ensures.follows;
      settings = none.settings ∙ c.loop.invariant.settings;
      made = c.take_news.ensures.made ∙ c.loop.invariant.made;
      someone = someone-still t.0 c.loop.session _ _ _ _ _ none c.loop.invariant.someone;
      still = c.in_ok-written-2.ensures.counted.still (ap is_whole (whole-of c.in_ok-written-2.written c.in_default.not-Broken)) ∙ c.loop.invariant.still;
    }
