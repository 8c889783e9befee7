use Rattle.std.proofs.Common.{◌++◌, List, [], ℕ, take, subst, sym, ◌∙◌, ap, arith}
use Rattle.std.specs.Prelude.{Option}
use Rattle.xd_journal.specs.declared.entry.Entry.{Entry}
use Rattle.xd_run.specs.Sharing.{State}
use Rattle.xd_run.specs.State.{after_entries, no_one, reached}
use Rattle.xd_report.specs.Follows.{Follows}
use Rattle.xd_report.proofs.Moves.{reach}
use Rattle.xd_report.proofs.Texts.{after_effect-step}
use Rattle.xd_replay.specs.Failed.{failed_from, with_id}
use Rattle.xd_replay.proofs.Failures.{failed-step}
use Rattle.xd_replay.proofs.failed.all_failed.Goals as goal

pub loop-entry-preserved : goal.loop-entry-preserved
loop-entry-preserved c =
    let es : List Entry = c.args.journal.now.entries.items in
    let s : State = no_one c.args.journal.now.settings in
    let i = c.loop-entry.entry-index in
    let e : Entry = c.entry-item.result in
    let t : State = after_entries s (take i es) in
    let within = rw (c.deref-entry-items.ensures.value) at c.loop-entry-test.true in
    let here = rw (c.deref-entry-items.ensures.value) at c.entry-item.is in
    record {
      ids = c.in_ok-add_id.ensures ∙ ap (λ (l : List (List ℕ)). l ++ with_id c.in_ok-id.id []) c.loop-entry.invariant.ids
          ∙ ap (λ (o : Option (List ℕ)). failed_from s (take i es) ++ with_id o []) (c.in_ok-id.ensures (reached t e) (reach c.loop-entry.reporter t e c.loop-entry.invariant.follows))
          ∙ sym (failed-step s es i e within here);
      follows = subst (Follows c.note.new.self) (sym (after_effect-step s es i e within here)) (c.in_ok-note.ensures t c.loop-entry.invariant.follows);
    }
