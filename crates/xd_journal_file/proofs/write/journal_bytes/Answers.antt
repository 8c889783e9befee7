use Rattle.std.proofs.Common.{◌≡◌, ◌<◌, ◌≤◌, List, length, get_or, subst}
use Rattle.xd_journal.specs.declared.entry.Entry.{Entry}
use Rattle.xd_value.specs.Canonical.{canonical}
use Rattle.xd_journal_file.specs.FileOf.{IsTooLongAt, IsWritable}
use Rattle.xd_journal_file.specs.Written.{entry_tree}
use Rattle.xd_journal_file.specs.inner.Steps.{IsTooLong}
use Rattle.xd_journal_file.proofs.Found.{same_place, too_long_at, when_none, when_some, writes_more, wrote_all}
use Rattle.xd_journal_file.proofs.write.journal_bytes.Goals as goal

pub returns-in_default-clause-long : goal.returns-in_default-clause-long
returns-in_default-clause-long c = λ place same.
    let es = c.args.journal.now.entries.items in
    let e = c.entry-item.result in
    let items = c.deref-entry-items.ensures.value in
    let lt = subst (λ (l : List Entry). c.loop-place.place < length l) items c.loop-place-test.true in
    let is = subst (λ (l : List Entry). e ≡ get_or l c.loop-place.place e) items c.entry-item.is in
    let long = when_none c.in_ok-payload.field-0 (IsTooLong (entry_tree e)) (λ b. (b ≡ canonical (entry_tree e)) × IsWritable e) c.in_default.is c.in_ok-payload.ensures in
    subst (λ n. IsTooLongAt n es) (same_place c.loop-place.place place same) (too_long_at es c.loop-place.place e lt is c.loop-place.invariant.entries_fit long)

pub loop-place-preserved : goal.loop-place-preserved
loop-place-preserved c =
    let es = c.args.journal.now.entries.items in
    let e = c.entry-item.result in
    let items = c.deref-entry-items.ensures.value in
    let lt = subst (λ (l : List Entry). c.loop-place.place < length l) items c.loop-place-test.true in
    let is = subst (λ (l : List Entry). e ≡ get_or l c.loop-place.place e) items c.entry-item.is in
    let has = when_some c.in_ok-payload.field-0 c.in-Some.payload (IsTooLong (entry_tree e)) (λ b. (b ≡ canonical (entry_tree e)) × IsWritable e) c.in-Some.is c.in_ok-payload.ensures in
    writes_more c.args.journal.now.settings es c.loop-place.place e c.loop-place.bytes.items c.push_item-in-loop-place.new.bytes.items c.in-Some.payload lt is c.loop-place.invariant has.0 has.1 c.in_ok-push_item-2.ensures

pub returns-clause-file : goal.returns-clause-file
returns-clause-file c =
    let all = subst (λ (l : List Entry). length l ≤ c.loop-place.place) c.deref-entry-items.ensures.value c.loop-place-test.false in
    wrote_all c.args.journal.now c.loop-place.place c.loop-place.bytes.items c.from_vec.result all c.loop-place.invariant c.from_vec.ensures
