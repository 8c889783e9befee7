use Rattle.std.proofs.Common.{◌≡◌, ◌+◌, length, subst, sym, ap, ◌∙◌, arith}
use Rattle.xd_value.specs.Canonical.{canonical}
use Rattle.xd_journal.specs.declared.entry.Entry.{Entry}
use Rattle.xd_journal.specs.declared.settings.Settings.{Settings}
use Rattle.xd_journal_file.specs.FileOf.{AreWritable, IsBadAt, IsWritable}
use Rattle.xd_journal_file.specs.Written.{entry_tree, settings_tree}
use Rattle.xd_journal_file.proofs.Files.{bad_first, bad_next, ended}
use Rattle.xd_journal_file.proofs.Found.{empty, not_empty, reads_more, same_number, when_none, when_some}
use Rattle.xd_journal_file.proofs.Items.{no_entry_item, no_entry_payload, no_settings_item, no_settings_payload}
use Rattle.xd_journal_file.proofs.read.read_journal.Goals as goal

pub returns-in_default-clause-bad : goal.returns-in_default-clause-bad
returns-in_default-clause-bad c = λ number same.
    subst (λ n. IsBadAt n c.args.bytes.now) (same_number 0 number same) (bad_first c.args.bytes.now (no_settings_item c.args.bytes.now c.in_default.ensures))

pub returns-in_default-2-clause-bad : goal.returns-in_default-2-clause-bad
returns-in_default-2-clause-bad c = λ number same.
    let p = c.in-Some.payload.now in
    let none = when_none c.in_ok-settings.field-0 ((s : Settings) → AreWritable s → p ≡ canonical (settings_tree s) → ⊥) (λ s. AreWritable s × (p ≡ canonical (settings_tree s))) c.in_default-2.is c.in_ok-settings.ensures in
    subst (λ n. IsBadAt n c.args.bytes.now) (same_number 0 number same) (bad_first c.args.bytes.now (no_settings_payload c.args.bytes.now p c.in-Some.after.now c.in-Some.ensures none))

pub returns-then-is_empty-clause-file : goal.returns-then-is_empty-clause-file
returns-then-is_empty-clause-file c =
    ended c.messages.journal c.args.bytes.now c.messages.rest.now c.messages.invariant (empty c.messages.rest.now (sym c.is_empty.ensures ∙ c.if-is_empty.true))

pub returns-in_default-first_item-clause-bad : goal.returns-in_default-first_item-clause-bad
returns-in_default-first_item-clause-bad c = λ number same.
    let rest = c.messages.rest.now in
    let left = not_empty rest (sym c.is_empty.ensures ∙ c.if-is_empty.false) in
    let size : c.len-number.result ≡ length c.messages.journal.entries.items = omega (arith, c.len-number.ensures, c.messages.journal.entries.ok.0) in
    let count : length c.messages.journal.entries.items + 1 ≡ number = ap (λ n. n + 1) (sym size) ∙ same_number (c.len-number.result + 1) number same in
    subst (λ n. IsBadAt n c.args.bytes.now) count (bad_next c.messages.journal.settings c.messages.journal.entries.items c.args.bytes.now rest c.messages.invariant left (no_entry_item rest c.in_default-first_item.ensures))

pub returns-in_default-3-clause-bad : goal.returns-in_default-3-clause-bad
returns-in_default-3-clause-bad c = λ number same.
    let rest = c.messages.rest.now in
    let p = c.in-Some-first_item.payload.now in
    let left = not_empty rest (sym c.is_empty.ensures ∙ c.if-is_empty.false) in
    let none = when_none c.in_ok-entry.field-0 ((e : Entry) → IsWritable e → p ≡ canonical (entry_tree e) → ⊥) (λ e. IsWritable e × (p ≡ canonical (entry_tree e))) c.in_default-3.is c.in_ok-entry.ensures in
    let size : c.len-number.result ≡ length c.messages.journal.entries.items = omega (arith, c.len-number.ensures, c.messages.journal.entries.ok.0) in
    let count : length c.messages.journal.entries.items + 1 ≡ number = ap (λ n. n + 1) (sym size) ∙ same_number (c.len-number.result + 1) number same in
    subst (λ n. IsBadAt n c.args.bytes.now) count (bad_next c.messages.journal.settings c.messages.journal.entries.items c.args.bytes.now rest c.messages.invariant left (no_entry_payload rest p c.in-Some-first_item.after.now c.in-Some-first_item.ensures none))

pub messages-preserved : goal.messages-preserved
messages-preserved c =
    let e = c.in-Some-3.entry in
    let p = c.in-Some-first_item.payload.now in
    let pushed = c.in_ok-push.ensures in
    let has = when_some c.in_ok-entry.field-0 e ((e : Entry) → IsWritable e → p ≡ canonical (entry_tree e) → ⊥) (λ e. IsWritable e × (p ≡ canonical (entry_tree e))) c.in-Some-3.is c.in_ok-entry.ensures in
    reads_more c.messages.journal c.push.new.self e c.args.bytes.now c.messages.rest.now p c.in-Some-first_item.after.now c.messages.invariant c.in-Some-first_item.ensures has.1 has.0 pushed.ok pushed.settings
