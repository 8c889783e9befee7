-- What is written is read back.
use Rattle.std.proofs.Common.{◌≡◌, ℕ, ℤ, Bool, ◌∷◌, Option, Some, None, option_map, refl, ap, sym, ◌∙◌, if◌then◌else◌}
use Rattle.std.specs.Prelude.{pos, negsuc, codes}
use Rattle.std.proofs.lemmas.Bool.{lt-ltb}
use Rattle.std.proofs.lemmas.Option.{same_Some}
use Rattle.xd_edge.specs.declared.mode.ModeKind.{ModeKind}
use Rattle.xd_edge.specs.declared.mode.ModeKind.TheVariants.{Local, Each, Load, LoadScope, LoadFile, LoadGroup, WorkSteal}
use Rattle.xd_value.specs.Tree.{text}
use Rattle.xd_value.specs.View.{trees_of}
use Rattle.xd_commands.specs.Kwargs.{test_index_of}
use Rattle.xd_commands.proofs.ReadBack.{texts_read, number_read, indices_read}
use Rattle.xd_journal.specs.declared.settings.Settings.{Settings}
use Rattle.xd_journal.specs.declared.entry.Ids.{Ids}
use Rattle.xd_journal.specs.declared.entry.Ids.TheVariants as ids
use Rattle.xd_journal.specs.declared.entry.Outcome.{Outcome}
use Rattle.xd_journal.specs.declared.entry.Outcome.TheVariants.{Passed, Skipped, Failed}
use Rattle.xd_journal.specs.declared.entry.Cause.{Cause}
use Rattle.xd_journal.specs.declared.entry.Cause.TheVariants as cause
use Rattle.xd_journal.specs.declared.entry.RunStop.{RunStop}
use Rattle.xd_journal.specs.declared.entry.RunStop.TheVariants.{Completed, MaxFail, Restarts, Unequal, CollectError, OutFault}
use Rattle.xd_journal.specs.declared.entry.Entry.{Entry}
use Rattle.xd_journal.specs.declared.entry.Entry.TheVariants.{Ready, Collected, Done, Back, Finished, Refused, Down, NotStarted, Start, Run, RunAll, Steal, Shutdown, Kill, Over}
use Rattle.xd_journal_file.specs.Sizes.{Is32, IsSigned32, HasCode32, IsStop32, IsSizedEntry, IsOptional32, AreSizedSettings}
use Rattle.xd_journal_file.specs.Written.{cause_word, entry_tree, ids_tree, mode_word, number_tree, optional_tree, outcome_tree, settings_tree, stop_trees}
use Rattle.xd_journal_file.specs.inner.Reading.{any_mode_of_word, cause_of_word, chunk_in_tree, code_in_range, ids_in_tree, outcome_in_tree, stop_in_fields, tree_entry, tree_settings}

-- a number of 32 bits
one : (n : ℕ) → Is32 n → test_index_of (number_tree n) ≡ Some n
one n h = number_read n 4294967296 h

ids_read : (given : Ids) → ids_in_tree (ids_tree given) ≡ Some given
ids_read (ids.List own) = ap (option_map ids.List) (texts_read own)
ids_read ids.Same = refl

code_read : (z : ℤ) → IsSigned32 z → code_in_range z ≡ Some z
code_read (pos n) lt = ap (λ (b : Bool). if b then Some (pos n) else None) (lt-ltb n 2147483648 lt)
code_read (negsuc n) lt = ap (λ (b : Bool). if b then Some (negsuc n) else None) (lt-ltb n 2147483648 lt)

outcome_read : (o : Outcome) → HasCode32 o → outcome_in_tree (outcome_tree o) ≡ Some o
outcome_read Passed h = refl
outcome_read Skipped h = refl
outcome_read (Failed code) h = ap (option_map Failed) (code_read code h)

cause_read : (c : Cause) → cause_of_word (cause_word c) ≡ Some c
cause_read cause.Ended = refl
cause_read cause.Cut = refl
cause_read cause.Garbled = refl
cause_read cause.ReadFault = refl
cause_read cause.SendFault = refl
cause_read cause.Breach = refl

mode_read : (m : ModeKind) → any_mode_of_word (mode_word m) ≡ Some m
mode_read Local = refl
mode_read Each = refl
mode_read Load = refl
mode_read LoadScope = refl
mode_read LoadFile = refl
mode_read LoadGroup = refl
mode_read WorkSteal = refl

chunk_read : (c : Option ℕ) → IsOptional32 c → chunk_in_tree (optional_tree c) ≡ Some c
chunk_read None h = refl
chunk_read (Some n) h = ap (option_map Some) (number_read n 4294967296 h)

-- the fields of a stop stand after the name of its entry
stop_read : (how : RunStop) → IsStop32 how → stop_in_fields (trees_of (text (codes "over") ∷ stop_trees how)) ≡ Some how
stop_read Completed h = refl
stop_read (MaxFail count) h = ap (option_map MaxFail) (one count h)
stop_read (Restarts w limit) h = rw (one w h.0, one limit h.1) refl
stop_read (Unequal w other place) h = rw (one w h.0, one other h.1, one place h.2) refl
stop_read (CollectError w) h = ap (option_map CollectError) (one w h)
stop_read OutFault h = refl

pub entry_read : (e : Entry) → IsSizedEntry e → tree_entry (entry_tree e) ≡ Some e
entry_read (Ready w) h = rw (one w h) refl
entry_read (Collected w given) h = rw (one w h, ids_read given) refl
entry_read (Done w i o ms b) h = rw (one w h.0, one i h.1, outcome_read o h.2, number_read ms 18446744073709551616 h.3) refl
entry_read (Back w ns) h = rw (one w h.0, indices_read ns h.1) refl
entry_read (Finished w) h = rw (one w h) refl
entry_read (Refused w t) h = rw (one w h) refl
entry_read (Down w c b) h = rw (one w h, cause_read c) refl
entry_read (NotStarted w) h = rw (one w h) refl
entry_read (Start w slot) h = rw (one w h.0, one slot h.1) refl
entry_read (Run w ns) h = rw (one w h.0, indices_read ns h.1) refl
entry_read (RunAll w) h = rw (one w h) refl
entry_read (Steal w ns) h = rw (one w h.0, indices_read ns h.1) refl
entry_read (Shutdown w) h = rw (one w h) refl
entry_read (Kill w) h = rw (one w h) refl
entry_read (Over how) h = ap (option_map Over) (stop_read how h)

pub settings_read : (s : Settings) → AreSizedSettings s → tree_settings (settings_tree s) ≡ Some s
settings_read s h = rw (mode_read s.mode, one s.workers h.workers, one s.maxfail h.maxfail, one s.restarts h.restarts, chunk_read s.chunk h.chunk, one s.retries h.retries) refl

-- settings, and entries, are the same where their values are
pub same_settings : (s r : Settings) → AreSizedSettings s → AreSizedSettings r → settings_tree s ≡ settings_tree r → s ≡ r
same_settings s r h k e = same_Some _ _ (sym (settings_read s h) ∙ (ap tree_settings e ∙ settings_read r k))

pub same_entries : (a b : Entry) → IsSizedEntry a → IsSizedEntry b → entry_tree a ≡ entry_tree b → a ≡ b
same_entries a b h k e = same_Some _ _ (sym (entry_read a h) ∙ (ap tree_entry e ∙ entry_read b k))
