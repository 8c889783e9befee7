-- What was found, step by step.
use Rattle.std.proofs.Common.{◌≡◌, ◌≢◌, ℕ, ◌==◌, true, false, Result, Err, ◌+◌, ◌<◌, ◌≤◌, List, [], ◌∷◌, ◌++◌, take, drop, length, get_or, Option, Some, None, option_map, refl, sym, ap, subst, ◌∙◌, arith, append_assoc, take-append-drop}
use Rattle.std.specs.Prelude.{MatchOption}
use Rattle.std.specs.List.{AllByRecursion}
use Rattle.std.proofs.lemmas.List.{append-nil, take_all, take_more, length-take-le}
use Rattle.std.proofs.lemmas.Bool.{eqb-true}
use Rattle.std.proofs.lemmas.Option.{same_Some}
use Rattle.xd_value.specs.Tree.{Tree}
use Rattle.xd_value.specs.Canonical.{canonical}
use Rattle.xd_value.specs.View.{view}
use Rattle.xd_value.specs.declared.value.Value.{Value}
use Rattle.xd_frame.specs.Message.{frame, frames, max_payload}
use Rattle.xd_journal.specs.declared.entry.Entry.{Entry}
use Rattle.xd_journal.specs.declared.journal.Journal.{Journal}
use Rattle.xd_journal.specs.declared.settings.Settings.{Settings}
use Rattle.xd_journal_file.specs.Written.{entry_tree, settings_tree}
use Rattle.xd_journal_file.specs.Sizes.{IsSizedEntry, AreSizedSettings}
use Rattle.xd_journal_file.specs.FileOf.{BeginsFile, IsFileOf, IsTooLongAt, IsWritable, item_with, journal_messages}
use Rattle.xd_edge.specs.declared.blob.Blob.{Blob}
use Rattle.xd_journal_file.specs.declared.read.FormFault.{FormFault}
use Rattle.xd_journal_file.specs.declared.write.JournalFault.{JournalFault}
use Rattle.xd_journal_file.specs.declared.read.FormFault.TheVariants.{Bad}
use Rattle.xd_journal_file.specs.declared.write.JournalFault.TheVariants.{TooLong}
use Rattle.xd_journal_file.specs.inner.Reading.{tree_entry, tree_settings}
use Rattle.xd_journal_file.proofs.Files.{all_more, begins_more, ended, next_messages}
use Rattle.xd_journal_file.proofs.Items.{item_message}
use Rattle.xd_journal_file.specs.inner.Steps.{BeginsItem}
use Rattle.xd_journal_file.proofs.ReadBack.{entry_read, settings_read}

pub when_none : {A : Type 0} (o : Option A) (P : Type 0) (Q : A → Type 0) → o ≡ None → MatchOption o P Q → P
when_none None P Q e h = h
when_none (Some a) P Q e h = cc

pub when_some : {A : Type 0} (o : Option A) (a : A) (P : Type 0) (Q : A → Type 0) → o ≡ Some a → MatchOption o P Q → Q a
when_some None a P Q e h = cc
when_some (Some b) a P Q e h = subst Q (same_Some b a e) h

pub not_none : (found : Option Value) (t : Tree) → found ≡ None → option_map view found ≡ Some t → ⊥
not_none None t e is = cc
not_none (Some v) t e is = cc

pub found_entry : (found : Option Value) (v : Value) (e : Entry) (r : Option Entry) → found ≡ Some v → option_map view found ≡ Some (entry_tree e) → r ≡ tree_entry (view v) → IsSizedEntry e → r ≡ Some e
found_entry found v e r there is read sized = read ∙ (ap tree_entry (same_Some _ _ (sym (ap (option_map view) there) ∙ is)) ∙ entry_read e sized)

pub found_settings : (found : Option Value) (v : Value) (s : Settings) (r : Option Settings) → found ≡ Some v → option_map view found ≡ Some (settings_tree s) → r ≡ tree_settings (view v) → AreSizedSettings s → r ≡ Some s
found_settings found v s r there is read sized = read ∙ (ap tree_settings (same_Some _ _ (sym (ap (option_map view) there) ∙ is)) ∙ settings_read s sized)

-- the entry at a place, between those before and after it
at_place : (es : List Entry) (i : ℕ) (e : Entry) → i < length es → e ≡ get_or es i e → es ≡ take i es ++ e ∷ drop (i + 1) es
at_place es i e lt is =
    sym (take-append-drop (i + 1) es) ∙ (ap (λ l. l ++ drop (i + 1) es) (take_more es i e lt ∙ ap (λ x. take i es ++ x ∷ []) (sym is)) ∙ append_assoc (take i es) (e ∷ []) (drop (i + 1) es))

pub too_long_at : (es : List Entry) (i : ℕ) (e : Entry) → i < length es → e ≡ get_or es i e → AllByRecursion IsWritable (take i es) → max_payload < length (canonical (entry_tree e)) → IsTooLongAt i es
too_long_at es i e lt is fit long =
    record { before = take i es; entry = e; after = drop (i + 1) es; parts = at_place es i e lt is; place_is = sym (length-take-le i es (omega arith)); fit = fit; long = long }

pub writes_more : (s : Settings) (es : List Entry) (i : ℕ) (e : Entry) (b c p : List ℕ) → i < length es → e ≡ get_or es i e → BeginsFile s (take i es) b [] → p ≡ canonical (entry_tree e) → IsWritable e → c ≡ b ++ frame (item_with p) → BeginsFile s (take (i + 1) es) c []
writes_more s es i e b c p lt is h pe w ce =
    let more : take (i + 1) es ≡ take i es ++ e ∷ [] = take_more es i e lt ∙ ap (λ x. take i es ++ x ∷ []) (sym is) in
    let old : b ≡ frames (journal_messages s (take i es)) = h.whole ∙ append-nil _ in
    subst (λ l. BeginsFile s l c []) (sym more) (record {
      settings_fit = h.settings_fit;
      entries_fit = all_more IsWritable (take i es) e h.entries_fit w;
      whole = ce ∙ (ap (λ q. b ++ frame (item_with q)) pe ∙ (ap (λ l. l ++ frame (item_with (canonical (entry_tree e)))) old ∙ (sym (next_messages s (take i es) e) ∙ sym (append-nil _))));
    })

pub wrote_all : (j : Journal) (i : ℕ) (b c : List ℕ) → length j.entries.items ≤ i → BeginsFile j.settings (take i j.entries.items) b [] → c ≡ b → IsFileOf j c
wrote_all j i b c le h e =
    subst (IsFileOf j) (sym e) (ended j b [] (subst (λ l. BeginsFile j.settings l b []) (take_all i j.entries.items le) h) refl)

pub reads_more : (j k : Journal) (e : Entry) (bytes rest p following : List ℕ) → BeginsFile j.settings j.entries.items bytes rest → BeginsItem rest p following → p ≡ canonical (entry_tree e) → IsWritable e
    → k.entries.items ≡ j.entries.items ++ e ∷ [] → k.settings ≡ j.settings → BeginsFile k.settings k.entries.items bytes following
reads_more j k e bytes rest p following h item pe w entries settings =
    let more = begins_more j.settings j.entries.items e bytes rest following h w (item_message rest p following (entry_tree e) item pe) in
    subst (λ s. BeginsFile s k.entries.items bytes following) (sym settings) (subst (λ es. BeginsFile j.settings es bytes following) (sym entries) more)

-- ---- wrong files

pub not_empty : (bytes : List ℕ) → (length bytes == 0) ≡ false → bytes ≢ []
not_empty bytes e is = (let zero : (length bytes == 0) ≡ true = ap (λ (b : List ℕ). length b == 0) is in cc)

pub empty : (bytes : List ℕ) → (length bytes == 0) ≡ true → bytes ≡ []
empty [] e = refl
empty (b ∷ bytes) e = (let zero = eqb-true (length (b ∷ bytes)) 0 e in absurd (omega (arith, zero)))

pub same_number : (n m : ℕ) → ◌≡◌ {A = Result Journal FormFault} (Err (Bad n)) (Err (Bad m)) → n ≡ m
same_number n m e = cc

pub same_place : (n m : ℕ) → ◌≡◌ {A = Result Blob JournalFault} (Err (TooLong n)) (Err (TooLong m)) → n ≡ m
same_place n m e = cc
