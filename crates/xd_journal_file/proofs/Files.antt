-- Files that begin with messages of journals.
use Rattle.std.proofs.Common.{◌≡◌, ◌≢◌, ℕ, zero, suc, ◌+◌, ◌<◌, ◌≤◌, inl, inr, List, [], ◌∷◌, ◌++◌, map, length, refl, sym, ap, ap₂, subst, ◌∙◌, arith, append_assoc, length-append}
use Rattle.std.specs.List.{AllByRecursion}
use Rattle.std.proofs.lemmas.Bool.{cases_lt}
use Rattle.std.proofs.lemmas.List.{append-nil, append_cancel_left, map-append}
use Rattle.std.proofs.lemmas.List.Concat.{flat_map-append}
use Rattle.xd_value.specs.Tree.{Tree}
use Rattle.xd_value.specs.Canonical.{canonical}
use Rattle.xd_value.proofs.OneAnswer.{one_payload}
use Rattle.xd_frame.specs.Message.{MessageView, IsMessage, frame, frames}
use Rattle.xd_frame.specs.Stream.{messages}
use Rattle.xd_frame.proofs.Longest.{messages-frames}
use Rattle.xd_journal.specs.declared.entry.Entry.{Entry}
use Rattle.xd_journal.specs.declared.journal.Journal.{Journal}
use Rattle.xd_journal.specs.declared.settings.Settings.{Settings}
use Rattle.xd_journal_file.specs.Written.{entry_tree, settings_tree}
use Rattle.xd_journal_file.specs.FileOf.{AreWritable, BeginsFile, FitsMessage, HasForm, IsBadAt, IsFileOf, IsWritable, journal_messages, message_of_value}
use Rattle.xd_journal_file.proofs.ReadBack.{same_entries, same_settings}

-- lists

-- a list in which something stands after the first n
record Parts {A : Type 0} (n : ℕ) (xs : List A) : Type 0 where
  front : List A
  x : A
  back : List A
  whole : xs ≡ front ++ x ∷ back
  size : n ≡ length front

parted : {A : Type 0} (n : ℕ) (xs : List A) → n < length xs → Parts n xs
parted n [] lt = absurd (omega arith)
parted zero (x ∷ xs) lt = record { front = []; x = x; back = xs; whole = refl; size = refl }
parted (suc n) (x ∷ xs) lt = (let p = parted n xs (omega arith) in record { front = x ∷ p.front; x = p.x; back = p.back; whole = ap (λ l. x ∷ l) p.whole; size = ap suc p.size })

same_front : {A : Type 0} (a b x y : List A) → length a ≡ length b → a ++ x ≡ b ++ y → a ≡ b
same_front [] [] x y n e = refl
same_front [] (b ∷ bs) x y n e = absurd (omega arith)
same_front (a ∷ xs) [] x y n e = absurd (omega arith)
same_front (a ∷ xs) (b ∷ bs) x y n e = (let k = same_front xs bs x y (omega arith) cc in cc)

all_front : {A : Type 0} (P : A → Type 0) (xs ys : List A) → AllByRecursion P (xs ++ ys) → AllByRecursion P xs × AllByRecursion P ys
all_front P [] ys h = (tt, h)
all_front P (x ∷ xs) ys h = (let k = all_front P xs ys h.1 in ((h.0, k.0), k.1))

pub all_more : {A : Type 0} (P : A → Type 0) (xs : List A) (x : A) → AllByRecursion P xs → P x → AllByRecursion P (xs ++ x ∷ [])
all_more P [] x h p = (p, tt)
all_more P (y ∷ xs) x h p = (h.0, all_more P xs x h.1 p)

-- messages

abbrev pub entry_message : Entry → MessageView
entry_message e = message_of_value (entry_tree e)

fits_message : (t : Tree) → FitsMessage t → IsMessage (message_of_value t)
fits_message t h = record { channel = omega arith; payload = h.short }

entries_are : (es : List Entry) → AllByRecursion IsWritable es → AllByRecursion IsMessage (map entry_message es)
entries_are [] h = tt
entries_are (e ∷ es) h = (fits_message (entry_tree e) h.0.fits, entries_are es h.1)

all_are : (s : Settings) (es : List Entry) → AreWritable s → AllByRecursion IsWritable es → AllByRecursion IsMessage (journal_messages s es)
all_are s es h k = (fits_message (settings_tree s) h.fits, entries_are es k)

size : (es : List Entry) → length (map entry_message es) ≡ length es
size [] = refl
size (e ∷ es) = ap suc (size es)

-- two lists of as many messages with which the same bytes begin
same_start : (ms ns : List MessageView) (x y : List ℕ) → AllByRecursion IsMessage ms → AllByRecursion IsMessage ns → length ms ≡ length ns → frames ms ++ x ≡ frames ns ++ y → (ms ≡ ns) × (x ≡ y)
same_start ms ns x y h k n e =
    let is : ms ≡ ns = same_front ms ns (messages x) (messages y) n (sym (messages-frames ms x h) ∙ (ap messages e ∙ messages-frames ns y k)) in
    (is, append_cancel_left (frames ms) x y (e ∙ ap (λ l. frames l ++ y) (sym is)))

-- the messages of one entry more
more_messages : (s : Settings) (front : List Entry) (e : Entry) (back : List Entry) → frames (journal_messages s (front ++ e ∷ back)) ≡ frames (journal_messages s front) ++ (frame (entry_message e) ++ frames (map entry_message back))
more_messages s front e back =
    ap (λ l. frames (message_of_value (settings_tree s) ∷ l)) (map-append entry_message front (e ∷ back))
    ∙ flat_map-append frame (journal_messages s front) (map entry_message (e ∷ back))

pub next_messages : (s : Settings) (es : List Entry) (e : Entry) → frames (journal_messages s (es ++ e ∷ [])) ≡ frames (journal_messages s es) ++ frame (entry_message e)
next_messages s es e = more_messages s es e [] ∙ ap (λ b. frames (journal_messages s es) ++ b) (append-nil (frame (entry_message e)))

-- what follows the messages of some entries begins with one more, where the bytes are also those of more entries
record Next (bytes : List ℕ) : Type 0 where
  entry : Entry
  following : List ℕ
  writable : IsWritable entry
  parts : bytes ≡ frame (entry_message entry) ++ following

one_more : (s r : Settings) (es fs : List Entry) (bytes x y : List ℕ) → BeginsFile s es bytes x → BeginsFile r fs bytes y → length es < length fs → Next x
one_more s r es fs bytes x y h k lt =
    let p = parted (length es) fs lt in
    let fit = all_front IsWritable p.front (p.x ∷ p.back) (subst (AllByRecursion IsWritable) p.whole k.entries_fit) in
    let tail = frame (entry_message p.x) ++ frames (map entry_message p.back) in
    let other : bytes ≡ frames (journal_messages r p.front) ++ (tail ++ y) =
    k.whole ∙ (ap (λ l. frames (journal_messages r l) ++ y) p.whole ∙ (ap (λ b. b ++ y) (more_messages r p.front p.x p.back) ∙ append_assoc (frames (journal_messages r p.front)) tail y)) in
    let same = same_start (journal_messages s es) (journal_messages r p.front) x (tail ++ y) (all_are s es h.settings_fit h.entries_fit) (all_are r p.front k.settings_fit fit.0)
    (ap suc (size es ∙ (p.size ∙ sym (size p.front)))) (sym h.whole ∙ other) in
    record {
      entry = p.x;
      following = frames (map entry_message p.back) ++ y;
      writable = fit.1.0;
      parts = same.1 ∙ append_assoc (frame (entry_message p.x)) (frames (map entry_message p.back)) y;
    }

no_next : Next [] → ⊥
no_next n = (let e = ap length n.parts in let l = length-append (frame (entry_message n.entry)) n.following in absurd (omega (arith, e, l)))

-- two readings of the same bytes with as many entries
same_end : (s r : Settings) (es fs : List Entry) (bytes x y : List ℕ) → BeginsFile s es bytes x → BeginsFile r fs bytes y → length es ≡ length fs → (journal_messages s es ≡ journal_messages r fs) × (x ≡ y)
same_end s r es fs bytes x y h k n =
    same_start (journal_messages s es) (journal_messages r fs) x y (all_are s es h.settings_fit h.entries_fit) (all_are r fs k.settings_fit k.entries_fit) (ap suc (size es ∙ (n ∙ sym (size fs)))) (sym h.whole ∙ k.whole)

-- a file is one that begins so, and ends
begins : (j : Journal) (bytes : List ℕ) → IsFileOf j bytes → BeginsFile j.settings j.entries.items bytes []
begins j bytes h = record { settings_fit = h.settings_fit; entries_fit = h.entries_fit; whole = h.whole ∙ sym (append-nil _) }

-- one entry more
pub begins_more : (s : Settings) (es : List Entry) (e : Entry) (bytes rest following : List ℕ) → BeginsFile s es bytes rest → IsWritable e → rest ≡ frame (entry_message e) ++ following → BeginsFile s (es ++ e ∷ []) bytes following
begins_more s es e bytes rest following h w is =
    record {
      settings_fit = h.settings_fit;
      entries_fit = all_more IsWritable es e h.entries_fit w;
      whole = h.whole ∙ (ap (λ b. frames (journal_messages s es) ++ b) is ∙ (sym (append_assoc (frames (journal_messages s es)) (frame (entry_message e)) following) ∙ ap (λ b. b ++ following) (sym (next_messages s es e))));
    }

-- ---- wrong files

pub bad_first : (bytes : List ℕ) → ((s : Settings) (following : List ℕ) → AreWritable s → bytes ≢ frame (message_of_value (settings_tree s)) ++ following) → IsBadAt 0 bytes
bad_first bytes none =
    let no : HasForm 1 bytes → ⊥ = λ f. none f.0 f.2 f.4.settings_fit (f.4.whole ∙ first_message f.0 f.1 f.2 f.3) in
    record {
      before = tt;
      not_after = no;
      no_file = λ j h. none j.settings (frames (map entry_message j.entries.items)) h.settings_fit h.whole;
    }
  where
    first_message : (s : Settings) (es : List Entry) (y : List ℕ) → 0 ≡ length es → frames (journal_messages s es) ++ y ≡ frame (message_of_value (settings_tree s)) ++ y
    first_message s [] y n = ap (λ b. b ++ y) (append-nil (frame (message_of_value (settings_tree s))))
    first_message s (e ∷ es) y n = absurd (omega arith)

pub bad_next : (s : Settings) (es : List Entry) (bytes rest : List ℕ) → BeginsFile s es bytes rest → rest ≢ []
    → ((e : Entry) (following : List ℕ) → IsWritable e → rest ≢ frame (entry_message e) ++ following) → IsBadAt (length es + 1) bytes
bad_next s es bytes rest h some none =
    let stop : Next rest → ⊥ = λ n. none n.entry n.following n.writable n.parts in
    let number : suc (length es) ≡ length es + 1 = omega arith in
    subst (λ n. IsBadAt n bytes) number (record {
      before = (s, es, rest, refl, h);
      not_after = λ f. stop (one_more s f.0 es f.1 bytes rest f.2 h f.4 (omega (arith, f.3)));
      no_file = λ j k. elim (cases_lt (length es) (length j.entries.items)) [
        | inl lt ↦ stop (one_more s j.settings es j.entries.items bytes rest [] h (begins j bytes k) lt)
        | inr le ↦ elim (cases_lt (length j.entries.items) (length es)) [
          | inl lt ↦ no_next (one_more j.settings s j.entries.items es bytes [] rest (begins j bytes k) h lt)
          | inr ge ↦ some (same_end s j.settings es j.entries.items bytes rest [] h (begins j bytes k) (omega arith)).1
        ]
      ];
    })

-- a file whose messages are all read
pub ended : (j : Journal) (bytes rest : List ℕ) → BeginsFile j.settings j.entries.items bytes rest → rest ≡ [] → IsFileOf j bytes
ended j bytes rest h e =
    record { settings_fit = h.settings_fit; entries_fit = h.entries_fit; whole = h.whole ∙ (ap (λ b. frames (journal_messages j.settings j.entries.items) ++ b) e ∙ append-nil _) }

-- the settings alone
pub begun : (s : Settings) (bytes rest : List ℕ) → AreWritable s → bytes ≡ frame (message_of_value (settings_tree s)) ++ rest → BeginsFile s [] bytes rest
begun s bytes rest w e =
    record { settings_fit = w; entries_fit = tt; whole = e ∙ ap (λ b. b ++ rest) (sym (append-nil (frame (message_of_value (settings_tree s))))) }

-- ---- the law

value_same : (t u : Tree) → FitsMessage t → FitsMessage u → message_of_value t ≡ message_of_value u → t ≡ u
value_same t u h k e =
    (one_payload t u (canonical t) (canonical u) [] h.payload k.payload (sym (ap (λ (m : MessageView). m.payload) e) ∙ sym (append-nil (canonical t)))).0

entries_same : (es fs : List Entry) → AllByRecursion IsWritable es → AllByRecursion IsWritable fs → map entry_message es ≡ map entry_message fs → es ≡ fs
entries_same [] [] h k e = refl
entries_same [] (f ∷ fs) h k e = cc
entries_same (e ∷ es) [] h k is = cc
entries_same (e ∷ es) (f ∷ fs) h k is =
    let here : e ≡ f = same_entries e f h.0.sized k.0.sized (value_same (entry_tree e) (entry_tree f) h.0.fits k.0.fits cc) in
    let more : es ≡ fs = entries_same es fs h.1 k.1 cc in
    ap₂ (λ x xs. x ∷ xs) here more

same_journal : (s r : Settings) (es fs : List Entry) (bytes : List ℕ) → BeginsFile s es bytes [] → BeginsFile r fs bytes [] → (s ≡ r) × (es ≡ fs)
same_journal s r es fs bytes h k =
    elim (cases_lt (length es) (length fs)) [
      | inl lt ↦ absurd (no_next (one_more s r es fs bytes [] [] h k lt))
      | inr le ↦ elim (cases_lt (length fs) (length es)) [
        | inl lt ↦ absurd (no_next (one_more r s fs es bytes [] [] k h lt))
        | inr ge ↦ equal (same_end s r es fs bytes [] [] h k (omega arith)).0
      ]
    ]
  where
    equal : journal_messages s es ≡ journal_messages r fs → (s ≡ r) × (es ≡ fs)
    equal e = (
      same_settings s r h.settings_fit.sized k.settings_fit.sized (value_same (settings_tree s) (settings_tree r) h.settings_fit.fits k.settings_fit.fits cc),
      entries_same es fs h.entries_fit k.entries_fit cc,
    )

pub one_journal : (i j : Journal) (bytes : List ℕ) → IsFileOf i bytes → IsFileOf j bytes → (i.settings ≡ j.settings) × (i.entries.items ≡ j.entries.items)
one_journal i j bytes h k = same_journal i.settings j.settings i.entries.items j.entries.items bytes (begins i bytes h) (begins j bytes k)

-- fewer messages of the form
fewer : (n m : ℕ) (bytes : List ℕ) → n ≤ m → HasForm m bytes → HasForm n bytes
fewer zero m bytes le h = tt
fewer (suc n) zero bytes le h = absurd (omega arith)
fewer (suc n) (suc m) bytes le h = elim (cases_lt n m) [
  | inl lt ↦ first (parted n h.1 (omega (arith, h.3)))
  | inr ge ↦ (h.0, h.1, h.2, (let size = h.3 in omega (arith, size)), h.4)
]
  where
    first : Parts n h.1 → HasForm (suc n) bytes
    first p =
        let tail = frame (entry_message p.x) ++ frames (map entry_message p.back) in (
          h.0,
          p.front,
          tail ++ h.2,
          p.size,
          record {
            settings_fit = h.4.settings_fit;
            entries_fit = (all_front IsWritable p.front (p.x ∷ p.back) (subst (AllByRecursion IsWritable) p.whole h.4.entries_fit)).0;
            whole = h.4.whole ∙ (ap (λ l. frames (journal_messages h.0 l) ++ h.2) p.whole ∙ (ap (λ b. b ++ h.2) (more_messages h.0 p.front p.x p.back) ∙ append_assoc (frames (journal_messages h.0 p.front)) tail h.2));
          },
        )

pub one_bad : (n m : ℕ) (bytes : List ℕ) → IsBadAt n bytes → IsBadAt m bytes → n ≡ m
one_bad n m bytes h k =
    elim (cases_lt n m) [
      | inl lt ↦ absurd (h.not_after (fewer (suc n) m bytes lt k.before))
      | inr le ↦ elim (cases_lt m n) [
        | inl lt ↦ absurd (k.not_after (fewer (suc m) n bytes lt h.before))
        | inr ge ↦ omega arith
      ]
    ]
