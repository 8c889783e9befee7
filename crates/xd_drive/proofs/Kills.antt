-- The kills that are left where the output failed.
use Rattle.std.proofs.Common.{◌≡◌, ℕ, List, [], ◌∷◌, ◌++◌, map, Bool, true, false, not, ◌&&◌, ◌||◌, refl, ap, sym, ◌∙◌, subst, arith, inl, inr}
use Rattle.std.specs.Prelude.{◌==◌, filter, if◌then◌else◌}
use Rattle.std.proofs.lemmas.Bool.Decides.{nat_tests}
use Rattle.xd_journal.specs.declared.settings.Settings.{Settings}
use Rattle.xd_journal.specs.declared.news.News.{News}
use Rattle.xd_journal.specs.declared.entry.RunStop.TheVariants.{OutFault}
use Rattle.xd_journal.specs.declared.entry.Entry.{Entry}
use Rattle.xd_journal.specs.declared.entry.Entry.TheVariants.{Ready, Collected, Done, Back, Finished, Refused, Down, NotStarted, Start, Run, RunAll, Steal, Shutdown, Kill, Over}
use Rattle.xd_run.specs.declared.member.Member.{Member}
use Rattle.xd_run.specs.Books.{Books}
use Rattle.xd_run.specs.Ending.{ending}
use Rattle.xd_run.specs.Numbers.{all_distinct, among}
use Rattle.xd_run.specs.Proper.{IsProper}
use Rattle.xd_session.specs.History.{run_of}
use Rattle.xd_run_laws.proofs.Logic.{and, cases_of, differ, not_true, or-left, or-right, split-and}
use Rattle.xd_run_laws.proofs.Members.{distinct-numbered, has, has-member, numbers}
use Rattle.xd_drive.specs.Agrees.{Agrees}
use Rattle.xd_drive.specs.Marks.{Marks}
use Rattle.xd_drive.specs.Performing.{marks_after, marks_after_entry, all_possible, kills_of_started, possible, was_started}
use Rattle.xd_drive.proofs.Runs.{tidy}
use Rattle.xd_drive.proofs.Turns.{unkilled}

same_number : (w : ℕ) → (w == w) ≡ true
same_number w = grind (arith, nat_tests)

pub possible-both : (slots : ℕ) (marks : ℕ → Marks) (xs ys : List Entry) → all_possible slots marks xs ≡ true → all_possible slots (marks_after xs marks) ys ≡ true → all_possible slots marks (xs ++ ys) ≡ true
possible-both slots marks [] ys a b = b
possible-both slots marks (x ∷ xs) ys a b = (let p = split-and (possible slots marks x) (all_possible slots (marks_after_entry x marks) xs) a in and p.0 (possible-both slots (marks_after_entry x marks) xs ys p.1 b))

-- those who are active can be killed, one after another

has-among : (v : ℕ) (test : Member → Bool) (ms : List Member) → has v test ms ≡ true → among v (numbers ms) ≡ true
has-among v test [] h = absurd (differ h)
has-among v test (m ∷ ms) h = grind (arith, nat_tests, has-among v test ms)

other : (w v : ℕ) (ws : List ℕ) → among w ws ≡ false → among v ws ≡ true → (w == v) ≡ false
other w v [] a b = absurd (differ b)
other w v (x ∷ xs) a b = grind (arith, nat_tests, other w v xs)

with-mark : (a b c : Bool) → (a && not b) ≡ true → c ≡ false → (a && not (b || c)) ≡ true
with-mark true false false h k = refl
with-mark true true c h k = absurd (differ h)
with-mark false b c h k = absurd (differ h)
with-mark true false true h k = absurd (differ (sym k))

abbrev EndGoes : ℕ → (ℕ → Marks) → Member → List Member → Bool → Type 0
EndGoes slots marks m rest b = all_possible slots marks (map (λ (x : Member). Kill x.worker) (if b then m ∷ rest else rest) ++ Over OutFault ∷ []) ≡ true

ending-goes : (slots : ℕ) (marks : ℕ → Marks) (ms : List Member) → all_distinct (numbers ms) ≡ true → ((v : ℕ) → has v (λ m. m.active) ms ≡ true → ((marks v).started && not (marks v).killed) ≡ true)
    → all_possible slots marks (map (λ (m : Member). Kill m.worker) (filter (λ (m : Member). m.active) ms) ++ Over OutFault ∷ []) ≡ true
ending-goes slots marks [] d k = refl
ending-goes slots marks (m ∷ ms) d k = elim (cases_of m.active) [
  | inl on ↦ subst (EndGoes slots marks m (filter (λ (x : Member). x.active) ms)) (sym on)
      (and (k m.worker (or-left (m.worker == m.worker && m.active) (has m.worker (λ x. x.active) ms) (and (same_number m.worker) on))) (ending-goes slots (marks_after_entry (Kill m.worker) marks) ms apart.1 later))
  | inr off ↦ subst (EndGoes slots marks m (filter (λ (x : Member). x.active) ms)) (sym off) (ending-goes slots marks ms apart.1 (λ v h. k v (or-right (m.worker == v && m.active) (has v (λ x. x.active) ms) h)))
]
  where
    apart : (not (among m.worker (numbers ms)) ≡ true) × (all_distinct (numbers ms) ≡ true)
    apart = split-and (not (among m.worker (numbers ms))) (all_distinct (numbers ms)) d

    later : (v : ℕ) → has v (λ x. x.active) ms ≡ true → ((marks v).started && not ((marks v).killed || (m.worker == v))) ≡ true
    later v h = with-mark (marks v).started (marks v).killed (m.worker == v) (k v (or-right (m.worker == v && m.active) (has v (λ x. x.active) ms) h))
        (other m.worker v (numbers ms) (not_true (among m.worker (numbers ms)) apart.0) (has-among v (λ x. x.active) ms h))

pub ending-possible : (settings : Settings) (taken : List News) (slots : ℕ) (b : Books) (marks : ℕ → Marks) → IsProper settings [] → b ≡ (run_of settings taken).state.books → Agrees b marks → all_possible slots marks (ending true b) ≡ true
ending-possible settings taken slots b marks p is a =
    ending-goes slots marks b.members (ap (λ (x : Books). all_distinct (numbers x.members)) is ∙ distinct-numbered (run_of settings taken).state.books.members (tidy settings p taken).members.numbered)
    (λ v h. and (a.started v ∙ has-member v (λ m. m.active) b.members h) (ap not (unkilled b marks a v h)))

-- of what could be performed the kills can be performed alone

not_either : (a b : Bool) → (a || b) ≡ false → (a ≡ false) × (b ≡ false)
not_either false false h = (refl, refl)
not_either true b h = absurd (differ (sym h))
not_either false true h = absurd (differ (sym h))

neither : (a b : Bool) → a ≡ false → b ≡ false → (a || b) ≡ false
neither false false h k = refl
neither true b h k = absurd (differ (sym h))
neither false true h k = absurd (differ (sym k))

abbrev KillsGo : ℕ → (ℕ → Marks) → ℕ → List Entry → Bool → Type 0
KillsGo slots m w rest b = all_possible slots m (if b then Kill w ∷ rest else rest) ≡ true

pub kills-go : (done : List Entry) (s0 s1 : ℕ) (es : List Entry) (marks m : ℕ → Marks) → ((w : ℕ) → was_started w done ≡ true → (m w).started ≡ true) → ((w : ℕ) → (marks w).killed ≡ false → (m w).killed ≡ false)
    → all_possible s0 marks es ≡ true → all_possible s1 m (kills_of_started done es) ≡ true
kills-go done s0 s1 [] marks m f k h = refl
kills-go done s0 s1 (Kill w ∷ es) marks m f k h = elim (cases_of (was_started w done)) [
  | inl was ↦ subst (KillsGo s1 m w (kills_of_started done es)) (sym was) (and (and (f w was) (ap not alive))
      (kills-go done s0 s1 es (marks_after_entry (Kill w) marks) (marks_after_entry (Kill w) m) f (λ v x. (let p = not_either (marks v).killed (w == v) x in neither (m v).killed (w == v) (k v p.0) p.1)) now.1))
  | inr not_so ↦ subst (KillsGo s1 m w (kills_of_started done es)) (sym not_so) (kills-go done s0 s1 es (marks_after_entry (Kill w) marks) m f (λ v x. k v (not_either (marks v).killed (w == v) x).0) now.1)
]
  where
    now : (possible s0 marks (Kill w) ≡ true) × (all_possible s0 (marks_after_entry (Kill w) marks) es ≡ true)
    now = split-and (possible s0 marks (Kill w)) (all_possible s0 (marks_after_entry (Kill w) marks) es) h

    alive : (m w).killed ≡ false
    alive = k w (not_true (marks w).killed (split-and (marks w).started (not (marks w).killed) now.0).1)
kills-go done s0 s1 (Ready w ∷ es) marks m f k h = kills-go done s0 s1 es (marks_after_entry (Ready w) marks) m f k (split-and (possible s0 marks (Ready w)) (all_possible s0 (marks_after_entry (Ready w) marks) es) h).1
kills-go done s0 s1 (Collected w g ∷ es) marks m f k h = kills-go done s0 s1 es (marks_after_entry (Collected w g) marks) m f k (split-and (possible s0 marks (Collected w g)) (all_possible s0 (marks_after_entry (Collected w g) marks) es) h).1
kills-go done s0 s1 (Done w i u o out ∷ es) marks m f k h = kills-go done s0 s1 es (marks_after_entry (Done w i u o out) marks) m f k (split-and (possible s0 marks (Done w i u o out)) (all_possible s0 (marks_after_entry (Done w i u o out) marks) es) h).1
kills-go done s0 s1 (Back w is ∷ es) marks m f k h = kills-go done s0 s1 es (marks_after_entry (Back w is) marks) m f k (split-and (possible s0 marks (Back w is)) (all_possible s0 (marks_after_entry (Back w is) marks) es) h).1
kills-go done s0 s1 (Finished w ∷ es) marks m f k h = kills-go done s0 s1 es (marks_after_entry (Finished w) marks) m f k (split-and (possible s0 marks (Finished w)) (all_possible s0 (marks_after_entry (Finished w) marks) es) h).1
kills-go done s0 s1 (Refused w x ∷ es) marks m f k h = kills-go done s0 s1 es (marks_after_entry (Refused w x) marks) m f k (split-and (possible s0 marks (Refused w x)) (all_possible s0 (marks_after_entry (Refused w x) marks) es) h).1
kills-go done s0 s1 (Down w c o ∷ es) marks m f k h = kills-go done s0 s1 es (marks_after_entry (Down w c o) marks) m f k (split-and (possible s0 marks (Down w c o)) (all_possible s0 (marks_after_entry (Down w c o) marks) es) h).1
kills-go done s0 s1 (NotStarted w ∷ es) marks m f k h = kills-go done s0 s1 es (marks_after_entry (NotStarted w) marks) m f k (split-and (possible s0 marks (NotStarted w)) (all_possible s0 (marks_after_entry (NotStarted w) marks) es) h).1
kills-go done s0 s1 (Start w slot ∷ es) marks m f k h = kills-go done s0 s1 es (marks_after_entry (Start w slot) marks) m f k (split-and (possible s0 marks (Start w slot)) (all_possible s0 (marks_after_entry (Start w slot) marks) es) h).1
kills-go done s0 s1 (Run w is ∷ es) marks m f k h = kills-go done s0 s1 es (marks_after_entry (Run w is) marks) m f k (split-and (possible s0 marks (Run w is)) (all_possible s0 (marks_after_entry (Run w is) marks) es) h).1
kills-go done s0 s1 (RunAll w ∷ es) marks m f k h = kills-go done s0 s1 es (marks_after_entry (RunAll w) marks) m f k (split-and (possible s0 marks (RunAll w)) (all_possible s0 (marks_after_entry (RunAll w) marks) es) h).1
kills-go done s0 s1 (Steal w is ∷ es) marks m f k h = kills-go done s0 s1 es (marks_after_entry (Steal w is) marks) m f k (split-and (possible s0 marks (Steal w is)) (all_possible s0 (marks_after_entry (Steal w is) marks) es) h).1
kills-go done s0 s1 (Shutdown w ∷ es) marks m f k h = kills-go done s0 s1 es (marks_after_entry (Shutdown w) marks) m f k (split-and (possible s0 marks (Shutdown w)) (all_possible s0 (marks_after_entry (Shutdown w) marks) es) h).1
kills-go done s0 s1 (Over how ∷ es) marks m f k h = kills-go done s0 s1 es (marks_after_entry (Over how) marks) m f k (split-and (possible s0 marks (Over how)) (all_possible s0 (marks_after_entry (Over how) marks) es) h).1
