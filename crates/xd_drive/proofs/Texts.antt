-- What stands at the end of a journal prints nothing.
use Rattle.std.proofs.Common.{◌≡◌, ℕ, zero, suc, ◌+◌, ◌≤◌, List, [], ◌∷◌, ◌++◌, map, filter, Bool, true, false, Option, Some, None, refl, ◌∙◌, ap, arith}
use Rattle.std.specs.Prelude.{◌==◌, if◌then◌else◌}
use Rattle.std.specs.List.{list_all}
use Rattle.std.proofs.lemmas.Bool.Decides.{nat_tests}
use Rattle.xd_edge.specs.declared.mode.ModeKind.{ModeKind}
use Rattle.xd_journal.specs.declared.settings.Settings.{Settings}
use Rattle.xd_journal.specs.declared.journal.Journal.{Journal}
use Rattle.xd_journal.specs.declared.entry.RunStop.{RunStop}
use Rattle.xd_journal.specs.declared.entry.RunStop.TheVariants.{Completed, MaxFail, Restarts, Unequal, CollectError, OutFault}
use Rattle.xd_journal.specs.declared.entry.Entry.{Entry}
use Rattle.xd_journal.specs.declared.entry.Entry.TheVariants.{Ready, Collected, Done, Back, Finished, Refused, Down, NotStarted, Start, Run, RunAll, Steal, Shutdown, Kill, Over}
use Rattle.xd_run.specs.declared.member.Member.{Member}
use Rattle.xd_run.specs.Books.{Books}
use Rattle.xd_run.specs.Sharing.{State}
use Rattle.xd_run.specs.State.{after_entries, after_entry, no_one, reached, settled, state_at}
use Rattle.xd_run.specs.Workers.{started}
use Rattle.xd_run.specs.Ending.{ending}
use Rattle.xd_run.specs.Histories.{first_starts, starts_from}
use Rattle.xd_report.specs.declared.counts.Counts.{Counts}
use Rattle.xd_report.specs.Blocks.{block_of, blocks_from}
use Rattle.xd_report.specs.Lines.{last_of_slot, lines_from, lines_of, replacing, run_lines}
use Rattle.xd_report_phrases.specs.StopLine.{line_of_stop, refusal}
use Rattle.xd_report.specs.Summary.{counted, counted_from, counts, summary_text}
use Rattle.xd_report.specs.Tests.{mode_of}
use Rattle.xd_report.specs.Text.{run_tail, run_text, tail_text, text_of}
use Rattle.xd_run_laws.proofs.Logic.{differ, split-and}

pub text-is : (j : Journal) (x : Settings) (es : List Entry) → j.settings ≡ x → j.entries.items ≡ es → text_of j ≡ run_text x es
text-is j x es a b = ap (λ (y : Settings). run_text y j.entries.items) a ∙ ap (run_text x) b

pub tail-is : (j : Journal) (x : Settings) (es : List Entry) → j.settings ≡ x → j.entries.items ≡ es → tail_text j ≡ run_tail x es
tail-is j x es a b = ap (λ (y : Settings). run_tail y j.entries.items) a ∙ ap (run_tail x) b

-- a kill or the end

abbrev pub silent : Entry → Bool
silent (Kill w) = true
silent (Over how) = true
silent _ = false

record Silent (s : State) (e : Entry) : Type 0 where
  next_is : after_entry s e ≡ s
  lines_are : lines_of (reached s e) e ≡ []
  block_is : block_of (reached s e) e ≡ []
  counted_is : (n : Counts) → counted (reached s e) e n ≡ n
  refusal_is : (w : ℕ) → refusal w (e ∷ []) ≡ []

none-counted : (n : Counts) → (record n { failed = n.failed + 0 }) ≡ n
none-counted n = (let same : n.failed + 0 ≡ n.failed = omega arith in ap (λ (k : ℕ). record n { failed = k }) same)

silent-one : (s : State) (e : Entry) → silent e ≡ true → Silent s e
silent-one s (Kill w) h = record { next_is = refl; lines_are = refl; block_is = refl; counted_is = none-counted; refusal_is = λ v. refl }
silent-one s (Over how) h = record { next_is = refl; lines_are = refl; block_is = refl; counted_is = none-counted; refusal_is = λ v. refl }
silent-one s (Ready w) h = absurd (differ h)
silent-one s (Collected w g) h = absurd (differ h)
silent-one s (Done w i u m o) h = absurd (differ h)
silent-one s (Back w is) h = absurd (differ h)
silent-one s (Finished w) h = absurd (differ h)
silent-one s (Refused w x) h = absurd (differ h)
silent-one s (Down w c o) h = absurd (differ h)
silent-one s (NotStarted w) h = absurd (differ h)
silent-one s (Start w slot) h = absurd (differ h)
silent-one s (Run w is) h = absurd (differ h)
silent-one s (RunAll w) h = absurd (differ h)
silent-one s (Steal w is) h = absurd (differ h)
silent-one s (Shutdown w) h = absurd (differ h)

-- such entries alone

after_effect-silent : (s : State) (ys : List Entry) → list_all silent ys ≡ true → after_entries s ys ≡ s
after_effect-silent s [] h = refl
after_effect-silent s (y ∷ ys) h = (let p = split-and (silent y) (list_all silent ys) h in ap (λ (u : State). after_entries u ys) (silent-one s y p.0).next_is ∙ after_effect-silent s ys p.1)

lines-silent : (s : State) (ys : List Entry) → list_all silent ys ≡ true → lines_from s ys ≡ []
lines-silent s [] h = refl
lines-silent s (y ∷ ys) h = (let p = split-and (silent y) (list_all silent ys) h in let k = silent-one s y p.0 in ap (λ (l : List ℕ). l ++ lines_from (after_entry s y) ys) k.lines_are ∙ ap (λ (u : State). lines_from u ys) k.next_is ∙ lines-silent s ys p.1)

blocks-silent : (s : State) (ys : List Entry) → list_all silent ys ≡ true → blocks_from s ys ≡ []
blocks-silent s [] h = refl
blocks-silent s (y ∷ ys) h = (let p = split-and (silent y) (list_all silent ys) h in let k = silent-one s y p.0 in ap (λ (l : List ℕ). l ++ blocks_from (after_entry s y) ys) k.block_is ∙ ap (λ (u : State). blocks_from u ys) k.next_is ∙ blocks-silent s ys p.1)

counted-silent : (s : State) (ys : List Entry) (n : Counts) → list_all silent ys ≡ true → counted_from s ys n ≡ n
counted-silent s [] n h = refl
counted-silent s (y ∷ ys) n h = (let p = split-and (silent y) (list_all silent ys) h in let k = silent-one s y p.0 in ap (counted_from (after_entry s y) ys) (k.counted_is n) ∙ ap (λ (u : State). counted_from u ys n) k.next_is ∙ counted-silent s ys n p.1)

refusal-silent : (w : ℕ) (ys : List Entry) → list_all silent ys ≡ true → refusal w ys ≡ []
refusal-silent w [] h = refl
refusal-silent w (Kill v ∷ ys) h = refusal-silent w ys h
refusal-silent w (Over how ∷ ys) h = refusal-silent w ys h
refusal-silent w (Ready v ∷ ys) h = absurd (differ h)
refusal-silent w (Collected v g ∷ ys) h = absurd (differ h)
refusal-silent w (Done v i u m o ∷ ys) h = absurd (differ h)
refusal-silent w (Back v is ∷ ys) h = absurd (differ h)
refusal-silent w (Finished v ∷ ys) h = absurd (differ h)
refusal-silent w (Refused v x ∷ ys) h = absurd (differ h)
refusal-silent w (Down v c o ∷ ys) h = absurd (differ h)
refusal-silent w (NotStarted v ∷ ys) h = absurd (differ h)
refusal-silent w (Start v slot ∷ ys) h = absurd (differ h)
refusal-silent w (Run v is ∷ ys) h = absurd (differ h)
refusal-silent w (RunAll v ∷ ys) h = absurd (differ h)
refusal-silent w (Steal v is ∷ ys) h = absurd (differ h)
refusal-silent w (Shutdown v ∷ ys) h = absurd (differ h)

-- after others

module _ (ys : List Entry) (h : list_all silent ys ≡ true) where
  after_effect-following : (s : State) (xs : List Entry) → after_entries s (xs ++ ys) ≡ after_entries s xs
  after_effect-following s [] = after_effect-silent s ys h
  after_effect-following s (x ∷ xs) = after_effect-following (after_entry s x) xs

  pub lines-following : (s : State) (xs : List Entry) → lines_from s (xs ++ ys) ≡ lines_from s xs
  lines-following s [] = lines-silent s ys h
  lines-following s (x ∷ xs) = ap (λ (l : List ℕ). lines_of (reached s x) x ++ l) (lines-following (after_entry s x) xs)

  blocks-following : (s : State) (xs : List Entry) → blocks_from s (xs ++ ys) ≡ blocks_from s xs
  blocks-following s [] = blocks-silent s ys h
  blocks-following s (x ∷ xs) = ap (λ (l : List ℕ). block_of (reached s x) x ++ l) (blocks-following (after_entry s x) xs)

  counted-following : (s : State) (xs : List Entry) (n : Counts) → counted_from s (xs ++ ys) n ≡ counted_from s xs n
  counted-following s [] n = counted-silent s ys n h
  counted-following s (x ∷ xs) n = counted-following (after_entry s x) xs (counted (reached s x) x n)

  refusal-following : (w : ℕ) (xs : List Entry) → refusal w (xs ++ ys) ≡ refusal w xs
  refusal-following w [] = refusal-silent w ys h
  refusal-following w (Refused v x ∷ xs) = ap (λ (l : List ℕ). if v == w then x else l) (refusal-following w xs)
  refusal-following w (Kill v ∷ xs) = refusal-following w xs
  refusal-following w (Over how ∷ xs) = refusal-following w xs
  refusal-following w (Ready v ∷ xs) = refusal-following w xs
  refusal-following w (Collected v g ∷ xs) = refusal-following w xs
  refusal-following w (Done v i u m o ∷ xs) = refusal-following w xs
  refusal-following w (Back v is ∷ xs) = refusal-following w xs
  refusal-following w (Finished v ∷ xs) = refusal-following w xs
  refusal-following w (Down v c o ∷ xs) = refusal-following w xs
  refusal-following w (NotStarted v ∷ xs) = refusal-following w xs
  refusal-following w (Start v slot ∷ xs) = refusal-following w xs
  refusal-following w (Run v is ∷ xs) = refusal-following w xs
  refusal-following w (RunAll v ∷ xs) = refusal-following w xs
  refusal-following w (Steal v is ∷ xs) = refusal-following w xs
  refusal-following w (Shutdown v ∷ xs) = refusal-following w xs

  stop-following : (mode : ModeKind) (xs : List Entry) (how : Option RunStop) → line_of_stop mode (xs ++ ys) how ≡ line_of_stop mode xs how
  stop-following mode xs None = refl
  stop-following mode xs (Some Completed) = refl
  stop-following mode xs (Some (MaxFail count)) = refl
  stop-following mode xs (Some (Restarts w limit)) = refl
  stop-following mode xs (Some (Unequal w other place)) = refl
  stop-following mode xs (Some (CollectError w)) = ap (λ (l : List ℕ). Rattle.xd_report_phrases.specs.StopLine.refused_line mode w l) (refusal-following w xs)
  stop-following mode xs (Some OutFault) = refl

  pub tail-following : (x : Settings) (xs : List Entry) → run_tail x (xs ++ ys) ≡ run_tail x xs
  tail-following x xs =
      let blocks = blocks-following (no_one x) xs in
      let state : state_at x (xs ++ ys) ≡ state_at x xs = ap settled (after_effect-following (no_one x) xs) in
      let stops : line_of_stop x.mode (xs ++ ys) (state_at x (xs ++ ys)).books.stop ≡ line_of_stop x.mode xs (state_at x xs).books.stop =
      stop-following x.mode xs (state_at x (xs ++ ys)).books.stop ∙ ap (λ (s : State). line_of_stop x.mode xs s.books.stop) state in
      let sums : summary_text (counts x (xs ++ ys)) ≡ summary_text (counts x xs) = ap summary_text (counted-following (no_one x) xs (record { failed = 0; passed = 0; skipped = 0 })) in
      join blocks stops sums
    where
      join : {b b' c c' d d' : List ℕ} → b ≡ b' → c ≡ c' → d ≡ d' → b ++ (c ++ (d ++ 10 ∷ [])) ≡ b' ++ (c' ++ (d' ++ 10 ∷ []))
      join p q r = cc

  pub text-following : (x : Settings) (xs : List Entry) → run_text x (xs ++ ys) ≡ run_text x xs
  text-following x xs = ap (λ (l : List ℕ). l ++ run_tail x (xs ++ ys)) (lines-following (no_one x) xs) ∙ ap (λ (l : List ℕ). run_lines x xs ++ l) (tail-following x xs)

-- the end of a journal

silent-kills : (ws : List Member) (how : RunStop) → list_all silent (map (λ (m : Member). Kill m.worker) ws ++ Over how ∷ []) ≡ true
silent-kills [] how = refl
silent-kills (w ∷ ws) how = silent-kills ws how

pub silent-ending : (failed : Bool) (b : Books) → list_all silent (ending failed b) ≡ true
silent-ending true b = silent-kills (filter (λ (m : Member). m.active) b.members) OutFault
silent-ending false b = refl

-- the first starts print nothing

last-more : (v : ℕ) (ms : List Member) (m : Member) (found : Option ℕ) → last_of_slot v (ms ++ m ∷ []) found ≡ (if m.slot == v then Some m.worker else last_of_slot v ms found)
last-more v [] m found = refl
last-more v (x ∷ xs) m found = last-more v xs m (if x.slot == v then Some x.worker else found)

starts-silent : (k w : ℕ) (s : State) → ((v : ℕ) → w ≤ v → last_of_slot v s.books.members None ≡ None) → lines_from s (starts_from w k) ≡ []
starts-silent zero w s f = refl
starts-silent (suc k) w s f =
    ap (λ (o : Option ℕ). replacing (mode_of s) o ++ lines_from (after_entry s (Start w w)) (starts_from (w + 1) k)) (f w (omega arith))
    ∙ starts-silent k (w + 1) (after_entry s (Start w w)) (λ v l. last-more v s.books.members (started w w) None ∙ ap (λ (b : Bool). if b then Some w else last_of_slot v s.books.members None) (other v l) ∙ f v (omega (arith, l)))
  where
    other : (v : ℕ) → w + 1 ≤ v → (w == v) ≡ false
    other v l = grind (arith, nat_tests)

pub first-lines : (x : Settings) → run_lines x (first_starts x) ≡ []
first-lines x = starts-silent x.workers 0 (no_one x) (λ v l. refl)
