-- The texts of a longer journal: a journal's lines, blocks and counts begin those of a longer one.
use Rattle.std.proofs.Common.{◌≡◌, ℕ, ◌+◌, ◌<◌, Bool, List, [], ◌∷◌, ◌++◌, length, take, refl, ap, sym, ◌∙◌, append_assoc, add-zero, get_or, ◌==◌, Option, Some, None, if◌then◌else◌}
use Rattle.std.proofs.lemmas.List.{append-nil, take_more}
use Rattle.xd_journal.specs.declared.entry.Entry.{Entry}
use Rattle.xd_edge.specs.declared.mode.ModeKind.{ModeKind}
use Rattle.xd_journal.specs.declared.settings.Settings.{Settings}
use Rattle.xd_journal.specs.declared.entry.RunStop.{RunStop}
use Rattle.xd_journal.specs.declared.entry.RunStop.TheVariants.{Completed, MaxFail, Restarts, Unequal, CollectError, OutFault}
use Rattle.xd_journal.specs.declared.entry.Entry.TheVariants.{Ready, Collected, Done, Back, Finished, Refused, Down, NotStarted, Start, Run, RunAll, Steal, Shutdown, Kill, Over}
use Rattle.xd_journal.specs.declared.entry.Ids.{Ids}
use Rattle.xd_run.specs.Sharing.{State}
use Rattle.xd_run.specs.Collecting.{after_collected}
use Rattle.xd_run.specs.State.{after_entries, after_entry, no_one, reached, settled, state_at}
use Rattle.xd_report.specs.declared.counts.Counts.{Counts}
use Rattle.xd_report.specs.Blocks.{block_of, blocks_from}
use Rattle.xd_report.specs.Lines.{collected_line, lines_from, lines_of, run_lines, lines_told}
use Rattle.xd_report_phrases.specs.StopLine.{line_of_stop, refusal, refused_line}
use Rattle.xd_report.specs.Summary.{counted, counted_from, counts, summary_text}
use Rattle.xd_report.specs.Text.{run_text}

pub lines-more : (s : State) (es more : List Entry) → lines_from s (es ++ more) ≡ lines_from s es ++ lines_from (after_entries s es) more
lines-more s [] more = refl
lines-more s (e ∷ es) more =
    ap (λ (xs : List ℕ). lines_of (reached s e) e ++ xs) (lines-more (after_entry s e) es more) ∙ sym (append_assoc (lines_of (reached s e) e) (lines_from (after_entry s e) es) (lines_from (after_entries (after_entry s e) es) more))

pub blocks-more : (s : State) (es more : List Entry) → blocks_from s (es ++ more) ≡ blocks_from s es ++ blocks_from (after_entries s es) more
blocks-more s [] more = refl
blocks-more s (e ∷ es) more =
    ap (λ (xs : List ℕ). block_of (reached s e) e ++ xs) (blocks-more (after_entry s e) es more) ∙ sym (append_assoc (block_of (reached s e) e) (blocks_from (after_entry s e) es) (blocks_from (after_entries (after_entry s e) es) more))

pub counted-more : (s : State) (es more : List Entry) (n : Counts) → counted_from s (es ++ more) n ≡ counted_from (after_entries s es) more (counted_from s es n)
counted-more s [] more n = refl
counted-more s (e ∷ es) more n = counted-more (after_entry s e) es more (counted (reached s e) e n)

pub after_effect-more : (s : State) (es more : List Entry) → after_entries s (es ++ more) ≡ after_entries (after_entries s es) more
after_effect-more s [] more = refl
after_effect-more s (e ∷ es) more = after_effect-more (after_entry s e) es more

-- one entry more
module _ (s : State) (es : List Entry) (i : ℕ) (e : Entry) (within : i < length es) (at : e ≡ get_or es i e) where
  one_more : take (i + 1) es ≡ take i es ++ e ∷ []
  one_more = take_more es i e within ∙ ap (λ (x : Entry). take i es ++ x ∷ []) (sym at)

  abbrev before : State
  before = after_entries s (take i es)

  pub after_effect-step : after_entries s (take (i + 1) es) ≡ after_entry before e
  after_effect-step = ap (after_entries s) one_more ∙ after_effect-more s (take i es) (e ∷ [])

  pub lines-step : lines_from s (take (i + 1) es) ≡ lines_from s (take i es) ++ lines_of (reached before e) e
  lines-step =
      ap (lines_from s) one_more ∙ lines-more s (take i es) (e ∷ [])
      ∙ ap (λ (xs : List ℕ). lines_from s (take i es) ++ xs) (append-nil (lines_of (reached before e) e))

  pub blocks-step : blocks_from s (take (i + 1) es) ≡ blocks_from s (take i es) ++ block_of (reached before e) e
  blocks-step =
      ap (blocks_from s) one_more ∙ blocks-more s (take i es) (e ∷ [])
      ∙ ap (λ (xs : List ℕ). blocks_from s (take i es) ++ xs) (append-nil (block_of (reached before e) e))

  pub counted-step : (n : Counts) → counted_from s (take (i + 1) es) n ≡ counted (reached before e) e (counted_from s (take i es) n)
  counted-step n = ap (λ (l : List Entry). counted_from s l n) one_more ∙ counted-more s (take i es) (e ∷ []) n

-- the line of a collection comes after it
module _ (s : State) (was : Bool) (out0 out1 out2 : List ℕ) (shared : s.books.shared ≡ was) where
  abbrev pub Tells : Entry → Type 0
  Tells e = out1 ≡ out0 ++ lines_told (reached s e) e → out2 ≡ out1 ++ collected_line was (after_entry s e) → out2 ≡ out0 ++ lines_of (reached s e) e

  pub collected-tells : (w : ℕ) (ids : Ids) → Tells (Collected w ids)
  collected-tells w ids first second =
      let now = after_collected w ids (settled s) in
      second ∙ ap (λ (l : List ℕ). l ++ collected_line was now) (first ∙ append-nil out0) ∙ ap (λ b. out0 ++ collected_line b now) (sym shared)

-- the end of a journal adds nothing to its text
module _ (how : RunStop) where
  refusal-same : (w : ℕ) (es : List Entry) → refusal w (es ++ Over how ∷ []) ≡ refusal w es
  refusal-same w [] = refl
  refusal-same w (Refused w' text ∷ es) = ap (λ (l : List ℕ). if w' == w then text else l) (refusal-same w es)
  refusal-same w (Ready w' ∷ es) = refusal-same w es
  refusal-same w (Collected w' given ∷ es) = refusal-same w es
  refusal-same w (Done w' i o ms out ∷ es) = refusal-same w es
  refusal-same w (Back w' is ∷ es) = refusal-same w es
  refusal-same w (Finished w' ∷ es) = refusal-same w es
  refusal-same w (Down w' c out ∷ es) = refusal-same w es
  refusal-same w (NotStarted w' ∷ es) = refusal-same w es
  refusal-same w (Start w' slot ∷ es) = refusal-same w es
  refusal-same w (Run w' is ∷ es) = refusal-same w es
  refusal-same w (RunAll w' ∷ es) = refusal-same w es
  refusal-same w (Steal w' is ∷ es) = refusal-same w es
  refusal-same w (Shutdown w' ∷ es) = refusal-same w es
  refusal-same w (Kill w' ∷ es) = refusal-same w es
  refusal-same w (Over how' ∷ es) = refusal-same w es

  stop-same : (mode : ModeKind) (es : List Entry) (stop : Option RunStop) → line_of_stop mode (es ++ Over how ∷ []) stop ≡ line_of_stop mode es stop
  stop-same mode es None = refl
  stop-same mode es (Some (MaxFail count)) = refl
  stop-same mode es (Some (Restarts w limit)) = refl
  stop-same mode es (Some (Unequal w other place)) = refl
  stop-same mode es (Some (CollectError w)) = ap (refused_line mode w) (refusal-same w es)
  stop-same mode es (Some Completed) = refl
  stop-same mode es (Some OutFault) = refl

  module _ (settings : Settings) (es : List Entry) where
    lines-same : run_lines settings (es ++ Over how ∷ []) ≡ run_lines settings es
    lines-same = lines-more (no_one settings) es (Over how ∷ []) ∙ append-nil (run_lines settings es)

    blocks-same : blocks_from (no_one settings) (es ++ Over how ∷ []) ≡ blocks_from (no_one settings) es
    blocks-same = blocks-more (no_one settings) es (Over how ∷ []) ∙ append-nil (blocks_from (no_one settings) es)

    counts-same : counts settings (es ++ Over how ∷ []) ≡ counts settings es
    counts-same =
        let n = counts settings es in
        counted-more (no_one settings) es (Over how ∷ []) (record { failed = 0; passed = 0; skipped = 0 }) ∙ ap (λ k. record n { failed = k }) (add-zero n.failed)

    stopped-same : line_of_stop settings.mode (es ++ Over how ∷ []) (state_at settings (es ++ Over how ∷ [])).books.stop ≡ line_of_stop settings.mode es (state_at settings es).books.stop
    stopped-same =
        ap (λ (t : State). line_of_stop settings.mode (es ++ Over how ∷ []) t.books.stop) (after_effect-more (no_one settings) es (Over how ∷ []))
        ∙ stop-same settings.mode es (state_at settings es).books.stop

    pub over-same : run_text settings (es ++ Over how ∷ []) ≡ run_text settings es
    over-same = join lines-same blocks-same stopped-same (ap summary_text counts-same)
      where
        join : {a a' b b' c c' d d' : List ℕ} → a ≡ a' → b ≡ b' → c ≡ c' → d ≡ d' → a ++ (b ++ (c ++ (d ++ 10 ∷ []))) ≡ a' ++ (b' ++ (c' ++ (d' ++ 10 ∷ [])))
        join p q r s = cc
