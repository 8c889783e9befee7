-- What the entries of a worker say is what its news said.
use Rattle.std.proofs.Common.{◌≡◌, ℕ, List, [], ◌∷◌, ◌++◌, Bool, true, false, not, ◌&&◌, ◌||◌, refl, ap, sym, ◌∙◌, arith}
use Rattle.std.specs.Prelude.{◌==◌, if◌then◌else◌, Option, Some, None, is_none}
use Rattle.std.specs.List.{list_any}
use Rattle.std.proofs.lemmas.Bool.Decides.{nat_tests}
use Rattle.std.proofs.lemmas.List.Elements.{filter_map-append}
use Rattle.std.proofs.lemmas.List.Folds.{list_any-append}
use Rattle.xd_journal.specs.declared.entry.Cause.{Cause}
use Rattle.xd_journal.specs.declared.entry.Cause.TheVariants.{Breach}
use Rattle.xd_journal.specs.declared.entry.Entry.{Entry}
use Rattle.xd_journal.specs.declared.entry.Entry.TheVariants.{Ready, Collected, Done, Back, Finished, Refused, Down, NotStarted, Start, Run, RunAll, Steal, Shutdown, Kill, Over}
use Rattle.xd_journal.specs.declared.entry.Ids.{Ids}
use Rattle.xd_journal.specs.declared.entry.Ids.TheVariants as ids
use Rattle.xd_journal.specs.declared.entry.Outcome.{Outcome}
use Rattle.xd_journal.specs.declared.news.What.{What}
use Rattle.xd_journal.specs.declared.news.What.TheVariants as what
use Rattle.xd_run.specs.declared.member.Listed.{Listed}
use Rattle.xd_run.specs.Collections.{differ_at, listed}
use Rattle.xd_run.specs.Meaning.{Log, any_open, breach, is_of, is_open_log, kept_at_death, may_start_log, meaning_of, or_breach, output_of, silent_or_breach}
use Rattle.xd_run.specs.Orderly.{all_orderly, is_orderly}
use Rattle.xd_run.specs.Proper.{may_follow, names_head}
use Rattle.xd_run.specs.Sharing.{State}
use Rattle.xd_run.specs.State.{after_effect}
use Rattle.xd_run_laws.proofs.Logic.{differ, in_both, split-and}
use Rattle.xd_system.specs.Fits.{is_collected}
use Rattle.xd_system.specs.Own.{answer_in, answer_of_news, answers_by, answers_in, outcome_in, outcome_of_news, outcomes_by, outcomes_in, ends_by, test_ended_in, ends_in, end_of_news, is_accused, is_breach_of}
use Rattle.xd_system.proofs.Marks.{is_collected_of, is_ready_of}

abbrev pub is_ready_news : What → Bool
is_ready_news what.Ready = true
is_ready_news _ = false

pub record Echo (w : ℕ) (es : List Entry) (news : List What) : Type 0 where
  pub answers : answers_in news ≡ answers_by w es
  pub ended : ends_in news ≡ ends_by w es
  pub ready : list_any is_ready_news news ≡ list_any (is_ready_of w) es
  pub collected : list_any is_collected news ≡ list_any (is_collected_of w) es
  pub dones : outcomes_in news ≡ outcomes_by w es
  pub unaccused : is_accused w es ≡ false

pub echo-more : (w : ℕ) (es fs : List Entry) (news more : List What) → Echo w es news → Echo w fs more
    → Echo w (es ++ fs) (news ++ more)
echo-more w es fs news more a b = record {
  answers = filter_map-append answer_of_news news more ∙ ap (λ (l : List (List ℕ)). l ++ answers_in more) a.answers
      ∙ ap (λ (l : List (List ℕ)). answers_by w es ++ l) b.answers ∙ sym (filter_map-append (answer_in w) es fs);
  ended = filter_map-append end_of_news news more ∙ ap (λ (l : List ℕ). l ++ ends_in more) a.ended
      ∙ ap (λ (l : List ℕ). ends_by w es ++ l) b.ended ∙ sym (filter_map-append (test_ended_in w) es fs);
  ready = list_any-append is_ready_news news more ∙ ap (λ (q : Bool). q || list_any is_ready_news more) a.ready
      ∙ ap (λ (q : Bool). list_any (is_ready_of w) es || q) b.ready ∙ sym (list_any-append (is_ready_of w) es fs);
  collected = list_any-append is_collected news more ∙ ap (λ (q : Bool). q || list_any is_collected more) a.collected
      ∙ ap (λ (q : Bool). list_any (is_collected_of w) es || q) b.collected
      ∙ sym (list_any-append (is_collected_of w) es fs);
  dones = filter_map-append outcome_of_news news more ∙ ap (λ (l : List (ℕ × Outcome)). l ++ outcomes_in more) a.dones
      ∙ ap (λ (l : List (ℕ × Outcome)). outcomes_by w es ++ l) b.dones ∙ sym (filter_map-append (outcome_in w) es fs);
  unaccused = list_any-append (is_breach_of w) es fs ∙ ap (λ (q : Bool). q || is_accused w fs) a.unaccused
      ∙ b.unaccused;
}

pub echo-none : (w : ℕ) → Echo w [] []
echo-none w = record { answers = refl; ended = refl; ready = refl; collected = refl; dones = refl; unaccused = refl }

-- outputs say nothing

orderly-one : (w : ℕ) (s : State) (e : Entry) → is_orderly s e ≡ true → Echo w (e ∷ []) []
orderly-one w s (Start v slot) h =
    record { answers = refl; ended = refl; ready = refl; collected = refl; dones = refl; unaccused = refl }
orderly-one w s (Run v ns) h =
    record { answers = refl; ended = refl; ready = refl; collected = refl; dones = refl; unaccused = refl }
orderly-one w s (RunAll v) h =
    record { answers = refl; ended = refl; ready = refl; collected = refl; dones = refl; unaccused = refl }
orderly-one w s (Steal v ns) h =
    record { answers = refl; ended = refl; ready = refl; collected = refl; dones = refl; unaccused = refl }
orderly-one w s (Shutdown v) h =
    record { answers = refl; ended = refl; ready = refl; collected = refl; dones = refl; unaccused = refl }
orderly-one w s (Kill v) h =
    record { answers = refl; ended = refl; ready = refl; collected = refl; dones = refl; unaccused = refl }
orderly-one w s (Over how) h =
    record { answers = refl; ended = refl; ready = refl; collected = refl; dones = refl; unaccused = refl }
orderly-one w s (Ready v) h = absurd (differ h)
orderly-one w s (Collected v g) h = absurd (differ h)
orderly-one w s (Done v n o ms b) h = absurd (differ h)
orderly-one w s (Back v ns) h = absurd (differ h)
orderly-one w s (Finished v) h = absurd (differ h)
orderly-one w s (Refused v text) h = absurd (differ h)
orderly-one w s (Down v c b) h = absurd (differ h)
orderly-one w s (NotStarted v) h = absurd (differ h)

pub orderly-echo : (w : ℕ) (s : State) (es : List Entry) → all_orderly s es ≡ true → Echo w es []
orderly-echo w s [] h = echo-none w
orderly-echo w s (e ∷ es) h =
    let p = split-and (is_orderly s e) (all_orderly (after_effect s e) es) h in
    echo-more w (e ∷ []) es [] [] (orderly-one w s e p.0) (orderly-echo w (after_effect s e) es p.1)

-- the entry that news mean

module _ (v : ℕ) (log : Option Log) (spent : ℕ) (s : State) (P : Option Entry → Type 0) (none : P None) (down : (c : Cause) (b : List ℕ) → P (Some (Down v c b))) where
  by-or : (e : Entry) → P (Some e) → P (or_breach v log spent s e)
  by-or e h = in_both P (may_follow s e) (Some e) (Some (breach v log spent s)) (λ k. h) (λ k. down Breach (kept_at_death v log spent s))

  by-silent : (fine : Bool) → P (silent_or_breach fine v log spent s)
  by-silent fine =
      in_both P fine None (Some (breach v log spent s)) (λ k. none) (λ k. down Breach (kept_at_death v log spent s))

  pub meaning-elim : P (Some (Ready v)) → ((g : Ids) → P (Some (Collected v g)))
      → ((n : ℕ) (o : Outcome) (ms : ℕ) (b : List ℕ) → P (Some (Done v n o ms b)))
      → ((ns : List ℕ) → P (Some (Back v ns)))
      → P (Some (Finished v)) → ((text : List ℕ) → P (Some (Refused v text))) → P (Some (NotStarted v)) → (x : What)
      → P (meaning_of v log spent s x)
  meaning-elim a b c d e f g what.Ready = by-or (Ready v) a
  meaning-elim a b c d e f g (what.Collected own) = go (listed v s.books)
    where
      go : (o : Option Listed)
          → P (or_breach v log spent s (elim o as (λ _. Entry) [ None ↦ Collected v (ids.List own) | Some l ↦ (if is_none (differ_at l.ids own) then Collected v ids.Same else Collected v (ids.List own)) ]))
      go None = by-or (Collected v (ids.List own)) (b (ids.List own))
      go (Some l) = same (is_none (differ_at l.ids own))
        where
          same : (q : Bool) → P (or_breach v log spent s (if q then Collected v ids.Same else Collected v (ids.List own)))
          same true = by-or (Collected v ids.Same) (b ids.Same)
          same false = by-or (Collected v (ids.List own)) (b (ids.List own))
  meaning-elim a b c d e f g (what.LogStart n number) = by-silent (may_start_log v n number log s)
  meaning-elim a b c d e f g (what.Piece number bytes) = by-silent (is_open_log number log)
  meaning-elim a b c d e f g (what.LogClosed number) = by-silent (is_open_log number log)
  meaning-elim a b c d e f g (what.Done n o ms) =
      in_both P (names_head v n s && is_of n log && not (any_open log)) (Some (Done v n o ms (output_of v o log spent s))) (Some (breach v log spent s))
      (λ k. c n o ms (output_of v o log spent s)) (λ k. down Breach (kept_at_death v log spent s))
  meaning-elim a b c d e f g (what.Back ns) = by-or (Back v ns) (d ns)
  meaning-elim a b c d e f g what.Finished = by-or (Finished v) e
  meaning-elim a b c d e f g (what.Closed None) = down Breach (kept_at_death v log spent s)
  meaning-elim a b c d e f g (what.Closed (Some text)) = by-or (Refused v text) (f text)
  meaning-elim a b c d e f g what.Stray = down Breach (kept_at_death v log spent s)
  meaning-elim a b c d e f g (what.Gone cause) = down cause (kept_at_death v log spent s)
  meaning-elim a b c d e f g what.NotStarted = by-or (NotStarted v) g

-- as a list
abbrev pub entry_of : Option Entry → List Entry
entry_of None = []
entry_of (Some e) = e ∷ []

-- of another worker it says nothing
pub other-echo : (w v : ℕ) (log : Option Log) (spent : ℕ) (s : State) (x : What) → (v == w) ≡ false
    → Echo w (entry_of (meaning_of v log spent s x)) []
other-echo w v log spent s x h =
    meaning-elim v log spent s (λ o. Echo w (entry_of o) []) (echo-none w) (λ c b. record { answers = refl; ended = refl; ready = refl; collected = refl; dones = refl; unaccused = down c b })
    (record { answers = refl; ended = refl; ready = rw h refl; collected = refl; dones = refl; unaccused = refl })
    (λ g. record { answers = refl; ended = refl; ready = refl; collected = rw h refl; dones = refl; unaccused = refl })
    (λ n o ms b. record { answers = refl; ended = rw h refl; ready = refl; collected = refl; dones = rw h refl; unaccused = refl })
    (λ ns. record { answers = rw h refl; ended = refl; ready = refl; collected = refl; dones = refl; unaccused = refl })
    (record { answers = refl; ended = refl; ready = refl; collected = refl; dones = refl; unaccused = refl })
    (λ text. record { answers = refl; ended = refl; ready = refl; collected = refl; dones = refl; unaccused = refl })
    (record { answers = refl; ended = refl; ready = refl; collected = refl; dones = refl; unaccused = refl }) x
  where
    down : (c : Cause) (b : List ℕ) → is_accused w (Down v c b ∷ []) ≡ false
    down Breach b = rw h refl
    down _ b = refl

-- of the worker itself it says what the news said, where it is no breach

module _ (w : ℕ) (log : Option Log) (spent : ℕ) (s : State) where
  own : (w == w) ≡ true
  own = grind (arith, nat_tests)

  abbrev Says : What → Option Entry → Type 0
  Says x o = is_accused w (entry_of o) ≡ false → Echo w (entry_of o) (x ∷ [])

  accused : (x : What) (b : List ℕ) → Says x (Some (Down w Breach b))
  accused x b h = absurd (differ (sym h ∙ ap (λ (q : Bool). q || false) own))

  own-or : (x : What) (e : Entry) → Echo w (e ∷ []) (x ∷ []) → Says x (or_breach w log spent s e)
  own-or x e k =
      in_both (Says x) (may_follow s e) (Some e) (Some (breach w log spent s)) (λ h a. k) (λ h. accused x (kept_at_death w log spent s))

  own-silent : (x : What) (fine : Bool) → Echo w [] (x ∷ []) → Says x (silent_or_breach fine w log spent s)
  own-silent x fine k =
      in_both (Says x) fine None (Some (breach w log spent s)) (λ h a. k) (λ h. accused x (kept_at_death w log spent s))

  collected-echo : (ids : List (List ℕ)) (g : Ids) → Echo w (Collected w g ∷ []) (what.Collected ids ∷ [])
  collected-echo ids g =
      record { answers = refl; ended = refl; ready = refl; collected = rw own refl; dones = refl; unaccused = refl }

  gone-echo : (c : Cause) (b : List ℕ) → Says (what.Gone c) (Some (Down w c b))
  gone-echo c b h =
      record { answers = refl; ended = refl; ready = refl; collected = refl; dones = refl; unaccused = h }

  pub own-echo : (x : What) → Says x (meaning_of w log spent s x)
  own-echo what.Ready =
      own-or what.Ready (Ready w) (record { answers = refl; ended = refl; ready = rw own refl; collected = refl; dones = refl; unaccused = refl })
  own-echo (what.Collected given) = go (listed w s.books)
    where
      go : (o : Option Listed) → Says (what.Collected given)
          (or_breach w log spent s (elim o as (λ _. Entry) [ None ↦ Collected w (ids.List given) | Some l ↦ (if is_none (differ_at l.ids given) then Collected w ids.Same else Collected w (ids.List given)) ]))
      go None = own-or (what.Collected given) (Collected w (ids.List given)) (collected-echo given (ids.List given))
      go (Some l) = same (is_none (differ_at l.ids given))
        where
          same : (q : Bool) → Says (what.Collected given) (or_breach w log spent s (if q then Collected w ids.Same else Collected w (ids.List given)))
          same true = own-or (what.Collected given) (Collected w ids.Same) (collected-echo given ids.Same)
          same false = own-or (what.Collected given) (Collected w (ids.List given)) (collected-echo given (ids.List given))
  own-echo (what.LogStart n number) =
      own-silent (what.LogStart n number) (may_start_log w n number log s) (record { answers = refl; ended = refl; ready = refl; collected = refl; dones = refl; unaccused = refl })
  own-echo (what.Piece number bytes) =
      own-silent (what.Piece number bytes) (is_open_log number log) (record { answers = refl; ended = refl; ready = refl; collected = refl; dones = refl; unaccused = refl })
  own-echo (what.LogClosed number) =
      own-silent (what.LogClosed number) (is_open_log number log) (record { answers = refl; ended = refl; ready = refl; collected = refl; dones = refl; unaccused = refl })
  own-echo (what.Done n o ms) =
      in_both (Says (what.Done n o ms)) (names_head w n s && is_of n log && not (any_open log)) (Some (Done w n o ms (output_of w o log spent s))) (Some (breach w log spent s))
      (λ h a. record { answers = refl; ended = rw own refl; ready = refl; collected = refl; dones = rw own refl; unaccused = refl }) (λ h. accused (what.Done n o ms) (kept_at_death w log spent s))
  own-echo (what.Back ns) =
      own-or (what.Back ns) (Back w ns) (record { answers = rw own refl; ended = refl; ready = refl; collected = refl; dones = refl; unaccused = refl })
  own-echo what.Finished =
      own-or what.Finished (Finished w) (record { answers = refl; ended = refl; ready = refl; collected = refl; dones = refl; unaccused = refl })
  own-echo (what.Closed None) = accused (what.Closed None) (kept_at_death w log spent s)
  own-echo (what.Closed (Some text)) =
      own-or (what.Closed (Some text)) (Refused w text) (record { answers = refl; ended = refl; ready = refl; collected = refl; dones = refl; unaccused = refl })
  own-echo what.Stray = accused what.Stray (kept_at_death w log spent s)
  own-echo (what.Gone cause) = gone-echo cause (kept_at_death w log spent s)
  own-echo what.NotStarted =
      own-or what.NotStarted (NotStarted w) (record { answers = refl; ended = refl; ready = refl; collected = refl; dones = refl; unaccused = refl })
