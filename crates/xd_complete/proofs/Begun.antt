-- Where nobody died, the workers of a run are the first ones, and nobody was killed.
use Rattle.std.proofs.Common.{◌≡◌, ◌⊎◌, ℕ, zero, suc, List, [], ◌∷◌, ◌++◌, map, Bool, true, false, ◌||◌, ◌&&◌, refl, ap, sym, ◌∙◌, subst, append_assoc, append-nil, inl, inr}
use Rattle.std.specs.Prelude.{◌==◌, ◌+◌, Option, Some, None}
use Rattle.std.specs.List.{list_any}
use Rattle.std.proofs.lemmas.List.Folds.{list_any-append}
use Rattle.xd_journal.specs.declared.entry.Entry.{Entry}
use Rattle.xd_journal.specs.declared.entry.Entry.TheVariants.{Ready, Collected, Done, Back, Finished, Refused, Down, NotStarted, Start, Run, RunAll, Steal, Shutdown, Kill, Over}
use Rattle.xd_journal.specs.declared.entry.Ids.{Ids}
use Rattle.xd_journal.specs.declared.news.News.{News}
use Rattle.xd_journal.specs.declared.settings.Settings.{Settings}
use Rattle.xd_run.specs.declared.member.Member.{Member}
use Rattle.xd_run.specs.Books.{marked}
use Rattle.xd_run.specs.Collections.{listed, unequal, with_list}
use Rattle.xd_run.specs.Histories.{after_inputs, after_starts, first_starts, journal_of, starts_from}
use Rattle.xd_run.specs.Orderly.{is_orderly}
use Rattle.xd_run.specs.Outputs.{outputs}
use Rattle.xd_run.specs.Proper.{IsProper, may_follow}
use Rattle.xd_run.specs.Sharing.{State, in_books}
use Rattle.xd_run.specs.State.{after_effect, is_input, no_one}
use Rattle.xd_run.specs.Workers.{has_member, made_collected, made_gone, made_ready, made_shut, started}
use Rattle.xd_run_laws.specs.Stopped.{is_death}
use Rattle.xd_run_laws.proofs.Inputs.{collecting-keeps}
use Rattle.xd_run_laws.proofs.Laws.{journal-keeps}
use Rattle.xd_run_laws.proofs.Logic.{cases_of, differ, or-false}
use Rattle.xd_run_laws.proofs.Members.{has, has-more, has-same}
use Rattle.xd_run_laws.proofs.Walk.{Keeps, input-of}
use Rattle.xd_session.specs.History.{IsProperRun, Run as SoFar, begun_run, input_of, run_of}
use Rattle.xd_session.proofs.Steps.{input-follows, sound-run}
use Rattle.xd_system.proofs.Runs.{added}
use Rattle.xd_complete.proofs.Entries.{any-more, entries-more, input_after, of_input, only-inputs-death, starts-none}
use Rattle.xd_complete.proofs.Lists.{first_or, forward, second_or}
use Rattle.xd_complete.proofs.Quiet.{AreCalm, calm-join, calm-outputs}

-- the Start of the worker
abbrev pub is_start_of : ℕ → Entry → Bool
is_start_of w (Start v slot) = v == w
is_start_of w _ = false

-- a worker is a member where its Start stands in the journal
abbrev Known : ℕ → State → List Entry → Type 0
Known w s es = has_member w (λ m. true) s.books ≡ list_any (is_start_of w) es

module _ (w : ℕ) (s : State) (es : List Entry) (k : Known w s es) where
  keep : (e : Entry) (t : State) → is_start_of w e ≡ false → has_member w (λ m. true) t.books ≡ has_member w (λ m. true) s.books → Known w t (es ++ e ∷ [])
  keep e t a b = b ∙ k ∙ sym (list_any-append (is_start_of w) es (e ∷ []) ∙ ap (λ (q : Bool). list_any (is_start_of w) es || (q || false)) a ∙ or-false (list_any (is_start_of w) es))

  same : (e : Entry) (t : State) (change : Member → Member) → is_start_of w e ≡ false → t.books.members ≡ map change s.books.members → ((m : Member) → (change m).worker ≡ m.worker) → Known w t (es ++ e ∷ [])
  same e t change a m x = keep e t a (ap (has w (λ m. true)) m ∙ has-same w (λ m. true) change s.books.members x (λ m. refl))

  said-collected : (v : ℕ) (g : Ids) → Known w (after_effect s (Collected v g)) (es ++ Collected v g ∷ [])
  said-collected v g =
      let u = in_books (λ b. marked (made_collected v) (with_list v g b)) s in
      let stop = unequal v g (listed v s.books) in
      let first = has-same w (λ m. true) (made_collected v) s.books.members (λ m. refl) (λ m. refl) in
      keep (Collected v g) (after_effect s (Collected v g)) refl
      (collecting-keeps (λ (x : State). has_member w (λ m. true) x.books ≡ has_member w (λ m. true) s.books) u v stop first first first (λ n. first))

  comes : (e : Entry) → Known w (after_effect s e) (es ++ e ∷ [])
  comes (Ready v) = same (Ready v) (after_effect s (Ready v)) (made_ready v) refl refl (λ m. refl)
  comes (Collected v g) = said-collected v g
  comes (Done v n o ms b) = keep (Done v n o ms b) (after_effect s (Done v n o ms b)) refl refl
  comes (Back v ns) = keep (Back v ns) (after_effect s (Back v ns)) refl refl
  comes (Finished v) = same (Finished v) (after_effect s (Finished v)) (made_gone v) refl refl (λ m. refl)
  comes (Refused v text) = same (Refused v text) (after_effect s (Refused v text)) (made_gone v) refl refl (λ m. refl)
  comes (Down v c b) = same (Down v c b) (after_effect s (Down v c b)) (made_gone v) refl refl (λ m. refl)
  comes (NotStarted v) = same (NotStarted v) (after_effect s (NotStarted v)) (made_gone v) refl refl (λ m. refl)
  comes (Start v slot) =
      has-more w (λ m. true) s.books.members (started v slot) ∙ ap (λ (q : Bool). q || ((v == w) && true)) k ∙ ap (λ (q : Bool). list_any (is_start_of w) es || q) (both (v == w))
      ∙ sym (list_any-append (is_start_of w) es (Start v slot ∷ []))
    where
      both : (b : Bool) → (b && true) ≡ (b || false)
      both true = refl
      both false = refl
  comes (Run v ns) = keep (Run v ns) (after_effect s (Run v ns)) refl refl
  comes (RunAll v) = keep (RunAll v) (after_effect s (RunAll v)) refl refl
  comes (Steal v ns) = keep (Steal v ns) (after_effect s (Steal v ns)) refl refl
  comes (Shutdown v) = same (Shutdown v) (after_effect s (Shutdown v)) (made_shut v) refl refl (λ m. refl)
  comes (Kill v) = keep (Kill v) s refl refl
  comes (Over how) = keep (Over how) s refl refl

keeps_known : (settings : Settings) (w : ℕ) → Keeps settings (Known w)
keeps_known settings w = record { said = λ s es e t m at k. comes w s es k e; told = λ s es e p m at k. comes w s es k e; settled = λ s es k. k }

pub known : (settings : Settings) (taken : List News) (w : ℕ) → IsProper settings [] → has_member w (λ m. true) (run_of settings taken).state.books ≡ list_any (is_start_of w) (run_of settings taken).entries
known settings taken w proper =
    let r = run_of settings taken in
    let sound = sound-run settings taken proper in
    let k : Known w (after_inputs (after_starts settings) r.inputs) (journal_of settings r.inputs) = journal-keeps settings r.inputs (Known w) (keeps_known settings w) sound.proper refl in
    ap (λ (s : State). has_member w (λ m. true) s.books) sound.state ∙ k ∙ ap (list_any (is_start_of w)) (sym sound.journal)

-- ---- where nobody died

-- a Kill
abbrev pub is_kill : Entry → Bool
is_kill (Kill w) = true
is_kill _ = false

-- what follows the first starts starts and kills nobody
record StandsCalm (settings : Settings) (taken : List News) : Type 0 where
  more : List Entry
  are : (run_of settings taken).entries ≡ first_starts settings ++ more
  calm : AreCalm more

stands-calm : (settings : Settings) → IsProper settings [] → (taken : List News) → list_any is_death (run_of settings taken).entries ≡ false → StandsCalm settings taken
stands-calm settings proper =
    forward (λ (taken : List News). list_any is_death (run_of settings taken).entries ≡ false → StandsCalm settings taken)
    (λ h. record { more = []; are = sym (append-nil (first_starts settings)); calm = refl }) one
  where
    one : (taken : List News) (n : News) → (list_any is_death (run_of settings taken).entries ≡ false → StandsCalm settings taken)
        → list_any is_death (run_of settings (taken ++ n ∷ [])).entries ≡ false → StandsCalm settings (taken ++ n ∷ [])
    one taken n k h =
        let r = run_of settings taken in
        let both = sym (any-more settings taken n proper is_death only-inputs-death) ∙ h in
        let first = k (first_or (list_any is_death r.entries) (of_input is_death (input_after settings taken n)) both) in
        let last = second_or (list_any is_death r.entries) (of_input is_death (input_after settings taken n)) both in
        record {
          more = first.more ++ added r (input_after settings taken n);
          are = entries-more settings taken n ∙ ap (λ (l : List Entry). l ++ added r (input_after settings taken n)) first.are ∙ append_assoc (first_starts settings) first.more (added r (input_after settings taken n));
          calm = calm-join first.more (added r (input_after settings taken n)) first.calm (added-calm r (input_after settings taken n) last (input-is settings taken n));
        }
      where
        input-is : (settings : Settings) (taken : List News) (n : News) (e : Entry) → input_after settings taken n ≡ Some e → is_input e ≡ true
        input-is settings taken n e q = input-of (run_of settings taken).state e (input-follows (run_of settings taken) n e q)

        added-calm : (r : SoFar) (o : Option Entry) → of_input is_death o ≡ false → ((e : Entry) → o ≡ Some e → is_input e ≡ true) → AreCalm (added r o)
        added-calm r None h f = refl
        added-calm r (Some e) h f = calm-one e (f e refl) (calm-outputs r.state e h)
          where
            calm-one : (x : Entry) → is_input x ≡ true → AreCalm (outputs r.state e) → AreCalm (x ∷ outputs r.state e)
            calm-one (Start w slot) i c = absurd (differ (let z : false ≡ true = i in z))
            calm-one (Kill w) i c = absurd (differ (let z : false ≡ true = i in z))
            calm-one (Ready v) i c = c
            calm-one (Collected v g) i c = c
            calm-one (Done v n o ms b) i c = c
            calm-one (Back v ns) i c = c
            calm-one (Finished v) i c = c
            calm-one (Refused v text) i c = c
            calm-one (Down v k b) i c = c
            calm-one (NotStarted v) i c = c
            calm-one (Run v ns) i c = c
            calm-one (RunAll v) i c = c
            calm-one (Steal v ns) i c = c
            calm-one (Shutdown v) i c = c
            calm-one (Over how) i c = c

calm-start : (w : ℕ) (es : List Entry) → AreCalm es → list_any (is_start_of w) es ≡ false
calm-start w [] h = refl
calm-start w (Start v slot ∷ es) h = absurd (differ (sym h))
calm-start w (Kill v ∷ es) h = absurd (differ (sym h))
calm-start w (Ready v ∷ es) h = calm-start w es h
calm-start w (Collected v g ∷ es) h = calm-start w es h
calm-start w (Done v n o ms b ∷ es) h = calm-start w es h
calm-start w (Back v ns ∷ es) h = calm-start w es h
calm-start w (Finished v ∷ es) h = calm-start w es h
calm-start w (Refused v text ∷ es) h = calm-start w es h
calm-start w (Down v c b ∷ es) h = calm-start w es h
calm-start w (NotStarted v ∷ es) h = calm-start w es h
calm-start w (Run v ns ∷ es) h = calm-start w es h
calm-start w (RunAll v ∷ es) h = calm-start w es h
calm-start w (Steal v ns ∷ es) h = calm-start w es h
calm-start w (Shutdown v ∷ es) h = calm-start w es h
calm-start w (Over how ∷ es) h = calm-start w es h

calm-kill : (es : List Entry) → AreCalm es → list_any is_kill es ≡ false
calm-kill [] h = refl
calm-kill (Start v slot ∷ es) h = absurd (differ (sym h))
calm-kill (Kill v ∷ es) h = absurd (differ (sym h))
calm-kill (Ready v ∷ es) h = calm-kill es h
calm-kill (Collected v g ∷ es) h = calm-kill es h
calm-kill (Done v n o ms b ∷ es) h = calm-kill es h
calm-kill (Back v ns ∷ es) h = calm-kill es h
calm-kill (Finished v ∷ es) h = calm-kill es h
calm-kill (Refused v text ∷ es) h = calm-kill es h
calm-kill (Down v c b ∷ es) h = calm-kill es h
calm-kill (NotStarted v ∷ es) h = calm-kill es h
calm-kill (Run v ns ∷ es) h = calm-kill es h
calm-kill (RunAll v ∷ es) h = calm-kill es h
calm-kill (Steal v ns ∷ es) h = calm-kill es h
calm-kill (Shutdown v ∷ es) h = calm-kill es h
calm-kill (Over how ∷ es) h = calm-kill es h

starts-kill : (a n : ℕ) → list_any is_kill (starts_from a n) ≡ false
starts-kill a zero = refl
starts-kill a (suc n) = starts-kill (a + 1) n

-- Where nobody died, whoever is a member was so before any news.
pub all-first : (settings : Settings) (taken : List News) (w : ℕ) → IsProper settings [] → list_any is_death (run_of settings taken).entries ≡ false
    → has_member w (λ m. true) (run_of settings taken).state.books ≡ true → has_member w (λ m. true) (begun_run settings).state.books ≡ true
all-first settings taken w proper none m =
    let k = stands-calm settings proper taken none in
    known settings [] w proper
    ∙ sym (or-false (list_any (is_start_of w) (first_starts settings)))
    ∙ ap (λ (b : Bool). list_any (is_start_of w) (first_starts settings) || b) (sym (calm-start w k.more k.calm))
    ∙ sym (list_any-append (is_start_of w) (first_starts settings) k.more)
    ∙ ap (list_any (is_start_of w)) (sym k.are) ∙ sym (known settings taken w proper) ∙ m

-- Where nobody died, nobody was killed.
pub none-killed : (settings : Settings) (taken : List News) → IsProper settings [] → list_any is_death (run_of settings taken).entries ≡ false → list_any is_kill (run_of settings taken).entries ≡ false
none-killed settings taken proper none =
    let k = stands-calm settings proper taken none in
    ap (list_any is_kill) k.are ∙ list_any-append is_kill (first_starts settings) k.more
    ∙ ap (λ (b : Bool). b || list_any is_kill k.more) (starts-kill 0 settings.workers) ∙ calm-kill k.more k.calm
