-- What a session keeps of the outputs is bounded.
use Rattle.std.proofs.Common.{◌≡◌, ℕ, zero, suc, ◌+◌, ◌-◌, ◌≤◌, List, [], ◌∷◌, ◌++◌, take, min, length, refl, sym, subst, arith, Bool, true, false, not, ◌&&◌}
use Rattle.std.specs.Prelude.{if◌then◌else◌, fold, nat_le, Option, Some, None}
use Rattle.std.specs.List.{list_all}
use Rattle.std.proofs.lemmas.Bool.Decides.{nat_tests}
use Rattle.std.proofs.lemmas.List.{length-take}
use Rattle.xd_journal.specs.declared.settings.Settings.{Settings}
use Rattle.xd_journal.specs.declared.entry.Cause.{Cause}
use Rattle.xd_journal.specs.declared.entry.Cause.TheVariants.{Breach}
use Rattle.xd_journal.specs.declared.entry.Entry.{Entry}
use Rattle.xd_journal.specs.declared.entry.Entry.TheVariants.{Ready, Collected, Done, Back, Finished, Refused, Down, NotStarted, Start, Run, RunAll, Steal, Shutdown, Kill, Over}
use Rattle.xd_journal.specs.declared.entry.Outcome.{Outcome}
use Rattle.xd_journal.specs.declared.entry.Outcome.TheVariants.{Failed, Passed, Skipped}
use Rattle.xd_journal.specs.declared.news.News.{News}
use Rattle.xd_journal.specs.declared.news.What.{What}
use Rattle.xd_journal.specs.declared.news.What.TheVariants as what
use Rattle.xd_journal.specs.Kept.{most_of_all, most_of_one}
use Rattle.xd_run.specs.Collections.{listed}
use Rattle.xd_run.specs.Histories.{starts_from}
use Rattle.xd_run.specs.Meaning.{Log, any_open, given_ids, head_bytes, is_of, is_open_log, kept_at_death, log_of, may_start_log, meaning_of, output_of, spent_by}
use Rattle.xd_run.specs.Orderly.{all_orderly, is_orderly}
use Rattle.xd_run.specs.Outputs.{outputs}
use Rattle.xd_run.specs.Proper.{IsProper, may_follow, names_head}
use Rattle.xd_run.specs.Retry.{is_retry}
use Rattle.xd_run.specs.Sharing.{State}
use Rattle.xd_run.specs.State.{after_effect}
use Rattle.xd_run.specs.Workers.{is_active}
use Rattle.xd_run_laws.proofs.Logic.{and, differ, split-and}
use Rattle.xd_session.specs.Bounded.{IsBounded, keeps_few}
use Rattle.xd_session_books.specs.Compared.{comparison, ids_to_list}
use Rattle.xd_session.specs.History.{IsProperRun, Run as SoFar, after_news, begun_run, entries_with, input_of, run_of, said_by}
use Rattle.xd_session_rules.proofs.Starts.{starts-spend}
use Rattle.xd_session_rules.proofs.Shares.{given-is}
use Rattle.xd_session_rules.proofs.Growing.{spent-more}
use Rattle.xd_session.proofs.Steps.{none-some, outputs-orderly, same-entry, sound-next, sound-run}

-- the input keeps few bytes, and where n are kept there is room for them
record Fits (spent : ℕ) (e : Entry) : Type 0 where
  few : keeps_few e ≡ true
  room : spent_by (e ∷ []) ≤ most_of_all - spent

few-of : (n : ℕ) (bs : List ℕ) → length bs ≤ n → nat_le (length bs) n ≡ true
few-of n bs h = grind (arith, nat_tests, h)

cut-few : (m n : ℕ) (bs : List ℕ) → length (take (min m n) bs) ≤ m
cut-few m n bs = (let e = length-take (min m n) bs in omega (arith, e))

cut-room : (m n : ℕ) (bs : List ℕ) → length (take (min m n) bs) + 0 ≤ n
cut-room m n bs = (let e = length-take (min m n) bs in omega (arith, e))

down-fits : (w : ℕ) (c : Cause) (log : Option Log) (spent : ℕ) (s : State) → Fits spent (Down w c (kept_at_death w log spent s))
down-fits w c log spent s = by-retry (is_retry w s.books)
  where
    by-retry : (retry : Bool) → Fits spent (Down w c (if retry then [] else take (min most_of_one (most_of_all - spent)) (head_bytes w log s)))
    by-retry true = record { few = refl; room = omega arith }
    by-retry false = record {
      few = few-of most_of_one (take (min most_of_one (most_of_all - spent)) (head_bytes w log s)) (cut-few most_of_one (most_of_all - spent) (head_bytes w log s));
      room = cut-room most_of_one (most_of_all - spent) (head_bytes w log s);
    }

done-fits : (w i : ℕ) (o : Outcome) (m : ℕ) (log : Option Log) (spent : ℕ) (s : State) → Fits spent (Done w i o m (output_of w o log spent s))
done-fits w i (Failed code) m log spent s = record {
  few = few-of most_of_one (output_of w (Failed code) log spent s) (cut-few most_of_one (most_of_all - spent) (head_bytes w log s));
  room = cut-room most_of_one (most_of_all - spent) (head_bytes w log s);
}
done-fits w i Passed m log spent s = record { few = refl; room = omega arith }
done-fits w i Skipped m log spent s = record { few = refl; room = omega arith }

pick : (spent : ℕ) (x d e : Entry) (b : Bool) → Fits spent x → Fits spent d → (if b then Some x else Some d) ≡ Some e → Fits spent e
pick spent x d e true p q h = subst (λ y. Fits spent y) (same-entry x e h) p
pick spent x d e false p q h = subst (λ y. Fits spent y) (same-entry d e h) q

pick-silent : (spent : ℕ) (d e : Entry) (b : Bool) → Fits spent d → (if b then None else Some d) ≡ Some e → Fits spent e
pick-silent spent d e true q h = none-some e (Fits spent e) h
pick-silent spent d e false q h = subst (λ y. Fits spent y) (same-entry d e h) q

nothing : (spent : ℕ) (e : Entry) → keeps_few e ≡ true → spent_by (e ∷ []) ≡ 0 → Fits spent e
nothing spent e h k = record { few = h; room = omega (arith, k) }

meaning-fits : (w : ℕ) (log : Option Log) (spent : ℕ) (s : State) (n : What) (e : Entry) → meaning_of w log spent s n ≡ Some e → Fits spent e
meaning-fits w log spent s what.Ready e h = pick spent (Ready w) (Down w Breach (kept_at_death w log spent s)) e (may_follow s (Ready w)) (nothing spent (Ready w) refl refl) (down-fits w Breach log spent s) h
meaning-fits w log spent s (what.Collected own) e h =
    let g = Collected w (ids_to_list (comparison own (listed w s.books)) own) in
    pick spent (given_ids w own s) (Down w Breach (kept_at_death w log spent s)) e (may_follow s (given_ids w own s)) (subst (λ y. Fits spent y) (sym (given-is w own s)) (nothing spent g refl refl)) (down-fits w Breach log spent s) h
meaning-fits w log spent s (what.LogStart i n) e h = pick-silent spent (Down w Breach (kept_at_death w log spent s)) e (may_start_log w i n log s) (down-fits w Breach log spent s) h
meaning-fits w log spent s (what.Piece n bs) e h = pick-silent spent (Down w Breach (kept_at_death w log spent s)) e (is_open_log n log) (down-fits w Breach log spent s) h
meaning-fits w log spent s (what.LogClosed n) e h = pick-silent spent (Down w Breach (kept_at_death w log spent s)) e (is_open_log n log) (down-fits w Breach log spent s) h
meaning-fits w log spent s (what.Done i o m) e h = pick spent (Done w i o m (output_of w o log spent s)) (Down w Breach (kept_at_death w log spent s)) e (names_head w i s && is_of i log && not (any_open log)) (done-fits w i o m log spent s) (down-fits w Breach log spent s) h
meaning-fits w log spent s (what.Back is) e h = pick spent (Back w is) (Down w Breach (kept_at_death w log spent s)) e (may_follow s (Back w is)) (nothing spent (Back w is) refl refl) (down-fits w Breach log spent s) h
meaning-fits w log spent s what.Finished e h = pick spent (Finished w) (Down w Breach (kept_at_death w log spent s)) e (may_follow s (Finished w)) (nothing spent (Finished w) refl refl) (down-fits w Breach log spent s) h
meaning-fits w log spent s (what.Closed None) e h = subst (λ y. Fits spent y) (same-entry (Down w Breach (kept_at_death w log spent s)) e h) (down-fits w Breach log spent s)
meaning-fits w log spent s (what.Closed (Some text)) e h = pick spent (Refused w text) (Down w Breach (kept_at_death w log spent s)) e (may_follow s (Refused w text)) (nothing spent (Refused w text) refl refl) (down-fits w Breach log spent s) h
meaning-fits w log spent s what.Stray e h = subst (λ y. Fits spent y) (same-entry (Down w Breach (kept_at_death w log spent s)) e h) (down-fits w Breach log spent s)
meaning-fits w log spent s (what.Gone c) e h = subst (λ y. Fits spent y) (same-entry (Down w c (kept_at_death w log spent s)) e h) (down-fits w c log spent s)
meaning-fits w log spent s what.NotStarted e h = pick spent (NotStarted w) (Down w Breach (kept_at_death w log spent s)) e (may_follow s (NotStarted w)) (nothing spent (NotStarted w) refl refl) (down-fits w Breach log spent s) h

-- outputs keep nothing

quiet-few : (s : State) (e : Entry) → is_orderly s e ≡ true → keeps_few e ≡ true
quiet-few s (Start w slot) h = refl
quiet-few s (Run w is) h = refl
quiet-few s (RunAll w) h = refl
quiet-few s (Steal w is) h = refl
quiet-few s (Shutdown w) h = refl
quiet-few s (Kill w) h = refl
quiet-few s (Over how) h = refl
quiet-few s (Ready w) h = absurd (differ h)
quiet-few s (Collected w g) h = absurd (differ h)
quiet-few s (Done w i u m o) h = absurd (differ h)
quiet-few s (Back w i) h = absurd (differ h)
quiet-few s (Finished w) h = absurd (differ h)
quiet-few s (Refused w t) h = absurd (differ h)
quiet-few s (Down w c o) h = absurd (differ h)
quiet-few s (NotStarted w) h = absurd (differ h)

all-quiet : (s : State) (es : List Entry) → all_orderly s es ≡ true → list_all keeps_few es ≡ true
all-quiet s [] h = refl
all-quiet s (e ∷ es) h = (let p = split-and (is_orderly s e) (all_orderly (after_effect s e) es) h in and (quiet-few s e p.0) (all-quiet (after_effect s e) es p.1))

all-append : (es fs : List Entry) → list_all keeps_few es ≡ true → list_all keeps_few fs ≡ true → list_all keeps_few (es ++ fs) ≡ true
all-append [] fs h k = k
all-append (e ∷ es) fs h k = (let p = split-and (keeps_few e) (list_all keeps_few es) h in and p.0 (all-append es fs p.1 k))

-- along the news

within-room : (now before more all : ℕ) → now ≡ before + more → more ≤ all - before → before ≤ all → now ≤ all
within-room now before more all e h k = omega arith

bounded-input : (r : SoFar) (o : Option Entry) → ((e : Entry) → o ≡ Some e → Fits (spent_by r.entries) e) → ((e : Entry) → o ≡ Some e → all_orderly (after_effect r.state e) (outputs r.state e) ≡ true) → IsBounded r.entries
    → IsBounded (entries_with o r.entries r.state)
bounded-input r None f m b = b
bounded-input r (Some e) f m b =
    let fits = f e refl in
    let ordered = m e refl in
    let spends = spent-more r.state r.entries e ordered in
    let room = fits.room in
    let low = b.together in
    record {
      each = all-append r.entries (e ∷ outputs r.state e) b.each (and fits.few (all-quiet (after_effect r.state e) (outputs r.state e) ordered));
      together = within-room (spent_by (r.entries ++ (e ∷ outputs r.state e))) (spent_by r.entries) (spent_by (e ∷ [])) most_of_all spends room low;
    }

meant-by : (b : Bool) (o : Option Entry) (e : Entry) → (if b then o else None) ≡ Some e → o ≡ Some e
meant-by true o e h = h
meant-by false o e h = none-some e (o ≡ Some e) h

bounded-next : (settings : Settings) (r : SoFar) (n : News) → IsProperRun settings r → IsBounded r.entries → IsBounded (after_news r n).entries
bounded-next settings r n k b =
    let w = n.worker in
    let log = log_of (said_by w r.taken) in
    let o = meaning_of w log (spent_by r.entries) r.state n.what in
    bounded-input r (input_of r n) (λ e h. meaning-fits w log (spent_by r.entries) r.state n.what e (meant-by (is_active w r.state.books) o e h)) (λ e h. outputs-orderly settings r n e k h) b

bounded-fold : (settings : Settings) (r : SoFar) (taken : List News) → IsProperRun settings r → IsBounded r.entries → IsBounded (fold after_news r taken).entries
bounded-fold settings r [] k b = b
bounded-fold settings r (n ∷ taken) k b = bounded-fold settings (after_news r n) taken (sound-next settings r n k) (bounded-next settings r n k b)

starts-few : (w n : ℕ) → list_all keeps_few (starts_from w n) ≡ true
starts-few w zero = refl
starts-few w (suc n) = starts-few (w + 1) n

pub bounded-run : (settings : Settings) (taken : List News) → IsProper settings [] → IsBounded (run_of settings taken).entries
bounded-run settings taken p =
    bounded-fold settings (begun_run settings) taken (sound-run settings [] p)
    (record { each = starts-few 0 settings.workers; together = (let e = starts-spend 0 settings.workers in omega (arith, e)) })
