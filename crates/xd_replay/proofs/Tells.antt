-- A run tells each of its inputs as it should.
use Rattle.std.proofs.Common.{◌≡◌, ℕ, zero, suc, ◌+◌, ◌≤◌, List, [], ◌∷◌, ◌++◌, take, length, refl, ap, ap₂, sym, ◌∙◌, arith, Bool, true, false, not, ◌&&◌, inr}
use Rattle.std.specs.Prelude.{if◌then◌else◌, ◌==◌, fold, nat_le, Option, Some, None, is_none, is_some}
use Rattle.std.specs.List.{list_any}
use Rattle.std.proofs.lemmas.Bool.Decides.{nat_tests}
use Rattle.std.proofs.lemmas.List.{length-take}
use Rattle.xd_journal.specs.declared.settings.Settings.{Settings}
use Rattle.xd_journal.specs.declared.entry.Cause.{Cause}
use Rattle.xd_journal.specs.declared.entry.Cause.TheVariants.{Breach}
use Rattle.xd_journal.specs.declared.entry.Entry.{Entry}
use Rattle.xd_journal.specs.declared.entry.Entry.TheVariants.{Ready, Collected, Done, Back, Finished, Refused, Down, NotStarted}
use Rattle.xd_journal.specs.declared.entry.Ids.TheVariants as ids
use Rattle.xd_journal.specs.declared.entry.Outcome.{Outcome}
use Rattle.xd_journal.specs.declared.entry.Outcome.TheVariants.{Failed, Passed, Skipped}
use Rattle.xd_journal.specs.declared.news.News.{News}
use Rattle.xd_journal.specs.declared.news.What.{What}
use Rattle.xd_journal.specs.declared.news.What.TheVariants as what
use Rattle.xd_journal.specs.Kept.{output_room}
use Rattle.xd_run.specs.declared.member.Listed.{Listed}
use Rattle.xd_run.specs.Collections.{differ_at, listed}
use Rattle.xd_run.specs.Ending.{ending, may_close}
use Rattle.xd_run.specs.Histories.{after_inputs, after_starts}
use Rattle.xd_run.specs.Meaning.{Log, any_open, given_ids, head_bytes, is_of, is_open_log, kept_at_death, log_of, may_start_log, meaning_of, output_of, spent_by}
use Rattle.xd_run.specs.Outputs.{after_input}
use Rattle.xd_run.specs.Plan.{items_named}
use Rattle.xd_run.specs.Proper.{IsProper, may_follow, names_head}
use Rattle.xd_run.specs.Retry.{is_retry}
use Rattle.xd_run.specs.Sharing.{State}
use Rattle.xd_run.specs.Table.{held}
use Rattle.xd_run.specs.Workers.{is_active, slot_of}
use Rattle.xd_run_laws.proofs.Logic.{and, split-and}
use Rattle.xd_session.specs.History.{IsProperRun, Run as SoFar, after_news, begun_run, entries_with, input_of, inputs_with, run_of, said_by, state_with}
use Rattle.xd_session.proofs.Steps.{none-some, outputs-orderly, same-entry, sound-next, sound-run}
use Rattle.xd_session_rules.proofs.Growing.{spent-more}
use Rattle.xd_session_rules.proofs.Starts.{starts-spend}
use Rattle.xd_replay.specs.Alone.{most_retries}
use Rattle.xd_replay.specs.Checked.{CanBeLeft}
use Rattle.xd_replay.specs.Told.{all_told_rightly, is_told_rightly}
use Rattle.xd_replay.specs.inner.Good.{spent_at}

-- what is kept of a test

few-of : (n : ℕ) (bs : List ℕ) → length bs ≤ n → nat_le (length bs) n ≡ true
few-of n bs h = grind (arith, nat_tests, h)

pub taken-few : (n : ℕ) (bs : List ℕ) → nat_le (length (take n bs)) n ≡ true
taken-few n bs = (let e = length-take n bs in few-of n (take n bs) (omega (arith, e)))

none-any : (items : List ℕ) → list_any (λ item. false) items ≡ false
none-any [] = refl
none-any (x ∷ xs) = none-any xs

no-head : (w index : ℕ) (s : State) → held w s.books.table ≡ [] → names_head w index s ≡ false
no-head w index s e =
    ap (λ (h : List ℕ). list_any (λ item. elim h as (λ _. Bool) [ [] ↦ false | t ∷ ts ↦ item == t ]) (items_named (slot_of w s.books) (index ∷ []) s.plan)) e
    ∙ none-any (items_named (slot_of w s.books) (index ∷ []) s.plan)

no-bytes : (w : ℕ) (log : Option Log) (s : State) → held w s.books.table ≡ [] → head_bytes w log s ≡ []
no-bytes w None s e = refl
no-bytes w (Some l) s e = ap (λ b. if b then l.bytes else []) (no-head w l.index s e)

none-taken : (k : ℕ) (bs : List ℕ) → bs ≡ [] → nat_le (length (take k bs)) 0 ≡ true
none-taken zero bs e = refl
none-taken (suc k) [] e = refl
none-taken (suc k) (b ∷ bs) e = cc

death-by : (b : Bool) (h : List ℕ) (room : ℕ) (bs : List ℕ) → (h ≡ [] → bs ≡ [])
    → nat_le (length (if b then [] else take room bs)) (if b then 0 else (elim h as (λ _. ℕ) [ [] ↦ 0 | t ∷ ts ↦ room ])) ≡ true
death-by true h room bs n = refl
death-by false [] room bs n = none-taken room bs (n refl)
death-by false (t ∷ ts) room bs n = taken-few room bs

down-told : (w : ℕ) (c : Cause) (log : Option Log) (spent : ℕ) (s : State) → is_told_rightly spent s (Down w c (kept_at_death w log spent s)) ≡ true
down-told w c log spent s = death-by (is_retry w s.books) (held w s.books.table) (output_room spent) (head_bytes w log s) (no-bytes w log s)

done-told : (w i : ℕ) (o : Outcome) (m : ℕ) (log : Option Log) (spent : ℕ) (s : State) → is_told_rightly spent s (Done w i o m (output_of w o log spent s)) ≡ true
done-told w i (Failed code) m log spent s = taken-few (output_room spent) (head_bytes w log s)
done-told w i Passed m log spent s = refl
done-told w i Skipped m log spent s = refl

-- collections

given-by : (w spent : ℕ) (own : List (List ℕ)) (s : State) (l : Listed) (d : Option ℕ) → listed w s.books ≡ Some l → differ_at l.ids own ≡ d
    → is_told_rightly spent s (if is_none d then Collected w ids.Same else Collected w (ids.List own)) ≡ true
given-by w spent own s l None e k = refl
given-by w spent own s l (Some n) e k = ap (λ (o : Option Listed). elim o as (λ _. Bool) [ None ↦ true | Some l ↦ is_some (differ_at l.ids own) ]) e ∙ ap is_some k

given-told-by : (w spent : ℕ) (own : List (List ℕ)) (s : State) (o : Option Listed) → listed w s.books ≡ o
    → is_told_rightly spent s (elim o as (λ _. Entry) [ None ↦ Collected w (ids.List own) | Some l ↦ (if is_none (differ_at l.ids own) then Collected w ids.Same else Collected w (ids.List own)) ]) ≡ true
given-told-by w spent own s None e = ap (λ (o : Option Listed). elim o as (λ _. Bool) [ None ↦ true | Some l ↦ is_some (differ_at l.ids own) ]) e
given-told-by w spent own s (Some l) e = given-by w spent own s l (differ_at l.ids own) e refl

given-told : (w spent : ℕ) (own : List (List ℕ)) (s : State) → is_told_rightly spent s (given_ids w own s) ≡ true
given-told w spent own s = given-told-by w spent own s (listed w s.books) refl

-- what news mean

told-pick : (spent : ℕ) (s : State) (x d e : Entry) (b : Bool) → is_told_rightly spent s x ≡ true → is_told_rightly spent s d ≡ true → (if b then Some x else Some d) ≡ Some e → is_told_rightly spent s e ≡ true
told-pick spent s x d e true p q h = ap (is_told_rightly spent s) (sym (same-entry x e h)) ∙ p
told-pick spent s x d e false p q h = ap (is_told_rightly spent s) (sym (same-entry d e h)) ∙ q

told-silent : (spent : ℕ) (s : State) (d e : Entry) (b : Bool) → is_told_rightly spent s d ≡ true → (if b then None else Some d) ≡ Some e → is_told_rightly spent s e ≡ true
told-silent spent s d e true q h = none-some e (is_told_rightly spent s e ≡ true) h
told-silent spent s d e false q h = ap (is_told_rightly spent s) (sym (same-entry d e h)) ∙ q

meaning-told : (w : ℕ) (log : Option Log) (spent : ℕ) (s : State) (n : What) (e : Entry) → meaning_of w log spent s n ≡ Some e → is_told_rightly spent s e ≡ true
meaning-told w log spent s what.Ready e h = told-pick spent s (Ready w) (Down w Breach (kept_at_death w log spent s)) e (may_follow s (Ready w)) refl (down-told w Breach log spent s) h
meaning-told w log spent s (what.Collected own) e h = told-pick spent s (given_ids w own s) (Down w Breach (kept_at_death w log spent s)) e (may_follow s (given_ids w own s)) (given-told w spent own s) (down-told w Breach log spent s) h
meaning-told w log spent s (what.LogStart i n) e h = told-silent spent s (Down w Breach (kept_at_death w log spent s)) e (may_start_log w i n log s) (down-told w Breach log spent s) h
meaning-told w log spent s (what.Piece n bs) e h = told-silent spent s (Down w Breach (kept_at_death w log spent s)) e (is_open_log n log) (down-told w Breach log spent s) h
meaning-told w log spent s (what.LogClosed n) e h = told-silent spent s (Down w Breach (kept_at_death w log spent s)) e (is_open_log n log) (down-told w Breach log spent s) h
meaning-told w log spent s (what.Done i o m) e h =
    told-pick spent s (Done w i o m (output_of w o log spent s)) (Down w Breach (kept_at_death w log spent s)) e (names_head w i s && is_of i log && not (any_open log)) (done-told w i o m log spent s) (down-told w Breach log spent s) h
meaning-told w log spent s (what.Back is) e h = told-pick spent s (Back w is) (Down w Breach (kept_at_death w log spent s)) e (may_follow s (Back w is)) refl (down-told w Breach log spent s) h
meaning-told w log spent s what.Finished e h = told-pick spent s (Finished w) (Down w Breach (kept_at_death w log spent s)) e (may_follow s (Finished w)) refl (down-told w Breach log spent s) h
meaning-told w log spent s (what.Closed None) e h = ap (is_told_rightly spent s) (sym (same-entry (Down w Breach (kept_at_death w log spent s)) e h)) ∙ down-told w Breach log spent s
meaning-told w log spent s (what.Closed (Some text)) e h = told-pick spent s (Refused w text) (Down w Breach (kept_at_death w log spent s)) e (may_follow s (Refused w text)) refl (down-told w Breach log spent s) h
meaning-told w log spent s what.Stray e h = ap (is_told_rightly spent s) (sym (same-entry (Down w Breach (kept_at_death w log spent s)) e h)) ∙ down-told w Breach log spent s
meaning-told w log spent s (what.Gone c) e h = ap (is_told_rightly spent s) (sym (same-entry (Down w c (kept_at_death w log spent s)) e h)) ∙ down-told w c log spent s
meaning-told w log spent s what.NotStarted e h = told-pick spent s (NotStarted w) (Down w Breach (kept_at_death w log spent s)) e (may_follow s (NotStarted w)) refl (down-told w Breach log spent s) h

told-where : (spent : ℕ) (s : State) (b : Bool) (o : Option Entry) (e : Entry) → (o ≡ Some e → is_told_rightly spent s e ≡ true) → (if b then o else None) ≡ Some e → is_told_rightly spent s e ≡ true
told-where spent s true o e h k = h k
told-where spent s false o e h k = none-some e (is_told_rightly spent s e ≡ true) k

input-told : (r : SoFar) (n : News) (e : Entry) → input_of r n ≡ Some e → is_told_rightly (spent_by r.entries) r.state e ≡ true
input-told r n e h =
    let w = n.worker in
    let log = log_of (said_by w r.taken) in
    told-where (spent_by r.entries) r.state (is_active w r.state.books) (meaning_of w log (spent_by r.entries) r.state n.what) e (meaning-told w log (spent_by r.entries) r.state n.what e) h

-- one input more

pub spent-last : (spent : ℕ) (is : List Entry) (e : Entry) → spent_at spent (is ++ e ∷ []) ≡ spent_at spent is + spent_by (e ∷ [])
spent-last spent [] e = refl
spent-last spent (i ∷ is) e = spent-last (spent + spent_by (i ∷ [])) is e

pub told-last : (spent : ℕ) (s : State) (is : List Entry) (x : Entry) → all_told_rightly spent s is ≡ true → is_told_rightly (spent_at spent is) (after_inputs s is) x ≡ true → all_told_rightly spent s (is ++ x ∷ []) ≡ true
told-last spent s [] x h k = and k refl
told-last spent s (i ∷ is) x h k =
    let p = split-and (is_told_rightly spent s i) (all_told_rightly (spent + spent_by (i ∷ [])) (after_input s i) is) h in
    and p.0 (told-last (spent + spent_by (i ∷ [])) (after_input s i) is x p.1 k)

-- runs

-- its inputs are told so, and its entries keep what they keep
record Tells (settings : Settings) (r : SoFar) : Type 0 where
  told : all_told_rightly 0 (after_starts settings) r.inputs ≡ true
  spent : spent_by r.entries ≡ spent_at 0 r.inputs

tells-with : (settings : Settings) (r : SoFar) (n : News) (o : Option Entry) → input_of r n ≡ o → IsProperRun settings r → Tells settings r
    → Tells settings (record { entries = entries_with o r.entries r.state; state = state_with o r.state; inputs = inputs_with o r.inputs; taken = r.taken ++ n ∷ [] })
tells-with settings r n None h p t = record { told = t.told; spent = t.spent }
tells-with settings r n (Some e) h p t = record {
  told = told-last 0 (after_starts settings) r.inputs e t.told (ap₂ (λ (m : ℕ) (u : State). is_told_rightly m u e) (sym t.spent) (sym p.state) ∙ input-told r n e h);
  spent = spent-more r.state r.entries e (outputs-orderly settings r n e p h) ∙ ap (λ m. m + spent_by (e ∷ [])) t.spent ∙ sym (spent-last 0 r.inputs e);
}

tells-fold : (settings : Settings) (r : SoFar) (taken : List News) → IsProperRun settings r → Tells settings r → Tells settings (fold after_news r taken)
tells-fold settings r [] p t = t
tells-fold settings r (n ∷ taken) p t = tells-fold settings (after_news r n) taken (sound-next settings r n p) (tells-with settings r n (input_of r n) refl p t)

run-tells : (settings : Settings) (taken : List News) → IsProper settings [] → Tells settings (run_of settings taken)
run-tells settings taken p = tells-fold settings (begun_run settings) taken (sound-run settings [] p) (record { told = refl; spent = starts-spend 0 settings.workers })

-- what a session leaves can be left
pub left-by-run : (settings : Settings) (taken : List News) (out_failed : Bool) → IsProper settings [] → nat_le settings.retries most_retries ≡ true → may_close out_failed (run_of settings taken).state.books ≡ true
    → CanBeLeft settings ((run_of settings taken).entries ++ ending out_failed (run_of settings taken).state.books)
left-by-run settings taken out_failed p few may =
    let r = run_of settings taken in
    let k = sound-run settings taken p in
    inr (record {
      inputs = r.inputs;
      proper = k.proper;
      retries = few;
      told = (run-tells settings taken p).told;
      out_failed = out_failed;
      may = ap (λ (u : State). may_close out_failed u.books) (sym k.state) ∙ may;
      entries_are = ap₂ (λ es (u : State). es ++ ending out_failed u.books) k.journal k.state;
    })
