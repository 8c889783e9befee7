-- A journal ends with the stop that its end says.
use Rattle.std.proofs.Common.{◌≡◌, ℕ, ◌+◌, List, [], ◌∷◌, ◌++◌, Bool, true, false, not, refl}
use Rattle.std.specs.Prelude.{Option, Some, None, unwrap_or, nat_lt}
use Rattle.xd_journal.specs.declared.settings.Settings.{Settings}
use Rattle.xd_journal.specs.declared.entry.Ids.{Ids}
use Rattle.xd_journal.specs.declared.entry.Ids.TheVariants as ids
use Rattle.xd_journal.specs.declared.entry.Outcome.{Outcome}
use Rattle.xd_journal.specs.declared.entry.Outcome.TheVariants.{Passed, Skipped, Failed}
use Rattle.xd_journal.specs.declared.entry.RunStop.{RunStop}
use Rattle.xd_journal.specs.declared.entry.RunStop.TheVariants.{CollectError, Completed, MaxFail, Restarts, Unequal}
use Rattle.xd_journal.specs.declared.entry.Entry.{Entry}
use Rattle.xd_journal.specs.declared.entry.Entry.TheVariants.{Ready, Collected, Done, Back, Finished, Refused, Down, NotStarted, Start, Run, RunAll, Steal, Shutdown, Kill, Over}
use Rattle.xd_journal.specs.Stop.{reaches}
use Rattle.xd_run.specs.declared.member.Listed.{Listed}
use Rattle.xd_run.specs.Books.{Books, marked}
use Rattle.xd_run.specs.Workers.{made_collected, slot_of}
use Rattle.xd_run.specs.Collections.{differ_at, listed, unequal, with_list}
use Rattle.xd_run.specs.Stops.{at_limit, or_stop, out_of_restarts}
use Rattle.xd_run.specs.Retry.{is_retry}
use Rattle.xd_run.specs.Sharing.{State, in_books}
use Rattle.xd_run.specs.Deaths.{buried, down_books, gone}
use Rattle.xd_run.specs.Results.{completed_first, done_books, done_stop, failing}
use Rattle.xd_run.specs.State.{after_entries, is_input, after_effect, after_entry, no_one, settled, state_at}
use Rattle.xd_run.specs.Ending.{ending, over_in}
use Rattle.xd_run.specs.Plan.{items_named}
use Rattle.xd_run_laws.proofs.Inputs.{collecting-keeps}
use Rattle.xd_run_laws.proofs.Logic.{in_both, not_true}
use Rattle.xd_run_laws.proofs.NoOver.{NoOver, stop-failed, stop-over}
use Rattle.xd_session.specs.Ends.{is_out_fault, last_stop}

-- the end says with which stop a journal ends

pub ending-stop : (failed : Bool) (b : Books) (es : List Entry) (other : RunStop) → NoOver es → over_in (es ++ ending failed b) other ≡ last_stop failed b
ending-stop true b es other h = stop-failed b es other h
ending-stop false b es other h = stop-over b es other h

-- no entry stops a run because of its output

abbrev fine : Option RunStop → Bool
fine None = true
fine (Some how) = not (is_out_fault how)

abbrev Fine : State → Type 0
Fine s = fine s.books.stop ≡ true

fine-or : (a b : Option RunStop) → fine a ≡ true → fine b ≡ true → fine (or_stop a b) ≡ true
fine-or None b h k = k
fine-or (Some how) b h k = h

fine-limit : (b : Books) → fine (at_limit b) ≡ true
fine-limit b = in_both (λ (o : Option RunStop). fine o ≡ true) (reaches b.settings.maxfail b.failures) (Some (MaxFail b.failures)) None (λ h. refl) (λ h. refl)

fine-restarts : (w : ℕ) (b : Books) → fine (out_of_restarts w b) ≡ true
fine-restarts w b = in_both (λ (o : Option RunStop). fine o ≡ true) (nat_lt b.settings.restarts b.deaths) (Some (Restarts w b.settings.restarts)) None (λ h. refl) (λ h. refl)

fine-place : (w v : ℕ) (o : Option ℕ) → fine (elim o as (λ _. Option RunStop) [ None ↦ None | Some place ↦ Some (Unequal w v place) ]) ≡ true
fine-place w v None = refl
fine-place w v (Some place) = refl

fine-unequal : (w : ℕ) (g : Ids) (o : Option Listed) → fine (unequal w g o) ≡ true
fine-unequal w ids.Same None = refl
fine-unequal w (ids.List own) None = refl
fine-unequal w ids.Same (Some l) = refl
fine-unequal w (ids.List own) (Some l) = fine-place w l.worker (differ_at l.ids own)

fine-done : (u : Outcome) (b : Books) → fine (done_stop u b) ≡ true
fine-done (Failed code) b = fine-limit b
fine-done Passed b = refl
fine-done Skipped b = refl

fine-result : (w : ℕ) (items : List ℕ) (u : Outcome) (b : Books) → fine b.stop ≡ true → fine (done_books w items u b).stop ≡ true
fine-result w items u b h =
    let c : Books = record b { table = completed_first w items b.table; failures = b.failures + failing u } in
    fine-or b.stop (done_stop u c) h (fine-done u c)

fine-death : (w : ℕ) (retry : Bool) (b : Books) → fine b.stop ≡ true → fine (down_books w retry b).stop ≡ true
fine-death w retry b h =
    let c : Books = gone w (buried w retry b) in
    fine-or b.stop (or_stop (at_limit c) (out_of_restarts w c)) h (fine-or (at_limit c) (out_of_restarts w c) (fine-limit c) (fine-restarts w c))

fine-moved : (s : State) (e : Entry) → Fine s → Fine (after_effect s e)
fine-moved s (Run w is) h = h
fine-moved s (RunAll w) h = h
fine-moved s (Steal w is) h = h
fine-moved s (Shutdown w) h = h
fine-moved s (Start w slot) h = h
fine-moved s (Kill w) h = h
fine-moved s (Over how) h = h
fine-moved s (Ready w) h = h
fine-moved s (Collected w g) h =
    collecting-keeps Fine (in_books (λ b. marked (made_collected w) (with_list w g b)) s) w (unequal w g (listed w s.books)) h
    (fine-or s.books.stop (unequal w g (listed w s.books)) h (fine-unequal w g (listed w s.books))) h (λ n. h)
fine-moved s (Done w i u m o) h = fine-result w (items_named (slot_of w s.books) (i ∷ []) s.plan) u s.books h
fine-moved s (Back w is) h = h
fine-moved s (Finished w) h = h
fine-moved s (Refused w t) h = fine-or s.books.stop (Some (CollectError w)) h refl
fine-moved s (Down w c o) h = fine-death w (is_retry w s.books) s.books h
fine-moved s (NotStarted w) h = fine-death w (is_retry w s.books) s.books h

fine-next : (s : State) (e : Entry) → Fine s → Fine (after_entry s e)
fine-next s e h = in_both (λ (u : State). Fine (after_effect u e)) (is_input e) (settled s) s (λ k. fine-moved (settled s) e h) (λ k. fine-moved s e h)

fine-all : (s : State) (es : List Entry) → Fine s → Fine (after_entries s es)
fine-all s [] h = h
fine-all s (e ∷ es) h = fine-all (after_entry s e) es (fine-next s e h)

fine-end : (o : Option RunStop) → fine o ≡ true → is_out_fault (unwrap_or o Completed) ≡ false
fine-end None h = refl
fine-end (Some how) h = not_true (is_out_fault how) h

pub told-so : (failed : Bool) (settings : Settings) (es : List Entry) → is_out_fault (last_stop failed (state_at settings es).books) ≡ failed
told-so true settings es = refl
told-so false settings es = fine-end (after_entries (no_one settings) es).books.stop (fine-all (no_one settings) es refl)
