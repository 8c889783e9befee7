-- Before its end no entry of a journal is an Over, so its end says how it ended.
use Rattle.std.proofs.Common.{◌≡◌, ℕ, zero, suc, ◌+◌, List, [], ◌∷◌, ◌++◌, length, map, Bool, true, false, not, ◌&&◌, refl, ◌∙◌}
use Rattle.std.specs.Prelude.{if◌then◌else◌, filter}
use Rattle.std.specs.List.{list_all}
use Rattle.std.proofs.lemmas.List.Folds.{list_all-append}
use Rattle.xd_journal.specs.declared.settings.Settings.{Settings}
use Rattle.xd_journal.specs.declared.entry.RunStop.{RunStop}
use Rattle.xd_journal.specs.declared.entry.RunStop.TheVariants.{OutFault}
use Rattle.xd_journal.specs.declared.entry.Entry.{Entry}
use Rattle.xd_journal.specs.declared.entry.Entry.TheVariants.{Ready, Collected, Done, Back, Finished, Refused, Down, NotStarted, Start, Run, RunAll, Steal, Shutdown, Kill, Over}
use Rattle.xd_run.specs.declared.member.Member.{Member}
use Rattle.xd_run.specs.Turn.{Turn}
use Rattle.xd_run.specs.Modes.{ModeCall}
use Rattle.xd_run.specs.Modes.ModeCall.{Share, Joined, TestDone, TestsBack, Died}
use Rattle.xd_run.specs.Books.{Books}
use Rattle.xd_run.specs.Workers.{is_shut, slot_of, waiting}
use Rattle.xd_run.specs.Stops.{is_shutting, is_stopped}
use Rattle.xd_run.specs.Sharing.{State}
use Rattle.xd_run.specs.State.{is_input, after_entries, after_effect, settles}
use Rattle.xd_run.specs.Outputs.{acts_of, outputs_of_death, outputs_of_joining, closing, outputs, own_outputs, shut_all, slots_of_rota, after_input, turn_of, unless_stopped}
use Rattle.xd_run.specs.Histories.{after_starts, run_end_of, first_starts, grown, journal_of, starts_from}
use Rattle.xd_run.specs.Ending.{ending, kills, over_in}
use Rattle.xd_run_laws.proofs.Logic.{and, differ, in_both, split-and}
use Rattle.xd_run_laws.proofs.Turned.{Kept, turned-keeps}

abbrev no_over : Entry → Bool
no_over (Over how) = false
no_over _ = true

abbrev pub NoOver : List Entry → Type 0
NoOver es = list_all no_over es ≡ true

join : (xs ys : List Entry) → NoOver xs → NoOver ys → NoOver (xs ++ ys)
join xs ys a b = list_all-append no_over xs ys ∙ and a b

-- what a mode says

abbrev Silent : Turn → Type 0
Silent t = NoOver t.acts

by_queue : (units : List (List ℕ)) (t : Turn) (u : List ℕ → List (List ℕ) → Turn) → Silent t → ((x : List ℕ) (xs : List (List ℕ)) → Silent (u x xs))
    → Silent (elim units as (λ _. Turn) [ [] ↦ t | x ∷ xs ↦ u x xs ])
by_queue [] t u a b = a
by_queue (x ∷ xs) t u a b = b x xs

silent_moves : Kept Silent
silent_moves = record {
  gives = λ w i is t a. join t.acts (Run w (i ∷ is) ∷ []) a refl;
  gives_all = λ w slot t a. join t.acts (RunAll w ∷ []) a refl;
  gives_of_slot = λ w slot i is t a. join t.acts (Run w _ ∷ []) a refl;
  gives_unit = λ w t a. by_queue t.plan.queue t _ a (λ u us. join t.acts (Run w u ∷ []) a refl);
  asks = λ s n t a. join t.acts (Steal s.worker _ ∷ []) a refl;
  shuts = λ w t a. join t.acts (Shutdown w ∷ []) a refl;
}

no-over-acts : (c : ModeCall) (s : State) → NoOver (acts_of c s)
no-over-acts c s = turned-keeps Silent silent_moves s.plan.mode c (turn_of s) refl

-- what follows an input

no-over-shut : (ws : List ℕ) → NoOver (map (λ w. Shutdown w) ws)
no-over-shut [] = refl
no-over-shut (w ∷ ws) = no-over-shut ws

no-over-unless : (b n : Books) (es : List Entry) → NoOver es → NoOver (unless_stopped b n es)
no-over-unless b n es h =
    in_both NoOver (is_stopped b) [] (if is_stopped n then shut_all n.members else es) (λ k. refl)
    (λ k. in_both NoOver (is_stopped n) (shut_all n.members) es (λ l. no-over-shut (waiting n.members)) (λ l. h))

no-over-joining : (w : ℕ) (b : Books) (t : State) → NoOver (outputs_of_joining w b t)
no-over-joining w b t =
    let joined = acts_of (Joined w (slot_of w t.books)) t in
    let shared = acts_of (Share (slots_of_rota t.books)) t in
    in_both NoOver b.shared joined (if t.books.shared then shared else []) (λ h. no-over-acts (Joined w (slot_of w t.books)) t)
    (λ h. in_both NoOver t.books.shared shared [] (λ k. no-over-acts (Share (slots_of_rota t.books)) t) (λ k. refl))

no-over-death : (w : ℕ) (t : State) → NoOver (outputs_of_death w t)
no-over-death w t =
    join (if t.books.shared then acts_of Died t else []) (Start (length t.books.members) (slot_of w t.books) ∷ [])
    (in_both NoOver t.books.shared (acts_of Died t) [] (λ h. no-over-acts Died t) (λ h. refl)) refl

no-over-own : (s : State) (e : Entry) (t : State) → NoOver (own_outputs s e t)
no-over-own s (Ready w) t = in_both NoOver (is_shutting t.books) (Shutdown w ∷ []) [] (λ k. refl) (λ k. refl)
no-over-own s (Collected w g) t =
    in_both NoOver (is_shut w s.books) [] (unless_stopped s.books t.books (outputs_of_joining w s.books t)) (λ k. refl) (λ k. no-over-unless s.books t.books (outputs_of_joining w s.books t) (no-over-joining w s.books t))
no-over-own s (Done w i u m o) t = no-over-unless s.books t.books (acts_of (TestDone w m) t) (no-over-acts (TestDone w m) t)
no-over-own s (Back w is) t = no-over-unless s.books t.books (acts_of TestsBack t) (no-over-acts TestsBack t)
no-over-own s (Finished w) t = refl
no-over-own s (Refused w x) t = no-over-unless s.books t.books [] refl
no-over-own s (Down w c o) t = no-over-unless s.books t.books (outputs_of_death w t) (no-over-death w t)
no-over-own s (NotStarted w) t = no-over-unless s.books t.books (outputs_of_death w t) (no-over-death w t)
no-over-own s (Start w slot) t = refl
no-over-own s (Run w is) t = refl
no-over-own s (RunAll w) t = refl
no-over-own s (Steal w is) t = refl
no-over-own s (Shutdown w) t = refl
no-over-own s (Kill w) t = refl
no-over-own s (Over how) t = refl

no-over-outputs : (s : State) (e : Entry) → NoOver (outputs s e)
no-over-outputs s e =
    let t = after_effect s e in
    let own = own_outputs s e t in
    let u = after_entries t own in
    join own (closing u) (no-over-own s e t) (in_both NoOver (not (is_shutting u.books) && settles u) (shut_all u.books.members) [] (λ h. no-over-shut (waiting u.books.members)) (λ h. refl))

-- what a worker may say

no-over-input : (e : Entry) → is_input e ≡ true → no_over e ≡ true
no-over-input (Run w is) h = refl
no-over-input (RunAll w) h = refl
no-over-input (Steal w is) h = refl
no-over-input (Shutdown w) h = refl
no-over-input (Start w slot) h = refl
no-over-input (Kill w) h = refl
no-over-input (Over how) h = absurd (differ h)
no-over-input (Ready w) h = refl
no-over-input (Collected w g) h = refl
no-over-input (Done w i u m o) h = refl
no-over-input (Back w is) h = refl
no-over-input (Finished w) h = refl
no-over-input (Refused w t) h = refl
no-over-input (Down w c o) h = refl
no-over-input (NotStarted w) h = refl

no-over-starts : (w n : ℕ) → NoOver (starts_from w n)
no-over-starts w zero = refl
no-over-starts w (suc n) = no-over-starts (w + 1) n

no-over-grown : (s : State) (es : List Entry) → list_all is_input es ≡ true → NoOver (grown s es)
no-over-grown s [] h = refl
no-over-grown s (e ∷ es) h =
    let p = split-and (is_input e) (list_all is_input es) h in
    join (e ∷ outputs s e) (grown (after_input s e) es) (and (no-over-input e p.0) (no-over-outputs s e)) (no-over-grown (after_input s e) es p.1)

pub no-over-journal : (settings : Settings) (inputs : List Entry) → list_all is_input inputs ≡ true → NoOver (journal_of settings inputs)
no-over-journal settings inputs h = join (first_starts settings) (grown (after_starts settings) inputs) (no-over-starts 0 settings.workers) (no-over-grown (after_starts settings) inputs h)

-- the end says how

over-first : (e : Entry) (es : List Entry) (other : RunStop) → no_over e ≡ true → over_in (e ∷ es) other ≡ over_in es other
over-first (Run w is) es other h = refl
over-first (RunAll w) es other h = refl
over-first (Steal w is) es other h = refl
over-first (Shutdown w) es other h = refl
over-first (Start w slot) es other h = refl
over-first (Kill w) es other h = refl
over-first (Over how) es other h = absurd (differ h)
over-first (Ready w) es other h = refl
over-first (Collected w g) es other h = refl
over-first (Done w i u m o) es other h = refl
over-first (Back w is) es other h = refl
over-first (Finished w) es other h = refl
over-first (Refused w t) es other h = refl
over-first (Down w c o) es other h = refl
over-first (NotStarted w) es other h = refl

over-following : (es more : List Entry) (other : RunStop) → NoOver es → over_in (es ++ more) other ≡ over_in more other
over-following [] more other h = refl
over-following (e ∷ es) more other h = (let p = split-and (no_over e) (list_all no_over es) h in over-first e (es ++ more) other p.0 ∙ over-following es more other p.1)

no-over-kills : (ms : List Member) → NoOver (map (λ (m : Member). Kill m.worker) ms)
no-over-kills [] = refl
no-over-kills (m ∷ ms) = no-over-kills ms

pub stop-failed : (b : Books) (es : List Entry) (other : RunStop) → NoOver es → over_in (es ++ ending true b) other ≡ OutFault
stop-failed b es other h = over-following es (ending true b) other h ∙ over-following (kills b.members) (Over OutFault ∷ []) other (no-over-kills (filter (λ m. m.active) b.members))

pub stop-over : (b : Books) (es : List Entry) (other : RunStop) → NoOver es → over_in (es ++ ending false b) other ≡ run_end_of b
stop-over b es other h = over-following es (ending false b) other h
