-- What follows an entry that is no death starts no worker and kills none, and what follows any entry is told.
use Rattle.std.proofs.Common.{◌≡◌, ℕ, List, [], ◌∷◌, ◌++◌, map, Bool, true, false, ◌||◌, refl, ap, sym, ◌∙◌}
use Rattle.std.specs.Prelude.{not, ◌&&◌}
use Rattle.std.specs.List.{list_any}
use Rattle.std.proofs.lemmas.List.Folds.{list_any-append}
use Rattle.xd_journal.specs.declared.entry.Entry.{Entry}
use Rattle.xd_journal.specs.declared.entry.Entry.TheVariants.{Ready, Collected, Done, Back, Finished, Refused, Down, NotStarted, Start, Run, RunAll, Steal, Shutdown, Kill, Over}
use Rattle.xd_run.specs.Books.{Books}
use Rattle.xd_run.specs.Modes.{ModeCall}
use Rattle.xd_run.specs.Modes.ModeCall.{Share, Joined, TestDone, TestsBack}
use Rattle.xd_run.specs.Orderly.{all_orderly, is_orderly}
use Rattle.xd_run.specs.Outputs.{acts_of, closing, outputs, outputs_of_joining, own_outputs, shut_all, slots_of_rota, turn_of, unless_stopped}
use Rattle.xd_run.specs.Sharing.{State}
use Rattle.xd_run.specs.State.{after_effect, after_entries, is_input, settles}
use Rattle.xd_run.specs.Stops.{is_shutting, is_stopped}
use Rattle.xd_run.specs.Turn.{Turn}
use Rattle.xd_run.specs.Workers.{is_shut, slot_of, waiting}
use Rattle.xd_run_laws.specs.Stopped.{is_death}
use Rattle.xd_run_laws.proofs.Logic.{differ, in_both, split-and}
use Rattle.xd_run_laws.proofs.Turned.{Kept, turned-keeps}

-- a Start or a Kill
abbrev pub starts_or_kills : Entry → Bool
starts_or_kills (Start w slot) = true
starts_or_kills (Kill w) = true
starts_or_kills _ = false

-- nobody is started or killed by these
abbrev pub AreCalm : List Entry → Type 0
AreCalm es = list_any starts_or_kills es ≡ false

pub calm-join : (xs ys : List Entry) → AreCalm xs → AreCalm ys → AreCalm (xs ++ ys)
calm-join xs ys a b = list_any-append starts_or_kills xs ys ∙ ap (λ (c : Bool). c || list_any starts_or_kills ys) a ∙ b

calm-shut : (ws : List ℕ) → AreCalm (map (λ w. Shutdown w) ws)
calm-shut [] = refl
calm-shut (w ∷ ws) = calm-shut ws

by_queue : (units : List (List ℕ)) (t : Turn) (u : List ℕ → List (List ℕ) → Turn) → AreCalm t.acts
    → ((x : List ℕ) (xs : List (List ℕ)) → AreCalm (u x xs).acts)
    → AreCalm (elim units as (λ _. Turn) [ [] ↦ t | x ∷ xs ↦ u x xs ]).acts
by_queue [] t u a b = a
by_queue (x ∷ xs) t u a b = b x xs

calm_moves : Kept (λ t. AreCalm t.acts)
calm_moves = record {
  gives = λ w i is t a. calm-join t.acts (Run w (i ∷ is) ∷ []) a refl;
  gives_all = λ w slot t a. calm-join t.acts (RunAll w ∷ []) a refl;
  gives_of_slot = λ w slot i is t a. calm-join t.acts (Run w _ ∷ []) a refl;
  gives_unit = λ w t a. by_queue t.plan.queue t _ a (λ u us. calm-join t.acts (Run w u ∷ []) a refl);
  asks = λ s n t a. calm-join t.acts (Steal s.worker _ ∷ []) a refl;
  shuts = λ w t a. calm-join t.acts (Shutdown w ∷ []) a refl;
}

calm-acts : (c : ModeCall) (s : State) → AreCalm (acts_of c s)
calm-acts c s = turned-keeps (λ t. AreCalm t.acts) calm_moves s.plan.mode c (turn_of s) refl

calm-unless : (b n : Books) (es : List Entry) → AreCalm es → AreCalm (unless_stopped b n es)
calm-unless b n es k =
    in_both AreCalm (is_stopped b) [] _ (λ h. refl)
    (λ h. in_both AreCalm (is_stopped n) (shut_all n.members) es (λ g. calm-shut (waiting n.members)) (λ g. k))

calm-joining : (w : ℕ) (b : Books) (t : State) → AreCalm (outputs_of_joining w b t)
calm-joining w b t =
    in_both AreCalm b.shared (acts_of (Joined w (slot_of w t.books)) t) _ (λ h. calm-acts (Joined w (slot_of w t.books)) t)
    (λ h. in_both AreCalm t.books.shared (acts_of (Share (slots_of_rota t.books)) t) [] (λ g. calm-acts (Share (slots_of_rota t.books)) t) (λ g. refl))

calm-own : (s : State) (e : Entry) (t : State) → is_death e ≡ false → AreCalm (own_outputs s e t)
calm-own s (Ready w) t h = in_both AreCalm (is_shutting t.books) (Shutdown w ∷ []) [] (λ g. refl) (λ g. refl)
calm-own s (Collected w g) t h =
    in_both AreCalm (is_shut w s.books) [] _ (λ k. refl) (λ k. calm-unless s.books t.books _ (calm-joining w s.books t))
calm-own s (Done w n o ms b) t h = calm-unless s.books t.books _ (calm-acts (TestDone w ms) t)
calm-own s (Back w ns) t h = calm-unless s.books t.books _ (calm-acts TestsBack t)
calm-own s (Refused w text) t h = calm-unless s.books t.books [] refl
calm-own s (Finished w) t h = refl
calm-own s (Down w c b) t h = absurd (differ (sym h))
calm-own s (NotStarted w) t h = absurd (differ (sym h))
calm-own s (Start w slot) t h = refl
calm-own s (Run w ns) t h = refl
calm-own s (RunAll w) t h = refl
calm-own s (Steal w ns) t h = refl
calm-own s (Shutdown w) t h = refl
calm-own s (Kill w) t h = refl
calm-own s (Over how) t h = refl

calm-closing : (s : State) → AreCalm (closing s)
calm-closing s =
    in_both AreCalm (not (is_shutting s.books) && settles s) (shut_all s.books.members) [] (λ h. calm-shut (waiting s.books.members)) (λ h. refl)

pub calm-outputs : (s : State) (e : Entry) → is_death e ≡ false → AreCalm (outputs s e)
calm-outputs s e h =
    let t = after_effect s e in
    let own = own_outputs s e t in
    calm-join own (closing (after_entries t own)) (calm-own s e t h) (calm-closing (after_entries t own))

told-no-input : (s : State) (e : Entry) → is_orderly s e ≡ true → is_input e ≡ false
told-no-input s (Start w slot) h = refl
told-no-input s (Run w is) h = refl
told-no-input s (RunAll w) h = refl
told-no-input s (Steal w is) h = refl
told-no-input s (Shutdown w) h = refl
told-no-input s (Kill w) h = refl
told-no-input s (Over how) h = refl
told-no-input s (Ready w) h = absurd (differ h)
told-no-input s (Collected w g) h = absurd (differ h)
told-no-input s (Done w i u m o) h = absurd (differ h)
told-no-input s (Back w i) h = absurd (differ h)
told-no-input s (Finished w) h = absurd (differ h)
told-no-input s (Refused w t) h = absurd (differ h)
told-no-input s (Down w c o) h = absurd (differ h)
told-no-input s (NotStarted w) h = absurd (differ h)

pub no-inputs : (s : State) (es : List Entry) → all_orderly s es ≡ true → list_any is_input es ≡ false
no-inputs s [] h = refl
no-inputs s (e ∷ es) h =
    let p = split-and (is_orderly s e) (all_orderly (after_effect s e) es) h in
    ap (λ (b : Bool). b || list_any is_input es) (told-no-input s e p.0) ∙ no-inputs (after_effect s e) es p.1

-- a fact of inputs alone is of nothing that is told
pub no-such : (p : Entry → Bool) → ((e : Entry) → is_input e ≡ false → p e ≡ false) → (es : List Entry) → list_any is_input es ≡ false → list_any p es ≡ false
no-such p f [] h = refl
no-such p f (e ∷ es) h = go (is_input e) refl h (no-such p f es)
  where
    go : (b : Bool) → is_input e ≡ b → (b || list_any is_input es) ≡ false → (list_any is_input es ≡ false → list_any p es ≡ false) → (p e || list_any p es) ≡ false
    go true q k rest = absurd (differ (sym k))
    go false q k rest = ap (λ (b : Bool). b || list_any p es) (f e q) ∙ rest k
