-- What a mode says are orders: it starts no one and kills no one.
use Rattle.std.proofs.Common.{◌≡◌, List, [], ◌∷◌, ◌++◌, Bool, true, false, refl, ◌∙◌}
use Rattle.std.specs.List.{list_all}
use Rattle.std.proofs.lemmas.List.Folds.{list_all-append}
use Rattle.xd_journal.specs.declared.entry.Entry.{Entry}
use Rattle.xd_journal.specs.declared.entry.Entry.TheVariants.{Run, RunAll, Steal, Shutdown}
use Rattle.xd_run.specs.Turn.{Turn}
use Rattle.xd_run.specs.Modes.{ModeCall}
use Rattle.xd_run.specs.Sharing.{State}
use Rattle.xd_run.specs.Outputs.{acts_of, turn_of}
use Rattle.xd_run_laws.proofs.Logic.{and}
use Rattle.xd_run_laws.proofs.Turned.{Kept, turned-keeps}

abbrev pub tells : Entry → Bool
tells (Run w indices) = true
tells (RunAll w) = true
tells (Steal w indices) = true
tells (Shutdown w) = true
tells _ = false

abbrev pub Tells : List Entry → Type 0
Tells es = list_all tells es ≡ true

more : (es : List Entry) (e : Entry) → Tells es → tells e ≡ true → Tells (es ++ e ∷ [])
more es e a b = list_all-append tells es (e ∷ []) ∙ and a (and b refl)

-- what holds of both branches, by whether a list is empty
by_list : {A : Type 0} (xs : List A) (t : Turn) (u : A → List A → Turn) → Tells t.acts → ((x : A) (ys : List A) → Tells (u x ys).acts) → Tells (elim xs as (λ _. Turn) [ [] ↦ t | y ∷ ys ↦ u y ys ]).acts
by_list [] t u a b = a
by_list (x ∷ xs) t u a b = b x xs

kept : Kept (λ t. Tells t.acts)
kept = record {
  gives = λ w i is t a. more t.acts (Run w (i ∷ is)) a refl;
  gives_all = λ w slot t a. more t.acts (RunAll w) a refl;
  gives_of_slot = λ w slot i is t a. more t.acts (Run w _) a refl;
  gives_unit = λ w t a. by_list t.plan.queue t _ a (λ u us. more t.acts (Run w u) a refl);
  asks = λ s n t a. more t.acts (Steal s.worker _) a refl;
  shuts = λ w t a. more t.acts (Shutdown w) a refl;
}

pub tells-acts : (c : ModeCall) (s : State) → Tells (acts_of c s)
tells-acts c s = turned-keeps (λ t. Tells t.acts) kept s.plan.mode c (turn_of s) refl
