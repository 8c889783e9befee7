-- Workers that were started stay so.
use Rattle.std.proofs.Common.{◌≡◌, ℕ, List, [], ◌∷◌, ◌++◌, Bool, true, false, ◌||◌, All, refl, sym, ap, ◌∙◌, arith, append-nil, length, length-append}
use Rattle.std.specs.Prelude.{◌==◌}
use Rattle.std.proofs.lemmas.Bool.Decides.{nat_tests}
use Rattle.std.proofs.lemmas.List.Elements.{All-push, All-same, All-weaker}
use Rattle.std.proofs.lemmas.List.Folds.{list_any-append}
use Rattle.std.specs.List.{list_any}
use Rattle.xd_journal.specs.declared.entry.Entry.{Entry}
use Rattle.xd_journal.specs.declared.entry.Entry.TheVariants.{Start}
use Rattle.xd_drive.specs.Performing.{is_start_of, was_started}
use Rattle.std.specs.Prelude.{None}
use Rattle.std.proofs.lemmas.List.Elements.{filter_map-append}
use Rattle.xd_group.specs.Tells.{IsStarted, worker_of_start, workers_started}

pub started_more : (w : ℕ) (calls after : List Entry) (e : Entry) → after ≡ calls ++ e ∷ [] → was_started w calls ≡ true → was_started w after ≡ true
started_more w calls after e is h = ap (was_started w) is ∙ (list_any-append (is_start_of w) calls (e ∷ []) ∙ ap (λ (b : Bool). b || list_any (is_start_of w) (e ∷ [])) h)

pub started_here : (w slot : ℕ) (calls after : List Entry) → after ≡ calls ++ Start w slot ∷ [] → was_started w after ≡ true
started_here w slot calls after is = ap (was_started w) is ∙ (list_any-append (is_start_of w) calls (Start w slot ∷ []) ∙ (ap (λ (b : Bool). was_started w calls || b) (same w) ∙ or_true (was_started w calls)))
  where
    same : (v : ℕ) → ((v == v) || false) ≡ true
    same v = grind (arith, nat_tests)

    or_true : (b : Bool) → (b || true) ≡ true
    or_true true = refl
    or_true false = refl

pub known_more : (calls after : List Entry) (e : Entry) (ws : List ℕ) → after ≡ calls ++ e ∷ [] → All (λ w. IsStarted calls w) ws → All (λ w. IsStarted after w) ws
known_more calls after e ws is h = All-weaker (λ w. IsStarted calls w) (λ w. IsStarted after w) (λ w p. started_more w calls after e is p) ws h

pub known_push : (calls : List Entry) (ws all : List ℕ) (w : ℕ) → all ≡ ws ++ w ∷ [] → All (λ v. IsStarted calls v) ws → was_started w calls ≡ true → All (λ v. IsStarted calls v) all
known_push calls ws all w is h p = All-same (λ v. IsStarted calls v) all (ws ++ w ∷ []) is (All-push (λ v. IsStarted calls v) ws w h p)

-- two lists of one length with one more each
pub same_more : {X Y : Type 0} (xs xs_all : List X) (ys ys_all : List Y) (x : X) (y : Y) → xs_all ≡ xs ++ x ∷ [] → ys_all ≡ ys ++ y ∷ [] → length ys ≡ length xs → length ys_all ≡ length xs_all
same_more xs xs_all ys ys_all x y a b e = omega (arith, ap length a, ap length b, length-append xs (x ∷ []), length-append ys (y ∷ []), e)

-- a call that is no start adds no worker, and a start adds its own
pub listed_more : (calls after : List Entry) (e : Entry) (ws : List ℕ) → after ≡ calls ++ e ∷ [] → worker_of_start e ≡ None → ws ≡ workers_started calls → ws ≡ workers_started after
listed_more calls after e ws is none listed = rw (is, filter_map-append worker_of_start calls (e ∷ []), none) (listed ∙ sym (append-nil (workers_started calls)))

pub listed_push : (calls after : List Entry) (w slot : ℕ) (ws all : List ℕ) → after ≡ calls ++ Start w slot ∷ [] → all ≡ ws ++ w ∷ [] → ws ≡ workers_started calls → all ≡ workers_started after
listed_push calls after w slot ws all is added listed = rw (is, added, filter_map-append worker_of_start calls (Start w slot ∷ [])) (ap (λ (l : List ℕ). l ++ w ∷ []) listed)
