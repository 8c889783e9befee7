-- Which entry ends a worker, and which news mean that it finished.
use Rattle.std.proofs.Common.{◌≡◌, ℕ, List, [], ◌∷◌, ◌++◌, Bool, true, false, not, ◌&&◌, ◌||◌, refl, ap, sym, ◌∙◌, arith}
use Rattle.std.specs.Prelude.{◌==◌, if◌then◌else◌, Option, Some, None, is_none}
use Rattle.std.specs.List.{list_any}
use Rattle.std.proofs.lemmas.Bool.Decides.{nat_tests}
use Rattle.std.proofs.lemmas.List.Folds.{list_any-append}
use Rattle.xd_journal.specs.declared.entry.Entry.{Entry}
use Rattle.xd_journal.specs.declared.entry.Entry.TheVariants.{Ready, Collected, Done, Back, Finished, Refused, Down, NotStarted, Start, Run, RunAll, Steal, Shutdown, Kill, Over}
use Rattle.xd_journal.specs.declared.entry.Ids.TheVariants as ids
use Rattle.xd_journal.specs.declared.news.What.{What}
use Rattle.xd_journal.specs.declared.news.What.TheVariants as what
use Rattle.xd_run.specs.declared.member.Listed.{Listed}
use Rattle.xd_run.specs.Collections.{differ_at, listed}
use Rattle.xd_run.specs.Meaning.{Log, any_open, breach, is_of, is_open_log, may_start_log, meaning_of, or_breach, output_of}
use Rattle.xd_run.specs.Orderly.{all_orderly, is_orderly}
use Rattle.xd_run.specs.Proper.{may_follow, names_head}
use Rattle.xd_run.specs.Sharing.{State}
use Rattle.xd_run.specs.State.{after_effect}
use Rattle.xd_run_laws.specs.Stopped.{is_death}
use Rattle.xd_run_laws.proofs.Logic.{differ, in_both, split-and}
use Rattle.xd_system.proofs.Acts.{is_end_of, is_refusal}
use Rattle.xd_system.proofs.Call.{is_last_told}
use Rattle.xd_system.proofs.Echo.{entry_of, meaning-elim}

-- entries that end nobody

pub outputs-end : (w : ℕ) (s : State) (es : List Entry) → all_orderly s es ≡ true → list_any (is_end_of w) es ≡ false
outputs-end w s [] h = refl
outputs-end w s (e ∷ es) h =
    let p = split-and (is_orderly s e) (all_orderly (after_effect s e) es) h in
    ap (λ (b : Bool). b || list_any (is_end_of w) es) (one e p.0) ∙ outputs-end w (after_effect s e) es p.1
  where
    one : (f : Entry) → is_orderly s f ≡ true → is_end_of w f ≡ false
    one (Start v slot) q = refl
    one (Run v ns) q = refl
    one (RunAll v) q = refl
    one (Steal v ns) q = refl
    one (Shutdown v) q = refl
    one (Kill v) q = refl
    one (Over how) q = refl
    one (Ready v) q = absurd (differ q)
    one (Collected v g) q = absurd (differ q)
    one (Done v n o ms b) q = absurd (differ q)
    one (Back v ns) q = absurd (differ q)
    one (Finished v) q = absurd (differ q)
    one (Refused v text) q = absurd (differ q)
    one (Down v c b) q = absurd (differ q)
    one (NotStarted v) q = absurd (differ q)

pub other-end : (w v : ℕ) (log : Option Log) (spent : ℕ) (s : State) (x : What) → (v == w) ≡ false
    → list_any (is_end_of w) (entry_of (meaning_of v log spent s x)) ≡ false
other-end w v log spent s x h =
    meaning-elim v log spent s (λ o. list_any (is_end_of w) (entry_of o) ≡ false) refl (λ c b. rw h refl) refl (λ g. refl) (λ n o ms b. refl) (λ ns. refl) (rw h refl) (λ text. rw h refl) (rw h refl) x

pub end-entry : (w : ℕ) (e : Entry) → is_end_of w e ≡ true → is_death e ≡ false → is_refusal e ≡ false
    → e ≡ Finished w
end-entry w (Finished v) h d r = (let same : v ≡ w = grind (arith, nat_tests, h) in ap Finished same)
end-entry w (Refused v text) h d r = absurd (differ (sym r))
end-entry w (Down v c b) h d r = absurd (differ (sym d))
end-entry w (NotStarted v) h d r = absurd (differ (sym d))
end-entry w e h d r = absurd (differ h)

-- what means that the worker finished says so

module _ (w : ℕ) (log : Option Log) (spent : ℕ) (s : State) where
  abbrev Ends : Option Entry → Type 0
  Ends o = o ≡ Some (Finished w)

  or-not : (e : Entry) → (e ≡ Finished w → ⊥) → Ends (or_breach w log spent s e) → ⊥
  or-not e h = in_both (λ o. Ends o → ⊥) (may_follow s e) (Some e) (Some (breach w log spent s)) (λ k z. h (let q : e ≡ Finished w = cc in q)) (λ k z. cc)

  silent-not : (b : Bool) → Ends (if b then None else Some (breach w log spent s)) → ⊥
  silent-not true z = cc
  silent-not false z = cc

  pub says-finished : (x : What) → Ends (meaning_of w log spent s x) → x ≡ what.Finished
  says-finished what.Ready z = absurd (or-not (Ready w) (λ q. cc) z)
  says-finished (what.Collected own) z = absurd (go (listed w s.books) z)
    where
      go : (o : Option Listed)
          → Ends (or_breach w log spent s (elim o as (λ _. Entry) [ None ↦ Collected w (ids.List own) | Some l ↦ (if is_none (differ_at l.ids own) then Collected w ids.Same else Collected w (ids.List own)) ]))
          → ⊥
      go None = or-not (Collected w (ids.List own)) (λ q. cc)
      go (Some l) = same (is_none (differ_at l.ids own))
        where
          same : (q : Bool)
              → Ends (or_breach w log spent s (if q then Collected w ids.Same else Collected w (ids.List own))) → ⊥
          same true = or-not (Collected w ids.Same) (λ q. cc)
          same false = or-not (Collected w (ids.List own)) (λ q. cc)
  says-finished (what.LogStart n number) z = absurd (silent-not (may_start_log w n number log s) z)
  says-finished (what.Piece number bytes) z = absurd (silent-not (is_open_log number log) z)
  says-finished (what.LogClosed number) z = absurd (silent-not (is_open_log number log) z)
  says-finished (what.Done n o ms) z =
      absurd (in_both (λ q. Ends q → ⊥) (names_head w n s && is_of n log && not (any_open log)) (Some (Done w n o ms (output_of w o log spent s))) (Some (breach w log spent s)) (λ k q. cc) (λ k q. cc) z)
  says-finished (what.Back ns) z = absurd (or-not (Back w ns) (λ q. cc) z)
  says-finished what.Finished z = refl
  says-finished (what.Closed None) z = absurd cc
  says-finished (what.Closed (Some text)) z = absurd (or-not (Refused w text) (λ q. cc) z)
  says-finished what.Stray z = absurd cc
  says-finished (what.Gone cause) z = absurd cc
  says-finished what.NotStarted z = absurd (or-not (NotStarted w) (λ q. cc) z)

-- in a part of a list that has none there is none
pub part-none : (f : Entry → Bool) (xs : List Entry) (e : Entry) (ys : List Entry) → list_any f (xs ++ e ∷ ys) ≡ false
    → f e ≡ false
part-none f [] e ys h = first (f e) (list_any f ys) h
  where
    first : (a b : Bool) → (a || b) ≡ false → a ≡ false
    first true b k = absurd (differ (sym k))
    first false b k = refl
part-none f (x ∷ xs) e ys h = part-none f xs e ys (second (f x) (list_any f (xs ++ e ∷ ys)) h)
  where
    second : (a b : Bool) → (a || b) ≡ false → b ≡ false
    second true b k = absurd (differ (sym k))
    second false b k = k

pub any-last : (xs ys : List What) (x : What) → is_last_told x ≡ true → list_any is_last_told (xs ++ x ∷ ys) ≡ true
any-last xs ys x h = list_any-append is_last_told xs (x ∷ ys)
    ∙ ap (λ (b : Bool). list_any is_last_told xs || (b || list_any is_last_told ys)) h
    ∙ all (list_any is_last_told xs)
  where
    all : (b : Bool) → (b || true) ≡ true
    all true = refl
    all false = refl
