-- What the journal of a session has of one worker is what its news mean.
use Rattle.std.proofs.Common.{◌≡◌, ℕ, zero, suc, ◌+◌, List, [], ◌∷◌, ◌++◌, Bool, true, false, not, ◌&&◌, ◌||◌, refl, ap, sym, ◌∙◌, subst, arith, inl, inr, append_assoc}
use Rattle.std.specs.Prelude.{◌==◌, ◌⊎◌, if◌then◌else◌, Option, Some, None}
use Rattle.std.proofs.lemmas.Bool.Decides.{nat_tests}
use Rattle.std.proofs.lemmas.List.{append-nil}
use Rattle.std.proofs.lemmas.List.Elements.{filter-append}
use Rattle.std.proofs.lemmas.List.Folds.{list_any-append}
use Rattle.xd_journal.specs.declared.settings.Settings.{Settings}
use Rattle.xd_journal.specs.declared.entry.Cause.{Cause}
use Rattle.xd_journal.specs.declared.entry.Cause.TheVariants.{Breach}
use Rattle.xd_journal.specs.declared.entry.Entry.{Entry}
use Rattle.xd_journal.specs.declared.entry.Entry.TheVariants.{Ready, Collected, Done, Back, Finished, Refused, Down, NotStarted, Start, Run, RunAll, Steal, Shutdown, Kill, Over}
use Rattle.xd_journal.specs.declared.news.News.{News}
use Rattle.xd_journal.specs.declared.news.What.{What}
use Rattle.xd_journal.specs.declared.news.What.TheVariants as what
use Rattle.xd_run.specs.Histories.{journal_of, starts_from}
use Rattle.xd_run.specs.Meaning.{Log, any_open, breach, given_ids, is_of, is_open_log, kept_at_death, log_of, may_start_log, meaning_of, output_of, spent_by}
use Rattle.xd_run.specs.Orderly.{all_orderly, is_orderly}
use Rattle.xd_run.specs.Outputs.{outputs}
use Rattle.xd_run.specs.Proper.{IsProper, may_follow, names_head}
use Rattle.xd_run.specs.Sharing.{State}
use Rattle.xd_run.specs.State.{after_effect}
use Rattle.xd_run.specs.Workers.{has_member, is_active}
use Rattle.xd_run_laws.proofs.Logic.{and, cases_of, differ, in_both, or-right, split-and}
use Rattle.xd_session.specs.History.{IsProperRun, Run as SoFar, entries_with, input_of, run_of, said_by}
use Rattle.xd_session.specs.Part.{EndsWorker, HasPart, MeansEach, as_list, inputs_by, is_end_of, is_ended, is_of_log, is_said_by, meant_after, meant_by}
use Rattle.xd_session.proofs.Activity.{Active, active-following}
use Rattle.xd_session_rules.proofs.Shares.{given-is}
use Rattle.xd_session.proofs.Steps.{none-some, outputs-orderly, run-more, same-entry, sound-run}

-- outputs are no inputs

no-input : (w : ℕ) (s : State) (e : Entry) → is_orderly s e ≡ true → (is_said_by w e ≡ false) × (is_end_of w e ≡ false)
no-input w s (Start v slot) h = (refl, refl)
no-input w s (Run v is) h = (refl, refl)
no-input w s (RunAll v) h = (refl, refl)
no-input w s (Steal v is) h = (refl, refl)
no-input w s (Shutdown v) h = (refl, refl)
no-input w s (Kill v) h = (refl, refl)
no-input w s (Over how) h = (refl, refl)
no-input w s (Ready v) h = absurd (differ h)
no-input w s (Collected v g) h = absurd (differ h)
no-input w s (Done v i u m o) h = absurd (differ h)
no-input w s (Back v i) h = absurd (differ h)
no-input w s (Finished v) h = absurd (differ h)
no-input w s (Refused v t) h = absurd (differ h)
no-input w s (Down v c o) h = absurd (differ h)
no-input w s (NotStarted v) h = absurd (differ h)

no-inputs : (w : ℕ) (s : State) (es : List Entry) → all_orderly s es ≡ true → (inputs_by w es ≡ []) × (is_ended w es ≡ false)
no-inputs w s [] h = (refl, refl)
no-inputs w s (e ∷ es) h =
    let p = split-and (is_orderly s e) (all_orderly (after_effect s e) es) h in
    let one = no-input w s e p.0 in
    let rest = no-inputs w (after_effect s e) es p.1 in
    (ap (λ (b : Bool). if b then e ∷ inputs_by w es else inputs_by w es) one.0 ∙ rest.0, ap (λ (b : Bool). b || is_ended w es) one.1 ∙ rest.1)

starts-none : (w v n : ℕ) → (inputs_by w (starts_from v n) ≡ []) × (is_ended w (starts_from v n) ≡ false)
starts-none w v zero = (refl, refl)
starts-none w v (suc n) = starts-none w (v + 1) n

-- what an input that a piece of news means can be

-- the entry that the piece of news has where it breaks no rule
abbrev Usual : (Entry → Type 0) → ℕ → Option Log → ℕ → State → What → Type 0
Usual P w log spent s what.Ready = P (Ready w)
Usual P w log spent s (what.Collected own) = P (given_ids w own s)
Usual P w log spent s (what.LogStart i n) = Unit {0}
Usual P w log spent s (what.Piece n bs) = Unit {0}
Usual P w log spent s (what.LogClosed n) = Unit {0}
Usual P w log spent s (what.Done i o m) = P (Done w i o m (output_of w o log spent s))
Usual P w log spent s (what.Back is) = P (Back w is)
Usual P w log spent s what.Finished = P (Finished w)
Usual P w log spent s (what.Closed None) = Unit {0}
Usual P w log spent s (what.Closed (Some t)) = P (Refused w t)
Usual P w log spent s what.Stray = Unit {0}
Usual P w log spent s (what.Gone c) = P (Down w c (kept_at_death w log spent s))
Usual P w log spent s what.NotStarted = P (NotStarted w)

pick : (P : Entry → Type 0) (x d e : Entry) (b : Bool) → P x → P d → (if b then Some x else Some d) ≡ Some e → P e
pick P x d e true p q h = subst P (same-entry x e h) p
pick P x d e false p q h = subst P (same-entry d e h) q

pick-silent : (P : Entry → Type 0) (d e : Entry) (b : Bool) → P d → (if b then None else Some d) ≡ Some e → P e
pick-silent P d e true q h = none-some e (P e) h
pick-silent P d e false q h = subst P (same-entry d e h) q

-- what holds of that entry and of a breach holds of the input
meaning-is : (P : Entry → Type 0) (w : ℕ) (log : Option Log) (spent : ℕ) (s : State) (n : What) (e : Entry) → Usual P w log spent s n → P (breach w log spent s) → meaning_of w log spent s n ≡ Some e → P e
meaning-is P w log spent s what.Ready e u b h = pick P (Ready w) (breach w log spent s) e (may_follow s (Ready w)) u b h
meaning-is P w log spent s (what.Collected own) e u b h = pick P (given_ids w own s) (breach w log spent s) e (may_follow s (given_ids w own s)) u b h
meaning-is P w log spent s (what.LogStart i n) e u b h = pick-silent P (breach w log spent s) e (may_start_log w i n log s) b h
meaning-is P w log spent s (what.Piece n bs) e u b h = pick-silent P (breach w log spent s) e (is_open_log n log) b h
meaning-is P w log spent s (what.LogClosed n) e u b h = pick-silent P (breach w log spent s) e (is_open_log n log) b h
meaning-is P w log spent s (what.Done i o m) e u b h = pick P (Done w i o m (output_of w o log spent s)) (breach w log spent s) e (names_head w i s && is_of i log && not (any_open log)) u b h
meaning-is P w log spent s (what.Back is) e u b h = pick P (Back w is) (breach w log spent s) e (may_follow s (Back w is)) u b h
meaning-is P w log spent s what.Finished e u b h = pick P (Finished w) (breach w log spent s) e (may_follow s (Finished w)) u b h
meaning-is P w log spent s (what.Closed None) e u b h = subst P (same-entry (breach w log spent s) e h) b
meaning-is P w log spent s (what.Closed (Some t)) e u b h = pick P (Refused w t) (breach w log spent s) e (may_follow s (Refused w t)) u b h
meaning-is P w log spent s what.Stray e u b h = subst P (same-entry (breach w log spent s) e h) b
meaning-is P w log spent s (what.Gone c) e u b h = subst P (same-entry (Down w c (kept_at_death w log spent s)) e h) u
meaning-is P w log spent s what.NotStarted e u b h = pick P (NotStarted w) (breach w log spent s) e (may_follow s (NotStarted w)) u b h

-- it is the worker's
usual-own : (v w : ℕ) (log : Option Log) (spent : ℕ) (s : State) (n : What) → Usual (λ e. is_said_by v e ≡ (w == v)) w log spent s n
usual-own v w log spent s what.Ready = refl
usual-own v w log spent s (what.Collected own) = ap (λ (e : Entry). is_said_by v e) (given-is w own s)
usual-own v w log spent s (what.LogStart i n) = tt
usual-own v w log spent s (what.Piece n bs) = tt
usual-own v w log spent s (what.LogClosed n) = tt
usual-own v w log spent s (what.Done i o m) = refl
usual-own v w log spent s (what.Back is) = refl
usual-own v w log spent s what.Finished = refl
usual-own v w log spent s (what.Closed None) = tt
usual-own v w log spent s (what.Closed (Some t)) = refl
usual-own v w log spent s what.Stray = tt
usual-own v w log spent s (what.Gone c) = refl
usual-own v w log spent s what.NotStarted = refl

-- a Down of another cause than a breach is the news that the link is gone
abbrev IsGone : What → Entry → Type 0
IsGone n e = (v : ℕ) (c : Cause) (o : List ℕ) → e ≡ Down v c o → (c ≡ Breach → ⊥) → n ≡ what.Gone c

breach-gone : (w : ℕ) (log : Option Log) (spent : ℕ) (s : State) (n : What) → IsGone n (breach w log spent s)
breach-gone w log spent s n v c o e h = (let same : Breach ≡ c = cc in absurd (h (sym same)))

usual-gone : (w : ℕ) (log : Option Log) (spent : ℕ) (s : State) (n : What) → Usual (IsGone n) w log spent s n
usual-gone w log spent s what.Ready = λ v c o e h. absurd cc
usual-gone w log spent s (what.Collected own) = subst (IsGone (what.Collected own)) (sym (given-is w own s)) (λ v c o e h. absurd cc)
usual-gone w log spent s (what.LogStart i n) = tt
usual-gone w log spent s (what.Piece n bs) = tt
usual-gone w log spent s (what.LogClosed n) = tt
usual-gone w log spent s (what.Done i u m) = λ v c o e h. absurd cc
usual-gone w log spent s (what.Back is) = λ v c o e h. absurd cc
usual-gone w log spent s what.Finished = λ v c o e h. absurd cc
usual-gone w log spent s (what.Closed None) = tt
usual-gone w log spent s (what.Closed (Some t)) = λ v c o e h. absurd cc
usual-gone w log spent s what.Stray = tt
usual-gone w log spent s (what.Gone d) = λ v c o e h. (let same : d ≡ c = cc in ap (λ (x : Cause). what.Gone x) same)
usual-gone w log spent s what.NotStarted = λ v c o e h. absurd cc

-- news that mean no input are of a log

some-if : (x d : Entry) (b : Bool) (P : Type 0) → (if b then Some x else Some d) ≡ None → P
some-if x d true P h = absurd cc
some-if x d false P h = absurd cc

some-not : (d : Entry) (P : Type 0) → Some d ≡ None → P
some-not d P h = absurd cc

silent-is : (w : ℕ) (log : Option Log) (spent : ℕ) (s : State) (n : What) → meaning_of w log spent s n ≡ None → is_of_log n ≡ true
silent-is w log spent s what.Ready h = some-if (Ready w) (breach w log spent s) (may_follow s (Ready w)) (false ≡ true) h
silent-is w log spent s (what.Collected own) h = some-if (given_ids w own s) (breach w log spent s) (may_follow s (given_ids w own s)) (false ≡ true) h
silent-is w log spent s (what.LogStart i n) h = refl
silent-is w log spent s (what.Piece n bs) h = refl
silent-is w log spent s (what.LogClosed n) h = refl
silent-is w log spent s (what.Done i o m) h = some-if (Done w i o m (output_of w o log spent s)) (breach w log spent s) (names_head w i s && is_of i log && not (any_open log)) (false ≡ true) h
silent-is w log spent s (what.Back is) h = some-if (Back w is) (breach w log spent s) (may_follow s (Back w is)) (false ≡ true) h
silent-is w log spent s what.Finished h = some-if (Finished w) (breach w log spent s) (may_follow s (Finished w)) (false ≡ true) h
silent-is w log spent s (what.Closed None) h = some-not (breach w log spent s) (false ≡ true) h
silent-is w log spent s (what.Closed (Some t)) h = some-if (Refused w t) (breach w log spent s) (may_follow s (Refused w t)) (false ≡ true) h
silent-is w log spent s what.Stray h = some-not (breach w log spent s) (false ≡ true) h
silent-is w log spent s (what.Gone c) h = some-not (Down w c (kept_at_death w log spent s)) (false ≡ true) h
silent-is w log spent s what.NotStarted h = some-if (NotStarted w) (breach w log spent s) (may_follow s (NotStarted w)) (false ≡ true) h

-- of the input of a run

meant-by : (b : Bool) (o : Option Entry) (e : Entry) → (if b then o else None) ≡ Some e → o ≡ Some e
meant-by true o e h = h
meant-by false o e h = none-some e (o ≡ Some e) h

abbrev meaning-at : SoFar → News → Option Entry
meaning-at r n = meaning_of n.worker (log_of (said_by n.worker r.taken)) (spent_by r.entries) r.state n.what

input-own : (v : ℕ) (r : SoFar) (n : News) (e : Entry) → input_of r n ≡ Some e → is_said_by v e ≡ (n.worker == v)
input-own v r n e h =
    let w = n.worker in
    meaning-is (λ x. is_said_by v x ≡ (w == v)) w (log_of (said_by w r.taken)) (spent_by r.entries) r.state n.what e
    (usual-own v w (log_of (said_by w r.taken)) (spent_by r.entries) r.state n.what) refl (meant-by (is_active w r.state.books) (meaning-at r n) e h)

input-gone : (r : SoFar) (n : News) (e : Entry) → input_of r n ≡ Some e → IsGone n.what e
input-gone r n e h =
    let w = n.worker in
    let log = log_of (said_by w r.taken) in
    meaning-is (IsGone n.what) w log (spent_by r.entries) r.state n.what e
    (usual-gone w log (spent_by r.entries) r.state n.what) (breach-gone w log (spent_by r.entries) r.state n.what) (meant-by (is_active w r.state.books) (meaning-at r n) e h)

silent-by : (b : Bool) (o : Option Entry) → b ≡ true → (if b then o else None) ≡ None → o ≡ None
silent-by true o a h = h
silent-by false o a h = absurd (differ a)

input-silent : (r : SoFar) (n : News) → is_active n.worker r.state.books ≡ true → input_of r n ≡ None → is_of_log n.what ≡ true
input-silent r n a h = silent-is n.worker (log_of (said_by n.worker r.taken)) (spent_by r.entries) r.state n.what (silent-by (is_active n.worker r.state.books) (meaning-at r n) a h)

-- what ends a worker is its own
end-own : (w : ℕ) (e : Entry) → is_end_of w e ≡ true → is_said_by w e ≡ true
end-own w (Finished v) h = h
end-own w (Refused v t) h = h
end-own w (Down v c o) h = h
end-own w (NotStarted v) h = h
end-own w (Ready v) h = absurd (differ h)
end-own w (Collected v g) h = absurd (differ h)
end-own w (Done v i u m o) h = absurd (differ h)
end-own w (Back v is) h = absurd (differ h)
end-own w (Start v slot) h = absurd (differ h)
end-own w (Run v is) h = absurd (differ h)
end-own w (RunAll v) h = absurd (differ h)
end-own w (Steal v is) h = absurd (differ h)
end-own w (Shutdown v) h = absurd (differ h)
end-own w (Kill v) h = absurd (differ h)
end-own w (Over how) h = absurd (differ h)

-- one more input, with its outputs

abbrev Quiet : State → Option Entry → Type 0
Quiet s o = (e : Entry) → o ≡ Some e → all_orderly (after_effect s e) (outputs s e) ≡ true

inputs-with : (w : ℕ) (o : Option Entry) (es : List Entry) (s : State) → Quiet s o → inputs_by w (entries_with o es s) ≡ inputs_by w es ++ inputs_by w (as_list o)
inputs-with w None es s q = sym (append-nil (inputs_by w es))
inputs-with w (Some e) es s q =
    let none = (no-inputs w (after_effect s e) (outputs s e) (q e refl)).0 in
    filter-append (is_said_by w) es (e ∷ outputs s e) ∙ ap (λ (xs : List Entry). inputs_by w es ++ (if is_said_by w e then e ∷ xs else xs)) none

ended-with : (w : ℕ) (o : Option Entry) (es : List Entry) (s : State) → Quiet s o → is_ended w (entries_with o es s) ≡ (is_ended w es || is_ended w (as_list o))
ended-with w None es s q = or-none (is_ended w es)
  where
    or-none : (b : Bool) → b ≡ (b || false)
    or-none true = refl
    or-none false = refl
ended-with w (Some e) es s q =
    let none = (no-inputs w (after_effect s e) (outputs s e) (q e refl)).1 in
    list_any-append (is_end_of w) es (e ∷ outputs s e) ∙ ap (λ (b : Bool). is_ended w es || (is_end_of w e || b)) none

own-by : (w : ℕ) (o : Option Entry) (b : Bool) → ((e : Entry) → o ≡ Some e → is_said_by w e ≡ b) → inputs_by w (as_list o) ≡ (if b then as_list o else [])
own-by w None true k = refl
own-by w None false k = refl
own-by w (Some e) b k = ap (λ (q : Bool). if q then e ∷ [] else []) (k e refl)

-- what news mean, and one piece of news more

abbrev one : Settings → ℕ → List News → News → List Entry
one settings w before n = if n.worker == w then as_list (input_of (run_of settings before) n) else []

meant-more : (settings : Settings) (w : ℕ) (before xs : List News) (n : News) → meant_after settings w before (xs ++ n ∷ []) ≡ meant_after settings w before xs ++ one settings w (before ++ xs) n
meant-more settings w before [] n = append-nil (one settings w before n) ∙ ap (λ (b : List News). one settings w b n) (sym (append-nil before))
meant-more settings w before (x ∷ xs) n =
    let here = one settings w before x in
    ap (λ (es : List Entry). here ++ es) (meant-more settings w (before ++ x ∷ []) xs n) ∙ sym (append_assoc here (meant_after settings w (before ++ x ∷ []) xs) (one settings w ((before ++ x ∷ []) ++ xs) n))
    ∙ ap (λ (b : List News). (here ++ meant_after settings w (before ++ x ∷ []) xs) ++ one settings w b n) (append_assoc before (x ∷ []) xs)

-- a split of a list that ends with this piece of news
last-split : (xs : List News) (n : News) (before after : List News) (m : News) → xs ++ n ∷ [] ≡ before ++ m ∷ after → ((before ≡ xs) × (m ≡ n)) ⊎ ((rest : List News) × (xs ≡ before ++ m ∷ rest))
last-split [] n [] after m h = (let e : n ≡ m = cc in inl (refl, sym e))
last-split [] n (y ∷ before) after m h = (let e : [] ≡ before ++ m ∷ after = cc in absurd (empty before e))
  where
    empty : (bs : List News) → [] ≡ bs ++ m ∷ after → ⊥
    empty [] e = cc
    empty (b ∷ bs) e = cc
last-split (x ∷ xs) n [] after m h = (let e : x ≡ m = cc in inr (xs, ap (λ (y : News). y ∷ xs) e))
last-split (x ∷ xs) n (y ∷ before) after m h =
    let e : x ≡ y = cc in
    let rest : xs ++ n ∷ [] ≡ before ++ m ∷ after = cc in
    elim (last-split xs n before after m rest) [
      | inl k ↦ inl (ap (λ (z : News). z ∷ before) (sym e) ∙ ap (λ (bs : List News). x ∷ bs) k.0, k.1)
      | inr k ↦ inr (k.0, ap (λ (z : News). z ∷ xs) e ∙ ap (λ (bs : List News). y ∷ bs) k.1)
    ]

-- the entry that ends a worker is the last of its inputs

neither : (a b : Bool) → (a || b) ≡ false → (a ≡ false) × (b ≡ false)
neither true b h = absurd (differ (sym h))
neither false b h = (refl, h)

or-one : (b : Bool) → (b || false) ≡ true → b ≡ true
or-one true h = refl
or-one false h = h

-- nothing of a list is left after an end
abbrev NoneLater : ℕ → List Entry → Type 0
NoneLater w xs = (before after : List Entry) (e : Entry) → xs ≡ before ++ e ∷ after → is_end_of w e ≡ true → after ≡ []

unended-inputs : (w : ℕ) (es : List Entry) → is_ended w es ≡ false → is_ended w (inputs_by w es) ≡ false
unended-inputs w [] h = refl
unended-inputs w (e ∷ es) h =
    let p = neither (is_end_of w e) (is_ended w es) h in
    let rest = unended-inputs w es p.1 in
    in_both (λ (xs : List Entry). is_ended w xs ≡ false) (is_said_by w e) (e ∷ inputs_by w es) (inputs_by w es) (λ q. ap (λ (b : Bool). b || is_ended w (inputs_by w es)) p.0 ∙ rest) (λ q. rest)

ended-there : (w : ℕ) (before after : List Entry) (e : Entry) → is_end_of w e ≡ true → is_ended w (before ++ e ∷ after) ≡ true
ended-there w [] after e h = ap (λ (b : Bool). b || is_ended w after) h
ended-there w (x ∷ before) after e h = or-right (is_end_of w x) (is_ended w (before ++ e ∷ after)) (ended-there w before after e h)

unended-following : (w : ℕ) (xs : List Entry) → is_ended w xs ≡ false → NoneLater w xs
unended-following w xs h before after e is ends = absurd (differ (sym h ∙ ap (is_ended w) is ∙ ended-there w before after e ends))

nothing-there : (before after : List Entry) (e : Entry) (P : Type 0) → [] ≡ before ++ e ∷ after → P
nothing-there [] after e P h = absurd cc
nothing-there (b ∷ before) after e P h = absurd cc

last-following : (w : ℕ) (xs : List Entry) (x : Entry) → is_ended w xs ≡ false → NoneLater w (xs ++ x ∷ [])
last-following w [] x h [] after e is ends = (let rest : [] ≡ after = cc in sym rest)
last-following w [] x h (b ∷ before) after e is ends = (let rest : [] ≡ before ++ e ∷ after = cc in nothing-there before after e (after ≡ []) rest)
last-following w (y ∷ xs) x h [] after e is ends =
    let same : y ≡ e = cc in
    let p = neither (is_end_of w y) (is_ended w xs) h in
    absurd (differ (sym p.0 ∙ ap (is_end_of w) same ∙ ends))
last-following w (y ∷ xs) x h (b ∷ before) after e is ends =
    let rest : xs ++ x ∷ [] ≡ before ++ e ∷ after = cc in
    last-following w xs x (neither (is_end_of w y) (is_ended w xs) h).1 before after e rest ends

-- along the news: the worker was not ended yet, or it was

record Open (settings : Settings) (w : ℕ) (taken : List News) : Type 0 where
  inputs : inputs_by w (run_of settings taken).entries ≡ meant_by settings w taken
  each : MeansEach settings w taken
  ended : is_ended w (run_of settings taken).entries ≡ false

record Closed (settings : Settings) (w : ℕ) (taken : List News) : Type 0 where
  heard : List News
  unheard : List News
  are : taken ≡ heard ++ unheard
  inputs : inputs_by w (run_of settings taken).entries ≡ meant_by settings w heard
  each : MeansEach settings w heard
  none_later : NoneLater w (inputs_by w (run_of settings taken).entries)
  ended : is_ended w (run_of settings taken).entries ≡ true
  ends : EndsWorker settings w heard

module _ (settings : Settings) (p : IsProper settings []) (w : ℕ) (taken : List News) (n : News) where
  abbrev r : SoFar
  r = run_of settings taken

  abbrev o : Option Entry
  o = input_of r n

  sound : IsProperRun settings r
  sound = sound-run settings taken p

  quiet : Quiet r.state o
  quiet e h = outputs-orderly settings r n e sound h

  entries-next : (run_of settings (taken ++ n ∷ [])).entries ≡ entries_with o r.entries r.state
  entries-next = ap (λ (x : SoFar). x.entries) (run-more settings taken n)

  inputs-next : inputs_by w (run_of settings (taken ++ n ∷ [])).entries ≡ inputs_by w r.entries ++ inputs_by w (as_list o)
  inputs-next = ap (inputs_by w) entries-next ∙ inputs-with w o r.entries r.state quiet

  ended-next : is_ended w (run_of settings (taken ++ n ∷ [])).entries ≡ (is_ended w r.entries || is_ended w (as_list o))
  ended-next = ap (is_ended w) entries-next ∙ ended-with w o r.entries r.state quiet

  own : inputs_by w (as_list o) ≡ one settings w taken n
  own = own-by w o (n.worker == w) (λ e h. input-own w r n e h)

  activity : Active w r.state.books.members r.entries
  activity =
      let a = active-following settings r.inputs w sound.proper in
      subst (λ (es : List Entry). Active w r.state.books.members es) (sym sound.journal) (subst (λ (s : State). Active w s.books.members (journal_of settings r.inputs)) (sym sound.state) a)

  active-open : is_ended w r.entries ≡ false → has_member w (λ m. true) r.state.books ≡ true → is_active w r.state.books ≡ true
  active-open e m = activity.active ∙ ap (λ (b : Bool). has_member w (λ m. true) r.state.books && not b) e ∙ and m refl

  active-closed : is_ended w r.entries ≡ true → is_active w r.state.books ≡ false
  active-closed e = activity.active ∙ ap (λ (b : Bool). has_member w (λ m. true) r.state.books && not b) e ∙ and-none (has_member w (λ m. true) r.state.books)
    where
      and-none : (b : Bool) → (b && false) ≡ false
      and-none true = refl
      and-none false = refl

  silent-one : is_ended w r.entries ≡ false → n.worker ≡ w → has_member w (λ m. true) r.state.books ≡ true → o ≡ None → is_of_log n.what ≡ true
  silent-one e same m h = input-silent r n (subst (λ (v : ℕ). is_active v r.state.books ≡ true) (sym same) (active-open e m)) h

  inputs-open : inputs_by w r.entries ≡ meant_by settings w taken → inputs_by w (run_of settings (taken ++ n ∷ [])).entries ≡ meant_by settings w (taken ++ n ∷ [])
  inputs-open k = inputs-next ∙ ap (λ (es : List Entry). es ++ inputs_by w (as_list o)) k ∙ ap (λ (es : List Entry). meant_by settings w taken ++ es) own ∙ sym (meant-more settings w [] taken n)

  each-open : is_ended w r.entries ≡ false → MeansEach settings w taken → MeansEach settings w (taken ++ n ∷ [])
  each-open e k before m after split same started silent = elim (last-split taken n before after m split) [
    | inl q ↦
        (let at : run_of settings before ≡ r = ap (run_of settings) q.0 in
        subst (λ (x : News). is_of_log x.what ≡ true) (sym q.1)
        (silent-one e (ap (λ (x : News). x.worker) (sym q.1) ∙ same) (ap (λ (x : SoFar). has_member w (λ y. true) x.state.books) (sym at) ∙ started)
        (ap (λ (x : SoFar). input_of x n) (sym at) ∙ ap (λ (x : News). input_of (run_of settings before) x) (sym q.1) ∙ silent)))
    | inr q ↦ k before m (q.0) q.1 same started silent
  ]

  ends-by : (q : Option Entry) → o ≡ q → is_ended w r.entries ≡ false → is_ended w (as_list q) ≡ true → EndsWorker settings w (taken ++ n ∷ [])
  ends-by None e k h = absurd (differ h)
  ends-by (Some x) e k h =
      let ended : is_end_of w x ≡ true = or-one (is_end_of w x) h in
      let mine : (n.worker == w) ≡ true = sym (input-own w r n x e) ∙ end-own w x ended in
      record {
        before = taken;
        last = n;
        are = refl;
        own = grind (arith, nat_tests, mine);
        not_before = k;
        entry = x;
        meant = e;
        ended = ended;
        gone = λ c u d b. input-gone r n x e w c u d b;
      }

  following-by : (q : Option Entry) → is_ended w r.entries ≡ false → is_ended w (as_list q) ≡ true → NoneLater w (inputs_by w r.entries ++ inputs_by w (as_list q))
  following-by None k h = absurd (differ h)
  following-by (Some x) k h =
      let own_one : is_said_by w x ≡ true = end-own w x (or-one (is_end_of w x) h) in
      subst (λ (xs : List Entry). NoneLater w (inputs_by w r.entries ++ xs)) (sym (ap (λ (b : Bool). if b then x ∷ [] else []) own_one)) (last-following w (inputs_by w r.entries) x (unended-inputs w r.entries k))

  step-open : Open settings w taken → Open settings w (taken ++ n ∷ []) ⊎ Closed settings w (taken ++ n ∷ [])
  step-open k = elim (cases_of (is_ended w (as_list o))) [
    | inl h ↦ inr (record {
      heard = taken ++ n ∷ [];
      unheard = [];
      are = sym (append-nil (taken ++ n ∷ []));
      inputs = inputs-open k.inputs;
      each = each-open k.ended k.each;
      none_later = subst (NoneLater w) (sym inputs-next) (following-by o k.ended h);
      ended = ended-next ∙ ap (λ (b : Bool). b || is_ended w (as_list o)) k.ended ∙ h;
      ends = ends-by o refl k.ended h;
    })
    | inr h ↦ inl (record {
      inputs = inputs-open k.inputs;
      each = each-open k.ended k.each;
      ended = ended-next ∙ ap (λ (b : Bool). b || is_ended w (as_list o)) k.ended ∙ h;
    })
  ]

  inactive-if : (b : Bool) (q : Option Entry) → b ≡ false → as_list (if b then q else None) ≡ []
  inactive-if true q h = absurd (differ (sym h))
  inactive-if false q h = refl

  unheard-one : is_ended w r.entries ≡ true → one settings w taken n ≡ []
  unheard-one e = elim (cases_of (n.worker == w)) [
    | inl h ↦
        (let same : n.worker ≡ w = grind (arith, nat_tests, h) in
        ap (λ (b : Bool). if b then as_list o else []) h ∙ inactive-if (is_active n.worker r.state.books) (meaning-at r n) (subst (λ (v : ℕ). is_active v r.state.books ≡ false) (sym same) (active-closed e)))
    | inr h ↦ ap (λ (b : Bool). if b then as_list o else []) h
  ]

  inputs-still : is_ended w r.entries ≡ true → inputs_by w (run_of settings (taken ++ n ∷ [])).entries ≡ inputs_by w r.entries
  inputs-still e = inputs-next ∙ ap (λ (es : List Entry). inputs_by w r.entries ++ es) (own ∙ unheard-one e) ∙ append-nil (inputs_by w r.entries)

  step-closed : Closed settings w taken → Closed settings w (taken ++ n ∷ [])
  step-closed k = record {
    heard = k.heard;
    unheard = k.unheard ++ n ∷ [];
    are = ap (λ (ns : List News). ns ++ n ∷ []) k.are ∙ append_assoc k.heard k.unheard (n ∷ []);
    inputs = inputs-still k.ended ∙ k.inputs;
    each = k.each;
    none_later = subst (NoneLater w) (sym (inputs-still k.ended)) k.none_later;
    ended = ended-next ∙ ap (λ (b : Bool). b || is_ended w (as_list o)) k.ended;
    ends = k.ends;
  }

along : (settings : Settings) (p : IsProper settings []) (w : ℕ) (taken more : List News) → Open settings w taken ⊎ Closed settings w taken → Open settings w (taken ++ more) ⊎ Closed settings w (taken ++ more)
along settings p w taken [] k = subst (λ (ns : List News). Open settings w ns ⊎ Closed settings w ns) (sym (append-nil taken)) k
along settings p w taken (n ∷ more) k =
    let next : Open settings w (taken ++ n ∷ []) ⊎ Closed settings w (taken ++ n ∷ []) = elim k [ inl a ↦ step-open settings p w taken n a | inr a ↦ inr (step-closed settings p w taken n a) ] in
    subst (λ (ns : List News). Open settings w ns ⊎ Closed settings w ns) (append_assoc taken (n ∷ []) more) (along settings p w (taken ++ n ∷ []) more next)

none-there : (before after : List News) (n : News) (P : Type 0) → [] ≡ before ++ n ∷ after → P
none-there [] after n P h = absurd cc
none-there (b ∷ before) after n P h = absurd cc

open-none : (settings : Settings) (w : ℕ) → Open settings w []
open-none settings w =
    let none = starts-none w 0 settings.workers in
    record { inputs = none.0; each = λ before n after e same started silent. none-there before after n (is_of_log n.what ≡ true) e; ended = none.1 }

pub part-of : (settings : Settings) (taken : List News) (worker : ℕ) → IsProper settings [] → HasPart settings worker taken
part-of settings taken w p = elim (along settings p w [] taken (inl (open-none settings w))) [
  | inl k ↦ record { heard = taken; unheard = []; are = sym (append-nil taken); inputs = k.inputs; each = k.each; none_later = unended-following w (inputs_by w (run_of settings taken).entries) (unended-inputs w (run_of settings taken).entries k.ended); up_to = inl (k.ended, refl) }
  | inr k ↦ record { heard = k.heard; unheard = k.unheard; are = k.are; inputs = k.inputs; each = k.each; none_later = k.none_later; up_to = inr k.ends }
]
