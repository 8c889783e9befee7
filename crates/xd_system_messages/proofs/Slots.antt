-- What a message does to an end on which a worker runs tests.
use Rattle.std.proofs.Common.{◌≡◌, ℕ, suc, ◌≤◌, List, [], ◌∷◌, ◌++◌, length, Bool, true, false, ◌&&◌, not, Option, refl, ap, sym, subst, ◌∙◌, arith}
use Rattle.std.specs.Prelude.{◌==◌, ◌%◌, if◌then◌else◌}
use Rattle.std.proofs.lemmas.Bool.{eqb-true}
use Rattle.std.proofs.lemmas.Bool.Decides.{nat_tests}
use Rattle.xd_value.specs.Tree.{Tree}
use Rattle.xd_value.specs.Channels.{channels}
use Rattle.xd_channel.specs.State.{end_of}
use Rattle.xd_factory.specs.declared.parity.Parity.{Parity}
use Rattle.xd_factory.specs.declared.parity.Parity.TheVariants.{Odd}
use Rattle.xd_factory.specs.declared.taken.Taken.TheVariants as taken
use Rattle.xd_factory.specs.Numbers.{is_in, is_mine}
use Rattle.xd_factory.specs.Said.{Data, Close}
use Rattle.xd_factory.specs.Slot.{Slot, Unseen, Here, Gone, hooked_slot, function_ended_slot}
use Rattle.xd_factory.specs.Table.{answer_of, heard_slot, named_in, told_slot, opened_count}
use Rattle.xd_worker_tests.specs.Line.{number_of_log}
use Rattle.xd_system_messages.proofs.Tables.{open_end, put_at}

-- ---- an item on an end with a callback, whose value has no channel

only_it : (k c : ℕ) → (k == c) ≡ false → is_in c (k ∷ []) ≡ false
only_it k c h = rw h refl

item_at : (p : Parity) (k : ℕ) (v : Tree) (slot : ℕ → Slot Tree) (c : ℕ) (b : Bool) → (k == c) ≡ b → slot k ≡ Here (open_end true)
    → told_slot (is_mine p c) c (Data k v) (named_in (is_mine p c) (is_in c (k ∷ [])) (slot c)) ≡ slot c
item_at p k v slot c true h here =
    let same : k ≡ c = eqb-true k c h in
    let at : slot c ≡ Here (open_end true) = ap slot (sym same) ∙ here in
    rw (h, at) refl
item_at p k v slot c false h here = rw h refl

pub item_keeps : (p : Parity) (k : ℕ) (v : Tree) (slot : ℕ → Slot Tree) (c : ℕ) → channels v ≡ [] → slot k ≡ Here (open_end true) → heard_slot p (Data k v) c (slot c) ≡ slot c
item_keeps p k v slot c none here =
    ap (λ (ns : List ℕ). told_slot (is_mine p c) c (Data k v) (named_in (is_mine p c) (is_in c (ns ++ k ∷ [])) (slot c))) none ∙ item_at p k v slot c (k == c) refl here

pub item_handed : (p : Parity) (k : ℕ) (v : Tree) (slot : ℕ → Slot Tree) → slot k ≡ Here (open_end true) → answer_of p slot (Data k v) ≡ taken.Handed k v
item_handed p k v slot here = rw here refl

-- ---- an item on an end that is closed for good

gone_at : (p : Parity) (k : ℕ) (v : Tree) (slot : ℕ → Slot Tree) (c : ℕ) (b : Bool) → (k == c) ≡ b → slot k ≡ Gone
    → told_slot (is_mine p c) c (Data k v) (named_in (is_mine p c) (is_in c (k ∷ [])) (slot c)) ≡ slot c
gone_at p k v slot c true h here =
    let same : k ≡ c = eqb-true k c h in
    let at : slot c ≡ Gone = ap slot (sym same) ∙ here in
    rw (h, at) refl
gone_at p k v slot c false h here = rw h refl

pub gone_keeps : (p : Parity) (k : ℕ) (v : Tree) (slot : ℕ → Slot Tree) (c : ℕ) → channels v ≡ [] → slot k ≡ Gone → heard_slot p (Data k v) c (slot c) ≡ slot c
gone_keeps p k v slot c none here =
    ap (λ (ns : List ℕ). told_slot (is_mine p c) c (Data k v) (named_in (is_mine p c) (is_in c (ns ++ k ∷ [])) (slot c))) none ∙ gone_at p k v slot c (k == c) refl here

pub gone_dropped : (p : Parity) (k : ℕ) (v : Tree) (slot : ℕ → Slot Tree) → slot k ≡ Gone → answer_of p slot (Data k v) ≡ taken.Dropped
gone_dropped p k v slot here = rw here refl

-- ---- the start of a log, which the item on channel 1 names

log_is_even : (n : ℕ) → is_mine Odd (number_of_log n) ≡ false
log_is_even n = grind (arith, nat_tests)

pub log_is_hooked : (n : ℕ) → (number_of_log n % 2 == 0) ≡ true
log_is_hooked n = grind (arith, nat_tests)

-- the callback at a number
abbrev pub with_hook : ℕ → (ℕ → Slot Tree) → ℕ → Slot Tree
with_hook k slot c = if k == c then hooked_slot (slot c) else slot c

start_other : (v : Tree) (log c : ℕ) (s : Slot Tree) (b : Bool) → (1 == c) ≡ b → (log == c) ≡ false → (b ≡ true → s ≡ Here (open_end true))
    → told_slot (is_mine Odd c) c (Data 1 v) (named_in (is_mine Odd c) (is_in c (log ∷ 1 ∷ [])) s) ≡ s
start_other v log c s true h other here = (let at = here refl in rw (h, other, at) refl)
start_other v log c s false h other here = rw (h, other) refl

start_own : (v : Tree) (log c : ℕ) (s : Slot Tree) → (log == c) ≡ true → (1 == c) ≡ false → is_mine Odd c ≡ false → s ≡ Unseen
    → hooked_slot (told_slot (is_mine Odd c) c (Data 1 v) (named_in (is_mine Odd c) (is_in c (log ∷ 1 ∷ [])) s)) ≡ Here (open_end true)
start_own v log c s h other even new = rw (h, other, even, new) refl

pub start_opens : (n : ℕ) (v : Tree) (slot : ℕ → Slot Tree) (c : ℕ) → channels v ≡ number_of_log n ∷ [] → slot 1 ≡ Here (open_end true) → slot (number_of_log n) ≡ Unseen
    → with_hook (number_of_log n) (λ k. heard_slot Odd (Data 1 v) k (slot k)) c ≡ put_at (number_of_log n) (Here (open_end true)) slot c
start_opens n v slot c names here new =
    ap (λ (ns : List ℕ). with_hook log (λ k. told_slot (is_mine Odd k) k (Data 1 v) (named_in (is_mine Odd k) (is_in k (ns ++ 1 ∷ [])) (slot k))) c) names ∙ by_test (log == c) refl
  where
    log : ℕ
    log = number_of_log n

    by_test : (b : Bool) → (log == c) ≡ b → with_hook log (λ k. told_slot (is_mine Odd k) k (Data 1 v) (named_in (is_mine Odd k) (is_in k (log ∷ 1 ∷ [])) (slot k))) c ≡ put_at log (Here (open_end true)) slot c
    by_test true h =
        let same : log ≡ c = eqb-true log c h in
        let apart : (1 == c) ≡ false = subst (λ (k : ℕ). (1 == k) ≡ false) same (grind (arith, nat_tests)) in
        let even : is_mine Odd c ≡ false = ap (is_mine Odd) (sym same) ∙ log_is_even n in
        let unseen : slot c ≡ Unseen = ap slot (sym same) ∙ new in
        let own = start_own v log c (slot c) h apart even unseen in
        let left : with_hook log (λ k. told_slot (is_mine Odd k) k (Data 1 v) (named_in (is_mine Odd k) (is_in k (log ∷ 1 ∷ [])) (slot k))) c ≡ Here (open_end true)
        = ap (λ (b : Bool). if b then hooked_slot (told_slot (is_mine Odd c) c (Data 1 v) (named_in (is_mine Odd c) (is_in c (log ∷ 1 ∷ [])) (slot c))) else told_slot (is_mine Odd c) c (Data 1 v) (named_in (is_mine Odd c) (is_in c (log ∷ 1 ∷ [])) (slot c))) h ∙ own in
        left ∙ sym (ap (λ (b : Bool). if b then Here (open_end true) else slot c) h)
    by_test false h =
        let at : (1 == c) ≡ true → slot c ≡ Here (open_end true) = λ q. ap slot (sym (eqb-true 1 c q)) ∙ here in
        ap (λ (b : Bool). if b then hooked_slot (told_slot (is_mine Odd c) c (Data 1 v) (named_in (is_mine Odd c) (is_in c (log ∷ 1 ∷ [])) (slot c))) else told_slot (is_mine Odd c) c (Data 1 v) (named_in (is_mine Odd c) (is_in c (log ∷ 1 ∷ [])) (slot c))) h
        ∙ (start_other v log c (slot c) (1 == c) refl h at ∙ sym (ap (λ (b : Bool). if b then Here (open_end true) else slot c) h))

-- ---- a close

pub close_at : (p : Parity) (k : ℕ) (e : Option (List ℕ)) (slot : ℕ → Slot Tree) (c : ℕ) → slot k ≡ Here (open_end true) → heard_slot p (Close k e) c (slot c) ≡ put_at k Gone slot c
close_at p k e slot c here = by_test (k == c) refl
  where
    by_test : (b : Bool) → (k == c) ≡ b → heard_slot p (Close k e) c (slot c) ≡ put_at k Gone slot c
    by_test true h =
        let at : slot c ≡ Here (open_end true) = ap slot (sym (eqb-true k c h)) ∙ here in
        rw (h, at) refl
    by_test false h = rw h refl

pub close_handed : (p : Parity) (k : ℕ) (e : Option (List ℕ)) (slot : ℕ → Slot Tree) → slot k ≡ Here (open_end true) → answer_of p slot (Close k e) ≡ taken.EndHanded k (end_of e)
close_handed p k e slot here = rw here refl

-- ---- an end that its owner closes

pub ended_at : (k : ℕ) (hook : Bool) (slot : ℕ → Slot Tree) (c : ℕ) → slot k ≡ Here (open_end hook) → (if k == c then function_ended_slot (slot c) else slot c) ≡ put_at k Gone slot c
ended_at k hook slot c here = by_test (k == c) refl
  where
    by_test : (b : Bool) → (k == c) ≡ b → (if k == c then function_ended_slot (slot c) else slot c) ≡ put_at k Gone slot c
    by_test true h =
        let at : slot c ≡ Here (open_end hook) = ap slot (sym (eqb-true k c h)) ∙ here in
        rw (h, at) refl
    by_test false h = rw h refl

-- ---- how many numbers open

pub opened_few : (new : ℕ → Bool) (ns : List ℕ) → opened_count new ns ≤ length ns
opened_few new [] = omega arith
opened_few new (n ∷ ns) = go (new n) (opened_few new ns) (opened_few (λ c. new c && not (n == c)) ns)
  where
    go : (b : Bool) → opened_count new ns ≤ length ns → opened_count (λ c. new c && not (n == c)) ns ≤ length ns → (if b then suc (opened_count (λ c. new c && not (n == c)) ns) else opened_count new ns) ≤ suc (length ns)
    go true h k = omega (arith, k)
    go false h k = omega (arith, h)
