-- An event has a payload, and is read back of it.
use Rattle.std.proofs.Common.{◌≡◌, ℕ, suc, ◌+◌, ◌*◌, ◌<◌, ◌≤◌, max, nat_lt, ◌&&◌, ℤ, pos, negsuc, Bool, true, false, List, [], ◌∷◌, ◌++◌, length, length-append, map, Some, Ok, FitsSigned, refl, ap, sym, subst, ◌∙◌, arith}
use Rattle.std.specs.Prelude.{codes, if◌then◌else◌}
use Rattle.std.specs.Int.{w32, w128, to_be_bytes}
use Rattle.std.specs.List.{list_all}
use Rattle.std.specs.Str.{all_scalars, encode_utf8_all}
use Rattle.std.specs.Fmt.{decimal}
use Rattle.std.proofs.lemmas.Bool.{and_parts, le-ltb, lt-ltb, ltb-true}
use Rattle.std.proofs.lemmas.Fmt.{length-decimal-le}
use Rattle.std.proofs.lemmas.Option.{same_Some}
use Rattle.xd_value.specs.Canonical.{Test, Hashable, Distinct, Channels, all_pass, trees_pass, canonical, dumped, form, int_form, pair_forms}
use Rattle.xd_value.specs.Payload.{IsPayload}
use Rattle.xd_value.specs.Tree.{Tree, Trees, Pairs, channel, int, text, no_pairs, pair, trees_depth}
use Rattle.xd_value.specs.View.{trees_of}
use Rattle.xd_value.specs.Writable.{Writable, AllWritable, PairsWritable}
use Rattle.xd_value.proofs.Dumped.{dumped_once}
use Rattle.xd_journal.specs.declared.entry.Outcome.{Outcome}
use Rattle.xd_journal.specs.declared.entry.Outcome.TheVariants.{Passed, Skipped, Failed}
use Rattle.xd_journal.specs.declared.news.What.{What}
use Rattle.xd_journal.specs.declared.news.What.TheVariants.{Ready, Collected, LogStart, Piece, LogClosed, Done, Back, Finished, Closed, Stray, Gone, NotStarted}
use Rattle.xd_commands.specs.Calls.{call_as_value}
use Rattle.xd_commands.specs.Events.{IsEvent, IsOutcome, collection_tree, done_kwargs, event_tree, is_failure_code, outcome_code, outcome_word, tree_event}
use Rattle.xd_commands.specs.Kwargs.{AreIndices}
use Rattle.xd_commands.specs.Limits.{FitsPayload}
use Rattle.xd_commands.proofs.Fitting.{bare_dumped, dumped_is, flat, int_length, ints, listed_passes, listed_shallow, numbers_dumped, text_length}
use Rattle.xd_commands.proofs.ReadBack.{event_read}

-- ---- how long a call is

named_length : (name : List ℕ) (kwargs : Pairs) → length (canonical (call_as_value name kwargs)) ≡ length (encode_utf8_all name) + length (pair_forms kwargs) + 12
named_length name kwargs =
    let n = form (text name) in
    let body = 74 ∷ pair_forms kwargs in
    let t = 64 ∷ to_be_bytes w32 2 in
    omega (arith, length-append ((n ++ (body ++ [])) ++ t) (81 ∷ []), length-append (n ++ (body ++ [])) t, length-append n (body ++ []), length-append body [], text_length name)

pair_length : (k : List ℕ) (v : Tree) (ps : Pairs) → length (pair_forms (pair (text k) v ps)) ≡ length (encode_utf8_all k) + length (form v) + length (pair_forms ps) + 6
pair_length k v ps = omega (arith, length-append (form (text k)) (form v ++ (80 ∷ pair_forms ps)), length-append (form v) (80 ∷ pair_forms ps), text_length k)

-- ---- numbers

wide_by : (n : ℕ) (b : Bool) → n < 18446744073709551616 → length (if b then 70 ∷ to_be_bytes w32 n else 72 ∷ (to_be_bytes w32 (length (decimal n)) ++ decimal n)) ≤ 25
wide_by n true h = omega arith
wide_by n false h = (let d = length-decimal-le 20 n (omega arith) (omega arith) (omega arith) in omega (arith, d))

wide_length : (n : ℕ) → n < 18446744073709551616 → length (int_form (pos n)) ≤ 25
wide_length n h = wide_by n (nat_lt n 2147483648) h

code_length : (z : ℤ) → is_failure_code z ≡ true → length (int_form z) ≤ 15
code_length (pos n) h =
    let small = and_parts (nat_lt 0 n) _ h in
    let below = ltb-true n 256 (and_parts (nat_lt n 256) _ small.1).0 in
    int_length n (omega (arith, below))
code_length (negsuc n) h = (let below = ltb-true n 3 h in rw (lt-ltb n 2147483648 (omega (arith, below))) (omega arith))

outcome_length : (o : Outcome) → IsOutcome o → length (int_form (outcome_code o)) ≤ 15
outcome_length Passed h = int_length 0 (omega arith)
outcome_length Skipped h = int_length 0 (omega arith)
outcome_length (Failed z) h = code_length z h

word_length : (o : Outcome) → length (encode_utf8_all (outcome_word o)) ≤ 7
unfolding lib.Utf8.encode
word_length Passed = omega arith
word_length Skipped = omega arith
word_length (Failed z) = omega arith

below_wide : (n : ℕ) → n < 18446744073709551616 → FitsSigned w128 (pos n)
below_wide n h = record { sfits = omega arith }

code_wide : (z : ℤ) → is_failure_code z ≡ true → FitsSigned w128 z
code_wide (pos n) h =
    let small = and_parts (nat_lt 0 n) _ h in
    let below = ltb-true n 256 (and_parts (nat_lt n 256) _ small.1).0 in
    below_wide n (omega (arith, below))
code_wide (negsuc n) h = (let below = ltb-true n 3 h in record { sfits = omega (arith, below) })

outcome_wide : (o : Outcome) → IsOutcome o → FitsSigned w128 (outcome_code o)
outcome_wide Passed h = below_wide 0 (omega arith)
outcome_wide Skipped h = below_wide 0 (omega arith)
outcome_wide (Failed z) h = code_wide z h

word_scalars : (o : Outcome) → all_scalars (outcome_word o) ≡ true
word_scalars Passed = refl
word_scalars Skipped = refl
word_scalars (Failed z) = refl

-- ---- the words

done_length : length (encode_utf8_all (codes "runtest_protocol_complete")) ≡ 25
unfolding lib.Utf8.encode
done_length = refl

index_length : length (encode_utf8_all (codes "item_index")) ≡ 10
unfolding lib.Utf8.encode
index_length = refl

outcome_key_length : length (encode_utf8_all (codes "outcome")) ≡ 7
unfolding lib.Utf8.encode
outcome_key_length = refl

code_key_length : length (encode_utf8_all (codes "code")) ≡ 4
unfolding lib.Utf8.encode
code_key_length = refl

duration_length : length (encode_utf8_all (codes "duration")) ≡ 8
unfolding lib.Utf8.encode
duration_length = refl

start_length : length (encode_utf8_all (codes "logstart")) ≡ 8
unfolding lib.Utf8.encode
start_length = refl

log_length : length (encode_utf8_all (codes "log")) ≡ 3
unfolding lib.Utf8.encode
log_length = refl

ready_length : length (encode_utf8_all (codes "workerready")) ≡ 11
unfolding lib.Utf8.encode
ready_length = refl

finished_length : length (encode_utf8_all (codes "workerfinished")) ≡ 14
unfolding lib.Utf8.encode
finished_length = refl

back_length : length (encode_utf8_all (codes "unscheduled")) ≡ 11
unfolding lib.Utf8.encode
back_length = refl

-- ---- the payload of each event

-- what is written of the value, which can be written
abbrev HasPayload : Tree → Type 0
HasPayload t = (dumped t ≡ Ok (canonical t)) × Writable t

done_written : (n : ℕ) (o : Outcome) (ms : ℕ) → n < 4294967296 → IsOutcome o → ms < 18446744073709551616 → length (canonical (call_as_value (codes "runtest_protocol_complete") (done_kwargs n o ms))) ≤ 16777216
done_written n o ms h k small =
    let last = pair (text (codes "duration")) (int (pos ms)) no_pairs in
    let third = pair (text (codes "code")) (int (outcome_code o)) last in
    let second = pair (text (codes "outcome")) (text (outcome_word o)) third in
    omega (
      arith,
      named_length (codes "runtest_protocol_complete") (done_kwargs n o ms),
      pair_length (codes "item_index") (int (pos n)) second,
      pair_length (codes "outcome") (text (outcome_word o)) third,
      pair_length (codes "code") (int (outcome_code o)) last,
      pair_length (codes "duration") (int (pos ms)) no_pairs,
      text_length (outcome_word o),
      word_length o,
      int_length n h,
      outcome_length o k,
      wide_length ms small,
      done_length,
      index_length,
      outcome_key_length,
      code_key_length,
      duration_length,
    )

done_payload : (n : ℕ) (o : Outcome) (ms : ℕ) → n < 4294967296 → IsOutcome o → ms < 18446744073709551616 → HasPayload (call_as_value (codes "runtest_protocol_complete") (done_kwargs n o ms))
done_payload n o ms h k small = (
  dumped_is (call_as_value (codes "runtest_protocol_complete") (done_kwargs n o ms)) refl refl refl refl (le-ltb 16777216 _ (done_written n o ms h k small)),
  (refl, (((refl, below_wide n (omega (arith, h))), ((refl, word_scalars o), ((refl, outcome_wide o k), ((refl, below_wide ms small), tt)))), tt)),
)

log_written : (n log : ℕ) → n < 4294967296 → length (canonical (call_as_value (codes "logstart") (pair (text (codes "item_index")) (int (pos n)) (pair (text (codes "log")) (channel log) no_pairs)))) ≤ 16777216
log_written n log h =
    let last = pair (text (codes "log")) (channel log) no_pairs in
    omega (
      arith,
      named_length (codes "logstart") (pair (text (codes "item_index")) (int (pos n)) last),
      pair_length (codes "item_index") (int (pos n)) last,
      pair_length (codes "log") (channel log) no_pairs,
      int_length n h,
      start_length,
      index_length,
      log_length,
    )

texts_flat : (ids : List (List ℕ)) → trees_depth (trees_of (map text ids)) ≡ 0
texts_flat [] = refl
texts_flat (id ∷ ids) = ap (max 0) (texts_flat ids)

texts_pass : (x : Test) (ids : List (List ℕ)) → trees_pass x (trees_of (map text ids)) ≡ true
texts_pass x [] = refl
texts_pass Hashable (id ∷ ids) = texts_pass Hashable ids
texts_pass Distinct (id ∷ ids) = texts_pass Distinct ids
texts_pass Channels (id ∷ ids) = texts_pass Channels ids

texts_writable : (ids : List (List ℕ)) → list_all all_scalars ids ≡ true → AllWritable (trees_of (map text ids))
texts_writable [] h = tt
texts_writable (id ∷ ids) h = (let p = and_parts (all_scalars id) (list_all all_scalars ids) h in (p.0, texts_writable ids p.1))

ints_writable : (ns : List ℕ) → AreIndices ns → AllWritable (ints ns)
ints_writable [] h = tt
ints_writable (n ∷ ns) h = (let below = h.0 in (below_wide n (omega (arith, below)), ints_writable ns h.1))

has_payload : (e : What) → IsEvent e → FitsPayload e → (t : Tree) → event_tree e ≡ Some t → HasPayload t
has_payload Ready h f t is = subst HasPayload (same_Some _ _ is) (bare_dumped (codes "workerready") (let l = ready_length in omega (arith, l)), (refl, (tt, tt)))
has_payload (Collected ids) h f t is =
    let ts = trees_of (map text ids) in
    let name = codes "collectionfinish" in
    let key = codes "ids" in
    subst HasPayload (same_Some _ _ is) (
      dumped_is (collection_tree ids) (listed_shallow name key ts (texts_flat ids)) (listed_passes Hashable name key ts (texts_pass Hashable ids)) (listed_passes Distinct name key ts (texts_pass Distinct ids)) (listed_passes Channels name key ts (texts_pass Channels ids)) (le-ltb 16777216 _ f.1),
      (refl, (((refl, texts_writable ids f.0), tt), tt)),
    )
has_payload (LogStart n log) h f t is =
    let value = call_as_value (codes "logstart") (pair (text (codes "item_index")) (int (pos n)) (pair (text (codes "log")) (channel log) no_pairs)) in
    let named : all_pass Channels value ≡ true = rw (lt-ltb 0 log f.0, lt-ltb log 2147483648 f.1) refl in
    subst HasPayload (same_Some _ _ is) (
      dumped_is value refl refl refl named (le-ltb 16777216 _ (log_written n log h)),
      (refl, (((refl, below_wide n (omega (arith, h))), ((refl, tt), tt)), tt)),
    )
has_payload (Done n o ms) h f t is = subst HasPayload (same_Some _ _ is) (done_payload n o ms h.0 h.1 h.2)
has_payload (Back ns) h f t is =
    subst HasPayload (same_Some _ _ is) (
      numbers_dumped (codes "unscheduled") ns (let l = back_length in omega (arith, l)) h f,
      (refl, (((refl, ints_writable ns h), tt), tt)),
    )
has_payload Finished h f t is = subst HasPayload (same_Some _ _ is) (bare_dumped (codes "workerfinished") (let l = finished_length in omega (arith, l)), (refl, (tt, tt)))
has_payload (Piece log b) h f t is = absurd cc
has_payload (LogClosed log) h f t is = absurd cc
has_payload (Closed x) h f t is = absurd cc
has_payload Stray h f t is = absurd cc
has_payload (Gone c) h f t is = absurd cc
has_payload NotStarted h f t is = absurd cc

pub event_payload : (e : What) (t : Tree) → IsEvent e → FitsPayload e → event_tree e ≡ Some t
    → (dumped t ≡ Ok (canonical t)) × IsPayload t (canonical t) × ((v : Tree) → IsPayload v (canonical t) → tree_event v ≡ Some e)
event_payload e t h f is =
    let p = has_payload e h f t is in
    let once = dumped_once t (canonical t) p.1 p.0 in
    (p.0, once.0, λ v q. ap tree_event (once.1 v q) ∙ event_read e t h is)
