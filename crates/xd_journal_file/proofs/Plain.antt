-- Only the length of its payload can keep an entry from being written, and nothing keeps settings.
use Rattle.std.proofs.Common.{◌≡◌, ℕ, suc, ◌*◌, ◌≤◌, nat_lt, ℤ, pos, Bool, true, false, not, List, [], ◌∷◌, ◌++◌, map, length, length-append, Result, Ok, Err, Option, Some, None, refl, sym, subst, ◌∙◌, arith}
use Rattle.std.specs.Prelude.{codes, if◌then◌else◌}
use Rattle.std.specs.List.{AllByRecursion}
use Rattle.std.specs.Int.{w32, to_be_bytes}
use Rattle.std.specs.Str.{encode_utf8_all}
use Rattle.std.proofs.lemmas.Bool.{le-ltb, ltb-true, ltb-false}
use Rattle.xd_edge.specs.declared.mode.ModeKind.{ModeKind}
use Rattle.xd_edge.specs.declared.mode.ModeKind.TheVariants.{Local, Each, Load, LoadScope, LoadFile, LoadGroup, WorkSteal}
use Rattle.xd_value.specs.Tree.{Tree, none, truth, int, bytes, text, list, tuple, count, depth, trees_depth}
use Rattle.xd_value.specs.View.{trees_of}
use Rattle.xd_value.specs.Payload.{IsPayload}
use Rattle.xd_value.specs.Canonical.{Test, Hashable, Distinct, Channels, all_pass, trees_pass, dumped, canonical, form, forms, IsDump}
use Rattle.xd_value.specs.declared.writing.DumpFault.{DumpFault}
use Rattle.xd_value.specs.declared.writing.DumpFault.TheVariants as fault
use Rattle.xd_commands.proofs.Fitting.{int_length, text_length}
use Rattle.xd_journal.specs.declared.settings.Settings.{Settings}
use Rattle.xd_journal.specs.declared.entry.Ids.{Ids}
use Rattle.xd_journal.specs.declared.entry.Ids.TheVariants as ids
use Rattle.xd_journal.specs.declared.entry.Outcome.{Outcome}
use Rattle.xd_journal.specs.declared.entry.Outcome.TheVariants.{Passed, Skipped, Failed}
use Rattle.xd_journal.specs.declared.entry.RunStop.{RunStop}
use Rattle.xd_journal.specs.declared.entry.RunStop.TheVariants.{Completed, MaxFail, Restarts, Unequal, CollectError, OutFault}
use Rattle.xd_journal.specs.declared.entry.Entry.{Entry}
use Rattle.xd_journal.specs.declared.entry.Entry.TheVariants.{Ready, Collected, Done, Back, Finished, Refused, Down, NotStarted, Start, Run, RunAll, Steal, Shutdown, Kill, Over}
use Rattle.xd_journal_file.specs.Sizes.{Is32, IsOptional32, AreSizedSettings}
use Rattle.xd_journal_file.specs.Written.{entry_tree, ids_tree, indices_tree, mode_word, number_tree, optional_tree, outcome_tree, settings_tree, stop_trees}
use Rattle.xd_journal_file.specs.inner.Steps.{HasPayload, IsPlainValue, IsTooLong}

-- a value of this depth at most, each part of which passes
record Low (n : ℕ) (t : Tree) : Type 0 where
  passes : (x : Test) → all_pass x t ≡ true
  low : depth t ≤ n

pass_none : (x : Test) → all_pass x none ≡ true
pass_none Hashable = refl
pass_none Distinct = refl
pass_none Channels = refl

low_none : (n : ℕ) → Low n none
low_none n = record { passes = pass_none; low = omega arith }

pass_truth : (b : Bool) → (x : Test) → all_pass x (truth b) ≡ true
pass_truth b Hashable = refl
pass_truth b Distinct = refl
pass_truth b Channels = refl

low_truth : (n : ℕ) (b : Bool) → Low n (truth b)
low_truth n b = record { passes = pass_truth b; low = omega arith }

pass_int : (z : ℤ) → (x : Test) → all_pass x (int z) ≡ true
pass_int z Hashable = refl
pass_int z Distinct = refl
pass_int z Channels = refl

low_int : (n : ℕ) (z : ℤ) → Low n (int z)
low_int n z = record { passes = pass_int z; low = omega arith }

pass_bytes : (bs : List ℕ) → (x : Test) → all_pass x (bytes bs) ≡ true
pass_bytes bs Hashable = refl
pass_bytes bs Distinct = refl
pass_bytes bs Channels = refl

low_bytes : (n : ℕ) (bs : List ℕ) → Low n (bytes bs)
low_bytes n bs = record { passes = pass_bytes bs; low = omega arith }

pass_text : (cs : List ℕ) → (x : Test) → all_pass x (text cs) ≡ true
pass_text cs Hashable = refl
pass_text cs Distinct = refl
pass_text cs Channels = refl

low_text : (n : ℕ) (cs : List ℕ) → Low n (text cs)
low_text n cs = record { passes = pass_text cs; low = omega arith }

each_passes : (n : ℕ) (x : Test) (ts : List Tree) → AllByRecursion (Low n) ts → trees_pass x (trees_of ts) ≡ true
each_passes n x [] h = refl
each_passes n x (t ∷ ts) h = rw (h.0.passes x, each_passes n x ts h.1) refl

each_low : (n : ℕ) (ts : List Tree) → AllByRecursion (Low n) ts → trees_depth (trees_of ts) ≤ n
each_low n [] h = omega arith
each_low n (t ∷ ts) h = (let a = h.0.low in let b = each_low n ts h.1 in omega (arith, a, b))

list_passes : (n : ℕ) (ts : List Tree) → AllByRecursion (Low n) ts → (x : Test) → all_pass x (list (trees_of ts)) ≡ true
list_passes n ts h Hashable = each_passes n Hashable ts h
list_passes n ts h Distinct = each_passes n Distinct ts h
list_passes n ts h Channels = each_passes n Channels ts h

low_list : (n : ℕ) (ts : List Tree) → AllByRecursion (Low n) ts → Low (suc n) (list (trees_of ts))
low_list n ts h =
    record {
      passes = list_passes n ts h;
      low = (let a = each_low n ts h in omega (arith, a));
    }

tuple_passes : (n : ℕ) (ts : List Tree) → AllByRecursion (Low n) ts → (x : Test) → all_pass x (tuple (trees_of ts)) ≡ true
tuple_passes n ts h Hashable = each_passes n Hashable ts h
tuple_passes n ts h Distinct = each_passes n Distinct ts h
tuple_passes n ts h Channels = each_passes n Channels ts h

low_tuple : (n : ℕ) (ts : List Tree) → AllByRecursion (Low n) ts → Low (suc n) (tuple (trees_of ts))
low_tuple n ts h =
    record {
      passes = tuple_passes n ts h;
      low = (let a = each_low n ts h in omega (arith, a));
    }

plain : (ts : List Tree) → AllByRecursion (Low 1) ts → IsPlainValue (tuple (trees_of ts))
plain ts h = (let t = low_tuple 1 ts h in record { shallow = le-ltb 64 _ (omega (arith, t.low)); passes = t.passes })

low_numbers : (ns : List ℕ) → AllByRecursion (Low 0) (map number_tree ns)
low_numbers [] = tt
low_numbers (n ∷ ns) = (low_int 0 (pos n), low_numbers ns)

low_texts : (ts : List (List ℕ)) → AllByRecursion (Low 0) (map text ts)
low_texts [] = tt
low_texts (t ∷ ts) = (low_text 0 t, low_texts ts)

low_indices : (ns : List ℕ) → Low 1 (indices_tree ns)
low_indices ns = low_list 0 (map number_tree ns) (low_numbers ns)

low_ids : (given : Ids) → Low 1 (ids_tree given)
low_ids (ids.List own) = low_list 0 (map text own) (low_texts own)
low_ids ids.Same = low_none 1

low_outcome : (o : Outcome) → Low 1 (outcome_tree o)
low_outcome Passed = low_text 1 _
low_outcome Skipped = low_text 1 _
low_outcome (Failed code) = low_int 1 code

low_stop : (how : RunStop) → AllByRecursion (Low 1) (stop_trees how)
low_stop Completed = (low_text 1 _, tt)
low_stop (MaxFail count) = (low_text 1 _, (low_int 1 _, tt))
low_stop (Restarts worker limit) = (low_text 1 _, (low_int 1 _, (low_int 1 _, tt)))
low_stop (Unequal worker other place) = (low_text 1 _, (low_int 1 _, (low_int 1 _, (low_int 1 _, tt))))
low_stop (CollectError worker) = (low_text 1 _, (low_int 1 _, tt))
low_stop OutFault = (low_text 1 _, tt)

pub entry_plain : (e : Entry) → IsPlainValue (entry_tree e)
entry_plain (Ready w) = plain (text (codes "ready") ∷ number_tree w ∷ []) (low_text 1 _, (low_int 1 _, tt))
entry_plain (Collected w given) = plain (text (codes "collected") ∷ number_tree w ∷ ids_tree given ∷ []) (low_text 1 _, (low_int 1 _, (low_ids given, tt)))
entry_plain (Done w i o ms b) = plain (text (codes "done") ∷ number_tree w ∷ number_tree i ∷ outcome_tree o ∷ number_tree ms ∷ bytes b ∷ []) (low_text 1 _, (low_int 1 _, (low_int 1 _, (low_outcome o, (low_int 1 _, (low_bytes 1 b, tt))))))
entry_plain (Back w ns) = plain (text (codes "back") ∷ number_tree w ∷ indices_tree ns ∷ []) (low_text 1 _, (low_int 1 _, (low_indices ns, tt)))
entry_plain (Finished w) = plain (text (codes "finished") ∷ number_tree w ∷ []) (low_text 1 _, (low_int 1 _, tt))
entry_plain (Refused w t) = plain (text (codes "refused") ∷ number_tree w ∷ text t ∷ []) (low_text 1 _, (low_int 1 _, (low_text 1 t, tt)))
entry_plain (Down w c b) = plain (text (codes "down") ∷ number_tree w ∷ text _ ∷ bytes b ∷ []) (low_text 1 _, (low_int 1 _, (low_text 1 _, (low_bytes 1 b, tt))))
entry_plain (NotStarted w) = plain (text (codes "notstarted") ∷ number_tree w ∷ []) (low_text 1 _, (low_int 1 _, tt))
entry_plain (Start w slot) = plain (text (codes "start") ∷ number_tree w ∷ number_tree slot ∷ []) (low_text 1 _, (low_int 1 _, (low_int 1 _, tt)))
entry_plain (Run w ns) = plain (text (codes "run") ∷ number_tree w ∷ indices_tree ns ∷ []) (low_text 1 _, (low_int 1 _, (low_indices ns, tt)))
entry_plain (RunAll w) = plain (text (codes "runall") ∷ number_tree w ∷ []) (low_text 1 _, (low_int 1 _, tt))
entry_plain (Steal w ns) = plain (text (codes "steal") ∷ number_tree w ∷ indices_tree ns ∷ []) (low_text 1 _, (low_int 1 _, (low_indices ns, tt)))
entry_plain (Shutdown w) = plain (text (codes "shutdown") ∷ number_tree w ∷ []) (low_text 1 _, (low_int 1 _, tt))
entry_plain (Kill w) = plain (text (codes "kill") ∷ number_tree w ∷ []) (low_text 1 _, (low_int 1 _, tt))
entry_plain (Over how) = plain (text (codes "over") ∷ stop_trees how) (low_text 1 _, low_stop how)

low_optional : (n : Option ℕ) → Low 1 (optional_tree n)
low_optional None = low_none 1
low_optional (Some n) = low_int 1 (pos n)

-- the fields of settings, with the name of the form
abbrev settings_fields : Settings → List Tree
settings_fields s = text (codes "xdrun journal") ∷ number_tree 1 ∷ text (mode_word s.mode) ∷ number_tree s.workers ∷ number_tree s.maxfail ∷ number_tree s.restarts ∷ optional_tree s.chunk ∷ truth s.reorder ∷ number_tree s.retries ∷ []

pub settings_plain : (s : Settings) → IsPlainValue (settings_tree s)
settings_plain s = plain (settings_fields s) (low_text 1 _, (low_int 1 _, (low_text 1 _, (low_int 1 _, (low_int 1 _, (low_int 1 _, (low_optional s.chunk, (low_truth 1 _, (low_int 1 _, tt)))))))))

-- what is dumped of a value that only its length can keep from being written
chosen : (a b c d : Bool) (r : Result (List ℕ) DumpFault) → a ≡ false → b ≡ true → c ≡ true → d ≡ true
    → (if a then Err fault.TooDeep else if not b then Err fault.Unhashable else if not c then Err fault.Repeated else if not d then Err fault.BadChannel else r) ≡ r
chosen false true true true r p q s t = refl
chosen true b c d r p q s t = cc
chosen a false c d r p q s t = cc
chosen a b false d r p q s t = cc
chosen a b c false r p q s t = cc

plain_dumped : (t : Tree) → IsPlainValue t → dumped t ≡ (if nat_lt 16777216 (length (canonical t)) then Err fault.TooLong else Ok (canonical t))
unfolding dumped
plain_dumped t p = chosen (nat_lt 64 (depth t)) (all_pass Hashable t) (all_pass Distinct t) (all_pass Channels t) _ p.shallow (p.passes Hashable) (p.passes Distinct) (p.passes Channels)

by_size_ok : (a : Bool) (x b : List ℕ) → (if a then Err fault.TooLong else Ok x) ≡ Ok b → (a ≡ false) × (b ≡ x)
by_size_ok true x b e = cc
by_size_ok false x b e = (refl, cc)

by_size_err : (a : Bool) (x : List ℕ) (f : DumpFault) → (if a then Err fault.TooLong else Ok x) ≡ Err f → a ≡ true
by_size_err true x f e = refl
by_size_err false x f e = cc

pub written : (t : Tree) (b : List ℕ) → IsPlainValue t → dumped t ≡ Ok b → IsPayload t b → HasPayload b t
written t b p e payload =
    let k = by_size_ok (nat_lt 16777216 (length (canonical t))) (canonical t) b (sym (plain_dumped t p) ∙ e) in
    record { is = k.1; fits = record { payload = subst (IsPayload t) k.1 payload; short = ltb-false 16777216 (length (canonical t)) k.0 } }

too_long : (t : Tree) (f : DumpFault) → IsPlainValue t → dumped t ≡ Err f → IsTooLong t
too_long t f p e = ltb-true 16777216 (length (canonical t)) (by_size_err _ (canonical t) f (sym (plain_dumped t p) ∙ e))

pub not_written : (t : Tree) (f : DumpFault) → IsPlainValue t → (f ≡ fault.OutOfMemory → ⊥) → IsDump (Err f) (dumped t) → IsTooLong t
not_written t fault.TooDeep p other e = too_long t fault.TooDeep p e
not_written t fault.Unhashable p other e = too_long t fault.Unhashable p e
not_written t fault.Repeated p other e = too_long t fault.Repeated p e
not_written t fault.BadChannel p other e = too_long t fault.BadChannel p e
not_written t fault.TooLong p other e = too_long t fault.TooLong p e
not_written t fault.OutOfMemory p other e = absurd (other refl)

-- settings are short
abbrev Short : Tree → Type 0
Short t = length (form t) ≤ 100

short_word : (w : List ℕ) → length (encode_utf8_all w) ≤ 20 → Short (text w)
short_word w h = (let l = text_length w in omega (arith, l, h))

short_number : (n : ℕ) → Is32 n → Short (number_tree n)
short_number n h = (let l = int_length n h in omega (arith, l))

short_optional : (n : Option ℕ) → IsOptional32 n → Short (optional_tree n)
short_optional None h = omega arith
short_optional (Some n) h = short_number n h

short_truth : (b : Bool) → Short (truth b)
short_truth true = omega arith
short_truth false = omega arith

form_word : length (encode_utf8_all (codes "xdrun journal")) ≤ 20
unfolding lib.Utf8.encode
form_word = omega arith

mode_short : (m : ModeKind) → length (encode_utf8_all (mode_word m)) ≤ 20
unfolding lib.Utf8.encode
mode_short Local = omega arith
mode_short Each = omega arith
mode_short Load = omega arith
mode_short LoadScope = omega arith
mode_short LoadFile = omega arith
mode_short LoadGroup = omega arith
mode_short WorkSteal = omega arith

forms_short : (ts : List Tree) → AllByRecursion Short ts → length (forms (trees_of ts)) ≤ 100 * length ts
forms_short [] h = omega arith
forms_short (t ∷ ts) h = (let l = length-append (form t) (forms (trees_of ts)) in let more = forms_short ts h.1 in let here = h.0 in omega (arith, l, more, here))

-- a tuple of some short fields
tuple_short : (ts : List Tree) → AllByRecursion Short ts → length ts ≤ 1000 → length (canonical (tuple (trees_of ts))) ≤ 16777216
tuple_short ts h few =
    let fields = forms (trees_of ts) in
    let tail = 64 ∷ to_be_bytes w32 (count (trees_of ts)) in
    let size = forms_short ts h in
    let inner = length-append fields tail in
    let outer = length-append (fields ++ tail) (81 ∷ []) in
    omega (arith, size, inner, outer, few)

pub settings_short : (s : Settings) → AreSizedSettings s → length (canonical (settings_tree s)) ≤ 16777216
settings_short s h =
    tuple_short (settings_fields s) (
      short_word (codes "xdrun journal") form_word,
      (
        short_number 1 (omega arith),
        (
          short_word (mode_word s.mode) (mode_short s.mode),
          (
            short_number s.workers h.workers,
            (
              short_number s.maxfail h.maxfail,
              (
                short_number s.restarts h.restarts,
                (
                  short_optional s.chunk h.chunk,
                  (
                    short_truth s.reorder,
                    (
                      short_number s.retries h.retries,
                      tt,
                    ),
                  ),
                ),
              ),
            ),
          ),
        ),
      ),
    ) (omega arith)

pub not_long : (t : Tree) → length (canonical t) ≤ 16777216 → IsTooLong t → ⊥
not_long t short long = omega (arith, short, long)
