-- Each crash among the reports is the death of a worker, and names its head, which is not tried again.
use Rattle.std.proofs.Common.{◌≡◌, ℕ, List, [], ◌∷◌, ◌++◌, map, Bool, true, false, refl, ap, sym, ◌∙◌, inl, inr}
use Rattle.std.specs.Prelude.{◌⊎◌, if◌then◌else◌, Some}
use Rattle.xd_journal.specs.declared.settings.Settings.{Settings}
use Rattle.xd_journal.specs.declared.entry.Cause.{Cause}
use Rattle.xd_journal.specs.declared.entry.Outcome.{Outcome}
use Rattle.xd_journal.specs.declared.entry.Entry.{Entry}
use Rattle.xd_journal.specs.declared.entry.Entry.TheVariants.{Ready, Collected, Done, Back, Finished, Refused, Down, NotStarted, Start, Run, RunAll, Steal, Shutdown, Kill, Over}
use Rattle.xd_run.specs.Numbers.{first_of}
use Rattle.xd_run.specs.Table.{crash_item, held}
use Rattle.xd_run.specs.Plan.{items_named}
use Rattle.xd_run.specs.Workers.{slot_of}
use Rattle.xd_run.specs.Retry.{is_retry}
use Rattle.xd_run.specs.Sharing.{State}
use Rattle.xd_run.specs.State.{after_entries, is_input, after_entry, no_one, reached, settled}
use Rattle.xd_run.specs.Reports.{Report, Result, Crash, reports, reports_from, reports_of}
use Rattle.xd_run_laws.specs.Crashes.{IsDeath}

-- an element of two lists is in the second or in the first
in-either : (xs ys a b : List Report) (c : Report) → xs ++ ys ≡ a ++ c ∷ b
    → ((m : List Report) × (a ≡ xs ++ m) × (ys ≡ m ++ c ∷ b)) ⊎ ((m : List Report) × (xs ≡ a ++ c ∷ m))
in-either [] ys a b c h = inl (a, refl, h)
in-either (x ∷ xs) ys [] b c h = (let e : x ≡ c = cc in inr (xs, ap (λ (y : Report). y ∷ xs) e))
in-either (x ∷ xs) ys (y ∷ a) b c h =
    let e : x ≡ y = cc in
    let rest : xs ++ ys ≡ a ++ c ∷ b = cc in
    elim (in-either xs ys a b c rest) [
      | inl k ↦ inl (k.0, ap (λ (z : Report). z ∷ a) (sym e) ∙ ap (λ (zs : List Report). x ∷ zs) k.1, k.2)
      | inr k ↦ inr (k.0, ap (λ (z : Report). z ∷ xs) e ∙ ap (λ (zs : List Report). y ∷ zs) k.1)
    ]

none-there : (a m : List Report) (c : Report) (P : Type 0) → [] ≡ a ++ c ∷ m → P
none-there [] m c P h = absurd cc
none-there (x ∷ a) m c P h = absurd cc

-- a result is no crash
no-crash : (w v x : ℕ) (o : Outcome) (items : List ℕ) (a m : List Report) (P : Type 0) → map (λ item. Result w item o) items ≡ a ++ Crash v x ∷ m → P
no-crash w v x o [] a m P h = none-there a m (Crash v x) P h
no-crash w v x o (i ∷ is) [] m P h = absurd cc
no-crash w v x o (i ∷ is) (y ∷ a) m P h = (let rest : map (λ item. Result w item o) is ≡ a ++ Crash v x ∷ m = cc in no-crash w v x o is a m P rest)

-- the entry is the death of the worker at this head, which is not tried again, and its only report
record Dies (u : State) (e : Entry) (a : List Report) (w x : ℕ) : Type 0 where
  cause : Cause
  output : List ℕ
  is : e ≡ Down w cause output
  head : first_of (held w u.books.table) ≡ Some x
  final : is_retry w u.books ≡ false
  only : a ≡ []

only-head : (u : State) (v : ℕ) (c : Cause) (o : List ℕ) (retry : Bool) (h : List ℕ) (a m : List Report) (w x : ℕ) → is_retry v u.books ≡ retry → held v u.books.table ≡ h
    → map (λ item. Crash v item) (crash_item retry h) ≡ a ++ Crash w x ∷ m → Dies u (Down v c o) a w x
only-head u v c o true h a m w x r e k = none-there a m (Crash w x) (Dies u (Down v c o) a w x) k
only-head u v c o false [] a m w x r e k = none-there a m (Crash w x) (Dies u (Down v c o) a w x) k
only-head u v c o false (y ∷ ys) [] m w x r e k =
    let same_worker : v ≡ w = cc in
    let same_item : y ≡ x = cc in
    record {
      cause = c;
      output = o;
      is = ap (λ (i : ℕ). Down i c o) same_worker;
      head = ap (λ (i : ℕ). first_of (held i u.books.table)) (sym same_worker) ∙ ap first_of e ∙ ap (λ (i : ℕ). Some i) same_item;
      final = ap (λ (i : ℕ). is_retry i u.books) (sym same_worker) ∙ r;
      only = refl;
    }
only-head u v c o false (y ∷ ys) (z ∷ a) m w x r e k = (let rest : [] ≡ a ++ Crash w x ∷ m = cc in none-there a m (Crash w x) (Dies u (Down v c o) (z ∷ a) w x) rest)

dies : (u : State) (e : Entry) (a m : List Report) (w x : ℕ) → reports_of u e ≡ a ++ Crash w x ∷ m → Dies u e a w x
dies u (Done v i o ms out) a m w x h = no-crash v w x o (items_named (slot_of v u.books) (i ∷ []) u.plan) a m (Dies u (Done v i o ms out) a w x) h
dies u (Down v c o) a m w x h = only-head u v c o (is_retry v u.books) (held v u.books.table) a m w x refl refl h
dies u (Ready v) a m w x h = none-there a m (Crash w x) (Dies u (Ready v) a w x) h
dies u (Collected v g) a m w x h = none-there a m (Crash w x) (Dies u (Collected v g) a w x) h
dies u (Back v is) a m w x h = none-there a m (Crash w x) (Dies u (Back v is) a w x) h
dies u (Finished v) a m w x h = none-there a m (Crash w x) (Dies u (Finished v) a w x) h
dies u (Refused v t) a m w x h = none-there a m (Crash w x) (Dies u (Refused v t) a w x) h
dies u (NotStarted v) a m w x h = none-there a m (Crash w x) (Dies u (NotStarted v) a w x) h
dies u (Start v slot) a m w x h = none-there a m (Crash w x) (Dies u (Start v slot) a w x) h
dies u (Run v is) a m w x h = none-there a m (Crash w x) (Dies u (Run v is) a w x) h
dies u (RunAll v) a m w x h = none-there a m (Crash w x) (Dies u (RunAll v) a w x) h
dies u (Steal v is) a m w x h = none-there a m (Crash w x) (Dies u (Steal v is) a w x) h
dies u (Shutdown v) a m w x h = none-there a m (Crash w x) (Dies u (Shutdown v) a w x) h
dies u (Kill v) a m w x h = none-there a m (Crash w x) (Dies u (Kill v) a w x) h
dies u (Over how) a m w x h = none-there a m (Crash w x) (Dies u (Over how) a w x) h

-- the same after a state
record DeathFrom (s : State) (es : List Entry) (earlier : List Report) (w x : ℕ) : Type 0 where
  before : List Entry
  cause : Cause
  output : List ℕ
  after : List Entry
  are : es ≡ before ++ Down w cause output ∷ after
  head : first_of (held w (after_entries s before).books.table) ≡ Some x
  final : is_retry w (after_entries s before).books ≡ false
  reported : reports_from s before ≡ earlier

same-head : (b : Bool) (s : State) (w x : ℕ) → first_of (held w (if b then settled s else s).books.table) ≡ Some x → first_of (held w s.books.table) ≡ Some x
same-head true s w x h = h
same-head false s w x h = h

same-final : (b : Bool) (s : State) (w : ℕ) → is_retry w (if b then settled s else s).books ≡ false → is_retry w s.books ≡ false
same-final true s w h = h
same-final false s w h = h

death-from : (s : State) (es : List Entry) (earlier later : List Report) (w x : ℕ) → reports_from s es ≡ earlier ++ Crash w x ∷ later → DeathFrom s es earlier w x
death-from s [] earlier later w x h = none-there earlier later (Crash w x) (DeathFrom s [] earlier w x) h
death-from s (e ∷ es) earlier later w x h =
    let here = reports_of (reached s e) e in
    elim (in-either here (reports_from (after_entry s e) es) earlier later (Crash w x) h) [
      | inl k ↦
          (let d = death-from (after_entry s e) es (k.0) later w x k.2 in
          record {
            before = e ∷ d.before;
            cause = d.cause;
            output = d.output;
            after = d.after;
            are = ap (λ (xs : List Entry). e ∷ xs) d.are;
            head = d.head;
            final = d.final;
            reported = ap (λ (rs : List Report). here ++ rs) d.reported ∙ sym k.1;
          })
      | inr k ↦
          (let d = dies (reached s e) e earlier (k.0) w x k.1 in
          record {
            before = [];
            cause = d.cause;
            output = d.output;
            after = es;
            are = ap (λ (y : Entry). y ∷ es) d.is;
            head = same-head (is_input e) s w x d.head;
            final = same-final (is_input e) s w d.final;
            reported = sym d.only;
          })
    ]

pub death-of : (settings : Settings) (es : List Entry) (earlier later : List Report) (worker item : ℕ) → reports settings es ≡ earlier ++ Crash worker item ∷ later → IsDeath settings es earlier worker item
death-of settings es earlier later worker item h =
    let d = death-from (no_one settings) es earlier later worker item h in
    record { before = d.before; cause = d.cause; output = d.output; after = d.after; are = d.are; head = d.head; final = d.final; reported = d.reported }
