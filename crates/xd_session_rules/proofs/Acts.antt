-- The outputs of a rule, put together.
use Rattle.std.proofs.Common.{◌≡◌, ℕ, drop, length, List, [], ◌∷◌, ◌++◌, refl, ap, sym, subst, ◌∙◌, Bool, true, false, append_assoc}
use Rattle.std.specs.Prelude.{if◌then◌else◌, Option, Some, None, is_some}
use Rattle.std.specs.List.{list_all}
use Rattle.xd_journal.specs.declared.entry.Entry.{Entry}
use Rattle.xd_journal.specs.declared.entry.Entry.TheVariants.{Ready, Collected, Done, Back, Finished, Refused, Down, NotStarted, Start, Run, RunAll, Steal, Shutdown, Kill, Over}
use Rattle.xd_journal.specs.declared.entry.Outcome.{Outcome}
use Rattle.xd_journal.specs.declared.entry.RunStop.{RunStop}
use Rattle.xd_journal.specs.declared.entry.RunStop.TheVariants.{CollectError}
use Rattle.xd_run.specs.Books.{Books, on_table}
use Rattle.xd_run.specs.Table.{Table, given_back, held, retried_item}
use Rattle.xd_run.specs.Plan.{Plan, items_named}
use Rattle.xd_ledger.specs.Calls.{Turned, death_plan}
use Rattle.xd_run.specs.Modes.{ModeCall}
use Rattle.xd_run.specs.Modes.ModeCall.{Died}
use Rattle.xd_run.specs.Workers.{begun_at, waiting, slot_of}
use Rattle.xd_run.specs.Retry.{is_retry}
use Rattle.xd_run.specs.Stops.{is_stopped, or_stop}
use Rattle.xd_run.specs.Sharing.{State, in_books}
use Rattle.xd_run.specs.Deaths.{after_down, down_books, down_plan, steal_without}
use Rattle.xd_run.specs.Handing.{after_back}
use Rattle.xd_run.specs.Results.{done_books}
use Rattle.xd_run.specs.State.{after_entries, after_effect, after_entry}
use Rattle.xd_run.specs.Suits.{Finds, Suits}
use Rattle.xd_run.specs.Outputs.{acts_of, own_outputs, shut_all}
use Rattle.xd_run_laws.specs.Called.{Called}
use Rattle.xd_run_laws.proofs.Calls.{died-called}
use Rattle.xd_run_laws.proofs.Inputs.{done-unstopped, down-unstopped, unstopped-before}
use Rattle.xd_run_laws.proofs.Logic.{differ, split-and}
use Rattle.xd_session_books.specs.Known.{Known, known_plan, steal_told}
use Rattle.xd_session_books.specs.Books.{told_all}
use Rattle.xd_session_rules.specs.Rules.{Acted, At, Before, Calls, DidClosing, Comes, MayDie, Ruled, members_told}
use Rattle.xd_session_rules.proofs.Closing.{after_entries-append, append-nil, ruled, stop-told_all, told-moved}
use Rattle.xd_session_rules.proofs.Orders.{Tells, tells, tells-acts}
use Rattle.xd_session_rules.proofs.Retrying.{plan-by-pool, plan-unshared}

-- what a mode says changes of the books the table and the marks, and of what is known the open steal

told-parts : (es : List Entry) (s : State) → Tells es
    → ((after_entries s es).books ≡ record (s.books) { table = (after_entries s es).books.table; members = members_told es s.books.members })
    × (known_plan (after_entries s es).plan ≡ record (known_plan s.plan) { steal = steal_told es s.plan.steal })
told-parts [] s h = (refl, refl)
told-parts (Run w is ∷ es) s h = told-parts es (after_entry s (Run w is)) (split-and true (list_all tells es) h).1
told-parts (RunAll w ∷ es) s h = told-parts es (after_entry s (RunAll w)) (split-and true (list_all tells es) h).1
told-parts (Steal w is ∷ es) s h = told-parts es (after_entry s (Steal w is)) (split-and true (list_all tells es) h).1
told-parts (Shutdown w ∷ es) s h = told-parts es (after_entry s (Shutdown w)) (split-and true (list_all tells es) h).1
told-parts (Start w slot ∷ es) s h = absurd (differ h)
told-parts (Kill w ∷ es) s h = absurd (differ h)
told-parts (Over how ∷ es) s h = absurd (differ h)
told-parts (Ready w ∷ es) s h = absurd (differ h)
told-parts (Collected w g ∷ es) s h = absurd (differ h)
told-parts (Done w i u m o ∷ es) s h = absurd (differ h)
told-parts (Back w i ∷ es) s h = absurd (differ h)
told-parts (Finished w ∷ es) s h = absurd (differ h)
told-parts (Refused w t ∷ es) s h = absurd (differ h)
told-parts (Down w c o ∷ es) s h = absurd (differ h)
told-parts (NotStarted w ∷ es) s h = absurd (differ h)

-- a call of the mode

pub suits-by : (c : ModeCall) (change : Plan → Plan) (s : State) (b : Books) (k : Known) (stands : Plan → Type 0) → Calls c s b k (Before change stands) → Suits c change b.table stands
suits-by c change s b k stands a =
    let q = a.at.stands_for a.going in
    record {
      plan = q.0;
      stands_for = q.1.0;
      finds = subst (λ (p : Plan). Finds c p b.table) q.1.1 (subst (λ (d : Books). Finds c s.plan d.table) (sym a.at.books_are) a.called.finds);
    }

-- a call for which nothing changes of the plan
pub as-before : (c : ModeCall) (s : State) (b : Books) (k : Known) (stands : Plan → Type 0) → Calls c s b k stands → Calls c s b k (Before (λ p. p) stands)
as-before c s b k stands a = record {
  at = record { books_are = a.at.books_are; known_is = a.at.known_is; stands_for = λ h. (s.plan, (a.at.stands_for h, refl)) };
  going = a.going;
  called = a.called;
}

pub acted-call : (c : ModeCall) (change : Plan → Plan) (s : State) (b d : Books) (k j : Known) (none acts : List Entry) (table : Table) (old new : List Entry) (stands stands_now : Plan → Type 0)
    → none ≡ [] → Calls c s b k (Before change stands) → ((p : Plan) → stands p → Turned c (change p) b.table none table acts stands_now)
    → d ≡ record b { table = table; members = members_told acts b.members } → j ≡ record k { steal = steal_told acts k.steal } → new ≡ old ++ acts → Acted (acts_of c s) s d j old new stands_now
acted-call c change s b d k j none acts table old new stands stands_now z a t de je n =
    let q = a.at.stands_for a.going in
    let t1 : Turned c s.plan b.table none table acts stands_now = subst (λ (p : Plan). Turned c p b.table none table acts stands_now) (sym q.1.1) (t q.0 q.1.0) in
    let t2 : Turned c s.plan b.table [] table acts stands_now = subst (λ (es : List Entry). Turned c s.plan b.table es table acts stands_now) z t1 in
    let t3 : Turned c s.plan s.books.table [] table acts stands_now = subst (λ (x : Books). Turned c s.plan x.table [] table acts stands_now) a.at.books_are t2 in
    let m : State = after_entries s (acts_of c s) in
    let acts_are : acts ≡ acts_of c s = t3.acts_are in
    let table_is : table ≡ m.books.table = t3.table_is ∙ sym a.called.table in
    let from : Books → Books = λ x. record x { table = table; members = members_told acts x.members } in
    let at_table : Table → Books = λ x. record (s.books) { table = x; members = members_told acts s.books.members } in
    let at_acts : List Entry → Books = λ es. record (s.books) { table = m.books.table; members = members_told es s.books.members } in
    let knows : Known → Known = λ x. record x { steal = steal_told acts x.steal } in
    let knows_acts : List Entry → Known = λ es. record (known_plan s.plan) { steal = steal_told es s.plan.steal } in
    record {
      at = record {
        books_are = de ∙ ap from a.at.books_are ∙ ap at_table table_is ∙ ap at_acts acts_are ∙ sym (told-parts (acts_of c s) s (tells-acts c s)).0;
        known_is = je ∙ ap knows a.at.known_is ∙ ap knows_acts acts_are ∙ sym (told-parts (acts_of c s) s (tells-acts c s)).1;
        stands_for = λ h. subst stands_now (sym a.called.plan) t3.stands_for;
      };
      entries_are = n ∙ ap (λ (es : List Entry). old ++ es) acts_are;
    }

-- lists of outputs

pub acted-none : (s : State) (b : Books) (k : Known) (es : List Entry) (stands : Plan → Type 0) → At s b k stands → Acted [] s b k es es stands
acted-none s b k es stands a = record { at = a; entries_are = sym (append-nil es) }

pub acted-by : (xs ys : List Entry) (s : State) (b : Books) (k : Known) (es fs : List Entry) (stands : Plan → Type 0) → xs ≡ ys → Acted xs s b k es fs stands → Acted ys s b k es fs stands
acted-by xs ys s b k es fs stands e a = subst (λ zs. Acted zs s b k es fs stands) e a

pub acted-append : (xs ys : List Entry) (s : State) (b c : Books) (k j : Known) (e0 e1 e2 : List Entry) (st0 st : Plan → Type 0) → Acted xs s b k e0 e1 st0 → Acted ys (after_entries s xs) c j e1 e2 st
    → Acted (xs ++ ys) s c j e0 e2 st
acted-append xs ys s b c k j e0 e1 e2 st0 st x y = record {
  at = subst (λ v. At v c j st) (sym (after_entries-append s xs ys)) y.at;
  entries_are = y.entries_are ∙ ap (λ es. es ++ ys) x.entries_are ∙ append_assoc e0 xs ys;
}

-- after a stop a mode stands for nothing
pub stopped-at : (s : State) (b : Books) (k : Known) (stands : Plan → Type 0) → is_stopped b ≡ true → b ≡ s.books → k ≡ known_plan s.plan → At s b k stands
stopped-at s b k stands h e d = record { books_are = e; known_is = d; stands_for = λ q. absurd (differ (sym (ap is_stopped e ∙ q) ∙ h)) }

pub acted-shut : (s : State) (b c : Books) (k : Known) (es fs : List Entry) (stands : Plan → Type 0) → At s b k stands → c ≡ told_all (waiting b.members) b → fs ≡ es ++ shut_all b.members
    → Acted (shut_all s.books.members) s c k es fs stands
acted-shut s b c k es fs stands a t n =
    let ws : List ℕ = waiting s.books.members in
    let f : Books → Books = λ d. told_all (waiting d.members) d in
    let g : Books → List Entry = λ d. es ++ shut_all d.members in
    let e : c ≡ (in_books (told_all ws) s).books = t ∙ ap f a.books_are in
    record {
      at = subst (λ v. At v c k stands) (sym (told-moved ws s)) (record { books_are = e; known_is = a.known_is; stands_for = λ q. a.stands_for (sym (stop-told_all ws s.books) ∙ q) });
      entries_are = n ∙ ap g a.books_are;
    }

-- a rule: its entry, its own outputs, the closing
pub finish : (s : State) (e : Entry) (b c : Books) (k j : Known) (e0 e1 e2 e3 : List Entry) (stands stands_now : Plan → Type 0) → e1 ≡ e0 ++ e ∷ []
    → Acted (own_outputs s e (after_effect s e)) (after_effect s e) b k e1 e2 stands
    → ((u : State) → At u b k stands → DidClosing u c j e2 e3 stands_now) → Ruled s e c j e0 e3 stands_now
finish s e b c k j e0 e1 e2 e3 stands stands_now n a f =
    let own : List Entry = own_outputs s e (after_effect s e) in
    ruled s e c j e0 e2 e3 stands_now (f (after_entries (after_effect s e) own) a.at) (a.entries_are ∙ ap (λ es. es ++ own) n ∙ append_assoc e0 (e ∷ []) own)

pub choose-second : (q r : Bool) (xs ys zs : List Entry) → q ≡ false → r ≡ true → ys ≡ (if q then xs else if r then ys else zs)
choose-second false true xs ys zs h k = refl
choose-second false false xs ys zs h k = cc
choose-second true r xs ys zs h k = cc

pub choose-third : (q r : Bool) (xs ys zs : List Entry) → q ≡ false → r ≡ false → zs ≡ (if q then xs else if r then ys else zs)
choose-third false false xs ys zs h k = refl
choose-third false true xs ys zs h k = cc
choose-third true r xs ys zs h k = cc

pub choose-no : (q : Bool) (xs ys : List Entry) → q ≡ false → ys ≡ (if q then xs else ys)
choose-no false xs ys h = refl
choose-no true xs ys h = cc

pub choose-yes : (q : Bool) (xs ys : List Entry) → q ≡ true → xs ≡ (if q then xs else ys)
choose-yes true xs ys h = refl
choose-yes false xs ys h = cc

pub choose-once : (q : Bool) (xs ys : List Entry) → (if q then [] else ys) ≡ (if q then [] else if q then xs else ys)
choose-once true xs ys = refl
choose-once false xs ys = refl

-- each input

pub done-at : (s : State) (w i : ℕ) (o : Outcome) (ms : ℕ) (out : List ℕ) (item : ℕ) (b c : Books) (k : Known) (stands : Plan → Type 0) → At s b k stands → items_named (slot_of w s.books) (i ∷ []) s.plan ≡ item ∷ []
    → c ≡ done_books w (item ∷ []) o b → At (after_effect s (Done w i o ms out)) c k stands
done-at s w i o ms out item b c k stands a named e =
    let f : Books → Books = λ d. done_books w (item ∷ []) o d in
    let g : List ℕ → Books = λ is. done_books w is o s.books in
    record { books_are = e ∙ ap f a.books_are ∙ ap g (sym named); known_is = a.known_is; stands_for = λ h. a.stands_for (done-unstopped s w i o ms out h) }

pub gone-left-at : (s : State) (w : ℕ) (b c : Books) (k : Known) (stands : Plan → Type 0) → At s b k stands → c ≡ (after_effect (record s { books = b }) (Finished w)).books → At (after_effect s (Finished w)) c k stands
gone-left-at s w b c k stands a e =
    let f : Books → Books = λ d. (after_effect (record s { books = d }) (Finished w)).books in
    record { books_are = e ∙ ap f a.books_are; known_is = a.known_is; stands_for = a.stands_for }

pub refused-at : (s : State) (w : ℕ) (text : List ℕ) (b c : Books) (k : Known) (stands : Plan → Type 0) → At s b k stands → c ≡ (after_effect (record s { books = b }) (Refused w text)).books → At (after_effect s (Refused w text)) c k stands
refused-at s w text b c k stands a e =
    let f : Books → Books = λ d. (after_effect (record s { books = d }) (Refused w text)).books in
    record { books_are = e ∙ ap f a.books_are; known_is = a.known_is; stands_for = λ h. a.stands_for (unstopped-before s.books.stop (Some (CollectError w)) h) }

pub is_stopped-by : (q : Option RunStop) (how : RunStop) → is_some (or_stop q (Some how)) ≡ true
is_stopped-by None how = refl
is_stopped-by (Some x) how = refl

choose-stop : (q r : Bool) (ys : List Entry) → r ≡ true → (if q then [] else ys) ≡ (if q then [] else if r then ys else [])
choose-stop true r ys h = refl
choose-stop false true ys h = refl
choose-stop false false ys h = cc

pub refused-outs : (s : State) (w : ℕ) (text : List ℕ) (before : Bool) → before ≡ is_stopped s.books
    → (if before then [] else shut_all (after_effect s (Refused w text)).books.members) ≡ own_outputs s (Refused w text) (after_effect s (Refused w text))
refused-outs s w text before h =
    let t : State = after_effect s (Refused w text) in
    let f : Bool → List Entry = λ q. if q then [] else shut_all t.books.members in
    ap f h ∙ choose-stop (is_stopped s.books) (is_stopped t.books) (shut_all t.books.members) (is_stopped-by s.books.stop (CollectError w))

-- the mode stands for the plan as it was before the steal was closed
pub back-at : (s : State) (w : ℕ) (is : List ℕ) (items : List ℕ) (b c : Books) (k j : Known) (stands : Plan → Type 0) → At s b k stands → items ≡ items_named (slot_of w s.books) is s.plan
    → c ≡ on_table (given_back w items) b → j ≡ record k { steal = None } → At (after_back w is s) c j (Before (λ p. record p { steal = None }) stands)
back-at s w is items b c k j stands a named e d =
    let f : Books → Books = λ x. on_table (given_back w items) x in
    let g : List ℕ → Books = λ xs. on_table (given_back w xs) s.books in
    let h : Known → Known = λ x. record x { steal = None } in
    record { books_are = e ∙ ap f a.books_are ∙ ap g named; known_is = d ∙ ap h a.known_is; stands_for = λ q. (s.plan, (a.stands_for q, refl)) }

-- the mode stands for the plan as it was before what the dead worker held came back
pub down-at : (s : State) (w rest : ℕ) (retry : Bool) (b c : Books) (k j : Known) (stands : Plan → Type 0) → At s b k stands → retry ≡ is_retry w b → rest ≡ length (drop 1 (held w b.table)) → c ≡ down_books w retry b
    → j ≡ record k { steal = steal_without w k.steal } → At (after_down w s) c j (Before (death_plan w retry rest c.table.pool) stands)
down-at s w rest retry b c k j stands a r n e d =
    let f : Books → Books = λ x. down_books w (is_retry w x) x in
    let g : Known → Known = λ x. record x { steal = steal_without w x.steal } in
    let plans : Books → Plan = λ x. down_plan w (retried_item (is_retry w x) (held w x.table)) (drop 1 (held w x.table)) s.plan in
    let plan : death_plan w retry rest c.table.pool s.plan ≡ plans s.books =
    ap (λ (x : Books). death_plan w retry rest x.table.pool s.plan) e ∙ plan-by-pool w retry rest b s.plan r n
    ∙ ap (λ q. down_plan w (retried_item q (held w b.table)) (drop 1 (held w b.table)) s.plan) r ∙ ap plans a.books_are in
    record {
      books_are = e ∙ ap (λ q. down_books w q b) r ∙ ap f a.books_are;
      known_is = d ∙ ap g a.known_is;
      stands_for = λ h. (s.plan, (a.stands_for (down-unstopped w s h), sym plan));
    }

-- a death takes no stop back
pub still-stopped : (w : ℕ) (retry : Bool) (b : Books) → is_stopped b ≡ true → is_stopped (down_books w retry b) ≡ true
still-stopped w retry b h = still b.stop _ h
  where
    still : (a how : Option RunStop) → is_some a ≡ true → is_some (or_stop a how) ≡ true
    still None how h = absurd (differ h)
    still (Some x) how h = refl

-- where no stop came the mode may hear of the death
pub may-die : (s : State) (e : Entry) (w : ℕ) (b : Books) (k : Known) (stands : Plan → Type 0) → Comes e s b k stands → after_effect s e ≡ after_down w s → is_stopped (after_down w s).books ≡ false → MayDie (after_down w s) stands
may-die s e w b k stands a m h = record {
  going = h;
  hears = λ q. subst (λ (u : State). Called Died u) m (died-called s e a.reached a.follows (ap (λ (u : State). u.books.shared) m ∙ q));
  stays = λ q. subst stands (sym (plan-unshared s w a.reached q)) (a.at.stands_for (down-unstopped w s h));
}

pub acted-kill : (s : State) (w : ℕ) (b : Books) (k : Known) (es fs : List Entry) (st : Plan → Type 0) → At s b k st → fs ≡ es ++ Kill w ∷ [] → Acted (Kill w ∷ []) s b k es fs st
acted-kill s w b k es fs st a n = record { at = a; entries_are = n }

pub acted-start : (s : State) (w slot : ℕ) (b c : Books) (k : Known) (es fs : List Entry) (st : Plan → Type 0) → At s b k st → c ≡ begun_at w slot b → fs ≡ es ++ Start w slot ∷ [] → Acted (Start w slot ∷ []) s c k es fs st
acted-start s w slot b c k es fs st a e n =
    let f : Books → Books = λ d. begun_at w slot d in
    record { at = record { books_are = e ∙ ap f a.books_are; known_is = a.known_is; stands_for = a.stands_for }; entries_are = n }
