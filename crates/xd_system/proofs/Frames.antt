-- An entry that is none of the worker's, and leaves what is kept of it.
use Rattle.std.proofs.Common.{◌≡◌, ℕ, ◌≤◌, List, [], ◌∷◌, ◌++◌, take, drop, length, true, false, refl, ap, sym, ◌∙◌, subst, arith}
use Rattle.std.specs.List.{list_any}
use Rattle.std.proofs.lemmas.List.{append-nil}
use Rattle.std.proofs.lemmas.List.Elements.{filter_map-append}
use Rattle.xd_journal.specs.declared.entry.Entry.{Entry}
use Rattle.xd_commands.specs.declared.order.Order.{Order}
use Rattle.xd_commands.specs.declared.order.Order.TheVariants.{RunTests, RunAll, Steal, Shutdown}
use Rattle.xd_run.specs.Numbers.{all_among, among}
use Rattle.xd_run.specs.Plan.{items_named}
use Rattle.xd_run.specs.Sharing.{State}
use Rattle.xd_run.specs.Table.{held, in_rota}
use Rattle.xd_run.specs.Workers.{is_shut, slot_of}
use Rattle.xd_run_laws.proofs.Counts.{among_of-all_among, all_among-of}
use Rattle.xd_run_laws.proofs.Logic.{differ}
use Rattle.xd_system.specs.LineGiven.{are_fair, line_given, is_shutdown, marks_last, steals_asked}
use Rattle.xd_system.specs.Own.{answer_in, answers_by, ends_by, test_ended_in, order_told, told_to}
use Rattle.xd_system.proofs.Deal.{Deal, asked_of, is_quiet, line_at, size_at}
use Rattle.std.proofs.Math.Seq.{take-nil, drop-nil}
use Rattle.xd_system.proofs.Lists.{none-of_length}
use Rattle.xd_system.proofs.Named.{named-none}

-- the own parts are as they were
pub record Apart (w : ℕ) (es fs : List Entry) : Type 0 where
  pub told : told_to w fs ≡ told_to w es
  pub answers : answers_by w fs ≡ answers_by w es
  pub ended : ends_by w fs ≡ ends_by w es

-- an entry that is none of the worker's
pub apart-one : (w : ℕ) (es : List Entry) (e : Entry) → told_to w (e ∷ []) ≡ [] → answers_by w (e ∷ []) ≡ []
    → ends_by w (e ∷ []) ≡ [] → Apart w es (es ++ e ∷ [])
apart-one w es e a b c = record {
  told = filter_map-append (order_told w) es (e ∷ []) ∙ ap (λ (l : List Order). told_to w es ++ l) a
      ∙ append-nil (told_to w es);
  answers = filter_map-append (answer_in w) es (e ∷ []) ∙ ap (λ (l : List (List ℕ)). answers_by w es ++ l) b
      ∙ append-nil (answers_by w es);
  ended = filter_map-append (test_ended_in w) es (e ∷ []) ∙ ap (λ (l : List ℕ). ends_by w es ++ l) c
      ∙ append-nil (ends_by w es);
}

-- what is kept of the worker stays
pub record Frame (w : ℕ) (s t : State) : Type 0 where
  pub held : held w t.books.table ≡ held w s.books.table
  pub names : (ns : List ℕ) → items_named (slot_of w t.books) ns t.plan ≡ items_named (slot_of w s.books) ns s.plan
  pub size : size_at w t ≡ size_at w s
  pub reported : (x : ℕ) → among x s.books.table.reported ≡ true → among x t.books.table.reported ≡ true
  pub shut : is_shut w t.books ≡ is_shut w s.books
  pub asked : asked_of w t.plan.steal ≡ asked_of w s.plan.steal
  pub rota : in_rota w t.books.table ≡ false → in_rota w s.books.table ≡ false
  pub shared : t.books.shared ≡ false → s.books.shared ≡ false

pub deal-same : (w : ℕ) (s t : State) (es fs : List Entry) → Apart w es fs → Frame w s t → Deal w s es → Deal w t fs
deal-same w s t es fs a f d =
    let line : line_at w t fs ≡ line_at w s es = rw (a.told, a.answers, f.size) refl in
    record {
      held_is = f.held ∙ d.held_is ∙ sym (f.names _)
          ∙ ap (λ (l : List ℕ). items_named (slot_of w t.books) (drop (length (ends_by w es)) l) t.plan) (sym line)
          ∙ ap (λ (x : List ℕ). items_named (slot_of w t.books) (drop (length x) (line_at w t fs)) t.plan) (sym a.ended);
      ended_first = ap (λ (x : List ℕ). take (length x) (line_at w t fs)) a.ended
          ∙ ap (take (length (ends_by w es))) line ∙ d.ended_first ∙ sym a.ended;
      reported = ap (λ (x : List ℕ). all_among (items_named (slot_of w t.books) x t.plan) t.books.table.reported) a.ended
          ∙ ap (λ (l : List ℕ). all_among l t.books.table.reported) (f.names (ends_by w es))
          ∙ all_among-of _ t.books.table.reported (λ x h. f.reported x (among_of-all_among x _ s.books.table.reported d.reported h));
      fair = rw (a.told, a.answers, f.size) d.fair;
      last = rw a.told d.last;
      marks = f.shut ∙ d.marks ∙ ap (list_any is_shutdown) (sym a.told);
      open_steal = f.asked ∙ d.open_steal ∙ rw (a.told, a.answers) refl;
      answered = rw (a.told, a.answers) d.answered;
      early = λ r. ap is_quiet a.told ∙ d.early (f.rota r);
      unshared = λ r. ap is_quiet a.told ∙ d.unshared (f.shared r);
    }

-- where nothing but a Shutdown was told, nothing is held, and nothing came

pub quiet-steals : (os : List Order) → is_quiet os ≡ true → steals_asked os ≡ []
quiet-steals [] h = refl
quiet-steals (Shutdown ∷ os) h = quiet-steals os h
quiet-steals (RunTests ns ∷ os) h = absurd (differ h)
quiet-steals (RunAll ∷ os) h = absurd (differ h)
quiet-steals (Steal ns ∷ os) h = absurd (differ h)

pub quiet-line : (size : ℕ) (os : List Order) (backs : List (List ℕ)) → is_quiet os ≡ true
    → line_given size [] os backs ≡ []
quiet-line size [] backs h = refl
quiet-line size (Shutdown ∷ os) backs h = quiet-line size os backs h
quiet-line size (RunTests ns ∷ os) backs h = absurd (differ h)
quiet-line size (RunAll ∷ os) backs h = absurd (differ h)
quiet-line size (Steal ns ∷ os) backs h = absurd (differ h)

pub quiet-fair : (size : ℕ) (os : List Order) (backs : List (List ℕ)) → is_quiet os ≡ true
    → are_fair size [] os backs ≡ true
quiet-fair size [] backs h = refl
quiet-fair size (Shutdown ∷ os) backs h = quiet-fair size os backs h
quiet-fair size (RunTests ns ∷ os) backs h = absurd (differ h)
quiet-fair size (RunAll ∷ os) backs h = absurd (differ h)
quiet-fair size (Steal ns ∷ os) backs h = absurd (differ h)

-- a state of the worker in which it holds nothing
pub record Bare (w : ℕ) (t : State) (told : List Order) : Type 0 where
  pub held : held w t.books.table ≡ []
  pub marks : is_shut w t.books ≡ list_any is_shutdown told
  pub asked : asked_of w t.plan.steal ≡ []

pub deal-bare : (w : ℕ) (t : State) (es : List Entry) → is_quiet (told_to w es) ≡ true
    → marks_last (told_to w es) ≡ true → answers_by w es ≡ [] → ends_by w es ≡ [] → Bare w t (told_to w es)
    → Deal w t es
deal-bare w t es q l a n b =
    let line : line_at w t es ≡ [] = quiet-line (size_at w t) (told_to w es) (answers_by w es) q in
    record {
      held_is = b.held ∙ sym (ap (λ (k : List ℕ). items_named (slot_of w t.books) (drop (length (ends_by w es)) k) t.plan) line ∙ ap (λ (k : List ℕ). items_named (slot_of w t.books) k t.plan) (drop-nil (length (ends_by w es))) ∙ named-none (slot_of w t.books) t.plan);
      ended_first = ap (take (length (ends_by w es))) line ∙ take-nil (length (ends_by w es)) ∙ sym n;
      reported = ap (λ (k : List ℕ). all_among (items_named (slot_of w t.books) k t.plan) t.books.table.reported) n
          ∙ ap (λ (k : List ℕ). all_among k t.books.table.reported) (named-none (slot_of w t.books) t.plan);
      fair = quiet-fair (size_at w t) (told_to w es) (answers_by w es) q;
      last = l;
      marks = b.marks;
      open_steal = b.asked ∙ sym (ap (drop (length (answers_by w es))) (quiet-steals (told_to w es) q) ∙ drop-nil (length (answers_by w es)));
      answered = subst (λ (k : List (List ℕ)). length k ≤ length (steals_asked (told_to w es))) (sym a) (omega arith);
      early = λ r. q;
      unshared = λ r. q;
    }

-- what such a deal says
pub record Quiet (w : ℕ) (s : State) (es : List Entry) : Type 0 where
  pub held : held w s.books.table ≡ []
  pub answers : answers_by w es ≡ []
  pub ended : ends_by w es ≡ []
  pub asked : asked_of w s.plan.steal ≡ []

pub quiet-deal : (w : ℕ) (s : State) (es : List Entry) → Deal w s es → is_quiet (told_to w es) ≡ true → Quiet w s es
quiet-deal w s es d q =
    let line : line_at w s es ≡ [] = quiet-line (size_at w s) (told_to w es) (answers_by w es) q in
    let none : steals_asked (told_to w es) ≡ [] = quiet-steals (told_to w es) q in
    let answers : answers_by w es ≡ [] = none-of_length (answers_by w es) (subst (λ (k : List (List ℕ)). length (answers_by w es) ≤ length k) none d.answered) in
    record {
      held = d.held_is
          ∙ ap (λ (k : List ℕ). items_named (slot_of w s.books) (drop (length (ends_by w es)) k) s.plan) line
          ∙ ap (λ (k : List ℕ). items_named (slot_of w s.books) k s.plan) (drop-nil (length (ends_by w es)))
          ∙ named-none (slot_of w s.books) s.plan;
      answers = answers;
      ended = sym d.ended_first ∙ ap (take (length (ends_by w es))) line ∙ take-nil (length (ends_by w es));
      asked = d.open_steal ∙ ap (drop (length (answers_by w es))) none ∙ drop-nil (length (answers_by w es));
    }
