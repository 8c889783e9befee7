-- An order is put at the end of the line.
use Rattle.std.proofs.Common.{◌≡◌, ℕ, ◌≤◌, List, [], ◌∷◌, ◌++◌, take, length, map, Bool, true, false, not, ◌&&◌, ◌||◌, refl, ap, sym, ◌∙◌, arith}
use Rattle.std.specs.Prelude.{nat_lt}
use Rattle.std.specs.List.{list_all, list_any}
use Rattle.std.proofs.lemmas.Bool.Decides.{nat_tests}
use Rattle.std.proofs.lemmas.List.{append-nil, map-append, take-append-le}
use Rattle.std.proofs.lemmas.List.Folds.{list_any-append}
use Rattle.xd_journal.specs.declared.news.What.{What}
use Rattle.xd_commands.specs.declared.order.Order.{Order}
use Rattle.xd_commands.specs.declared.order.Order.TheVariants.{Shutdown}
use Rattle.xd_run.specs.Numbers.{among, all_distinct}
use Rattle.xd_worker_tests.specs.declared.line_entry.LineEntry.{LineEntry}
use Rattle.xd_worker_tests.specs.declared.line_entry.LineEntry.TheVariants.{Test, Mark}
use Rattle.xd_worker_tests.specs.Line.{FunctionCall, can_give, has_test}
use Rattle.xd_run_laws.proofs.Logic.{split-and}
use Rattle.xd_system.specs.LineGiven.{are_new, asked_back, line_given, is_shutdown, steals_asked, tests_given}
use Rattle.xd_system.specs.Own.{answers_in, ends_in}
use Rattle.xd_system.proofs.Call.{IsServing, mark_of}
use Rattle.xd_system.proofs.Lines.{can_give-new, dealt-further, distinct-more, has_test-mapped, steals-append}
use Rattle.xd_system.proofs.Lists.{all-append, count-taken, drop-longer}

pub no-mark : (orders : List Order) → list_any is_shutdown orders ≡ false → mark_of orders ≡ []
no-mark orders h = rw h refl

pub one-mark : (orders : List Order) → list_any is_shutdown orders ≡ true → mark_of orders ≡ Mark ∷ []
one-mark orders h = rw h refl

pub shut-more : (orders : List Order) (o : Order) → list_any is_shutdown orders ≡ false
    → list_any is_shutdown (orders ++ o ∷ []) ≡ is_shutdown o
shut-more orders o h = list_any-append is_shutdown orders (o ∷ [])
    ∙ ap (λ (b : Bool). b || (is_shutdown o || false)) h ∙ none (is_shutdown o)
  where
    none : (b : Bool) → (b || false) ≡ b
    none true = refl
    none false = refl

new-low : (size : ℕ) (line ns : List ℕ) → list_all (λ n. nat_lt n size && not (among n line)) ns ≡ true
    → list_all (λ n. nat_lt n size) ns ≡ true
new-low size line [] h = refl
new-low size line (n ∷ ns) h = grind (arith, nat_tests, new-low size line ns, h)

module _ (size : ℕ) (orders : List Order) (o : Order) (ns : List ℕ) (news : List What) where
  abbrev more : List Order
  more = orders ++ o ∷ []

  abbrev line : List ℕ
  line = line_given size [] orders (answers_in news)

  abbrev longer : List ℕ
  longer = line_given size [] more (answers_in news)

  longer-is : tests_given size o ≡ ns → length (answers_in news) ≡ length (steals_asked orders) → longer ≡ line ++ ns
  longer-is gives h = dealt-further size orders (o ∷ []) (answers_in news) (omega (arith, h))
      ∙ ap (λ (l : List ℕ). line ++ l) (append-nil (tests_given size o) ∙ gives)

  -- the tests of an order come to the end of the line
  pub put : (c : FunctionCall) → tests_given size o ≡ ns → asked_back o ≡ [] → is_shutdown o ≡ false
      → IsServing size orders news c → list_any is_shutdown orders ≡ false → are_new size line ns ≡ true
      → IsServing size more news (record c { line = c.line ++ map Test ns })
  put c gives asks quiet s unshut fresh =
      let k = length (ends_in news) in
      let is = longer-is gives s.answered in
      let none = no-mark orders unshut in
      let still = no-mark more (shut-more orders o unshut ∙ quiet) in
      let fit : k ≤ length line = count-taken k line (ap length s.ended_first) in
      let a = split-and (list_all (λ n. nat_lt n size && not (among n line)) ns) (all_distinct ns) fresh in
      record {
        phase = s.phase;
        size_is = s.size_is;
        line_is = ap (λ (l : List LineEntry). l ++ map Test ns) (s.line_is ∙ ap (λ (m : List LineEntry). map Test line ++ m) none ∙ append-nil (map Test line))
            ∙ sym (map-append Test line ns) ∙ ap (λ (l : List ℕ). map Test l) (sym is)
            ∙ sym (append-nil (map Test longer)) ∙ ap (λ (m : List LineEntry). map Test longer ++ m) (sym still);
        answered = s.answered
            ∙ ap length (sym (steals-append orders (o ∷ []) ∙ ap (λ (l : List (List ℕ)). steals_asked orders ++ (l ++ [])) asks ∙ append-nil (steals_asked orders)));
        ended_is = s.ended_is;
        ended_first = ap (λ (l : List ℕ). take k l) is ∙ take-append-le k line ns fit ∙ s.ended_first;
        distinct = ap all_distinct is ∙ distinct-more line ns size s.distinct fresh;
        within = ap (list_all (λ n. nat_lt n size)) is
            ∙ all-append (λ n. nat_lt n size) line ns s.within (new-low size line ns a.0);
        log_is = record {
          opened = λ r. (let q = s.log_is.opened r in (q.0, (q.1.0, drop-longer c.ended c.line (map Test ns) q.1.0 q.1.1, q.1.2), q.2));
          closed = s.log_is.closed;
          earlier = s.log_is.earlier;
        };
        collected = s.collected;
        unfinished = s.unfinished;
      }

-- a mark comes to the end of the line
pub put-mark : (size : ℕ) (orders : List Order) (news : List What) (c : FunctionCall) → IsServing size orders news c
    → list_any is_shutdown orders ≡ false
    → IsServing size (orders ++ Shutdown ∷ []) news (record c { line = c.line ++ Mark ∷ [] })
put-mark size orders news c s unshut =
    let D = line_given size [] orders (answers_in news) in
    let is : line_given size [] (orders ++ Shutdown ∷ []) (answers_in news) ≡ D = dealt-further size orders (Shutdown ∷ []) (answers_in news) (let h = s.answered in omega (arith, h))
    ∙ append-nil D in
    let mark = one-mark (orders ++ Shutdown ∷ []) (shut-more orders Shutdown unshut) in
    record {
      phase = s.phase;
      size_is = s.size_is;
      line_is = ap (λ (l : List LineEntry). l ++ Mark ∷ []) (s.line_is ∙ ap (λ (m : List LineEntry). map Test D ++ m) (no-mark orders unshut) ∙ append-nil (map Test D))
          ∙ ap (λ (l : List ℕ). map Test l ++ Mark ∷ []) (sym is)
          ∙ ap (λ (m : List LineEntry). map Test (line_given size [] (orders ++ Shutdown ∷ []) (answers_in news)) ++ m) (sym mark);
      answered = s.answered
          ∙ ap length (sym (steals-append orders (Shutdown ∷ []) ∙ append-nil (steals_asked orders)));
      ended_is = s.ended_is;
      ended_first = ap (λ (l : List ℕ). take (length (ends_in news)) l) is ∙ s.ended_first;
      distinct = ap all_distinct is ∙ s.distinct;
      within = ap (list_all (λ n. nat_lt n size)) is ∙ s.within;
      log_is = record {
        opened = λ r. (let q = s.log_is.opened r in (q.0, (q.1.0, drop-longer c.ended c.line (Mark ∷ []) q.1.0 q.1.1, q.1.2), q.2));
        closed = s.log_is.closed;
        earlier = s.log_is.earlier;
      };
      collected = s.collected;
      unfinished = s.unfinished;
    }

-- new tests can be given
pub can_give-line : (size : ℕ) (orders : List Order) (news : List What) (c : FunctionCall) (ns : List ℕ)
    → IsServing size orders news c → list_any is_shutdown orders ≡ false
    → are_new size (line_given size [] orders (answers_in news)) ns ≡ true → can_give c.size c.line ns ≡ true
can_give-line size orders news c ns s unshut fresh =
    let D = line_given size [] orders (answers_in news) in
    let same : (m : ℕ) → has_test m c.line ≡ among m D =
    λ m. ap (has_test m) (s.line_is ∙ ap (λ (l : List LineEntry). map Test D ++ l) (no-mark orders unshut) ∙ append-nil (map Test D))
    ∙ has_test-mapped m D in
    ap (λ (z : ℕ). can_give z c.line ns) s.size_is ∙ can_give-new size c.line D ns same fresh
