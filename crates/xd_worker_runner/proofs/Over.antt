-- What a runner started is over.
use Rattle.std.proofs.Common.{◌≡◌, ℕ, List, [], ◌∷◌, ◌++◌, Option, Some, None, map, refl, sym, subst, inl, inr}
use Rattle.std.specs.Prelude.{◌⊎◌, All, IsSome}
use Rattle.std.proofs.lemmas.List.Elements.{All-cons, All-nil, All-push}
use Rattle.xd_edge.specs.Children.{ChildRun}
use Rattle.xd_journal.specs.declared.entry.Outcome.{Outcome}
use Rattle.xd_reader.specs.declared.news.LinkNews.{LinkNews}
use Rattle.xd_child.specs.Ending.{outcome_of}
use Rattle.xd_worker_runner.specs.Orders.{EndsCut, EndsWell, IsLeft, Mails, Order, RunsOrders, ProgramsSeen, ran_of}
use Rattle.xd_worker_runner.specs.Programs.{AreOver, AreRun, CameTo, Ran}
use Rattle.xd_worker_runner.proofs.Taking.{added_more}

abbrev IsOver : ChildRun → Type 0
IsOver c = IsSome (outcome_of c.fate)

some_by : (o : Option Outcome) (x : Outcome) → o ≡ Some x → IsSome o
some_by (Some y) x e = refl
some_by None x e = cc

all_over : (children : List ChildRun) (ran : List Ran) → map (λ c. outcome_of c.fate) children ≡ map (λ r. Some r.outcome) ran → All IsOver children
all_over [] ran e = All-nil IsOver
all_over (c ∷ children) [] e = cc
all_over (c ∷ children) (r ∷ ran) e = All-cons IsOver c children (some_by (outcome_of c.fate) r.outcome cc) (all_over children ran cc)

-- programs that came to an outcome each
ran_over : (commands : List (List (List ℕ))) (ran : List Ran) (old new : Option (List ChildRun)) → AreRun commands ran old new → AreOver old new
ran_over commands ran old new r = record { children = r.children; over = all_over r.children ran r.outcomes_are; added = r.added }

-- and one more
one_over : (order : Order) (output : List ℕ) (outcome : Outcome) (old mid new : Option (List ChildRun)) → AreOver old mid → CameTo order output outcome mid new → AreOver old new
one_over order output outcome old mid new a c = record {
  children = a.children ++ c.run ∷ [];
  over = All-push IsOver a.children c.run a.over (some_by (outcome_of c.run.fate) outcome c.outcome_is);
  added = added_more a.children c.run old mid new a.added c.added;
}

pub runs_over : (m0 m1 : Mails) (s0 s1 : ProgramsSeen) (before after : List LinkNews) → RunsOrders m0 m1 s0 s1 before after → AreOver s0.runs s1.runs
runs_over m0 m1 s0 s1 before after r = by r.ends
  where
    first : AreOver s0.runs r.mid.runs
    first = ran_over r.orders (map ran_of r.told) s0.runs r.mid.runs r.runs.run

    still : s1 ≡ r.mid → AreOver s0.runs s1.runs
    still e = subst (λ (s : ProgramsSeen). AreOver s0.runs s.runs) (sym e) first

    cut : (order : Order) (pieces : List (List ℕ)) → ((pieces ≡ []) × (s1 ≡ r.mid)) ⊎ IsLeft order pieces r.mid.runs s1.runs → AreOver s0.runs s1.runs
    cut order pieces (inl e) = still e.1
    cut order pieces (inr l) = one_over order _ l.1 s0.runs r.mid.runs s1.runs first l.2

    by : EndsWell r.orders m0 m1 r.mid s1 r.sent after ⊎ EndsCut r.orders m0 m1 r.mid s1 r.sent after → AreOver s0.runs s1.runs
    by (inl e) = still e.same
    by (inr e) = cut e.order e.pieces e.left
