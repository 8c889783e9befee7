-- The first news of a worker fit, and the call that begins to serve.
use Rattle.std.proofs.Common.{◌≡◌, ℕ, List, [], ◌∷◌, ◌++◌, length, true, refl, arith}
use Rattle.std.specs.Prelude.{Some, None}
use Rattle.xd_journal.specs.declared.news.What.{What}
use Rattle.xd_journal.specs.declared.news.What.TheVariants as what
use Rattle.xd_commands.specs.declared.order.Order.{Order}
use Rattle.xd_worker_tests.specs.declared.ask.Ask.TheVariants.{Tell}
use Rattle.xd_worker_tests.specs.Line.{FunctionCall}
use Rattle.xd_worker_tests.specs.Turns.{CallTurn, serving_suite}
use Rattle.xd_run_laws.proofs.Logic.{differ}
use Rattle.xd_system.specs.Tells.{are_suite_ids}
use Rattle.xd_system.proofs.Call.{AllFit, IsServingTurn}
use Rattle.xd_system.proofs.Told.{fit-more}

pub fit-none : (size : ℕ) (all : List Order) → AllFit size all []
fit-none size all before x after is = absurd (empty before is)
  where
    empty : (bs : List What) → [] ≡ bs ++ x ∷ after → ⊥
    empty [] e = cc
    empty (b ∷ bs) e = cc

pub fit-ready : (size : ℕ) (all : List Order) → AllFit size all (what.Ready ∷ [])
fit-ready size all = fit-more size all [] what.Ready (fit-none size all) refl

pub fit-collected : (size : ℕ) (all : List Order) (ids : List (List ℕ)) → are_suite_ids ids ≡ true
    → AllFit size all (what.Ready ∷ what.Collected ids ∷ [])
fit-collected size all ids h = fit-more size all (what.Ready ∷ []) (what.Collected ids) (fit-ready size all) (refl, h)

pub fit-refused : (size : ℕ) (all : List Order) (text : List ℕ)
    → AllFit size all (what.Ready ∷ what.Closed (Some text) ∷ [])
fit-refused size all text = fit-more size all (what.Ready ∷ []) (what.Closed (Some text)) (fit-ready size all) refl

-- the call begins to serve
abbrev pub begun : FunctionCall → List (List ℕ) → CallTurn
begun c ids = record { call = serving_suite (length ids) c; asks = [] ++ Tell (what.Collected ids) ∷ []; run = None }

pub begins-serving : (size : ℕ) (c : FunctionCall) (ids : List (List ℕ)) → length ids ≡ size
    → are_suite_ids ids ≡ true → IsServingTurn size [] (what.Ready ∷ []) (begun c ids)
begins-serving size c ids e h = record {
  serves = record {
    phase = refl;
    size_is = e;
    line_is = refl;
    answered = refl;
    ended_is = refl;
    ended_first = refl;
    distinct = refl;
    within = refl;
    log_is = record { opened = λ r. absurd cc; closed = λ r. (refl, omega arith); earlier = λ r n k. absurd (differ k) };
    collected = refl;
    unfinished = refl;
  };
  fit = λ all b m. fit-collected size all ids h;
}
