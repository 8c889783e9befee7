-- Orders that are taken and run one after another.
use Rattle.std.proofs.Common.{◌≡◌, ℕ, zero, suc, ◌+◌, ◌<◌, ◌≤◌, ◌-◌, ◌^◌, List, [], ◌∷◌, ◌++◌, length, Option, Some, None, map, refl, sym, ap, ◌∙◌, subst, append_assoc, arith, inl, inr, Result, Ok, Err, true, false}
use Rattle.std.specs.Prelude.{option_map, slice_get, slice_set, OnErr, OnOk, is_err}
use Rattle.std.proofs.lemmas.List.{append-nil, map-append}
use Rattle.std.proofs.lemmas.List.Elements.{All-nil, All-push}
use Rattle.std.proofs.lemmas.List.Sums.{sum_by-append}
use Rattle.xd_edge.specs.Children.{ChildRun, AddsRun, whole_output}
use Rattle.xd_edge.specs.Faults.{RoseBy}
use Rattle.xd_journal.specs.declared.entry.Outcome.{Outcome}
use Rattle.xd_post.specs.Post.{Ring}
use Rattle.xd_post.specs.Mails.{TakesAt}
use Rattle.xd_reader.specs.declared.news.LinkNews.{LinkNews}
use Rattle.xd_reader.specs.declared.news.LinkNews.TheVariants.{End}
use Rattle.xd_reader.specs.declared.news.LinkStop.TheVariants.{OutOfMemory}
use Rattle.xd_child.specs.Ending.{fault_count, outcome_of}
use Rattle.xd_worker_runner.specs.Orders.{ArePieces, IsCommand, Mails, Order, Runs, RunsOrders, ProgramsSeen, TakesOf, ToldOfProgram, news_of_programs, ran_of, told_news}
use Rattle.xd_worker_runner.specs.Programs.{AreRun, CameTo, Ran, faults_of}
use Rattle.xd_worker_runner.specs.inner.Running.{RunsOne, RunsPart}

-- ---- orders that are taken of a desk with one inbox

abbrev mail : Ring → List Order → Option (Ring × List Order)
mail ring got = Some (ring, got)

abbrev one : Ring → List Order → Mails
one ring got = mail ring got ∷ []

inside : (p q : Ring × List Order) → Some (Some p) ≡ Some (Some q) → p ≡ q
inside p q e = cc

-- an item was taken of the one inbox, since there is no other
of_the_one : (ring r : Ring) (got g : List Order) (number : ℕ) (order : Order) → slice_get (one ring got) number ≡ Some (mail r g) → slice_set (one ring got) number (mail r (g ++ order ∷ [])) ≡ one ring (got ++ order ∷ [])
of_the_one ring r got g zero order e =
    let p : Ring × List Order = (ring, got) in
    let q : Ring × List Order = (r, g) in
    let same : p ≡ q = inside p q e in
    ap (λ (x : Ring × List Order). one x.0 (x.1 ++ order ∷ [])) (sym same)
of_the_one ring r got g (suc n) order e = cc

pub takes_none : (mails : Mails) → TakesOf [] mails mails
takes_none mails ring got e = e ∙ ap (one ring) (sym (append-nil got))

pub takes_next : (orders : List Order) (old mid new : Mails) (number : ℕ) (order : Order) → TakesOf orders old mid → TakesAt mid new number order → TakesOf (orders ++ order ∷ []) old new
takes_next orders old mid new number order t a ring got e =
    let m = t ring got e in
    let was = subst (λ (l : Mails). slice_get l number ≡ Some (mail a.ring a.got)) m a.was in
    a.is ∙ (ap (λ (l : Mails). slice_set l number (mail a.ring (a.got ++ order ∷ []))) m ∙ (of_the_one ring a.ring (got ++ orders) a.got number order was ∙ ap (one ring) (append_assoc got orders (order ∷ []))))

-- ---- programs that ran one after another

pub added_more : (runs : List ChildRun) (run : ChildRun) (old mid new : Option (List ChildRun)) → mid ≡ option_map (λ l. l ++ runs) old → AddsRun run mid new → new ≡ option_map (λ l. l ++ (runs ++ run ∷ [])) old
added_more runs run None mid new before adds = adds ∙ ap (option_map (λ l. l ++ run ∷ [])) before
added_more runs run (Some l) mid new before adds = adds ∙ ap (option_map (λ l. l ++ run ∷ [])) before ∙ ap Some (append_assoc l runs (run ∷ []))

none_added : (old : Option (List ChildRun)) → old ≡ option_map (λ l. l ++ []) old
none_added None = refl
none_added (Some l) = ap Some (sym (append-nil l))

run_more : (started : List (List (List ℕ))) (ran : List Ran) (args : List (List ℕ)) (output : List ℕ) (outcome : Outcome) (first mid new : Option (List ChildRun)) → AreRun started ran first mid → CameTo args output outcome mid new → AreRun (started ++ args ∷ []) (ran ++ record { output = output; outcome = outcome } ∷ []) first new
run_more started ran args output outcome first mid new a c =
    let r : Ran = record { output = output; outcome = outcome } in
    record {
      children = a.children ++ c.run ∷ [];
      commands_are = map-append (λ (x : ChildRun). x.args) a.children (c.run ∷ []) ∙ (ap (λ (l : List (List (List ℕ))). l ++ c.run.args ∷ []) a.commands_are ∙ ap (λ (x : List (List ℕ)). started ++ x ∷ []) c.args_are);
      outputs_are = map-append (λ (x : ChildRun). x.output) a.children (c.run ∷ []) ∙ (ap (λ (l : List (List ℕ)). l ++ c.run.output ∷ []) a.outputs_are ∙ (ap (λ (x : List ℕ). map (λ (y : Ran). y.output) ran ++ x ∷ []) c.output_is ∙ sym (map-append (λ (y : Ran). y.output) ran (r ∷ []))));
      outcomes_are = map-append (λ (x : ChildRun). outcome_of x.fate) a.children (c.run ∷ []) ∙ (ap (λ (l : List (Option Outcome)). l ++ outcome_of c.run.fate ∷ []) a.outcomes_are ∙ (ap (λ (x : Option Outcome). map (λ (y : Ran). Some y.outcome) ran ++ x ∷ []) c.outcome_is ∙ sym (map-append (λ (y : Ran). Some y.outcome) ran (r ∷ []))));
      added = added_more a.children c.run first mid new a.added c.added;
    }

faults_more : (ran : List Ran) (r : Ran) → faults_of (ran ++ r ∷ []) ≡ faults_of ran + fault_count r.outcome
faults_more ran r = let e = sum_by-append (λ (x : Ran). fault_count x.outcome) ran (r ∷ []) in omega (arith, e)

news_more : (told : List ToldOfProgram) (t : ToldOfProgram) → news_of_programs (told ++ t ∷ []) ≡ news_of_programs told ++ told_news t
news_more [] t = append-nil (told_news t)
news_more (x ∷ xs) t = ap (λ (l : List LinkNews). told_news x ++ l) (news_more xs t) ∙ sym (append_assoc (told_news x) (news_of_programs xs) (told_news t))

rose_more : (a b x y z : ℕ) → RoseBy a x y → RoseBy b y z → y ≤ z → RoseBy (a + b) x z
rose_more a b x y z first then later = λ below.
    let mid : y < 2 ^ 64 - 1 = omega (arith, below, later) in
    let f = first mid in
    let t = then below in
    omega (arith, f, t)

-- ---- so far

pub record SoFar (old new : Mails) (s0 s1 : ProgramsSeen) (before after : List LinkNews) : Type 0 where
  pub orders : List Order
  pub told : List ToldOfProgram
  pub took : TakesOf orders old new
  pub runs : Runs orders told s0 s1 before after

pub none_yet : (mails : Mails) (s : ProgramsSeen) (before : List LinkNews) → SoFar mails mails s s before before
none_yet mails s before = record {
  orders = [];
  told = [];
  took = takes_none mails;
  runs = record {
    commands = All-nil IsCommand;
    puts = sym (append-nil before);
    pieces = All-nil ArePieces;
    run = record { children = []; commands_are = refl; outputs_are = refl; outcomes_are = refl; added = none_added s.runs };
    rose = λ below. omega arith;
    still = λ e. refl;
    later = omega arith;
  };
}

module _ (old mid new : Mails) (s0 s1 s2 : ProgramsSeen) (before between after : List LinkNews) (number : ℕ) (order : Order) (f : SoFar old mid s0 s1 before between) (take : TakesAt mid new number order) where
  took : TakesOf (f.orders ++ order ∷ []) old new
  took = takes_next f.orders old mid new number order f.took take

  pub goes_on : (own : Order) → own ≡ order → 0 < length order → RunsOne own s1 s2 between after → SoFar old new s0 s2 before after
  goes_on own is some one_run =
      let r = subst (λ (o : Order). RunsOne o s1 s2 between after) is one_run in
      let ran = map ran_of f.told in
      let last = ran_of r.told in
      let all : map ran_of (f.told ++ r.told ∷ []) ≡ ran ++ last ∷ [] = map-append ran_of f.told (r.told ∷ []) in
      let count : faults_of (map ran_of (f.told ++ r.told ∷ [])) ≡ faults_of ran + fault_count r.told.outcome = ap faults_of all ∙ faults_more ran last in
      record {
        orders = f.orders ++ order ∷ [];
        told = f.told ++ r.told ∷ [];
        took = took;
        runs = record {
          commands = All-push IsCommand f.orders order f.runs.commands some;
          puts = r.puts ∙ (ap (λ (l : List LinkNews). l ++ told_news r.told) f.runs.puts ∙ (append_assoc before (news_of_programs f.told) (told_news r.told) ∙ ap (λ (l : List LinkNews). before ++ l) (sym (news_more f.told r.told))));
          pieces = All-push ArePieces f.told r.told f.runs.pieces r.pieces;
          run = subst (λ (l : List Ran). AreRun (f.orders ++ order ∷ []) l s0.runs s2.runs) (sym all) (run_more f.orders ran order (whole_output r.told.pieces) r.told.outcome s0.runs s1.runs s2.runs f.runs.run r.came);
          rose = subst (λ (n : ℕ). RoseBy n s0.faults s2.faults) (sym count) (rose_more (faults_of ran) (fault_count r.told.outcome) s0.faults s1.faults s2.faults f.runs.rose r.rose r.later);
          still = λ none. r.still (omega (arith, none, count)) ∙ f.runs.still (omega (arith, none, count));
          later = omega (arith, f.runs.later, r.later);
        };
      }

  pub ends_well : length order ≡ 0 → RunsOrders old new s0 s1 before between
  ends_well none = record {
    orders = f.orders;
    told = f.told;
    mid = s1;
    sent = between;
    runs = f.runs;
    ends = inl (record { took = subst (λ (o : Order). TakesOf (f.orders ++ o ∷ []) old new) (nil_of order none) took; same = refl; puts = refl });
  }
    where
      nil_of : (l : Order) → length l ≡ 0 → l ≡ []
      nil_of [] e = refl
      nil_of (x ∷ l) e = absurd (omega arith)

  pub ends_cut : (last : List LinkNews) (own : Order) → own ≡ order → 0 < length order → RunsPart own s1 s2 between after → last ≡ after ++ End OutOfMemory ∷ [] → RunsOrders old new s0 s2 before last
  ends_cut last own is some part put = let r = subst (λ (o : Order). RunsPart o s1 s2 between after) is part in record {
    orders = f.orders;
    told = f.told;
    mid = s1;
    sent = between;
    runs = f.runs;
    ends = inr (record {
      order = order;
      pieces = r.pieces;
      took = took;
      command = some;
      puts = put ∙ (ap (λ (l : List LinkNews). l ++ End OutOfMemory ∷ []) r.puts ∙ append_assoc between _ (End OutOfMemory ∷ []));
      sizes = r.sizes;
      left = r.left;
      later = r.later;
    });
  }

pub when_err : {A E : Type 0} (r : Result A E) (P : Type 0) → is_err r ≡ true → OnErr r P → P
when_err (Ok x) P e p = cc
when_err (Err x) P e p = p

pub when_ok : {A E : Type 0} (r : Result A E) (P : Type 0) → is_err r ≡ false → OnOk r P → P
when_ok (Ok x) P e p = p
when_ok (Err x) P e p = cc
