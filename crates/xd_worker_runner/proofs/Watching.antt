-- A program, from its start to its end.
use Rattle.std.proofs.Common.{◌≡◌, ℕ, ◌≤◌, List, [], ◌∷◌, ◌++◌, Bool, true, false, Option, Some, None, map, refl, sym, ap, ◌∙◌, subst, append_assoc, arith, inl, inr, Result, Ok, Err}
use Rattle.std.specs.Prelude.{option_map, IfOk, OnErr}
use Rattle.std.proofs.lemmas.List.{append-nil, map-append}
use Rattle.std.proofs.lemmas.List.Elements.{All-nil, All-push}
use Rattle.xd_edge.specs.Children.{ChildRun, AddsRun, ChangesRun, IsNext, change_at, not_started, running, with_last, with_output, with_read_fault, whole_output}
use Rattle.xd_edge.specs.Faults.{Counted, Rose, RoseBy}
use Rattle.xd_edge.proofs.ChildLemmas.{change_at_end, change_at_not, change_at_twice}
use Rattle.xd_journal.specs.declared.entry.Outcome.{Outcome}
use Rattle.xd_journal.specs.declared.entry.Outcome.TheVariants.{Failed}
use Rattle.xd_reader.specs.declared.news.LinkNews.{LinkNews}
use Rattle.xd_reader.specs.declared.news.LinkNews.TheVariants.{Output, ChildDone}
use Rattle.xd_child.specs.Ending.{Waited, fault_count, fate_so, outcome_of}
use Rattle.xd_worker_runner.specs.Orders.{IsPiece, ProgramsSeen, programs_seen}
use Rattle.xd_worker_runner.specs.Programs.{CameTo, read_so}
use Rattle.xd_worker_runner.specs.inner.Running.{PutsOutput, HeardPart, RunsOne, RunsPart, RunsTo, Waits, Watches, WatchesPart}
use Rattle.xd_child.proofs.Waiting.{faults_to_end, still_to_end}
use lib.IntN.{negsuc}

-- ---- one change of a run after another

changed : (k : ℕ) (f : ChildRun → ChildRun) (run : ChildRun) (old mid new : Option (List ChildRun)) → IsNext k old → AddsRun run old mid → ChangesRun k f mid new → AddsRun (f run) old new
changed k f run None mid new next added changes = changes ∙ ap (option_map (change_at k f)) added
changed k f run (Some l) mid new next added changes = changes ∙ ap (option_map (change_at k f)) added ∙ ap Some (change_at_end f l run k next)

changes_twice : (place : ℕ) (f g h : ChildRun → ChildRun) (old mid new : Option (List ChildRun)) → ((r : ChildRun) → f (g r) ≡ h r) → ChangesRun place g old mid → ChangesRun place f mid new → ChangesRun place h old new
changes_twice place f g h None mid new e a b = b ∙ ap (option_map (change_at place f)) a
changes_twice place f g h (Some l) mid new e a b = b ∙ (ap (option_map (change_at place f)) a ∙ ap Some (change_at_twice place f g h l e))

changes_at : (k place : ℕ) (f : ChildRun → ChildRun) (old new : Option (List ChildRun)) → k ≡ place → ChangesRun k f old new → ChangesRun place f old new
changes_at k place f old new e c = subst (λ (n : ℕ). ChangesRun n f old new) e c

no_more : (r : ChildRun) → with_output [] r ≡ r
no_more r = ap (λ (l : List ℕ). record r { output = l }) (append-nil r.output)

more_output : (a b : List ℕ) (r : ChildRun) → with_output b (with_output a r) ≡ with_output (a ++ b) r
more_output a b r = ap (λ (l : List ℕ). record r { output = l }) (append_assoc r.output a b)

pub output_none : (place : ℕ) (runs : Option (List ChildRun)) → ChangesRun place (with_output []) runs runs
output_none place None = refl
output_none place (Some l) = ap Some (sym (change_at_not place (with_output []) l (λ r. no_more r)))

pub output_more : (k place : ℕ) (a b : List ℕ) (old mid new : Option (List ChildRun)) → k ≡ place → ChangesRun place (with_output a) old mid → ChangesRun k (with_output b) mid new → ChangesRun place (with_output (a ++ b)) old new
output_more k place a b old mid new e x y = changes_twice place (with_output b) (with_output a) (with_output (a ++ b)) old mid new (more_output a b) x (changes_at k place (with_output b) mid new e y)

pub output_end : (k place : ℕ) (a b : List ℕ) (old mid new : Option (List ChildRun)) → k ≡ place → b ≡ [] → ChangesRun place (with_output a) old mid → ChangesRun k (with_output b) mid new → ChangesRun place (read_so true a) old new
output_end k place a b old mid new e none x y = subst (λ (l : List ℕ). ChangesRun place (with_output l) old new) (ap (λ (l : List ℕ). a ++ l) none ∙ append-nil a) (output_more k place a b old mid new e x y)

pub output_part : (k place : ℕ) (a : List ℕ) (old mid new : Option (List ChildRun)) → k ≡ place → ChangesRun place (with_output a) old mid → ChangesRun k with_read_fault mid new → ChangesRun place (read_so false a) old new
output_part k place a old mid new e x y = changes_twice place with_read_fault (with_output a) (read_so false a) old mid new (λ r. refl) x (changes_at k place with_read_fault mid new e y)

-- what was read to the end after other output
read_on : (whole : Bool) (a b : List ℕ) (r : ChildRun) → read_so whole b (with_output a r) ≡ read_so whole (a ++ b) r
read_on true a b r = more_output a b r
read_on false a b r = ap with_read_fault (more_output a b r)

-- ---- pieces that were put

whole_more : (pieces : List (List ℕ)) (p : List ℕ) → whole_output (pieces ++ p ∷ []) ≡ whole_output pieces ++ p
whole_more [] p = append-nil p
whole_more (x ∷ xs) p = ap (λ (l : List ℕ). x ++ l) (whole_more xs p) ∙ sym (append_assoc x (whole_output xs) p)

put_next : (before mid after : List LinkNews) (pieces : List (List ℕ)) (p : List ℕ) → mid ≡ before ++ map Output pieces → after ≡ mid ++ Output p ∷ [] → after ≡ before ++ map Output (pieces ++ p ∷ [])
put_next before mid after pieces p e f =
    f ∙ (ap (λ (l : List LinkNews). l ++ Output p ∷ []) e ∙ (append_assoc before (map Output pieces) (Output p ∷ []) ∙ ap (λ (l : List LinkNews). before ++ l) (sym (map-append Output pieces (p ∷ [])))))

-- ---- what a program prints is heard

pub heard_none : (place : ℕ) (runs : Option (List ChildRun)) (before : List LinkNews) → PutsOutput true place runs runs before before
heard_none place runs before = record { pieces = []; puts = sym (append-nil before); sizes = All-nil IsPiece; changes = output_none place runs }

pub heard_more : (k place : ℕ) (p : List ℕ) (old mid new : Option (List ChildRun)) (before between after : List LinkNews) → k ≡ place → IsPiece p → ChangesRun k (with_output p) mid new → after ≡ between ++ Output p ∷ [] → PutsOutput true place old mid before between → PutsOutput true place old new before after
heard_more k place p old mid new before between after e size gave put h = record {
  pieces = h.pieces ++ p ∷ [];
  puts = put_next before between after h.pieces p h.puts put;
  sizes = All-push IsPiece h.pieces p h.sizes size;
  changes = subst (λ (l : List ℕ). ChangesRun place (with_output l) old new) (sym (whole_more h.pieces p)) (output_more k place (whole_output h.pieces) p old mid new e h.changes gave);
}

pub heard_all : (k place : ℕ) (p : List ℕ) (old mid new : Option (List ChildRun)) (before after : List LinkNews) → k ≡ place → p ≡ [] → ChangesRun k (with_output p) mid new → PutsOutput true place old mid before after → PutsOutput true place old new before after
heard_all k place p old mid new before after e none gave h = record { pieces = h.pieces; puts = h.puts; sizes = h.sizes; changes = output_end k place (whole_output h.pieces) p old mid new e none h.changes gave }

pub heard_unread : (k place : ℕ) (old mid new : Option (List ChildRun)) (before after : List LinkNews) → k ≡ place → ChangesRun k with_read_fault mid new → PutsOutput true place old mid before after → PutsOutput false place old new before after
heard_unread k place old mid new before after e failed h = record { pieces = h.pieces; puts = h.puts; sizes = h.sizes; changes = output_part k place (whole_output h.pieces) old mid new e h.changes failed }

pub heard_part : (k place : ℕ) (p : List ℕ) (old mid new : Option (List ChildRun)) (before between after : List LinkNews) → k ≡ place → ChangesRun k (with_output p) mid new → after ≡ between → PutsOutput true place old mid before between → HeardPart place old new before after
heard_part k place p old mid new before between after e gave none h = record {
  pieces = h.pieces;
  puts = none ∙ h.puts;
  sizes = h.sizes;
  lost = p;
  changes = output_more k place (whole_output h.pieces) p old mid new e h.changes gave;
}

-- ---- a program is waited for

waits_for : (k place : ℕ) (whole : Bool) (output : List ℕ) (outcome : Outcome) (old mid new : Option (List ChildRun)) → k ≡ place → ChangesRun place (read_so whole output) old mid → Waited whole k outcome mid new → Waits place output outcome old new
waits_for k place whole output outcome old mid new e c w = record {
  whole = whole;
  last = w.last;
  outcome_is = w.outcome_is;
  changes = changes_twice place (with_last w.last) (read_so whole output) (λ r. with_last w.last (read_so whole output r)) old mid new (λ r. refl) c (changes_at k place (with_last w.last) mid new e w.changes);
}

pub watches : (k place : ℕ) (whole : Bool) (outcome : Outcome) (old mid new : Option (List ChildRun)) (first read now : ℕ) (before after : List LinkNews) → k ≡ place → PutsOutput whole place old mid before after → Counted whole first read → Waited whole k outcome mid new
    → read ≤ now → (whole ≡ true → RoseBy (fault_count outcome) read now) → (fault_count outcome ≡ 0 → now ≡ read) → Watches outcome place (programs_seen old first) (programs_seen new now) before after
watches k place whole outcome old mid new first read now before after e h count w later rose still = record {
  pieces = h.pieces;
  puts = h.puts;
  sizes = h.sizes;
  waits = waits_for k place whole (whole_output h.pieces) outcome old mid new e h.changes w;
  rose = faults_to_end whole k outcome mid new first read now w count later rose;
  still = still_to_end whole k outcome mid new first read now w count still;
  later = omega (arith, count.later, later);
}

pub watches_part : (j k place : ℕ) (whole : Bool) (output : List ℕ) (outcome : Outcome) (old mid read new : Option (List ChildRun)) (f0 f1 f2 f3 : ℕ) (before after : List LinkNews) → j ≡ place → k ≡ place → HeardPart place old mid before after → ChangesRun j (read_so whole output) mid read → Waited whole k outcome read new
    → f0 ≤ f1 → f1 ≤ f2 → f2 ≤ f3 → WatchesPart place (programs_seen old f0) (programs_seen new f3) before after
watches_part j k place whole output outcome old mid read new f0 f1 f2 f3 before after d e h c w l0 l1 l2 = record {
  pieces = h.pieces;
  puts = h.puts;
  sizes = h.sizes;
  more = h.lost ++ output;
  outcome = outcome;
  waits = waits_for k place whole (whole_output h.pieces ++ (h.lost ++ output)) outcome old read new e all w;
  later = omega arith;
}
  where
    first : List ℕ
    first = whole_output h.pieces ++ h.lost

    all : ChangesRun place (read_so whole (whole_output h.pieces ++ (h.lost ++ output))) old read
    all = subst (λ (l : List ℕ). ChangesRun place (read_so whole l) old read) (append_assoc (whole_output h.pieces) h.lost output)
        (changes_twice place (read_so whole output) (with_output first) (read_so whole (first ++ output)) old mid read (read_on whole first output) h.changes (changes_at j place (read_so whole output) mid read d c))

-- ---- an order

came_to : (place : ℕ) (args : List (List ℕ)) (output : List ℕ) (outcome : Outcome) (old mid new : Option (List ChildRun)) → IsNext place old → AddsRun (running args) old mid → Waits place output outcome mid new → CameTo args output outcome old new
came_to place args output outcome old mid new next added w = by w.whole w.outcome_is w.changes
  where
    by : (whole : Bool) → outcome_of (fate_so whole w.last) ≡ Some outcome → ChangesRun place (λ r. with_last w.last (read_so whole output r)) mid new → CameTo args output outcome old new
    by true is c = record { run = with_last w.last (read_so true output (running args)); args_are = refl; output_is = refl; outcome_is = is; added = changed place (λ r. with_last w.last (read_so true output r)) (running args) old mid new next added c }
    by false is c = record { run = with_last w.last (read_so false output (running args)); args_are = refl; output_is = refl; outcome_is = is; added = changed place (λ r. with_last w.last (read_so false output r)) (running args) old mid new next added c }

pub runs_to : (place : ℕ) (outcome : Outcome) (args : List (List ℕ)) (old mid new : Option (List ChildRun)) (f0 f1 f2 : ℕ) (before after : List LinkNews) → IsNext place old → AddsRun (running args) old mid → f1 ≡ f0 → Watches outcome place (programs_seen mid f1) (programs_seen new f2) before after → RunsTo outcome args (programs_seen old f0) (programs_seen new f2) before after
runs_to place outcome args old mid new f0 f1 f2 before after next added still w = record {
  pieces = w.pieces;
  puts = w.puts;
  sizes = w.sizes;
  came = came_to place args (whole_output w.pieces) outcome old mid new next added w.waits;
  rose = subst (λ (n : ℕ). RoseBy (fault_count outcome) n f2) still w.rose;
  still = λ e. w.still e ∙ still;
  later = subst (λ (n : ℕ). n ≤ f2) still w.later;
}

pub runs_none : (args : List (List ℕ)) (old new : Option (List ChildRun)) (f0 f1 : ℕ) (before : List LinkNews) → AddsRun (not_started args) old new → Rose f0 f1 → f0 ≤ f1 → RunsTo (Failed (negsuc 1)) args (programs_seen old f0) (programs_seen new f1) before before
runs_none args old new f0 f1 before added rose later = record {
  pieces = [];
  puts = sym (append-nil before);
  sizes = All-nil IsPiece;
  came = record { run = not_started args; args_are = refl; output_is = refl; outcome_is = refl; added = added };
  rose = rose;
  still = λ e. cc;
  later = later;
}

pub runs_part : (place : ℕ) (args : List (List ℕ)) (old mid new : Option (List ChildRun)) (f0 f1 f2 : ℕ) (before after : List LinkNews) → IsNext place old → AddsRun (running args) old mid → f1 ≡ f0 → WatchesPart place (programs_seen mid f1) (programs_seen new f2) before after → RunsPart args (programs_seen old f0) (programs_seen new f2) before after
runs_part place args old mid new f0 f1 f2 before after next added still w = record {
  pieces = w.pieces;
  puts = w.puts;
  sizes = w.sizes;
  left = inr (w.more, w.outcome, came_to place args (whole_output w.pieces ++ w.more) w.outcome old mid new next added w.waits);
  later = subst (λ (n : ℕ). n ≤ f2) still w.later;
}

pub runs_never : (args : List (List ℕ)) (old new : Option (List ChildRun)) (f0 f1 : ℕ) (before : List LinkNews) → new ≡ old → f1 ≡ f0 → RunsPart args (programs_seen old f0) (programs_seen new f1) before before
runs_never args old new f0 f1 before same still = record {
  pieces = [];
  puts = sym (append-nil before);
  sizes = All-nil IsPiece;
  left = inl (refl, ap (λ (o : Option (List ChildRun)). programs_seen o f1) same ∙ ap (programs_seen old) still);
  later = omega (arith, still);
}

pub runs_one : (outcome : Outcome) (args : List (List ℕ)) (s0 s1 : ProgramsSeen) (before mid after : List LinkNews) → RunsTo outcome args s0 s1 before mid → after ≡ mid ++ ChildDone outcome ∷ [] → RunsOne args s0 s1 before after
runs_one outcome args s0 s1 before mid after r put = record {
  told = record { pieces = r.pieces; outcome = outcome };
  puts = put ∙ (ap (λ (l : List LinkNews). l ++ ChildDone outcome ∷ []) r.puts ∙ append_assoc before (map Output r.pieces) (ChildDone outcome ∷ []));
  pieces = r.sizes;
  came = r.came;
  rose = r.rose;
  still = r.still;
  later = r.later;
}

pub on_err : {A E : Type 0} (r : Result A E) (P : Type 0) → P → OnErr r P
on_err (Ok x) P p = tt
on_err (Err e) P p = p

pub on_err_so : {A E : Type 0} (r : Result A E) (P Q : Type 0) → (P → Q) → OnErr r P → OnErr r Q
on_err_so (Ok x) P Q f p = tt
on_err_so (Err e) P Q f p = f p

pub if_ok_so : {A E : Type 0} (r : Result A E) (P Q : A → Type 0) → ((x : A) → P x → Q x) → IfOk r P → IfOk r Q
if_ok_so (Ok x) P Q f p = f x p
if_ok_so (Err e) P Q f p = tt
