-- What a runner put against what the worker heard of it.
use Rattle.std.proofs.Common.{◌≡◌, ℕ, suc, ◌≤◌, List, [], ◌∷◌, ◌++◌, length, map, refl, ap, sym, ◌∙◌, subst, arith, append_assoc}
use Rattle.std.proofs.lemmas.List.{append-nil}
use Rattle.xd_journal.specs.declared.entry.Outcome.{Outcome}
use Rattle.xd_reader.specs.declared.news.LinkNews.{LinkNews}
use Rattle.xd_reader.specs.declared.news.LinkNews.TheVariants as news
use Rattle.xd_edge.specs.Children.{whole_output}
use Rattle.xd_worker_runner.specs.Orders.{ToldOfProgram, news_of_programs, ran_of}
use Rattle.xd_worker_runner.specs.Programs.{Ran}
use Rattle.xd_worker.specs.declared.input.WorkerInput.{WorkerInput}
use Rattle.xd_worker.specs.declared.input.WorkerInput.TheVariants.{Message, SuiteBytes, SuiteTooLarge, SuiteUnread, Output, ChildDone, LinkEnd}
use Rattle.xd_worker_serve.specs.Programs.{output_in, ran_in}
use Rattle.xd_worker_serve.specs.Ends.{IsUnheard}
use Rattle.xd_worker_serve.specs.inner.News.{dones, news_in}
use Rattle.xd_worker_serve.proofs.Counting.{dones-append}

abbrev ran : List ℕ → Outcome → Ran
ran output outcome = record { output = output; outcome = outcome }

-- the programs that ended among these items, where this was printed before them, and what was printed after the last end
abbrev pub rans : List ℕ → List LinkNews → List Ran
rans out [] = []
rans out (news.Message m ∷ ns) = rans out ns
rans out (news.End why ∷ ns) = rans out ns
rans out (news.Output b ∷ ns) = rans (out ++ b) ns
rans out (news.ChildDone o ∷ ns) = record { output = out; outcome = o } ∷ rans [] ns

abbrev pub out_of : List ℕ → List LinkNews → List ℕ
out_of out [] = out
out_of out (news.Message m ∷ ns) = out_of out ns
out_of out (news.End why ∷ ns) = out_of out ns
out_of out (news.Output b ∷ ns) = out_of (out ++ b) ns
out_of out (news.ChildDone o ∷ ns) = out_of [] ns

pub rans-append : (out : List ℕ) (a b : List LinkNews) → rans out (a ++ b) ≡ rans out a ++ rans (out_of out a) b
rans-append out [] b = refl
rans-append out (news.Message m ∷ a) b = rans-append out a b
rans-append out (news.End why ∷ a) b = rans-append out a b
rans-append out (news.Output x ∷ a) b = rans-append (out ++ x) a b
rans-append out (news.ChildDone o ∷ a) b = ap (λ (l : List Ran). record { output = out; outcome = o } ∷ l) (rans-append [] a b)

pub out-append : (out : List ℕ) (a b : List LinkNews) → out_of out (a ++ b) ≡ out_of (out_of out a) b
out-append out [] b = refl
out-append out (news.Message m ∷ a) b = out-append out a b
out-append out (news.End why ∷ a) b = out-append out a b
out-append out (news.Output x ∷ a) b = out-append (out ++ x) a b
out-append out (news.ChildDone o ∷ a) b = out-append [] a b

-- the inputs tell the same
pub rans_in : (is : List WorkerInput) → (rans [] (news_in is) ≡ ran_in is) × (out_of [] (news_in is) ≡ output_in is)
rans_in [] = (refl, refl)
rans_in (Message m ∷ is) = (ap (rans []) (append-nil (news_in is)) ∙ (rans_in is).0, ap (out_of []) (append-nil (news_in is)) ∙ (rans_in is).1)
rans_in (SuiteBytes b ∷ is) = (ap (rans []) (append-nil (news_in is)) ∙ (rans_in is).0, ap (out_of []) (append-nil (news_in is)) ∙ (rans_in is).1)
rans_in (SuiteTooLarge ∷ is) = (ap (rans []) (append-nil (news_in is)) ∙ (rans_in is).0, ap (out_of []) (append-nil (news_in is)) ∙ (rans_in is).1)
rans_in (SuiteUnread ∷ is) = (ap (rans []) (append-nil (news_in is)) ∙ (rans_in is).0, ap (out_of []) (append-nil (news_in is)) ∙ (rans_in is).1)
rans_in (Output b ∷ is) =
    let e = rans_in is in
    (rans-append [] (news_in is) (news.Output b ∷ []) ∙ (append-nil (rans [] (news_in is)) ∙ e.0), out-append [] (news_in is) (news.Output b ∷ []) ∙ ap (λ (l : List ℕ). l ++ b) e.1)
rans_in (ChildDone o ms ∷ is) =
    let e = rans_in is in
    (rans-append [] (news_in is) (news.ChildDone o ∷ []) ∙ (ap (λ (l : List Ran). l ++ ran (out_of [] (news_in is)) o ∷ []) e.0 ∙ ap (λ (l : List ℕ). ran_in is ++ ran l o ∷ []) e.1), out-append [] (news_in is) (news.ChildDone o ∷ []))
rans_in (LinkEnd ∷ is) = (ap (rans []) (append-nil (news_in is)) ∙ (rans_in is).0, ap (out_of []) (append-nil (news_in is)) ∙ (rans_in is).1)

-- how many ended
pub count_rans : (out : List ℕ) (ns : List LinkNews) → length (rans out ns) ≡ dones ns
count_rans out [] = refl
count_rans out (news.Message m ∷ ns) = count_rans out ns
count_rans out (news.End why ∷ ns) = count_rans out ns
count_rans out (news.Output b ∷ ns) = count_rans (out ++ b) ns
count_rans out (news.ChildDone o ∷ ns) = let e = count_rans [] ns in omega (arith, e)

-- ---- what a runner put

rans_pieces : (out : List ℕ) (pieces : List (List ℕ)) (o : Outcome) (ns : List LinkNews) → rans out (map news.Output pieces ++ news.ChildDone o ∷ ns) ≡ ran (out ++ whole_output pieces) o ∷ rans [] ns
rans_pieces out [] o ns = ap (λ (l : List ℕ). ran l o ∷ rans [] ns) (sym (append-nil out))
rans_pieces out (p ∷ pieces) o ns = rans_pieces (out ++ p) pieces o ns ∙ ap (λ (l : List ℕ). ran l o ∷ rans [] ns) (append_assoc out p (whole_output pieces))

pub rans_of : (ps : List ToldOfProgram) → rans [] (news_of_programs ps) ≡ map ran_of ps
rans_of [] = refl
rans_of (p ∷ ps) = ap (rans []) (append_assoc (map news.Output p.pieces) (news.ChildDone p.outcome ∷ []) (news_of_programs ps)) ∙ rans_pieces [] p.pieces p.outcome (news_of_programs ps) ∙ ap (λ (l : List Ran). ran_of p ∷ l) (rans_of ps)

-- what the worker did not hear is at most one, which begins with what it heard
pub unheard_is : (out : List ℕ) (ns : List LinkNews) → length (rans out ns) ≤ 1 → IsUnheard out (rans out ns)
unheard_is out [] l = tt
unheard_is out (news.Message m ∷ ns) l = unheard_is out ns l
unheard_is out (news.End why ∷ ns) l = unheard_is out ns l
unheard_is out (news.Output b ∷ ns) l = longer out b (rans (out ++ b) ns) (unheard_is (out ++ b) ns l)
  where
    longer : (out b : List ℕ) (rs : List Ran) → IsUnheard (out ++ b) rs → IsUnheard out rs
    longer out b [] u = tt
    longer out b (r ∷ []) u = (b ++ u.0, u.1 ∙ append_assoc out b u.0)
    longer out b (r ∷ (q ∷ rs)) u = u
unheard_is out (news.ChildDone o ∷ ns) l = one out o (rans [] ns) l
  where
    one : (out : List ℕ) (o : Outcome) (rs : List Ran) → suc (length rs) ≤ 1 → IsUnheard out (ran out o ∷ rs)
    one out o [] l = ([], sym (append-nil out))
    one out o (r ∷ rs) l = absurd (omega (arith, l))

-- ---- nothing more comes

-- empty, or the last is an end
abbrev EndsDone : List LinkNews → Type 0
EndsDone [] = Unit {0}
EndsDone (n ∷ []) = dones (n ∷ []) ≡ 1
EndsDone (n ∷ (m ∷ ns)) = EndsDone (m ∷ ns)

done_ends : (o : Outcome) (ns : List LinkNews) → EndsDone ns → EndsDone (news.ChildDone o ∷ ns)
done_ends o [] d = refl
done_ends o (n ∷ ns) d = d

more_ends : (pieces : List (List ℕ)) (o : Outcome) (ns : List LinkNews) → EndsDone ns → EndsDone (map news.Output pieces ++ news.ChildDone o ∷ ns)
more_ends [] o ns d = done_ends o ns d
more_ends (p ∷ []) o ns d = done_ends o ns d
more_ends (p ∷ (q ∷ pieces)) o ns d = more_ends (q ∷ pieces) o ns d

ends : (ps : List ToldOfProgram) → EndsDone (news_of_programs ps)
ends [] = tt
ends (p ∷ ps) = subst EndsDone (sym (append_assoc (map news.Output p.pieces) (news.ChildDone p.outcome ∷ []) (news_of_programs ps))) (more_ends p.pieces p.outcome (news_of_programs ps) (ends ps))

some_done : (x : LinkNews) (more : List LinkNews) → EndsDone (x ∷ more) → 1 ≤ dones (x ∷ more)
some_done x [] d = omega (arith, d)
some_done x (y ∷ more) d = let e = some_done y more d in let f = dones-append (x ∷ []) (y ∷ more) in omega (arith, e, f)

following : (ns : List LinkNews) (x : LinkNews) (more : List LinkNews) → EndsDone (ns ++ x ∷ more) → EndsDone (x ∷ more)
following [] x more d = d
following (n ∷ []) x more d = d
following (n ∷ (m ∷ ns)) x more d = following (m ∷ ns) x more d

-- the last of what a runner put is the end of a program
pub last_done : (ps : List ToldOfProgram) (ns : List LinkNews) (x : LinkNews) (more : List LinkNews) → news_of_programs ps ≡ ns ++ x ∷ more → 1 ≤ dones (x ∷ more)
last_done ps ns x more e = some_done x more (following ns x more (subst EndsDone e (ends ps)))
