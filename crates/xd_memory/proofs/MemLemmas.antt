-- Programs in memory: what is told of their starts, where one changes or gives more.
use Rattle.std.specs.Str.{bytes_eq}
use Rattle.std.proofs.Common.{Bool, true, false, ◌&&◌, IfSome, slice_get, ◌≡◌, ◌∙◌, ℕ, zero, suc, ◌+◌, ◌-◌, ◌<◌, ◌≤◌, min, subst, List, [], ◌∷◌, ◌++◌, length, take, drop, get_or, refl, sym, ap, arith, append_assoc}
use lib.Seq.{take-add}
use Rattle.std.proofs.Math.Seq.{take-append_seam}
use Rattle.std.proofs.lemmas.Grind.{common_steps}
use Rattle.std.proofs.Math.ListN.{set}
use Rattle.xd_edge.specs.Children.{ChildRun, running, not_started, with_output, whole_output, change_at}
use Rattle.xd_edge.specs.declared.children.Fate.TheVariants.{Running, NotStarted}
use Rattle.xd_memory.specs.declared.mem_run.MemRun.{MemRun}
use Rattle.xd_memory.specs.MemChildren.{Prepared, texts_eq, gave, has_to_give, told_of_run, all_told, piece_at, pieces_in, given_of}

-- what is told of some starts where one of them changes
pub told_set : (children : List Prepared) (k : ℕ) (f : ChildRun → ChildRun) (rs : List MemRun) (d r : MemRun) → k < length rs → told_of_run children r ≡ f (told_of_run children (get_or rs k d)) → all_told children (set rs k r) ≡ change_at k f (all_told children rs)
told_set children k f [] d r h e = absurd (omega arith)
told_set children zero f (x ∷ rs) d r h e = ap (λ (y : ChildRun). y ∷ all_told children rs) e
told_set children (suc k) f (x ∷ rs) d r h e = ap (λ (l : List ChildRun). told_of_run children x ∷ l) (told_set children k f rs d r (omega arith) e)

pub told_past : (children : List Prepared) (k : ℕ) (f : ChildRun → ChildRun) (rs : List MemRun) → length rs ≤ k → all_told children rs ≡ change_at k f (all_told children rs)
told_past children k f [] h = refl
told_past children zero f (x ∷ rs) h = absurd (omega arith)
told_past children (suc k) f (x ∷ rs) h = ap (λ (l : List ChildRun). told_of_run children x ∷ l) (told_past children k f rs (omega arith))

pub told_more : (children : List Prepared) (rs : List MemRun) (r : MemRun) → all_told children (rs ++ r ∷ []) ≡ all_told children rs ++ told_of_run children r ∷ []
told_more children [] r = refl
told_more children (x ∷ rs) r = ap (λ (l : List ChildRun). told_of_run children x ∷ l) (told_more children rs r)

-- a piece that was given whole stays so
pub given_next : (ps : List (List ℕ)) (i given : ℕ) → i < length ps → length (piece_at ps i) ≤ given → given_of ps (suc i) 0 ≡ given_of ps i given
given_next [] i given h few = absurd (omega arith)
given_next (p ∷ []) zero given h few = grind (arith, common_steps)
given_next (p ∷ q ∷ ps) zero given h few = grind (arith, common_steps)
given_next (p ∷ ps) (suc i) given h few = ap (λ (l : List ℕ). p ++ l) (given_next ps i given (omega arith) few)

pub given_past : (ps : List (List ℕ)) (i given : ℕ) → length ps ≤ i → given_of ps i given ≡ whole_output ps
given_past [] i given h = refl
given_past (p ∷ ps) zero given h = absurd (omega arith)
given_past (p ∷ ps) (suc i) given h = ap (λ (l : List ℕ). p ++ l) (given_past ps i given (omega arith))

pub given_more : (ps : List (List ℕ)) (i given n : ℕ) → i < length ps → given_of ps i (given + n) ≡ given_of ps i given ++ take n (drop given (piece_at ps i))
given_more [] i given n h = absurd (omega arith)
given_more (p ∷ ps) zero given n h = take-add given n p
given_more (p ∷ ps) (suc i) given n h = ap (λ (l : List ℕ). p ++ l) (given_more ps i given n (omega arith)) ∙ sym (append_assoc p (given_of ps i given) (take n (drop given (piece_at ps i))))

pub piece-index : (ps : List (List ℕ)) (i : ℕ) (d : List ℕ) → i < length ps → get_or ps i d ≡ piece_at ps i
piece-index [] i d h = absurd (omega arith)
piece-index (p ∷ ps) zero d h = refl
piece-index (p ∷ ps) (suc i) d h = piece-index ps i d (omega arith)

pub given_none : (ps : List (List ℕ)) → given_of ps 0 0 ≡ []
given_none [] = refl
given_none (p ∷ ps) = refl

-- the next bytes of a piece, copied to the front of a buffer
pub given_copied : (ps : List (List ℕ)) (i g n : ℕ) (w room copied : List ℕ) → i < length ps → w ≡ piece_at ps i → g ≤ length w → n ≡ min (length (take (length w - g) (drop g w))) (length room) → copied ≡ take n (take (length w - g) (drop g w)) → given_of ps i (g + n) ≡ given_of ps i g ++ take n (copied ++ drop n room)
given_copied ps i g n w room copied h e le few c =
    let all : take (length w - g) (drop g w) ≡ drop g w = grind (arith, common_steps) in
    let front : copied ≡ take n (drop g w) = c ∙ ap (take n) all in
    let len : length copied ≡ n = (let a = ap length front in let b = ap length all in grind (arith, common_steps)) in
    let seam : take n (copied ++ drop n room) ≡ copied = subst (λ (k : ℕ). take k (copied ++ drop n room) ≡ copied) len (take-append_seam copied (drop n room)) in
    given_more ps i g n h ∙ ap (λ (l : List ℕ). given_of ps i g ++ l) (ap (λ (l : List ℕ). take n (drop g l)) (sym e) ∙ (sym front ∙ sym seam))

pub some_left : (g n : ℕ) (w room : List ℕ) → g < length w → n ≡ min (length (take (length w - g) (drop g w))) (length room) → n ≡ 0 → 0 < length room → ⊥
some_left g n w room lt few none some =
    let all : take (length w - g) (drop g w) ≡ drop g w = grind (arith, common_steps) in
    let b = ap length all in
    grind (arith, common_steps)

-- a program's place among the prepared ones, and its pieces
pub pieces-index : (children : List Prepared) (n : ℕ) (d : Prepared) → n < length children → (get_or children n d).1 ≡ pieces_in children n
pieces-index [] n d h = absurd (omega arith)
pieces-index (c ∷ cs) zero d h = refl
pieces-index (c ∷ cs) (suc n) d h = pieces-index cs n d (omega arith)

-- what the start at a place gave, where it changed
pub gave_set : (children : List Prepared) (k : ℕ) (rs : List MemRun) (r : MemRun) → k < length rs → given_of (pieces_in children r.child) r.piece r.given ≡ whole_output (pieces_in children r.child) → gave children k (set rs k r) ≡ has_to_give children k (set rs k r)
gave_set children k [] r h e = absurd (omega arith)
gave_set children zero (x ∷ rs) r h e = e
gave_set children (suc k) (x ∷ rs) r h e = gave_set children k rs r (omega arith) e

-- what is told of a start that gave some bytes more
pub told_given : (children : List Prepared) (old new : MemRun) (ps : List (List ℕ)) (bytes : List ℕ) → new.args ≡ old.args → new.child ≡ old.child → new.fate ≡ old.fate → ps ≡ pieces_in children old.child → given_of ps new.piece new.given ≡ given_of ps old.piece old.given ++ bytes → told_of_run children new ≡ with_output bytes (told_of_run children old)
told_given children old new ps bytes a c f e g =
    let here : ps ≡ pieces_in children new.child = e ∙ ap (pieces_in children) (sym c) in
    let out : given_of (pieces_in children new.child) new.piece new.given ≡ given_of (pieces_in children old.child) old.piece old.given ++ bytes =
    ap (λ (qs : List (List ℕ)). given_of qs new.piece new.given) (sym here) ∙ (g ∙ ap (λ (qs : List (List ℕ)). given_of qs old.piece old.given ++ bytes) e) in
    cc

-- one start more, which succeeded, or did not
pub told_begun : (children : List Prepared) (rs kept : List MemRun) (own args : List (List ℕ)) (child : ℕ) → kept ≡ rs → own ≡ args → all_told children (kept ++ record { args = own; child = child; piece = 0; given = 0; fate = Running } ∷ []) ≡ all_told children rs ++ running args ∷ []
told_begun children rs kept own args child k a =
    let run : MemRun = record { args = own; child = child; piece = 0; given = 0; fate = Running } in
    let told_is : told_of_run children run ≡ running args = (let z = given_none (pieces_in children child) in cc) in
    told_more children kept run ∙ (ap (λ (l : List MemRun). all_told children l ++ told_of_run children run ∷ []) k ∙ ap (λ (r : ChildRun). all_told children rs ++ r ∷ []) told_is)

pub told_refused : (children : List Prepared) (rs kept : List MemRun) (own args : List (List ℕ)) (child : ℕ) → kept ≡ rs → own ≡ args → all_told children (kept ++ record { args = own; child = child; piece = 0; given = 0; fate = NotStarted } ∷ []) ≡ all_told children rs ++ not_started args ∷ []
told_refused children rs kept own args child k a =
    let run : MemRun = record { args = own; child = child; piece = 0; given = 0; fate = NotStarted } in
    let told_is : told_of_run children run ≡ not_started args = (let z = given_none (pieces_in children child) in cc) in
    told_more children kept run ∙ (ap (λ (l : List MemRun). all_told children l ++ told_of_run children run ∷ []) k ∙ ap (λ (r : ChildRun). all_told children rs ++ r ∷ []) told_is)

-- a start that changed and is of the program that it was of has as much to give, and so have all others
pub whole_set : (children : List Prepared) (q k : ℕ) (rs : List MemRun) (d r : MemRun) → k < length rs → r.child ≡ (get_or rs k d).child → has_to_give children q (set rs k r) ≡ has_to_give children q rs
whole_set children q k [] d r h e = refl
whole_set children zero zero (x ∷ rs) d r h e = ap (λ (n : ℕ). whole_output (pieces_in children n)) e
whole_set children (suc q) zero (x ∷ rs) d r h e = refl
whole_set children zero (suc k) (x ∷ rs) d r h e = refl
whole_set children (suc q) (suc k) (x ∷ rs) d r h e = whole_set children q k rs d r (omega arith) e

-- one start more changes nothing of what another has to give
whole_more : (children : List Prepared) (q : ℕ) (rs : List MemRun) (r : MemRun) → q < length rs → has_to_give children q (rs ++ r ∷ []) ≡ has_to_give children q rs
whole_more children q [] r h = absurd (omega arith)
whole_more children zero (x ∷ rs) r h = refl
whole_more children (suc q) (x ∷ rs) r h = whole_more children q rs r (omega arith)

pub whole_begun : (children : List Prepared) (q : ℕ) (rs kept new : List MemRun) (r : MemRun) → new ≡ kept ++ r ∷ [] → kept ≡ rs → q < length rs → has_to_give children q new ≡ has_to_give children q rs
whole_begun children q rs kept new r n k h = ap (has_to_give children q) (n ∙ ap (λ (l : List MemRun). l ++ r ∷ []) k) ∙ whole_more children q rs r h

-- what is told of a start is what it gave
pub told_gave : (children : List Prepared) (place : ℕ) (rs : List MemRun) (bytes : List ℕ) → gave children place rs ≡ bytes → IfSome (slice_get (all_told children rs) place) (λ run. run.output ≡ bytes)
told_gave children place [] bytes e = search
told_gave children zero (r ∷ rs) bytes e = e
told_gave children (suc place) (r ∷ rs) bytes e = told_gave children place rs bytes e

-- lists of texts, compared text by text

and_false : (b : Bool) {c : Bool} → c ≡ false → (b && c) ≡ false
and_false true h = h
and_false false h = refl

pub texts_eq_lengths : (xs ys : List (List ℕ)) → (length xs ≡ length ys → ⊥) → texts_eq xs ys ≡ false
texts_eq_lengths [] [] h = absurd (h refl)
texts_eq_lengths [] (y ∷ ys) h = refl
texts_eq_lengths (x ∷ xs) [] h = refl
texts_eq_lengths (x ∷ xs) (y ∷ ys) h = and_false (bytes_eq x y) (texts_eq_lengths xs ys (λ e. h (ap suc e)))
