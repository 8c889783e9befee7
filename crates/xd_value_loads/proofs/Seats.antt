-- The stack of the code: what a push, the taking of the last values and SETITEM do with its cells.
use Rattle.std.proofs.Common.{◌≡◌, ℕ, ◌+◌, ◌-◌, ◌<◌, ◌≤◌, zero, suc, max, Bool, true, false, ◌||◌, List, [], ◌∷◌, ◌++◌, length, take, drop, set, get_or, map, reverse, Some, Ok, Err, refl, sym, ap, subst, ◌∙◌, arith, length-append, length-set}
use Rattle.std.specs.List.{list_any}
use Rattle.std.proofs.lemmas.Bool.{le-ltb, lt-ltb}
use Rattle.std.proofs.lemmas.List.{take_at, drop_at, take-append-drop, reverse-append, reverse-reverse, length-reverse, length-map, length-drop, map-append, take_all, take_more, take_more_set}
use Rattle.xd_value.specs.Tree.{Trees, tree, depth, trees_depth}
use Rattle.xd_value.specs.View.{view, views}
use Rattle.xd_value.specs.Reading.{Cell, Fails, put_one, set_item, take_parts, is_short, last_cells, values_of}
use Rattle.xd_value.specs.Payload.{stop_trouble}
use Rattle.xd_value_loads.specs.inner.Seats.{Seat, seat, marked_values, cell_of, cells, MarkFits, EachFits, AreSeats, is_mark_short, deepest}
use Rattle.xd_value.specs.declared.value.Value.{Value}
use Rattle.xd_value_loads.specs.declared.stack.Mark.{Mark}
use Rattle.xd_value.specs.declared.fault.LoadWhat.TheVariants as what
use Rattle.xd_value.specs.declared.fault.StepFault.{StepFault}
use Rattle.xd_value.specs.declared.fault.StepFault.TheVariants as fault

-- Seats are two lists side by side.

pub seats_push : (vs : List Value) (ms : List Mark) (v : Value) (m : Mark) → length vs ≡ length ms → marked_values (vs ++ v ∷ []) (ms ++ m ∷ []) ≡ marked_values vs ms ++ seat v m ∷ []
seats_push [] [] v m even = refl
seats_push [] (n ∷ ms) v m even = absurd (omega (arith, even))
seats_push (u ∷ vs) [] v m even = absurd (omega (arith, even))
seats_push (u ∷ vs) (n ∷ ms) v m even = ap (λ (ss : List Seat). seat u n ∷ ss) (seats_push vs ms v m (omega (arith, even)))

length_seats : (vs : List Value) (ms : List Mark) → length vs ≡ length ms → length (marked_values vs ms) ≡ length vs
length_seats [] ms even = refl
length_seats (v ∷ vs) [] even = absurd (omega (arith, even))
length_seats (v ∷ vs) (m ∷ ms) even = ap suc (length_seats vs ms (omega (arith, even)))

seats_take : (n : ℕ) (vs : List Value) (ms : List Mark) → take n (marked_values vs ms) ≡ marked_values (take n vs) (take n ms)
seats_take zero vs ms = refl
seats_take (suc n) [] ms = refl
seats_take (suc n) (v ∷ vs) [] = refl
seats_take (suc n) (v ∷ vs) (m ∷ ms) = ap (λ (ss : List Seat). seat v m ∷ ss) (seats_take n vs ms)

seats_none : (vs : List Value) → marked_values vs [] ≡ []
seats_none [] = refl
seats_none (v ∷ vs) = refl

seats_drop : (n : ℕ) (vs : List Value) (ms : List Mark) → drop n (marked_values vs ms) ≡ marked_values (drop n vs) (drop n ms)
seats_drop zero vs ms = refl
seats_drop (suc n) [] ms = refl
seats_drop (suc n) (v ∷ vs) [] = sym (seats_none (drop n vs))
seats_drop (suc n) (v ∷ vs) (m ∷ ms) = seats_drop n vs ms

seats_set : (i : ℕ) (vs : List Value) (ms : List Mark) (v : Value) (m : Mark) → marked_values (set vs i v) (set ms i m) ≡ set (marked_values vs ms) i (seat v m)
seats_set i [] ms v m = refl
seats_set zero (u ∷ vs) [] v m = refl
seats_set (suc i) (u ∷ vs) [] v m = refl
seats_set zero (u ∷ vs) (n ∷ ms) v m = refl
seats_set (suc i) (u ∷ vs) (n ∷ ms) v m = ap (λ (ss : List Seat). seat u n ∷ ss) (seats_set i vs ms v m)

seat_at : (i : ℕ) (vs : List Value) (ms : List Mark) (v : Value) (m : Mark) → length vs ≡ length ms → get_or (marked_values vs ms) i (seat v m) ≡ seat (get_or vs i v) (get_or ms i m)
seat_at i [] [] v m even = refl
seat_at i [] (n ∷ ms) v m even = absurd (omega (arith, even))
seat_at i (u ∷ vs) [] v m even = absurd (omega (arith, even))
seat_at zero (u ∷ vs) (n ∷ ms) v m even = refl
seat_at (suc i) (u ∷ vs) (n ∷ ms) v m even = seat_at i vs ms v m (omega (arith, even))

-- What is kept fits each of several seats.

fits_push : (ss : List Seat) (s : Seat) → EachFits ss → MarkFits s → EachFits (ss ++ s ∷ [])
fits_push [] s each fit = (fit, tt)
fits_push (t ∷ ss) s each fit = (each.0, fits_push ss s each.1 fit)

fits_take : (n : ℕ) (ss : List Seat) → EachFits ss → EachFits (take n ss)
fits_take zero ss each = tt
fits_take (suc n) [] each = tt
fits_take (suc n) (s ∷ ss) each = (each.0, fits_take n ss each.1)

fits_drop : (n : ℕ) (ss : List Seat) → EachFits ss → EachFits (drop n ss)
fits_drop zero ss each = each
fits_drop (suc n) [] each = tt
fits_drop (suc n) (s ∷ ss) each = fits_drop n ss each.1

fits_set : (i : ℕ) (ss : List Seat) (s : Seat) → EachFits ss → MarkFits s → EachFits (set ss i s)
fits_set i [] s each fit = tt
fits_set zero (t ∷ ss) s each fit = (fit, each.1)
fits_set (suc i) (t ∷ ss) s each fit = (each.0, fits_set i ss s each.1 fit)

fits_at : (i : ℕ) (ss : List Seat) (s : Seat) → i < length ss → EachFits ss → MarkFits (get_or ss i s)
fits_at i [] s inside each = absurd (omega (arith, inside))
fits_at zero (t ∷ ss) s inside each = each.0
fits_at (suc i) (t ∷ ss) s inside each = fits_at i ss s (omega (arith, inside)) each.1

-- A push.

pub cells_push : (ss : List Seat) (s : Seat) → cells (ss ++ s ∷ []) ≡ cell_of s ∷ cells ss
cells_push ss s = ap reverse (map-append cell_of ss (s ∷ [])) ∙ reverse-append (map cell_of ss) (cell_of s ∷ [])

pub pushed_cells : (vs ws : List Value) (ms ns : List Mark) (v : Value) (m : Mark) → ws ≡ vs ++ v ∷ [] → ns ≡ ms ++ m ∷ [] → AreSeats vs ms → cells (marked_values ws ns) ≡ cell_of (seat v m) ∷ cells (marked_values vs ms)
pushed_cells vs ws ms ns v m values marks are = rw (values, marks) (ap cells (seats_push vs ms v m are.even) ∙ cells_push (marked_values vs ms) (seat v m))

pub pushed_seats : (vs ws : List Value) (ms ns : List Mark) (v : Value) (m : Mark) → ws ≡ vs ++ v ∷ [] → ns ≡ ms ++ m ∷ [] → AreSeats vs ms → MarkFits (seat v m) → AreSeats ws ns
pushed_seats vs ws ms ns v m values marks are fit =
    rw (values, marks) (record { even = omega (arith, are.even, length-append vs (v ∷ []), length-append ms (m ∷ [])); fit = subst EachFits (sym (seats_push vs ms v m are.even)) (fits_push (marked_values vs ms) (seat v m) are.fit fit) })

-- Taking the last value off.

fits_apart : (ss : List Seat) (s : Seat) → EachFits (ss ++ s ∷ []) → EachFits ss × MarkFits s
fits_apart [] s each = (tt, each.0)
fits_apart (t ∷ ss) s each = ((each.0, (fits_apart ss s each.1).0), (fits_apart ss s each.1).1)

-- what is left, and the value that was taken off
pub record Popped (vs ws : List Value) (ms ns : List Mark) (v : Value) (m : Mark) : Type 0 where
  pub left : AreSeats ws ns
  pub fit : MarkFits (seat v m)
  pub cells_are : cells (marked_values vs ms) ≡ cell_of (seat v m) ∷ cells (marked_values ws ns)

pub popped : (vs ws : List Value) (ms ns : List Mark) (v : Value) (m : Mark) → vs ≡ ws ++ v ∷ [] → ms ≡ ns ++ m ∷ [] → AreSeats vs ms → Popped vs ws ms ns v m
popped vs ws ms ns v m values marks are =
    let even : length ws ≡ length ns = omega (arith, are.even, ap length values, ap length marks, length-append ws (v ∷ []), length-append ns (m ∷ [])) in
    let all : marked_values vs ms ≡ marked_values ws ns ++ seat v m ∷ [] = rw (values, marks) (seats_push ws ns v m even) in
    let apart = fits_apart (marked_values ws ns) (seat v m) (subst EachFits all are.fit) in
    record { left = record { even = even; fit = apart.0 }; fit = apart.1; cells_are = ap cells all ∙ cells_push (marked_values ws ns) (seat v m) }

-- The last values.

cells_join : (a b : List Seat) → cells (a ++ b) ≡ reverse (map cell_of b) ++ cells a
cells_join a b = ap reverse (map-append cell_of a b) ∙ reverse-append (map cell_of a) (map cell_of b)

record Split (n k : ℕ) (ss : List Seat) : Type 0 where
  long : n ≤ length (cells ss)
  last : last_cells n (cells ss) ≡ map cell_of (drop k ss)
  rest : drop n (cells ss) ≡ cells (take k ss)

split_at : (n k : ℕ) (ss : List Seat) → k + n ≡ length ss → Split n k ss
split_at n k ss e =
    let a = take k ss in
    let b = drop k ss in
    let ws = reverse (map cell_of b) in
    let joined : cells ss ≡ ws ++ cells a = ap cells (sym (take-append-drop k ss)) ∙ cells_join a b in
    let len : length ws ≡ n = length-reverse (map cell_of b) ∙ length-map b cell_of ∙ omega (arith, length-drop k ss, e) in
    record {
      long = omega (arith, ap length joined, length-append ws (cells a), len);
      last = ap (λ (x : List Cell). reverse (take n x)) joined ∙ ap reverse (take_at ws (cells a) n len) ∙ reverse-reverse (map cell_of b);
      rest = ap (drop n) joined ∙ drop_at ws (cells a) n len;
    }

short_seats : (vs : List Value) (ms : List Mark) → length vs ≡ length ms → list_any is_short (map cell_of (marked_values vs ms)) ≡ list_any is_mark_short ms
short_seats [] [] even = refl
short_seats [] (m ∷ ms) even = absurd (omega (arith, even))
short_seats (v ∷ vs) [] even = absurd (omega (arith, even))
short_seats (v ∷ vs) (m ∷ ms) even = ap (λ (b : Bool). is_mark_short m || b) (short_seats vs ms (omega (arith, even)))

values_seats : (vs : List Value) (ms : List Mark) → length vs ≡ length ms → values_of (map cell_of (marked_values vs ms)) ≡ views vs
values_seats [] ms even = refl
values_seats (v ∷ vs) [] even = absurd (omega (arith, even))
values_seats (v ∷ vs) (m ∷ ms) even = ap (λ (x : Trees). tree (view v) x) (values_seats vs ms (omega (arith, even)))

deepest_seats : (vs : List Value) (ms : List Mark) → length vs ≡ length ms → EachFits (marked_values vs ms) → deepest ms ≡ trees_depth (views vs)
deepest_seats [] [] even each = refl
deepest_seats [] (m ∷ ms) even each = absurd (omega (arith, even))
deepest_seats (v ∷ vs) [] even each = absurd (omega (arith, even))
deepest_seats (v ∷ vs) (m ∷ ms) even each = ap (λ (d : ℕ). max d (deepest ms)) each.0.measured ∙ ap (max (depth (view v))) (deepest_seats vs ms (omega (arith, even)) each.1)

even_drop : (n : ℕ) (vs : List Value) (ms : List Mark) → length vs ≡ length ms → length (drop n vs) ≡ length (drop n ms)
even_drop n vs ms even = length-drop n vs ∙ ap (λ (k : ℕ). k - n) even ∙ sym (length-drop n ms)

even_take : (n : ℕ) (vs : List Value) (ms : List Mark) → length vs ≡ length ms → length (take n vs) ≡ length (take n ms)
even_take zero vs ms even = refl
even_take (suc n) [] [] even = refl
even_take (suc n) [] (m ∷ ms) even = absurd (omega (arith, even))
even_take (suc n) (v ∷ vs) [] even = absurd (omega (arith, even))
even_take (suc n) (v ∷ vs) (m ∷ ms) even = ap suc (even_take n vs ms (omega (arith, even)))

short_from : (k : ℕ) (vs : List Value) (ms : List Mark) → length vs ≡ length ms → list_any is_short (map cell_of (drop k (marked_values vs ms))) ≡ list_any is_mark_short (drop k ms)
short_from k vs ms even = ap (λ (ss : List Seat). list_any is_short (map cell_of ss)) (seats_drop k vs ms) ∙ short_seats (drop k vs) (drop k ms) (even_drop k vs ms even)

take_parts_fails : (n k : ℕ) (ss : List Seat) → k + n ≡ length ss → list_any is_short (map cell_of (drop k ss)) ≡ true → take_parts n (cells ss) ≡ Err what.ListOrder
unfolding take_parts
take_parts_fails n k ss e h =
    let s = split_at n k ss e in
    rw (le-ltb (length (cells ss)) n s.long, s.last, h) refl

take_parts_gives : (n k : ℕ) (ss : List Seat) → k + n ≡ length ss → list_any is_short (map cell_of (drop k ss)) ≡ false → take_parts n (cells ss) ≡ Ok (values_of (map cell_of (drop k ss)), cells (take k ss))
unfolding take_parts
take_parts_gives n k ss e h =
    let s = split_at n k ss e in
    rw (le-ltb (length (cells ss)) n s.long, s.last, s.rest, h) refl

pub too_few_parts : (n : ℕ) (vs : List Value) (ms : List Mark) → AreSeats vs ms → length vs < n → take_parts n (cells (marked_values vs ms)) ≡ Err what.Misplaced
unfolding take_parts
too_few_parts n vs ms are few =
    let count : length (cells (marked_values vs ms)) ≡ length vs = length-reverse (map cell_of (marked_values vs ms)) ∙ length-map (marked_values vs ms) cell_of ∙ length_seats vs ms are.even in
    rw (count, lt-ltb (length vs) n few) refl

pub take_refused : (n k : ℕ) (vs : List Value) (ms : List Mark) → AreSeats vs ms → k + n ≡ length vs → list_any is_mark_short (drop k ms) ≡ true → take_parts n (cells (marked_values vs ms)) ≡ Err what.ListOrder
take_refused n k vs ms are e h = take_parts_fails n k (marked_values vs ms) (e ∙ sym (length_seats vs ms are.even)) (short_from k vs ms are.even ∙ h)

pub taken_values : (n k : ℕ) (vs : List Value) (ms : List Mark) → AreSeats vs ms → k + n ≡ length vs → list_any is_mark_short (drop k ms) ≡ false → take_parts n (cells (marked_values vs ms)) ≡ Ok (views (drop k vs), cells (marked_values (take k vs) (take k ms)))
taken_values n k vs ms are e h =
    let values : values_of (map cell_of (drop k (marked_values vs ms))) ≡ views (drop k vs) =
    ap (λ (ss : List Seat). values_of (map cell_of ss)) (seats_drop k vs ms) ∙ values_seats (drop k vs) (drop k ms) (even_drop k vs ms are.even) in
    let left : cells (take k (marked_values vs ms)) ≡ cells (marked_values (take k vs) (take k ms)) = ap cells (seats_take k vs ms) in
    take_parts_gives n k (marked_values vs ms) (e ∙ sym (length_seats vs ms are.even)) (short_from k vs ms are.even ∙ h) ∙ rw (values, left) refl

pub taken_depth : (k : ℕ) (vs : List Value) (ms : List Mark) → AreSeats vs ms → deepest (drop k ms) ≡ trees_depth (views (drop k vs))
taken_depth k vs ms are = deepest_seats (drop k vs) (drop k ms) (even_drop k vs ms are.even) (subst EachFits (seats_drop k vs ms) (fits_drop k (marked_values vs ms) are.fit))

pub left_seats : (k : ℕ) (vs : List Value) (ms : List Mark) → AreSeats vs ms → AreSeats (take k vs) (take k ms)
left_seats k vs ms are = record { even = even_take k vs ms are.even; fit = subst EachFits (seats_take k vs ms) (fits_take k (marked_values vs ms) are.fit) }

-- SETITEM.

-- the last seat, and another in its place
record LastSeat (ss ts : List Seat) (x y : Seat) : Type 0 where
  below : List Cell
  before : cells ss ≡ cell_of x ∷ below
  after : cells ts ≡ cell_of y ∷ below

last_seat : (ss : List Seat) (i : ℕ) (d y : Seat) → i + 1 ≡ length ss → LastSeat ss (set ss i y) (get_or ss i d) y
last_seat ss i d y len =
    let x = get_or ss i d in
    let old : ss ≡ take i ss ++ x ∷ [] = sym (take_all (i + 1) ss (omega (arith, len))) ∙ take_more ss i d (omega (arith, len)) in
    let new : set ss i y ≡ take i ss ++ y ∷ [] = sym (take_all (i + 1) (set ss i y) (omega (arith, len, length-set ss i y))) ∙ take_more_set ss i y (omega (arith, len)) in
    record { below = cells (take i ss); before = ap cells old ∙ cells_push (take i ss) x; after = ap cells new ∙ cells_push (take i ss) y }

put_gives : (v k t c : Cell) (cs : List Cell) → put_one v k t.value t.missing ≡ Ok c → set_item (v ∷ k ∷ t ∷ cs) ≡ Ok (c ∷ cs)
unfolding set_item
put_gives v k t c cs h = rw h refl

put_fails : (v k t : Cell) (cs : List Cell) (e : StepFault) → Fails e (put_one v k t.value t.missing) → Fails e (set_item (v ∷ k ∷ t ∷ cs))
unfolding set_item
put_fails v k t cs (fault.Bad f) h = rw h refl
put_fails v k t cs fault.OutOfMemory h = h

-- fewer than three values

pub none_there : (cs : List Cell) → cs ≡ [] → set_item cs ≡ Err what.Misplaced
unfolding set_item
none_there cs none = rw none refl

pub one_there : (cs ds : List Cell) (x : Cell) → cs ≡ x ∷ ds → ds ≡ [] → set_item cs ≡ Err what.Misplaced
unfolding set_item
one_there cs ds x parts none = rw (parts, none) refl

pub two_there : (cs ds : List Cell) (x k : Cell) (vs : List Value) (ms : List Mark) → cs ≡ x ∷ ds → ds ≡ k ∷ cells (marked_values vs ms) → length vs ≡ 0 → set_item cs ≡ Err what.Misplaced
unfolding set_item
two_there cs ds x k [] ms parts more none = rw (parts, more) refl
two_there cs ds x k (v ∷ vs) ms parts more none = absurd (omega (arith, none))

-- the last of two lists side by side, and another in its place
last_there : (vs : List Value) (ms : List Mark) (i : ℕ) (v w : Value) (m n : Mark) → AreSeats vs ms → i + 1 ≡ length vs → v ≡ get_or vs i v → m ≡ get_or ms i m → LastSeat (marked_values vs ms) (marked_values (set vs i w) (set ms i n)) (seat v m) (seat w n)
last_there vs ms i v w m n are len value mark =
    let l = last_seat (marked_values vs ms) i (seat v m) (seat w n) (omega (arith, len, length_seats vs ms are.even)) in
    let same : get_or (marked_values vs ms) i (seat v m) ≡ seat v m = seat_at i vs ms v m are.even ∙ ap (λ (x : Value). seat x (get_or ms i m)) (sym value) ∙ ap (λ (x : Mark). seat v x) (sym mark) in
    record { below = l.below; before = l.before ∙ ap (λ (s : Seat). cell_of s ∷ l.below) same; after = ap cells (seats_set i vs ms w n) ∙ l.after }

pub fits_last : (vs : List Value) (ms : List Mark) (i : ℕ) (v : Value) (m : Mark) → AreSeats vs ms → i + 1 ≡ length vs → v ≡ get_or vs i v → m ≡ get_or ms i m → MarkFits (seat v m)
fits_last vs ms i v m are len value mark =
    let same : get_or (marked_values vs ms) i (seat v m) ≡ seat v m = seat_at i vs ms v m are.even ∙ ap (λ (x : Value). seat x (get_or ms i m)) (sym value) ∙ ap (λ (x : Mark). seat v x) (sym mark) in
    subst MarkFits same (fits_at i (marked_values vs ms) (seat v m) (omega (arith, len, length_seats vs ms are.even)) are.fit)

-- where key and value go into the value below them
pub put_in_place : (cs ds : List Cell) (x k : Cell) (vs : List Value) (ms : List Mark) (i : ℕ) (v w : Value) (m l : Mark) → cs ≡ x ∷ ds → ds ≡ k ∷ cells (marked_values vs ms) → AreSeats vs ms → i + 1 ≡ length vs → v ≡ get_or vs i v → m ≡ get_or ms i m
    → put_one x k (view v) m.missing ≡ Ok (cell_of (seat w l)) → set_item cs ≡ Ok (cells (marked_values (set vs i w) (set ms i l)))
put_in_place cs ds x k vs ms i v w m l first second are len value mark h =
    let here = last_there vs ms i v w m l are len value mark in
    rw (first, second, here.before, here.after) (put_gives x k (cell_of (seat v m)) (cell_of (seat w l)) here.below h)

-- where they do not
pub put_refused : (cs ds : List Cell) (x k : Cell) (vs : List Value) (ms : List Mark) (i : ℕ) (v : Value) (m : Mark) (e : StepFault) → cs ≡ x ∷ ds → ds ≡ k ∷ cells (marked_values vs ms) → AreSeats vs ms → i + 1 ≡ length vs → v ≡ get_or vs i v → m ≡ get_or ms i m
    → Fails e (put_one x k (view v) m.missing) → Fails e (set_item cs)
put_refused cs ds x k vs ms i v m e first second are len value mark h =
    let here = last_there vs ms i v v m m are len value mark in
    rw (first, second, here.before) (put_fails x k (cell_of (seat v m)) here.below e h)

-- the stack that is left
pub put_seats : (vs : List Value) (ms : List Mark) (i : ℕ) (w : Value) (l : Mark) → AreSeats vs ms → MarkFits (seat w l) → AreSeats (set vs i w) (set ms i l)
put_seats vs ms i w l are fit =
    record { even = omega (arith, are.even, length-set vs i w, length-set ms i l); fit = subst EachFits (sym (seats_set i vs ms w l)) (fits_set i (marked_values vs ms) (seat w l) are.fit fit) }

-- STOP.

two_cells : (cs : List Cell) (r : List ℕ) → 2 ≤ length cs → stop_trouble cs r ≡ Some (0, what.Leftover)
two_cells [] r two = absurd (omega (arith, two))
two_cells (c ∷ []) r two = absurd (omega (arith, two))
two_cells (c ∷ d ∷ cs) r two = refl

pub several_left : (vs : List Value) (ms : List Mark) (r : List ℕ) → AreSeats vs ms → 2 ≤ length vs → stop_trouble (cells (marked_values vs ms)) r ≡ Some (0, what.Leftover)
several_left vs ms r are two =
    two_cells (cells (marked_values vs ms)) r (omega (arith, two, length-reverse (map cell_of (marked_values vs ms)), length-map (marked_values vs ms) cell_of, length_seats vs ms are.even))
