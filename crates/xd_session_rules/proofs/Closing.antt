-- The Shutdowns of a run that is finished.
use Rattle.std.proofs.Common.{◌≡◌, ℕ, List, [], ◌∷◌, ◌++◌, length, refl, ap, sym, subst, ◌∙◌, arith, Bool, true, false, not, append_assoc}
use Rattle.std.specs.Prelude.{if◌then◌else◌, ◌&&◌, ◌||◌, nat_lt, ◌==◌, is_none}
use Rattle.std.specs.List.{list_all}
use Rattle.std.proofs.lemmas.Grind.{fold-append}
use Rattle.std.proofs.lemmas.Bool.Decides.{nat_tests}
use Rattle.xd_journal.specs.declared.entry.Entry.{Entry}
use Rattle.xd_journal.specs.declared.entry.Entry.TheVariants.{Ready, Shutdown}
use Rattle.xd_journal.specs.declared.settings.Settings.{Settings}
use Rattle.xd_run.specs.declared.seat.Seat.{Seat}
use Rattle.xd_run.specs.Table.{Table, at_seat, shut_down}
use Rattle.xd_run.specs.Plan.{Plan}
use Rattle.xd_run.specs.Books.{Books, marked}
use Rattle.xd_run.specs.Workers.{made_ready, waiting}
use Rattle.xd_run.specs.Sharing.{State, in_books}
use Rattle.xd_run.specs.State.{is_input, state_at, no_one, settles, settled, after_entries, after_entry, after_effect, is_handed_out}
use Rattle.xd_run.specs.Outputs.{shut_all, closing, own_outputs}
use Rattle.xd_run.specs.Stops.{is_stopped, is_shutting}
use Rattle.xd_session_books.specs.Known.{Known}
use Rattle.xd_session_books.specs.Books.{told_to_shut, told_all, shutdowns}
use Rattle.xd_session_rules.specs.Rules.{At, DidClosing, Ruled}

pub after_entries-append : (s : State) (es fs : List Entry) → after_entries s (es ++ fs) ≡ after_entries (after_entries s es) fs
after_entries-append s es fs = fold-append after_entry s es fs

pub told-moved : (ws : List ℕ) (s : State) → after_entries s (shutdowns ws) ≡ in_books (told_all ws) s
told-moved [] s = refl
told-moved (w ∷ ws) s = told-moved ws (in_books (told_to_shut w) s)

-- who is told to shut down stops nothing
pub stop-told_all : (ws : List ℕ) (b : Books) → is_stopped (told_all ws b) ≡ is_stopped b
stop-told_all [] b = refl
stop-told_all (w ∷ ws) b = stop-told_all ws (told_to_shut w b)

all_few-shut : (w : ℕ) (ss : List Seat) → list_all (λ s. nat_lt (length s.held) 2) (at_seat w (λ s. record s { shut = true }) ss) ≡ list_all (λ s. nat_lt (length s.held) 2) ss
all_few-shut w [] = refl
all_few-shut w (s ∷ ss) = grind (arith, nat_tests, all_few-shut w ss)

pub is_finished-shut : (w : ℕ) (t : Table) (p : Plan) → is_handed_out (shut_down w t) p ≡ is_handed_out t p
is_finished-shut w t p = ap (λ b. (length t.pool == 0) && is_none p.steal && b) (all_few-shut w t.rota)

pub settles-told : (w : ℕ) (s : State) → settles (in_books (told_to_shut w) s) ≡ settles s
settles-told w s = ap (λ b. not (is_stopped s.books) && s.books.shared && b) (is_finished-shut w s.books.table s.plan)

pub settles-told_all : (ws : List ℕ) (s : State) → settles (in_books (told_all ws) s) ≡ settles s
settles-told_all [] s = refl
settles-told_all (w ∷ ws) s = settles-told_all ws (in_books (told_to_shut w) s) ∙ settles-told w s

or-true : (b : Bool) → (b || true) ≡ true
or-true true = refl
or-true false = refl

or-false : (b : Bool) → (b || false) ≡ b
or-false true = refl
or-false false = refl

and-false : (b : Bool) → (b && false) ≡ false
and-false true = refl
and-false false = refl

pick-no : {A : Type 0} (b : Bool) (x y : A) → b ≡ false → (if b then x else y) ≡ y
pick-no true x y h = cc
pick-no false x y h = refl

pick-yes : {A : Type 0} (b : Bool) (x y : A) → b ≡ true → (if b then x else y) ≡ x
pick-yes true x y h = refl
pick-yes false x y h = cc

at-same : (s : State) (b : Books) (k : Known) (stands : Plan → Type 0) → At s b k stands → (s.books.shutting || settles s) ≡ s.books.shutting → At (settled s) b k stands
at-same s b k stands a e = record {
  books_are = a.books_are ∙ ap (λ x. record (s.books) { shutting = x }) (sym e);
  known_is = a.known_is;
  stands_for = a.stands_for;
}

pub append-nil : (es : List Entry) → es ++ [] ≡ es
append-nil [] = refl
append-nil (e ∷ es) = ap (λ fs. e ∷ fs) (append-nil es)

closed-none : (s : State) (b : Books) (k : Known) (es : List Entry) (stands : Plan → Type 0) → At s b k stands → closing s ≡ [] → (s.books.shutting || settles s) ≡ s.books.shutting → DidClosing s b k es es stands
closed-none s b k es stands a none e = record {
  at = subst (λ fs. At (settled (after_entries s fs)) b k stands) (sym none) (at-same s b k stands a e);
  entries_are = sym (ap (λ fs. es ++ fs) none ∙ append-nil es);
}

pub closed-open : (s : State) (b : Books) (k : Known) (es : List Entry) (stands : Plan → Type 0) → At s b k stands → settles s ≡ false → DidClosing s b k es es stands
closed-open s b k es stands a h =
    let t : (not (is_shutting s.books) && settles s) ≡ false = ap (λ x. not (is_shutting s.books) && x) h ∙ and-false (not (is_shutting s.books)) in
    closed-none s b k es stands a (pick-no (not (is_shutting s.books) && settles s) (shut_all s.books.members) [] t) (ap (λ x. s.books.shutting || x) h ∙ or-false s.books.shutting)

shutting-of : (stopped shutting shared done : Bool) → (not stopped && shared && done) ≡ true → (stopped || shutting) ≡ true → (shutting || (not stopped && shared && done)) ≡ shutting
shutting-of true shutting shared done h k = cc
shutting-of false true shared done h k = refl
shutting-of false false shared done h k = cc

pub closed-shut : (s : State) (b : Books) (kn : Known) (es : List Entry) (stands : Plan → Type 0) → At s b kn stands → settles s ≡ true → is_shutting s.books ≡ true → DidClosing s b kn es es stands
closed-shut s b kn es stands a h k =
    let t : (not (is_shutting s.books) && settles s) ≡ false = ap (λ x. not x && settles s) k in
    closed-none s b kn es stands a (pick-no (not (is_shutting s.books) && settles s) (shut_all s.books.members) [] t) (shutting-of (is_stopped s.books) s.books.shutting s.books.shared (is_handed_out s.books.table s.plan) h k)

pub closed-now : (s : State) (b c d : Books) (kn : Known) (es fs : List Entry) (stands : Plan → Type 0) → At s b kn stands → settles s ≡ true → is_shutting s.books ≡ false
    → c ≡ told_all (waiting b.members) b → d ≡ record c { shutting = true } → fs ≡ es ++ shutdowns (waiting b.members) → DidClosing s d kn es fs stands
closed-now s b c d kn es fs stands a h k told_is shut_is notes =
    let ws : List ℕ = waiting s.books.members in
    let t : (not (is_shutting s.books) && settles s) ≡ true = ap (λ x. not x && settles s) k ∙ h in
    let out : closing s ≡ shutdowns ws = pick-yes (not (is_shutting s.books) && settles s) (shutdowns ws) [] t in
    let after : after_entries s (closing s) ≡ in_books (told_all ws) s = ap (after_entries s) out ∙ told-moved ws s in
    let mark : ((told_all ws s.books).shutting || settles (in_books (told_all ws) s)) ≡ true = ap (λ x. (told_all ws s.books).shutting || x) (settles-told_all ws s ∙ h) ∙ or-true (told_all ws s.books).shutting in
    let e : c ≡ told_all ws s.books = told_is ∙ ap (λ d. told_all (waiting d.members) d) a.books_are in
    let on : Books → Books = λ d. record d { shutting = true } in
    let fin : d ≡ (settled (in_books (told_all ws) s)).books = shut_is ∙ ap on e ∙ ap (λ x. record (told_all ws s.books) { shutting = x }) (sym mark) in
    record {
      at = subst (λ u. At (settled u) d kn stands) (sym after) (record { books_are = fin; known_is = a.known_is; stands_for = λ q. a.stands_for (sym (stop-told_all ws s.books) ∙ q) });
      entries_are = notes ∙ ap (λ d. es ++ shutdowns (waiting d.members)) a.books_are ∙ ap (λ gs. es ++ gs) (sym out);
    }

-- a rule is its own outputs and the closing
pub ruled : (s : State) (e : Entry) (b : Books) (k : Known) (old mid new : List Entry) (stands : Plan → Type 0)
    → DidClosing (after_entries (after_effect s e) (own_outputs s e (after_effect s e))) b k mid new stands → mid ≡ old ++ e ∷ own_outputs s e (after_effect s e) → Ruled s e b k old new stands
ruled s e b k old mid new stands c m =
    let t : State = after_effect s e in
    let own : List Entry = own_outputs s e t in
    let u : State = after_entries t own in
    record {
      at = subst (λ v. At (settled v) b k stands) (sym (after_entries-append t own (closing u))) c.at;
      entries_are = c.entries_are ∙ ap (λ xs. xs ++ closing u) m ∙ append_assoc old (e ∷ own) (closing u);
    }

stop-where : (q : Bool) (w : ℕ) (b : Books) → is_stopped (if q then told_to_shut w b else b) ≡ is_stopped b
stop-where true w b = refl
stop-where false w b = refl

pub own-where : (q : Bool) (t : State) (w : ℕ) → after_entries t (if q then Shutdown w ∷ [] else []) ≡ in_books (λ b. if q then told_to_shut w b else b) t
own-where true t w = refl
own-where false t w = refl

pub ready-at : (s : State) (w : ℕ) (b c : Books) (k : Known) (stands : Plan → Type 0) → At s b k stands
    → c ≡ (if is_shutting (marked (made_ready w) b) then told_to_shut w (marked (made_ready w) b) else marked (made_ready w) b)
    → At (after_entries (after_effect s (Ready w)) (own_outputs s (Ready w) (after_effect s (Ready w)))) c k stands
ready-at s w b c k stands a e =
    let t : State = after_effect s (Ready w) in
    let u = own-where (is_shutting t.books) t w in
    let f : Books → Books = λ d. if is_shutting (marked (made_ready w) d) then told_to_shut w (marked (made_ready w) d) else marked (made_ready w) d in
    let g : c ≡ f s.books = e ∙ ap f a.books_are in
    subst (λ v. At v c k stands) (sym u) (record { books_are = g; known_is = a.known_is; stands_for = λ q. a.stands_for (sym (stop-where (is_shutting t.books) w t.books) ∙ q) })

pub state-grown : (settings : Settings) (es outs : List Entry) (e : Entry) → is_input e ≡ true → state_at settings (es ++ e ∷ outs) ≡ settled (after_entries (after_effect (state_at settings es) e) outs)
state-grown settings es outs e h =
    let raw : State = after_entries (no_one settings) es in
    let a : after_entries (no_one settings) (es ++ e ∷ outs) ≡ after_entries raw (e ∷ outs) = after_entries-append (no_one settings) es (e ∷ outs) in
    let f : Bool → State = λ b. settled (after_entries (after_effect (if b then settled raw else raw) e) outs) in
    ap settled a ∙ ap f h
