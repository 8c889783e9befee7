-- No honest worker is accused.
use Rattle.std.proofs.Common.{◌≡◌, ℕ, zero, suc, ◌+◌, ◌≤◌, ◌<◌, List, [], ◌∷◌, ◌++◌, drop, length, Bool, true, false, not, ◌&&◌, ◌||◌, refl, ap, sym, ◌∙◌, subst, arith, append_assoc, inl, inr}
use Rattle.std.specs.Prelude.{◌⊎◌, ◌==◌, if◌then◌else◌, fold, Option, Some, None}
use Rattle.std.specs.List.{list_any}
use Rattle.std.proofs.lemmas.Bool.Decides.{nat_tests}
use Rattle.std.proofs.lemmas.Grind.{fold-append}
use Rattle.std.proofs.lemmas.List.{append-nil}
use Rattle.std.proofs.lemmas.List.Elements.{filter_map-append}
use Rattle.xd_journal.specs.declared.settings.Settings.{Settings}
use Rattle.xd_journal.specs.declared.entry.Cause.{Cause}
use Rattle.xd_journal.specs.declared.entry.Cause.TheVariants.{Breach}
use Rattle.xd_journal.specs.declared.entry.Entry.{Entry}
use Rattle.xd_journal.specs.declared.entry.Entry.TheVariants.{Down, NotStarted}
use Rattle.xd_journal.specs.declared.news.News.{News}
use Rattle.xd_journal.specs.declared.news.What.{What}
use Rattle.xd_journal.specs.declared.news.What.TheVariants as what
use Rattle.xd_journal.specs.Said.{is_breach}
use Rattle.xd_commands.specs.declared.order.Order.{Order}
use Rattle.xd_run.specs.Meaning.{breach, kept_at_death, log_of, meaning_of, spent_by}
use Rattle.xd_run.specs.Numbers.{all_among, first_of}
use Rattle.xd_run.specs.Plan.{UnansweredSteal}
use Rattle.xd_run.specs.Outputs.{outputs}
use Rattle.xd_run.specs.Proper.{IsProper, may_follow}
use Rattle.xd_run.specs.Sharing.{State}
use Rattle.xd_run.specs.State.{after_effect}
use Rattle.xd_run.specs.Table.{in_rota}
use Rattle.xd_run.specs.Workers.{is_active, made_gone, slot_of, was_ready}
use Rattle.xd_run_laws.proofs.Laws.{lawful}
use Rattle.xd_run_laws.proofs.Logic.{and, cases_of, differ, or-false}
use Rattle.xd_run_laws.proofs.Members.{has, has-cleared, has-member, has-same}
use Rattle.xd_run_laws.proofs.Turns.{Tidy}
use Rattle.xd_session.specs.History.{IsProperRun, Run as SoFar, after_news, begun_run, input_of, run_of, said_by}
use Rattle.xd_session.proofs.Steps.{run-more, run-taken, sound-run}
use Rattle.xd_system.specs.LineGiven.{are_fair, steals_asked}
use Rattle.xd_system.specs.Fits.{FitsNext, holds}
use Rattle.xd_system.specs.Moment.{IsFirstPart, IsCutShort, IsHonestAt, LinkNow, TookOf, told_so_far}
use Rattle.xd_system.specs.Own.{answer_of_news, answers_by, answers_in, outcomes_by, ends_in, collections_in, collection_of_news, is_accused, is_breach_of, order_told, told_to}
use Rattle.xd_system.specs.Tells.{orders_of, tells}
use Rattle.xd_system.specs.Laws.{NeverAccused}
use Rattle.xd_system.proofs.Accepts.{Known, accepts}
use Rattle.xd_system.proofs.Allowed.{allows}
use Rattle.xd_system.proofs.Deal.{Deal, asked_of, is_quiet, size_at}
use Rattle.xd_system.proofs.Echo.{Echo, entry_of, is_ready_news}
use Rattle.xd_system.proofs.Frames.{quiet-fair, quiet-line}
use Rattle.xd_system.proofs.Marks.{MarksSo}
use Rattle.xd_system.proofs.Runs.{HonestSoFar, added, deals-at, entries-added, input-own, honest-begun, marks-at, next, state-after}
use Rattle.xd_system.proofs.Silent.{Silent, keeps_silent}
use Rattle.xd_system.proofs.Sizes.{size-listed}
use Rattle.xd_system.proofs.Walks.{onward}
use Rattle.xd_system.proofs.Worker.{SizedBy, call_is, tells_fit}
use Rattle.xd_system.proofs.Said.{said-join, said-own}

-- the same is held whatever the size, where nothing but a Shutdown was told

quiet-holds : (a b : ℕ) (orders : List Order) (news : List What) → is_quiet orders ≡ true
    → holds a orders news ≡ holds b orders news
quiet-holds a b orders news q =
    ap (drop (length (ends_in news))) (quiet-line a orders (answers_in news) q ∙ sym (quiet-line b orders (answers_in news) q))

fits-any : (a b : ℕ) (orders : List Order) (news : List What) → holds a orders news ≡ holds b orders news → (x : What)
    → FitsNext a orders news x → FitsNext b orders news x
fits-any a b orders news h what.Ready f = f
fits-any a b orders news h (what.Collected i) f = f
fits-any a b orders news h (what.LogStart n m) f =
    record { head = subst (λ (l : List ℕ). first_of l ≡ Some n) h f.head; once = f.once; even = f.even; above = f.above }
fits-any a b orders news h (what.Piece n c) f = f
fits-any a b orders news h (what.LogClosed n) f = f
fits-any a b orders news h (what.Done n o m) f =
    record { head = subst (λ (l : List ℕ). first_of l ≡ Some n) h f.head; logged = f.logged; closed = f.closed }
fits-any a b orders news h (what.Back n) f =
    record { asked = f.asked; later = f.later; next = f.next; is = f.is; waits = subst (λ (l : List ℕ). all_among n (drop 1 l) ≡ true) h f.waits }
fits-any a b orders news h what.Finished f = record { told = f.told; collected = f.collected; none = sym h ∙ f.none }
fits-any a b orders news h (what.Closed None) f = f
fits-any a b orders news h (what.Closed (Some t)) f = f
fits-any a b orders news h what.Stray f = f
fits-any a b orders news h (what.Gone c) f = f
fits-any a b orders news h what.NotStarted f = f

pub drop-short : {A : Type 0} (n : ℕ) (xs : List A) → length (drop n xs) ≤ 1 → length xs ≤ n + 1
drop-short zero xs h = omega (arith, h)
drop-short (suc n) [] h = omega arith
drop-short (suc n) (x ∷ xs) h = (let k = drop-short n xs h in omega (arith, k))

pub short-asked : (w : ℕ) (o : Option UnansweredSteal) → length (asked_of w o) ≤ 1
short-asked w None = omega arith
short-asked w (Some a) = go (a.worker == w)
  where
    go : (b : Bool) → length (if b then a.tests ∷ [] else []) ≤ 1
    go true = omega arith
    go false = omega arith

-- where in a list that ends with one more a piece stands
pub at-last : (xs ys ks : List What) (x y : What) → xs ++ x ∷ ys ≡ ks ++ y ∷ []
    → ((later : List What) × (ks ≡ xs ++ x ∷ later)) ⊎ ((x ≡ y) × (ks ≡ xs))
at-last [] ys [] x y e = (let h : x ≡ y = cc in inr (h, refl))
at-last [] ys (k ∷ ks) x y e = (let h : x ≡ k = cc in inl (ks, ap (λ (z : What). z ∷ ks) (sym h)))
at-last (z ∷ xs) ys [] x y e = absurd (let t : xs ++ x ∷ ys ≡ [] = cc in empty xs t)
  where
    empty : (bs : List What) → bs ++ x ∷ ys ≡ [] → ⊥
    empty [] h = cc
    empty (b ∷ bs) h = cc
at-last (z ∷ xs) ys (k ∷ ks) x y e =
    let head : z ≡ k = cc in
    let tail : xs ++ x ∷ ys ≡ ks ++ y ∷ [] = cc in
    elim (at-last xs ys ks x y tail) [
      | inl a ↦ inl (a.0, ap (λ (q : What). q ∷ ks) (sym head) ∙ ap (λ (l : List What). z ∷ l) a.1)
      | inr a ↦ inr (a.0, ap (λ (q : What). q ∷ ks) (sym head) ∙ ap (λ (l : List What). z ∷ l) a.1)
    ]

breach-of : (w : ℕ) (e : Entry) → is_breach_of w e ≡ true → (b : List ℕ) × (e ≡ Down w Breach b)
breach-of w (Down v Breach b) h =
    (let same : v ≡ w = grind (arith, nat_tests, h) in (b, ap (λ (u : ℕ). Down u Breach b) same))
breach-of w e h = absurd (differ h)

pub entries-fold : (r : SoFar) (post : List News)
    → (more : List Entry) × ((fold after_news r post).entries ≡ r.entries ++ more)
entries-fold r [] = ([], sym (append-nil r.entries))
entries-fold r (n ∷ post) =
    let k = entries-fold (after_news r n) post in
    (added r (input_of r n) ++ k.0, k.1 ∙ ap (λ (l : List Entry). l ++ k.0) (entries-added r (input_of r n)) ∙ append_assoc r.entries (added r (input_of r n)) k.0)

pub took-cases : (b : Bool) (took told : List What) → TookOf b took told
    → IsFirstPart took told ⊎ (IsCutShort took told ⊎ (took ≡ what.NotStarted ∷ []))
took-cases true took told t = inl t
took-cases false took told t = t

module _ (settings : Settings) (taken : List News) (w : ℕ) (l : LinkNow) (proper : IsProper settings []) (h : IsHonestAt settings taken w l) where
  module _ (pre : List News) (n : News) (post : List News) (split : taken ≡ pre ++ n ∷ post) (own : (n.worker == w) ≡ true) (sofar : HonestSoFar w (run_of settings pre)) (active : is_active w (run_of settings pre).state.books ≡ true) where
    abbrev r : SoFar
    r = run_of settings pre

    sound : IsProperRun settings (run_of settings pre)
    sound = sound-run settings pre proper

    abbrev x : What
    x = n.what

    abbrev said : List What
    said = said_by w pre

    echo : Echo w r.entries said
    echo = subst (λ (t : List News). Echo w r.entries (said_by w t)) (run-taken settings pre) (sofar.echo active)

    said-all : said_by w taken ≡ said ++ x ∷ said_by w post
    said-all = ap (said_by w) split ∙ said-join w pre (n ∷ post)
        ∙ ap (λ (z : List What). said ++ z) (said-join w (n ∷ []) post ∙ ap (λ (z : List What). z ++ said_by w post) (said-own w n own))

    input-is : input_of r n ≡ meaning_of w (log_of said) (spent_by r.entries) r.state x
    input-is = input-own settings r n sound w own active
        ∙ ap (λ (t : List News). meaning_of w (log_of (said_by w t)) (spent_by r.entries) r.state x) (run-taken settings pre)

    marks : MarksSo w r.state r.entries
    marks = marks-at settings r n sound w

    known : Known w r.state r.entries said
    known = record {
      answers = echo.answers;
      ended = echo.ended;
      first = λ e. marks.ready ∙ sym echo.ready ∙ ap (list_any is_ready_news) e;
      second = λ e. marks.ready ∙ sym echo.ready ∙ ap (list_any is_ready_news) e;
      collected = marks.collected ∙ sym echo.collected;
    }

    deal : Deal w r.state r.entries
    deal = (deals-at settings r n sound w).active active

    -- what may come is no breach
    fine-by : FitsNext (size_at w r.state) (told_to w r.entries) said x
        → is_accused w (entry_of (input_of r n)) ≡ false
    fine-by f = elim (accepts w r.state r.entries said (spent_by r.entries) active deal known x f) [
      | inl e ↦ ap (λ (o : Option Entry). is_accused w (entry_of o)) (input-is ∙ e)
      | inr e ↦ ap (λ (o : Option Entry). is_accused w (entry_of o)) (input-is ∙ e.1) ∙ ap (λ (b : Bool). b || false) e.2
    ]

    tidy : Tidy r.state
    tidy = subst Tidy (sym sound.state) (lawful settings r.inputs sound.proper).tidy

    -- the worker told this news, and it is taken for a breach
    module _ (later : List What) (told_is : told_so_far l ≡ said ++ x ∷ later) (accused : is_accused w (entry_of (input_of r n)) ≡ true) where
      breaks : (b : List ℕ) × (input_of r n ≡ Some (Down w Breach b))
      breaks = go (input_of r n) refl accused
        where
          go : (o : Option Entry) → input_of r n ≡ o → is_accused w (entry_of o) ≡ true
              → (b : List ℕ) × (input_of r n ≡ Some (Down w Breach b))
          go None e k = absurd (differ k)
          go (Some e) q k = (let d = breach-of w e (sym (or-false (is_breach_of w e)) ∙ k) in (d.0, q ∙ ap Some d.1))

      abbrev ending : Entry
      ending = Down w Breach breaks.0

      -- nothing is told to it after that
      told-last : told_to w (run_of settings taken).entries ≡ told_to w r.entries
      told-last =
          let end = run_of settings taken in
          let f = entries-fold (after_news r n) post in
          let is : end ≡ fold after_news (after_news r n) post =
          ap (run_of settings) (split ∙ sym (append_assoc pre (n ∷ []) post))
          ∙ fold-append after_news (begun_run settings) (pre ++ n ∷ []) post
          ∙ ap (λ (q : SoFar). fold after_news q post) (run-more settings pre n) in
          let entries : end.entries ≡ (r.entries ++ ending ∷ []) ++ (outputs r.state ending ++ f.0) =
          ap (λ (q : SoFar). q.entries) is ∙ f.1
          ∙ ap (λ (es : List Entry). es ++ f.0) (entries-added r (input_of r n) ∙ ap (λ (o : Option Entry). r.entries ++ added r o) breaks.1)
          ∙ append_assoc r.entries (ending ∷ outputs r.state ending) f.0
          ∙ sym (append_assoc r.entries (ending ∷ []) (outputs r.state ending ++ f.0)) in
          let same : (w == w) ≡ true = grind (arith, nat_tests) in
          let silent : Silent w (told_to w r.entries) (outcomes_by w (r.entries ++ ending ∷ [])) (after_effect r.state ending) (r.entries ++ ending ∷ []) = record {
            member = has-same w (λ m. true) (made_gone w) r.state.books.members (λ m. refl) (λ m. refl)
                ∙ has-member w (λ m. m.active) r.state.books.members active;
            gone = has-cleared w w (λ m. m.active) (made_gone w) r.state.books.members (λ m. refl) (λ m. refl)
                ∙ ap (λ (b : Bool). not b && has w (λ m. m.active) r.state.books.members) same;
            told = filter_map-append (order_told w) r.entries (ending ∷ []) ∙ append-nil (told_to w r.entries);
            dones = refl;
          } in
          (onward settings end (Silent w (told_to w r.entries) (outcomes_by w (r.entries ++ ending ∷ []))) (keeps_silent settings w (told_to w r.entries) (outcomes_by w (r.entries ++ ending ∷ []))) (sound-run settings taken proper) (r.entries ++ ending ∷ []) (outputs r.state ending ++ f.0) entries
          (subst (λ (s : State). Silent w (told_to w r.entries) (outcomes_by w (r.entries ++ ending ∷ [])) s (r.entries ++ ending ∷ [])) (sym (state-after settings r n sound w ending refl)) silent)).told

      orders : IsFirstPart (orders_of l.given) (told_to w r.entries)
      orders = subst (IsFirstPart (orders_of l.given)) told-last h.orders

      tells-are : tells l.given ≡ said ++ x ∷ later
      tells-are = go l.called refl told_is
        where
          empty : (xs : List What) → [] ≡ xs ++ x ∷ later → ⊥
          empty [] e = cc
          empty (y ∷ xs) e = cc

          go : (b : Bool) → l.called ≡ b → (if b then tells l.given else []) ≡ said ++ x ∷ later
              → tells l.given ≡ said ++ x ∷ later
          go true e k = k
          go false e k = absurd (empty said k)

      -- so it may come, where the sizes agree
      fits-size : (size : ℕ) → are_fair size [] (told_to w r.entries) (answers_by w r.entries) ≡ true
          → SizedBy size (tells l.given) → FitsNext size (told_to w r.entries) said x
      fits-size size fair sized =
          let A = told_to w r.entries in
          let given = answers_in (tells l.given) in
          let one : length (steals_asked A) ≤ length (answers_by w r.entries) + 1 =
          drop-short (length (answers_by w r.entries)) (steals_asked A) (subst (λ (z : List (List ℕ)). length z ≤ 1) deal.open_steal (short-asked w r.state.plan.steal)) in
          let begins : IsFirstPart (answers_by w r.entries) given =
          (answers_in (x ∷ later), ap answers_in tells-are ∙ filter_map-append answer_of_news said (x ∷ later) ∙ ap (λ (z : List (List ℕ)). z ++ answers_in (x ∷ later)) echo.answers) in
          let allow = allows size A (answers_by w r.entries) given fair one begins deal.last in
          let call = call_is size A given allow l.given (tells l.given) h.comes sized ([], sym (append-nil (tells l.given))) orders ([], sym (append-nil given)) in
          tells_fit size A given allow l.given call A orders deal.last said x later tells-are

      -- in the rota of a shared run
      placed-so : in_rota w r.state.books.table ≡ true → r.state.books.shared ≡ true → ⊥
      placed-so rota shared =
          let k = sofar.sized active (tidy.placed.fits.collected w rota) in
          let low : slot_of w r.state.books < r.state.books.settings.workers = tidy.members.below w (has-member w (λ m. m.active) r.state.books.members active) in
          let size : size_at w r.state ≡ length k.own = size-listed w r.state k.is.listing shared low
          ∙ k.is.joined rota in
          let first : collections_in said ≡ k.own ∷ k.rest = ap (λ (t : List News). collections_in (said_by w t)) (sym (run-taken settings pre))
          ∙ k.ids in
          let all : collections_in (tells l.given) ≡ k.own ∷ (k.rest ++ collections_in (x ∷ later)) =
          ap collections_in tells-are ∙ filter_map-append collection_of_news said (x ∷ later)
          ∙ ap (λ (z : List (List (List ℕ))). z ++ collections_in (x ∷ later)) first in
          let sized : SizedBy (size_at w r.state) (tells l.given) = λ ids rest e. (let both : k.own ∷ (k.rest ++ collections_in (x ∷ later)) ≡ ids ∷ rest = sym all ∙ e in
          let same : k.own ≡ ids = cc in ap length (sym same) ∙ sym size) in
          differ (sym (fine-by (fits-size (size_at w r.state) deal.fair sized)) ∙ accused)

      -- or nothing but a Shutdown was told
      quiet-so : is_quiet (told_to w r.entries) ≡ true → ⊥
      quiet-so q = go (collections_in (tells l.given)) refl
        where
          by-size : (size : ℕ) → SizedBy size (tells l.given) → ⊥
          by-size size sized =
              let A = told_to w r.entries in
              let f = fits-size size (quiet-fair size A (answers_by w r.entries) q) sized in
              differ (sym (fine-by (fits-any size (size_at w r.state) A said (quiet-holds size (size_at w r.state) A said q) x f)) ∙ accused)

          go : (i : List (List (List ℕ))) → collections_in (tells l.given) ≡ i → ⊥
          go [] e = by-size 0 (λ ids rest k. absurd (let z : [] ≡ ids ∷ rest = sym e ∙ k in cc))
          go (own_ ∷ rest_) e =
              by-size (length own_) (λ ids rest k. (let z : own_ ∷ rest_ ≡ ids ∷ rest = sym e ∙ k in let same : own_ ≡ ids = cc in ap length (sym same)))

      never : ⊥
      never = elim (cases_of (in_rota w r.state.books.table)) [
        | inr a ↦ quiet-so (deal.early a)
        | inl a ↦ (elim (cases_of r.state.books.shared) [ inl b ↦ placed-so a b | inr b ↦ quiet-so (deal.unshared b) ])
      ]

    told-fine : (later : List What) → told_so_far l ≡ said ++ x ∷ later
        → is_accused w (entry_of (input_of r n)) ≡ false
    told-fine later e =
        elim (cases_of (is_accused w (entry_of (input_of r n)))) [ inl a ↦ absurd (never later e a) | inr a ↦ a ]

    -- the end of the link
    gone-fine : (cause : Cause) → x ≡ what.Gone cause → is_breach (what.Gone cause) ≡ false
        → is_accused w (entry_of (input_of r n)) ≡ false
    gone-fine cause e k =
        ap (λ (o : Option Entry). is_accused w (entry_of o)) (input-is ∙ ap (meaning_of w (log_of said) (spent_by r.entries) r.state) e)
        ∙ go cause k
      where
        go : (c : Cause) → is_breach (what.Gone c) ≡ false
            → is_accused w (Down w c (kept_at_death w (log_of said) (spent_by r.entries) r.state) ∷ []) ≡ false
        go Breach q = absurd (differ (sym q))
        go _ q = refl

    unstarted-fine : x ≡ what.NotStarted → said ≡ [] → is_accused w (entry_of (input_of r n)) ≡ false
    unstarted-fine e s =
        let early : was_ready w r.state.books ≡ false = marks.ready ∙ sym echo.ready
        ∙ ap (list_any is_ready_news) s in
        let may : may_follow r.state (NotStarted w) ≡ true = and active (ap not early) in
        ap (λ (o : Option Entry). is_accused w (entry_of o)) (input-is ∙ ap (meaning_of w (log_of said) (spent_by r.entries) r.state) e)
        ∙ ap (λ (b : Bool). is_accused w (entry_of (if b then Some (NotStarted w) else Some (breach w (log_of said) (spent_by r.entries) r.state)))) may

    pub fine : is_accused w (entry_of (input_of r n)) ≡ false
    fine = elim (took-cases l.whole (said_by w taken) (told_so_far l) h.news) [
      | inl b ↦ told-fine (said_by w post ++ b.0) (b.1 ∙ ap (λ (z : List What). z ++ b.0) said-all ∙ append_assoc said (x ∷ said_by w post) b.0)
      | inr (inl c) ↦ cut c
      | inr (inr e) ↦ none (at-last said (said_by w post) [] x what.NotStarted (sym said-all ∙ e))
    ]
      where
        cut : IsCutShort (said_by w taken) (told_so_far l) → is_accused w (entry_of (input_of r n)) ≡ false
        cut c = elim (at-last said (said_by w post) c.heard x (what.Gone c.cause) (sym said-all ∙ c.are)) [
          | inl a ↦ told-fine (a.0 ++ c.begins.0) (c.begins.1 ∙ ap (λ (z : List What). z ++ c.begins.0) a.1 ∙ append_assoc said (x ∷ a.0) c.begins.0)
          | inr a ↦ gone-fine c.cause a.0 c.honest
        ]

        empty : (xs ys : List What) → [] ≡ xs ++ x ∷ ys → ⊥
        empty [] ys e = cc
        empty (y ∷ xs) ys e = cc

        none : ((later : List What) × ([] ≡ said ++ x ∷ later)) ⊎ ((x ≡ what.NotStarted) × ([] ≡ said))
            → is_accused w (entry_of (input_of r n)) ≡ false
        none (inl a) = absurd (empty said a.0 a.1)
        none (inr a) = unstarted-fine a.0 (sym a.1)

  -- after all news

  pub honest-next : (pre : List News) (n : News) (post : List News) → taken ≡ pre ++ n ∷ post
      → HonestSoFar w (run_of settings pre) → HonestSoFar w (run_of settings (pre ++ n ∷ []))
  honest-next pre n post split sofar =
      subst (HonestSoFar w) (sym (run-more settings pre n)) (next settings (run_of settings pre) n (sound-run settings pre proper) w sofar (λ own. h.begun pre n post split own) (λ own active. fine pre n post split own sofar active))

  inv-all : (post pre : List News) → taken ≡ pre ++ post → HonestSoFar w (run_of settings pre)
      → HonestSoFar w (run_of settings taken)
  inv-all [] pre split sofar =
      subst (λ (t : List News). HonestSoFar w (run_of settings t)) (sym (split ∙ append-nil pre)) sofar
  inv-all (n ∷ post) pre split sofar =
      inv-all post (pre ++ n ∷ []) (split ∙ sym (append_assoc pre (n ∷ []) post)) (honest-next pre n post split sofar)

  -- what holds of an honest worker at each moment
  pub inv-honest : HonestSoFar w (run_of settings taken)
  inv-honest = inv-all taken [] refl (honest-begun settings w (sound-run settings [] proper))

pub never_accused : NeverAccused
never_accused settings taken w l proper h = (inv-honest settings taken w l proper h).unaccused
