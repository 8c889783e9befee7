-- The line of each report, and the block of each failed one, gives the id of its test.
use Rattle.std.proofs.Common.{◌≡◌, ℕ, ◌+◌, ◌-◌, Bool, true, false, List, [], ◌∷◌, ◌++◌, filter, map, take, Option, Some, None, if◌then◌else◌, refl, sym, ◌∙◌, ap, subst, arith, append-nil, append_assoc}
use Rattle.std.specs.Prelude.{ℤ, slice_index_or, sum}
use Rattle.xd_edge.specs.declared.mode.ModeKind.{ModeKind}
use Rattle.xd_journal.specs.declared.entry.Entry.{Entry}
use Rattle.xd_journal.specs.declared.entry.Entry.TheVariants.{Ready, Collected, Done, Back, Finished, Refused, Down, NotStarted, Start, Run, RunAll, Steal, Shutdown, Kill, Over}
use Rattle.xd_journal.specs.declared.entry.Ids.{Ids}
use Rattle.xd_journal.specs.declared.entry.Outcome.{Outcome}
use Rattle.xd_journal.specs.declared.entry.Outcome.TheVariants.{Passed, Skipped, Failed}
use Rattle.xd_journal.specs.declared.entry.RunStop.{RunStop}
use Rattle.xd_journal.specs.declared.settings.Settings.{Settings}
use Rattle.xd_run.specs.declared.member.Listed.{Listed}
use Rattle.xd_run.specs.Books.{marked, on_table}
use Rattle.xd_run.specs.Collections.{ids_of, key, listed, listed_in, lists_with, unequal, with_list}
use Rattle.xd_run.specs.Numbers.{first_of}
use Rattle.xd_run.specs.Plan.{Plan, base, is_each, items_named}
use Rattle.xd_run.specs.Reports.{Report, Result, Crash, reports, reports_from, reports_of}
use Rattle.xd_run.specs.Retry.{is_retry}
use Rattle.xd_run.specs.Sharing.{State, ids_at, in_books, is_full, shared_now}
use Rattle.xd_run.specs.Collecting.{after_collected, collecting}
use Rattle.xd_run.specs.State.{after_entries, is_input, after_effect, after_entry, no_one, reached, settled}
use Rattle.xd_run.specs.Stops.{stopped_by}
use Rattle.xd_run.specs.Table.{crash_item, held, joined, retried_item}
use Rattle.xd_run.specs.Workers.{is_shut, made_collected, slot_of}
use Rattle.xd_report.specs.Blocks.{block, block_of, blocks_from, crash_reason}
use Rattle.xd_report.specs.EachReport.{Block, Line, Tests, Of, NodeDown, Retried, Replaces, HasNamedBlockEach, HasNamedLineEach, Names, NamesBlocks, id_in, is_failure, kept_outputs, outputs_from, outputs_of, reports_told, retried, retried_from, retried_of, text_of_line, text_of_report}
use Rattle.xd_report.specs.Lines.{collected_line, last_of_slot, lines_from, lines_of, lost_line, replacing, run_lines}
use Rattle.xd_report.specs.Tests.{id_of, item_id, mode_of, tests}
use Rattle.xd_report.proofs.EachReport.{all_blocks, collected-settings, join, join_blocks, next-settings, settings-kept}
use Rattle.xd_report.proofs.Texts.{blocks-more, lines-more}

-- lines with names, put together

names-append : (name : Report → List ℕ) (xs ys : List Line) → Names name xs → Names name ys → Names name (xs ++ ys)
names-append name [] ys n m = m
names-append name (Of report id ∷ xs) ys n m = (n.0, names-append name xs ys n.1 m)
names-append name (Tests k workers ∷ xs) ys n m = names-append name xs ys n m
names-append name (NodeDown w why ∷ xs) ys n m = names-append name xs ys n m
names-append name (Retried w item id ∷ xs) ys n m = (n.0, names-append name xs ys n.1 m)
names-append name (Replaces old ∷ xs) ys n m = names-append name xs ys n m

both : (name : Report → List ℕ) (mode : ModeKind) (a b : List ℕ) (rs ss : List Report) → HasNamedLineEach name mode a rs → HasNamedLineEach name mode b ss → HasNamedLineEach name mode (a ++ b) (rs ++ ss)
both name mode a b rs ss x y = record {
  each = join mode a b rs ss x.each y.each;
  names = names-append name x.each.lines y.each.lines x.names y.names;
}

none : (name : Report → List ℕ) (mode : ModeKind) → HasNamedLineEach name mode [] []
none name mode = record { each = record { lines = []; text_is = refl; each_once = refl }; names = tt }

-- one line that is of no report, and one that is
other : (name : Report → List ℕ) (mode : ModeKind) (l : Line) → reports_told (l ∷ []) ≡ [] → Names name (l ∷ []) → HasNamedLineEach name mode (text_of_line mode l) []
other name mode l told names = record { each = record { lines = l ∷ []; text_is = sym (append-nil (text_of_line mode l)); each_once = told }; names = names }

one : (name : Report → List ℕ) (mode : ModeKind) (report : Report) (id : List ℕ) → id ≡ name report → HasNamedLineEach name mode (text_of_line mode (Of report id)) (report ∷ [])
one name mode report id right = record {
  each = record { lines = Of report id ∷ []; text_is = sym (append-nil (text_of_line mode (Of report id))); each_once = refl };
  names = (right, tt);
}

perhaps : (name : Report → List ℕ) (mode : ModeKind) (b : Bool) (n k : ℕ) → HasNamedLineEach name mode (if b then text_of_line mode (Tests n k) else []) []
perhaps name mode true n k = other name mode (Tests n k) refl tt
perhaps name mode false n k = none name mode

replacing_named : (name : Report → List ℕ) (mode : ModeKind) (old : Option ℕ) → HasNamedLineEach name mode (replacing mode old) []
replacing_named name mode None = none name mode
replacing_named name mode (Some old) = other name mode (Replaces old) refl tt

lost_named : (name : Report → List ℕ) (mode : ModeKind) (w : ℕ) (id : ℕ → List ℕ) (h : List ℕ) (retry : Bool) → ((item : ℕ) → first_of h ≡ Some item → id item ≡ name (Crash w item))
    → HasNamedLineEach name mode (elim (first_of h) [ None ↦ [] | Some item ↦ lost_line retry mode w (id item) ]) (map (λ item. Crash w item) (crash_item retry h))
lost_named name mode w id [] true right = none name mode
lost_named name mode w id [] false right = none name mode
lost_named name mode w id (x ∷ xs) true right = other name mode (Retried w x (id x)) refl (right x refl, tt)
lost_named name mode w id (x ∷ xs) false right = one name mode (Crash w x) (id x) (right x refl)

-- an entry that is reached here gives its test the id that it has by these names
abbrev pub Right : (Report → List ℕ) → State → Entry → Type 0
Right name s (Done w i outcome ms out) = (item : ℕ) → items_named (slot_of w s.books) (i ∷ []) s.plan ≡ item ∷ [] → id_of w i s ≡ name (Result w item outcome)
Right name s (Down w cause out) = (item : ℕ) → first_of (held w s.books.table) ≡ Some item → item_id w item s ≡ name (Crash w item)
Right name s _ = Unit {0}

-- each of these entries does
abbrev pub AllRight : (Report → List ℕ) → State → List Entry → Type 0
AllRight name s [] = Unit {0}
AllRight name s (e ∷ es) = Right name (reached s e) e × AllRight name (after_entry s e) es

one-item : (slot i : ℕ) (p : Plan) → (item : ℕ) × (items_named slot (i ∷ []) p ≡ item ∷ [])
one-item slot i p = by (is_each p.mode)
  where
    by : (b : Bool) → (item : ℕ) × ((if b then map (λ x. base slot p + x) (i ∷ []) else (i ∷ [])) ≡ item ∷ [])
    by true = (base slot p + i, refl)
    by false = (i, refl)

reached-settings : (b : Bool) (s : State) → (if b then settled s else s).books.settings ≡ s.books.settings
reached-settings true s = refl
reached-settings false s = refl

module _ (name : Report → List ℕ) where
  done-named : (s : State) (w i : ℕ) (outcome : Outcome) (ms : ℕ) (out : List ℕ) → Right name s (Done w i outcome ms out)
      → HasNamedLineEach name (mode_of s) (lines_of s (Done w i outcome ms out)) (reports_of s (Done w i outcome ms out))
  done-named s w i outcome ms out right =
      let item = one-item (slot_of w s.books) i s.plan in
      subst (λ (items : List ℕ). HasNamedLineEach name (mode_of s) (lines_of s (Done w i outcome ms out)) (map (λ x. Result w x outcome) items)) (sym item.1)
      (one name (mode_of s) (Result w (item.0) outcome) (id_of w i s) (right (item.0) item.1))

  entry_named : (s : State) (e : Entry) → Right name s e → HasNamedLineEach name (mode_of s) (lines_of s e) (reports_of s e)
  entry_named s (Collected w given) right =
      let t = after_collected w given s in
      subst (λ (k : Settings). HasNamedLineEach name k.mode (collected_line s.books.shared t) []) (collected-settings w given s) (perhaps name (mode_of t) _ (tests t) t.books.settings.workers)
  entry_named s (Done w i outcome ms out) right = done-named s w i outcome ms out right
  entry_named s (Down w cause out) right =
      both name (mode_of s) _ _ [] _ (other name (mode_of s) (NodeDown w (Some cause)) refl tt) (lost_named name (mode_of s) w (λ item. item_id w item s) (held w s.books.table) (is_retry w s.books) right)
  entry_named s (NotStarted w) right = other name (mode_of s) (NodeDown w None) refl tt
  entry_named s (Start w slot) right = replacing_named name (mode_of s) (last_of_slot slot s.books.members None)
  entry_named s (Ready w) right = none name (mode_of s)
  entry_named s (Back w is) right = none name (mode_of s)
  entry_named s (Finished w) right = none name (mode_of s)
  entry_named s (Refused w text) right = none name (mode_of s)
  entry_named s (Run w is) right = none name (mode_of s)
  entry_named s (RunAll w) right = none name (mode_of s)
  entry_named s (Steal w is) right = none name (mode_of s)
  entry_named s (Shutdown w) right = none name (mode_of s)
  entry_named s (Kill w) right = none name (mode_of s)
  entry_named s (Over how) right = none name (mode_of s)

  -- entries that all do have their lines, each with the id
  pub lines-by : (settings : Settings) (s : State) (es : List Entry) → s.books.settings ≡ settings → AllRight name s es → HasNamedLineEach name settings.mode (lines_from s es) (reports_from s es)
  lines-by settings s [] set right = none name settings.mode
  lines-by settings s (e ∷ es) set right =
      let t = reached s e in
      both name settings.mode (lines_of t e) (lines_from (after_entry s e) es) (reports_of t e) (reports_from (after_entry s e) es)
      (subst (λ (k : Settings). HasNamedLineEach name k.mode (lines_of t e) (reports_of t e)) (reached-settings (is_input e) s ∙ set) (entry_named t e right.0))
      (lines-by settings (after_entry s e) es (next-settings s e ∙ set) right.1)

-- entries without a report that try no test again have no line with an id

no-items : (name : Report → List ℕ) (w : ℕ) (id : ℕ → List ℕ) (h : List ℕ) (retry : Bool) → map (λ item. Crash w item) (crash_item retry h) ≡ [] → retried_item retry h ≡ []
    → (item : ℕ) → first_of h ≡ Some item → id item ≡ name (Crash w item)
no-items name w id [] retry no_report no_retry item is = absurd (cc)
no-items name w id (x ∷ xs) true no_report no_retry item is = absurd (cc)
no-items name w id (x ∷ xs) false no_report no_retry item is = absurd (cc)

quiet : (name : Report → List ℕ) (s : State) (e : Entry) → reports_of s e ≡ [] → retried_of s e ≡ [] → Right name s e
quiet name s (Done w i outcome ms out) no_report no_retry = λ item is.
    (let one_report : Result w item outcome ∷ [] ≡ [] = ap (map (λ x. Result w x outcome)) (sym is) ∙ no_report in
    absurd (cc))
quiet name s (Down w cause out) no_report no_retry = no-items name w (λ item. item_id w item s) (held w s.books.table) (is_retry w s.books) no_report no_retry
quiet name s (Collected w given) no_report no_retry = tt
quiet name s (NotStarted w) no_report no_retry = tt
quiet name s (Start w slot) no_report no_retry = tt
quiet name s (Ready w) no_report no_retry = tt
quiet name s (Back w is) no_report no_retry = tt
quiet name s (Finished w) no_report no_retry = tt
quiet name s (Refused w text) no_report no_retry = tt
quiet name s (Run w is) no_report no_retry = tt
quiet name s (RunAll w) no_report no_retry = tt
quiet name s (Steal w is) no_report no_retry = tt
quiet name s (Shutdown w) no_report no_retry = tt
quiet name s (Kill w) no_report no_retry = tt
quiet name s (Over how) no_report no_retry = tt

both-none : {X : Type 0} → (xs ys : List X) → xs ++ ys ≡ [] → (xs ≡ []) × (ys ≡ [])
both-none [] ys e = (refl, e)
both-none (x ∷ xs) ys e = absurd (cc)

quiet-all : (name : Report → List ℕ) (s : State) (es : List Entry) → reports_from s es ≡ [] → retried_from s es ≡ [] → AllRight name s es
quiet-all name s [] no_report no_retry = tt
quiet-all name s (e ∷ es) no_report no_retry =
    let t = reached s e in
    let first = both-none (reports_of t e) (reports_from (after_entry s e) es) no_report in
    let again = both-none (retried_of t e) (retried_from (after_entry s e) es) no_retry in
    (quiet name t e first.0 again.0, quiet-all name (after_entry s e) es first.1 again.1)

-- a run whose first collection this is, in no mode each
record Listing (settings : Settings) (first : Listed) (s : State) : Type 0 where
  set : s.books.settings ≡ settings
  planned : s.plan.mode ≡ settings.mode
  first_is : listed_in 0 s.books.lists ≡ Some first

module _ (settings : Settings) (first : Listed) (one_list : is_each settings.mode ≡ false) where
  keeps-either : (b : Bool) (x y : State) → Listing settings first x → Listing settings first y → Listing settings first (if b then x else y)
  keeps-either true x y l m = l
  keeps-either false x y l m = m

  settles : (s : State) (e : Entry) → Listing settings first s → Listing settings first (reached s e)
  settles s e l = keeps-either (is_input e) (settled s) s (record { set = l.set; planned = l.planned; first_is = l.first_is }) l

  key-zero : (w : ℕ) (s : State) → Listing settings first s → key w s.books ≡ 0
  key-zero w s l = ap (λ (b : Bool). if b then slot_of w s.books else 0) (ap (λ (k : Settings). is_each k.mode) l.set ∙ one_list)

  -- a later collection is none of those that are compared with
  listed-more : (w : ℕ) (given : Ids) (s : State) → Listing settings first s → Listing settings first (in_books (λ b. marked (made_collected w) (with_list w given b)) s)
  listed-more w given s l =
      let stands : listed w s.books ≡ Some first = ap (λ (k : ℕ). listed_in k s.books.lists) (key-zero w s l) ∙ l.first_is in
      record {
        set = l.set;
        planned = l.planned;
        first_is = ap (λ (o : Option Listed). listed_in 0 (lists_with o (record { slot = key w s.books; worker = w; ids = ids_of given }) s.books.lists)) stands ∙ l.first_is;
      }

  collecting-keeps : (w : ℕ) (how : Option RunStop) (s : State) → Listing settings first s → Listing settings first (collecting w how s)
  collecting-keeps w (Some how) s l =
      keeps-either (is_shut w s.books) s (in_books (stopped_by (Some how)) s) l (record { set = l.set; planned = l.planned; first_is = l.first_is })
  collecting-keeps w None s l =
      let t = in_books (on_table (joined w)) s in
      let there : Listing settings first t = record { set = l.set; planned = l.planned; first_is = l.first_is } in
      keeps-either (is_shut w s.books) s (if is_full t.books then shared_now t else t) l
      (keeps-either (is_full t.books) (shared_now t) t (record { set = l.set; planned = l.planned; first_is = l.first_is }) there)

  moves : (s : State) (e : Entry) → Listing settings first s → Listing settings first (after_effect s e)
  moves s (Collected w given) l =
      collecting-keeps w (unequal w given (listed w s.books)) (in_books (λ b. marked (made_collected w) (with_list w given b)) s) (listed-more w given s l)
  moves s (Done w i outcome ms out) l = record { set = l.set; planned = l.planned; first_is = l.first_is }
  moves s (Down w cause out) l = record { set = l.set; planned = l.planned; first_is = l.first_is }
  moves s (Ready w) l = record { set = l.set; planned = l.planned; first_is = l.first_is }
  moves s (Back w is) l = record { set = l.set; planned = l.planned; first_is = l.first_is }
  moves s (Finished w) l = record { set = l.set; planned = l.planned; first_is = l.first_is }
  moves s (Refused w text) l = record { set = l.set; planned = l.planned; first_is = l.first_is }
  moves s (NotStarted w) l = record { set = l.set; planned = l.planned; first_is = l.first_is }
  moves s (Start w slot) l = record { set = l.set; planned = l.planned; first_is = l.first_is }
  moves s (Run w is) l = record { set = l.set; planned = l.planned; first_is = l.first_is }
  moves s (RunAll w) l = record { set = l.set; planned = l.planned; first_is = l.first_is }
  moves s (Steal w is) l = record { set = l.set; planned = l.planned; first_is = l.first_is }
  moves s (Shutdown w) l = record { set = l.set; planned = l.planned; first_is = l.first_is }
  moves s (Kill w) l = l
  moves s (Over how) l = l

  -- the id of a test by its number in a collection, and by its item
  id-right : (w i : ℕ) (s : State) → Listing settings first s → id_of w i s ≡ slice_index_or first.ids i []
  id-right w i s l =
      ap (λ (k : ℕ). slice_index_or (ids_at k s.books.lists) i []) (key-zero w s l)
      ∙ ap (λ (o : Option Listed). slice_index_or (elim o [ None ↦ [] | Some x ↦ x.ids ]) i []) l.first_is

  no-base : (s : State) → Listing settings first s → is_each s.plan.mode ≡ false
  no-base s l = ap is_each l.planned ∙ one_list

  item-right : (w item : ℕ) (s : State) → Listing settings first s → item_id w item s ≡ slice_index_or first.ids item []
  item-right w item s l =
      let at : item - base (slot_of w s.books) s.plan ≡ item =
      ap (λ (b : Bool). item - (if b then sum (take (slot_of w s.books) s.plan.sizes) else 0)) (no-base s l) ∙ omega arith in
      ap (λ (i : ℕ). id_of w i s) at ∙ id-right w item s l

  abbrev in_first : Report → List ℕ
  in_first = id_in first.ids

  entry-right : (s : State) (e : Entry) → Listing settings first s → Right in_first s e
  entry-right s (Done w i outcome ms out) l = λ item is.
      (let same : i ∷ [] ≡ item ∷ [] = sym (ap (λ (b : Bool). if b then map (λ x. base (slot_of w s.books) s.plan + x) (i ∷ []) else (i ∷ [])) (no-base s l)) ∙ is in
      let at : i ≡ item = cc in
      id-right w i s l ∙ ap (λ (k : ℕ). slice_index_or first.ids k []) at)
  entry-right s (Down w cause out) l = λ item is. item-right w item s l
  entry-right s (Collected w given) l = tt
  entry-right s (NotStarted w) l = tt
  entry-right s (Start w slot) l = tt
  entry-right s (Ready w) l = tt
  entry-right s (Back w is) l = tt
  entry-right s (Finished w) l = tt
  entry-right s (Refused w text) l = tt
  entry-right s (Run w is) l = tt
  entry-right s (RunAll w) l = tt
  entry-right s (Steal w is) l = tt
  entry-right s (Shutdown w) l = tt
  entry-right s (Kill w) l = tt
  entry-right s (Over how) l = tt

  all-right : (s : State) (es : List Entry) → Listing settings first s → AllRight in_first s es
  all-right s [] l = tt
  all-right s (e ∷ es) l = (let there = settles s e l in (entry-right (reached s e) e there, all-right (after_entry s e) es (moves (reached s e) e there)))

-- blocks

blocks-append : (name : Report → List ℕ) (xs ys : List Block) → NamesBlocks name xs → NamesBlocks name ys → NamesBlocks name (xs ++ ys)
blocks-append name [] ys n m = m
blocks-append name (x ∷ xs) ys n m = (n.0, blocks-append name xs ys n.1 m)

both_blocks : (name : Report → List ℕ) (mode : ModeKind) (a b : List ℕ) (rs ss : List Report) (os ps : List (List ℕ)) → HasNamedBlockEach name mode a rs os → HasNamedBlockEach name mode b ss ps → HasNamedBlockEach name mode (a ++ b) (rs ++ ss) (os ++ ps)
both_blocks name mode a b rs ss os ps x y = record {
  each = join_blocks mode a b rs ss os ps x.each y.each;
  names = blocks-append name x.each.blocks y.each.blocks x.names y.names;
}

no_block : (name : Report → List ℕ) (mode : ModeKind) (rs : List Report) → filter is_failure rs ≡ [] → HasNamedBlockEach name mode [] rs []
no_block name mode rs no_failure = record { each = record { blocks = []; text_is = refl; each_once = sym no_failure; outputs_are = refl }; names = tt }

one_block : (name : Report → List ℕ) (mode : ModeKind) (report : Report) (id output : List ℕ) → is_failure report ≡ true → id ≡ name report → HasNamedBlockEach name mode (text_of_report mode report id output) (report ∷ []) (output ∷ [])
one_block name mode report id output fails right = record {
  each = record {
    blocks = record { report = report; id = id; output = output } ∷ [];
    text_is = sym (append-nil (text_of_report mode report id output));
    each_once = ap (λ (b : Bool). if b then (report ∷ []) else []) (sym fails);
    outputs_are = refl;
  };
  names = (right, tt);
}

crash_block : (name : Report → List ℕ) (mode : ModeKind) (w : ℕ) (id : ℕ → List ℕ) (output h : List ℕ) (retry : Bool) → ((item : ℕ) → first_of h ≡ Some item → id item ≡ name (Crash w item))
    → HasNamedBlockEach name mode (elim (first_of (crash_item retry h)) [ None ↦ [] | Some item ↦ block mode w (id item) (crash_reason mode w (id item)) output ]) (map (λ item. Crash w item) (crash_item retry h)) (map (λ _. output) (crash_item retry h))
crash_block name mode w id output h true right = no_block name mode [] refl
crash_block name mode w id output [] false right = no_block name mode [] refl
crash_block name mode w id output (x ∷ xs) false right = one_block name mode (Crash w x) (id x) output refl (right x refl)

module _ (name : Report → List ℕ) where
  quiet-block : (s : State) (w i : ℕ) (outcome : Outcome) → ((item : ℕ) → is_failure (Result w item outcome) ≡ false)
      → HasNamedBlockEach name (mode_of s) [] (map (λ x. Result w x outcome) (items_named (slot_of w s.books) (i ∷ []) s.plan)) []
  quiet-block s w i outcome passes =
      let item = one-item (slot_of w s.books) i s.plan in
      no_block name (mode_of s) _ (ap (λ (items : List ℕ). filter is_failure (map (λ x. Result w x outcome) items)) item.1 ∙ ap (λ (b : Bool). if b then Result w (item.0) outcome ∷ [] else []) (passes (item.0)))

  failed-block : (s : State) (w i : ℕ) (code : ℤ) (ms : ℕ) (out : List ℕ) → Right name s (Done w i (Failed code) ms out)
      → HasNamedBlockEach name (mode_of s) (block_of s (Done w i (Failed code) ms out)) (reports_of s (Done w i (Failed code) ms out)) (out ∷ [])
  failed-block s w i code ms out right =
      let item = one-item (slot_of w s.books) i s.plan in
      subst (λ (items : List ℕ). HasNamedBlockEach name (mode_of s) (block_of s (Done w i (Failed code) ms out)) (map (λ x. Result w x (Failed code)) items) (out ∷ [])) (sym item.1)
      (one_block name (mode_of s) (Result w (item.0) (Failed code)) (id_of w i s) out refl (right (item.0) item.1))

  entry_block : (s : State) (e : Entry) → Right name s e → HasNamedBlockEach name (mode_of s) (block_of s e) (reports_of s e) (outputs_of s e)
  entry_block s (Done w i Passed ms out) right = quiet-block s w i Passed (λ item. refl)
  entry_block s (Done w i Skipped ms out) right = quiet-block s w i Skipped (λ item. refl)
  entry_block s (Done w i (Failed code) ms out) right = failed-block s w i code ms out right
  entry_block s (Down w cause out) right = crash_block name (mode_of s) w (λ item. item_id w item s) out (held w s.books.table) (is_retry w s.books) right
  entry_block s (Collected w given) right = no_block name (mode_of s) [] refl
  entry_block s (NotStarted w) right = no_block name (mode_of s) [] refl
  entry_block s (Start w slot) right = no_block name (mode_of s) [] refl
  entry_block s (Ready w) right = no_block name (mode_of s) [] refl
  entry_block s (Back w is) right = no_block name (mode_of s) [] refl
  entry_block s (Finished w) right = no_block name (mode_of s) [] refl
  entry_block s (Refused w text) right = no_block name (mode_of s) [] refl
  entry_block s (Run w is) right = no_block name (mode_of s) [] refl
  entry_block s (RunAll w) right = no_block name (mode_of s) [] refl
  entry_block s (Steal w is) right = no_block name (mode_of s) [] refl
  entry_block s (Shutdown w) right = no_block name (mode_of s) [] refl
  entry_block s (Kill w) right = no_block name (mode_of s) [] refl
  entry_block s (Over how) right = no_block name (mode_of s) [] refl

  -- entries that all give the ids have their blocks, each with the id
  pub blocks-by : (settings : Settings) (s : State) (es : List Entry) → s.books.settings ≡ settings → AllRight name s es → HasNamedBlockEach name settings.mode (blocks_from s es) (reports_from s es) (outputs_from s es)
  blocks-by settings s [] set right = no_block name settings.mode [] refl
  blocks-by settings s (e ∷ es) set right =
      let t = reached s e in
      both_blocks name settings.mode (block_of t e) (blocks_from (after_entry s e) es) (reports_of t e) (reports_from (after_entry s e) es) (outputs_of t e) (outputs_from (after_entry s e) es)
      (subst (λ (k : Settings). HasNamedBlockEach name k.mode (block_of t e) (reports_of t e) (outputs_of t e)) (reached-settings (is_input e) s ∙ set) (entry_block t e right.0))
      (blocks-by settings (after_entry s e) es (next-settings s e ∙ set) right.1)

-- where no report is, no block is
no-names : (name : Report → List ℕ) (bs : List Block) → map (λ b. b.report) bs ≡ [] → NamesBlocks name bs
no-names name [] e = tt
no-names name (b ∷ bs) e = absurd (cc)

reports-more : (s : State) (es more : List Entry) → reports_from s (es ++ more) ≡ reports_from s es ++ reports_from (after_entries s es) more
reports-more s [] more = refl
reports-more s (e ∷ es) more =
    ap (λ (rs : List Report). reports_of (reached s e) e ++ rs) (reports-more (after_entry s e) es more)
    ∙ sym (append_assoc (reports_of (reached s e) e) (reports_from (after_entry s e) es) (reports_from (after_entries (after_entry s e) es) more))

outputs-more : (s : State) (es more : List Entry) → outputs_from s (es ++ more) ≡ outputs_from s es ++ outputs_from (after_entries s es) more
outputs-more s [] more = refl
outputs-more s (e ∷ es) more =
    ap (λ (os : List (List ℕ)). outputs_of (reached s e) e ++ os) (outputs-more (after_entry s e) es more)
    ∙ sym (append_assoc (outputs_of (reached s e) e) (outputs_from (after_entry s e) es) (outputs_from (after_entries (after_entry s e) es) more))

-- the mode of the plan stays

plan-either : (b : Bool) (x y : State) (m : ModeKind) → x.plan.mode ≡ m → y.plan.mode ≡ m → (if b then x else y).plan.mode ≡ m
plan-either true x y m first second = first
plan-either false x y m first second = second

collecting-plan : (w : ℕ) (how : Option RunStop) (s : State) → (collecting w how s).plan.mode ≡ s.plan.mode
collecting-plan w (Some how) s = plan-either (is_shut w s.books) s (in_books (stopped_by (Some how)) s) s.plan.mode refl refl
collecting-plan w None s =
    let t = in_books (on_table (joined w)) s in
    plan-either (is_shut w s.books) s (if is_full t.books then shared_now t else t) s.plan.mode refl (plan-either (is_full t.books) (shared_now t) t s.plan.mode refl refl)

after_effect-plan : (s : State) (e : Entry) → (after_effect s e).plan.mode ≡ s.plan.mode
after_effect-plan s (Collected w given) = collecting-plan w (unequal w given (listed w s.books)) (in_books (λ b. marked (made_collected w) (with_list w given b)) s)
after_effect-plan s (Done w i outcome ms out) = refl
after_effect-plan s (Down w cause out) = refl
after_effect-plan s (Ready w) = refl
after_effect-plan s (Back w is) = refl
after_effect-plan s (Finished w) = refl
after_effect-plan s (Refused w text) = refl
after_effect-plan s (NotStarted w) = refl
after_effect-plan s (Start w slot) = refl
after_effect-plan s (Run w is) = refl
after_effect-plan s (RunAll w) = refl
after_effect-plan s (Steal w is) = refl
after_effect-plan s (Shutdown w) = refl
after_effect-plan s (Kill w) = refl
after_effect-plan s (Over how) = refl

plan-kept : (s : State) (es : List Entry) → (after_entries s es).plan.mode ≡ s.plan.mode
plan-kept s [] = refl
plan-kept s (e ∷ es) =
    plan-kept (after_entry s e) es ∙ after_effect-plan (reached s e) e ∙ plan-either (is_input e) (settled s) s s.plan.mode refl refl

-- the state after the first collection
following : (settings : Settings) (before : List Entry) (first : Listed) → listed_in 0 (after_entries (no_one settings) before).books.lists ≡ Some first → Listing settings first (after_entries (no_one settings) before)
following settings before first first_is = record {
  set = settings-kept (no_one settings) before;
  planned = plan-kept (no_one settings) before;
  first_is = first_is;
}

pub lines-named : (settings : Settings) (before more : List Entry) (first : Listed) → is_each settings.mode ≡ false → reports settings before ≡ [] → retried settings before ≡ []
    → listed_in 0 (after_entries (no_one settings) before).books.lists ≡ Some first
    → HasNamedLineEach (id_in first.ids) settings.mode (run_lines settings (before ++ more)) (reports settings (before ++ more))
lines-named settings before more first one_list no_report no_retry first_is =
    let s = after_entries (no_one settings) before in
    let l = following settings before first first_is in
    let x = lines-by (id_in first.ids) settings (no_one settings) before refl (quiet-all (id_in first.ids) (no_one settings) before no_report no_retry) in
    let y = lines-by (id_in first.ids) settings s more l.set (all-right settings first one_list s more l) in
    let joined_up = both (id_in first.ids) settings.mode (run_lines settings before) (lines_from s more) (reports settings before) (reports_from s more) x y in
    subst (λ (text : List ℕ). HasNamedLineEach (id_in first.ids) settings.mode text (reports settings (before ++ more))) (sym (lines-more (no_one settings) before more))
    (subst (λ (rs : List Report). HasNamedLineEach (id_in first.ids) settings.mode (run_lines settings before ++ lines_from s more) rs) (sym (reports-more (no_one settings) before more)) joined_up)

pub blocks-named : (settings : Settings) (before more : List Entry) (first : Listed) → is_each settings.mode ≡ false → reports settings before ≡ []
    → listed_in 0 (after_entries (no_one settings) before).books.lists ≡ Some first
    → HasNamedBlockEach (id_in first.ids) settings.mode (blocks_from (no_one settings) (before ++ more)) (reports settings (before ++ more)) (kept_outputs settings (before ++ more))
blocks-named settings before more first one_list no_report first_is =
    let s = after_entries (no_one settings) before in
    let l = following settings before first first_is in
    let preceding = all_blocks (no_one settings) before in
    let x : HasNamedBlockEach (id_in first.ids) settings.mode (blocks_from (no_one settings) before) (reports settings before) (kept_outputs settings before) =
    record { each = preceding; names = no-names (id_in first.ids) preceding.blocks (preceding.each_once ∙ ap (filter is_failure) no_report) } in
    let y = blocks-by (id_in first.ids) settings s more l.set (all-right settings first one_list s more l) in
    let joined_up = both_blocks (id_in first.ids) settings.mode (blocks_from (no_one settings) before) (blocks_from s more) (reports settings before) (reports_from s more) (kept_outputs settings before) (outputs_from s more) x y in
    subst (λ (text : List ℕ). HasNamedBlockEach (id_in first.ids) settings.mode text (reports settings (before ++ more)) (kept_outputs settings (before ++ more))) (sym (blocks-more (no_one settings) before more))
    (subst (λ (rs : List Report). HasNamedBlockEach (id_in first.ids) settings.mode (blocks_from (no_one settings) before ++ blocks_from s more) rs (kept_outputs settings (before ++ more))) (sym (reports-more (no_one settings) before more))
    (subst (λ (os : List (List ℕ)). HasNamedBlockEach (id_in first.ids) settings.mode (blocks_from (no_one settings) before ++ blocks_from s more) (reports settings before ++ reports_from s more) os) (sym (outputs-more (no_one settings) before more)) joined_up))
