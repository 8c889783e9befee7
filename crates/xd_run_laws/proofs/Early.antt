-- No report stands before the first collection.
use Rattle.std.proofs.Common.{◌≡◌, ℕ, List, [], ◌∷◌, ◌++◌, Bool, true, false, ◌||◌, refl, ap, sym, ◌∙◌, map}
use Rattle.xd_journal.specs.declared.settings.Settings.{Settings}
use Rattle.xd_journal.specs.declared.entry.Outcome.{Outcome}
use Rattle.xd_journal.specs.declared.entry.Entry.{Entry}
use Rattle.xd_journal.specs.declared.entry.Entry.TheVariants.{Ready, Collected, Done, Back, Finished, Refused, Down, NotStarted, Start, Run, RunAll, Steal, Shutdown, Kill, Over}
use Rattle.xd_run.specs.declared.seat.Seat.{Seat}
use Rattle.xd_run.specs.Numbers.{among, without}
use Rattle.xd_run.specs.Table.{at_seat, crash_item, held_in, without_seat}
use Rattle.xd_run.specs.Plan.{items_named, slot_items}
use Rattle.xd_run.specs.Workers.{is_active, slot_of}
use Rattle.xd_run.specs.Retry.{is_retry}
use Rattle.xd_run.specs.Sharing.{State}
use Rattle.xd_run.specs.State.{after_effect, no_one}
use Rattle.xd_run.specs.Proper.{is_head, may_follow, names_head}
use Rattle.xd_run.specs.Orderly.{is_orderly}
use Rattle.xd_run.specs.Reports.{Report, Crash, reports, reports_of}
use Rattle.xd_run_laws.specs.Early.{has_collection, is_collection}
use Rattle.xd_run_laws.proofs.Logic.{differ, split-and}
use Rattle.xd_run_laws.proofs.Places.{no-crash}
use Rattle.xd_run_laws.proofs.Placed.{head_among, one_item}
use Rattle.xd_run_laws.proofs.Walk.{Keeps, reports-more}

none-or : (a b : Bool) → (a || b) ≡ false → (a ≡ false) × (b ≡ false)
none-or true b h = absurd (differ (sym h))
none-or false b h = (refl, h)

none-before : (es : List Entry) (e : Entry) → has_collection (es ++ e ∷ []) ≡ false → (has_collection es ≡ false) × (is_collection e ≡ false)
none-before [] e h = (refl, (none-or (is_collection e) false h).0)
none-before (x ∷ es) e h =
    let p = none-or (is_collection x) (has_collection (es ++ e ∷ [])) h in
    let r = none-before es e p.1 in
    (or-neither (is_collection x) (has_collection es) p.0 r.0, r.1)
  where
    or-neither : (a b : Bool) → a ≡ false → b ≡ false → (a || b) ≡ false
    or-neither true b h k = absurd (differ (sym h))
    or-neither false b h k = k

-- before it nobody joined, and nothing is reported
pub record IsEarly (settings : Settings) (s : State) (es : List Entry) : Type 0 where
  rota : s.books.table.rota ≡ []
  pub none : reports settings es ≡ []

abbrev pub Early : Settings → State → List Entry → Type 0
Early settings s es = has_collection es ≡ false → IsEarly settings s es

early-more : (settings : Settings) (s t : State) (es : List Entry) (e : Entry) → (s.books.table.rota ≡ [] → t.books.table.rota ≡ []) → (s.books.table.rota ≡ [] → reports_of s e ≡ [])
    → reports settings (es ++ e ∷ []) ≡ reports settings es ++ reports_of s e → Early settings s es → Early settings t (es ++ e ∷ [])
early-more settings s t es e rota none rs k = λ h.
    (let b = k (none-before es e h).0 in
    record { rota = rota b.rota; none = rs ∙ ap (λ (xs : List Report). xs ++ reports_of s e) b.none ∙ none b.rota })

change-none : (w : ℕ) (f : Seat → Seat) (ss : List Seat) → ss ≡ [] → at_seat w f ss ≡ []
change-none w f ss h = ap (λ (xs : List Seat). at_seat w f xs) h

left-none : (w : ℕ) (ss : List Seat) → ss ≡ [] → without_seat w ss ≡ []
left-none w ss h = ap (λ (xs : List Seat). without_seat w xs) h

-- where nobody joined no test can end
no-result : (s : State) (w i : ℕ) (u : Outcome) (m : ℕ) (o : List ℕ) → may_follow s (Done w i u m o) ≡ true → s.books.table.rota ≡ [] → ⊥
no-result s w i u m o h r =
    let a = split-and (is_active w s.books) (names_head w i s) h in
    let one = one_item (slot_of w s.books) i s.plan (λ item. is_head w item s) a.1 in
    differ (sym (ap (λ (ss : List Seat). among one.0 (held_in w ss)) r) ∙ head_among w one.0 s one.2)

early-said : (settings : Settings) (s : State) (es : List Entry) (e : Entry) → may_follow s e ≡ true → reports settings (es ++ e ∷ []) ≡ reports settings es ++ reports_of s e → Early settings s es
    → Early settings (after_effect s e) (es ++ e ∷ [])
early-said settings s es (Ready w) h rs k = early-more settings s (after_effect s (Ready w)) es (Ready w) (λ r. r) (λ r. refl) rs k
early-said settings s es (Collected w g) h rs k = λ n. absurd (differ (sym (none-before es (Collected w g) n).1))
early-said settings s es (Done w i u m o) h rs k =
    early-more settings s (after_effect s (Done w i u m o)) es (Done w i u m o) (λ r. absurd (no-result s w i u m o h r)) (λ r. absurd (no-result s w i u m o h r)) rs k
early-said settings s es (Back w is) h rs k =
    early-more settings s (after_effect s (Back w is)) es (Back w is) (change-none w (λ x. record x { held = without (items_named (slot_of w s.books) is s.plan) x.held }) s.books.table.rota) (λ r. refl) rs k
early-said settings s es (Finished w) h rs k = early-more settings s (after_effect s (Finished w)) es (Finished w) (left-none w s.books.table.rota) (λ r. refl) rs k
early-said settings s es (Refused w t) h rs k = early-more settings s (after_effect s (Refused w t)) es (Refused w t) (λ r. r) (λ r. refl) rs k
early-said settings s es (Down w c o) h rs k =
    early-more settings s (after_effect s (Down w c o)) es (Down w c o) (left-none w s.books.table.rota) (λ r. ap (λ (ss : List Seat). map (λ item. Crash w item) (crash_item (is_retry w s.books) (held_in w ss))) r ∙ ap (λ (items : List ℕ). map (λ item. Crash w item) items) (no-crash (is_retry w s.books))) rs k
early-said settings s es (NotStarted w) h rs k = early-more settings s (after_effect s (NotStarted w)) es (NotStarted w) (left-none w s.books.table.rota) (λ r. refl) rs k
early-said settings s es (Start w slot) h rs k = absurd (differ h)
early-said settings s es (Run w is) h rs k = absurd (differ h)
early-said settings s es (RunAll w) h rs k = absurd (differ h)
early-said settings s es (Steal w is) h rs k = absurd (differ h)
early-said settings s es (Shutdown w) h rs k = absurd (differ h)
early-said settings s es (Kill w) h rs k = absurd (differ h)
early-said settings s es (Over how) h rs k = absurd (differ h)

early-told : (settings : Settings) (s : State) (es : List Entry) (e : Entry) → is_orderly s e ≡ true → reports settings (es ++ e ∷ []) ≡ reports settings es ++ reports_of s e → Early settings s es
    → Early settings (after_effect s e) (es ++ e ∷ [])
early-told settings s es (Start w slot) h rs k = early-more settings s (after_effect s (Start w slot)) es (Start w slot) (λ r. r) (λ r. refl) rs k
early-told settings s es (Run w is) h rs k =
    early-more settings s (after_effect s (Run w is)) es (Run w is) (change-none w (λ x. record x { held = x.held ++ items_named (slot_of w s.books) is s.plan }) s.books.table.rota) (λ r. refl) rs k
early-told settings s es (RunAll w) h rs k =
    early-more settings s (after_effect s (RunAll w)) es (RunAll w) (change-none w (λ x. record x { held = x.held ++ slot_items (slot_of w s.books) s.plan }) s.books.table.rota) (λ r. refl) rs k
early-told settings s es (Steal w is) h rs k = early-more settings s (after_effect s (Steal w is)) es (Steal w is) (λ r. r) (λ r. refl) rs k
early-told settings s es (Shutdown w) h rs k =
    early-more settings s (after_effect s (Shutdown w)) es (Shutdown w) (change-none w (λ x. record x { shut = true }) s.books.table.rota) (λ r. refl) rs k
early-told settings s es (Kill w) h rs k = early-more settings s (after_effect s (Kill w)) es (Kill w) (λ r. r) (λ r. refl) rs k
early-told settings s es (Over how) h rs k = early-more settings s (after_effect s (Over how)) es (Over how) (λ r. r) (λ r. refl) rs k
early-told settings s es (Ready w) h rs k = absurd (differ h)
early-told settings s es (Collected w g) h rs k = absurd (differ h)
early-told settings s es (Done w i u m o) h rs k = absurd (differ h)
early-told settings s es (Back w is) h rs k = absurd (differ h)
early-told settings s es (Finished w) h rs k = absurd (differ h)
early-told settings s es (Refused w t) h rs k = absurd (differ h)
early-told settings s es (Down w c o) h rs k = absurd (differ h)
early-told settings s es (NotStarted w) h rs k = absurd (differ h)

pub keeps_early : (settings : Settings) → Keeps settings (Early settings)
keeps_early settings = record {
  said = λ s es e d h at k. early-said settings s es e h (reports-more settings es e s at) k;
  told = λ s es e p h at k. early-told settings s es e h (reports-more settings es e s at) k;
  settled = λ s es k. λ h. (let b = k h in record { rota = b.rota; none = b.none });
}

pub early-none : (settings : Settings) → Early settings (no_one settings) []
early-none settings = λ h. record { rota = refl; none = refl }
