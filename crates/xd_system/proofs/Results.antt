-- A worker's results among the reports are those of the tests that it ended.
use Rattle.std.proofs.Common.{◌≡◌, ℕ, ◌+◌, List, [], ◌∷◌, ◌++◌, map, Bool, true, false, ◌&&◌, ◌||◌, refl, ap, sym, ◌∙◌, arith, inl, inr}
use Rattle.std.specs.Prelude.{◌⊎◌, ◌==◌, filter, if◌then◌else◌, sum, take}
use Rattle.std.proofs.lemmas.Bool.Decides.{nat_tests}
use Rattle.std.proofs.lemmas.List.{append-nil}
use Rattle.std.proofs.lemmas.List.Elements.{filter_map-append, filter-append}
use Rattle.xd_journal.specs.declared.settings.Settings.{Settings}
use Rattle.xd_journal.specs.declared.entry.Entry.{Entry}
use Rattle.xd_journal.specs.declared.entry.Entry.TheVariants.{Ready, Collected, Done, Back, Finished, Refused, Down, NotStarted, Start, Run, RunAll, Steal, Shutdown, Kill, Over}
use Rattle.xd_journal.specs.declared.entry.Ids.{Ids}
use Rattle.xd_journal.specs.declared.entry.Outcome.{Outcome}
use Rattle.xd_run.specs.declared.member.Member.{Member}
use Rattle.xd_run.specs.Books.{marked}
use Rattle.xd_run.specs.Collections.{listed, unequal, with_list}
use Rattle.xd_run.specs.Numbers.{among}
use Rattle.xd_run.specs.Orderly.{is_orderly}
use Rattle.xd_run.specs.Plan.{Plan, base, is_each, items_named}
use Rattle.xd_run.specs.Proper.{may_follow, names_head}
use Rattle.xd_run.specs.Reports.{Report, Crash, Result, reports, reports_of}
use Rattle.xd_run.specs.Sharing.{State, in_books, shared_now}
use Rattle.xd_run.specs.State.{after_effect, after_entries, no_one, reached}
use Rattle.xd_run.specs.Table.{crash_item, held, joined}
use Rattle.xd_run.specs.Workers.{has_member, is_active, made_collected, made_gone, made_ready, made_shut, slot_in, slot_of, started}
use Rattle.xd_run.specs.Retry.{is_retry}
use Rattle.xd_run_laws.proofs.Inputs.{collecting-keeps, still_shared}
use Rattle.xd_run_laws.proofs.Logic.{cases_of, differ, split-and}
use Rattle.xd_run_laws.proofs.Members.{has, has-member, has-more, has-same}
use Rattle.xd_run_laws.proofs.MembersFit.{slot-marked, slot-old}
use Rattle.xd_run_laws.proofs.Placed.{Placed, shared-of_held}
use Rattle.xd_run_laws.proofs.Turns.{Tidy}
use Rattle.xd_run_laws.proofs.Walk.{Keeps, reports-more}
use Rattle.xd_system.specs.Deaths.{is_result_of}
use Rattle.xd_system.specs.Own.{outcome_in, outcomes_by}
use Rattle.xd_system.proofs.Completes.{names-item}
use Rattle.xd_system.proofs.Named.{item_at, named-first, named-none}

-- these ends as results of the worker
abbrev pub results : ℕ → State → List (ℕ × Outcome) → List Report
results w s ds = map (λ p. Result w (base (slot_of w s.books) s.plan + p.0) p.1) ds

pub record Reported (settings : Settings) (w : ℕ) (s : State) (es : List Entry) : Type 0 where
  pub results_are : filter (is_result_of w) (reports settings es) ≡ results w s (outcomes_by w es)
  pub early : s.books.shared ≡ false → outcomes_by w es ≡ []
  pub unstarted : has_member w (λ m. true) s.books ≡ false → outcomes_by w es ≡ []

item-base : (slot n : ℕ) (p : Plan) → item_at slot n p ≡ base slot p + n
item-base slot n p = go (is_each p.mode)
  where
    go : (b : Bool) → (if b then (if b then sum (take slot p.sizes) else 0) + n else n) ≡ (if b then sum (take slot p.sizes) else 0) + n
    go true = refl
    go false = omega arith

crashes-none : (w v : ℕ) (items : List ℕ) → filter (is_result_of w) (map (λ item. Crash v item) items) ≡ []
crashes-none w v [] = refl
crashes-none w v (x ∷ items) = crashes-none w v items

module _ (settings : Settings) (w : ℕ) (s : State) (es : List Entry) (k : Reported settings w s es) where
  -- an entry that is no end of the worker's
  keep : (e : Entry) (t : State) → s ≡ reached (after_entries (no_one settings) es) e → outcomes_by w (e ∷ []) ≡ []
      → filter (is_result_of w) (reports_of s e) ≡ []
      → ((ds : List (ℕ × Outcome)) → outcomes_by w es ≡ ds → results w t ds ≡ results w s ds)
      → (t.books.shared ≡ false → s.books.shared ≡ false)
      → (has_member w (λ m. true) t.books ≡ false → has_member w (λ m. true) s.books ≡ false)
      → Reported settings w t (es ++ e ∷ [])
  keep e t at none quiet names shared member =
      let dones : outcomes_by w (es ++ e ∷ []) ≡ outcomes_by w es = filter_map-append (outcome_in w) es (e ∷ [])
      ∙ ap (λ (l : List (ℕ × Outcome)). outcomes_by w es ++ l) none ∙ append-nil (outcomes_by w es) in
      record {
        results_are = (
            ap (filter (is_result_of w)) (reports-more settings es e s at)
            ∙ filter-append (is_result_of w) (reports settings es) (reports_of s e)
            ∙ ap (λ (l : List Report). filter (is_result_of w) (reports settings es) ++ l) quiet
            ∙ append-nil (filter (is_result_of w) (reports settings es))
            ∙ k.results_are ∙ sym (names (outcomes_by w es) refl) ∙ ap (results w t) (sym dones));
        early = λ h. dones ∙ k.early (shared h);
        unstarted = λ h. dones ∙ k.unstarted (member h);
      }

  same-slot : (i j : ℕ) → i ≡ j → (ds : List (ℕ × Outcome))
      → map (λ (p : ℕ × Outcome). Result w (base i s.plan + p.0) p.1) ds ≡ map (λ (p : ℕ × Outcome). Result w (base j s.plan + p.0) p.1) ds
  same-slot i j e ds = ap (λ (n : ℕ). map (λ (p : ℕ × Outcome). Result w (base n s.plan + p.0) p.1) ds) e

  none-named : (t : State) (ds : List (ℕ × Outcome)) → ds ≡ [] → results w t ds ≡ results w s ds
  none-named t ds e = ap (results w t) e ∙ sym (ap (results w s) e)

  gone-slot : (v : ℕ) → slot_in w (map (made_gone v) s.books.members) ≡ slot_of w s.books
  gone-slot v = slot-marked w (made_gone v) s.books.members (λ m. refl) (λ m. refl)

  was-member : (change : Member → Member) → ((m : Member) → (change m).worker ≡ m.worker)
      → has w (λ m. true) (map change s.books.members) ≡ false → has_member w (λ m. true) s.books ≡ false
  was-member change x h = sym (has-same w (λ m. true) change s.books.members x (λ m. refl)) ∙ h

  said-done : (v n : ℕ) (o : Outcome) (ms : ℕ) (b : List ℕ) → Placed s
      → s ≡ reached (after_entries (no_one settings) es) (Done v n o ms b) → may_follow s (Done v n o ms b) ≡ true
      → Reported settings w (after_effect s (Done v n o ms b)) (es ++ Done v n o ms b ∷ [])
  said-done v n o ms b placed at m = elim (cases_of (v == w)) [
    | inr h ↦ keep e (after_effect s e) at (rw h refl) (ap (λ (l : List ℕ). filter (is_result_of w) (map (λ item. Result v item o) l)) one ∙ rw h refl) (λ ds q. refl) (λ q. q) (λ q. q)
    | inl h ↦ own h
  ]
    where
      e : Entry
      e = Done v n o ms b

      one : items_named (slot_of v s.books) (n ∷ []) s.plan ≡ item_at (slot_of v s.books) n s.plan ∷ []
      one = named-first (slot_of v s.books) n [] s.plan
          ∙ ap (λ (l : List ℕ). item_at (slot_of v s.books) n s.plan ∷ l) (named-none (slot_of v s.books) s.plan)

      own : (v == w) ≡ true → Reported settings w (after_effect s (Done v n o ms b)) (es ++ Done v n o ms b ∷ [])
      own h =
          let same : v ≡ w = grind (arith, nat_tests, h) in
          let dones : outcomes_by w (es ++ Done v n o ms b ∷ []) ≡ outcomes_by w es ++ (n, o) ∷ [] = filter_map-append (outcome_in w) es (Done v n o ms b ∷ [])
          ∙ ap (λ (l : List (ℕ × Outcome)). outcomes_by w es ++ l) (rw h refl) in
          let named = (split-and (is_active v s.books) (names_head v n s) m).1 in
          let shared : s.books.shared ≡ true = shared-of_held s v (item_at (slot_of v s.books) n s.plan) placed (held-head (held v s.books.table) (item_at (slot_of v s.books) n s.plan) (names-item s v n named)) in
          let new : filter (is_result_of w) (reports_of s (Done v n o ms b)) ≡ Result w (base (slot_of w s.books) s.plan + n) o ∷ [] =
          ap (λ (l : List ℕ). filter (is_result_of w) (map (λ item. Result v item o) l)) one
          ∙ ap (λ (q : Bool). if q then Result v (item_at (slot_of v s.books) n s.plan) o ∷ [] else []) h
          ∙ ap (λ (i : ℕ). Result v i o ∷ []) (item-base (slot_of v s.books) n s.plan)
          ∙ ap (λ (u : ℕ). Result u (base (slot_of u s.books) s.plan + n) o ∷ []) same in
          record {
            results_are = (
                ap (filter (is_result_of w)) (reports-more settings es (Done v n o ms b) s at)
                ∙ filter-append (is_result_of w) (reports settings es) (reports_of s (Done v n o ms b))
                ∙ ap (λ (l : List Report). filter (is_result_of w) (reports settings es) ++ l) new
                ∙ ap (λ (l : List Report). l ++ Result w (base (slot_of w s.books) s.plan + n) o ∷ []) k.results_are
                ∙ sym (mapped (outcomes_by w es)) ∙ ap (results w (after_effect s (Done v n o ms b))) (sym dones));
            early = λ q. absurd (differ (sym q ∙ shared));
            unstarted = λ q. absurd (differ (sym q ∙ ap (λ (u : ℕ). has_member u (λ m. true) s.books) (sym same) ∙ has-member v (λ m. m.active) s.books.members (split-and (is_active v s.books) (names_head v n s) m).0));
          }
        where
          mapped : (ds : List (ℕ × Outcome))
              → results w s (ds ++ (n, o) ∷ []) ≡ results w s ds ++ Result w (base (slot_of w s.books) s.plan + n) o ∷ []
          mapped [] = refl
          mapped (x ∷ ds) =
              ap (λ (l : List Report). Result w (base (slot_of w s.books) s.plan + x.0) x.1 ∷ l) (mapped ds)

          held-head : (hs : List ℕ) (x : ℕ) → (elim hs as (λ _. Bool) [ [] ↦ false | t ∷ ts ↦ x == t ]) ≡ true
              → among x hs ≡ true
          held-head [] x q = absurd (differ q)
          held-head (t ∷ ts) x q = ap (λ (c : Bool). c || among x ts) q

  said-collected : (v : ℕ) (g : Ids) → s ≡ reached (after_entries (no_one settings) es) (Collected v g)
      → Reported settings w (after_effect s (Collected v g)) (es ++ Collected v g ∷ [])
  said-collected v g at =
      let u = in_books (λ b. marked (made_collected v) (with_list v g b)) s in
      let stop = unequal v g (listed v s.books) in
      let slot = slot-marked w (made_collected v) s.books.members (λ m. refl) (λ m. refl) in
      let member = has-same w (λ m. true) (made_collected v) s.books.members (λ m. refl) (λ m. refl) in
      keep (Collected v g) (after_effect s (Collected v g)) at refl refl
      (λ ds q. collecting-keeps (λ (x : State). results w x ds ≡ results w s ds) u v stop (same-slot _ _ slot ds) (same-slot _ _ slot ds) (same-slot _ _ slot ds) (λ n. none-named (shared_now (in_books (λ b. record b { table = joined v b.table }) u)) ds (sym q ∙ k.early n)))
      (λ q. not-shared q (cases_of s.books.shared))
      (λ q. sym (collecting-keeps (λ (x : State). has_member w (λ m. true) x.books ≡ has_member w (λ m. true) s.books) u v stop member member member (λ n. member)) ∙ q)
    where
      not-shared : (after_effect s (Collected v g)).books.shared ≡ false
          → ((s.books.shared ≡ true) ⊎ (s.books.shared ≡ false)) → s.books.shared ≡ false
      not-shared q (inr h) = h
      not-shared q (inl h) = absurd (differ (sym q ∙ still_shared s v g h))

  said : (e : Entry) → Tidy s → may_follow s e ≡ true → s ≡ reached (after_entries (no_one settings) es) e
      → Reported settings w (after_effect s e) (es ++ e ∷ [])
  said (Ready v) t m at =
      keep (Ready v) (after_effect s (Ready v)) at refl refl (λ ds q. same-slot _ _ (slot-marked w (made_ready v) s.books.members (λ m. refl) (λ m. refl)) ds) (λ q. q) (was-member (made_ready v) (λ m. refl))
  said (Collected v g) t m at = said-collected v g at
  said (Done v n o ms b) t m at = said-done v n o ms b t.placed at m
  said (Back v ns) t m at =
      keep (Back v ns) (after_effect s (Back v ns)) at refl refl (λ ds q. refl) (λ q. q) (λ q. q)
  said (Finished v) t m at =
      keep (Finished v) (after_effect s (Finished v)) at refl refl (λ ds q. same-slot _ _ (gone-slot v) ds) (λ q. q) (was-member (made_gone v) (λ m. refl))
  said (Refused v text) t m at =
      keep (Refused v text) (after_effect s (Refused v text)) at refl refl (λ ds q. same-slot _ _ (gone-slot v) ds) (λ q. q) (was-member (made_gone v) (λ m. refl))
  said (Down v c b) t m at =
      keep (Down v c b) (after_effect s (Down v c b)) at refl (crashes-none w v (crash_item (is_retry v s.books) (held v s.books.table))) (λ ds q. same-slot _ _ (gone-slot v) ds) (λ q. q) (was-member (made_gone v) (λ m. refl))
  said (NotStarted v) t m at =
      keep (NotStarted v) (after_effect s (NotStarted v)) at refl refl (λ ds q. same-slot _ _ (gone-slot v) ds) (λ q. q) (was-member (made_gone v) (λ m. refl))
  said (Start v slot) t m at = absurd (differ m)
  said (Run v ns) t m at = absurd (differ m)
  said (RunAll v) t m at = absurd (differ m)
  said (Steal v ns) t m at = absurd (differ m)
  said (Shutdown v) t m at = absurd (differ m)
  said (Kill v) t m at = absurd (differ m)
  said (Over how) t m at = absurd (differ m)

  told-start : (v slot : ℕ) → s ≡ reached (after_entries (no_one settings) es) (Start v slot)
      → Reported settings w (after_effect s (Start v slot)) (es ++ Start v slot ∷ [])
  told-start v slot at = keep (Start v slot) (after_effect s (Start v slot)) at refl refl
      (λ ds q. elim (cases_of (has_member w (λ m. true) s.books)) [
        | inl h ↦ same-slot _ _ (slot-old w s.books.members (started v slot) h) ds
        | inr h ↦ none-named (after_effect s (Start v slot)) ds (sym q ∙ k.unstarted h)
      ]) (λ q. q) (λ q. first (has_member w (λ m. true) s.books) ((v == w) && true) (sym (has-more w (λ m. true) s.books.members (started v slot)) ∙ q))
    where
      first : (a b : Bool) → (a || b) ≡ false → a ≡ false
      first true b h = absurd (differ (sym h))
      first false b h = refl

  told : (e : Entry) → is_orderly s e ≡ true → s ≡ reached (after_entries (no_one settings) es) e
      → Reported settings w (after_effect s e) (es ++ e ∷ [])
  told (Start v slot) m at = told-start v slot at
  told (Run v ns) m at =
      keep (Run v ns) (after_effect s (Run v ns)) at refl refl (λ ds q. refl) (λ q. q) (λ q. q)
  told (RunAll v) m at =
      keep (RunAll v) (after_effect s (RunAll v)) at refl refl (λ ds q. refl) (λ q. q) (λ q. q)
  told (Steal v ns) m at =
      keep (Steal v ns) (after_effect s (Steal v ns)) at refl refl (λ ds q. refl) (λ q. q) (λ q. q)
  told (Shutdown v) m at =
      keep (Shutdown v) (after_effect s (Shutdown v)) at refl refl (λ ds q. same-slot _ _ (slot-marked w (made_shut v) s.books.members (λ m. refl) (λ m. refl)) ds) (λ q. q) (was-member (made_shut v) (λ m. refl))
  told (Kill v) m at = keep (Kill v) s at refl refl (λ ds q. refl) (λ q. q) (λ q. q)
  told (Over how) m at = keep (Over how) s at refl refl (λ ds q. refl) (λ q. q) (λ q. q)
  told (Ready v) m at = absurd (differ m)
  told (Collected v g) m at = absurd (differ m)
  told (Done v n o ms b) m at = absurd (differ m)
  told (Back v ns) m at = absurd (differ m)
  told (Finished v) m at = absurd (differ m)
  told (Refused v text) m at = absurd (differ m)
  told (Down v c b) m at = absurd (differ m)
  told (NotStarted v) m at = absurd (differ m)

pub keeps_reported : (settings : Settings) (w : ℕ) → Keeps settings (Reported settings w)
keeps_reported settings w = record {
  said = λ s es e t m at k. said settings w s es k e t m at;
  told = λ s es e p m at k. told settings w s es k e m at;
  settled = λ s es k. record { results_are = k.results_are; early = k.early; unstarted = k.unstarted };
}

pub reported-none : (settings : Settings) (w : ℕ) → Reported settings w (no_one settings) []
reported-none settings w = record { results_are = refl; early = λ h. refl; unstarted = λ h. refl }
