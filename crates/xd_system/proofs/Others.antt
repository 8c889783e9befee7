-- What an entry of another worker leaves of what the controller has of a worker.
use Rattle.std.proofs.Common.{◌≡◌, ℕ, ◌+◌, List, [], ◌∷◌, ◌++◌, take, drop, map, Bool, true, false, not, ◌&&◌, ◌||◌, refl, ap, sym, ◌∙◌, arith, inl, inr}
use Rattle.std.specs.Prelude.{◌==◌, if◌then◌else◌, slice_index, sum, Option, Some, None, is_none}
use Rattle.std.proofs.lemmas.Bool.Decides.{nat_tests}
use Rattle.xd_edge.specs.declared.mode.ModeKind.{ModeKind}
use Rattle.xd_journal.specs.declared.entry.Entry.{Entry}
use Rattle.xd_journal.specs.declared.entry.Entry.TheVariants.{Ready, Collected, Done, Back, Finished, Refused, NotStarted, Start, Steal, Shutdown}
use Rattle.xd_journal.specs.declared.entry.Ids.{Ids}
use Rattle.xd_journal.specs.declared.entry.Outcome.{Outcome}
use Rattle.xd_run.specs.declared.member.Member.{Member}
use Rattle.xd_run.specs.declared.seat.Seat.{Seat}
use Rattle.xd_run.specs.Books.{Books, marked}
use Rattle.xd_run.specs.Collections.{listed, unequal, with_list}
use Rattle.xd_run.specs.Deaths.{steal_without}
use Rattle.xd_run.specs.Numbers.{all_among, all_distinct, among, without}
use Rattle.xd_run.specs.Orderly.{is_in_order, is_orderly, may_run, not_empty}
use Rattle.xd_run.specs.Plan.{UnansweredSteal, is_each, items_named}
use Rattle.xd_run.specs.Proper.{may_follow, may_give_back}
use Rattle.xd_run.specs.Results.{completed_first}
use Rattle.xd_run.specs.Retry.{is_retry}
use Rattle.xd_run.specs.Sharing.{State, in_books}
use Rattle.xd_run.specs.State.{after_effect}
use Rattle.xd_run.specs.Stops.{stopped_by}
use Rattle.xd_run.specs.Table.{assigned, at_seat, crash_item, held, held_in, in_rota, joined}
use Rattle.xd_run.specs.Workers.{has_member, is_active, is_shut, made_collected, made_gone, made_ready, made_shut, slot_in, slot_of, started}
use Rattle.xd_run_laws.proofs.Inputs.{collecting-keeps}
use Rattle.xd_run_laws.proofs.Logic.{cases_of, differ, or-false, split-and}
use Rattle.xd_run_laws.proofs.Members.{has, has-cleared, has-more, has-same, has-set, is_member}
use Rattle.xd_run_laws.proofs.MembersFit.{slot-marked}
use Rattle.xd_run_laws.proofs.Queue.{held-left, held-shut}
use Rattle.xd_run_laws.proofs.Rota.{has_seat, seat-change, seat-joined, seat-left}
use Rattle.xd_system.proofs.Deal.{Deals, asked_of, size_at}
use Rattle.xd_system.proofs.Frames.{Apart, Frame, deal-same}
use Rattle.xd_system.proofs.Returns.{answers-by}
use Rattle.xd_system.proofs.Lists.{among-longer}

-- what is kept of the worker stays, and whether it was started and is active
pub record Stays (w : ℕ) (s t : State) : Type 0 where
  pub frame : Frame w s t
  pub member : has_member w (λ m. true) t.books ≡ has_member w (λ m. true) s.books
  pub active : is_active w t.books ≡ is_active w s.books

pub deals-stay : (w : ℕ) (s t : State) (es fs : List Entry) → Apart w es fs → Stays w s t → Deals w s es
    → Deals w t fs
deals-stay w s t es fs a k d = record {
  unstarted = λ h. (let n = d.unstarted (sym k.member ∙ h) in record { told = a.told ∙ n.told; answers = a.answers ∙ n.answers; ended = a.ended ∙ n.ended });
  unasked = λ h. k.frame.asked ∙ d.unasked (sym k.member ∙ h);
  active = λ h. deal-same w s t es fs a k.frame (d.active (sym k.active ∙ h));
}

-- the same slot, mode and sizes name the same items

abbrev named_by : ModeKind → List ℕ → ℕ → List ℕ → List ℕ
named_by mode sizes slot ns =
    if is_each mode then map (λ i. (if is_each mode then sum (take slot sizes) else 0) + i) ns else ns

pub names-same : (w : ℕ) (s t : State) (ns : List ℕ) → slot_of w t.books ≡ slot_of w s.books
    → t.plan.mode ≡ s.plan.mode → t.plan.sizes ≡ s.plan.sizes
    → items_named (slot_of w t.books) ns t.plan ≡ items_named (slot_of w s.books) ns s.plan
names-same w s t ns a b c =
    ap (λ (m : ModeKind). named_by m t.plan.sizes (slot_of w t.books) ns) b
    ∙ ap (λ (z : List ℕ). named_by s.plan.mode z (slot_of w t.books) ns) c
    ∙ ap (λ (i : ℕ). named_by s.plan.mode s.plan.sizes i ns) a

abbrev size_by : ModeKind → List ℕ → ℕ → ℕ
size_by mode sizes slot = if is_each mode then slice_index sizes slot else sum sizes

pub size-same : (w : ℕ) (s t : State) → slot_of w t.books ≡ slot_of w s.books → t.plan.mode ≡ s.plan.mode
    → t.plan.sizes ≡ s.plan.sizes → size_at w t ≡ size_at w s
size-same w s t a b c =
    ap (λ (m : ModeKind). size_by m t.plan.sizes (slot_of w t.books)) b
    ∙ ap (λ (z : List ℕ). size_by s.plan.mode z (slot_of w t.books)) c ∙ ap (size_by s.plan.mode s.plan.sizes) a

pub frame-by : (w : ℕ) (s t : State) → held w t.books.table ≡ held w s.books.table
    → slot_of w t.books ≡ slot_of w s.books → t.plan.mode ≡ s.plan.mode → t.plan.sizes ≡ s.plan.sizes
    → ((x : ℕ) → among x s.books.table.reported ≡ true → among x t.books.table.reported ≡ true)
    → is_shut w t.books ≡ is_shut w s.books → asked_of w t.plan.steal ≡ asked_of w s.plan.steal
    → in_rota w t.books.table ≡ in_rota w s.books.table → t.books.shared ≡ s.books.shared → Frame w s t
frame-by w s t h slot mode sizes r shut asked rota shared = record {
  held = h;
  names = λ ns. names-same w s t ns slot mode sizes;
  size = size-same w s t slot mode sizes;
  reported = r;
  shut = shut;
  asked = asked;
  rota = λ k. sym rota ∙ k;
  shared = λ k. sym shared ∙ k;
}

-- members, but for one mark of another

gone-stays : (w v : ℕ) (ms : List Member) → (w == v) ≡ false
    → has w (λ m. m.active) (map (made_gone v) ms) ≡ has w (λ m. m.active) ms
gone-stays w v ms h = has-cleared w v (λ m. m.active) (made_gone v) ms (λ m. refl) (λ m. refl)
    ∙ ap (λ (b : Bool). not b && has w (λ m. m.active) ms) h

turned : (w v : ℕ) → (v == w) ≡ false → (w == v) ≡ false
turned w v h = grind (arith, nat_tests, h)

held-other : (w v : ℕ) (f : Seat → Seat) (ss : List Seat) → ((x : Seat) → (f x).worker ≡ x.worker) → (v == w) ≡ false
    → held_in w (at_seat v f ss) ≡ held_in w ss
held-other w v f [] k h = refl
held-other w v f (s ∷ ss) k h = grind (arith, nat_tests, held-other w v f ss k, k s, h)

-- the inputs

pub ready-stays : (w v : ℕ) (s : State) → Stays w s (after_effect s (Ready v))
ready-stays w v s =
    let ms = s.books.members in
    record {
      frame = frame-by w s (after_effect s (Ready v)) refl (slot-marked w (made_ready v) ms (λ m. refl) (λ m. refl)) refl refl (λ x h. h) (has-same w (λ m. m.shut) (made_ready v) ms (λ m. refl) (λ m. refl)) refl refl refl;
      member = has-same w (λ m. true) (made_ready v) ms (λ m. refl) (λ m. refl);
      active = has-same w (λ m. m.active) (made_ready v) ms (λ m. refl) (λ m. refl);
    }

pub done-stays : (w v n : ℕ) (o : Outcome) (ms : ℕ) (b : List ℕ) (s : State) → (v == w) ≡ false
    → Stays w s (after_effect s (Done v n o ms b))
done-stays w v n o ms b s h =
    let items = items_named (slot_of v s.books) (n ∷ []) s.plan in
    let t = s.books.table in
    record {
      frame = frame-by w s (after_effect s (Done v n o ms b)) (holds items) refl refl refl (λ x k. more items x k) refl refl (rota items) refl;
      member = refl;
      active = refl;
    }
  where
    holds : (is : List ℕ) → held w (completed_first v is s.books.table) ≡ held w s.books.table
    holds [] = refl
    holds (i ∷ is) =
        held-other w v (λ x. record x { held = without (i ∷ []) x.held }) s.books.table.rota (λ x. refl) h

    rota : (is : List ℕ) → in_rota w (completed_first v is s.books.table) ≡ in_rota w s.books.table
    rota [] = refl
    rota (i ∷ is) = seat-change w v (λ x. record x { held = without (i ∷ []) x.held }) s.books.table.rota (λ x. refl)

    more : (is : List ℕ) (x : ℕ) → among x s.books.table.reported ≡ true
        → among x (completed_first v is s.books.table).reported ≡ true
    more [] x k = k
    more (i ∷ is) x k = among-longer x s.books.table.reported (i ∷ []) k

pub back-stays : (w v : ℕ) (ns : List ℕ) (s : State) → (v == w) ≡ false → may_follow s (Back v ns) ≡ true
    → Stays w s (after_effect s (Back v ns))
back-stays w v ns s h m =
    let items = items_named (slot_of v s.books) ns s.plan in
    let a = answers-by v ns s s.plan.steal refl (split-and (is_active v s.books) (may_give_back v ns s) m).1 in
    let none : asked_of w s.plan.steal ≡ [] = ap (asked_of w) a.steal
    ∙ ap (λ (b : Bool). if b then a.asked.tests ∷ [] else []) (other a.asked a.who) in
    record {
      frame = frame-by w s (after_effect s (Back v ns)) (held-other w v (λ x. record x { held = without items x.held }) s.books.table.rota (λ x. refl) h) refl refl refl (λ x k. k) refl (sym none)
          (seat-change w v (λ x. record x { held = without items x.held }) s.books.table.rota (λ x. refl)) refl;
      member = refl;
      active = refl;
    }
  where
    other : (a : UnansweredSteal) → (a.worker == v) ≡ true → (a.worker == w) ≡ false
    other a k = grind (arith, nat_tests, h, k)

pub finished-stays : (w v : ℕ) (s : State) → (v == w) ≡ false → Stays w s (after_effect s (Finished v))
finished-stays w v s h =
    let ms = s.books.members in
    let o = turned w v h in
    record {
      frame = frame-by w s (after_effect s (Finished v)) (held-left w v s.books.table.rota o) (slot-marked w (made_gone v) ms (λ m. refl) (λ m. refl)) refl refl (λ x k. k)
          (has-same w (λ m. m.shut) (made_gone v) ms (λ m. refl) (λ m. refl)) refl (seat-left w v s.books.table.rota ∙ ap (λ (b : Bool). not b && has_seat w s.books.table.rota) o) refl;
      member = has-same w (λ m. true) (made_gone v) ms (λ m. refl) (λ m. refl);
      active = gone-stays w v ms o;
    }

pub refused-stays : (w v : ℕ) (text : List ℕ) (s : State) → (v == w) ≡ false
    → Stays w s (after_effect s (Refused v text))
refused-stays w v text s h =
    let ms = s.books.members in
    record {
      frame = frame-by w s (after_effect s (Refused v text)) refl (slot-marked w (made_gone v) ms (λ m. refl) (λ m. refl)) refl refl (λ x k. k)
          (has-same w (λ m. m.shut) (made_gone v) ms (λ m. refl) (λ m. refl)) refl refl refl;
      member = has-same w (λ m. true) (made_gone v) ms (λ m. refl) (λ m. refl);
      active = gone-stays w v ms (turned w v h);
    }

left-asked : (w v : ℕ) (o : Option UnansweredSteal) → (v == w) ≡ false → asked_of w (steal_without v o) ≡ asked_of w o
left-asked w v None h = refl
left-asked w v (Some a) h = elim (cases_of (a.worker == v)) [
  | inl k ↦ (let other : (a.worker == w) ≡ false = grind (arith, nat_tests, h, k) in
      ap (λ (b : Bool). asked_of w (if b then None else Some a)) k
      ∙ sym (ap (λ (b : Bool). if b then a.tests ∷ [] else []) other))
  | inr k ↦ ap (λ (b : Bool). asked_of w (if b then None else Some a)) k
]

pub down-stays : (w v : ℕ) (s : State) → (v == w) ≡ false → Stays w s (after_effect s (NotStarted v))
down-stays w v s h =
    let ms = s.books.members in
    let o = turned w v h in
    record {
      frame = frame-by w s (after_effect s (NotStarted v)) (held-left w v s.books.table.rota o) (slot-marked w (made_gone v) ms (λ m. refl) (λ m. refl)) refl refl
          (λ x k. among-longer x s.books.table.reported (crash_item (is_retry v s.books) (held v s.books.table)) k)
          (has-same w (λ m. m.shut) (made_gone v) ms (λ m. refl) (λ m. refl)) (left-asked w v s.plan.steal h)
          (seat-left w v s.books.table.rota ∙ ap (λ (b : Bool). not b && has_seat w s.books.table.rota) o) refl;
      member = has-same w (λ m. true) (made_gone v) ms (λ m. refl) (λ m. refl);
      active = gone-stays w v ms o;
    }

-- a collection after the share

pub collected-stays : (w v : ℕ) (g : Ids) (s : State) → (v == w) ≡ false → s.books.shared ≡ true
    → Stays w s (after_effect s (Collected v g))
collected-stays w v g s h shared =
    let ms = s.books.members in
    let u = in_books (λ b. marked (made_collected v) (with_list v g b)) s in
    let slot = slot-marked w (made_collected v) ms (λ m. refl) (λ m. refl) in
    let shut = has-same w (λ m. m.shut) (made_collected v) ms (λ m. refl) (λ m. refl) in
    let member = has-same w (λ m. true) (made_collected v) ms (λ m. refl) (λ m. refl) in
    let active = has-same w (λ m. m.active) (made_collected v) ms (λ m. refl) (λ m. refl) in
    let j = in_books (λ b. record b { table = joined v b.table }) u in
    let stop = unequal v g (listed v s.books) in
    collecting-keeps (Stays w s) u v stop
    (record { frame = frame-by w s u refl slot refl refl (λ x k. k) shut refl refl refl; member = member; active = active })
    (record { frame = frame-by w s (in_books (stopped_by stop) u) refl slot refl refl (λ x k. k) shut refl refl refl; member = member; active = active })
    (record { frame = frame-by w s j (joins s.books.table.rota) slot refl refl (λ x k. k) shut refl (stands s.books.table.rota) refl; member = member; active = active })
    (λ n. absurd (differ (sym n ∙ shared)))
  where
    joins : (ss : List Seat) → held_in w (ss ++ record { worker = v; held = []; shut = false } ∷ []) ≡ held_in w ss
    joins [] = grind (arith, nat_tests, h)
    joins (x ∷ ss) = grind (arith, nat_tests, joins ss)

    stands : (ss : List Seat) → has_seat w (ss ++ record { worker = v; held = []; shut = false } ∷ []) ≡ has_seat w ss
    stands ss = seat-joined w ss (record { worker = v; held = []; shut = false })
        ∙ ap (λ (b : Bool). has_seat w ss || b) h ∙ or-false (has_seat w ss)

-- the outputs

pub start-stays : (w v slot : ℕ) (s : State) → (v == w) ≡ false → Stays w s (after_effect s (Start v slot))
start-stays w v slot s h =
    let ms = s.books.members in
    record {
      frame = record {
        held = refl;
        names = λ ns. ap (λ (i : ℕ). items_named i ns s.plan) (old ms);
        size = ap (size_by s.plan.mode s.plan.sizes) (old ms);
        reported = λ x k. k;
        shut = same (λ m. m.shut);
        asked = refl;
        rota = λ k. k;
        shared = λ k. k;
      };
      member = same (λ m. true);
      active = same (λ m. m.active);
    }
  where
    old : (ms : List Member) → slot_in w (ms ++ started v slot ∷ []) ≡ slot_in w ms
    old [] = grind (arith, nat_tests, h)
    old (m ∷ ms) = grind (arith, nat_tests, old ms)

    none : (b c : Bool) → (b || (false && c)) ≡ b
    none true c = refl
    none false c = refl

    same : (test : Member → Bool) → has w test (s.books.members ++ started v slot ∷ []) ≡ has w test s.books.members
    same test = has-more w test s.books.members (started v slot)
        ∙ ap (λ (b : Bool). has w test s.books.members || (b && test (started v slot))) h
        ∙ none (has w test s.books.members) (test (started v slot))

pub given-stays : (w v : ℕ) (items : List ℕ) (s t : State) → (v == w) ≡ false
    → t.books ≡ record (s.books) { table = assigned v items s.books.table } → t.plan.mode ≡ s.plan.mode
    → t.plan.sizes ≡ s.plan.sizes → t.plan.steal ≡ s.plan.steal
    → Stays w s t
given-stays w v items s t h e mode sizes steal =
    let grow = λ (x : Seat). record x { held = x.held ++ items } in
    record {
      frame = frame-by w s t (ap (λ (b : Books). held w b.table) e ∙ held-other w v grow s.books.table.rota (λ x. refl) h) (ap (slot_of w) e) mode sizes
          (λ x k. ap (λ (b : Books). among x b.table.reported) e ∙ k) (ap (is_shut w) e) (ap (asked_of w) steal)
          (ap (λ (b : Books). in_rota w b.table) e ∙ seat-change w v grow s.books.table.rota (λ x. refl)) (ap (λ (b : Books). b.shared) e);
      member = ap (has_member w (λ m. true)) e;
      active = ap (is_active w) e;
    }

pub steal-stays : (w v : ℕ) (ns : List ℕ) (s : State) → (v == w) ≡ false → is_orderly s (Steal v ns) ≡ true
    → Stays w s (after_effect s (Steal v ns))
steal-stays w v ns s h o =
    let ordered = is_in_order (items_named (slot_of v s.books) ns s.plan) (held v s.books.table) in
    let p = split-and (may_run v s && ordered && is_none s.plan.steal && not_empty ns && all_distinct ns) (all_among ns (drop 2 (held v s.books.table))) o in
    let q = split-and (may_run v s && ordered && is_none s.plan.steal && not_empty ns) (all_distinct ns) p.0 in
    let r = split-and (may_run v s && ordered && is_none s.plan.steal) (not_empty ns) q.0 in
    let none = nobody s.plan.steal (split-and (may_run v s && ordered) (is_none s.plan.steal) r.0).1 in
    record {
      frame = frame-by w s (after_effect s (Steal v ns)) refl refl refl refl (λ x k. k) refl (ap (λ (b : Bool). if b then ns ∷ [] else []) h ∙ sym (ap (asked_of w) none)) refl refl;
      member = refl;
      active = refl;
    }
  where
    nobody : (a : Option UnansweredSteal) → is_none a ≡ true → a ≡ None
    nobody None k = refl
    nobody (Some a) k = absurd (differ k)

pub shutdown-stays : (w v : ℕ) (s : State) → (v == w) ≡ false → Stays w s (after_effect s (Shutdown v))
shutdown-stays w v s h =
    let ms = s.books.members in
    let o = turned w v h in
    record {
      frame = frame-by w s (after_effect s (Shutdown v)) (held-shut w v s.books.table.rota) (slot-marked w (made_shut v) ms (λ m. refl) (λ m. refl)) refl refl (λ x k. k)
          (has-set w v (λ m. m.shut) (made_shut v) ms (λ m. refl) (λ m. refl) ∙ ap (λ (b : Bool). if b then is_member w ms else has w (λ m. m.shut) ms) o) refl
          (seat-change w v (λ x. record x { shut = true }) s.books.table.rota (λ x. refl)) refl;
      member = has-same w (λ m. true) (made_shut v) ms (λ m. refl) (λ m. refl);
      active = has-same w (λ m. m.active) (made_shut v) ms (λ m. refl) (λ m. refl);
    }
