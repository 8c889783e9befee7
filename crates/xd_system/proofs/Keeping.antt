-- Each entry of a proper journal keeps what the controller has of each worker a function of its orders, answers
-- and ends.
use Rattle.std.proofs.Common.{◌≡◌, ℕ, List, [], ◌∷◌, ◌++◌, map, Bool, true, false, not, ◌&&◌, ◌||◌, refl, ap, sym, ◌∙◌, subst, arith, inl, inr}
use Rattle.std.specs.Prelude.{◌==◌}
use Rattle.std.proofs.lemmas.Bool.Decides.{nat_tests}
use Rattle.xd_journal.specs.declared.settings.Settings.{Settings}
use Rattle.xd_journal.specs.declared.entry.Entry.{Entry}
use Rattle.xd_journal.specs.declared.entry.Entry.TheVariants.{Ready, Collected, Done, Back, Finished, Refused, Down, NotStarted, Start, Run, RunAll, Steal, Shutdown, Kill, Over}
use Rattle.xd_journal.specs.declared.entry.Cause.{Cause}
use Rattle.xd_journal.specs.declared.entry.Ids.{Ids}
use Rattle.xd_journal.specs.declared.entry.Outcome.{Outcome}
use Rattle.xd_run.specs.declared.member.Member.{Member}
use Rattle.xd_run.specs.Books.{marked}
use Rattle.xd_run.specs.Collections.{listed, unequal, with_list}
use Rattle.xd_run.specs.Orderly.{is_orderly, may_run}
use Rattle.xd_run.specs.Numbers.{all_among}
use Rattle.xd_run.specs.Plan.{is_each, items_named, slot_items}
use Rattle.xd_run.specs.Proper.{are_ids, may_follow, may_give_back, names_head}
use Rattle.xd_run.specs.Sharing.{State, in_books}
use Rattle.xd_run.specs.State.{after_effect, no_one, settled}
use Rattle.xd_run.specs.Table.{in_rota}
use Rattle.xd_run.specs.Workers.{has_collected, has_member, is_active, is_shut, made_collected, made_gone, made_shut, slot_of, started, was_ready}
use Rattle.xd_run_laws.proofs.Inputs.{collecting-keeps}
use Rattle.xd_run_laws.proofs.Logic.{cases_of, differ, not_true, split-and}
use Rattle.xd_run_laws.proofs.Members.{has, has-cleared, has-member, has-more, has-same}
use Rattle.xd_run_laws.proofs.Placed.{Placed}
use Rattle.xd_run_laws.proofs.Turns.{Tidy}
use Rattle.xd_run_laws.proofs.Walk.{Keeps}
use Rattle.xd_system.specs.Own.{answers_by, ends_by, told_to}
use Rattle.xd_system.proofs.Asked.{steal-rota, takes_steal}
use Rattle.xd_system.proofs.Completes.{takes_end}
use Rattle.xd_system.proofs.Deal.{Deal, Deals, asked_of, is_quiet}
use Rattle.xd_system.proofs.Frames.{Apart, apart-one}
use Rattle.xd_system.proofs.Given.{gives-run, takes_run, takes_run_all}
use Rattle.xd_system.proofs.Others.{Stays, back-stays, collected-stays, deals-stay, done-stays, down-stays, finished-stays, frame-by, given-stays, ready-stays, refused-stays, shutdown-stays, start-stays, steal-stays}
use Rattle.xd_system.proofs.Returns.{takes_back}
use Rattle.xd_system.proofs.Shuts.{takes_collected, takes_shutdown, takes_start}

-- the worker is active, or was
live : (w : ℕ) (t : State) (fs : List Entry) → has_member w (λ m. true) t.books ≡ true → Deal w t fs → Deals w t fs
live w t fs m d =
    record { unstarted = λ h. absurd (differ (sym h ∙ m)); unasked = λ h. absurd (differ (sym h ∙ m)); active = λ h. d }

ended : (w : ℕ) (t : State) (fs : List Entry) → has_member w (λ m. true) t.books ≡ true → is_active w t.books ≡ false
    → Deals w t fs
ended w t fs m a =
    record { unstarted = λ h. absurd (differ (sym h ∙ m)); unasked = λ h. absurd (differ (sym h ∙ m)); active = λ h. absurd (differ (sym a ∙ h)) }

member-of : (w : ℕ) (s : State) → is_active w s.books ≡ true → has_member w (λ m. true) s.books ≡ true
member-of w s h = has-member w (λ m. m.active) s.books.members h

gone-member : (w : ℕ) (ms : List Member) → has w (λ m. true) ms ≡ true
    → has w (λ m. true) (map (made_gone w) ms) ≡ true
gone-member w ms h = has-same w (λ m. true) (made_gone w) ms (λ m. refl) (λ m. refl) ∙ h

gone-active : (w : ℕ) (ms : List Member) → has w (λ m. m.active) (map (made_gone w) ms) ≡ false
gone-active w ms =
    let own : (w == w) ≡ true = grind (arith, nat_tests) in
    has-cleared w w (λ m. m.active) (made_gone w) ms (λ m. refl) (λ m. refl)
    ∙ ap (λ (b : Bool). not b && has w (λ m. m.active) ms) own

-- of the worker itself, or of another
either : (P : ℕ → Type 0) (v w : ℕ) → ((v == w) ≡ false → P v) → P w → P v
either P v w other own = elim (cases_of (v == w)) [
  | inl h ↦ (let e : w ≡ v = grind (arith, nat_tests, h) in subst P e own)
  | inr h ↦ other h
]

module _ (w : ℕ) (s : State) (es : List Entry) (d : Deals w s es) where
  abbrev Kept : Entry → Type 0
  Kept e = Deals w (after_effect s e) (es ++ e ∷ [])

  stay : (e : Entry) → told_to w (e ∷ []) ≡ [] → answers_by w (e ∷ []) ≡ [] → ends_by w (e ∷ []) ≡ []
      → Stays w s (after_effect s e) → Kept e
  stay e a b c k = deals-stay w s (after_effect s e) es (es ++ e ∷ []) (apart-one w es e a b c) k d

  -- inputs

  said-ready : (v : ℕ) → Kept (Ready v)
  said-ready v = stay (Ready v) refl refl refl (ready-stays w v s)

  said-done : (v n : ℕ) (o : Outcome) (ms : ℕ) (b : List ℕ) → Placed s → may_follow s (Done v n o ms b) ≡ true
      → Kept (Done v n o ms b)
  said-done v n o ms b placed = either (λ x. may_follow s (Done x n o ms b) ≡ true → Kept (Done x n o ms b)) v w
      (λ h m. stay (Done v n o ms b) refl refl (rw h refl) (done-stays w v n o ms b s h))
      (λ m. (let a = (split-and (is_active w s.books) (names_head w n s) m).0 in
      live w (after_effect s (Done w n o ms b)) (es ++ Done w n o ms b ∷ []) (member-of w s a) (takes_end w n o ms b es s placed m (d.active a))))

  said-back : (v : ℕ) (ns : List ℕ) → may_follow s (Back v ns) ≡ true → Kept (Back v ns)
  said-back v ns = either (λ x. may_follow s (Back x ns) ≡ true → Kept (Back x ns)) v w
      (λ h m. stay (Back v ns) refl (rw h refl) refl (back-stays w v ns s h m))
      (λ m. (let a = (split-and (is_active w s.books) (may_give_back w ns s) m).0 in
      live w (after_effect s (Back w ns)) (es ++ Back w ns ∷ []) (member-of w s a) (takes_back w ns es s m (d.active a))))

  said-finished : (v : ℕ) → may_follow s (Finished v) ≡ true → Kept (Finished v)
  said-finished v = either (λ x. may_follow s (Finished x) ≡ true → Kept (Finished x)) v w
      (λ h m. stay (Finished v) refl refl refl (finished-stays w v s h))
      (λ m. (let p = split-and (is_active w s.books && is_shut w s.books && has_collected w s.books) _ m in
      let q = split-and (is_active w s.books && is_shut w s.books) (has_collected w s.books) p.0 in
      let a = (split-and (is_active w s.books) (is_shut w s.books) q.0).0 in
      ended w (after_effect s (Finished w)) (es ++ Finished w ∷ []) (gone-member w s.books.members (member-of w s a)) (gone-active w s.books.members)))

  said-refused : (v : ℕ) (text : List ℕ) → may_follow s (Refused v text) ≡ true → Kept (Refused v text)
  said-refused v text = either (λ x. may_follow s (Refused x text) ≡ true → Kept (Refused x text)) v w
      (λ h m. stay (Refused v text) refl refl refl (refused-stays w v text s h))
      (λ m. (let a = (split-and (is_active w s.books) (not (has_collected w s.books)) m).0 in
      ended w (after_effect s (Refused w text)) (es ++ Refused w text ∷ []) (gone-member w s.books.members (member-of w s a)) (gone-active w s.books.members)))

  said-down : (v : ℕ) (c : Cause) (b : List ℕ) → may_follow s (Down v c b) ≡ true → Kept (Down v c b)
  said-down v c b = either (λ x. may_follow s (Down x c b) ≡ true → Kept (Down x c b)) v w
      (λ h m. stay (Down v c b) refl refl refl (down-stays w v s h))
      (λ m. ended w (after_effect s (Down w c b)) (es ++ Down w c b ∷ []) (gone-member w s.books.members (member-of w s m)) (gone-active w s.books.members))

  said-unstarted : (v : ℕ) → may_follow s (NotStarted v) ≡ true → Kept (NotStarted v)
  said-unstarted v = either (λ x. may_follow s (NotStarted x) ≡ true → Kept (NotStarted x)) v w
      (λ h m. stay (NotStarted v) refl refl refl (down-stays w v s h))
      (λ m. (let a = (split-and (is_active w s.books) (not (was_ready w s.books)) m).0 in
      ended w (after_effect s (NotStarted w)) (es ++ NotStarted w ∷ []) (gone-member w s.books.members (member-of w s a)) (gone-active w s.books.members)))

  -- before the share, and of the worker itself, a collection comes while nothing but a Shutdown was told
  quiet-collected : (v : ℕ) (g : Ids) → ((a : is_active w s.books ≡ true) → is_quiet (told_to w es) ≡ true)
      → Kept (Collected v g)
  quiet-collected v g q =
      let e = Collected v g in
      let u = in_books (λ b. marked (made_collected v) (with_list v g b)) s in
      let stop = unequal v g (listed v s.books) in
      let marks : (test : Member → Bool) → ((m : Member) → test (made_collected v m) ≡ test m)
      → has w test (after_effect s e).books.members ≡ has w test s.books.members = λ test k. (
      let same = has-same w test (made_collected v) s.books.members (λ m. refl) k in
      collecting-keeps (λ (x : State). has w test x.books.members ≡ has w test s.books.members) u v stop same same same (λ n. same)) in
      let asked : asked_of w (after_effect s e).plan.steal ≡ asked_of w s.plan.steal =
      collecting-keeps (λ (x : State). asked_of w x.plan.steal ≡ asked_of w s.plan.steal) u v stop refl refl refl (λ n. refl) in
      let a : Apart w es (es ++ e ∷ []) = apart-one w es e refl refl refl in
      record {
        unstarted = λ h. (let n = d.unstarted (sym (marks (λ m. true) (λ m. refl)) ∙ h) in record { told = a.told ∙ n.told; answers = a.answers ∙ n.answers; ended = a.ended ∙ n.ended });
        unasked = λ h. asked ∙ d.unasked (sym (marks (λ m. true) (λ m. refl)) ∙ h);
        active = λ h. (let k : is_active w s.books ≡ true = sym (marks (λ m. m.active) (λ m. refl)) ∙ h in takes_collected w v g es s (d.active k) (q k));
      }

  said-collected : (v : ℕ) (g : Ids) → Placed s → may_follow s (Collected v g) ≡ true → Kept (Collected v g)
  said-collected v g placed m = elim (cases_of s.books.shared) [
    | inr n ↦ quiet-collected v g (λ a. (d.active a).unshared n)
    | inl shared ↦ either (λ x. may_follow s (Collected x g) ≡ true → Kept (Collected x g)) v w
        (λ h k. stay (Collected v g) refl refl refl (collected-stays w v g s h shared))
        (λ k. quiet-collected w g (λ a. (d.active a).early (late k))) m
  ]
    where
      late : may_follow s (Collected w g) ≡ true → in_rota w s.books.table ≡ false
      late k =
          let p = split-and (is_active w s.books && was_ready w s.books && not (has_collected w s.books)) (are_ids g w s) k in
          let q = split-and (is_active w s.books && was_ready w s.books) (not (has_collected w s.books)) p.0 in
          elim (cases_of (in_rota w s.books.table)) [
            | inl r ↦ absurd (differ (sym (not_true (has_collected w s.books) q.1) ∙ placed.fits.collected w r))
            | inr r ↦ r
          ]

  -- outputs

  told-start : (v slot : ℕ) → Placed s → is_orderly s (Start v slot) ≡ true → Kept (Start v slot)
  told-start v slot placed = either (λ x. is_orderly s (Start x slot) ≡ true → Kept (Start x slot)) v w
      (λ h m. stay (Start v slot) refl refl refl (start-stays w v slot s h))
      (λ m. (let none = not_true (has_member w (λ m. true) s.books) m in
      live w (after_effect s (Start w slot)) (es ++ Start w slot ∷ []) (begun slot) (takes_start w slot es s placed none (d.unstarted none) (d.unasked none))))
    where
      begun : (i : ℕ) → has_member w (λ m. true) (after_effect s (Start w i)).books ≡ true
      begun i =
          let own : (w == w) ≡ true = grind (arith, nat_tests) in
          has-more w (λ m. true) s.books.members (started w i)
          ∙ ap (λ (b : Bool). has w (λ m. true) s.books.members || (b && true)) own
          ∙ last (has w (λ m. true) s.books.members)
        where
          last : (b : Bool) → (b || true) ≡ true
          last true = refl
          last false = refl

  rota-active : Placed s → in_rota w s.books.table ≡ true → is_active w s.books ≡ true
  rota-active placed r = placed.fits.active w r

  told-run : (v : ℕ) (ns : List ℕ) → Placed s → is_orderly s (Run v ns) ≡ true → Kept (Run v ns)
  told-run v ns placed = either (λ x. is_orderly s (Run x ns) ≡ true → Kept (Run x ns)) v w
      (λ h m. stay (Run v ns) (rw h refl) refl refl (given-stays w v (items_named (slot_of v s.books) ns s.plan) s (after_effect s (Run v ns)) h refl refl refl refl))
      (λ m. (let a = rota-active placed (gives-run w ns s placed m).rota in
      live w (after_effect s (Run w ns)) (es ++ Run w ns ∷ []) (member-of w s a) (takes_run w ns es s placed m (d.active a))))

  told-run_all : (v : ℕ) → Placed s → is_orderly s (RunAll v) ≡ true → Kept (RunAll v)
  told-run_all v placed = either (λ x. is_orderly s (RunAll x) ≡ true → Kept (RunAll x)) v w
      (λ h m. stay (RunAll v) (rw h refl) refl refl (given-stays w v (slot_items (slot_of v s.books) s.plan) s (after_effect s (RunAll v)) h refl refl refl refl))
      (λ m. (let p = split-and (is_each s.plan.mode && s.books.shared && may_run w s) (all_among (slot_items (slot_of w s.books) s.plan) s.books.table.pool) m in
      let q = split-and (is_each s.plan.mode && s.books.shared) (may_run w s) p.0 in
      let a = rota-active placed (split-and (in_rota w s.books.table) (not (is_shut w s.books)) q.1).0 in
      live w (after_effect s (RunAll w)) (es ++ RunAll w ∷ []) (member-of w s a) (takes_run_all w es s placed m (d.active a))))

  told-steal : (v : ℕ) (ns : List ℕ) → Placed s → is_orderly s (Steal v ns) ≡ true → Kept (Steal v ns)
  told-steal v ns placed = either (λ x. is_orderly s (Steal x ns) ≡ true → Kept (Steal x ns)) v w
      (λ h m. stay (Steal v ns) (rw h refl) refl refl (steal-stays w v ns s h m))
      (λ m. (let a = rota-active placed (steal-rota w ns s m) in
      live w (after_effect s (Steal w ns)) (es ++ Steal w ns ∷ []) (member-of w s a) (takes_steal w ns es s m (d.active a))))

  told-shutdown : (v : ℕ) → is_orderly s (Shutdown v) ≡ true → Kept (Shutdown v)
  told-shutdown v = either (λ x. is_orderly s (Shutdown x) ≡ true → Kept (Shutdown x)) v w
      (λ h m. stay (Shutdown v) (rw h refl) refl refl (shutdown-stays w v s h))
      (λ m. (let p = split-and (is_active w s.books && was_ready w s.books) (not (is_shut w s.books)) m in
      let a = (split-and (is_active w s.books) (was_ready w s.books) p.0).0 in
      live w (after_effect s (Shutdown w)) (es ++ Shutdown w ∷ []) (has-same w (λ m. true) (made_shut w) s.books.members (λ m. refl) (λ m. refl) ∙ member-of w s a)
      (takes_shutdown w es s m (d.active a))))

  stands : Stays w s s
  stands = record { frame = frame-by w s s refl refl refl refl (λ x k. k) refl refl refl refl; member = refl; active = refl }

  -- each entry

  said : (e : Entry) → Tidy s → may_follow s e ≡ true → Kept e
  said (Ready v) t m = said-ready v
  said (Collected v g) t m = said-collected v g t.placed m
  said (Done v n o ms b) t m = said-done v n o ms b t.placed m
  said (Back v ns) t m = said-back v ns m
  said (Finished v) t m = said-finished v m
  said (Refused v text) t m = said-refused v text m
  said (Down v c b) t m = said-down v c b m
  said (NotStarted v) t m = said-unstarted v m
  said (Start v slot) t m = absurd (differ m)
  said (Run v ns) t m = absurd (differ m)
  said (RunAll v) t m = absurd (differ m)
  said (Steal v ns) t m = absurd (differ m)
  said (Shutdown v) t m = absurd (differ m)
  said (Kill v) t m = absurd (differ m)
  said (Over how) t m = absurd (differ m)

  told : (e : Entry) → Placed s → is_orderly s e ≡ true → Kept e
  told (Start v slot) p m = told-start v slot p m
  told (Run v ns) p m = told-run v ns p m
  told (RunAll v) p m = told-run_all v p m
  told (Steal v ns) p m = told-steal v ns p m
  told (Shutdown v) p m = told-shutdown v m
  told (Kill v) p m = stay (Kill v) refl refl refl stands
  told (Over how) p m = stay (Over how) refl refl refl stands
  told (Ready v) p m = absurd (differ m)
  told (Collected v g) p m = absurd (differ m)
  told (Done v n o ms b) p m = absurd (differ m)
  told (Back v ns) p m = absurd (differ m)
  told (Finished v) p m = absurd (differ m)
  told (Refused v text) p m = absurd (differ m)
  told (Down v c b) p m = absurd (differ m)
  told (NotStarted v) p m = absurd (differ m)

  rests : Deals w (settled s) es
  rests = deals-stay w s (settled s) es es (record { told = refl; answers = refl; ended = refl })
      (record { frame = frame-by w s (settled s) refl refl refl refl (λ x k. k) refl refl refl refl; member = refl; active = refl }) d

pub keeps_deals : (settings : Settings) (w : ℕ) → Keeps settings (Deals w)
keeps_deals settings w = record {
  said = λ s es e t m at d. said w s es d e t m;
  told = λ s es e p m at d. told w s es d e p m;
  settled = λ s es d. rests w s es d;
}

pub deals-none : (settings : Settings) (w : ℕ) → Deals w (no_one settings) []
deals-none settings w =
    record { unstarted = λ h. record { told = refl; answers = refl; ended = refl }; unasked = λ h. refl; active = λ h. absurd (differ h) }
