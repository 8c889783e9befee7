-- What holds of one worker after whatever news, as long as none of its own was a breach.
use Rattle.std.proofs.Common.{◌≡◌, ℕ, zero, suc, ◌+◌, List, [], ◌∷◌, ◌++◌, map, length, Bool, true, false, ◌&&◌, ◌||◌, refl, ap, sym, ◌∙◌, subst, arith, append_assoc, inl, inr, not}
use Rattle.std.specs.Prelude.{◌⊎◌, ◌==◌, if◌then◌else◌, Option, Some, None, fold}
use Rattle.std.specs.List.{list_any}
use Rattle.std.proofs.lemmas.Bool.Decides.{nat_tests}
use Rattle.std.proofs.lemmas.List.{append-nil}
use Rattle.std.proofs.lemmas.List.Elements.{filter_map-append}
use Rattle.std.proofs.lemmas.List.Folds.{list_any-append}
use Rattle.xd_journal.specs.declared.settings.Settings.{Settings}
use Rattle.xd_journal.specs.declared.entry.Entry.{Entry}
use Rattle.xd_journal.specs.declared.entry.Entry.TheVariants.{Finished, Refused}
use Rattle.xd_journal.specs.declared.news.News.{News}
use Rattle.xd_journal.specs.declared.news.What.{What}
use Rattle.xd_journal.specs.declared.news.What.TheVariants as what
use Rattle.xd_run.specs.declared.member.Member.{Member}
use Rattle.xd_run.specs.Histories.{starts_from}
use Rattle.xd_run.specs.Meaning.{breach, given_ids, log_of, meaning, meaning_of, or_breach, spent_by}
use Rattle.xd_run.specs.Outputs.{outputs}
use Rattle.xd_run.specs.Proper.{IsProper, may_follow}
use Rattle.xd_run.specs.Sharing.{State}
use Rattle.xd_run.specs.State.{after_effect, after_entries, is_input, no_one, settled}
use Rattle.xd_run.specs.Workers.{has_collected, has_member, is_active, made_gone}
use Rattle.xd_run_laws.proofs.Laws.{lawful}
use Rattle.xd_run_laws.proofs.Logic.{cases_of, differ, or-false}
use Rattle.xd_run_laws.proofs.Members.{has, has-cleared, has-member}
use Rattle.xd_run_laws.proofs.Shared.{Listing, keeps_listing, listing-none}
use Rattle.xd_run_laws.proofs.Turns.{Tidy, after_entries-join}
use Rattle.xd_run_laws.proofs.Walk.{Keeps, input-of}
use Rattle.xd_session.specs.History.{IsProperRun, Run as SoFar, after_news, begun_run, entries_with, input_of, said_by}
use Rattle.xd_session.proofs.Steps.{outputs-orderly, sound-next, sound-run}
use Rattle.xd_system.specs.Fits.{is_collected}
use Rattle.xd_system.specs.Moment.{AfterStart}
use Rattle.xd_system.specs.Own.{outcomes_by, collections_in, collection_of_news, is_accused, is_breach_of, told_to}
use Rattle.xd_system.proofs.Call.{is_last_told}
use Rattle.xd_system.proofs.Deal.{Deals}
use Rattle.xd_system.proofs.Echo.{Echo, echo-more, echo-none, entry_of, orderly-echo, other-echo, own-echo}
use Rattle.xd_system.proofs.Keeping.{deals-none, keeps_deals}
use Rattle.xd_system.proofs.Marks.{MarksSo, keeps_marks, marks-none}
use Rattle.xd_system.proofs.Silent.{Silent, keeps_silent}
use Rattle.xd_system.proofs.Sizes.{Sized, collects, keeps_sized}
use Rattle.xd_system.proofs.Walks.{at-run, onward, state-run}
use Rattle.xd_system.proofs.Started.{WasStarted, keep-member, keeps_member}
use Rattle.xd_system.proofs.Said.{said-join, said-own, said-other, none-said, no-dones}

-- the worker's collection has the size that the controller has of it
pub record SizedAs (w : ℕ) (r : SoFar) : Type 0 where
  pub own : List (List ℕ)
  pub rest : List (List (List ℕ))
  pub ids : collections_in (said_by w r.taken) ≡ own ∷ rest
  pub is : Sized w (length own) r.state r.entries

-- what holds of the worker after these news, as long as none of its own was a breach
pub record HonestSoFar (w : ℕ) (r : SoFar) : Type 0 where
  pub begun : has_member w (λ m. true) r.state.books ≡ false → said_by w r.taken ≡ []
  pub echo : is_active w r.state.books ≡ true → Echo w r.entries (said_by w r.taken)
  pub sized : is_active w r.state.books ≡ true → has_collected w r.state.books ≡ true → SizedAs w r
  pub unaccused : is_accused w r.entries ≡ false
  pub unfinished : is_active w r.state.books ≡ true → list_any is_last_told (said_by w r.taken) ≡ false

-- the entries of an input
abbrev pub added : SoFar → Option Entry → List Entry
added r None = []
added r (Some e) = e ∷ outputs r.state e

pub entries-added : (r : SoFar) (o : Option Entry) → entries_with o r.entries r.state ≡ r.entries ++ added r o
entries-added r None = sym (append-nil r.entries)
entries-added r (Some e) = refl

module _ (settings : Settings) (r : SoFar) (n : News) (sound : IsProperRun settings r) (w : ℕ) where
  abbrev r2 : SoFar
  r2 = after_news r n

  sound2 : IsProperRun settings r2
  sound2 = sound-next settings r n sound

  grown : r2.entries ≡ r.entries ++ added r (input_of r n)
  grown = entries-added r (input_of r n)

  -- what is kept from the run before on
  from-here : (R : State → List Entry → Type 0) → Keeps settings R
      → ((s : State) → R (settled s) r.entries → R s r.entries) → R r.state r.entries → R r2.state r2.entries
  from-here R k back x =
      onward settings r2 R k sound2 r.entries (added r (input_of r n)) grown (back (after_entries (no_one settings) r.entries) (subst (λ (s : State). R s r.entries) (state-run settings r sound) x))

  pub member-then : has_member w (λ m. true) r.state.books ≡ true → has_member w (λ m. true) r2.state.books ≡ true
  member-then h = from-here (WasStarted w) (keeps_member settings w) (λ s k. k) h

  inactive-then : has_member w (λ m. true) r.state.books ≡ true → is_active w r.state.books ≡ false
      → is_active w r2.state.books ≡ false
  inactive-then m a =
      (from-here (Silent w (told_to w r.entries) (outcomes_by w r.entries)) (keeps_silent settings w (told_to w r.entries) (outcomes_by w r.entries)) (λ s k. record { member = k.member; gone = k.gone; told = k.told; dones = k.dones }) (record { member = m; gone = a; told = refl; dones = refl })).gone

  -- the entries that come say of the worker what the entry of the news says
  echo-added : (o : Option Entry) (xs : List What) → input_of r n ≡ o → Echo w (entry_of o) xs → Echo w (added r o) xs
  echo-added None xs e k = k
  echo-added (Some e) xs q k =
      subst (λ (l : List What). Echo w (e ∷ outputs r.state e) l) (append-nil xs)
      (echo-more w (e ∷ []) (outputs r.state e) xs [] k (orderly-echo w (after_effect r.state e) (outputs r.state e) (outputs-orderly settings r n e sound q)))

  meant : (a : Bool) → is_active n.worker r.state.books ≡ a → (n.worker == w) ≡ false
      → Echo w (entry_of (if a then meaning_of n.worker (log_of (said_by n.worker r.taken)) (spent_by r.entries) r.state n.what else None)) []
  meant true e h = other-echo w n.worker (log_of (said_by n.worker r.taken)) (spent_by r.entries) r.state n.what h
  meant false e h = echo-none w

  pub added-other : (n.worker == w) ≡ false → Echo w (added r (input_of r n)) []
  added-other h = echo-added (input_of r n) [] refl (meant (is_active n.worker r.state.books) refl h)

  taken-more : said_by w r2.taken ≡ said_by w r.taken ++ said_by w (n ∷ [])
  taken-more = said-join w r.taken (n ∷ [])

  pub marks-at : MarksSo w r.state r.entries
  marks-at = at-run settings r (MarksSo w) (keeps_marks settings w) sound (marks-none settings w)

  marks-then : MarksSo w r2.state r2.entries
  marks-then = at-run settings r2 (MarksSo w) (keeps_marks settings w) sound2 (marks-none settings w)

  pub deals-at : Deals w r.state r.entries
  deals-at = at-run settings r (Deals w) (keeps_deals settings w) sound (deals-none settings w)

  absent : (test : Member → Bool) → has_member w (λ m. true) r.state.books ≡ false
      → has_member w test r.state.books ≡ false
  absent test h = elim (cases_of (has_member w test r.state.books)) [
    | inl k ↦ absurd (differ (sym h ∙ has-member w test r.state.books.members k))
    | inr k ↦ k
  ]

  -- the state after an input
  pub state-after : (e : Entry) → is_input e ≡ true
      → after_entries (no_one settings) (r.entries ++ e ∷ []) ≡ after_effect r.state e
  state-after e h =
      let S = after_entries (no_one settings) r.entries in
      after_entries-join (no_one settings) r.entries (e ∷ [])
      ∙ ap (λ (b : Bool). after_effect (if b then settled S else S) e) h
      ∙ ap (λ (u : State). after_effect u e) (sym (state-run settings r sound))

  -- news of the worker itself

  pub input-own : (n.worker == w) ≡ true → is_active w r.state.books ≡ true
      → input_of r n ≡ meaning_of w (log_of (said_by w r.taken)) (spent_by r.entries) r.state n.what
  input-own h a =
      let e : n.worker ≡ w = grind (arith, nat_tests, h) in
      ap (λ (v : ℕ). meaning v r.entries r.state (said_by v r.taken) n.what) e
      ∙ ap (λ (b : Bool). if b then meaning_of w (log_of (said_by w r.taken)) (spent_by r.entries) r.state n.what else None) a

  pub input-gone : (n.worker == w) ≡ true → is_active w r.state.books ≡ false → input_of r n ≡ None
  input-gone h a =
      let e : n.worker ≡ w = grind (arith, nat_tests, h) in
      ap (λ (v : ℕ). meaning v r.entries r.state (said_by v r.taken) n.what) e
      ∙ ap (λ (b : Bool). if b then meaning_of w (log_of (said_by w r.taken)) (spent_by r.entries) r.state n.what else None) a

  pub own-added : (n.worker == w) ≡ true → is_active w r.state.books ≡ true
      → is_accused w (entry_of (input_of r n)) ≡ false → Echo w (added r (input_of r n)) (n.what ∷ [])
  own-added h a fine =
      let is = input-own h a in
      echo-added (input_of r n) (n.what ∷ []) refl (subst (λ (o : Option Entry). Echo w (entry_of o) (n.what ∷ [])) (sym is)
      (own-echo w (log_of (said_by w r.taken)) (spent_by r.entries) r.state n.what (ap (λ (o : Option Entry). is_accused w (entry_of o)) (sym is) ∙ fine)))

  -- one piece of news more
  module _ (sofar : HonestSoFar w r) (started_ : (n.worker == w) ≡ true → has_member w (λ m. true) r.state.books ≡ true)
      (fine : (n.worker == w) ≡ true → is_active w r.state.books ≡ true → is_accused w (entry_of (input_of r n)) ≡ false) where
    unstarted-other : has_member w (λ m. true) r.state.books ≡ false → (n.worker == w) ≡ false
    unstarted-other m = elim (cases_of (n.worker == w)) [ inl h ↦ absurd (differ (sym m ∙ started_ h)) | inr h ↦ h ]

    was-active : has_member w (λ m. true) r.state.books ≡ true → is_active w r2.state.books ≡ true
        → is_active w r.state.books ≡ true
    was-active m a =
        elim (cases_of (is_active w r.state.books)) [ inl k ↦ k | inr k ↦ absurd (differ (sym (inactive-then m k) ∙ a)) ]

    silent-said : has_member w (λ m. true) r.state.books ≡ false → said_by w r2.taken ≡ []
    silent-said m = taken-more ∙ ap (λ (l : List What). l ++ said_by w (n ∷ [])) (sofar.begun m)
        ∙ said-other w n (unstarted-other m)

    first-echo : has_member w (λ m. true) r.state.books ≡ false → Echo w r2.entries (said_by w r2.taken)
    first-echo m =
        let none = deals-at.unstarted m in
        let old : Echo w r.entries [] = record {
          answers = sym none.answers;
          ended = sym none.ended;
          ready = sym (absent (λ m. m.ready) m) ∙ marks-at.ready;
          collected = sym (absent (λ m. m.collected) m) ∙ marks-at.collected;
          dones = sym (no-dones w r.entries none.ended);
          unaccused = sofar.unaccused;
        } in
        let more : Echo w (r.entries ++ added r (input_of r n)) ([] ++ []) = echo-more w r.entries (added r (input_of r n)) [] [] old (added-other (unstarted-other m)) in
        subst (Echo w r2.entries) (sym (silent-said m)) (subst (λ (es : List Entry). Echo w es []) (sym grown) more)

    later-echo : is_active w r.state.books ≡ true → Echo w r2.entries (said_by w r2.taken)
    later-echo a =
        subst (Echo w r2.entries) (sym taken-more) (subst (λ (es : List Entry). Echo w es (said_by w r.taken ++ said_by w (n ∷ []))) (sym grown) (elim (cases_of (n.worker == w)) [
          | inl h ↦ subst (λ (l : List What). Echo w (r.entries ++ added r (input_of r n)) (said_by w r.taken ++ l)) (sym (said-own w n h))
              (echo-more w r.entries (added r (input_of r n)) (said_by w r.taken) (n.what ∷ []) (sofar.echo a) (own-added h a (fine h a)))
          | inr h ↦ subst (λ (l : List What). Echo w (r.entries ++ added r (input_of r n)) (said_by w r.taken ++ l)) (sym (said-other w n h))
              (echo-more w r.entries (added r (input_of r n)) (said_by w r.taken) [] (sofar.echo a) (added-other h))
        ]))

    echo-then : is_active w r2.state.books ≡ true → Echo w r2.entries (said_by w r2.taken)
    echo-then a = elim (cases_of (has_member w (λ m. true) r.state.books)) [
      | inl m ↦ later-echo (was-active m a)
      | inr m ↦ first-echo m
    ]

    added-unaccused : is_accused w (added r (input_of r n)) ≡ false
    added-unaccused = elim (cases_of (n.worker == w)) [
      | inr h ↦ (added-other h).unaccused
      | inl h ↦ (elim (cases_of (is_active w r.state.books)) [
        | inl a ↦ (own-added h a (fine h a)).unaccused
        | inr a ↦ ap (λ (o : Option Entry). is_accused w (added r o)) (input-gone h a)
      ])
    ]

    unaccused-then : is_accused w r2.entries ≡ false
    unaccused-then = ap (is_accused w) grown ∙ list_any-append (is_breach_of w) r.entries (added r (input_of r n))
        ∙ ap (λ (b : Bool). b || is_accused w (added r (input_of r n))) sofar.unaccused ∙ added-unaccused

    ids-more : collections_in (said_by w r2.taken) ≡ collections_in (said_by w r.taken) ++ collections_in (said_by w (n ∷ []))
    ids-more = ap collections_in taken-more
        ∙ filter_map-append collection_of_news (said_by w r.taken) (said_by w (n ∷ []))

    back : (m : ℕ) (s : State) → Sized w m (settled s) r.entries → Sized w m s r.entries
    back m s k = record { listing = record { mode = k.listing.mode; joined = k.listing.joined; sizes = k.listing.sizes; all = k.listing.all }; collected = k.collected; joined = k.joined }

    sized-on : SizedAs w r → SizedAs w r2
    sized-on k = record {
      own = k.own;
      rest = k.rest ++ collections_in (said_by w (n ∷ []));
      ids = ids-more ∙ ap (λ (l : List (List (List ℕ))). l ++ collections_in (said_by w (n ∷ []))) k.ids;
      is = from-here (Sized w (length k.own)) (keeps_sized settings w (length k.own)) (back (length k.own)) k.is;
    }

    collected-is : (x : What) → is_collected x ≡ true → (own : List (List ℕ)) × (x ≡ what.Collected own)
    collected-is (what.Collected i) h = (i, refl)
    collected-is what.Ready h = absurd (differ h)
    collected-is (what.LogStart i j) h = absurd (differ h)
    collected-is (what.Piece i b) h = absurd (differ h)
    collected-is (what.LogClosed i) h = absurd (differ h)
    collected-is (what.Done i o j) h = absurd (differ h)
    collected-is (what.Back i) h = absurd (differ h)
    collected-is what.Finished h = absurd (differ h)
    collected-is (what.Closed t) h = absurd (differ h)
    collected-is what.Stray h = absurd (differ h)
    collected-is (what.Gone c) h = absurd (differ h)
    collected-is what.NotStarted h = absurd (differ h)

    tidy : Tidy r.state
    tidy = subst Tidy (sym sound.state) (lawful settings r.inputs sound.proper).tidy

    pub listing-at : Listing r.state
    listing-at = at-run settings r (λ s es. Listing s) (keeps_listing settings) sound (listing-none settings)

    -- the entry of its collection
    entry-collected : (own : List (List ℕ)) → (n.worker == w) ≡ true → is_active w r.state.books ≡ true
        → n.what ≡ what.Collected own
        → (input_of r n ≡ Some (given_ids w own r.state)) × (may_follow r.state (given_ids w own r.state) ≡ true)
    entry-collected own h a x = go (may_follow r.state e) refl (fine h a)
      where
        e : Entry
        e = given_ids w own r.state

        is : input_of r n ≡ or_breach w (log_of (said_by w r.taken)) (spent_by r.entries) r.state (given_ids w own r.state)
        is = input-own h a ∙ ap (meaning_of w (log_of (said_by w r.taken)) (spent_by r.entries) r.state) x

        go : (b : Bool) → may_follow r.state (given_ids w own r.state) ≡ b
            → is_accused w (entry_of (input_of r n)) ≡ false
            → (input_of r n ≡ Some (given_ids w own r.state)) × (may_follow r.state (given_ids w own r.state) ≡ true)
        go true q k =
            (is ∙ ap (λ (c : Bool). if c then Some (given_ids w own r.state) else Some (breach w (log_of (said_by w r.taken)) (spent_by r.entries) r.state)) q, q)
        go false q k =
            let own_ : (w == w) ≡ true = grind (arith, nat_tests) in
            let bad : input_of r n ≡ Some (breach w (log_of (said_by w r.taken)) (spent_by r.entries) r.state) =
            is ∙ ap (λ (c : Bool). if c then Some (given_ids w own r.state) else Some (breach w (log_of (said_by w r.taken)) (spent_by r.entries) r.state)) q in
            absurd (differ (sym k ∙ ap (λ (o : Option Entry). is_accused w (entry_of o)) bad ∙ ap (λ (c : Bool). c || false) own_))

    sized-first : (own : List (List ℕ)) → (n.worker == w) ≡ true → is_active w r.state.books ≡ true
        → has_collected w r.state.books ≡ false → collections_in (said_by w r.taken) ≡ []
        → n.what ≡ what.Collected own → SizedAs w r2
    sized-first own h a late none x =
        let s = r.state in
        let e = given_ids w own s in
        let k = entry-collected own h a x in
        let listing_e : Listing (after_effect s e) = (keeps_listing settings).said s r.entries e tidy k.1 (state-run settings r sound ∙ sym (ap (λ (b : Bool). if b then settled (after_entries (no_one settings) r.entries) else after_entries (no_one settings) r.entries) (input-of s e k.1))) listing-at in
        let here : Sized w (length own) (after_effect s e) (r.entries ++ e ∷ []) = collects w own s r.entries listing-at tidy.placed a late listing_e in
        let grown2 : r2.entries ≡ (r.entries ++ e ∷ []) ++ outputs s e = grown
        ∙ ap (λ (o : Option Entry). r.entries ++ added r o) k.0
        ∙ sym (append_assoc r.entries (e ∷ []) (outputs s e)) in
        record {
          own = own;
          rest = [];
          ids = ids-more ∙ ap (λ (l : List (List (List ℕ))). l ++ collections_in (said_by w (n ∷ []))) none
              ∙ ap collections_in (said-own w n h) ∙ ap (λ (y : What). collections_in (y ∷ [])) x;
          is = onward settings r2 (Sized w (length own)) (keeps_sized settings w (length own)) sound2 (r.entries ++ e ∷ []) (outputs s e) grown2
              (subst (λ (u : State). Sized w (length own) u (r.entries ++ e ∷ [])) (sym (state-after e (input-of s e k.1))) here);
        }

    sized-then : is_active w r2.state.books ≡ true → has_collected w r2.state.books ≡ true → SizedAs w r2
    sized-then a c = elim (cases_of (has_member w (λ m. true) r.state.books)) [
      | inr m ↦ absurd (differ (sym (ap (list_any is_collected) (silent-said m)) ∙ told))
      | inl m ↦ (let b = was-active m a in elim (cases_of (has_collected w r.state.books)) [
        | inl k ↦ sized-on (sofar.sized b k)
        | inr k ↦ late b k (cases_of (n.worker == w))
      ])
    ]
      where
        told : list_any is_collected (said_by w r2.taken) ≡ true
        told = (echo-then a).collected ∙ sym marks-then.collected ∙ c

        late : is_active w r.state.books ≡ true → has_collected w r.state.books ≡ false
            → ((n.worker == w) ≡ true) ⊎ ((n.worker == w) ≡ false) → SizedAs w r2
        late b k own =
            let before : list_any is_collected (said_by w r.taken) ≡ false = (sofar.echo b).collected
            ∙ sym marks-at.collected ∙ k in
            let split : list_any is_collected (said_by w r2.taken) ≡ list_any is_collected (said_by w (n ∷ [])) =
            ap (list_any is_collected) taken-more
            ∙ list_any-append is_collected (said_by w r.taken) (said_by w (n ∷ []))
            ∙ ap (λ (q : Bool). q || list_any is_collected (said_by w (n ∷ []))) before in
            elim own [
              | inr h ↦ absurd (differ (sym (split ∙ ap (list_any is_collected) (said-other w n h)) ∙ told))
              | inl h ↦ (let one : is_collected n.what ≡ true = sym (or-false (is_collected n.what)) ∙ sym (ap (list_any is_collected) (said-own w n h)) ∙ sym split ∙ told in
                  let i = collected-is n.what one in
                  sized-first i.0 h b k (none-said (said_by w r.taken) before) i.1)
            ]

    -- the end of its run

    or-entry : (e : Entry) → input_of r n ≡ or_breach w (log_of (said_by w r.taken)) (spent_by r.entries) r.state e
        → is_accused w (entry_of (input_of r n)) ≡ false → input_of r n ≡ Some e
    or-entry e is k = go (may_follow r.state e) refl
      where
        go : (b : Bool) → may_follow r.state e ≡ b → input_of r n ≡ Some e
        go true q = is ∙ ap (λ (c : Bool). if c then Some e else Some (breach w (log_of (said_by w r.taken)) (spent_by r.entries) r.state)) q
        go false q =
            let own_ : (w == w) ≡ true = grind (arith, nat_tests) in
            let bad : input_of r n ≡ Some (breach w (log_of (said_by w r.taken)) (spent_by r.entries) r.state) =
            is ∙ ap (λ (c : Bool). if c then Some e else Some (breach w (log_of (said_by w r.taken)) (spent_by r.entries) r.state)) q in
            absurd (differ (sym k ∙ ap (λ (o : Option Entry). is_accused w (entry_of o)) bad ∙ ap (λ (c : Bool). c || false) own_))

    gone-then : (e : Entry) → input_of r n ≡ Some e → is_input e ≡ true
        → (after_effect r.state e).books.members ≡ map (made_gone w) r.state.books.members
        → is_active w r.state.books ≡ true → is_active w r2.state.books ≡ false
    gone-then e k i m a =
        let own_ : (w == w) ≡ true = grind (arith, nat_tests) in
        let es = r.entries ++ e ∷ [] in
        let grown2 : r2.entries ≡ es ++ outputs r.state e = grown
        ∙ ap (λ (o : Option Entry). r.entries ++ added r o) k
        ∙ sym (append_assoc r.entries (e ∷ []) (outputs r.state e)) in
        let silent : Silent w (told_to w es) (outcomes_by w es) (after_effect r.state e) es = record {
          member = ap (has w (λ m. true)) m
              ∙ keep-member w (made_gone w) r.state.books.members (λ m. refl) (has-member w (λ m. m.active) r.state.books.members a);
          gone = ap (has w (λ m. m.active)) m
              ∙ has-cleared w w (λ m. m.active) (made_gone w) r.state.books.members (λ m. refl) (λ m. refl)
              ∙ ap (λ (b : Bool). not b && has w (λ m. m.active) r.state.books.members) own_;
          told = refl;
          dones = refl;
        } in
        (onward settings r2 (Silent w (told_to w es) (outcomes_by w es)) (keeps_silent settings w (told_to w es) (outcomes_by w es)) sound2 es (outputs r.state e) grown2 (subst (λ (u : State). Silent w (told_to w es) (outcomes_by w es) u es) (sym (state-after e i)) silent)).gone

    ends-it : (x : What) → n.what ≡ x → is_last_told x ≡ true → (n.worker == w) ≡ true
        → is_active w r.state.books ≡ true → is_active w r2.state.books ≡ false
    ends-it what.Finished e k h a =
        gone-then (Finished w) (or-entry (Finished w) (input-own h a ∙ ap (meaning_of w (log_of (said_by w r.taken)) (spent_by r.entries) r.state) e) (fine h a)) refl refl a
    ends-it (what.Closed (Some t)) e k h a =
        gone-then (Refused w t) (or-entry (Refused w t) (input-own h a ∙ ap (meaning_of w (log_of (said_by w r.taken)) (spent_by r.entries) r.state) e) (fine h a)) refl refl a
    ends-it (what.Closed None) e k h a =
        let own_ : (w == w) ≡ true = grind (arith, nat_tests) in
        let bad : input_of r n ≡ Some (breach w (log_of (said_by w r.taken)) (spent_by r.entries) r.state) = input-own h a
        ∙ ap (meaning_of w (log_of (said_by w r.taken)) (spent_by r.entries) r.state) e in
        absurd (differ (sym (fine h a) ∙ ap (λ (o : Option Entry). is_accused w (entry_of o)) bad ∙ ap (λ (c : Bool). c || false) own_))
    ends-it what.Ready e k h a = absurd (differ k)
    ends-it (what.Collected i) e k h a = absurd (differ k)
    ends-it (what.LogStart i j) e k h a = absurd (differ k)
    ends-it (what.Piece i j) e k h a = absurd (differ k)
    ends-it (what.LogClosed i) e k h a = absurd (differ k)
    ends-it (what.Done i o j) e k h a = absurd (differ k)
    ends-it (what.Back i) e k h a = absurd (differ k)
    ends-it what.Stray e k h a = absurd (differ k)
    ends-it (what.Gone c) e k h a = absurd (differ k)
    ends-it what.NotStarted e k h a = absurd (differ k)

    unfinished-then : is_active w r2.state.books ≡ true → list_any is_last_told (said_by w r2.taken) ≡ false
    unfinished-then a = elim (cases_of (has_member w (λ m. true) r.state.books)) [
      | inr m ↦ ap (list_any is_last_told) (silent-said m)
      | inl m ↦ (let b = was-active m a in
          ap (list_any is_last_told) taken-more
          ∙ list_any-append is_last_told (said_by w r.taken) (said_by w (n ∷ []))
          ∙ ap (λ (q : Bool). q || list_any is_last_told (said_by w (n ∷ []))) (sofar.unfinished b)
          ∙ last b (cases_of (n.worker == w)))
    ]
      where
        last : is_active w r.state.books ≡ true → ((n.worker == w) ≡ true) ⊎ ((n.worker == w) ≡ false)
            → list_any is_last_told (said_by w (n ∷ [])) ≡ false
        last b (inr h) = ap (list_any is_last_told) (said-other w n h)
        last b (inl h) = ap (list_any is_last_told) (said-own w n h) ∙ or-false (is_last_told n.what)
            ∙ (elim (cases_of (is_last_told n.what)) [
              | inl k ↦ absurd (differ (sym (ends-it n.what refl k h b) ∙ a))
              | inr k ↦ k
            ])

    pub next : HonestSoFar w r2
    next = record {
      begun = λ m. silent-said (elim (cases_of (has_member w (λ m. true) r.state.books)) [ inl k ↦ absurd (differ (sym m ∙ member-then k)) | inr k ↦ k ]);
      echo = echo-then;
      sized = sized-then;
      unaccused = unaccused-then;
      unfinished = unfinished-then;
    }

-- before any news

starts-echo : (w a n : ℕ) → Echo w (starts_from a n) []
starts-echo w a zero = echo-none w
starts-echo w a (suc n) =
    (let rest = starts-echo w (a + 1) n in record { answers = rest.answers; ended = rest.ended; ready = rest.ready; collected = rest.collected; dones = rest.dones; unaccused = rest.unaccused })

pub honest-begun : (settings : Settings) (w : ℕ) → IsProperRun settings (begun_run settings)
    → HonestSoFar w (begun_run settings)
honest-begun settings w sound = (let e = starts-echo w 0 settings.workers in record {
  begun = λ m. refl;
  echo = λ a. e;
  sized = λ a c. absurd (differ (e.collected ∙ sym (at-run settings (begun_run settings) (MarksSo w) (keeps_marks settings w) sound (marks-none settings w)).collected ∙ c));
  unaccused = e.unaccused;
  unfinished = λ a. refl;
})

-- the first workers are started before any news

pub member-fold : (settings : Settings) (w : ℕ) (r : SoFar) (pre : List News) → IsProperRun settings r
    → has_member w (λ m. true) r.state.books ≡ true
    → has_member w (λ m. true) (fold after_news r pre).state.books ≡ true
member-fold settings w r [] sound h = h
member-fold settings w r (n ∷ pre) sound h =
    member-fold settings w (after_news r n) pre (sound-next settings r n sound) (member-then settings r n sound w h)

pub first-begun : (settings : Settings) (taken : List News) (w : ℕ) → IsProper settings []
    → has_member w (λ m. true) (begun_run settings).state.books ≡ true → AfterStart settings taken w
first-begun settings taken w p h before n after e own =
    member-fold settings w (begun_run settings) before (sound-run settings [] p) h
