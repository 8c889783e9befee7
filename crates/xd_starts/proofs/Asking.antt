-- What is asked of the children of links.
use Rattle.std.proofs.Common.{◌≡◌, ℕ, zero, suc, ◌+◌, ◌≤◌, List, [], ◌∷◌, ◌++◌, map, length, Bool, true, false, Option, Some, None, option_map, refl, sym, ◌∙◌, ap, subst, arith, append_assoc, append-nil, length-append}
use Rattle.std.specs.List.{list_all}
use Rattle.std.specs.Prelude.{◌&&◌, ◌||◌, not, take, filter, is_none, slice_get, slice_set}
use Rattle.std.proofs.Math.ListN.{set}
use Rattle.std.proofs.lemmas.List.{map-append}
use Rattle.std.proofs.lemmas.List.Elements.{filter-append}
use Rattle.xd_edge.specs.Faults.{Rose, RoseBy}
use Rattle.xd_link.specs.Starter.{Begun, IsNextLink, as_killed, as_reaped, fresh_link, link_changed, more_often, with_failure, with_link, with_start}
use Rattle.xd_link.specs.declared.place.Place.{Place}
use Rattle.xd_link.specs.declared.starter.LinkRun.{LinkRun}
use Rattle.xd_link.specs.declared.starter.Reaped.TheVariants.{Never}
use Rattle.xd_starts.specs.Children.{AreNumbered, AskedOfLink, TellsLinks, children_asked, child_asked, link_asked, all_buried, buried_child, child_changed_at, is_buried, failed_starts, fresh_child, is_killed_and_reaped, is_killed_if_any, killed_child, reaped_child, starts_told}
use Rattle.xd_starts.specs.declared.child.Child.{Child}

-- ---- one more child

asked_more : (cs : List (Option Child)) (c : Child) → children_asked (cs ++ Some c ∷ []) ≡ children_asked cs ++ child_asked c ∷ []
asked_more [] c = refl
asked_more (None ∷ cs) c = asked_more cs c
asked_more (Some d ∷ cs) c = ap (λ (l : List AskedOfLink). child_asked d ∷ l) (asked_more cs c)

asked_none : (cs : List (Option Child)) → children_asked (cs ++ None ∷ []) ≡ children_asked cs
asked_none [] = refl
asked_none (None ∷ cs) = asked_none cs
asked_none (Some d ∷ cs) = ap (λ (l : List AskedOfLink). child_asked d ∷ l) (asked_none cs)

numbered_more : (n : ℕ) (cs : List (Option Child)) (c : Child) → c.link ≡ n + length (children_asked cs) → AreNumbered n cs → AreNumbered n (cs ++ Some c ∷ [])
numbered_more n [] c e a = (e ∙ omega arith, tt)
numbered_more n (None ∷ cs) c e a = numbered_more n cs c e a
numbered_more n (Some d ∷ cs) c e a = (a.0, numbered_more (suc n) cs c (e ∙ omega arith) a.1)

numbered_none : (n : ℕ) (cs : List (Option Child)) → AreNumbered n cs → AreNumbered n (cs ++ None ∷ [])
numbered_none n [] a = tt
numbered_none n (None ∷ cs) a = numbered_none n cs a
numbered_none n (Some d ∷ cs) a = (a.0, numbered_none (suc n) cs a.1)

abbrev fresh : AskedOfLink
fresh = record { killed = false; reaped = Never }

map_length : (ls : List LinkRun) → length (map link_asked ls) ≡ length ls
map_length [] = refl
map_length (l ∷ ls) = omega (arith, map_length ls)

pub tells_first : (b : Option Begun) → TellsLinks b b []
tells_first None = refl
tells_first (Some b) = (b, refl, sym (append-nil (map link_asked b.links)), tt)

pub tells_more : (first now next : Option Begun) (cs all : List (Option Child)) (place : Place) (link : ℕ) → IsNextLink link now → next ≡ option_map (with_start place) now → all ≡ cs ++ Some (fresh_child link) ∷ [] → TellsLinks first now cs → TellsLinks first next all
tells_more None now next cs all place link n e is t = e ∙ ap (option_map (with_start place)) t
tells_more (Some b) now next cs all place link n e is t =
    let at : link ≡ length t.0.links = subst (λ (o : Option Begun). IsNextLink link o) t.1 n in
    subst (λ (l : List (Option Child)). TellsLinks (Some b) next l) (sym is) (
      with_start place t.0,
      e ∙ ap (option_map (with_start place)) t.1,
      map-append link_asked t.0.links (fresh_link place ∷ []) ∙ (ap (λ (l : List AskedOfLink). l ++ fresh ∷ []) t.2 ∙ (append_assoc (map link_asked b.links) (children_asked cs) (fresh ∷ []) ∙ ap (λ (l : List AskedOfLink). map link_asked b.links ++ l) (sym (asked_more cs (fresh_child link))))),
      numbered_more (length b.links) cs (fresh_child link) (at ∙ (sym (map_length t.0.links) ∙ (ap length t.2 ∙ (length-append (map link_asked b.links) (children_asked cs) ∙ ap (λ (n : ℕ). n + length (children_asked cs)) (map_length b.links))))) t.3,
    )

pub tells_none : (first now next : Option Begun) (cs all : List (Option Child)) (place : Place) → next ≡ option_map (with_failure place) now → all ≡ cs ++ None ∷ [] → TellsLinks first now cs → TellsLinks first next all
tells_none None now next cs all place e is t = e ∙ ap (option_map (with_failure place)) t
tells_none (Some b) now next cs all place e is t =
    subst (λ (l : List (Option Child)). TellsLinks (Some b) next l) (sym is) (
      with_failure place t.0,
      e ∙ ap (option_map (with_failure place)) t.1,
      t.2 ∙ ap (λ (l : List AskedOfLink). map link_asked b.links ++ l) (sym (asked_none cs)),
      numbered_none (length b.links) cs t.3,
    )

-- ---- a child that was asked for something

abbrev changed : ℕ → (AskedOfLink → AskedOfLink) → List AskedOfLink → List AskedOfLink
changed n g [] = []
changed zero g (a ∷ rest) = g a ∷ rest
changed (suc n) g (a ∷ rest) = a ∷ changed n g rest

changed_map : (n : ℕ) (h : LinkRun → LinkRun) (g : AskedOfLink → AskedOfLink) (ls : List LinkRun) → ((l : LinkRun) → link_asked (h l) ≡ g (link_asked l)) → map link_asked (link_changed n h ls) ≡ changed n g (map link_asked ls)
changed_map n h g [] same = refl
changed_map zero h g (l ∷ ls) same = ap (λ (a : AskedOfLink). a ∷ map link_asked ls) (same l)
changed_map (suc n) h g (l ∷ ls) same = ap (λ (rest : List AskedOfLink). link_asked l ∷ rest) (changed_map n h g ls same)

-- the link of a child stands so far from the first
there : (n : ℕ) (cs : List (Option Child)) (k : ℕ) (c : Child) (f : Child → Child) (g : AskedOfLink → AskedOfLink) → AreNumbered n cs → slice_get cs k ≡ Some (Some c) → child_asked (f c) ≡ g (child_asked c)
    → (m : ℕ) × (c.link ≡ n + m) × (changed m g (children_asked cs) ≡ children_asked (child_changed_at k f cs))
there n [] k c f g a e h = absurd (cc e)
there n (None ∷ cs) zero c f g a e h = absurd (cc e)
there n (None ∷ cs) (suc k) c f g a e h = there n cs k c f g a e h
there n (Some d ∷ cs) zero c f g a e h =
    let same : d ≡ c = cc e in
    (0, ap (λ (x : Child). x.link) (sym same) ∙ (a.0 ∙ omega arith), ap (λ (x : AskedOfLink). x ∷ children_asked cs) (ap (λ (x : Child). g (child_asked x)) same ∙ (sym h ∙ ap (λ (x : Child). child_asked (f x)) (sym same))))
there n (Some d ∷ cs) (suc k) c f g a e h =
    let it = there (suc n) cs k c f g a.1 e h in
    (suc it.0, it.1 ∙ omega arith, ap (λ (l : List AskedOfLink). child_asked d ∷ l) it.2)

following : (pre xs : List AskedOfLink) (m : ℕ) (g : AskedOfLink → AskedOfLink) → changed (length pre + m) g (pre ++ xs) ≡ pre ++ changed m g xs
following [] xs m g = ap (λ (k : ℕ). changed k g xs) (omega arith)
following (p ∷ pre) xs m g =
    let next : length (p ∷ pre) + m ≡ suc (length pre + m) = omega arith in
    ap (λ (k : ℕ). changed k g (p ∷ (pre ++ xs))) next ∙ ap (λ (l : List AskedOfLink). p ∷ l) (following pre xs m g)

numbered_same : (n : ℕ) (cs : List (Option Child)) (k : ℕ) (f : Child → Child) → ((c : Child) → (f c).link ≡ c.link) → AreNumbered n cs → AreNumbered n (child_changed_at k f cs)
numbered_same n [] k f h a = tt
numbered_same n (None ∷ cs) zero f h a = a
numbered_same n (None ∷ cs) (suc k) f h a = numbered_same n cs k f h a
numbered_same n (Some d ∷ cs) zero f h a = (h d ∙ a.0, a.1)
numbered_same n (Some d ∷ cs) (suc k) f h a = (a.0, numbered_same (suc n) cs k f h a.1)

tells_changed : (first now next : Option Begun) (cs : List (Option Child)) (k : ℕ) (c : Child) (f : Child → Child) (h : LinkRun → LinkRun) (g : AskedOfLink → AskedOfLink) → ((c : Child) → (f c).link ≡ c.link) → ((l : LinkRun) → link_asked (h l) ≡ g (link_asked l)) → child_asked (f c) ≡ g (child_asked c)
    → slice_get cs k ≡ Some (Some c) → next ≡ option_map (with_link c.link h) now → TellsLinks first now cs → TellsLinks first next (child_changed_at k f cs)
tells_changed None now next cs k c f h g same does asks at e t = e ∙ ap (option_map (with_link c.link h)) t
tells_changed (Some b) now next cs k c f h g same does asks at e t =
    let it = there (length b.links) cs k c f g t.3 at asks in (
      with_link c.link h t.0,
      e ∙ ap (option_map (with_link c.link h)) t.1,
      changed_map c.link h g t.0.links does ∙ (ap (changed c.link g) t.2 ∙ (ap (λ (m : ℕ). changed m g (map link_asked b.links ++ children_asked cs)) (it.1 ∙ ap (λ (n : ℕ). n + it.0) (sym (map_length b.links)))
          ∙ (following (map link_asked b.links) (children_asked cs) it.0 g ∙ ap (λ (l : List AskedOfLink). map link_asked b.links ++ l) it.2))),
      numbered_same (length b.links) cs k f same t.3,
    )

set_changed : (cs : List (Option Child)) (k : ℕ) (c : Child) (f : Child → Child) → slice_get cs k ≡ Some (Some c) → set cs k (Some (f c)) ≡ child_changed_at k f cs
set_changed [] k c f e = refl
set_changed (o ∷ cs) zero c f e = let same : o ≡ Some c = cc e in ap (λ (x : Option Child). x ∷ cs) (sym (ap (option_map f) same))
set_changed (o ∷ cs) (suc k) c f e = ap (λ (l : List (Option Child)). o ∷ l) (set_changed cs k c f e)

-- where the child was asked for it before, nothing changes
pub unchanged : (cs : List (Option Child)) (k : ℕ) (c : Child) (f : Child → Child) → slice_get cs k ≡ Some (Some c) → f c ≡ c → cs ≡ child_changed_at k f cs
unchanged [] k c f e h = refl
unchanged (o ∷ cs) zero c f e h = let same : o ≡ Some c = cc e in ap (λ (x : Option Child). x ∷ cs) (same ∙ (ap Some (sym h) ∙ sym (ap (option_map f) same)))
unchanged (o ∷ cs) (suc k) c f e h = ap (λ (l : List (Option Child)). o ∷ l) (unchanged cs k c f e h)

-- nor where there is no child
pub none_changed : (cs : List (Option Child)) (k : ℕ) (f : Child → Child) → ((c : Child) → slice_get cs k ≡ Some (Some c) → ⊥) → cs ≡ child_changed_at k f cs
none_changed [] k f h = refl
none_changed (None ∷ cs) zero f h = refl
none_changed (Some c ∷ cs) zero f h = absurd (h c refl)
none_changed (o ∷ cs) (suc k) f h = ap (λ (l : List (Option Child)). o ∷ l) (none_changed cs k f (λ c e. h c e))

-- ---- what a starter tells after a call

rose_later : (n a b c : ℕ) → b ≤ c → RoseBy n a b → RoseBy n a c
rose_later n a b c l r h = omega (arith, r (omega arith))

failed_same : (cs : List (Option Child)) (k : ℕ) (f : Child → Child) → failed_starts (child_changed_at k f cs) ≡ failed_starts cs
failed_same [] k f = refl
failed_same (None ∷ cs) zero f = refl
failed_same (Some c ∷ cs) zero f = refl
failed_same (None ∷ cs) (suc k) f = omega (arith, failed_same cs k f)
failed_same (Some c ∷ cs) (suc k) f = failed_same cs k f

pub few_changed : (cs all : List (Option Child)) (k a b c : ℕ) (child : Child) (f : Child → Child) → slice_get cs k ≡ Some (Some child) → all ≡ slice_set cs k (Some (f child)) → b ≤ c → RoseBy (failed_starts cs) a b → RoseBy (failed_starts all) a c
few_changed cs all k a b c child f at is l r =
    let same : failed_starts all ≡ failed_starts cs = ap failed_starts (is ∙ set_changed cs k child f at) ∙ failed_same cs k f in
    rose_later (failed_starts all) a b c l (subst (λ (n : ℕ). RoseBy n a b) (sym same) r)

pub few_more : (cs all : List (Option Child)) (child : Child) (a b c : ℕ) → all ≡ cs ++ Some child ∷ [] → b ≤ c → RoseBy (failed_starts cs) a b → RoseBy (failed_starts all) a c
few_more cs all child a b c is l r =
    let same : failed_starts all ≡ failed_starts cs = ap failed_starts is ∙ (ap length (filter-append is_none cs (Some child ∷ [])) ∙ ap length (append-nil (filter is_none cs))) in
    rose_later (failed_starts all) a b c l (subst (λ (n : ℕ). RoseBy n a b) (sym same) r)

pub few_failed : (cs all : List (Option Child)) (a b c : ℕ) → all ≡ cs ++ None ∷ [] → b ≤ c → Rose b c → RoseBy (failed_starts cs) a b → RoseBy (failed_starts all) a c
few_failed cs all a b c is l rose r h =
    let more : failed_starts all ≡ failed_starts cs + 1 = ap failed_starts is ∙ (ap length (filter-append is_none cs (None ∷ [])) ∙ length-append (filter is_none cs) (None ∷ [])) in
    omega (arith, more, r (omega arith), rose h, l)

abbrev to_killed : AskedOfLink → AskedOfLink
to_killed a = record { killed = true; reaped = a.reaped }

abbrev to_reaped : AskedOfLink → AskedOfLink
to_reaped a = record { killed = a.killed; reaped = more_often a.reaped }

pub tells_killed : (first now next : Option Begun) (cs all : List (Option Child)) (k : ℕ) (c : Child) → slice_get cs k ≡ Some (Some c) → all ≡ slice_set cs k (Some (killed_child c)) → next ≡ option_map (with_link c.link as_killed) now → TellsLinks first now cs → TellsLinks first next all
tells_killed first now next cs all k c at is e t =
    subst (λ (l : List (Option Child)). TellsLinks first next l) (sym (is ∙ set_changed cs k c killed_child at)) (tells_changed first now next cs k c killed_child as_killed to_killed (λ d. refl) (λ l. refl) refl at e t)

pub tells_reaped : (first now next : Option Begun) (cs all : List (Option Child)) (k : ℕ) (c : Child) → slice_get cs k ≡ Some (Some c) → c.is_reaped ≡ false → all ≡ slice_set cs k (Some (reaped_child c)) → next ≡ option_map (with_link c.link as_reaped) now → TellsLinks first now cs → TellsLinks first next all
tells_reaped first now next cs all k c at not is e t =
    let once : child_asked (reaped_child c) ≡ to_reaped (child_asked c) = rw not refl in
    subst (λ (l : List (Option Child)). TellsLinks first next l) (sym (is ∙ set_changed cs k c reaped_child at)) (tells_changed first now next cs k c reaped_child as_reaped to_reaped (λ d. refl) (λ l. refl) once at e t)

abbrev as_child : ℕ → Bool → Bool → Child
as_child link killed reaped = record { link = link; is_killed = killed; is_reaped = reaped }

pub killed_again : (cs : List (Option Child)) (k : ℕ) (c : Child) → slice_get cs k ≡ Some (Some c) → c.is_killed ≡ true → cs ≡ child_changed_at k killed_child cs
killed_again cs k c e h = unchanged cs k c killed_child e (ap (λ (b : Bool). as_child c.link b c.is_reaped) (sym h))

pub reaped_again : (cs : List (Option Child)) (k : ℕ) (c : Child) → slice_get cs k ≡ Some (Some c) → c.is_reaped ≡ true → cs ≡ child_changed_at k reaped_child cs
reaped_again cs k c e h = unchanged cs k c reaped_child e (ap (λ (b : Bool). as_child c.link c.is_killed b) (sym h))

pub changed_set : (cs : List (Option Child)) (k : ℕ) (c : Child) (f : Child → Child) → slice_get cs k ≡ Some (Some c) → slice_set cs k (Some (f c)) ≡ child_changed_at k f cs
changed_set cs k c f e = set_changed cs k c f e

-- the starts that are told are not changed by what is asked of a link
pub starts_kept : (link : ℕ) (g : LinkRun → LinkRun) (now next : Option Begun) → next ≡ option_map (with_link link g) now → starts_told next ≡ starts_told now
starts_kept link g None next e = ap starts_told e
starts_kept link g (Some b) next e = ap starts_told e

pub starts_more : (place : Place) (now next : Option Begun) → next ≡ option_map (with_start place) now → starts_told next ≡ option_map (λ l. l ++ record { place = place; failed = false } ∷ []) (starts_told now)
starts_more place None next e = ap starts_told e
starts_more place (Some b) next e = ap starts_told e

pub starts_failed : (place : Place) (now next : Option Begun) → next ≡ option_map (with_failure place) now → starts_told next ≡ option_map (λ l. l ++ record { place = place; failed = true } ∷ []) (starts_told now)
starts_failed place None next e = ap starts_told e
starts_failed place (Some b) next e = ap starts_told e

-- ---- a hub that is given up

and_true : (a b : Bool) → a ≡ true → b ≡ true → (a && b) ≡ true
and_true true b h e = e
and_true false b h e = absurd (cc h)

and_left : (a b : Bool) → (a && b) ≡ true → a ≡ true
and_left true b h = refl
and_left false b h = absurd (cc h)

and_right : (a b : Bool) → (a && b) ≡ true → b ≡ true
and_right true b h = h
and_right false b h = absurd (cc h)

killed_kept : (o : Option Child) → is_killed_if_any (option_map killed_child o) ≡ true
killed_kept None = refl
killed_kept (Some c) = refl

killed_more : (cs : List (Option Child)) (k : ℕ) → list_all is_killed_if_any (take k cs) ≡ true → list_all is_killed_if_any (take (suc k) (child_changed_at k killed_child cs)) ≡ true
killed_more [] k h = refl
killed_more (o ∷ cs) zero h = and_true (is_killed_if_any (option_map killed_child o)) true (killed_kept o) refl
killed_more (o ∷ cs) (suc k) h = and_true (is_killed_if_any o) _ (and_left (is_killed_if_any o) (list_all is_killed_if_any (take k cs)) h) (killed_more cs k (and_right (is_killed_if_any o) (list_all is_killed_if_any (take k cs)) h))

-- one more child is killed
pub killed_next : (cs killed : List (Option Child)) (k j : ℕ) → j ≡ suc k → killed ≡ child_changed_at k killed_child cs → list_all is_killed_if_any (take k cs) ≡ true → list_all is_killed_if_any (take j killed) ≡ true
killed_next cs killed k j is a h =
    ap (λ (n : ℕ). list_all is_killed_if_any (take n killed)) is ∙ (ap (λ (l : List (Option Child)). list_all is_killed_if_any (take (suc k) l)) a ∙ killed_more cs k h)

changed_length : (cs : List (Option Child)) (k : ℕ) (f : Child → Child) → length (child_changed_at k f cs) ≡ length cs
changed_length [] k f = refl
changed_length (o ∷ cs) zero f = refl
changed_length (o ∷ cs) (suc k) f = omega (arith, changed_length cs k f)

pub killed_length : (cs killed : List (Option Child)) (k : ℕ) → killed ≡ child_changed_at k killed_child cs → length killed ≡ length cs
killed_length cs killed k a = ap length a ∙ changed_length cs k killed_child

-- all are killed
pub killed_all : (cs : List (Option Child)) (n : ℕ) → n ≡ length cs → list_all is_killed_if_any (take n cs) ≡ true → list_all is_killed_if_any cs ≡ true
killed_all cs n e h = ap (list_all is_killed_if_any) (sym (whole cs n e)) ∙ h
  where
    whole : (cs : List (Option Child)) (n : ℕ) → n ≡ length cs → take n cs ≡ cs
    whole [] zero e = refl
    whole [] (suc n) e = refl
    whole (o ∷ cs) zero e = absurd (omega (arith, e))
    whole (o ∷ cs) (suc n) e = ap (λ (l : List (Option Child)). o ∷ l) (whole cs n (omega (arith, e)))

or_true : (a b : Bool) → b ≡ true → (a || b) ≡ true
or_true true b h = refl
or_true false b h = h

-- what is killed is over once it is buried
pub over_buried : (cs : List (Option Child)) → list_all is_killed_if_any cs ≡ true → list_all is_killed_and_reaped (all_buried cs) ≡ true
over_buried [] h = refl
over_buried (None ∷ cs) h = over_buried cs h
over_buried (Some c ∷ cs) h =
    let killed = and_left c.is_killed (list_all is_killed_if_any cs) h in
    and_true (c.is_killed && (c.is_reaped || c.is_killed)) (list_all is_killed_and_reaped (all_buried cs))
    (and_true c.is_killed (c.is_reaped || c.is_killed) killed (or_true c.is_reaped c.is_killed killed))
    (over_buried cs (and_right c.is_killed (list_all is_killed_if_any cs) h))

-- ---- children that were killed

not_or : (a b : Bool) → (not a || (b || a)) ≡ true
not_or true true = refl
not_or true false = refl
not_or false b = refl

pub buried_all : (cs : List (Option Child)) → list_all is_buried (all_buried cs) ≡ true
buried_all [] = refl
buried_all (None ∷ cs) = buried_all cs
buried_all (Some c ∷ cs) = and_true (not c.is_killed || (c.is_reaped || c.is_killed)) (list_all is_buried (all_buried cs)) (not_or c.is_killed c.is_reaped) (buried_all cs)

or_first : (a b : Bool) → b ≡ true → (a || b) ≡ true
or_first true b h = refl
or_first false b h = h

or_same : (a b : Bool) → b ≡ false → (a || b) ≡ a
or_same true b h = refl
or_same false b h = h

pub not_true : (b : Bool) → not b ≡ true → b ≡ false
not_true true h = absurd (cc h)
not_true false h = refl

pub not_false : (b : Bool) → not b ≡ false → b ≡ true
not_false true h = refl
not_false false h = absurd (cc h)

-- a child that was killed is waited for
pub buried_killed : (cs : List (Option Child)) (k : ℕ) (c : Child) → slice_get cs k ≡ Some (Some c) → c.is_killed ≡ true → child_changed_at k reaped_child cs ≡ child_changed_at k buried_child cs
buried_killed [] k c e h = refl
buried_killed (None ∷ cs) zero c e h = refl
buried_killed (Some d ∷ cs) zero c e h = let same : d ≡ c = cc e in let it : d.is_killed ≡ true = ap (λ (x : Child). x.is_killed) same ∙ h in ap (λ (b : Bool). Some (as_child d.link d.is_killed b) ∷ cs) (sym (or_first d.is_reaped d.is_killed it))
buried_killed (o ∷ cs) (suc k) c e h = ap (λ (l : List (Option Child)). o ∷ l) (buried_killed cs k c e h)

-- one that was not is left
pub buried_other : (cs : List (Option Child)) (k : ℕ) (c : Child) → slice_get cs k ≡ Some (Some c) → c.is_killed ≡ false → cs ≡ child_changed_at k buried_child cs
buried_other cs k c e h = unchanged cs k c buried_child e (ap (λ (b : Bool). as_child c.link c.is_killed b) (or_same c.is_reaped c.is_killed h))

-- the first children are buried
abbrev pub buried_to : ℕ → List (Option Child) → List (Option Child)
buried_to zero cs = cs
buried_to (suc n) [] = []
buried_to (suc n) (o ∷ cs) = option_map buried_child o ∷ buried_to n cs

pub buried_next : (n j : ℕ) (cs now next : List (Option Child)) → j ≡ suc n → next ≡ child_changed_at n buried_child now → now ≡ buried_to n cs → next ≡ buried_to j cs
buried_next n j cs now next is a b = a ∙ (ap (child_changed_at n buried_child) b ∙ (one n cs ∙ ap (λ (m : ℕ). buried_to m cs) (sym is)))
  where
    one : (n : ℕ) (cs : List (Option Child)) → child_changed_at n buried_child (buried_to n cs) ≡ buried_to (suc n) cs
    one zero [] = refl
    one zero (o ∷ cs) = refl
    one (suc n) [] = refl
    one (suc n) (o ∷ cs) = ap (λ (l : List (Option Child)). option_map buried_child o ∷ l) (one n cs)

pub buried_done : (n : ℕ) (cs now : List (Option Child)) → length cs ≤ n → now ≡ buried_to n cs → now ≡ all_buried cs
buried_done n cs now h e = e ∙ whole n cs h
  where
    whole : (n : ℕ) (cs : List (Option Child)) → length cs ≤ n → buried_to n cs ≡ all_buried cs
    whole zero [] h = refl
    whole zero (o ∷ cs) h = absurd (omega (arith, h))
    whole (suc n) [] h = refl
    whole (suc n) (o ∷ cs) h = ap (λ (l : List (Option Child)). option_map buried_child o ∷ l) (whole n cs (omega (arith, h)))
