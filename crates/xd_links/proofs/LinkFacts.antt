-- Lists of links where an item is taken, a link is opened or closed.
use Rattle.std.proofs.Common.{◌≡◌, ℕ, zero, suc, List, [], ◌∷◌, ◌++◌, Option, Some, None, map, length, get_or, refl, sym, ◌∙◌, ap, append-nil, subst, inl, inr}
use Rattle.std.proofs.Math.ListN.{set}
use Rattle.std.specs.Option.{option_map}
use Rattle.std.specs.List.{slice_get, list_any}
use Rattle.std.proofs.lemmas.List.{map-set, map-append, length-map}
use Rattle.std.proofs.lemmas.Option.{slice_get-map, get_or_from_slice_get, slice_get_read, slice_get_within}
use Rattle.std.proofs.Math.Seq.{map-set_same}
use Rattle.std.specs.Prelude.{Bool, true, false, not, IfSome, ◌⊎◌, ◌||◌, if◌then◌else◌}
use Rattle.xd_link.specs.Source.{Supply}
use Rattle.xd_links.proofs.Places.{push_read, set_read}
use Rattle.xd_reader.specs.declared.news.LinkNews.{LinkNews}
use Rattle.xd_reader.specs.declared.reader.Reader.{Reader}
use Rattle.xd_post.specs.Post.{Ring, Empties, put, ring_of_sender}
use Rattle.xd_post.specs.declared.ends.Sender.{Sender}
use Rattle.xd_post.specs.Mails.{TakesAt}
use Rattle.xd_links.specs.Links.{Fresh, ring_of_mail, ring_of_link, source_of_link, sources_of}
use Rattle.xd_links.specs.Runs.{news_of_mail, is_stop_news, is_going, LinkRead}
use Rattle.xd_link.specs.Spring.{Spring}
use Rattle.xd_reader.specs.Reads.{PutsAll}

-- the rings stay where an item is taken
pub rings_taken : {T : Type 0} (old new : List (Option (Ring × List T))) (k : ℕ) (item : T) → TakesAt old new k item → map ring_of_mail new ≡ map ring_of_mail old
rings_taken {T = T} old new k item t =
    let next : Option (Ring × List T) = Some (t.ring, t.got ++ item ∷ []) in
    let was : Option (Ring × List T) = Some (t.ring, t.got) in
    ap (map ring_of_mail) t.is ∙ map-set_same ring_of_mail old k next was (ap ring_of_mail (sym (get_or_from_slice_get old k was was t.was)))

pub news_taken : (old new : List (Option (Ring × List LinkNews))) (k : ℕ) (item : LinkNews) → TakesAt old new k item → (got : List LinkNews) × (slice_get (map news_of_mail old) k ≡ Some (Some got)) × (map news_of_mail new ≡ set (map news_of_mail old) k (Some (got ++ item ∷ [])))
news_taken old new k item t = (
  t.got,
  slice_get-map news_of_mail old k ∙ ap (option_map news_of_mail) t.was,
  ap (map news_of_mail) t.is ∙ map-set news_of_mail old k (Some (t.ring, t.got ++ item ∷ [])),
)

-- the inbox with the ring
pub mail_after : {T : Type 0} (mails : List (Option (Ring × List T))) (k : ℕ) (ring : Ring) (before : List LinkNews) (greeted : Bool) → slice_get (map ring_of_mail mails) k ≡ Some (Some (ring, before, greeted)) → (before ≡ []) × (greeted ≡ true) × ((got : List T) × (slice_get mails k ≡ Some (Some (ring, got))))
mail_after [] k ring before greeted e = absurd (cc e)
mail_after (None ∷ ms) zero ring before greeted e = absurd (cc e)
mail_after (Some m ∷ ms) zero ring before greeted e =
    let none : List LinkNews = [] in
    let here : Fresh = (m.0, none, true) in
    let there : Fresh = (ring, before, greeted) in
    let p : here ≡ there = cc e in
    let f : m.0 ≡ ring = ap (λ (q : Fresh). q.0) p in
    let z : before ≡ [] = sym (ap (λ (q : Fresh). q.1) p) in
    let b : greeted ≡ true = sym (ap (λ (q : Fresh). q.2) p) in
    (z, b, (m.1, ap (λ (r : Ring). Some (Some (r, m.1))) f))
mail_after (m ∷ ms) (suc k) ring before greeted e = mail_after ms k ring before greeted e

set_last : {X : Type 0} (xs : List X) (x y : X) → set (xs ++ x ∷ []) (length xs) y ≡ xs ++ y ∷ []
set_last [] x y = refl
set_last {X = X} (z ∷ xs) x y = ap (λ (t : List X). z ∷ t) (set_last xs x y)

-- a link was refused: its inbox is closed again
pub rings_refused : {S H T : Type 0} (f : H → Reader S) (old added closed : List (Option (Ring × List T))) (k : ℕ) (x : Option (Ring × List T)) (links after : List (Option H)) → added ≡ old ++ x ∷ [] → k ≡ length old → closed ≡ set added k None → map ring_of_mail old ≡ map (ring_of_link f) links → after ≡ links ++ None ∷ [] → map ring_of_mail closed ≡ map (ring_of_link f) after
rings_refused {H = H} {T = T} f old added closed k x links after a n z r l =
    let none : Option (Ring × List T) = None in
    let is : closed ≡ old ++ none ∷ [] =
    z ∙ ap (λ (m : List (Option (Ring × List T))). set m k none) a ∙ ap (λ (i : ℕ). set (old ++ x ∷ []) i none) n ∙ set_last old x none in
    ap (map ring_of_mail) is ∙ map-append ring_of_mail old (none ∷ []) ∙ ap (λ (t : List (Option Fresh)). t ++ None ∷ []) r
    ∙ sym (ap (map (ring_of_link f)) l ∙ map-append (ring_of_link f) links (None ∷ []))

-- what was read at a place that a map of the list has
pub here : {X Y : Type 0} (f : X → Y) (xs : List X) (k : ℕ) (was : X) (y : Y) → slice_get (map f xs) k ≡ Some y → was ≡ get_or xs k was → slice_get xs k ≡ Some was
here f xs k was y e at = slice_get_read xs (length xs) k was refl (rw length-map at (slice_get_within (map f xs) k y e)) at

-- the two lists stay alike where both lose a place
pub rings_closed : {S H T : Type 0} (f : H → Reader S) (old closed : List (Option (Ring × List T))) (k : ℕ) (links : List (Option H)) (gone : Option H) → closed ≡ set old k None → gone ≡ None → map ring_of_mail old ≡ map (ring_of_link f) links → map ring_of_mail closed ≡ map (ring_of_link f) (set links k gone)
rings_closed {H = H} {T = T} f old closed k links gone z n r =
    ap (map ring_of_mail) z ∙ map-set ring_of_mail old k None ∙ ap (λ (t : List (Option Fresh)). set t k None) r
    ∙ sym (map-set (ring_of_link f) links k gone ∙ ap (λ (o : Option H). set (map (ring_of_link f) links) k (ring_of_link f o)) n)

pub mail_of_link : {S H T : Type 0} (f : H → Reader S) (mails : List (Option (Ring × List T))) (links : List (Option H)) (k : ℕ) (link : H) (ring : Ring) → map ring_of_mail mails ≡ map (ring_of_link f) links → slice_get links k ≡ Some (Some link) → ring ≡ ring_of_sender (f link).sender → (put (f link).sender ≡ []) × ((f link).greeted ≡ true) × ((got : List T) × (slice_get mails k ≡ Some (Some (ring, got))))
mail_of_link f mails links k link ring r at same =
    mail_after mails k ring (put (f link).sender) (f link).greeted
    (ap (λ (t : List (Option Fresh)). slice_get t k) r ∙ slice_get-map (ring_of_link f) links k ∙ ap (option_map (ring_of_link f)) at
    ∙ ap (λ (x : Ring). Some (Some (x, put (f link).sender, (f link).greeted))) (sym same))

pub no_source : {S H : Type 0} (f : H → Reader S) (links : List (Option H)) (k : ℕ) (was : Option H) (source : S) → slice_get (map (source_of_link f) links) k ≡ Some (Some source) → slice_get links k ≡ Some was → was ≡ None → ⊥
no_source f links k was source e at none =
    let h = sym (slice_get-map (source_of_link f) links k ∙ ap (option_map (source_of_link f)) (at ∙ ap Some none)) ∙ e in cc

pub its_source : {S H : Type 0} (f : H → Reader S) (links : List (Option H)) (k : ℕ) (link : H) (source : S) → slice_get (map (source_of_link f) links) k ≡ Some (Some source) → slice_get links k ≡ Some (Some link) → (f link).source ≡ source
its_source f links k link source e at =
    let h = sym (slice_get-map (source_of_link f) links k ∙ ap (option_map (source_of_link f)) at) ∙ e in cc

pub its_news : (mails : List (Option (Ring × List LinkNews))) (k : ℕ) (ring : Ring) (taken : List LinkNews) (got : List LinkNews) → slice_get (map news_of_mail mails) k ≡ Some (Some got) → slice_get mails k ≡ Some (Some (ring, taken)) → taken ≡ got
its_news mails k ring taken got e at =
    let h = sym (slice_get-map news_of_mail mails k ∙ ap (option_map news_of_mail) at) ∙ e in cc

-- what was taken begins what was put
begins : (rest : Option LinkNews) (got sent : List LinkNews) → Empties rest got sent → (z : List LinkNews) × (sent ≡ got ++ z)
begins None got sent e = ([], sym e ∙ sym (append-nil got))
begins (Some next) got sent e = (next ∷ e.0, e.1)

pub link_read : (s0 s1 : Spring) (rest : Option LinkNews) (taken sent : List LinkNews) (got : List LinkNews) → IfSome s0.supply (λ s. s.given ≡ []) → PutsAll true s0 s1 [] sent → Empties rest taken sent → taken ≡ got → LinkRead s1 got
link_read s0 s1 rest taken sent got f r e same =
    let b = begins rest taken sent e in
    record { first = s0; fresh = f; sent = sent; later = b.0; puts = r; begins = b.1 ∙ ap (λ (t : List LinkNews). t ++ b.0) same }

pub news_closed : (old closed : List (Option (Ring × List LinkNews))) (k : ℕ) → closed ≡ set old k None → map news_of_mail closed ≡ set (map news_of_mail old) k None
news_closed old closed k z = ap (map news_of_mail) z ∙ map-set news_of_mail old k None

pub sources_closed : {S H : Type 0} (f : H → Reader S) (links : List (Option H)) (k : ℕ) (gone : Option H) → gone ≡ None → map (source_of_link f) (set links k gone) ≡ set (map (source_of_link f) links) k None
sources_closed {H = H} f links k gone n = map-set (source_of_link f) links k gone ∙ ap (λ (o : Option H). set (map (source_of_link f) links) k (source_of_link f o)) n

-- a number was taken up that has no link
pub news_refused : (old added closed : List (Option (Ring × List LinkNews))) (k : ℕ) (x : Option (Ring × List LinkNews)) → added ≡ old ++ x ∷ [] → k ≡ length old → closed ≡ set added k None → map news_of_mail closed ≡ map news_of_mail old ++ None ∷ []
news_refused old added closed k x a n z =
    let none : Option (Ring × List LinkNews) = None in
    let is : closed ≡ old ++ none ∷ [] =
    z ∙ ap (λ (m : List (Option (Ring × List LinkNews))). set m k none) a ∙ ap (λ (i : ℕ). set (old ++ x ∷ []) i none) n ∙ set_last old x none in
    ap (map news_of_mail) is ∙ map-append news_of_mail old (none ∷ [])

-- as many inboxes as handles
pub same_count : {S H : Type 0} (f : H → Reader S) (mails : List (Option (Ring × List LinkNews))) (links : List (Option H)) → map ring_of_mail mails ≡ map (ring_of_link f) links → length (map news_of_mail mails) ≡ length links
same_count f mails links r = length-map mails news_of_mail ∙ (sym (length-map mails ring_of_mail) ∙ (ap length r ∙ length-map links (ring_of_link f)))

-- ---- sources that had given nothing

pub told_fresh : (o : Option Supply) → ((s : Supply) → o ≡ Some s → s.given ≡ []) → IfSome o (λ s. s.given ≡ [])
told_fresh None f = tt
told_fresh (Some s) f = f s refl

known_fresh : (o : Option Supply) (s : Supply) → IfSome o (λ s. s.given ≡ []) → o ≡ Some s → s.given ≡ []
known_fresh o s f e = let g : IfSome (Some s) (λ (s : Supply). s.given ≡ []) = subst (λ (p : Option Supply). IfSome p (λ s. s.given ≡ [])) e f in g

module _ {S : Type 0} where
  fresh_pushed : (supply : S → Option Supply) (k n : ℕ) (source : S) (t : Supply) (o : Option S) (xs : List (Option S)) → IfSome o (λ x. IfSome (supply x) (λ s. s.given ≡ [])) → ((k : ℕ) (source : S) (s : Supply) → slice_get xs k ≡ Some (Some source) → supply source ≡ Some s → s.given ≡ [])
      → ((k ≡ n) × (Some source ≡ o)) ⊎ (slice_get xs k ≡ Some (Some source)) → supply source ≡ Some t → t.given ≡ []
  fresh_pushed supply k n source t None xs f all (inl p) h = absurd (let e = p.1 in cc e)
  fresh_pushed supply k n source t (Some x) xs f all (inl p) h = let e : x ≡ source = (let q = p.1 in cc q) in known_fresh (supply x) t f (ap supply e ∙ h)
  fresh_pushed supply k n source t o xs f all (inr e) h = all k source t e h

  fresh_set : (supply : S → Option Supply) (k n : ℕ) (source : S) (t : Supply) (xs : List (Option S)) → ((k : ℕ) (source : S) (s : Supply) → slice_get xs k ≡ Some (Some source) → supply source ≡ Some s → s.given ≡ [])
      → ((k ≡ n) × (Some source ≡ None)) ⊎ ((k ≡ n → ⊥) × (slice_get xs k ≡ Some (Some source))) → supply source ≡ Some t → t.given ≡ []
  fresh_set supply k n source t xs all (inl p) h = absurd (let e = p.1 in cc e)
  fresh_set supply k n source t xs all (inr p) h = all k source t p.1 h

module _ {S H : Type 0} where
  -- a link was added
  pub fresh_more : (f : H → Reader S) (supply : S → Option Supply) (links after : List (Option H)) (o : Option H) → after ≡ links ++ o ∷ [] → IfSome (source_of_link f o) (λ x. IfSome (supply x) (λ s. s.given ≡ []))
      → ((k : ℕ) (source : S) (s : Supply) → slice_get (sources_of f links) k ≡ Some (Some source) → supply source ≡ Some s → s.given ≡ [])
      → (k : ℕ) (source : S) (s : Supply) → slice_get (sources_of f after) k ≡ Some (Some source) → supply source ≡ Some s → s.given ≡ []
  fresh_more f supply links after o is one all k source t e h =
      fresh_pushed supply k (length (sources_of f links)) source t (source_of_link f o) (sources_of f links) one all
      (push_read (sources_of f links) k (source_of_link f o) (Some source) (ap (λ (l : List (Option S)). slice_get l k) (sym (ap (sources_of f) is ∙ map-append (source_of_link f) links (o ∷ []))) ∙ e)) h

  -- a link was closed
  pub fresh_less : (f : H → Reader S) (supply : S → Option Supply) (links : List (Option H)) (n : ℕ) (gone : Option H) → gone ≡ None
      → ((k : ℕ) (source : S) (s : Supply) → slice_get (sources_of f links) k ≡ Some (Some source) → supply source ≡ Some s → s.given ≡ [])
      → (k : ℕ) (source : S) (s : Supply) → slice_get (sources_of f (set links n gone)) k ≡ Some (Some source) → supply source ≡ Some s → s.given ≡ []
  fresh_less f supply links n gone is all k source t e h =
      fresh_set supply k n source t (sources_of f links) all
      (set_read (sources_of f links) n k None (Some source) (ap (λ (l : List (Option S)). slice_get l k) (sym (sources_closed f links n gone is)) ∙ e)) h

-- the inbox that was added last
pub mail_last : {T : Type 0} (old added : List (Option (Ring × List T))) (k : ℕ) (ring other : Ring) (got : List T) → added ≡ old ++ Some (ring, got) ∷ [] → k ≡ length old → other ≡ ring → (more : List T) × (slice_get added k ≡ Some (Some (other, more)))
mail_last {T = T} old added k ring other got is n same =
    (got, ap (λ (l : List (Option (Ring × List T))). slice_get l k) is ∙ (ap (slice_get (old ++ Some (ring, got) ∷ [])) n ∙ (last old ∙ ap (λ (r : Ring). Some (Some (r, got))) (sym same))))
  where
    last : (xs : List (Option (Ring × List T))) → slice_get (xs ++ Some (ring, got) ∷ []) (length xs) ≡ Some (Some (ring, got))
    last [] = refl
    last (x ∷ xs) = last xs

module _ {S H T : Type 0} where
  -- a link was opened
  pub rings_opened : (f : H → Reader S) (old added : List (Option (Ring × List T))) (ring : Ring) (got : List T) (links after : List (Option H)) (h : H) (job : Reader S) (sender : Sender LinkNews) → added ≡ old ++ Some (ring, got) ∷ [] → after ≡ links ++ Some h ∷ []
      → f h ≡ job → job.sender ≡ sender → job.greeted ≡ true → put sender ≡ [] → ring_of_sender sender ≡ ring → map ring_of_mail old ≡ map (ring_of_link f) links → map ring_of_mail added ≡ map (ring_of_link f) after
  rings_opened f old added ring got links after h job sender a l j s g p r e =
      let its : (f h).sender ≡ sender = ap (λ (x : Reader S). x.sender) j ∙ s in
      let one : Some (ring_of_sender (f h).sender, put (f h).sender, (f h).greeted) ≡ Some (ring, [], true) =
      ap (λ (x : Sender LinkNews). Some (ring_of_sender x, put x, (f h).greeted)) its
      ∙ (ap (λ (x : Ring). Some (x, put sender, (f h).greeted)) r
      ∙ (ap (λ (x : List LinkNews). Some (ring, x, (f h).greeted)) p
      ∙ ap (λ (x : Bool). Some (ring, [], x)) (ap (λ (x : Reader S). x.greeted) j ∙ g))) in
      ap (map ring_of_mail) a ∙ (map-append ring_of_mail old (Some (ring, got) ∷ [])
      ∙ (ap (λ (t : List (Option Fresh)). t ++ Some (ring, [], true) ∷ []) e
      ∙ (ap (λ (o : Option Fresh). map (ring_of_link f) links ++ o ∷ []) (sym one)
      ∙ sym (ap (map (ring_of_link f)) l ∙ map-append (ring_of_link f) links (Some h ∷ [])))))

module _ {S H : Type 0} where
  pub fresh_job : (f : H → Reader S) (supply : S → Option Supply) (h : H) (job : Reader S) (source : S) → f h ≡ job → job.source ≡ source → IfSome (supply source) (λ s. s.given ≡ []) → IfSome (supply (f h).source) (λ s. s.given ≡ [])
  fresh_job f supply h job source j s e = subst (λ (x : S). IfSome (supply x) (λ s. s.given ≡ [])) (sym (ap (λ (x : Reader S). x.source) j ∙ s)) e

-- ---- of which links more may come

or_right : (a b : Bool) → b ≡ true → a || b ≡ true
or_right true b h = refl
or_right false b h = h

any_last : (got : List LinkNews) (item : LinkNews) → is_stop_news item ≡ true → list_any is_stop_news (got ++ item ∷ []) ≡ true
any_last [] item e = ap (λ (b : Bool). b || false) e
any_last (x ∷ xs) item e = or_right (is_stop_news x) (list_any is_stop_news (xs ++ item ∷ [])) (any_last xs item e)

any_same : (got : List LinkNews) (item : LinkNews) → is_stop_news item ≡ false → list_any is_stop_news (got ++ item ∷ []) ≡ list_any is_stop_news got
any_same [] item e = ap (λ (b : Bool). b || false) e
any_same (x ∷ xs) item e = ap (λ (b : Bool). is_stop_news x || b) (any_same xs item e)

going_set : (ns : List (Option (List LinkNews))) (k : ℕ) (got : List LinkNews) (item : LinkNews) (stops : Bool) → is_stop_news item ≡ stops → slice_get ns k ≡ Some (Some got)
    → (if stops then set (map is_going ns) k false else map is_going ns) ≡ map is_going (set ns k (Some (got ++ item ∷ [])))
going_set ns k got item true e at =
    ap (λ (b : Bool). set (map is_going ns) k (not b)) (sym (any_last got item e)) ∙ sym (map-set is_going ns k (Some (got ++ item ∷ [])))
going_set ns k got item false e at =
    sym (map-set_same is_going ns k (Some (got ++ item ∷ [])) (Some got)
    (ap (λ (b : Bool). not b) (any_same got item e) ∙ ap is_going (sym (get_or_from_slice_get ns k (Some got) (Some got) at))))

-- an item was taken
pub going_taken : (old new : List (Option (Ring × List LinkNews))) (k : ℕ) (item : LinkNews) (before after : List Bool) → TakesAt old new k item → before ≡ map is_going (map news_of_mail old)
    → after ≡ (if is_stop_news item then set before k false else before) → after ≡ map is_going (map news_of_mail new)
going_taken old new k item before after t b a =
    let n = news_taken old new k item t in
    a ∙ (ap (λ (l : List Bool). if is_stop_news item then set l k false else l) b
    ∙ (going_set (map news_of_mail old) k n.0 item (is_stop_news item) refl n.1 ∙ ap (map is_going) (sym n.2)))

-- a link was closed
pub going_closed : (old closed : List (Option (Ring × List LinkNews))) (k : ℕ) (before after : List Bool) → closed ≡ set old k None → before ≡ map is_going (map news_of_mail old)
    → after ≡ set before k false → after ≡ map is_going (map news_of_mail closed)
going_closed old closed k before after z b a =
    a ∙ (ap (λ (l : List Bool). set l k false) b ∙ (sym (map-set is_going (map news_of_mail old) k None) ∙ ap (map is_going) (sym (news_closed old closed k z))))

-- a number was added
pub going_more : (old new : List (Option (Ring × List LinkNews))) (x : Option (List LinkNews)) (before after : List Bool) → map news_of_mail new ≡ map news_of_mail old ++ x ∷ []
    → before ≡ map is_going (map news_of_mail old) → after ≡ before ++ is_going x ∷ [] → after ≡ map is_going (map news_of_mail new)
going_more old new x before after n b a =
    a ∙ (ap (λ (l : List Bool). l ++ is_going x ∷ []) b ∙ (sym (map-append is_going (map news_of_mail old) (x ∷ [])) ∙ ap (map is_going) (sym n)))

-- a link was opened
pub news_opened : (old added : List (Option (Ring × List LinkNews))) (ring : Ring) (got : List LinkNews) → added ≡ old ++ Some (ring, got) ∷ [] → got ≡ [] → map news_of_mail added ≡ map news_of_mail old ++ Some [] ∷ []
news_opened old added ring got a e =
    ap (map news_of_mail) a ∙ (map-append news_of_mail old (Some (ring, got) ∷ []) ∙ ap (λ (l : List LinkNews). map news_of_mail old ++ Some l ∷ []) e)
