-- What is taken of the desk, and what is dropped of it.
use Rattle.std.proofs.Common.{◌≡◌, ℕ, zero, suc, ◌+◌, ◌≤◌, List, [], ◌∷◌, ◌++◌, length, map, Bool, false, Option, Some, None, refl, ap, sym, ◌∙◌, subst, arith, append_assoc, inl, inr}
use Rattle.xd_post.specs.Mails.{HasMail, TakesAt}
use Rattle.xd_post.specs.Post.{Ring}
use Rattle.xd_reader.specs.declared.news.LinkNews.{LinkNews}
use Rattle.xd_reader.specs.declared.news.LinkNews.TheVariants as news
use Rattle.xd_reader.specs.declared.news.LinkStop.{LinkStop}
use Rattle.xd_reader.specs.declared.news.LinkStop.TheVariants as link
use Rattle.xd_worker.specs.Inputs.{messages_in}
use Rattle.xd_worker_serve.specs.declared.server.Halt.{Halt}
use Rattle.xd_worker_serve.specs.declared.server.Halt.TheVariants as halt
use Rattle.xd_worker_serve.specs.declared.stop.Stop.{Stop}
use Rattle.xd_worker_serve.specs.inner.Halts.{Ceased, Goes, Strayed, Strays, TakenInAll, is_short_by, noted_end, still_started, without_item}
use Rattle.xd_worker_serve.specs.inner.News.{dones, news_in}
use Rattle.xd_worker_serve.specs.inner.Seen.{Seen}
use Rattle.xd_worker_serve.specs.inner.Serves.{Beside, IsEndTaken, ServesSoFar, Setting, nothing, of_inbox, owed_of_link, two}
use Rattle.xd_worker_serve.specs.Timing.{one_if}
use Rattle.xd_worker_serve.proofs.Counting.{dones-append}
use Rattle.xd_worker_serve.proofs.Timings.{at_most}

-- An item was taken of one of two inboxes.
pub data TakesTwo (a : Setting) (r q : List LinkNews) (item : LinkNews) (new : List (Option (Ring × List LinkNews))) : ℕ → Type 0 where
  First : new ≡ two a (r ++ item ∷ []) q → TakesTwo a r q item new zero
  Second : new ≡ two a r (q ++ item ∷ []) → TakesTwo a r q item new (suc zero)

abbrev mail : Ring → List LinkNews → Option (Ring × List LinkNews)
mail ring got = Some (ring, got)

abbrev pair_in : Ring × List LinkNews → Option (Option (Ring × List LinkNews)) → Ring × List LinkNews
pair_in d None = d
pair_in d (Some None) = d
pair_in d (Some (Some p)) = p

some_mail : (k g : Ring) (x y : List LinkNews) → ◌≡◌ {A = Option (Option (Ring × List LinkNews))} (Some (mail k x)) (Some (mail g y)) → (k ≡ g) × (x ≡ y)
some_mail k g x y e = (ap (λ (o : Option (Option (Ring × List LinkNews))). (pair_in (k, x) o).0) e, ap (λ (o : Option (Option (Ring × List LinkNews))). (pair_in (k, x) o).1) e)

pub takes_two : (a : Setting) (r q : List LinkNews) (item : LinkNews) (new : List (Option (Ring × List LinkNews))) (n : ℕ) → TakesAt (two a r q) new n item → TakesTwo a r q item new n
takes_two a r q item new zero t =
    let s = some_mail a.reader t.ring r t.got t.was in
    First (t.is ∙ (ap (λ (k : Ring). mail k (t.got ++ item ∷ []) ∷ (mail a.runner q ∷ [])) (sym s.0) ∙ ap (λ (l : List LinkNews). mail a.reader (l ++ item ∷ []) ∷ (mail a.runner q ∷ [])) (sym s.1)))
takes_two a r q item new (suc zero) t =
    let s = some_mail a.runner t.ring q t.got t.was in
    Second (t.is ∙ (ap (λ (k : Ring). mail a.reader r ∷ (mail k (t.got ++ item ∷ []) ∷ [])) (sym s.0) ∙ ap (λ (l : List LinkNews). mail a.reader r ∷ (mail a.runner (l ++ item ∷ []) ∷ [])) (sym s.1)))
takes_two a r q item new (suc (suc n)) t = absurd (none a r q n t.ring t.got t.was)
  where
    none : (a : Setting) (r q : List LinkNews) (n : ℕ) (ring : Ring) (got : List LinkNews) → HasMail (two a r q) (suc (suc n)) ring got → ⊥
    none a r q n ring got e = cc

more_noted : (o : Option LinkStop) (got more : List LinkNews) → IsEndTaken o got → IsEndTaken o (got ++ more)
more_noted None got more n = tt
more_noted (Some why) got more n = (n.0, n.1 ++ more, ap (λ (l : List LinkNews). l ++ more) n.2 ∙ append_assoc n.0 (news.End why ∷ n.1) more)

noted_next : (o : Option LinkStop) (got : List LinkNews) (item : LinkNews) → IsEndTaken o got → IsEndTaken (noted_end 0 item o) (got ++ item ∷ [])
noted_next o got (news.Message m) n = more_noted o got (news.Message m ∷ []) n
noted_next o got (news.End why) n = (got, [], refl)
noted_next o got (news.Output b) n = more_noted o got (news.Output b ∷ []) n
noted_next o got (news.ChildDone outcome) n = more_noted o got (news.ChildDone outcome ∷ []) n

not_noted : (item : LinkNews) (o : Option LinkStop) → noted_end 1 item o ≡ o
not_noted (news.Message m) o = refl
not_noted (news.End why) o = refl
not_noted (news.Output b) o = refl
not_noted (news.ChildDone outcome) o = refl

not_started : (item : LinkNews) (o : Option ℕ) → still_started 0 item o ≡ o
not_started (news.Message m) o = refl
not_started (news.End why) o = refl
not_started (news.Output b) o = refl
not_started (news.ChildDone outcome) o = refl

was_whole : (item : LinkNews) (b : Bool) → is_short_by 0 item b ≡ false → b ≡ false
was_whole (news.Message m) b e = e
was_whole (news.End link.Ended) b e = e
was_whole (news.End link.Cut) b e = e
was_whole (news.End (link.Garbled f)) b e = e
was_whole (news.End (link.BadGreeting x)) b e = e
was_whole (news.End link.ReadFault) b e = e
was_whole (news.End link.OutOfMemory) b e = cc
was_whole (news.Output x) b e = e
was_whole (news.ChildDone outcome) b e = e

-- n programs at most are to come
still_drained : (item : LinkNews) (b : Bool) (o : Option ℕ) (n : ℕ) (got : List LinkNews) → (b ≡ false → n ≤ dones got + one_if o) → is_short_by 1 item b ≡ false → n ≤ dones (got ++ item ∷ []) + one_if (still_started 1 item o)
still_drained (news.Message m) b o n got d e = let x = d e in let y = dones-append got (news.Message m ∷ []) in omega (arith, x, y)
still_drained (news.End why) b o n got d e = cc
still_drained (news.Output x) b o n got d e = let z = d e in let y = dones-append got (news.Output x ∷ []) in omega (arith, z, y)
still_drained (news.ChildDone outcome) b o n got d e = let x = d e in let y = dones-append got (news.ChildDone outcome ∷ []) in let z = at_most o in omega (arith, x, y, z)

module _ (a : Setting) (now : Beside) (s : Seen) (item : LinkNews) (mails : List (Option (Ring × List LinkNews))) where
  -- one more item was taken of the reader, or of the runner
  first_more : (r q : List LinkNews) → mails ≡ two a (r ++ item ∷ []) q → TakenInAll a s r q → TakenInAll a (without_item 0 item mails s) (r ++ item ∷ []) q
  first_more r q e t = record {
    mails_are = e;
    noted = noted_next s.link_stop r item t.noted;
    drained = λ z. subst (λ (o : Option ℕ). length s.orders ≤ dones q + one_if o) (sym (not_started item s.started)) (t.drained (was_whole item s.short z));
  }

  second_more : (r q : List LinkNews) → mails ≡ two a r (q ++ item ∷ []) → TakenInAll a s r q → TakenInAll a (without_item 1 item mails s) r (q ++ item ∷ [])
  second_more r q e t = record {
    mails_are = e;
    noted = subst (λ (o : Option LinkStop). IsEndTaken o r) (sym (not_noted item s.link_stop)) t.noted;
    drained = still_drained item s.short s.started (length s.orders) q t.drained;
  }

  ceased_more : (why : Stop) (n : ℕ) (c : Ceased a now why s) → TakesTwo a c.of_reader c.of_runner item mails n → Ceased a now why (without_item n item mails s)
  ceased_more why zero c (First e) = record {
    heard = c.heard;
    of_reader = c.of_reader ++ item ∷ [];
    of_runner = c.of_runner;
    later = c.later ++ item ∷ [];
    unheard = c.unheard;
    taken = first_more c.of_reader c.of_runner e c.taken;
    from_link = ap (λ (l : List LinkNews). l ++ item ∷ []) c.from_link ∙ (append_assoc (map news.Message (messages_in c.heard.inputs)) (c.heard.preceding ++ c.later) (item ∷ []) ∙ ap (λ (l : List LinkNews). map news.Message (messages_in c.heard.inputs) ++ l) (append_assoc c.heard.preceding c.later (item ∷ [])));
    from_programs = c.from_programs;
  }
  ceased_more why (suc zero) c (Second e) = record {
    heard = c.heard;
    of_reader = c.of_reader;
    of_runner = c.of_runner ++ item ∷ [];
    later = c.later;
    unheard = c.unheard ++ item ∷ [];
    taken = second_more c.of_reader c.of_runner e c.taken;
    from_link = c.from_link;
    from_programs = ap (λ (l : List LinkNews). l ++ item ∷ []) c.from_programs ∙ append_assoc (news_in c.heard.inputs) c.unheard (item ∷ []);
  }
  ceased_more why (suc (suc n)) c t = elim t [ ]

  strayed_more : (n : ℕ) (x : Strayed a s) → TakesTwo a x.of_reader x.of_runner item mails n → Strayed a (without_item n item mails s)
  strayed_more zero x (First e) = record {
    stray = x.stray;
    of_reader = x.of_reader ++ item ∷ [];
    of_runner = x.of_runner;
    taken = first_more x.of_reader x.of_runner e x.taken;
    strays = by x.strays;
  }
    where
      by : Strays x.stray.item x.stray.messages x.stray.preceding x.stray.running x.of_reader x.of_runner → Strays x.stray.item x.stray.messages x.stray.preceding x.stray.running (x.of_reader ++ item ∷ []) x.of_runner
      by (inl h) = inl (h.0 ++ item ∷ [], ap (λ (l : List LinkNews). l ++ item ∷ []) h.1 ∙ append_assoc (map news.Message x.stray.messages) (x.stray.item ∷ h.0) (item ∷ []), h.2)
      by (inr h) = inr h
  strayed_more (suc zero) x (Second e) = record {
    stray = x.stray;
    of_reader = x.of_reader;
    of_runner = x.of_runner ++ item ∷ [];
    taken = second_more x.of_reader x.of_runner e x.taken;
    strays = by x.strays;
  }
    where
      by : Strays x.stray.item x.stray.messages x.stray.preceding x.stray.running x.of_reader x.of_runner → Strays x.stray.item x.stray.messages x.stray.preceding x.stray.running x.of_reader (x.of_runner ++ item ∷ [])
      by (inl h) = inl h
      by (inr h) = inr (h.0 ++ item ∷ [], ap (λ (l : List LinkNews). l ++ item ∷ []) h.1 ∙ append_assoc x.stray.preceding (x.stray.item ∷ h.0) (item ∷ []), h.2)
  strayed_more (suc (suc n)) x t = elim t [ ]

  dropped_more : (h : Halt) (n : ℕ) → TakesAt s.mails mails n item → Goes (Some h) a now s → Goes (Some h) a now (without_item n item mails s)
  dropped_more (halt.At why) n t c = ceased_more why n c (takes_two a c.of_reader c.of_runner item mails n (subst (λ (m : List (Option (Ring × List LinkNews))). TakesAt m mails n item) c.taken.mails_are t))
  dropped_more halt.Astray n t x = strayed_more n x (takes_two a x.of_reader x.of_runner item mails n (subst (λ (m : List (Option (Ring × List LinkNews))). TakesAt m mails n item) x.taken.mails_are t))

  pub dropped_as : (h : Halt) (n : ℕ) (l : Option LinkStop) (m : Option ℕ) (b : Bool) → l ≡ noted_end n item s.link_stop → m ≡ still_started n item s.started → b ≡ is_short_by n item s.short → TakesAt s.mails mails n item
      → Goes (Some h) a now s → Goes (Some h) a now (record s { mails = mails; link_stop = l; started = m; short = b })
  dropped_as h n l m b el em eb t g =
      subst (λ (x : Bool). Goes (Some h) a now (record s { mails = mails; link_stop = l; started = m; short = x })) (sym eb)
      (subst (λ (x : Option ℕ). Goes (Some h) a now (record s { mails = mails; link_stop = l; started = x; short = is_short_by n item s.short })) (sym em)
      (subst (λ (x : Option LinkStop). Goes (Some h) a now (record s { mails = mails; link_stop = x; started = still_started n item s.started; short = is_short_by n item s.short })) (sym el)
      (dropped_more h n t g)))

-- ---- what the server takes

module _ (a : Setting) (now : Beside) (s : Seen) (item : LinkNews) (mails : List (Option (Ring × List LinkNews))) where
  taken_two : (n : ℕ) (g : ServesSoFar a now nothing s) → TakesTwo a g.heard.of_reader (news_in g.heard.inputs) item mails n → ServesSoFar a now (of_inbox n item) (record s { mails = mails })
  taken_two zero g (First e) = record { heard = g.heard; ordered = g.ordered; left = g.left; taken = record { mails_are = e; noted = more_noted s.link_stop g.heard.of_reader (item ∷ []) g.taken.noted } }
  taken_two (suc zero) g (Second e) = record { heard = g.heard; ordered = g.ordered; left = g.left; taken = record { mails_are = e; noted = g.taken.noted } }
  taken_two (suc (suc n)) g t = elim t [ ]

  pub taken_item : (n : ℕ) → TakesAt s.mails mails n item → ServesSoFar a now nothing s → ServesSoFar a now (of_inbox n item) (record s { mails = mails })
  taken_item n t g = taken_two n g (takes_two a g.heard.of_reader (news_in g.heard.inputs) item mails n (subst (λ (m : List (Option (Ring × List LinkNews))). TakesAt m mails n item) g.taken.mails_are t))

-- the reader's end was taken
pub noted_now : (a : Setting) (now : Beside) (s : Seen) (why : LinkStop) → ServesSoFar a now (owed_of_link (news.End why)) s → ServesSoFar a now (owed_of_link (news.End why)) (record s { link_stop = Some why })
noted_now a now s why g = record { heard = g.heard; ordered = g.ordered; left = g.left; taken = record { mails_are = g.taken.mails_are; noted = (g.heard.of_reader, [], refl) } }
