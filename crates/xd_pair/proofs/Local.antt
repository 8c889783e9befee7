-- What one side keeps on one number, as its calls are made and notes come.
use Rattle.std.proofs.Common.{◌≡◌, ℕ, List, [], ◌∷◌, ◌++◌, Bool, true, false, Option, Some, None, refl, sym, ap, subst, ◌∙◌, append_assoc}
use Rattle.std.specs.Prelude.{is_some, ◌||◌, not, if◌then◌else◌}
use Rattle.std.proofs.lemmas.List.{append-nil}
use Rattle.xd_channel.specs.declared.end.End.{End}
use Rattle.xd_channel.specs.declared.end.End.TheVariants.{Closed, LastMessage, Error, Lost}
use Rattle.xd_channel.specs.State.{EndState, fresh_end, arrive_gives, after_arrive, put_gives, after_put, after_peer_close, end_of, once_given, after_close, after_give_up, after_hook, after_receive, is_done}
use Rattle.xd_channel.specs.History.{handed}
use Rattle.xd_value.specs.Tree.{Tree}
use Rattle.xd_factory.specs.Slot.{Slot, Unseen, Here, Gone, gone_where_done, receive_answer, named_slot}
use Rattle.xd_pair.specs.Notes.{Note, Named, Item, Ends, Lasts, Asked, before_end, has_end}
use Rattle.xd_pair.specs.Part.{Part, is_end_but_loss, is_lost, heard_in, heard, heard_all, opened_in, received_in, hooked_in, closed_in, function_ended_in, given_up_in, lost_in, end_in, item_in}
use Rattle.xd_factory.specs.Slot.{is_seen}
use Rattle.xd_pair.proofs.NotesLemmas.{open_append, ended_append, has_end-append, still_ended, open_or_ended, grows, longer}

-- an entry of the table: f the link is lost here, n the notes that came, w what waits, m the marker, c a callback, g the marker was given;
-- then what was handed out, and whether an end was, the end was let go, Lost was given
pub record HereOk (f : Bool) (n : List Note) (w : List Tree) (m : Option End) (c g : Bool) (got : List Tree) (ended let_go lost : Bool) : Type 0 where
  pub prefix : (more : List Tree) × (got ++ w ++ more ≡ before_end n)
  pub open_end : is_some m ≡ false → has_end n ≡ false
  pub open_all : is_some m ≡ false → got ++ w ≡ before_end n
  pub whole : let_go ≡ false → got ++ w ≡ before_end n
  pub end_came : let_go ≡ false → is_end_but_loss m ≡ true → has_end n ≡ true
  pub lost_late : is_lost m ≡ true → f ≡ true
  pub none_waits : c ≡ true → w ≡ []
  pub given_last : g ≡ true → w ≡ []
  pub given_came : g ≡ true → let_go ≡ false → lost ≡ false → has_end n ≡ true
  pub told_late : g ≡ true → is_some m ≡ true
  pub ended_given : ended ≡ true → g ≡ true
  pub lost_fin : lost ≡ true → f ≡ true

pub record GoneOk (f : Bool) (n : List Note) (got : List Tree) (let_go lost : Bool) : Type 0 where
  pub prefix : (more : List Tree) × (got ++ more ≡ before_end n)
  pub whole : let_go ≡ false → got ≡ before_end n
  pub end_came : let_go ≡ false → lost ≡ false → has_end n ≡ true
  pub lost_fin : lost ≡ true → f ≡ true

pub record UnseenOk (f : Bool) (n : List Note) (got : List Tree) (ended lost : Bool) : Type 0 where
  pub got_none : got ≡ []
  pub none_came : before_end n ≡ []
  pub no_end : has_end n ≡ false
  pub not_ended : ended ≡ false
  pub lost_fin : lost ≡ true → f ≡ true

abbrev pub SlotOk : Bool → List Note → Slot Tree → List Tree → Bool → Bool → Bool → Type 0
SlotOk f n Unseen got e l o = UnseenOk f n got e o
SlotOk f n (Here s) got e l o = HereOk f n s.waiting s.marker s.callback s.given got e l o
SlotOk f n Gone got e l o = GoneOk f n got l o

abbrev pub PartOk : Bool → List Note → Part → Type 0
PartOk f n p = SlotOk f n p.slot p.got p.ended p.let_go p.lost

abbrev state : List Tree → Option End → Bool → Bool → Bool → EndState Tree
state w m o c g = record { waiting = w; marker = m; sending = o; callback = c; given = g }

-- an entry that leaves the table has nothing that waits
settles : (f : Bool) (n : List Note) (w : List Tree) (m : Option End) (o c g : Bool) (got : List Tree) (e l lo : Bool) → HereOk f n w m c g got e l lo → SlotOk f n (gone_where_done (state w m o c g)) got e l lo
settles f n w m true c g got e l lo k = k
settles f n w m false c false got e l lo k = k
settles f n w m false c true got e l lo k = record {
  prefix = (k.prefix.0, sym (ap (λ (x : List Tree). x ++ k.prefix.0) (ap (λ (x : List Tree). got ++ x) (k.given_last refl) ∙ append-nil got)) ∙ k.prefix.1);
  whole = λ h. sym (ap (λ (x : List Tree). got ++ x) (k.given_last refl) ∙ append-nil got) ∙ k.whole h;
  end_came = k.given_came refl;
  lost_fin = k.lost_fin;
}

all_prefix : (a b : List Tree) → a ≡ b → (more : List Tree) × (a ++ more ≡ b)
all_prefix a b h = ([], append-nil a ∙ h)

-- nothing more is handed out
none_more : (f : Bool) (n : List Note) (s : Slot Tree) (got : List Tree) (e l lo : Bool) → SlotOk f n s got e l lo → SlotOk f n s (got ++ []) e l lo
none_more f n s got e l lo k = subst (λ (x : List Tree). SlotOk f n s x e l lo) (sym (append-nil got)) k

-- in an entry that did not let go, a marker is the peer's
marker_came : (n : List Note) (w : List Tree) (x : End) (c g : Bool) (got : List Tree) (e l lo : Bool) → HereOk false n w (Some x) c g got e l lo → l ≡ false → has_end n ≡ true
marker_came n w Closed c g got e l lo k h = k.end_came h refl
marker_came n w LastMessage c g got e l lo k h = k.end_came h refl
marker_came n w (Error t) c g got e l lo k h = k.end_came h refl
marker_came n w Lost c g got e l lo k h = absurd (let q = k.lost_late refl in cc)

handed_more : (got w b : List Tree) (v : Tree) → w ≡ [] → got ++ w ≡ b → got ++ v ∷ [] ++ w ≡ b ++ v ∷ []
handed_more got w b v hw h = subst (λ (x : List Tree). got ++ x ≡ b → got ++ v ∷ [] ++ x ≡ b ++ v ∷ []) (sym hw) (λ q. append-nil (got ++ v ∷ []) ∙ ap (λ (x : List Tree). x ++ v ∷ []) (sym (append-nil got) ∙ q)) h

kept_more : (got w b : List Tree) (v : Tree) → got ++ w ≡ b → got ++ (w ++ v ∷ []) ≡ b ++ v ∷ []
kept_more got w b v h = sym (append_assoc got w (v ∷ [])) ∙ ap (λ (x : List Tree). x ++ v ∷ []) h

not_yet : (n : List Note) (v : Tree) → has_end n ≡ false → has_end (n ++ Item v ∷ []) ≡ false
not_yet n v h = has_end-append n (Item v ∷ []) ∙ ap (λ b. b || false) h

item_more : (n : List Note) (v : Tree) → has_end n ≡ false → before_end n ++ v ∷ [] ≡ before_end (n ++ Item v ∷ [])
item_more n v h = sym (open_append n (Item v ∷ []) h)

-- an item comes
item_comes : (n : List Note) (w : List Tree) (m : Option End) (o c g : Bool) (got : List Tree) (e l lo : Bool) (v : Tree) → HereOk false n w m c g got e l lo
    → SlotOk false (n ++ Item v ∷ []) (Here (after_arrive (state w m o c g) v)) (got ++ handed (arrive_gives (state w m o c g) v)) e l lo
item_comes n w (Some x) o c g got e l lo v k = none_more false (n ++ Item v ∷ []) (Here (state w (Some x) o c g)) got e l lo (record { prefix = longer (got ++ w) (before_end n) (before_end (n ++ Item v ∷ [])) k.prefix (grows n (Item v ∷ [])); open_end = λ h. cc; open_all = λ h. cc; whole = λ h. k.whole h ∙ sym (ended_append n (Item v ∷ []) (marker_came n w x c g got e l lo k h)); end_came = λ h q. still_ended n (Item v ∷ []) (k.end_came h q); lost_late = k.lost_late; none_waits = k.none_waits; given_last = k.given_last; given_came = λ a b d. still_ended n (Item v ∷ []) (k.given_came a b d); told_late = k.told_late; ended_given = k.ended_given; lost_fin = k.lost_fin })
item_comes n w None o true g got e l lo v k =
    let all = handed_more got w (before_end n) v (k.none_waits refl) (k.open_all refl) ∙ item_more n v (k.open_end refl) in
    record { prefix = all_prefix (got ++ v ∷ [] ++ w) (before_end (n ++ Item v ∷ [])) all; open_end = λ h. not_yet n v (k.open_end refl); open_all = λ h. all; whole = λ h. all; end_came = λ h q. cc; lost_late = k.lost_late; none_waits = k.none_waits; given_last = k.given_last; given_came = λ a b d. let q = k.told_late a in cc; told_late = k.told_late; ended_given = k.ended_given; lost_fin = k.lost_fin }
item_comes n w None o false g got e l lo v k =
    let all = kept_more got w (before_end n) v (k.open_all refl) ∙ item_more n v (k.open_end refl) in
    none_more false (n ++ Item v ∷ []) (Here (state (w ++ v ∷ []) None o false g)) got e l lo (record { prefix = all_prefix (got ++ (w ++ v ∷ [])) (before_end (n ++ Item v ∷ [])) all; open_end = λ h. not_yet n v (k.open_end refl); open_all = λ h. all; whole = λ h. all; end_came = λ h q. cc; lost_late = k.lost_late; none_waits = λ h. cc; given_last = λ a. let q = k.told_late a in cc; given_came = λ a b d. let q = k.told_late a in cc; told_late = k.told_late; ended_given = k.ended_given; lost_fin = k.lost_fin })

-- an end comes from the peer
end_comes : (f : Bool) (n : List Note) (w : List Tree) (m : Option End) (o c g : Bool) (got : List Tree) (e l lo : Bool) (x : Note) (end : End) → before_end (n ++ x ∷ []) ≡ before_end n → has_end (n ++ x ∷ []) ≡ true → is_lost (Some (once_given end)) ≡ false
    → HereOk f n w m c g got e l lo
    → SlotOk f (n ++ x ∷ []) (gone_where_done (after_put (state w m o c g) end)) (got ++ []) (is_end_but_loss (put_gives (state w m o c g) end) || e) l (is_lost (put_gives (state w m o c g) end) || lo)
end_comes f n w (Some y) o c g got e l lo x end hb he hl k =
    none_more f (n ++ x ∷ []) (gone_where_done (state w (Some y) o c g)) got e l lo (settles f (n ++ x ∷ []) w (Some y) o c g got e l lo (record { prefix = (k.prefix.0, k.prefix.1 ∙ sym hb); open_end = λ h. cc; open_all = λ h. cc; whole = λ h. k.whole h ∙ sym hb; end_came = λ h q. he; lost_late = k.lost_late; none_waits = k.none_waits; given_last = k.given_last; given_came = λ a b d. he; told_late = k.told_late; ended_given = k.ended_given; lost_fin = k.lost_fin }))
end_comes f n w None o true g got e l lo x end hb he hl k =
    let e' = is_end_but_loss (Some end) || e in let lo' = is_lost (Some end) || lo in
    none_more f (n ++ x ∷ []) (gone_where_done (state w (Some (once_given end)) o true true)) got e' l lo' (settles f (n ++ x ∷ []) w (Some (once_given end)) o true true got e' l lo' (record { prefix = (k.prefix.0, k.prefix.1 ∙ sym hb); open_end = λ h. cc; open_all = λ h. cc; whole = λ h. k.open_all refl ∙ sym hb; end_came = λ h q. he; lost_late = λ q. cc; none_waits = k.none_waits; given_last = λ a. k.none_waits refl; given_came = λ a b d. he; told_late = λ a. refl; ended_given = λ a. refl; lost_fin = λ q. not_lost end lo hl k.lost_fin q }))
  where
    not_lost : (x : End) (lo : Bool) → is_lost (Some (once_given x)) ≡ false → (lo ≡ true → f ≡ true) → is_lost (Some x) || lo ≡ true → f ≡ true
    not_lost Closed lo a h b = h b
    not_lost LastMessage lo a h b = h b
    not_lost (Error t) lo a h b = h b
    not_lost Lost lo a h b = cc
end_comes f n w None o false g got e l lo x end hb he hl k =
    none_more f (n ++ x ∷ []) (gone_where_done (state w (Some end) o false g)) got e l lo (settles f (n ++ x ∷ []) w (Some end) o false g got e l lo (record { prefix = (k.prefix.0, k.prefix.1 ∙ sym hb); open_end = λ h. cc; open_all = λ h. cc; whole = λ h. k.open_all refl ∙ sym hb; end_came = λ h q. he; lost_late = λ q. not_lost end hl q; none_waits = k.none_waits; given_last = k.given_last; given_came = λ a b d. he; told_late = λ a. refl; ended_given = k.ended_given; lost_fin = k.lost_fin }))
  where
    not_lost : (x : End) → is_lost (Some (once_given x)) ≡ false → is_lost (Some x) ≡ true → f ≡ true
    not_lost Closed a b = cc
    not_lost LastMessage a b = cc
    not_lost (Error t) a b = cc
    not_lost Lost a b = cc

-- the link is lost
loses : (f : Bool) (n : List Note) (w : List Tree) (m : Option End) (o c g : Bool) (got : List Tree) (e l lo : Bool) → HereOk f n w m c g got e l lo
    → SlotOk true n (gone_where_done (after_put (state w m o c g) Lost)) (got ++ []) (is_end_but_loss (put_gives (state w m o c g) Lost) || e) l (is_lost (put_gives (state w m o c g) Lost) || lo)
loses f n w (Some y) o c g got e l lo k =
    none_more true n (gone_where_done (state w (Some y) o c g)) got e l lo (settles true n w (Some y) o c g got e l lo (record { prefix = k.prefix; open_end = k.open_end; open_all = k.open_all; whole = k.whole; end_came = k.end_came; lost_late = λ q. refl; none_waits = k.none_waits; given_last = k.given_last; given_came = k.given_came; told_late = k.told_late; ended_given = k.ended_given; lost_fin = λ q. refl }))
loses f n w None o true g got e l lo k =
    none_more true n (gone_where_done (state w (Some Lost) o true true)) got e l true (settles true n w (Some Lost) o true true got e l true (record { prefix = k.prefix; open_end = λ h. cc; open_all = λ h. cc; whole = λ h. k.open_all refl; end_came = λ h q. cc; lost_late = λ q. refl; none_waits = k.none_waits; given_last = λ a. k.none_waits refl; given_came = λ a b d. cc; told_late = λ a. refl; ended_given = λ a. refl; lost_fin = λ q. refl }))
loses f n w None o false g got e l lo k =
    none_more true n (gone_where_done (state w (Some Lost) o false g)) got e l lo (settles true n w (Some Lost) o false g got e l lo (record { prefix = k.prefix; open_end = λ h. cc; open_all = λ h. cc; whole = λ h. k.open_all refl; end_came = λ h q. cc; lost_late = λ q. refl; none_waits = k.none_waits; given_last = k.given_last; given_came = λ a b d. let q = k.told_late a in cc; told_late = λ a. refl; ended_given = k.ended_given; lost_fin = λ q. refl }))

-- a receive
receives : (f : Bool) (n : List Note) (w : List Tree) (m : Option End) (o c g : Bool) (got : List Tree) (e l lo : Bool) → HereOk f n w m c g got e l lo
    → SlotOk f n (gone_where_done (after_receive (state w m o c g))) (got ++ item_in (receive_answer (Here (state w m o c g)))) (is_end_but_loss (end_in (receive_answer (Here (state w m o c g)))) || e) l (is_lost (end_in (receive_answer (Here (state w m o c g)))) || lo)
receives f n w m o true g got e l lo k = none_more f n (gone_where_done (state w m o true g)) got e l lo (settles f n w m o true g got e l lo k)
receives f n (x ∷ xs) m o false g got e l lo k = let q = append_assoc got (x ∷ []) xs in settles f n xs m o false g (got ++ x ∷ []) e l lo (record { prefix = (k.prefix.0, ap (λ (t : List Tree). t ++ k.prefix.0) q ∙ k.prefix.1); open_end = k.open_end; open_all = λ h. q ∙ k.open_all h; whole = λ h. q ∙ k.whole h; end_came = k.end_came; lost_late = k.lost_late; none_waits = λ h. cc; given_last = λ a. let z = k.given_last a in cc; given_came = k.given_came; told_late = k.told_late; ended_given = k.ended_given; lost_fin = k.lost_fin })
receives f n [] None o false g got e l lo k = none_more f n (gone_where_done (state [] None o false g)) got e l lo (settles f n [] None o false g got e l lo k)
receives f n [] (Some Closed) o false g got e l lo k = none_more f n (gone_where_done (state [] (Some Closed) o false true)) got true l lo (settles f n [] (Some Closed) o false true got true l lo (record { prefix = k.prefix; open_end = λ h. cc; open_all = λ h. cc; whole = k.whole; end_came = λ h q. k.end_came h refl; lost_late = λ q. cc; none_waits = λ a. refl; given_last = λ a. refl; given_came = λ a b d. k.end_came b refl; told_late = λ a. refl; ended_given = λ a. refl; lost_fin = k.lost_fin }))
receives f n [] (Some LastMessage) o false g got e l lo k = none_more f n (gone_where_done (state [] (Some LastMessage) o false true)) got true l lo (settles f n [] (Some LastMessage) o false true got true l lo (record { prefix = k.prefix; open_end = λ h. cc; open_all = λ h. cc; whole = k.whole; end_came = λ h q. k.end_came h refl; lost_late = λ q. cc; none_waits = λ a. refl; given_last = λ a. refl; given_came = λ a b d. k.end_came b refl; told_late = λ a. refl; ended_given = λ a. refl; lost_fin = k.lost_fin }))
receives f n [] (Some (Error t)) o false g got e l lo k = none_more f n (gone_where_done (state [] (Some Closed) o false true)) got true l lo (settles f n [] (Some Closed) o false true got true l lo (record { prefix = k.prefix; open_end = λ h. cc; open_all = λ h. cc; whole = k.whole; end_came = λ h q. k.end_came h refl; lost_late = λ q. cc; none_waits = λ a. refl; given_last = λ a. refl; given_came = λ a b d. k.end_came b refl; told_late = λ a. refl; ended_given = λ a. refl; lost_fin = k.lost_fin }))
receives f n [] (Some Lost) o false g got e l lo k = none_more f n (gone_where_done (state [] (Some Lost) o false true)) got e l true (settles f n [] (Some Lost) o false true got e l true (record { prefix = k.prefix; open_end = λ h. cc; open_all = λ h. cc; whole = k.whole; end_came = λ h q. cc; lost_late = k.lost_late; none_waits = λ a. refl; given_last = λ a. refl; given_came = λ a b d. cc; told_late = λ a. refl; ended_given = λ a. refl; lost_fin = λ q. k.lost_late refl }))

-- a callback is set
hooks : (f : Bool) (n : List Note) (w : List Tree) (m : Option End) (o g : Bool) (got : List Tree) (e l lo : Bool) → HereOk f n w m false g got e l lo
    → SlotOk f n (gone_where_done (after_hook (state w m o false g))) (got ++ w) (is_end_but_loss m || e) l (is_lost m || lo)
hooks f n w None o g got e l lo k = settles f n [] None o true g (got ++ w) e l lo (record { prefix = (k.prefix.0, ap (λ (t : List Tree). t ++ k.prefix.0) (append-nil (got ++ w)) ∙ k.prefix.1); open_end = k.open_end; open_all = λ h. append-nil (got ++ w) ∙ k.open_all h; whole = λ h. append-nil (got ++ w) ∙ k.whole h; end_came = k.end_came; lost_late = k.lost_late; none_waits = λ a. refl; given_last = λ a. refl; given_came = k.given_came; told_late = k.told_late; ended_given = k.ended_given; lost_fin = k.lost_fin })
hooks f n w (Some Closed) o g got e l lo k = settles f n [] (Some Closed) o true true (got ++ w) true l lo (record { prefix = (k.prefix.0, ap (λ (t : List Tree). t ++ k.prefix.0) (append-nil (got ++ w)) ∙ k.prefix.1); open_end = λ h. cc; open_all = λ h. cc; whole = λ h. append-nil (got ++ w) ∙ k.whole h; end_came = λ h q. k.end_came h refl; lost_late = λ q. cc; none_waits = λ a. refl; given_last = λ a. refl; given_came = λ a b d. k.end_came b refl; told_late = λ a. refl; ended_given = λ a. refl; lost_fin = k.lost_fin })
hooks f n w (Some LastMessage) o g got e l lo k = settles f n [] (Some LastMessage) o true true (got ++ w) true l lo (record { prefix = (k.prefix.0, ap (λ (t : List Tree). t ++ k.prefix.0) (append-nil (got ++ w)) ∙ k.prefix.1); open_end = λ h. cc; open_all = λ h. cc; whole = λ h. append-nil (got ++ w) ∙ k.whole h; end_came = λ h q. k.end_came h refl; lost_late = λ q. cc; none_waits = λ a. refl; given_last = λ a. refl; given_came = λ a b d. k.end_came b refl; told_late = λ a. refl; ended_given = λ a. refl; lost_fin = k.lost_fin })
hooks f n w (Some (Error t)) o g got e l lo k = settles f n [] (Some Closed) o true true (got ++ w) true l lo (record { prefix = (k.prefix.0, ap (λ (t : List Tree). t ++ k.prefix.0) (append-nil (got ++ w)) ∙ k.prefix.1); open_end = λ h. cc; open_all = λ h. cc; whole = λ h. append-nil (got ++ w) ∙ k.whole h; end_came = λ h q. k.end_came h refl; lost_late = λ q. cc; none_waits = λ a. refl; given_last = λ a. refl; given_came = λ a b d. k.end_came b refl; told_late = λ a. refl; ended_given = λ a. refl; lost_fin = k.lost_fin })
hooks f n w (Some Lost) o g got e l lo k = settles f n [] (Some Lost) o true true (got ++ w) e l true (record { prefix = (k.prefix.0, ap (λ (t : List Tree). t ++ k.prefix.0) (append-nil (got ++ w)) ∙ k.prefix.1); open_end = λ h. cc; open_all = λ h. cc; whole = λ h. append-nil (got ++ w) ∙ k.whole h; end_came = λ h q. cc; lost_late = k.lost_late; none_waits = λ a. refl; given_last = λ a. refl; given_came = λ a b d. cc; told_late = λ a. refl; ended_given = λ a. refl; lost_fin = λ q. k.lost_late refl })

-- the own end is closed
closes : (f : Bool) (n : List Note) (w : List Tree) (m : Option End) (o c g : Bool) (got : List Tree) (e l lo : Bool) → HereOk f n w m c g got e l lo → SlotOk f n (gone_where_done (after_close (state w m o c g))) got e true lo
closes f n w (Some x) o true g got e l lo k = settles f n w (Some x) false true true got e true lo (record { prefix = k.prefix; open_end = λ h. cc; open_all = λ h. cc; whole = λ h. cc; end_came = λ h q. cc; lost_late = k.lost_late; none_waits = k.none_waits; given_last = λ a. k.none_waits refl; given_came = λ a b d. cc; told_late = λ a. refl; ended_given = λ a. refl; lost_fin = k.lost_fin })
closes f n w (Some x) o false g got e l lo k = settles f n w (Some x) false false g got e true lo (record { prefix = k.prefix; open_end = λ h. cc; open_all = λ h. cc; whole = λ h. cc; end_came = λ h q. cc; lost_late = k.lost_late; none_waits = k.none_waits; given_last = k.given_last; given_came = λ a b d. cc; told_late = λ a. refl; ended_given = k.ended_given; lost_fin = k.lost_fin })
closes f n w None o true g got e l lo k = settles f n w (Some Closed) false true true got e true lo (record { prefix = k.prefix; open_end = λ h. cc; open_all = λ h. cc; whole = λ h. cc; end_came = λ h q. cc; lost_late = λ q. cc; none_waits = k.none_waits; given_last = λ a. k.none_waits refl; given_came = λ a b d. cc; told_late = λ a. refl; ended_given = λ a. refl; lost_fin = k.lost_fin })
closes f n w None o false g got e l lo k = settles f n w (Some Closed) false false g got e true lo (record { prefix = k.prefix; open_end = λ h. cc; open_all = λ h. cc; whole = λ h. cc; end_came = λ h q. cc; lost_late = λ q. cc; none_waits = k.none_waits; given_last = k.given_last; given_came = λ a b d. cc; told_late = λ a. refl; ended_given = k.ended_given; lost_fin = k.lost_fin })

-- its function ends
ends : (f : Bool) (n : List Note) (w : List Tree) (m : Option End) (o c g : Bool) (got : List Tree) (e l lo : Bool) → HereOk f n w m c g got e l lo → SlotOk f n Gone got e true lo
ends f n w m o c g got e l lo k = record { prefix = (w ++ k.prefix.0, sym (append_assoc got w k.prefix.0) ∙ k.prefix.1); whole = λ h. cc; end_came = λ h q. cc; lost_fin = k.lost_fin }

-- the owner lets go of it
lets_go : (f : Bool) (n : List Note) (w : List Tree) (m : Option End) (o c g : Bool) (got : List Tree) (e l lo : Bool) → HereOk f n w m c g got e l lo → SlotOk f n (gone_where_done (after_give_up (state w m o c g))) got e (not c || l) lo
lets_go f n w (Some x) true true g got e l lo k = settles f n w (Some x) false true g got e l lo k
lets_go f n w None true true g got e l lo k = settles f n w None false true g got e l lo k
lets_go f n w (Some x) true false g got e l lo k = settles f n w (Some x) false false g got e true lo (record { prefix = k.prefix; open_end = k.open_end; open_all = k.open_all; whole = λ h. cc; end_came = λ h q. cc; lost_late = k.lost_late; none_waits = k.none_waits; given_last = k.given_last; given_came = λ a b d. cc; told_late = k.told_late; ended_given = k.ended_given; lost_fin = k.lost_fin })
lets_go f n w (Some x) false true g got e l lo k = settles f n w (Some x) false true g got e l lo k
lets_go f n w None false true g got e l lo k = settles f n w None false true g got e l lo k
lets_go f n w (Some x) false false g got e l lo k = settles f n w (Some x) false false g got e true lo (record { prefix = k.prefix; open_end = k.open_end; open_all = k.open_all; whole = λ h. cc; end_came = λ h q. cc; lost_late = k.lost_late; none_waits = k.none_waits; given_last = k.given_last; given_came = λ a b d. cc; told_late = k.told_late; ended_given = k.ended_given; lost_fin = k.lost_fin })
lets_go f n w None true false g got e l lo k = settles f n w (Some Closed) false false g got e true lo (record { prefix = k.prefix; open_end = λ h. cc; open_all = λ h. cc; whole = λ h. cc; end_came = λ h q. cc; lost_late = λ q. cc; none_waits = k.none_waits; given_last = k.given_last; given_came = λ a b d. cc; told_late = λ a. refl; ended_given = k.ended_given; lost_fin = k.lost_fin })
lets_go f n w None false false g got e l lo k = settles f n w None false false g got e true lo (record { prefix = k.prefix; open_end = k.open_end; open_all = k.open_all; whole = λ h. cc; end_came = λ h q. cc; lost_late = k.lost_late; none_waits = k.none_waits; given_last = k.given_last; given_came = λ a b d. cc; told_late = k.told_late; ended_given = k.ended_given; lost_fin = k.lost_fin })

-- an entry that was just opened
opens : (f : Bool) (n : List Note) (got : List Tree) (e l lo : Bool) → UnseenOk f n got e lo → HereOk f n [] None false false got e l lo
opens f n got e l lo k = let all : got ++ [] ≡ before_end n = append-nil got ∙ k.got_none ∙ sym k.none_came in record {
  prefix = all_prefix (got ++ []) (before_end n) all;
  open_end = λ h. k.no_end;
  open_all = λ h. all;
  whole = λ h. all;
  end_came = λ h q. cc;
  lost_late = λ h. cc;
  none_waits = λ h. refl;
  given_last = λ h. refl;
  given_came = λ a b d. cc;
  told_late = λ h. cc;
  ended_given = λ h. let q = k.not_ended in cc;
  lost_fin = k.lost_fin;
}

-- only what came before the end, and whether an end came, counts
same_notes : (f : Bool) (n n' : List Note) (s : Slot Tree) (got : List Tree) (e l lo : Bool) → before_end n ≡ before_end n' → has_end n ≡ has_end n' → SlotOk f n s got e l lo → SlotOk f n' s got e l lo
same_notes f n n' Unseen got e l lo hb hh k = record { got_none = k.got_none; none_came = sym hb ∙ k.none_came; no_end = sym hh ∙ k.no_end; not_ended = k.not_ended; lost_fin = k.lost_fin }
same_notes f n n' (Here s) got e l lo hb hh k = record { prefix = (k.prefix.0, k.prefix.1 ∙ hb); open_end = λ h. sym hh ∙ k.open_end h; open_all = λ h. k.open_all h ∙ hb; whole = λ h. k.whole h ∙ hb; end_came = λ h q. sym hh ∙ k.end_came h q; lost_late = k.lost_late; none_waits = k.none_waits; given_last = k.given_last; given_came = λ a b d. sym hh ∙ k.given_came a b d; told_late = k.told_late; ended_given = k.ended_given; lost_fin = k.lost_fin }
same_notes f n n' Gone got e l lo hb hh k = record { prefix = (k.prefix.0, k.prefix.1 ∙ hb); whole = λ h. k.whole h ∙ hb; end_came = λ a b. sym hh ∙ k.end_came a b; lost_fin = k.lost_fin }

-- the slot of a part by its name
at_slot : (f : Bool) (n : List Note) (p : Part) (s : Slot Tree) → p.slot ≡ s → PartOk f n p → SlotOk f n s p.got p.ended p.let_go p.lost
at_slot f n p s e k = subst (λ (x : Slot Tree). SlotOk f n x p.got p.ended p.let_go p.lost) e k

-- the calls, at any slot
pub opened-ok : (f : Bool) (n : List Note) (p : Part) (s : Slot Tree) → p.slot ≡ s → PartOk f n p → PartOk f n (opened_in p s)
opened-ok f n p Unseen h k = opens f n p.got p.ended p.let_go p.lost (at_slot f n p Unseen h k)
opened-ok f n p (Here s) h k = at_slot f n p (Here s) h k
opened-ok f n p Gone h k = at_slot f n p Gone h k

pub named-ok : (f : Bool) (n : List Note) (p : Part) (mine : Bool) (s : Slot Tree) → p.slot ≡ s → PartOk f n p → PartOk f n (record p { slot = named_slot mine s })
named-ok f n p true Unseen h k = at_slot f n p Unseen h k
named-ok f n p false Unseen h k = opens f n p.got p.ended p.let_go p.lost (at_slot f n p Unseen h k)
named-ok f n p mine (Here s) h k = at_slot f n p (Here s) h k
named-ok f n p mine Gone h k = at_slot f n p Gone h k

gone_more : (f : Bool) (n : List Note) (got : List Tree) (l lo : Bool) → GoneOk f n got l lo → GoneOk f n (got ++ []) l lo
gone_more f n got l lo k = subst (λ (x : List Tree). GoneOk f n x l lo) (sym (append-nil got)) k

pub received-ok : (f : Bool) (n : List Note) (p : Part) (s : Slot Tree) → p.slot ≡ s → PartOk f n p → PartOk f n (received_in p s)
received-ok f n p Unseen h k = none_more f n Unseen p.got p.ended p.let_go p.lost (at_slot f n p Unseen h k)
received-ok f n p (Here s) h k = receives f n s.waiting s.marker s.sending s.callback s.given p.got p.ended p.let_go p.lost (at_slot f n p (Here s) h k)
received-ok f n p Gone h k = gone_more f n p.got p.let_go p.lost (at_slot f n p Gone h k)

hooked_here : (f : Bool) (n : List Note) (p : Part) (w : List Tree) (m : Option End) (o c g : Bool) → HereOk f n w m c g p.got p.ended p.let_go p.lost → PartOk f n (hooked_in p (Here (state w m o c g)))
hooked_here f n p w m o true g k = none_more f n (Here (state w m o true g)) p.got p.ended p.let_go p.lost k
hooked_here f n p w m o false g k = hooks f n w m o g p.got p.ended p.let_go p.lost k

pub hooked-ok : (f : Bool) (n : List Note) (p : Part) (s : Slot Tree) → p.slot ≡ s → PartOk f n p → PartOk f n (hooked_in p s)
hooked-ok f n p Unseen h k = none_more f n Unseen p.got p.ended p.let_go p.lost (at_slot f n p Unseen h k)
hooked-ok f n p (Here s) h k = hooked_here f n p s.waiting s.marker s.sending s.callback s.given (at_slot f n p (Here s) h k)
hooked-ok f n p Gone h k = gone_more f n p.got p.let_go p.lost (at_slot f n p Gone h k)

pub closed-ok : (f : Bool) (n : List Note) (p : Part) (s : Slot Tree) → p.slot ≡ s → PartOk f n p → PartOk f n (closed_in p s)
closed-ok f n p Unseen h k = at_slot f n p Unseen h k
closed-ok f n p (Here s) h k = closes f n s.waiting s.marker s.sending s.callback s.given p.got p.ended p.let_go p.lost (at_slot f n p (Here s) h k)
closed-ok f n p Gone h k = at_slot f n p Gone h k

pub ended-ok : (f : Bool) (n : List Note) (p : Part) (s : Slot Tree) → p.slot ≡ s → PartOk f n p → PartOk f n (function_ended_in p s)
ended-ok f n p Unseen h k = at_slot f n p Unseen h k
ended-ok f n p (Here s) h k = ends f n s.waiting s.marker s.sending s.callback s.given p.got p.ended p.let_go p.lost (at_slot f n p (Here s) h k)
ended-ok f n p Gone h k = at_slot f n p Gone h k

pub given_up-ok : (f : Bool) (n : List Note) (p : Part) (s : Slot Tree) → p.slot ≡ s → PartOk f n p → PartOk f n (given_up_in p s)
given_up-ok f n p Unseen h k = at_slot f n p Unseen h k
given_up-ok f n p (Here s) h k = lets_go f n s.waiting s.marker s.sending s.callback s.given p.got p.ended p.let_go p.lost (at_slot f n p (Here s) h k)
given_up-ok f n p Gone h k = at_slot f n p Gone h k

pub lost-ok : (f : Bool) (n : List Note) (p : Part) (s : Slot Tree) → p.slot ≡ s → PartOk f n p → PartOk true n (lost_in p s)
lost-ok f n p Unseen h k = none_more true n Unseen p.got p.ended p.let_go p.lost (let u = at_slot f n p Unseen h k in record { got_none = u.got_none; none_came = u.none_came; no_end = u.no_end; not_ended = u.not_ended; lost_fin = λ q. refl })
lost-ok f n p (Here s) h k = loses f n s.waiting s.marker s.sending s.callback s.given p.got p.ended p.let_go p.lost (at_slot f n p (Here s) h k)
lost-ok f n p Gone h k = gone_more true n p.got p.let_go p.lost (let u = at_slot f n p Gone h k in record { prefix = u.prefix; whole = u.whole; end_came = u.end_came; lost_fin = λ q. refl })

-- a note comes
name_quiet : (n : List Note) → (before_end n ≡ before_end (n ++ Named ∷ [])) × (has_end n ≡ has_end (n ++ Named ∷ []))
name_quiet [] = (refl, refl)
name_quiet (Item v ∷ n) = (ap (λ (x : List Tree). v ∷ x) (name_quiet n).0, (name_quiet n).1)
name_quiet (Named ∷ n) = name_quiet n
name_quiet (Ends e ∷ n) = (refl, refl)
name_quiet (Lasts ∷ n) = (refl, refl)
name_quiet (Asked ∷ n) = name_quiet n

ask_quiet : (n : List Note) → (before_end n ≡ before_end (n ++ Asked ∷ [])) × (has_end n ≡ has_end (n ++ Asked ∷ []))
ask_quiet [] = (refl, refl)
ask_quiet (Item v ∷ n) = (ap (λ (x : List Tree). v ∷ x) (ask_quiet n).0, (ask_quiet n).1)
ask_quiet (Named ∷ n) = ask_quiet n
ask_quiet (Ends e ∷ n) = (refl, refl)
ask_quiet (Lasts ∷ n) = (refl, refl)
ask_quiet (Asked ∷ n) = ask_quiet n

end_note : (n : List Note) (x : Note) → before_end (x ∷ []) ≡ [] → before_end (n ++ x ∷ []) ≡ before_end n
end_note n x h = open_or_ended (has_end n) (before_end (n ++ x ∷ []) ≡ before_end n) (λ q. ended_append n (x ∷ []) q)
    (λ q. open_append n (x ∷ []) q ∙ ap (λ (y : List Tree). before_end n ++ y) h ∙ append-nil (before_end n))

or_true : (b : Bool) → b || true ≡ true
or_true true = refl
or_true false = refl

end_here : (n : List Note) (x : Note) → has_end (x ∷ []) ≡ true → has_end (n ++ x ∷ []) ≡ true
end_here n x h = has_end-append n (x ∷ []) ∙ ap (λ b. has_end n || b) h ∙ or_true (has_end n)

closes_well : (e : Option (List ℕ)) → is_lost (Some (once_given (end_of e))) ≡ false
closes_well None = refl
closes_well (Some t) = refl

gone_item : (n : List Note) (got : List Tree) (l lo : Bool) (v : Tree) → GoneOk false n got l lo → GoneOk false (n ++ Item v ∷ []) got l lo
gone_item n got l true v k = absurd (let q = k.lost_fin refl in cc)
gone_item n got l false v k = record {
  prefix = longer got (before_end n) (before_end (n ++ Item v ∷ [])) k.prefix (grows n (Item v ∷ []));
  whole = λ h. k.whole h ∙ sym (ended_append n (Item v ∷ []) (k.end_came h refl));
  end_came = λ a b. still_ended n (Item v ∷ []) (k.end_came a b);
  lost_fin = k.lost_fin;
}

gone_end : (n : List Note) (got : List Tree) (l lo : Bool) (x : Note) → before_end (x ∷ []) ≡ [] → has_end (x ∷ []) ≡ true → GoneOk false n got l lo → GoneOk false (n ++ x ∷ []) got l lo
gone_end n got l lo x hb he k = record { prefix = (k.prefix.0, k.prefix.1 ∙ sym (end_note n x hb)); whole = λ h. k.whole h ∙ sym (end_note n x hb); end_came = λ a b. end_here n x he; lost_fin = k.lost_fin }

unseen_end : (n : List Note) (got : List Tree) (e l lo : Bool) (x : Note) → before_end (x ∷ []) ≡ [] → has_end (x ∷ []) ≡ true → UnseenOk false n got e lo → GoneOk false (n ++ x ∷ []) got l lo
unseen_end n got e l lo x hb he k = let all : got ≡ before_end (n ++ x ∷ []) = k.got_none ∙ sym k.none_came ∙ sym (end_note n x hb) in
    record { prefix = all_prefix got (before_end (n ++ x ∷ [])) all; whole = λ h. all; end_came = λ a b. end_here n x he; lost_fin = k.lost_fin }

heard_in-ok : (mine : Bool) (n : List Note) (p : Part) (s : Slot Tree) (x : Note) → p.slot ≡ s → (mine ≡ true → is_seen s ≡ true) → PartOk false n p → PartOk false (n ++ x ∷ []) (heard_in mine p s x)
heard_in-ok mine n p s Asked h q k = let z = ask_quiet n in same_notes false n (n ++ Asked ∷ []) p.slot p.got p.ended p.let_go p.lost z.0 z.1 k
heard_in-ok true n p Unseen Named h q k = absurd (let z = q refl in cc)
heard_in-ok true n p Unseen (Item v) h q k = absurd (let z = q refl in cc)
heard_in-ok true n p Unseen (Ends e) h q k = absurd (let z = q refl in cc)
heard_in-ok true n p Unseen Lasts h q k = absurd (let z = q refl in cc)
heard_in-ok false n p Unseen Named h q k = let z = name_quiet n in same_notes false n (n ++ Named ∷ []) (Here fresh_end) p.got p.ended p.let_go p.lost z.0 z.1 (opens false n p.got p.ended p.let_go p.lost (at_slot false n p Unseen h k))
heard_in-ok false n p Unseen (Item v) h q k = item_comes n [] None true false false p.got p.ended p.let_go p.lost v (opens false n p.got p.ended p.let_go p.lost (at_slot false n p Unseen h k))
heard_in-ok false n p Unseen (Ends e) h q k = gone_more false (n ++ Ends e ∷ []) p.got p.let_go p.lost (unseen_end n p.got p.ended p.let_go p.lost (Ends e) refl refl (at_slot false n p Unseen h k))
heard_in-ok false n p Unseen Lasts h q k = gone_more false (n ++ Lasts ∷ []) p.got p.let_go p.lost (unseen_end n p.got p.ended p.let_go p.lost Lasts refl refl (at_slot false n p Unseen h k))
heard_in-ok mine n p (Here s) Named h q k = let z = name_quiet n in same_notes false n (n ++ Named ∷ []) (Here s) p.got p.ended p.let_go p.lost z.0 z.1 (at_slot false n p (Here s) h k)
heard_in-ok mine n p (Here s) (Item v) h q k = item_comes n s.waiting s.marker s.sending s.callback s.given p.got p.ended p.let_go p.lost v (at_slot false n p (Here s) h k)
heard_in-ok mine n p (Here s) (Ends e) h q k = end_comes false n s.waiting s.marker false s.callback s.given p.got p.ended p.let_go p.lost (Ends e) (end_of e) (end_note n (Ends e) refl) (end_here n (Ends e) refl) (closes_well e) (at_slot false n p (Here s) h k)
heard_in-ok mine n p (Here s) Lasts h q k = end_comes false n s.waiting s.marker s.sending s.callback s.given p.got p.ended p.let_go p.lost Lasts LastMessage (end_note n Lasts refl) (end_here n Lasts refl) refl (at_slot false n p (Here s) h k)
heard_in-ok mine n p Gone Named h q k = let z = name_quiet n in same_notes false n (n ++ Named ∷ []) Gone p.got p.ended p.let_go p.lost z.0 z.1 (at_slot false n p Gone h k)
heard_in-ok mine n p Gone (Item v) h q k = gone_more false (n ++ Item v ∷ []) p.got p.let_go p.lost (gone_item n p.got p.let_go p.lost v (at_slot false n p Gone h k))
heard_in-ok mine n p Gone (Ends e) h q k = gone_more false (n ++ Ends e ∷ []) p.got p.let_go p.lost (gone_end n p.got p.let_go p.lost (Ends e) refl refl (at_slot false n p Gone h k))
heard_in-ok mine n p Gone Lasts h q k = gone_more false (n ++ Lasts ∷ []) p.got p.let_go p.lost (gone_end n p.got p.let_go p.lost Lasts refl refl (at_slot false n p Gone h k))

pub settled_seen : (s : EndState Tree) → is_seen (gone_where_done s) ≡ true
settled_seen s = by_done (is_done s)
  where
    by_done : (b : Bool) → is_seen (if b then Gone else Here s) ≡ true
    by_done true = refl
    by_done false = refl

pub seen_in : (mine : Bool) (p : Part) (s : Slot Tree) (x : Note) → p.slot ≡ s → is_seen s ≡ true → is_seen (heard_in mine p s x).slot ≡ true
seen_in mine p s Asked h q = ap is_seen h ∙ q
seen_in mine p Unseen Named h q = absurd (let z = q in cc)
seen_in mine p Unseen (Item v) h q = absurd (let z = q in cc)
seen_in mine p Unseen (Ends e) h q = absurd (let z = q in cc)
seen_in mine p Unseen Lasts h q = absurd (let z = q in cc)
seen_in mine p (Here s) Named h q = refl
seen_in mine p (Here s) (Item v) h q = refl
seen_in mine p (Here s) (Ends e) h q = settled_seen (after_peer_close s (end_of e))
seen_in mine p (Here s) Lasts h q = settled_seen (after_put s LastMessage)
seen_in mine p Gone Named h q = refl
seen_in mine p Gone (Item v) h q = refl
seen_in mine p Gone (Ends e) h q = refl
seen_in mine p Gone Lasts h q = refl

heards-ok : (mine : Bool) (n ns : List Note) (p : Part) → (mine ≡ true → is_seen p.slot ≡ true) → PartOk false n p → PartOk false (n ++ ns) (heard_all mine p ns)
heards-ok mine n [] p q k = subst (λ (x : List Note). PartOk false x p) (sym (append-nil n)) k
heards-ok mine n (x ∷ ns) p q k = subst (λ (y : List Note). PartOk false y (heard_all mine (heard mine p x) ns)) (append_assoc n (x ∷ []) ns)
    (heards-ok mine (n ++ x ∷ []) ns (heard mine p x) (λ h. seen_in mine p p.slot x refl (q h)) (heard_in-ok mine n p p.slot x refl q k))

-- all notes of a message, where a number of one's own that was never opened has none
pub heard_all-ok : (mine : Bool) (n ns : List Note) (p : Part) → (mine ≡ true → is_seen p.slot ≡ false → ns ≡ []) → PartOk false n p → PartOk false (n ++ ns) (heard_all mine p ns)
heard_all-ok mine n [] p q k = subst (λ (x : List Note). PartOk false x p) (sym (append-nil n)) k
heard_all-ok mine n (x ∷ ns) p q k = heards-ok mine n (x ∷ ns) p (λ h. open_or_ended (is_seen p.slot) (is_seen p.slot ≡ true) (λ z. z) (λ z. let y = q h z in cc)) k
