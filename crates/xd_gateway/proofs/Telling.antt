-- Channel 1 can be sent on until the news say that the worker has ended.
use Rattle.std.proofs.Common.{◌≡◌, ℕ, List, [], ◌∷◌, Bool, true, false, Option, Some, None, refl, sym, ap, subst, ◌∙◌}
use Rattle.std.specs.Prelude.{◌==◌, ◌||◌, ◌%◌, is_some, option_to_list, if◌then◌else◌}
use Rattle.std.proofs.lemmas.Bool.{eqb-true, eq-eqb}
use Rattle.std.proofs.lemmas.List.Folds.{list_any-append}
use Rattle.xd_value.specs.Tree.{Tree}
use Rattle.xd_channel.specs.State.{end_of}
use Rattle.xd_channel.specs.declared.end.End.{End}
use Rattle.xd_channel.specs.declared.end.End.TheVariants as end
use Rattle.xd_factory.specs.declared.taken.Taken.TheVariants as taken
use Rattle.xd_factory.specs.Numbers.{is_in, is_mine}
use Rattle.xd_factory.specs.Said.{Said as Word, Status, Exec, Data, Close, Last, Terminate, names_of}
use Rattle.xd_factory.specs.Slot.{Slot, Unseen, Here, Gone, hooked_slot, is_new}
use Rattle.xd_factory.specs.Table.{end_answer, ended_answer, named_in, send_refusal, told_slot}
use Rattle.xd_factory.specs.SideTable.{ChannelTable, answer, changed_at, heard_of_message}
use Rattle.xd_factory.specs.View.{fault_of, slot_of_number}
use Rattle.xd_journal.specs.declared.news.What.{What}
use Rattle.xd_journal.specs.declared.news.What.TheVariants as what
use Rattle.xd_gateway.specs.declared.gateway.Gateway.{Gateway}
use Rattle.xd_gateway.specs.News.{CameAs, Ear, Heard, Refused, Said, all_news, came_news, close_of, ear_after, ear_with, is_finish, log_hooked, news_by}
use Rattle.xd_gateway.specs.Stands.{StandsForHeard}
use Rattle.xd_gateway.specs.Told.{has_last, is_last}
use Rattle.xd_gateway.specs.View.{side_of}

abbrev IsOpen : Slot Tree → Type 0
IsOpen Unseen = ⊥
IsOpen (Here s) = (s.marker ≡ None) × (s.sending ≡ true) × (s.callback ≡ true)
IsOpen Gone = ⊥

record Listening (e : Ear) : Type 0 where
  pub slot : IsOpen (e.table.slot 1)
  pub good : e.failed ≡ false
  pub unfinished : e.finished ≡ false

abbrev last_in : Option What → Bool
last_in news = has_last (option_to_list news)

-- ---- what the news leave

not_finish : (news : Option What) → last_in news ≡ false → is_finish news ≡ false
not_finish None h = refl
not_finish (Some what.Ready) h = refl
not_finish (Some (what.Collected ids)) h = refl
not_finish (Some (what.LogStart n log)) h = refl
not_finish (Some (what.Piece log b)) h = refl
not_finish (Some (what.LogClosed log)) h = refl
not_finish (Some (what.Done n outcome ms)) h = refl
not_finish (Some (what.Back ns)) h = refl
not_finish (Some what.Finished) h = absurd (let z : true ≡ false = h in cc)
not_finish (Some (what.Closed text)) h = refl
not_finish (Some what.Stray) h = refl
not_finish (Some (what.Gone cause)) h = refl
not_finish (Some what.NotStarted) h = refl

one_is_odd : (log : ℕ) → log % 2 == 0 ≡ true → (log == 1) ≡ false
one_is_odd log h = by_test (log == 1) refl
  where
    by_test : (b : Bool) → (log == 1) ≡ b → (log == 1) ≡ false
    by_test false k = k
    by_test true k = let q : log ≡ 1 = eqb-true log 1 k in absurd (let z : (1 % 2 == 0) ≡ true = subst (λ (x : ℕ). (x % 2 == 0) ≡ true) q h in cc)

hooked_at : (b : Bool) (t : ChannelTable) (log : ℕ) → (b ≡ true → (log == 1) ≡ false) → (if b then changed_at log hooked_slot t else t).slot 1 ≡ t.slot 1
hooked_at true t log h = rw (h refl) refl
hooked_at false t log h = refl

hooked_keeps : (news : Option What) (t : ChannelTable) → (log_hooked news t).slot 1 ≡ t.slot 1
hooked_keeps None t = refl
hooked_keeps (Some what.Ready) t = refl
hooked_keeps (Some (what.Collected ids)) t = refl
hooked_keeps (Some (what.LogStart n log)) t = hooked_at (log % 2 == 0) t log (one_is_odd log)
hooked_keeps (Some (what.Piece log b)) t = refl
hooked_keeps (Some (what.LogClosed log)) t = refl
hooked_keeps (Some (what.Done n outcome ms)) t = refl
hooked_keeps (Some (what.Back ns)) t = refl
hooked_keeps (Some what.Finished) t = refl
hooked_keeps (Some (what.Closed text)) t = refl
hooked_keeps (Some what.Stray) t = refl
hooked_keeps (Some (what.Gone cause)) t = refl
hooked_keeps (Some what.NotStarted) t = refl

-- ---- what a message leaves at channel 1

end_is_last : (e : End) → last_in (close_of false e) ≡ true
end_is_last end.Closed = refl
end_is_last (end.Error text) = refl
end_is_last end.LastMessage = refl
end_is_last end.Lost = refl

ended_is_last : (f callback : Bool) (marker : Option End) (n : ℕ) (e : End) → f ≡ false → n ≡ 1 → callback ≡ true → marker ≡ None
    → last_in (news_by f (ended_answer n callback (if is_some marker then None else (if callback then Some e else None)))) ≡ true
ended_is_last false true None n e f h g k = let q : (n == 1) ≡ true = eq-eqb n 1 h in rw q (end_is_last e)
ended_is_last false true (Some m) n e f h g k = absurd (let z = k in cc)
ended_is_last false false m n e f h g k = absurd (let z = g in cc)
ended_is_last true c m n e f h g k = absurd (let z = f in cc)

answer_is_last : (f : Bool) (s : Slot Tree) (n : ℕ) (e : End) → f ≡ false → n ≡ 1 → IsOpen s → last_in (news_by f (end_answer n s e)) ≡ true
answer_is_last f Unseen n e h k o = absurd o
answer_is_last f (Here s) n e h k o = ended_is_last f s.callback s.marker n e h k o.2 o.0
answer_is_last f Gone n e h k o = absurd o

exec_is_last : (f b : Bool) (n : ℕ) (v : Tree) → last_in (news_by f (if b then taken.Exec n v else taken.Dropped)) ≡ true
exec_is_last f true n v = refl
exec_is_last f false n v = refl

named_open : (mine b : Bool) (s : Slot Tree) → IsOpen s → IsOpen (named_in mine b s)
named_open mine b Unseen o = absurd o
named_open mine true (Here s) o = o
named_open mine false (Here s) o = o
named_open mine b Gone o = absurd o

item_open : (mine c : Bool) (n : ℕ) (v : Tree) (s : Slot Tree) → (n == 1) ≡ c → IsOpen s → IsOpen (told_slot mine 1 (Data n v) s)
item_open mine c n v Unseen h o = absurd o
item_open mine true n v (Here s) h o = rw h o
item_open mine false n v (Here s) h o = rw h o
item_open mine c n v Gone h o = absurd o

close_open : (mine : Bool) (n : ℕ) (t : Option (List ℕ)) (s : Slot Tree) → (n == 1) ≡ false → IsOpen s → IsOpen (told_slot mine 1 (Close n t) s)
close_open mine n t s h o = rw h o

last_open : (mine : Bool) (n : ℕ) (s : Slot Tree) → (n == 1) ≡ false → IsOpen s → IsOpen (told_slot mine 1 (Last n) s)
last_open mine n s h o = rw h o

-- an end of another channel, or news that the worker has ended
other_end : (f : Bool) (slot : ℕ → Slot Tree) (n : ℕ) (e : End) → f ≡ false → IsOpen (slot 1) → last_in (news_by f (end_answer n (slot n) e)) ≡ false → (n == 1) ≡ false
other_end f slot n e h o k = by_test (n == 1) refl
  where
    by_test : (b : Bool) → (n == 1) ≡ b → (n == 1) ≡ false
    by_test false q = q
    by_test true q =
        let p : n ≡ 1 = eqb-true n 1 q in
        absurd (let z : true ≡ false = sym (answer_is_last f (slot n) n e h p (subst (λ (x : ℕ). IsOpen (slot x)) (sym p) o)) ∙ k in cc)

heard_open : (f : Bool) (t : ChannelTable) (said : Word) → f ≡ false → IsOpen (t.slot 1) → last_in (news_by f (answer said t)) ≡ false → IsOpen ((heard_of_message said t).slot 1)
heard_open f t (Status n) h o k = absurd (let z : true ≡ false = k in cc)
heard_open f t (Exec n v) h o k = absurd (let z : true ≡ false = sym (exec_is_last f (is_new (is_mine t.parity n) (t.slot n)) n v) ∙ k in cc)
heard_open f t (Data n v) h o k = item_open (is_mine t.parity 1) (n == 1) n v (named_in (is_mine t.parity 1) (is_in 1 (names_of (Data n v))) (t.slot 1)) refl (named_open (is_mine t.parity 1) (is_in 1 (names_of (Data n v))) (t.slot 1) o)
heard_open f t (Close n e) h o k = close_open (is_mine t.parity 1) n e (t.slot 1) (other_end f t.slot n (end_of e) h o k) o
heard_open f t (Last n) h o k = last_open (is_mine t.parity 1) n (t.slot 1) (other_end f t.slot n end.LastMessage h o k) o
heard_open f t Terminate h o k = absurd (let z : true ≡ false = k in cc)

-- ---- one message, and all

or_both : (a b : Bool) → a || b ≡ false → (a ≡ false) × (b ≡ false)
or_both true b h = absurd (let z = h in cc)
or_both false b h = (refl, h)

or_false : (a b : Bool) → a ≡ false → b ≡ false → a || b ≡ false
or_false true b h k = h
or_false false b h k = k

step : (e : Ear) (came : CameAs) → Listening e → last_in (came_news e came) ≡ false → Listening (ear_with e came)
step e Refused l h = absurd (let z : true ≡ false = h in cc)
step e (Said said) l h =
    record {
      slot = subst IsOpen (sym (hooked_keeps (came_news e (Said said)) (heard_of_message said e.table))) (heard_open e.finished e.table said l.unfinished l.slot h);
      good = refl;
      unfinished = or_false e.finished (is_finish (came_news e (Said said))) l.unfinished (not_finish (came_news e (Said said)) h);
    }

listens : (h : List Heard) → has_last (all_news h) ≡ false → Listening (ear_after h)
listens [] k = record { slot = (refl, refl, refl); good = refl; unfinished = refl }
listens (g ∷ h) k =
    let b = or_both (has_last (all_news h)) (last_in (came_news (ear_after h) g.came)) (sym (list_any-append is_last (all_news h) (option_to_list (came_news (ear_after h) g.came))) ∙ k) in
    step (ear_after h) g.came (listens h b.0) b.1

can_send : (s : Slot Tree) → IsOpen s → send_refusal s ≡ None
can_send Unseen o = absurd o
can_send (Here s) o = let q : s.sending ≡ true = o.1 in rw q refl
can_send Gone o = absurd o

module _ {K : Type 0} where
  pub can_be_told : (g : Gateway K) (h : List Heard) → StandsForHeard g h → has_last (all_news h) ≡ false → send_refusal (slot_of_number (side_of g) 1) ≡ None
  can_be_told g h s k =
      let l = listens h k in
      let good : fault_of (side_of g) ≡ None = none_of (fault_of (side_of g)) (s.failed ∙ l.good) in
      let e : slot_of_number (side_of g) 1 ≡ (ear_after h).table.slot 1 = ap (λ (t : ChannelTable). t.slot 1) (s.channels good) in
      ap send_refusal e ∙ can_send ((ear_after h).table.slot 1) l.slot
    where
      none_of : {X : Type 0} (o : Option X) → is_some o ≡ false → o ≡ None
      none_of None q = refl
      none_of (Some x) q = absurd (let z = q in cc)
