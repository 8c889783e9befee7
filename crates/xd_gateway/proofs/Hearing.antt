-- A gateway that hears one message more.
use Rattle.std.proofs.Common.{◌≡◌, ℕ, List, Bool, true, false, Option, Some, None, Result, Ok, Err, refl, sym, ap, subst, ◌∙◌}
use Rattle.std.specs.Prelude.{◌==◌, ◌||◌, ◌%◌, is_some, IfOk, if◌then◌else◌}
use Rattle.xd_value.specs.Tree.{Tree}
use Rattle.xd_value.specs.declared.value.Value.{Value}
use Rattle.xd_frame.specs.Message.{MessageView}
use Rattle.xd_factory.specs.declared.taken.Taken.{Taken}
use Rattle.xd_factory.specs.declared.faults.SideFault.{SideFault}
use Rattle.xd_factory.specs.declared.faults.SideFault.TheVariants as fault
use Rattle.xd_factory.specs.Slot.{hooked_slot}
use Rattle.xd_factory.specs.Trees.{taken_tree}
use Rattle.xd_factory.specs.SideTable.{ChannelTable, RefusedBy, answer, changed_at, heard_of_message}
use Rattle.xd_factory.specs.View.{fault_of}
use Rattle.xd_journal.specs.declared.news.What.{What}
use Rattle.xd_journal.specs.declared.news.What.TheVariants as what
use Rattle.xd_gateway.specs.declared.gateway.Gateway.{Gateway}
use Rattle.xd_gateway.specs.News.{Heard, HasRoom, SideRefuses, Refused, Said, ear_after, is_finish, log_hooked, news_by}
use Rattle.xd_gateway.specs.Taking.{IsTaken, IsFaultOf, IsNamed}
use Rattle.xd_gateway.specs.Stands.{HearsMore, StandsForHeard}
use Rattle.xd_gateway.specs.View.{channels_of, has_finished, side_of}

-- ---- a callback leaves why messages are refused

hooked_fault_at : (b : Bool) (t : ChannelTable) (log : ℕ) → (if b then changed_at log hooked_slot t else t).fault ≡ t.fault
hooked_fault_at true t log = refl
hooked_fault_at false t log = refl

hooked_fault : (news : Option What) (t : ChannelTable) → (log_hooked news t).fault ≡ t.fault
hooked_fault None t = refl
hooked_fault (Some what.Ready) t = refl
hooked_fault (Some (what.Collected ids)) t = refl
hooked_fault (Some (what.LogStart n log)) t = hooked_fault_at (log % 2 == 0) t log
hooked_fault (Some (what.Piece log b)) t = refl
hooked_fault (Some (what.LogClosed log)) t = refl
hooked_fault (Some (what.Done n outcome ms)) t = refl
hooked_fault (Some (what.Back ns)) t = refl
hooked_fault (Some what.Finished) t = refl
hooked_fault (Some (what.Closed text)) t = refl
hooked_fault (Some what.Stray) t = refl
hooked_fault (Some (what.Gone cause)) t = refl
hooked_fault (Some what.NotStarted) t = refl

-- ---- a refusal

refused_for : (t : ChannelTable) (m : MessageView) (f : SideFault) → IsFaultOf t m f → IsNamed f → RefusedBy t.fault t m f
refused_for t m fault.OutOfMemory h n = absurd n
refused_for t m fault.Finished h n = h
refused_for t m fault.BadNumber h n = h
refused_for t m fault.Unsupported h n = h
refused_for t m (fault.BadPayload what) h n = h
refused_for t m fault.NotText h n = h
refused_for t m fault.TooManyOpen h n = h

none_of : (o : Option SideFault) → is_some o ≡ false → o ≡ None
none_of None q = refl
none_of (Some x) q = absurd (let z = q in cc)

refused_came : (t e : ChannelTable) (failed : Bool) (m : MessageView) (f : SideFault) → is_some t.fault ≡ failed → (t.fault ≡ None → t ≡ e) → RefusedBy t.fault t m f → SideRefuses failed e m
refused_came t e true m f s k r = tt
refused_came t e false m f s k r =
    let n : t.fault ≡ None = none_of t.fault s in
    let r' : RefusedBy None t m f = subst (λ (o : Option SideFault). RefusedBy o t m f) n r in
    (f, subst (λ (x : ChannelTable). RefusedBy None x m f) (k n) r')

module _ {K : Type 0} where
  pub hears_refused : (old new : Gateway K) (h : List Heard) (m : MessageView) (f : SideFault) → StandsForHeard old h → IsFaultOf (channels_of old) m f → IsNamed f → (channels_of new).fault ≡ Some f
      → has_finished new ≡ has_finished old → HearsMore new h m (Some what.Stray)
  hears_refused old new h m f s r n q e =
      let came : SideRefuses (ear_after h).failed (ear_after h).table m =
      refused_came (channels_of old) (ear_after h).table (ear_after h).failed m f s.failed s.channels (refused_for (channels_of old) m f r n) in
      record {
        came = Refused;
        is = came;
        news_are = refl;
        stands = record {
          are = (s.are, came);
          failed = ap is_some q;
          channels = λ z. absurd (let w : Some f ≡ None = sym q ∙ z in cc);
          finished = e ∙ s.finished;
        };
      }

  pub refusal_heard : {E : Type 0} (r : Result (Option What) E) (old new : Gateway K) (h : List Heard) (m : MessageView) (f : SideFault) → StandsForHeard old h → IsFaultOf (channels_of old) m f → (channels_of new).fault ≡ Some f
      → has_finished new ≡ has_finished old → IfOk r (λ news. (news ≡ Some what.Stray) × IsNamed f) → IfOk r (λ news. HearsMore new h m news)
  refusal_heard (Ok news) old new h m f s r q e k = subst (λ (w : Option What). HearsMore new h m w) (sym k.0) (hears_refused old new h m f s r k.1 q e)
  refusal_heard (Err x) old new h m f s r q e k = tt

  pub hears_taken : (old mid new : Gateway K) (h : List Heard) (m : MessageView) (taken : Taken Value) (news : Option What) → StandsForHeard old h → IsTaken m (channels_of old) (channels_of mid) taken
      → has_finished mid ≡ has_finished old → news ≡ news_by (has_finished mid) (taken_tree taken) → channels_of new ≡ log_hooked news (channels_of mid) → has_finished new ≡ (has_finished mid || is_finish news) → HearsMore new h m news
  hears_taken old mid new h m taken news s t f n c e =
      let finished : has_finished mid ≡ (ear_after h).finished = f ∙ s.finished in
      let here : channels_of old ≡ (ear_after h).table = s.channels t.good in
      let good : (ear_after h).failed ≡ false = sym s.failed ∙ ap is_some t.good in
      let news_are : news ≡ news_by (ear_after h).finished (answer t.said (ear_after h).table) =
      n ∙ (ap (λ (b : Bool). news_by b (taken_tree taken)) finished
      ∙ ap (λ (x : Taken Tree). news_by (ear_after h).finished x) (t.answer_is ∙ ap (answer t.said) here)) in
      let table : channels_of new ≡ log_hooked news (heard_of_message t.said (ear_after h).table) = c ∙ ap (log_hooked news) (t.table_is ∙ ap (heard_of_message t.said) here) in
      let fault_is : fault_of (side_of new) ≡ None =
      ap (λ (x : ChannelTable). x.fault) table ∙ (hooked_fault news (heard_of_message t.said (ear_after h).table) ∙ (ap (λ (x : ChannelTable). x.fault) (sym here) ∙ t.good)) in
      record {
        came = Said t.said;
        is = record { good = good; means = t.means; room = subst (λ (x : ChannelTable). HasRoom x t.said) here t.room };
        news_are = news_are;
        stands = record {
          are = (s.are, record { good = good; means = t.means; room = subst (λ (x : ChannelTable). HasRoom x t.said) here t.room });
          failed = ap is_some fault_is;
          channels = λ z. table ∙ ap (λ (w : Option What). log_hooked w (heard_of_message t.said (ear_after h).table)) news_are;
          finished = e ∙ (ap (λ (b : Bool). b || is_finish news) finished ∙ ap (λ (w : Option What). (ear_after h).finished || is_finish w) news_are);
        };
      }
