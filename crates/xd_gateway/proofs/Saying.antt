-- What a call that says something answers, step by step.
use Rattle.std.proofs.Common.{◌≡◌, ℕ, List, [], Bool, true, false, Option, None, Result, Ok, Err, refl, sym, ap, subst, ◌∙◌}
use Rattle.std.specs.Prelude.{is_some}
use Rattle.xd_value.specs.declared.writing.DumpFault.{DumpFault}
use Rattle.xd_frame.specs.Message.{MessageView, frame}
use Rattle.xd_factory.specs.declared.faults.OpenFault.{OpenFault}
use Rattle.xd_factory.specs.declared.faults.SendFault.TheVariants as send_fault
use Rattle.xd_factory.specs.declared.side.Side.{Side}
use Rattle.xd_factory.specs.SideTable.{ChannelTable, channel_table}
use Rattle.xd_factory.specs.View.{fault_of, next_of}
use Rattle.xd_gateway.specs.declared.fault.GatewayFault.{GatewayFault}
use Rattle.xd_gateway.specs.declared.fault.GatewayFault.TheVariants.{SendFault, Channel, Opening, OutOfMemory}
use Rattle.xd_gateway.specs.declared.gateway.Gateway.{Gateway}
use Rattle.xd_gateway.specs.Calls.{IsPayloadOf, Wanted, exec_by, exec_message, exec_opened, open_refusal, opened_by, opening_wanted, status_message, status_wanted}
use Rattle.xd_gateway.specs.Line.{GatewaySink, PrintsBytes, Says, write_answer}
use Rattle.xd_gateway.specs.News.{Heard}
use Rattle.xd_gateway.specs.inner.Opening.{IsWanted, IsUnopened}
use Rattle.xd_gateway.specs.Stands.{IsBegun, IsNew, StandsForHeard}
use Rattle.xd_gateway.specs.View.{KeepsChannels, channels_of, has_finished, side_of}

-- ---- the write

written_ok : (b : Bool) (x : Unit {0}) → Ok x ≡ write_answer b → b ≡ false
written_ok true x h = absurd (let z = h in cc)
written_ok false x h = refl

written_err : (b : Bool) (f : GatewayFault) → Err f ≡ write_answer b → (f ≡ SendFault) × (b ≡ true)
written_err true f h = (let z = h in cc, refl)
written_err false f h = absurd (let z = h in cc)

pub said : {T : Type 0} (x : T) (wanted : Wanted) (a b : GatewaySink) (m : MessageView) (u : Unit {0}) → wanted ≡ Ok m → Ok u ≡ write_answer b.broken → PrintsBytes (frame m) a b → Says wanted a b (Ok x)
said x wanted a b m u e w p = (m, e, written_ok b.broken u w, p)

cut_short : (T : Type 0) (wanted : Wanted) (a b : GatewaySink) (m : MessageView) (f : GatewayFault) → wanted ≡ Ok m → f ≡ SendFault → b.broken ≡ true → PrintsBytes (frame m) a b → Says {T = T} wanted a b (Err f)
cut_short T wanted a b m f e g k p = subst (λ (x : GatewayFault). Says {T = T} wanted a b (Err x)) (sym g) (m, e, k, p)

pub cut : (T : Type 0) (wanted : Wanted) (a b : GatewaySink) (m : MessageView) (f : GatewayFault) → wanted ≡ Ok m → Err f ≡ write_answer b.broken → PrintsBytes (frame m) a b → Says {T = T} wanted a b (Err f)
cut T wanted a b m f e w p = let k = written_err b.broken f w in cut_short T wanted a b m f e k.0 k.1 p

-- ---- a refusal

pub no_message : (T : Type 0) (wanted : Wanted) (a b : GatewaySink) (f : GatewayFault) → IsWanted wanted (Err f) → b ≡ a → Says {T = T} wanted a b (Err f)
no_message T wanted a b SendFault h e = absurd h
no_message T wanted a b (Channel f) h e = (h, e)
no_message T wanted a b (Opening f) h e = (h, e)
no_message T wanted a b OutOfMemory h e = e

pub no_channel : (T : Type 0) (o : Option OpenFault) (m : MessageView) (a b : GatewaySink) (f : GatewayFault) → IsUnopened o f → b ≡ a → Says {T = T} (opening_wanted o m) a b (Err f)
no_channel T o m a b SendFault h e = absurd h
no_channel T o m a b (Channel f) h e = absurd h
no_channel T o m a b (Opening f) h e = (ap (λ (x : Option OpenFault). opening_wanted x m) h, e)
no_channel T o m a b OutOfMemory h e = e

pub no_payload : (T : Type 0) (d : Result (List ℕ) DumpFault) (s : Side) (a b : GatewaySink) (f : GatewayFault) → IsPayloadOf d (Err f) → b ≡ a → Says {T = T} (exec_by d s) a b (Err f)
no_payload T d s a b SendFault h e = absurd h
no_payload T d s a b (Channel (send_fault.Dump f)) h e = (ap (λ (x : Result (List ℕ) DumpFault). exec_by x s) h, e)
no_payload T d s a b (Channel send_fault.Unknown) h e = absurd h
no_payload T d s a b (Channel send_fault.SendClosed) h e = absurd h
no_payload T d s a b (Channel send_fault.OutOfMemory) h e = absurd h
no_payload T d s a b (Opening f) h e = absurd h
no_payload T d s a b OutOfMemory h e = e

pub no_call_channel : (T : Type 0) (d : Result (List ℕ) DumpFault) (p : List ℕ) (s : Side) (a b : GatewaySink) (f : GatewayFault) → d ≡ Ok p → IsUnopened (open_refusal s) f → b ≡ a → Says {T = T} (exec_by d s) a b (Err f)
no_call_channel T d p s a b f q h e =
    subst (λ (x : Result (List ℕ) DumpFault). Says {T = T} (exec_by x s) a b (Err f)) (sym q) (no_channel T (open_refusal s) (exec_message (next_of s) p) a b f h e)

-- ---- what is said

pub call_wanted : (d : Result (List ℕ) DumpFault) (s : Side) (p : List ℕ) (n : ℕ) → d ≡ Ok p → open_refusal s ≡ None → n ≡ next_of s → exec_by d s ≡ Ok (exec_message n p)
call_wanted d s p n q k e =
    ap (λ (x : Result (List ℕ) DumpFault). exec_by x s) q
    ∙ (ap (λ (o : Option OpenFault). opening_wanted o (exec_message (next_of s) p)) k ∙ ap (λ (i : ℕ). Ok (exec_message i p)) (sym e))

pub asked_wanted : (s : Side) (n : ℕ) → open_refusal s ≡ None → n ≡ next_of s → status_wanted s ≡ Ok (status_message n)
asked_wanted s n k e = ap (λ (o : Option OpenFault). opening_wanted o (status_message (next_of s))) k ∙ ap (λ (i : ℕ). Ok (status_message i)) (sym e)

-- ---- the channels

pub cut_opens : (T : Type 0) (F : ChannelTable → ChannelTable) (t : ChannelTable) (b : Bool) (f : GatewayFault) → Err f ≡ write_answer b → opened_by {T = T} F (Err f) t ≡ F t
cut_opens T F t b f w = subst (λ (x : GatewayFault). opened_by {T = T} F (Err x) t ≡ F t) (sym (written_err b f w).0) refl

pub unopened : (T : Type 0) (F : ChannelTable → ChannelTable) (t : ChannelTable) (o : Option OpenFault) (f : GatewayFault) → IsUnopened o f → opened_by {T = T} F (Err f) t ≡ t
unopened T F t o SendFault h = absurd h
unopened T F t o (Channel f) h = refl
unopened T F t o (Opening f) h = refl
unopened T F t o OutOfMemory h = refl

pub unpaid : (T : Type 0) (F : ChannelTable → ChannelTable) (t : ChannelTable) (d : Result (List ℕ) DumpFault) (f : GatewayFault) → IsPayloadOf d (Err f) → opened_by {T = T} F (Err f) t ≡ t
unpaid T F t d SendFault h = absurd h
unpaid T F t d (Channel f) h = refl
unpaid T F t d (Opening f) h = refl
unpaid T F t d OutOfMemory h = refl

-- ---- a list of messages

module _ {K : Type 0} where
  pub kept_stands : (old new : Gateway K) (h : List Heard) → KeepsChannels old new → StandsForHeard old h → StandsForHeard new h
  kept_stands old new h k s =
      record {
        are = s.are;
        failed = ap (λ (x : Side). is_some (fault_of x)) k.side ∙ s.failed;
        channels = λ z. ap channel_table k.side ∙ s.channels (ap fault_of (sym k.side) ∙ z);
        finished = k.finished ∙ s.finished;
      }

  begun : (old new : Gateway K) → IsNew old → channels_of new ≡ exec_opened (channels_of old) → has_finished new ≡ has_finished old → StandsForHeard new []
  begun old new n c e =
      let q : channels_of new ≡ exec_opened (channels_of old) = c in
      let none : fault_of (side_of new) ≡ None = ap (λ (t : ChannelTable). t.fault) c ∙ ap (λ (t : ChannelTable). t.fault) n.channels in
      record { are = tt; failed = ap is_some none; channels = λ z. c ∙ ap exec_opened n.channels; finished = e ∙ n.unfinished }

  pub first_stands : {T : Type 0} (r : Result T GatewayFault) (old new : Gateway K) → IsNew old → IsBegun r → channels_of new ≡ opened_by exec_opened r (channels_of old) → has_finished new ≡ has_finished old → StandsForHeard new []
  first_stands (Ok x) old new n b c e = begun old new n c e
  first_stands (Err SendFault) old new n b c e = begun old new n c e
  first_stands (Err (Channel f)) old new n b c e = absurd b
  first_stands (Err (Opening f)) old new n b c e = absurd b
  first_stands (Err OutOfMemory) old new n b c e = absurd b
