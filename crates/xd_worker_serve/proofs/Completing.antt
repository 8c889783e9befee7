-- What all the bytes of a link say of how it was served.
use Rattle.std.proofs.Common.{◌≡◌, ℕ, List, [], ◌∷◌, ◌++◌, length, take, drop, Bool, true, false, ◌&&◌, Option, Some, None, Result, Ok, Err, refl, ap, sym, ◌∙◌, subst, arith, append_assoc, inl, inr}
use Rattle.std.specs.Prelude.{◌⊎◌, ◌≢◌, IfSome}
use Rattle.std.proofs.lemmas.Grind.{common_steps}
use Rattle.std.proofs.lemmas.List.{append-nil}
use Rattle.xd_edge.specs.Faults.{Rose, StoodStill}
use Rattle.xd_edge.specs.Files.{Held}
use Rattle.xd_factory.specs.declared.faults.SideFault.{SideFault}
use Rattle.xd_frame.specs.declared.header.Header.{Header}
use Rattle.xd_frame.specs.declared.fault.FrameFault.{FrameFault}
use Rattle.xd_frame.specs.Message.{MessageView}
use Rattle.xd_frame.specs.Stream.{header_in_front, messages, left_over, rest, rest_of, rest_by, Clean, Refused}
use Rattle.xd_frame.proofs.Front.{err_front-append}
use Rattle.xd_frame.proofs.Framers.{front_says}
use Rattle.xd_frame.proofs.Streams.{following-append, messages-append}
use Rattle.xd_frame.specs.Writing.{CountAfter}
use Rattle.xd_link.specs.Source.{Gave, Supply}
use Rattle.xd_worker.specs.History.{HeardInput}
use Rattle.xd_worker_serve.specs.declared.stop.Stop.{Stop}
use Rattle.xd_worker_serve.specs.declared.stop.Stop.TheVariants as stop
use Rattle.xd_worker.specs.Inputs.{has_terminate, messages_in}
use Rattle.xd_link.specs.Spring.{Spring}
use Rattle.xd_worker_serve.specs.Ends.{Ends, RunsPrograms, Scene, Served, voice_of}
use Rattle.xd_worker_serve.specs.inner.Halts.{is_sink_whole, worker_status_of}
use Rattle.xd_worker_serve.specs.Spoke.{Spoke, voice}
use Rattle.xd_worker_serve.specs.Took.{TookAll, TookToRefused}
use Rattle.xd_worker_serve.specs.Programs.{AreLeft}
use Rattle.xd_worker_serve.specs.Complete.{AreGood, AreStill, GoesWrong, IsCalm, IsWrong, ServedToEnd}

-- ---- more bytes

err_by : (r : Result (Option Header) FrameFault) (fault : FrameFault) → rest_by r ≡ Refused fault → r ≡ Err fault
err_by (Ok h) fault e = cc
err_by (Err g) fault e = cc

refused_front : (a : List ℕ) (fault : FrameFault) → rest_of a ≡ Refused fault → header_in_front a ≡ Err fault
refused_front [] fault e = cc
refused_front (b ∷ a) fault e = err_by (header_in_front (b ∷ a)) fault e

-- after a header that is refused more bytes change nothing
pub refused_more : (a b : List ℕ) (fault : FrameFault) → rest a ≡ Refused fault → (messages (a ++ b) ≡ messages a) × (rest (a ++ b) ≡ Refused fault)
refused_more a b fault e =
    let says = front_says (left_over a ++ b) (Err fault) (err_front-append (left_over a) b fault (refused_front (left_over a) fault e)) in
    (messages-append a b ∙ (ap (λ (l : List MessageView). messages a ++ l) says.0 ∙ append-nil (messages a)), ap rest_of (following-append a b) ∙ says.2)

-- a message that is refused is so with more bytes after it
pub to_refused_more : (a b : List ℕ) (taken : List MessageView) (h : List HeardInput) (fault : SideFault) → TookToRefused (messages a) taken h fault → TookToRefused (messages (a ++ b)) taken h fault
to_refused_more a b taken h fault t =
    let more = messages (left_over a ++ b) in
    record {
      refused = t.refused;
      later = t.later ++ more;
      all_are = messages-append a b ∙ (ap (λ (l : List MessageView). l ++ more) t.all_are ∙ append_assoc taken (t.refused ∷ t.later) more);
      none_is = t.none_is;
      why = t.why;
    }

-- ---- the bytes that a link has

halves : (n : ℕ) (l : List ℕ) → take n l ++ drop n l ≡ l
halves n l = grind (arith, common_steps)

pub left_before : (bytes : List ℕ) (s : Supply) (new : Option Supply) → Gave bytes (Some s) new → s.left ≡ bytes ++ drop (length bytes) s.left
left_before bytes s new g = sym (halves (length bytes) s.left) ∙ ap (λ (l : List ℕ). l ++ drop (length bytes) s.left) g.1

-- a source that was read to its end has given all of them
pub all_given : (bytes : List ℕ) (s : Supply) (new : Option Supply) → Gave bytes (Some s) new → IfSome new (λ t. t.left ≡ []) → s.left ≡ bytes
all_given bytes s new g none =
    let e : drop (length bytes) s.left ≡ [] = subst (λ (o : Option Supply). IfSome o (λ t. t.left ≡ [])) g.0 none in
    left_before bytes s new g ∙ (ap (λ (l : List ℕ). bytes ++ l) e ∙ append-nil bytes)

none_last : (bytes : List ℕ) (all taken : List MessageView) → all ≡ messages bytes → TookAll (messages bytes) taken → has_terminate all ≡ false
none_last bytes all taken e t = ap has_terminate (e ∙ sym t.all_are) ∙ t.none_is

-- the sink took all, and was closed
pub both : (x y : Bool) → (x && y) ≡ true → (x ≡ true) × (y ≡ true)
both true y e = (refl, e)
both false y e = cc

module _ (held : Option Held) (s0 s1 : Spring) (old new : Scene) where
  -- a link ends well, or something is wrong
  ends_by : (why : Stop) → Ends why held s0 s1 old new → (s : Supply) → s0.supply ≡ Some s → (worker_status_of why ≡ 0) ⊎ IsWrong why held s.left s0.faults s1.faults old new
  ends_by why e s is = by why e
    where
      gives : (w : Stop) → (x : Ends w held s0 s1 old new) → Gave x.bytes (Some s) s1.supply
      gives w x = subst (λ (o : Option Supply). Gave x.bytes o s1.supply) is x.gave

      by : (w : Stop) → Ends w held s0 s1 old new → (worker_status_of w ≡ 0) ⊎ IsWrong w held s.left s0.faults s1.faults old new
      by stop.NotRun x = inr x.cause.2
      by stop.Terminated x = inl refl
      by stop.Ended x = inl refl
      by stop.Cut x =
          let all : s.left ≡ x.bytes = all_given x.bytes s s1.supply (gives stop.Cut x) x.cause.1.none_left in
          inr (ap rest all ∙ x.cause.2, none_last x.bytes (messages s.left) (messages_in x.inputs) (ap messages all) x.cause.0)
      by (stop.Header fault) x =
          let all = left_before x.bytes s s1.supply (gives (stop.Header fault) x) in
          let more = refused_more x.bytes (drop (length x.bytes) s.left) fault x.cause.1 in
          inr (ap rest all ∙ more.1, none_last x.bytes (messages s.left) (messages_in x.inputs) (ap messages all ∙ more.0) x.cause.0)
      by (stop.Message fault) x =
          let all = left_before x.bytes s s1.supply (gives (stop.Message fault) x) in
          let w = both x.wrote x.closed x.whole in
          inr (record {
            inputs = x.inputs;
            history = x.history;
            unheard = x.unheard;
            sunk = x.sunk;
            spoke = subst (λ (n : ℕ). Spoke held x.inputs x.history true (voice_of old) (voice x.sunk n new.file_faults)) (sym (x.closes.still w.1))
                (subst (λ (b : Bool). Spoke held x.inputs x.history b (voice_of old) (voice x.sunk x.sink_faults new.file_faults)) w.0 x.spoke);
            shut = x.closes.shut w.1;
            programs = subst (λ (l : List (List (List ℕ))). RunsPrograms x.inputs x.history l x.unheard old new) (subst (λ (b : Bool). AreLeft b x.left x.history) w.0 x.left_is) x.programs;
            no_end = x.cause.1;
            refused = subst (λ (l : List ℕ). TookToRefused (messages l) (messages_in x.inputs) x.history fault) (sym all) (to_refused_more x.bytes (drop (length x.bytes) s.left) (messages_in x.inputs) x.history fault x.cause.0);
          })
      by stop.ReadFault x = inr x.cause.1
      by stop.WriteFault x = inr x.cause

  pub goes_wrong : (status : ℕ) → Served status held s0 s1 old new → status ≢ 0 → IfSome s0.supply (λ s. GoesWrong held s.left s0.faults s1.faults old new)
  goes_wrong status v not_zero = go s0.supply refl
    where
      pick : (s : Supply) → (worker_status_of v.0 ≡ 0) ⊎ IsWrong v.0 held s.left s0.faults s1.faults old new → GoesWrong held s.left s0.faults s1.faults old new
      pick s (inl e) = absurd (not_zero (v.1 ∙ e))
      pick s (inr w) = (v.0, w)

      go : (o : Option Supply) → s0.supply ≡ o → IfSome o (λ s. GoesWrong held s.left s0.faults s1.faults old new)
      go None is = tt
      go (Some s) is = pick s (ends_by v.0 v.2 s is)

  none_rose : (before now : ℕ) → StoodStill before now → Rose before now → ⊥
  none_rose before now still rose = let e = still.0 in let r = rose still.1 in absurd (omega (arith, e, r))

  not_wrong : (why : Stop) (bytes : List ℕ) → AreGood held bytes old new → StoodStill s0.faults s1.faults → AreStill old new → IsWrong why held bytes s0.faults s1.faults old new → ⊥
  not_wrong stop.NotRun bytes good source still w = by w
    where
      by : Rose old.reader_refusals new.reader_refusals ⊎ Rose old.runner_refusals new.runner_refusals → ⊥
      by (inl r) = none_rose old.reader_refusals new.reader_refusals still.readers r
      by (inr r) = none_rose old.runner_refusals new.runner_refusals still.runners r
  not_wrong stop.Terminated bytes good source still w = w
  not_wrong stop.Ended bytes good source still w = w
  not_wrong stop.Cut bytes good source still w = edge good.edge
    where
      edge : (rest bytes ≡ Clean) ⊎ (has_terminate (messages bytes) ≡ true) → ⊥
      edge (inl e) = let x = sym w.0 ∙ e in cc
      edge (inr e) = let x = sym w.1 ∙ e in cc
  not_wrong (stop.Header fault) bytes good source still w = edge good.edge
    where
      edge : (rest bytes ≡ Clean) ⊎ (has_terminate (messages bytes) ≡ true) → ⊥
      edge (inl e) = let x = sym w.0 ∙ e in cc
      edge (inr e) = let x = sym w.1 ∙ e in cc
  not_wrong (stop.Message fault) bytes good source still w = good.accepted fault w
  not_wrong stop.ReadFault bytes good source still w = none_rose s0.faults s1.faults source w
  not_wrong stop.WriteFault bytes good source still w = none_rose old.sink_faults new.sink_faults still.sink w

  pub complete : (status : ℕ) → Served status held s0 s1 old new → IfSome s0.supply (λ s. AreGood held s.left old new → StoodStill s0.faults s1.faults → AreStill old new → status ≡ 0)
  complete status v = go s0.supply refl
    where
      pick : (s : Supply) → AreGood held s.left old new → StoodStill s0.faults s1.faults → AreStill old new → (worker_status_of v.0 ≡ 0) ⊎ IsWrong v.0 held s.left s0.faults s1.faults old new → status ≡ 0
      pick s good source still (inl e) = v.1 ∙ e
      pick s good source still (inr w) = absurd (not_wrong v.0 s.left good source still w)

      go : (o : Option Supply) → s0.supply ≡ o → IfSome o (λ s. AreGood held s.left old new → StoodStill s0.faults s1.faults → AreStill old new → status ≡ 0)
      go None is = tt
      go (Some s) is = λ good source still. pick s good source still (ends_by v.0 v.2 s is)

  -- with status 0 no count of the link or of the crews rose
  pub calm : (status : ℕ) → Served status held s0 s1 old new → status ≡ 0 → IsCalm s0.faults s1.faults old new
  calm status v zero = by v.0 v.2 (sym v.1 ∙ zero)
    where
      whole_if : (why : Stop) → worker_status_of why ≡ 0 → is_sink_whole why ≡ true
      whole_if stop.NotRun z = cc
      whole_if stop.Terminated z = refl
      whole_if stop.Ended z = refl
      whole_if stop.Cut z = cc
      whole_if (stop.Header fault) z = cc
      whole_if (stop.Message fault) z = cc
      whole_if stop.ReadFault z = cc
      whole_if stop.WriteFault z = cc

      by : (why : Stop) → Ends why held s0 s1 old new → worker_status_of why ≡ 0 → IsCalm s0.faults s1.faults old new
      by why x z =
          let w = both x.wrote x.closed (x.whole ∙ whole_if why z) in
          let c = x.crews z in
          record {
            source = x.source_count.still z;
            sink = x.closes.still w.1 ∙ subst (λ (b : Bool). CountAfter b old.sink_faults x.sink_faults) w.0 x.spoke.sink_count;
            readers = c.0;
            runners = c.1;
          }

  -- what the status says follows from how the link was served
  pub to_end : (status : ℕ) → Served status held s0 s1 old new → ServedToEnd status held s0 s1 old new
  to_end status v = record { served = v; calm = calm status v; wrong = goes_wrong status v; complete = complete status v }
