-- Messages that are written one after another.
use Rattle.std.proofs.Common.{◌≡◌, ℕ, ◌+◌, ◌<◌, List, [], ◌∷◌, ◌++◌, take, drop, length, get_or, Bool, true, false, not, Option, Result, Ok, Err, sym, ap, ◌∙◌, subst, arith, append_assoc}
use Rattle.std.specs.Prelude.{OnErr, OnOk, is_err}
use Rattle.std.proofs.lemmas.Grind.{common_steps}
use Rattle.std.proofs.lemmas.List.Concat.{flat_map-append}
use Rattle.std.proofs.lemmas.List.{append-nil, take_more}
use Rattle.xd_edge.specs.Sink.{Sunk, Printed, Took, TookPart}
use Rattle.xd_edge.proofs.SinkLemmas.{part_of_more, printed_part, took_more, took_then_part}
use Rattle.xd_frame.specs.Message.{MessageView, frame, frames, header}
use Rattle.xd_frame.specs.Writing.{Writes, WritesMore}

pub header_part : (h : List ℕ) (m : MessageView) (old new : Option Sunk) → h ≡ header m → TookPart h old new → TookPart (frame m) old new
header_part h m old new e p = part_of_more (header m) m.payload old new (subst (λ (l : List ℕ). TookPart l old new) e p)

pub payload_part : (h p : List ℕ) (m : MessageView) (old mid new : Option Sunk) → h ≡ header m → p ≡ m.payload → Took h old mid → TookPart p mid new → TookPart (frame m) old new
payload_part h p m old mid new e f t part = took_then_part (header m) m.payload old mid new (subst (λ (l : List ℕ). Took l old mid) e t) (subst (λ (l : List ℕ). TookPart l mid new) f part)

-- one message more
pub frames_next : (a : List MessageView) (m : MessageView) (b : List MessageView) (old mid new : Option Sunk) → b ≡ a ++ m ∷ [] → Took (frames a) old mid → Took (frame m) mid new → Took (frames b) old new
frames_next a m b old mid new e t f =
    subst (λ (l : List ℕ). Took l old new) (sym (ap frames e ∙ (flat_map-append frame a (m ∷ []) ∙ ap (λ (l : List ℕ). frames a ++ l) (append-nil (frame m))))) (took_more (frames a) (frame m) old mid new t f)

-- a part of the next message
pub frames_part : (a : List MessageView) (m : MessageView) (rest all : List MessageView) (old mid new : Option Sunk) → all ≡ a ++ m ∷ rest → Took (frames a) old mid → TookPart (frame m) mid new → TookPart (frames all) old new
frames_part a m rest all old mid new e t f =
    subst (λ (l : List ℕ). TookPart l old new) (sym (ap frames e ∙ flat_map-append frame a (m ∷ rest)))
    (took_then_part (frames a) (frames (m ∷ rest)) old mid new t (part_of_more (frame m) (frames rest) mid new f))

pub parted : (l : List MessageView) (i : ℕ) (m : MessageView) → i < length l → m ≡ get_or l i m → l ≡ take i l ++ m ∷ drop (i + 1) l
parted l i m lt is = sym (halves l (i + 1)) ∙ (ap (λ (a : List MessageView). a ++ drop (i + 1) l) (take_more l i m lt ∙ ap (λ (x : MessageView). take i l ++ x ∷ []) (sym is)) ∙ append_assoc (take i l) (m ∷ []) (drop (i + 1) l))
  where
    halves : (l : List MessageView) (n : ℕ) → take n l ++ drop n l ≡ l
    halves l n = grind (arith, common_steps)

-- one print, where the sink failed or did not
pub one_print : {T E : Type 0} (r : Result T E) (broken : Bool) (bytes : List ℕ) (old new : Option Sunk) → broken ≡ is_err r → OnOk r (Printed bytes old new) → OnErr r (TookPart bytes old new) → Writes (not broken) bytes old new
one_print (Ok x) broken bytes old new is ok part = subst (λ (b : Bool). Writes (not b) bytes old new) (sym is) ok
one_print (Err e) broken bytes old new is ok part = subst (λ (b : Bool). Writes (not b) bytes old new) (sym is) (printed_part bytes old new part)

-- a print after others, none of which failed
pub next_print : {T E : Type 0} (r : Result T E) (before broken : Bool) (bytes : List ℕ) (old new : Option Sunk) → before ≡ false → broken ≡ is_err r → OnOk r (Printed bytes old new) → OnErr r (TookPart bytes old new) → WritesMore before broken bytes old new
next_print r false broken bytes old new unbroken is ok part = one_print r broken bytes old new is ok part
next_print r true broken bytes old new unbroken is ok part = cc
