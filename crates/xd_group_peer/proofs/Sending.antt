-- What a sink took, one write after another.
use Rattle.std.proofs.Common.{◌≡◌, ℕ, zero, suc, ◌+◌, ◌≤◌, ◌<◌, List, [], ◌∷◌, ◌++◌, length, take, Bool, true, false, Option, Some, None, option_map, refl, sym, ◌∙◌, ap, subst, arith, length-append}
use Rattle.std.specs.Prelude.{IfSome}
use Rattle.std.proofs.Math.Seq.{take-append-add, take-length}
use Rattle.std.proofs.lemmas.List.{append-nil, take-append-le, length-take, length-take-le}
use Rattle.std.proofs.lemmas.Grind.{flat_map-append}
use Rattle.xd_edge.specs.Faults.{Rose}
use Rattle.xd_edge.specs.Sink.{Sunk, with_bytes, with_flush, with_close, Printed, PrintedPart}
use Rattle.xd_frame.specs.Message.{MessageView, frame, frames}
use Rattle.xd_frame.specs.Writing.{CountSince, WritesMore}
use Rattle.xd_gateway.specs.Line.{ClosedBy, ClosesMore}
use Rattle.xd_group_peer.specs.Sent.{HandedOn, SentAs}

open_frames : (ms : List MessageView) (m : MessageView) → frames (ms ++ m ∷ []) ≡ frames ms ++ frame m
open_frames ms m = flat_map-append frame ms (m ∷ []) ∙ ap (λ (l : List ℕ). frames ms ++ l) (append-nil (frame m))

over_zero : (f0 f1 : ℕ) → Rose f0 f1 → 0 < f1
over_zero f0 zero r = absurd (omega (arith, r (omega arith)))
over_zero f0 (suc n) r = omega arith

-- all is a first part
pub all_is_part : (sunk : Option Sunk) (ms : List MessageView) (closed : Bool) → IfSome sunk (λ s. s ≡ record { bytes = frames ms; flushed = length (frames ms); closed = closed }) → IfSome sunk (λ s. s.bytes ≡ take (length s.bytes) (frames ms))
all_is_part None ms closed e = tt
all_is_part (Some s) ms closed e = let is : s.bytes ≡ frames ms = ap (λ (t : Sunk). t.bytes) e in is ∙ (sym (take-length (frames ms)) ∙ ap (λ (l : List ℕ). take (length l) (frames ms)) (sym is))

-- and it was handed on
pub all_handed : (sunk : Option Sunk) (ms : List MessageView) (closed : Bool) → IfSome sunk (λ s. s ≡ record { bytes = frames ms; flushed = length (frames ms); closed = closed }) → IfSome sunk (HandedOn ms)
all_handed None ms closed e = tt
all_handed (Some s) ms closed e = record { bytes = ap (λ (t : Sunk). t.bytes) e; flushed = ap (λ (t : Sunk). t.flushed) e }

closed_handed : (s0 s1 : Option Sunk) (ms : List MessageView) → s1 ≡ option_map with_close s0 → IfSome s0 (HandedOn ms) → IfSome s1 (HandedOn ms)
closed_handed None s1 ms e h = subst (λ (o : Option Sunk). IfSome o (HandedOn ms)) (sym e) tt
closed_handed (Some s) s1 ms e h = subst (λ (o : Option Sunk). IfSome o (HandedOn ms)) (sym e) (record { bytes = h.bytes; flushed = h.flushed })

-- a close leaves it so
pub shut_handed : (b0 b1 : Bool) (s0 s1 : Option Sunk) (ms : List MessageView) → ClosedBy b0 b1 s0 s1 → IfSome s0 (HandedOn ms) → IfSome s1 (HandedOn ms)
shut_handed true b1 s0 s1 ms c h = subst (λ (o : Option Sunk). IfSome o (HandedOn ms)) (sym c.1) h
shut_handed false true s0 s1 ms c h = subst (λ (o : Option Sunk). IfSome o (HandedOn ms)) (sym c) h
shut_handed false false s0 s1 ms c h = closed_handed s0 s1 ms c h

-- with these bytes, handed on, the sink took all
whole_more : (s0 s1 : Option Sunk) (all more : List ℕ) (closed : Bool) → IfSome s0 (λ s. s ≡ record { bytes = all; flushed = length all; closed = closed }) → Printed more s0 s1
    → IfSome s1 (λ s. s ≡ record { bytes = all ++ more; flushed = length (all ++ more); closed = closed })
whole_more None s1 all more closed w p = subst (λ (o : Option Sunk). IfSome o (λ s. s ≡ record { bytes = all ++ more; flushed = length (all ++ more); closed = closed })) (sym p) tt
whole_more (Some s) s1 all more closed w p = subst (λ (o : Option Sunk). IfSome o (λ s. s ≡ record { bytes = all ++ more; flushed = length (all ++ more); closed = closed })) (sym p) (ap (λ (t : Sunk). with_flush (with_bytes more t)) w)

whole_closed : (s0 s1 : Option Sunk) (all more : List ℕ) (closed : Bool) → IfSome s0 (λ s. s ≡ record { bytes = all; flushed = length all; closed = closed }) → s1 ≡ option_map (λ s. with_close (with_flush (with_bytes more s))) s0
    → IfSome s1 (λ s. s ≡ record { bytes = all ++ more; flushed = length (all ++ more); closed = true })
whole_closed None s1 all more closed w p = subst (λ (o : Option Sunk). IfSome o (λ s. s ≡ record { bytes = all ++ more; flushed = length (all ++ more); closed = true })) (sym p) tt
whole_closed (Some s) s1 all more closed w p = subst (λ (o : Option Sunk). IfSome o (λ s. s ≡ record { bytes = all ++ more; flushed = length (all ++ more); closed = true })) (sym p) (ap (λ (t : Sunk). with_close (with_flush (with_bytes more t))) w)

-- a first part of some bytes is one of them with more after
part_longer : (l all more : List ℕ) → l ≡ take (length l) all → l ≡ take (length l) (all ++ more)
part_longer l all more e = e ∙ sym (take-append-le (length l) all more (short l all e))
  where
    short : (l all : List ℕ) → l ≡ take (length l) all → length l ≤ length all
    short l all e = omega (arith, length-take (length l) all, ap length e)

still_part : (s0 s1 : Option Sunk) (all more : List ℕ) → s1 ≡ s0 → IfSome s0 (λ s. s.bytes ≡ take (length s.bytes) all) → IfSome s1 (λ s. s.bytes ≡ take (length s.bytes) (all ++ more))
still_part None s1 all more e p = subst (λ (o : Option Sunk). IfSome o (λ s. s.bytes ≡ take (length s.bytes) (all ++ more))) (sym e) tt
still_part (Some s) s1 all more e p = subst (λ (o : Option Sunk). IfSome o (λ s. s.bytes ≡ take (length s.bytes) (all ++ more))) (sym e) (part_longer s.bytes all more p)

-- a first part of more bytes after all
first_part : (l all more : List ℕ) (n : ℕ) → n ≤ length more → l ≡ all ++ take n more → l ≡ take (length l) (all ++ more)
first_part l all more n h e =
    let size : length l ≡ length all + n = ap length e ∙ length-append all (take n more) ∙ ap (λ (k : ℕ). length all + k) (length-take-le n more h) in
    e ∙ sym (take-append-add all more n) ∙ ap (λ (k : ℕ). take k (all ++ more)) (sym size)

now_part : (s0 s1 : Option Sunk) (all more : List ℕ) (closed : Bool) → IfSome s0 (λ s. s ≡ record { bytes = all; flushed = length all; closed = closed }) → PrintedPart more s0 s1
    → IfSome s1 (λ s. s.bytes ≡ take (length s.bytes) (all ++ more))
now_part None s1 all more closed w p = subst (λ (o : Option Sunk). IfSome o (λ s. s.bytes ≡ take (length s.bytes) (all ++ more))) (sym p.2.1) tt
now_part (Some s) s1 all more closed w p =
    subst (λ (o : Option Sunk). IfSome o (λ s. s.bytes ≡ take (length s.bytes) (all ++ more))) (sym p.2.1)
    (first_part (s.bytes ++ take p.0 more) all more p.0 p.1 (ap (λ (t : Sunk). t.bytes ++ take p.0 more) w))

pub sent_more : (b0 b1 closed : Bool) (s0 s1 : Option Sunk) (f0 f1 : ℕ) (ms all : List MessageView) (m : MessageView) → all ≡ ms ++ m ∷ [] → SentAs b0 closed s0 f0 ms
    → WritesMore b0 b1 (frame m) s0 s1 → CountSince b0 b1 f0 f1 → f0 ≤ f1 → SentAs b1 closed s1 f1 all
sent_more true true closed s0 s1 f0 f1 ms all m is sent w c l =
    let bytes : frames all ≡ frames ms ++ frame m = ap frames is ∙ open_frames ms m in
    record {
      whole = λ e. absurd (cc e);
      part = λ e. (omega (arith, l, (sent.part refl).0), subst (λ (x : List ℕ). IfSome s1 (λ s. s.bytes ≡ take (length s.bytes) x)) (sym bytes) (still_part s0 s1 (frames ms) (frame m) w.1 (sent.part refl).1));
    }
sent_more true false closed s0 s1 f0 f1 ms all m is sent w c l = absurd (let z = w.0 in cc z)
sent_more false false closed s0 s1 f0 f1 ms all m is sent w c l =
    let bytes : frames all ≡ frames ms ++ frame m = ap frames is ∙ open_frames ms m in
    record {
      whole = λ e. subst (λ (x : List ℕ). IfSome s1 (λ s. s ≡ record { bytes = x; flushed = length x; closed = closed })) (sym bytes) (whole_more s0 s1 (frames ms) (frame m) closed (sent.whole refl) w);
      part = λ e. absurd (cc e);
    }
sent_more false true closed s0 s1 f0 f1 ms all m is sent w c l =
    let bytes : frames all ≡ frames ms ++ frame m = ap frames is ∙ open_frames ms m in
    record {
      whole = λ e. absurd (cc e);
      part = λ e. (over_zero f0 f1 c, subst (λ (x : List ℕ). IfSome s1 (λ s. s.bytes ≡ take (length s.bytes) x)) (sym bytes) (now_part s0 s1 (frames ms) (frame m) closed (sent.whole refl) w));
    }

-- after a fault nothing is said of a close
still_sent : (before after : Bool) (s : Option Sunk) (f : ℕ) (ms : List MessageView) → SentAs true before s f ms → SentAs true after s f ms
still_sent before after s f ms sent = record { whole = λ e. absurd (cc e); part = sent.part }

pub sent_last : (b0 b1 closed : Bool) (s0 s1 : Option Sunk) (f0 f1 : ℕ) (ms all : List MessageView) (m : MessageView) → all ≡ ms ++ m ∷ [] → SentAs b0 closed s0 f0 ms
    → ClosesMore b0 b1 (frame m) s0 s1 → CountSince b0 b1 f0 f1 → f0 ≤ f1 → SentAs b1 true s1 f1 all
sent_last true true closed s0 s1 f0 f1 ms all m is sent w c l = still_sent closed true s1 f1 all (sent_more true true closed s0 s1 f0 f1 ms all m is sent w c l)
sent_last true false closed s0 s1 f0 f1 ms all m is sent w c l = absurd (let z = w.0 in cc z)
sent_last false false closed s0 s1 f0 f1 ms all m is sent w c l =
    let bytes : frames all ≡ frames ms ++ frame m = ap frames is ∙ open_frames ms m in
    record {
      whole = λ e. subst (λ (x : List ℕ). IfSome s1 (λ s. s ≡ record { bytes = x; flushed = length x; closed = true })) (sym bytes) (whole_closed s0 s1 (frames ms) (frame m) closed (sent.whole refl) w);
      part = λ e. absurd (cc e);
    }
sent_last false true closed s0 s1 f0 f1 ms all m is sent w c l = still_sent closed true s1 f1 all (sent_more false true closed s0 s1 f0 f1 ms all m is sent w c l)

pub sent_none : (s : Option Sunk) (f : ℕ) → IfSome s (λ t. t ≡ record { bytes = []; flushed = 0; closed = false }) → SentAs false false s f []
sent_none s f e = record { whole = λ g. e; part = λ g. absurd (cc g) }

whole_shut : (s0 s1 : Option Sunk) (all : List ℕ) (closed : Bool) → IfSome s0 (λ s. s ≡ record { bytes = all; flushed = length all; closed = closed }) → s1 ≡ option_map with_close s0 → IfSome s1 (λ s. s ≡ record { bytes = all; flushed = length all; closed = true })
whole_shut None s1 all closed w p = subst (λ (o : Option Sunk). IfSome o (λ s. s ≡ record { bytes = all; flushed = length all; closed = true })) (sym p) tt
whole_shut (Some s) s1 all closed w p = subst (λ (o : Option Sunk). IfSome o (λ s. s ≡ record { bytes = all; flushed = length all; closed = true })) (sym p) (ap with_close w)

-- the sink was closed, and took nothing more
pub sent_shut : (b0 b1 closed : Bool) (s0 s1 : Option Sunk) (f0 f1 : ℕ) (ms : List MessageView) → SentAs b0 closed s0 f0 ms → ClosedBy b0 b1 s0 s1 → CountSince b0 b1 f0 f1 → f0 ≤ f1 → SentAs b1 true s1 f1 ms
sent_shut true true closed s0 s1 f0 f1 ms sent w c l = record { whole = λ e. absurd (cc e); part = λ e. (omega (arith, l, (sent.part refl).0), subst (λ (o : Option Sunk). IfSome o (λ s. s.bytes ≡ take (length s.bytes) (frames ms))) (sym w.1) (sent.part refl).1) }
sent_shut true false closed s0 s1 f0 f1 ms sent w c l = absurd (let z = w.0 in cc z)
sent_shut false false closed s0 s1 f0 f1 ms sent w c l = record { whole = λ e. whole_shut s0 s1 (frames ms) closed (sent.whole refl) w; part = λ e. absurd (cc e) }
sent_shut false true closed s0 s1 f0 f1 ms sent w c l =
    record { whole = λ e. absurd (cc e); part = λ e. (over_zero f0 f1 c, subst (λ (o : Option Sunk). IfSome o (λ s. s.bytes ≡ take (length s.bytes) (frames ms))) (sym w) (all_is_part s0 ms closed (sent.whole refl))) }
