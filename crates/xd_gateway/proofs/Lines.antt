-- What is written, one step after another.
use Rattle.std.proofs.Common.{◌≡◌, ℕ, ◌≤◌, ◌++◌, List, length, take, Bool, true, false, Option, Some, None, option_map, Result, Ok, Err, refl, sym, ap, subst, ◌∙◌, arith}
use Rattle.std.specs.Prelude.{OnErr, OnOk, is_err, is_ok}
use Rattle.std.proofs.lemmas.List.{take_all}
use Rattle.xd_edge.specs.Faults.{Rose}
use Rattle.xd_edge.specs.Faults.{Counted}
use Rattle.xd_edge.specs.Sink.{Sunk, Printed, PrintedPart, TookPart, with_bytes, with_close, with_flush}
use Rattle.xd_frame.specs.Writing.{CountSince, WritesMore}
use Rattle.xd_frame.proofs.Written.{next_print}
use Rattle.xd_frame.specs.Message.{MessageView, frame}
use Rattle.xd_gateway.specs.Calls.{terminate_message}
use Rattle.xd_gateway.specs.Line.{ClosedBy, ClosesSink, ClosesNow, GatewaySink, PrintsBytes}

abbrev pub line : Option Sunk → ℕ → Bool → GatewaySink
line s f b = record { sunk = s; faults = f; broken = b }

count_after : {T E : Type 0} (r : Result T E) (b0 b1 : Bool) (f0 f1 : ℕ) → b0 ≡ false → b1 ≡ is_err r → Counted (is_ok r) f0 f1 → CountSince b0 b1 f0 f1
count_after (Ok x) false b1 f0 f1 h k c = subst (λ (b : Bool). CountSince false b f0 f1) (sym k) (c.still refl)
count_after (Err e) false b1 f0 f1 h k c = subst (λ (b : Bool). CountSince false b f0 f1) (sym k) (c.rose refl)
count_after r true b1 f0 f1 h k c = cc

-- a print, where no write had failed
pub printed : {T E : Type 0} (r : Result T E) (bytes : List ℕ) (s0 s1 : Option Sunk) (f0 f1 : ℕ) (b0 b1 : Bool) → b0 ≡ false → b1 ≡ is_err r → OnOk r (Printed bytes s0 s1) → OnErr r (TookPart bytes s0 s1)
    → Counted (is_ok r) f0 f1 → PrintsBytes bytes (line s0 f0 b0) (line s1 f1 b1)
printed r bytes s0 s1 f0 f1 b0 b1 h k ok part c =
    record { writes = next_print r b0 b1 bytes s0 s1 h k ok part; count = count_after r b0 b1 f0 f1 h k c; later = c.later }

pub printed_nothing : (bytes : List ℕ) (s : Option Sunk) (f : ℕ) (b : Bool) → b ≡ true → PrintsBytes bytes (line s f b) (line s f b)
printed_nothing bytes s f true h = record { writes = (refl, refl); count = (refl, refl); later = omega arith }
printed_nothing bytes s f false h = absurd (let z = h in cc)

closed_by : {T E : Type 0} (r : Result T E) (b0 b1 : Bool) (s0 s1 : Option Sunk) → b0 ≡ false → b1 ≡ is_err r → OnOk r (s1 ≡ option_map with_close s0) → OnErr r (s1 ≡ s0) → ClosedBy b0 b1 s0 s1
closed_by (Ok x) false b1 s0 s1 h k ok kept = subst (λ (b : Bool). ClosedBy false b s0 s1) (sym k) ok
closed_by (Err e) false b1 s0 s1 h k ok kept = subst (λ (b : Bool). ClosedBy false b s0 s1) (sym k) kept
closed_by r true b1 s0 s1 h k ok kept = absurd (let z = h in cc)

-- a close, where no write had failed
pub closed : {T E : Type 0} (r : Result T E) (s0 s1 : Option Sunk) (f0 f1 : ℕ) (b0 b1 : Bool) → b0 ≡ false → b1 ≡ is_err r → OnOk r (s1 ≡ option_map with_close s0) → OnErr r (s1 ≡ s0)
    → Counted (is_ok r) f0 f1 → ClosesNow (line s0 f0 b0) (line s1 f1 b1)
closed r s0 s1 f0 f1 b0 b1 h k ok kept c =
    record { closed = closed_by r b0 b1 s0 s1 h k ok kept; count = count_after r b0 b1 f0 f1 h k c; later = c.later }

pub closed_nothing : (s : Option Sunk) (f : ℕ) (b : Bool) → b ≡ true → ClosesNow (line s f b) (line s f b)
closed_nothing s f true h = record { closed = (refl, refl); count = (refl, refl); later = omega arith }
closed_nothing s f false h = absurd (let z = h in cc)

-- ---- a print, and a close after it

all_closed : (bytes : List ℕ) (s0 s1 s2 : Option Sunk) → Printed bytes s0 s1 → s2 ≡ option_map with_close s1 → s2 ≡ option_map (λ s. with_close (with_flush (with_bytes bytes s))) s0
all_closed bytes None s1 s2 p c = c ∙ ap (option_map with_close) p
all_closed bytes (Some s) s1 s2 p c = c ∙ ap (option_map with_close) p

print_is_part : (bytes : List ℕ) (s0 s1 : Option Sunk) → Printed bytes s0 s1 → PrintedPart bytes s0 s1
print_is_part bytes None s1 p = (length bytes, omega arith, (0, p))
print_is_part bytes (Some s) s1 p =
    let all : take (length bytes) bytes ≡ bytes = take_all (length bytes) bytes (omega arith) in (
      length bytes,
      omega arith,
      (length (s.bytes ++ bytes), subst (λ (l : List ℕ). s1 ≡ Some (record { bytes = s.bytes ++ l; flushed = length (s.bytes ++ bytes); closed = s.closed })) (sym all) p),
    )

ends_by : (bytes : List ℕ) (b0 b1 b2 : Bool) (s0 s1 s2 : Option Sunk) (f0 f1 f2 : ℕ) → WritesMore b0 b1 bytes s0 s1 → CountSince b0 b1 f0 f1 → f0 ≤ f1 → ClosedBy b1 b2 s1 s2 → CountSince b1 b2 f1 f2 → f1 ≤ f2
    → ClosesSink bytes (line s0 f0 b0) (line s2 f2 b2)
ends_by bytes true true true s0 s1 s2 f0 f1 f2 w c l d e k = record { closes = (refl, d.1 ∙ w.1); count = (refl, e.1 ∙ c.1); later = omega arith }
ends_by bytes true true false s0 s1 s2 f0 f1 f2 w c l d e k = absurd (let z = d.0 in cc)
ends_by bytes true false b2 s0 s1 s2 f0 f1 f2 w c l d e k = absurd (let z = w.0 in cc)
ends_by bytes false true true s0 s1 s2 f0 f1 f2 w c l d e k =
    record { closes = subst (λ (o : Option Sunk). PrintedPart bytes s0 o) (sym d.1) w; count = subst (λ (n : ℕ). Rose f0 n) (sym e.1) c; later = omega arith }
ends_by bytes false true false s0 s1 s2 f0 f1 f2 w c l d e k = absurd (let z = d.0 in cc)
ends_by bytes false false true s0 s1 s2 f0 f1 f2 w c l d e k =
    record { closes = subst (λ (o : Option Sunk). PrintedPart bytes s0 o) (sym d) (print_is_part bytes s0 s1 w); count = subst (λ (n : ℕ). Rose n f2) c e; later = omega arith }
ends_by bytes false false false s0 s1 s2 f0 f1 f2 w c l d e k = record { closes = all_closed bytes s0 s1 s2 w d; count = e ∙ c; later = omega arith }

pub ends : (bytes : List ℕ) (a b c : GatewaySink) → PrintsBytes bytes a b → ClosesNow b c → ClosesSink bytes a c
ends bytes a b c p q = ends_by bytes a.broken b.broken c.broken a.sunk b.sunk c.sunk a.faults b.faults c.faults p.writes p.count p.later q.closed q.count q.later

pub exits : (m : MessageView) (a b c : GatewaySink) → m ≡ terminate_message → PrintsBytes (frame m) a b → ClosesNow b c → ClosesSink (frame terminate_message) a c
exits m a b c e p q = ends (frame terminate_message) a b c (subst (λ (x : MessageView). PrintsBytes (frame x) a b) e p) q
