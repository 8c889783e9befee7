-- A link that is read to its stop.
use Rattle.std.proofs.Common.{◌≡◌, ℕ, ℤ, List, [], ◌∷◌, ◌++◌, Bool, true, false, Option, Some, None, Result, Ok, Err, refl, ap, sym, ◌∙◌, subst, append_assoc, map, arith, take}
use Rattle.std.specs.Prelude.{if◌then◌else◌, ◌==◌, nat_le, slice_index}
use Rattle.std.proofs.lemmas.List.{append-nil, map-append}
use Rattle.xd_edge.specs.Faults.{Rose}
use Rattle.xd_frame.specs.declared.fault.FrameFault.{FrameFault}
use Rattle.xd_frame.specs.declared.fault.FrameFault.TheVariants.{BadKind, BadChannel, BadLength, Cut}
use Rattle.xd_frame.specs.declared.header.Header.{Header}
use Rattle.xd_frame.specs.declared.kind.Kind.{Kind}
use Rattle.xd_frame.specs.declared.pull.Pulled.{Pulled}
use Rattle.xd_frame.specs.declared.pull.Pulled.TheVariants.{More, Whole, Ended}
use Rattle.xd_frame.specs.declared.pull.PullFault.{PullFault}
use Rattle.xd_frame.specs.declared.pull.PullFault.TheVariants.{Bad, ReadFault, OutOfMemory}
use Rattle.xd_frame.specs.Header.{four_bytes_at, header_read, judged_header}
use Rattle.xd_frame.specs.Kind.{kind_of}
use Rattle.xd_frame.specs.Message.{MessageView, max_channel, max_payload}
use Rattle.xd_frame.specs.Framer.{FramerView, StandsForBytes, fresh_framer}
use Rattle.xd_frame.specs.Pull.{HoldsLess, Pulls, few, lasting, refusal_by, pull_fault_of}
use Rattle.xd_frame.specs.Stream.{left_over, header_in_front, messages, rest, rest_by, rest_of, Rest, Clean, Unfinished, Refused, end_meaning}
use Rattle.xd_frame.proofs.Front.{err_front}
use Rattle.xd_link.specs.Source.{Gave}
use Rattle.xd_link.specs.Spring.{ReadToEnd, Spring}
use Rattle.xd_link.proofs.SpringLemmas.{gave_more}
use Rattle.xd_reader.specs.declared.news.LinkNews.{LinkNews}
use Rattle.xd_reader.specs.declared.news.LinkNews.TheVariants.{Message}
use Rattle.xd_reader.specs.declared.news.LinkStop.{LinkStop}
use Rattle.xd_reader.specs.declared.news.LinkStop.TheVariants as stop
use Rattle.xd_reader.specs.Judged.{greeting_byte, link_stop_of}
use Rattle.xd_reader.specs.Reads.{GoLess, Puts, Reads, StopsAt}
use Rattle.xd_reader.specs.inner.Reading.{Listens, Steps, stop_of_fault}

-- ---- what was put, one after another

pub put_none : (l : List LinkNews) → l ≡ l ++ map Message []
put_none l = sym (append-nil l)

put_more : (a b c : List LinkNews) (ms ns : List MessageView) → b ≡ a ++ map Message ms → c ≡ b ++ map Message ns → c ≡ a ++ map Message (ms ++ ns)
put_more a b c ms ns e f =
    f ∙ (ap (λ (l : List LinkNews). l ++ map Message ns) e ∙ (append_assoc a (map Message ms) (map Message ns) ∙ ap (λ (l : List LinkNews). a ++ l) (sym (map-append Message ms ns))))

-- ---- a framer that is not stopped has taken all of its bytes

not_failed : (s : FramerView) → pull_fault_of s ≡ None → s.failed ≡ false
not_failed s e = by s.failed (if s.cut then Some (Bad Cut) else refusal_by (rest_of s.held)) e
  where
    by : (b : Bool) (x : Option PullFault) → (if b then Some OutOfMemory else x) ≡ None → b ≡ false
    by true x e = cc
    by false x e = refl

bad_not_failed : (s : FramerView) (f : FrameFault) → pull_fault_of s ≡ Some (Bad f) → s.failed ≡ false
bad_not_failed s f e = by s.failed (if s.cut then Some (Bad Cut) else refusal_by (rest_of s.held)) e
  where
    by : (b : Bool) (x : Option PullFault) → (if b then Some OutOfMemory else x) ≡ Some (Bad f) → b ≡ false
    by true x e = cc
    by false x e = refl

all_of : (s : FramerView) (bytes : List ℕ) (put : List MessageView) → s.failed ≡ false → s.waiting ≡ [] → StandsForBytes s bytes put → put ≡ messages bytes
all_of s bytes put ok waits k = sym (append-nil put) ∙ (ap (λ (ms : List MessageView). put ++ ms) (sym waits) ∙ (k.whole ok).all)

go_less : (s : FramerView) (bytes : List ℕ) (put : List MessageView) → HoldsLess s bytes put → GoLess bytes put
go_less s bytes put k = record { following = s.held; bytes_are = k.bytes; less = k.less }

rest_none : rest_of [] ≡ Clean
rest_none = refl

pub listens_first : (s : FramerView) → s ≡ fresh_framer → StandsForBytes s [] [] → HoldsLess s [] [] → Listens [] [] s
listens_first s new stands less = record {
  stands = stands;
  less = less;
  goes = ap pull_fault_of new;
  none_waits = ap (λ (f : FramerView). f.waiting) new;
}

-- ---- how the bytes end

-- no header is refused as one that is cut
judged_not_cut : (kind : Option Kind) (code channel length : ℕ) → judged_header kind code channel length ≡ Err Cut → ⊥
judged_not_cut None code channel length e = cc
judged_not_cut (Some kind) code channel length e = by (nat_le channel max_channel) (nat_le length max_payload) _ _ _ e
  where
    by : (a b : Bool) (h : Header) (n m : ℤ) → (if a then (if b then Ok h else Err (BadLength n)) else Err (BadChannel m)) ≡ Err Cut → ⊥
    by true true h n m e = cc
    by true false h n m e = cc
    by false b h n m e = cc

read_not_cut : (a : List ℕ) → header_read a ≡ Err Cut → ⊥
unfolding header_read
read_not_cut a e = judged_not_cut (kind_of (slice_index a 0)) (slice_index a 0) (four_bytes_at a 1) (four_bytes_at a 5) e

refused_front : (a : List ℕ) (f : FrameFault) → rest_of a ≡ Refused f → header_in_front a ≡ Err f
refused_front [] f e = cc
refused_front (b ∷ a) f e = by (header_in_front (b ∷ a)) e
  where
    by : (r : Result (Option Header) FrameFault) → rest_by r ≡ Refused f → r ≡ Err f
    by (Ok h) x = cc
    by (Err g) x = cc

rest_not_cut : (bytes : List ℕ) → rest bytes ≡ Refused Cut → ⊥
rest_not_cut bytes e = read_not_cut (take 9 (left_over bytes)) (err_front (left_over bytes) Cut (refused_front (left_over bytes) Cut e)).0

-- the bytes end inside a message
cut_means : (bytes : List ℕ) → end_meaning (rest bytes) ≡ Err Cut → rest bytes ≡ Unfinished
cut_means bytes e = by (rest bytes) e (rest_not_cut bytes)
  where
    by : (r : Rest) → end_meaning r ≡ Err Cut → (r ≡ Refused Cut → ⊥) → r ≡ Unfinished
    by Clean x never = cc
    by Unfinished x never = refl
    by (Refused f) x never = absurd (never cc)

-- the bytes end with a header that is refused
bad_means : (r : Rest) (f : FrameFault) → (f ≡ Cut → ⊥) → end_meaning r ≡ Err f → link_stop_of r ≡ stop.Garbled f
bad_means Clean f other e = cc
bad_means Unfinished f other e = absurd (other cc)
bad_means (Refused g) f other e = cc

-- ---- one read

module _ (old new : FramerView) (s0 s1 : Spring) (bytes : List ℕ) (taken : List MessageView) (l : Listens bytes taken old) (waits : new.waiting ≡ []) (before after : List LinkNews) where
  pub steps_more : (r : Pulled) → r ≡ More → Pulls (Ok r) old new s0 s1 → pull_fault_of new ≡ None → after ≡ before → Steps None bytes taken new s0 s1 before after
  steps_more r is q goes none = let p = subst (λ (x : Pulled). Pulls (Ok x) old new s0 s1) is q in record {
    piece = p.piece;
    gave = p.gave;
    more = [];
    comes = none ∙ put_none before;
    so = (record { stands = p.stands bytes taken l.stands; less = p.less bytes taken l.less; goes = goes; none_waits = waits }, p.count);
  }

  pub steps_whole : (r : Pulled) (m : MessageView) → r ≡ Whole m → Pulls (Ok r) old new s0 s1 → pull_fault_of new ≡ None → after ≡ before ++ Message m ∷ [] → Steps None bytes taken new s0 s1 before after
  steps_whole r m is q goes one = let p = subst (λ (x : Pulled). Pulls (Ok x) old new s0 s1) is q in record {
    piece = p.piece;
    gave = p.gave;
    more = m ∷ [];
    comes = one;
    so = (record { stands = p.stands bytes taken l.stands; less = p.less bytes taken l.less; goes = goes; none_waits = waits }, p.count);
  }

  pub steps_ended : (r : Pulled) → r ≡ Ended → Pulls (Ok r) old new s0 s1 → pull_fault_of new ≡ None → after ≡ before → Steps (Some stop.Ended) bytes taken new s0 s1 before after
  steps_ended r is q goes none =
      let p = subst (λ (x : Pulled). Pulls (Ok x) old new s0 s1) is q in
      let answer = p.answer l.goes bytes taken l.stands in
      record {
        piece = p.piece;
        gave = p.gave;
        more = [];
        comes = none ∙ put_none before;
        so = (
          all_of new (bytes ++ p.piece) (taken ++ []) (not_failed new goes) waits (p.stands bytes taken l.stands),
          go_less new (bytes ++ p.piece) (taken ++ []) (p.less bytes taken l.less),
          (ap link_stop_of answer.0, answer.2, p.count),
        );
      }

  pub steps_fault : (f : PullFault) (why : LinkStop) → why ≡ stop_of_fault f → Pulls (Err f) old new s0 s1 → pull_fault_of new ≡ lasting (Err f) → after ≡ before → Steps (Some why) bytes taken new s0 s1 before after
  steps_fault f why is p lasts none = subst (λ (w : LinkStop). Steps (Some w) bytes taken new s0 s1 before after) (sym is) record {
    piece = p.piece;
    gave = p.gave;
    more = [];
    comes = none ∙ put_none before;
    so = (all f p lasts, go_less new (bytes ++ p.piece) (taken ++ []) (p.less bytes taken l.less), cause f p);
  }
    where
      all : (f : PullFault) (p : Pulls (Err f) old new s0 s1) → pull_fault_of new ≡ lasting (Err f) → taken ++ [] ≡ messages (bytes ++ p.piece)
      all (Bad f) p lasts = all_of new (bytes ++ p.piece) (taken ++ []) (bad_not_failed new f lasts) waits (p.stands bytes taken l.stands)
      all ReadFault p lasts = all_of new (bytes ++ p.piece) (taken ++ []) (not_failed new lasts) waits (p.stands bytes taken l.stands)
      all OutOfMemory p lasts =
          let none : p.piece ≡ [] = p.answer l.goes bytes taken l.stands in
          append-nil taken ∙ (all_of old bytes taken (not_failed old l.goes) l.none_waits l.stands ∙ ap messages (sym (ap (λ (b : List ℕ). bytes ++ b) none ∙ append-nil bytes)))

      garbled : (f : FrameFault) (p : Pulls (Err (Bad f)) old new s0 s1) → (f ≡ Cut → ⊥) → StopsAt (stop.Garbled f) false (bytes ++ p.piece) s0 s1
      garbled f p other = (bad_means (rest (bytes ++ p.piece)) f other (p.answer l.goes bytes taken l.stands).0, p.count)

      cause : (f : PullFault) (p : Pulls (Err f) old new s0 s1) → StopsAt (stop_of_fault f) false (bytes ++ p.piece) s0 s1
      cause (Bad Cut) p =
          let answer = p.answer l.goes bytes taken l.stands in
          let ends : rest (bytes ++ p.piece) ≡ Unfinished = cut_means (bytes ++ p.piece) answer.0 in
          (ap link_stop_of ends, (answer.1 ends).1, p.count)
      cause (Bad (BadKind code)) p = garbled (BadKind code) p (λ x. cc)
      cause (Bad (BadChannel number)) p = garbled (BadChannel number) p (λ x. cc)
      cause (Bad (BadLength number)) p = garbled (BadLength number) p (λ x. cc)
      cause ReadFault p = p.count
      cause OutOfMemory p = p.count

-- ---- one read after others

-- the count stood still up to this moment
stops_from : (why : LinkStop) (greeted : Bool) (bytes : List ℕ) (s0 mid s1 : Spring) → mid.faults ≡ s0.faults → StopsAt why greeted bytes mid s1 → StopsAt why greeted bytes s0 s1
stops_from stop.Ended greeted bytes s0 mid s1 still c = (c.0, c.1, c.2 ∙ still)
stops_from stop.Cut greeted bytes s0 mid s1 still c = (c.0, c.1, c.2 ∙ still)
stops_from (stop.Garbled f) greeted bytes s0 mid s1 still c = (c.0, c.1 ∙ still)
stops_from (stop.BadGreeting b) greeted bytes s0 mid s1 still c = (c.0, c.1 ∙ still)
stops_from stop.ReadFault greeted bytes s0 mid s1 still c = subst (λ (n : ℕ). Rose n s1.faults) still c
stops_from stop.OutOfMemory greeted bytes s0 mid s1 still c = c ∙ still

-- what was read and put so far
pub record SoFar (framer : FramerView) (s0 s1 : Spring) (before after : List LinkNews) : Type 0 where
  pub bytes : List ℕ
  pub put : List MessageView
  pub gave : Gave bytes s0.supply s1.supply
  pub comes : after ≡ before ++ map Message put
  pub listens : Listens bytes put framer
  pub still : s1.faults ≡ s0.faults

steps_on : (why : Option LinkStop) (bytes : List ℕ) (put : List MessageView) (framer : FramerView) (s0 s1 : Spring) (before after : List LinkNews) → ((x : LinkStop) → why ≡ Some x → ⊥) → Steps why bytes put framer s0 s1 before after → Steps None bytes put framer s0 s1 before after
steps_on None bytes put framer s0 s1 before after none s = s
steps_on (Some x) bytes put framer s0 s1 before after none s = absurd (none x refl)

pub goes_on : (why : Option LinkStop) (framer next : FramerView) (s0 mid s1 : Spring) (before between after : List LinkNews) → ((x : LinkStop) → why ≡ Some x → ⊥) → (f : SoFar framer s0 mid before between) → Steps why f.bytes f.put next mid s1 between after → SoFar next s0 s1 before after
goes_on why framer next s0 mid s1 before between after none f s =
    let t = steps_on why f.bytes f.put next mid s1 between after none s in
    record {
      bytes = f.bytes ++ t.piece;
      put = f.put ++ t.more;
      gave = gave_more f.bytes t.piece s0.supply mid.supply s1.supply f.gave t.gave;
      comes = put_more before between after f.put t.more f.comes t.comes;
      listens = t.so.0;
      still = t.so.1 ∙ f.still;
    }

pub puts_stopped : (why : LinkStop) (framer next : FramerView) (s0 mid s1 : Spring) (before between after : List LinkNews) (f : SoFar framer s0 mid before between) → Steps (Some why) f.bytes f.put next mid s1 between after → Puts false s0 s1 before after why
puts_stopped why framer next s0 mid s1 before between after f t = record {
  put = f.put ++ t.more;
  comes = put_more before between after f.put t.more f.comes t.comes;
  reads = record {
    bytes = f.bytes ++ t.piece;
    gave = gave_more f.bytes t.piece s0.supply mid.supply s1.supply f.gave t.gave;
    all = t.so.0;
    less = t.so.1;
    cause = stops_from why false (f.bytes ++ t.piece) s0 mid s1 f.still t.so.2;
  };
}

-- ---- the greeting

pub greeted_reads : (s0 mid s1 : Spring) (before after : List LinkNews) (why : LinkStop) → Gave (greeting_byte ∷ []) s0.supply mid.supply → mid.faults ≡ s0.faults → Puts false mid s1 before after why → Puts true s0 s1 before after why
greeted_reads s0 mid s1 before after why gave still p = record {
  put = p.put;
  comes = p.comes;
  reads = record {
    bytes = greeting_byte ∷ p.reads.bytes;
    gave = gave_more (greeting_byte ∷ []) p.reads.bytes s0.supply mid.supply s1.supply gave p.reads.gave;
    all = p.reads.all;
    less = p.reads.less;
    cause = by why (stops_from why false p.reads.bytes s0 mid s1 still p.reads.cause);
  };
}
  where
    by : (w : LinkStop) → StopsAt w false p.reads.bytes s0 s1 → StopsAt w true (greeting_byte ∷ p.reads.bytes) s0 s1
    by stop.Ended c = c
    by stop.Cut c = c
    by (stop.Garbled f) c = c
    by (stop.BadGreeting b) c = c
    by stop.ReadFault c = c
    by stop.OutOfMemory c = c

-- nothing was put, since the greeting was not there
pub ungreeted_reads : (s0 s1 : Spring) (l : List LinkNews) (why : LinkStop) → Reads true s0 s1 [] why → Puts true s0 s1 l l why
ungreeted_reads s0 s1 l why r = record { put = []; comes = put_none l; reads = r }

pub greets_ended : (s0 s1 : Spring) → Gave [] s0.supply s1.supply → ReadToEnd s1 → s1.faults ≡ s0.faults → Reads true s0 s1 [] stop.Ended
greets_ended s0 s1 gave end still = record { bytes = []; gave = gave; all = refl; less = refl; cause = (refl, end, still) }

pub greets_unread : (s0 s1 : Spring) → Gave [] s0.supply s1.supply → Rose s0.faults s1.faults → Reads true s0 s1 [] stop.ReadFault
greets_unread s0 s1 gave rose = record { bytes = []; gave = gave; all = refl; less = refl; cause = rose }

pub greets_bad : (s0 s1 : Spring) (b : ℕ) → (b == greeting_byte) ≡ false → Gave (b ∷ []) s0.supply s1.supply → s1.faults ≡ s0.faults → Reads true s0 s1 [] (stop.BadGreeting b)
greets_bad s0 s1 b other gave still = record {
  bytes = b ∷ [];
  gave = gave;
  all = sym (ap (λ (x : Bool). if x then messages [] else []) other);
  less = record { following = []; bytes_are = refl; less = few (omega arith) };
  cause = (ap (λ (x : Bool). if x then link_stop_of (rest []) else stop.BadGreeting b) other, still);
}
