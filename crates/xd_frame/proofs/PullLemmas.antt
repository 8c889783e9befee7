-- One pull, by what it did to the bytes that the framer holds.
use Rattle.std.proofs.Common.{◌≡◌, ◌≢◌, ℕ, ◌+◌, ◌≤◌, inl, inr, List, [], ◌∷◌, ◌++◌, length, drop, Bool, true, false, Option, Some, None, Result, Ok, Err, refl, sym, ap, subst, ◌∙◌, arith, append_assoc, length-append}
use Rattle.std.specs.Prelude.{if◌then◌else◌}
use Rattle.std.proofs.lemmas.List.{append-nil, length-drop, take_all}
use Rattle.xd_link.specs.Spring.{Spring}
use Rattle.xd_link.proofs.SpringLemmas.{gave_none}
use Rattle.xd_frame.specs.declared.header.Header.{Header}
use Rattle.xd_frame.specs.declared.fault.FrameFault.{FrameFault}
use Rattle.xd_frame.specs.declared.fault.FrameFault.TheVariants.{Cut}
use Rattle.xd_frame.specs.declared.pull.Pulled.{Pulled}
use Rattle.xd_frame.specs.declared.pull.Pulled.TheVariants.{More, Whole, Ended}
use Rattle.xd_frame.specs.declared.pull.PullFault.{PullFault}
use Rattle.xd_frame.specs.declared.pull.PullFault.TheVariants.{Bad, ReadFault, OutOfMemory}
use Rattle.xd_frame.specs.Message.{MessageView, frame, frames}
use Rattle.xd_frame.specs.Header.{header_read}
use Rattle.xd_frame.specs.Stream.{AreBytes, Clean, Rest, Refused, Unfinished, left_over, end_meaning, header_in_front, message_of, messages, parts, parts_within, rest, rest_by, rest_of}
use Rattle.xd_frame.specs.Framer.{FramerView, Holds, fresh_framer, StandsForBytes, feed_gives}
use Rattle.xd_frame.specs.Pull.{AnswersTo, CountsSo, HoldsLess, IsLess, Pulls, few, begun, refused, missing, refusal_by, pull_fault_of, whole_of}
use Rattle.xd_frame.specs.inner.Pulling.{Draws, DrawsSo, is_out_of_memory}
use Rattle.xd_frame.proofs.Front.{some_front}
use Rattle.xd_frame.proofs.Framers.{feed_takes, front_says, held_is, next_moves, refused_rest}
use Rattle.xd_frame.proofs.Longest.{front_frame}
use Rattle.xd_frame.proofs.Missing.{just_refused, just_whole, less_of, missing_some, none_few, none_begun, ok}
use Rattle.xd_frame.proofs.Streams.{messages-append}

nil_of : (l : List ℕ) → length l ≡ 0 → l ≡ []
nil_of [] e = refl
nil_of (b ∷ l) e = absurd (omega arith)

-- ---- a framer that is not stopped

record GoesOn (s : FramerView) : Type 0 where
  failed : s.failed ≡ false
  refusal : refusal_by (rest_of s.held) ≡ None
  readable : feed_gives (rest_of s.held) ≡ Ok tt

abbrev stopped_so : Bool → Bool → Rest → Option PullFault
stopped_so failed cut ends = if failed then Some OutOfMemory else (if cut then Some (Bad Cut) else refusal_by ends)

not_stopped : (failed cut : Bool) (ends : Rest) → stopped_so failed cut ends ≡ None → (failed ≡ false) × (refusal_by ends ≡ None)
not_stopped true cut ends e = cc
not_stopped false true ends e = cc
not_stopped false false ends e = (refl, e)

readable_by : (r : Rest) → refusal_by r ≡ None → feed_gives r ≡ Ok tt
readable_by Clean e = refl
readable_by Unfinished e = refl
readable_by (Refused f) e = cc

goes_on : (s : FramerView) → pull_fault_of s ≡ None → GoesOn s
goes_on s e =
    let n = not_stopped s.failed s.cut (rest_of s.held) e in
    record { failed = n.0; refusal = n.1; readable = readable_by (rest_of s.held) n.1 }

pub none_of : (o : Option PullFault) → ((x : PullFault) → o ≡ Some x → ⊥) → o ≡ None
none_of None h = refl
none_of (Some x) h = absurd (h x refl)

-- no whole message stands in front of what a framer holds
none_by : (a : List ℕ) (r : Result (Option Header) FrameFault) → header_in_front a ≡ r → feed_gives (rest_of a) ≡ Ok tt → ((h : Header) → header_in_front a ≡ Ok (Some h) → ⊥) → header_in_front a ≡ Ok None
none_by a (Ok None) e g never = e
none_by a (Ok (Some h)) e g never = absurd (never h e)
none_by a (Err f) e g never = let wrong : feed_gives (Refused f) ≡ Ok tt = sym (ap feed_gives (refused_rest a f e)) ∙ g in cc

whole_once : (bytes : List ℕ) (h : Header) → header_in_front (left_over bytes) ≡ Ok (Some h) → ⊥
whole_once bytes h e =
    let says = front_says (left_over bytes) (Ok (Some h)) e in
    let twice : messages bytes ≡ messages bytes ++ messages (left_over bytes) = sym (ap messages (append-nil bytes)) ∙ (messages-append bytes [] ∙ ap (λ (b : List ℕ). messages bytes ++ messages b) (append-nil (left_over bytes))) in
    omega (arith, ap length twice, length-append (messages bytes) (messages (left_over bytes)), ap length says.0)

none_standing : (s : FramerView) (given : List ℕ) (taken : List MessageView) → GoesOn s → StandsForBytes s given taken → header_in_front s.held ≡ Ok None
none_standing s given taken g k =
    let whole = k.whole g.failed in
    let held : s.held ≡ left_over given = held_is (rest given) s.held (left_over given) (subst (λ (r : Rest). feed_gives r ≡ Ok tt) whole.ends g.readable) whole.holds in
    none_by s.held (header_in_front s.held) refl g.readable (λ h e. whole_once given h (sym (ap header_in_front held) ∙ e))

less_front : (a : List ℕ) → IsLess a → feed_gives (rest_of a) ≡ Ok tt → header_in_front a ≡ Ok None
less_front a (few l) g = none_few a l
less_front a (begun h read l) g = none_begun a h read l
less_front a (refused f read l) g = none_by a (header_in_front a) refl g (λ h e. let wrong : ok h ≡ Err f = sym (some_front a h e).0 ∙ (ap header_read (take_all 9 a (omega arith)) ∙ read) in cc)

-- ---- what stands after a pull

nothing : messages [] ≡ []
unfolding parts parts_within
nothing = refl

nothing_after : left_over [] ≡ []
unfolding parts parts_within
nothing_after = refl

abbrev err : FrameFault → Result (Unit {0}) FrameFault
err f = Err f

nil_past : (n : ℕ) (a : List ℕ) → length a ≡ n → drop n a ≡ []
nil_past n a e = nil_of (drop n a) (omega (arith, length-drop n a))

stands_same : (s t : FramerView) (given : List ℕ) (taken : List MessageView) → t.waiting ≡ s.waiting → t.held ≡ s.held → (t.failed ≡ false → s.failed ≡ false) → StandsForBytes s given taken → StandsForBytes t given taken
stands_same s t given taken w h f k = record {
  first = (k.first.0, k.first.1 ∙ ap (λ (l : List MessageView). (taken ++ l) ++ k.first.0) (sym w));
  whole = λ x. let o = k.whole (f x) in record { all = ap (λ (l : List MessageView). taken ++ l) w ∙ o.all; ends = ap rest_of h ∙ o.ends; holds = subst (λ (b : List ℕ). Holds (rest given) b (left_over given)) (sym h) o.holds };
}

unread : (s t : FramerView) (given piece : List ℕ) (taken : List MessageView) → piece ≡ [] → t.waiting ≡ s.waiting → t.held ≡ s.held → (t.failed ≡ false → s.failed ≡ false) → StandsForBytes s given taken → StandsForBytes t (given ++ piece) (taken ++ [])
unread s t given piece taken none w h f k =
    subst (λ (l : List MessageView). StandsForBytes t (given ++ piece) l) (sym (append-nil taken))
    (subst (λ (b : List ℕ). StandsForBytes t b taken) (sym (ap (λ (l : List ℕ). given ++ l) none ∙ append-nil given)) (stands_same s t given taken w h f k))

less_same : (s t : FramerView) (given piece : List ℕ) (taken : List MessageView) → piece ≡ [] → t.held ≡ s.held → HoldsLess s given taken → HoldsLess t (given ++ piece) (taken ++ [])
less_same s t given piece taken none h k = record {
  bytes = ap (λ (l : List ℕ). given ++ l) none ∙ (append-nil given ∙ (k.bytes ∙ (ap (λ (l : List ℕ). frames taken ++ l) (sym h) ∙ ap (λ (l : List MessageView). frames l ++ t.held) (sym (append-nil taken)))));
  less = subst IsLess (sym h) k.less;
}

less_more : (s t : FramerView) (given piece : List ℕ) (taken : List MessageView) → t.held ≡ s.held ++ piece → IsLess (s.held ++ piece) → HoldsLess s given taken → HoldsLess t (given ++ piece) (taken ++ [])
less_more s t given piece taken h less k = record {
  bytes = ap (λ (l : List ℕ). l ++ piece) k.bytes ∙ (append_assoc (frames taken) s.held piece ∙ (ap (λ (l : List ℕ). frames taken ++ l) (sym h) ∙ ap (λ (l : List MessageView). frames l ++ t.held) (sym (append-nil taken))));
  less = subst IsLess (sym h) less;
}

frames_last : (l : List MessageView) (m : MessageView) → frames (l ++ m ∷ []) ≡ frames l ++ frame m
frames_last [] m = append-nil (frame m)
frames_last (x ∷ l) m = ap (λ (f : List ℕ). frame x ++ f) (frames_last l m) ∙ sym (append_assoc (frame x) (frames l) (frame m))

less_whole : (s t : FramerView) (given piece : List ℕ) (taken : List MessageView) (h : Header) (m : MessageView) → m ≡ message_of h (s.held ++ piece) → t.held ≡ [] → length (s.held ++ piece) ≡ 9 + h.length → AreBytes (s.held ++ piece) → header_in_front (s.held ++ piece) ≡ Ok (Some h) → HoldsLess s given taken → HoldsLess t (given ++ piece) (taken ++ m ∷ [])
less_whole s t given piece taken h m is none size small e k =
    let all = s.held ++ piece in
    let one : all ≡ frame m = (front_frame all h small e).1 ∙ (ap (λ (l : List ℕ). frame (message_of h all) ++ l) (nil_past (9 + h.length) all size) ∙ (append-nil (frame (message_of h all)) ∙ ap frame (sym is))) in
    let bytes : given ++ piece ≡ frames taken ++ all = ap (λ (l : List ℕ). l ++ piece) k.bytes ∙ append_assoc (frames taken) s.held piece in
    let told : given ++ piece ≡ frames (taken ++ m ∷ []) = bytes ∙ (ap (λ (l : List ℕ). frames taken ++ l) one ∙ sym (frames_last taken m)) in
    record {
      bytes = told ∙ (sym (append-nil (frames (taken ++ m ∷ []))) ∙ ap (λ (l : List ℕ). frames (taken ++ m ∷ []) ++ l) (sym none));
      less = subst IsLess (sym none) (few (omega arith));
    }

-- ---- how the bytes end

some_append : (a b : List ℕ) → b ≢ [] → a ++ b ≢ []
some_append [] b some e = some e
some_append (x ∷ a) b some e = cc

open_end : (a : List ℕ) → a ≢ [] → header_in_front a ≡ Ok None → rest_of a ≡ Unfinished
open_end [] some e = absurd (some refl)
open_end (b ∷ a) some e = ap rest_by e

module _ (s t : FramerView) (before after : Spring) (waits : s.waiting ≡ []) (goes : pull_fault_of s ≡ None) (none_waits : t.waiting ≡ []) where
  same_waiting : t.waiting ≡ s.waiting
  same_waiting = none_waits ∙ sym waits

  g : GoesOn s
  g = goes_on s goes

  -- no message is whole after the bytes that were read
  stands_more : (piece given : List ℕ) (taken : List MessageView) → messages (s.held ++ piece) ≡ [] → left_over (s.held ++ piece) ≡ s.held ++ piece → t.held ≡ s.held ++ piece → StandsForBytes s given taken → StandsForBytes t (given ++ piece) (taken ++ [])
  stands_more piece given taken m b h k =
      subst (λ (l : List MessageView). StandsForBytes t (given ++ piece) l) (sym (append-nil taken))
      (feed_takes s t given piece taken g.failed g.readable (none_waits ∙ (sym m ∙ ap (λ (l : List MessageView). l ++ messages (s.held ++ piece)) (sym waits))) (h ∙ sym b) k)

  stands_whole : (piece given : List ℕ) (taken : List MessageView) (h : Header) (m : MessageView) → m ≡ message_of h (s.held ++ piece) → header_in_front (s.held ++ piece) ≡ Ok (Some h) → length (s.held ++ piece) ≡ 9 + h.length → t.held ≡ [] → t.failed ≡ false → StandsForBytes s given taken → StandsForBytes t (given ++ piece) (taken ++ m ∷ [])
  stands_whole piece given taken h m is e size none ok k =
      let all = s.held ++ piece in
      let says = front_says all (Ok (Some h)) e in
      let past : drop (9 + h.length) all ≡ [] = nil_past (9 + h.length) all size in
      let one : messages all ≡ m ∷ [] = says.0 ∙ (ap (λ (l : List ℕ). message_of h all ∷ messages l) past ∙ (ap (λ (l : List MessageView). message_of h all ∷ l) nothing ∙ ap (λ (x : MessageView). x ∷ []) (sym is))) in
      let last : left_over all ≡ [] = says.1 ∙ (ap left_over past ∙ nothing_after) in
      let u : FramerView = record { waiting = m ∷ []; held = []; failed = false; cut = false } in
      next_moves u t (given ++ piece) taken (m ∷ []) (ap (λ (l : List MessageView). m ∷ l) (sym none_waits)) none ok
      (feed_takes s u given piece taken g.failed g.readable (sym one ∙ ap (λ (l : List MessageView). l ++ messages all) (sym waits)) (sym last) k)

  module _ (r : Result Pulled PullFault) (failed : t.failed ≡ is_out_of_memory r) (d : Draws r s.held t.held before after) where
    asked : length d.piece ≤ missing s.held
    asked = omega (arith, d.asked)

    ends_at : (given : List ℕ) (taken : List MessageView) (ends : Rest) → t.failed ≡ false → rest_of t.held ≡ ends → StandsForBytes t (given ++ d.piece) taken → rest (given ++ d.piece) ≡ ends
    ends_at given taken ends ok is k = sym (k.whole ok).ends ∙ is

    stands : (given : List ℕ) (taken : List MessageView) → StandsForBytes s given taken → StandsForBytes t (given ++ d.piece) (taken ++ whole_of r)
    stands given taken k = by r failed d.so
      where
        front : header_in_front s.held ≡ Ok None
        front = none_standing s given taken g k

        by : (x : Result Pulled PullFault) → t.failed ≡ is_out_of_memory x → DrawsSo x s.held d.piece t.held after → StandsForBytes t (given ++ d.piece) (taken ++ whole_of x)
        by (Ok More) f so = let says = front_says (s.held ++ d.piece) (Ok None) so.2 in stands_more d.piece given taken says.0 says.1 so.1 k
        by (Ok (Whole m)) f so = stands_whole d.piece given taken so.2.0 m so.2.2 so.2.1 (just_whole s.held d.piece so.2.0 front asked so.2.1) so.1 f k
        by (Ok Ended) f so = unread s t given d.piece taken so.1.none same_waiting so.1.kept (λ _. g.failed) k
        by (Err (Bad fault)) f (inl so) = let says = front_says (s.held ++ d.piece) (Err fault) so.2 in stands_more d.piece given taken says.0 says.1 so.1 k
        by (Err (Bad fault)) f (inr so) = unread s t given d.piece taken so.2.none same_waiting so.2.kept (λ _. g.failed) k
        by (Err ReadFault) f so = unread s t given d.piece taken so.0 same_waiting so.1 (λ _. g.failed) k
        by (Err OutOfMemory) f so = unread s t given d.piece taken so.0 same_waiting so.1 (λ _. g.failed) k

    answer : (given : List ℕ) (taken : List MessageView) → StandsForBytes s given taken → AnswersTo r (rest (given ++ d.piece)) d.piece after
    answer given taken k = by r failed d.so (stands given taken k)
      where
        front : header_in_front s.held ≡ Ok None
        front = none_standing s given taken g k

        by : (x : Result Pulled PullFault) → t.failed ≡ is_out_of_memory x → DrawsSo x s.held d.piece t.held after → StandsForBytes t (given ++ d.piece) (taken ++ whole_of x) → AnswersTo x (rest (given ++ d.piece)) d.piece after
        by (Ok More) f so l = (ends_at given (taken ++ []) Unfinished f (ap rest_of so.1 ∙ open_end (s.held ++ d.piece) (some_append s.held d.piece so.0) so.2) l, so.0)
        by (Ok (Whole m)) f so l = (ends_at given (taken ++ m ∷ []) Clean f (ap rest_of so.1) l, so.0)
        by (Ok Ended) f so l = (ends_at given (taken ++ []) Clean f (ap rest_of (so.1.kept ∙ so.0)) l, so.1.none, so.1.end (missing_some s.held front))
        by (Err (Bad fault)) f (inl so) l =
            let ends : rest (given ++ d.piece) ≡ Refused fault = ends_at given (taken ++ []) (Refused fault) f (ap rest_of so.1 ∙ refused_rest (s.held ++ d.piece) fault so.2) l in
            (ap end_meaning ends, λ open_so. let wrong : Refused fault ≡ Unfinished = sym ends ∙ open_so in cc)
        by (Err (Bad fault)) f (inr so) l =
            let ends : rest (given ++ d.piece) ≡ Unfinished = ends_at given (taken ++ []) Unfinished f (ap rest_of so.2.kept ∙ open_end s.held so.1 front) l in
            (ap end_meaning ends ∙ ap err (sym so.0), λ _. (so.2.none, so.2.end (missing_some s.held front)))
        by (Err ReadFault) f so l = so.0
        by (Err OutOfMemory) f so l = so.0

    less : (given : List ℕ) (taken : List MessageView) → HoldsLess s given taken → HoldsLess t (given ++ d.piece) (taken ++ whole_of r)
    less given taken k = by r d.so
      where
        front : header_in_front s.held ≡ Ok None
        front = less_front s.held k.less g.readable

        by : (x : Result Pulled PullFault) → DrawsSo x s.held d.piece t.held after → HoldsLess t (given ++ d.piece) (taken ++ whole_of x)
        by (Ok More) so = less_more s t given d.piece taken so.1 (less_of (s.held ++ d.piece) so.2) k
        by (Ok (Whole m)) so = less_whole s t given d.piece taken so.2.0 m so.2.2 so.1 (just_whole s.held d.piece so.2.0 front asked so.2.1) (d.bytes so.0) so.2.1 k
        by (Ok Ended) so = less_same s t given d.piece taken so.1.none so.1.kept k
        by (Err (Bad fault)) (inl so) = let j = just_refused s.held d.piece fault front asked so.2 in less_more s t given d.piece taken so.1 (refused fault j.0 j.1) k
        by (Err (Bad fault)) (inr so) = less_same s t given d.piece taken so.2.none so.2.kept k
        by (Err ReadFault) so = less_same s t given d.piece taken so.0 so.1 k
        by (Err OutOfMemory) so = less_same s t given d.piece taken so.0 so.1 k

    pub pulls : Pulls r s t before after
    pulls = record { piece = d.piece; gave = d.gave; asked = d.asked; count = d.count; stands = stands; answer = λ _ given taken k. answer given taken k; less = less }

-- ---- a framer that is stopped reads nothing

never_read : (failed cut : Bool) (ends : Rest) → stopped_so failed cut ends ≡ Some ReadFault → ⊥
never_read true cut ends x = cc
never_read false true ends x = cc
never_read false false Clean x = cc
never_read false false Unfinished x = cc
never_read false false (Refused f) x = cc

none_counts : (fault : PullFault) (s : FramerView) → pull_fault_of s ≡ Some fault → (n : ℕ) → CountsSo (Err fault) n n
none_counts (Bad fault) s e n = refl
none_counts ReadFault s e n = absurd (never_read s.failed s.cut (rest_of s.held) e)
none_counts OutOfMemory s e n = refl

pub pulls_nothing : (fault : PullFault) (s : FramerView) (before : Spring) → pull_fault_of s ≡ Some fault → Pulls (Err fault) s s before before
pulls_nothing fault s before e = record {
  piece = [];
  gave = gave_none before.supply;
  asked = omega arith;
  count = none_counts fault s e before.faults;
  stands = λ given taken k. unread s s given [] taken refl refl refl (λ f. f) k;
  answer = λ goes. let wrong : Some fault ≡ None = sym e ∙ goes in cc;
  less = λ given taken k. less_same s s given [] taken refl refl k;
}

-- a new framer holds nothing
pub holds_fresh : (s : FramerView) → s ≡ fresh_framer → HoldsLess s [] []
holds_fresh s e = record { bytes = ap (λ (v : FramerView). v.held) (sym e); less = few (omega (arith, ap (λ (v : FramerView). length v.held) e)) }
