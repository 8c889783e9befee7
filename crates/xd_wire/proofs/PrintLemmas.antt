-- What a sink took of the text of a file.
use Rattle.std.proofs.Common.{◌≡◌, ℕ, Bool, true, false, List, [], ◌++◌, Option, Some, None, Result, Ok, Err, option_map, refl, sym, ap, subst, ◌∙◌, append_assoc}
use Rattle.std.specs.Prelude.{OnOk, OnErr, is_err, is_ok}
use Rattle.std.proofs.lemmas.List.{append-nil}
use Rattle.xd_edge.specs.Sink.{Sunk, Took, TookPart, Printed, with_flush}
use Rattle.xd_edge.proofs.SinkLemmas.{took_nothing, took_more, took_then_part, part_of_more, took_is_part}
use Rattle.xd_wire.specs.inner.Lines.{Texts, Continues, ended, texts_at}
use Rattle.xd_wire.specs.WireText.{IsWireText}
use Rattle.xd_wire.specs.Printing.{TookUpTo, TookPartOfEach, HasText, Prints, end_with}

continues_self : (whole : Texts) → Continues whole [] whole
continues_self whole = record { forth = λ more faulty k. k; back = λ all faulty k. (all, refl, k) }

continues_more : (whole mid later : Texts) (a b : List ℕ) → Continues whole a mid → Continues mid b later → Continues whole (a ++ b) later
continues_more whole mid later a b first then =
    record {
      forth = λ more faulty k. subst (λ l. whole l faulty) (sym (append_assoc a b more)) (first.forth (b ++ more) faulty (then.forth more faulty k));
      back = λ all faulty k. let x = first.back all faulty k in let y = then.back x.0 faulty x.2 in (y.0, x.1 ∙ (ap (λ l. a ++ l) y.1 ∙ sym (append_assoc a b y.0)), y.2);
    }

-- nothing was taken yet
pub up_to_start : (whole : Texts) (sunk : Option Sunk) → TookUpTo whole whole sunk sunk
up_to_start whole sunk = record { text = []; continues = continues_self whole; took = took_nothing sunk }

-- one more line was taken
pub up_to_next : (whole mid later : Texts) (line : List ℕ) (old now new : Option Sunk) → TookUpTo whole mid old now → Continues mid line later → Took line now new → TookUpTo whole later old new
up_to_next whole mid later line old now new k c t =
    record { text = k.text ++ line; continues = continues_more whole mid later k.text line k.continues c; took = took_more k.text line old now new k.took t }

-- a part of one more line was taken
pub up_to_part : (whole mid later : Texts) (line : List ℕ) (old now new : Option Sunk) → TookUpTo whole mid old now → Continues mid line later → TookPart line now new → TookPartOfEach whole old new
up_to_part whole mid later line old now new k c t all faulty w =
    let more = (continues_more whole mid later k.text line k.continues c).back all faulty w in
    subst (λ l. TookPart l old new) (sym more.1) (part_of_more (k.text ++ line) more.0 old new (took_then_part k.text line old now new k.took t))

-- no further line was made
pub up_to_stop : (whole later : Texts) (old new : Option Sunk) → TookUpTo whole later old new → TookPartOfEach whole old new
up_to_stop whole later old new k all faulty w =
    let more = k.continues.back all faulty w in
    subst (λ l. TookPart l old new) (sym more.1) (part_of_more k.text more.0 old new (took_is_part k.text old new k.took))

-- the text was taken as a whole
pub whole_text : (whole : Texts) (fault : Bool) (old new : Option Sunk) → TookUpTo whole (ended fault) old new → (text : List ℕ) × whole text fault
whole_text whole fault old new k = (k.text, subst (λ l. whole l fault) (append-nil k.text) (k.continues.forth [] fault (refl, refl)))

-- and it is the only text
pub only_text : (whole : Texts) (fault : Bool) (old new : Option Sunk) → TookUpTo whole (ended fault) old new → (text : List ℕ) (faulty : Bool) → whole text faulty → (faulty ≡ fault) × Took text old new
only_text whole fault old new k text faulty w =
    let more = k.continues.back text faulty w in
    let same : text ≡ k.text = more.1 ∙ (ap (λ l. k.text ++ l) more.2.0 ∙ append-nil k.text) in
    (more.2.1, subst (λ l. Took l old new) (sym same) k.took)

printed_by : (text : List ℕ) (old now new : Option Sunk) → Took text old now → new ≡ option_map with_flush now → Printed text old new
printed_by text None now new t e = e ∙ ap (option_map with_flush) t
printed_by text (Some s) now new t e = e ∙ ap (option_map with_flush) t

pub has_text : (bytes : List ℕ) (fault : Bool) (old new : Option Sunk) → TookUpTo (texts_at bytes 0) (ended fault) old new → HasText bytes (end_with fault)
has_text bytes true old new k = whole_text (texts_at bytes 0) true old new k
has_text bytes false old new k = whole_text (texts_at bytes 0) false old new k

-- what was taken is handed on
pub prints : (bytes : List ℕ) (fault : Bool) (old now new : Option Sunk) → TookUpTo (texts_at bytes 0) (ended fault) old now → new ≡ option_map with_flush now
    → (text : List ℕ) (faulty : Bool) → IsWireText bytes text faulty → Prints (Ok (end_with fault)) text faulty old new
prints bytes true old now new k e text faulty w = let o = only_text (texts_at bytes 0) true old now k text faulty w in (o.0, printed_by text old now new o.1 e)
prints bytes false old now new k e text faulty w = let o = only_text (texts_at bytes 0) false old now k text faulty w in (o.0, printed_by text old now new o.1 e)

pub when_err : {A E : Type 0} (r : Result A E) (P : Type 0) → is_err r ≡ true → OnErr r P → P
when_err (Ok x) P e p = cc
when_err (Err x) P e p = p

pub was_ok : {A E : Type 0} (r : Result A E) → is_err r ≡ false → is_ok r ≡ true
was_ok (Ok x) e = refl
was_ok (Err x) e = cc

pub when_ok : {A E : Type 0} (r : Result A E) (P : Type 0) → is_err r ≡ false → OnOk r P → P
when_ok (Ok x) P e p = p
when_ok (Err x) P e p = cc
