use Rattle.std.proofs.Common.{◌≡◌, ℕ, List, Bool, false, sym, ap, subst, ◌∙◌}
use Rattle.std.specs.Prelude.{◌==◌, ◌&&◌, Result}
use Rattle.xd_frame.specs.declared.kind.Kind.{Kind}
use Rattle.xd_frame.specs.declared.kind.Kind.TheVariants as kind
use Rattle.xd_factory.specs.declared.word.Word.{Word}
use Rattle.xd_factory.specs.declared.faults.SideFault.{SideFault}
use Rattle.xd_factory.specs.Said.{is_numbered, is_unnumbered}
use Rattle.xd_factory.specs.Reads.{MessageReads}
use Rattle.xd_factory.proofs.Readings.{exec-reads, item-reads, error-reads, exec-unread, item-unread, error-unread}
use Rattle.xd_factory.proofs.word.read_parts.Goals as goal

-- what is shown of a kind holds of the message
at_kind : (k j : Kind) (c : ℕ) (b : List ℕ) (r : Result Word SideFault) (lacks : Bool) → k ≡ j → lacks ≡ (c == 0) && is_numbered k → lacks ≡ false
    → (is_unnumbered (record { kind = j; channel = c; payload = b }) ≡ false → MessageReads (record { kind = j; channel = c; payload = b }) r)
    → MessageReads (record { kind = k; channel = c; payload = b }) r
at_kind k j c b r lacks e h n f =
    subst (λ (i : Kind). MessageReads (record { kind = i; channel = c; payload = b }) r) (sym e) (f (sym (h ∙ ap (λ i. (c == 0) && is_numbered i) e) ∙ n))

pub returns-in-Ok : goal.returns-in-Ok
returns-in-Ok c = at_kind _ kind.Exec _ _ _ _ c.in-Exec.is c.lacks_number.ensures c.if-lacks_number.false (λ n. exec-reads _ _ _ c.requires n c.in-Ok.ensures)

pub returns-in-Err : goal.returns-in-Err
returns-in-Err c = at_kind _ kind.Exec _ _ _ _ c.in-Exec.is c.lacks_number.ensures c.if-lacks_number.false (λ n. exec-unread _ _ _ n c.in-Err.ensures)

pub returns-in-Ok-read_value : goal.returns-in-Ok-read_value
returns-in-Ok-read_value c = at_kind _ kind.Item _ _ _ _ c.in-Item.is c.lacks_number.ensures c.if-lacks_number.false (λ n. item-reads _ _ _ c.requires n c.in-Ok-read_value.ensures)

pub returns-in-Err-read_value : goal.returns-in-Err-read_value
returns-in-Err-read_value c = at_kind _ kind.Item _ _ _ _ c.in-Item.is c.lacks_number.ensures c.if-lacks_number.false (λ n. item-unread _ _ _ n c.in-Err-read_value.ensures)

pub returns-in-Ok-read_text : goal.returns-in-Ok-read_text
returns-in-Ok-read_text c = at_kind _ kind.CloseError _ _ _ _ c.in-CloseError.is c.lacks_number.ensures c.if-lacks_number.false (λ n. error-reads _ _ _ c.requires n c.in-Ok-read_text.ensures)

pub returns-in-Err-read_text : goal.returns-in-Err-read_text
returns-in-Err-read_text c = at_kind _ kind.CloseError _ _ _ _ c.in-CloseError.is c.lacks_number.ensures c.if-lacks_number.false (λ n. error-unread _ _ _ n c.in-Err-read_text.ensures)
