-- A report that was printed to its end, and the output that was closed.
use Rattle.std.proofs.Common.{ℕ, List, ◌++◌, true, Option, Some, None, option_map, sym, ap, ◌∙◌, subst, inl, inr, append_assoc}
use Rattle.xd_edge.specs.Sink.{Sunk, with_bytes, with_close, with_flush, Printed}
use Rattle.xd_edge.specs.Printing.{ShowsSome}
use Rattle.xd_report.specs.Printing.{ShowsEnd}

end-more : (a b : List ℕ) (old mid new : Option Sunk) → Printed a old mid → ShowsEnd true b mid new → ShowsEnd true (a ++ b) old new
end-more a b None mid new x y = y ∙ ap (option_map (λ s. with_close (with_flush (with_bytes b s)))) x
end-more a b (Some s) mid new x y =
    y ∙ ap (option_map (λ s. with_close (with_flush (with_bytes b s)))) x
    ∙ ap (λ (l : List ℕ). Some (with_close (with_flush (record { bytes = l; flushed = s.flushed; closed = s.closed })))) (append_assoc s.bytes a b)

pub shows-end : (a b : List ℕ) (old mid new : Option Sunk) → ShowsSome a old mid → ShowsEnd true b mid new → ShowsEnd true (a ++ b) old new
shows-end a b old mid new (inl x) y = subst (λ (l : List ℕ). ShowsEnd true (l ++ b) old new) (sym x.0) (subst (λ (o : Option Sunk). ShowsEnd true b o new) x.1 y)
shows-end a b old mid new (inr x) y = end-more a b old mid new x y
