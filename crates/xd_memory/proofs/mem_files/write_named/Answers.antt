use Rattle.std.proofs.Common.{◌≤◌, ◌∙◌, length, Some, IsSomeAnd, ap, sym, subst}
use Rattle.xd_memory.proofs.FileLemmas.{found, held-written, held-others, missing}
use Rattle.xd_memory.proofs.mem_files.write_named.Goals as goal

pub returns-in-Some-clause-written : goal.returns-in-Some-clause-written
returns-in-Some-clause-written c is =
    held-written _ _ _ c.index-files-place.result (sym c.place_of.ensures ∙ c.in-Some.is) c.write.new.self c.write.ensures.kept.0
    ∙ ap Some (c.write.ensures.written is)

pub returns-in-Some-clause-others : goal.returns-in-Some-clause-others
returns-in-Some-clause-others c =
    held-others _ _ _ c.index-files-place.result (sym c.place_of.ensures ∙ c.in-Some.is) c.write.new.self c.write.ensures.kept.0

pub returns-in-Some-clause-room : goal.returns-in-Some-clause-room
returns-in-Some-clause-room c has =
    c.write.ensures.room
    (subst
    (λ file. IsSomeAnd file (λ f. length c.args.bytes.now ≤ f.room))
    (found _ _ _ c.index-files-place.result (sym c.place_of.ensures ∙ c.in-Some.is))
    has)

pub returns-in-None-clause-room : goal.returns-in-None-clause-room
returns-in-None-clause-room c has =
    absurd
    (subst
    (λ file. IsSomeAnd file (λ f. length c.args.bytes.now ≤ f.room))
    (missing c.args.files.now c.args.name.now (sym c.place_of.ensures ∙ c.in-None.is))
    has)
