-- What dumps gives, in parts.
use Rattle.std.proofs.Common.{◌≡◌, ℕ, ◌≤◌, List, length, Bool, true, false, Some, Ok, Err, refl, sym, ◌∙◌, arith}
use Rattle.std.specs.Prelude.{if◌then◌else◌}
use Rattle.std.proofs.lemmas.Bool.Decides.{nat_tests}
use Rattle.std.proofs.lemmas.Grind.{common_steps}
use Rattle.xd_value.specs.Tree.{Tree, text}
use Rattle.xd_value.specs.Canonical.{canonical, dumped, IsDump}
use Rattle.xd_value.specs.declared.writing.DumpFault.{DumpFault}
use Rattle.xd_value.specs.declared.writing.DumpFault.TheVariants as dump
use Rattle.xd_factory.specs.Table.{is_long, close_refusal, close_fault_of, IsCloseRefusal}

-- what is written fits a message
pub dumped_short : (t : Tree) (b : List ℕ) → dumped t ≡ Ok b → length b ≤ 16777216
unfolding dumped
dumped_short t b h = grind (arith, nat_tests, common_steps)

-- a text is written unless it is too long
pub dumped_text : (cs : List ℕ) → dumped (text cs) ≡ (if is_long (Some cs) then Err dump.TooLong else Ok (canonical (text cs)))
unfolding dumped
dumped_text cs = refl

by_length : (long : Bool) (c : List ℕ) (b : List ℕ) → (if long then Err dump.TooLong else Ok c) ≡ Ok b → (long ≡ false) × (b ≡ c)
by_length true c b h = absurd (let z = h in cc)
by_length false c b h = (refl, cc)

-- the payload of a text
pub text_dump : (cs b : List ℕ) → dumped (text cs) ≡ Ok b → (is_long (Some cs) ≡ false) × (b ≡ canonical (text cs))
text_dump cs b h = by_length (is_long (Some cs)) (canonical (text cs)) b (sym (dumped_text cs) ∙ h)

-- a text that has none is too long
refused_length : (long : Bool) (c : List ℕ) (f : DumpFault) → (if long then Err dump.TooLong else Ok c) ≡ Err f → close_refusal true long ≡ Some (close_fault_of f)
refused_length false c f h = absurd (let z = h in cc)
refused_length true c dump.TooLong h = refl
refused_length true c dump.TooDeep h = refl
refused_length true c dump.Unhashable h = refl
refused_length true c dump.Repeated h = refl
refused_length true c dump.BadChannel h = refl
refused_length true c dump.OutOfMemory h = absurd (let z = h in cc)

pub text_refused : (cs : List ℕ) (f : DumpFault) → IsDump (Err f) (dumped (text cs)) → IsCloseRefusal (close_refusal true (is_long (Some cs))) (close_fault_of f)
text_refused cs dump.OutOfMemory h = tt
text_refused cs dump.TooLong h = refused_length (is_long (Some cs)) (canonical (text cs)) dump.TooLong (sym (dumped_text cs) ∙ h)
text_refused cs dump.TooDeep h = refused_length (is_long (Some cs)) (canonical (text cs)) dump.TooDeep (sym (dumped_text cs) ∙ h)
text_refused cs dump.Unhashable h = refused_length (is_long (Some cs)) (canonical (text cs)) dump.Unhashable (sym (dumped_text cs) ∙ h)
text_refused cs dump.Repeated h = refused_length (is_long (Some cs)) (canonical (text cs)) dump.Repeated (sym (dumped_text cs) ∙ h)
text_refused cs dump.BadChannel h = refused_length (is_long (Some cs)) (canonical (text cs)) dump.BadChannel (sym (dumped_text cs) ∙ h)
