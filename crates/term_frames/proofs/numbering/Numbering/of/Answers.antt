use Rattle.std.proofs.Common.{List, subst}
use Rattle.chw_terms.specs.declared.program.Def.{Def}
use Rattle.term_frames.specs.Numbers.{AreNumbered}
use Rattle.term_frames.proofs.Numbered.{numbered_grown}
use Rattle.term_frames.proofs.numbering.Numbering.of.Goals as goal

pub returns : goal.returns
returns c =
    let ts = c.constructor_numbers.new.types in
    let ns = c.in_ok-definitions.definitions.items in
    let here = numbered_grown c.definition_numbers.new.types ts ns c.as_slice.result.now c.in_ok-constructors.ensures.grown c.in_ok-definitions.ensures in
    record { definitions = subst (λ (ds : List Def). AreNumbered ts ns ds) c.as_slice.ensures here; constructors = c.in_ok-constructors.ensures.are }
