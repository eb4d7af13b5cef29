use Rattle.std.proofs.Common.{sym, subst}
use Rattle.chw_terms.specs.TermView.{tree_of}
use Rattle.chw_terms.specs.declared.term.Head.{Head}
use Rattle.chw_typing.specs.Scopes.{setting_in}
use Rattle.term_frames.specs.Numbers.{IsNumberFound}
use Rattle.term_frames.proofs.Numbered.{global_number, con_number}
use Rattle.term_frames.proofs.numbering.number_of_head.Goals as goal

pub returns-in-Global : goal.returns-in-Global
returns-in-Global c scene h =
    let s = c.args.signature.now in
    subst (λ (e : Head). IsNumberFound (setting_in scene) s.numbering.types c.of_definition.result (tree_of e)) (sym c.in-Global.is)
    (global_number scene s c.in-Global.at.number c.of_definition.result h c.of_definition.ensures)

pub returns-in-Con : goal.returns-in-Con
returns-in-Con c scene h =
    let s = c.args.signature.now in
    subst (λ (e : Head). IsNumberFound (setting_in scene) s.numbering.types c.of_constructor.result (tree_of e)) (sym c.in-Con.is)
    (con_number scene s c.in-Con.at.number c.of_constructor.result h c.of_constructor.ensures)
