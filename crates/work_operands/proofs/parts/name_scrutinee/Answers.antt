use Rattle.std.proofs.Common.{◌∙◌, ap, sym, subst}
use Rattle.chw_terms.specs.declared.rule.Rule.TheVariants.{Anf}
use Rattle.chw_terms.specs.TermTree.{case_of}
use Rattle.chw_terms.specs.TermView.{alts_of}
use Rattle.rewriting.specs.Origins.{origins_of}
use Rattle.rewriting.specs.Spots.{spot_of}
use Rattle.rewriting.specs.Operands.{NeedsName, OfOperands}
use Rattle.seen_types.proofs.Matched.{of_none}
use Rattle.work_operands.specs.Firsts.{AnswersName, NeedsNameOf}
use Rattle.work_operands.specs.Named.{let_of}
use Rattle.work_operands.proofs.CasesAndVectors.{scrutinee_named, scrutinee_stays}
use Rattle.work_operands.proofs.Typed.{scrutinee_typed}
use Rattle.work_operands.proofs.parts.name_scrutinee.Goals as goal

pub name_needed-requires-clause-typed : goal.name_needed-requires-clause-typed
name_needed-requires-clause-typed c =
    scrutinee_typed (origins_of c.args.scene.now) (spot_of c.args.place.now) c.args.on.now
    (alts_of c.args.alts.now) c.requires.typed

pub returns-in_default : goal.returns-in_default
returns-in_default c =
    let o = origins_of c.args.scene.now in
    let at = spot_of c.args.place.now in
    let e = c.args.on.now in
    scrutinee_stays e (alts_of c.args.alts.now)
    (of_none (NeedsName o at e → ⊥) (NeedsNameOf o at e) c.in_ok-ty.field-0 c.in_default.not-Some
    c.in_ok-ty.ensures)

pub returns : goal.returns
returns c =
    let o = origins_of c.args.scene.now in
    let at = spot_of c.args.place.now in
    let e = c.args.on.now in
    let alts = alts_of c.args.alts.now in
    let t = c.in-Some.ty in
    let needs : NeedsNameOf o at e t = subst (AnswersName o at e) c.in-Some.is c.in_ok-ty.ensures in
    let made = c.in_ok-let_one.ensures ∙ ap (let_of t e) c.in_ok-body.ensures in
    subst (OfOperands o at Anf (case_of e alts)) (sym made) (scrutinee_named e alts needs)
