use Rattle.std.proofs.Common.{Option, sym, subst}
use Rattle.chw_terms.specs.declared.rule.Rule.TheVariants.{CaseCon, CaseLet}
use Rattle.chw_terms.specs.TermTree.{TermTree}
use Rattle.rewriting.specs.Origins.{origins_of}
use Rattle.rewriting.specs.Spots.{spot_of}
use Rattle.seen_types.proofs.Matched.{ok_more}
use Rattle.flow_cases.specs.Answered.{AnswersAnywhere, AnswersOver, AnswersCase}
use Rattle.flow_cases.proofs.trial.of_case.Goals as goal

pub returns-in-CaseCon : goal.returns-in-CaseCon
returns-in-CaseCon c =
    let o = origins_of c.args.scene.now in
    let at = spot_of c.args.place.now in
    let on = c.args.on.now in
    let alts = c.args.alts.now in
    ok_more c.case_con.result (AnswersOver c.args.signature.now.constructors CaseCon on alts) (AnswersCase o at c.args.rule on alts)
    (λ (made : Option TermTree) h. subst (λ r. AnswersCase o at r on alts made) (sym c.in-CaseCon.is) (h o at (sym c.requires.table.constructors))) c.case_con.ensures

pub returns-in-CaseLet : goal.returns-in-CaseLet
returns-in-CaseLet c =
    let o = origins_of c.args.scene.now in
    let at = spot_of c.args.place.now in
    let on = c.args.on.now in
    let alts = c.args.alts.now in
    ok_more c.case_let.result (AnswersAnywhere CaseLet on alts) (AnswersCase o at c.args.rule on alts)
    (λ (made : Option TermTree) h. subst (λ r. AnswersCase o at r on alts made) (sym c.in-CaseLet.is) (h o at)) c.case_let.ensures
