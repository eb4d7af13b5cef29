use Rattle.std.proofs.Common.{sym, ◌∙◌}
use Rattle.std.proofs.lemmas.Bool.{false≢true}
use Rattle.chw_terms.specs.TermView.{alts_of}
use Rattle.chw_check.proofs.LeftOut.{constructor_left, default_left, missing_found}
use Rattle.chw_check.proofs.cases.alternatives.left_out.Goals as goal

pub returns-in-Some-2 : goal.returns-in-Some-2
returns-in-Some-2 c =
    let datas = c.args.constructors.now in
    let alts = c.args.alts.now in
    let at = c.in-Constructors-OfCon.at in
    let missing = c.in-Some-2.missing in
    constructor_left datas c.args.sought alts c.in-Some.first.now at c.in-Constructors-OfCon.field-1-1 missing c.in-Constructors-OfCon.is-0 c.in-Some.ensures.value c.in-Constructors-OfCon.is-1
    (λ h. false≢true (sym c.if-has_default.false ∙ c.has_default.ensures.1 h))
    (missing_found datas at.number (alts_of alts) c.in_ok-missing-in-Constructors-OfCon.field-0 missing c.in-Some-2.is c.in_ok-missing-in-Constructors-OfCon.ensures)

pub returns-in-Defaults-OfLit : goal.returns-in-Defaults-OfLit
returns-in-Defaults-OfLit c =
    default_left c.args.constructors.now c.args.sought c.args.alts.now c.in-Some.first.now c.in-Defaults-OfLit.field-0-1 c.in-Defaults-OfLit.field-1-1 c.in-Defaults-OfLit.is-0 c.in-Some.ensures.value c.in-Defaults-OfLit.is-1
    (λ h. false≢true (sym c.if-has_default.false ∙ c.has_default.ensures.1 h))
