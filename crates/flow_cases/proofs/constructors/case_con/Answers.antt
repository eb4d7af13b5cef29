use Rattle.chw_terms.specs.TermView.{alts_of}
use Rattle.flow_cases.proofs.Forms.{no_con, no_lit}
use Rattle.flow_cases.proofs.Inversions.{nothing_known}
use Rattle.flow_cases.proofs.Makings.{any_made}
use Rattle.flow_cases.proofs.constructors.case_con.Goals as goal

pub returns-in-Some : goal.returns-in-Some
returns-in-Some c o at is = any_made o at c.args.on.now (alts_of c.args.alts.now) c.in-Some.body.now c.in_ok-copy.field-0 c.in-Some.ensures c.in_ok-copy.ensures

pub returns-in_default-head : goal.returns-in_default-head
returns-in_default-head c o at is e' m =
    let h = c.on.inside.head in
    nothing_known o at h c.on.inside.args.items c.args.on.now (alts_of c.args.alts.now) e' (λ any. c.in_default.ensures any.0 any.1)
    (no_con h c.in_default-head.not-Con) (no_lit h c.in_default-head.not-Lit) c.on.view_is m
