use Rattle.std.proofs.Common.{◌∙◌, sym, refl, length, eqb-true}
use Rattle.std.proofs.lemmas.List.{nil_from_length}
use Rattle.flow_cases.proofs.Branches.{lone_is, lone_made, no_lone}
use Rattle.flow_cases.proofs.Makings.{not_empty}
use Rattle.flow_cases.proofs.alternatives.lone_default.Goals as goal

pub returns-in_default : goal.returns-in_default
returns-in_default c f q = no_lone c.args.alts.now f (nil_from_length _ c.in_default.ensures.cases) q

pub returns-then-not-is_empty : goal.returns-then-not-is_empty
returns-then-not-is_empty c f q =
    let others = c.in-Some.others.now in
    let lone = lone_is c.args.alts.now c.in-Some.only.now others f c.in-Some.ensures.cases.0 q in
    not_empty others (length others) refl (sym c.is_empty.ensures ∙ c.if-not-is_empty.true) lone.rest

pub returns-in-Default : goal.returns-in-Default
returns-in-Default c =
    let others = c.in-Some.others.now in
    lone_made c.args.alts.now c.in-Some.only.now others c.in-Some.ensures.cases.0
    (nil_from_length _ (eqb-true (length others) 0 (sym c.is_empty.ensures ∙ c.if-not-is_empty.false))) c.in-Default.is
