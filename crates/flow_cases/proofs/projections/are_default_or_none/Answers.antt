use Rattle.std.proofs.Common.{◌∙◌, ◌==◌, ap, sym, refl, length, List, eqb-true}
use Rattle.std.proofs.lemmas.List.{nil_from_length}
use Rattle.chw_terms.specs.declared.term.Alt.{Alt}
use Rattle.flow_cases.proofs.Branches.{none_or_lone, lone_default, empty_default}
use Rattle.flow_cases.proofs.projections.are_default_or_none.Goals as goal

pub returns-in-Some : goal.returns-in-Some
returns-in-Some c = (λ t. lone_default c.args.alts.now c.in-Some.field-0.now c.in-Some.ensures, λ h. refl)

pub returns-in-None : goal.returns-in-None
returns-in-None c =
    let alts = c.args.alts.now in (
      λ t. empty_default alts (nil_from_length _ (eqb-true (length alts) 0 (sym c.is_empty.ensures ∙ t))),
      λ h. c.is_empty.ensures ∙ ap (λ (xs : List Alt). length xs == 0) (none_or_lone alts h c.in-None.ensures),
    )
