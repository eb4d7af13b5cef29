use Rattle.std.proofs.Common.{◌⊎◌}
use Rattle.chw_terms.specs.declared.rule.Rule.TheVariants.{Anf}
use Rattle.rewriting.specs.Origins.{origins_of}
use Rattle.rewriting.specs.Spots.{spot_of}
use Rattle.rewriting.specs.Calls.{OfWhole}
use Rattle.rewriting.specs.Operands.{NoneNeedsName}
use Rattle.rule_parts.specs.Cores.{MakesOf}
use Rattle.seen_types.proofs.Matched.{of_none}
use Rattle.work_operands.proofs.trial.try_operands.Goals as goal

pub name_result-requires-clause-none : goal.name_result-requires-clause-none
name_result-requires-clause-none c =
    let o = origins_of c.args.scene.now in
    let at = spot_of c.args.place.now in
    let e = c.args.at.now in
    of_none (NoneNeedsName o at e) (λ e'. MakesOf o at Anf e e' ⊎ OfWhole o at Anf e e')
    c.in_ok-made.field-0 c.in_default.not-Some c.in_ok-made.ensures
