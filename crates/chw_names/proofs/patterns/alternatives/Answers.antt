use Rattle.std.proofs.Common.{[]}
use Rattle.std.specs.List.{flat_map}
use Rattle.chw_names.specs.Literals.{second_literals}
use Rattle.chw_names.specs.Twices.{constructor_of_alternative, literal_of_alternative}
use Rattle.chw_names.specs.Words.{seconds}
use Rattle.chw_names.proofs.Steps.{meets_then}
use Rattle.chw_names.proofs.patterns.alternatives.Goals as goal

pub returns : goal.returns
returns c =
    let alts = c.args.alternatives.now in
    meets_then (seconds [] (flat_map constructor_of_alternative alts)) (second_literals (flat_map literal_of_alternative alts)) c.in_ok-constructors.ensures c.in_ok-literals.ensures
