use Rattle.rewriting.specs.Origins.{origins_of}
use Rattle.rewriting.specs.Spots.{spot_of}
use Rattle.specialise.proofs.Needs.{of_term}
use Rattle.specialise.proofs.calls.argument_needs_name.Goals as goal

pub returns-in-OfTerm : goal.returns-in-OfTerm
returns-in-OfTerm c =
    of_term (origins_of c.args.scene.now) (spot_of c.args.place.now) c.args.arg.now c.in-OfTerm.term c.needs_name.result c.in-OfTerm.is c.needs_name.ensures

pub returns-in-OfType : goal.returns-in-OfType
returns-in-OfType c =
    (λ t. absurd cc, λ n. let is = n.1 in let other = c.in-OfType.is in absurd cc)

pub needs_name-requires-clause-typed : goal.needs_name-requires-clause-typed
needs_name-requires-clause-typed c = c.requires.typed c.in-OfTerm.term c.in-OfTerm.is
