use Rattle.rewriting.specs.Origins.{origins_of}
use Rattle.rewriting.specs.Spots.{spot_of}
use Rattle.rules.proofs.WhereJoined.{joins_if_made}
use Rattle.rules.proofs.trial.joins_typed.Goals as goal

pub returns-clause-exact : goal.returns-clause-exact
returns-clause-exact g c =
    let o = origins_of c.args.scene.now in
    joins_if_made c.answers_of_typed_terms.ensures.instances o (spot_of c.args.place.now)
    c.args.at.now c.joins.result c.requires.typed (c.joins.ensures o)
