use Rattle.chw_terms.specs.TermTree.{prim}
use Rattle.rewriting.specs.Origins.{origins_of}
use Rattle.rewriting.specs.Spots.{spot_of}
use Rattle.work_operands.proofs.Heads.{prim_answers}
use Rattle.call_types.proofs.Arguments.{arguments_typed}
use Rattle.work_operands.proofs.trial.name_of_prim.Goals as goal

pub name_argument-requires-clause-typed : goal.name_argument-requires-clause-typed
name_argument-requires-clause-typed c =
    arguments_typed (origins_of c.args.scene.now) (spot_of c.args.place.now) (prim c.args.which)
    c.args.args.now c.requires.typed

pub returns : goal.returns
returns c =
    prim_answers (origins_of c.args.scene.now) (spot_of c.args.place.now) c.args.which
    c.args.args.now c.prim_of-of.result c.asked_for_by-count.result c.name_argument.result
    c.prim_of-of.ensures c.asked_for_by-count.ensures c.name_argument.ensures
