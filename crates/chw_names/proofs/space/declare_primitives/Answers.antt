use Rattle.std.proofs.Common.{map, ap, ◌∙◌, arith}
use Rattle.std.proofs.lemmas.List.{take_all}
use Rattle.chw_prims.specs.Names.{name_of}
use Rattle.name_tables.specs.Names.{with_name}
use Rattle.chw_names.specs.Words.{with_names}
use Rattle.chw_names.proofs.Declaring.{name_more}
use Rattle.chw_names.proofs.space.declare_primitives.Goals as goal

pub loop-primitive-preserved : goal.loop-primitive-preserved
loop-primitive-preserved c =
    name_more name_of c.args.primitives.now c.loop-primitive.primitive-index _ c.args.names.now c.loop-primitive-test.true c.loop-primitive.invariant
    (c.in_ok-declare.ensures.names ∙ ap (with_name c.loop-primitive.names) (c.as_bytes.ensures.value ∙ c.name.ensures))

pub returns : goal.returns
returns c =
    c.loop-primitive.invariant ∙ ap (λ ps. with_names c.args.names.now (map name_of ps)) (take_all c.loop-primitive.primitive-index c.args.primitives.now (omega (arith, c.loop-primitive-test.false)))
