use Rattle.std.proofs.Common.{arith, get_or, refl}
use Rattle.chw_prims.specs.declared.names.TheConstants.{ALL}
use Rattle.chw_prims.specs.declared.prim.Primitive.{Primitive}
use Rattle.chw_prims.specs.declared.prim.Primitive.TheVariants.{AddU}
use Rattle.chw_prims.specs.Schemas.{schema_type}
use Rattle.term_frames.specs.Signatures.{head_type}
use Rattle.seen_types.proofs.EachItem.{mapped_next, mapped_all}
use Rattle.term_frames.proofs.signature.primitive_types.Goals as goal

pub loop-which-preserved : goal.loop-which-preserved
loop-which-preserved c =
    let l = c.loop-which in
    mapped_next (λ (q : Primitive). head_type c.args.program.now (schema_type q)) ALL l.types.items c.push.new.self.items l.which-index (get_or ALL l.which-index AddU) AddU c.in_ok-primitive_type.field-0 c.loop-which-test.true refl l.invariant c.in_ok-primitive_type.ensures c.in_ok-push.ensures.items

pub returns : goal.returns
returns c =
    let l = c.loop-which in
    mapped_all (λ (q : Primitive). head_type c.args.program.now (schema_type q)) ALL l.types.items l.which-index (omega (arith, c.loop-which-test.false)) l.invariant
