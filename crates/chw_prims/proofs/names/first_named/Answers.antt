use Rattle.std.proofs.Common.{◌≡◌, ℕ, ◌<◌, get_or, ap, ◌∙◌, arith}
use Rattle.std.specs.List.{Contains}
use Rattle.std.proofs.lemmas.Bool.{false≢true}
use Rattle.std.proofs.lemmas.List.{get_or_default}
use Rattle.std.proofs.lemmas.Slice.Eq.{bytes_eq-Decides}
use borrow.Author.Count.{below_more}
use Rattle.chw_prims.specs.declared.prim.Primitive.{Primitive}
use Rattle.chw_prims.specs.declared.prim.Primitive.TheVariants.{AddU}
use Rattle.chw_prims.specs.Names.{name_of}
use Rattle.chw_prims.proofs.names.first_named.Goals as goal

pub loop-primitive-preserved : goal.loop-primitive-preserved
loop-primitive-preserved c =
    below_more (λ (k : ℕ). name_of (get_or c.args.primitives.now k AddU) ≡ c.args.sought.now → ⊥) c.loop-primitive.primitive-index c.loop-primitive.invariant
    (λ e. false≢true (c.if-eq.ensures ∙ (bytes_eq-Decides c.as_bytes.result.now c.args.sought.now).1 (c.as_bytes.ensures.value ∙ c.name.ensures ∙ e)))

pub returns-clause-unknown : goal.returns-clause-unknown
returns-clause-unknown c = λ (p : Primitive) (in_it : Contains c.args.primitives.now p) e.
    let within : in_it.0 < c.loop-primitive.primitive-index = omega (arith, in_it.1, c.loop-primitive-test.false) in
    c.loop-primitive.invariant in_it.0 within (ap name_of (get_or_default c.args.primitives.now in_it.0 AddU p in_it.1 ∙ in_it.2) ∙ e)
