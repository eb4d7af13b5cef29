-- Lifted terms, from the outermost in.
use Rattle.std.proofs.Common.{ap, sym, subst, arith}
use Rattle.std.proofs.lemmas.Result.{IfOk-weaker}
use Rattle.chw_prims.specs.declared.prim.Primitive.TheVariants.{Fmap}
use Rattle.chw_terms.specs.TermSize.{tree_size}
use Rattle.chw_terms.specs.TermTree.{TermTree}
use Rattle.value_build.specs.InScope.{in_scope}
use Rattle.circuit_build.specs.Lifting.{lifting, IsLiftedOn, AreLiftedReads}
use Rattle.circuit_build.specs.Views.{IsReadLifted}
use Rattle.circuit_build.proofs.SignalCells.{reads_lifted, more_lifted}
use Rattle.circuit_build.proofs.signals.+lifted.Goals as goal

pub lifted-lifted_on_one-requires : goal.lifted-lifted_on_one-requires
lifted-lifted_on_one-requires t c = (subst (λ k. IsReadLifted k c.args.u.now) c.in-OnOne.is c.lifted_of.ensures).1

pub lifted-lifted_on_more-requires : goal.lifted-lifted_on_more-requires
lifted-lifted_on_more-requires t c =
    let read = subst (λ k. IsReadLifted k c.args.u.now) c.in-OnMore.is c.lifted_of.ensures in
    (omega (arith, c.decreases, ap tree_size read.0), read.1)

pub lifted-returns-in-OnOne : goal.lifted-returns-in-OnOne
lifted-returns-in-OnOne t c =
    let p = c.in-OnOne.p in
    let scope = in_scope c.args.scope.now in
    let before = c.args.reads.now.items in
    let later = c.lifted_on_one.new.reads.items in
    let read = subst (λ k. IsReadLifted k c.args.u.now) c.in-OnOne.is c.lifted_of.ensures in
    IfOk-weaker c.lifted_on_one.result
    (λ m. IsLiftedOn scope m.number (lifting Fmap p) before later)
    (λ m. IsLiftedOn scope m.number c.args.u.now before later)
    (λ m is. subst (λ (u : TermTree). IsLiftedOn scope m.number u before later) (sym read.0) is)
    c.lifted_on_one.ensures

pub lifted-returns-in-OnMore : goal.lifted-returns-in-OnMore
lifted-returns-in-OnMore t c =
    let p = c.in-OnMore.p in
    let scope = in_scope c.args.scope.now in
    let before = c.args.reads.now.items in
    let later = c.lifted_on_more.new.reads.items in
    let read = subst (λ k. IsReadLifted k c.args.u.now) c.in-OnMore.is c.lifted_of.ensures in
    IfOk-weaker c.lifted_on_more.result
    (λ m. AreLiftedReads scope m.number p.function.now p.signal.now before later)
    (λ m. IsLiftedOn scope m.number c.args.u.now before later)
    (λ m is. subst (λ (u : TermTree). IsLiftedOn scope m.number u before later) (sym read.0)
    (more_lifted scope p.domain.now p.from.now p.to.now p.function.now p.signal.now m.number before later is))
    c.lifted_on_more.ensures

pub lifted_on_more-returns : goal.lifted_on_more-returns
lifted_on_more-returns t c =
    let p = c.args.p in
    reads_lifted (in_scope c.args.scope.now) p.function.now p.signal.now c.in_ok-m.m.number
    c.wires_of.result.now c.args.reads.now.items c.lifted.new.reads.items c.extend_from_slice.new.self.items
    c.in_ok-m.ensures c.wires_of.ensures c.in_ok-extend_from_slice.ensures.items
