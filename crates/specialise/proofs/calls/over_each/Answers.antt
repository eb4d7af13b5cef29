use Rattle.std.proofs.Common.{◌∙◌, ap, sym, arith}
use Rattle.std.proofs.lemmas.List.{nil_from_length}
use Rattle.chw_typing.specs.HeadTypes.{from_each}
use Rattle.rewriting.specs.Origins.{under_each}
use Rattle.specialise.proofs.Lambdas.{under_last, from_last}
use Rattle.specialise.proofs.calls.over_each.Goals as goal

pub loop-ty-preserved : goal.loop-ty-preserved
loop-ty-preserved c =
    let left = c.pop.new.self.items in
    let t = c.in-Some.ty in
    let done = c.loop-ty.done in
    let whole = c.loop-ty.whole in
    let items = sym c.in-Some.ensures.items in (
      ap (under_each left) c.in_ok-next.ensures.0 ∙ sym (under_last left t done)
          ∙ ap (λ ts. under_each ts done) items ∙ c.loop-ty.invariant.0,
      ap (from_each left) c.in_ok-next.ensures.1 ∙ sym (from_last left t whole)
          ∙ ap (λ ts. from_each ts whole) items ∙ c.loop-ty.invariant.1,
    )

pub returns : goal.returns
returns c =
    let none = nil_from_length c.loop-ty.types.items
    (omega (arith, c.in_default.ensures.cases.0, c.loop-ty.types.ok.0)) in (
      sym (ap (λ ts. under_each ts c.loop-ty.done) none) ∙ c.loop-ty.invariant.0,
      sym (ap (λ ts. from_each ts c.loop-ty.whole) none) ∙ c.loop-ty.invariant.1,
    )
