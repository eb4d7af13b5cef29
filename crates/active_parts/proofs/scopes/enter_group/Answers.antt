use Rattle.std.proofs.Common.{◌≡◌, ◌∙◌, ◌++◌, ap, map, take, arith}
use Rattle.std.proofs.lemmas.List.{take_all}
use Rattle.chw_terms.specs.declared.term.Binding.{Binding}
use Rattle.active_parts.specs.Grounds.{with_variables}
use Rattle.active_parts.proofs.Declared.{types_declared}
use Rattle.active_parts.proofs.scopes.enter_group.Goals as goal

pub returns : goal.returns
returns c =
    let at = c.args.place.now in
    let bs = c.args.bindings.now in
    let n = c.loop-binding.binding-index in
    let all : take n bs ≡ bs = take_all n bs (omega (arith, c.loop-binding-test.false)) in
    let types = ap (map (λ (b : Binding). b.ty)) all ∙ types_declared bs in
    c.loop-binding.invariant ∙ ap (λ ts. with_variables at (at.vars ++ ts)) types
