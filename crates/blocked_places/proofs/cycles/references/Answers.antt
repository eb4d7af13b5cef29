use Rattle.std.proofs.Common.{◌≡◌, ◌∙◌, ◌+◌, ◌++◌, ◌∷◌, [], ℕ, List, length, length-append, sym, ap, subst, take, arith}
use Rattle.chw_terms.specs.declared.term.Binding.{Binding}
use Rattle.graph_order.specs.Orders.{numbers}
use Rattle.blocked_places.specs.Cycles.{AreNamedBy, AreReferences}
use Rattle.blocked_places.proofs.Related.{related_next, related_end, numbers_push}
use Rattle.blocked_places.proofs.cycles.references.Goals as goal

pub loop-binding-preserved : goal.loop-binding-preserved
loop-binding-preserved c =
    let n = c.in_ok-count.count in
    let flags = c.args.flags.now in
    let bs = c.args.bindings.now in
    let i = c.loop-binding.binding-index in
    let old = c.loop-binding.lists.items in
    let list = c.in_ok-named_by.field-0 in
    let one : List (List ℕ) = list.items ∷ [] in
    let new : numbers c.push.new.self.items ≡ numbers old ++ one = ap numbers c.in_ok-push.ensures.items ∙ numbers_push old list in (
      ap length new ∙ omega (arith, length-append (numbers old) one, c.loop-binding.invariant.0),
      subst (AreReferences n flags (take (i + 1) bs)) (sym new)
          (related_next (λ (b : Binding) (list : List ℕ). AreNamedBy n flags b.body list) bs i c.binding-item.result (numbers old) list.items
          c.loop-binding-test.true c.binding-item.is c.loop-binding.invariant.1 c.in_ok-named_by.ensures),
    )

pub returns-clause-references : goal.returns-clause-references
returns-clause-references c =
    let flags = c.args.flags.now in
    let bs = c.args.bindings.now in
    let lists = numbers c.loop-binding.lists.items in
    let n = c.in_ok-count.count in
    let size : n ≡ length bs = c.in_ok-count.ensures.narrow in
    subst (λ k. AreReferences k flags bs lists) size
    (related_end (λ (b : Binding) (list : List ℕ). AreNamedBy n flags b.body list) bs c.loop-binding.binding-index lists
    (omega (arith, c.loop-binding-test.false)) c.loop-binding.invariant.1)
