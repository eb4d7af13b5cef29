use Rattle.std.proofs.Common.{◌∙◌, ap, subst, length}
use Rattle.std.proofs.lemmas.List.{length-replicate}
use Rattle.value_build.specs.Places.{ArePlaces}
use Rattle.value_build.proofs.Ordered.{none_placed}
use Rattle.value_build.proofs.places.Places.of.Goals as goal

pub invariant_of-result : goal.invariant_of-result
invariant_of-result c =
    let order = c.args.order.items in
    let places = c.mark.new.places.items in
    let count = c.args.count in
    let none = c.in_ok-none.none in (
      subst (λ xs. ArePlaces xs places) c.deref.ensures.value c.mark.ensures.are,
      none_placed order places count none c.requires (c.in_ok-none.ensures.narrow ∙ c.len.ensures ∙ c.args.order.ok.0)
          (c.mark.ensures.count ∙ ap length (c.in_ok-places.ensures.items_if_clones_equal (λ y e. e)) ∙ length-replicate count none),
    )
