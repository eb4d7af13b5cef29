use Rattle.std.proofs.Common.{◌++◌, length, refl, sym, subst, ◌∙◌, arith}
use Rattle.std.proofs.lemmas.Option.{slice_get_read}
use Rattle.con_places.specs.Places.{AreOfFirst, places_of}
use Rattle.con_places.proofs.Placed.{none_placed, more_placed}
use Rattle.con_places.proofs.table.Constructors.of.Goals as goal

pub loop-number-init : goal.loop-number-init
loop-number-init c = subst (AreOfFirst c.args.datas.now 0) (sym c.new-places.ensures.items) (none_placed c.args.datas.now)

pub loop-number-preserved : goal.loop-number-preserved
loop-number-preserved c =
    let datas = c.args.datas.now in
    let places = c.loop-number.places.items in
    let it = c.index-datas-number.result in
    let count = c.in_ok-narrow-2.ensures.narrow ∙ c.len.ensures in
    more_placed datas c.loop-number.number it places c.push_places.new.places.items
    (slice_get_read datas (length datas) c.loop-number.number it refl (omega arith) c.index-datas-number.is) c.loop-number.invariant
    (c.in_ok-push_places.ensures ∙ (λ k. places ++ places_of (c.in_ok-narrow.ensures.narrow k) (count k)))
