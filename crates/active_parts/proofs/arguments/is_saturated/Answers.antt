use Rattle.std.proofs.Common.{arith}
use Rattle.std.proofs.lemmas.Bool.{leb-true, le-leb, eqb-true, eq-eqb}
use Rattle.con_places.specs.Constructing.{constructor_of}
use Rattle.active_parts.proofs.Counted.{constructor_asks}
use Rattle.active_parts.proofs.arguments.is_saturated.Goals as goal

pub returns-then-types-args : goal.returns-then-types-args
returns-then-types-args c =
    let asks = constructor_asks (constructor_of c.args.con.now) in
    let types = c.len-types.ensures in
    let fields = c.len.ensures in (
      λ t. let same = eqb-true _ _ t in omega (arith, same, asks, types, fields, c.if-types-args.true),
      λ e. eq-eqb _ _ (omega (arith, e, asks, types, fields)),
    )

pub returns-else-types-args : goal.returns-else-types-args
returns-else-types-args c =
    let asks = constructor_asks (constructor_of c.args.con.now) in
    let types = c.len-types.ensures in
    let more = c.if-types-args.false in (
      λ t. let few = leb-true _ _ t in absurd (omega (arith, few, more)),
      λ e. le-leb _ _ (omega (arith, e, asks, types)),
    )
