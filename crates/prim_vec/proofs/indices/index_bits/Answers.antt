use Rattle.std.proofs.Common.{ap, ◌∙◌}
use Rattle.chw_bits.specs.Bits.{bits_of}
use Rattle.prim_vec.proofs.Lists.{bits_of_rest}
use Rattle.prim_vec.proofs.indices.index_bits.Goals as goal

pub returns-in-Ok : goal.returns-in-Ok
returns-in-Ok c =
    c.in-Ok.ensures.bits.1
    ∙ ap (bits_of c.args.k) (c.from.ensures ∙ c.wrapped.ensures.rest)
    ∙ bits_of_rest c.length_of_made_bits.ensures c.number_of_made_bits.ensures.kept c.bits_made_of_their_number.ensures.same c.args.k c.args.j
