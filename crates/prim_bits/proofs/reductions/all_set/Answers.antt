use Rattle.std.proofs.Common.{◌^◌, ◌<◌, Bool, List, ap, subst, sym, ◌∙◌}
use Rattle.std.specs.List.{list_all}
use Rattle.chw_bits.specs.Bits.{bits_of}
use Rattle.prim_bits.proofs.reductions.all_set.Goals as goal

pub all_set-requires-clause-word : goal.all_set-requires-clause-word
all_set-requires-clause-word c = subst (λ w. c.number.result < 2 ^ w) (sym c.len.ensures) c.number.ensures.below

pub returns : goal.returns
returns c =
    c.all_set.ensures
    ∙ ap (λ w. list_all (λ bit. bit) (bits_of w c.number.result)) c.len.ensures
    ∙ ap (λ (bits : List Bool). list_all (λ bit. bit) bits) c.number.ensures.bits
