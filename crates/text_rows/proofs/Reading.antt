-- The bits of a number of a type's width.
use Rattle.std.proofs.Common.{◌≡◌, ℕ, sym, ap, subst, ◌∙◌, Bool, List, length}
use Rattle.chw_bits.specs.Bits.{bits_of}
use Rattle.chw_bits.proofs.Numbers.{length-bits_of}
use Rattle.chw_types.specs.declared.declarations.Data.{Data}
use Rattle.chw_types.specs.TypeTree.{TypeTree}
use Rattle.chw_layout.specs.Measured.{HasWidth}

pub read_width : (datas : List Data) (t : TypeTree) (w n : ℕ) (b : List Bool) → HasWidth datas t w → b ≡ bits_of w n → HasWidth datas t (length b)
read_width datas t w n b d e = subst (HasWidth datas t) (sym (ap length e ∙ length-bits_of w n)) d
