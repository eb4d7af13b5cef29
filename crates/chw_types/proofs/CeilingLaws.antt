-- The laws of sums and products that end at the greatest natural.
use Rattle.std.proofs.Common.{◌≡◌, ℕ, ◌+◌, ◌*◌, sym, ap, ◌∙◌, arith}
use Rattle.chw_types.specs.Polynomials.{greatest, ended}
use Rattle.chw_types.specs.Ceiling.{SumsCommute, SumsAssociate, ProductsCommute, ProductsAssociate, ProductsOverSums, ZeroIsNeutral, OneIsNeutral, ZeroAbsorbs}
use Rattle.chw_types.proofs.Sums.{cap_plus, cap_times}

turned : (a b : ℕ) → a * b ≡ b * a
turned a b = grind arith

grouped : (a b c : ℕ) → a * b * c ≡ b * c * a
grouped a b c = grind arith

spread : (a b c : ℕ) → (b + c) * a ≡ a * b + a * c
spread a b c = grind arith

once : (a : ℕ) → 1 * a ≡ a
once a = omega arith

none : (a : ℕ) → 0 * a ≡ 0
none a = omega arith

pub sums_commute : SumsCommute
sums_commute a b = omega arith

pub sums_associate : SumsAssociate
sums_associate a b c = omega arith

pub products_commute : ProductsCommute
products_commute a b = ap ended (turned a b)

pub products_associate : ProductsAssociate
products_associate a b c =
    sym (cap_times greatest (a * b) c) ∙ ap ended (grouped a b c) ∙ cap_times greatest (b * c) a ∙ ap ended (turned (ended (b * c)) a)

pub products_over_sums : ProductsOverSums
products_over_sums a b c =
    ap ended (turned a (ended (b + c))) ∙ sym (cap_times greatest (b + c) a) ∙ ap ended (spread a b c) ∙ cap_plus greatest (a * b) (a * c)

pub zero_is_neutral : ZeroIsNeutral
zero_is_neutral a l = omega arith

pub one_is_neutral : OneIsNeutral
one_is_neutral a l = ap ended (once a) ∙ whole
  where
    whole : ended a ≡ a
    whole = omega arith

pub zero_absorbs : ZeroAbsorbs
zero_absorbs a = ap ended (none a)
