-- How wide a write to a block RAM is: one bit, an address and a word.
use Rattle.std.proofs.Common.{◌≡◌, ℕ, suc, ◌+◌, arith, [], refl, ap, ◌∙◌, subst}
use Rattle.chw_types.specs.declared.kind.Kind.TheVariants.{Val}
use Rattle.chw_types.specs.declared.kind.Scalar.TheVariants.{U}
use Rattle.chw_types.specs.SamePromises.{SameValues}
use Rattle.chw_types.specs.SameTypes.{SameTypes, SameAll, same_none, same_and}
use Rattle.chw_types.specs.TypeTree.{TypeTree, TypeTrees, data_of, scalar, no_types, type_and}
use Rattle.chw_prims.specs.Schemas.{maybe, pair}
use Rattle.chw_typing.specs.Programs.{IsSound}
use Rattle.chw_typing.specs.Scopes.{Setting, HasKind}
use Rattle.chw_layout.specs.Measured.{closed_value, fits, HasWidth}
use Rattle.layout_laws.specs.SameLayout.{SameKeepsMeasure}
use Rattle.net_grounds.specs.Facts.{Facts}
use Rattle.net_means.proofs.MaybePairs.{stand, maybe_width, pair_width}

only_one : {t : TypeTree} {us : TypeTrees} → SameAll (type_and t no_types) us → (u : TypeTree) × (us ≡ type_and u no_types) × SameTypes t u
only_one (same_and {u = u} h same_none) = (u, refl, h)

both_of : {s t : TypeTree} {us : TypeTrees} → SameAll (type_and s (type_and t no_types)) us → (u : TypeTree) × (v : TypeTree) × (us ≡ type_and u (type_and v no_types)) × SameTypes s u × SameTypes t v
both_of (same_and {u = u} h (same_and {u = v} g same_none)) = (u, v, refl, h, g)

-- a write of words of a type with this width
pub write_width : Facts → SameKeepsMeasure → SameValues → (s : Setting) → IsSound s → (k a m : TypeTree) (w v : ℕ) → HasKind s [] a Val → HasWidth s.datas a w → SameTypes (maybe (pair (scalar U k) a)) m → HasWidth s.datas m v → v ≡ suc (closed_value k + w)
write_width facts law values s sound k a m w v kind wide same has =
    let at = stand s.datas sound.begins.0 sound.begins.1 in
    let outer = facts.same.as_data same in
    let one = only_one outer.2 in
    let mid = facts.same.as_data one.2 in
    let two = both_of mid.2 in
    let number = facts.same.as_scalar two.3 in
    let inner : one.0 ≡ pair (scalar U number.0) two.1 = mid.1 ∙ ap (λ us. data_of 2 us) two.2 ∙ ap (λ t. pair t two.1) number.1 in
    let is : m ≡ maybe (pair (scalar U number.0) two.1) = outer.1 ∙ ap (λ us. data_of 1 us) one.1 ∙ ap (λ t. maybe t) inner in
    let whole = maybe_width facts at (subst (λ m. HasWidth s.datas m v) is has) in
    let parts = pair_width facts at whole.1 in
    let first = facts.widths.scalar_width parts.2 in
    let closed : closed_value k ≡ closed_value number.0 = facts.same_layout.same_number values number.2 in
    let second : parts.1 ≡ w = facts.widths.width_once parts.3 (law (fits w) s a two.1 sound (record { kind = Val; has = kind; same = two.4 }) wide) in
    let sum = whole.2 in
    let total = parts.4 in
    omega (arith, first, second, closed, sum, total)
