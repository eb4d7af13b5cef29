-- A closed type has at most one width.
use Rattle.std.proofs.Common.{◌≡◌, ℕ, List}
use Rattle.chw_types.specs.declared.declarations.Data.{Data}
use Rattle.chw_types.specs.TypeTree.{TypeTree}
use Rattle.chw_layout.specs.Measured.{fits, HasWidth}
use Rattle.chw_layout.proofs.Measures.{measured_once}

fits_same : {v w : ℕ} → fits v ≡ fits w → v ≡ w
fits_same e = cc

pub width_once : {datas : List Data} {t : TypeTree} {v w : ℕ} → HasWidth datas t v → HasWidth datas t w → v ≡ w
width_once a b = fits_same (measured_once a b)
