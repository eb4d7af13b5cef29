-- How the logic stores a made definition: as the tuple of its parts.
use Rattle.std.specs.Prelude.{◌≡◌, Bool, true, false, refl}
use Rattle.std.specs.Coded.{Coded, code_by, coded×, coded_bool}
use Rattle.chw_types.specs.TypeTree.{TypeTree}
use Rattle.chw_types.specs.TypeCode.{coded_tree as coded_type}
use Rattle.chw_terms.specs.declared.scene.Made.{Made}
use Rattle.chw_terms.specs.declared.scene.Sort.{Sort}
use Rattle.chw_terms.specs.declared.scene.Sort.TheVariants.{Value, Circuit}
use Rattle.chw_terms.specs.TermTree.{TermTree}
use Rattle.chw_terms.specs.TermCode.{coded_tree as coded_term}

abbrev pub is_circuit : Sort → Bool
is_circuit Value = false
is_circuit Circuit = true

abbrev pub sort_back : Bool → Sort
sort_back false = Value
sort_back true = Circuit

pub sort_same : (s : Sort) → sort_back (is_circuit s) ≡ s
sort_same Value = refl
sort_same Circuit = refl

abbrev pub coded_made : Coded Made
coded_made =
    code_by ((TermTree × TermTree) × (TypeTree × Bool))
    (coded× (coded× coded_term coded_term) (coded× coded_type coded_bool))
    (λ m. ((m.origin, m.body), (m.ty, is_circuit m.sort)))
    (λ p. record { origin = p.0.0; body = p.0.1; ty = p.1.0; sort = sort_back p.1.1 })
    (λ m i. record { origin = m.origin; body = m.body; ty = m.ty; sort = sort_same m.sort i })
