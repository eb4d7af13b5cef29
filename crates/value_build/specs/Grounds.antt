-- How the logic stores what bodies are built over.
use Rattle.std.specs.Prelude.{ℕ, List, refl}
use Rattle.std.specs.Coded.{Coded, code_by, coded×, coded_list, coded_ℕ}
use Rattle.chw_types.specs.contracts.declarations.Data as data_type
use Rattle.chw_types.specs.declared.declarations.Data.{Data}
use Rattle.net_built.specs.Circuits.{Ground}

-- as a pair
abbrev pub coded_ground : Coded Ground
coded_ground =
    code_by (List Data × List ℕ)
    (coded× (coded_list data_type.the_row.coded) (coded_list coded_ℕ))
    (λ g. (g.datas, g.order))
    (λ p. record { datas = p.0; order = p.1 })
    (λ g. refl)
