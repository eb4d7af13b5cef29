-- Types that lead from ports to a port.
use Rattle.std.proofs.Common.{◌≡◌, ap, refl, ℕ, List}
use Rattle.type_ports.specs.Ports.{leaves_of_fields, one_leaf}
use Rattle.chw_types.specs.TypeTree.{TypeTree, fun}
use Rattle.chw_types.specs.declared.declarations.Data.{Data}
use Rattle.chw_terms.specs.Unrolled.{parameters}
use Rattle.chw_terms.specs.declared.scene.Mode.TheVariants.{C}
use Rattle.chw_typing.specs.HeadTypes.{from_each}
use Rattle.chw_typing.specs.Programs.{LeadsToPort, from_port, to_port}
use Rattle.chw_typing.specs.Given.{AsksForNone}
use Rattle.rewriting.specs.Named.{LeadsToNamed, from_named, to_named}

pub ports_are_named : {datas : List Data} {t : TypeTree} {m n : ℕ}
    → LeadsToPort datas t m n → LeadsToNamed datas C t
ports_are_named (to_port leaves) = to_named (_, leaves)
ports_are_named (from_port leaves more) = from_named (_, leaves) (ports_are_named more)

-- a type of functions of its parameters, whose result asks for nothing more
pub record IsOfFunctions (t : TypeTree) : Type 0 where
  pub result : TypeTree
  pub is : t ≡ from_each (parameters t) result
  pub asks_none : AsksForNone result

pub ports_are_of_functions : {datas : List Data} {t : TypeTree} {m n : ℕ}
    → LeadsToPort datas t m n → IsOfFunctions t
ports_are_of_functions (to_port (one_leaf r)) =
    record { result = _; is = refl; asks_none = tt }
ports_are_of_functions (to_port (leaves_of_fields d l c f all)) =
    record { result = _; is = refl; asks_none = tt }
ports_are_of_functions (from_port {a = a} leaves more) =
    let rest = ports_are_of_functions more in
    record { result = rest.result; is = ap (fun a) rest.is; asks_none = rest.asks_none }
