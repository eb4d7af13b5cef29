-- What looking at one type finds of a port's leaves.
use Rattle.std.specs.Prelude.{◌≡◌, ℕ, ◌<◌, ◌⊎◌, List, [], ◌∷◌, ◌++◌, length, map, reverse, Some}
use Rattle.std.specs.List.{slice_get}
use Rattle.chw_base.specs.declared.index.DomId.{DomId}
use Rattle.chw_types.specs.declared.declarations.ConDecl.{ConDecl}
use Rattle.chw_types.specs.declared.declarations.Data.{Data}
use Rattle.type_ports.specs.declared.ports.Leaf.{Leaf}
use Rattle.type_ports.specs.declared.port_table.PortForm.{PortForm}
use Rattle.type_ports.specs.declared.port_table.PortForm.TheVariants.{Single, Product, Other}
use Rattle.chw_types.specs.TypeTree.{TypeTree, domain, data_of, signal, TypeTrees}
use Rattle.chw_types.specs.TypeMoves.{sub}
use Rattle.chw_types.specs.Arguments.{list_of, arguments}
use Rattle.type_ports.specs.Representable.{Representable}
use Rattle.type_ports.specs.Ports.{leaf_of, IsNoPort}

-- the type is a leaf, which is found
pub record LeafFound (datas : List Data) (t : TypeTree) (old new : List Leaf) : Type 0 where
  pub dom : DomId
  pub payload : TypeTree
  pub is : t ≡ signal (domain dom.number) payload
  pub fits : Representable datas payload
  pub found : new ≡ old ++ leaf_of dom payload ∷ []

-- the data type of this number, with so many parameters, has one constructor with these fields
pub record IsProduct (datas : List Data) (d n : ℕ) (fields : List TypeTree) : Type 0 where
  pub it : Data
  pub con : ConDecl
  pub known : slice_get datas d ≡ Some it
  pub as_many : n ≡ length it.params
  pub one : it.cons ≡ con ∷ []
  pub are : fields ≡ con.fields
  pub some : 0 < length fields

-- it has no such fields
abbrev pub IsNoProduct : List Data → ℕ → ℕ → Type 0
IsNoProduct datas d n = (fields : List TypeTree) → IsProduct datas d n fields → ⊥

-- the type is a product, whose fields are to be looked at next
pub record ProductOpened (datas : List Data) (t : TypeTree) (old new : List TypeTree) : Type 0 where
  pub d : ℕ
  pub ts : TypeTrees
  pub fields : List TypeTree
  pub is : t ≡ data_of d ts
  pub product : IsProduct datas d (length (list_of ts)) fields
  pub todo : new ≡ old ++ map (λ f. sub f (arguments ts)) (reverse fields)

-- a leaf is found and nothing more is to be done, or nothing is found yet
abbrev pub Looked : List Data → TypeTree → List Leaf → List Leaf → List TypeTree → List TypeTree → Type 0
Looked datas t found found' todo todo' = (LeafFound datas t found found' × (todo' ≡ todo)) ⊎ (ProductOpened datas t todo todo' × (found' ≡ found))

-- the type is a leaf, and nothing more is to be looked at, or a product, whose fields are to be
-- looked at next, or no port
abbrev pub HasForm : List Data → TypeTree → List TypeTree → List TypeTree → PortForm → Type 0
HasForm datas t todo todo' (Single dom payload) =
    (t ≡ signal (domain dom.number) payload.now) × Representable datas payload.now × (todo' ≡ todo)
HasForm datas t todo todo' Product = ProductOpened datas t todo todo'
HasForm datas t todo todo' Other = IsNoPort datas t
