-- Which types are ports, and what their leaves are.
use Rattle.std.specs.Prelude.{◌≡◌, ℕ, List, [], ◌∷◌, ◌++◌, length, Some}
use Rattle.std.specs.List.{slice_get}
use Rattle.chw_base.specs.declared.index.DomId.{DomId}
use Rattle.chw_types.specs.declared.declarations.ConDecl.{ConDecl}
use Rattle.chw_types.specs.declared.declarations.Data.{Data}
use Rattle.type_ports.specs.declared.ports.Leaf.{Leaf}
use Rattle.chw_types.specs.TypeTree.{TypeTree, domain, data_of, signal, TypeTrees}
use Rattle.chw_types.specs.TypeMoves.{Substitution, sub}
use Rattle.chw_types.specs.Arguments.{list_of, arguments}
use Rattle.type_ports.specs.Representable.{Representable}

abbrev pub leaf_of : DomId → TypeTree → Leaf
leaf_of dom payload = record { dom = dom; payload = payload }

mutual
  -- the type is a port with these leaves: a signal of representable values, or data of one constructor with at least one field, all of
  -- whose fields are ports, with the arguments put in; their leaves stand from left to right
  pub data Leaves (datas : List Data) : TypeTree → List Leaf → Type 0 where
    one_leaf : {dom : DomId} {t : TypeTree} → Representable datas t → Leaves datas (signal (domain dom.number) t) (leaf_of dom t ∷ [])
    leaves_of_fields : {d : ℕ} {it : Data} {ts : TypeTrees} {c : ConDecl} {f : TypeTree} {fs : List TypeTree} {ls : List Leaf} → slice_get datas d ≡ Some it → length (list_of ts) ≡ length it.params → it.cons ≡ c ∷ [] → c.fields ≡ f ∷ fs → LeavesOfAll datas (f ∷ fs) (arguments ts) ls → Leaves datas (data_of d ts) ls

  -- the leaves of each of these types, with this put in
  pub data LeavesOfAll (datas : List Data) : List TypeTree → Substitution → List Leaf → Type 0 where
    no_leaves : {σ : Substitution} → LeavesOfAll datas [] σ []
    leaves_and : {f : TypeTree} {fs : List TypeTree} {σ : Substitution} {ls ms : List Leaf} → Leaves datas (sub f σ) ls → LeavesOfAll datas fs σ ms → LeavesOfAll datas (f ∷ fs) σ (ls ++ ms)

-- the type is a port
abbrev pub IsPort : List Data → TypeTree → Type 0
IsPort datas t = (ls : List Leaf) × Leaves datas t ls

-- the type is no port
abbrev pub IsNoPort : List Data → TypeTree → Type 0
IsNoPort datas t = (ls : List Leaf) → Leaves datas t ls → ⊥
