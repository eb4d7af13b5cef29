-- The modules of a net: which made definitions have one, in which order, and what it is.
use Rattle.std.specs.Prelude.{◌≡◌, ℕ, suc, Bool, true, false, ◌==◌, List, [], ◌∷◌, ◌++◌, length}
use Rattle.std.specs.Prelude.{Some, slice_get}
use Rattle.std.specs.List.{list_any}
use Rattle.chw_types.specs.declared.declarations.Data.{Data}
use Rattle.chw_terms.specs.declared.scene.Made.{Made}
use Rattle.chw_terms.specs.TermTree.{TermTree, var, global, made, lam, app, ty_lam, ty_app}
use Rattle.chw_terms.specs.TermTree.{letrec, con, prim, lit, vec_lit, case_of, Terms, no_terms}
use Rattle.chw_terms.specs.TermTree.{term_and, Group, no_bindings, bind, Alts, no_alts, alt}
use Rattle.netlist.specs.declared.net.Module.{Module}
use Rattle.net_built.specs.Bodies.{BodyBuilt}
use Rattle.net_built.specs.Circuits.{Ground}
use Rattle.net_built.specs.Data.{HasParts}
use Rattle.net_built.specs.Terms.{result_of}
use Rattle.net_built.specs.Wires.{Piece, wire_count}

abbrev mutual
  -- the made definitions that stand in a term, from left to right
  pub made_in : TermTree → List ℕ
  made_in (var x) = []
  made_in (global d) = []
  made_in (made m) = m ∷ []
  made_in (lam t e) = made_in e
  made_in (app f a) = made_in f ++ made_in a
  made_in (ty_lam k e) = made_in e
  made_in (ty_app f t) = made_in f
  made_in (letrec g e) = made_in_group g ++ made_in e
  made_in (con c) = []
  made_in (prim p) = []
  made_in (lit s bits) = []
  made_in (vec_lit t es) = made_in_all es
  made_in (case_of e alts) = made_in e ++ made_in_alts alts

  pub made_in_all : Terms → List ℕ
  made_in_all no_terms = []
  made_in_all (term_and e es) = made_in e ++ made_in_all es

  pub made_in_group : Group → List ℕ
  made_in_group no_bindings = []
  made_in_group (bind t e g) = made_in e ++ made_in_group g

  pub made_in_alts : Alts → List ℕ
  made_in_alts no_alts = []
  made_in_alts (alt q e more) = made_in e ++ made_in_alts more

-- whether a number stands in a list
abbrev pub holds : List ℕ → ℕ → Bool
holds order m = list_any (λ k. k == m) order

-- what a made definition gives has so many wires
pub record HasOutputs (datas : List Data) (it : Made) (count : ℕ) : Type 0 where
  pub widths : List ℕ
  pub parts : HasParts datas it.sort (result_of it.ty) widths
  pub are : wire_count widths ≡ count

mutual
  -- after these made definitions, one that is used comes behind those that it uses, if it isn't
  -- there yet and has an output; the second list is the longer one
  pub data Visited (datas : List Data) (state : List Made) : List ℕ → ℕ → List ℕ → Type 0 where
    already : {order : List ℕ} {m : ℕ} → holds order m ≡ true → Visited datas state order m order
    without_outputs : {order : List ℕ} {m : ℕ} {it : Made}
        → holds order m ≡ false → slice_get state m ≡ Some it → HasOutputs datas it 0
        → Visited datas state order m order
    behind_its_uses : {order longer : List ℕ} {m count : ℕ} {it : Made}
        → holds order m ≡ false → slice_get state m ≡ Some it → HasOutputs datas it (suc count)
        → AllVisited datas state order (made_in it.body) longer
        → Visited datas state order m (longer ++ m ∷ [])

  -- the same of several, one after the other
  pub data AllVisited (datas : List Data) (state : List Made)
      : List ℕ → List ℕ → List ℕ → Type 0 where
    none_visited : {order : List ℕ} → AllVisited datas state order [] order
    visited_and : {order longer longest ms : List ℕ} {m : ℕ}
        → Visited datas state order m longer → AllVisited datas state longer ms longest
        → AllVisited datas state order (m ∷ ms) longest

-- the made definitions that have modules: what the top uses, by however many others, in postorder,
-- and then the top, which is made definition 0
pub record IsOrderOfModules (datas : List Data) (state : List Made) (order : List ℕ) : Type 0 where
  pub top : Made
  pub is_top : slice_get state 0 ≡ Some top
  pub below : List ℕ
  pub visited : AllVisited datas state [] (made_in top.body) below
  pub whole : order ≡ below ++ 0 ∷ []

-- the module of a made definition: inputs for its lambdas, and the cells of its block
pub record IsModuleOf (ground : Ground) (it : Made) (built : Module) : Type 0 where
  pub inputs : List ℕ
  pub cells : Piece
  pub body : BodyBuilt ground it.sort [] 0 it.body inputs cells built.outputs
  pub are_inputs : built.inputs ≡ length inputs
  pub are_widths : built.widths ≡ inputs ++ cells.widths
  pub are_cells : built.cells ≡ cells.cells

-- these are the modules of these made definitions, each at its place
abbrev pub AreModules : Ground → List Made → List ℕ → List Module → Type 0
AreModules ground state [] [] = Unit {0}
AreModules ground state (m ∷ ms) (built ∷ more) =
    ((it : Made) × (slice_get state m ≡ Some it) × IsModuleOf ground it built)
    × AreModules ground state ms more
AreModules ground state _ _ = ⊥
