-- Functions on signals: the chains that are left of them at rest, and what they are of.
use Rattle.std.specs.Prelude.{◌≡◌, ℕ, suc, Some}
use Rattle.std.specs.List.{slice_get}
use Rattle.chw_types.specs.TypeTree.{TypeTree, signal}
use Rattle.type_ports.specs.Representable.{Representable}
use Rattle.chw_terms.specs.declared.scene.Sort.TheVariants.{Value}
use Rattle.chw_terms.specs.TermTree.{TermTree, var}
use Rattle.normal_forms.specs.Circuits.{IsLiftedCall}
use Rattle.rewriting.specs.Named.{LeadsToNamed, mode_of}
use Rattle.rewriting.specs.Origins.{MadeOf, Origins}
use Rattle.rewriting.specs.Shapes.{IsOfCircuit, fmap_of, ap_of}
use Rattle.rewriting.specs.Spots.{Spot, asked_for}
use Rattle.rest_places.specs.Rest.{IsRestPlace}

-- `ap (.. (ap (fmap g x1) x2) ..) xn`: any function, lifted, on so many variables
pub data IsChain : TermTree → ℕ → Type 0 where
  chain_on_one : {d a b : TypeTree} {g : TermTree} {x : ℕ}
      → IsChain (fmap_of d a b g (var x)) 1
  chain_on_more : {d a b : TypeTree} {u : TermTree} {x n : ℕ}
      → IsChain u n → IsChain (ap_of d a b u (var x)) (suc n)

-- the types of made definitions lead to named types, as their sorts say
abbrev pub MadeAreNamed : Origins → Type 0
MadeAreNamed o =
    (m : ℕ) (it : MadeOf) → slice_get o.made m ≡ Some it
    → LeadsToNamed o.program.datas (mode_of it.sort) it.ty

-- the made definition of this number gives a value, and takes so many arguments
abbrev pub TakesAsMany : Origins → ℕ → ℕ → Type 0
TakesAsMany o m n =
    (it : MadeOf) × (slice_get o.made m ≡ Some it) × (it.sort ≡ Value) × (n ≡ asked_for it.ty)

-- the function of a chain at rest that gives a signal of representable values is a made definition,
-- on as many signals as it takes arguments
abbrev pub LiftedIsMade : Type 0
LiftedIsMade =
    (o : Origins) (at : Spot) (e : TermTree) (d b : TypeTree) (n : ℕ)
    → MadeAreNamed o → IsOfCircuit at.mode → IsRestPlace o at e (signal d b)
    → Representable o.program.datas b → IsChain e n
    → (m : ℕ) × IsLiftedCall m e n × TakesAsMany o m n
