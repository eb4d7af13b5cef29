-- At rest no demanded argument is a letrec or a case.
use Rattle.std.proofs.Common.{◌≡◌, ◌<◌, ℕ, suc, zero, List, length, arith}
use Rattle.chw_types.specs.TypeTree.{TypeTree}
use Rattle.chw_prims.specs.declared.prim.Primitive.{Primitive as Prim}
use Rattle.chw_prims.specs.Schemas.{schema_type}
use Rattle.chw_terms.specs.declared.rule.Rule.TheVariants.{PrimLet, PrimCase}
use Rattle.chw_terms.specs.declared.term.Arg.{Arg}
use Rattle.chw_terms.specs.TermTree.{prim}
use Rattle.chw_terms.specs.TermView.{applied}
use Rattle.rewriting.specs.Demanded.{DemandsLet, DemandsCase, prim_let, prim_case}
use Rattle.rewriting.specs.Origins.{Origins}
use Rattle.rewriting.specs.Spots.{Spot, asked_for}
use Rattle.rest_places.specs.Rest.{IsRestPlace}
use Rattle.rest_places.proofs.Steps.{no_core}

-- where none is the first, there is none
pub none_of_each : (P : ℕ → Type 0) → ((i : ℕ) → P i → ((j : ℕ) → j < i → P j → ⊥) → ⊥) → (i : ℕ) → P i → ⊥
none_of_each P no_first i h = below (suc i) i h (omega arith)
  where
    below : (n i : ℕ) → P i → i < n → ⊥
    below zero i h l = omega (arith, l)
    below (suc n) i h l = no_first i h (λ j before other. below n j other (omega (arith, before, l)))

pub no_demanded_let : (o : Origins) (at : Spot) (p : Prim) (args more : List Arg) (t : TypeTree) (i : ℕ) → length args ≡ asked_for (schema_type p) → IsRestPlace o at (applied (applied (prim p) args) more) t → DemandsLet o at p args i → ⊥
no_demanded_let o at p args more t i l rest =
    none_of_each (DemandsLet o at p args) (λ i h first. no_core PrimLet (applied (prim p) args) _ more (prim_let l h.2 first) rest) i

pub no_demanded_case : (o : Origins) (at : Spot) (p : Prim) (args more : List Arg) (t : TypeTree) (i : ℕ) → length args ≡ asked_for (schema_type p) → IsRestPlace o at (applied (applied (prim p) args) more) t → DemandsCase o at p args i → ⊥
no_demanded_case o at p args more t i l rest =
    none_of_each (DemandsCase o at p args)
    (λ i h first. no_core PrimCase (applied (prim p) args) _ more (prim_case l h.2 first (λ j k. no_demanded_let o at p args more t j l rest k)) rest) i
