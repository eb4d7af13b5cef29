-- What rules make of a primitive with a demanded argument that is a letrec or a case.
use Rattle.std.specs.Prelude.{◌≡◌, ℕ, ◌<◌, List, length, set}
use Rattle.chw_prims.specs.declared.prim.Primitive.{Primitive as Prim}
use Rattle.chw_prims.specs.Schemas.{schema_type}
use Rattle.chw_terms.specs.declared.rule.Rule.{Rule}
use Rattle.chw_terms.specs.declared.rule.Rule.TheVariants.{PrimLet, PrimCase}
use Rattle.chw_terms.specs.declared.term.Arg.{Arg}
use Rattle.chw_terms.specs.declared.term.Arg.TheVariants.{OfTerm}
use Rattle.chw_terms.specs.TermTree.{TermTree, letrec, prim, case_of, Group, size_of, Alts}
use Rattle.chw_terms.specs.TermView.{applied}
use Rattle.chw_typing.specs.Groups.{each_body}
use Rattle.rewriting.specs.Origins.{Origins}
use Rattle.rewriting.specs.Spots.{Spot, asked_for}
use Rattle.rewriting.specs.Active.{Demands}
use Rattle.rewriting.specs.Shapes.{shift_args}

-- the primitive's demanded argument of this number is a letrec; or a case
abbrev pub DemandsLet : Origins → Spot → Prim → List Arg → ℕ → Type 0
DemandsLet o at p args i = (g : Group) × (e : TermTree) × Demands o at p args i (letrec g e)

abbrev pub DemandsCase : Origins → Spot → Prim → List Arg → ℕ → Type 0
DemandsCase o at p args i = (e : TermTree) × (alts : Alts) × Demands o at p args i (case_of e alts)

-- the arguments are all that the primitive names
pub data OfDemanded (o : Origins) (at : Spot) : Rule → TermTree → TermTree → Type 0 where
  -- a letrec moves out of the first demanded argument that is one
  prim_let : {p : Prim} {args : List Arg} {i : ℕ} {g : Group} {e : TermTree}
      → length args ≡ asked_for (schema_type p)
      → Demands o at p args i (letrec g e)
      → ((j : ℕ) → j < i → DemandsLet o at p args j → ⊥)
      → OfDemanded o at PrimLet
      (applied (prim p) args)
      (letrec g (applied (prim p) (set (shift_args args 0 (size_of g)) i (OfTerm e))))
  -- a case moves out of the first demanded argument that is one, where none is a letrec
  prim_case : {p : Prim} {args : List Arg} {i : ℕ} {e : TermTree} {alts : Alts}
      → length args ≡ asked_for (schema_type p)
      → Demands o at p args i (case_of e alts)
      → ((j : ℕ) → j < i → DemandsCase o at p args j → ⊥)
      → ((j : ℕ) → DemandsLet o at p args j → ⊥)
      → OfDemanded o at PrimCase
      (applied (prim p) args)
      (case_of e
      (each_body (λ n f. applied (prim p) (set (shift_args args 0 n) i (OfTerm f))) alts))
