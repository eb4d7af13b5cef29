-- A primitive that is written out, and a vector that isn't named at a place.
use Rattle.std.specs.Prelude.{◌≡◌, [], List, Some}
use Rattle.std.specs.List.{slice_get}
use Rattle.chw_types.specs.TypeTree.{TypeTree}
use Rattle.chw_prims.specs.declared.prim.Primitive.{Primitive as Prim}
use Rattle.chw_terms.specs.declared.scene.Mode.TheVariants.{K}
use Rattle.chw_terms.specs.declared.term.Arg.{Arg}
use Rattle.chw_terms.specs.declared.term.Arg.TheVariants.{OfTerm}
use Rattle.chw_terms.specs.TermTree.{TermTree}
use Rattle.chw_terms.specs.Unrolled.{CanUnroll, unrolled}
use Rattle.chw_typing.specs.Typing.{HasType}
use Rattle.rewriting.specs.Named.{IsNamed}
use Rattle.rewriting.specs.Origins.{Origins, setting_at}
use Rattle.rewriting.specs.Spots.{Spot}
use Rattle.work_prims.specs.Given.{as_args}

-- the place is of no constant, and the term has a type there that isn't named
pub record IsUnnamed (o : Origins) (at : Spot) (e : TermTree) : Type 0 where
  pub no_constant : at.mode ≡ K → ⊥
  pub type : TypeTree
  pub has : HasType (setting_at o) [] at.vars e type
  pub unnamed : IsNamed o.program.datas at.mode type → ⊥

-- the first of these arguments is such a term
abbrev pub BeginsUnnamed : Origins → Spot → List Arg → Type 0
BeginsUnnamed o at args =
    (e : TermTree) × (slice_get args 0 ≡ Some (OfTerm e)) × IsUnnamed o at e

-- the primitive at these types on the terms that these arguments are can be written out, as this
pub record IsWrittenOut (p : Prim) (types : List TypeTree) (args : List Arg) (e : TermTree) : Type 0
  where
    pub es : List TermTree
    pub are : args ≡ as_args es
    pub can : CanUnroll p types es
    pub gives : unrolled p types es ≡ Some e
