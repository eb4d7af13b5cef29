-- The numbers of the types of definitions and of constructors, in a table of types.
use Rattle.std.specs.Prelude.{◌≡◌, ℕ, List, Option, Some, None, MatchOption}
use Rattle.std.specs.List.{slice_get, AllZip}
use Rattle.chw_types.specs.declared.kind.Kind.{Kind}
use Rattle.chw_types.specs.TypeTree.{TypeTree}
use Rattle.chw_terms.specs.TermTree.{TermTree}
use Rattle.chw_terms.specs.declared.program.Def.{Def}
use Rattle.chw_terms.specs.declared.program.Program.{Program}
use Rattle.chw_typing.specs.Scopes.{Setting}
use Rattle.chw_typing.specs.Finding.{Finds}
use Rattle.seen_types.specs.NumberOf.{IsNumberOf}
use Rattle.term_frames.specs.declared.numbering.Numbering.{Numbering}
use Rattle.term_frames.specs.declared.signature.HeadType.{HeadType}

-- it is that of whatever type is found for the term
abbrev pub IsNumberFound : Setting → List TypeTree → Option ℕ → TermTree → Type 0
IsNumberFound s ts o e =
    (kinds : List Kind) (vars : List TypeTree) (t : TypeTree) → Finds s kinds vars e t
    → IsNumberOf ts o t

-- for each definition the number of its declared type
abbrev pub AreNumbered : List TypeTree → List ℕ → List Def → Type 0
AreNumbered ts ns ds = AllZip (λ n d. slice_get ts n ≡ Some d.ty) ns ds

-- the number, where there is one, is that of the type, and where there is no type there is none
abbrev pub IsHeadNumbered : List TypeTree → Option ℕ → Option HeadType → Type 0
IsHeadNumbered ts o h = MatchOption h (o ≡ None) (λ t. IsNumberOf ts o t.ty)

abbrev pub AreHeadsNumbered : List TypeTree → List (Option ℕ) → List (Option HeadType) → Type 0
AreHeadsNumbered ts os hs = AllZip (λ o h. IsHeadNumbered ts o h) os hs

-- the numbers are those of the program's definitions and of the types that are kept
pub record IsNumbering (p : Program) (kept : List (Option HeadType)) (r : Numbering) : Type 0 where
  pub definitions : AreNumbered r.types r.definitions.items p.defs
  pub constructors : AreHeadsNumbered r.types r.constructors.items kept
