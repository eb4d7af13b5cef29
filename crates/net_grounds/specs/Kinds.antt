-- What is promised of kinds of types.
use Rattle.std.specs.List.{slice_get}
use Rattle.std.specs.Prelude.{List, Some, [], reverse, ℕ, ◌∷◌, ◌≡◌}
use Rattle.chw_terms.specs.Constructors.{Constructor, con_at}
use Rattle.chw_terms.specs.References.{IsField}
use Rattle.chw_terms.specs.Tidy.{HasItsKind}
use Rattle.chw_types.specs.Arguments.{arguments}
use Rattle.chw_types.specs.Kinds.{HasFunctions, IsOfTerms, KindOf, KindsOf}
use Rattle.chw_types.specs.SameTypes.{SameAll}
use Rattle.chw_types.specs.TypeMoves.{Substitution, sub}
use Rattle.chw_types.specs.TypeTree.{TypeTree, TypeTrees, data_of, fun}
use Rattle.chw_types.specs.declared.declarations.ConDecl.{ConDecl}
use Rattle.chw_types.specs.declared.declarations.Data.{Data}
use Rattle.chw_types.specs.declared.kind.Kind.{Kind}
use Rattle.chw_typing.specs.Alike.{AreLike}
use Rattle.chw_typing.specs.Given.{AllAllow}
use Rattle.chw_typing.specs.HeadTypes.{fields_at}
use Rattle.chw_typing.specs.Programs.{IsSound}
use Rattle.chw_typing.specs.Scopes.{HasKind, IsTermType, Setting}
use Rattle.type_laws.specs.SameKept.{FieldsKeepSame}

-- each of these types, with the one and with the other put in
abbrev pub AllLike : Setting → Substitution → Substitution → List TypeTree → Type 0
AllLike s σ τ [] = Unit {0}
AllLike s σ τ (f ∷ fs) = AreLike s (sub f σ) (sub f τ) × AllLike s σ τ fs

-- the fields of each constructor
abbrev pub ConsLike : Setting → Substitution → Substitution → List ConDecl → Type 0
ConsLike s σ τ [] = Unit {0}
ConsLike s σ τ (c ∷ cs) = AllLike s σ τ c.fields × ConsLike s σ τ cs

-- facts on kinds of types
pub record KindFacts : Type 0 where
  -- the parts of a function type have kinds between which there are functions
  pub function_parts :
      {datas : List Data} {domains : ℕ} {scope : List Kind} {a b : TypeTree} {k : Kind}
      → KindOf datas domains scope (fun a b) k
      → (j : Kind) × KindOf datas domains scope a j × KindOf datas domains scope b k
      × HasFunctions j k
  -- what a function takes is a type of terms
  pub function_takes :
      (s : Setting) (kinds : List Kind) (a b : TypeTree) (k : Kind)
      → HasKind s kinds (fun a b) k → IsTermType s kinds a
  -- and so is what it gives
  pub function_gives :
      (s : Setting) (kinds : List Kind) (a b : TypeTree) (k : Kind)
      → HasKind s kinds (fun a b) k → IsTermType s kinds b
  -- a type whose kind is one of terms is a type of terms
  pub term_type :
      (s : Setting) (kinds : List Kind) (t : TypeTree) (k : Kind)
      → HasKind s kinds t k → IsOfTerms k → IsTermType s kinds t
  -- kinds between which there are functions are kinds of terms
  pub functions_of_terms : (j k : Kind) → HasFunctions j k → IsOfTerms j × IsOfTerms k
  -- the kind of a data type is one of terms
  pub of_terms_kind :
      (datas : List Data) (domains : ℕ) (it : Data)
      → HasItsKind datas domains it → IsOfTerms it.kind
  -- what is put into a closed type leaves it as it is
  pub closed_put :
      {datas : List Data} {domains : ℕ} {t : TypeTree} {k : Kind}
      → KindOf datas domains [] t k → (σ : Substitution)
      → sub t σ ≡ t
  -- a field of a data type has one kind, open and with arguments put in
  pub field_kind :
      (s : Setting)
      → IsSound s → (d : ℕ) (it : Data) (ts : TypeTrees) (f : TypeTree)
      → slice_get s.datas d ≡ Some it → IsField it f → KindsOf s.datas s.domains [] ts it.params
      → (k : Kind) × HasKind s (reverse it.params) f k × HasKind s [] (sub f (arguments ts)) k
  -- functions may take the fields of a constructor, where they may take its data type
  pub fields_allow :
      (s : Setting) (c : ℕ) (it : Constructor) (ts : TypeTrees) (k : Kind)
      → IsSound s → con_at s.datas c ≡ Some it → KindsOf s.datas s.domains [] ts it.it.params
      → HasFunctions it.it.kind k → AllAllow s [] k (fields_at it ts)
  -- arguments that are the same put into the fields of a data type give types that are alike
  pub fields_like :
      (s : Setting) (sound : IsSound s) (keep : FieldsKeepSame) → (d : ℕ) (it : Data)
      (ts us : TypeTrees) (k : Kind)
      → slice_get s.datas d ≡ Some it → HasKind s [] (data_of d ts) k → SameAll ts us
      → ConsLike s (arguments ts) (arguments us) it.cons
  -- so for the fields of one of its constructors
  pub con_like :
      (s : Setting) (σ τ : Substitution) (cs : List ConDecl) (i : ℕ) (c : ConDecl)
      → slice_get cs i ≡ Some c → ConsLike s σ τ cs → AllLike s σ τ c.fields
  -- the arguments of a data type have the kinds of its parameters
  pub constructor_arguments :
      (s : Setting) (kinds : List Kind) (c d : ℕ) (it : Constructor) (ts : TypeTrees) (j : Kind)
      → con_at s.datas c ≡ Some it → it.of ≡ d → HasKind s kinds (data_of d ts) j
      → KindsOf s.datas s.domains kinds ts it.it.params
