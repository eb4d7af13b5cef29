-- The bindings of a letrec, as they are walked.
use Rattle.std.specs.Prelude.{◌≡◌, List, [], ◌∷◌, map}
use Rattle.chw_types.specs.declared.kind.Kind.{Kind}
use Rattle.chw_types.specs.declared.kind.Kind.TheVariants.{Cir}
use Rattle.chw_types.specs.TypeTree.{TypeTree}
use Rattle.chw_types.specs.Kinds.{IsOfTerms, HasFunctions}
use Rattle.chw_terms.specs.declared.term.Binding.{Binding}
use Rattle.chw_typing.specs.Scopes.{Setting, HasKind, AreTermTypes}
use Rattle.chw_typing.specs.Typing.{HasTypeUpTo}
use Rattle.seen_types.specs.Each.{Each}
use Rattle.seen_types.specs.declared.found.Kinded.{Kinded}
use Rattle.term_types.specs.declared.groups.Group.{Group}

-- terms have each of the declared types
abbrev pub AreOfTerms : Setting → List Kind → List Binding → Type 0
AreOfTerms s kinds bs = AreTermTypes s kinds (map (λ b. b.ty) bs)

abbrev pub NotAllOfTerms : Setting → List Kind → List Binding → Type 0
NotAllOfTerms s kinds bs = AreOfTerms s kinds bs → ⊥

-- the type's kind goes with this one
abbrev pub GoesWith : Setting → List Kind → Kind → TypeTree → Type 0
GoesWith s kinds k t = (j : Kind) × HasKind s kinds t j × HasFunctions j k

-- the kind of each declared type goes with this one
abbrev pub GoWith : Setting → List Kind → Kind → List Binding → Type 0
GoWith s kinds k bs = Each (λ b. GoesWith s kinds k b.ty) bs

-- terms have the declared types, and the kind goes with the same kinds as these together
pub record IsGroupKind (s : Setting) (kinds : List Kind) (bs : List Binding)
    (all : Kind) : Type 0 where
  pub typed : AreOfTerms s kinds bs
  pub go : (k : Kind) → HasFunctions all k → GoWith s kinds k bs
  pub goes : (k : Kind) → IsOfTerms k → GoWith s kinds k bs → HasFunctions all k

-- the types are these with their kinds
abbrev pub AreKinded : Setting → List Kind → List TypeTree → List Kinded → Type 0
AreKinded s kinds [] [] = Unit {0}
AreKinded s kinds (t ∷ ts) (k ∷ ks) =
    ((k.ty.now ≡ t) × HasKind s kinds t k.kind) × AreKinded s kinds ts ks
AreKinded s kinds _ _ = ⊥

-- the bindings' types with their kinds, and the kind that stands for them
pub record IsGroup (s : Setting) (kinds : List Kind) (bs : List Binding) (g : Group) : Type 0 where
  pub kind : IsGroupKind s kinds bs g.kind
  pub types : AreKinded s kinds (map (λ b. b.ty) bs) g.types.items

-- the kind that stands for both
abbrev pub together : Kind → Kind → Kind
together all Cir = Cir
together all k = all

-- each right side has the declared type, up to naturals
abbrev pub HaveTheirTypes : Setting → List Kind → List TypeTree → List Binding → Type 0
HaveTheirTypes s kinds vars bs = Each (λ b. HasTypeUpTo s kinds vars b.body b.ty) bs
