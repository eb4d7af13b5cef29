-- What terms are typed over, and the types of the variables in scope.
use Rattle.std.specs.Prelude.{ℕ, List, [], ◌∷◌, ◌++◌, map, length, reverse}
use Rattle.chw_types.specs.declared.kind.Kind.{Kind}
use Rattle.chw_types.specs.declared.declarations.Data.{Data}
use Rattle.chw_types.specs.TypeTree.{TypeTree}
use Rattle.chw_types.specs.TypeMoves.{shift}
use Rattle.chw_types.specs.Kinds.{KindOf, IsOfTerms}
use Rattle.chw_types.specs.SameTypes.{SameTypes}
use Rattle.chw_terms.specs.declared.scene.Scene.{Scene}
use Rattle.chw_terms.specs.TermTree.{Group, no_bindings, bind}

-- the data types, the number of domains, the declared types of the definitions, and the types of the made definitions
pub record Setting : Type 0 where
  pub datas : List Data
  pub domains : ℕ
  pub defs : List TypeTree
  pub made : List TypeTree

-- the program's data types, domains and definitions, and the types of the made definitions; where there are none, it is the program's setting
abbrev pub setting_in : Scene → Setting
setting_in scene =
    record {
      datas = scene.program.now.datas;
      domains = length scene.program.now.domains;
      defs = map (λ d. d.ty) scene.program.now.defs;
      made = map (λ m. m.ty) scene.made.now;
    }

-- the type has the kind, with type variables of these kinds in scope, the innermost first
abbrev pub HasKind : Setting → List Kind → TypeTree → Kind → Type 0
HasKind s kinds t k = KindOf s.datas s.domains kinds t k

-- the type has a kind of types that terms have
pub record IsTermType (s : Setting) (kinds : List Kind) (t : TypeTree) : Type 0 where
  pub kind : Kind
  pub has : HasKind s kinds t kind
  pub of_terms : IsOfTerms kind

-- so many types, each of which terms have
abbrev pub AreTermTypes : Setting → List Kind → List TypeTree → Type 0
AreTermTypes s kinds [] = Unit {0}
AreTermTypes s kinds (t ∷ ts) = IsTermType s kinds t × AreTermTypes s kinds ts

-- as many types of one list as of the other, each the same up to naturals as the one at its place
abbrev pub AreSame : List TypeTree → List TypeTree → Type 0
AreSame [] [] = Unit {0}
AreSame (t ∷ ts) (u ∷ us) = SameTypes t u × AreSame ts us
AreSame _ _ = ⊥

-- the variables' types, the innermost first, seen from under one more type binder
abbrev pub under_binder : List TypeTree → List TypeTree
under_binder vars = map (λ t. shift t 0 1) vars

-- the variables in scope, where more are bound together: of those the last is the innermost
abbrev pub with_more : List TypeTree → List TypeTree → List TypeTree
with_more new vars = reverse new ++ vars

-- the declared types of the bindings of a letrec, the first one first
abbrev pub declared : Group → List TypeTree
declared no_bindings = []
declared (bind t e g) = t ∷ declared g
