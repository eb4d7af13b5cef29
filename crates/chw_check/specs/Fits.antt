-- Terms and declarations in which the types that are written have kinds.
use Rattle.std.specs.Prelude.{◌≡◌, ℕ, List, [], ◌∷◌, reverse, Some}
use Rattle.std.specs.List.{slice_get}
use Rattle.chw_terms.specs.References.{IsField}
use Rattle.chw_terms.specs.TermTree.{TermTree, lam, app, ty_lam, ty_app, letrec, vec_lit, case_of}
use Rattle.chw_terms.specs.TermTree.{Terms, no_terms, term_and, Group, no_bindings, bind}
use Rattle.chw_terms.specs.TermTree.{Alts, no_alts, alt}
use Rattle.chw_terms.specs.declared.program.Def.{Def}
use Rattle.chw_terms.specs.declared.program.Program.{Program}
use Rattle.chw_types.specs.TypeTree.{TypeTree}
use Rattle.chw_types.specs.declared.declarations.Data.{Data}
use Rattle.chw_types.specs.declared.kind.Kind.{Kind}
use Rattle.chw_typing.specs.Programs.{setting_of}
use Rattle.chw_typing.specs.Scopes.{HasKind, IsTermType, Setting}

-- the type has a kind
pub record HasSomeKind (s : Setting) (kinds : List Kind) (t : TypeTree) : Type 0 where
  pub kind : Kind
  pub has : HasKind s kinds t kind

abbrev mutual
  -- each type that is written in the term has a kind, and each of a binder or a binding one that
  -- terms have, with type variables of these kinds in scope
  pub TypesFit : Setting → List Kind → TermTree → Type 0
  TypesFit s kinds (lam t e) = IsTermType s kinds t × TypesFit s kinds e
  TypesFit s kinds (app f a) = TypesFit s kinds f × TypesFit s kinds a
  TypesFit s kinds (ty_lam k e) = TypesFit s (k ∷ kinds) e
  TypesFit s kinds (ty_app f t) = TypesFit s kinds f × HasSomeKind s kinds t
  TypesFit s kinds (letrec g e) = GroupFits s kinds g × TypesFit s kinds e
  TypesFit s kinds (vec_lit t es) = HasSomeKind s kinds t × AllFit s kinds es
  TypesFit s kinds (case_of e alts) = TypesFit s kinds e × AltsFit s kinds alts
  TypesFit s kinds _ = Unit {0}

  pub AllFit : Setting → List Kind → Terms → Type 0
  AllFit s kinds no_terms = Unit {0}
  AllFit s kinds (term_and e es) = TypesFit s kinds e × AllFit s kinds es

  pub GroupFits : Setting → List Kind → Group → Type 0
  GroupFits s kinds no_bindings = Unit {0}
  GroupFits s kinds (bind t e g) = IsTermType s kinds t × TypesFit s kinds e × GroupFits s kinds g

  pub AltsFit : Setting → List Kind → Alts → Type 0
  AltsFit s kinds no_alts = Unit {0}
  AltsFit s kinds (alt q e more) = TypesFit s kinds e × AltsFit s kinds more

-- each field has a type that terms have, with the parameters in scope
abbrev pub DataFits : Setting → Data → Type 0
DataFits s it = (t : TypeTree) → IsField it t → IsTermType s (reverse it.params) t

-- the definition has a type that terms have, and so does each binder of its body
pub record DefFits (s : Setting) (it : Def) : Type 0 where
  pub ty : IsTermType s [] it.ty
  pub body : TypesFit s [] it.body

-- all declarations fit
pub record AllDeclarationsFit (p : Program) : Type 0 where
  pub datas : (d : ℕ) (it : Data) → slice_get p.datas d ≡ Some it → DataFits (setting_of p) it
  pub defs : (d : ℕ) (it : Def) → slice_get p.defs d ≡ Some it → DefFits (setting_of p) it
