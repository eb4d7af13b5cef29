-- Variables and letrecs, as heads with arguments.
use Rattle.std.proofs.Common.{◌≡◌, ◌∙◌, ◌↔◌, sym, ap, refl, ℕ, ◌==◌, Bool, IsTrue, eqb-true}
use Rattle.std.proofs.Common.{List, [], ◌∷◌, length}
use Rattle.chw_types.specs.TypeTree.{TypeTree}
use Rattle.chw_terms.specs.declared.term.Arg.{Arg}
use Rattle.chw_terms.specs.declared.term.Arg.TheVariants.{OfTerm, OfType}
use Rattle.chw_terms.specs.declared.term.Head.{Head}
use Rattle.chw_terms.specs.declared.term.Head.TheVariants.{Var, Global, Made, Lam, TyLam, LetRec}
use Rattle.chw_terms.specs.declared.term.Head.TheVariants.{Con, PrimOf, Lit, VecLit, Case}
use Rattle.chw_terms.specs.TermTree.{TermTree, app, ty_app}
use Rattle.chw_terms.specs.TermView.{tree_of, applied}
use Rattle.rewriting.specs.Shapes.{IsVariable, IsLet}

-- what no application is
pub record IsOfHeads (P : TermTree → Type 0) : Type 0 where
  pub on_term : (f a : TermTree) → P (app f a) → ⊥
  pub on_type : (f : TermTree) (t : TypeTree) → P (ty_app f t) → ⊥

pub of_variables : IsOfHeads IsVariable
of_variables = record { on_term = λ f a h. h; on_type = λ f t h. h }

pub of_lets : IsOfHeads IsLet
of_lets = record { on_term = λ f a h. h; on_type = λ f t h. h }

-- where a head isn't that, with arguments it isn't either
pub never_applied : (P : TermTree → Type 0) → IsOfHeads P → (h : TermTree) (args : List Arg)
    → (P h → ⊥) → P (applied h args) → ⊥
never_applied P v h [] none k = none k
never_applied P v h (OfTerm a ∷ args) none k = never_applied P v (app h a) args (v.on_term h a) k
never_applied P v h (OfType t ∷ args) none k =
    never_applied P v (ty_app h t) args (v.on_type h t) k

-- and where it is, it is with no arguments
pub bare_tells : (P : TermTree → Type 0) → IsOfHeads P → (h : TermTree) (args : List Arg)
    (n : ℕ) (b : Bool) → P h → n ≡ length args → b ≡ (n == 0) → IsTrue b ↔ P (applied h args)
bare_tells P v h [] n b is l e = (λ t. is, λ k. e ∙ ap (λ n. n == 0) l)
bare_tells P v h (OfTerm a ∷ args) n b is l e = (
  λ t. let none = eqb-true n 0 (sym e ∙ t) in absurd cc,
  λ k. absurd (never_applied P v (app h a) args (v.on_term h a) k),
)
bare_tells P v h (OfType t ∷ args) n b is l e = (
  λ q. let none = eqb-true n 0 (sym e ∙ q) in absurd cc,
  λ k. absurd (never_applied P v (ty_app h t) args (v.on_type h t) k),
)

-- another head is no variable
pub no_variable : (h : Head) → ((x : _) → h ≡ Var x → ⊥) → IsVariable (tree_of h) → ⊥
no_variable (Var x) none k = none x refl
no_variable (Global d) none k = k
no_variable (Made m) none k = k
no_variable (Lam t e) none k = k
no_variable (TyLam t e) none k = k
no_variable (LetRec bs e) none k = k
no_variable (Con c) none k = k
no_variable (PrimOf p) none k = k
no_variable (Lit s b) none k = k
no_variable (VecLit t es) none k = k
no_variable (Case e alts) none k = k

-- another one no letrec
pub no_let : (h : Head) → ((bs e : _) → h ≡ LetRec bs e → ⊥) → IsLet (tree_of h) → ⊥
no_let (LetRec bs e) none k = none bs e refl
no_let (Var x) none k = k
no_let (Global d) none k = k
no_let (Made m) none k = k
no_let (Lam t e) none k = k
no_let (TyLam t e) none k = k
no_let (Con c) none k = k
no_let (PrimOf p) none k = k
no_let (Lit s b) none k = k
no_let (VecLit t es) none k = k
no_let (Case e alts) none k = k
