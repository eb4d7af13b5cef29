-- Variables, bare names and lambdas, as heads with arguments.
use Rattle.std.proofs.Common.{◌≡◌, ◌∙◌, ◌↔◌, sym, ap, refl, ℕ, ◌==◌, Bool, true, false, IsTrue}
use Rattle.std.proofs.Common.{List, [], ◌∷◌, length, eqb-true}
use Rattle.chw_types.specs.TypeTree.{TypeTree}
use Rattle.chw_terms.specs.declared.term.Arg.{Arg}
use Rattle.chw_terms.specs.declared.term.Arg.TheVariants.{OfTerm, OfType}
use Rattle.chw_terms.specs.declared.term.Head.{Head}
use Rattle.chw_terms.specs.declared.term.Head.TheVariants.{Var, Global, Made, Lam, TyLam, LetRec}
use Rattle.chw_terms.specs.declared.term.Head.TheVariants.{Con, PrimOf, Lit, VecLit, Case}
use Rattle.chw_terms.specs.TermTree.{TermTree, app, ty_app}
use Rattle.chw_terms.specs.TermView.{tree_of, applied}
use Rattle.rewriting.specs.Shapes.{IsVariable, IsMade, leading_lambdas}

-- what no application is
pub record IsOfHeads (P : TermTree → Type 0) : Type 0 where
  pub on_term : (f a : TermTree) → P (app f a) → ⊥
  pub on_type : (f : TermTree) (t : TypeTree) → P (ty_app f t) → ⊥

pub of_variables : IsOfHeads IsVariable
of_variables = record { on_term = λ f a h. h; on_type = λ f t h. h }

pub of_names : IsOfHeads IsMade
of_names = record { on_term = λ f a h. h; on_type = λ f t h. h }

-- where a head isn't that, with arguments it isn't either
pub never_applied : (P : TermTree → Type 0) → IsOfHeads P → (h : TermTree) (args : List Arg)
    → (P h → ⊥) → P (applied h args) → ⊥
never_applied P v h [] none k = none k
never_applied P v h (OfTerm a ∷ args) none k = never_applied P v (app h a) args (v.on_term h a) k
never_applied P v h (OfType t ∷ args) none k =
    never_applied P v (ty_app h t) args (v.on_type h t) k

-- and where it is, it is with no arguments
pub bare_tells : (P : TermTree → Type 0) → IsOfHeads P → (h : TermTree) (args : List Arg)
    (n : ℕ) (b : Bool) → P h → n ≡ length args → b ≡ (n == 0) → IsTrue b ↔ P (applied h args)
bare_tells P v h [] n b is l e = (λ t. is, λ k. e ∙ ap (λ n. n == 0) l)
bare_tells P v h (OfTerm a ∷ args) n b is l e = (
  λ t. let none = eqb-true n 0 (sym e ∙ t) in absurd cc,
  λ k. absurd (never_applied P v (app h a) args (v.on_term h a) k),
)
bare_tells P v h (OfType t ∷ args) n b is l e = (
  λ q. let none = eqb-true n 0 (sym e ∙ q) in absurd cc,
  λ k. absurd (never_applied P v (ty_app h t) args (v.on_type h t) k),
)

-- another head is no variable
pub no_variable : (h : Head) → ((x : _) → h ≡ Var x → ⊥) → IsVariable (tree_of h) → ⊥
no_variable (Var x) none k = none x refl
no_variable (Global d) none k = k
no_variable (Made m) none k = k
no_variable (Lam t e) none k = k
no_variable (TyLam t e) none k = k
no_variable (LetRec bs e) none k = k
no_variable (Con c) none k = k
no_variable (PrimOf p) none k = k
no_variable (Lit s b) none k = k
no_variable (VecLit t es) none k = k
no_variable (Case e alts) none k = k

-- nor the name of a made definition
pub no_name : (h : Head) → ((m : _) → h ≡ Made m → ⊥) → IsMade (tree_of h) → ⊥
no_name (Var x) none k = k
no_name (Global d) none k = k
no_name (Made m) none k = none m refl
no_name (Lam t e) none k = k
no_name (TyLam t e) none k = k
no_name (LetRec bs e) none k = k
no_name (Con c) none k = k
no_name (PrimOf p) none k = k
no_name (Lit s b) none k = k
no_name (VecLit t es) none k = k
no_name (Case e alts) none k = k

-- no lambda leads an application
none_leads : (args : List Arg) (e : TermTree) → leading_lambdas e ≡ 0
    → leading_lambdas (applied e args) ≡ 0
none_leads [] e h = h
none_leads (OfTerm a ∷ args) e h = none_leads args (app e a) refl
none_leads (OfType t ∷ args) e h = none_leads args (ty_app e t) refl

pub none_leads_behind : (h : Head) (args : List Arg) (n : ℕ) → n ≡ length args
    → (n == 0) ≡ false → leading_lambdas (applied (tree_of h) args) ≡ 0
none_leads_behind h [] n q some = let none : (n == 0) ≡ true = ap (λ n. n == 0) q in absurd cc
none_leads_behind h (OfTerm a ∷ args) n q some = none_leads args (app (tree_of h) a) refl
none_leads_behind h (OfType t ∷ args) n q some = none_leads args (ty_app (tree_of h) t) refl

-- nor another head
other_head : (h : Head) → ((t : _) (e : _) → h ≡ Lam t e → ⊥) → leading_lambdas (tree_of h) ≡ 0
other_head (Var x) none = refl
other_head (Global d) none = refl
other_head (Made m) none = refl
other_head (Lam t e) none = absurd (none t e refl)
other_head (TyLam k e) none = refl
other_head (LetRec bs e) none = refl
other_head (Con c) none = refl
other_head (PrimOf p) none = refl
other_head (Lit s b) none = refl
other_head (VecLit t es) none = refl
other_head (Case e alts) none = refl

pub none_leads_head : (h : Head) (args : List Arg) → ((t : _) (e : _) → h ≡ Lam t e → ⊥)
    → leading_lambdas (applied (tree_of h) args) ≡ 0
none_leads_head h args none = none_leads args (tree_of h) (other_head h none)
