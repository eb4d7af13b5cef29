-- Small terms by their heads and arguments, as they are in memory.
use Rattle.std.proofs.Common.{◌≡◌, ◌∙◌, ◌↔◌, sym, ap, refl, subst, Bool, IsTrue, ℕ, List, [], ◌∷◌, length, ◌==◌}
use Rattle.std.proofs.lemmas.Bool.{eqb-true}
use Rattle.chw_terms.specs.declared.term.Arg.{Arg}
use Rattle.chw_terms.specs.declared.term.Head.{Head}
use Rattle.chw_terms.specs.declared.term.Head.TheVariants.{Var, Global, Made, Lam, TyLam, LetRec, Con, PrimOf, Lit, VecLit, Case}
use Rattle.chw_terms.specs.TermTree.{TermTree, var, made}
use Rattle.chw_terms.specs.TermView.{tree_of, applied}
use Rattle.rewriting.specs.Shapes.{IsVariable, IsMade}
use Rattle.rewriting.proofs.Spines.{IsBare, head_of, args_of, args_are}
use Rattle.quiet_sides.proofs.Forms.{on_applied}

pub bare : (h : Head) → IsBare (tree_of h)
bare (Var x) = record { itself = refl; alone = refl }
bare (Global d) = record { itself = refl; alone = refl }
bare (Made m) = record { itself = refl; alone = refl }
bare (Lam t e) = record { itself = refl; alone = refl }
bare (TyLam k e) = record { itself = refl; alone = refl }
bare (LetRec bs e) = record { itself = refl; alone = refl }
bare (Con c) = record { itself = refl; alone = refl }
bare (PrimOf p) = record { itself = refl; alone = refl }
bare (Lit s b) = record { itself = refl; alone = refl }
bare (VecLit t es) = record { itself = refl; alone = refl }
bare (Case e alts) = record { itself = refl; alone = refl }

-- no arguments
pub none_told : (args : List Arg) (n : ℕ) (b : Bool) → n ≡ length args → b ≡ (n == 0) → IsTrue b ↔ (args ≡ [])
none_told [] n b l e = (λ t. refl, λ k. e ∙ ap (λ n. n == 0) l)
none_told (a ∷ args) n b l e = (λ t. let none = eqb-true n 0 (sym e ∙ t) in absurd cc, λ k. absurd cc)

-- variables
abbrev VariableOn : TermTree → List Arg → Type 0
VariableOn (var x) args = args ≡ []
VariableOn _ args = ⊥

from_variable : (e : TermTree) (h : Head) (args : List Arg) → applied (tree_of h) args ≡ e → IsVariable e → VariableOn (tree_of h) args
from_variable (var x) h args q v = on_applied VariableOn (tree_of h) args (bare h) (subst (λ e. VariableOn (head_of e) (args_of e)) (sym q) refl)
from_variable _ h args q v = absurd v

pub variable_alone : (x : _) (args : List Arg) → (args ≡ []) ↔ IsVariable (applied (tree_of (Var x)) args)
variable_alone x args = (λ none. subst (λ xs. IsVariable (applied (tree_of (Var x)) xs)) (sym none) tt, λ v. from_variable _ (Var x) args refl v)

pub other_variable : (h : Head) → ((x : _) → h ≡ Var x → ⊥) → (args : List Arg) → IsVariable (applied (tree_of h) args) → ⊥
other_variable h none args v = by h none (from_variable _ h args refl v)
  where
    by : (h : Head) → ((x : _) → h ≡ Var x → ⊥) → VariableOn (tree_of h) args → ⊥
    by (Var x) none k = none x refl
    by (Global d) none k = k
    by (Made m) none k = k
    by (Lam t e) none k = k
    by (TyLam t e) none k = k
    by (LetRec bs e) none k = k
    by (Con c) none k = k
    by (PrimOf p) none k = k
    by (Lit s b) none k = k
    by (VecLit t es) none k = k
    by (Case e alts) none k = k

-- made definitions
abbrev MadeOn : TermTree → List Arg → Type 0
MadeOn (made m) args = args ≡ []
MadeOn _ args = ⊥

from_made : (e : TermTree) (h : Head) (args : List Arg) → applied (tree_of h) args ≡ e → IsMade e → MadeOn (tree_of h) args
from_made (made m) h args q v = on_applied MadeOn (tree_of h) args (bare h) (subst (λ e. MadeOn (head_of e) (args_of e)) (sym q) refl)
from_made _ h args q v = absurd v

pub made_alone : (m : _) (args : List Arg) → (args ≡ []) ↔ IsMade (applied (tree_of (Made m)) args)
made_alone m args = (λ none. subst (λ xs. IsMade (applied (tree_of (Made m)) xs)) (sym none) tt, λ v. from_made _ (Made m) args refl v)

pub other_made : (h : Head) → ((m : _) → h ≡ Made m → ⊥) → (args : List Arg) → IsMade (applied (tree_of h) args) → ⊥
other_made h none args v = by h none (from_made _ h args refl v)
  where
    by : (h : Head) → ((m : _) → h ≡ Made m → ⊥) → MadeOn (tree_of h) args → ⊥
    by (Var x) none k = k
    by (Global d) none k = k
    by (Made m) none k = none m refl
    by (Lam t e) none k = k
    by (TyLam t e) none k = k
    by (LetRec bs e) none k = k
    by (Con c) none k = k
    by (PrimOf p) none k = k
    by (Lit s b) none k = k
    by (VecLit t es) none k = k
    by (Case e alts) none k = k

-- a term that is a head alone has no arguments
pub alone : (h k : TermTree) (args : List Arg) (e : TermTree) → IsBare h → IsBare k → applied h args ≡ e → e ≡ k → args ≡ []
alone h k args e b d is q = let none : List Arg = [] in args_are h k args none b d (is ∙ q)
