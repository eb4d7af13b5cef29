-- Terms that are variables in scope.
use Rattle.std.proofs.Common.{◌≡◌, ◌∙◌, refl, sym, subst, ℕ, List, [], Some, slice_get}
use Rattle.chw_base.specs.declared.index.VarIx.{VarIx}
use Rattle.chw_types.specs.TypeTree.{TypeTree}
use Rattle.chw_terms.specs.declared.term.Arg.{Arg}
use Rattle.chw_terms.specs.declared.term.Head.{Head}
use Rattle.chw_terms.specs.declared.term.Head.TheVariants.{Var, Global, Made, Lam, TyLam, LetRec, Con, PrimOf, Lit, VecLit, Case}
use Rattle.chw_terms.specs.TermTree.{TermTree, var}
use Rattle.chw_terms.specs.TermView.{tree_of, applied}
use Rattle.rewriting.proofs.Spines.{IsBare, head_is, args_are}
use Rattle.rule_parts.proofs.Heads.{bare}
use Rattle.active_parts.specs.Below.{IsVariable}

-- the head of a variable
record IsIndex (h : Head) (x : ℕ) : Type 0 where
  index : VarIx
  head : h ≡ Var index
  number : index.number ≡ x

index_of : (h : Head) (x : ℕ) → tree_of h ≡ var x → IsIndex h x
index_of (Var y) x q = record { index = y; head = refl; number = cc }
index_of (Global d) x q = absurd cc
index_of (Made m) x q = absurd cc
index_of (Lam t e) x q = absurd cc
index_of (TyLam k e) x q = absurd cc
index_of (LetRec bs e) x q = absurd cc
index_of (Con c) x q = absurd cc
index_of (PrimOf p) x q = absurd cc
index_of (Lit s b) x q = absurd cc
index_of (VecLit t es) x q = absurd cc
index_of (Case e alts) x q = absurd cc

-- a variable in scope has a head and no arguments
pub record InScope (vars : List TypeTree) (h : Head) (args : List Arg) : Type 0 where
  pub index : VarIx
  pub head : h ≡ Var index
  pub alone : args ≡ []
  pub type : TypeTree
  pub at : slice_get vars index.number ≡ Some type

bare_var : (x : ℕ) → IsBare (var x)
bare_var x = record { itself = refl; alone = refl }

pub in_scope : (vars : List TypeTree) (h : Head) (args : List Arg) (e : TermTree) (u : TypeTree)
    → applied (tree_of h) args ≡ e → IsVariable vars e u → InScope vars h args
in_scope vars h args e u whole v =
    let none : List Arg = [] in
    let is : applied (tree_of h) args ≡ applied (var v.0) none = whole ∙ v.1 in
    let it = index_of h v.0 (head_is (tree_of h) (var v.0) args none (bare h) (bare_var v.0) is) in
    record {
      index = it.index;
      head = it.head;
      alone = args_are (tree_of h) (var v.0) args none (bare h) (bare_var v.0) is;
      type = u;
      at = subst (λ n. slice_get vars n ≡ Some u) (sym it.number) v.2;
    }

-- a variable has one type
same_index : (x y : ℕ) → var x ≡ var y → x ≡ y
same_index x y h = cc

pub one_type : (vars : List TypeTree) (e : TermTree) (u v : TypeTree)
    → IsVariable vars e u → IsVariable vars e v → u ≡ v
one_type vars e u v a b =
    let same = same_index a.0 b.0 (sym a.1 ∙ b.1) in
    let there : slice_get vars b.0 ≡ Some u = subst (λ n. slice_get vars n ≡ Some u) same a.2 in
    let here : slice_get vars b.0 ≡ Some v = b.2 in
    cc
