-- Types that are no functions, and terms that are no lambdas.
use Rattle.std.proofs.Common.{◌≡◌, refl, List, []}
use Rattle.chw_types.specs.declared.ty.TyNode.{TyNode}
use Rattle.chw_types.specs.declared.ty.TyNode.TheVariants.{Var as TyVar, NatLit, Sum, Times, DomOf, Unsigned, Signed, BitVector, Vec as VecNode, DataOf, Fun, Signal, Forall}
use Rattle.chw_types.specs.TypeTree.{TypeTree, fun}
use Rattle.chw_types.specs.TypeView.{tree_of as type_of}
use Rattle.chw_terms.specs.declared.term.Arg.{Arg}
use Rattle.chw_terms.specs.declared.term.Head.{Head}
use Rattle.chw_terms.specs.declared.term.Head.TheVariants.{Var, Global, Made, Lam, TyLam, LetRec, Con, PrimOf, Lit, VecLit, Case}
use Rattle.chw_terms.specs.TermTree.{TermTree, lam}
use Rattle.chw_terms.specs.TermView.{tree_of, applied}
use Rattle.rewriting.proofs.Spines.{IsBare, head_is}
use Rattle.rule_parts.proofs.Heads.{bare}

pub no_function_type : (n : TyNode) → ((a b : _) → n ≡ Fun a b → ⊥) → (a b : TypeTree) → type_of n ≡ fun a b → ⊥
no_function_type (TyVar x) none a b h = absurd cc
no_function_type (NatLit n) none a b h = absurd cc
no_function_type (Sum x y) none a b h = absurd cc
no_function_type (Times x y) none a b h = absurd cc
no_function_type (DomOf d) none a b h = absurd cc
no_function_type (Unsigned w) none a b h = absurd cc
no_function_type (Signed w) none a b h = absurd cc
no_function_type (BitVector w) none a b h = absurd cc
no_function_type (VecNode n t) none a b h = absurd cc
no_function_type (DataOf d ts) none a b h = absurd cc
no_function_type (Fun x y) none a b h = none x y refl
no_function_type (Signal d t) none a b h = absurd cc
no_function_type (Forall k t) none a b h = absurd cc

no_lambda_head : (h : Head) → ((t e : _) → h ≡ Lam t e → ⊥) → (a : TypeTree) (body : TermTree) → tree_of h ≡ lam a body → ⊥
no_lambda_head (Var x) none a body q = absurd cc
no_lambda_head (Global d) none a body q = absurd cc
no_lambda_head (Made m) none a body q = absurd cc
no_lambda_head (Lam t e) none a body q = none t e refl
no_lambda_head (TyLam k e) none a body q = absurd cc
no_lambda_head (LetRec bs e) none a body q = absurd cc
no_lambda_head (Con c) none a body q = absurd cc
no_lambda_head (PrimOf p) none a body q = absurd cc
no_lambda_head (Lit s b) none a body q = absurd cc
no_lambda_head (VecLit t es) none a body q = absurd cc
no_lambda_head (Case e alts) none a body q = absurd cc

bare_lam : (a : TypeTree) (e : TermTree) → IsBare (lam a e)
bare_lam a e = record { itself = refl; alone = refl }

pub no_lambda_term : (h : Head) (args : List Arg) → ((t e : _) → h ≡ Lam t e → ⊥) → (a : TypeTree) (body : TermTree) → applied (tree_of h) args ≡ lam a body → ⊥
no_lambda_term h args none a body q =
    let nothing : List Arg = [] in
    let is : applied (tree_of h) args ≡ applied (lam a body) nothing = q in
    no_lambda_head h none a body (head_is (tree_of h) (lam a body) args nothing (bare h) (bare_lam a body) is)
