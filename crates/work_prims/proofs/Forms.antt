-- Which heads are written vectors and literals, and that they stand alone.
use Rattle.std.proofs.Common.{◌≡◌, ◌∙◌, sym, ap, refl, ℕ, Bool, false, List, [], length}
use Rattle.std.specs.Prelude.{◌==◌}
use Rattle.chw_types.specs.declared.kind.Scalar.{Scalar}
use Rattle.chw_types.specs.TypeTree.{TypeTree}
use Rattle.chw_prims.specs.declared.prim.Primitive.{Primitive as Prim}
use Rattle.chw_terms.specs.declared.term.Arg.{Arg}
use Rattle.chw_terms.specs.declared.term.Head.{Head}
use Rattle.chw_terms.specs.declared.term.Head.TheVariants.{Var, Global, Made, Lam, TyLam, LetRec, Con, PrimOf, Lit, VecLit, Case}
use Rattle.chw_terms.specs.TermTree.{TermTree, Terms, prim, vec_lit, lit}
use Rattle.chw_terms.specs.TermView.{tree_of, applied}
use Rattle.rewriting.proofs.Spines.{IsBare, head_is, args_are}
use Rattle.rule_parts.proofs.Heads.{bare}

-- a term that is no application has its head alone
pub lone_head : (h : Head) (args : List Arg) (e : TermTree) → IsBare e → applied (tree_of h) args ≡ e → tree_of h ≡ e
lone_head h args e b q = head_is (tree_of h) e args [] (bare h) b q

pub lone_args : (h : Head) (args : List Arg) (e : TermTree) → IsBare e → applied (tree_of h) args ≡ e → args ≡ []
lone_args h args e b q = args_are (tree_of h) e args [] (bare h) b q

pub bare_vector : (t : TypeTree) (es : Terms) → IsBare (vec_lit t es)
bare_vector t es = record { itself = refl; alone = refl }

pub bare_literal : (x : Scalar) (bits : List Bool) → IsBare (lit x bits)
bare_literal x bits = record { itself = refl; alone = refl }

-- another head is no written vector
pub no_vector : (h : Head) → ((t es : _) → h ≡ VecLit t es → ⊥) → (t : TypeTree) (es : Terms) → tree_of h ≡ vec_lit t es → ⊥
no_vector (VecLit u fs) none t es q = none u fs refl
no_vector (Var x) none t es q = absurd cc
no_vector (Global d) none t es q = absurd cc
no_vector (Made m) none t es q = absurd cc
no_vector (Lam u e) none t es q = absurd cc
no_vector (TyLam k e) none t es q = absurd cc
no_vector (LetRec bs e) none t es q = absurd cc
no_vector (Con c) none t es q = absurd cc
no_vector (PrimOf p) none t es q = absurd cc
no_vector (Lit x b) none t es q = absurd cc
no_vector (Case e alts) none t es q = absurd cc

-- and another one no literal
pub no_literal : (h : Head) → ((x b : _) → h ≡ Lit x b → ⊥) → (x : Scalar) (bits : List Bool) → tree_of h ≡ lit x bits → ⊥
no_literal (Lit y b) none x bits q = none y b refl
no_literal (VecLit u fs) none x bits q = absurd cc
no_literal (Var y) none x bits q = absurd cc
no_literal (Global d) none x bits q = absurd cc
no_literal (Made m) none x bits q = absurd cc
no_literal (Lam u e) none x bits q = absurd cc
no_literal (TyLam k e) none x bits q = absurd cc
no_literal (LetRec bs e) none x bits q = absurd cc
no_literal (Con c) none x bits q = absurd cc
no_literal (PrimOf p) none x bits q = absurd cc
no_literal (Case e alts) none x bits q = absurd cc

-- a list of none is found to be empty
pub no_others : (args : List Arg) (empty : Bool) (len : ℕ) → args ≡ [] → len ≡ length args → empty ≡ (len == 0) → empty ≡ false → ⊥
no_others args empty len none n e f = let count : len ≡ 0 = n ∙ ap length none in let is : (0 == 0) ≡ false = ap (λ n. n == 0) (sym count) ∙ sym e ∙ f in absurd cc

-- another head is no primitive
pub no_prim : (h : Head) → ((p : Prim) → h ≡ PrimOf p → ⊥) → (p : Prim) → tree_of h ≡ prim p → ⊥
no_prim (PrimOf r) none p q = none r refl
no_prim (Lit y b) none p q = absurd cc
no_prim (VecLit u fs) none p q = absurd cc
no_prim (Var y) none p q = absurd cc
no_prim (Global d) none p q = absurd cc
no_prim (Made m) none p q = absurd cc
no_prim (Lam u e) none p q = absurd cc
no_prim (TyLam k e) none p q = absurd cc
no_prim (LetRec bs e) none p q = absurd cc
no_prim (Con c) none p q = absurd cc
no_prim (Case e alts) none p q = absurd cc
