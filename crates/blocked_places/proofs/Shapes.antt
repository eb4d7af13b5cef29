-- Terms that are no letrecs, and terms that are no primitives with arguments.
use Rattle.std.proofs.Common.{◌≡◌, ◌∙◌, sym, refl, List, []}
use Rattle.chw_prims.specs.declared.prim.Primitive.{Primitive as Prim}
use Rattle.chw_terms.specs.declared.term.Arg.{Arg}
use Rattle.chw_terms.specs.declared.term.Head.{Head}
use Rattle.chw_terms.specs.declared.term.Head.TheVariants.{Var, Global, Made, Lam, TyLam, LetRec, Con}
use Rattle.chw_terms.specs.declared.term.Head.TheVariants.{PrimOf, Lit, VecLit, Case}
use Rattle.chw_terms.specs.TermTree.{TermTree, letrec, prim, Group}
use Rattle.chw_terms.specs.TermView.{tree_of, applied}
use Rattle.rewriting.proofs.Spines.{IsBare, head_is, args_are}
use Rattle.rule_parts.proofs.Heads.{bare}

bare_letrec : (g : Group) (x : TermTree) → IsBare (letrec g x)
bare_letrec g x = record { itself = refl; alone = refl }

pub bare_prim : (p : Prim) → IsBare (prim p)
bare_prim p = record { itself = refl; alone = refl }

pub same_group : (g h : Group) (x y : TermTree) → letrec g x ≡ letrec h y → g ≡ h
same_group g h x y q = cc

no_letrec_head : (h : Head) → ((bs e : _) → h ≡ LetRec bs e → ⊥) → (g : Group) (x : TermTree)
    → tree_of h ≡ letrec g x → ⊥
no_letrec_head (Var y) none g x q = absurd cc
no_letrec_head (Global d) none g x q = absurd cc
no_letrec_head (Made m) none g x q = absurd cc
no_letrec_head (Lam t e) none g x q = absurd cc
no_letrec_head (TyLam k e) none g x q = absurd cc
no_letrec_head (LetRec bs e) none g x q = none bs e refl
no_letrec_head (Con c) none g x q = absurd cc
no_letrec_head (PrimOf p) none g x q = absurd cc
no_letrec_head (Lit s b) none g x q = absurd cc
no_letrec_head (VecLit t es) none g x q = absurd cc
no_letrec_head (Case e alts) none g x q = absurd cc

pub no_prim_head : (h : Head) → ((p : _) → h ≡ PrimOf p → ⊥) → (p : Prim) → tree_of h ≡ prim p → ⊥
no_prim_head (Var y) none p q = absurd cc
no_prim_head (Global d) none p q = absurd cc
no_prim_head (Made m) none p q = absurd cc
no_prim_head (Lam t e) none p q = absurd cc
no_prim_head (TyLam k e) none p q = absurd cc
no_prim_head (LetRec bs e) none p q = absurd cc
no_prim_head (Con c) none p q = absurd cc
no_prim_head (PrimOf r) none p q = none r refl
no_prim_head (Lit s b) none p q = absurd cc
no_prim_head (VecLit t es) none p q = absurd cc
no_prim_head (Case e alts) none p q = absurd cc

-- no head is both
pub no_both : (h : Head) (bs e p : _) → h ≡ LetRec bs e → h ≡ PrimOf p → ⊥
no_both h bs e p q r = let both : LetRec bs e ≡ PrimOf p = sym q ∙ r in absurd cc

-- a letrec has no arguments
pub letrec_alone : (h : Head) (args : List Arg) (g : Group) (x : TermTree)
    → applied (tree_of h) args ≡ letrec g x → args ≡ []
letrec_alone h args g x q =
    let nothing : List Arg = [] in
    args_are (tree_of h) (letrec g x) args nothing (bare h) (bare_letrec g x) q

pub no_letrec : (h : Head) (args : List Arg) → ((bs e : _) → h ≡ LetRec bs e → ⊥)
    → (g : Group) (x : TermTree) → applied (tree_of h) args ≡ letrec g x → ⊥
no_letrec h args none g x q =
    let nothing : List Arg = [] in
    no_letrec_head h none g x (head_is (tree_of h) (letrec g x) args nothing (bare h) (bare_letrec g x) q)

pub no_prim : (h : Head) (args : List Arg) → ((p : _) → h ≡ PrimOf p → ⊥)
    → (p : Prim) (more : List Arg) → applied (tree_of h) args ≡ applied (prim p) more → ⊥
no_prim h args none p more q =
    no_prim_head h none p (head_is (tree_of h) (prim p) args more (bare h) (bare_prim p) q)

-- a primitive on arguments is one primitive on one list
pub record SamePrim (p r : Prim) (args more : List Arg) : Type 0 where
  pub which : p ≡ r
  pub on : args ≡ more

pub same_prim : (p r : Prim) (args more : List Arg) → applied (prim p) args ≡ applied (prim r) more
    → SamePrim p r args more
same_prim p r args more q =
    let is : prim p ≡ prim r = head_is (prim p) (prim r) args more (bare_prim p) (bare_prim r) q in
    record { which = cc; on = args_are (prim p) (prim r) args more (bare_prim p) (bare_prim r) q }

pub prim_no_letrec : (p : Prim) (args : List Arg) (g : Group) (x : TermTree)
    → applied (prim p) args ≡ letrec g x → ⊥
prim_no_letrec p args g x q =
    let nothing : List Arg = [] in
    let is : prim p ≡ letrec g x = head_is (prim p) (letrec g x) args nothing (bare_prim p) (bare_letrec g x) q in
    absurd cc
