-- Terms that lambdas lead, and names of made definitions, as heads with arguments.
use Rattle.std.proofs.Common.{◌≡◌, ◌∙◌, ◌↔◌, sym, ap, refl, subst, ℕ, ◌==◌, Bool, true, false, IsTrue, List, [], ◌∷◌, length, eqb-true}
use Rattle.chw_base.specs.declared.index.MadeId.{MadeId}
use Rattle.chw_terms.specs.declared.term.Arg.{Arg}
use Rattle.chw_terms.specs.declared.term.Arg.TheVariants.{OfTerm, OfType}
use Rattle.chw_terms.specs.declared.term.Head.{Head}
use Rattle.chw_terms.specs.declared.term.Head.TheVariants.{Var, Global, Made, Lam, TyLam, LetRec, Con, PrimOf, Lit, VecLit, Case}
use Rattle.chw_terms.specs.TermTree.{TermTree, app, ty_app}
use Rattle.chw_terms.specs.TermView.{tree_of, applied}
use Rattle.rewriting.specs.Shapes.{IsMade, leading_lambdas}

-- none leads an application
none_leads : (args : List Arg) (e : TermTree) → leading_lambdas e ≡ 0 → leading_lambdas (applied e args) ≡ 0
none_leads [] e h = h
none_leads (OfTerm a ∷ args) e h = none_leads args (app e a) refl
none_leads (OfType t ∷ args) e h = none_leads args (ty_app e t) refl

pub none_leads_behind : (h : Head) (args : List Arg) (n : ℕ) → n ≡ length args → (n == 0) ≡ false → leading_lambdas (applied (tree_of h) args) ≡ 0
none_leads_behind h [] n q some = let none : (n == 0) ≡ true = ap (λ n. n == 0) q in absurd cc
none_leads_behind h (OfTerm a ∷ args) n q some = none_leads args (app (tree_of h) a) refl
none_leads_behind h (OfType t ∷ args) n q some = none_leads args (ty_app (tree_of h) t) refl

-- nor another head
other_head : (h : Head) → ((t : _) (e : _) → h ≡ Lam t e → ⊥) → leading_lambdas (tree_of h) ≡ 0
other_head (Var x) none = refl
other_head (Global d) none = refl
other_head (Made m) none = refl
other_head (Lam t e) none = absurd (none t e refl)
other_head (TyLam k e) none = refl
other_head (LetRec bs e) none = refl
other_head (Con c) none = refl
other_head (PrimOf p) none = refl
other_head (Lit s b) none = refl
other_head (VecLit t es) none = refl
other_head (Case e alts) none = refl

pub none_leads_head : (h : Head) (args : List Arg) → ((t : _) (e : _) → h ≡ Lam t e → ⊥) → leading_lambdas (applied (tree_of h) args) ≡ 0
none_leads_head h args none = none_leads args (tree_of h) (other_head h none)

-- an application is no bare name
no_name : (args : List Arg) (e : TermTree) → (IsMade e → ⊥) → IsMade (applied e args) → ⊥
no_name [] e h = h
no_name (OfTerm a ∷ args) e h = no_name args (app e a) (λ m. m)
no_name (OfType t ∷ args) e h = no_name args (ty_app e t) (λ m. m)

no_made : (h : Head) → ((m : MadeId) → h ≡ Made m → ⊥) → IsMade (tree_of h) → ⊥
no_made (Var x) none k = k
no_made (Global d) none k = k
no_made (Made m) none k = none m refl
no_made (Lam t e) none k = k
no_made (TyLam t e) none k = k
no_made (LetRec bs e) none k = k
no_made (Con c) none k = k
no_made (PrimOf p) none k = k
no_made (Lit s b) none k = k
no_made (VecLit t es) none k = k
no_made (Case e alts) none k = k

pub other_name : (h : Head) (args : List Arg) → ((m : MadeId) → h ≡ Made m → ⊥) → IsMade (applied (tree_of h) args) → ⊥
other_name h args none = no_name args (tree_of h) (no_made h none)

-- the name of a made definition is bare where it has no arguments
pub bare_name_tells : (h : Head) (m : MadeId) (args : List Arg) (n : ℕ) (b : Bool) → h ≡ Made m → n ≡ length args → b ≡ (n == 0) → IsTrue b ↔ IsMade (applied (tree_of h) args)
bare_name_tells h m [] n b q l e = (λ t. subst (λ h. IsMade (tree_of h)) (sym q) tt, λ k. e ∙ ap (λ n. n == 0) l)
bare_name_tells h m (OfTerm a ∷ args) n b q l e =
    (λ t. let none = eqb-true n 0 (sym e ∙ t) in absurd cc, λ k. absurd (no_name args (app (tree_of h) a) (λ m. m) k))
bare_name_tells h m (OfType a ∷ args) n b q l e =
    (λ t. let none = eqb-true n 0 (sym e ∙ t) in absurd cc, λ k. absurd (no_name args (ty_app (tree_of h) a) (λ m. m) k))
