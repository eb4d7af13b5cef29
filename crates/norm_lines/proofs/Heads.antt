-- The lambdas that lead a term, and what it binds, by its head and its arguments.
use Rattle.std.proofs.Common.{◌≡◌, ◌∙◌, ap, refl, ℕ, suc, ◌==◌, true, false, eqb-true}
use Rattle.std.proofs.Common.{List, [], ◌∷◌, length}
use Rattle.chw_terms.specs.declared.term.Arg.{Arg}
use Rattle.chw_terms.specs.declared.term.Arg.TheVariants.{OfTerm, OfType}
use Rattle.chw_terms.specs.declared.term.Binding.{Binding}
use Rattle.chw_terms.specs.declared.term.Head.{Head}
use Rattle.chw_terms.specs.declared.term.Head.TheVariants.{Var, Global, Made, Lam, TyLam, LetRec}
use Rattle.chw_terms.specs.declared.term.Head.TheVariants.{Con, PrimOf, Lit, VecLit, Case}
use Rattle.chw_terms.specs.TermTree.{TermTree, app, ty_app, size_of}
use Rattle.chw_terms.specs.TermView.{applied, group_of, tree_of}
use Rattle.rewriting.specs.Shapes.{leading_lambdas}
use Rattle.norm_lines.specs.Lines.{bindings_of, under_lambdas}

-- no lambda leads
abbrev pub NoneLeads : TermTree → Type 0
NoneLeads e = (leading_lambdas e ≡ 0) × (under_lambdas e ≡ e)

-- none leads an application
none_leads : (e : TermTree) (args : List Arg) → NoneLeads e → NoneLeads (applied e args)
none_leads e [] h = h
none_leads e (OfTerm a ∷ args) h = none_leads (app e a) args (refl, refl)
none_leads e (OfType t ∷ args) h = none_leads (ty_app e t) args (refl, refl)

pub none_leads_applied
    : (e : TermTree) (args : List Arg) (n : ℕ) → n ≡ length args → (n == 0) ≡ false
    → NoneLeads (applied e args)
none_leads_applied e [] n is some = let none : (n == 0) ≡ true = ap (λ n. n == 0) is in absurd cc
none_leads_applied e (OfTerm a ∷ args) n is some = none_leads (app e a) args (refl, refl)
none_leads_applied e (OfType t ∷ args) n is some = none_leads (ty_app e t) args (refl, refl)

-- nor another head
none_leads_other : (h : Head) → ((t : _) (e : _) → h ≡ Lam t e → ⊥) → NoneLeads (tree_of h)
none_leads_other (Var x) none = (refl, refl)
none_leads_other (Global d) none = (refl, refl)
none_leads_other (Made m) none = (refl, refl)
none_leads_other (Lam t e) none = absurd (none t e refl)
none_leads_other (TyLam k e) none = (refl, refl)
none_leads_other (LetRec bs e) none = (refl, refl)
none_leads_other (Con c) none = (refl, refl)
none_leads_other (PrimOf p) none = (refl, refl)
none_leads_other (Lit s b) none = (refl, refl)
none_leads_other (VecLit t es) none = (refl, refl)
none_leads_other (Case e alts) none = (refl, refl)

pub none_leads_head
    : (h : Head) (args : List Arg) → ((t : _) (e : _) → h ≡ Lam t e → ⊥)
    → NoneLeads (applied (tree_of h) args)
none_leads_head h args none = none_leads (tree_of h) args (none_leads_other h none)

-- an application binds nothing
none_bound : (e : TermTree) (args : List Arg) → bindings_of e ≡ 0 → bindings_of (applied e args) ≡ 0
none_bound e [] h = h
none_bound e (OfTerm a ∷ args) h = none_bound (app e a) args refl
none_bound e (OfType t ∷ args) h = none_bound (ty_app e t) args refl

pub none_bound_applied
    : (e : TermTree) (args : List Arg) (n : ℕ) → n ≡ length args → (n == 0) ≡ false
    → bindings_of (applied e args) ≡ 0
none_bound_applied e [] n is some = let none : (n == 0) ≡ true = ap (λ n. n == 0) is in absurd cc
none_bound_applied e (OfTerm a ∷ args) n is some = none_bound (app e a) args refl
none_bound_applied e (OfType t ∷ args) n is some = none_bound (ty_app e t) args refl

-- nor does another head
none_bound_other
    : (h : Head) → ((bs : _) (e : _) → h ≡ LetRec bs e → ⊥) → bindings_of (tree_of h) ≡ 0
none_bound_other (Var x) none = refl
none_bound_other (Global d) none = refl
none_bound_other (Made m) none = refl
none_bound_other (Lam t e) none = refl
none_bound_other (TyLam k e) none = refl
none_bound_other (LetRec bs e) none = absurd (none bs e refl)
none_bound_other (Con c) none = refl
none_bound_other (PrimOf p) none = refl
none_bound_other (Lit s b) none = refl
none_bound_other (VecLit t es) none = refl
none_bound_other (Case e alts) none = refl

pub none_bound_head
    : (h : Head) (args : List Arg) → ((bs : _) (e : _) → h ≡ LetRec bs e → ⊥)
    → bindings_of (applied (tree_of h) args) ≡ 0
none_bound_head h args none = none_bound (tree_of h) args (none_bound_other h none)

-- a group binds as many variables as it has bindings
pub size_of_group : (bs : List Binding) → size_of (group_of bs) ≡ length bs
size_of_group [] = refl
size_of_group (b ∷ bs) = ap suc (size_of_group bs)

pub bound_by_letrec
    : (h : Head) (bs : _) (e : _) (args : List Arg) (n : ℕ)
    → h ≡ LetRec bs e → n ≡ length args → (n == 0) ≡ true
    → bindings_of (applied (tree_of h) args) ≡ length bs.items
bound_by_letrec h bs e [] n q is none = ap (λ h. bindings_of (tree_of h)) q ∙ size_of_group bs.items
bound_by_letrec h bs e (a ∷ args) n q is none = let zero = eqb-true n 0 none in absurd cc
