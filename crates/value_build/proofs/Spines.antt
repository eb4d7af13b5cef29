-- Heads on arguments, as heads on types and operands.
use Rattle.std.proofs.Common.{◌≡◌, ◌∙◌, sym, ap, refl, subst, ℕ, ◌==◌, Bool, true, false, eqb-true, eq-eqb, List, [], ◌∷◌, ◌++◌, length, append_assoc, append-nil}
use Rattle.chw_types.specs.TypeTree.{TypeTree}
use Rattle.chw_terms.specs.declared.term.Arg.{Arg}
use Rattle.chw_terms.specs.declared.term.Arg.TheVariants.{OfTerm, OfType}
use Rattle.chw_terms.specs.declared.term.Head.{Head}
use Rattle.chw_terms.specs.declared.term.Head.TheVariants.{Var, Global, Made, Lam, TyLam, LetRec, Con, PrimOf, Lit, VecLit, Case}
use Rattle.chw_terms.specs.TermTree.{TermTree, app, ty_app}
use Rattle.chw_terms.specs.TermView.{tree_of, applied}
use Rattle.net_built.specs.Terms.{head_of, types_of, operands_of, Variable, wires_of}
use Rattle.net_ready.specs.Ready.{args_of}
use Rattle.value_build.specs.Arguments.{terms_in, types_in}

head_applied : (e : TermTree) (args : List Arg) → head_of (applied e args) ≡ head_of e
head_applied e [] = refl
head_applied e (OfTerm a ∷ args) = head_applied (app e a) args
head_applied e (OfType t ∷ args) = head_applied (ty_app e t) args

types_applied : (e : TermTree) (args : List Arg) → types_of (applied e args) ≡ types_of e ++ types_in args
types_applied e [] = sym (append-nil (types_of e))
types_applied e (OfTerm a ∷ args) = types_applied (app e a) args
types_applied e (OfType t ∷ args) =
    types_applied (ty_app e t) args ∙ append_assoc (types_of e) (t ∷ []) (types_in args)

operands_applied : (e : TermTree) (args : List Arg) → operands_of (applied e args) ≡ operands_of e ++ terms_in args
operands_applied e [] = sym (append-nil (operands_of e))
operands_applied e (OfTerm a ∷ args) =
    operands_applied (app e a) args ∙ append_assoc (operands_of e) (a ∷ []) (terms_in args)
operands_applied e (OfType t ∷ args) = operands_applied (ty_app e t) args

pub args_applied : (e : TermTree) (args : List Arg) → args_of (applied e args) ≡ args_of e ++ args
args_applied e [] = sym (append-nil (args_of e))
args_applied e (OfTerm a ∷ args) = args_applied (app e a) args ∙ append_assoc (args_of e) (OfTerm a ∷ []) args
args_applied e (OfType t ∷ args) = args_applied (ty_app e t) args ∙ append_assoc (args_of e) (OfType t ∷ []) args

-- a head alone
pub record IsAlone (e : TermTree) : Type 0 where
  pub head : head_of e ≡ e
  pub types : types_of e ≡ []
  pub operands : operands_of e ≡ []
  pub args : args_of e ≡ []

pub alone : (h : Head) → IsAlone (tree_of h)
alone (Var x) = record { head = refl; types = refl; operands = refl; args = refl }
alone (Global d) = record { head = refl; types = refl; operands = refl; args = refl }
alone (Made m) = record { head = refl; types = refl; operands = refl; args = refl }
alone (Lam t e) = record { head = refl; types = refl; operands = refl; args = refl }
alone (TyLam k e) = record { head = refl; types = refl; operands = refl; args = refl }
alone (LetRec bs e) = record { head = refl; types = refl; operands = refl; args = refl }
alone (Con c) = record { head = refl; types = refl; operands = refl; args = refl }
alone (PrimOf p) = record { head = refl; types = refl; operands = refl; args = refl }
alone (Lit s b) = record { head = refl; types = refl; operands = refl; args = refl }
alone (VecLit t es) = record { head = refl; types = refl; operands = refl; args = refl }
alone (Case e alts) = record { head = refl; types = refl; operands = refl; args = refl }

-- the head and the arguments of the whole
pub head_is : (h : Head) (args : List Arg) (e : TermTree) → applied (tree_of h) args ≡ e → tree_of h ≡ head_of e
head_is h args e is = let it = alone h in sym it.head ∙ sym (head_applied (tree_of h) args) ∙ ap head_of is

pub args_are : (h : Head) (args : List Arg) (e : TermTree) → applied (tree_of h) args ≡ e → args ≡ args_of e
args_are h args e is = let it = alone h in sym (args_applied (tree_of h) args ∙ ap (λ xs. xs ++ args) it.args) ∙ ap args_of is

-- what holds of a head with the types and the terms among its arguments holds of the parts of the whole
pub of_whole : (P : TermTree → List TypeTree → List TermTree → Type 0) (h : Head) (args : List Arg) (e : TermTree)
    → applied (tree_of h) args ≡ e → P (tree_of h) (types_in args) (terms_in args)
    → P (head_of e) (types_of e) (operands_of e)
of_whole P h args e is p =
    let it = alone h in
    let head : tree_of h ≡ head_of e = sym it.head ∙ sym (head_applied (tree_of h) args) ∙ ap head_of is in
    let types : types_in args ≡ types_of e =
    sym (types_applied (tree_of h) args ∙ ap (λ ts. ts ++ types_in args) it.types) ∙ ap types_of is in
    let operands : terms_in args ≡ operands_of e =
    sym (operands_applied (tree_of h) args ∙ ap (λ es. es ++ terms_in args) it.operands) ∙ ap operands_of is in
    subst (λ k. P k (types_of e) (operands_of e)) head
    (subst (λ ts. P (tree_of h) ts (operands_of e)) types (subst (P (tree_of h) (types_in args)) operands p))

-- no arguments
pub no_args : (args : List Arg) (n : ℕ) (b : Bool) → n ≡ length args → b ≡ (n == 0) → b ≡ true → args ≡ []
no_args [] n b l e t = refl
no_args (a ∷ args) n b l e t = let none : n ≡ 0 = eqb-true n 0 (sym e ∙ t) in absurd cc

-- some
pub some_args : (args : List Arg) (n : ℕ) (b : Bool) → n ≡ length args → b ≡ (n == 0) → b ≡ false → args ≡ [] → ⊥
some_args args n b l e f none =
    let size : n ≡ 0 = l ∙ ap length none in
    let told : (n == 0) ≡ true = eq-eqb n 0 size in
    absurd cc

pub bare_is : (h : TermTree) (args : List Arg) → args ≡ [] → applied h args ≡ h
bare_is h args none = ap (applied h) none

-- what is no variable has no wires
applied_wires : (scope : List Variable) (e : TermTree) (args : List Arg) → wires_of scope e ≡ [] → wires_of scope (applied e args) ≡ []
applied_wires scope e [] none = none
applied_wires scope e (OfTerm a ∷ args) none = applied_wires scope (app e a) args refl
applied_wires scope e (OfType t ∷ args) none = applied_wires scope (ty_app e t) args refl

pub no_wires_on : (scope : List Variable) (h : TermTree) (args : List Arg) → (args ≡ [] → ⊥) → wires_of scope (applied h args) ≡ []
no_wires_on scope h [] some = absurd (some refl)
no_wires_on scope h (OfTerm a ∷ args) some = applied_wires scope (app h a) args refl
no_wires_on scope h (OfType t ∷ args) some = applied_wires scope (ty_app h t) args refl

pub no_wires : (scope : List Variable) (h : Head) → ((x : _) → h ≡ Var x → ⊥) → wires_of scope (tree_of h) ≡ []
no_wires scope (Var x) none = absurd (none x refl)
no_wires scope (Global d) none = refl
no_wires scope (Made m) none = refl
no_wires scope (Lam t e) none = refl
no_wires scope (TyLam k e) none = refl
no_wires scope (LetRec bs e) none = refl
no_wires scope (Con c) none = refl
no_wires scope (PrimOf p) none = refl
no_wires scope (Lit s b) none = refl
no_wires scope (VecLit t es) none = refl
no_wires scope (Case e alts) none = refl
