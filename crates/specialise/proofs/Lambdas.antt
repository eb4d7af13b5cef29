-- Lambdas before calls, and definitions in place of their names.
use Rattle.std.proofs.Common.{◌≡◌, ◌∙◌, ap, sym, refl, ℕ, ◌==◌, true, false, List, [], ◌∷◌, ◌++◌, length, Option, Some, None}
use Rattle.std.specs.List.{slice_get}
use Rattle.std.specs.Option.{option_map, unwrap_or}
use Rattle.chw_types.specs.TypeTree.{TypeTree, fun}
use Rattle.chw_terms.specs.declared.program.Def.{Def}
use Rattle.chw_terms.specs.declared.program.Program.{Program}
use Rattle.chw_terms.specs.declared.term.Arg.{Arg}
use Rattle.chw_terms.specs.declared.term.Arg.TheVariants.{OfTerm, OfType}
use Rattle.chw_terms.specs.declared.term.Head.{Head}
use Rattle.chw_terms.specs.declared.term.Head.TheVariants.{Var, Global, Made, Lam, TyLam, LetRec, Con, PrimOf, Lit, VecLit, Case}
use Rattle.chw_terms.specs.TermTree.{TermTree, global, lam, app, ty_app}
use Rattle.chw_terms.specs.TermView.{tree_of, applied}
use Rattle.chw_typing.specs.HeadTypes.{from_each}
use Rattle.rewriting.specs.Origins.{Origins, origin_of, under_each, with_origins}
use Rattle.rewriting.specs.Runs.{first_body, with_definition}

-- one lambda, and one parameter, fewer
pub under_last : (ts : List TypeTree) (t : TypeTree) (e : TermTree) → under_each (ts ++ t ∷ []) e ≡ under_each ts (lam t e)
under_last [] t e = refl
under_last (u ∷ ts) t e = ap (lam u) (under_last ts t e)

pub from_last : (ts : List TypeTree) (t r : TypeTree) → from_each (ts ++ t ∷ []) r ≡ from_each ts (fun t r)
from_last [] t r = refl
from_last (u ∷ ts) t r = ap (fun u) (from_last ts t r)

-- lambdas hold no made definitions
pub origin_under : (o : Origins) (ts : List TypeTree) (e : TermTree) → under_each ts (origin_of o e) ≡ origin_of o (under_each ts e)
unfolding with_origins
origin_under o [] e = refl
origin_under o (t ∷ ts) e = ap (lam t) (origin_under o ts e)

-- the head's definition, before arguments
pub definition_applied : (p : Program) (e : TermTree) (args : List Arg) → with_definition p (applied e args) ≡ applied (with_definition p e) args
definition_applied p e [] = refl
definition_applied p e (OfTerm a ∷ args) = definition_applied p (app e a) args
definition_applied p e (OfType t ∷ args) = definition_applied p (ty_app e t) args

-- no lambda leads an application, nor another head
first_applied : (p : Program) (e : TermTree) (args : List Arg) → first_body p e ≡ with_definition p e → first_body p (applied e args) ≡ with_definition p (applied e args)
first_applied p e [] h = h
first_applied p e (OfTerm a ∷ args) h = first_applied p (app e a) args refl
first_applied p e (OfType t ∷ args) h = first_applied p (ty_app e t) args refl

first_head : (p : Program) (h : Head) → ((t : _) (e : _) → h ≡ Lam t e → ⊥) → first_body p (tree_of h) ≡ with_definition p (tree_of h)
first_head p (Var x) none = refl
first_head p (Global d) none = refl
first_head p (Made m) none = refl
first_head p (Lam t e) none = absurd (none t e refl)
first_head p (TyLam k e) none = refl
first_head p (LetRec bs e) none = refl
first_head p (Con c) none = refl
first_head p (PrimOf q) none = refl
first_head p (Lit s b) none = refl
first_head p (VecLit t es) none = refl
first_head p (Case e alts) none = refl

pub first_other : (p : Program) (h : Head) (args : List Arg) → ((t : _) (e : _) → h ≡ Lam t e → ⊥) → first_body p (applied (tree_of h) args) ≡ with_definition p (applied (tree_of h) args)
first_other p h args none = first_applied p (tree_of h) args (first_head p h none)

pub first_behind : (p : Program) (h : Head) (args : List Arg) (n : ℕ) → n ≡ length args → (n == 0) ≡ false → first_body p (applied (tree_of h) args) ≡ with_definition p (applied (tree_of h) args)
first_behind p h [] n q some = let none : (n == 0) ≡ true = ap (λ n. n == 0) q in absurd cc
first_behind p h (OfTerm a ∷ args) n q some = first_applied p (app (tree_of h) a) args refl
first_behind p h (OfType t ∷ args) n q some = first_applied p (ty_app (tree_of h) t) args refl

-- what has no name of a definition at its head stays
other_stays : (p : Program) (h : Head) → ((d : _) → h ≡ Global d → ⊥) → with_definition p (tree_of h) ≡ tree_of h
other_stays p (Var x) none = refl
other_stays p (Global d) none = absurd (none d refl)
other_stays p (Made m) none = refl
other_stays p (Lam t e) none = refl
other_stays p (TyLam k e) none = refl
other_stays p (LetRec bs e) none = refl
other_stays p (Con c) none = refl
other_stays p (PrimOf q) none = refl
other_stays p (Lit s b) none = refl
other_stays p (VecLit t es) none = refl
other_stays p (Case e alts) none = refl

pub other_head_stays : (p : Program) (h : Head) (args : List Arg) → ((d : _) → h ≡ Global d → ⊥) → applied (tree_of h) args ≡ with_definition p (applied (tree_of h) args)
other_head_stays p h args none = sym (definition_applied p (tree_of h) args ∙ ap (λ e. applied e args) (other_stays p h none))

-- the name of a definition on arguments, where there is that definition, and where there is none
pub definition_put : (p : Program) (d : ℕ) (args : List Arg) (it : Def) → slice_get p.defs d ≡ Some it → applied it.body args ≡ with_definition p (applied (global d) args)
definition_put p d args it is =
    ap (λ (r : Option Def). applied (unwrap_or (option_map (λ (it : Def). it.body) r) (global d)) args) (sym is) ∙ sym (definition_applied p (global d) args)

pub definition_missing : (p : Program) (d : ℕ) (args : List Arg) → slice_get p.defs d ≡ None → applied (global d) args ≡ with_definition p (applied (global d) args)
definition_missing p d args none =
    ap (λ (r : Option Def). applied (unwrap_or (option_map (λ (it : Def). it.body) r) (global d)) args) (sym none) ∙ sym (definition_applied p (global d) args)
