-- What the head of a term is.
use Rattle.std.proofs.Common.{◌≡◌, ◌∙◌, sym, ap, refl, subst, List, [], ◌∷◌, ◌++◌}
use Rattle.chw_terms.specs.declared.term.Arg.{Arg}
use Rattle.chw_terms.specs.declared.term.Arg.TheVariants.{OfTerm, OfType}
use Rattle.chw_terms.specs.TermTree.{TermTree, var, global, made, lam, app, ty_lam, ty_app, letrec, con, prim, lit, vec_lit, case_of}
use Rattle.chw_terms.specs.TermView.{applied}
use Rattle.rewriting.specs.Shapes.{IsVariable}
use Rattle.rewriting.proofs.Spines.{IsBare, head_of, args_of, head_applied, args_applied}

-- the sorts of heads; a binder is a lambda, a type lambda or a letrec
pub data Form : Type 0 where
  a_variable : Form
  a_name : Form
  a_binder : Form
  a_constructor : Form
  a_primitive : Form
  a_literal : Form
  a_vector : Form
  a_case : Form

abbrev pub form_of : TermTree → Form
form_of (var x) = a_variable
form_of (global d) = a_name
form_of (made m) = a_name
form_of (lam t e) = a_binder
form_of (app f a) = form_of f
form_of (ty_lam k e) = a_binder
form_of (ty_app f t) = form_of f
form_of (letrec g e) = a_binder
form_of (con c) = a_constructor
form_of (prim p) = a_primitive
form_of (lit s b) = a_literal
form_of (vec_lit t es) = a_vector
form_of (case_of e alts) = a_case

pub form_applied : (args : List Arg) (e : TermTree) → form_of (applied e args) ≡ form_of e
form_applied [] e = refl
form_applied (OfTerm a ∷ args) e = form_applied args (app e a)
form_applied (OfType t ∷ args) e = form_applied args (ty_app e t)

pub form_head : (e : TermTree) → form_of (head_of e) ≡ form_of e
form_head (app f a) = form_head f
form_head (ty_app f t) = form_head f
form_head _ = refl

pub variable_form : (e : TermTree) → IsVariable e → form_of e ≡ a_variable
variable_form (var x) v = refl
variable_form _ v = absurd v

-- what holds of a bare head and arguments holds of the head and the arguments of the application
pub back_applied : (P : TermTree → List Arg → Type 0) (h : TermTree) (args : List Arg) → IsBare h → P h args → P (head_of (applied h args)) (args_of (applied h args))
back_applied P h args b p =
    let head : head_of (applied h args) ≡ h = head_applied args h ∙ b.itself in
    let all : args_of (applied h args) ≡ args = args_applied args h ∙ ap (λ xs. xs ++ args) b.alone in
    subst (λ k. P k (args_of (applied h args))) (sym head) (subst (P h) (sym all) p)

pub on_applied : (P : TermTree → List Arg → Type 0) (h : TermTree) (args : List Arg) → IsBare h → P (head_of (applied h args)) (args_of (applied h args)) → P h args
on_applied P h args b p =
    let head : head_of (applied h args) ≡ h = head_applied args h ∙ b.itself in
    let all : args_of (applied h args) ≡ args = args_applied args h ∙ ap (λ xs. xs ++ args) b.alone in
    subst (P h) all (subst (λ k. P k (args_of (applied h args))) head p)

-- of an application what holds of its head and its arguments, by its function
pub on_core : (P : TermTree → List Arg → Type 0) (e : TermTree) (rest : List Arg) → P (head_of (applied e rest)) (args_of (applied e rest)) → P (head_of e) (args_of e ++ rest)
on_core P e rest p =
    subst (P (head_of e)) (args_applied rest e) (subst (λ k. P k (args_of (applied e rest))) (head_applied rest e) p)
