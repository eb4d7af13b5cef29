-- Letrecs and cases have their parts, and no arguments.
use Rattle.std.proofs.Common.{◌≡◌, ◌<◌, ◌↔◌, IsTrue, Bool, true, false, ap, sym, refl, subst, List, [], length, Option, Some, None, IfSome, IfNone, is_some, arith}
use Rattle.chw_terms.specs.declared.term.Arg.{Arg}
use Rattle.chw_terms.specs.declared.term.Head.{Head}
use Rattle.chw_terms.specs.TermTree.{TermTree, var, global, made, lam, app, ty_lam, ty_app, letrec, con, prim, lit, vec_lit, case_of, Group, Alts}
use Rattle.chw_terms.specs.TermView.{tree_of, applied}
use Rattle.rewriting.specs.Shapes.{IsLet}
use Rattle.rewriting.proofs.Spines.{args_are}
use Rattle.rule_parts.proofs.Heads.{bare}
use Rattle.flow_demanded.specs.Forms.{IsCase}

pub record LetParts (e : TermTree) : Type 0 where
  pub group : Group
  pub body : TermTree
  pub is : e ≡ letrec group body

pub let_parts : (e : TermTree) → IsLet e → LetParts e
let_parts (letrec g e) l = record { group = g; body = e; is = refl }
let_parts (var x) l = absurd l
let_parts (global d) l = absurd l
let_parts (made m) l = absurd l
let_parts (lam t e) l = absurd l
let_parts (app f a) l = absurd l
let_parts (ty_lam k e) l = absurd l
let_parts (ty_app f t) l = absurd l
let_parts (con c) l = absurd l
let_parts (prim p) l = absurd l
let_parts (lit s b) l = absurd l
let_parts (vec_lit t es) l = absurd l
let_parts (case_of e alts) l = absurd l

record CaseParts (e : TermTree) : Type 0 where
  on : TermTree
  alts : Alts
  is : e ≡ case_of on alts

case_parts : (e : TermTree) → IsCase e → CaseParts e
case_parts (case_of e alts) l = record { on = e; alts = alts; is = refl }
case_parts (letrec g e) l = absurd l
case_parts (var x) l = absurd l
case_parts (global d) l = absurd l
case_parts (made m) l = absurd l
case_parts (lam t e) l = absurd l
case_parts (app f a) l = absurd l
case_parts (ty_lam k e) l = absurd l
case_parts (ty_app f t) l = absurd l
case_parts (con c) l = absurd l
case_parts (prim p) l = absurd l
case_parts (lit s b) l = absurd l
case_parts (vec_lit t es) l = absurd l

pub no_let_applied : (h : Head) (args : List Arg) → 0 < length args → IsLet (applied (tree_of h) args) → ⊥
no_let_applied h args n l =
    let parts = let_parts (applied (tree_of h) args) l in
    let none = args_are (tree_of h) (letrec parts.group parts.body) args [] (bare h) (record { itself = refl; alone = refl }) parts.is in
    omega (arith, n, ap length none)

pub no_case_applied : (h : Head) (args : List Arg) → 0 < length args → IsCase (applied (tree_of h) args) → ⊥
no_case_applied h args n l =
    let parts = case_parts (applied (tree_of h) args) l in
    let none = args_are (tree_of h) (case_of parts.on parts.alts) args [] (bare h) (record { itself = refl; alone = refl }) parts.is in
    omega (arith, n, ap length none)

pub false_is_no_truth : IsTrue false → ⊥
false_is_no_truth h = let q : false ≡ true = h in absurd cc

pub true_and_false : (b : Bool) → IsTrue b → b ≡ false → ⊥
true_and_false true t f = absurd cc
true_and_false false t f = false_is_no_truth t

-- where nothing comes
pub none_of : {X P : Type 0} (r : Option X) → ((x : X) → r ≡ Some x → ⊥) → IfNone r P → P
none_of None n h = h
none_of (Some x) n h = absurd (n x refl)

pub none_when : {X P : Type 0} (r : Option X) → is_some r ≡ false → IfNone r P → P
none_when None q h = h
none_when (Some x) q h = absurd cc

-- a term has a form where its parts come
pub let_by_parts : {X : Type 0} (r : Option X) (g : X → Group) (b : X → TermTree) (e : TermTree) → IfSome r (λ it. e ≡ letrec (g it) (b it)) → IfNone r (IsLet e → ⊥) → IsTrue (is_some r) ↔ IsLet e
let_by_parts (Some it) g b e s n = (λ h. subst IsLet (sym s) tt, λ h. refl)
let_by_parts None g b e s n = (λ h. absurd (false_is_no_truth h), λ l. absurd (n l))

pub case_by_parts : {X : Type 0} (r : Option X) (s : X → TermTree) (a : X → Alts) (e : TermTree) → IfSome r (λ it. e ≡ case_of (s it) (a it)) → IfNone r (IsCase e → ⊥) → IsTrue (is_some r) ↔ IsCase e
case_by_parts (Some it) a b e s n = (λ h. subst IsCase (sym s) tt, λ h. refl)
case_by_parts None a b e s n = (λ h. absurd (false_is_no_truth h), λ l. absurd (n l))
