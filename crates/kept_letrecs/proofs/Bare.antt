-- Which rules act on a letrec without arguments.
use Rattle.std.proofs.Common.{◌≡◌, ◌∙◌, sym, ap, refl, subst, ℕ, List, [], ◌∷◌}
use Rattle.chw_terms.specs.declared.rule.Rule.{Rule}
use Rattle.chw_terms.specs.declared.rule.Rule.TheVariants.{TyBeta, Beta, AppLet, AppCase, CaseCon, CaseLet, CaseCase, Proj, PrimLet, PrimCase, Flat, Dead, Inline, Unfold, Unroll, Elem, Delta, ApPure, Eta, Spec, Anf}
use Rattle.chw_terms.specs.declared.term.Arg.{Arg}
use Rattle.chw_terms.specs.declared.term.Arg.TheVariants.{OfTerm, OfType}
use Rattle.chw_terms.specs.TermTree.{TermTree, global, app, ty_app, letrec, con, prim, Group}
use Rattle.chw_terms.specs.TermView.{applied}
use Rattle.rewriting.specs.Calls.{OfWhole, spec_call, anf_call, anf_result}
use Rattle.rewriting.specs.Demanded.{OfDemanded, prim_let, prim_case}
use Rattle.rewriting.specs.Functions.{OfFunctions, ty_beta, beta, app_let, app_let_type, app_case, app_case_type}
use Rattle.rewriting.specs.Instances.{Makes, HasInstance, on_core, on_whole}
use Rattle.rewriting.specs.Lets.{OfLets}
use Rattle.rewriting.specs.Names.{OfNames, unfold_global, unfold_made}
use Rattle.rewriting.specs.Operands.{OfOperands, anf, StandsAt, of_prim, of_case, of_con, of_vector}
use Rattle.rewriting.specs.Origins.{Origins}
use Rattle.rewriting.specs.Shapes.{IsLet}
use Rattle.rewriting.specs.Spots.{Spot}
use Rattle.quiet_sides.proofs.Forms.{Form, a_name, a_binder, a_constructor, a_primitive, a_case, form_of, form_applied}
use Rattle.quiet_sides.proofs.Still.{case_form, prim_form, signals_form, in_call_form}
use Rattle.kept_letrecs.specs.Resting.{IsOnLetrecs}

-- a letrec is no application
no_arguments : (args : List Arg) (c : TermTree) (g : Group) (e : TermTree) → applied c args ≡ letrec g e → (args ≡ []) × (c ≡ letrec g e)
no_arguments [] c g e q = (refl, q)
no_arguments (OfTerm a ∷ args) c g e q =
    let function : app c a ≡ letrec g e = (no_arguments args (app c a) g e q).1 in
    absurd cc
no_arguments (OfType t ∷ args) c g e q =
    let function : ty_app c t ≡ letrec g e = (no_arguments args (ty_app c t) g e q).1 in
    absurd cc

-- a term with another head is no letrec
other_form : (f : Form) (c : TermTree) (g : Group) (e : TermTree) → form_of c ≡ f → (f ≡ a_binder → ⊥) → c ≡ letrec g e → ⊥
other_form f c g e is other q = other (sym is ∙ ap form_of q)

no_function : {o : Origins} {at : Spot} {r : Rule} {c new : TermTree} → OfFunctions o at r c new → (g : Group) (e : TermTree) → c ≡ letrec g e → ⊥
no_function ty_beta g e q = cc
no_function beta g e q = cc
no_function app_let g e q = cc
no_function app_let_type g e q = cc
no_function (app_case f) g e q = cc
no_function app_case_type g e q = cc

no_demanded : {o : Origins} {at : Spot} {r : Rule} {c new : TermTree} → OfDemanded o at r c new → (g : Group) (e : TermTree) → c ≡ letrec g e → ⊥
no_demanded {c = c} (prim_let {p = p} {args = args} n d f) g e q = other_form a_primitive c g e (form_applied args (prim p)) (λ u. cc) q
no_demanded {c = c} (prim_case {p = p} {args = args} n d f h) g e q = other_form a_primitive c g e (form_applied args (prim p)) (λ u. cc) q

no_name : {o : Origins} {at : Spot} {r : Rule} {c new : TermTree} → OfNames o at r c new → (g : Group) (e : TermTree) → c ≡ letrec g e → ⊥
no_name (unfold_global m i) g e q = cc
no_name (unfold_made m i) g e q = cc

no_operand : {o : Origins} {at : Spot} {c x : TermTree} {path : List ℕ} → StandsAt o at c path x → (g : Group) (e : TermTree) → c ≡ letrec g e → ⊥
no_operand {c = c} (of_prim p args i l k s) g e q = other_form a_primitive c g e (form_applied args (prim p)) (λ u. cc) q
no_operand of_case g e q = cc
no_operand {c = c} (of_con k args i m j l s) g e q = other_form a_constructor c g e (form_applied args (con k)) (λ u. cc) q
no_operand (of_vector m s) g e q = cc

no_anf : {o : Origins} {at : Spot} {r : Rule} {c new : TermTree} → OfOperands o at r c new → (g : Group) (e : TermTree) → c ≡ letrec g e → ⊥
no_anf (anf f t) g e q = no_operand f.is.0 g e q

-- as a whole term a letrec is no call, and what a result place gives gets no name where it is one
no_whole : {o : Origins} {at : Spot} {r : Rule} {c new : TermTree} → OfWhole o at r c new → (g : Group) (e : TermTree) → c ≡ letrec g e → ⊥
no_whole {c = c} (spec_call l k n) g e q = other_form a_name c g e (ap form_of k.is ∙ form_applied k.args (global k.of)) (λ u. cc) q
no_whole {c = c} (anf_call f t) g e q = other_form a_name c g e (in_call_form f.is.0) (λ u. cc) q
no_whole (anf_result l r n w u t) g e q = w (subst IsLet (sym q) tt)

-- by the rules
module _ (o : Origins) (at : Spot) (g : Group) (e : TermTree) where
  abbrev IsMadeOf : Rule → TermTree → Type 0
  IsMadeOf r new = IsOnLetrecs r × OfLets o at r (letrec g e) new

  made_of_letrec : (r : Rule) (c new : TermTree) → Makes o at r c new → c ≡ letrec g e → IsMadeOf r new
  made_of_letrec TyBeta c new m q = absurd (no_function m g e q)
  made_of_letrec Beta c new m q = absurd (no_function m g e q)
  made_of_letrec AppLet c new m q = absurd (no_function m g e q)
  made_of_letrec AppCase c new m q = absurd (no_function m g e q)
  made_of_letrec CaseCon c new m q = absurd (other_form a_case c g e (case_form m) (λ u. cc) q)
  made_of_letrec CaseLet c new m q = absurd (other_form a_case c g e (case_form m) (λ u. cc) q)
  made_of_letrec CaseCase c new m q = absurd (other_form a_case c g e (case_form m) (λ u. cc) q)
  made_of_letrec Proj c new m q = absurd (other_form a_case c g e (case_form m) (λ u. cc) q)
  made_of_letrec PrimLet c new m q = absurd (no_demanded m g e q)
  made_of_letrec PrimCase c new m q = absurd (no_demanded m g e q)
  made_of_letrec Flat c new m q = (tt, subst (λ c. OfLets o at Flat c new) q m)
  made_of_letrec Dead c new m q = (tt, subst (λ c. OfLets o at Dead c new) q m)
  made_of_letrec Inline c new m q = (tt, subst (λ c. OfLets o at Inline c new) q m)
  made_of_letrec Unfold c new m q = absurd (no_name m g e q)
  made_of_letrec Unroll c new m q = absurd (other_form a_primitive c g e (prim_form m) (λ u. cc) q)
  made_of_letrec Elem c new m q = absurd (other_form a_primitive c g e (prim_form m) (λ u. cc) q)
  made_of_letrec Delta c new m q = absurd (other_form a_primitive c g e (prim_form m) (λ u. cc) q)
  made_of_letrec ApPure c new m q = absurd (other_form a_primitive c g e (signals_form m) (λ u. cc) q)
  made_of_letrec Eta c new m q = absurd (other_form a_primitive c g e (signals_form m) (λ u. cc) q)
  made_of_letrec Spec c new m q = absurd (other_form a_primitive c g e (signals_form m) (λ u. cc) q)
  made_of_letrec Anf c new m q = absurd (no_anf m g e q)

pub bare_instance : {o : Origins} {at : Spot} {r : Rule} {f new : TermTree} → HasInstance o at r f new → (g : Group) (e : TermTree) → f ≡ letrec g e → IsOnLetrecs r × OfLets o at r (letrec g e) new
bare_instance {o} {at} {r} (on_core core core' rest m has) g e q =
    let alone = no_arguments rest core g e q in
    let made = made_of_letrec o at g e r core core' m alone.1 in
    (made.0, subst (λ xs. OfLets o at r (letrec g e) (applied core' xs)) (sym alone.0) made.1)
bare_instance (on_whole w has) g e q = absurd (no_whole w g e q)
