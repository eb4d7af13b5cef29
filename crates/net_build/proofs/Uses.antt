-- The made definitions in a term, in two spellings, and that those of a body are there.
use Rattle.std.proofs.Common.{◌≡◌, ◌∙◌, refl, sym, subst, ℕ, List, length, ◌++◌, Some}
use Rattle.std.specs.List.{slice_get}
use Rattle.chw_terms.specs.declared.scene.Made.{Made}
use Rattle.chw_terms.specs.TermTree.{TermTree, var, global, made, lam, app, ty_lam, ty_app, letrec, con, prim, lit, vec_lit, case_of, Terms, no_terms, term_and, Group, no_bindings, bind, Alts, no_alts, alt}
use Rattle.net_built.specs.Modules.{made_in as in_term, made_in_all as in_all, made_in_group as in_group, made_in_alts as in_alts}
use Rattle.normal_form.specs.MadeIn.{made_in, made_in_all, made_in_group, made_in_alts}
use Rattle.normal_form.specs.UseOrders.{UsesAreThere}
use Rattle.net_ready.proofs.MadeUsed.{all_along, all_named}
use Rattle.net_build.specs.Marks.{AreBelow}
use Rattle.net_build.specs.Tasks.{AreUsesOf}

mutual
  unfolding made_in

  pub one_spelling : (e : TermTree) → made_in e ≡ in_term e
  one_spelling (var x) = refl
  one_spelling (global d) = refl
  one_spelling (made m) = refl
  one_spelling (lam t e) = one_spelling e
  one_spelling (app f a) = λ i. one_spelling f i ++ one_spelling a i
  one_spelling (ty_lam k e) = one_spelling e
  one_spelling (ty_app f t) = one_spelling f
  one_spelling (letrec g e) = λ i. one_in_group g i ++ one_spelling e i
  one_spelling (con c) = refl
  one_spelling (prim p) = refl
  one_spelling (lit s bits) = refl
  one_spelling (vec_lit t es) = one_in_all es
  one_spelling (case_of e alts) = λ i. one_spelling e i ++ one_in_alts alts i

  one_in_all : (es : Terms) → made_in_all es ≡ in_all es
  one_in_all no_terms = refl
  one_in_all (term_and e es) = λ i. one_spelling e i ++ one_in_all es i

  one_in_group : (g : Group) → made_in_group g ≡ in_group g
  one_in_group no_bindings = refl
  one_in_group (bind t e g) = λ i. one_spelling e i ++ one_in_group g i

  one_in_alts : (alts : Alts) → made_in_alts alts ≡ in_alts alts
  one_in_alts no_alts = refl
  one_in_alts (alt q e more) = λ i. one_spelling e i ++ one_in_alts more i

-- those of the body of one
pub uses_of_body : (state : List Made) (m : ℕ) (it : Made) (uses : List ℕ) → UsesAreThere state → slice_get state m ≡ Some it
    → uses ≡ made_in it.body → AreUsesOf state m uses
uses_of_body state m it uses there is are =
    let all : uses ≡ in_term it.body = are ∙ one_spelling it.body in
    record {
      it = it;
      is = is;
      are = all;
      below = subst (λ ms. AreBelow (length state) ms) (sym all) (all_along (λ n named. there m n (it, is, named)) (in_term it.body) (all_named it.body));
    }
