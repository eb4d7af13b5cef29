-- What the rules on cases make of a term is what they make of its head, a case.
use Rattle.std.proofs.Common.{◌≡◌, sym, refl, subst, List, Option, None}
use Rattle.std.specs.Option.{option_map}
use Rattle.chw_terms.specs.declared.rule.Rule.{Rule}
use Rattle.chw_terms.specs.declared.rule.Rule.TheVariants.{TyBeta, Beta, AppLet, AppCase, CaseCon, CaseLet, CaseCase, Proj, PrimLet, PrimCase, Flat, Dead, Inline, Unfold, Unroll, Elem, Delta, ApPure, Eta, Spec, Anf}
use Rattle.chw_terms.specs.declared.term.Arg.{Arg}
use Rattle.chw_terms.specs.declared.term.Head.{Head}
use Rattle.chw_terms.specs.TermTree.{TermTree, var, con, lit, letrec, case_of, Alts, alt, no_alts}
use Rattle.chw_terms.specs.declared.term.Pattern.TheVariants.{OfCon, Default}
use Rattle.chw_terms.specs.TermView.{tree_of, applied}
use Rattle.chw_typing.specs.Given.{types_then}
use Rattle.rewriting.specs.Origins.{Origins}
use Rattle.rewriting.specs.Spots.{Spot}
use Rattle.rewriting.specs.Cases.{OfCases, case_con, case_lit, case_any, case_let, case_case, proj}
use Rattle.rewriting.specs.Instances.{Makes}
use Rattle.rewriting.proofs.Spines.{IsBare}
use Rattle.rule_parts.proofs.Heads.{bare, of_head}
use Rattle.rule_parts.specs.Cores.{Answers, AnswersCore}
use Rattle.flow_cases.specs.Rules.{IsOfCases}

-- the term is a case
pub record IsCase (e : TermTree) : Type 0 where
  pub on : TermTree
  pub alts : Alts
  pub is : e ≡ case_of on alts

is_case : {o : Origins} {at : Spot} {r : Rule} {e e' : TermTree} → OfCases o at r e e' → IsCase e
is_case (case_con c types es {alts = alts} i t s b) = record { on = applied (con c) (types_then types es); alts = alts; is = refl }
is_case (case_lit {r = r} {bits = bits} {alts = alts} b) = record { on = lit r bits; alts = alts; is = refl }
is_case (case_any {e = e} {f = f}) = record { on = e; alts = alt Default f no_alts; is = refl }
is_case (case_let {g = g} {e = e} {alts = alts}) = record { on = letrec g e; alts = alts; is = refl }
is_case (case_case {e = e} {inner = inner} {alts = alts} h n) = record { on = case_of e inner; alts = alts; is = refl }
is_case (proj {x = x} {n = n} {c = c} {e = e} {more = more} m s p d w v) = record { on = var x; alts = alt (OfCon c n) e more; is = refl }

case_made : (o : Origins) (at : Spot) (r : Rule) (e e' : TermTree) → IsOfCases r → Makes o at r e e' → IsCase e
case_made o at CaseCon e e' i m = is_case m
case_made o at CaseLet e e' i m = is_case m
case_made o at CaseCase e e' i m = is_case m
case_made o at Proj e e' i m = is_case m
case_made o at TyBeta e e' i m = absurd i
case_made o at Beta e e' i m = absurd i
case_made o at AppLet e e' i m = absurd i
case_made o at AppCase e e' i m = absurd i
case_made o at PrimLet e e' i m = absurd i
case_made o at PrimCase e e' i m = absurd i
case_made o at Flat e e' i m = absurd i
case_made o at Dead e e' i m = absurd i
case_made o at Inline e e' i m = absurd i
case_made o at Unfold e e' i m = absurd i
case_made o at Unroll e e' i m = absurd i
case_made o at Elem e e' i m = absurd i
case_made o at Delta e e' i m = absurd i
case_made o at ApPure e e' i m = absurd i
case_made o at Eta e e' i m = absurd i
case_made o at Spec e e' i m = absurd i
case_made o at Anf e e' i m = absurd i

bare_case : (r : Rule) → IsOfCases r → (o : Origins) (at : Spot) (e e' : TermTree) → Makes o at r e e' → IsBare e
bare_case r i o at e e' m =
    let c = case_made o at r e e' i m in subst IsBare (sym c.is) (record { itself = refl; alone = refl })

-- so nothing is made of another head
pub nothing_else : (o : Origins) (at : Spot) (r : Rule) (h : Head) (args : List Arg) (e : TermTree) → IsOfCases r → ((on : TermTree) (alts : Alts) → tree_of h ≡ case_of on alts → ⊥) → applied (tree_of h) args ≡ e → Answers o at r e None
nothing_else o at r h args e i other q =
    subst (λ e. Answers o at r e None) q
    (of_head o at r (tree_of h) args None (bare_case r i) (bare h) (λ e' m. let c = case_made o at r (tree_of h) e' i m in other c.on c.alts c.is))

-- and what is made of the head has the arguments behind it
pub behind_head : (o : Origins) (at : Spot) (r : Rule) (h : Head) (args : List Arg) (e : TermTree) (made : Option TermTree) → IsOfCases r → AnswersCore o at r (tree_of h) made → applied (tree_of h) args ≡ e → Answers o at r e (option_map (λ e. applied e args) made)
behind_head o at r h args e made i core q =
    subst (λ e. Answers o at r e (option_map (λ e. applied e args) made)) q
    (of_head o at r (tree_of h) args made (bare_case r i) (bare h) core)
