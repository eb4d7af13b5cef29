-- The rules on primitives, tried on a term.
use Rattle.std.proofs.Common.{◌≡◌, sym, subst, ◌<◌, List, ◌++◌, length, Option, None}
use Rattle.std.specs.Option.{option_map}
use Rattle.chw_prims.specs.Schemas.{schema_type}
use Rattle.chw_prims.specs.declared.prim.Primitive.{Primitive as Prim}
use Rattle.chw_terms.specs.declared.rule.Rule.{Rule}
use Rattle.chw_terms.specs.declared.rule.Rule.TheVariants.{TyBeta, Beta, AppLet, AppCase, CaseCon, CaseLet, CaseCase, Proj, PrimLet, PrimCase, Flat, Dead, Inline, Unfold, Unroll, Elem, Delta, ApPure, Eta, Spec, Anf}
use Rattle.chw_terms.specs.declared.term.Arg.{Arg}
use Rattle.chw_terms.specs.declared.term.Head.{Head}
use Rattle.chw_terms.specs.declared.term.Head.TheVariants.{PrimOf}
use Rattle.chw_terms.specs.TermTree.{TermTree, prim}
use Rattle.chw_terms.specs.TermView.{tree_of, applied}
use Rattle.rewriting.specs.Origins.{Origins}
use Rattle.rewriting.specs.Spots.{Spot, asked_for}
use Rattle.rule_parts.specs.Cores.{Answers, AnswersCore}
use Rattle.rule_parts.proofs.Heads.{bare, IsOfPrims, of_named_args, of_few_args, of_other_head}
use Rattle.work_prims.specs.Rules.{IsOfPrimitives}
use Rattle.work_prims.proofs.Forms.{no_prim}
use Rattle.work_prims.proofs.Inverted.{unroll_prims, elem_prims, delta_prims}

-- the rules make something of primitives alone
of_prims : (r : Rule) → IsOfPrimitives r → IsOfPrims r
of_prims Unroll i = unroll_prims
of_prims Elem i = elem_prims
of_prims Delta i = delta_prims
of_prims TyBeta i = absurd i
of_prims Beta i = absurd i
of_prims AppLet i = absurd i
of_prims AppCase i = absurd i
of_prims CaseCon i = absurd i
of_prims CaseLet i = absurd i
of_prims CaseCase i = absurd i
of_prims Proj i = absurd i
of_prims PrimLet i = absurd i
of_prims PrimCase i = absurd i
of_prims Flat i = absurd i
of_prims Dead i = absurd i
of_prims Inline i = absurd i
of_prims Unfold i = absurd i
of_prims ApPure i = absurd i
of_prims Eta i = absurd i
of_prims Spec i = absurd i
of_prims Anf i = absurd i

-- of another head nothing is made
pub of_no_prim : (o : Origins) (at : Spot) (r : Rule) (h : Head) (args : List Arg) → IsOfPrimitives r → ((p : Prim) → h ≡ PrimOf p → ⊥) → Answers o at r (applied (tree_of h) args) None
of_no_prim o at r h args i none = of_other_head o at r (tree_of h) args (of_prims r i) (bare h) (no_prim h none)

-- nor of a primitive on too few arguments
pub of_few : (o : Origins) (at : Spot) (r : Rule) (h : Head) (p : Prim) (args : List Arg) → IsOfPrimitives r → h ≡ PrimOf p → length args < asked_for (schema_type p) → Answers o at r (applied (tree_of h) args) None
of_few o at r h p args i q few =
    subst (λ h. Answers o at r (applied (tree_of h) args) None) (sym q) (of_few_args o at r p args (of_prims r i) few)

-- else of those that it asks for, with the others behind it
pub of_named : (o : Origins) (at : Spot) (r : Rule) (h : Head) (p : Prim) (all args rest : List Arg) (answer : Option TermTree) → IsOfPrimitives r → h ≡ PrimOf p → all ≡ args ++ rest → length args ≡ asked_for (schema_type p) → AnswersCore o at r (applied (prim p) args) answer → Answers o at r (applied (tree_of h) all) (option_map (λ e. applied e rest) answer)
of_named o at r h p all args rest answer i q parts count made =
    subst (λ h. Answers o at r (applied (tree_of h) all) (option_map (λ e. applied e rest) answer)) (sym q)
    (subst (λ all. Answers o at r (applied (prim p) all) (option_map (λ e. applied e rest) answer)) (sym parts)
    (of_named_args o at r p args rest answer (of_prims r i) count made))
