-- What the rules make of applications.
use Rattle.std.proofs.Common.{◌≡◌, ◌∙◌, ℕ, refl, subst, List, ◌++◌, None}
use Rattle.chw_prims.specs.declared.prim.Primitive.{Primitive as Prim}
use Rattle.chw_terms.specs.declared.rule.Rule.{Rule}
use Rattle.chw_terms.specs.declared.rule.Rule.TheVariants.{TyBeta, Beta, AppLet, AppCase, CaseCon, CaseLet, CaseCase, Proj, PrimLet, PrimCase, Flat, Dead, Inline, Unfold, Unroll, Elem, Delta, ApPure, Eta, Spec, Anf}
use Rattle.chw_terms.specs.declared.term.Arg.{Arg}
use Rattle.chw_terms.specs.declared.term.Head.{Head}
use Rattle.chw_terms.specs.declared.term.Head.TheVariants.{Var, Global, Made, Lam, TyLam, LetRec, Con, PrimOf, Lit, VecLit, Case}
use Rattle.chw_terms.specs.TermTree.{TermTree, prim}
use Rattle.chw_terms.specs.TermView.{tree_of, applied}
use Rattle.chw_terms.proofs.Spines.{applied_more}
use Rattle.rewriting.specs.Origins.{Origins}
use Rattle.rewriting.specs.Spots.{Spot, LooksAt}
use Rattle.rewriting.specs.Demanded.{OfDemanded, prim_let, prim_case}
use Rattle.rewriting.specs.Instances.{Makes}
use Rattle.rule_parts.specs.Cores.{MakesOf, of_core, Answers}
use Rattle.rule_parts.proofs.Heads.{IsPrimCore, IsOfPrims}
use Rattle.flow_demanded.specs.Rules.{IsOfDemanded}
use Rattle.flow_demanded.proofs.Demanded.{same_call}

-- what the rules make of their shape
of_demanded : {o : Origins} {at : Spot} (r : Rule) {e e' : TermTree} → IsOfDemanded r → Makes o at r e e' → OfDemanded o at r e e'
of_demanded PrimLet i m = m
of_demanded PrimCase i m = m
of_demanded TyBeta i m = absurd i
of_demanded Beta i m = absurd i
of_demanded AppLet i m = absurd i
of_demanded AppCase i m = absurd i
of_demanded CaseCon i m = absurd i
of_demanded CaseLet i m = absurd i
of_demanded CaseCase i m = absurd i
of_demanded Proj i m = absurd i
of_demanded Flat i m = absurd i
of_demanded Dead i m = absurd i
of_demanded Inline i m = absurd i
of_demanded Unfold i m = absurd i
of_demanded Unroll i m = absurd i
of_demanded Elem i m = absurd i
of_demanded Delta i m = absurd i
of_demanded ApPure i m = absurd i
of_demanded Eta i m = absurd i
of_demanded Spec i m = absurd i
of_demanded Anf i m = absurd i

prim_core : {o : Origins} {at : Spot} {r : Rule} {e e' : TermTree} → OfDemanded o at r e e' → IsPrimCore e
prim_core (prim_let {p = p} {args = args} n d f) = record { which = p; args = args; is = refl; count = n }
prim_core (prim_case {p = p} {args = args} n d f c) = record { which = p; args = args; is = refl; count = n }

-- the rules are on primitives
pub of_prims : (r : Rule) → IsOfDemanded r → IsOfPrims r
of_prims r i o at e e' m = prim_core (of_demanded r i m)

-- on those that look at some argument
looks_at_some : {o : Origins} {at : Spot} {r : Rule} {core e' : TermTree} (p : Prim) (args rest : List Arg) → OfDemanded o at r core e' → applied core rest ≡ applied (prim p) args → ((i : ℕ) → LooksAt p i → ⊥) → ⊥
looks_at_some p args rest (prim_let {p = p'} {args = args'} {i = i} n d f) q none =
    none i (subst (λ p. LooksAt p i) (same_call p' p (args' ++ rest) args (applied_more (prim p') args' rest ∙ q)).prims d.looks)
looks_at_some p args rest (prim_case {p = p'} {args = args'} {i = i} n d f c) q none =
    none i (subst (λ p. LooksAt p i) (same_call p' p (args' ++ rest) args (applied_more (prim p') args' rest ∙ q)).prims d.looks)

made_of_none : {o : Origins} {at : Spot} {r : Rule} {e e' : TermTree} (p : Prim) (args : List Arg) → IsOfDemanded r → ((i : ℕ) → LooksAt p i → ⊥) → MakesOf o at r e e' → e ≡ applied (prim p) args → ⊥
made_of_none {r = r} p args i none (of_core core core' rest m) q = looks_at_some p args rest (of_demanded r i m) q none

-- they make nothing of one that looks at none
pub looks_at_none : (o : Origins) (at : Spot) (r : Rule) (p : Prim) (args : List Arg) → IsOfDemanded r → ((i : ℕ) → LooksAt p i → ⊥) → Answers o at r (applied (prim p) args) None
looks_at_none o at r p args i none e' m = made_of_none p args i none m refl

-- a head of another form is no primitive
pub other_prim : (h : Head) → ((p : _) → h ≡ PrimOf p → ⊥) → (p : Prim) → tree_of h ≡ prim p → ⊥
other_prim (PrimOf q) n p e = n q refl
other_prim (Var x) n p e = absurd cc
other_prim (Global d) n p e = absurd cc
other_prim (Made m) n p e = absurd cc
other_prim (Lam t b) n p e = absurd cc
other_prim (TyLam k b) n p e = absurd cc
other_prim (LetRec bs b) n p e = absurd cc
other_prim (Con c) n p e = absurd cc
other_prim (Lit s b) n p e = absurd cc
other_prim (VecLit t es) n p e = absurd cc
other_prim (Case b alts) n p e = absurd cc
