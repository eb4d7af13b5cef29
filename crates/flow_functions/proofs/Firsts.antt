-- What the rules on functions make of a term is what they make of its head at the first argument.
use Rattle.std.proofs.Common.{◌≡◌, ◌∙◌, sym, ap, refl, subst, List, [], ◌∷◌, Option, Some, None}
use Rattle.std.specs.Option.{option_map}
use Rattle.chw_terms.specs.declared.rule.Rule.{Rule}
use Rattle.chw_terms.specs.declared.rule.Rule.TheVariants.{TyBeta, Beta, AppLet, AppCase, CaseCon, CaseLet, CaseCase, Proj, PrimLet, PrimCase, Flat, Dead, Inline, Unfold, Unroll, Elem, Delta, ApPure, Eta, Spec, Anf}
use Rattle.chw_terms.specs.declared.term.Arg.{Arg}
use Rattle.chw_terms.specs.declared.term.Arg.TheVariants.{OfTerm, OfType}
use Rattle.chw_terms.specs.declared.term.Head.{Head}
use Rattle.chw_terms.specs.TermTree.{TermTree, lam, ty_lam, letrec, case_of}
use Rattle.chw_terms.specs.TermView.{tree_of, applied_to, applied}
use Rattle.rewriting.specs.Origins.{Origins}
use Rattle.rewriting.specs.Spots.{Spot}
use Rattle.rewriting.specs.Functions.{OfFunctions, ty_beta, beta, app_let, app_let_type, app_case, app_case_type}
use Rattle.rewriting.specs.Instances.{Makes}
use Rattle.rewriting.proofs.Spines.{IsBare, head_is, args_are}
use Rattle.flow_functions.specs.AtFirst.{AnswersAt}
use Rattle.rule_parts.proofs.Heads.{bare}
use Rattle.rule_parts.specs.Cores.{MakesOf, of_core, Answers}
use Rattle.flow_functions.specs.Rules.{IsOfFunctions}

-- a head at one argument
record IsAtOne (e : TermTree) : Type 0 where
  head : TermTree
  arg : Arg
  is : e ≡ applied_to head arg
  bare : IsBare head

at_one : {o : Origins} {at : Spot} {r : Rule} {e e' : TermTree} → OfFunctions o at r e e' → IsAtOne e
at_one (ty_beta {k = k} {e = e} {a = a}) = record { head = ty_lam k e; arg = OfType a; is = refl; bare = record { itself = refl; alone = refl } }
at_one (beta {t = t} {e = e} {a = a}) = record { head = lam t e; arg = OfTerm a; is = refl; bare = record { itself = refl; alone = refl } }
at_one (app_let {g = g} {e = e} {a = a}) = record { head = letrec g e; arg = OfTerm a; is = refl; bare = record { itself = refl; alone = refl } }
at_one (app_let_type {g = g} {e = e} {a = a}) = record { head = letrec g e; arg = OfType a; is = refl; bare = record { itself = refl; alone = refl } }
at_one (app_case {e = e} {a = a} {alts = alts} f) = record { head = case_of e alts; arg = OfTerm a; is = refl; bare = record { itself = refl; alone = refl } }
at_one (app_case_type {e = e} {alts = alts} {a = a}) = record { head = case_of e alts; arg = OfType a; is = refl; bare = record { itself = refl; alone = refl } }

-- what the rules on functions make of their shape
of_functions : {o : Origins} {at : Spot} (r : Rule) {e e' : TermTree} → IsOfFunctions r → Makes o at r e e' → OfFunctions o at r e e'
of_functions TyBeta i m = m
of_functions Beta i m = m
of_functions AppLet i m = m
of_functions AppCase i m = m
of_functions CaseCon i m = absurd i
of_functions CaseLet i m = absurd i
of_functions CaseCase i m = absurd i
of_functions Proj i m = absurd i
of_functions PrimLet i m = absurd i
of_functions PrimCase i m = absurd i
of_functions Flat i m = absurd i
of_functions Dead i m = absurd i
of_functions Inline i m = absurd i
of_functions Unfold i m = absurd i
of_functions Unroll i m = absurd i
of_functions Elem i m = absurd i
of_functions Delta i m = absurd i
of_functions ApPure i m = absurd i
of_functions Eta i m = absurd i
of_functions Spec i m = absurd i
of_functions Anf i m = absurd i

makes : {o : Origins} {at : Spot} (r : Rule) {e e' : TermTree} → IsOfFunctions r → OfFunctions o at r e e' → Makes o at r e e'
makes TyBeta i m = m
makes Beta i m = m
makes AppLet i m = m
makes AppCase i m = m
makes CaseCon i m = absurd i
makes CaseLet i m = absurd i
makes CaseCase i m = absurd i
makes Proj i m = absurd i
makes PrimLet i m = absurd i
makes PrimCase i m = absurd i
makes Flat i m = absurd i
makes Dead i m = absurd i
makes Inline i m = absurd i
makes Unfold i m = absurd i
makes Unroll i m = absurd i
makes Elem i m = absurd i
makes Delta i m = absurd i
makes ApPure i m = absurd i
makes Eta i m = absurd i
makes Spec i m = absurd i
makes Anf i m = absurd i

-- a rule made something of a head at its first argument
record MadeAtFirst (o : Origins) (at : Spot) (r : Rule) (h : TermTree) (args : List Arg) : Type 0 where
  first : Arg
  rest : List Arg
  are : args ≡ first ∷ rest
  made : TermTree
  by : OfFunctions o at r (applied_to h first) made

made_at_first : {o : Origins} {at : Spot} {r : Rule} {e e' : TermTree} (h : TermTree) (args : List Arg) → IsOfFunctions r → IsBare h → MakesOf o at r e e' → applied h args ≡ e → MadeAtFirst o at r h args
made_at_first {o} {at} {r} h args i b (of_core core core' rest m) q =
    let f = of_functions r i m in
    let one = at_one f in
    let whole : applied h args ≡ applied one.head (one.arg ∷ rest) = q ∙ ap (λ e. applied e rest) one.is in
    let heads = head_is h one.head args (one.arg ∷ rest) b one.bare whole in
    record {
      first = one.arg;
      rest = rest;
      are = args_are h one.head args (one.arg ∷ rest) b one.bare whole;
      made = core';
      by = subst (λ e. OfFunctions o at r e core') (one.is ∙ ap (λ h. applied_to h one.arg) (sym heads)) f;
    }

-- nothing is made of a head alone
pub nothing_alone : (o : Origins) (at : Spot) (r : Rule) (h : Head) → IsOfFunctions r → Answers o at r (tree_of h) None
nothing_alone o at r h i e' m =
    let f = made_at_first (tree_of h) [] i (bare h) m refl in
    let no : [] ≡ f.first ∷ f.rest = f.are in absurd cc

-- what is made of the head at its first argument, with the others behind it
pub behind_first : (o : Origins) (at : Spot) (r : Rule) (h : Head) (a : Arg) (rest : List Arg) (made : Option TermTree) → IsOfFunctions r → AnswersAt o at r h a made → Answers o at r (applied (tree_of h) (a ∷ rest)) (option_map (λ e. applied e rest) made)
behind_first o at r h a rest (Some e) i m = of_core (applied_to (tree_of h) a) e rest (makes r i m)
behind_first o at r h a rest None i none = λ e' m.
    let f = made_at_first (tree_of h) (a ∷ rest) i (bare h) m refl in
    let are : a ∷ rest ≡ f.first ∷ f.rest = f.are in
    let first : f.first ≡ a = cc in
    none f.made (subst (λ a. OfFunctions o at r (applied_to (tree_of h) a) f.made) first f.by)

-- what is made is the same where the head, the argument and the term are
pub at_first_same : {o : Origins} {at : Spot} {r : Rule} {h k : Head} {a b : Arg} {e f : TermTree} → OfFunctions o at r (applied_to (tree_of k) b) e → h ≡ k → a ≡ b → f ≡ e → OfFunctions o at r (applied_to (tree_of h) a) f
at_first_same {o} {at} {r} {h} {k} {a} {b} {e} {f} m p q s =
    subst (λ h. OfFunctions o at r (applied_to (tree_of h) a) f) (sym p)
    (subst (λ a. OfFunctions o at r (applied_to (tree_of k) a) f) (sym q)
    (subst (λ f. OfFunctions o at r (applied_to (tree_of k) b) f) (sym s) m))
