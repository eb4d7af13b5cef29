-- Functions on signals have five arguments, and others stay behind.
use Rattle.std.proofs.Common.{◌≡◌, ◌∙◌, ◌<◌, ◌+◌, sym, ap, refl, subst, arith, ℕ}
use Rattle.std.proofs.Common.{List, [], ◌∷◌, ◌++◌, length, length-append, Option, Some, None}
use Rattle.std.specs.Option.{option_map}
use Rattle.chw_types.specs.TypeTree.{TypeTree}
use Rattle.chw_prims.specs.declared.prim.Primitive.{Primitive as Prim}
use Rattle.chw_prims.specs.declared.prim.Primitive.TheVariants.{Fmap, Ap}
use Rattle.chw_terms.specs.declared.rule.Rule.{Rule}
use Rattle.chw_terms.specs.declared.rule.Rule.TheVariants.{ApPure}
use Rattle.chw_terms.specs.declared.term.Arg.{Arg}
use Rattle.chw_terms.specs.declared.term.Arg.TheVariants.{OfTerm, OfType}
use Rattle.chw_terms.specs.declared.term.Head.TheVariants.{PrimOf}
use Rattle.chw_terms.specs.TermTree.{TermTree, prim}
use Rattle.chw_terms.specs.TermView.{applied}
use Rattle.chw_terms.proofs.Spines.{applied_more}
use Rattle.rewriting.specs.Origins.{Origins}
use Rattle.rewriting.specs.Spots.{Spot}
use Rattle.rewriting.specs.Lifted.{Joins, ap_pure, fmap_pure, fmap_fmap, fmap_ap}
use Rattle.rewriting.specs.Lifted.{ap_value, ap_fmap, ap_ap}
use Rattle.rewriting.specs.Shapes.{IsOfCircuit, fmap_of, ap_of}
use Rattle.rewriting.specs.Signals.{OfSignals, join, eta, spec_function}
use Rattle.rewriting.proofs.Spines.{IsBare, head_is, args_are, fronts_same}
use Rattle.rule_parts.specs.Cores.{MakesOf, of_core, Answers}
use Rattle.rule_parts.proofs.Heads.{bare}
use Rattle.work_signals.specs.Joined.{AnswersJoin}

-- a primitive on five arguments
record HasFive (e : TermTree) : Type 0 where
  which : Prim
  given : List Arg
  is : e ≡ applied (prim which) given
  count : length given ≡ 5

of_fmap : (d a b : TypeTree) (f s : TermTree) → HasFive (fmap_of d a b f s)
of_fmap d a b f s = record {
  which = Fmap;
  given = OfType d ∷ OfType a ∷ OfType b ∷ OfTerm f ∷ OfTerm s ∷ [];
  is = refl;
  count = refl;
}

of_ap : (d a b : TypeTree) (u s : TermTree) → HasFive (ap_of d a b u s)
of_ap d a b u s = record {
  which = Ap;
  given = OfType d ∷ OfType a ∷ OfType b ∷ OfTerm u ∷ OfTerm s ∷ [];
  is = refl;
  count = refl;
}

joined_has_five : {o : Origins} {at : Spot} {e e' : TermTree} → Joins o at e e' → HasFive e
joined_has_five ap_pure = of_ap _ _ _ _ _
joined_has_five fmap_pure = of_fmap _ _ _ _ _
joined_has_five (fmap_fmap n f) = of_fmap _ _ _ _ _
joined_has_five (fmap_ap n f) = of_fmap _ _ _ _ _
joined_has_five (ap_value p n f) = of_ap _ _ _ _ _
joined_has_five (ap_fmap p n f g) = of_ap _ _ _ _ _
joined_has_five (ap_ap p n f g) = of_ap _ _ _ _ _

-- the rule joins
joins_of : {o : Origins} {at : Spot} {r : Rule} {e e' : TermTree}
    → OfSignals o at r e e' → r ≡ ApPure → IsOfCircuit at.mode × Joins o at e e'
joins_of (join m j) q = (m, j)
joins_of (eta m l n) q = absurd cc
joins_of (spec_function m l n k) q = absurd cc

-- a head on arguments of which something is made: what is made of the first five
record MadeOfFive (o : Origins) (at : Spot) (h : TermTree) (args : List Arg) : Type 0 where
  core : List Arg
  rest : List Arg
  are : args ≡ core ++ rest
  count : length core ≡ 5
  made : TermTree
  joined : Joins o at (applied h core) made

made_of_five : {o : Origins} {at : Spot} {e e' : TermTree} (h : TermTree) (args : List Arg)
    → IsBare h → MakesOf o at ApPure e e' → applied h args ≡ e → MadeOfFive o at h args
made_of_five {o} {at} h args b (of_core core core' rest made) q =
    let it = joins_of made refl in
    let f = joined_has_five it.1 in
    let p = prim f.which in
    let all = f.given ++ rest in
    let whole : applied h args ≡ applied p all =
    q ∙ ap (λ e. applied e rest) f.is ∙ sym (applied_more p f.given rest) in
    let head = head_is h p args all b (bare (PrimOf f.which)) whole in
    record {
      core = f.given;
      rest = rest;
      are = args_are h p args all b (bare (PrimOf f.which)) whole;
      count = f.count;
      made = core';
      joined =
          subst (λ e. Joins o at e core') (f.is ∙ ap (λ h. applied h f.given) (sym head)) it.1;
    }

-- nothing is made outside of circuits
made_in_circuit : {o : Origins} {at : Spot} {e e' : TermTree}
    → MakesOf o at ApPure e e' → IsOfCircuit at.mode
made_in_circuit (of_core core core' rest made) = (joins_of made refl).0

pub nothing_outside : (o : Origins) (at : Spot) (e : TermTree)
    → (IsOfCircuit at.mode → ⊥) → Answers o at ApPure e None
nothing_outside o at e outside = λ e' m. outside (made_in_circuit m)

-- nothing is made of a head on fewer arguments
pub nothing_of_fewer : (o : Origins) (at : Spot) (h : TermTree) (args : List Arg) → IsBare h
    → length args < 5 → Answers o at ApPure (applied h args) None
nothing_of_fewer o at h args b few = λ e' m.
    let f = made_of_five h args b m refl in
    let sum : length args ≡ length f.core + length f.rest =
    ap length f.are ∙ length-append f.core f.rest in
    let count : length f.core ≡ 5 = f.count in
    absurd (omega (arith, few, sum, count))

-- what is made of a head on five arguments, with others behind it
pub behind_five : (o : Origins) (at : Spot) (h : TermTree) (args rest : List Arg)
    (made : Option TermTree)
    → IsBare h → IsOfCircuit at.mode → length args ≡ 5 → AnswersJoin o at (applied h args) made
    → Answers o at ApPure (applied h (args ++ rest)) (option_map (λ e. applied e rest) made)
behind_five o at h args rest (Some e) b m n j =
    subst (λ d. MakesOf o at ApPure d (applied e rest)) (sym (applied_more h args rest))
    (of_core (applied h args) e rest (join m j))
behind_five o at h args rest None b m n none = λ e' made.
    let f = made_of_five h (args ++ rest) b made refl in
    let same : f.core ≡ args =
    sym (fronts_same args f.core rest f.rest (n ∙ sym f.count) f.are) in
    none f.made (subst (λ core. Joins o at (applied h core) f.made) same f.joined)
