-- `fmap` on its arguments, as it is seen, and what a lifted function becomes.
use Rattle.std.proofs.Common.{◌≡◌, ◌∙◌, ◌<◌, sym, ap, refl, subst, List, [], ◌∷◌, length}
use Rattle.chw_types.specs.TypeTree.{TypeTree}
use Rattle.chw_prims.specs.declared.prim.Primitive.TheVariants.{Fmap}
use Rattle.chw_terms.specs.declared.rule.Rule.TheVariants.{Eta}
use Rattle.chw_terms.specs.declared.term.Arg.{Arg}
use Rattle.chw_terms.specs.declared.term.Head.TheVariants.{PrimOf}
use Rattle.chw_terms.specs.TermTree.{TermTree, prim}
use Rattle.chw_terms.specs.TermView.{applied}
use Rattle.chw_typing.specs.Given.{types_then}
use Rattle.rewriting.specs.Origins.{Origins, eta_expanded}
use Rattle.rewriting.specs.Spots.{Spot}
use Rattle.rewriting.specs.Shapes.{IsOfCircuit, fmap_of, leading_lambdas}
use Rattle.rewriting.specs.Signals.{OfSignals, eta}
use Rattle.rewriting.proofs.Spines.{args_are}
use Rattle.rule_parts.proofs.Heads.{bare}
use Rattle.work_names.specs.Functions.{LacksLambdas}
use Rattle.work_names.proofs.Made.{expands}

-- the arguments are those of `fmap`
fmap_args : (args given : List Arg) → applied (prim Fmap) args ≡ applied (prim Fmap) given → args ≡ given
fmap_args args given q = args_are (prim Fmap) (prim Fmap) args given (bare (PrimOf Fmap)) (bare (PrimOf Fmap)) q

-- a lifted function becomes one under lambdas
pub lambdas_made : (o : Origins) (at : Spot) (d a b : TypeTree) (g s : TermTree) (params : List TypeTree) (e e' : TermTree) → IsOfCircuit at.mode → e ≡ fmap_of d a b g s → LacksLambdas o at g params → e' ≡ fmap_of d a b (eta_expanded params g) s → OfSignals o at Eta e e'
lambdas_made o at d a b g s params e e' m q l r =
    let lacks : leading_lambdas g < length (l.first ∷ l.others) = subst (λ ps. leading_lambdas g < length ps) l.are l.lacks in
    let whole : e' ≡ fmap_of d a b (eta_expanded (l.first ∷ l.others) g) s = r ∙ ap (λ ps. fmap_of d a b (eta_expanded ps g) s) l.are in
    subst (λ e. OfSignals o at Eta e e') (sym q) (subst (OfSignals o at Eta (fmap_of d a b g s)) (sym whole) (eta m l.lifted lacks))

-- not outside of circuits
pub no_circuit : {o : Origins} {at : Spot} {e e' : TermTree} → (IsOfCircuit at.mode → ⊥) → OfSignals o at Eta e e' → ⊥
no_circuit none m = none (expands m refl).circuit

-- nor where there is no function on a signal
pub no_lifted : {o : Origins} {at : Spot} {e' : TermTree} (args : List Arg) → ((d a b : TypeTree) (g s : TermTree) → args ≡ types_then (d ∷ a ∷ b ∷ []) (g ∷ s ∷ []) → ⊥) → OfSignals o at Eta (applied (prim Fmap) args) e' → ⊥
no_lifted args none m =
    let it = expands m refl in
    none it.dom it.from it.to it.function it.signal (fmap_args args (types_then (it.dom ∷ it.from ∷ it.to ∷ []) (it.function ∷ it.signal ∷ [])) it.is)

-- nor where the function lacks no lambda
pub no_lambda : {o : Origins} {at : Spot} {e e' : TermTree} (d a b : TypeTree) (g s : TermTree) → e ≡ fmap_of d a b g s → ((params : List TypeTree) → LacksLambdas o at g params → ⊥) → OfSignals o at Eta e e' → ⊥
no_lambda {o} {at} d a b g s q none m =
    let it = expands m refl in
    let both : fmap_of it.dom it.from it.to it.function it.signal ≡ fmap_of d a b g s = sym it.is ∙ q in
    let same : it.function ≡ g = cc in
    none (it.first ∷ it.others)
    (subst (λ g. LacksLambdas o at g (it.first ∷ it.others)) same
    (record { first = it.first; others = it.others; gives = it.gives; are = refl; lifted = it.lifted; lacks = it.lacks }))
