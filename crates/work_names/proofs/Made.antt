-- What the rules on names and on lifted functions make of an application is what they make of a core.
use Rattle.std.proofs.Common.{◌≡◌, ◌∙◌, ◌<◌, ◌++◌, sym, ap, refl, subst, List, [], ◌∷◌, length, Option, None}
use Rattle.std.specs.Option.{option_map}
use Rattle.chw_types.specs.TypeTree.{TypeTree}
use Rattle.chw_prims.specs.declared.prim.Primitive.TheVariants.{Fmap}
use Rattle.chw_terms.specs.declared.rule.Rule.{Rule}
use Rattle.chw_terms.specs.declared.rule.Rule.TheVariants.{Unfold, Eta}
use Rattle.chw_terms.specs.declared.term.Arg.{Arg}
use Rattle.chw_terms.specs.declared.term.Head.{Head}
use Rattle.chw_terms.specs.declared.term.Head.TheVariants.{PrimOf}
use Rattle.chw_terms.specs.TermTree.{TermTree, prim}
use Rattle.chw_terms.specs.TermView.{tree_of, applied}
use Rattle.chw_terms.proofs.Spines.{applied_more}
use Rattle.chw_typing.specs.Given.{types_then}
use Rattle.rewriting.specs.Origins.{Origins}
use Rattle.rewriting.specs.Spots.{Spot}
use Rattle.rewriting.specs.Instances.{Makes}
use Rattle.rewriting.specs.Names.{OfNames, unfold_global, unfold_made}
use Rattle.rewriting.specs.Shapes.{IsOfCircuit, fmap_of, leading_lambdas}
use Rattle.rewriting.specs.Signals.{OfSignals, join, eta, spec_function, IsLifted}
use Rattle.rewriting.proofs.Spines.{IsBare, head_is}
use Rattle.rule_parts.specs.Cores.{MakesOf, of_core, Answers, AnswersCore}
use Rattle.rule_parts.proofs.Heads.{bare, IsOfPrims, of_few_args, of_named_args}

-- names alone become something
bare_name : {o : Origins} {at : Spot} {r : Rule} {e e' : TermTree} → OfNames o at r e e' → IsBare e
bare_name (unfold_global n g) = record { itself = refl; alone = refl }
bare_name (unfold_made n g) = record { itself = refl; alone = refl }

pub unfolds_bare : (o : Origins) (at : Spot) (e e' : TermTree) → Makes o at Unfold e e' → IsBare e
unfolds_bare o at e e' m = bare_name m

-- what a lifted function is made of
pub record Expands (o : Origins) (at : Spot) (e e' : TermTree) : Type 0 where
  pub dom : TypeTree
  pub from : TypeTree
  pub to : TypeTree
  pub first : TypeTree
  pub others : List TypeTree
  pub gives : TypeTree
  pub function : TermTree
  pub signal : TermTree
  pub is : e ≡ fmap_of dom from to function signal
  pub circuit : IsOfCircuit at.mode
  pub lifted : IsLifted o at function first others gives
  pub lacks : leading_lambdas function < length (first ∷ others)

pub expands : {o : Origins} {at : Spot} {r : Rule} {e e' : TermTree} → OfSignals o at r e e' → r ≡ Eta → Expands o at e e'
expands (join m j) k = absurd cc
expands (spec_function m l n i) k = absurd cc
expands (eta {d = d} {a = a} {b = b} {t = t} {r = r} {ts = ts} {g = g} {s = s} m l n) k = record {
  dom = d;
  from = a;
  to = b;
  first = t;
  others = ts;
  gives = r;
  function = g;
  signal = s;
  is = refl;
  circuit = m;
  lifted = l;
  lacks = n;
}

no_fmap : {o : Origins} {at : Spot} {e e' : TermTree} (h : Head) (args : List Arg) → (tree_of h ≡ prim Fmap → ⊥) → MakesOf o at Eta e e' → applied (tree_of h) args ≡ e → ⊥
no_fmap h args other (of_core core core' rest m) q =
    let it = expands m refl in
    let own = types_then (it.dom ∷ it.from ∷ it.to ∷ []) (it.function ∷ it.signal ∷ []) in
    let whole : applied (tree_of h) args ≡ applied (prim Fmap) (own ++ rest) = q ∙ ap (λ e. applied e rest) it.is ∙ sym (applied_more (prim Fmap) own rest) in
    other (head_is (tree_of h) (prim Fmap) args (own ++ rest) (bare h) (bare (PrimOf Fmap)) whole)

eta_prims : IsOfPrims Eta
eta_prims o at e e' m =
    let it = expands m refl in
    record { which = Fmap; args = types_then (it.dom ∷ it.from ∷ it.to ∷ []) (it.function ∷ it.signal ∷ []); is = it.is; count = refl }

-- so nothing is made of another head
pub of_other : (o : Origins) (at : Spot) (h : Head) (args : List Arg) → (tree_of h ≡ prim Fmap → ⊥) → Answers o at Eta (applied (tree_of h) args) None
of_other o at h args other = λ e' m. no_fmap h args other m refl

-- nor of `fmap` on fewer arguments
pub of_few : (o : Origins) (at : Spot) (h : Head) (args : List Arg) → tree_of h ≡ prim Fmap → length args < 5 → Answers o at Eta (applied (tree_of h) args) None
of_few o at h args q few =
    subst (λ h. Answers o at Eta (applied h args) None) (sym q) (of_few_args o at Eta Fmap args eta_prims few)

-- else what is made of its five, with the others behind
pub of_five : (o : Origins) (at : Spot) (h : Head) (all args rest : List Arg) (answer : Option TermTree) → tree_of h ≡ prim Fmap → all ≡ args ++ rest → length args ≡ 5 → AnswersCore o at Eta (applied (prim Fmap) args) answer → Answers o at Eta (applied (tree_of h) all) (option_map (λ e. applied e rest) answer)
of_five o at h all args rest answer q parts count made =
    subst (λ h. Answers o at Eta (applied h all) (option_map (λ e. applied e rest) answer)) (sym q)
    (subst (λ all. Answers o at Eta (applied (prim Fmap) all) (option_map (λ e. applied e rest) answer)) (sym parts)
    (of_named_args o at Eta Fmap args rest answer eta_prims count made))
