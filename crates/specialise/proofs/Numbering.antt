-- What the rule of made definitions makes, by the number of the made definition.
use Rattle.std.proofs.Common.{◌≡◌, ◌∙◌, ap, sym, refl, subst, inl, inr, ℕ, ◌+◌, ◌<◌, List, [], ◌∷◌, ◌++◌, length, length-append, map, Option, Some, None, arith}
use Rattle.std.specs.Prelude.{IfSome, MatchOption}
use Rattle.std.proofs.lemmas.List.{length-map}
use Rattle.chw_types.specs.TypeTree.{TypeTree}
use Rattle.chw_prims.specs.declared.prim.Primitive.{Primitive as Prim}
use Rattle.chw_prims.specs.declared.prim.Primitive.TheVariants.{Fmap}
use Rattle.chw_terms.specs.declared.program.Program.{Program}
use Rattle.chw_terms.specs.declared.rule.Rule.{Rule}
use Rattle.chw_terms.specs.declared.rule.Rule.TheVariants.{Spec}
use Rattle.chw_terms.specs.declared.scene.Made.{Made}
use Rattle.chw_terms.specs.declared.scene.Sort.TheVariants.{Value}
use Rattle.chw_terms.specs.declared.term.Arg.{Arg}
use Rattle.chw_terms.specs.declared.term.Arg.TheVariants.{OfTerm}
use Rattle.chw_terms.specs.FreeVariables.{free_in}
use Rattle.chw_terms.specs.TermTree.{TermTree, var, global, made, prim}
use Rattle.chw_terms.specs.declared.term.Head.{Head}
use Rattle.chw_terms.specs.declared.term.Head.TheVariants.{Var, Global, Made as MadeName, Lam, TyLam, LetRec, Con, PrimOf, Lit, VecLit, Case}
use Rattle.chw_terms.specs.TermView.{tree_of, applied}
use Rattle.chw_terms.proofs.Spines.{applied_more}
use Rattle.chw_typing.specs.HeadTypes.{from_each}
use Rattle.chw_typing.specs.Given.{types_then}
use Rattle.rewriting.specs.Origins.{MadeOf, Origins, made_of, origin_of}
use Rattle.rewriting.specs.Spots.{HasLets, Spot}
use Rattle.made_table.specs.Held.{HoldsNone}
use Rattle.rewriting.specs.Calls.{IsCall, OfWhole, spec_call, anf_call, anf_result, call_origin, to_lambdas}
use Rattle.rewriting.specs.Instances.{HasInstance, on_core, on_whole, Makes}
use Rattle.rewriting.specs.Numbers.{IsNumberOf}
use Rattle.rewriting.specs.Runs.{After, known, one_more, BecomesMade, of_call, of_lifted}
use Rattle.rewriting.specs.Shapes.{IsOfCircuit, fmap_of}
use Rattle.rewriting.specs.Signals.{OfSignals, join, eta, spec_function}
use Rattle.rewriting.specs.Steps.{origins_in}
use Rattle.rewriting.proofs.Spines.{head_is, args_are, fronts_same, IsBare}
use Rattle.rule_parts.specs.Cores.{HasTypeAt}
use Rattle.rule_parts.proofs.Heads.{bare}
use Rattle.specialise.specs.Calls.{IsOnGlobal}
use Rattle.specialise.specs.Closed.{closed}
use Rattle.specialise.specs.declared.trial.Special.{Special}
use Rattle.specialise.specs.declared.numbers.Seed.{Seed}
use Rattle.specialise.specs.Seeds.{IsNumbered, IsOfCall, HasLambdas, made_of_seed}
use Rattle.trials.specs.Trials.{with_new}
use Rattle.specialise.specs.Special.{IsSpecial, AnswersSpecial}
use Rattle.specialise.proofs.Closed.{closed_at_once}

-- a number, and what there is afterwards
number_is : (p : Program) (list : List Made) (it : MadeOf) (m : ℕ) (d : Option Made) → IsNumbered p list it m d → IsNumberOf (origins_in p list) it.origin m
number_is p list it m None h = (inl h.0, h.1)
number_is p list it m (Some new) h = (inr (h.1 ∙ sym (length-map list made_of)), λ j l. h.0 j)

after_is : (p : Program) (list : List Made) (at : Spot) (e : TermTree) (it : MadeOf) (m : ℕ) (d : Option Made) → BecomesMade (origins_in p list) at e it → IsNumbered p list it m d
    → After p list at e Spec (with_new list d)
after_is p list at e it m None b h = known m b h.0
after_is p list at e it m (Some new) b h = subst (λ n. After p list at e Spec (list ++ n ∷ [])) (sym h.2) (one_more b h.0)

fresh_is : (p : Program) (list : List Made) (it : MadeOf) (m : ℕ) (d : Option Made) → IsNumbered p list it m d → IfSome d (λ n. HoldsNone list n.origin)
fresh_is p list it m None h = tt
fresh_is p list it m (Some new) h = subst (λ (n : Made). HoldsNone list n.origin) (sym h.2) h.0

-- of a call
pub call_special : (p : Program) (list : List Made) (at : Spot) (e : TermTree) (it : MadeOf) (m : ℕ) (s : Special) → HasLets at.mode → HasTypeAt (origins_in p list) at e
    → IsOfCall (origins_in p list) at e it → IsNumbered p list it m s.definition → s.new ≡ applied (made m) (map (λ x. OfTerm (var x)) (free_in e)) → IsSpecial p list at e s
call_special p list at e it m s lets typed of n new =
    let o = origins_in p list in
    let number : IsNumberOf o (call_origin o of.types e) m = subst (λ (it : MadeOf). IsNumberOf o it.origin m) of.is (number_is p list it m s.definition n) in
    let becomes : BecomesMade o at e it = subst (BecomesMade o at e) (sym of.is) (of_call of.call) in
    record {
      instance = subst (HasInstance o at Spec e) (sym new) (on_whole (spec_call lets of.call number) typed.1);
      after = after_is p list at e it m s.definition becomes n;
      fresh = fresh_is p list it m s.definition n;
    }

-- of a lifted function
pub lifted_special : (p : Program) (list : List Made) (at : Spot) (d a b : TypeTree) (g signal : TermTree) (rest : List Arg) (ty : TypeTree) (m : ℕ) (s : Special) → IsOfCircuit at.mode
    → HasTypeAt (origins_in p list) at (applied (fmap_of d a b g signal) rest) → HasLambdas (origins_in p list) at g ty
    → IsNumbered p list (record { origin = origin_of (origins_in p list) g; ty = ty; sort = Value }) m s.definition
    → s.new ≡ applied (fmap_of d a b (made m) signal) rest → IsSpecial p list at (applied (fmap_of d a b g signal) rest) s
lifted_special p list at d a b g signal rest ty m s circuit typed l n new =
    let o = origins_in p list in
    let e = applied (fmap_of d a b g signal) rest in
    let it : MadeOf = record { origin = origin_of o g; ty = ty; sort = Value } in
    let becomes : BecomesMade o at e it =
    subst (λ (t : TypeTree). BecomesMade o at e (record { origin = origin_of o g; ty = t; sort = Value })) (sym l.is) (of_lifted d a b g signal rest l.lifted l.lambdas) in
    record {
      instance = subst (HasInstance o at Spec e) (sym new)
          (on_core (fmap_of d a b g signal) (fmap_of d a b (made m) signal) rest (spec_function circuit l.lifted l.lambdas (number_is p list it m s.definition n)) typed.1);
      after = after_is p list at e it m s.definition becomes n;
      fresh = fresh_is p list it m s.definition n;
    }

-- what a call of the rule is
pub record OfCall (o : Origins) (at : Spot) (e : TermTree) : Type 0 where
  pub types : List TypeTree
  pub gives : TypeTree
  pub lets : HasLets at.mode
  pub call : IsCall o at e types gives

whole_is : {o : Origins} {at : Spot} {r : Rule} {e e' : TermTree} → OfWhole o at r e e' → r ≡ Spec → OfCall o at e
whole_is (spec_call {e = e} {ts = ts} {t = t} {m = m} l c n) k = record { types = ts; gives = t; lets = l; call = c }
whole_is (anf_call f t) k = absurd cc
whole_is (anf_result l r v w n t) k = absurd cc

-- and what a lifted function of it is
pub record OfLifted (o : Origins) (at : Spot) (core : TermTree) : Type 0 where
  pub dom : TypeTree
  pub from : TypeTree
  pub to : TypeTree
  pub function : TermTree
  pub signal : TermTree
  pub ty : TypeTree
  pub is : core ≡ fmap_of dom from to function signal
  pub circuit : IsOfCircuit at.mode
  pub lambdas : HasLambdas o at function ty

core_is : {o : Origins} {at : Spot} {r : Rule} {e e' : TermTree} → OfSignals o at r e e' → r ≡ Spec → OfLifted o at e
core_is (join m j) k = absurd cc
core_is (eta m l n) k = absurd cc
core_is (spec_function {d = d} {a = a} {b = b} {t = t} {r = r} {ts = ts} {g = g} {s = s} {m = m} c l n i) k = record {
  dom = d;
  from = a;
  to = b;
  function = g;
  signal = s;
  ty = from_each (t ∷ ts) r;
  is = refl;
  circuit = c;
  lambdas = record { first = t; others = ts; gives = r; is = refl; lifted = l; lambdas = n };
}

-- an instance is of one of the two
pub data Either (o : Origins) (at : Spot) : TermTree → Type 0 where
  a_call : {e : TermTree} → OfCall o at e → Either o at e
  a_core : (core : TermTree) (rest : List Arg) → OfLifted o at core → Either o at (applied core rest)

pub either : {o : Origins} {at : Spot} {r : Rule} {e e' : TermTree} → HasInstance o at r e e' → r ≡ Spec → Either o at e
either {o} {at} (on_core core core' rest m h) k = a_core core rest (core_is (subst (λ r. Makes o at r core core') k m) refl)
either (on_whole w h) k = a_call (whole_is w k)

-- heads that are no names of definitions, and no primitives
other_global : (h : Head) → ((d : _) → h ≡ Global d → ⊥) → (d : ℕ) → tree_of h ≡ global d → ⊥
other_global (Var x) none d q = absurd cc
other_global (Global c) none d q = none c refl
other_global (MadeName m) none d q = absurd cc
other_global (Lam t e) none d q = absurd cc
other_global (TyLam k e) none d q = absurd cc
other_global (LetRec bs e) none d q = absurd cc
other_global (Con c) none d q = absurd cc
other_global (PrimOf p) none d q = absurd cc
other_global (Lit s b) none d q = absurd cc
other_global (VecLit t es) none d q = absurd cc
other_global (Case e alts) none d q = absurd cc

other_prim : (h : Head) → ((p : _) → h ≡ PrimOf p → ⊥) → tree_of h ≡ prim Fmap → ⊥
other_prim (Var x) none q = absurd cc
other_prim (Global c) none q = absurd cc
other_prim (MadeName m) none q = absurd cc
other_prim (Lam t e) none q = absurd cc
other_prim (TyLam k e) none q = absurd cc
other_prim (LetRec bs e) none q = absurd cc
other_prim (Con c) none q = absurd cc
other_prim (PrimOf p) none q = none p refl
other_prim (Lit s b) none q = absurd cc
other_prim (VecLit t es) none q = absurd cc
other_prim (Case e alts) none q = absurd cc

-- the name of a definition on arguments, and `fmap` on arguments, as they are taken apart
abbrev five_of : {o : Origins} {at : Spot} {core : TermTree} → OfLifted o at core → List Arg
five_of l = types_then (l.dom ∷ l.from ∷ l.to ∷ []) (l.function ∷ l.signal ∷ [])

core_with : {o : Origins} {at : Spot} {core : TermTree} (rest : List Arg) (l : OfLifted o at core) → applied core rest ≡ applied (prim Fmap) (five_of l ++ rest)
core_with rest l = ap (λ e. applied e rest) l.is ∙ sym (applied_more (prim Fmap) (five_of l) rest)

-- the name of a definition has an instance as a call alone
pub call_of : {o : Origins} {at : Spot} {e : TermTree} → IsOnGlobal e → Either o at e → OfCall o at e
call_of on (a_call c) = c
call_of on (a_core core rest l) =
    let same = head_is (prim Fmap) (global on.0) (five_of l ++ rest) on.1 (bare (PrimOf Fmap)) (record { itself = refl; alone = refl }) (sym (core_with rest l) ∙ on.2) in
    absurd cc

-- and any other head as a lifted function alone
record IsLifting (o : Origins) (at : Spot) (h : TermTree) (args : List Arg) : Type 0 where
  core : TermTree
  rest : List Arg
  of : OfLifted o at core
  is_head : h ≡ prim Fmap
  are_args : args ≡ five_of of ++ rest

lifting_of : {o : Origins} {at : Spot} {e : TermTree} (h : TermTree) (args : List Arg) → IsBare h → ((d : ℕ) → h ≡ global d → ⊥) → applied h args ≡ e → Either o at e → IsLifting o at h args
lifting_of h args b other q (a_call c) =
    let d = c.call.of in
    absurd (other d (head_is h (global d) args c.call.args b (record { itself = refl; alone = refl }) (q ∙ c.call.is)))
lifting_of h args b other q (a_core core rest l) =
    let whole = q ∙ core_with rest l in
    record {
      core = core;
      rest = rest;
      of = l;
      is_head = head_is h (prim Fmap) args (five_of l ++ rest) b (bare (PrimOf Fmap)) whole;
      are_args = args_are h (prim Fmap) args (five_of l ++ rest) b (bare (PrimOf Fmap)) whole;
    }

-- so there is none at another head
pub no_instance : {o : Origins} {at : Spot} {e e' : TermTree} (h : Head) (args : List Arg) → ((d : _) → h ≡ Global d → ⊥) → ((p : _) → h ≡ PrimOf p → ⊥) → applied (tree_of h) args ≡ e → HasInstance o at Spec e e' → ⊥
no_instance h args no_global no_prim q i =
    let it = lifting_of (tree_of h) args (bare h) (other_global h no_global) q (either i refl) in
    other_prim h no_prim it.is_head

-- nor at another primitive
pub no_instance_of : {o : Origins} {at : Spot} {e' : TermTree} (p : Prim) (args : List Arg) → (p ≡ Fmap → ⊥) → HasInstance o at Spec (applied (prim p) args) e' → ⊥
no_instance_of p args other i =
    let it = lifting_of (prim p) args (bare (PrimOf p)) (λ d q. cc) refl (either i refl) in
    let same = it.is_head in
    let is : p ≡ Fmap = cc in
    other is

-- nor at `fmap` on fewer arguments
pub no_instance_on_few : {o : Origins} {at : Spot} {e' : TermTree} (p : Prim) (args : List Arg) → length args < 5 → HasInstance o at Spec (applied (prim p) args) e' → ⊥
no_instance_on_few p args few i =
    let it = lifting_of (prim p) args (bare (PrimOf p)) (λ d q. cc) refl (either i refl) in
    let count : length args ≡ length (five_of it.of) + length it.rest = ap length it.are_args ∙ length-append (five_of it.of) it.rest in
    let five : length (five_of it.of) ≡ 5 = refl in
    omega (arith, few, count, five)

-- on five and more, the five are those of a lifted function
pub record HasLifted (o : Origins) (at : Spot) (own : List Arg) : Type 0 where
  pub dom : TypeTree
  pub from : TypeTree
  pub to : TypeTree
  pub function : TermTree
  pub signal : TermTree
  pub ty : TypeTree
  pub are : own ≡ types_then (dom ∷ from ∷ to ∷ []) (function ∷ signal ∷ [])
  pub circuit : IsOfCircuit at.mode
  pub lambdas : HasLambdas o at function ty

pub lifted_in : {o : Origins} {at : Spot} {e' : TermTree} (own rest : List Arg) → length own ≡ 5 → HasInstance o at Spec (applied (prim Fmap) (own ++ rest)) e' → HasLifted o at own
lifted_in own rest five i =
    let it = lifting_of (prim Fmap) (own ++ rest) (bare (PrimOf Fmap)) (λ d q. cc) refl (either i refl) in
    record {
      dom = it.of.dom;
      from = it.of.from;
      to = it.of.to;
      function = it.of.function;
      signal = it.of.signal;
      ty = it.of.ty;
      are = fronts_same own (five_of it.of) rest it.rest five it.are_args;
      circuit = it.of.circuit;
      lambdas = it.of.lambdas;
    }

pub none_lifted : {o : Origins} {at : Spot} {own : List Arg} (d a b : TypeTree) (g s : TermTree) → own ≡ types_then (d ∷ a ∷ b ∷ []) (g ∷ s ∷ []) → ((t : TypeTree) → HasLambdas o at g t → ⊥) → HasLifted o at own → ⊥
none_lifted {o} {at} d a b g s q none l =
    let both : types_then (l.dom ∷ l.from ∷ l.to ∷ []) (l.function ∷ l.signal ∷ []) ≡ types_then (d ∷ a ∷ b ∷ []) (g ∷ s ∷ []) = sym l.are ∙ q in
    let same : l.function ≡ g = cc in
    none l.ty (subst (λ g. HasLambdas o at g l.ty) same l.lambdas)

pub call_in : {o : Origins} {at : Spot} {e e' : TermTree} → IsOnGlobal e → HasInstance o at Spec e e' → OfCall o at e
call_in on i = call_of on (either i refl)

-- where it has none, nothing is answered, whatever the list of made definitions is called
pub none_special : (p : Program) (list seen : List Made) (at : Spot) (e : TermTree) → list ≡ seen → ((e' : TermTree) → HasInstance (origins_in p list) at Spec e e' → ⊥)
    → AnswersSpecial p seen at e None
none_special p list seen at e q none = subst (λ ms. AnswersSpecial p ms at e None) q none

-- the seed of a lifted function
abbrev pub IsLiftedSeed : Origins → Spot → TermTree → Seed → Type 0
IsLiftedSeed o at g s =
    HasLambdas o at g s.ty × (s.origin ≡ closed o (to_lambdas []) g) × (s.sort ≡ Value)

seed_is : (o : Origins) (at : Spot) (g : TermTree) (s : Seed) → IsLiftedSeed o at g s
    → made_of_seed s ≡ record { origin = origin_of o g; ty = s.ty; sort = Value }
seed_is o at g s is =
    let origin = is.1 ∙ closed_at_once o g in
    let sort = is.2 in
    λ i. record { origin = origin i; ty = s.ty; sort = sort i }

-- what is answered at a lifted function, by what is made in turn
pub lifted_done : (p : Program) (list seen : List Made) (at : Spot) (d a b : TypeTree) (g signal : TermTree) (own rest : List Arg) (seed : Seed) (m : ℕ) (s : Special)
    → list ≡ seen → IsOfCircuit at.mode → HasTypeAt (origins_in p list) at (applied (prim Fmap) (own ++ rest)) → own ≡ types_then (d ∷ a ∷ b ∷ []) (g ∷ signal ∷ [])
    → IsLiftedSeed (origins_in p list) at g seed → IsNumbered p seen (made_of_seed seed) m s.definition
    → s.new ≡ applied (fmap_of d a b (made m) signal) rest → IsSpecial p seen at (applied (prim Fmap) (own ++ rest)) s
lifted_done p list seen at d a b g signal own rest seed m s q circuit typed are is n new =
    let o = origins_in p list in
    let it : MadeOf = record { origin = origin_of o g; ty = seed.ty; sort = Value } in
    let numbered : IsNumbered p list it m s.definition =
    subst (λ (it : MadeOf). IsNumbered p list it m s.definition) (seed_is o at g seed is)
    (subst (λ ms. IsNumbered p ms (made_of_seed seed) m s.definition) (sym q) n) in
    let whole : applied (prim Fmap) (own ++ rest) ≡ applied (fmap_of d a b g signal) rest =
    ap (λ xs. applied (prim Fmap) (xs ++ rest)) are ∙ applied_more (prim Fmap) (types_then (d ∷ a ∷ b ∷ []) (g ∷ signal ∷ [])) rest in
    subst (λ ms. IsSpecial p ms at (applied (prim Fmap) (own ++ rest)) s) q
    (subst (λ e. IsSpecial p list at e s) (sym whole)
    (lifted_special p list at d a b g signal rest seed.ty m s circuit (subst (HasTypeAt o at) whole typed) is.0 numbered new))

-- what is answered at a call, by its seed and its number
abbrev pub AnswersCalled : Origins → Program → List Made → Spot → TermTree → List ℕ → Option Special → Type 0
AnswersCalled o p seen at e free r =
    MatchOption r
    ((types : List TypeTree) (gives : TypeTree) → IsCall o at e types gives → ⊥)
    (λ (s : Special). (it : MadeOf) × (m : ℕ) × IsOfCall o at e it × IsNumbered p seen it m s.definition
    × (s.new ≡ applied (made m) (map (λ x. OfTerm (var x)) free)))

pub call_answer : (p : Program) (list seen : List Made) (at : Spot) (e : TermTree) (free : List ℕ) (r : Option Special) → list ≡ seen → HasLets at.mode
    → HasTypeAt (origins_in p list) at e → IsOnGlobal e → free ≡ free_in e → AnswersCalled (origins_in p list) p seen at e free r → AnswersSpecial p seen at e r
call_answer p list seen at e free None q lets typed on all none =
    none_special p list seen at e q (λ e' i. let it = call_in on i in none it.types it.gives it.call)
call_answer p list seen at e free (Some s) q lets typed on all h =
    let it = h.0 in
    let m = h.1 in
    subst (λ ms. IsSpecial p ms at e s) q
    (call_special p list at e it m s lets typed h.2 (subst (λ ms. IsNumbered p ms it m s.definition) (sym q) h.3)
    (h.4 ∙ ap (λ xs. applied (made m) (map (λ x. OfTerm (var x)) xs)) all))
