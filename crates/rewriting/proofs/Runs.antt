-- A run is one.
use Rattle.std.proofs.Common.{inl, inr, ◌<◌, ◌≡◌, ◌∙◌, sym, ap, refl, subst, ℕ, List, [], ◌∷◌, ◌++◌, map, set, Some}
use Rattle.std.specs.List.{slice_get}
use Rattle.chw_types.specs.TypeTree.{TypeTree}
use Rattle.chw_prims.specs.declared.prim.Primitive.TheVariants.{Fmap}
use Rattle.chw_terms.specs.declared.program.Program.{Program}
use Rattle.chw_terms.specs.declared.rule.Rule.{Rule}
use Rattle.chw_terms.specs.declared.rule.Rule.TheVariants.{TyBeta, Beta, AppLet, AppCase, CaseCon, CaseLet, CaseCase, Proj, PrimLet, PrimCase, Flat, Dead, Inline, Unfold, Unroll, Elem, Delta, ApPure, Eta, Spec, Anf}
use Rattle.chw_terms.specs.declared.scene.Made.{Made}
use Rattle.chw_terms.specs.declared.scene.Sort.TheVariants.{Value}
use Rattle.chw_terms.specs.declared.term.Arg.{Arg}
use Rattle.chw_terms.specs.declared.term.Arg.TheVariants.{OfTerm, OfType}
use Rattle.chw_terms.specs.FreeVariables.{free_in}
use Rattle.chw_terms.specs.TermTree.{TermTree, global, prim}
use Rattle.chw_terms.specs.TermView.{applied}
use Rattle.chw_typing.specs.HeadTypes.{from_each}
use Rattle.chw_typing.specs.Paths.{with_part}
use Rattle.rewriting.specs.Origins.{MadeOf, Origins, origin_of}
use Rattle.rewriting.specs.PlaceLaws.{OnePlace}
use Rattle.rewriting.specs.Spots.{Spot}
use Rattle.rewriting.specs.Calls.{call_origin}
use Rattle.rewriting.specs.Numbers.{HasOrigin, IsNumberOf}
use Rattle.rewriting.specs.Runs.{BecomesMade, of_call, of_lifted, After, no_call, known, one_more, opened, top_of, sort_at, IsOpening, Step, StepsTo, RunsTo, no_more, none_left, step_and, Run}
use Rattle.rewriting.specs.Shapes.{fmap_of}
use Rattle.rewriting.specs.Steps.{origins_in, HasNoStep}
use Rattle.rewriting.specs.Calls.{OfWhole, spec_call}
use Rattle.rewriting.specs.Instances.{HasInstance, on_core, on_whole}
use Rattle.rewriting.specs.Signals.{OfSignals, spec_function}
use Rattle.rewriting.specs.Steps.{Where, IsFirst}
use Rattle.rewriting.specs.Origins.{made_of}
use Rattle.std.proofs.Common.{arith, zero, suc, length}
use Rattle.rewriting.proofs.CaseMakes.{one_type_found}
use Rattle.rewriting.proofs.Lists.{somes_same, origin_within}
use Rattle.rewriting.proofs.Signals.{one_lifted}
use Rattle.rewriting.proofs.Spines.{head_of, head_applied, args_are}
use Rattle.rewriting.proofs.Steps.{one_step, one_first_place}

no_lifted_call : (c : ℕ) (args rest : List Arg) (d a b : TypeTree) (g s : TermTree) → applied (global c) args ≡ applied (fmap_of d a b g s) rest → ⊥
no_lifted_call c args rest d a b g s q =
    let heads : global c ≡ prim Fmap = sym (head_applied args (global c)) ∙ ap head_of q ∙ head_applied rest (fmap_of d a b g s) in absurd cc

lifted_same : (d a b d' a' b' : TypeTree) (g s g' s' : TermTree) (rest rest' : List Arg) → applied (fmap_of d a b g s) rest ≡ applied (fmap_of d' a' b' g' s') rest' → g ≡ g'
lifted_same d a b d' a' b' g s g' s' rest rest' q =
    let args = args_are (prim Fmap) (prim Fmap) (OfType d ∷ OfType a ∷ OfType b ∷ OfTerm g ∷ OfTerm s ∷ rest) (OfType d' ∷ OfType a' ∷ OfType b' ∷ OfTerm g' ∷ OfTerm s' ∷ rest')
    (record { itself = refl; alone = refl }) (record { itself = refl; alone = refl }) q in
    cc

one_becomes : {o : Origins} {at : Spot} {e f : TermTree} {it other : MadeOf} → BecomesMade o at e it → BecomesMade o at f other → e ≡ f → it ≡ other
one_becomes {o} {at} (of_call {e = e} {ts = ts} {t = t} c) (of_call {e = f} {ts = ts'} {t = t'} c') q =
    let type = one_type_found c.has c'.has q in
    let types = somes_same ts ts' (sym c.free ∙ ap (λ e. map (slice_get at.vars) (free_in e)) q ∙ c'.free) in
    λ i. record { origin = call_origin o (types i) (q i); ty = from_each (types i) (type i); sort = sort_at at.mode }
one_becomes (of_call c) (of_lifted d' a' b' g' s' rest' l' n') q = absurd (no_lifted_call c.of c.args rest' d' a' b' g' s' (sym c.is ∙ q))
one_becomes (of_lifted d' a' b' g' s' rest' l' n') (of_call c) q = absurd (no_lifted_call c.of c.args rest' d' a' b' g' s' (sym c.is ∙ sym q))
one_becomes {o} (of_lifted d a b {r = r} g s rest l n) (of_lifted d' a' b' {r = r'} g' s' rest' l' n') q =
    let function = lifted_same d a b d' a' b' g s g' s' rest rest' q in
    let same = one_lifted l l' function in
    λ i. record { origin = origin_of o (function i); ty = from_each (same.params i) (same.result i); sort = Value }

one_after : {p : Program} {made : List Made} {at : Spot} {e : TermTree} {r : Rule} {xs ys : List Made} → After p made at e r xs → After p made at e r ys → xs ≡ ys
one_after (no_call n) (no_call n') = refl
one_after (no_call n) (known m b h) = absurd (n refl)
one_after (no_call n) (one_more b h) = absurd (n refl)
one_after (known m b h) (no_call n) = absurd (n refl)
one_after (known m b h) (known m' b' h') = refl
one_after {p} {made} (known m b h) (one_more b' h') =
    let same = one_becomes b b' refl in absurd (h' m (subst (λ (it : MadeOf). HasOrigin (origins_in p made) it.origin m) same h))
one_after (one_more b h) (no_call n) = absurd (n refl)
one_after {p} {made} (one_more b h) (known m b' h') =
    let same = one_becomes b' b refl in absurd (h m (subst (λ (it : MadeOf). HasOrigin (origins_in p made) it.origin m) same h'))
one_after {p} {made} (one_more b h) (one_more b' h') = ap (λ it. made ++ opened p it ∷ []) (one_becomes b b' refl)

-- a step and the state to which it leads
pub record SameState (s s' : Step) (xs ys : List Made) : Type 0 where
  pub step : s ≡ s'
  pub state : xs ≡ ys

after_same : {p : Program} {made : List Made} {at at' : Spot} {e e' : TermTree} {r r' : Rule} {xs ys : List Made} → After p made at e r xs → After p made at' e' r' ys → at ≡ at' → e ≡ e' → r ≡ r' → xs ≡ ys
after_same {p} {made} {at} {at'} {e} {e'} {r} {r'} {xs} {ys} h g x y z =
    one_after h (subst (λ at. After p made at e r ys) (sym x) (subst (λ e. After p made at' e r ys) (sym y) (subst (λ r. After p made at' e' r ys) (sym z) g)))

pub one_state : {rules : List Rule} {p : Program} {made xs ys : List Made} {s s' : Step} → OnePlace → StepsTo rules p made s xs → StepsTo rules p made s' ys → SameState s s' xs ys
one_state {p = p} {made = made} {s = s} {s' = s'} law h g =
    let place = one_first_place h.is_first g.is_first in
    let same = one_step law h.is_first.step.1 g.is_first.step.1 place in
    let with_new = after_same h.after g.after same.spot same.old (λ i. (place i).rule) in
    record {
      step = λ i. record { place = place i; new = same.result i };
      state = h.is ∙ (λ i. set (with_new i) (place i).number (record (same.made i) { body = with_part (same.made i).body (place i).path (same.result i) })) ∙ sym g.is;
    }

-- the steps of a run, and its last state
pub record SameRun (ss ss' : List Step) (xs ys : List Made) : Type 0 where
  pub steps : ss ≡ ss'
  pub state : xs ≡ ys

pub one_run_from : {rules : List Rule} {p : Program} {n n' : ℕ} {made made' xs ys : List Made} {ss ss' : List Step} → OnePlace → RunsTo rules p n made ss xs → RunsTo rules p n' made' ss' ys → n ≡ n' → made ≡ made' → SameRun ss ss' xs ys
one_run_from law no_more no_more k q = record { steps = refl; state = q }
one_run_from law no_more (none_left h) k q = absurd cc
one_run_from law no_more (step_and h d) k q = absurd cc
one_run_from law (none_left h) no_more k q = absurd cc
one_run_from law (none_left h) (none_left h') k q = record { steps = refl; state = q }
one_run_from {rules} {p} law (none_left {made = made} h) (step_and {s = s} h' d') k q =
    let none = subst (HasNoStep rules p) q h in absurd (none s.place s.new h'.is_first.step)
one_run_from law (step_and h d) no_more k q = absurd cc
one_run_from {rules} {p} law (step_and {s = s} h d) (none_left h') k q =
    let none = subst (HasNoStep rules p) (sym q) h' in absurd (none s.place s.new h.is_first.step)
one_run_from {rules} {p} law (step_and {n = n} {made' = mid} {s = s} h d) (step_and {n = n'} {made' = mid'} {s = s'} h' d') k q =
    let number : n ≡ n' = cc in
    let first = one_state law h (subst (λ made. StepsTo rules p made s' mid') (sym q) h') in
    let rest = one_run_from law d d' number first.state in
    record { steps = λ i. first.step i ∷ rest.steps i; state = rest.state }

opening_same : (p : Program) {xs ys : List Made} → IsOpening p xs → IsOpening p ys → xs ≡ ys
opening_same p h g =
    let first : slice_get p.defs p.top.«def».number ≡ Some h.0 = h.1 in
    let second : slice_get p.defs p.top.«def».number ≡ Some g.0 = g.1 in
    let item : h.0 ≡ g.0 = cc in
    h.2 ∙ ap (λ it. opened p (top_of p.top.«def».number it) ∷ []) item ∙ sym g.2

pub one_run : {rules : List Rule} {p : Program} {n : ℕ} {xs ys : List Made} {ss ss' : List Step} → OnePlace → Run rules p n ss xs → Run rules p n ss' ys → SameRun ss ss' xs ys
one_run {p = p} law h g = one_run_from law h.runs g.runs refl (opening_same p h.opens g.opens)

-- a step leads on: by the number that is written, the definition is there, or it comes next
by_number : (p : Program) (made : List Made) (at : Spot) (e : TermTree) (it : MadeOf) (m : ℕ) → BecomesMade (origins_in p made) at e it → IsNumberOf (origins_in p made) it.origin m → (xs : List Made) × After p made at e Spec xs
by_number p made at e it m b (inl h, f) = (made, known m b h)
by_number p made at e it m b (inr q, f) =
    (made ++ opened p it ∷ [], one_more b (λ j h. f j (subst (λ k. j < k) (sym q) (origin_within (origins_in p made) it.origin j h)) h))

after_function : (p : Program) (made : List Made) (at : Spot) {core core' : TermTree} (rest : List Arg) → OfSignals (origins_in p made) at Spec core core' → (xs : List Made) × After p made at (applied core rest) Spec xs
after_function p made at rest (spec_function {d = d} {a = a} {b = b} {t = t} {r = r} {ts = ts} {g = g} {s = s} {m = m} c l n i) =
    by_number p made at (applied (fmap_of d a b g s) rest) (record { origin = origin_of (origins_in p made) g; ty = from_each (t ∷ ts) r; sort = Value }) m (of_lifted d a b g s rest l n) i

after_call : (p : Program) (made : List Made) (at : Spot) {e e' : TermTree} → OfWhole (origins_in p made) at Spec e e' → (xs : List Made) × After p made at e Spec xs
after_call p made at (spec_call {e = e} {ts = ts} {t = t} {m = m} l c i) =
    by_number p made at e (record { origin = call_origin (origins_in p made) ts e; ty = from_each ts t; sort = sort_at at.mode }) m (of_call c) i

after_spec : (p : Program) (made : List Made) (at : Spot) {e e' : TermTree} → HasInstance (origins_in p made) at Spec e e' → (xs : List Made) × After p made at e Spec xs
after_spec p made at (on_core c c' rest m h) = after_function p made at rest m
after_spec p made at (on_whole w h) = after_call p made at w

after_any : (p : Program) (made : List Made) (at : Spot) (r : Rule) (e e' : TermTree) → HasInstance (origins_in p made) at r e e' → (xs : List Made) × After p made at e r xs
after_any p made at TyBeta e e' h = (made, no_call (λ q. absurd cc))
after_any p made at Beta e e' h = (made, no_call (λ q. absurd cc))
after_any p made at AppLet e e' h = (made, no_call (λ q. absurd cc))
after_any p made at AppCase e e' h = (made, no_call (λ q. absurd cc))
after_any p made at CaseCon e e' h = (made, no_call (λ q. absurd cc))
after_any p made at CaseLet e e' h = (made, no_call (λ q. absurd cc))
after_any p made at CaseCase e e' h = (made, no_call (λ q. absurd cc))
after_any p made at Proj e e' h = (made, no_call (λ q. absurd cc))
after_any p made at PrimLet e e' h = (made, no_call (λ q. absurd cc))
after_any p made at PrimCase e e' h = (made, no_call (λ q. absurd cc))
after_any p made at Flat e e' h = (made, no_call (λ q. absurd cc))
after_any p made at Dead e e' h = (made, no_call (λ q. absurd cc))
after_any p made at Inline e e' h = (made, no_call (λ q. absurd cc))
after_any p made at Unfold e e' h = (made, no_call (λ q. absurd cc))
after_any p made at Unroll e e' h = (made, no_call (λ q. absurd cc))
after_any p made at Elem e e' h = (made, no_call (λ q. absurd cc))
after_any p made at Delta e e' h = (made, no_call (λ q. absurd cc))
after_any p made at ApPure e e' h = (made, no_call (λ q. absurd cc))
after_any p made at Eta e e' h = (made, no_call (λ q. absurd cc))
after_any p made at Spec e e' h = after_spec p made at h
after_any p made at Anf e e' h = (made, no_call (λ q. absurd cc))

pub first_leads : (rules : List Rule) (p : Program) (made : List Made) (w : Where) (new : TermTree) → IsFirst rules p made w new → (xs : List Made) × StepsTo rules p made (record { place = w; new = new }) xs
first_leads rules p made w new h =
    let step = h.step.1 in
    let after = after_any p made step.at w.rule step.term new step.made_new in
    (set after.0 w.number (record step.it { body = with_part step.it.body w.path new }), record { is_first = h; with_new = after.0; after = after.1; is = refl })

-- the last of them
last_there : (xs : List Made) (x : Made) (m : ℕ) → m ≡ length (map made_of xs) → slice_get (map made_of (xs ++ x ∷ [])) m ≡ Some (made_of x)
last_there [] x m q = ap (slice_get (made_of x ∷ [])) q
last_there (y ∷ xs) x zero q = absurd (omega (arith, q))
last_there (y ∷ xs) x (suc m) q = last_there xs x m (omega (arith, q))

by_origin : (p : Program) (made : List Made) (it : MadeOf) (m : ℕ) → ((j : ℕ) → HasOrigin (origins_in p made) it.origin j → ⊥) → IsNumberOf (origins_in p made) it.origin m → HasOrigin (origins_in p (made ++ opened p it ∷ [])) it.origin m
by_origin p made it m n (inl h, f) = absurd (n m h)
by_origin p made it m n (inr q, f) = (it, last_there made (opened p it) m q, refl)

by_known : (p : Program) (made : List Made) (e : TermTree) (m j : ℕ) → HasOrigin (origins_in p made) e j → IsNumberOf (origins_in p made) e m → HasOrigin (origins_in p made) e m
by_known p made e m j h (inl g, f) = g
by_known p made e m j h (inr q, f) = absurd (f j (subst (λ k. j < k) (sym q) (origin_within (origins_in p made) e j h)) h)

pub number_is_there : {p : Program} {made xs : List Made} {at : Spot} {e : TermTree} {it : MadeOf} {m : ℕ} → BecomesMade (origins_in p made) at e it → IsNumberOf (origins_in p made) it.origin m → After p made at e Spec xs → HasOrigin (origins_in p xs) it.origin m
number_is_there b i (no_call n) = absurd (n refl)
number_is_there {p} {made} {it = it} {m = m} b i (known {it = other} j c h) =
    by_known p made it.origin m j (subst (λ (it : MadeOf). HasOrigin (origins_in p made) it.origin j) (one_becomes c b refl) h) i
number_is_there {p} {made} {it = it} {m = m} b i (one_more {it = other} c n) =
    let same = one_becomes c b refl in
    subst (λ (of : MadeOf). HasOrigin (origins_in p (made ++ opened p of ∷ [])) it.origin m) (sym same)
    (by_origin p made it m (subst (λ (of : MadeOf). (j : ℕ) → HasOrigin (origins_in p made) of.origin j → ⊥) same n) i)
