-- The first step of a state, by the first steps of its made definitions.
use Rattle.std.proofs.Common.{◌≡◌, ◌⊎◌, inl, inr, ℕ, zero, suc, ◌<◌, ◌≤◌, refl, sym, ◌∙◌, subst, arith, List, [], ◌∷◌, length, reverse, Option, Some, None, slice_get, true, false}
use Rattle.std.proofs.lemmas.Bool.{cases_lt, false≢true}
use Rattle.std.specs.Option.{is_some}
use Rattle.std.proofs.lemmas.List.{append-nil as nothing_behind}
use Rattle.chw_terms.specs.declared.program.Program.{Program}
use Rattle.chw_terms.specs.declared.rule.Rule.{Rule}
use Rattle.chw_terms.specs.declared.scene.Made.{Made}
use Rattle.chw_terms.specs.declared.scene.Scene.{Scene}
use Rattle.chw_terms.specs.TermTree.{TermTree}
use Rattle.chw_typing.specs.Scopes.{setting_in}
use Rattle.rewriting.specs.Named.{mode_of}
use Rattle.rewriting.specs.Origins.{Origins, made_of, origins_of}
use Rattle.rewriting.specs.Typed.{IsTypedScene}
use Rattle.rewriting.specs.Active.{IsPlaceOf, at_it}
use Rattle.rewriting.specs.PlaceLaws.{PlaceOfSceneIsTyped}
use Rattle.rewriting.specs.Spots.{Spot, spot}
use Rattle.rewriting.specs.Steps.{origins_in, Where, IsBefore, HasStepBy}
use Rattle.trials.specs.Trials.{Adds}
use Rattle.step_search.specs.Lambdas.{under_lambdas}
use Rattle.step_search.specs.First.{IsStepAt, IsBeforeThere, FindsFirst}
use Rattle.step_search.specs.FoundSteps.{HasNoneFrom, FindsFrom, FindsNext, IsFirstIn, HasNoneIn, FindsIn, IsFoundIn, LeadsToTyped}
use Rattle.norm_lines.specs.Places.{where_of}
use Rattle.step_order.specs.Sought.{IsSoughtPath, IsSought}
use Rattle.step_search.specs.Begins.{BeginsIn}
use Rattle.step_search.specs.declared.place.Found.{Found}
use Rattle.step_search.specs.declared.trail.Trail.{Trail}
use Rattle.step_search.proofs.Begins.{all_sought}

-- the active places of a made definition
place_is : {o : Origins} {it : Made} {path : List ℕ} {at : Spot} {x : TermTree} → IsPlaceOf o (made_of it) it.body path at x → under_lambdas o (mode_of it.sort) [] it.body it.ty path at x
place_is r = (r.root, r.vars, r.term, r.rest, r.under, r.active, r.is)

pub is_place : {o : Origins} {it : Made} {path : List ℕ} {at : Spot} {x : TermTree} → under_lambdas o (mode_of it.sort) [] it.body it.ty path at x → IsPlaceOf o (made_of it) it.body path at x
is_place h = record { root = h.0; vars = h.1; term = h.2; rest = h.3; under = h.4; active = h.5; is = h.6 }

sought_in : (n m : ℕ) (from left : List ℕ) (w : Where) → BeginsIn n m from left → w.number ≡ n → IsSought m from w → IsSoughtPath w.path left
sought_in n m from left w (inl h) is (inl l) = absurd (omega (arith, l, is, h.0))
sought_in n m from left w (inl h) is (inr s) = subst (IsSoughtPath w.path) (sym h.1) s.1
sought_in n m from left w (inr h) is s = subst (IsSoughtPath w.path) (sym h.1) (all_sought w.path)

in_sought : (n m : ℕ) (from left : List ℕ) (w : Where) → BeginsIn n m from left → w.number ≡ n → IsSoughtPath w.path left → IsSought m from w
in_sought n m from left w (inl h) is s = inr (sym h.0 ∙ sym is, subst (IsSoughtPath w.path) h.1 s)
in_sought n m from left w (inr h) is s = inl (omega (arith, h.0, is))

one_made : (made : List Made) (n k : ℕ) (a b : Made) → k ≡ n → slice_get made n ≡ Some a → slice_get made k ≡ Some b → b ≡ a
one_made made n k a b is x y = cc

-- a step in the made definition is one at its places
pub step_in : (rules : List Rule) (p : Program) (made : List Made) (it : Made) (n m : ℕ) (from left : List ℕ) (w : Where) (new : TermTree) → slice_get made n ≡ Some it → BeginsIn n m from left → w.number ≡ n → HasStepBy rules p made w new → IsSought m from w → IsStepAt rules (origins_in p made) (under_lambdas (origins_in p made) (mode_of it.sort) [] it.body it.ty) left w.path w.rule new
step_in rules p made it n m from left w new at b is s sought =
    let same : s.1.it ≡ it = one_made made n w.number it s.1.it is at s.1.is in
    record {
      at = s.1.at;
      term = s.1.term;
      place = subst (λ (z : Made). under_lambdas (origins_in p made) (mode_of z.sort) [] z.body z.ty w.path s.1.at s.1.term) same (place_is {it = s.1.it} s.1.place);
      sought = sought_in n m from left w b is sought;
      is_rule = s.0;
      made = s.1.made_new;
    }

in_step : (rules : List Rule) (p : Program) (made : List Made) (it : Made) (n : ℕ) (left path : List ℕ) (rule : Rule) (new : TermTree) → slice_get made n ≡ Some it → IsStepAt rules (origins_in p made) (under_lambdas (origins_in p made) (mode_of it.sort) [] it.body it.ty) left path rule new → HasStepBy rules p made (record { number = n; path = path; rule = rule }) new
in_step rules p made it n left path rule new at x =
    (x.is_rule, record { it = it; is = at; at = x.at; term = x.term; place = is_place {it = it} x.place; made_new = x.made })

before_there : (n : ℕ) (path : List ℕ) (rule : Rule) (v : Where) → v.number ≡ n → IsBefore v (record { number = n; path = path; rule = rule }) → IsBeforeThere v.path v.rule path rule
before_there n path rule v is (inl l) = absurd (omega (arith, l, is))
before_there n path rule v is (inr h) = h.1

-- what is found at its places is found in it
pub found_in_made : (rules : List Rule) (p : Program) (made : List Made) (it : Made) (n m : ℕ) (from left : List ℕ) (found : Option Trail) (answer : Option Found) → slice_get made n ≡ Some it → BeginsIn n m from left → FindsFirst rules (origins_in p made) (Adds p made) (under_lambdas (origins_in p made) (mode_of it.sort) [] it.body it.ty) left found → IsFoundIn n found answer → FindsIn rules p made n m from answer
unfolding in_step
found_in_made rules p made it n m from left None answer at b none is =
    subst (FindsIn rules p made n m from) (sym is)
    (λ w new in_it s sought. none w.path w.rule new (step_in rules p made it n m from left w new at b in_it s sought))
found_in_made rules p made it n m from left (Some t) None at b first is = absurd is
found_in_made rules p made it n m from left (Some t) (Some f) at b first is =
    let path = reverse t.back.items in
    let w : Where = record { number = n; path = path; rule = t.trial.rule } in
    let whole : IsFirstIn rules p made n m from w t.trial.change t.trial.definition =
    record {
      new = first.new;
      changes = first.changes;
      in_it = refl;
      step = in_step rules p made it n left path t.trial.rule first.new at first.it;
      added = first.added;
      sought = in_sought n m from left w b refl first.it.sought;
      first = λ v other in_it s sought h.
          first.first v.path v.rule other (step_in rules p made it n m from left v other at b in_it s sought) (before_there n path t.trial.rule v in_it h);
    } in
    let there : where_of f.at ≡ w = λ i. record { number = is.0 i; path = is.1 i; rule = is.2 i } in
    subst (λ z. IsFirstIn rules p made n m from z f.change f.definition) (sym there)
    (subst (λ e. IsFirstIn rules p made n m from w e f.definition) (sym is.3)
    (subst (IsFirstIn rules p made n m from w t.trial.change) (sym is.4) whole))

-- nothing is found in the made definitions before this number
abbrev pub HasNoneBelow : List Rule → Program → List Made → ℕ → ℕ → List ℕ → Type 0
HasNoneBelow rules p made n m from =
    (w : Where) (new : TermTree) → w.number < n → HasStepBy rules p made w new → IsSought m from w → ⊥

-- before that of the place there is nothing to be sought
pub none_below_start : (rules : List Rule) (p : Program) (made : List Made) (m : ℕ) (from : List ℕ) → HasNoneBelow rules p made m m from
none_below_start rules p made m from w new l s (inl h) = omega (arith, l, h)
none_below_start rules p made m from w new l s (inr h) = omega (arith, l, h.0)

pub none_below_next : (rules : List Rule) (p : Program) (made : List Made) (n m : ℕ) (from : List ℕ) → HasNoneBelow rules p made n m from → HasNoneIn rules p made n m from → HasNoneBelow rules p made (suc n) m from
none_below_next rules p made n m from none here w new l s sought = by (cases_lt w.number n)
  where
    by : (w.number < n) ⊎ (n ≤ w.number) → ⊥
    by (inl k) = none w new k s sought
    by (inr k) = let is : w.number ≡ n = omega (arith, l, k) in here w new is s sought

within : (made : List Made) (n : ℕ) (it : Made) → slice_get made n ≡ Some it → n < length made
within [] n it h = absurd cc
within (x ∷ made) zero it h = omega arith
within (x ∷ made) (suc n) it h = omega (arith, within made n it h)

pub none_at_all : (rules : List Rule) (p : Program) (made : List Made) (n m : ℕ) (from : List ℕ) → length made ≤ n → HasNoneBelow rules p made n m from → HasNoneFrom rules p made m from
none_at_all rules p made n m from l none w new s sought =
    none w new (omega (arith, l, within made w.number s.1.it s.1.is)) s sought

-- what is found in a made definition, where nothing is in those before it, is the first of all
pub found_from_place : (rules : List Rule) (p : Program) (made : List Made) (n m : ℕ) (from : List ℕ) (f : Found) → HasNoneBelow rules p made n m from → FindsIn rules p made n m from (Some f) → FindsFrom rules p made m from (Some f)
found_from_place rules p made n m from f none is =
    record { new = is.new; changes = is.changes; step = is.step; added = is.added; sought = is.sought; first = first }
  where
    first : (v : Where) (other : TermTree) → HasStepBy rules p made v other → IsSought m from v → IsBefore v (where_of f.at) → ⊥
    first v other s sought b = by (cases_lt v.number n) b
      where
        by : (v.number < n) ⊎ (n ≤ v.number) → IsBefore v (where_of f.at) → ⊥
        by (inl l) h = none v other l s sought
        by (inr l) (inl h) = let same : f.at.made.number ≡ n = is.in_it in omega (arith, l, h, same)
        by (inr l) (inr h) = is.first v other (h.0 ∙ is.in_it) s sought b

-- from the root of the first made definition on everything is sought
pub sought_anyway : (w : Where) → IsSought 0 [] w
sought_anyway w = by (cases_lt 0 w.number)
  where
    by : (0 < w.number) ⊎ (w.number ≤ 0) → IsSought 0 [] w
    by (inl l) = inl l
    by (inr l) = let is : 0 ≡ w.number = omega (arith, l) in inr (is, all_sought w.path)

pub next_of_all : (rules : List Rule) (p : Program) (made : List Made) (m : ℕ) (from : List ℕ) (answer : Option Found) → m ≡ 0 → from ≡ [] → FindsFrom rules p made m from answer → FindsNext rules p made answer
next_of_all rules p made m from answer start root h = of answer (subst (λ q. FindsFrom rules p made 0 q answer) root (subst (λ k. FindsFrom rules p made k from answer) start h))
  where
    of : (a : Option Found) → FindsFrom rules p made 0 [] a → FindsNext rules p made a
    of None none = λ w new s. none w new s (sought_anyway w)
    of (Some f) is = record { new = is.new; changes = is.changes; is_first = record { step = is.step; first = λ v other s b. is.first v other s (sought_anyway v) b }; added = is.added }

-- below the leading lambdas of a typed made definition there is a typed term
pub made_leads : PlaceOfSceneIsTyped → (scene : Scene) (m : ℕ) (it : Made) → IsTypedScene scene → slice_get scene.made.now m ≡ Some it → LeadsToTyped (setting_in scene) (mode_of it.sort) [] it.body it.ty
made_leads law scene m it h is =
    let of = (h.made m it is).body_leads in
    let at = spot (mode_of it.sort) true of.vars in
    let place : IsPlaceOf (origins_of scene) (made_of it) it.body of.path at of.body =
    record { root = of.path; vars = of.vars; term = of.body; under = of.under; rest = []; active = at_it; is = sym (nothing_behind of.path) } in
    let typed = law scene m it of.path at of.body h is place in
    (of.path, of.vars, of.body, of.under, (typed.0, typed.1))

-- where something is found in a made definition, and where nothing is
pub found_if_some : (rules : List Rule) (p : Program) (made : List Made) (n m : ℕ) (from : List ℕ) (answer : Option Found) → is_some answer ≡ true → HasNoneBelow rules p made n m from → FindsIn rules p made n m from answer → FindsFrom rules p made m from answer
found_if_some rules p made n m from None some none is = absurd (false≢true some)
found_if_some rules p made n m from (Some f) some none is = found_from_place rules p made n m from f none is

pub none_if_none : (rules : List Rule) (p : Program) (made : List Made) (n m : ℕ) (from : List ℕ) (answer : Option Found) → is_some answer ≡ false → HasNoneBelow rules p made n m from → FindsIn rules p made n m from answer → HasNoneBelow rules p made (suc n) m from
none_if_none rules p made n m from None empty none is = none_below_next rules p made n m from none is
none_if_none rules p made n m from (Some f) empty none is = absurd (false≢true (sym empty))
