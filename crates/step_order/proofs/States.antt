-- The steps of a state after a step.
use Rattle.std.proofs.Common.{◌≡◌, ◌≢◌, ◌⊎◌, inl, inr, ◌∙◌, ◌<◌, ◌≤◌, ℕ, zero, suc, refl}
use Rattle.std.proofs.Common.{sym, ap, subst, arith, List, [], ◌∷◌, length, map, set, Some}
use Rattle.std.proofs.lemmas.Bool.{cases_eq, cases_lt}
use Rattle.std.proofs.lemmas.List.{length-append, length-set}
use Rattle.std.proofs.lemmas.Option.{same_Some}
use Rattle.std.specs.List.{slice_get}
use Rattle.chw_terms.specs.TermTree.{TermTree}
use Rattle.chw_terms.specs.declared.program.Program.{Program}
use Rattle.chw_terms.specs.declared.rule.Rule.{Rule}
use Rattle.chw_terms.specs.declared.rule.Rule.TheVariants.{Spec}
use Rattle.chw_terms.specs.declared.scene.Made.{Made}
use Rattle.chw_typing.specs.Paths.{with_part}
use Rattle.rewriting.specs.Origins.{MadeOf, Origins, made_of}
use Rattle.rewriting.specs.Active.{IsPlaceOf}
use Rattle.rewriting.specs.Spots.{Spot}
use Rattle.rewriting.specs.Instances.{HasInstance}
use Rattle.rewriting.specs.Runs.{After, Step, StepsTo, known, no_call, one_more, opened}
use Rattle.rewriting.specs.Steps.{HasStepBy, IsBefore, Where, origins_in}
use Rattle.step_order.specs.Sought.{IsSought, IsSoughtPath}
use Rattle.step_order.proofs.Behind.{place_behind}
use Rattle.step_order.proofs.Left.{IsLeft, sought_or_left}
use Rattle.step_order.proofs.Others.{get_other, get_written}

pub places_stay
    : (o : Origins) (it : MadeOf) (body x y new : TermTree) (path q : List ℕ) (at at' : Spot)
    → IsPlaceOf o it body path at x
    → IsPlaceOf o it (with_part body path new) q at' y
    → IsSoughtPath q path ⊎ IsPlaceOf o it body q at' y
places_stay o it body x y new path q at at' l r = by (sought_or_left q path)
  where
    by : IsSoughtPath q path ⊎ IsLeft q path → IsSoughtPath q path ⊎ IsPlaceOf o it body q at' y
    by (inl s) = inl s
    by (inr left) = inr (place_behind o it body x y new path q at at' l r left)

-- where none is added the made definitions are the old ones
as_many : {p : Program} {made with_new : List Made} {at : Spot} {e : TermTree} {r : Rule}
    → After p made at e r with_new → length with_new ≡ length made → with_new ≡ made
as_many (no_call n) many = refl
as_many (known m b h) many = refl
as_many {p} {made} (one_more {it = it} b h) many =
    absurd (omega (arith, length-append made (opened p it ∷ []), many))

none_added : {p : Program} {made with_new : List Made} {at : Spot} {e : TermTree} {r : Rule}
    → After p made at e r with_new → (r ≡ Spec → ⊥) → with_new ≡ made
none_added (no_call n) other = refl
none_added (known m b h) other = absurd (other refl)
none_added (one_more b h) other = absurd (other refl)

-- a made definition with another term in its body
abbrev changed : Made → List ℕ → TermTree → Made
changed it path new = record it { body = with_part it.body path new }

pub adds_none : (rules : List Rule) (p : Program) (made made' : List Made) (s : Step)
    → StepsTo rules p made s made' → (s.place.rule ≡ Spec → ⊥) → length made' ≡ length made
adds_none rules p made made' s steps other =
    let y = changed steps.is_first.step.1.it s.place.path s.new in
    ap length steps.is
    ∙ length-set steps.with_new s.place.number y
    ∙ ap length (none_added steps.after other)

after_step : (rules : List Rule) (p : Program) (made made' : List Made) (s : Step)
    → (steps : StepsTo rules p made s made') → length made' ≡ length made
    → made' ≡ set made s.place.number (changed steps.is_first.step.1.it s.place.path s.new)
after_step rules p made made' s steps many =
    let y = changed steps.is_first.step.1.it s.place.path s.new in
    let size : length steps.with_new ≡ length made =
    sym (ap length steps.is ∙ length-set steps.with_new s.place.number y) ∙ many
    in
    steps.is ∙ ap (λ ms. set ms s.place.number y) (as_many steps.after size)

-- another body changes nothing that rules see
same_made : (xs : List Made) (n : ℕ) (it y : Made)
    → slice_get xs n ≡ Some it → made_of y ≡ made_of it
    → map made_of (set xs n y) ≡ map made_of xs
same_made [] n it y e is = absurd cc
same_made (x ∷ xs) zero it y e is =
    let same : it ≡ x = cc in ap (λ m. m ∷ map made_of xs) (is ∙ ap made_of same)
same_made (x ∷ xs) (suc n) it y e is = ap (λ ms. made_of x ∷ ms) (same_made xs n it y e is)

-- a step of the state with another term where a step can be made
module _ (rules : List Rule) (p : Program) (made : List Made) (w v : Where) (old new : TermTree)
    (newer : TermTree) (step : HasStepBy rules p made w old)
    (next : HasStepBy rules p (set made w.number (changed step.1.it w.path new)) v newer) where
  same_origins : origins_in p (set made w.number (changed step.1.it w.path new)) ≡ origins_in p made
  same_origins =
      ap (λ ms. record { program = p; made = ms })
      (same_made made w.number step.1.it (changed step.1.it w.path new) step.1.is refl)

  -- in the old state where it has its place there
  in_old : (it : Made)
      → slice_get made v.number ≡ Some it
      → IsPlaceOf (origins_in p made) (made_of it) it.body v.path next.1.at next.1.term
      → HasStepBy rules p made v newer
  in_old it is place = (
    next.0,
    record {
      it = it;
      is = is;
      at = next.1.at;
      term = next.1.term;
      place = place;
      made_new =
          subst (λ o. HasInstance o next.1.at v.rule next.1.term newer)
          same_origins next.1.made_new;
    },
  )

  place : IsPlaceOf (origins_in p made) (made_of next.1.it) next.1.it.body v.path next.1.at
      next.1.term
  place =
      subst
      (λ o. IsPlaceOf o (made_of next.1.it) next.1.it.body v.path next.1.at next.1.term)
      same_origins next.1.place

  -- in the made definition that changed
  in_changed : v.number ≡ w.number → IsSought w.number w.path v ⊎ HasStepBy rules p made v newer
  in_changed is = by stay
    where
      one : next.1.it ≡ changed step.1.it w.path new
      one =
          same_Some next.1.it (changed step.1.it w.path new)
          (sym next.1.is
          ∙ ap (slice_get (set made w.number (changed step.1.it w.path new))) is
          ∙ get_written made w.number step.1.it (changed step.1.it w.path new) step.1.is)

      stay : IsSoughtPath v.path w.path
          ⊎ IsPlaceOf (origins_in p made) (made_of step.1.it) step.1.it.body v.path next.1.at
          next.1.term
      stay =
          places_stay (origins_in p made) (made_of step.1.it) step.1.it.body step.1.term
          next.1.term new w.path v.path step.1.at next.1.at step.1.place
          (subst
          (λ (m : Made). IsPlaceOf (origins_in p made) (made_of m) m.body v.path next.1.at
          next.1.term)
          one place)

      by : IsSoughtPath v.path w.path
          ⊎ IsPlaceOf (origins_in p made) (made_of step.1.it) step.1.it.body v.path next.1.at
          next.1.term
          → IsSought w.number w.path v ⊎ HasStepBy rules p made v newer
      by (inl sought) = inl (inr (sym is, sought))
      by (inr there) = inr (in_old step.1.it (ap (slice_get made) is ∙ step.1.is) there)

  one_step : IsSought w.number w.path v ⊎ HasStepBy rules p made v newer
  one_step = by (cases_eq v.number w.number)
    where
      by : (v.number ≡ w.number) ⊎ (v.number ≢ w.number)
          → IsSought w.number w.path v ⊎ HasStepBy rules p made v newer
      by (inl is) = in_changed is
      by (inr n) =
          let other = get_other made w.number v.number (changed step.1.it w.path new) n in
          inr (in_old next.1.it (sym other ∙ next.1.is) place)

pub steps_stay : (rules : List Rule) (p : Program) (made made' : List Made) (s : Step)
    (v : Where) (new : TermTree)
    → StepsTo rules p made s made' → length made' ≡ length made
    → HasStepBy rules p made' v new
    → IsSought s.place.number s.place.path v ⊎ HasStepBy rules p made v new
steps_stay rules p made made' s v new steps many next =
    one_step rules p made s.place v s.new s.new new steps.is_first.step
    (subst (λ ms. HasStepBy rules p ms v new) (after_step rules p made made' s steps many) next)

-- what isn't before a place is sought from there on
not_before : (w v : Where) → (IsBefore v w → ⊥) → IsSought w.number w.path v
not_before w v first = by (cases_lt v.number w.number) (cases_eq v.number w.number)
  where
    by : (v.number < w.number) ⊎ (w.number ≤ v.number)
        → (v.number ≡ w.number) ⊎ (v.number ≢ w.number)
        → IsSought w.number w.path v
    by (inl l) e = absurd (first (inl l))
    by (inr l) (inl is) = inr (sym is, inl (λ earlier. first (inr (is, inl earlier))))
    by (inr l) (inr n) = inl (omega (arith, l, n))

pub steps_sought : (rules : List Rule) (p : Program) (made made' : List Made) (s : Step)
    (v : Where) (new : TermTree)
    → StepsTo rules p made s made' → length made' ≡ length made
    → HasStepBy rules p made' v new
    → IsSought s.place.number s.place.path v
steps_sought rules p made made' s v new steps many next =
    by (steps_stay rules p made made' s v new steps many next)
  where
    by : IsSought s.place.number s.place.path v ⊎ HasStepBy rules p made v new
        → IsSought s.place.number s.place.path v
    by (inl sought) = sought
    by (inr old) = not_before s.place v (λ before. steps.is_first.first v new old before)
