-- A step after any step of a typed state is sought from the place of that one on.
use Rattle.std.proofs.Common.{◌≡◌, ◌≢◌, ◌∙◌, ◌<◌, ◌≤◌, ◌⊎◌, ℕ, refl, sym, ap, subst, arith, inl, inr, lt_of_lt_of_le}
use Rattle.std.proofs.Common.{List, [], ◌∷◌, ◌++◌, length, length-set, map, set, Some}
use Rattle.std.proofs.lemmas.Bool.{cases_eq, cases_lt}
use Rattle.std.proofs.lemmas.Option.{same_Some, slice_get_within}
use Rattle.std.specs.List.{slice_get}
use Rattle.chw_terms.specs.TermTree.{TermTree}
use Rattle.chw_terms.specs.declared.program.Program.{Program}
use Rattle.chw_terms.specs.declared.rule.Rule.{Rule}
use Rattle.chw_terms.specs.declared.scene.Made.{Made}
use Rattle.chw_typing.specs.Paths.{with_part}
use Rattle.rewriting.specs.Origins.{made_of}
use Rattle.rewriting.specs.Active.{IsPlaceOf}
use Rattle.rewriting.specs.Spots.{Spot}
use Rattle.rewriting.specs.Instances.{HasInstance}
use Rattle.rewriting.specs.Runs.{After, Step, StepsTo, known, no_call, one_more, opened}
use Rattle.rewriting.specs.Steps.{HasStepBy, IsBefore, Where, origins_in}
use Rattle.rule_types.specs.States.{IsTypedState}
use Rattle.step_order.proofs.Others.{get_other, get_written}
use Rattle.step_order.proofs.States.{places_stay, steps_stay}
use Rattle.step_order.specs.Sought.{IsSought, IsSoughtPath}
use Rattle.made_states.proofs.Fewer.{step_fewer}
use Rattle.made_states.proofs.Made.{IsThere, body_named, found_first, made_alike, origins_alike, same_made}
use Rattle.made_states.proofs.Places.{place_seen}
use Rattle.made_states.specs.Laws.{CanStep}

-- a made definition with another term in its body
abbrev changed : Made → List ℕ → TermTree → Made
changed it path new = record it { body = with_part it.body path new }

-- none is added, or one
none_or_one : {p : Program} {made with_new : List Made} {at : Spot} {e : TermTree} {r : Rule} → After p made at e r with_new → (with_new ≡ made) ⊎ ((y : Made) × (with_new ≡ made ++ y ∷ []))
none_or_one (no_call n) = inl refl
none_or_one (known m b h) = inl refl
none_or_one {p} (one_more {it = it} b h) = inr (opened p it, refl)

-- a step of the state with one more, where a step was made
module _ (rules : List Rule) (p : Program) (made : List Made) (y : Made) (w v : Where) (old new newer : TermTree) (typed : IsTypedState p made) (step : HasStepBy rules p made w old)
    (next : HasStepBy rules p (set (made ++ y ∷ []) w.number (changed step.1.it w.path new)) v newer) where
  there : slice_get (made ++ y ∷ []) w.number ≡ Some step.1.it
  there = found_first made (y ∷ []) w.number step.1.it step.1.is

  same : origins_in p (set (made ++ y ∷ []) w.number (changed step.1.it w.path new)) ≡ origins_in p (made ++ y ∷ [])
  same = ap (λ ms. record { program = p; made = ms }) (same_made (made ++ y ∷ []) w.number step.1.it (changed step.1.it w.path new) there refl)

  place : IsPlaceOf (origins_in p (made ++ y ∷ [])) (made_of next.1.it) next.1.it.body v.path next.1.at next.1.term
  place = subst (λ o. IsPlaceOf o (made_of next.1.it) next.1.it.body v.path next.1.at next.1.term) same next.1.place

  -- it could be made where its place is one of an older body
  in_old : (it : Made) → slice_get made v.number ≡ Some it → IsPlaceOf (origins_in p (made ++ y ∷ [])) (made_of it) it.body v.path next.1.at next.1.term → CanStep rules p made v
  in_old it is at_it =
      let instance = subst (λ o. HasInstance o next.1.at v.rule next.1.term newer) same next.1.made_new in
      let before = step_fewer p made y it v next.1.at next.1.term newer typed is at_it instance in
      (before.0, (next.0, before.1))

  in_changed : v.number ≡ w.number → IsSought w.number w.path v ⊎ CanStep rules p made v
  in_changed is = by stay
    where
      one : next.1.it ≡ changed step.1.it w.path new
      one =
          same_Some next.1.it (changed step.1.it w.path new)
          (sym next.1.is
          ∙ ap (slice_get (set (made ++ y ∷ []) w.number (changed step.1.it w.path new))) is
          ∙ get_written (made ++ y ∷ []) w.number step.1.it (changed step.1.it w.path new) there)

      first : IsPlaceOf (origins_in p (made ++ y ∷ [])) (made_of step.1.it) step.1.it.body w.path step.1.at step.1.term
      first =
          place_seen p (map made_of made) (map made_of (made ++ y ∷ [])) (IsThere made) (origins_alike made (y ∷ []))
          (made_of step.1.it) step.1.it.body step.1.term w.path step.1.at (body_named p made typed w.number step.1.it step.1.is) step.1.place

      stay : IsSoughtPath v.path w.path ⊎ IsPlaceOf (origins_in p (made ++ y ∷ [])) (made_of step.1.it) step.1.it.body v.path next.1.at next.1.term
      stay =
          places_stay (origins_in p (made ++ y ∷ [])) (made_of step.1.it) step.1.it.body step.1.term next.1.term new w.path v.path step.1.at next.1.at first
          (subst (λ (m : Made). IsPlaceOf (origins_in p (made ++ y ∷ [])) (made_of m) m.body v.path next.1.at next.1.term) one place)

      by : IsSoughtPath v.path w.path ⊎ IsPlaceOf (origins_in p (made ++ y ∷ [])) (made_of step.1.it) step.1.it.body v.path next.1.at next.1.term → IsSought w.number w.path v ⊎ CanStep rules p made v
      by (inl sought) = inl (inr (sym is, sought))
      by (inr at_it) = inr (in_old step.1.it (ap (slice_get made) is ∙ step.1.is) at_it)

  in_other : v.number ≢ w.number → IsSought w.number w.path v ⊎ CanStep rules p made v
  in_other n = by (cases_lt v.number (length made))
    where
      is : slice_get (made ++ y ∷ []) v.number ≡ Some next.1.it
      is = sym (get_other (made ++ y ∷ []) w.number v.number (changed step.1.it w.path new) n) ∙ next.1.is

      by : (v.number < length made) ⊎ (length made ≤ v.number) → IsSought w.number w.path v ⊎ CanStep rules p made v
      by (inl l) = inr (in_old next.1.it (made_alike made (y ∷ []) v.number l ∙ is) place)
      by (inr l) = inl (inl (lt_of_lt_of_le (slice_get_within made w.number step.1.it step.1.is) l))

  with_one_more : IsSought w.number w.path v ⊎ CanStep rules p made v
  with_one_more = by (cases_eq v.number w.number)
    where
      by : (v.number ≡ w.number) ⊎ (v.number ≢ w.number) → IsSought w.number w.path v ⊎ CanStep rules p made v
      by (inl is) = in_changed is
      by (inr n) = in_other n

pub any_stays : (rules : List Rule) (p : Program) (made made' : List Made) (s : Step) (v : Where) → IsTypedState p made → StepsTo rules p made s made' → CanStep rules p made' v → IsSought s.place.number s.place.path v ⊎ CanStep rules p made v
any_stays rules p made made' s v typed steps next = by (none_or_one steps.after)
  where
    step : HasStepBy rules p made s.place s.new
    step = steps.is_first.step

    y : Made
    y = changed step.1.it s.place.path s.new

    as_before : IsSought s.place.number s.place.path v ⊎ HasStepBy rules p made v next.0 → IsSought s.place.number s.place.path v ⊎ CanStep rules p made v
    as_before (inl sought) = inl sought
    as_before (inr old) = inr (next.0, old)

    by : (steps.with_new ≡ made) ⊎ ((it : Made) × (steps.with_new ≡ made ++ it ∷ [])) → IsSought s.place.number s.place.path v ⊎ CanStep rules p made v
    by (inl none) =
        let many = ap length steps.is ∙ length-set steps.with_new s.place.number y ∙ ap length none in
        as_before (steps_stay rules p made made' s v next.0 steps many next.1)
    by (inr one) =
        with_one_more rules p made one.0 s.place v s.new s.new next.0 typed step
        (subst (λ ms. HasStepBy rules p ms v next.0) (steps.is ∙ ap (λ ms. set ms s.place.number y) one.1) next.1)

-- what isn't before a place is sought from there on
not_before : (w v : Where) → (IsBefore v w → ⊥) → IsSought w.number w.path v
not_before w v first = by (cases_lt v.number w.number) (cases_eq v.number w.number)
  where
    by : (v.number < w.number) ⊎ (w.number ≤ v.number) → (v.number ≡ w.number) ⊎ (v.number ≢ w.number) → IsSought w.number w.path v
    by (inl l) e = absurd (first (inl l))
    by (inr l) (inl is) = inr (sym is, inl (λ earlier. first (inr (is, inl earlier))))
    by (inr l) (inr n) = inl (omega (arith, l, n))

pub any_sought : (rules : List Rule) (p : Program) (made made' : List Made) (s : Step) (v : Where) → IsTypedState p made → StepsTo rules p made s made' → CanStep rules p made' v → IsSought s.place.number s.place.path v
any_sought rules p made made' s v typed steps next = by (any_stays rules p made made' s v typed steps next)
  where
    by : IsSought s.place.number s.place.path v ⊎ CanStep rules p made v → IsSought s.place.number s.place.path v
    by (inl sought) = sought
    by (inr old) = not_before s.place v (λ before. steps.is_first.first v old.0 old.1 before)
