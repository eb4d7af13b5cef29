-- What a run holds after further steps in the term below the leading lambdas of a made definition.
use Rattle.std.proofs.Common.{◌≡◌, inr, ◌∙◌, ◌+◌, ◌≤◌, ℕ, refl, sym, ap, subst, List, [], length, set}
use Rattle.std.proofs.Common.{get_or, reverse, Some, true}
use Rattle.std.specs.List.{slice_get}
use Rattle.std.specs.Prelude.{Err, Ok, OnOk, Result}
use Rattle.std.proofs.lemmas.Option.{get_or_from_slice_get, slice_get_within}
use Rattle.chw_base.specs.declared.limits.TheConstants.{MADE_DEFINITIONS, MADE_DEPTH}
use Rattle.chw_terms.specs.declared.program.Program.{Program}
use Rattle.chw_terms.specs.declared.scene.Made.{Made}
use Rattle.chw_terms.specs.declared.scene.Place.{Place}
use Rattle.chw_terms.specs.declared.scene.Scene.{Scene}
use Rattle.chw_terms.specs.declared.scene.Sort.{Sort}
use Rattle.chw_terms.specs.declared.scene.Sort.TheVariants.{Value, Circuit}
use Rattle.chw_terms.specs.TermTree.{TermTree}
use Rattle.chw_typing.specs.Paths.{with_part}
use Rattle.chw_typing.specs.Scopes.{setting_in}
use Rattle.letrec_runs.specs.Sides.{AreMade}
use Rattle.letrec_steps.specs.Local.{IsTypedHere}
use Rattle.letrec_steps.specs.StateLaws.{SoughtHasNoneBefore}
use Rattle.letrec_steps.specs.TopLaws.{TopIsTyped}
use Rattle.letrec_steps.specs.Tops.{IsTopIn, put_at, put_in}
use Rattle.made_states.specs.Laws.{AnyStepKeepsState}
use Rattle.norm_lines.specs.declared.place.StepAt.{StepAt}
use Rattle.rewriting.specs.Named.{mode_of}
use Rattle.rewriting.specs.Origins.{made_of, origins_of, setting_at}
use Rattle.rewriting.specs.SceneLaws.{SettingOfScene}
use Rattle.rewriting.specs.Spots.{HasLets, Spot, spot, spot_of}
use Rattle.rewriting.specs.Steps.{origins_in}
use Rattle.trials.specs.Trials.{built, HasSomeType}
use Rattle.rule_types.specs.Laws.{AreTypedOrigins}
use Rattle.rule_types.specs.States.{IsTypedState, StatesHaveTypedOrigins}
use Rattle.term_types.specs.Answers.{IsReady}
use Rattle.term_frames.specs.Signatures.{IsSignature}
use Rattle.chw_norm.specs.Bounds.{AreBounds, IsBound}
use Rattle.step_search.specs.FoundSteps.{LeadsToTyped}
use Rattle.step_search.specs.Finding.{Suits}
use Rattle.chw_norm.specs.GoingOn.{HasRunOn, IsAtTop, IsTopOf, MoreSteps}
use Rattle.chw_norm.specs.Running.{AreShallow, IsWithinLimits}
use Rattle.chw_norm.specs.Underway.{IsBetweenSteps}
use Rattle.step_search.specs.declared.finder.Finder.{Finder}
use Rattle.chw_norm.specs.declared.progress.Progress.{Progress}
use Rattle.chw_norm.proofs.Apart.{ApartLaws, more_in_top, within_further}
use Rattle.chw_norm.proofs.Changed.{bounds_kept, set_there}
use Rattle.chw_norm.proofs.Further.{typed_further}

-- what is promised of the types there
pub record TopTypes : Type 0 where
  pub top : TopIsTyped
  pub states : StatesHaveTypedOrigins

pub typed_there : TopTypes → (p : Program) (made : List Made) (m : ℕ) (it : Made) (q : List ℕ)
    (at : Spot) (x : TermTree) → IsTypedState p made → IsTopIn made m it q at x
    → IsTypedHere (origins_in p made) at x
typed_there laws p made m it q at x typed is =
    laws.top (origins_in p made) (made_of it) it.body x q at (laws.states p made typed).sound
    (typed.each m it is.is).body_typed is.top

-- the setting of the scene in which the term is out of the body
pub scene_setting : SettingOfScene → (scene : Scene) (p : Program) (made : List Made)
    → scene.program.now ≡ p → origins_in p scene.made.now ≡ origins_in p made
    → setting_at (origins_in p made) ≡ setting_in scene
scene_setting law scene p made program origins =
    sym (ap setting_at (ap (λ w. origins_in w scene.made.now) program ∙ origins)) ∙ law scene

pub ready_there : (scene : Scene) (p : Program) (made : List Made) (at : Place) (x : TermTree)
    → setting_at (origins_in p made) ≡ setting_in scene
    → IsTypedHere (origins_in p made) (spot_of at) x
    → IsReady (setting_in scene) [] (reverse at.vars)
ready_there scene p made at x is typed =
    subst (λ s. IsReady s [] (reverse at.vars)) is (typed.sound, typed.vars)

pub some_type_there : (scene : Scene) (p : Program) (made : List Made) (at : Place)
    (x part : TermTree) → setting_at (origins_in p made) ≡ setting_in scene → part ≡ x
    → IsTypedHere (origins_in p made) (spot_of at) x
    → HasSomeType (setting_in scene) (reverse at.vars) part
some_type_there scene p made at x part is same typed =
    subst (λ s. HasSomeType s (reverse at.vars) part) is
    (subst (HasSomeType (setting_at (origins_in p made)) (reverse at.vars)) (sym same)
    (typed.type, typed.has))

-- values and circuits are built by letrecs
lets_of_sort : (s : Sort) → HasLets (mode_of s)
lets_of_sort Value = tt
lets_of_sort Circuit = tt

pub lets_there : (made : List Made) (m : ℕ) (it : Made) (q : List ℕ) (at : Place) (x : TermTree)
    → IsTopIn made m it q (spot_of at) x → HasLets at.mode
lets_there made m it q at x is =
    subst HasLets (sym (ap (λ (a : Spot). a.mode) is.top.stands)) (lets_of_sort it.sort)

-- below the leading lambdas of the body at which the search stands
pub leads_there : TopTypes → (p : Program) (made : List Made) (m : ℕ) (it : Made)
    → IsTypedState p made → slice_get made m ≡ Some it
    → LeadsToTyped (setting_at (origins_in p made)) (mode_of it.sort) [] it.body it.ty
leads_there laws p made m it typed is =
    let of = (typed.each m it is).body_leads in
    let at = spot (mode_of it.sort) true of.vars in
    let top : IsTopIn made m it of.path at of.body =
    record { is = is; top = record { under = of.under; stands = refl } } in
    let here = typed_there laws p made m it of.path at of.body typed top in
    (of.path, of.vars, of.body, of.under, (here.vars, (here.type, here.has)))

pub at_top : TopTypes → SoughtHasNoneBefore → (r : Progress) (f : Finder) (it : Made) (at : Place)
    (path : List ℕ) → IsBetweenSteps r → Suits r.program.now r.made f
    → slice_get r.made f.made.number ≡ Some it → IsTopOf it at path
    → IsAtTop r f.made.number path at
at_top laws none r f it at path between suits is there =
    let of = (between.typed.each f.made.number it is).body_leads in
    let top = there of.path of.vars of.body of.under in
    let here : IsTopIn r.made f.made.number it of.path (spot (mode_of it.sort) true of.vars) of.body =
    record { is = is; top = record { under = of.under; stands = refl } } in
    record {
      it = it;
      term = of.body;
      top =
          subst (λ a. IsTopIn r.made f.made.number it path a of.body) (sym top.1)
          (subst (λ q. IsTopIn r.made f.made.number it q (spot (mode_of it.sort) true of.vars) of.body)
          (sym top.0) here);
      none_before = none built r.program.now r.made f.made.number f.path.items suits;
    }

-- the state, with its bounds
pub has_run_on : ApartLaws → AnyStepKeepsState → (r r' : Progress) (m : ℕ) (q : List ℕ) (at : Place)
    (y : TermTree) (most left a b bound : ℕ) (old new : List StepAt) → (h : IsAtTop r m q at)
    → IsBetweenSteps r → IsWithinLimits r.made → length q + most ≤ MADE_DEPTH
    → AreMade (origins_in r.program.now r.made) (spot_of at) m q h.term y left most old new a b
    → r'.made ≡ put_in r.made m h.it q y → IsBound bound (with_part h.it.body q y)
    → r'.bounds.items ≡ set r.bounds.items m bound
    → r'.program.now ≡ r.program.now → r'.signature ≡ r.signature
    → HasRunOn r r' old new left a b
has_run_on laws keep r r' m q at y most left a b bound old new h between within fits made is bounded bounds program signature =
    let p = r.program.now in
    let more : MoreSteps p r.made (put_in r.made m h.it q y) old new left a b =
    more_in_top laws p r.made m h.it q (spot_of at) h.term y most left a b old new h.top
    h.none_before within fits made in
    let ends = within_further within more.lead in
    record {
      more = subst (λ ms. MoreSteps p r.made ms old new left a b) (sym is) more;
      program = program;
      between = record {
        table =
            subst (λ w. IsSignature w r'.signature) (sym program)
            (subst (IsSignature p) (sym signature) between.table);
        typed =
            subst (λ w. IsTypedState w r'.made) (sym program)
            (subst (IsTypedState p) (sym is) (typed_further keep between.typed more.lead));
        bounds =
            subst (λ ms. AreBounds ms r'.bounds.items) (sym is)
            (subst (AreBounds (put_in r.made m h.it q y)) (sym bounds)
            (bounds_kept r.made r.bounds.items m bound (put_at h.it q y) between.bounds bounded));
        few = subst (λ ms. length ms ≤ MADE_DEFINITIONS) (sym is) ends.few;
        shallow = inr (subst AreShallow (sym is) ends.shallow);
      };
    }

-- the body of which the bound was taken
pub bound_there : (made made' listed : List Made) (m : ℕ) (it d : Made) (q : List ℕ) (y : TermTree)
    (bound : ℕ) → slice_get made m ≡ Some it → made' ≡ put_in made m it q y → listed ≡ made'
    → IsBound bound (get_or listed m d).body → IsBound bound (with_part it.body q y)
bound_there made made' listed m it d q y bound at is list h =
    let seen = ap (λ ms. slice_get ms m) (list ∙ is)
    ∙ set_there made m (put_at it q y) (slice_get_within made m it at) in
    subst (λ (x : Made). IsBound bound x.body)
    (get_or_from_slice_get listed m (put_at it q y) d seen) h

-- what comes of steps in the term while it is out of the body
pub if_ok : {A E : Type 0} (r : Result A E) (P : Type 0) (x : A) → r ≡ Ok x → OnOk r P → P
if_ok (Ok y) P x is h = h
if_ok (Err e) P x is h = absurd cc

pub made_in : (scene : Scene) (p : Program) (made : List Made) (at : Spot) (m : ℕ)
    (q : List ℕ) (path : List ℕ) (part term y : TermTree) (left most a b : ℕ) (old new : List StepAt)
    → scene.program.now ≡ p → origins_in p scene.made.now ≡ origins_in p made → part ≡ term
    → path ≡ q → AreMade (origins_of scene) at m path part y left most old new a b
    → AreMade (origins_in p made) at m q term y left most old new a b
made_in scene p made at m q path part term y left most a b old new program origins same is h =
    subst (λ o. AreMade o at m q term y left most old new a b)
    (ap (λ w. origins_in w scene.made.now) program ∙ origins)
    (subst (λ e. AreMade (origins_of scene) at m q e y left most old new a b) same
    (subst (λ z. AreMade (origins_of scene) at m z part y left most old new a b) is h))

-- what a scene needs for that
pub origins_there : TopTypes → (scene : Scene) (p : Program) (made : List Made)
    → scene.program.now ≡ p → origins_in p scene.made.now ≡ origins_in p made
    → IsTypedState p made → AreTypedOrigins (origins_of scene)
origins_there laws scene p made program origins typed =
    subst AreTypedOrigins (sym (ap (λ w. origins_in w scene.made.now) program ∙ origins))
    (laws.states p made typed)
