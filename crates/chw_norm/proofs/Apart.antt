-- Steps in the term below the leading lambdas of a made definition, as steps of states.
use Rattle.std.proofs.Common.{◌≡◌, inr, ◌∙◌, ◌+◌, ◌≤◌, ℕ, refl, sym, ap, subst, arith}
use Rattle.std.proofs.Common.{List, [], ◌∷◌, length, map, set, set-set, Some, None, true, false}
use Rattle.std.specs.Prelude.{Bool}
use Rattle.std.specs.List.{slice_get}
use Rattle.std.proofs.lemmas.List.{append-nil, length-map}
use Rattle.std.proofs.lemmas.Option.{none-some, same_Some, slice_get_within}
use Rattle.chw_base.specs.declared.limits.TheConstants.{MADE_DEPTH}
use Rattle.chw_terms.specs.declared.program.Program.{Program}
use Rattle.chw_terms.specs.declared.scene.Made.{Made}
use Rattle.chw_terms.specs.Depth.{depth}
use Rattle.chw_terms.specs.TermTree.{TermTree}
use Rattle.chw_typing.specs.Paths.{with_part}
use Rattle.chw_typing.specs.PartSpines.{spine_at}
use Rattle.letrec_runs.specs.Sides.{AreMade, AreNoDeeper, places_in}
use Rattle.letrec_steps.specs.Many.{in_top, LocalStep, StepsBelow, none_made, made_then}
use Rattle.letrec_steps.specs.StateLaws.{PutKeepsOrigins, StepInTopLeads, TopPutBack}
use Rattle.letrec_steps.specs.Tops.{HasNoStepBefore, IsTopIn, put_at, put_in}
use Rattle.made_table.specs.Held.{IsPartSwapped}
use Rattle.moved_in_place.specs.Laws.{SwappedBack}
use Rattle.moved_in_place.specs.Swapped.{IsSwapped}
use Rattle.norm_lines.specs.declared.place.StepAt.{StepAt}
use Rattle.rewriting.specs.Active.{at_it, IsActive}
use Rattle.rewriting.specs.Origins.{made_of}
use Rattle.rewriting.specs.Runs.{Step}
use Rattle.rewriting.specs.Spots.{Spot}
use Rattle.rewriting.specs.Steps.{origins_in, Where}
use Rattle.trials.specs.Trials.{built}
use Rattle.chw_norm.specs.GoingOn.{MoreSteps, places_of}
use Rattle.chw_norm.specs.Running.{IsWithinLimits, ShallowSteps, no_step, step_and}
use Rattle.chw_norm.proofs.Changed.{all_shallow, length_kept, set_there}
use Rattle.chw_norm.proofs.Deeper.{depth_changed}
use Rattle.chw_norm.proofs.Places.{SpineLaws, place_is_spine}
use Rattle.chw_norm.proofs.Topmost.{depth_under}

-- what is promised of a term that is taken out from below the leading lambdas, and put back
pub record ApartLaws : Type 0 where
  pub leads : StepInTopLeads
  pub same : TopPutBack
  pub origins : PutKeepsOrigins
  pub back : SwappedBack
  pub spines : SpineLaws

-- the limits
pub top_fits : (made : List Made) (m : ℕ) (it : Made) (q : List ℕ) (at : Spot) (x : TermTree)
    → IsTopIn made m it q at x → IsWithinLimits made → length q + depth x ≤ MADE_DEPTH
top_fits made m it q at x top within =
    omega (arith, depth_under top.top.under, within.shallow m it top.is)

put_is_within : (made : List Made) (m : ℕ) (it : Made) (q : List ℕ) (most : ℕ) (x : TermTree)
    → slice_get made m ≡ Some it → IsWithinLimits made → length q + most ≤ MADE_DEPTH
    → depth x ≤ most → IsWithinLimits (put_in made m it q x)
put_is_within made m it q most x is within fits deep = record {
  shallow = all_shallow made m None it (put_at it q x) is (inr within.shallow) (omega arith)
      (omega (arith, depth_changed q it.body x, within.shallow m it is, fits, deep));
  few = omega (arith, length_kept made m (put_at it q x), within.few);
}

pub within_further : {p : Program} {made made' : List Made} {steps : List Step}
    → IsWithinLimits made → ShallowSteps built p made steps made' → IsWithinLimits made'
within_further within no_step = within
within_further within (step_and leads here rest) = within_further here rest

-- the steps
module _ (laws : ApartLaws) (p : Program) (made : List Made) (m : ℕ) (it : Made) (q : List ℕ)
    (at : Spot) (top : TermTree) (most : ℕ) (is : IsTopIn made m it q at top)
    (none : HasNoStepBefore built p made m) (within : IsWithinLimits made)
    (fits : length q + most ≤ MADE_DEPTH) where
  steps_in_top : {x y : TermTree} {steps : List LocalStep}
      → StepsBelow built (origins_in p made) at x steps y → AreNoDeeper most x steps
      → ShallowSteps built p (put_in made m it q x) (map (in_top m q) steps) (put_in made m it q y)
  steps_in_top none_made shallow = no_step
  steps_in_top (made_then {x = x} {s = s} here other rest) shallow =
      step_and
      (laws.leads built p made m it q s.path at top x s.new s.rule is none here other)
      (put_is_within made m it q most (with_part x s.path s.new) is.is within fits shallow.0)
      (steps_in_top rest shallow.1)

-- where they are made
places_there : (m : ℕ) (q : List ℕ) (steps : List LocalStep)
    → places_in m q steps ≡ places_of (map (in_top m q) steps)
places_there m q [] = refl
places_there m q (s ∷ steps) = ap (λ (ws : List Where). (in_top m q s).place ∷ ws) (places_there m q steps)

pub more_in_top : ApartLaws → (p : Program) (made : List Made) (m : ℕ) (it : Made) (q : List ℕ)
    (at : Spot) (x y : TermTree) (most left a b : ℕ) (old new : List StepAt)
    → IsTopIn made m it q at x → HasNoStepBefore built p made m → IsWithinLimits made
    → length q + most ≤ MADE_DEPTH
    → AreMade (origins_in p made) at m q x y left most old new a b
    → MoreSteps p made (put_in made m it q y) old new left a b
more_in_top laws p made m it q at x y most left a b old new is none within fits h =
    let steps = map (in_top m q) h.steps in
    let all : length steps ≡ length h.steps = length-map h.steps (in_top m q) in
    record {
      steps = steps;
      lead =
          subst (λ ms. ShallowSteps built p ms steps (put_in made m it q y))
          (laws.same made m it q at x is)
          (steps_in_top laws p made m it q at x most is none within fits h.lead h.shallow);
      trace = record {
        added = h.added;
        traced = h.traced;
        places = h.places ∙ places_there m q h.steps;
      };
      few = omega (arith, all, h.few);
      looks = omega (arith, all, h.looks);
    }

-- while the term is out of the body, something else stands there
pub record IsOut (p : Program) (made mid : List Made) (m : ℕ) (it : Made) (q : List ℕ)
    (term part v : TermTree) (b : Bool) : Type 0 where
  pub done : b ≡ true
  pub part_is : part ≡ term
  pub mid_is : mid ≡ put_in made m it q v
  pub origins : origins_in p mid ≡ origins_in p made

top_is_spine : SpineLaws → (p : Program) (made : List Made) (m : ℕ) (it : Made) (q : List ℕ)
    (at : Spot) (x : TermTree) → IsTopIn made m it q at x → spine_at it.body q ≡ Some x
top_is_spine laws p made m it q at x is =
    place_is_spine laws (origins_in p made) (made_of it) it.body x q at (record {
      root = q;
      vars = at.vars;
      term = x;
      rest = [];
      under = is.top.under;
      active = subst (λ a. IsActive (origins_in p made) a x [] at x) is.top.stands at_it;
      is = sym (append-nil q);
    })

pub taken_out : ApartLaws → (p : Program) (made mid : List Made) (m : ℕ) (it : Made) (q : List ℕ)
    (at : Spot) (term part v : TermTree) (b : Bool) → IsTopIn made m it q at term
    → IsPartSwapped made m it q v mid part b → IsOut p made mid m it q term part v b
taken_out laws p made mid m it q at term part v false is out =
    absurd (none-some term (sym out.1.0.0 ∙ top_is_spine laws.spines p made m it q at term is))
taken_out laws p made mid m it q at term part v true is out =
    let mid_is : mid ≡ put_in made m it q v = out.2
    ∙ ap (λ e. set made m (record it { body = e })) out.1.0.1 in
    record {
      done = refl;
      part_is = same_Some part term (sym out.1.1 ∙ top_is_spine laws.spines p made m it q at term is);
      mid_is = mid_is;
      origins = ap (origins_in p) mid_is ∙ laws.origins p made m it q v is.is;
    }

-- what came of it is put back
pub put_back : ApartLaws → (p : Program) (made mid made' : List Made) (m : ℕ) (it : Made)
    (q : List ℕ) (at : Spot) (term part v y last : TermTree) (b c : Bool)
    → IsTopIn made m it q at term → IsPartSwapped made m it q v mid part b
    → ((x : Made) → slice_get mid m ≡ Some x → IsPartSwapped mid m x q y made' last c)
    → made' ≡ put_in made m it q y
put_back laws p made mid made' m it q at term part v y last b c is out back =
    let o = taken_out laws p made mid m it q at term part v b is out in
    let hollow : Made = record it { body = out.0 } in
    let there : slice_get mid m ≡ Some hollow =
    ap (λ ms. slice_get ms m) out.2 ∙ set_there made m hollow (slice_get_within made m it is.is) in
    let again = back hollow there in
    let swapped = subst (IsSwapped it.body q v out.0 part) o.done out.1 in
    let law = laws.back it.body v out.0 part y again.0 last q c swapped again.1 in
    let whole : Made = record it { body = again.0 } in
    again.2 ∙ ap (λ ms. set ms m whole) out.2 ∙ set-set made m hollow whole
    ∙ ap (λ e. set made m (record it { body = e })) law.1
