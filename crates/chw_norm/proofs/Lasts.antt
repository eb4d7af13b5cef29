-- Further steps: where the last one stands in the trace, and how many are left.
use Rattle.std.proofs.Common.{◌≡◌, ◌∙◌, ◌+◌, ◌-◌, ◌≤◌, ◌<◌, ℕ, zero, suc, refl, sym, ap, subst, arith, List, []}
use Rattle.std.proofs.Common.{◌∷◌, ◌++◌, length, map, get_or}
use Rattle.std.proofs.lemmas.List.{append-nil, length-append, length-map}
use Rattle.chw_terms.specs.declared.program.Program.{Program}
use Rattle.chw_terms.specs.declared.scene.Made.{Made}
use Rattle.norm_lines.specs.declared.place.StepAt.{StepAt}
use Rattle.norm_lines.specs.Places.{where_of}
use Rattle.rewriting.specs.Runs.{Step}
use Rattle.chw_norm.specs.GoingOn.{EndsAt, HasRunOn, MoreSteps, RanSomewhere, WentOn}
use Rattle.chw_norm.specs.Running.{no_step}
use Rattle.chw_norm.specs.Underway.{IsBetweenSteps}
use Rattle.step_search.specs.declared.finder.Finder.{Finder}
use Rattle.chw_norm.specs.declared.progress.Progress.{Progress}

-- where none is added, the place stays
pub none_added : (m : ℕ) (from : List ℕ) (old added : List StepAt) (n : ℕ)
    → length (old ++ added) ≤ n → length old ≡ n → EndsAt m from (map where_of added) m from
none_added m from old [] n few is = (refl, refl)
none_added m from old (x ∷ added) n few is =
    absurd (omega (arith, few, is, length-append old (x ∷ added)))

-- the last one of those that are added
last_there : (m : ℕ) (from : List ℕ) (added : List StepAt) (n : ℕ) (x : StepAt)
    → suc n ≡ length added → x ≡ get_or added n x
    → EndsAt m from (map where_of added) x.made.number x.path.items
last_there m from [] n x all is = absurd (omega (arith, all))
last_there m from (y ∷ []) zero x all is =
    (ap (λ (s : StepAt). s.made.number) is, ap (λ (s : StepAt). s.path.items) is)
last_there m from (y ∷ []) (suc n) x all is = absurd (omega (arith, all))
last_there m from (y ∷ z ∷ added) zero x all is = absurd (omega (arith, all))
last_there m from (y ∷ z ∷ added) (suc n) x all is =
    last_there y.made.number y.path.items (z ∷ added) n x (omega (arith, all)) is

behind_old : (m : ℕ) (from : List ℕ) (old added : List StepAt) (n : ℕ) (x : StepAt)
    → suc n ≡ length (old ++ added) → length old < suc n → x ≡ get_or (old ++ added) n x
    → EndsAt m from (map where_of added) x.made.number x.path.items
behind_old m from [] added n x all some is = last_there m from added n x all is
behind_old m from (y ∷ old) added zero x all some is = absurd (omega (arith, some))
behind_old m from (y ∷ old) added (suc n) x all some is =
    behind_old m from old added n x (omega (arith, all)) (omega (arith, some)) is

pub last_of_added : (m : ℕ) (from : List ℕ) (trace old added : List StepAt) (n before : ℕ)
    (x : StepAt) → trace ≡ old ++ added → length old ≡ before → before < length trace
    → suc n ≡ length trace → x ≡ get_or trace n x
    → EndsAt m from (map where_of added) x.made.number x.path.items
last_of_added m from trace old added n before x is all some last there =
    behind_old m from old added n x (last ∙ ap length is)
    (omega (arith, all, some, last)) (there ∙ ap (λ ts. get_or ts n x) is)

-- no further steps
no_steps : (p : Program) (made : List Made) (trace : List StepAt) (left n : ℕ)
    → MoreSteps p made made trace trace left n n
no_steps p made trace left n = record {
  steps = [];
  lead = no_step;
  trace = record { added = []; traced = sym (append-nil trace); places = refl };
  few = omega arith;
  looks = omega arith;
}

pub no_further : (r : Progress) (f : Finder) (trace : List StepAt) (left n : ℕ)
    → IsBetweenSteps r → WentOn r r f f trace trace left left n n
unfolding no_steps
no_further r f trace left n between = record {
  ran = record {
    more = no_steps r.program.now r.made trace left n;
    program = refl;
    between = between;
  };
  stands = (refl, refl);
  rest = omega arith;
}

pub nowhere : (r : Progress) (trace : List StepAt) (left n : ℕ)
    → RanSomewhere r trace trace left n n
nowhere r trace left n =
    record { made = r.made; more = no_steps r.program.now r.made trace left n }

pub somewhere : (r r' : Progress) (old new : List StepAt) (left a b : ℕ)
    → HasRunOn r r' old new left a b → RanSomewhere r old new left a b
somewhere r r' old new left a b h = record { made = r'.made; more = h.more }

-- where the last one stands, and how many are left
abbrev pub StandsBehind : Finder → Finder → List StepAt → ℕ → Type 0
StandsBehind f f' trace before =
    (old added : List StepAt) → trace ≡ old ++ added → length old ≡ before
    → EndsAt f.made.number f.path.items (map where_of added) f'.made.number f'.path.items

pub went_on : (r r' : Progress) (f f' : Finder) (old new : List StepAt) (left left' a b before : ℕ)
    → HasRunOn r r' old new left a b → StandsBehind f f' new before → before ≡ length old
    → left' + (length new - before) ≡ left → WentOn r r' f f' old new left left' a b
went_on r r' f f' old new left left' a b before ran stands is rest =
    let trace = ran.more.trace in
    let all : length trace.added ≡ length ran.more.steps = sym (length-map trace.added where_of)
    ∙ ap length trace.places ∙ length-map ran.more.steps (λ (s : Step). s.place) in
    let longer : length new ≡ length old + length trace.added = ap length trace.traced
    ∙ length-append old trace.added in
    record {
      ran = ran;
      stands =
          subst (λ ws. EndsAt f.made.number f.path.items ws f'.made.number f'.path.items)
          trace.places (stands old trace.added trace.traced (sym is));
      rest = omega (arith, rest, is, longer, all, ran.more.few);
    }

-- no more are traced than may be made
pub few_traced : (r r' : Progress) (old new : List StepAt) (left a b : ℕ)
    → HasRunOn r r' old new left a b → (length old ≤ length new) × (length new ≤ length old + left)
few_traced r r' old new left a b ran =
    let trace = ran.more.trace in
    let all : length trace.added ≡ length ran.more.steps = sym (length-map trace.added where_of)
    ∙ ap length trace.places ∙ length-map ran.more.steps (λ (s : Step). s.place) in
    let longer : length new ≡ length old + length trace.added = ap length trace.traced
    ∙ length-append old trace.added in
    (omega (arith, longer), omega (arith, longer, all, ran.more.few))
