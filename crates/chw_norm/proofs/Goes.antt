-- A run that goes on by further steps.
use Rattle.std.proofs.Common.{◌≡◌, ◌∙◌, ◌+◌, ◌-◌, ◌*◌, ◌≤◌, ◌<◌, ℕ, sym, subst, arith, List, [], length}
use Rattle.std.proofs.Common.{◌++◌}
use Rattle.std.specs.Prelude.{Err}
use Rattle.std.proofs.lemmas.List.{length-append}
use Rattle.chw_base.specs.declared.outcome.Or.TheVariants.{Memory}
use Rattle.chw_terms.specs.declared.program.Program.{Program}
use Rattle.chw_terms.specs.declared.scene.Made.{Made}
use Rattle.norm_lines.specs.declared.place.StepAt.{StepAt}
use Rattle.rewriting.specs.Runs.{Step}
use Rattle.trials.specs.Trials.{built}
use Rattle.rule_types.specs.States.{IsTypedState}
use Rattle.step_search.specs.Finding.{StandsAt, Suits}
use Rattle.chw_norm.specs.GoingOn.{HasRunOn, places_of, RanSomewhere, WentOn}
use Rattle.chw_norm.specs.Running.{IsWithinLimits, Runs, ShallowSteps, no_memory}
use Rattle.step_search.specs.Seen.{LooksFrom}
use Rattle.chw_norm.specs.Searches.{RunLooks}
use Rattle.chw_norm.specs.Underway.{Advances, IsBetweenSteps, IsUnderway, step_of}
use Rattle.step_search.specs.declared.finder.Finder.{Finder}
use Rattle.step_search.specs.declared.place.Found.{Found}
use Rattle.chw_norm.specs.declared.progress.Progress.{Progress}
use Rattle.chw_norm.proofs.Further.{ends_somewhere, run_joined, searches_further, StateLaws}
use Rattle.chw_norm.proofs.Further.{suits_further, traces_joined}
use Rattle.chw_norm.proofs.Ends.{goes_on}
use Rattle.chw_norm.proofs.LookedRuns.{HasLooked, looked_on, looked_to_end}
use Rattle.step_search.proofs.Stands.{suits_next}

-- the searches by the steps so far may take as many looks as were taken
pub record HasRoom (p : Program) (old new : List StepAt) (made : List Made) (finder : Finder)
    (before now : ℕ) : Type 0 where
  pub sum : ℕ
  pub enough : now ≤ sum
  pub looked : HasLooked p old new made finder before sum

pub room_exact : {p : Program} {old new : List StepAt} {made : List Made} {finder : Finder}
    {before now : ℕ} → HasLooked p old new made finder before now
    → HasRoom p old new made finder before now
room_exact {now = now} h = record { sum = now; enough = omega arith; looked = h }

-- a search from there on, where more looks might have been taken before
pub looks_from_room : (p : Program) (made : List Made) (m : ℕ) (from : List ℕ) (now sum next : ℕ)
    → now ≤ sum → LooksFrom built p made m from now next → LooksFrom built p made m from sum next
looks_from_room p made m from now sum next l g = record {
  things = g.things;
  different = g.different;
  each = g.each;
  bound = omega (arith, l, g.bound);
}

-- further steps of a run that is underway
in_program : {p : Program} {made : List Made} {steps : List Step} → (r : Progress)
    → r.program.now ≡ p → ShallowSteps built r.program.now r.made steps made
    → ShallowSteps built p r.made steps made
in_program {made = made} {steps = steps} r is h =
    subst (λ q. ShallowSteps built q r.made steps made) is h

pub underway_further : (p : Program) (old trace new : List StepAt) (count : ℕ) (r r' : Progress)
    (left a b : ℕ) → IsUnderway p old trace count r → (h : HasRunOn r r' trace new left a b)
    → IsUnderway p old new (count + length h.more.steps) r'
underway_further p old trace new count r r' left a b u h = record {
  program = h.program ∙ u.program;
  steps = u.steps ++ h.more.steps;
  trace = traces_joined old trace new u.steps h.more.steps u.trace h.more.trace;
  all = omega (arith, length-append u.steps h.more.steps, u.all);
  run = run_joined u.run (in_program r u.program h.more.lead);
  between = h.between;
}

pub ends_wanting : (p : Program) (budget : ℕ) (old trace new : List StepAt) (count : ℕ)
    (r : Progress) (left a b : ℕ) → IsUnderway p old trace count r → count + left ≤ budget
    → RanSomewhere r trace new left a b → Runs built p budget old new (Err Memory)
ends_wanting p budget old trace new count r left a b u l h = record {
  steps = u.steps ++ h.more.steps;
  trace = traces_joined old trace new u.steps h.more.steps u.trace h.more.trace;
  within = omega (arith, length-append u.steps h.more.steps, u.all, h.more.few, l);
  ends = no_memory (run_joined u.run (in_program r u.program h.more.lead));
}

-- and its looks
looks_in_all : (now sum after n : ℕ) → now ≤ sum → after ≤ now + 21 * n → after ≤ sum + 21 * n
looks_in_all now sum after n l k = omega (arith, l, k)

pub room_further : StateLaws → (p : Program) (old trace new : List StepAt) (r r' : Progress)
    (f f' : Finder) (left left' n now after : ℕ)
    → r.program.now ≡ p → IsTypedState p r.made → Suits r.program.now r.made f
    → HasRoom p old trace r.made f n now
    → WentOn r r' f f' trace new left left' now after
    → HasRoom p old new r'.made f' n after
room_further laws p old trace new r r' f f' left left' n now after is typed suits h w =
    let more = w.ran.more in record {
      sum = h.sum + 21 * length more.steps;
      enough = looks_in_all now h.sum after (length more.steps) h.enough more.looks;
      looked = record {
        steps = h.looked.steps ++ more.steps;
        trace = traces_joined old trace new h.looked.steps more.steps h.looked.trace more.trace;
        opening = h.looked.opening;
        opens = h.looked.opens;
        searches =
            searches_further laws h.looked.steps f.made.number f.path.items h.sum h.looked.searches
            (subst (λ q. Suits q r.made f) is suits) typed (in_program r is more.lead)
            f'.made.number f'.path.items w.stands;
      };
    }

-- also where memory is wanting
no_look : (p : Program) (made : List Made) (m : ℕ) (from : List ℕ) (a b : ℕ) → b ≤ a
    → LooksFrom built p made m from a b
no_look p made m from a b l =
    record { things = []; different = tt; each = tt; bound = omega (arith, l) }

pub looked_wanting : StateLaws → (p : Program) (old trace new : List StepAt) (r : Progress)
    (f : Finder) (left n now after : ℕ)
    → r.program.now ≡ p → IsTypedState p r.made → Suits r.program.now r.made f
    → HasRoom p old trace r.made f n now → RanSomewhere r trace new left now after
    → RunLooks built p old new n after
looked_wanting laws p old trace new r f left n now after is typed suits h ran =
    let more = ran.more in
    let end = ends_somewhere f.made.number f.path.items (places_of more.steps) in record {
      steps = h.looked.steps ++ more.steps;
      trace = traces_joined old trace new h.looked.steps more.steps h.looked.trace more.trace;
      opening = h.looked.opening;
      opens = h.looked.opens;
      made = ran.made;
      number = end.0;
      path = end.1;
      between = h.sum + 21 * length more.steps;
      searches =
          searches_further laws h.looked.steps f.made.number f.path.items h.sum h.looked.searches
          (subst (λ q. Suits q r.made f) is suits) typed (in_program r is more.lead) end.0
          end.1 end.2;
      last =
          no_look p ran.made end.0 end.1 (h.sum + 21 * length more.steps) after
          (looks_in_all now h.sum after (length more.steps) h.enough more.looks);
    }

-- the search suits the state to which they lead
pub suits_gone : StateLaws → (r r' : Progress) (f f' : Finder) (old new : List StepAt)
    (left left' a b : ℕ) → IsTypedState r.program.now r.made → Suits r.program.now r.made f
    → WentOn r r' f f' old new left left' a b → Suits r'.program.now r'.made f'
suits_gone laws r r' f f' old new left left' a b typed suits w =
    subst (λ q. Suits q r'.made f') (sym w.ran.program)
    (suits_further laws f.made.number f.path.items suits typed w.ran.more.lead f'.made.number
    f'.path.items w.stands)

-- what holds of a run that may still make so many steps
pub record IsOnTheWay (p : Program) (budget : ℕ) (old new : List StepAt) (left : ℕ)
    (r : Progress) (f : Finder) (before now : ℕ) : Type 0 where
  pub count : ℕ
  pub sum : count + left ≡ budget
  pub underway : IsUnderway p old new count r
  pub suits : Suits r.program.now r.made f
  pub room : HasRoom p old new r.made f before now

-- a search that finds nothing, or for which memory is wanting, is the last one
pub looked_at_end : (p : Program) (budget : ℕ) (old new : List StepAt) (left : ℕ)
    (r : Progress) (f : Finder) (before now next : ℕ)
    → IsOnTheWay p budget old new left r f before now
    → LooksFrom built r.program.now r.made f.made.number f.path.items now next
    → RunLooks built p old new before next
looked_at_end p budget old new left r f before now next h looks =
    looked_to_end p old new r f before h.room.sum next h.underway.program h.room.looked
    (looks_from_room r.program.now r.made f.made.number f.path.items now h.room.sum next
    h.room.enough looks)

-- a step is made
pub way_with_step : StateLaws → (p : Program) (budget : ℕ) (old trace new : List StepAt) (left : ℕ)
    (r r' : Progress) (g : Found) (f f' : Finder) (before now next : ℕ)
    → IsOnTheWay p budget old trace left r f before now → 0 < left
    → LooksFrom built r.program.now r.made f.made.number f.path.items now next
    → Advances g trace new r r' → IsWithinLimits r'.made → IsBetweenSteps r' → StandsAt f' g.at
    → IsOnTheWay p budget old new (left - 1) r' f' before next
way_with_step laws p budget old trace new left r r' g f f' before now next h some looks m within between stands = record {
  count = h.count + 1;
  sum = omega (arith, h.sum, some);
  underway = goes_on p old trace new h.count r r' g h.underway m within between;
  suits =
      subst (λ q. Suits q r'.made f') (sym m.program)
      (suits_next laws.sought r.program.now r.made r'.made (step_of g m.put) f'
      h.underway.between.typed m.leads stands.0 stands.1);
  room =
      room_exact (looked_on p old trace new r r' g f f' before h.room.sum next h.underway.program
      h.room.looked
      (looks_from_room r.program.now r.made f.made.number f.path.items now h.room.sum next
      h.room.enough looks) m stands);
}

-- and further ones
typed_in : {p : Program} {old new : List StepAt} {count : ℕ} {r : Progress}
    → IsUnderway p old new count r → IsTypedState p r.made
typed_in {r = r} u = subst (λ q. IsTypedState q r.made) u.program u.between.typed

pub way_further : StateLaws → (p : Program) (budget : ℕ) (old trace new : List StepAt)
    (left left' : ℕ) (r r' : Progress) (f f' : Finder) (before now after : ℕ)
    → IsOnTheWay p budget old trace left r f before now
    → WentOn r r' f f' trace new left left' now after
    → IsOnTheWay p budget old new left' r' f' before after
way_further laws p budget old trace new left left' r r' f f' before now after h w =
    let u = h.underway in record {
      count = h.count + length w.ran.more.steps;
      sum = omega (arith, h.sum, w.rest);
      underway = underway_further p old trace new h.count r r' left now after u w.ran;
      suits = suits_gone laws r r' f f' trace new left left' now after u.between.typed h.suits w;
      room =
          room_further laws p old trace new r r' f f' left left' before now after u.program
          (typed_in u) h.suits h.room w;
    }

pub wanting_further : StateLaws → (p : Program) (budget : ℕ) (old trace new : List StepAt)
    (left : ℕ) (r : Progress) (f : Finder) (before now after : ℕ)
    → IsOnTheWay p budget old trace left r f before now → RanSomewhere r trace new left now after
    → Runs built p budget old new (Err Memory) × RunLooks built p old new before after
wanting_further laws p budget old trace new left r f before now after h ran =
    let u = h.underway in (
      ends_wanting p budget old trace new h.count r left now after u (omega (arith, h.sum)) ran,
      looked_wanting laws p old trace new r f left before now after u.program (typed_in u) h.suits
          h.room ran,
    )
