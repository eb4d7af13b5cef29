-- What a trial puts on a right side is the first step there.
use Rattle.std.proofs.Common.{◌≡◌, ◌<◌, ℕ, List, sym, subst}
use Rattle.chw_terms.specs.Depth.{depth}
use Rattle.chw_terms.specs.declared.program.Program.{Program}
use Rattle.chw_terms.specs.declared.rule.Rule.{Rule}
use Rattle.chw_terms.specs.declared.rule.Rule.TheVariants.{Spec}
use Rattle.chw_terms.specs.declared.scene.Made.{Made}
use Rattle.chw_terms.specs.TermTree.{TermTree}
use Rattle.rewriting.specs.Instances.{HasInstance}
use Rattle.rewriting.specs.Spots.{Spot}
use Rattle.rewriting.specs.Steps.{origins_in}
use Rattle.kept_letrecs.specs.Resting.{KeepsVariables}
use Rattle.letrec_steps.specs.Local.{IsFirstOn}
use Rattle.trials.specs.declared.trial.Change.{Change}
use Rattle.trials.specs.declared.trial.Change.TheVariants.{Put}
use Rattle.trials.specs.declared.trial.Trial.{Trial}
use Rattle.trials.specs.Trials.{built, ChangesTo, IsTrial}
use Rattle.letrec_runs.specs.Rush.{IsSideStep}

-- what a trial puts is what its rule makes
put_is : (r : Rule) (change : Change) (x new : TermTree) → change ≡ Put x → ChangesTo r change new → x ≡ new
put_is r change x new is h = subst (λ c. ChangesTo r c new) is h

trial_is_first : (p : Program) (made : List Made) (at : Spot) (e x : TermTree) (t : Trial) → IsTrial built p made at e t → t.change ≡ Put x → IsFirstOn built (origins_in p made) at e t.rule x
trial_is_first p made at e x t h is =
    let same : x ≡ h.new = put_is t.rule t.change x h.new is h.changes in
    record {
      is_rule = h.is_rule;
      made_new = subst (λ y. HasInstance (origins_in p made) at t.rule e y) (sym same) h.made_new;
      first = h.first;
    }

-- so it is a step at a right side, where what it makes may be put there
pub side_step : (p : Program) (made : List Made) (at : Spot) (most : ℕ) (e x : TermTree) (r : Rule) (t : Trial)
    → IsTrial built p made at e t → (r ≡ t.rule) × (t.change ≡ Put x) × (r ≡ Spec → ⊥) → ((n : ℕ) → KeepsVariables n e x) × (depth x < most)
    → IsSideStep (origins_in p made) at most e r x
side_step p made at most e x r t h is may = record {
  first = subst (λ s. IsFirstOn built (origins_in p made) at e s x) (sym is.0) (trial_is_first p made at e x t h is.1);
  other = is.2;
  keeps = may.0;
  shallow = may.1;
}
