-- What the rule of made definitions gives.
use Rattle.std.specs.Prelude.{List, Option, IfSome, MatchOption}
use Rattle.chw_terms.specs.declared.program.Program.{Program}
use Rattle.chw_terms.specs.declared.rule.Rule.TheVariants.{Spec}
use Rattle.chw_terms.specs.declared.scene.Made.{Made}
use Rattle.chw_terms.specs.TermTree.{TermTree}
use Rattle.rewriting.specs.Spots.{Spot}
use Rattle.made_table.specs.Held.{HoldsNone}
use Rattle.rewriting.specs.Instances.{HasInstance}
use Rattle.rewriting.specs.Runs.{After}
use Rattle.rewriting.specs.Steps.{origins_in}
use Rattle.trials.specs.Trials.{with_new}
use Rattle.specialise.specs.declared.trial.Special.{Special}

-- the rule's instance, and what is made: a definition whose origin none had
pub record IsSpecial (p : Program) (made : List Made) (at : Spot) (e : TermTree) (s : Special)
    : Type 0 where
  pub instance : HasInstance (origins_in p made) at Spec e s.new
  pub after : After p made at e Spec (with_new made s.definition)
  pub fresh : IfSome s.definition (λ it. HoldsNone made it.origin)

-- the answer is that, or nothing where the rule has no instance
abbrev pub AnswersSpecial : Program → List Made → Spot → TermTree → Option Special → Type 0
AnswersSpecial p made at e answer =
    MatchOption answer
    ((e' : TermTree) → HasInstance (origins_in p made) at Spec e e' → ⊥)
    (λ s. IsSpecial p made at e s)
