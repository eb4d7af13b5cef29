-- What a rule makes of a term at a place, and what it adds.
use Rattle.std.specs.Prelude.{◌≡◌, Bool, true, false, List, Option, None, Some, MatchOption}
use Rattle.chw_terms.specs.declared.program.Program.{Program}
use Rattle.chw_terms.specs.declared.rule.Rule.{Rule}
use Rattle.chw_terms.specs.declared.rule.Rule.TheVariants.{Flat, Spec}
use Rattle.chw_terms.specs.declared.scene.Made.{Made}
use Rattle.chw_terms.specs.TermTree.{TermTree}
use Rattle.rewriting.specs.Instances.{HasInstance}
use Rattle.rewriting.specs.Spots.{Spot}
use Rattle.rewriting.specs.Steps.{origins_in}
use Rattle.specialise.specs.declared.trial.Special.{Special}
use Rattle.trials.specs.Trials.{Adds, ChangesTo}
use Rattle.trials.specs.declared.trial.Change.TheVariants.{Put, Join}
use Rattle.trials.specs.declared.trial.Trial.{Trial}

-- the rule puts this term, and no definition is added
abbrev pub put : Rule → TermTree → Trial
put r e = record { rule = r; change = Put e; definition = None }

-- what the rule of made definitions makes is put
abbrev pub put_special : Special → Trial
put_special s = record { rule = Spec; change = Put s.new; definition = s.definition }

-- letrecs are joined, where they can be
abbrev pub joined_if : Bool → Option Trial
joined_if true = Some (record { rule = Flat; change = Join; definition = None })
joined_if false = None

-- it is by this rule that the term is changed so, and this added
pub record IsTried (p : Program) (made : List Made) (at : Spot) (rule : Rule) (e : TermTree)
    (t : Trial) : Type 0 where
  pub is : t.rule ≡ rule
  pub new : TermTree
  pub changes : ChangesTo rule t.change new
  pub instance : HasInstance (origins_in p made) at rule e new
  pub adds : Adds p made at e rule t.definition

-- the answer is that, or nothing where the rule has no instance
abbrev pub AnswersRule
    : Program → List Made → Spot → Rule → TermTree → Option Trial → Type 0
AnswersRule p made at rule e answer =
    MatchOption answer
    ((e' : TermTree) → HasInstance (origins_in p made) at rule e e' → ⊥)
    (IsTried p made at rule e)
