-- Steps of rewriting, their order, and the first of them.
use Rattle.std.specs.Prelude.{◌≡◌, ◌⊎◌, ℕ, ◌<◌, List, map, Some, Contains}
use Rattle.std.specs.List.{slice_get}
use Rattle.chw_terms.specs.declared.program.Program.{Program}
use Rattle.chw_terms.specs.declared.rule.Rule.{Rule}
use Rattle.chw_terms.specs.declared.rule.Rule.TheVariants.{TyBeta, Beta, AppLet, AppCase}
use Rattle.chw_terms.specs.declared.rule.Rule.TheVariants.{CaseCon, CaseLet, CaseCase, Proj}
use Rattle.chw_terms.specs.declared.rule.Rule.TheVariants.{PrimLet, PrimCase, Flat, Dead, Inline}
use Rattle.chw_terms.specs.declared.rule.Rule.TheVariants.{Unfold, Unroll, Elem, Delta, ApPure}
use Rattle.chw_terms.specs.declared.rule.Rule.TheVariants.{Eta, Spec, Anf}
use Rattle.chw_terms.specs.declared.scene.Made.{Made}
use Rattle.chw_terms.specs.TermTree.{TermTree}
use Rattle.chw_typing.specs.Paths.{IsEarlier}
use Rattle.rewriting.specs.Origins.{Origins, made_of}
use Rattle.rewriting.specs.Active.{IsPlaceOf}
use Rattle.rewriting.specs.Spots.{Spot}
use Rattle.rewriting.specs.Instances.{HasInstance}

-- the numbers of the rules, in their order
abbrev pub number_of : Rule → ℕ
number_of TyBeta = 1
number_of Beta = 2
number_of AppLet = 3
number_of AppCase = 4
number_of CaseCon = 5
number_of CaseLet = 6
number_of CaseCase = 7
number_of Proj = 8
number_of PrimLet = 9
number_of PrimCase = 10
number_of Flat = 11
number_of Dead = 12
number_of Inline = 13
number_of Unfold = 14
number_of Unroll = 15
number_of Elem = 16
number_of Delta = 17
number_of ApPure = 18
number_of Eta = 19
number_of Spec = 20
number_of Anf = 21

-- what rules see of a program with these made definitions
abbrev pub origins_in : Program → List Made → Origins
origins_in p made = record { program = p; made = map made_of made }

-- where a step is made: in which made definition, at which path of its body, and by which rule
pub record Where : Type 0 where
  pub number : ℕ
  pub path : List ℕ
  pub rule : Rule

-- in the order of steps: by the number of the made definition, then by the path, then by the rule
abbrev pub IsBefore : Where → Where → Type 0
IsBefore a b =
    (a.number < b.number)
    ⊎ ((a.number ≡ b.number)
    × (IsEarlier a.path b.path
    ⊎ ((a.path ≡ b.path) × (number_of a.rule < number_of b.rule))))

-- there the rule has an instance on an active place, of which it makes the term `new`
pub record HasStep (p : Program) (made : List Made) (w : Where) (new : TermTree) : Type 0 where
  pub it : Made
  pub is : slice_get made w.number ≡ Some it
  pub at : Spot
  pub term : TermTree
  pub place : IsPlaceOf (origins_in p made) (made_of it) it.body w.path at term
  pub made_new : HasInstance (origins_in p made) at w.rule term new

-- by one of these rules
abbrev pub HasStepBy : List Rule → Program → List Made → Where → TermTree → Type 0
HasStepBy rules p made w new = Contains rules w.rule × HasStep p made w new

-- of the steps by these rules the first
pub record IsFirst
    (rules : List Rule) (p : Program) (made : List Made) (w : Where) (new : TermTree) : Type 0
  where
    pub step : HasStepBy rules p made w new
    pub first : (v : Where) (other : TermTree) → HasStepBy rules p made v other → IsBefore v w → ⊥

-- there is none
abbrev pub HasNoStep : List Rule → Program → List Made → Type 0
HasNoStep rules p made = (w : Where) (new : TermTree) → HasStepBy rules p made w new → ⊥
