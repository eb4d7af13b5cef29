-- Steps at a term and below it, from the spot where it stands.
use Rattle.std.specs.Prelude.{◌≡◌, ◌⊎◌, ℕ, ◌<◌, true, false, List, [], Contains, Some}
use Rattle.chw_types.specs.TypeTree.{TypeTree}
use Rattle.chw_terms.specs.declared.rule.Rule.{Rule}
use Rattle.chw_terms.specs.TermTree.{TermTree, Group}
use Rattle.chw_typing.specs.Groups.{binding_at}
use Rattle.chw_typing.specs.Paths.{IsEarlier}
use Rattle.chw_typing.specs.Programs.{IsSound}
use Rattle.chw_typing.specs.Scopes.{AreTermTypes, declared, with_more}
use Rattle.chw_typing.specs.Typing.{HasType}
use Rattle.rewriting.specs.Active.{IsActive}
use Rattle.rewriting.specs.Instances.{HasInstance}
use Rattle.rewriting.specs.Origins.{Origins, setting_at}
use Rattle.rewriting.specs.Spots.{Spot, spot}
use Rattle.rewriting.specs.Steps.{number_of}
use Rattle.quiet_sides.specs.Quiet.{IsQuiet}

-- where the right sides of a letrec of values or circuits stand, and where its body does
abbrev pub side_spot : Spot → Group → Spot
side_spot at g = spot at.mode false (with_more (declared g) at.vars)

abbrev pub body_spot : Spot → Group → Spot
body_spot at g = spot at.mode true (with_more (declared g) at.vars)

-- terms are typed there: the setting is sound, the variables in scope have types that terms have,
-- and the term has a type
pub record IsTypedHere (o : Origins) (at : Spot) (e : TermTree) : Type 0 where
  pub sound : IsSound (setting_at o)
  pub vars : AreTermTypes (setting_at o) [] at.vars
  pub type : TypeTree
  pub has : HasType (setting_at o) [] at.vars e type

-- each right side before this number is quiet
abbrev pub AreQuietBefore : Group → ℕ → Type 0
AreQuietBefore g k =
    (i : ℕ) (b : TypeTree × TermTree) → i < k → binding_at g i ≡ Some b → IsQuiet b.1

-- none of the rules has an instance on the term
abbrev pub HasNoInstance : List Rule → Origins → Spot → TermTree → Type 0
HasNoInstance rules o at e =
    (r : Rule) (new : TermTree) → Contains rules r → HasInstance o at r e new → ⊥

-- one of the rules makes this of the term, and none of a smaller number has an instance on it
pub record IsFirstOn (rules : List Rule) (o : Origins) (at : Spot) (e : TermTree) (r : Rule)
    (new : TermTree) : Type 0 where
  pub is_rule : Contains rules r
  pub made_new : HasInstance o at r e new
  pub first : (s : Rule) (other : TermTree)
      → Contains rules s → number_of s < number_of r → HasInstance o at s e other → ⊥

-- one of the rules makes this at the active place at the end of the path
pub record IsStepBelow (rules : List Rule) (o : Origins) (at : Spot) (e : TermTree)
    (path : List ℕ) (r : Rule) (new : TermTree) : Type 0 where
  pub is_rule : Contains rules r
  pub to : Spot
  pub term : TermTree
  pub active : IsActive o at e path to term
  pub made_new : HasInstance o to r term new

-- there is none
abbrev pub HasNoneBelow : List Rule → Origins → Spot → TermTree → Type 0
HasNoneBelow rules o at e =
    (path : List ℕ) (r : Rule) (new : TermTree) → IsStepBelow rules o at e path r new → ⊥

-- the first of them: by the path, then by the rule
pub record IsFirstBelow (rules : List Rule) (o : Origins) (at : Spot) (e : TermTree)
    (path : List ℕ) (r : Rule) (new : TermTree) : Type 0 where
  pub step : IsStepBelow rules o at e path r new
  pub first : (q : List ℕ) (s : Rule) (other : TermTree)
      → IsStepBelow rules o at e q s other
      → IsEarlier q path ⊎ ((q ≡ path) × (number_of s < number_of r)) → ⊥
