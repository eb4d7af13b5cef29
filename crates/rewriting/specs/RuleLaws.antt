-- What is promised of rules: each has at most one instance on a term at a place, and there is at
-- most one run.
use Rattle.std.specs.Prelude.{◌≡◌, ℕ, List}
use Rattle.chw_terms.specs.declared.program.Program.{Program}
use Rattle.chw_terms.specs.declared.rule.Rule.{Rule}
use Rattle.chw_terms.specs.declared.rule.Rule.TheVariants.{Spec}
use Rattle.chw_terms.specs.declared.scene.Made.{Made}
use Rattle.chw_terms.specs.TermTree.{TermTree}
use Rattle.rewriting.specs.Origins.{MadeOf, Origins}
use Rattle.rewriting.specs.Spots.{Spot}
use Rattle.rewriting.specs.Calls.{OfWhole}
use Rattle.rewriting.specs.Instances.{Makes, HasInstance}
use Rattle.rewriting.specs.Numbers.{HasOrigin, IsNumberOf}
use Rattle.rewriting.specs.Runs.{BecomesMade, After, Step, StepsTo, Run}
use Rattle.rewriting.specs.Steps.{origins_in, Where, IsFirst}

-- a rule makes at most one term of its own shape
abbrev pub OneMade : Type 0
OneMade =
    (o : Origins) (at : Spot) (r : Rule) (e e' e'' : TermTree)
    → Makes o at r e e' → Makes o at r e e'' → e' ≡ e''

-- and at most one of a whole term
abbrev pub OneOfWhole : Type 0
OneOfWhole =
    (o : Origins) (at : Spot) (r : Rule) (e e' e'' : TermTree)
    → OfWhole o at r e e' → OfWhole o at r e e'' → e' ≡ e''

-- a rule has at most one instance on a term at a place, whatever arguments stay behind
abbrev pub OneInstance : Type 0
OneInstance =
    (o : Origins) (at : Spot) (r : Rule) (e e' e'' : TermTree)
    → HasInstance o at r e e' → HasInstance o at r e e'' → e' ≡ e''

-- of the steps by some rules one at most is the first, and it makes one term
abbrev pub OneFirst : Type 0
OneFirst =
    (rules : List Rule) (p : Program) (made : List Made) (w v : Where) (e f : TermTree)
    → IsFirst rules p made w e → IsFirst rules p made v f → (w ≡ v) × (e ≡ f)

-- it leads to a state
abbrev pub FirstLeads : Type 0
FirstLeads =
    (rules : List Rule) (p : Program) (made : List Made) (w : Where) (e : TermTree)
    → IsFirst rules p made w e
    → (xs : List Made) × StepsTo rules p made (record { place = w; new = e }) xs

-- where a call or a lifted function became a made definition, the number that is written for it is
-- then the number of one with its origin
abbrev pub NumberIsThere : Type 0
NumberIsThere =
    (p : Program) (made xs : List Made) (at : Spot) (e : TermTree) (it : MadeOf) (m : ℕ)
    → BecomesMade (origins_in p made) at e it → IsNumberOf (origins_in p made) it.origin m
    → After p made at e Spec xs → HasOrigin (origins_in p xs) it.origin m

-- a first step leads to one state at most
abbrev pub OneState : Type 0
OneState =
    (rules : List Rule) (p : Program) (made xs ys : List Made) (s t : Step)
    → StepsTo rules p made s xs → StepsTo rules p made t ys → (s ≡ t) × (xs ≡ ys)

-- so a program has one run at most by some rules, of each number of steps
abbrev pub OneRun : Type 0
OneRun =
    (rules : List Rule) (p : Program) (n : ℕ) (ss ts : List Step) (xs ys : List Made)
    → Run rules p n ss xs → Run rules p n ts ys → (ss ≡ ts) × (xs ≡ ys)
