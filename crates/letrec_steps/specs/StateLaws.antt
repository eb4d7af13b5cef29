-- What is promised of the steps of a state in which a made definition has a top.
use Rattle.std.specs.Prelude.{◌≡◌, ℕ, suc, List, [], ◌∷◌, ◌++◌, Some}
use Rattle.std.specs.List.{slice_get}
use Rattle.chw_types.specs.TypeTree.{TypeTree}
use Rattle.chw_terms.specs.declared.program.Program.{Program}
use Rattle.chw_terms.specs.declared.rule.Rule.{Rule}
use Rattle.chw_terms.specs.declared.rule.Rule.TheVariants.{Spec}
use Rattle.chw_terms.specs.declared.scene.Made.{Made}
use Rattle.chw_terms.specs.TermTree.{TermTree, letrec, Group, size_of}
use Rattle.chw_typing.specs.Groups.{binding_at}
use Rattle.chw_typing.specs.Paths.{with_part}
use Rattle.rewriting.specs.Named.{IsNamed}
use Rattle.rewriting.specs.Runs.{StepsTo}
use Rattle.rewriting.specs.Spots.{Spot}
use Rattle.rewriting.specs.Steps.{origins_in, Where, HasStepBy, IsFirst}
use Rattle.step_order.specs.Sought.{IsSought}
use Rattle.letrec_steps.specs.Local.{side_spot, body_spot, IsTypedHere, AreQuietBefore}
use Rattle.letrec_steps.specs.Local.{HasNoInstance, IsFirstOn, HasNoneBelow, IsFirstBelow}
use Rattle.letrec_steps.specs.Tops.{IsTopIn, put_at, put_in, HasNoStepBefore, HasNoStepIn}

-- what is first at the top of a made definition and below it is the first step of the state, if no
-- made definition before it has a step
abbrev pub FirstInTopIsFirst : Type 0
FirstInTopIsFirst =
    (rules : List Rule) (p : Program) (made : List Made) (m : ℕ) (it : Made) (q path : List ℕ)
    (at : Spot) (top new : TermTree) (r : Rule)
    → IsTopIn made m it q at top → HasNoStepBefore rules p made m
    → IsFirstBelow rules (origins_in p made) at top path r new
    → IsFirst rules p made (record { number = m; path = q ++ path; rule = r }) new

-- so what is first on a right side of a named type, behind quiet right sides of a letrec on which
-- no rule has an instance
abbrev pub SideIsFirst : Type 0
SideIsFirst =
    (rules : List Rule) (p : Program) (made : List Made) (m : ℕ) (it : Made) (q : List ℕ)
    (at : Spot) (g : Group) (e new : TermTree) (k : ℕ) (b : TypeTree × TermTree) (r : Rule)
    → IsTopIn made m it q at (letrec g e) → HasNoStepBefore rules p made m
    → IsTypedHere (origins_in p made) at (letrec g e)
    → HasNoInstance rules (origins_in p made) at (letrec g e) → AreQuietBefore g k
    → binding_at g k ≡ Some b → IsNamed p.datas at.mode b.0
    → IsFirstOn rules (origins_in p made) (side_spot at g) b.1 r new
    → IsFirst rules p made (record { number = m; path = q ++ k ∷ []; rule = r }) new

-- and so what is first on the letrec itself, or on any other top
abbrev pub LetrecIsFirst : Type 0
LetrecIsFirst =
    (rules : List Rule) (p : Program) (made : List Made) (m : ℕ) (it : Made) (q : List ℕ)
    (at : Spot) (top new : TermTree) (r : Rule)
    → IsTopIn made m it q at top → HasNoStepBefore rules p made m
    → IsFirstOn rules (origins_in p made) at top r new
    → IsFirst rules p made (record { number = m; path = q; rule = r }) new

-- where the top and what is below it have no step, the made definition has none
abbrev pub NoneInTop : Type 0
NoneInTop =
    (rules : List Rule) (p : Program) (made : List Made) (m : ℕ) (it : Made) (q : List ℕ)
    (at : Spot) (top : TermTree)
    → IsTopIn made m it q at top → HasNoneBelow rules (origins_in p made) at top
    → HasNoStepIn rules p made m

-- so where the top is a letrec on which no rule has an instance, its right sides are quiet, and its
-- body has no step at it or below it
abbrev pub QuietTopHasNone : Type 0
QuietTopHasNone =
    (rules : List Rule) (p : Program) (made : List Made) (m : ℕ) (it : Made) (q : List ℕ)
    (at : Spot) (g : Group) (e : TermTree)
    → IsTopIn made m it q at (letrec g e)
    → IsTypedHere (origins_in p made) at (letrec g e)
    → HasNoInstance rules (origins_in p made) at (letrec g e) → AreQuietBefore g (size_of g)
    → HasNoneBelow rules (origins_in p made) (body_spot at g) e
    → HasNoStepIn rules p made m

-- the search may go on in the next made definition
abbrev pub NoneBeforeNext : Type 0
NoneBeforeNext =
    (rules : List Rule) (p : Program) (made : List Made) (m : ℕ)
    → HasNoStepBefore rules p made m → HasNoStepIn rules p made m
    → HasNoStepBefore rules p made (suc m)

-- where each step is sought from a place of the made definition on, none before it has a step
abbrev pub SoughtHasNoneBefore : Type 0
SoughtHasNoneBefore =
    (rules : List Rule) (p : Program) (made : List Made) (m : ℕ) (from : List ℕ)
    → ((v : Where) (new : TermTree) → HasStepBy rules p made v new → IsSought m from v)
    → HasNoStepBefore rules p made m

-- where none before it has a step, each step is sought from its top on
abbrev pub TopIsSought : Type 0
TopIsSought =
    (rules : List Rule) (p : Program) (made : List Made) (m : ℕ) (it : Made) (q : List ℕ)
    (at : Spot) (top : TermTree) (v : Where) (new : TermTree)
    → IsTopIn made m it q at top → HasNoStepBefore rules p made m
    → HasStepBy rules p made v new → IsSought m q v

-- another term in a made definition changes nothing that rules see of the state
abbrev pub PutKeepsOrigins : Type 0
PutKeepsOrigins =
    (p : Program) (made : List Made) (m : ℕ) (it : Made) (path : List ℕ) (new : TermTree)
    → slice_get made m ≡ Some it
    → origins_in p (put_in made m it path new) ≡ origins_in p made

-- nor the steps of made definitions before it
abbrev pub PutKeepsNoneBefore : Type 0
PutKeepsNoneBefore =
    (rules : List Rule) (p : Program) (made : List Made) (m : ℕ) (it : Made) (path : List ℕ)
    (new : TermTree)
    → slice_get made m ≡ Some it → HasNoStepBefore rules p made m
    → HasNoStepBefore rules p (put_in made m it path new) m

-- the state with another top in place of a top has it there
abbrev pub TopIsPutIn : Type 0
TopIsPutIn =
    (made : List Made) (m : ℕ) (it : Made) (q : List ℕ) (at : Spot) (x y : TermTree)
    → IsTopIn made m it q at x
    → IsTopIn (put_in made m it q y) m (put_at it q y) q at y

-- the state with its own top is that state
abbrev pub TopPutBack : Type 0
TopPutBack =
    (made : List Made) (m : ℕ) (it : Made) (q : List ℕ) (at : Spot) (x : TermTree)
    → IsTopIn made m it q at x → put_in made m it q x ≡ made

-- from the state with x for its top, what is first in x leads to the state with the changed x for
-- its top: so steps in a top are steps of states, one after another
abbrev pub StepInTopLeads : Type 0
StepInTopLeads =
    (rules : List Rule) (p : Program) (made : List Made) (m : ℕ) (it : Made) (q path : List ℕ)
    (at : Spot) (top x new : TermTree) (r : Rule)
    → IsTopIn made m it q at top → HasNoStepBefore rules p made m
    → IsFirstBelow rules (origins_in p made) at x path r new → (r ≡ Spec → ⊥)
    → StepsTo rules p (put_in made m it q x)
    (record { place = record { number = m; path = q ++ path; rule = r }; new = new })
    (put_in made m it q (with_part x path new))
