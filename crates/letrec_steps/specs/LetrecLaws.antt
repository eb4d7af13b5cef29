-- What is promised of steps at letrecs and below them.
use Rattle.std.specs.Prelude.{◌≡◌, ℕ, List, [], ◌∷◌, Some}
use Rattle.chw_types.specs.TypeTree.{TypeTree}
use Rattle.chw_terms.specs.declared.rule.Rule.{Rule}
use Rattle.chw_terms.specs.TermTree.{TermTree, letrec, Group, bind, size_of}
use Rattle.chw_typing.specs.Groups.{binding_at, joined}
use Rattle.chw_typing.specs.Paths.{with_part}
use Rattle.rewriting.specs.Named.{IsNamed}
use Rattle.rewriting.specs.Origins.{Origins}
use Rattle.rewriting.specs.Shapes.{IsVariable}
use Rattle.rewriting.specs.Spots.{Spot, HasLets}
use Rattle.letrec_steps.specs.Local.{side_spot, body_spot, IsTypedHere, AreQuietBefore}
use Rattle.letrec_steps.specs.Local.{HasNoInstance, IsFirstOn, HasNoneBelow, IsFirstBelow}

-- what is first on a term is first at it and below it
abbrev pub FirstOnIsFirst : Type 0
FirstOnIsFirst =
    (rules : List Rule) (o : Origins) (at : Spot) (e new : TermTree) (r : Rule)
    → IsFirstOn rules o at e r new → IsFirstBelow rules o at e [] r new

-- in a letrec on which no rule has an instance, behind quiet right sides, what is first on a right
-- side of a named type is first at the letrec and below it
abbrev pub SideIsFirstBelow : Type 0
SideIsFirstBelow =
    (rules : List Rule) (o : Origins) (at : Spot) (g : Group) (e new : TermTree) (k : ℕ)
    (b : TypeTree × TermTree) (r : Rule)
    → HasLets at.mode → IsTypedHere o at (letrec g e)
    → HasNoInstance rules o at (letrec g e) → AreQuietBefore g k
    → binding_at g k ≡ Some b → IsNamed o.program.datas at.mode b.0
    → IsFirstOn rules o (side_spot at g) b.1 r new
    → IsFirstBelow rules o at (letrec g e) (k ∷ []) r new

-- a letrec on which no rule has an instance, whose right sides are quiet, and whose body has no
-- step at it or below it, has none
abbrev pub QuietLetrecHasNone : Type 0
QuietLetrecHasNone =
    (rules : List Rule) (o : Origins) (at : Spot) (g : Group) (e : TermTree)
    → HasLets at.mode → IsTypedHere o at (letrec g e)
    → HasNoInstance rules o at (letrec g e) → AreQuietBefore g (size_of g)
    → HasNoneBelow rules o (body_spot at g) e
    → HasNoneBelow rules o at (letrec g e)

-- a variable has no step, wherever it stands
abbrev pub VariableHasNone : Type 0
VariableHasNone =
    (rules : List Rule) (o : Origins) (at : Spot) (e : TermTree)
    → IsVariable e → HasNoneBelow rules o at e

-- the binding between two groups has the number of those before it
abbrev pub BindingBetween : Type 0
BindingBetween =
    (front back : Group) (t : TypeTree) (x : TermTree)
    → binding_at (joined front (bind t x back)) (size_of front) ≡ Some (t, x)

-- whether the right sides before it are quiet hangs on those alone
abbrev pub QuietFront : Type 0
QuietFront =
    (front back : Group)
    → AreQuietBefore front (size_of front) → AreQuietBefore (joined front back) (size_of front)

abbrev pub QuietOfFront : Type 0
QuietOfFront =
    (front back : Group)
    → AreQuietBefore (joined front back) (size_of front) → AreQuietBefore front (size_of front)

-- another right side in its place
abbrev pub SideIsPut : Type 0
SideIsPut =
    (front back : Group) (t : TypeTree) (x y e : TermTree)
    → with_part (letrec (joined front (bind t x back)) e) (size_of front ∷ []) y
    ≡ letrec (joined front (bind t y back)) e
