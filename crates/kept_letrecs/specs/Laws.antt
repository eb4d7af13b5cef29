-- What is promised of letrecs without arguments.
use Rattle.std.specs.Prelude.{◌≡◌, ℕ, suc, ◌<◌, List}
use Rattle.chw_types.specs.declared.declarations.Data.{Data}
use Rattle.chw_types.specs.TypeMoves.{Renaming}
use Rattle.chw_types.specs.TypeTree.{TypeTree}
use Rattle.chw_terms.specs.declared.rule.Rule.{Rule}
use Rattle.chw_terms.specs.declared.rule.Rule.TheVariants.{Flat, Dead, Inline}
use Rattle.chw_terms.specs.declared.scene.Mode.{Mode}
use Rattle.chw_terms.specs.TermMoves.{rename, shift}
use Rattle.chw_terms.specs.TermTree.{TermTree, letrec, Group, no_bindings, bind, size_of}
use Rattle.chw_typing.specs.Groups.{joined}
use Rattle.rewriting.specs.Instances.{HasInstance}
use Rattle.rewriting.specs.Lets.{OfLets, side_joined}
use Rattle.rewriting.specs.Origins.{Origins}
use Rattle.rewriting.specs.Shapes.{IsLet, NoLetIn}
use Rattle.rewriting.specs.Spots.{Spot}
use Rattle.quiet_sides.specs.Quiet.{IsQuiet, IsQuietSide}
use Rattle.kept_letrecs.specs.Resting.{IsOnLetrecs, AllReached, AllNamed, KeepsVariables, IsAtRest}

-- a rule with an instance on a letrec without arguments is one of those on letrecs, and the new
-- term is what it makes of the letrec
abbrev pub BareLetrecs : Type 0
BareLetrecs =
    (o : Origins) (at : Spot) (r : Rule) (g : Group) (e new : TermTree)
    → HasInstance o at r (letrec g e) new
    → IsOnLetrecs r × OfLets o at r (letrec g e) new

-- nothing joins where no right side and not the body is a letrec
abbrev pub NoFlat : Type 0
NoFlat =
    (o : Origins) (at : Spot) (g : Group) (e new : TermTree)
    → NoLetIn g → (IsLet e → ⊥)
    → HasInstance o at Flat (letrec g e) new → ⊥

-- nothing goes where something is bound and each binding is reached
abbrev pub NoDead : Type 0
NoDead =
    (o : Origins) (at : Spot) (g : Group) (e new : TermTree)
    → (g ≡ no_bindings → ⊥) → AllReached g e
    → HasInstance o at Dead (letrec g e) new → ⊥

-- nothing is put for its name where each type is named
abbrev pub NoInline : Type 0
NoInline =
    (o : Origins) (at : Spot) (g : Group) (e new : TermTree)
    → AllNamed o.program.datas at.mode g
    → HasInstance o at Inline (letrec g e) new → ⊥

-- so no rule has an instance where something is bound and the letrec is at rest
abbrev pub RestingLetrecs : Type 0
RestingLetrecs =
    (o : Origins) (at : Spot) (r : Rule) (g : Group) (e new : TermTree)
    → (g ≡ no_bindings → ⊥) → IsAtRest o.program.datas at.mode g e
    → HasInstance o at r (letrec g e) new → ⊥

-- the bindings stay reached where a right side becomes a term in which each variable of the group
-- occurs that did
abbrev pub ReachedAfterSide : Type 0
ReachedAfterSide =
    (front : Group) (t : TypeTree) (x x' : TermTree) (back : Group) (e : TermTree)
    → AllReached (joined front (bind t x back)) e
    → KeepsVariables (size_of (joined front (bind t x back))) x x'
    → AllReached (joined front (bind t x' back)) e

-- and where a letrec that is a right side joins, of which each binding is reached too
abbrev pub ReachedAfterJoin : Type 0
ReachedAfterJoin =
    (front : Group) (t : TypeTree) (cs : Group) (x : TermTree) (back : Group) (e : TermTree)
    → AllReached (joined front (bind t (letrec cs x) back)) e
    → AllReached cs x
    → AllReached (side_joined front t cs x back) (shift e (suc (size_of back)) (size_of cs))

-- a letrec stays at rest where a right side becomes such a term, which is no letrec
abbrev pub RestAfterSide : Type 0
RestAfterSide =
    (datas : List Data) (mode : Mode)
    (front : Group) (t : TypeTree) (x x' : TermTree) (back : Group) (e : TermTree)
    → IsAtRest datas mode (joined front (bind t x back)) e
    → (IsLet x' → ⊥) → KeepsVariables (size_of (joined front (bind t x back))) x x'
    → IsAtRest datas mode (joined front (bind t x' back)) e

-- and where it becomes a letrec, itself at rest, that then joins
abbrev pub RestAfterJoin : Type 0
RestAfterJoin =
    (datas : List Data) (mode : Mode)
    (front : Group) (t : TypeTree) (y : TermTree) (cs : Group) (x : TermTree) (back : Group)
    (e : TermTree)
    → IsAtRest datas mode (joined front (bind t y back)) e
    → KeepsVariables (size_of (joined front (bind t y back))) y (letrec cs x)
    → IsAtRest datas mode cs x
    → IsAtRest datas mode
    (side_joined front t cs x back) (shift e (suc (size_of back)) (size_of cs))

-- a quiet term stays quiet wherever its variables come
abbrev pub QuietRenamed : Type 0
QuietRenamed = (e : TermTree) (ρ : Renaming) → IsQuiet e → IsQuiet (rename e ρ)

-- the right sides before one that changes stay quiet
abbrev pub QuietAfterSide : Type 0
QuietAfterSide =
    (front : Group) (t : TypeTree) (x x' : TermTree) (back : Group) (e : TermTree) (i : ℕ)
    → i < size_of front
    → IsQuietSide (letrec (joined front (bind t x back)) e) i
    → IsQuietSide (letrec (joined front (bind t x' back)) e) i

-- and so do those before one that joins
abbrev pub QuietAfterJoin : Type 0
QuietAfterJoin =
    (front : Group) (t : TypeTree) (cs : Group) (x : TermTree) (back : Group) (e : TermTree)
    (i : ℕ)
    → i < size_of front
    → IsQuietSide (letrec (joined front (bind t (letrec cs x) back)) e) i
    → IsQuietSide
    (letrec (side_joined front t cs x back) (shift e (suc (size_of back)) (size_of cs))) i
