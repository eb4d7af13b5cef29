-- Letrecs without arguments on which no rule acts.
use Rattle.std.specs.Prelude.{◌≡◌, ℕ, ◌<◌, true, List}
use Rattle.std.specs.List.{AllByRecursion}
use Rattle.chw_types.specs.declared.declarations.Data.{Data}
use Rattle.chw_terms.specs.declared.rule.Rule.{Rule}
use Rattle.chw_terms.specs.declared.rule.Rule.TheVariants.{Flat, Dead, Inline}
use Rattle.chw_terms.specs.declared.scene.Mode.{Mode}
use Rattle.chw_terms.specs.Occurs.{occurs}
use Rattle.chw_terms.specs.TermTree.{TermTree, Group, size_of}
use Rattle.chw_typing.specs.Groups.{Reached}
use Rattle.chw_typing.specs.Scopes.{declared}
use Rattle.rewriting.specs.Named.{IsNamed}
use Rattle.rewriting.specs.Shapes.{IsLet, NoLetIn}

-- the rules on letrecs
abbrev pub IsOnLetrecs : Rule → Type 0
IsOnLetrecs Flat = Unit {0}
IsOnLetrecs Dead = Unit {0}
IsOnLetrecs Inline = Unit {0}
IsOnLetrecs _ = ⊥

-- the body reaches each binding
abbrev pub AllReached : Group → TermTree → Type 0
AllReached g e = (i : ℕ) → i < size_of g → Reached g e i

-- each binding has a type that is named in this mode
abbrev pub AllNamed : List Data → Mode → Group → Type 0
AllNamed datas mode g = AllByRecursion (IsNamed datas mode) (declared g)

-- of the first so many variables each that occurs in the first term occurs in the second
abbrev pub KeepsVariables : ℕ → TermTree → TermTree → Type 0
KeepsVariables n x x' = (v : ℕ) → v < n → occurs x v ≡ true → occurs x' v ≡ true

-- of a letrec no right side is a letrec, and the body is none; each binding is reached and has a
-- named type
pub record IsAtRest (datas : List Data) (mode : Mode) (g : Group) (e : TermTree) : Type 0 where
  pub sides : NoLetIn g
  pub body : IsLet e → ⊥
  pub reached : AllReached g e
  pub named : AllNamed datas mode g
