-- The first binding that is put for its name.
use Rattle.std.specs.Prelude.{◌≡◌, ◌⊎◌, ℕ, suc, true, false, List, ◌∷◌, ◌++◌, map, length}
use Rattle.std.specs.Prelude.{Option, MatchOption}
use Rattle.chw_types.specs.declared.declarations.Data.{Data}
use Rattle.chw_terms.specs.declared.scene.Mode.{Mode}
use Rattle.chw_terms.specs.declared.term.Binding.{Binding}
use Rattle.chw_terms.specs.Occurs.{occurs}
use Rattle.chw_terms.specs.TermMoves.{sub, in_place_of}
use Rattle.chw_terms.specs.TermTree.{TermTree}
use Rattle.chw_terms.specs.TermView.{group_of}
use Rattle.rewriting.specs.Named.{IsNamed}
use Rattle.rewriting.specs.Lets.{EachStays}
use Rattle.rewriting.specs.Shapes.{or_body}

-- a binding of a type that isn't named, behind which so many more stand, and which doesn't occur in
-- its own right side
abbrev pub Goes : List Data → Mode → Binding → ℕ → Type 0
Goes datas mode b behind = (IsNamed datas mode b.ty → ⊥) × (occurs b.body behind ≡ false)

-- any other one
abbrev pub Stays : List Data → Mode → Binding → ℕ → Type 0
Stays datas mode b behind = IsNamed datas mode b.ty ⊎ (occurs b.body behind ≡ true)

-- the first such binding has this place
pub record IsFirst (datas : List Data) (mode : Mode) (bindings : List Binding) (place : ℕ) : Type 0
  where
    pub front : List Binding
    pub binding : Binding
    pub back : List Binding
    pub are : bindings ≡ front ++ binding ∷ back
    pub is : place ≡ length front
    pub stay : EachStays datas mode (group_of front) (suc (length back))
    pub goes : Goes datas mode binding (length back)

-- the answer is its place, or nothing where there is none
abbrev pub AnswersFirst : List Data → Mode → List Binding → Option ℕ → Type 0
AnswersFirst datas mode bindings answer =
    MatchOption answer
    (EachStays datas mode (group_of bindings) 0)
    (IsFirst datas mode bindings)

-- the binding with a term put for a variable
abbrev pub put_in : ℕ → TermTree → Binding → Binding
put_in at a b = record { ty = b.ty; body = sub b.body (in_place_of at a) }

-- the letrec of these bindings, with the term put for the variable; the body alone where there are
-- none
abbrev pub put_for_name : List Binding → List Binding → TermTree → ℕ → TermTree → TermTree
put_for_name front back e at a =
    or_body (group_of (map (put_in at a) (front ++ back))) (sub e (in_place_of at a))
