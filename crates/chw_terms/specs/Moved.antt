-- What a walk over a term makes of it: a term renamed, with a term put for a variable, or with a type put for a type variable.
use Rattle.std.specs.Prelude.{ℕ, ◌+◌, ◌*◌}
use Rattle.chw_types.specs.TypeTree.{TypeTree}
use Rattle.chw_types.specs.TypeMoves.{Renaming, lift_by, raised, shift as shift_type, put as put_type}
use Rattle.chw_terms.specs.declared.moves.Move.{Move}
use Rattle.chw_terms.specs.declared.moves.Move.TheVariants.{Rename, PutTerm, PutType}
use Rattle.chw_terms.specs.declared.moves.Renumbering.{Renumbering}
use Rattle.chw_terms.specs.declared.moves.Renumbering.TheVariants.{Raise, Lower, Exchange}
use Rattle.chw_terms.specs.declared.term.Head.{Head}
use Rattle.chw_terms.specs.declared.term.Head.TheVariants.{Global, Made, Con, PrimOf, Lit}
use Rattle.chw_terms.specs.declared.term.Binding.{Binding}
use Rattle.chw_terms.specs.declared.term.Alt.{Alt}
use Rattle.chw_terms.specs.declared.term.Arg.{Arg}
use Rattle.chw_terms.specs.declared.term.Arg.TheVariants.{OfTerm, OfType}
use Rattle.chw_terms.specs.TermTree.{TermTree, binders}
use Rattle.chw_terms.specs.TermSize.{tree_size}
use Rattle.chw_terms.specs.TypesMoved.{rename_types, shift_types, put_types}
use Rattle.chw_terms.specs.TermMoves.{rename, up_by, sub, in_place_of, lowered, exchanged}
use Rattle.chw_terms.specs.Evaluated.{evaluated, evaluated_in}

-- the renaming of the variables from a place on
abbrev pub renumbered : Renumbering → ℕ → Renaming
renumbered (Raise by) at = raised at by
renumbered Lower at = lowered at
renumbered (Exchange m n) at = lift_by at (exchanged m n)

-- the variables renamed, and the type variables at or above a type place raised
abbrev pub renamed : Renaming → ℕ → ℕ → TermTree → TermTree
renamed ρ types_by types e = rename_types (rename e ρ) (raised types types_by)

-- a term from outside of so many binders and type binders, put for the variable that v is there
abbrev pub put_under : ℕ → TermTree → ℕ → ℕ → TermTree → TermTree
put_under v a at types e = sub e (up_by at (in_place_of v (shift_types a 0 types)))

-- a type put for a type variable, and closed naturals evaluated
abbrev pub typed : TypeTree → ℕ → TermTree → TermTree
typed a types e = evaluated_in (put_types e types a)

-- a term, moved from a place and a type place on
abbrev pub moved : Move → ℕ → ℕ → TermTree → TermTree
moved (Rename r types_by) at types e = renamed (renumbered r at) types_by types e
moved (PutTerm v a) at types e = put_under v a.now at types e
moved (PutType a) at types e = typed a.now types e

-- a type of a term, moved from a type place on
abbrev pub moved_type : Move → ℕ → TypeTree → TypeTree
moved_type (Rename r types_by) types t = shift_type t types types_by
moved_type (PutTerm v a) types t = t
moved_type (PutType a) types t = evaluated (put_type t types a.now)

-- an argument
abbrev pub moved_arg : Move → ℕ → ℕ → Arg → Arg
moved_arg m at types (OfTerm e) = OfTerm (moved m at types e)
moved_arg m at types (OfType t) = OfType (moved_type m types t)

-- a binding; the binders of the group are already passed
abbrev pub moved_binding : Move → ℕ → ℕ → Binding → Binding
moved_binding m at types b = record { ty = moved_type m types b.ty; body = moved m at types b.body }

-- an alternative
abbrev pub moved_alt : Move → ℕ → ℕ → Alt → Alt
moved_alt m at types q = record { pattern = q.pattern; body = moved m (at + binders q.pattern) types q.body }

-- what a walk may go through besides the term: the term that is put
abbrev pub weight : Move → ℕ
weight (Rename r types_by) = 0
weight (PutTerm v a) = 4 * tree_size a.now + 4
weight (PutType a) = 0

-- a head without variables, types and parts
abbrev pub IsLeaf : Head → Type 0
IsLeaf (Global d) = Unit {0}
IsLeaf (Made m) = Unit {0}
IsLeaf (Con c) = Unit {0}
IsLeaf (PrimOf p) = Unit {0}
IsLeaf (Lit s bs) = Unit {0}
IsLeaf _ = ⊥
