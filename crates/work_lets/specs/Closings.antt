-- Where the variables of a letrec come when bindings go.
use Rattle.std.specs.Prelude.{ℕ, zero, suc, ◌+◌, Bool, cond, List, [], ◌∷◌}
use Rattle.chw_types.specs.TypeMoves.{Renaming, lift_by}
use Rattle.chw_terms.specs.declared.term.Alt.{Alt}
use Rattle.chw_terms.specs.declared.term.Arg.{Arg}
use Rattle.chw_terms.specs.declared.term.Arg.TheVariants.{OfTerm, OfType}
use Rattle.chw_terms.specs.declared.term.Binding.{Binding}
use Rattle.chw_terms.specs.declared.term.Head.{Head}
use Rattle.chw_terms.specs.declared.term.Head.TheVariants.{Global, Made, Con, PrimOf, Lit}
use Rattle.chw_terms.specs.TermMoves.{rename}
use Rattle.chw_terms.specs.TermTree.{TermTree, binders}
use Rattle.work_lets.specs.declared.closing.Closing.{Closing}

-- a variable with a place in the table comes there; the first one behind comes to this number
abbrev pub by_table : List ℕ → ℕ → Renaming
by_table [] left x = left + x
by_table (place ∷ places) left zero = place
by_table (place ∷ places) left (suc x) = by_table places left x

abbrev pub closes : Closing → Renaming
closes c = by_table c.places.items c.left

-- one more, where one more stays
abbrev pub one_more : ℕ → Bool → ℕ
one_more left stays = cond stays (suc left) left

-- a term with its variables closed up, under so many binders
abbrev pub closed : Closing → ℕ → TermTree → TermTree
closed c at e = rename e (lift_by at (closes c))

-- an argument
abbrev pub closed_arg : Closing → ℕ → Arg → Arg
closed_arg c at (OfTerm e) = OfTerm (closed c at e)
closed_arg c at (OfType t) = OfType t

-- a binding; the binders of the group are already passed
abbrev pub closed_binding : Closing → ℕ → Binding → Binding
closed_binding c at b = record { ty = b.ty; body = closed c at b.body }

-- an alternative
abbrev pub closed_alt : Closing → ℕ → Alt → Alt
closed_alt c at q =
    record { pattern = q.pattern; body = closed c (at + binders q.pattern) q.body }

-- a head without variables and parts
abbrev pub IsLeaf : Head → Type 0
IsLeaf (Global d) = Unit {0}
IsLeaf (Made m) = Unit {0}
IsLeaf (Con c) = Unit {0}
IsLeaf (PrimOf p) = Unit {0}
IsLeaf (Lit s bs) = Unit {0}
IsLeaf _ = ⊥
