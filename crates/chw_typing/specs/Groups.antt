-- Groups of bindings and alternatives, as rules take them apart and join them.
use Rattle.std.specs.Prelude.{◌≡◌, ℕ, zero, suc, ◌-◌, ◌<◌, true, List, [], ◌∷◌, Option, Some, None}
use Rattle.chw_types.specs.TypeTree.{TypeTree}
use Rattle.chw_types.specs.TypeMoves.{Renaming}
use Rattle.chw_terms.specs.declared.term.Arg.{Arg}
use Rattle.chw_terms.specs.declared.term.Arg.TheVariants.{OfTerm, OfType}
use Rattle.chw_terms.specs.declared.term.Pattern.{Pattern}
use Rattle.chw_terms.specs.TermTree.{TermTree, Group, no_bindings, bind, size_of}
use Rattle.chw_terms.specs.TermTree.{Alts, no_alts, alt, binders}
use Rattle.chw_terms.specs.TermMoves.{rename}
use Rattle.chw_terms.specs.Occurs.{occurs}

-- one group before another
abbrev pub joined : Group → Group → Group
joined no_bindings h = h
joined (bind t e g) h = bind t e (joined g h)

-- the declared type and the right side of the binding of this number
abbrev pub binding_at : Group → ℕ → Option (TypeTree × TermTree)
binding_at no_bindings i = None
binding_at (bind t e g) zero = Some (t, e)
binding_at (bind t e g) (suc i) = binding_at g i

-- the binding of this number is reached: its variable occurs in the body or in a reached right side
pub data Reached (g : Group) (e : TermTree) : ℕ → Type 0 where
  from_body : {i : ℕ} → i < size_of g → occurs e (size_of g - 1 - i) ≡ true → Reached g e i
  from_side : {i j : ℕ} {b : TypeTree × TermTree} → Reached g e j → binding_at g j ≡ Some b
      → i < size_of g → occurs b.1 (size_of g - 1 - i) ≡ true → Reached g e i

-- the alternatives with each body changed, by how many variables its pattern binds
abbrev pub each_body : (ℕ → TermTree → TermTree) → Alts → Alts
each_body f no_alts = no_alts
each_body f (alt q e more) = alt q (f (binders q) e) (each_body f more)

-- the patterns, the first one first
abbrev pub patterns : Alts → List Pattern
patterns no_alts = []
patterns (alt q e more) = q ∷ patterns more

-- an argument with its variables renamed
abbrev pub rename_arg : Renaming → Arg → Arg
rename_arg ρ (OfTerm e) = OfTerm (rename e ρ)
rename_arg ρ (OfType t) = OfType t
