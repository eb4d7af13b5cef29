-- What a walk makes of the parts of a term.
use Rattle.std.specs.Prelude.{ℕ, ◌+◌}
use Rattle.chw_types.specs.TypeMoves.{Renaming, lift_by}
use Rattle.chw_terms.specs.declared.term.Alt.{Alt}
use Rattle.chw_terms.specs.declared.term.Binding.{Binding}
use Rattle.chw_terms.specs.TermMoves.{rename}
use Rattle.chw_terms.specs.TermTree.{TermTree, binders}

-- a term under so many more binders than those that are passed
abbrev pub renamed : Renaming → ℕ → ℕ → TermTree → TermTree
renamed ρ at binders e = rename e (lift_by (at + binders) ρ)

-- a binding; the binders of the group are already passed
abbrev pub renamed_binding : Renaming → Binding → Binding
renamed_binding ρ b = record b { body = rename b.body ρ }

-- an alternative
abbrev pub renamed_alt : Renaming → ℕ → Alt → Alt
renamed_alt ρ at a = record a { body = renamed ρ at (binders a.pattern) a.body }
