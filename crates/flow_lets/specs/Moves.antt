-- Bindings whose variables move.
use Rattle.std.specs.Prelude.{ℕ}
use Rattle.chw_types.specs.TypeTree.{TypeTree}
use Rattle.chw_terms.specs.declared.term.Binding.{Binding}
use Rattle.chw_terms.specs.TermMoves.{rename, shift, exchanged}
use Rattle.chw_terms.specs.TermTree.{TermTree}

-- room for more variables
abbrev pub raised_side : ℕ → ℕ → Binding → Binding
raised_side c by b = record { ty = b.ty; body = shift b.body c by }

-- the first m variables and the next n change places
abbrev pub exchanged_side : ℕ → ℕ → TypeTree → TermTree → Binding
exchanged_side m n t x = record { ty = t; body = rename x (exchanged m n) }
