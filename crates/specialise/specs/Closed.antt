-- Terms with their variables renamed and origins for made definitions.
use Rattle.std.specs.Prelude.{ℕ, List, map}
use Rattle.chw_base.specs.declared.index.VarIx.{VarIx}
use Rattle.chw_types.specs.TypeMoves.{Renaming, lift_by}
use Rattle.chw_terms.specs.declared.term.Alt.{Alt}
use Rattle.chw_terms.specs.declared.term.Arg.{Arg}
use Rattle.chw_terms.specs.declared.term.Arg.TheVariants.{OfTerm, OfType}
use Rattle.chw_terms.specs.declared.term.Binding.{Binding}
use Rattle.chw_terms.specs.TermMoves.{rename}
use Rattle.chw_terms.specs.TermTree.{TermTree, binders}
use Rattle.rewriting.specs.Origins.{Origins, origin_of}

-- the numbers of variables
abbrev pub numbers : List VarIx → List ℕ
numbers xs = map (λ (x : VarIx). x.number) xs

-- a term, renamed, with origins for made definitions
abbrev pub closed : Origins → Renaming → TermTree → TermTree
closed o ρ e = origin_of o (rename e ρ)

-- an argument, a binding and an alternative likewise
abbrev pub closed_arg : Origins → Renaming → Arg → Arg
closed_arg o ρ (OfTerm e) = OfTerm (closed o ρ e)
closed_arg o ρ (OfType t) = OfType t

abbrev pub closed_binding : Origins → Renaming → Binding → Binding
closed_binding o ρ b = record { ty = b.ty; body = closed o ρ b.body }

abbrev pub closed_alt : Origins → Renaming → Alt → Alt
closed_alt o ρ a =
    record { pattern = a.pattern; body = closed o (lift_by (binders a.pattern) ρ) a.body }
