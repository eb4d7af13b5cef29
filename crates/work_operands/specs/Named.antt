-- Terms in which a part has a name.
use Rattle.std.specs.Prelude.{ℕ, List, set}
use Rattle.chw_types.specs.TypeTree.{TypeTree}
use Rattle.chw_terms.specs.declared.term.Alt.{Alt}
use Rattle.chw_terms.specs.declared.term.Arg.{Arg}
use Rattle.chw_terms.specs.declared.term.Arg.TheVariants.{OfTerm}
use Rattle.chw_terms.specs.TermMoves.{shift}
use Rattle.chw_terms.specs.TermTree.{TermTree, var, letrec, no_bindings, bind, binders}
use Rattle.chw_terms.specs.TermView.{applied}
use Rattle.rewriting.specs.Shapes.{shift_args}

-- the let of one name of this type for a term, which stands outside of it
abbrev pub let_of : TypeTree → TermTree → TermTree → TermTree
let_of t x e = letrec (bind t (shift x 0 1) no_bindings) e

-- a head on arguments, with a name of this type for the term that is the argument of this number
abbrev pub with_arg_named : TermTree → List Arg → ℕ → TypeTree → TermTree → TermTree
with_arg_named h args i t x =
    let_of t x (applied h (set (shift_args args 0 1) i (OfTerm (var 0))))

-- an alternative under one more binder
abbrev pub alt_under_one : Alt → Alt
alt_under_one it =
    record { pattern = it.pattern; body = shift it.body (binders it.pattern) 1 }
