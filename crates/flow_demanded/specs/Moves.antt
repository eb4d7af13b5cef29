-- Primitives that move to the inside of one of their arguments.
use Rattle.std.specs.Prelude.{ℕ, List, set}
use Rattle.chw_prims.specs.declared.prim.Primitive.{Primitive as Prim}
use Rattle.chw_terms.specs.declared.term.Alt.{Alt}
use Rattle.chw_terms.specs.declared.term.Arg.{Arg}
use Rattle.chw_terms.specs.declared.term.Arg.TheVariants.{OfTerm}
use Rattle.chw_terms.specs.TermTree.{TermTree, prim, binders}
use Rattle.chw_terms.specs.TermView.{applied}
use Rattle.rewriting.specs.Shapes.{shift_args}

-- the primitive under n more binders, with e, which stands there, for its argument of this number
abbrev pub on_arg : Prim → List Arg → ℕ → ℕ → TermTree → TermTree
on_arg p args i n e = applied (prim p) (set (shift_args args 0 n) i (OfTerm e))

-- an alternative with the primitive on its body
abbrev pub alt_on_arg : Prim → List Arg → ℕ → Alt → Alt
alt_on_arg p args i it =
    record { pattern = it.pattern; body = on_arg p args i (binders it.pattern) it.body }
