-- What a walk over a term gathers.
use Rattle.std.specs.Prelude.{ℕ, List, [], ◌++◌, map}
use Rattle.chw_base.specs.declared.index.VarIx.{VarIx}
use Rattle.chw_terms.specs.declared.term.Arg.{Arg}
use Rattle.chw_terms.specs.declared.term.Arg.TheVariants.{OfTerm, OfType}
use Rattle.chw_terms.specs.declared.term.Alt.{Alt}
use Rattle.chw_terms.specs.TermTree.{binders}
use Rattle.chw_terms.specs.FreeVariables.{outside, occurrences}

-- the numbers of variables
abbrev pub numbers_of : List VarIx → List ℕ
numbers_of vs = map (λ v. v.number) vs

-- variables met under n binders, behind those met before: each that is free there
abbrev pub gathered : ℕ → List ℕ → List ℕ → List ℕ
gathered n xs seen = seen ++ outside n xs

-- the occurrences in an argument
abbrev pub in_arg : Arg → List ℕ
in_arg (OfTerm e) = occurrences e
in_arg (OfType t) = []

-- those in an alternative, outside of its pattern
abbrev pub in_alt : Alt → List ℕ
in_alt a = outside (binders a.pattern) (occurrences a.body)
