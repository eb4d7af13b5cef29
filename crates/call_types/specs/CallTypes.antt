-- The types of calls on terms, by the types of their heads.
use Rattle.std.specs.Prelude.{List, [], ◌∷◌, Option, Some, None}
use Rattle.std.specs.List.{slice_get}
use Rattle.chw_types.specs.TypeTree.{TypeTree, fun}
use Rattle.chw_terms.specs.declared.term.Arg.{Arg}
use Rattle.chw_terms.specs.declared.term.Arg.TheVariants.{OfTerm, OfType}
use Rattle.chw_terms.specs.TermTree.{TermTree, var, global, made, app}
use Rattle.chw_typing.specs.Scopes.{Setting}

-- what a function of this type gives
abbrev pub given : Option TypeTree → Option TypeTree
given (Some (fun a b)) = Some b
given _ = None

-- what it gives on all of these arguments, which are terms
abbrev pub given_by_each : Option TypeTree → List Arg → Option TypeTree
given_by_each t [] = t
given_by_each t (OfTerm e ∷ args) = given_by_each (given t) args
given_by_each t (OfType a ∷ args) = None

-- the type of a call on terms: the declared type of its head, behind its arguments
abbrev pub call_type : Setting → List TypeTree → TermTree → Option TypeTree
call_type s vars (var x) = slice_get vars x
call_type s vars (global d) = slice_get s.defs d
call_type s vars (made m) = slice_get s.made m
call_type s vars (app f e) = given (call_type s vars f)
call_type s vars _ = None
