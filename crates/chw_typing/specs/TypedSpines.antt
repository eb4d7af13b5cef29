-- From the type of a head, along its arguments, to the type of the spine.
use Rattle.std.specs.Prelude.{List, [], ◌∷◌}
use Rattle.chw_types.specs.declared.kind.Kind.{Kind}
use Rattle.chw_types.specs.TypeTree.{TypeTree, fun, for_all}
use Rattle.chw_types.specs.TypeMoves.{put}
use Rattle.chw_types.specs.SameTypes.{SameTypes}
use Rattle.chw_terms.specs.declared.term.Arg.{Arg}
use Rattle.chw_terms.specs.declared.term.Arg.TheVariants.{OfTerm, OfType}
use Rattle.chw_terms.specs.TermTree.{TermTree}
use Rattle.chw_typing.specs.Scopes.{Setting, HasKind}
use Rattle.chw_typing.specs.Typing.{HasType}

-- a term of the first type, applied to these arguments, has the second
pub data AtArguments (s : Setting) (kinds : List Kind) (vars : List TypeTree)
    : TypeTree → List Arg → TypeTree → Type 0 where
  at_none : {t : TypeTree} → AtArguments s kinds vars t [] t
  at_term : {b c d t : TypeTree} {a : TermTree} {args : List Arg}
      → HasType s kinds vars a c → SameTypes b c → AtArguments s kinds vars d args t
      → AtArguments s kinds vars (fun b d) (OfTerm a ∷ args) t
  at_type : {j k : Kind} {a b t u : TypeTree} {args : List Arg}
      → HasKind s kinds a j → SameTypes (put b 0 a) u → HasKind s kinds u k
      → AtArguments s kinds vars u args t
      → AtArguments s kinds vars (for_all j b) (OfType a ∷ args) t
