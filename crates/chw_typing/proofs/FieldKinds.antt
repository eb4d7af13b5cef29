-- The kinds of fields with closed arguments put in.
use Rattle.std.proofs.Common.{◌≡◌, ℕ, List, [], reverse}
use Rattle.std.specs.Prelude.{Some}
use Rattle.std.specs.List.{slice_get}
use Rattle.chw_types.specs.declared.kind.Kind.{Kind}
use Rattle.chw_types.specs.declared.declarations.Data.{Data}
use Rattle.chw_types.specs.TypeTree.{TypeTree, TypeTrees}
use Rattle.chw_types.specs.TypeMoves.{sub}
use Rattle.chw_types.specs.Arguments.{arguments}
use Rattle.chw_types.specs.Kinds.{KindsOf}
use Rattle.chw_types.proofs.KindsKept.{Puts, kind_put, closed_small}
use Rattle.type_laws.proofs.Arguing.{kinds_of_arguments}
use Rattle.chw_terms.specs.References.{IsField}
use Rattle.chw_typing.specs.Scopes.{Setting, HasKind}
use Rattle.chw_typing.specs.Programs.{IsSound}

-- closed arguments may be put into what has a kind over the parameters
closed_puts : (s : Setting) (params : List Kind) (ts : TypeTrees) → KindsOf s.datas s.domains [] ts params → Puts s.datas s.domains (arguments ts) (reverse params) []
closed_puts s params ts h x k e = let d = kinds_of_arguments s.datas s.domains [] params ts h x k e in (d, closed_small d)

pub closed_put : (s : Setting) (params : List Kind) (ts : TypeTrees) (f : TypeTree) (k : Kind) → KindsOf s.datas s.domains [] ts params → HasKind s (reverse params) f k → HasKind s [] (sub f (arguments ts)) k
closed_put s params ts f k h d = kind_put d (arguments ts) [] (closed_puts s params ts h)

pub field_kind : (s : Setting) → IsSound s → (d : ℕ) (it : Data) (ts : TypeTrees) (f : TypeTree) → slice_get s.datas d ≡ Some it → IsField it f → KindsOf s.datas s.domains [] ts it.params → (k : Kind) × HasKind s (reverse it.params) f k × HasKind s [] (sub f (arguments ts)) k
field_kind s sound d it ts f known field kinds =
    let typed = sound.fields d it f known field in
    (typed.kind, typed.has, closed_put s it.params ts f typed.kind kinds typed.has)
