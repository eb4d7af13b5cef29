-- The kinds of what is applied.
use Rattle.std.proofs.Common.{◌≡◌, [], List}
use Rattle.chw_types.specs.declared.kind.Kind.{Kind}
use Rattle.chw_types.specs.declared.kind.Kind.TheVariants.{Nat, Dom, Val, Cir}
use Rattle.chw_types.specs.TypeTree.{TypeTree, for_all}
use Rattle.chw_types.specs.TypeMoves.{put, put_at}
use Rattle.chw_types.specs.Kinds.{HasFunctions}
use Rattle.chw_types.specs.SameTypes.{SameTypes}
use Rattle.type_laws.proofs.KindsExact.{put_at_kinds}
use Rattle.chw_typing.specs.Scopes.{Setting, HasKind}
use Rattle.chw_typing.proofs.Kinded.{bound_part}
use Rattle.chw_typing.proofs.PutKinds.{same_kind_put}

pub functions_compose : (i j k : Kind) → HasFunctions i j → HasFunctions j k → HasFunctions i k
functions_compose Val Val k h g = g
functions_compose Val Cir Cir h g = tt
functions_compose Cir Cir k h g = g
functions_compose Val Cir Nat h g = absurd g
functions_compose Val Cir Dom h g = absurd g
functions_compose Val Cir Val h g = absurd g
functions_compose Val Nat k h g = absurd h
functions_compose Val Dom k h g = absurd h
functions_compose Cir Nat k h g = absurd h
functions_compose Cir Dom k h g = absurd h
functions_compose Cir Val k h g = absurd h
functions_compose Nat j k h g = absurd h
functions_compose Dom j k h g = absurd h

pub type_applied_kind : (s : Setting) (kinds : List Kind) (t a u : TypeTree) (i j k : Kind) → HasKind s kinds (for_all j t) k → HasKind s kinds a j → SameTypes (put t 0 a) u → HasKind s kinds u i → i ≡ k
type_applied_kind s kinds t a u i j k d l x m = same_kind_put (bound_part d).0 (put_at 0 a) kinds (put_at_kinds s.datas s.domains [] kinds a j l) u i x m
