-- Alternatives of a scrutinee, and with a result, of a type that is the same up to naturals.
use Rattle.std.proofs.Common.{List}
use Rattle.chw_types.specs.declared.kind.Kind.{Kind}
use Rattle.chw_types.specs.TypeTree.{TypeTree}
use Rattle.chw_types.specs.SameTypes.{SameTypes}
use Rattle.chw_types.proofs.SameLaws.{same_turned, same_through}
use Rattle.chw_terms.specs.TermTree.{Alts}
use Rattle.chw_typing.specs.Scopes.{Setting, HasKind}
use Rattle.chw_typing.specs.Programs.{IsSound}
use Rattle.chw_typing.specs.Typing.{AllGive, none_give, give_and}
use Rattle.chw_typing.proofs.Patterns.{binds_same}

pub all_give_same : {s : Setting} {kinds : List Kind} {vars : List TypeTree} {u t v w : TypeTree} {alts : Alts} → AllGive s kinds vars u t alts → IsSound s → (j : Kind) → HasKind s kinds u j → SameTypes u v → SameTypes t w → AllGive s kinds vars v w alts
all_give_same none_give h j l x y = none_give
all_give_same {v = v} (give_and b d z ds) h j l x y = give_and (binds_same b h j v l x) d (same_through (same_turned y) z) (all_give_same ds h j l x y)
