-- What tests on types tell of terms.
use Rattle.std.proofs.Common.{◌↔◌, IsTrue, Bool, false, List}
use Rattle.chw_types.specs.declared.kind.Kind.{Kind}
use Rattle.chw_types.specs.TypeTree.{TypeTree}
use Rattle.chw_types.specs.SameTypes.{SameTypes}
use Rattle.chw_types.proofs.SameLaws.{same_through}
use Rattle.chw_terms.specs.TermTree.{TermTree}
use Rattle.chw_typing.specs.Scopes.{Setting}
use Rattle.chw_typing.specs.Typing.{HasTypeUpTo}
use Rattle.term_types.specs.Answers.{HasNoType, IsTyped, IsReady}
use Rattle.seen_types.specs.declared.found.Found.{Found}
use Rattle.chw_typing.proofs.FoundTyped.{found_is_type}
use Rattle.term_types.proofs.Ready.{one}

pub up_to_told : {s : Setting} {kinds : List Kind} {vars : List TypeTree} {e : TermTree} (t : TypeTree) (f : Found) (r : Bool) → IsReady s kinds vars → IsTyped s kinds vars e f → (IsTrue r ↔ SameTypes t f.ty) → (IsTrue r ↔ HasTypeUpTo s kinds vars e t)
up_to_told t f r h d told = (λ y. record { type = f.ty; has = found_is_type d.0; same = told.0 y }, λ u. told.1 (same_through u.same (one h u.has (found_is_type d.0))))

pub up_to_none : {s : Setting} {kinds : List Kind} {vars : List TypeTree} {e : TermTree} (t : TypeTree) → HasNoType s kinds vars e → (IsTrue false ↔ HasTypeUpTo s kinds vars e t)
up_to_none t never = (λ y. absurd (cc), λ u. absurd (never u.type u.has))
