-- What is found for terms at arguments.
use Rattle.std.specs.Prelude.{List, Option, MatchOption}
use Rattle.chw_types.specs.declared.kind.Kind.{Kind}
use Rattle.chw_types.specs.TypeTree.{TypeTree}
use Rattle.chw_terms.specs.TermTree.{TermTree}
use Rattle.chw_typing.specs.Scopes.{Setting}
use Rattle.term_spines.specs.Spines.{spine_found}
use Rattle.term_spines.specs.declared.spines.Spine.{Spine}
use Rattle.term_types.specs.Answers.{HasNoType, IsTyped}

-- what is found for the term, or nothing where the term has no type
abbrev pub IsSpineOf : Setting → List Kind → List TypeTree → TermTree → Option Spine → Type 0
IsSpineOf s kinds vars e r =
    MatchOption r (HasNoType s kinds vars e) (λ p. IsTyped s kinds vars e (spine_found p))
