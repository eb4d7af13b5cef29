-- The alternatives of a case, as they are walked.
use Rattle.std.specs.Prelude.{◌≡◌, List, [], ◌∷◌, Option, Some, None, MatchOption}
use Rattle.chw_types.specs.declared.kind.Kind.{Kind}
use Rattle.chw_types.specs.TypeTree.{TypeTree}
use Rattle.chw_types.specs.Kinds.{HasFunctions}
use Rattle.chw_types.specs.SameTypes.{SameTypes}
use Rattle.chw_terms.specs.declared.term.Alt.{Alt}
use Rattle.chw_terms.specs.TermView.{alts_of}
use Rattle.chw_typing.specs.Scopes.{Setting, with_more}
use Rattle.chw_typing.specs.Typing.{Binds, HasType, AllGive}
use Rattle.seen_types.specs.declared.found.Found.{Found}
use Rattle.term_types.specs.Answers.{IsTyped}
use Rattle.term_types.specs.Binding.{BindsFound}

-- the alternative is one for values of the type u, and this is found for what it gives
pub record Gives (s : Setting) (kinds : List Kind) (vars : List TypeTree) (u : TypeTree) (a : Alt) (f : Found) : Type 0 where
  pub bound : List TypeTree
  pub binds : BindsFound s kinds u a.pattern bound
  pub typed : IsTyped s kinds (with_more bound vars) a.body f

-- it is none, or it has no type
abbrev pub GivesNothing : Setting → List Kind → List TypeTree → TypeTree → Alt → Type 0
GivesNothing s kinds vars u a =
    (bound : List TypeTree) (t : TypeTree) → Binds s kinds u a.pattern bound → HasType s kinds (with_more bound vars) a.body t → ⊥

-- the type of the first alternative is kept where the next has it too; the first one's kind goes with that of what is looked at
abbrev pub IsJoined : Found → Option Found → Found → Option Found → Type 0
IsJoined on (Some first) next r = MatchOption r (SameTypes first.ty next.ty → ⊥) (λ f. (f ≡ first) × SameTypes first.ty next.ty)
IsJoined on None next r = MatchOption r (HasFunctions on.kind next.kind → ⊥) (λ f. (f ≡ next) × HasFunctions on.kind next.kind)

-- what these alternatives give together: nothing where there are none
abbrev pub GiveTogether : Setting → List Kind → List TypeTree → Found → List Alt → Option Found → Type 0
GiveTogether s kinds vars on [] None = Unit {0}
GiveTogether s kinds vars on (a ∷ more) (Some f) = Gives s kinds vars on.ty a f × HasFunctions on.kind f.kind × AllGive s kinds vars on.ty f.ty (alts_of more)
GiveTogether s kinds vars on _ _ = ⊥
