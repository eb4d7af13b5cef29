-- The first rule with an instance on a term at a place.
use Rattle.std.specs.Prelude.{◌≡◌, ◌<◌, List, [], ◌∷◌, ◌++◌, Option, None, Some}
use Rattle.std.specs.Prelude.{IfSome, MatchOption, Contains}
use Rattle.chw_types.specs.TypeTree.{TypeTree}
use Rattle.chw_terms.specs.declared.program.Program.{Program}
use Rattle.chw_terms.specs.declared.rule.Rule.{Rule}
use Rattle.chw_terms.specs.declared.rule.Rule.TheVariants.{TyBeta, Beta, AppLet, AppCase}
use Rattle.chw_terms.specs.declared.rule.Rule.TheVariants.{CaseCon, CaseLet, CaseCase, Proj}
use Rattle.chw_terms.specs.declared.rule.Rule.TheVariants.{PrimLet, PrimCase, Flat, Dead, Inline}
use Rattle.chw_terms.specs.declared.rule.Rule.TheVariants.{Unfold, Unroll, Elem, Delta, ApPure}
use Rattle.chw_terms.specs.declared.rule.Rule.TheVariants.{Eta, Spec, Anf}
use Rattle.chw_terms.specs.declared.scene.Made.{Made}
use Rattle.chw_terms.specs.declared.scene.Scene.{Scene}
use Rattle.chw_terms.specs.TermTree.{TermTree}
use Rattle.chw_typing.specs.Scopes.{Setting}
use Rattle.chw_typing.specs.Typing.{HasType}
use Rattle.rewriting.specs.Origins.{Origins}
use Rattle.rewriting.specs.Spots.{Spot}
use Rattle.rewriting.specs.Instances.{HasInstance}
use Rattle.rewriting.specs.Runs.{After}
use Rattle.rewriting.specs.Steps.{number_of, origins_in}
use Rattle.made_table.specs.Held.{HoldsNone}
use Rattle.trials.specs.declared.trial.Change.{Change}
use Rattle.trials.specs.declared.trial.Change.TheVariants.{Put, Join}
use Rattle.trials.specs.declared.trial.Trial.{Trial}

-- the rules, in their order
abbrev pub built : List Rule
built =
    TyBeta ∷ Beta ∷ AppLet ∷ AppCase ∷ CaseCon ∷ CaseLet ∷ CaseCase ∷ Proj ∷ PrimLet ∷ PrimCase
    ∷ Flat ∷ Dead ∷ Inline ∷ Unfold ∷ Unroll ∷ Elem ∷ Delta ∷ ApPure ∷ Eta ∷ Spec ∷ Anf ∷ []

-- the term has a type, with variables of these types in scope
abbrev pub HasSomeType : Setting → List TypeTree → TermTree → Type 0
HasSomeType s vars e = (t : TypeTree) × HasType s [] vars e t

-- none of the rules has an instance on the term at the place
abbrev pub HasNoInstance : List Rule → Origins → Spot → TermTree → Type 0
HasNoInstance rules o at e =
    (r : Rule) (e' : TermTree) → Contains rules r → HasInstance o at r e e' → ⊥

-- the made definitions, with this one at the end where there is one
abbrev pub with_new : List Made → Option Made → List Made
with_new made None = made
with_new made (Some it) = made ++ it ∷ []

-- what the rule adds to these made definitions where it makes something of the term at the place: a
-- definition whose origin none of them has, or none
pub record Adds (p : Program) (made : List Made) (at : Spot) (e : TermTree) (rule : Rule)
    (definition : Option Made) : Type 0 where
  pub after : After p made at e rule (with_new made definition)
  pub fresh : IfSome definition (λ it. HoldsNone made it.origin)

-- the change by this rule leads to this term: the term is put; or letrecs are joined, and the rule
-- is the one that joins letrecs
abbrev pub ChangesTo : Rule → Change → TermTree → Type 0
ChangesTo rule (Put t) new = t ≡ new
ChangesTo rule Join new = rule ≡ Flat

-- one of the rules changes the term so and adds this, and none before it has an instance
pub record IsTrial (rules : List Rule) (p : Program) (made : List Made) (at : Spot) (e : TermTree)
    (t : Trial) : Type 0 where
  pub is_rule : Contains rules t.rule
  pub new : TermTree
  pub changes : ChangesTo t.rule t.change new
  pub made_new : HasInstance (origins_in p made) at t.rule e new
  pub adds : Adds p made at e t.rule t.definition
  pub first : (r : Rule) (e' : TermTree)
      → Contains rules r → number_of r < number_of t.rule
      → HasInstance (origins_in p made) at r e e' → ⊥

-- the answer is how the first of the rules with an instance changes the term, or nothing where none
-- has one
abbrev pub IsFirstRule
    : List Rule → Program → List Made → Spot → TermTree → Option Trial → Type 0
IsFirstRule rules p made at e answer =
    MatchOption answer
    (HasNoInstance rules (origins_in p made) at e) (IsTrial rules p made at e)

-- the same in a scene
abbrev pub IsFirstIn : List Rule → Scene → Spot → TermTree → Option Trial → Type 0
IsFirstIn rules s at e answer = IsFirstRule rules s.program.now s.made.now at e answer
