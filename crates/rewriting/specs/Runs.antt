-- Runs of rewriting: from the state with which a program opens, by so many first steps.
use Rattle.std.specs.Prelude.{◌≡◌, ℕ, zero, suc, ◌≤◌, List, [], ◌∷◌, ◌++◌, length, set}
use Rattle.std.specs.Prelude.{Some, option_map, unwrap_or}
use Rattle.std.specs.List.{slice_get}
use Rattle.chw_types.specs.TypeTree.{TypeTree}
use Rattle.chw_terms.specs.declared.program.Def.{Def}
use Rattle.chw_terms.specs.declared.program.Program.{Program}
use Rattle.chw_terms.specs.declared.rule.Rule.{Rule}
use Rattle.chw_terms.specs.declared.rule.Rule.TheVariants.{Spec}
use Rattle.chw_terms.specs.declared.scene.Made.{Made}
use Rattle.chw_terms.specs.declared.scene.Mode.{Mode}
use Rattle.chw_terms.specs.declared.scene.Mode.TheVariants.{C}
use Rattle.chw_terms.specs.declared.scene.Sort.{Sort}
use Rattle.chw_terms.specs.declared.scene.Sort.TheVariants.{Value, Circuit}
use Rattle.chw_terms.specs.declared.term.Arg.{Arg}
use Rattle.chw_terms.specs.TermTree.{TermTree, global, lam, app, ty_app}
use Rattle.chw_terms.specs.TermView.{applied}
use Rattle.chw_terms.specs.Unrolled.{parameters}
use Rattle.chw_typing.specs.HeadTypes.{from_each}
use Rattle.chw_typing.specs.Paths.{with_part}
use Rattle.rewriting.specs.Origins.{MadeOf, Origins, origin_of, eta_expanded}
use Rattle.rewriting.specs.Spots.{Spot}
use Rattle.rewriting.specs.Calls.{IsCall, call_origin}
use Rattle.rewriting.specs.Numbers.{HasOrigin}
use Rattle.rewriting.specs.Shapes.{fmap_of, leading_lambdas}
use Rattle.rewriting.specs.Signals.{IsLifted}
use Rattle.rewriting.specs.Steps.{origins_in, Where, IsFirst, HasNoStep}

-- a spine with its head's definition in place of the definition's name
abbrev pub with_definition : Program → TermTree → TermTree
with_definition p (app f a) = app (with_definition p f) a
with_definition p (ty_app f t) = ty_app (with_definition p f) t
with_definition p (global d) =
    unwrap_or (option_map (λ (it : Def). it.body) (slice_get p.defs d)) (global d)
with_definition p e = e

-- the first body of a made definition with this origin: so below its leading lambdas
abbrev pub first_body : Program → TermTree → TermTree
first_body p (lam t e) = lam t (first_body p e)
first_body p e = with_definition p e

-- a made definition with its first body
abbrev pub opened : Program → MadeOf → Made
opened p it =
    record { origin = it.origin; body = first_body p it.origin; ty = it.ty; sort = it.sort }

-- the program opens with the call of its top
abbrev pub top_of : ℕ → Def → MadeOf
top_of d it =
    record { origin = eta_expanded (parameters it.ty) (global d); ty = it.ty; sort = Circuit }

abbrev pub IsOpening : Program → List Made → Type 0
IsOpening p made =
    (it : Def) × (slice_get p.defs p.top.«def».number ≡ Some it)
    × (made ≡ opened p (top_of p.top.«def».number it) ∷ [])

-- what a call gives, by the mode of its place
abbrev pub sort_at : Mode → Sort
sort_at C = Circuit
sort_at _ = Value

-- what a call, or a lifted function, becomes a made definition of
pub data BecomesMade (o : Origins) (at : Spot) : TermTree → MadeOf → Type 0 where
  of_call : {e : TermTree} {ts : List TypeTree} {t : TypeTree}
      → IsCall o at e ts t
      → BecomesMade o at e
      (record { origin = call_origin o ts e; ty = from_each ts t; sort = sort_at at.mode })
  of_lifted : (d a b : TypeTree) {t r : TypeTree} {ts : List TypeTree} (g s : TermTree)
      (rest : List Arg)
      → IsLifted o at g t ts r → length (t ∷ ts) ≤ leading_lambdas g
      → BecomesMade o at (applied (fmap_of d a b g s) rest)
      (record { origin = origin_of o g; ty = from_each (t ∷ ts) r; sort = Value })

-- the made definitions after a rule made something of the term at the place: one more where a call
-- or a lifted function has an origin that none of them has
pub data After (p : Program) (made : List Made) (at : Spot) (e : TermTree)
    : Rule → List Made → Type 0 where
  no_call : {r : Rule} → (r ≡ Spec → ⊥) → After p made at e r made
  known : {it : MadeOf} (m : ℕ)
      → BecomesMade (origins_in p made) at e it → HasOrigin (origins_in p made) it.origin m
      → After p made at e Spec made
  one_more : {it : MadeOf}
      → BecomesMade (origins_in p made) at e it
      → ((m : ℕ) → HasOrigin (origins_in p made) it.origin m → ⊥)
      → After p made at e Spec (made ++ opened p it ∷ [])

-- a step: where it is made, and the term that is then there
pub record Step : Type 0 where
  pub place : Where
  pub new : TermTree

-- the first step by these rules leads from one state to another
pub record StepsTo (rules : List Rule) (p : Program) (made : List Made) (s : Step)
    (made' : List Made) : Type 0 where
  pub is_first : IsFirst rules p made s.place s.new
  pub with_new : List Made
  pub after : After p made is_first.step.1.at is_first.step.1.term s.place.rule with_new
  pub is : made' ≡ set with_new s.place.number
      (record is_first.step.1.it { body = with_part is_first.step.1.it.body s.place.path s.new })

-- n first steps by these rules, or fewer where none is left: those that were made, the first one
-- first, and the state to which they lead
pub data RunsTo (rules : List Rule) (p : Program)
    : ℕ → List Made → List Step → List Made → Type 0 where
  no_more : {made : List Made} → RunsTo rules p zero made [] made
  none_left : {n : ℕ} {made : List Made}
      → HasNoStep rules p made → RunsTo rules p (suc n) made [] made
  step_and : {n : ℕ} {made made' made'' : List Made} {s : Step} {steps : List Step}
      → StepsTo rules p made s made' → RunsTo rules p n made' steps made''
      → RunsTo rules p (suc n) made (s ∷ steps) made''

-- the state of a program after n steps by these rules, and the steps to it
pub record Run (rules : List Rule) (p : Program) (n : ℕ) (steps : List Step) (made : List Made)
    : Type 0 where
  pub opening : List Made
  pub opens : IsOpening p opening
  pub runs : RunsTo rules p n opening steps made
