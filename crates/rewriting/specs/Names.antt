-- What rules make of the name of a definition.
use Rattle.std.specs.Prelude.{◌≡◌, ℕ, Some}
use Rattle.std.specs.List.{slice_get}
use Rattle.chw_terms.specs.declared.program.Def.{Def}
use Rattle.chw_terms.specs.declared.rule.Rule.{Rule}
use Rattle.chw_terms.specs.declared.rule.Rule.TheVariants.{Unfold}
use Rattle.chw_terms.specs.TermTree.{TermTree, global, made}
use Rattle.rewriting.specs.Origins.{MadeOf, Origins}
use Rattle.rewriting.specs.Spots.{Spot, HasLets}

-- not where the definition may be called
pub data OfNames (o : Origins) (at : Spot) : Rule → TermTree → TermTree → Type 0 where
  -- a definition takes the place of its name
  unfold_global : {d : ℕ} {it : Def}
      → (HasLets at.mode → ⊥) → slice_get o.program.defs d ≡ Some it
      → OfNames o at Unfold (global d) it.body
  -- and the origin of a made definition
  unfold_made : {m : ℕ} {it : MadeOf}
      → (HasLets at.mode → ⊥) → slice_get o.made m ≡ Some it
      → OfNames o at Unfold (made m) it.origin
