-- What result places give gets a name where no operand needs one.
use Rattle.std.proofs.Common.{◌≡◌, ◌⊎◌, inl, inr, refl, true, []}
use Rattle.chw_types.specs.TypeTree.{TypeTree}
use Rattle.chw_terms.specs.declared.rule.Rule.TheVariants.{Anf}
use Rattle.chw_terms.specs.TermTree.{TermTree}
use Rattle.chw_typing.specs.Finding.{Finds}
use Rattle.rewriting.specs.Origins.{Origins, setting_at}
use Rattle.rewriting.specs.Spots.{Spot, HasLets}
use Rattle.rewriting.specs.Calls.{OfWhole, anf_call, anf_result}
use Rattle.rewriting.specs.Operands.{NoneNeedsName, anf}
use Rattle.rewriting.specs.Shapes.{IsVariable, IsLet}
use Rattle.rule_parts.specs.Cores.{MakesOf, of_core}

-- the term at a result place
pub record IsResult (o : Origins) (at : Spot) (e : TermTree) : Type 0 where
  pub lets : HasLets at.mode
  pub result : at.result ≡ true
  pub no_variable : IsVariable e → ⊥
  pub no_let : IsLet e → ⊥
  pub type : TypeTree
  pub found : Finds (setting_at o) [] at.vars e type

-- where no operand needs a name, nothing else is made
pub only_results : {o : Origins} {at : Spot} {e e' : TermTree} → NoneNeedsName o at e
    → (IsResult o at e → ⊥) → (MakesOf o at Anf e e' ⊎ OfWhole o at Anf e e') → ⊥
only_results n h (inl (of_core core core' rest (anf {x = x} {path = path} f t))) =
    n.in_core core rest path x refl f.is
only_results n h (inr (anf_call {x = x} {path = path} f t)) = n.in_call path x f.is
only_results n h (inr (anf_result {t = t} l r v w m d)) =
    h (record { lets = l; result = r; no_variable = v; no_let = w; type = t; found = d })
