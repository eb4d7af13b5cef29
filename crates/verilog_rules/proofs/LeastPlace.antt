-- The place that is computed is the least one.
use Rattle.std.proofs.Common.{◌≡◌, ℕ, ◌≤◌, Bool, true, false, cond, List, [], ◌∷◌, Option, Some, None, inl, inr, refl, sym, ◌∙◌, subst, arith}
use Rattle.std.specs.Prelude.{min}
use Rattle.std.proofs.lemmas.Bool.{cases_lt, false≢true}
use Rattle.std.proofs.lemmas.Option.{same_Some}
use Rattle.verilog_rules.specs.Checks.{Check, Hold, least_broken, lesser}
use Rattle.verilog_rules.specs.Least.{IsBrokenAt, IsLeastBroken}
use Rattle.verilog_rules.proofs.Holding.{AllTrue, all_true}

none_at : (checks : List Check) (at : ℕ) → AllTrue checks → IsBrokenAt at checks → ⊥
none_at [] at all broken = broken
none_at (c ∷ checks) at all broken = elim broken [
  | inl here ↦ false≢true (sym here.0 ∙ all.0)
  | inr later ↦ none_at checks at all.1 later
]

pub none_broken : (checks : List Check) (at : ℕ) → Hold checks → IsBrokenAt at checks → ⊥
none_broken checks at held broken = none_at checks at (all_true checks held) broken

pub least_is : (checks : List Check) (at : ℕ) → least_broken checks ≡ Some at → IsLeastBroken checks at
least_is [] at is = absurd (cc)
least_is (c ∷ checks) at is = by_case c.holds refl (least_broken checks) refl is (least_is checks)
  where
    holds : c.holds ≡ true → IsLeastBroken checks at → IsLeastBroken (c ∷ checks) at
    holds held rest = record {
      here = inr rest.here;
      least = λ other broken. elim broken as (λ _. at ≤ other) [
        | inl first ↦ absurd (false≢true (sym first.0 ∙ held))
        | inr later ↦ rest.least other later
      ];
    }

    alone : c.holds ≡ false → least_broken checks ≡ None → c.at ≡ at → IsLeastBroken (c ∷ checks) at
    alone broke none same = record {
      here = inl (broke, same);
      least = λ other broken. elim broken as (λ _. at ≤ other) [
        | inl first ↦ (let also : c.at ≡ other = first.1 in omega arith)
        | inr later ↦ absurd (none_broken checks other none later)
      ];
    }

    both : (b : ℕ) → c.holds ≡ false → min c.at b ≡ at → IsLeastBroken checks b → IsLeastBroken (c ∷ checks) at
    both b broke same rest = record {
      here = elim (cases_lt b c.at) as (λ _. IsBrokenAt at (c ∷ checks)) [
        | inl less ↦ inr (subst (λ (n : ℕ). IsBrokenAt n checks) (omega arith) rest.here)
        | inr above ↦ inl (broke, omega arith)
      ];
      least = λ other broken. elim broken as (λ _. at ≤ other) [
        | inl first ↦ (let also : c.at ≡ other = first.1 in omega arith)
        | inr later ↦ (let below : b ≤ other = rest.least other later in omega arith)
      ];
    }

    by_case : (h : Bool) → c.holds ≡ h → (o : Option ℕ) → least_broken checks ≡ o → lesser (cond h None (Some c.at)) o ≡ Some at
        → ((b : ℕ) → least_broken checks ≡ Some b → IsLeastBroken checks b) → IsLeastBroken (c ∷ checks) at
    by_case true held None o_is so rest = absurd (cc)
    by_case true held (Some b) o_is so rest = holds held (rest at (o_is ∙ so))
    by_case false broke None o_is so rest = alone broke o_is (same_Some c.at at so)
    by_case false broke (Some b) o_is so rest = both b broke (same_Some (min c.at b) at so) (rest b o_is)
