-- What is remembered.
use Rattle.std.proofs.Common.{◌≡◌, ℕ, suc, zero, ◌<◌, sym, subst, List, [], ◌∷◌, ◌++◌, length, get_or, arith}
use Rattle.chw_types.specs.declared.declarations.Data.{Data}
use Rattle.chw_layout.specs.declared.outcome.Outcome.{Outcome}
use Rattle.chw_layout.specs.declared.remembered.Instance.{Instance}
use Rattle.chw_layout.specs.Outcomes.{IsOutcomeOf, AreRight}

right_at : (datas : List Data) (es : List Instance) (i : ℕ) (e : Instance) → i < length es → e ≡ get_or es i e → AreRight datas es → IsOutcomeOf datas e.at e.outs.items e.outcome
right_at datas [] i e l is h = absurd (omega arith)
right_at datas (x ∷ es) zero e l is h = subst (λ (y : Instance). IsOutcomeOf datas y.at y.outs.items y.outcome) (sym is) h.0
right_at datas (x ∷ es) (suc i) e l is h = right_at datas es i e (omega arith) is h.1

pub recalled : (es : List Instance) (i : ℕ) (e : Instance) (d : ℕ) (os : List Outcome) → i < length es → e ≡ get_or es i e → e.at ≡ d → e.outs.items ≡ os → (datas : List Data) → AreRight datas es → IsOutcomeOf datas d os e.outcome
recalled es i e d os l is at outs datas h = subst (λ n. IsOutcomeOf datas n os e.outcome) at (subst (λ xs. IsOutcomeOf datas e.at xs e.outcome) outs (right_at datas es i e l is h))

right_more : (datas : List Data) (es : List Instance) (e : Instance) → AreRight datas es → IsOutcomeOf datas e.at e.outs.items e.outcome → AreRight datas (es ++ e ∷ [])
right_more datas [] e h k = (k, tt)
right_more datas (x ∷ es) e h k = (h.0, right_more datas es e h.1 k)

pub remembered : (es es' : List Instance) (e : Instance) → es' ≡ es ++ e ∷ [] → (datas : List Data) → AreRight datas es → IsOutcomeOf datas e.at e.outs.items e.outcome → AreRight datas es'
remembered es es' e is datas h k = subst (AreRight datas) (sym is) (right_more datas es e h k)
