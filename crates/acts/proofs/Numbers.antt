-- What is left of a number of turns.
use Rattle.std.proofs.Common.{◌≡◌, ◌<◌, ◌≤◌, ◌+◌, ◌⊎◌, inl, inr, ℕ, suc, zero, refl, ap, arith}
use Rattle.chw_types.specs.TypeTree.{TypeTree}
use Rattle.chw_terms.specs.declared.program.Program.{Program}
use Rattle.chw_meaning.specs.Values.{Value}
use Rattle.chw_meaning.specs.Eval.{plus}
use Rattle.acts.specs.Levels.{Levels, later}
use Rattle.acts.specs.Acts.{act_step, acts_from}
use Rattle.acts.proofs.Levels.{at_end, IsLevels, cost}

pub plus_is : (m n : ℕ) → plus m n ≡ m + n
plus_is zero n = omega arith
plus_is (suc m) n = omega (arith, plus_is m n)

-- there are turns left after these, or not
pub room : (n m : ℕ) → (m < n) ⊎ (n ≤ m)
room zero m = inr (omega arith)
room (suc n) zero = inl (omega arith)
room (suc n) (suc m) = one_more (room n m)
  where
    one_more : (m < n) ⊎ (n ≤ m) → (suc m < suc n) ⊎ (suc n ≤ suc m)
    one_more (inl h) = inl (omega (arith, h))
    one_more (inr h) = inr (omega (arith, h))

-- with no turn left nothing is asked
pub ended : (p : Program) (n m : ℕ) (t : TypeTree) (v : Value) (s : Value → Type 0) → n ≤ m → later m (acts_from p n) zero t v s
unfolding acts_from
ended p zero m t v s h = at_end p m t v s
ended p (suc n) zero t v s h = absurd (let bad : ⊥ = omega (arith, h) in bad)
ended p (suc n) (suc m) t v s h = ended p n m t v s (omega (arith, h))

pub costs : {p : Program} {r : Levels} → IsLevels p r → (k m : ℕ) (t : TypeTree) (v : Value) (s : Value → Type 0) → later m r zero t v s → later (plus k m) r zero t v s
costs l zero m t v s h = h
costs l (suc k) m t v s h = cost l (plus k m) t v s (costs l k m t v s h)

-- turns that are taken from both
pub to_later : (p : Program) (k m n : ℕ) (t : TypeTree) (v : Value) (s : Value → Type 0) → later m (acts_from p n) zero t v s → later (plus k m) (acts_from p (plus k n)) zero t v s
unfolding acts_from
to_later p zero m n t v s h = h
to_later p (suc k) m n t v s h = to_later p k m n t v s h

-- what is asked with a turn left, and how many are left after it
pub record Left (p : Program) (n m : ℕ) (t : TypeTree) (v : Value) (s : Value → Type 0) : Type 0 where
  pub rest : ℕ
  pub is : n ≡ plus m (suc rest)
  pub asked : act_step p (acts_from p rest) t v s

pub left : (p : Program) (n m : ℕ) (t : TypeTree) (v : Value) (s : Value → Type 0) → m < n → later m (acts_from p n) zero t v s → Left p n m t v s
unfolding acts_from
left p zero m t v s l h = absurd (let bad : ⊥ = omega (arith, l) in bad)
left p (suc n) zero t v s l h = record { rest = n; is = refl; asked = h }
left p (suc n) (suc m) t v s l h = let q = left p n m t v s (omega (arith, l)) h in record { rest = q.rest; is = ap suc q.is; asked = q.asked }
