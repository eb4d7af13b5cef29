-- Without a cycle, no steps among finitely many nodes go on for ever.
use Rattle.std.proofs.Common.{◌≡◌, ℕ, zero, suc, ◌<◌, ◌⊎◌, inl, inr, arith, subst}
use Rattle.std.proofs.lemmas.Bool.{cases_lt}
use Rattle.graph_order.specs.References.{Leads, HasNoCycle, step, step_and}

-- from each node of which this holds, a step can't fail to lead to another
abbrev pub HandedOn : (ℕ → ℕ → Type 0) → (ℕ → Type 0) → Type 0
HandedOn Step P = (a : ℕ) → P a → ((b : ℕ) → Step a b → P b → ⊥) → ⊥

-- a step that stays, or two that go by way of this node
abbrev Around : (ℕ → ℕ → Type 0) → ℕ → ℕ → ℕ → Type 0
Around Step n a b = Step a b ⊎ (Step a n × Step n b)

led : (Step : ℕ → ℕ → Type 0) (n : ℕ) {a b : ℕ} → Leads (Around Step n) a b → Leads Step a b
led Step n (step (inl s)) = step s
led Step n (step (inr s)) = step_and s.0 (step s.1)
led Step n (step_and (inl s) more) = step_and s (led Step n more)
led Step n (step_and (inr s) more) = step_and s.0 (step_and s.1 (led Step n more))

module _ (Step : ℕ → ℕ → Type 0) (P : ℕ → Type 0) (n : ℕ) (none : HasNoCycle Step) (within : (a : ℕ) → P a → a < suc n) (on : HandedOn Step P) where
  -- the last node, or one before it
  last_or : (a : ℕ) → P a → (a < n) ⊎ (a ≡ n)
  last_or a h = elim (cases_lt a n) [ inl l ↦ inl l | inr le ↦ inr (omega (arith, within a h, le)) ]

  -- from the last node, past itself
  past_last : P n → ((b : ℕ) → Step n b → b < n → P b → ⊥) → ⊥
  past_last h to = on n h (λ b s g. elim (last_or b g) [ inl l ↦ to b s l g | inr e ↦ none n (step (subst (Step n) e s)) ])

  -- steps around the last node hand it on among those before it
  around_last : HandedOn (Around Step n) (λ a. P a × (a < n))
  around_last a h to = on a h.0 (λ b s g. elim (last_or b g) [
    | inl l ↦ to b (inl s) (g, l)
    | inr e ↦ past_last (subst P e g) (λ c t l f. to c (inr (subst (Step a) e s, t)) (f, l))
  ])

  -- so it holds nowhere, if it holds nowhere before the last node
  nor_last : ((a : ℕ) → a < n → P a → ⊥) → (a : ℕ) → P a → ⊥
  nor_last before a h = elim (last_or a h) [ inl l ↦ before a l h | inr e ↦ past_last (subst P e h) (λ b s l g. before b l g) ]

-- what steps hand on holds nowhere
pub nowhere : (n : ℕ) (Step : ℕ → ℕ → Type 0) (P : ℕ → Type 0) → HasNoCycle Step → ((a : ℕ) → P a → a < n) → HandedOn Step P → (a : ℕ) → P a → ⊥
nowhere zero Step P none within on a h = let l : a < 0 = within a h in omega (arith, l)
nowhere (suc n) Step P none within on a h =
    nor_last Step P n none within on
    (λ b l g. nowhere n (Around Step n) (λ c. P c × (c < n)) (λ c lead. none c (led Step n lead)) (λ c f. f.1) (around_last Step P n none within on) b (g, l)) a h
