-- Bools that tell facts.
use Rattle.std.proofs.Common.{◌≡◌, ◌∙◌, ◌↔◌, sym, Bool, false, IsTrue}
use Rattle.std.proofs.lemmas.Bool.{false≢true}

pub never : (P : Type 0) → (P → ⊥) → IsTrue false ↔ P
never P h = (λ t. absurd (false≢true t), λ p. absurd (h p))

pub not_told : (b : Bool) (P : Type 0) → b ≡ false → IsTrue b ↔ P → P → ⊥
not_told b P is h p = false≢true (sym is ∙ h.1 p)

-- one fact for another
pub through : (b : Bool) (P Q : Type 0) → IsTrue b ↔ P → P ↔ Q → IsTrue b ↔ Q
through b P Q h k = (λ t. k.0 (h.0 t), λ q. h.1 (k.1 q))
