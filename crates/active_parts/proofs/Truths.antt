-- Bools that are true and false.
use Rattle.std.proofs.Common.{◌≡◌, ◌∙◌, sym, Bool, false, IsTrue}
use Rattle.std.proofs.lemmas.Bool.{false≢true}

pub not_true : (b : Bool) → b ≡ false → IsTrue b → ⊥
not_true b f t = false≢true (sym f ∙ t)
