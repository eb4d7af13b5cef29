-- What is added to a module so far.
use Rattle.std.proofs.Common.{◌≡◌, ◌∙◌, ap, sym, ℕ, arith, length-append}
use Rattle.net_built.specs.Wires.{Piece, nothing, ◌▸◌, after}
use Rattle.net_pieces.proofs.Behind.{behind_nothing, behind_both}
use Rattle.value_build.specs.Added.{Adds}

-- the number behind two pieces
pub after_both : (n : ℕ) (p q : Piece) → after (after n p) q ≡ after n (p ▸ q)
after_both n p q = omega (arith, length-append p.widths q.widths)

-- a piece behind one that was added
pub two_behind : (s t u p q : Piece) → t ≡ s ▸ p → u ≡ t ▸ q → u ≡ s ▸ (p ▸ q)
two_behind s t u p q e f = f ∙ ap (λ (x : Piece). x ▸ q) e ∙ behind_both s p q

-- nothing is added
pub adds_nothing : (P : Piece → Type 0) (s : Piece) → P nothing → Adds P s s
adds_nothing P s h = record { piece = nothing; is = sym (behind_nothing s); holds = h }

-- one thing that is added
pub adds_one : (P : Piece → Type 0) (s t p : Piece) → t ≡ s ▸ p → P p → Adds P s t
adds_one P s t p e h = record { piece = p; is = e; holds = h }
