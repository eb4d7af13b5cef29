-- Pieces one behind the other.
use Rattle.std.proofs.Common.{◌≡◌, ◌∙◌, ap, ℕ, zero, suc, ◌<◌, arith, List, [], ◌∷◌, length, refl, append_assoc, append-nil, length-append}
use Rattle.chw_base.specs.declared.index.WireId.{WireId}
use Rattle.netlist.specs.declared.net.Cell.{Cell}
use Rattle.net_built.specs.Circuits.{use_cells}
use Rattle.net_built.specs.Wires.{wires_from, wire_count, Piece, nothing, ◌▸◌, after}

-- nothing behind a piece
pub behind_nothing : (s : Piece) → s ▸ nothing ≡ s
behind_nothing s = λ i. record { widths = append-nil s.widths i; cells = append-nil s.cells i }

-- a piece behind one that is behind another
pub behind_both : (s p q : Piece) → (s ▸ p) ▸ q ≡ s ▸ (p ▸ q)
behind_both s p q = λ i. record {
  widths = append_assoc s.widths p.widths q.widths i;
  cells = append_assoc s.cells p.cells q.cells i;
}

-- what is left behind a piece, by the number of its first wire
pub then_rest : (s t p : Piece) (rest : ℕ → Piece) → t ≡ s ▸ p
    → t ▸ rest (length t.widths) ≡ s ▸ (p ▸ rest (after (length s.widths) p))
then_rest s t p rest e =
    ap (λ (x : Piece). x ▸ rest (length x.widths)) e
    ∙ ap (λ (n : ℕ). (s ▸ p) ▸ rest n) (length-append s.widths p.widths)
    ∙ behind_both s p (rest (after (length s.widths) p))

-- the number of the wire behind a piece
pub next_behind : (s t p : Piece) → t ≡ s ▸ p → length t.widths ≡ after (length s.widths) p
next_behind s t p e = ap (λ (x : Piece). length x.widths) e ∙ length-append s.widths p.widths

-- wires, and then cells
pub wires_then_cells : (s t u : Piece) (widths : List ℕ) (cells : List Cell)
    → t ≡ s ▸ record { widths = widths; cells = [] } → u ≡ t ▸ record { widths = []; cells = cells }
    → u ≡ s ▸ record { widths = widths; cells = cells }
wires_then_cells s t u widths cells e f =
    f ∙ ap (λ (x : Piece). x ▸ record { widths = []; cells = cells }) e
    ∙ behind_both s (record { widths = widths; cells = [] }) (record { widths = []; cells = cells })
    ∙ ap (λ (ws : List ℕ). s ▸ record { widths = ws; cells = cells }) (append-nil widths)

-- a use of parts that have wires, and of parts that have none
pub use_some : (n : ℕ) (widths : List ℕ) (cell : List WireId → Cell) → 0 < wire_count widths
    → use_cells n widths cell ≡ cell (wires_from n (wire_count widths)) ∷ []
use_some n [] cell h = absurd (omega arith)
use_some n (zero ∷ widths) cell h = use_some n widths cell h
use_some n (suc w ∷ widths) cell h = refl

pub use_none : (n : ℕ) (widths : List ℕ) (cell : List WireId → Cell) → wire_count widths ≡ 0
    → use_cells n widths cell ≡ []
use_none n [] cell h = refl
use_none n (zero ∷ widths) cell h = use_none n widths cell h
use_none n (suc w ∷ widths) cell h = absurd (omega arith)
