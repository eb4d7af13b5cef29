-- What is added to a module so far.
use Rattle.std.specs.Prelude.{◌≡◌, ℕ, length}
use Rattle.net_built.specs.Wires.{Piece, ◌▸◌}

-- the number of the wire behind a piece
abbrev pub next : Piece → ℕ
next p = length p.widths

-- a piece of which this holds was put behind another
pub record Adds (P : Piece → Type 0) (before later : Piece) : Type 0 where
  pub piece : Piece
  pub is : later ≡ before ▸ piece
  pub holds : P piece
