-- What holds of the tokens of a text.
use Rattle.std.specs.Prelude.{ℕ, ◌+◌, ◌<◌, ◌≤◌, List, [], ◌∷◌, length}
use Rattle.verilog_text.specs.VForms.{HasForm}
use Rattle.verilog_text.specs.VTokens.{Placed}

-- the token has the form of its sort
abbrev pub HasItsForm : Placed → Type 0
HasItsForm placed = HasForm placed.token.sort placed.token.bytes

-- the place behind the token
abbrev pub end_of : Placed → ℕ
end_of placed = placed.at + length placed.token.bytes

-- the tokens stand one behind the other from one place to another, and each has a byte at least
abbrev pub AreInOrder : (from to : ℕ) → List Placed → Type 0
AreInOrder from to [] = Unit {0}
AreInOrder from to (p ∷ tokens) =
    (from ≤ p.at) × (p.at < end_of p) × (end_of p ≤ to) × AreInOrder (end_of p) to tokens
