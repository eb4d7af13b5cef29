-- The splitting of a Verilog text into tokens by the longest token, and the first place where none
-- begins. White space and comments stand anywhere between tokens.
use Rattle.std.specs.Prelude.{◌≡◌, ℕ, ◌+◌, ◌≤◌, Bool, false, not, ◌||◌, ◌==◌, IsTrue, ◌⊎◌}
use Rattle.std.specs.Prelude.{List, [], ◌∷◌, ◌++◌, length}
use Rattle.chw_base.specs.Names.{AllOf}
use Rattle.verilog_text.specs.VForms.{HasForm, Sort, Token}

-- space, tab, line feed or carriage return
abbrev pub is_white : ℕ → Bool
is_white b = (b == 32) || ((b == 9) || ((b == 10) || (b == 13)))

-- no line feed is among the bytes
abbrev pub InLine : List ℕ → Type 0
InLine = AllOf (λ b. not (b == 10))

-- `*/` doesn't stand among the bytes
abbrev pub HasNoEnd : List ℕ → Type 0
HasNoEnd bytes = (before after : List ℕ) → bytes ≡ before ++ 42 ∷ 47 ∷ after → ⊥

-- from `//` to the end of the line
abbrev pub line_comment : List ℕ → List ℕ
line_comment line = 47 ∷ 47 ∷ line

-- from `/*` to the first `*/`
abbrev pub block_comment : List ℕ → List ℕ
block_comment inside = 47 ∷ 42 ∷ (inside ++ 42 ∷ 47 ∷ [])

-- white space and whole comments
pub data Gap : List ℕ → Type 0 where
  none : Gap []
  white : (b : ℕ) (gap : List ℕ) → IsTrue (is_white b) → Gap gap → Gap (b ∷ gap)
  line : (text gap : List ℕ) → InLine text → Gap gap → Gap (line_comment text ++ 10 ∷ gap)
  block : (inside gap : List ℕ) → HasNoEnd inside → Gap gap → Gap (block_comment inside ++ gap)

-- a gap at the end of the text, whose last comment may be a line without its line feed
abbrev pub LastGap : List ℕ → Type 0
LastGap rest =
    Gap rest
    ⊎ ((gap : List ℕ) × (text : List ℕ) × Gap gap × InLine text
    × (rest ≡ gap ++ line_comment text))

-- before this rest, the bytes are a token of this sort, and no longer token begins where they begin
pub record IsLongest (sort : Sort) (bytes rest : List ℕ) : Type 0 where
  pub form : HasForm sort bytes
  pub longest : (other : Sort) (longer more : List ℕ) → longer ++ more ≡ bytes ++ rest
      → HasForm other longer → length longer ≤ length bytes

-- a token, and the place of its first byte
pub record Placed : Type 0 where
  pub at : ℕ
  pub token : Token

abbrev pub placed_token : ℕ → Sort → List ℕ → Placed
placed_token at sort bytes = record { at = at; token = record { sort = sort; bytes = bytes } }

-- the rest of a text, which begins at a place, splits into these tokens
pub data TokensFrom : ℕ → List ℕ → List Placed → Type 0 where
  ends : (at : ℕ) (rest : List ℕ) → LastGap rest → TokensFrom at rest []
  next : (at : ℕ) (gap bytes rest : List ℕ) (sort : Sort) (tokens : List Placed)
      → Gap gap → IsLongest sort bytes rest
      → TokensFrom (at + length gap + length bytes) rest tokens
      → TokensFrom at (gap ++ (bytes ++ rest)) (placed_token (at + length gap) sort bytes ∷ tokens)

-- the text splits into these tokens
abbrev pub VTokens : List ℕ → List Placed → Type 0
VTokens text tokens = TokensFrom 0 text tokens

-- neither white space nor a comment nor a token begins here; a comment `/*` that has no end is none
pub record BeginsNothing (b : ℕ) (rest : List ℕ) : Type 0 where
  pub no_white : is_white b ≡ false
  pub no_line : (more : List ℕ) → b ∷ rest ≡ line_comment more → ⊥
  pub no_block : (inside more : List ℕ) → b ∷ rest ≡ block_comment inside ++ more → ⊥
  pub no_token : (sort : Sort) (bytes more : List ℕ) → bytes ++ more ≡ b ∷ rest
      → HasForm sort bytes → ⊥

-- the rest of a text, which begins at a place, splits up to this place, and no token begins there
pub data NoTokenFrom : ℕ → List ℕ → ℕ → Type 0 where
  here : (at : ℕ) (gap : List ℕ) (b : ℕ) (rest : List ℕ) → Gap gap → BeginsNothing b rest
      → NoTokenFrom at (gap ++ b ∷ rest) (at + length gap)
  later : (at : ℕ) (gap bytes rest : List ℕ) (sort : Sort) (fault : ℕ)
      → Gap gap → IsLongest sort bytes rest
      → NoTokenFrom (at + length gap + length bytes) rest fault
      → NoTokenFrom at (gap ++ (bytes ++ rest)) fault

-- this is the first place, outside white space and comments, at which no token begins
abbrev pub NoVToken : List ℕ → ℕ → Type 0
NoVToken text fault = NoTokenFrom 0 text fault
