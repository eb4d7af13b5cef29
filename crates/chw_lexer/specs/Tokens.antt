-- The splitting of a text into tokens by the longest token, and the first place where none begins.
use Rattle.std.specs.Prelude.{◌≡◌, ℕ, ◌+◌, ◌<◌, ◌≤◌, false, not, ◌==◌, IsTrue, List, [], ◌∷◌, ◌++◌, length, ◌⊎◌}
use Rattle.chw_base.specs.Names.{AllOf}
use Rattle.chw_lexer.specs.Forms.{HasForm, is_white}
use Rattle.chw_lexer.specs.declared.token.Sort.{Sort}
use Rattle.chw_lexer.specs.declared.token.Token.{Token}

-- no line feed is among the bytes
abbrev pub InLine : List ℕ → Type 0
InLine = AllOf (λ b. not (b == 10))

-- white space and whole comments: a comment runs from `--` to the end of its line
pub data Gap : List ℕ → Type 0 where
  none : Gap []
  white : (b : ℕ) (gap : List ℕ) → IsTrue (is_white b) → Gap gap → Gap (b ∷ gap)
  comment : (line gap : List ℕ) → InLine line → Gap gap → Gap (45 ∷ 45 ∷ (line ++ 10 ∷ gap))

-- a gap at the end of the text, whose last comment may lack its line feed
abbrev pub LastGap : List ℕ → Type 0
LastGap rest = Gap rest ⊎ ((gap : List ℕ) × (line : List ℕ) × Gap gap × InLine line × (rest ≡ gap ++ 45 ∷ 45 ∷ line))

-- before this rest, the word is a token of this sort, and no longer token begins where it begins
pub record IsLongest (sort : Sort) (word rest : List ℕ) : Type 0 where
  pub form : HasForm sort word
  pub longest : (other : Sort) (longer more : List ℕ) → longer ++ more ≡ word ++ rest → HasForm other longer → length longer ≤ length word

-- the token of this sort from one place to another
abbrev pub token : Sort → ℕ → ℕ → Token
token sort from to = record { sort = sort; span = record { from = from; to = to } }

-- the rest of a text, which begins at a place, splits into these tokens
pub data TokensFrom : ℕ → List ℕ → List Token → Type 0 where
  ends : (at : ℕ) (rest : List ℕ) → LastGap rest → TokensFrom at rest []
  next : (at : ℕ) (gap word rest : List ℕ) (sort : Sort) (tokens : List Token) → Gap gap → IsLongest sort word rest
      → TokensFrom (at + length gap + length word) rest tokens
      → TokensFrom at (gap ++ (word ++ rest)) (token sort (at + length gap) (at + length gap + length word) ∷ tokens)

-- the text splits into these tokens
abbrev pub Tokens : List ℕ → List Token → Type 0
Tokens text tokens = TokensFrom 0 text tokens

-- neither white space nor a comment nor a token begins here
pub record BeginsNothing (b : ℕ) (rest : List ℕ) : Type 0 where
  pub no_white : is_white b ≡ false
  pub no_comment : (more : List ℕ) → b ∷ rest ≡ 45 ∷ 45 ∷ more → ⊥
  pub no_token : (sort : Sort) (word more : List ℕ) → word ++ more ≡ b ∷ rest → HasForm sort word → ⊥

-- the rest of a text, which begins at a place, splits up to this place, and no token begins there
pub data NoTokenFrom : ℕ → List ℕ → ℕ → Type 0 where
  here : (at : ℕ) (gap : List ℕ) (b : ℕ) (rest : List ℕ) → Gap gap → BeginsNothing b rest → NoTokenFrom at (gap ++ b ∷ rest) (at + length gap)
  later : (at : ℕ) (gap word rest : List ℕ) (sort : Sort) (fault : ℕ) → Gap gap → IsLongest sort word rest
      → NoTokenFrom (at + length gap + length word) rest fault → NoTokenFrom at (gap ++ (word ++ rest)) fault

-- this is the first place, outside white space and comments, at which no token begins
abbrev pub NoToken : List ℕ → ℕ → Type 0
NoToken text fault = NoTokenFrom 0 text fault

-- the tokens stand one behind the other from one place to another, and each has a byte at least
abbrev pub InOrder : (from to : ℕ) → List Token → Type 0
InOrder from to [] = Unit {0}
InOrder from to (t ∷ tokens) = (from ≤ t.span.from) × (t.span.from < t.span.to) × (t.span.to ≤ to) × InOrder t.span.to to tokens
