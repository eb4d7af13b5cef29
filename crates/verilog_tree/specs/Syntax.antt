-- Where tokens stop to be the beginning of a text.
use Rattle.std.specs.Prelude.{◌≡◌, ℕ, List, [], ◌∷◌, ◌++◌, map}
use Rattle.verilog_text.specs.Grammar.{source_tokens}
use Rattle.verilog_text.specs.Source.{Source}
use Rattle.verilog_text.specs.VForms.{Token}
use Rattle.verilog_text.specs.VTokens.{Placed}

-- the tokens, wherever they stand
abbrev pub tokens_of : List Placed → List Token
tokens_of = map (λ (t : Placed). t.token)

-- some text begins with these tokens
abbrev pub BeginsSource : List Placed → Type 0
BeginsSource front =
    (source : Source) × (more : List Token) × (source_tokens source ≡ tokens_of front ++ more)

-- no text is these tokens
abbrev pub IsNoSource : List Placed → Type 0
IsNoSource tokens = (source : Source) → tokens_of tokens ≡ source_tokens source → ⊥

-- why tokens are no text, and where: `length` is the length of the text in bytes
pub data IsSyntaxFault (length : ℕ) (tokens : List Placed) (at : ℕ) : Type 0 where
  -- at the first token with which the tokens before it begin no text
  wrong : (before : List Placed) (token : Placed) (after : List Placed)
      → tokens ≡ before ++ token ∷ after → BeginsSource before
      → (BeginsSource (before ++ token ∷ []) → ⊥) → at ≡ token.at
      → IsSyntaxFault length tokens at
  -- at the end of the text, where the tokens begin a text and are none
  early : BeginsSource tokens → IsNoSource tokens → at ≡ length → IsSyntaxFault length tokens at
