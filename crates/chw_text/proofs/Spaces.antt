-- Tokens with spaces, written one behind the other.
use Rattle.std.specs.Prelude.{◌≡◌, ℕ, Bool, true, false, List, [], ◌∷◌, ◌++◌, refl}
use Rattle.std.proofs.Common.{sym, ap, ◌∙◌}
use Rattle.std.proofs.lemmas.List.{append_assoc, append-nil}
use Rattle.chw_grammar.specs.Lexemes.{Lexeme}
use Rattle.chw_lexer.specs.declared.token.Sort.{Sort}
use Rattle.chw_grammar.specs.declared.word.Word.{Word}
use Rattle.chw_grammar.specs.Text.{as_token, lower, closed}
use Rattle.chw_text.specs.Spaced.{spaced, Puts, Leaves, opening, closing}

pub spaced_append : (a b : List Lexeme) → spaced (a ++ b) ≡ spaced a ++ spaced b
spaced_append [] b = refl
spaced_append (l ∷ a) b = ap (λ (z : List ℕ). l.bytes ++ 32 ∷ z) (spaced_append a b) ∙ sym (append_assoc l.bytes (32 ∷ spaced a) (spaced b))

-- tokens, and then tokens
pub puts : {o m n : List ℕ} {a b : List Lexeme} → Puts o a m → Puts m b n → Puts o (a ++ b) n
puts {o = o} {a = a} {b = b} h k = record {
  is = k.is ∙ ap (λ (z : List ℕ). z ++ spaced b) h.is ∙ append_assoc o (spaced a) (spaced b) ∙ ap (λ (z : List ℕ). o ++ z) (sym (spaced_append a b));
}

pub puts_as : {o n : List ℕ} {a b : List Lexeme} → Puts o a n → a ≡ b → Puts o b n
puts_as {o = o} h same = record { is = h.is ∙ ap (λ (ls : List Lexeme). o ++ spaced ls) same }

-- a word is written the same whatever its sort
pub puts_word : {o n : List ℕ} {w : Word} (s : Sort) → Puts o (lower w ∷ []) n → Puts o (as_token s w ∷ []) n
puts_word s h = record { is = h.is }

round : (ls : List Lexeme) (x : Bool) → (opening x ++ ls) ++ closing x ≡ closed x ls
round ls true = refl
round ls false = append-nil ls

-- tokens, in parentheses or as they are
pub puts_closed : {o m k n : List ℕ} {b : Bool} {ls : List Lexeme} (c : Bool) → b ≡ c → Puts o (opening b) m → Puts m ls k → Puts k (closing b) n → Puts o (closed c ls) n
puts_closed {b = b} {ls = ls} c same first inner last = puts_as (puts (puts first inner) last) (round ls b ∙ ap (λ (x : Bool). closed x ls) same)

-- a loop over items at its end
pub puts_all : {m n : List ℕ} {left all : List Lexeme} → Leaves m all n left → left ≡ [] → Puts m all n
puts_all {n = n} h none = record { is = sym (append-nil n) ∙ ap (λ (ls : List Lexeme). n ++ spaced ls) (sym none) ∙ h.is }

-- a step of such a loop
pub puts_step : {m k n : List ℕ} {item left all : List Lexeme} (more : List Lexeme) → Leaves k all m left → Puts m item n → left ≡ item ++ more → Leaves k all n more
puts_step {m = m} {item = item} more before put same = record {
  is = ap (λ (z : List ℕ). z ++ spaced more) put.is ∙ append_assoc m (spaced item) (spaced more) ∙ ap (λ (z : List ℕ). m ++ z) (sym (spaced_append item more))
      ∙ ap (λ (ls : List Lexeme). m ++ spaced ls) (sym same) ∙ before.is;
}
