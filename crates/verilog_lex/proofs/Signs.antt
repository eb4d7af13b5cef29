-- The longest sign.
use Rattle.std.proofs.Common.{◌≡◌, ℕ, ◌≤◌, Bool, true, false, List, [], ◌∷◌, ◌++◌, length, get_or, sym, refl, ap, ◌∙◌, subst, arith}
use Rattle.std.specs.Prelude.{IsTrue}
use Rattle.std.proofs.lemmas.Bool.{both_ways, false≢true}
use Rattle.verilog_text.specs.VForms.{is_sign, signs}
use Rattle.verilog_text.proofs.Firsts.{of_table}
use Rattle.verilog_lex.specs.Scanning.{BeginsNoSign, IsSignAt, begins_pair, is_pair}
use Rattle.verilog_lex.specs.Shown.{sign_bytes}
use Rattle.verilog_lex.specs.declared.token.Sign.{Sign}
use Rattle.verilog_lex.specs.declared.token.Sign.TheVariants.{Ampersand, At, Bar, Caret, CloseBrace, CloseBracket, CloseParen, Colon, Comma, Dot, Equals, EqualsEquals, GreaterGreater, GreaterGreaterGreater, Less, LessEquals, LessLess, Minus, OpenBrace, OpenBracket, OpenParen, Plus, Question, Semicolon, Star, Tilde}

is_sign_of : (s : Sign) → IsTrue (is_sign (sign_bytes s))
is_sign_of OpenParen = refl
is_sign_of CloseParen = refl
is_sign_of OpenBracket = refl
is_sign_of CloseBracket = refl
is_sign_of OpenBrace = refl
is_sign_of CloseBrace = refl
is_sign_of Comma = refl
is_sign_of Semicolon = refl
is_sign_of Dot = refl
is_sign_of Colon = refl
is_sign_of Question = refl
is_sign_of At = refl
is_sign_of Equals = refl
is_sign_of Plus = refl
is_sign_of Minus = refl
is_sign_of Star = refl
is_sign_of Ampersand = refl
is_sign_of Bar = refl
is_sign_of Caret = refl
is_sign_of Tilde = refl
is_sign_of EqualsEquals = refl
is_sign_of Less = refl
is_sign_of LessEquals = refl
is_sign_of LessLess = refl
is_sign_of GreaterGreater = refl
is_sign_of GreaterGreaterGreater = refl

-- a sign of two bytes or more begins with a pair
abbrev has_pair : List ℕ → Bool
has_pair [] = true
has_pair (c ∷ []) = true
has_pair (c ∷ d ∷ more) = is_pair c d

no_pair : (bytes other more : List ℕ) (c d : ℕ) → begins_pair bytes ≡ false → c ∷ d ∷ (other ++ more) ≡ bytes → IsTrue (is_sign (c ∷ d ∷ other)) → ⊥
no_pair bytes other more c d apart same form =
    both_ways (is_pair c d) (ap begins_pair same ∙ apart) (of_table has_pair signs (c ∷ d ∷ other) refl form)

pub single_sign : (bytes : List ℕ) (s : Sign) → 1 ≤ length bytes → sign_bytes s ≡ get_or bytes 0 0 ∷ [] → begins_pair bytes ≡ false → IsSignAt bytes (sign_bytes s) 1
single_sign [] s long same apart = absurd (omega arith)
single_sign (x ∷ bytes) s long same apart = record {
  within = long;
  bytes_are = sym same;
  form = is_sign_of s;
  longest = short;
}
  where
    short : (other more : List ℕ) → other ++ more ≡ x ∷ bytes → IsTrue (is_sign other) → length other ≤ 1
    short [] more whole has = omega arith
    short (c ∷ []) more whole has = omega arith
    short (c ∷ d ∷ other) more whole has = absurd (no_pair (x ∷ bytes) other more c d apart whole has)

pub no_sign : (bytes : List ℕ) → 1 ≤ length bytes → is_sign (get_or bytes 0 0 ∷ []) ≡ false → begins_pair bytes ≡ false → BeginsNoSign bytes
no_sign bytes some none apart [] more whole has = false≢true has
no_sign [] some none apart (c ∷ other) more whole has = omega arith
no_sign (x ∷ bytes) some none apart (c ∷ []) more whole has =
    let head : c ≡ x = cc in both_ways (is_sign (x ∷ [])) none (subst (λ y. IsTrue (is_sign (y ∷ []))) head has)
no_sign (x ∷ bytes) some none apart (c ∷ d ∷ other) more whole has = no_pair (x ∷ bytes) other more c d apart whole has
