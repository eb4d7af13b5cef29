-- The operators of signs.
use Rattle.std.proofs.Common.{◌≡◌, ℕ, ◌<◌, ◌≤◌, true, List, length, get_or, sym, refl, ap, ◌∙◌}
use Rattle.std.proofs.lemmas.Bool.{false≢true}
use Rattle.netlist.specs.declared.net.Op1.TheVariants.{RedXor}
use Rattle.netlist.specs.declared.net.Op2.TheVariants.{Shr}
use Rattle.verilog_text.specs.Grammar.{binary_sign, sign as sign_token}
use Rattle.verilog_text.specs.Text.{sign1}
use Rattle.verilog_text.specs.VForms.{Token}
use Rattle.verilog_text.specs.VForms.Sort.{name as a_name, sign as a_sign}
use Rattle.verilog_text.specs.VTokens.{Placed}
use Rattle.verilog_lex.specs.Shown.{placed, sign_bytes, token_of}
use Rattle.verilog_lex.specs.declared.token.Placed.{Placed as LexPlaced}
use Rattle.verilog_lex.specs.declared.token.Sign.{Sign as SignOf}
use Rattle.verilog_lex.specs.declared.token.Sign.TheVariants as sign
use Rattle.verilog_lex.specs.declared.token.Token.{Token as LexToken}
use Rattle.verilog_lex.specs.declared.token.Token.TheVariants as lex
use Rattle.verilog_parse.specs.RowMarks.{IsSignAt, nth}
use Rattle.verilog_parse.specs.Slots.{binary_ops, takes, unary_ops}
use Rattle.verilog_parse.specs.declared.slot.Slot.TheVariants.{Binary, Unary}
use Rattle.verilog_parse.proofs.Taken.{any_sign1, any_sign2}
use Rattle.verilog_parse.proofs.WordsFound.{nth_found, nth_past}

pub sign_found : (tokens : List LexPlaced) (k : ℕ) (x : LexPlaced) (s : SignOf) → k < length tokens → x ≡ get_or tokens k x → x.token ≡ lex.Sign s
    → IsSignAt s k (placed tokens)
sign_found tokens k x s within is found = λ _. ap (λ (p : Placed). p.token) (nth_found tokens k x within is) ∙ ap token_of found

no_sign : (t : LexToken) → ((s : SignOf) → t ≡ lex.Sign s → ⊥) → (token_of t).sort ≡ a_sign → ⊥
no_sign (lex.Keyword k) other is = cc
no_sign (lex.Name b) other is = cc
no_sign (lex.Number b) other is = cc
no_sign (lex.Literal b) other is = cc
no_sign lex.Signed other is = cc
no_sign (lex.Sign s) other is = other s refl

pub other_found : (tokens : List LexPlaced) (k : ℕ) (x : LexPlaced) (s : SignOf) → k < length tokens → x ≡ get_or tokens k x → ((s : SignOf) → x.token ≡ lex.Sign s → ⊥)
    → IsSignAt s k (placed tokens)
other_found tokens k x s within is other = λ sort.
    absurd (no_sign x.token other (ap (λ (p : Placed). p.token.sort) (sym (nth_found tokens k x within is)) ∙ sort))

pub none_found : (tokens : List LexPlaced) (k : ℕ) (s : SignOf) → length tokens ≤ k → IsSignAt s k (placed tokens)
none_found tokens k s past = λ sort. absurd (differ (ap (λ (p : Placed). p.token.sort) (sym (nth_past tokens k past)) ∙ sort))
  where
    differ : a_name ≡ a_sign → ⊥
    differ is = cc

pub unary_bytes : (s t : SignOf) (k : ℕ) (tokens : List Placed) → IsSignAt s k tokens → s ≡ t → takes Unary (nth k tokens).token ≡ true
    → sign_bytes t ≡ (nth k tokens).token.bytes
unary_bytes s t k tokens is same took =
    ap sign_bytes (sym same) ∙ ap (λ (x : Token). x.bytes) (sym (is (any_sign1 unary_ops (nth k tokens).token took)))

pub binary_bytes : (s t : SignOf) (k : ℕ) (tokens : List Placed) → IsSignAt s k tokens → s ≡ t → takes Binary (nth k tokens).token ≡ true
    → sign_bytes t ≡ (nth k tokens).token.bytes
binary_bytes s t k tokens is same took =
    ap sign_bytes (sym same) ∙ ap (λ (x : Token). x.bytes) (sym (is (any_sign2 binary_ops (nth k tokens).token took)))

-- the token that the slot takes is the sign
pub unary_taken : (s : SignOf) (k : ℕ) (tokens : List Placed) → IsSignAt s k tokens → takes Unary (nth k tokens).token ≡ true → takes Unary (sign_token (sign_bytes s)) ≡ true
unary_taken s k tokens is took = ap (takes Unary) (sym (is (any_sign1 unary_ops (nth k tokens).token took))) ∙ took

pub binary_taken : (s : SignOf) (k : ℕ) (tokens : List Placed) → IsSignAt s k tokens → takes Binary (nth k tokens).token ≡ true → takes Binary (sign_token (sign_bytes s)) ≡ true
binary_taken s k tokens is took = ap (takes Binary) (sym (is (any_sign2 binary_ops (nth k tokens).token took))) ∙ took

pub last_unary : (s : SignOf) → (s ≡ sign.Tilde → ⊥) → (s ≡ sign.Ampersand → ⊥) → (s ≡ sign.Bar → ⊥) → takes Unary (sign_token (sign_bytes s)) ≡ true → sign1 RedXor ≡ sign_bytes s
last_unary sign.Tilde n0 n1 n2 took = absurd (n0 refl)
last_unary sign.Ampersand n0 n1 n2 took = absurd (n1 refl)
last_unary sign.Bar n0 n1 n2 took = absurd (n2 refl)
last_unary sign.Caret n0 n1 n2 took = refl
last_unary _ n0 n1 n2 took = absurd (false≢true took)

pub last_binary : (s : SignOf) → (s ≡ sign.Plus → ⊥) → (s ≡ sign.Minus → ⊥) → (s ≡ sign.Star → ⊥) → (s ≡ sign.Ampersand → ⊥) → (s ≡ sign.Bar → ⊥) → (s ≡ sign.Caret → ⊥) → (s ≡ sign.EqualsEquals → ⊥) → (s ≡ sign.Less → ⊥) → (s ≡ sign.LessLess → ⊥) → takes Binary (sign_token (sign_bytes s)) ≡ true → binary_sign Shr ≡ sign_bytes s
last_binary sign.Plus n0 n1 n2 n3 n4 n5 n6 n7 n8 took = absurd (n0 refl)
last_binary sign.Minus n0 n1 n2 n3 n4 n5 n6 n7 n8 took = absurd (n1 refl)
last_binary sign.Star n0 n1 n2 n3 n4 n5 n6 n7 n8 took = absurd (n2 refl)
last_binary sign.Ampersand n0 n1 n2 n3 n4 n5 n6 n7 n8 took = absurd (n3 refl)
last_binary sign.Bar n0 n1 n2 n3 n4 n5 n6 n7 n8 took = absurd (n4 refl)
last_binary sign.Caret n0 n1 n2 n3 n4 n5 n6 n7 n8 took = absurd (n5 refl)
last_binary sign.EqualsEquals n0 n1 n2 n3 n4 n5 n6 n7 n8 took = absurd (n6 refl)
last_binary sign.Less n0 n1 n2 n3 n4 n5 n6 n7 n8 took = absurd (n7 refl)
last_binary sign.LessLess n0 n1 n2 n3 n4 n5 n6 n7 n8 took = absurd (n8 refl)
last_binary sign.GreaterGreater n0 n1 n2 n3 n4 n5 n6 n7 n8 took = refl
last_binary _ n0 n1 n2 n3 n4 n5 n6 n7 n8 took = absurd (false≢true took)
