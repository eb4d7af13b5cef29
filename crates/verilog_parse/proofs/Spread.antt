-- Tokens that fit slots, one by one.
use Rattle.std.proofs.Common.{◌≡◌, ℕ, zero, suc, Bool, true, false, ◌||◌, List, [], ◌∷◌, ◌++◌, length, sym, refl, ap, ◌∙◌, append_assoc}
use Rattle.std.specs.Prelude.{if◌then◌else◌}
use Rattle.std.specs.List.{list_any, list_all}
use Rattle.std.proofs.lemmas.Bool.{false≢true, and_parts}
use Rattle.netlist.specs.declared.net.Op1.{Op1}
use Rattle.netlist.specs.declared.net.Op1.TheVariants.{RedXor}
use Rattle.netlist.specs.declared.net.Op2.{Op2}
use Rattle.netlist.specs.declared.net.Op2.TheVariants.{Add, Sub, Mul, And, Or, Xor, Eq, LtU, LtS, Shl, Shr, Sar}
use Rattle.verilog_text.specs.Grammar.{binary_sign, binary_tokens, keyword, literal, name, number, sign, signed}
use Rattle.verilog_text.specs.Text.{sign1}
use Rattle.verilog_text.specs.VForms.{Sort, Token}
use Rattle.verilog_text.specs.VForms.Sort.{literal as a_literal, name as a_name, number as a_number}
use Rattle.verilog_lex.specs.Shown.{keyword_bytes, sign_bytes}
use Rattle.verilog_parse.specs.Slots.{binary_ops, fits, same_token, takes, unary_ops}
use Rattle.verilog_parse.specs.declared.slot.Slot.{Slot}
use Rattle.verilog_parse.specs.declared.slot.Slot.TheVariants.{Binary, Keyword, Literal, Name, Number, Sign, Signed, Unary}
use Rattle.verilog_parse.proofs.Taken.{same_sort_is, same_token_is}

-- the operator of a sign
abbrev pub op1_among : List Op1 → Token → Op1
op1_among [] t = RedXor
op1_among (op ∷ ops) t = if same_token (sign (sign1 op)) t then op else op1_among ops t

abbrev pub op2_among : List Op2 → Token → Op2
op2_among [] t = Shr
op2_among (op ∷ ops) t = if same_token (sign (binary_sign op)) t then op else op2_among ops t

-- the token at a place
abbrev pub nth : ℕ → List Token → Token
nth k [] = name []
nth zero (t ∷ tokens) = t
nth (suc k) (t ∷ tokens) = nth k tokens

-- a token that a slot took
abbrev pub taken : Slot → Token → Token
taken (Keyword k) t = keyword (keyword_bytes k)
taken (Sign s) t = sign (sign_bytes s)
taken Name t = name t.bytes
taken Number t = number t.bytes
taken Literal t = literal t.bytes
taken Signed t = signed
taken Unary t = sign (sign1 (op1_among unary_ops t))
taken Binary t = sign (binary_sign (op2_among binary_ops t))

-- the tokens that slots took, from a place on
abbrev pub spread : List Slot → ℕ → List Token → List Token
spread [] k tokens = []
spread (s ∷ slots) k tokens = taken s (nth k tokens) ∷ spread slots (suc k) tokens

of_sort : (s : Sort) (t : Token) → t.sort ≡ s → t ≡ record { sort = s; bytes = t.bytes }
of_sort s t is = λ i. record { sort = is i; bytes = t.bytes }

op1_found : (ops : List Op1) (t : Token) → list_any (λ op. same_token (sign (sign1 op)) t) ops ≡ true → t ≡ sign (sign1 (op1_among ops t))
op1_found [] t found = absurd (false≢true found)
op1_found (op ∷ ops) t found =
    elim (same_token (sign (sign1 op)) t) as (λ v. same_token (sign (sign1 op)) t ≡ v → (v || list_any (λ op. same_token (sign (sign1 op)) t) ops) ≡ true
    → t ≡ sign (sign1 (if v then op else op1_among ops t))) [
      | true ↦ λ here _. same_token_is (sign (sign1 op)) t here
      | false ↦ λ here later. op1_found ops t later
    ] refl found

pub op2_found : (ops : List Op2) (t : Token) → list_any (λ op. same_token (sign (binary_sign op)) t) ops ≡ true → t ≡ sign (binary_sign (op2_among ops t))
op2_found [] t found = absurd (false≢true found)
op2_found (op ∷ ops) t found =
    elim (same_token (sign (binary_sign op)) t) as (λ v. same_token (sign (binary_sign op)) t ≡ v → (v || list_any (λ op. same_token (sign (binary_sign op)) t) ops) ≡ true
    → t ≡ sign (binary_sign (if v then op else op2_among ops t))) [
      | true ↦ λ here _. same_token_is (sign (binary_sign op)) t here
      | false ↦ λ here later. op2_found ops t later
    ] refl found

-- an operator of two operands that are no signed numbers
abbrev pub is_plain : Op2 → Bool
is_plain LtS = false
is_plain Sar = false
is_plain _ = true

op2_plain : (ops : List Op2) (t : Token) → list_all is_plain ops ≡ true → is_plain (op2_among ops t) ≡ true
op2_plain [] t plain = refl
op2_plain (op ∷ ops) t plain =
    let parts = and_parts _ _ plain in
    elim (same_token (sign (binary_sign op)) t) as (λ v. is_plain (if v then op else op2_among ops t) ≡ true) [
      | true ↦ parts.0
      | false ↦ op2_plain ops t parts.1
    ]

pub found_plain : (t : Token) → is_plain (op2_among binary_ops t) ≡ true
found_plain t = op2_plain binary_ops t refl

pub plain_tokens : (op : Op2) (a b : List ℕ) → is_plain op ≡ true → binary_tokens op a b ≡ name a ∷ sign (binary_sign op) ∷ name b ∷ []
plain_tokens Add a b plain = refl
plain_tokens Sub a b plain = refl
plain_tokens Mul a b plain = refl
plain_tokens And a b plain = refl
plain_tokens Or a b plain = refl
plain_tokens Xor a b plain = refl
plain_tokens Eq a b plain = refl
plain_tokens LtU a b plain = refl
plain_tokens LtS a b plain = absurd (false≢true plain)
plain_tokens Shl a b plain = refl
plain_tokens Shr a b plain = refl
plain_tokens Sar a b plain = absurd (false≢true plain)

taken_is : (s : Slot) (t : Token) → takes s t ≡ true → t ≡ taken s t
taken_is (Keyword k) t took = same_token_is (keyword (keyword_bytes k)) t took
taken_is (Sign s) t took = same_token_is (sign (sign_bytes s)) t took
taken_is Name t took = of_sort a_name t (same_sort_is a_name t.sort took)
taken_is Number t took = of_sort a_number t (same_sort_is a_number t.sort took)
taken_is Literal t took = of_sort a_literal t (same_sort_is a_literal t.sort took)
taken_is Signed t took = same_token_is signed t took
taken_is Unary t took = op1_found unary_ops t took
taken_is Binary t took = op2_found binary_ops t took

nth_behind : (before : List Token) (t : Token) (after : List Token) → nth (length before) (before ++ t ∷ after) ≡ t
nth_behind [] t after = refl
nth_behind (b ∷ before) t after = nth_behind before t after

length_more : (before : List Token) (t : Token) → length (before ++ t ∷ []) ≡ suc (length before)
length_more [] t = refl
length_more (b ∷ before) t = ap suc (length_more before t)

spread_behind : (slots : List Slot) (before after : List Token) → fits slots after ≡ true → after ≡ spread slots (length before) (before ++ after)
spread_behind [] before [] fit = refl
spread_behind [] before (t ∷ after) fit = absurd (false≢true fit)
spread_behind (s ∷ slots) before [] fit = absurd (false≢true fit)
spread_behind (s ∷ slots) before (t ∷ after) fit =
    let parts = and_parts _ _ fit in
    let rest : after ≡ spread slots (length (before ++ t ∷ [])) ((before ++ t ∷ []) ++ after) = spread_behind slots (before ++ t ∷ []) after parts.1 in
    let moved : spread slots (length (before ++ t ∷ [])) ((before ++ t ∷ []) ++ after) ≡ spread slots (suc (length before)) (before ++ t ∷ after) =
    ap (λ (k : ℕ). spread slots k ((before ++ t ∷ []) ++ after)) (length_more before t)
    ∙ ap (λ (l : List Token). spread slots (suc (length before)) l) (append_assoc before (t ∷ []) after) in
    let here : t ≡ taken s (nth (length before) (before ++ t ∷ after)) = taken_is s t parts.0 ∙ ap (taken s) (sym (nth_behind before t after)) in
    let whole : after ≡ spread slots (suc (length before)) (before ++ t ∷ after) = rest ∙ moved in
    λ i. here i ∷ whole i

-- tokens that fit slots are those that the slots took
pub is_spread : (slots : List Slot) (tokens : List Token) → fits slots tokens ≡ true → tokens ≡ spread slots 0 tokens
is_spread slots tokens fit = spread_behind slots [] tokens fit
