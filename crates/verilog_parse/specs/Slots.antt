-- Which tokens a slot takes, and how many tokens fit slots one after the other.
use Rattle.std.specs.Prelude.{ℕ, suc, Bool, true, false, ◌&&◌, if◌then◌else◌}
use Rattle.std.specs.Prelude.{List, [], ◌∷◌}
use Rattle.std.specs.List.{list_any}
use Rattle.std.specs.Str.{bytes_eq}
use Rattle.netlist.specs.declared.net.Op1.{Op1}
use Rattle.netlist.specs.declared.net.Op1.TheVariants.{Not, RedAnd, RedOr, RedXor}
use Rattle.netlist.specs.declared.net.Op2.{Op2}
use Rattle.netlist.specs.declared.net.Op2.TheVariants.{Add, Sub, Mul, And, Or, Xor, Eq, LtU}
use Rattle.netlist.specs.declared.net.Op2.TheVariants.{Shl, Shr}
use Rattle.verilog_text.specs.Grammar.{binary_sign, keyword, sign, signed}
use Rattle.verilog_text.specs.Text.{sign1}
use Rattle.verilog_text.specs.VForms.{Sort, Token}
use Rattle.verilog_text.specs.VForms.Sort.{keyword as a_keyword, literal as a_literal}
use Rattle.verilog_text.specs.VForms.Sort.{name as a_name, number as a_number, sign as a_sign}
use Rattle.verilog_text.specs.VForms.Sort.{signed as a_signed}
use Rattle.verilog_tree.specs.Syntax.{tokens_of}
use Rattle.verilog_lex.specs.Shown.{keyword_bytes, placed, sign_bytes}
use Rattle.verilog_lex.specs.declared.token.Placed.{Placed}
use Rattle.verilog_parse.specs.declared.slot.Slot.{Slot}
use Rattle.verilog_parse.specs.declared.slot.Slot.TheVariants.{Binary, Keyword, Literal, Name}
use Rattle.verilog_parse.specs.declared.slot.Slot.TheVariants.{Number, Sign, Signed, Unary}

abbrev pub same_sort : Sort → Sort → Bool
same_sort a_keyword a_keyword = true
same_sort a_name a_name = true
same_sort a_number a_number = true
same_sort a_literal a_literal = true
same_sort a_signed a_signed = true
same_sort a_sign a_sign = true
same_sort _ _ = false

abbrev pub same_token : Token → Token → Bool
same_token a b = same_sort a.sort b.sort && bytes_eq a.bytes b.bytes

-- the operators of one operand
abbrev pub unary_ops : List Op1
unary_ops = Not ∷ RedAnd ∷ RedOr ∷ RedXor ∷ []

-- the operators of two operands that are no signed numbers
abbrev pub binary_ops : List Op2
binary_ops = Add ∷ Sub ∷ Mul ∷ And ∷ Or ∷ Xor ∷ Eq ∷ LtU ∷ Shl ∷ Shr ∷ []

-- whether the slot takes the token
abbrev pub takes : Slot → Token → Bool
takes (Keyword k) t = same_token (keyword (keyword_bytes k)) t
takes (Sign s) t = same_token (sign (sign_bytes s)) t
takes Name t = same_sort a_name t.sort
takes Number t = same_sort a_number t.sort
takes Literal t = same_sort a_literal t.sort
takes Signed t = same_token signed t
takes Unary t = list_any (λ op. same_token (sign (sign1 op)) t) unary_ops
takes Binary t = list_any (λ op. same_token (sign (binary_sign op)) t) binary_ops

-- what the tokens of the lexer say, wherever they stand
abbrev pub tokens_in : List Placed → List Token
tokens_in tokens = tokens_of (placed tokens)

-- how many tokens at the front fit the slots
abbrev pub fitting : List Slot → List Token → ℕ
fitting [] tokens = 0
fitting (slot ∷ slots) [] = 0
fitting (slot ∷ slots) (t ∷ tokens) =
    if takes slot t then suc (fitting slots tokens) else 0

-- the tokens fit the slots, one each
abbrev pub fits : List Slot → List Token → Bool
fits [] [] = true
fits (slot ∷ slots) (t ∷ tokens) = takes slot t && fits slots tokens
fits _ _ = false
