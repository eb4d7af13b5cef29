-- Names and keywords as longest tokens.
use Rattle.std.proofs.Common.{◌≡◌, ℕ, Bool, true, false, ◌||◌, List, [], ◌∷◌, take, sym, refl, subst, arith}
use Rattle.std.specs.Prelude.{IsTrue}
use Rattle.chw_base.specs.Names.{AllOf, is_small_letter, is_capital, is_digit, is_name_byte}
use Rattle.verilog_text.specs.Grammar.{keyword, name}
use Rattle.verilog_text.specs.VForms.{HasForm, Sort, begins_word, is_keyword}
use Rattle.verilog_text.specs.VForms.Sort.{keyword as a_keyword, literal as a_literal, name as a_name, number as a_number, sign as a_sign, signed as a_signed}
use Rattle.verilog_text.proofs.Firsts.{First, form_first, keyword_word, word_range}
use Rattle.verilog_lex.specs.Scanning.{BeginsWith, IsRun, IsTokenAt}
use Rattle.verilog_lex.specs.Shown.{keyword_bytes}
use Rattle.verilog_lex.specs.declared.token.Keyword.{Keyword}
use Rattle.verilog_lex.specs.declared.token.Keyword.TheVariants.{Always, Assign, Begin, End, Endmodule, If, Initial, Input, Module, Output, Posedge, Reg, Wire}
use Rattle.verilog_lex.proofs.Longest.{AreWithin, longest_token}
use Rattle.verilog_lex.proofs.Runs.{begins_run, within_run_of}

widens : (small capital digit line : Bool) → IsTrue (small || (capital || line)) → IsTrue ((small || (capital || digit)) || line)
widens true capital digit line begins = refl
widens false true digit line begins = refl
widens false false true line begins = refl
widens false false false line begins = begins

word_is_name_byte : (b : ℕ) → IsTrue (begins_word b) → IsTrue (is_name_byte b)
word_is_name_byte b begins = widens (is_small_letter b) (is_capital b) (is_digit b) _ begins

-- what begins with a letter or `_` is of name bytes
word_form : (sort : Sort) (b : ℕ) (bytes : List ℕ) → First a_name b → First sort b → HasForm sort (b ∷ bytes) → AllOf is_name_byte (b ∷ bytes)
word_form a_keyword b bytes begins first form =
    let word = keyword_word (b ∷ bytes) form in (word_is_name_byte b word.0, word.1)
word_form a_name b bytes begins first form = (word_is_name_byte b form.0.0, form.0.1)
word_form a_number b bytes begins first form = absurd (omega arith)
word_form a_literal b bytes begins first form = absurd (omega arith)
word_form a_signed b bytes begins first form = absurd (omega arith)
word_form a_sign b bytes begins first form = absurd (omega arith)

words_within : (bytes : List ℕ) (n : ℕ) → BeginsWith begins_word bytes → IsRun is_name_byte bytes n → AreWithin bytes n
words_within bytes n begins run other [] more same form = omega arith
words_within [] n begins run other (w ∷ word) more same form = absurd begins
words_within (b ∷ bytes) n begins run other (w ∷ word) more same form =
    let head : w ≡ b = cc in
    within_run_of is_name_byte (b ∷ bytes) n run (w ∷ word) more same
    (word_form other w word (subst (First a_name) (sym head) (word_range b begins)) (form_first other w word form) form)

pub name_token : (bytes : List ℕ) (n : ℕ) → BeginsWith begins_word bytes → IsRun is_name_byte bytes n → is_keyword (take n bytes) ≡ false → IsTokenAt bytes (name (take n bytes)) n
name_token bytes n begins run no_key =
    longest_token bytes n (name (take n bytes)) run.within refl (begins_run begins_word is_name_byte bytes n word_is_name_byte begins run, no_key) (words_within bytes n begins run)

is_keyword_of : (k : Keyword) → IsTrue (is_keyword (keyword_bytes k))
is_keyword_of Module = refl
is_keyword_of Endmodule = refl
is_keyword_of Input = refl
is_keyword_of Output = refl
is_keyword_of Wire = refl
is_keyword_of Reg = refl
is_keyword_of Assign = refl
is_keyword_of Always = refl
is_keyword_of Posedge = refl
is_keyword_of Initial = refl
is_keyword_of Begin = refl
is_keyword_of End = refl
is_keyword_of If = refl

pub keyword_token : (bytes : List ℕ) (n : ℕ) (k : Keyword) → BeginsWith begins_word bytes → IsRun is_name_byte bytes n → take n bytes ≡ keyword_bytes k → IsTokenAt bytes (keyword (keyword_bytes k)) n
keyword_token bytes n k begins run same =
    longest_token bytes n (keyword (keyword_bytes k)) run.within same (is_keyword_of k) (words_within bytes n begins run)
