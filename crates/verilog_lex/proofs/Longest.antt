-- When the first bytes are the longest token.
use Rattle.std.proofs.Common.{◌≡◌, ℕ, ◌≤◌, List, ◌++◌, length, take, drop, sym, ap, ◌∙◌, arith}
use Rattle.std.proofs.lemmas.List.{length-take-le, take-append-drop}
use Rattle.verilog_text.specs.VForms.{HasForm, Sort, Token}
use Rattle.verilog_lex.specs.Scanning.{IsTokenAt}

-- no token that stands first is longer than so many bytes
abbrev pub AreWithin : List ℕ → ℕ → Type 0
AreWithin bytes n = (other : Sort) (word more : List ℕ) → word ++ more ≡ bytes → HasForm other word → length word ≤ n

pub longest_token : (bytes : List ℕ) (n : ℕ) (token : Token) → n ≤ length bytes → take n bytes ≡ token.bytes → HasForm token.sort token.bytes → AreWithin bytes n → IsTokenAt bytes token n
longest_token bytes n token within same form shorter = record {
  within = within;
  bytes_are = same;
  longest = record {
    form = form;
    longest = λ other word more whole has.
        let split : word ++ more ≡ bytes = whole ∙ ap (λ w. w ++ drop n bytes) (sym same) ∙ take-append-drop n bytes in
        let front : length word ≤ n = shorter other word more split has in
        let long : length (take n bytes) ≡ n = length-take-le n bytes within in
        omega (arith, ap length same);
  };
}
