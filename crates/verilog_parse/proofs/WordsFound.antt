-- The words that stand among tokens.
use Rattle.std.proofs.Common.{◌≡◌, ℕ, zero, suc, ◌<◌, ◌≤◌, List, [], ◌∷◌, length, get_or, sym, refl, ap, ◌∙◌, arith}
use Rattle.verilog_text.specs.VForms.Sort.{name as a_name}
use Rattle.verilog_text.specs.VTokens.{Placed, placed_token}
use Rattle.verilog_tree.specs.declared.word.Word.{Word}
use Rattle.verilog_lex.specs.Shown.{placed, placed_of, token_of}
use Rattle.verilog_lex.specs.declared.token.Placed.{Placed as LexPlaced}
use Rattle.verilog_parse.specs.RowMarks.{IsWordAt, nth, word_bytes}

pub nth_found : (tokens : List LexPlaced) (k : ℕ) (x : LexPlaced) → k < length tokens → x ≡ get_or tokens k x → nth k (placed tokens) ≡ placed_of x
nth_found [] k x within is = absurd (omega (arith, within))
nth_found (t ∷ tokens) zero x within is = ap placed_of (sym is)
nth_found (t ∷ tokens) (suc k) x within is = nth_found tokens k x (omega (arith, within)) is

pub nth_past : (tokens : List LexPlaced) (k : ℕ) → length tokens ≤ k → nth k (placed tokens) ≡ placed_token 0 a_name []
nth_past [] k past = refl
nth_past (t ∷ tokens) zero past = absurd (omega (arith, past))
nth_past (t ∷ tokens) (suc k) past = nth_past tokens k (omega (arith, past))

pub word_found : (w : Word) (tokens : List LexPlaced) (k : ℕ) (x : LexPlaced) → k < length tokens → x ≡ get_or tokens k x → w.at ≡ x.at
    → w.bytes.now ≡ word_bytes (token_of x.token) → IsWordAt w k (placed tokens)
word_found w tokens k x within is at bytes =
    let found = nth_found tokens k x within is in
    record {
      at_is = at ∙ ap (λ (p : Placed). p.at) (sym found);
      bytes_are = bytes ∙ ap (λ (p : Placed). word_bytes p.token) (sym found);
    }

pub word_past : (w : Word) (tokens : List LexPlaced) (k : ℕ) → length tokens ≤ k → w.at ≡ 0 → w.bytes.now ≡ [] → IsWordAt w k (placed tokens)
word_past w tokens k past at bytes =
    let found = nth_past tokens k past in
    record {
      at_is = at ∙ ap (λ (p : Placed). p.at) (sym found);
      bytes_are = bytes ∙ ap (λ (p : Placed). word_bytes p.token) (sym found);
    }
