-- Texts that split by computation: pieces of which each is a token, white space or a comment.
use Rattle.std.proofs.Common.{◌≡◌, ℕ, ◌+◌, Bool, true, false, not, ◌&&◌, ◌||◌, eqb, List, [], ◌∷◌, ◌++◌, length, inl, inr, sym, refl, ap, ◌∙◌, subst, append_assoc, arith}
use Rattle.std.specs.List.{list_all}
use Rattle.std.proofs.lemmas.Bool.{and_parts, false≢true, or_cases}
use Rattle.std.proofs.lemmas.List.{length-append}
use Rattle.chw_base.specs.Names.{AllOf, BeginsThen, is_digit, is_name_byte}
use Rattle.verilog_text.specs.VForms.{HasForm, Sort, Token, begins_word, is_hex_digit, is_keyword, is_sign}
use Rattle.verilog_text.specs.VForms.Sort.{keyword, literal, name, number, sign, signed}
use Rattle.verilog_text.specs.VTokens.{HasNoEnd, InLine, IsLongest, Placed, TokensFrom, block_comment, is_white, line_comment, placed_token}
use Rattle.verilog_text.specs.VTokens.Gap.{block, none}
use Rattle.verilog_text.specs.VTokens.TokensFrom.{ends, next}
use Rattle.verilog_text.proofs.Chunks.{Reads, reads_token, reads_white, token}
use Rattle.verilog_text.proofs.Firsts.{AllOf-from_list_all}
use Rattle.verilog_text.proofs.Longest.{alone_longest, dark, is_alone, is_plain, is_token_byte, plain_longest, white_longest}
use Rattle.verilog_text.proofs.Runs.{StopsAt}

-- a comment of a line at the end
pub reads_line : (text : List ℕ) → InLine text → Reads (line_comment text) []
reads_line text in_line = record {
  placed_at = λ at. [];
  splits = λ at. ends at (line_comment text) (inr ([], text, none, in_line, refl));
  tokens_are = λ at. refl;
}

-- a comment before a text
block_before : (inside : List ℕ) → HasNoEnd inside → {place : ℕ} {text : List ℕ} {tokens : List Placed} → TokensFrom place text tokens
    → (at : ℕ) → place ≡ at + length (block_comment inside) → TokensFrom at (block_comment inside ++ text) tokens
block_before inside no_end (ends place rest last) at same =
    ends at (block_comment inside ++ rest) (elim last [
      | inl whole ↦ inl (block inside rest no_end whole)
      | inr cut ↦ inr (
        block_comment inside ++ cut.0,
        cut.1,
        block inside cut.0 no_end cut.2,
        cut.3,
        ap (λ (r : List ℕ). block_comment inside ++ r) cut.4 ∙ sym (append_assoc (block_comment inside) cut.0 (line_comment cut.1)),
      )
    ])
block_before inside no_end (next place gap bytes rest sort tokens gaps longest splits) at same =
    let begin : place + length gap ≡ at + length (block_comment inside ++ gap) = omega (arith, same, length-append (block_comment inside) gap) in
    let first = next at (block_comment inside ++ gap) bytes rest sort tokens (block inside gap no_end gaps) longest
    (subst (λ (p : ℕ). TokensFrom (p + length bytes) rest tokens) begin splits) in
    subst (λ (t : List ℕ). TokensFrom at t (placed_token (place + length gap) sort bytes ∷ tokens)) (append_assoc (block_comment inside) gap (bytes ++ rest))
    (subst (λ (p : ℕ). TokensFrom at ((block_comment inside ++ gap) ++ (bytes ++ rest)) (placed_token p sort bytes ∷ tokens)) (sym begin) first)

pub reads_block : (inside text : List ℕ) (tokens : List Token) → HasNoEnd inside → Reads text tokens → Reads (block_comment inside ++ text) tokens
reads_block inside text tokens no_end reads = record {
  placed_at = λ at. reads.placed_at (at + length (block_comment inside));
  splits = λ at. block_before inside no_end (reads.splits (at + length (block_comment inside))) at refl;
  tokens_are = λ at. reads.tokens_are (at + length (block_comment inside));
}

-- no star, no end
no_star : (bytes : List ℕ) → AllOf (λ b. not (eqb b 42)) bytes → HasNoEnd bytes
no_star [] all [] after same = cc
no_star [] all (b ∷ before) after same = cc
no_star (b ∷ bytes) all [] after same =
    let head : b ≡ 42 = cc in false≢true (ap (λ (x : ℕ). not (eqb x 42)) (sym head) ∙ all.0)
no_star (b ∷ bytes) all (c ∷ before) after same =
    let tail : bytes ≡ before ++ 42 ∷ 47 ∷ after = cc in no_star bytes all.1 before after tail

pub data Scanned : Type 0 where
  space : ℕ → Scanned
  note : List ℕ → Scanned
  plain : Sort → List ℕ → Scanned
  sized : List ℕ → List ℕ → Scanned
  mark : List ℕ → Scanned

abbrev sized_bytes : List ℕ → List ℕ → List ℕ
sized_bytes size digits = size ++ 39 ∷ 104 ∷ digits

abbrev pub scanned_text : List Scanned → List ℕ → List ℕ
scanned_text [] rest = rest
scanned_text (space b ∷ pieces) rest = b ∷ scanned_text pieces rest
scanned_text (note inside ∷ pieces) rest = block_comment inside ++ scanned_text pieces rest
scanned_text (plain sort bytes ∷ pieces) rest = bytes ++ scanned_text pieces rest
scanned_text (sized size digits ∷ pieces) rest = sized_bytes size digits ++ scanned_text pieces rest
scanned_text (mark bytes ∷ pieces) rest = bytes ++ scanned_text pieces rest

abbrev pub scanned_tokens : List Scanned → List Token → List Token
scanned_tokens [] more = more
scanned_tokens (space b ∷ pieces) more = scanned_tokens pieces more
scanned_tokens (note inside ∷ pieces) more = scanned_tokens pieces more
scanned_tokens (plain sort bytes ∷ pieces) more = token sort bytes ∷ scanned_tokens pieces more
scanned_tokens (sized size digits ∷ pieces) more = token literal (sized_bytes size digits) ∷ scanned_tokens pieces more
scanned_tokens (mark bytes ∷ pieces) more = token sign bytes ∷ scanned_tokens pieces more

abbrev begins_then : (ℕ → Bool) → (ℕ → Bool) → List ℕ → Bool
begins_then first other [] = false
begins_then first other (b ∷ bytes) = first b && list_all other bytes

begins_sound : (first other : ℕ → Bool) (bytes : List ℕ) → begins_then first other bytes ≡ true → BeginsThen first other bytes
begins_sound first other [] is = false≢true is
begins_sound first other (b ∷ bytes) is = let parts = and_parts _ _ is in (parts.0, AllOf-from_list_all other bytes parts.1)

abbrev has_plain_form : Sort → List ℕ → Bool
has_plain_form keyword bytes = is_keyword bytes
has_plain_form name bytes = begins_then begins_word is_name_byte bytes && not (is_keyword bytes)
has_plain_form number bytes = begins_then is_digit is_digit bytes
has_plain_form _ bytes = false

not_is : (b : Bool) → not b ≡ true → b ≡ false
not_is true n = absurd (false≢true n)
not_is false n = refl

form_sound : (sort : Sort) (bytes : List ℕ) → has_plain_form sort bytes ≡ true → (is_plain sort ≡ true) × HasForm sort bytes
form_sound keyword bytes is = (refl, is)
form_sound name bytes is = let parts = and_parts _ _ is in (refl, (begins_sound begins_word is_name_byte bytes parts.0, not_is _ parts.1))
form_sound number bytes is = (refl, begins_sound is_digit is_digit bytes is)
form_sound literal bytes is = absurd (false≢true is)
form_sound signed bytes is = absurd (false≢true is)
form_sound sign bytes is = absurd (false≢true is)

-- the bytes are none, or begin with one that doesn't pass
abbrev stops : (ℕ → Bool) → List ℕ → Bool
stops test [] = true
stops test (b ∷ bytes) = not (test b)

stops_sound : (test : ℕ → Bool) (bytes : List ℕ) → stops test bytes ≡ true → StopsAt test bytes
stops_sound test [] is = tt
stops_sound test (b ∷ bytes) is = not_is (test b) is

abbrev pub scans : List Scanned → List ℕ → Bool
scans [] rest = true
scans (space b ∷ pieces) rest = is_white b && scans pieces rest
scans (note inside ∷ pieces) rest = list_all (λ b. not (eqb b 42)) inside && scans pieces rest
scans (plain sort bytes ∷ pieces) rest = has_plain_form sort bytes && (stops is_token_byte (scanned_text pieces rest) && scans pieces rest)
scans (sized size digits ∷ pieces) rest =
    (begins_then is_digit is_digit size && begins_then is_hex_digit is_hex_digit digits) && (stops is_token_byte (scanned_text pieces rest) && scans pieces rest)
scans (mark bytes ∷ pieces) rest = is_sign bytes && ((is_alone bytes || stops dark (scanned_text pieces rest)) && scans pieces rest)

-- a text that scans splits
pub scanned_reads : (pieces : List Scanned) (rest : List ℕ) (more : List Token) → scans pieces rest ≡ true → Reads rest more → Reads (scanned_text pieces rest) (scanned_tokens pieces more)
scanned_reads [] rest more is reads = reads
scanned_reads (space b ∷ pieces) rest more is reads =
    let parts = and_parts _ _ is in reads_white b _ _ parts.0 (scanned_reads pieces rest more parts.1 reads)
scanned_reads (note inside ∷ pieces) rest more is reads =
    let parts = and_parts _ _ is in
    reads_block inside (scanned_text pieces rest) (scanned_tokens pieces more) (no_star inside (AllOf-from_list_all _ inside parts.0)) (scanned_reads pieces rest more parts.1 reads)
scanned_reads (plain sort bytes ∷ pieces) rest more is reads =
    let parts = and_parts _ _ is in
    let others = and_parts _ _ parts.1 in
    let form = form_sound sort bytes parts.0 in
    reads_token sort bytes (scanned_text pieces rest) (scanned_tokens pieces more) (plain_longest sort bytes (scanned_text pieces rest) form.0 form.1 (stops_sound is_token_byte (scanned_text pieces rest) others.0))
    (scanned_reads pieces rest more others.1 reads)
scanned_reads (sized size digits ∷ pieces) rest more is reads =
    let parts = and_parts _ _ is in
    let others = and_parts _ _ parts.1 in
    let forms = and_parts _ _ parts.0 in
    let form : HasForm literal (sized_bytes size digits) =
    (size, digits, record { size_is = begins_sound is_digit is_digit size forms.0; digits_are = begins_sound is_hex_digit is_hex_digit digits forms.1; bytes_are = refl }) in
    reads_token literal (sized_bytes size digits) (scanned_text pieces rest) (scanned_tokens pieces more)
    (plain_longest literal (sized_bytes size digits) (scanned_text pieces rest) refl form (stops_sound is_token_byte (scanned_text pieces rest) others.0)) (scanned_reads pieces rest more others.1 reads)
scanned_reads (mark bytes ∷ pieces) rest more is reads =
    let parts = and_parts _ _ is in
    let others = and_parts _ _ parts.1 in
    let longest : IsLongest sign bytes (scanned_text pieces rest) =
    elim (or_cases (is_alone bytes) _ others.0) [
      | inl alone ↦ alone_longest bytes (scanned_text pieces rest) parts.0 alone
      | inr before ↦ white_longest sign bytes (scanned_text pieces rest) parts.0 (stops_sound dark (scanned_text pieces rest) before)
    ] in
    reads_token sign bytes (scanned_text pieces rest) (scanned_tokens pieces more) longest (scanned_reads pieces rest more others.1 reads)
