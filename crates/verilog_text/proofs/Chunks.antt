-- Texts that are made of pieces split into the tokens of the pieces.
use Rattle.std.proofs.Common.{◌≡◌, ℕ, ◌+◌, Bool, true, false, not, ◌&&◌, ◌||◌, List, [], ◌∷◌, ◌++◌, length, map, inl, inr, sym, refl, ap, subst, append_assoc, arith}
use Rattle.std.specs.Prelude.{IsTrue, codes}
use Rattle.std.proofs.lemmas.Bool.{and_parts, false≢true, or_cases}
use Rattle.verilog_text.specs.VForms.{HasForm, Sort, Token, is_keyword, is_sign}
use Rattle.verilog_text.specs.VForms.Sort.{keyword, number, sign, signed}
use Rattle.verilog_text.specs.VTokens.{IsLongest, Placed, TokensFrom, is_white, placed_token}
use Rattle.verilog_text.specs.VTokens.Gap.{none, white}
use Rattle.verilog_text.specs.VTokens.TokensFrom.{ends, next}
use Rattle.verilog_text.proofs.Longest.{alone_longest, dark, is_alone, is_plain, is_token_byte, plain_longest, signed_longest, white_longest}
use Rattle.verilog_text.proofs.Runs.{StopsAt}

abbrev pub token : Sort → List ℕ → Token
token sort bytes = record { sort = sort; bytes = bytes }

abbrev pub tokens_of : List Placed → List Token
tokens_of tokens = map (λ (t : Placed). t.token) tokens

-- wherever it begins, the text splits into these tokens
pub record Reads (text : List ℕ) (tokens : List Token) : Type 0 where
  pub placed_at : ℕ → List Placed
  pub splits : (at : ℕ) → TokensFrom at text (placed_at at)
  pub tokens_are : (at : ℕ) → tokens_of (placed_at at) ≡ tokens

pub reads_end : Reads [] []
reads_end = record { placed_at = λ at. []; splits = λ at. ends at [] (inl none); tokens_are = λ at. refl }

-- white space before a text
white_before : (b : ℕ) → IsTrue (is_white b) → {place : ℕ} {text : List ℕ} {tokens : List Placed} → TokensFrom place text tokens → (at : ℕ) → place ≡ at + 1 → TokensFrom at (b ∷ text) tokens
white_before b blank (ends place rest last) at same =
    ends at (b ∷ rest) (elim last [
      | inl whole ↦ inl (white b rest blank whole)
      | inr cut ↦ inr (b ∷ cut.0, cut.1, white b cut.0 blank cut.2, cut.3, ap (λ (r : List ℕ). b ∷ r) cut.4)
    ])
white_before b blank (next place gap bytes rest sort tokens gaps longest splits) at same =
    let begin : place + length gap ≡ at + length (b ∷ gap) = omega (arith, same) in
    let first = next at (b ∷ gap) bytes rest sort tokens (white b gap blank gaps) longest (subst (λ (p : ℕ). TokensFrom (p + length bytes) rest tokens) begin splits) in
    subst (λ (p : ℕ). TokensFrom at (b ∷ (gap ++ (bytes ++ rest))) (placed_token p sort bytes ∷ tokens)) (sym begin) first

pub reads_white : (b : ℕ) (text : List ℕ) (tokens : List Token) → IsTrue (is_white b) → Reads text tokens → Reads (b ∷ text) tokens
reads_white b text tokens blank reads = record {
  placed_at = λ at. reads.placed_at (at + 1);
  splits = λ at. white_before b blank (reads.splits (at + 1)) at refl;
  tokens_are = λ at. reads.tokens_are (at + 1);
}

pub reads_token : (sort : Sort) (bytes rest : List ℕ) (tokens : List Token) → IsLongest sort bytes rest → Reads rest tokens → Reads (bytes ++ rest) (token sort bytes ∷ tokens)
reads_token sort bytes rest tokens longest reads = record {
  placed_at = λ at. placed_token (at + 0) sort bytes ∷ reads.placed_at (at + 0 + length bytes);
  splits = λ at. next at [] bytes rest sort (reads.placed_at (at + 0 + length bytes)) none longest (reads.splits (at + 0 + length bytes));
  tokens_are = λ at. ap (λ (l : List Token). token sort bytes ∷ l) (reads.tokens_are (at + 0 + length bytes));
}

-- before a rest that is empty or begins with a byte that doesn't pass, the text splits into these
-- tokens
pub record Chunk (text : List ℕ) (tokens : List Token) (test : ℕ → Bool) : Type 0 where
  pub reads : (rest : List ℕ) (more : List Token) → StopsAt test rest → Reads rest more → Reads (text ++ rest) (tokens ++ more)

-- before any rest
abbrev pub free : ℕ → Bool
free b = false

pub stops_free : (rest : List ℕ) → StopsAt free rest
stops_free [] = tt
stops_free (b ∷ rest) = refl

pub joined : {text more : List ℕ} {tokens others : List Token} {test last : ℕ → Bool} → Chunk text tokens test
    → ((rest : List ℕ) → StopsAt last rest → StopsAt test (more ++ rest)) → Chunk more others last → Chunk (text ++ more) (tokens ++ others) last
joined {text = text} {more = more} {tokens = tokens} {others = others} first stops second = record {
  reads = λ rest after ok reads.
      subst (λ (t : List ℕ). Reads t ((tokens ++ others) ++ after)) (sym (append_assoc text more rest))
      (subst (Reads (text ++ (more ++ rest))) (sym (append_assoc tokens others after))
      (first.reads (more ++ rest) (others ++ after) (stops rest ok) (second.reads rest after ok reads)));
}

-- what is free goes before anything
pub behind_free : {text more : List ℕ} {tokens others : List Token} {last : ℕ → Bool} → Chunk text tokens free → Chunk more others last → Chunk (text ++ more) (tokens ++ others) last
behind_free {more = more} first second = joined first (λ rest ok. stops_free (more ++ rest)) second

pub nothing : Chunk [] [] free
nothing = record { reads = λ rest more ok reads. reads }

pub plain_chunk : (sort : Sort) (bytes : List ℕ) → is_plain sort ≡ true → HasForm sort bytes → Chunk bytes (token sort bytes ∷ []) is_token_byte
plain_chunk sort bytes plain form = record {
  reads = λ rest more ok reads. reads_token sort bytes rest more (plain_longest sort bytes rest plain form ok) reads;
}

pub sign_chunk : (bytes : List ℕ) → IsTrue (is_sign bytes) → Chunk bytes (token sign bytes ∷ []) dark
sign_chunk bytes form = record {
  reads = λ rest more ok reads. reads_token sign bytes rest more (white_longest sign bytes rest form ok) reads;
}

-- pieces of a fixed text
pub data Piece : Type 0 where
  blank : ℕ → Piece
  word : List ℕ → Piece
  mark : List ℕ → Piece
  signed_word : Piece
  nought : Piece

abbrev pub text_of : List Piece → List ℕ
text_of [] = []
text_of (blank b ∷ pieces) = b ∷ text_of pieces
text_of (word bytes ∷ pieces) = bytes ++ text_of pieces
text_of (mark bytes ∷ pieces) = bytes ++ text_of pieces
text_of (signed_word ∷ pieces) = codes "$signed" ++ text_of pieces
text_of (nought ∷ pieces) = codes "0" ++ text_of pieces

abbrev pub pieces_tokens : List Piece → List Token
pieces_tokens [] = []
pieces_tokens (blank b ∷ pieces) = pieces_tokens pieces
pieces_tokens (word bytes ∷ pieces) = token keyword bytes ∷ pieces_tokens pieces
pieces_tokens (mark bytes ∷ pieces) = token sign bytes ∷ pieces_tokens pieces
pieces_tokens (signed_word ∷ pieces) = token signed (codes "$signed") ∷ pieces_tokens pieces
pieces_tokens (nought ∷ pieces) = token number (codes "0") ∷ pieces_tokens pieces

abbrev first_fails : (ℕ → Bool) → List ℕ → Bool
first_fails test [] = false
first_fails test (b ∷ bytes) = not (test b)

-- each piece is a token, and the next one begins with no byte with which it goes on
abbrev pub are_pieces : List Piece → Bool
are_pieces [] = true
are_pieces (blank b ∷ pieces) = is_white b && are_pieces pieces
are_pieces (word bytes ∷ pieces) = is_keyword bytes && (first_fails is_token_byte (text_of pieces) && are_pieces pieces)
are_pieces (mark bytes ∷ pieces) = is_sign bytes && ((is_alone bytes || first_fails dark (text_of pieces)) && are_pieces pieces)
are_pieces (signed_word ∷ pieces) = are_pieces pieces
are_pieces (nought ∷ pieces) = first_fails is_token_byte (text_of pieces) && are_pieces pieces

fails_stops : (test : ℕ → Bool) (text rest : List ℕ) → first_fails test text ≡ true → StopsAt test (text ++ rest)
fails_stops test [] rest fails = absurd (false≢true fails)
fails_stops test (b ∷ text) rest fails = at (test b) fails
  where
    at : (v : Bool) → not v ≡ true → v ≡ false
    at true n = absurd (false≢true n)
    at false n = refl

fixed_reads : (pieces : List Piece) → are_pieces pieces ≡ true → (rest : List ℕ) (more : List Token) → Reads rest more → Reads (text_of pieces ++ rest) (pieces_tokens pieces ++ more)
fixed_reads [] are rest more reads = reads
fixed_reads (blank b ∷ pieces) are rest more reads =
    let parts = and_parts _ _ are in reads_white b _ _ parts.0 (fixed_reads pieces parts.1 rest more reads)
fixed_reads (word bytes ∷ pieces) are rest more reads =
    let parts = and_parts _ _ are in
    let others = and_parts _ _ parts.1 in
    subst (λ (t : List ℕ). Reads t (token keyword bytes ∷ (pieces_tokens pieces ++ more))) (sym (append_assoc bytes (text_of pieces) rest))
    (reads_token keyword bytes (text_of pieces ++ rest) (pieces_tokens pieces ++ more)
    (plain_longest keyword bytes (text_of pieces ++ rest) refl parts.0 (fails_stops is_token_byte (text_of pieces) rest others.0)) (fixed_reads pieces others.1 rest more reads))
fixed_reads (mark bytes ∷ pieces) are rest more reads =
    let parts = and_parts _ _ are in
    let others = and_parts _ _ parts.1 in
    let longest : IsLongest sign bytes (text_of pieces ++ rest) =
    elim (or_cases (is_alone bytes) _ others.0) [
      | inl alone ↦ alone_longest bytes (text_of pieces ++ rest) parts.0 alone
      | inr before ↦ white_longest sign bytes (text_of pieces ++ rest) parts.0 (fails_stops dark (text_of pieces) rest before)
    ] in
    subst (λ (t : List ℕ). Reads t (token sign bytes ∷ (pieces_tokens pieces ++ more))) (sym (append_assoc bytes (text_of pieces) rest))
    (reads_token sign bytes (text_of pieces ++ rest) (pieces_tokens pieces ++ more) longest (fixed_reads pieces others.1 rest more reads))
fixed_reads (signed_word ∷ pieces) are rest more reads =
    reads_token signed (codes "$signed") (text_of pieces ++ rest) (pieces_tokens pieces ++ more) (signed_longest (text_of pieces ++ rest)) (fixed_reads pieces are rest more reads)
fixed_reads (nought ∷ pieces) are rest more reads =
    let parts = and_parts _ _ are in
    reads_token number (codes "0") (text_of pieces ++ rest) (pieces_tokens pieces ++ more)
    (plain_longest number (codes "0") (text_of pieces ++ rest) refl (refl, tt) (fails_stops is_token_byte (text_of pieces) rest parts.0)) (fixed_reads pieces parts.1 rest more reads)

-- a fixed text
pub fixed : (pieces : List Piece) → are_pieces pieces ≡ true → Chunk (text_of pieces) (pieces_tokens pieces) free
fixed pieces are = record { reads = λ rest more ok reads. fixed_reads pieces are rest more reads }

-- tokens that are the same written in another way
pub with_tokens : {text : List ℕ} {tokens others : List Token} {test : ℕ → Bool} → tokens ≡ others → Chunk text tokens test → Chunk text others test
with_tokens {text = text} {test = test} same chunk = subst (λ (t : List Token). Chunk text t test) same chunk

-- a text that is the same written in another way
pub with_text : {text other : List ℕ} {tokens : List Token} {test : ℕ → Bool} → text ≡ other → Chunk text tokens test → Chunk other tokens test
with_text {tokens = tokens} {test = test} same chunk = subst (λ (t : List ℕ). Chunk t tokens test) same chunk
