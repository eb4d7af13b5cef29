-- Lists of texts that split, one by one, into the tokens of a list.
use Rattle.std.proofs.Common.{◌≡◌, ℕ, ◌+◌, ◌<◌, ◌≤◌, Bool, false, List, [], ◌∷◌, ◌++◌, length, map, refl, ap, arith}
use Rattle.std.specs.Prelude.{codes}
use Rattle.std.specs.List.{concat, flat_map, AllByRecursion}
use Rattle.std.proofs.lemmas.List.{append-nil}
use Rattle.verilog_text.specs.Grammar.{commas as comma_tokens, sign}
use Rattle.verilog_text.specs.Text.{commas, numbered}
use Rattle.verilog_text.specs.VForms.{Token}
use Rattle.verilog_text.proofs.Chunks.{Chunk, blank, fixed, free, joined, mark, nothing, with_tokens, behind_free}
use Rattle.verilog_text.proofs.PrintedSource.{numbered_as, several}
use Rattle.verilog_text.proofs.Runs.{StopsAt}

-- each text is one thing's
abbrev pub Each : {A : Type 0} → (A → List Token) → (ℕ → Bool) → List (List ℕ) → List A → Type 0
Each tokens test [] [] = Unit {0}
Each tokens test (t ∷ texts) (x ∷ xs) = Chunk t (tokens x) test × Each tokens test texts xs
Each tokens test _ _ = ⊥

module _ {A : Type 0} (tokens : A → List Token) (test : ℕ → Bool) where
  pub each_append : (texts more : List (List ℕ)) (xs ys : List A) → Each tokens test texts xs → Each tokens test more ys → Each tokens test (texts ++ more) (xs ++ ys)
  each_append [] more [] ys first second = second
  each_append [] more (x ∷ xs) ys first second = absurd first
  each_append (t ∷ texts) more [] ys first second = absurd first
  each_append (t ∷ texts) more (x ∷ xs) ys first second = (first.0, each_append texts more xs ys first.1 second)

  pub each_map : {B : Type 0} (P : B → Type 0) (text : B → List ℕ) (make : B → A) → ((b : B) → P b → Chunk (text b) (tokens (make b)) test)
      → (bs : List B) → AllByRecursion P bs → Each tokens test (map text bs) (map make bs)
  each_map P text make each [] all = tt
  each_map P text make each (b ∷ bs) all = (each b all.0, each_map P text make each bs all.1)

  pub each_numbered : {B : Type 0} (P : B → Type 0) (end : ℕ) (text : ℕ → B → List ℕ) (make : ℕ → B → A)
      → ((k : ℕ) (b : B) → k < end → P b → Chunk (text k b) (tokens (make k b)) test)
      → (k : ℕ) (bs : List B) → k + length bs ≤ end → AllByRecursion P bs → Each tokens test (numbered text k bs) (numbered_as make k bs)
  each_numbered P end text make each k [] within all = tt
  each_numbered P end text make each k (b ∷ bs) within all =
      (each k b (omega arith) all.0, each_numbered P end text make each (k + 1) bs (omega arith) all.1)

-- texts one behind the other
pub concat_chunk : {A : Type 0} (tokens : A → List Token) (texts : List (List ℕ)) (xs : List A) → Each tokens free texts xs → Chunk (concat texts) (flat_map tokens xs) free
concat_chunk tokens [] [] each = nothing
concat_chunk tokens [] (x ∷ xs) each = absurd each
concat_chunk tokens (t ∷ texts) [] each = absurd each
concat_chunk tokens (t ∷ texts) (x ∷ xs) each = behind_free each.0 (concat_chunk tokens texts xs each.1)

-- the tokens behind the first of a list with commas
abbrev behind_first : {A : Type 0} → (A → List Token) → List A → List Token
behind_first tokens [] = []
behind_first tokens (x ∷ xs) = sign (codes ",") ∷ (tokens x ++ behind_first tokens xs)

commas_are : {A : Type 0} (tokens : A → List Token) (x : A) (xs : List A) → tokens x ++ behind_first tokens xs ≡ comma_tokens tokens x xs
commas_are tokens x [] = append-nil (tokens x)
commas_are tokens x (y ∷ xs) = ap (λ (l : List Token). tokens x ++ sign (codes ",") ∷ l) (commas_are tokens y xs)

abbrev with_comma : List ℕ → List ℕ
with_comma t = codes ", " ++ t

module _ {A : Type 0} (tokens : A → List Token) (test : ℕ → Bool) (ends : test 44 ≡ false) where
  stops_comma : (texts : List (List ℕ)) (rest : List ℕ) → StopsAt test rest → StopsAt test (flat_map with_comma texts ++ rest)
  stops_comma [] rest ok = ok
  stops_comma (t ∷ texts) rest ok = ends

  no_text : Chunk [] [] test
  no_text = record { reads = λ rest more ok reads. reads }

  behind_chunk : (texts : List (List ℕ)) (xs : List A) → Each tokens test texts xs → Chunk (flat_map with_comma texts) (behind_first tokens xs) test
  behind_chunk [] [] each = no_text
  behind_chunk [] (x ∷ xs) each = absurd each
  behind_chunk (t ∷ texts) [] each = absurd each
  behind_chunk (t ∷ texts) (x ∷ xs) each =
      behind_free (fixed (mark (codes ",") ∷ blank 32 ∷ []) refl) (joined each.0 (λ rest ok. stops_comma texts rest ok) (behind_chunk texts xs each.1))

  -- texts with commas between
  pub commas_chunk : (none : A) (texts : List (List ℕ)) (xs : List A) → 1 ≤ length xs → Each tokens test texts xs
      → Chunk (commas texts) (comma_tokens tokens (several none xs).first (several none xs).others) test
  commas_chunk none [] [] some each = absurd (omega arith)
  commas_chunk none [] (x ∷ xs) some each = absurd each
  commas_chunk none (t ∷ texts) [] some each = absurd each
  commas_chunk none (t ∷ texts) (x ∷ xs) some each =
      with_tokens (commas_are tokens x xs) (joined each.0 (λ rest ok. stops_comma texts rest ok) (behind_chunk texts xs each.1))
