-- What words say that begin with no keyword: rows.
use Rattle.std.proofs.Common.{◌≡◌, ℕ, ◌<◌, Bool, true, false, List, [], ◌∷◌, length, drop, get_or, codes, refl, sym, ap, ◌∙◌, subst, arith}
use Rattle.std.proofs.lemmas.Bool.{false≢true}
use Rattle.chw_base.specs.Names.{AllOf}
use Rattle.blif_text.specs.Statements.{Says, Statement, is_mark, row_words, words_of}
use Rattle.blif_text.specs.Statements.Statement.{row_of}
use Rattle.blif_read.specs.Keywords.{is_keyword}

pub no_words_say : (words : List (List ℕ)) → words ≡ [] → (s : Statement) → Says words s → ⊥
no_words_say words none (row_of []) says = let e : [] ≡ codes "1" ∷ [] = sym none ∙ says.0 in cc
no_words_say words none (row_of (m ∷ marks)) says = let e : [] ≡ (m ∷ marks) ∷ codes "1" ∷ [] = sym none ∙ says.0 in cc
no_words_say words none s says = let e : [] ≡ words_of s = sym none ∙ says.0 in cc

row_marks : (first : List ℕ) (others : List (List ℕ)) (s : Statement) → is_keyword first ≡ false → Says (first ∷ others) s
    → (marks : List ℕ) × ((first ∷ others ≡ row_words marks) × AllOf is_mark marks)
row_marks first others (row_of marks) is_false says = (marks, says)
row_marks first others s is_false says =
    absurd (false≢true (sym is_false ∙ ap (λ ws. is_keyword (get_or ws 0 [])) says.0))

pub not_empty_row : (word : List ℕ) → is_keyword word ≡ false → (word ≡ codes "1" → ⊥) → (s : Statement) → Says (word ∷ []) s → ⊥
not_empty_row word is_false never s says = let it = row_marks word [] s is_false says in at it.0 it.1.0
  where
    at : (marks : List ℕ) → word ∷ [] ≡ row_words marks → ⊥
    at [] is = never (ap (λ ws. get_or ws 0 []) is)
    at (m ∷ marks) is = absurd (let n : 1 ≡ 2 = ap length is in omega arith)

-- what a row with marks has
pub record IsRow (first : List ℕ) (others : List (List ℕ)) : Type 0 where
  pub marks : AllOf is_mark first
  pub one : others ≡ codes "1" ∷ []
  pub some : 0 < length first

pub row_says : (first : List ℕ) (others : List (List ℕ)) (s : Statement) → is_keyword first ≡ false → (others ≡ [] → ⊥) → Says (first ∷ others) s
    → IsRow first others
row_says first others s is_false some says = let it = row_marks first others s is_false says in at it.0 it.1.0 it.1.1
  where
    at : (marks : List ℕ) → first ∷ others ≡ row_words marks → AllOf is_mark marks → IsRow first others
    at [] is marked = absurd (some (ap (drop 1) is))
    at (m ∷ marks) is marked =
        let same : m ∷ marks ≡ first = sym (ap (λ ws. get_or ws 0 []) is) in
        let more : 0 < length (m ∷ marks) = omega arith in
        record {
          marks = subst (AllOf is_mark) same marked;
          one = ap (drop 1) is;
          some = subst (λ (t : List ℕ). 0 < length t) same more;
        }

pub says_row : (first : List ℕ) (others : List (List ℕ)) → 0 < length first → others ≡ codes "1" ∷ [] → AllOf is_mark first → Says (first ∷ others) (row_of first)
says_row [] others some one marks = absurd (omega arith)
says_row (m ∷ first) others some one marks = (ap (λ ws. (m ∷ first) ∷ ws) one, marks)
