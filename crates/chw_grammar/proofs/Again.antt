-- Tokens that differ in their places alone are read alike: keywords, symbols and words.
use Rattle.std.specs.Prelude.{◌≡◌, ℕ, Bool, IsTrue, List, [], ◌∷◌, refl}
use Rattle.std.proofs.Common.{sym, ap, ◌∙◌, subst}
use Rattle.chw_grammar.specs.declared.terminal.Terminal.{Terminal}
use Rattle.chw_grammar.specs.declared.type_tree.KindTree.{KindTree}
use Rattle.chw_grammar.specs.declared.word.Word.{Word}
use Rattle.chw_grammar.specs.Lexemes.{Lexeme, terminal, terminal_of, kind_terminal, word_of}
use Rattle.chw_grammar.specs.Grammar.{Takes, WordAt, KindAt}
use Rattle.chw_grammar.specs.Places.{bare_word}

-- the same sorts and bytes
abbrev pub Alike : List Lexeme → List Lexeme → Type 0
Alike [] [] = Unit {0}
Alike (l ∷ a) (m ∷ b) = (l.sort ≡ m.sort) × (l.bytes ≡ m.bytes) × Alike a b
Alike _ _ = ⊥

-- tokens alike, which begin here, are read as the same but for places
pub record Again {X Y : Type 0} (At : X → List Lexeme → List Lexeme → Type 0) (bare : X → Y) (x : X) (start end : List Lexeme) : Type 0 where
  pub again : X
  pub rest : List Lexeme
  pub reads : At again start rest
  pub same : bare again ≡ bare x
  pub alike : Alike end rest

same_terminal : (l m : Lexeme) → l.sort ≡ m.sort → l.bytes ≡ m.bytes → terminal l ≡ terminal m
same_terminal l m sorts bytes = λ i. terminal_of (sorts i) (bytes i)

pub record Taken (xs : List Terminal) (start end : List Lexeme) : Type 0 where
  pub rest : List Lexeme
  pub reads : Takes xs start rest
  pub alike : Alike end rest

pub takes_again : (xs : List Terminal) (a b a' : List Lexeme) → Takes xs a b → Alike a a' → Taken xs a' b
takes_again [] a b a' read alike = record { rest = a'; reads = refl; alike = subst (λ (z : List Lexeme). Alike z a') read alike }
takes_again (x ∷ xs) [] b a' read alike = absurd read
takes_again (x ∷ xs) (l ∷ a) b [] read alike = absurd alike
takes_again (x ∷ xs) (l ∷ a) b (m ∷ a') read alike =
    let more = takes_again xs a b a' read.1 alike.2 in
    record { rest = more.rest; reads = (sym (same_terminal l m alike.0 alike.1) ∙ read.0, more.reads); alike = more.alike }

pub word_again : (test : Terminal → Bool) (w : Word) (a b a' : List Lexeme) → WordAt test w a b → Alike a a' → Again (WordAt test) bare_word w a' b
word_again test w [] b a' read alike = absurd read
word_again test w (l ∷ a) b [] read alike = absurd alike
word_again test w (l ∷ a) b (m ∷ a') read alike =
    let bare : List ℕ → Word = λ bytes. record { at = 0; bytes = bytes } in
    record {
      again = word_of m;
      rest = a';
      reads = (subst (λ (x : Terminal). IsTrue (test x)) (same_terminal l m alike.0 alike.1) read.0, refl, refl);
      same = ap bare (sym alike.1) ∙ ap bare_word (sym read.1);
      alike = subst (λ (z : List Lexeme). Alike z a') read.2 alike.2;
    }

pub kind_again : (k : KindTree) (a b a' : List Lexeme) → KindAt k a b → Alike a a' → Taken (kind_terminal k ∷ []) a' b
kind_again k = takes_again (kind_terminal k ∷ [])
