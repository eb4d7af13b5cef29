-- The canonical text of a tree that was read splits into the canonical tokens, and is read as the same tree.
use Rattle.std.specs.Prelude.{◌≡◌, ℕ, suc, ◌<◌, true, false, All, List, [], ◌∷◌, ◌++◌, length, map, refl}
use Rattle.std.specs.List.{flat_map}
use Rattle.std.proofs.Common.{sym, ap, ◌∙◌, subst, arith}
use Rattle.std.proofs.lemmas.List.{append_assoc, append-nil}
use Rattle.chw_lexer.specs.Words.{Word as SortedBytes, word_of, words_of, IsToken, Spaced, no_word, with_space, with_line_feed}
use Rattle.chw_lexer.specs.declared.token.Token.{Token}
use Rattle.chw_grammar.specs.declared.program.Tree.{Tree}
use Rattle.chw_grammar.specs.declared.program.Top.{Top}
use Rattle.chw_grammar.specs.declared.program.Declaration.{Declaration}
use Rattle.chw_grammar.specs.declared.program.Declaration.TheVariants.{Domain, Data, Def}
use Rattle.chw_grammar.specs.Lexemes.{Lexeme, lexemes_of}
use Rattle.chw_grammar.specs.Grammar.{Reads}
use Rattle.chw_grammar.specs.Text.{declaration_lexemes, top_lexemes, tree_lexemes, line, declaration_text, Text}
use Rattle.chw_grammar.proofs.Formed.{Formed}
use Rattle.chw_grammar.proofs.FormedTrees.{DeclarationsFormed, tree_formed}
use Rattle.chw_grammar.proofs.Again.{Alike}
use Rattle.chw_grammar.proofs.AgainTrees.{ReadAgain, tree_again}
use Rattle.chw_grammar.proofs.TreesBack.{tree_back}

abbrev pub sorted : Lexeme → SortedBytes
sorted l = record { sort = l.sort; bytes = l.bytes }

-- the tokens of a text have their forms
pub formed_tokens : (text : List ℕ) (tokens : List Token) → All IsToken (words_of text tokens) → Formed (lexemes_of text tokens)
formed_tokens text [] each = tt
formed_tokens text (t ∷ tokens) each =
    let first : SortedBytes = record { sort = t.sort; bytes = [] } in
    (each 0 first (omega arith), formed_tokens text tokens (λ k d inside. each (suc k) d (omega (arith, inside))))

-- a line is its words with a space or a line feed behind each
spaced_line : (l : Lexeme) (ls : List Lexeme) (text : List ℕ) (words : List SortedBytes) → Formed (l ∷ ls) → Spaced text words → Spaced (line (l ∷ ls) ++ text) (map sorted (l ∷ ls) ++ words)
spaced_line l [] text words formed more =
    subst (λ (z : List ℕ). Spaced z (sorted l ∷ words)) (sym (append_assoc l.bytes (10 ∷ []) text)) (with_line_feed (sorted l) text words formed.0 more)
spaced_line l (m ∷ ls) text words formed more =
    subst (λ (z : List ℕ). Spaced z (sorted l ∷ (map sorted (m ∷ ls) ++ words))) (sym (append_assoc l.bytes (32 ∷ line (m ∷ ls)) text))
    (with_space (sorted l) (line (m ∷ ls) ++ text) (map sorted (m ∷ ls) ++ words) formed.0 (spaced_line m ls text words formed.1 more))

spaced_words : (ls : List Lexeme) (text : List ℕ) (words : List SortedBytes) → 0 < length ls → Formed ls → Spaced text words → Spaced (line ls ++ text) (map sorted ls ++ words)
spaced_words [] text words some formed more = absurd (omega arith)
spaced_words (l ∷ ls) text words some formed more = spaced_line l ls text words formed more

some_tokens : (x : Declaration) → 0 < length (declaration_lexemes x)
some_tokens (Domain w false) = omega arith
some_tokens (Domain w true) = omega arith
some_tokens (Data w ps xs) = omega arith
some_tokens (Def w t e) = omega arith

spaced_declaration : (x : Declaration) (text : List ℕ) (words : List SortedBytes) → Formed (declaration_lexemes x) → Spaced text words → Spaced (declaration_text x ++ text) (map sorted (declaration_lexemes x) ++ words)
spaced_declaration x text words formed more = spaced_words (declaration_lexemes x) text words (some_tokens x) formed more

sorted_append : (a b : List Lexeme) → map sorted a ++ map sorted b ≡ map sorted (a ++ b)
sorted_append [] b = refl
sorted_append (l ∷ a) b = ap (λ (z : List SortedBytes). sorted l ∷ z) (sorted_append a b)

spaced_rest : (xs : List Declaration) (x : Top) → DeclarationsFormed xs → Formed (top_lexemes x)
    → Spaced (flat_map declaration_text xs ++ line (top_lexemes x)) (map sorted (flat_map declaration_lexemes xs ++ top_lexemes x))
spaced_rest [] x formed last =
    let whole = spaced_words (top_lexemes x) [] [] (omega arith) last no_word in
    subst (λ (z : List ℕ). Spaced z (map sorted (top_lexemes x))) (append-nil (line (top_lexemes x)))
    (subst (λ (z : List SortedBytes). Spaced (line (top_lexemes x) ++ []) z) (append-nil (map sorted (top_lexemes x))) whole)
spaced_rest (d ∷ xs) x formed last =
    let rest : List Lexeme = flat_map declaration_lexemes xs ++ top_lexemes x in
    let more = spaced_declaration d (flat_map declaration_text xs ++ line (top_lexemes x)) (map sorted rest) formed.0 (spaced_rest xs x formed.1 last) in
    let words_are : map sorted (declaration_lexemes d) ++ map sorted rest ≡ map sorted ((declaration_lexemes d ++ flat_map declaration_lexemes xs) ++ top_lexemes x) =
    sorted_append (declaration_lexemes d) rest ∙ ap (λ (z : List Lexeme). map sorted z) (sym (append_assoc (declaration_lexemes d) (flat_map declaration_lexemes xs) (top_lexemes x))) in
    subst (λ (z : List ℕ). Spaced z (map sorted ((declaration_lexemes d ++ flat_map declaration_lexemes xs) ++ top_lexemes x))) (sym (append_assoc (declaration_text d) (flat_map declaration_text xs) (line (top_lexemes x))))
    (subst (λ (z : List SortedBytes). Spaced (declaration_text d ++ (flat_map declaration_text xs ++ line (top_lexemes x))) z) words_are more)

pub spaced_text : (text : List ℕ) (tokens : List Token) (tree : Tree) → All IsToken (words_of text tokens) → Reads (lexemes_of text tokens) tree → Spaced (Text tree) (map sorted (tree_lexemes tree))
spaced_text text tokens tree each read =
    let formed = tree_formed (lexemes_of text tokens) tree read (formed_tokens text tokens each) in spaced_rest tree.declarations tree.top formed.0 formed.1

-- tokens with these words are alike
alike_words : (ls : List Lexeme) (text : List ℕ) (tokens : List Token) → words_of text tokens ≡ map sorted ls → Alike ls (lexemes_of text tokens)
alike_words [] text [] same = tt
alike_words [] text (t ∷ tokens) same = cc
alike_words (l ∷ ls) text [] same = cc
alike_words (l ∷ ls) text (t ∷ tokens) same =
    let head : word_of text t ≡ sorted l = cc in
    let tail : words_of text tokens ≡ map sorted ls = cc in
    (ap (λ (w : SortedBytes). w.sort) (sym head), ap (λ (w : SortedBytes). w.bytes) (sym head), alike_words ls text tokens tail)

pub read_again : (tree : Tree) (lexemes : List Lexeme) (others : List Token) → Reads lexemes tree → words_of (Text tree) others ≡ map sorted (tree_lexemes tree) → ReadAgain tree (lexemes_of (Text tree) others)
read_again tree lexemes others read same = tree_again (tree_lexemes tree) (lexemes_of (Text tree) others) tree (tree_back lexemes tree read) (alike_words (tree_lexemes tree) (Text tree) others same)
