-- Tokens each of which has the form of its sort: those of a text, and so the canonical ones of what was read from them.
use Rattle.std.specs.Prelude.{◌≡◌, ℕ, Bool, true, false, IsTrue, List, [], ◌∷◌, ◌++◌, codes, cond, refl}
use Rattle.std.proofs.Common.{sym, ◌∙◌, subst}
use Rattle.std.specs.Str.{bytes_eq}
use Rattle.std.proofs.lemmas.Bool.{false≢true}
use Rattle.chw_lexer.specs.Forms.{HasForm}
use Rattle.chw_lexer.specs.declared.token.Sort.{Sort}
use Rattle.chw_lexer.specs.declared.token.Sort.TheVariants as sort
use Rattle.chw_grammar.specs.declared.type_tree.KindTree.{KindTree}
use Rattle.chw_grammar.specs.declared.type_tree.KindTree.TheVariants as kinds
use Rattle.chw_grammar.specs.declared.terminal.Terminal.{Terminal}
use Rattle.chw_grammar.specs.declared.terminal.Terminal.TheVariants as the
use Rattle.chw_grammar.specs.declared.word.Word.{Word}
use Rattle.chw_grammar.specs.Lexemes.{Lexeme, terminal, terminal_of}
use Rattle.chw_grammar.specs.Grammar.{Takes, is_lower, is_upper, is_numeral, is_literal, WordAt, LowerAt, UpperAt, NumeralAt, LiteralAt}
use Rattle.chw_grammar.specs.Text.{sign_sort, sign, kind, closed}

-- each token has the form of its sort
abbrev pub Formed : List Lexeme → Type 0
Formed [] = Unit {0}
Formed (l ∷ ls) = HasForm l.sort l.bytes × Formed ls

pub formed_append : (a b : List Lexeme) → Formed a → Formed b → Formed (a ++ b)
formed_append [] b one two = two
formed_append (l ∷ a) b one two = (one.0, formed_append a b one.1 two)

pub formed_closed : (v : Bool) (ls : List Lexeme) → Formed ls → Formed (closed v ls)
formed_closed true ls inner = (refl, formed_append ls (sign the.Close ∷ []) inner (refl, tt))
formed_closed false ls inner = inner

pub kind_formed : (k : KindTree) → HasForm (kind k).sort (kind k).bytes
kind_formed kinds.Nat = (refl, (refl, (refl, tt)))
kind_formed kinds.Dom = (refl, (refl, (refl, tt)))
kind_formed kinds.Val = (refl, (refl, (refl, tt)))
kind_formed kinds.Cir = (refl, (refl, (refl, tt)))

-- the sort of the tokens that are this terminal
abbrev class : Terminal → Sort
class the.Lower = sort.Lower
class the.Upper = sort.Upper
class the.Numeral = sort.Numeral
class the.Literal = sort.Literal
class x = sign_sort x

either : (s : Sort) (v : Bool) (x y : Terminal) → class x ≡ s → class y ≡ s → class (cond v x y) ≡ s
either s true x y one two = one
either s false x y one two = two

class_of : (s : Sort) (bytes : List ℕ) → class (terminal_of s bytes) ≡ s
class_of sort.Lower bytes = refl
class_of sort.Upper bytes =
    either sort.Upper (bytes_eq bytes (codes "Nat")) the.Nat _ refl (either sort.Upper (bytes_eq bytes (codes "Dom")) the.Dom _ refl
    (either sort.Upper (bytes_eq bytes (codes "Val")) the.Val _ refl (either sort.Upper (bytes_eq bytes (codes "Cir")) the.Cir the.Upper refl refl)))
class_of sort.Key bytes =
    either sort.Key (bytes_eq bytes (codes "domain")) the.Domain _ refl (either sort.Key (bytes_eq bytes (codes "data")) the.Data _ refl
    (either sort.Key (bytes_eq bytes (codes "def")) the.Def _ refl (either sort.Key (bytes_eq bytes (codes "top")) the.Top _ refl
    (either sort.Key (bytes_eq bytes (codes "letrec")) the.Letrec _ refl (either sort.Key (bytes_eq bytes (codes "in")) the.In _ refl
    (either sort.Key (bytes_eq bytes (codes "case")) the.Case _ refl (either sort.Key (bytes_eq bytes (codes "of")) the.Of _ refl
    (either sort.Key (bytes_eq bytes (codes "forall")) the.Forall the.Vec refl refl))))))))
class_of sort.Numeral bytes = refl
class_of sort.Literal bytes = refl
class_of sort.Symbol bytes =
    either sort.Symbol (bytes_eq bytes (codes ";")) the.Semicolon _ refl (either sort.Symbol (bytes_eq bytes (codes ":")) the.Colon _ refl
    (either sort.Symbol (bytes_eq bytes (codes "=")) the.Equals _ refl (either sort.Symbol (bytes_eq bytes (codes "|")) the.Bar _ refl
    (either sort.Symbol (bytes_eq bytes (codes "(")) the.Open _ refl (either sort.Symbol (bytes_eq bytes (codes ")")) the.Close _ refl
    (either sort.Symbol (bytes_eq bytes (codes "{")) the.OpenBrace _ refl (either sort.Symbol (bytes_eq bytes (codes "}")) the.CloseBrace _ refl
    (either sort.Symbol (bytes_eq bytes (codes "[")) the.OpenBracket _ refl (either sort.Symbol (bytes_eq bytes (codes "]")) the.CloseBracket _ refl
    (either sort.Symbol (bytes_eq bytes (codes ",")) the.Comma _ refl (either sort.Symbol (bytes_eq bytes (codes ".")) the.Dot _ refl
    (either sort.Symbol (bytes_eq bytes (codes "\\")) the.Lambda _ refl (either sort.Symbol (bytes_eq bytes (codes "/\\")) the.TypeLambda _ refl
    (either sort.Symbol (bytes_eq bytes (codes "@")) the.At _ refl (either sort.Symbol (bytes_eq bytes (codes "->")) the.Arrow _ refl
    (either sort.Symbol (bytes_eq bytes (codes "+")) the.Plus _ refl (either sort.Symbol (bytes_eq bytes (codes "*")) the.Star the.Underscore refl refl)))))))))))))))))

lower_class : (x : Terminal) → IsTrue (is_lower x) → class x ≡ sort.Lower
lower_class the.Lower is = refl
lower_class _ is = absurd (false≢true is)

upper_class : (x : Terminal) → IsTrue (is_upper x) → class x ≡ sort.Upper
upper_class the.Upper is = refl
upper_class the.Nat is = refl
upper_class the.Dom is = refl
upper_class the.Val is = refl
upper_class the.Cir is = refl
upper_class _ is = absurd (false≢true is)

numeral_class : (x : Terminal) → IsTrue (is_numeral x) → class x ≡ sort.Numeral
numeral_class the.Numeral is = refl
numeral_class _ is = absurd (false≢true is)

literal_class : (x : Terminal) → IsTrue (is_literal x) → class x ≡ sort.Literal
literal_class the.Literal is = refl
literal_class _ is = absurd (false≢true is)

-- keywords and symbols that are read leave tokens with their forms
pub takes_formed : (xs : List Terminal) (a b : List Lexeme) → Takes xs a b → Formed a → Formed b
takes_formed [] a b read given = subst Formed read given
takes_formed (x ∷ xs) [] b read given = absurd read
takes_formed (x ∷ xs) (l ∷ a) b read given = takes_formed xs a b read.1 given.1

-- a word that is read has its form
word_formed : (test : Terminal → Bool) (s : Sort) → ((x : Terminal) → IsTrue (test x) → class x ≡ s) → (w : Word) (a b : List Lexeme) → WordAt test w a b → Formed a → HasForm s w.bytes × Formed b
word_formed test s tells w [] b read given = absurd read
word_formed test s tells w (l ∷ a) b read given =
    let same : l.sort ≡ s = sym (class_of l.sort l.bytes) ∙ tells (terminal l) read.0 in
    (subst (λ (v : Word). HasForm s v.bytes) (sym read.1) (subst (λ (z : Sort). HasForm z l.bytes) same given.0), subst Formed read.2 given.1)

pub lower_formed : (w : Word) (a b : List Lexeme) → LowerAt w a b → Formed a → HasForm sort.Lower w.bytes × Formed b
lower_formed = word_formed is_lower sort.Lower lower_class

pub upper_formed : (w : Word) (a b : List Lexeme) → UpperAt w a b → Formed a → HasForm sort.Upper w.bytes × Formed b
upper_formed = word_formed is_upper sort.Upper upper_class

pub numeral_formed : (w : Word) (a b : List Lexeme) → NumeralAt w a b → Formed a → HasForm sort.Numeral w.bytes × Formed b
numeral_formed = word_formed is_numeral sort.Numeral numeral_class

pub literal_formed : (w : Word) (a b : List Lexeme) → LiteralAt w a b → Formed a → HasForm sort.Literal w.bytes × Formed b
literal_formed = word_formed is_literal sort.Literal literal_class
