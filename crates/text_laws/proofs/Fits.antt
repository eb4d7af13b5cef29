-- Tokens that open so many brackets at once, and close as many as they open.
use Rattle.std.specs.Prelude.{◌≡◌, ℕ, zero, suc, ◌+◌, ◌≤◌, ◌<◌, Bool, true, false, List, [], ◌∷◌, ◌++◌, codes, cond, refl}
use Rattle.std.proofs.Common.{sym, subst, arith}
use Rattle.std.specs.Str.{bytes_eq}
use Rattle.std.proofs.lemmas.List.{append_assoc}
use Rattle.chw_base.specs.declared.limits.TheConstants.{NESTING}
use Rattle.chw_grammar.specs.declared.terminal.Terminal.{Terminal}
use Rattle.chw_grammar.specs.declared.terminal.Terminal.TheVariants as the
use Rattle.chw_grammar.specs.declared.type_tree.KindTree.{KindTree}
use Rattle.chw_grammar.specs.declared.type_tree.KindTree.TheVariants as kinds
use Rattle.chw_grammar.specs.declared.word.Word.{Word}
use Rattle.chw_grammar.specs.Lexemes.{Lexeme, terminal}
use Rattle.chw_grammar.specs.Text.{sign, kind, upper, closed}
use Rattle.chw_parser.specs.Faults.{bracketed, ShallowFrom}

-- wherever no more are open before them than leave room for k more, they and what follows them are within the limit
abbrev pub Fits : ℕ → List Lexeme → Type 0
Fits k ls = (n : ℕ) (rest : List Lexeme) → n + k ≤ NESTING → ShallowFrom n rest → ShallowFrom n (ls ++ rest)

pub fits_nothing : (k : ℕ) → Fits k []
fits_nothing k = λ n rest within s. s

pub fits_append : (k : ℕ) (a b : List Lexeme) → Fits k a → Fits k b → Fits k (a ++ b)
fits_append k a b one two = λ n rest within s. subst (λ (z : List Lexeme). ShallowFrom n z) (sym (append_assoc a b rest)) (one n (b ++ rest) within (two n rest within s))

-- a token that is no bracket
abbrev pub IsPlain : Terminal → Type 0
IsPlain x = (n : ℕ) → bracketed n x ≡ n

pub fits_plain : (k : ℕ) (l : Lexeme) (ls : List Lexeme) → IsPlain (terminal l) → Fits k ls → Fits k (l ∷ ls)
fits_plain k l ls plain more = λ n rest within s.
    subst (λ (m : ℕ). (m ≤ NESTING) × ShallowFrom m (ls ++ rest)) (sym (plain n)) (omega (arith, within), more n rest within s)

pub fits_brackets : (k : ℕ) (o c : Lexeme) (inner more : List Lexeme) → ((n : ℕ) → bracketed n (terminal o) ≡ n + 1) → ((n : ℕ) → bracketed (n + 1) (terminal c) ≡ n)
    → Fits k inner → Fits (suc k) more → Fits (suc k) (o ∷ (inner ++ c ∷ more))
fits_brackets k o c inner more opens closes one two = λ n rest within s.
    let after : ShallowFrom (n + 1) (c ∷ (more ++ rest)) =
    subst (λ (m : ℕ). (m ≤ NESTING) × ShallowFrom m (more ++ rest)) (sym (closes n)) (omega (arith, within), two n rest within s) in
    let inside : ShallowFrom (n + 1) ((inner ++ c ∷ more) ++ rest) =
    subst (λ (z : List Lexeme). ShallowFrom (n + 1) z) (sym (append_assoc inner (c ∷ more) rest)) (one (n + 1) (c ∷ (more ++ rest)) (omega (arith, within)) after) in
    subst (λ (m : ℕ). (m ≤ NESTING) × ShallowFrom m ((inner ++ c ∷ more) ++ rest)) (sym (opens n)) (omega (arith, within), inside)

-- in parentheses where they are wanted
pub fits_closed : (v : Bool) (h : ℕ) (ls : List Lexeme) → 0 < h → ((k : ℕ) → h ≤ suc k → Fits k ls) → (k : ℕ) → h ≤ k → Fits k (closed v ls)
fits_closed v h ls some inner zero low = absurd (omega (arith, some, low))
fits_closed true h ls some inner (suc k) low = fits_brackets k (sign the.Open) (sign the.Close) ls [] (λ n. refl) (λ n. omega arith) (inner k low) (fits_nothing (suc k))
fits_closed false h ls some inner (suc k) low = inner (suc k) (omega (arith, low))

pub kind_plain : (k : KindTree) → IsPlain (terminal (kind k))
kind_plain kinds.Nat = λ n. refl
kind_plain kinds.Dom = λ n. refl
kind_plain kinds.Val = λ n. refl
kind_plain kinds.Cir = λ n. refl

either : (v : Bool) (x y : Terminal) → IsPlain x → IsPlain y → IsPlain (cond v x y)
either true x y one two = one
either false x y one two = two

pub upper_plain : (w : Word) → IsPlain (terminal (upper w))
upper_plain w =
    either (bytes_eq w.bytes (codes "Nat")) the.Nat _ (λ n. refl) (either (bytes_eq w.bytes (codes "Dom")) the.Dom _ (λ n. refl)
    (either (bytes_eq w.bytes (codes "Val")) the.Val _ (λ n. refl) (either (bytes_eq w.bytes (codes "Cir")) the.Cir the.Upper (λ n. refl) (λ n. refl))))
