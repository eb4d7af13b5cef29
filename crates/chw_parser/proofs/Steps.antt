-- Tokens, words and kinds are read by their symbols.
use Rattle.std.specs.Prelude.{◌≡◌, ℕ, Bool, IsTrue, List, [], ◌∷◌}
use Rattle.std.proofs.Common.{sym, ap, ◌∙◌, subst}
use Rattle.chw_grammar.specs.declared.type_tree.KindTree.{KindTree}
use Rattle.chw_grammar.specs.declared.terminal.Terminal.{Terminal}
use Rattle.chw_grammar.specs.declared.word.Word.{Word as WordTree}
use Rattle.chw_grammar.specs.Lexemes.{Lexeme, next, word_of}
use Rattle.chw_grammar.specs.Grammar.{Takes, WordAt, KindAt, ResetAt}
use Rattle.chw_parser.specs.declared.symbol.WordSort.{WordSort}
use Rattle.chw_parser.specs.declared.symbol.Symbol.{Symbol}
use Rattle.chw_parser.specs.declared.symbol.Symbol.TheVariants.{Token, Word, Kind, Reset}
use Rattle.parser_parts.specs.declared.value.Value.{Value}
use Rattle.parser_parts.specs.declared.value.Value.TheVariants.{OneWord, OneKind}
use Rattle.chw_parser.specs.Machine.{is_word, Runs, token, word, kind, reset}

-- the tokens, before other symbols
abbrev pub tokens : List Terminal → List Symbol → List Symbol
tokens [] s = s
tokens (x ∷ xs) s = Token x ∷ tokens xs s

pub takes_next : (x : Terminal) (xs : List Terminal) (a b : List Lexeme) → Takes (x ∷ xs) a b → next a ≡ x
takes_next x xs [] b h = absurd h
takes_next x xs (l ∷ a) b h = h.0

pub word_next : (test : Terminal → Bool) (w : WordTree) (a b : List Lexeme) → WordAt test w a b → IsTrue (test (next a))
word_next test w [] b h = absurd h
word_next test w (l ∷ a) b h = h.0

pub tokens_run : (xs : List Terminal) {a b : List Lexeme} {s : List Symbol} {vs out : List Value} → Takes xs a b → Runs s b vs out → Runs (tokens xs s) a vs out
tokens_run [] {s = s} {vs = vs} {out = out} h r = subst (λ (z : List Lexeme). Runs s z vs out) (sym h) r
tokens_run (x ∷ xs) {a = []} h r = absurd h
tokens_run (x ∷ xs) {a = l ∷ a} h r = token h.0 (tokens_run xs h.1 r)

pub word_runs : (x : WordSort) {w : WordTree} {a b : List Lexeme} {s : List Symbol} {vs out : List Value}
    → WordAt (is_word x) w a b → Runs s b (OneWord w ∷ vs) out → Runs (Word x ∷ s) a vs out
word_runs x {a = []} h r = absurd h
word_runs x {w = w} {a = l ∷ a} {b = b} {s = s} {vs = vs} {out = out} h r =
    let one : Runs s b (OneWord (word_of l) ∷ vs) out = subst (λ (z : WordTree). Runs s b (OneWord z ∷ vs) out) h.1 r in
    word h.0 (subst (λ (z : List Lexeme). Runs s z (OneWord (word_of l) ∷ vs) out) (sym h.2) one)

pub kind_runs : (k : KindTree) {a b : List Lexeme} {s : List Symbol} {vs out : List Value}
    → KindAt k a b → Runs s b (OneKind k ∷ vs) out → Runs (Kind ∷ s) a vs out
kind_runs k {a = []} h r = absurd h
kind_runs k {a = l ∷ a} {s = s} {vs = vs} {out = out} h r =
    kind k h.0 (subst (λ (z : List Lexeme). Runs s z (OneKind k ∷ vs) out) (sym h.1) r)

pub reset_runs : {a b : List Lexeme} {s : List Symbol} {vs out : List Value} → ResetAt a b → Runs s b vs out → Runs (Reset ∷ s) a vs out
reset_runs {a = []} h r = absurd h.1
reset_runs {a = l ∷ a} {s = s} {vs = vs} {out = out} h r =
    let bytes : WordTree → List ℕ = λ w. w.bytes in
    reset (h.1.0, ap bytes (sym h.1.1) ∙ h.2) (subst (λ (z : List Lexeme). Runs s z vs out) (sym h.1.2) r)
