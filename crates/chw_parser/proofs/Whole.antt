-- The tokens of a text, read one after the other.
use Rattle.std.specs.Prelude.{◌≡◌, ℕ, ◌+◌, ◌<◌, ◌≤◌, suc, Bool, true, false, List, [], ◌∷◌, ◌++◌, length, refl}
use Rattle.std.proofs.Common.{sym, ap, ◌∙◌, subst, take, drop, get_or}
use Rattle.std.proofs.lemmas.List.{take_more, take-append-drop, map-append, append-nil, take_all}
use Rattle.std.proofs.Math.Seq.{drop-cons}
use Rattle.chw_lexer.specs.declared.token.Token.{Token}
use Rattle.chw_base.specs.declared.limits.TheConstants.{NESTING}
use Rattle.chw_grammar.specs.declared.terminal.Terminal.TheVariants as the
use Rattle.chw_grammar.specs.declared.program.Tree.{Tree}
use Rattle.chw_grammar.specs.Lexemes.{Lexeme, terminal, lexeme_of, lexemes_of}
use Rattle.chw_grammar.specs.Grammar.{Reads}
use Rattle.chw_grammar.specs.Height.{tree_height}
use Rattle.parser_parts.specs.declared.parts.Parts.{Parts}
use Rattle.parser_parts.specs.declared.value.Value.TheVariants.{Whole}
use Rattle.parser_parts.specs.Parts.{Stands}
use Rattle.chw_parser.specs.declared.symbol.Symbol.{Symbol}
use Rattle.chw_parser.specs.declared.symbol.Symbol.TheVariants.{Part}
use Rattle.chw_parser.specs.declared.symbol.Rule.TheVariants as rule
use Rattle.chw_parser.specs.declared.machine.Wanted.{Wanted}
use Rattle.chw_parser.specs.declared.machine.Wanted.TheVariants.{Take, Nothing, Refused}
use Rattle.chw_parser.specs.Faults.{bracketed, open_after, ShallowFrom, Shallow, SyntaxAt, DepthAt, nested, high}
use Rattle.chw_parser.specs.State.{start, IsWanted, IsRead, IsState, Progress}
use Rattle.chw_parser.proofs.Reading.{state_start, state_behind, state_begins, state_wrong, end_wrong, end_refused, end_tree, wanted_nothing}

pub state_first : (s t : List Symbol) (p : Parts) → s ≡ Part rule.Program ∷ t → t ≡ [] → Stands p [] → IsState [] s p
state_first s t p h g st =
    let e : s ≡ start = h ∙ ap (λ (z : List Symbol). Part rule.Program ∷ z) g in
    subst (λ (z : List Symbol). IsState [] z p) (sym e) (state_start p st)

one_more : (text : List ℕ) (tokens : List Token) (i : ℕ) (d : Token) → i < length tokens
    → lexemes_of text (take (i + 1) tokens) ≡ lexemes_of text (take i tokens) ++ lexeme_of text (get_or tokens i d) ∷ []
one_more text tokens i d h = ap (lexemes_of text) (take_more tokens i d h) ∙ map-append (lexeme_of text) (take i tokens) (get_or tokens i d ∷ [])

parted : (text : List ℕ) (tokens : List Token) (i : ℕ) (d : Token) → i < length tokens
    → lexemes_of text tokens ≡ lexemes_of text (take i tokens) ++ lexeme_of text (get_or tokens i d) ∷ lexemes_of text (drop (suc i) tokens)
parted text tokens i d h =
    let f : List Token → List Lexeme = λ ts. lexemes_of text (take i tokens) ++ lexemes_of text ts in
    sym (ap (lexemes_of text) (take-append-drop i tokens)) ∙ (map-append (lexeme_of text) (take i tokens) (drop i tokens) ∙ ap f (drop-cons tokens i d h))

read_as : (l : Lexeme) (s t : List Symbol) (p p2 : Parts) (b c : Bool) → IsRead l s p t p2 b → b ≡ c → IsRead l s p t p2 c
read_as l s t p p2 b c h e = subst (λ (z : Bool). IsRead l s p t p2 z) e h

pub state_next : (text : List ℕ) (tokens : List Token) (i : ℕ) (d : Token) (s t : List Symbol) (p p2 : Parts) (b : Bool) → i < length tokens
    → IsState (lexemes_of text (take i tokens)) s p → IsRead (lexeme_of text (get_or tokens i d)) s p t p2 b → b ≡ true
    → IsState (lexemes_of text (take (i + 1) tokens)) t p2
state_next text tokens i d s t p p2 b h st r e =
    let l = lexeme_of text (get_or tokens i d) in
    subst (λ (z : List Lexeme). IsState z t p2) (sym (one_more text tokens i d h))
    (state_behind (lexemes_of text (take i tokens)) l s t p p2 st (read_as l s t p p2 b true r e))

pub token_wrong : (text : List ℕ) (end : ℕ) (tokens : List Token) (i : ℕ) (d : Token) (s t : List Symbol) (p p2 : Parts) (b : Bool) → i < length tokens
    → IsState (lexemes_of text (take i tokens)) s p → IsRead (lexeme_of text (get_or tokens i d)) s p t p2 b → b ≡ false
    → Shallow (lexemes_of text (take i tokens)) → SyntaxAt end (lexemes_of text tokens) (get_or tokens i d).span.from
token_wrong text end tokens i d s t p p2 b h st r e few =
    let l = lexeme_of text (get_or tokens i d) in
    let front = lexemes_of text (take i tokens) in (
      front,
      l ∷ lexemes_of text (drop (suc i) tokens),
      parted text tokens i d h,
      state_begins front s p st,
      few,
      state_wrong front l s p st (read_as l s t p p2 b false r e),
      refl,
    )

all_taken : (text : List ℕ) (tokens : List Token) (i : ℕ) → length tokens ≤ i → lexemes_of text (take i tokens) ≡ lexemes_of text tokens
all_taken text tokens i h = ap (lexemes_of text) (take_all i tokens h)

pub state_last : (text : List ℕ) (tokens : List Token) (i : ℕ) (s : List Symbol) (p : Parts) → length tokens ≤ i
    → IsState (lexemes_of text (take i tokens)) s p → IsState (lexemes_of text tokens) s p
state_last text tokens i s p h st = subst (λ (z : List Lexeme). IsState z s p) (all_taken text tokens i h) st

no_tree : (front : List Lexeme) (s t : List Symbol) (p p2 : Parts) (w : Wanted) → IsState front s p → IsWanted the.End s p t p2 w
    → (w ≡ Nothing → ⊥) → (tree : Tree) → Reads front tree → ⊥
no_tree front s t p p2 (Take y) st h n tree r = end_wrong front y s t p p2 st h.0 h.1 tree r
no_tree front s t p p2 Nothing st h n tree r = n refl
no_tree front s t p p2 Refused st h n tree r = end_refused front s p st h tree r

pub end_early : (lexemes : List Lexeme) (end at : ℕ) (s t : List Symbol) (p p2 : Parts) (w : Wanted) → IsState lexemes s p
    → IsWanted the.End s p t p2 w → (w ≡ Nothing → ⊥) → Shallow lexemes → at ≡ end → SyntaxAt end lexemes at
end_early lexemes end at s t p p2 w st h n few e =
    (lexemes, [], sym (append-nil lexemes), state_begins lexemes s p st, few, no_tree lexemes s t p p2 w st h n, e)

-- at the end the parts stand for the tree
pub tree_at_end : (lexemes : List Lexeme) (s t : List Symbol) (p p2 : Parts) (w : Wanted) → IsState lexemes s p
    → IsWanted the.End s p t p2 w → w ≡ Nothing → (tree : Tree) × Reads lexemes tree × Stands p2 (Whole tree ∷ [])
tree_at_end lexemes s t p p2 w st h e = end_tree lexemes s p p2 st (wanted_nothing t h e)

pub low_tree : (lexemes : List Lexeme) (t : Tree) (p : Parts) → (tree : Tree) × Reads lexemes tree × Stands p (Whole tree ∷ [])
    → ((tree : Tree) → Stands p (Whole tree ∷ []) → (t ≡ tree) × (tree_height tree ≤ NESTING)) → Reads lexemes t × (tree_height t ≤ NESTING)
low_tree lexemes t p f h =
    let k = h f.0 f.2 in
    (subst (λ (z : Tree). Reads lexemes z) (sym k.0) f.1, subst (λ (z : Tree). tree_height z ≤ NESTING) (sym k.0) k.1)

pub too_high : (lexemes : List Lexeme) (tree : Tree) → Reads lexemes tree → Shallow lexemes → NESTING < tree_height tree → DepthAt lexemes 0
too_high lexemes tree r few h = high tree r few h refl

-- brackets

open_more : (n : ℕ) (front : List Lexeme) (l : Lexeme) → open_after n (front ++ l ∷ []) ≡ bracketed (open_after n front) (terminal l)
open_more n [] l = refl
open_more n (k ∷ front) l = open_more (bracketed n (terminal k)) front l

shallow_more : (n : ℕ) (front : List Lexeme) (l : Lexeme) → ShallowFrom n front → bracketed (open_after n front) (terminal l) ≤ NESTING
    → ShallowFrom n (front ++ l ∷ [])
shallow_more n [] l s h = (h, tt)
shallow_more n (k ∷ front) l s h = (s.0, shallow_more (bracketed n (terminal k)) front l s.1 h)

pub count_next : (text : List ℕ) (tokens : List Token) (i : ℕ) (d : Token) (n m : ℕ) → i < length tokens
    → n ≡ open_after 0 (lexemes_of text (take i tokens)) → m ≡ bracketed n (terminal (lexeme_of text (get_or tokens i d)))
    → m ≡ open_after 0 (lexemes_of text (take (i + 1) tokens))
count_next text tokens i d n m h e f =
    let l = lexeme_of text (get_or tokens i d) in
    f ∙ (ap (λ (z : ℕ). bracketed z (terminal l)) e ∙ (sym (open_more 0 (lexemes_of text (take i tokens)) l) ∙ ap (open_after 0) (sym (one_more text tokens i d h))))

pub shallow_next : (text : List ℕ) (tokens : List Token) (i : ℕ) (d : Token) (n m : ℕ) → i < length tokens
    → n ≡ open_after 0 (lexemes_of text (take i tokens)) → m ≡ bracketed n (terminal (lexeme_of text (get_or tokens i d)))
    → Shallow (lexemes_of text (take i tokens)) → m ≤ NESTING → Shallow (lexemes_of text (take (i + 1) tokens))
shallow_next text tokens i d n m h e f few le =
    let l = lexeme_of text (get_or tokens i d) in
    let front = lexemes_of text (take i tokens) in
    let is : bracketed (open_after 0 front) (terminal l) ≡ m = sym (f ∙ ap (λ (z : ℕ). bracketed z (terminal l)) e) in
    subst (λ (z : List Lexeme). Shallow z) (sym (one_more text tokens i d h)) (shallow_more 0 front l few (subst (λ (z : ℕ). z ≤ NESTING) (sym is) le))

pub progress_next : (text : List ℕ) (tokens : List Token) (i : ℕ) (d : Token) (s t : List Symbol) (p p2 : Parts) (b : Bool) (n m : ℕ) → i < length tokens
    → Progress (lexemes_of text (take i tokens)) s p n → IsRead (lexeme_of text (get_or tokens i d)) s p t p2 b → b ≡ true
    → m ≡ bracketed n (terminal (lexeme_of text (get_or tokens i d))) → m ≤ NESTING
    → Progress (lexemes_of text (take (i + 1) tokens)) t p2 m
progress_next text tokens i d s t p p2 b n m h pr r e f le = record {
  state = state_next text tokens i d s t p p2 b h pr.state r e;
  count = count_next text tokens i d n m h pr.count f;
  few = le;
  shallow = shallow_next text tokens i d n m h pr.count f pr.shallow le;
}

pub too_deep : (text : List ℕ) (tokens : List Token) (i : ℕ) (d : Token) (s t : List Symbol) (p p2 : Parts) (b : Bool) (n m : ℕ) → i < length tokens
    → Progress (lexemes_of text (take i tokens)) s p n → IsRead (lexeme_of text (get_or tokens i d)) s p t p2 b → b ≡ true
    → m ≡ bracketed n (terminal (lexeme_of text (get_or tokens i d))) → NESTING < m
    → DepthAt (lexemes_of text tokens) (get_or tokens i d).span.from
too_deep text tokens i d s t p p2 b n m h pr r e f gt =
    let l = lexeme_of text (get_or tokens i d) in
    let front = lexemes_of text (take i tokens) in
    let st = state_next text tokens i d s t p p2 b h pr.state r e in
    let st' = subst (λ (z : List Lexeme). IsState z t p2) (one_more text tokens i d h) st in
    let is : m ≡ open_after 0 (front ++ l ∷ []) = f ∙ (ap (λ (z : ℕ). bracketed z (terminal l)) pr.count ∙ sym (open_more 0 front l)) in
    nested front l (lexemes_of text (drop (suc i) tokens)) (parted text tokens i d h) (state_begins (front ++ l ∷ []) t p2 st') pr.shallow
    (subst (λ (z : ℕ). NESTING < z) is gt) refl

pub progress_last : (text : List ℕ) (tokens : List Token) (i : ℕ) (s : List Symbol) (p : Parts) (n : ℕ) → length tokens ≤ i
    → Progress (lexemes_of text (take i tokens)) s p n → Progress (lexemes_of text tokens) s p n
progress_last text tokens i s p n h pr = subst (λ (z : List Lexeme). Progress z s p n) (all_taken text tokens i h) pr
