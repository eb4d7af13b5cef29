-- Each form of a type, written part by part.
use Rattle.std.specs.Prelude.{◌≡◌, ℕ, ◌+◌, ◌<◌, ◌≤◌, Bool, true, List, [], ◌∷◌, length, refl}
use Rattle.std.proofs.Common.{sym, ap, ◌∙◌, arith, drop, get_or}
use Rattle.std.proofs.lemmas.List.{append_assoc, drop_all}
use Rattle.chw_lexer.specs.declared.token.Sort.TheVariants as sort
use Rattle.chw_grammar.specs.declared.stand.Stand.{Stand}
use Rattle.chw_grammar.specs.declared.stand.Stand.TheVariants.{Alone, Left, Summand, Factor, Simple}
use Rattle.chw_grammar.specs.declared.terminal.Terminal.{Terminal}
use Rattle.chw_grammar.specs.declared.terminal.Terminal.TheVariants as the
use Rattle.chw_grammar.specs.declared.type_tree.KindTree.{KindTree}
use Rattle.chw_grammar.specs.declared.word.Word.{Word}
use Rattle.chw_grammar.specs.Lexemes.{Lexeme}
use Rattle.chw_grammar.specs.TypeTree.{Ty, type_forall, type_arrow, type_sum, type_product, type_named, type_variable, type_numeral}
use Rattle.chw_grammar.specs.TypeView.{types_of}
use Rattle.chw_grammar.specs.Text.{sign, lower, kind, closed, closes_named, type_lexemes, parts_lexemes, types_lexemes}
use Rattle.chw_text.specs.Spaced.{Puts, Leaves, opening, closing, closes_type, before_item, parts_from}
use Rattle.chw_text.proofs.Spaces.{puts, puts_as, puts_closed, puts_word, puts_all, puts_step}
use Rattle.chw_text.proofs.Parts.{from_index, parts_step, parts_end}

-- a type without its parentheses, and with them
type_closed : (p : Stand) (t : Ty) → closed (closes_type p t) (type_lexemes Alone t) ≡ type_lexemes p t
type_closed p (type_forall w k t) = refl
type_closed p (type_arrow t u) = refl
type_closed p (type_sum ts) = refl
type_closed p (type_product ts) = refl
type_closed p (type_named w ts) = refl
type_closed p (type_variable w) = refl
type_closed p (type_numeral w) = refl

pub type_puts : {o o1 o2 o3 : List ℕ} {b : Bool} {t x : Ty} (p : Stand) → t ≡ x → b ≡ closes_type p t → Puts o (opening b) o1
    → Puts o1 (type_lexemes Alone t) o2 → Puts o2 (closing b) o3 → Puts o (type_lexemes p x) o3
type_puts {t = t} p whole same first bare last =
    puts_as (puts_closed (closes_type p t) same first bare last) (type_closed p t ∙ ap (type_lexemes p) whole)

pub bare_type : {o n : List ℕ} {t x : Ty} → t ≡ x → Puts o (type_lexemes Alone t) n → Puts o (type_lexemes Alone x) n
bare_type whole h = puts_as h (ap (type_lexemes Alone) whole)

pub forall_puts : {o o1 o2 o3 o4 : List ℕ} {w : Word} {k : KindTree} {t x : Ty} → type_forall w k t ≡ x
    → Puts o (sign the.Forall ∷ sign the.Open ∷ lower w ∷ sign the.Colon ∷ []) o1 → Puts o1 (kind k ∷ []) o2 → Puts o2 (sign the.Close ∷ sign the.Dot ∷ []) o3
    → Puts o3 (type_lexemes Alone t) o4 → Puts o (type_lexemes Alone x) o4
forall_puts whole binder kinds signs body = bare_type whole (puts (puts (puts binder kinds) signs) body)

pub arrow_puts : {o o1 o2 o3 : List ℕ} {t u x : Ty} → type_arrow t u ≡ x
    → Puts o (type_lexemes Left t) o1 → Puts o1 (sign the.Arrow ∷ []) o2 → Puts o2 (type_lexemes Alone u) o3 → Puts o (type_lexemes Alone x) o3
arrow_puts {t = t} {u = u} whole from arrow to =
    bare_type whole (puts_as (puts (puts from arrow) to) (append_assoc (type_lexemes Left t) (sign the.Arrow ∷ []) (type_lexemes Alone u)))

-- one part of a sum or a product more
pub part_puts : {k m n n2 : List ℕ} {all : List Lexeme} (p : Stand) (x : Terminal) (i : ℕ) (t : Ty) (ts : List Ty) → i < length ts → t ≡ get_or ts i t
    → Leaves k all m (parts_from i p x (types_of (drop i ts))) → Puts m (before_item i x) n → Puts n (type_lexemes p t) n2
    → Leaves k all n2 (parts_from (i + 1) p x (types_of (drop (i + 1) ts)))
part_puts p x i t ts inside is before between part =
    puts_step (parts_from (i + 1) p x (types_of (drop (i + 1) ts))) before (puts between part)
    (ap (λ (zs : List Ty). parts_from i p x (types_of zs)) (from_index ts i t inside is) ∙ parts_step i p x t (types_of (drop (i + 1) ts)))

parts_put : {m n : List ℕ} {all : List Lexeme} (p : Stand) (x : Terminal) (i : ℕ) (ts : List Ty) → Leaves m all n (parts_from i p x (types_of (drop i ts)))
    → length ts ≤ i → Puts m all n
parts_put p x i ts last ended = puts_all last (ap (λ (zs : List Ty). parts_from i p x (types_of zs)) (drop_all i ts ended) ∙ parts_end i p x)

pub sum_puts : {o o1 : List ℕ} {x : Ty} (i : ℕ) (ts : List Ty) → type_sum (types_of ts) ≡ x
    → Leaves o (parts_lexemes Summand the.Plus (types_of ts)) o1 (parts_from i Summand the.Plus (types_of (drop i ts))) → length ts ≤ i
    → Puts o (type_lexemes Alone x) o1
sum_puts i ts whole left ended = bare_type whole (parts_put Summand the.Plus i ts left ended)

pub product_puts : {o o1 : List ℕ} {x : Ty} (i : ℕ) (ts : List Ty) → type_product (types_of ts) ≡ x
    → Leaves o (parts_lexemes Factor the.Star (types_of ts)) o1 (parts_from i Factor the.Star (types_of (drop i ts))) → length ts ≤ i
    → Puts o (type_lexemes Alone x) o1
product_puts i ts whole left ended = bare_type whole (parts_put Factor the.Star i ts left ended)

-- one argument of a name more
pub argument_puts : {k m n : List ℕ} {all : List Lexeme} (i : ℕ) (t : Ty) (ts : List Ty) → i < length ts → t ≡ get_or ts i t
    → Leaves k all m (types_lexemes (types_of (drop i ts))) → Puts m (type_lexemes Simple t) n → Leaves k all n (types_lexemes (types_of (drop (i + 1) ts)))
argument_puts i t ts inside is before part =
    puts_step (types_lexemes (types_of (drop (i + 1) ts))) before part (ap (λ (zs : List Ty). types_lexemes (types_of zs)) (from_index ts i t inside is))

pub named_puts : {o o1 o2 : List ℕ} {w : Word} {x : Ty} (i : ℕ) (ts : List Ty) → type_named w (types_of ts) ≡ x
    → Puts o (lower w ∷ []) o1 → Leaves o1 (types_lexemes (types_of ts)) o2 (types_lexemes (types_of (drop i ts))) → length ts ≤ i
    → Puts o (type_lexemes Alone x) o2
named_puts i ts whole word left ended =
    bare_type whole (puts (puts_word sort.Upper word) (puts_all left (ap (λ (zs : List Ty). types_lexemes (types_of zs)) (drop_all i ts ended))))

-- a name with arguments is closed as an argument alone
pub named_closed : (p : Stand) (ts : List Ty) → 0 < length ts → p ≡ Simple → true ≡ closes_named p (types_of ts)
named_closed p [] some simple = absurd (omega arith)
named_closed p (t ∷ ts) some simple = ap (λ (q : Stand). closes_named q (types_of (t ∷ ts))) (sym simple)
