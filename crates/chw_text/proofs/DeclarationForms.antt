-- Each form of a declaration, written part by part, and the end of a line.
use Rattle.std.specs.Prelude.{◌≡◌, ℕ, suc, zero, ◌+◌, ◌<◌, ◌≤◌, Bool, true, false, List, [], ◌∷◌, ◌++◌, length, codes, refl}
use Rattle.std.proofs.Common.{sym, ap, ◌∙◌, arith, drop, get_or}
use Rattle.std.specs.List.{flat_map}
use Rattle.std.proofs.lemmas.List.{append_assoc, drop_all}
use Rattle.chw_lexer.specs.declared.token.Sort.TheVariants as sort
use Rattle.chw_grammar.specs.declared.stand.Stand.TheVariants.{Alone}
use Rattle.chw_grammar.specs.declared.terminal.Terminal.TheVariants as the
use Rattle.chw_grammar.specs.declared.word.Word.{Word}
use Rattle.chw_grammar.specs.declared.program.Constructor.{Constructor}
use Rattle.chw_grammar.specs.declared.program.Parameter.{Parameter}
use Rattle.chw_grammar.specs.declared.program.Declaration.TheVariants.{Domain, Data, Def}
use Rattle.chw_grammar.specs.declared.program.Top.{Top}
use Rattle.chw_grammar.specs.Lexemes.{Lexeme}
use Rattle.chw_grammar.specs.TypeTree.{Ty}
use Rattle.chw_grammar.specs.TermTree.{Tm}
use Rattle.chw_grammar.specs.Text.{sign, lower, upper, type_lexemes, term_lexemes, parameter_lexemes, constructor_lexemes, constructors_lexemes, port_names_lexemes, ports_lexemes, declaration_lexemes, top_lexemes, line, declaration_text}
use Rattle.chw_text.specs.Spaced.{spaced, Puts, Leaves, reset_part, before_item, constructors_from, port_names_from}
use Rattle.chw_text.proofs.Spaces.{puts, puts_as, puts_word, puts_all, puts_step}
use Rattle.chw_text.proofs.Parts.{from_index}
use Rattle.chw_text.proofs.TermForms.{assoc4}

-- a line that ends with `;`
line_end : (ls : List Lexeme) → line (ls ++ sign the.Semicolon ∷ []) ≡ spaced ls ++ codes ";\n"
line_end [] = refl
line_end (l ∷ []) = sym (append_assoc l.bytes (32 ∷ []) (codes ";\n"))
line_end (l ∷ m ∷ ls) = ap (λ (z : List ℕ). l.bytes ++ 32 ∷ z) (line_end (m ∷ ls)) ∙ sym (append_assoc l.bytes (32 ∷ spaced (m ∷ ls)) (codes ";\n"))

pub puts_line : {o m n : List ℕ} {ls : List Lexeme} (all : List Lexeme) → ls ++ sign the.Semicolon ∷ [] ≡ all → Puts o ls m → n ≡ m ++ codes ";\n" → n ≡ o ++ line all
puts_line {o = o} {ls = ls} all same put last =
    last ∙ ap (λ (z : List ℕ). z ++ codes ";\n") put.is ∙ append_assoc o (spaced ls) (codes ";\n") ∙ ap (λ (z : List ℕ). o ++ z) (sym (line_end ls) ∙ ap line same)

-- one item more of a list
pub item_puts : {X : Type 0} {k m n : List ℕ} {all : List Lexeme} (f : X → List Lexeme) (i : ℕ) (x : X) (xs : List X) → i < length xs → x ≡ get_or xs i x
    → Leaves k all m (flat_map f (drop i xs)) → Puts m (f x) n → Leaves k all n (flat_map f (drop (i + 1) xs))
item_puts f i x xs inside is left item =
    puts_step (flat_map f (drop (i + 1) xs)) left item (ap (λ zs. flat_map f zs) (from_index xs i x inside is))

pub items_put : {X : Type 0} {m n : List ℕ} {all : List Lexeme} (f : X → List Lexeme) (i : ℕ) (xs : List X) → Leaves m all n (flat_map f (drop i xs)) → length xs ≤ i → Puts m all n
items_put f i xs left ended = puts_all left (ap (λ zs. flat_map f zs) (drop_all i xs ended))

-- one constructor more
constructors_step : (n : ℕ) (x : Constructor) (xs : List Constructor)
    → constructors_from n (x ∷ xs) ≡ (before_item n the.Bar ++ constructor_lexemes x) ++ constructors_from (n + 1) xs
constructors_step zero x xs = refl
constructors_step (suc n) x xs =
    let later : suc (suc n) ≡ suc n + 1 = omega arith in ap (λ (m : ℕ). sign the.Bar ∷ (constructor_lexemes x ++ constructors_from m xs)) later

constructors_end : (n : ℕ) → constructors_from n [] ≡ []
constructors_end zero = refl
constructors_end (suc n) = refl

pub constructor_puts : {k m n n2 : List ℕ} {all : List Lexeme} (i : ℕ) (x : Constructor) (xs : List Constructor) → i < length xs → x ≡ get_or xs i x
    → Leaves k all m (constructors_from i (drop i xs)) → Puts m (before_item i the.Bar) n → Puts n (constructor_lexemes x) n2 → Leaves k all n2 (constructors_from (i + 1) (drop (i + 1) xs))
constructor_puts i x xs inside is left between item =
    puts_step (constructors_from (i + 1) (drop (i + 1) xs)) left (puts between item)
    (ap (λ (zs : List Constructor). constructors_from i zs) (from_index xs i x inside is) ∙ constructors_step i x (drop (i + 1) xs))

pub constructors_put : {m n : List ℕ} {all : List Lexeme} (i : ℕ) (xs : List Constructor) → Leaves m all n (constructors_from i (drop i xs)) → length xs ≤ i → Puts m all n
constructors_put i xs left ended = puts_all left (ap (λ (zs : List Constructor). constructors_from i zs) (drop_all i xs ended) ∙ constructors_end i)

-- one port more
names_step : (n : ℕ) (w : Word) (ws : List Word) → port_names_from n (w ∷ ws) ≡ (before_item n the.Comma ++ lower w ∷ []) ++ port_names_from (n + 1) ws
names_step zero w ws = refl
names_step (suc n) w ws =
    let later : suc (suc n) ≡ suc n + 1 = omega arith in ap (λ (m : ℕ). sign the.Comma ∷ lower w ∷ port_names_from m ws) later

names_end : (n : ℕ) → port_names_from n [] ≡ []
names_end zero = refl
names_end (suc n) = refl

pub port_puts : {k m n n2 : List ℕ} {all : List Lexeme} (i : ℕ) (w : Word) (ws : List Word) → i < length ws → w ≡ get_or ws i w
    → Leaves k all m (port_names_from i (drop i ws)) → Puts m (before_item i the.Comma) n → Puts n (lower w ∷ []) n2 → Leaves k all n2 (port_names_from (i + 1) (drop (i + 1) ws))
port_puts i w ws inside is left between item =
    puts_step (port_names_from (i + 1) (drop (i + 1) ws)) left (puts between item)
    (ap (λ (zs : List Word). port_names_from i zs) (from_index ws i w inside is) ∙ names_step i w (drop (i + 1) ws))

pub ports_put : {o o1 o2 o3 : List ℕ} (i : ℕ) (ws : List Word) → Puts o (sign the.Open ∷ []) o1 → Leaves o1 (port_names_lexemes ws) o2 (port_names_from i (drop i ws)) → length ws ≤ i
    → Puts o2 (sign the.Close ∷ []) o3 → Puts o (ports_lexemes ws) o3
ports_put i ws first left ended last =
    puts (puts first (puts_all left (ap (λ (zs : List Word). port_names_from i zs) (drop_all i ws ended) ∙ names_end i))) last

domain_tokens : (w : Word) (has_reset : Bool) → ((sign the.Domain ∷ upper w ∷ []) ++ reset_part has_reset) ++ sign the.Semicolon ∷ [] ≡ declaration_lexemes (Domain w has_reset)
domain_tokens w true = refl
domain_tokens w false = refl

pub domain_puts : {o o1 o2 o3 n : List ℕ} {w : Word} (has_reset : Bool) → Puts o (sign the.Domain ∷ []) o1 → Puts o1 (lower w ∷ []) o2
    → Puts o2 (reset_part has_reset) o3 → n ≡ o3 ++ codes ";\n" → n ≡ o ++ declaration_text (Domain w has_reset)
domain_puts {w = w} has_reset first name reset last =
    puts_line (declaration_lexemes (Domain w has_reset)) (domain_tokens w has_reset) (puts (puts first (puts_word sort.Upper name)) reset) last

pub data_puts : {o o1 o2 o3 o4 o5 n : List ℕ} {w : Word} (ps qs : List Parameter) (xs ys : List Constructor) → qs ≡ ps → ys ≡ xs → Puts o (sign the.Data ∷ []) o1 → Puts o1 (lower w ∷ []) o2
    → Puts o2 (flat_map parameter_lexemes qs) o3 → Puts o3 (sign the.Equals ∷ []) o4 → Puts o4 (constructors_lexemes ys) o5 → n ≡ o5 ++ codes ";\n" → n ≡ o ++ declaration_text (Data w ps xs)
data_puts {w = w} ps qs xs ys same_params same_constructors first name params equals constructors last =
    puts_line (sign the.Data ∷ upper w ∷ (flat_map parameter_lexemes ps ++ sign the.Equals ∷ (constructors_lexemes xs ++ sign the.Semicolon ∷ [])))
    (ap (λ (z : List Lexeme). sign the.Data ∷ upper w ∷ z) (assoc4 (flat_map parameter_lexemes ps) (sign the.Equals ∷ []) (constructors_lexemes xs) (sign the.Semicolon ∷ [])))
    (puts (puts (puts (puts first (puts_word sort.Upper name)) (puts_as params (ap (λ (z : List Parameter). flat_map parameter_lexemes z) same_params))) equals)
    (puts_as constructors (ap constructors_lexemes same_constructors))) last

pub def_puts : {o o1 o2 o3 n : List ℕ} {w : Word} (t : Ty) (e : Tm) → Puts o (sign the.Def ∷ []) o1 → Puts o1 (lower w ∷ sign the.Colon ∷ (type_lexemes Alone t ++ sign the.Equals ∷ [])) o2
    → Puts o2 (term_lexemes false e) o3 → n ≡ o3 ++ codes ";\n" → n ≡ o ++ declaration_text (Def w t e)
def_puts {w = w} t e first head body last =
    puts_line (sign the.Def ∷ lower w ∷ sign the.Colon ∷ (type_lexemes Alone t ++ sign the.Equals ∷ (term_lexemes false e ++ sign the.Semicolon ∷ [])))
    (ap (λ (z : List Lexeme). sign the.Def ∷ lower w ∷ sign the.Colon ∷ z) (assoc4 (type_lexemes Alone t) (sign the.Equals ∷ []) (term_lexemes false e) (sign the.Semicolon ∷ [])))
    (puts (puts first head) body) last

pub top_puts : {o o1 o2 o3 o4 n : List ℕ} (x : Top) (ins outs : List Word) → ins ≡ x.inputs → outs ≡ x.outputs → Puts o (sign the.Top ∷ []) o1 → Puts o1 (lower x.definition ∷ []) o2
    → Puts o2 (ports_lexemes ins) o3 → Puts o3 (ports_lexemes outs) o4 → n ≡ o4 ++ codes ";\n" → n ≡ o ++ line (top_lexemes x)
top_puts x ins outs same_ins same_outs first name inputs outputs last =
    puts_line (top_lexemes x)
    (ap (λ (z : List Lexeme). sign the.Top ∷ lower x.definition ∷ z) (append_assoc (ports_lexemes x.inputs) (ports_lexemes x.outputs) (sign the.Semicolon ∷ [])))
    (puts (puts (puts first name) (puts_as inputs (ap ports_lexemes same_ins))) (puts_as outputs (ap ports_lexemes same_outs))) last
