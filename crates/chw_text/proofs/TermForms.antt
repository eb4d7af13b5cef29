-- Each form of a term, written part by part.
use Rattle.std.specs.Prelude.{◌≡◌, ℕ, ◌+◌, ◌<◌, ◌≤◌, Bool, false, true, List, [], ◌∷◌, ◌++◌, length, refl}
use Rattle.std.proofs.Common.{sym, ap, ◌∙◌, drop, get_or}
use Rattle.std.proofs.lemmas.List.{append_assoc, drop_all}
use Rattle.chw_grammar.specs.declared.stand.Stand.TheVariants.{Alone, Simple}
use Rattle.chw_grammar.specs.declared.terminal.Terminal.TheVariants as the
use Rattle.chw_grammar.specs.declared.type_tree.KindTree.{KindTree}
use Rattle.chw_grammar.specs.declared.word.Word.{Word}
use Rattle.chw_grammar.specs.declared.term_tree.Binding.{Binding}
use Rattle.chw_grammar.specs.declared.term_tree.Alternative.{Alternative}
use Rattle.chw_grammar.specs.declared.term_tree.Argument.{Argument}
use Rattle.chw_grammar.specs.declared.term_tree.Argument.TheVariants.{OfTerm, OfType}
use Rattle.chw_grammar.specs.Lexemes.{Lexeme}
use Rattle.chw_grammar.specs.TypeTree.{Ty}
use Rattle.chw_grammar.specs.TermTree.{Tm, term_lambda, term_type_lambda, term_letrec, term_case, term_apply, term_name, term_constructor, term_literal, term_vec, Arguments}
use Rattle.chw_grammar.specs.TermView.{terms_of, bindings_of, alternatives_of, before, arguments_of}
use Rattle.chw_grammar.specs.Text.{sign, lower, kind, closed, type_lexemes, pattern_lexemes, term_lexemes, bindings_lexemes, alternatives_lexemes, arguments_lexemes, elements_lexemes}
use Rattle.chw_text.specs.Spaced.{Puts, Leaves, opening, closing, closes_term, binding_lexemes, alternative_lexemes, argument_lexemes, before_item, elements_from}
use Rattle.chw_text.proofs.Spaces.{puts, puts_as, puts_closed, puts_all, puts_step}
use Rattle.chw_text.proofs.Parts.{from_index, elements_step, elements_end}

-- four lists
pub assoc4 : (a b c d : List Lexeme) → ((a ++ b) ++ c) ++ d ≡ a ++ (b ++ (c ++ d))
assoc4 a b c d = append_assoc (a ++ b) c d ∙ append_assoc a b (c ++ d)

-- items with a sign between and one behind, before others
spliced : (a b c : List Lexeme) (x y : Lexeme) → (a ++ x ∷ (b ++ y ∷ [])) ++ c ≡ a ++ x ∷ (b ++ y ∷ c)
spliced a b c x y = append_assoc a (x ∷ (b ++ y ∷ [])) c ∙ ap (λ (z : List Lexeme). a ++ x ∷ z) (append_assoc b (y ∷ []) c)

-- a term without its parentheses, and with them
term_closed : (p : Bool) (e : Tm) → closed (closes_term p e) (term_lexemes false e) ≡ term_lexemes p e
term_closed p (term_lambda w t e) = refl
term_closed p (term_type_lambda w k e) = refl
term_closed p (term_letrec bs e) = refl
term_closed p (term_case e alts) = refl
term_closed p (term_apply e args) = refl
term_closed p (term_name w) = refl
term_closed p (term_constructor w) = refl
term_closed p (term_literal w) = refl
term_closed p (term_vec t es) = refl

pub term_puts : {o o1 o2 o3 : List ℕ} {b : Bool} {e x : Tm} (p : Bool) → e ≡ x → b ≡ closes_term p e → Puts o (opening b) o1
    → Puts o1 (term_lexemes false e) o2 → Puts o2 (closing b) o3 → Puts o (term_lexemes p x) o3
term_puts {e = e} p whole same first bare last =
    puts_as (puts_closed (closes_term p e) same first bare last) (term_closed p e ∙ ap (term_lexemes p) whole)

pub bare_term : {o n : List ℕ} {e x : Tm} → e ≡ x → Puts o (term_lexemes false e) n → Puts o (term_lexemes false x) n
bare_term whole h = puts_as h (ap (term_lexemes false) whole)

pub lambda_puts : {o o1 o2 : List ℕ} {w : Word} {t : Ty} {e x : Tm} → term_lambda w t e ≡ x
    → Puts o (sign the.Lambda ∷ sign the.Open ∷ lower w ∷ sign the.Colon ∷ (type_lexemes Alone t ++ sign the.Close ∷ sign the.Dot ∷ [])) o1
    → Puts o1 (term_lexemes false e) o2 → Puts o (term_lexemes false x) o2
lambda_puts {w = w} {t = t} {e = e} whole head body =
    bare_term whole (puts_as (puts head body)
    (ap (λ (z : List Lexeme). sign the.Lambda ∷ sign the.Open ∷ lower w ∷ sign the.Colon ∷ z) (append_assoc (type_lexemes Alone t) (sign the.Close ∷ sign the.Dot ∷ []) (term_lexemes false e))))

pub type_lambda_puts : {o o1 o2 : List ℕ} {w : Word} {k : KindTree} {e x : Tm} → term_type_lambda w k e ≡ x
    → Puts o (sign the.TypeLambda ∷ sign the.Open ∷ lower w ∷ sign the.Colon ∷ kind k ∷ sign the.Close ∷ sign the.Dot ∷ []) o1
    → Puts o1 (term_lexemes false e) o2 → Puts o (term_lexemes false x) o2
type_lambda_puts whole head body = bare_term whole (puts head body)

-- a binding, and one more
pub binding_put : {o o1 o2 o3 : List ℕ} (x : Binding) → Puts o (lower x.name ∷ sign the.Colon ∷ (type_lexemes Alone x.ty ++ sign the.Equals ∷ [])) o1
    → Puts o1 (term_lexemes false x.term) o2 → Puts o2 (sign the.Semicolon ∷ []) o3 → Puts o (binding_lexemes x) o3
binding_put x head body last =
    puts_as (puts (puts head body) last)
    (ap (λ (z : List Lexeme). lower x.name ∷ sign the.Colon ∷ z) (assoc4 (type_lexemes Alone x.ty) (sign the.Equals ∷ []) (term_lexemes false x.term) (sign the.Semicolon ∷ [])))

pub binding_puts : {k m n : List ℕ} {all : List Lexeme} (i : ℕ) (x : Binding) (bs : List Binding) → i < length bs → x ≡ get_or bs i x
    → Leaves k all m (bindings_lexemes (bindings_of (drop i bs))) → Puts m (binding_lexemes x) n → Leaves k all n (bindings_lexemes (bindings_of (drop (i + 1) bs)))
binding_puts i x bs inside is left item =
    let more : List Lexeme = bindings_lexemes (bindings_of (drop (i + 1) bs)) in
    puts_step more left item
    (ap (λ (zs : List Binding). bindings_lexemes (bindings_of zs)) (from_index bs i x inside is)
    ∙ ap (λ (z : List Lexeme). lower x.name ∷ sign the.Colon ∷ z) (sym (spliced (type_lexemes Alone x.ty) (term_lexemes false x.term) more (sign the.Equals) (sign the.Semicolon))))

pub letrec_puts : {o o1 o2 o3 o4 : List ℕ} {e x : Tm} (i : ℕ) (bs : List Binding) → term_letrec (bindings_of bs) e ≡ x
    → Puts o (sign the.Letrec ∷ sign the.OpenBrace ∷ []) o1 → Leaves o1 (bindings_lexemes (bindings_of bs)) o2 (bindings_lexemes (bindings_of (drop i bs))) → length bs ≤ i
    → Puts o2 (sign the.CloseBrace ∷ sign the.In ∷ []) o3 → Puts o3 (term_lexemes false e) o4 → Puts o (term_lexemes false x) o4
letrec_puts {e = e} i bs whole head left ended middle body =
    bare_term whole
    (puts_as (puts (puts (puts head (puts_all left (ap (λ (zs : List Binding). bindings_lexemes (bindings_of zs)) (drop_all i bs ended)))) middle) body)
    (ap (λ (z : List Lexeme). sign the.Letrec ∷ sign the.OpenBrace ∷ z) (append_assoc (bindings_lexemes (bindings_of bs)) (sign the.CloseBrace ∷ sign the.In ∷ []) (term_lexemes false e))))

-- an alternative, and one more
pub alternative_put : {o o1 o2 o3 : List ℕ} (x : Alternative) → Puts o (pattern_lexemes x.pattern ++ sign the.Arrow ∷ []) o1
    → Puts o1 (term_lexemes false x.term) o2 → Puts o2 (sign the.Semicolon ∷ []) o3 → Puts o (alternative_lexemes x) o3
alternative_put x head body last =
    puts_as (puts (puts head body) last) (assoc4 (pattern_lexemes x.pattern) (sign the.Arrow ∷ []) (term_lexemes false x.term) (sign the.Semicolon ∷ []))

pub alternative_puts : {k m n : List ℕ} {all : List Lexeme} (i : ℕ) (x : Alternative) (alts : List Alternative) → i < length alts → x ≡ get_or alts i x
    → Leaves k all m (alternatives_lexemes (alternatives_of (drop i alts))) → Puts m (alternative_lexemes x) n
    → Leaves k all n (alternatives_lexemes (alternatives_of (drop (i + 1) alts)))
alternative_puts i x alts inside is left item =
    let more : List Lexeme = alternatives_lexemes (alternatives_of (drop (i + 1) alts)) in
    puts_step more left item
    (ap (λ (zs : List Alternative). alternatives_lexemes (alternatives_of zs)) (from_index alts i x inside is)
    ∙ sym (spliced (pattern_lexemes x.pattern) (term_lexemes false x.term) more (sign the.Arrow) (sign the.Semicolon)))

pub case_puts : {o o1 o2 o3 o4 o5 : List ℕ} {e x : Tm} (i : ℕ) (alts : List Alternative) → term_case e (alternatives_of alts) ≡ x
    → Puts o (sign the.Case ∷ []) o1 → Puts o1 (term_lexemes false e) o2 → Puts o2 (sign the.Of ∷ sign the.OpenBrace ∷ []) o3
    → Leaves o3 (alternatives_lexemes (alternatives_of alts)) o4 (alternatives_lexemes (alternatives_of (drop i alts))) → length alts ≤ i
    → Puts o4 (sign the.CloseBrace ∷ []) o5 → Puts o (term_lexemes false x) o5
case_puts {e = e} i alts whole head on middle left ended brace =
    bare_term whole
    (puts_as (puts (puts (puts (puts head on) middle) (puts_all left (ap (λ (zs : List Alternative). alternatives_lexemes (alternatives_of zs)) (drop_all i alts ended)))) brace)
    (ap (λ (z : List Lexeme). sign the.Case ∷ z) (assoc4 (term_lexemes false e) (sign the.Of ∷ sign the.OpenBrace ∷ []) (alternatives_lexemes (alternatives_of alts)) (sign the.CloseBrace ∷ []))))

argument_before : (x : Argument) (more : Arguments) → arguments_lexemes (before x more) ≡ argument_lexemes x ++ arguments_lexemes more
argument_before (OfTerm e) more = refl
argument_before (OfType t) more = refl

-- one argument more
pub argument_puts : {k m n : List ℕ} {all : List Lexeme} (i : ℕ) (x : Argument) (args : List Argument) → i < length args → x ≡ get_or args i x
    → Leaves k all m (arguments_lexemes (arguments_of (drop i args))) → Puts m (argument_lexemes x) n
    → Leaves k all n (arguments_lexemes (arguments_of (drop (i + 1) args)))
argument_puts i x args inside is left item =
    puts_step (arguments_lexemes (arguments_of (drop (i + 1) args))) left item
    (ap (λ (zs : List Argument). arguments_lexemes (arguments_of zs)) (from_index args i x inside is) ∙ argument_before x (arguments_of (drop (i + 1) args)))

pub apply_puts : {o o1 o2 : List ℕ} {e x : Tm} (i : ℕ) (args : List Argument) → term_apply e (arguments_of args) ≡ x
    → Puts o (term_lexemes true e) o1 → Leaves o1 (arguments_lexemes (arguments_of args)) o2 (arguments_lexemes (arguments_of (drop i args))) → length args ≤ i
    → Puts o (term_lexemes false x) o2
apply_puts i args whole head left ended =
    bare_term whole (puts head (puts_all left (ap (λ (zs : List Argument). arguments_lexemes (arguments_of zs)) (drop_all i args ended))))

-- one element more
pub element_puts : {k m n n2 : List ℕ} {all : List Lexeme} (i : ℕ) (e : Tm) (es : List Tm) → i < length es → e ≡ get_or es i e
    → Leaves k all m (elements_from i (terms_of (drop i es))) → Puts m (before_item i the.Comma) n → Puts n (term_lexemes false e) n2
    → Leaves k all n2 (elements_from (i + 1) (terms_of (drop (i + 1) es)))
element_puts i e es inside is left between item =
    puts_step (elements_from (i + 1) (terms_of (drop (i + 1) es))) left (puts between item)
    (ap (λ (zs : List Tm). elements_from i (terms_of zs)) (from_index es i e inside is) ∙ elements_step i e (terms_of (drop (i + 1) es)))

pub vec_puts : {o o1 o2 o3 : List ℕ} {t : Ty} {x : Tm} (i : ℕ) (es : List Tm) → term_vec t (terms_of es) ≡ x
    → Puts o (sign the.Vec ∷ sign the.At ∷ (type_lexemes Simple t ++ sign the.OpenBracket ∷ [])) o1
    → Leaves o1 (elements_lexemes (terms_of es)) o2 (elements_from i (terms_of (drop i es))) → length es ≤ i
    → Puts o2 (sign the.CloseBracket ∷ []) o3 → Puts o (term_lexemes false x) o3
vec_puts {t = t} i es whole head left ended last =
    bare_term whole
    (puts_as (puts (puts head (puts_all left (ap (λ (zs : List Tm). elements_from i (terms_of zs)) (drop_all i es ended) ∙ elements_end i))) last)
    (ap (λ (z : List Lexeme). sign the.Vec ∷ sign the.At ∷ z) (assoc4 (type_lexemes Simple t) (sign the.OpenBracket ∷ []) (elements_lexemes (terms_of es)) (sign the.CloseBracket ∷ []))))
