-- The canonical text, piece by piece.
use Rattle.std.specs.Prelude.{ℕ, ◌≡◌, ◌-◌, false, List, [], ◌∷◌, ◌++◌, map, flat_map, codes, decimal, refl}
use Rattle.std.specs.List.{range_with_len}
use Rattle.std.proofs.Common.{sym, ap, ◌∙◌, append_assoc}
use Rattle.std.proofs.lemmas.Grind.{flat_map-append}
use Rattle.std.proofs.lemmas.List.Folds.{flat_map-map}
use Rattle.chw_grammar.specs.declared.program.Declaration.TheVariants.{Def, Domain}
use Rattle.chw_grammar.specs.declared.stand.Stand.TheVariants.{Alone}
use Rattle.chw_grammar.specs.declared.term_tree.Binding.{Binding}
use Rattle.chw_grammar.specs.declared.terminal.Terminal.TheVariants as the
use Rattle.chw_grammar.specs.Lexemes.{Lexeme}
use Rattle.chw_grammar.specs.TermView.{bindings_of, terms_of}
use Rattle.chw_grammar.specs.Text.{bindings_lexemes, declaration_lexemes, declaration_text, line, lower, more_elements_lexemes, sign, term_lexemes, top_lexemes, type_lexemes}
use Rattle.make_text.specs.MakeText.{back, binding_text, delay_text, element_text, first_text, front, make_text, product_text, spaced, sum_text}
use Rattle.make_text.specs.MakeTree.{delay, filter, later_product, main_term, main_type, make_tree, plus_term, plus_type, product, signal_in, sum, taken_over, word}

pub spaced_append : (a b : List Lexeme) → spaced (a ++ b) ≡ spaced a ++ spaced b
spaced_append [] b = refl
spaced_append (l ∷ a) b = ap (λ (z : List ℕ). l.bytes ++ 32 ∷ z) (spaced_append a b) ∙ sym (append_assoc l.bytes (32 ∷ spaced a) (spaced b))

-- a line ends with any tokens
line_append : (a : List Lexeme) (m : Lexeme) (ms : List Lexeme) → line (a ++ m ∷ ms) ≡ spaced a ++ line (m ∷ ms)
line_append [] m ms = refl
line_append (l ∷ []) m ms = sym (append_assoc l.bytes (32 ∷ []) (line (m ∷ ms)))
line_append (l ∷ n ∷ a) m ms =
    ap (λ (z : List ℕ). l.bytes ++ 32 ∷ z) (line_append (n ∷ a) m ms) ∙ sym (append_assoc l.bytes (32 ∷ spaced (n ∷ a)) (line (m ∷ ms)))

bindings_append : (b : Binding) (bs : List Binding)
    → bindings_lexemes (bindings_of (b ∷ bs)) ≡ bindings_lexemes (bindings_of (b ∷ [])) ++ bindings_lexemes (bindings_of bs)
bindings_append b bs =
    let type = type_lexemes Alone b.ty in
    let term = term_lexemes false b.term in
    let more = bindings_lexemes (bindings_of bs) in
    ap (λ (z : List Lexeme). lower b.name ∷ sign the.Colon ∷ z)
    (ap (λ (z : List Lexeme). type ++ sign the.Equals ∷ z) (sym (append_assoc term (sign the.Semicolon ∷ []) more))
    ∙ sym (append_assoc type (sign the.Equals ∷ (term ++ sign the.Semicolon ∷ [])) more))

spaced_bindings : (bs : List Binding) → spaced (bindings_lexemes (bindings_of bs)) ≡ flat_map binding_text bs
spaced_bindings [] = refl
spaced_bindings (b ∷ bs) =
    ap spaced (bindings_append b bs) ∙ spaced_append (bindings_lexemes (bindings_of (b ∷ []))) (bindings_lexemes (bindings_of bs))
    ∙ ap (λ (z : List ℕ). binding_text b ++ z) (spaced_bindings bs)

-- the products in a list behind the first
pub spaced_elements : (ks : List ℕ) (rest : List Lexeme)
    → spaced (more_elements_lexemes (terms_of (map later_product ks)) ++ rest) ≡ flat_map element_text ks ++ spaced rest
spaced_elements [] rest = refl
spaced_elements (k ∷ ks) rest =
    let more = more_elements_lexemes (terms_of (map later_product ks)) in
    spaced_append (sign the.Comma ∷ term_lexemes false (later_product k)) (more ++ rest)
    ∙ ap (λ (z : List ℕ). element_text k ++ z) (spaced_elements ks rest)
    ∙ sym (append_assoc (element_text k) (flat_map element_text ks) (spaced rest))

closing_tokens : (a : List Lexeme) (c s : Lexeme) → ((a ++ c ∷ []) ++ []) ++ s ∷ [] ≡ a ++ c ∷ s ∷ []
closing_tokens a c s = simp append_assoc

-- the binding of the sum, around the products behind the first
abbrev pub sum_around : ℕ → List ℕ → List ℕ
sum_around taps elements =
    codes "y : Signal A ( Unsigned 16 ) = vfoldlC @ " ++ (decimal taps
    ++ (codes " @ ( Signal A ( Unsigned 16 ) ) @ ( Signal A ( Unsigned 16 ) ) plus "
    ++ (codes "( pure @ A @ ( Unsigned 16 ) 0u16 ) vec @ ( Signal A ( Unsigned 16 ) ) [ s"
    ++ (decimal 0 ++ (codes " " ++ elements)))))

pub sum_written : (taps : ℕ) → sum_text taps ≡ sum_around taps (flat_map element_text (range_with_len 0 (taps - 1)) ++ codes "] ; ")
sum_written taps =
    let ks = range_with_len 0 (taps - 1) in
    let more = more_elements_lexemes (terms_of (map later_product ks)) in
    let written : spaced (((more ++ sign the.CloseBracket ∷ []) ++ []) ++ sign the.Semicolon ∷ []) ≡ flat_map element_text ks ++ codes "] ; " =
    ap spaced (closing_tokens more (sign the.CloseBracket) (sign the.Semicolon)) ∙ spaced_elements ks (sign the.CloseBracket ∷ sign the.Semicolon ∷ []) in
    ap (sum_around taps) written

-- the texts of all bindings
filter_text : ℕ → List ℕ
filter_text taps =
    first_text ++ (flat_map delay_text (range_with_len 0 (taps - 1)) ++ (flat_map product_text (range_with_len 0 taps)
    ++ (sum_text taps ++ (binding_text taken_over ++ []))))

filter_written : (taps : ℕ) → flat_map binding_text (filter taps) ≡ filter_text taps
unfolding filter_text
filter_written taps =
    let delays = range_with_len 0 (taps - 1) in
    let all = range_with_len 0 taps in
    let ends : List Binding = sum taps ∷ taken_over ∷ [] in
    ap (λ (z : List ℕ). first_text ++ z)
    (flat_map-append binding_text (map delay delays) (map product all ++ ends)
    ∙ ap (λ (z : List ℕ). z ++ flat_map binding_text (map product all ++ ends)) (flat_map-map binding_text delay delays)
    ∙ ap (λ (z : List ℕ). flat_map delay_text delays ++ z)
    (flat_map-append binding_text (map product all) ends
    ∙ ap (λ (z : List ℕ). z ++ flat_map binding_text ends) (flat_map-map binding_text product all)))

-- the tokens of `main` before its bindings, and behind them
abbrev main_front : List Lexeme
main_front =
    sign the.Def ∷ lower (word (codes "main")) ∷ sign the.Colon ∷ (type_lexemes Alone main_type ++ sign the.Equals
    ∷ sign the.Lambda ∷ sign the.Open ∷ lower (word (codes "x")) ∷ sign the.Colon ∷ (type_lexemes Alone (signal_in (codes "A"))
    ++ sign the.Close ∷ sign the.Dot ∷ sign the.Letrec ∷ sign the.OpenBrace ∷ []))

abbrev main_back : List Lexeme
main_back = sign the.In ∷ lower (word (codes "z")) ∷ sign the.Semicolon ∷ []

main_written : (taps : ℕ) → declaration_text (Def (word (codes "main")) main_type (main_term taps))
    ≡ spaced main_front ++ (filter_text taps ++ line (sign the.CloseBrace ∷ main_back))
main_written taps =
    let bound = bindings_lexemes (bindings_of (filter taps)) in
    let tokens_are : declaration_lexemes (Def (word (codes "main")) main_type (main_term taps)) ≡ main_front ++ (bound ++ sign the.CloseBrace ∷ main_back) =
    ap (λ (z : List Lexeme). main_front ++ z) (append_assoc bound (sign the.CloseBrace ∷ sign the.In ∷ lower (word (codes "z")) ∷ []) (sign the.Semicolon ∷ [])) in
    ap line (tokens_are ∙ sym (append_assoc main_front bound (sign the.CloseBrace ∷ main_back)))
    ∙ line_append (main_front ++ bound) (sign the.CloseBrace) main_back
    ∙ ap (λ (z : List ℕ). z ++ line (sign the.CloseBrace ∷ main_back)) (spaced_append main_front bound)
    ∙ append_assoc (spaced main_front) (spaced bound) (line (sign the.CloseBrace ∷ main_back))
    ∙ ap (λ (z : List ℕ). spaced main_front ++ (z ++ line (sign the.CloseBrace ∷ main_back))) (spaced_bindings (filter taps) ∙ filter_written taps)

regroup : (a b c d e f g : List ℕ) → ((a ++ (b ++ (c ++ (d ++ e)))) ++ f) ++ g ≡ a ++ (b ++ (c ++ (d ++ ((e ++ f) ++ g))))
regroup a b c d e f g = simp append_assoc

-- the whole text
pub made_written : (taps : ℕ) → make_text taps
    ≡ front ++ (first_text ++ (flat_map delay_text (range_with_len 0 (taps - 1)) ++ (flat_map product_text (range_with_len 0 taps) ++ (sum_text taps ++ back))))
unfolding filter_text
made_written taps =
    let heads : List ℕ =
    declaration_text (Domain (word (codes "A")) false) ++ (declaration_text (Domain (word (codes "B")) false) ++ declaration_text (Def (word (codes "plus")) plus_type plus_term)) in
    let main : List ℕ = declaration_text (Def (word (codes "main")) main_type (main_term taps)) in
    let closing : List ℕ = line (sign the.CloseBrace ∷ main_back) in
    let top : List ℕ = line (top_lexemes (make_tree taps).top) in
    ap (λ (z : List ℕ). heads ++ z) (append_assoc main [] top ∙ ap (λ (z : List ℕ). z ++ top) (main_written taps))
    ∙ ap (λ (z : List ℕ). front ++ z)
    (regroup first_text (flat_map delay_text (range_with_len 0 (taps - 1))) (flat_map product_text (range_with_len 0 taps)) (sum_text taps)
    (binding_text taken_over ++ []) closing top)
