-- Parts of the canonical text: tokens with a space behind each.
use Rattle.std.specs.Prelude.{◌≡◌, ℕ, suc, zero, Bool, true, false, List, [], ◌∷◌, ◌++◌}
use Rattle.std.specs.List.{flat_map}
use Rattle.chw_grammar.specs.declared.program.Constructor.{Constructor}
use Rattle.chw_grammar.specs.declared.stand.Stand.{Stand}
use Rattle.chw_grammar.specs.declared.stand.Stand.TheVariants.{Alone, Simple}
use Rattle.chw_grammar.specs.declared.terminal.Terminal.{Terminal}
use Rattle.chw_grammar.specs.declared.terminal.Terminal.TheVariants as the
use Rattle.chw_grammar.specs.declared.term_tree.Binding.{Binding}
use Rattle.chw_grammar.specs.declared.term_tree.Alternative.{Alternative}
use Rattle.chw_grammar.specs.declared.term_tree.Argument.{Argument}
use Rattle.chw_grammar.specs.declared.term_tree.Argument.TheVariants.{OfTerm, OfType}
use Rattle.chw_grammar.specs.declared.word.Word.{Word}
use Rattle.chw_grammar.specs.Lexemes.{Lexeme}
use Rattle.chw_grammar.specs.TypeTree.{Ty, Tys, type_forall, type_arrow, type_sum, type_product}
use Rattle.chw_grammar.specs.TypeTree.{type_named, type_variable, type_numeral}
use Rattle.chw_grammar.specs.TermTree.{Tm, Tms, term_lambda, term_type_lambda, term_letrec}
use Rattle.chw_grammar.specs.TermTree.{term_case, term_apply, term_name, term_constructor}
use Rattle.chw_grammar.specs.TermTree.{term_literal, term_vec}
use Rattle.chw_grammar.specs.Text.{sign, lower, reset_word, closes_arrow, closes_sum}
use Rattle.chw_grammar.specs.Text.{closes_product, closes_named, type_lexemes, parts_lexemes}
use Rattle.chw_grammar.specs.Text.{more_lexemes, pattern_lexemes, term_lexemes, elements_lexemes}
use Rattle.chw_grammar.specs.Text.{more_elements_lexemes, constructors_lexemes, port_names_lexemes}
use Rattle.chw_grammar.specs.Text.{more_constructor_lexemes, port_lexemes}

-- the tokens with a space behind each
abbrev pub spaced : List Lexeme → List ℕ
spaced [] = []
spaced (l ∷ ls) = l.bytes ++ 32 ∷ spaced ls

-- the tokens were written behind a text, which gave another
pub record Puts (old : List ℕ) (ls : List Lexeme) (new : List ℕ) : Type 0 where
  pub is : new ≡ old ++ spaced ls

-- what is written by now, with the tokens that are left, is all of them behind the text of the start
pub record Leaves (start : List ℕ) (all : List Lexeme) (now : List ℕ) (left : List Lexeme) : Type 0 where
  pub is : now ++ spaced left ≡ start ++ spaced all

-- what opens and what closes parentheses, where there are any
abbrev pub opening : Bool → List Lexeme
opening true = sign the.Open ∷ []
opening false = []

abbrev pub closing : Bool → List Lexeme
closing true = sign the.Close ∷ []
closing false = []

-- what shows that a domain has a reset
abbrev pub reset_part : Bool → List Lexeme
reset_part true = lower reset_word ∷ []
reset_part false = []

-- whether a type needs parentheses there
abbrev pub closes_type : Stand → Ty → Bool
closes_type p (type_forall w k t) = closes_arrow p
closes_type p (type_arrow t u) = closes_arrow p
closes_type p (type_sum ts) = closes_sum p
closes_type p (type_product ts) = closes_product p
closes_type p (type_named w ts) = closes_named p ts
closes_type p (type_variable w) = false
closes_type p (type_numeral w) = false

-- whether a term needs parentheses: as the head or an argument of an application, or by itself
abbrev pub closes_term : (inner : Bool) → Tm → Bool
closes_term p (term_lambda w t e) = p
closes_term p (term_type_lambda w k e) = p
closes_term p (term_letrec bs e) = p
closes_term p (term_case e alts) = p
closes_term p (term_apply e args) = p
closes_term p (term_name w) = false
closes_term p (term_constructor w) = false
closes_term p (term_literal w) = false
closes_term p (term_vec t es) = false

-- a binding, an alternative and an argument alone
abbrev pub binding_lexemes : Binding → List Lexeme
binding_lexemes b =
    lower b.name ∷ sign the.Colon
    ∷ (type_lexemes Alone b.ty ++ sign the.Equals
    ∷ (term_lexemes false b.term ++ sign the.Semicolon ∷ []))

abbrev pub alternative_lexemes : Alternative → List Lexeme
alternative_lexemes a =
    pattern_lexemes a.pattern
    ++ sign the.Arrow ∷ (term_lexemes false a.term ++ sign the.Semicolon ∷ [])

abbrev pub argument_lexemes : Argument → List Lexeme
argument_lexemes (OfTerm e) = term_lexemes true e
argument_lexemes (OfType t) = sign the.At ∷ type_lexemes Simple t

-- the sign before an item of this index
abbrev pub before_item : ℕ → Terminal → List Lexeme
before_item zero x = []
before_item (suc n) x = sign x ∷ []

-- what is left of parts, of elements, of constructors and of ports, from this index on
abbrev pub parts_from : ℕ → Stand → Terminal → Tys → List Lexeme
parts_from zero = parts_lexemes
parts_from (suc n) = more_lexemes

abbrev pub elements_from : ℕ → Tms → List Lexeme
elements_from zero = elements_lexemes
elements_from (suc n) = more_elements_lexemes

abbrev pub constructors_from : ℕ → List Constructor → List Lexeme
constructors_from zero = constructors_lexemes
constructors_from (suc n) = flat_map more_constructor_lexemes

abbrev pub port_names_from : ℕ → List Word → List Lexeme
port_names_from zero = port_names_lexemes
port_names_from (suc n) = flat_map port_lexemes
