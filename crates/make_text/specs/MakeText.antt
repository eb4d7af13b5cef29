-- The text of the description, and the pieces of which it is written.
use Rattle.std.specs.Prelude.{ℕ, List, [], ◌∷◌, ◌++◌, codes, false}
use Rattle.chw_grammar.specs.declared.term_tree.Binding.{Binding}
use Rattle.chw_grammar.specs.declared.terminal.Terminal.TheVariants.{Comma}
use Rattle.chw_grammar.specs.Lexemes.{Lexeme}
use Rattle.chw_grammar.specs.TermView.{bindings_of}
use Rattle.chw_grammar.specs.Text.{Text, bindings_lexemes, sign, term_lexemes}
use Rattle.make_text.specs.MakeTree.{delay, first_tap, later_product, make_tree, product, sum}

-- the canonical text of the description of a filter with so many taps
abbrev pub make_text : ℕ → List ℕ
make_text taps = Text (make_tree taps)

-- tokens with a space behind each
abbrev pub spaced : List Lexeme → List ℕ
spaced [] = []
spaced (l ∷ ls) = l.bytes ++ 32 ∷ spaced ls

-- a binding among others
abbrev pub binding_text : Binding → List ℕ
binding_text b = spaced (bindings_lexemes (bindings_of (b ∷ [])))

abbrev pub first_text : List ℕ
first_text = binding_text first_tap

abbrev pub delay_text : ℕ → List ℕ
delay_text k = binding_text (delay k)

abbrev pub product_text : ℕ → List ℕ
product_text k = binding_text (product k)

-- a product in a list, behind others
abbrev pub element_text : ℕ → List ℕ
element_text k = spaced (sign Comma ∷ term_lexemes false (later_product k))

abbrev pub sum_text : ℕ → List ℕ
sum_text taps = binding_text (sum taps)

-- all before the first tap
abbrev pub front : List ℕ
front =
    codes "domain A ;\ndomain B ;\n"
    ++ codes "def plus : Signal A ( Unsigned 16 ) -> Signal A ( Unsigned 16 ) "
    ++ codes "-> Signal A ( Unsigned 16 ) = "
    ++ codes "\\ ( a : Signal A ( Unsigned 16 ) ) . \\ ( b : Signal A ( Unsigned 16 ) ) . "
    ++ codes "ap @ A @ ( Unsigned 16 ) @ ( Unsigned 16 ) "
    ++ codes "( fmap @ A @ ( Unsigned 16 ) @ ( Unsigned 16 -> Unsigned 16 ) ( addU @ 16 ) a ) b ;\n"
    ++ codes "def main : Signal A ( Unsigned 16 ) -> Signal B ( Unsigned 16 ) = "
    ++ codes "\\ ( x : Signal A ( Unsigned 16 ) ) . letrec { "

-- the register in domain B, and the top
abbrev pub back : List ℕ
back =
    codes "z : Signal B ( Unsigned 16 ) = register @ B @ ( Unsigned 16 ) 0u16 "
    ++ codes "( unsafeSynchronizer @ A @ B @ ( Unsigned 16 ) y ) ; } in z ;\n"
    ++ codes "top main ( x ) ( o ) ;\n"
