-- The description of a filter with so many taps: the input in domain A and its delays by registers,
-- the sum of their products with 1, 2, 3 and so on, and a register in domain B that takes over this
-- sum. It is written for one tap or more.
use Rattle.std.specs.Prelude.{ℕ, ◌+◌, ◌-◌, false, List, [], ◌∷◌, ◌++◌, map, codes, decimal}
use Rattle.std.specs.List.{range_with_len}
use Rattle.chw_grammar.specs.declared.program.Declaration.TheVariants.{Def, Domain}
use Rattle.chw_grammar.specs.declared.program.Tree.{Tree}
use Rattle.chw_grammar.specs.declared.term_tree.Argument.{Argument}
use Rattle.chw_grammar.specs.declared.term_tree.Argument.TheVariants.{OfTerm, OfType}
use Rattle.chw_grammar.specs.declared.term_tree.Binding.{Binding}
use Rattle.chw_grammar.specs.declared.word.Word.{Word}
use Rattle.chw_grammar.specs.TermTree.{Tm, term_apply, term_lambda, term_letrec, term_literal}
use Rattle.chw_grammar.specs.TermTree.{term_name, term_vec}
use Rattle.chw_grammar.specs.TermView.{arguments_of, bindings_of, terms_of}
use Rattle.chw_grammar.specs.TypeTree.{Ty, type_arrow, type_named, type_numeral}
use Rattle.chw_grammar.specs.TypeView.{types_of}

-- a word of the description; its place is no matter
abbrev pub word : List ℕ → Word
word bytes = record { at = 0; bytes = bytes }

-- the type or the domain of this name, at these types
abbrev pub named : List ℕ → List Ty → Ty
named name ts = type_named (word name) (types_of ts)

-- a natural as a type
abbrev pub numeral : List ℕ → Ty
numeral digits = type_numeral (word digits)

-- `Unsigned 16`
abbrev pub word_type : Ty
word_type = named (codes "Unsigned") (numeral (codes "16") ∷ [])

-- `Signal A (Unsigned 16)`, for a domain `A`
abbrev pub signal_in : List ℕ → Ty
signal_in domain = named (codes "Signal") (named domain [] ∷ word_type ∷ [])

abbrev pub name : List ℕ → Tm
name bytes = term_name (word bytes)

abbrev pub literal : List ℕ → Tm
literal bytes = term_literal (word bytes)

-- a name at arguments
abbrev pub call : List ℕ → List Argument → Tm
call head args = term_apply (name head) (arguments_of args)

-- the binding of a name to a term of this type
abbrev pub bind : List ℕ → Ty → Tm → Binding
bind bytes type term = record { name = word bytes; ty = type; term = term }

-- the arguments `@A @(Unsigned 16)`, for a domain `A`
abbrev pub at_words_in : List ℕ → List Argument → List Argument
at_words_in domain args = OfType (named domain []) ∷ OfType word_type ∷ args

-- `t0`, `t1` and so on: the input and its delays
abbrev pub tap_name : ℕ → List ℕ
tap_name k = codes "t" ++ decimal k

-- `s0`, `s1` and so on: the products
abbrev pub product_name : ℕ → List ℕ
product_name k = codes "s" ++ decimal k

-- `S`, which is `Signal A (Unsigned 16)`
abbrev pub signal : Ty
signal = signal_in (codes "A")

-- the sum of the signals `a` and `b`, word by word
abbrev pub plus_body : Tm
plus_body =
    call (codes "ap") (at_words_in (codes "A") (OfType word_type
    ∷ OfTerm (call (codes "fmap") (at_words_in (codes "A") (OfType (type_arrow word_type word_type)
    ∷ OfTerm (call (codes "addU") (OfType (numeral (codes "16")) ∷ []))
    ∷ OfTerm (name (codes "a")) ∷ [])))
    ∷ OfTerm (name (codes "b")) ∷ []))

-- `S -> S -> S`
abbrev pub plus_type : Ty
plus_type = type_arrow signal (type_arrow signal signal)

-- `\(a : S) . \(b : S) . ..`
abbrev pub plus_term : Tm
plus_term = term_lambda (word (codes "a")) signal (term_lambda (word (codes "b")) signal plus_body)

-- `t0 : S = x`
abbrev pub first_tap : Binding
first_tap = bind (tap_name 0) signal (name (codes "x"))

-- the tap after this one delays it
abbrev pub delay : ℕ → Binding
delay k =
    bind (tap_name (k + 1)) signal
    (call (codes "register") (at_words_in (codes "A")
    (OfTerm (literal (codes "0u16")) ∷ OfTerm (name (tap_name k)) ∷ [])))

-- `\(v : Unsigned 16) . mulU @16 v ku16`, with a number k
abbrev pub times : ℕ → Tm
times k =
    term_lambda (word (codes "v")) word_type
    (call (codes "mulU") (OfType (numeral (codes "16")) ∷ OfTerm (name (codes "v"))
    ∷ OfTerm (literal (decimal k ++ codes "u16")) ∷ []))

-- the product of this tap and its number, counted from 1
abbrev pub product : ℕ → Binding
product k =
    bind (product_name k) signal
    (call (codes "fmap") (at_words_in (codes "A")
    (OfType word_type ∷ OfTerm (times (k + 1)) ∷ OfTerm (name (tap_name k)) ∷ [])))

-- the product after this one, by its name
abbrev pub later_product : ℕ → Tm
later_product k = name (product_name (k + 1))

-- the products of so many taps, by their names
abbrev pub products : ℕ → List Tm
products taps = name (product_name 0) ∷ map later_product (range_with_len 0 (taps - 1))

-- the sum of the products of so many taps
abbrev pub sum : ℕ → Binding
sum taps =
    bind (codes "y") signal
    (call (codes "vfoldlC") (OfType (numeral (decimal taps)) ∷ OfType signal ∷ OfType signal
    ∷ OfTerm (name (codes "plus"))
    ∷ OfTerm (call (codes "pure") (at_words_in (codes "A") (OfTerm (literal (codes "0u16")) ∷ [])))
    ∷ OfTerm (term_vec signal (terms_of (products taps))) ∷ []))

-- the register in domain B that takes over the sum
abbrev pub taken_over : Binding
taken_over =
    bind (codes "z") (signal_in (codes "B"))
    (call (codes "register") (at_words_in (codes "B") (OfTerm (literal (codes "0u16"))
    ∷ OfTerm (call (codes "unsafeSynchronizer") (OfType (named (codes "A") [])
    ∷ at_words_in (codes "B") (OfTerm (name (codes "y")) ∷ []))) ∷ [])))

-- all bindings of a filter with so many taps
abbrev pub filter : ℕ → List Binding
filter taps =
    first_tap ∷ (map delay (range_with_len 0 (taps - 1))
    ++ (map product (range_with_len 0 taps) ++ (sum taps ∷ taken_over ∷ [])))

abbrev pub main_type : Ty
main_type = type_arrow signal (signal_in (codes "B"))

abbrev pub main_term : ℕ → Tm
main_term taps =
    term_lambda (word (codes "x")) signal
    (term_letrec (bindings_of (filter taps)) (name (codes "z")))

-- the domains A and B, `plus` and `main`, and the top, with an input `x` and an output `o`
abbrev pub make_tree : ℕ → Tree
make_tree taps = record {
  declarations =
      Domain (word (codes "A")) false ∷ Domain (word (codes "B")) false
      ∷ Def (word (codes "plus")) plus_type plus_term
      ∷ Def (word (codes "main")) main_type (main_term taps) ∷ [];
  top = record {
    definition = word (codes "main");
    inputs = word (codes "x") ∷ [];
    outputs = word (codes "o") ∷ [];
  };
}
