-- The description of a filter can be read from tokens with their forms.
use Rattle.std.specs.Prelude.{ℕ, zero, suc, ◌+◌, ◌-◌, ◌<◌, ◌^◌, List, [], ◌∷◌, ◌++◌, map, codes, decimal, refl}
use Rattle.std.specs.List.{range_with_len}
use Rattle.std.proofs.Common.{arith}
use Rattle.chw_grammar.specs.declared.term_tree.Argument.{Argument}
use Rattle.chw_grammar.specs.declared.term_tree.Argument.TheVariants.{OfTerm, OfType}
use Rattle.chw_grammar.specs.declared.term_tree.Binding.{Binding}
use Rattle.chw_grammar.specs.Grammar.{TypeAt, SumAt, AtomAt, TermAt, BindingsAt, ArgumentsAt, SimpleAt, MoreElementsAt}
use Rattle.chw_grammar.specs.TermTree.{Tm}
use Rattle.chw_grammar.specs.TypeTree.{Ty, type_arrow}
use Rattle.make_text.specs.MakeTree.{at_words_in, call, delay, filter, first_tap, later_product, literal, main_term, main_type, name, named, numeral, plus_body, plus_term, plus_type, product, product_name, products, signal_in, sum, taken_over, tap_name, times, word, word_type}
use Rattle.make_text.proofs.Ahead.{Readable, Lower, Upper, numeral_readable, named_readable, no_atom_readable, atom_readable, applied_readable, sum_readable, type_readable, arrow_readable, bracketed_readable, name_readable, literal_readable, simple_readable, closed_readable, term_argument_readable, type_argument_readable, no_argument_readable, argument_readable, call_readable, lambda_readable, letrec_readable, no_binding_readable, binding_readable, no_more_readable, more_readable, elements_readable, vec_readable}
use Rattle.make_text.proofs.Forms.{lower, upper, word_literal, zero_literal, decimal_numeral, tap_lower, product_lower}

-- types

sixteen : Readable AtomAt (numeral (codes "16"))
sixteen = numeral_readable (word (codes "16")) (refl, (refl, tt))

domain : (d : List ℕ) → Upper (word d) → Readable AtomAt (named d [])
domain d is = named_readable (word d) is

word_sum : Readable SumAt word_type
word_sum = sum_readable _ (applied_readable (word (codes "Unsigned")) (numeral (codes "16") ∷ []) (upper (codes "Unsigned") refl)
    (atom_readable _ [] sixteen no_atom_readable))

word_atom : Readable AtomAt word_type
word_atom = bracketed_readable _ (type_readable _ word_sum)

signal_sum : (d : List ℕ) → Upper (word d) → Readable SumAt (signal_in d)
signal_sum d is = sum_readable _ (applied_readable (word (codes "Signal")) (named d [] ∷ word_type ∷ []) (upper (codes "Signal") refl)
    (atom_readable _ (word_type ∷ []) (domain d is) (atom_readable _ [] word_atom no_atom_readable)))

signal_type : (d : List ℕ) → Upper (word d) → Readable TypeAt (signal_in d)
signal_type d is = type_readable _ (signal_sum d is)

domain_a : Upper (word (codes "A"))
domain_a = upper (codes "A") refl

domain_b : Upper (word (codes "B"))
domain_b = upper (codes "B") refl

pub plus_type_readable : Readable TypeAt plus_type
plus_type_readable = arrow_readable _ _ (signal_sum _ domain_a) (arrow_readable _ _ (signal_sum _ domain_a) (signal_type _ domain_a))

pub main_type_readable : Readable TypeAt main_type
main_type_readable = arrow_readable _ _ (signal_sum _ domain_a) (signal_type _ domain_b)

signal_atom : Readable AtomAt (signal_in (codes "A"))
signal_atom = bracketed_readable _ (signal_type _ domain_a)

-- arguments

by_type : (t : Ty) (args : List Argument) → Readable AtomAt t → Readable ArgumentsAt args → Readable ArgumentsAt (OfType t ∷ args)
by_type t args one more = argument_readable _ args (type_argument_readable t one) more

by_term : (e : Tm) (args : List Argument) → Readable SimpleAt e → Readable ArgumentsAt args → Readable ArgumentsAt (OfTerm e ∷ args)
by_term e args one more = argument_readable _ args (term_argument_readable e one) more

by_words : (d : List ℕ) (args : List Argument) → Upper (word d) → Readable ArgumentsAt args → Readable ArgumentsAt (at_words_in d args)
by_words d args is more = by_type _ _ (domain d is) (by_type _ args word_atom more)

by_name : (bytes : List ℕ) (args : List Argument) → Lower (word bytes) → Readable ArgumentsAt args → Readable ArgumentsAt (OfTerm (name bytes) ∷ args)
by_name bytes args is more = by_term _ args (name_readable (word bytes) is) more

type_call : (head : List ℕ) (t : Ty) (args : List Argument) → Lower (word head) → Readable AtomAt t → Readable ArgumentsAt args
    → Readable TermAt (call head (OfType t ∷ args))
type_call head t args is one more = call_readable _ _ args (name_readable (word head) is) (type_argument_readable t one) more

words_call : (head d : List ℕ) (args : List Argument) → Lower (word head) → Upper (word d) → Readable ArgumentsAt args
    → Readable TermAt (call head (at_words_in d args))
words_call head d args is of more = type_call head _ _ is (domain d of) (by_type _ args word_atom more)

-- terms

zero_simple : Readable SimpleAt (literal (codes "0u16"))
zero_simple = literal_readable (word (codes "0u16")) zero_literal

function_atom : Readable AtomAt (type_arrow word_type word_type)
function_atom = bracketed_readable _ (arrow_readable _ _ word_sum (type_readable _ word_sum))

plus_body_readable : Readable TermAt plus_body
plus_body_readable =
    words_call (codes "ap") (codes "A") _ (lower (codes "ap") refl) domain_a (by_type _ _ word_atom
    (by_term _ _ (closed_readable _ (words_call (codes "fmap") (codes "A") _ (lower (codes "fmap") refl) domain_a
    (by_type _ _ function_atom
    (by_term _ _ (closed_readable _ (type_call (codes "addU") _ [] (lower (codes "addU") refl) sixteen no_argument_readable))
    (by_name (codes "a") [] (lower (codes "a") refl) no_argument_readable)))))
    (by_name (codes "b") [] (lower (codes "b") refl) no_argument_readable)))

pub plus_readable : Readable TermAt plus_term
plus_readable =
    lambda_readable (word (codes "a")) _ _ (lower (codes "a") refl) (signal_type _ domain_a)
    (lambda_readable (word (codes "b")) _ _ (lower (codes "b") refl) (signal_type _ domain_a) plus_body_readable)

-- bindings

first_readable : (bs : List Binding) → Readable BindingsAt bs → Readable BindingsAt (first_tap ∷ bs)
first_readable bs more =
    binding_readable _ _ _ bs (tap_lower 0 (omega arith)) (signal_type _ domain_a) (simple_readable _ (name_readable (word (codes "x")) (lower (codes "x") refl))) more

delay_readable : (k : ℕ) (bs : List Binding) → k + 1 < 2 ^ 64 → Readable BindingsAt bs → Readable BindingsAt (delay k ∷ bs)
delay_readable k bs small more =
    binding_readable _ _ _ bs (tap_lower (k + 1) small) (signal_type _ domain_a)
    (words_call (codes "register") (codes "A") _ (lower (codes "register") refl) domain_a
    (by_term _ _ zero_simple (by_name (tap_name k) [] (tap_lower k (omega arith)) no_argument_readable))) more

times_readable : (k : ℕ) → k < 2 ^ 64 → Readable TermAt (times k)
times_readable k small =
    lambda_readable (word (codes "v")) _ _ (lower (codes "v") refl) (type_readable _ word_sum)
    (type_call (codes "mulU") _ _ (lower (codes "mulU") refl) sixteen (by_name (codes "v") _ (lower (codes "v") refl)
    (by_term _ [] (literal_readable (word (decimal k ++ codes "u16")) (word_literal k small)) no_argument_readable)))

product_readable : (k : ℕ) (bs : List Binding) → k + 1 < 2 ^ 64 → Readable BindingsAt bs → Readable BindingsAt (product k ∷ bs)
product_readable k bs small more =
    binding_readable _ _ _ bs (product_lower k (omega arith)) (signal_type _ domain_a)
    (words_call (codes "fmap") (codes "A") _ (lower (codes "fmap") refl) domain_a (by_type _ _ word_atom
    (by_term _ _ (closed_readable _ (times_readable (k + 1) small)) (by_name (tap_name k) [] (tap_lower k (omega arith)) no_argument_readable)))) more

delays_readable : (a n : ℕ) (bs : List Binding) → a + n < 2 ^ 64 → Readable BindingsAt bs
    → Readable BindingsAt (map delay (range_with_len a n) ++ bs)
delays_readable a zero bs small more = more
delays_readable a (suc n) bs small more = delay_readable a _ (omega arith) (delays_readable (a + 1) n bs (omega arith) more)

products_readable : (a n : ℕ) (bs : List Binding) → a + n < 2 ^ 64 → Readable BindingsAt bs
    → Readable BindingsAt (map product (range_with_len a n) ++ bs)
products_readable a zero bs small more = more
products_readable a (suc n) bs small more = product_readable a _ (omega arith) (products_readable (a + 1) n bs (omega arith) more)

product_term : (k : ℕ) → k < 2 ^ 64 → Readable TermAt (name (product_name k))
product_term k small = simple_readable _ (name_readable (word (product_name k)) (product_lower k small))

later_readable : (a n : ℕ) → a + n < 2 ^ 64 → Readable MoreElementsAt (map later_product (range_with_len a n))
later_readable a zero small = no_more_readable
later_readable a (suc n) small = more_readable _ _ (product_term (a + 1) (omega arith)) (later_readable (a + 1) n (omega arith))

sum_binding_readable : (taps : ℕ) (bs : List Binding) → taps < 2 ^ 64 → Readable BindingsAt bs → Readable BindingsAt (sum taps ∷ bs)
sum_binding_readable taps bs small more =
    binding_readable _ _ _ bs (lower (codes "y") refl) (signal_type _ domain_a)
    (type_call (codes "vfoldlC") _ _ (lower (codes "vfoldlC") refl) (numeral_readable (word (decimal taps)) (decimal_numeral taps small))
    (by_type _ _ signal_atom (by_type _ _ signal_atom (by_name (codes "plus") _ (lower (codes "plus") refl)
    (by_term _ _ (closed_readable _ (words_call (codes "pure") (codes "A") _ (lower (codes "pure") refl) domain_a (by_term _ [] zero_simple no_argument_readable)))
    (by_term _ [] (vec_readable _ (products taps) signal_atom
    (elements_readable _ _ (product_term 0 (omega arith)) (later_readable 0 (taps - 1) (omega arith)))) no_argument_readable)))))) more

taken_over_readable : Readable BindingsAt (taken_over ∷ [])
taken_over_readable =
    binding_readable _ _ _ [] (lower (codes "z") refl) (signal_type _ domain_b)
    (words_call (codes "register") (codes "B") _ (lower (codes "register") refl) domain_b (by_term _ _ zero_simple
    (by_term _ [] (closed_readable _ (type_call (codes "unsafeSynchronizer") _ _ (lower (codes "unsafeSynchronizer") refl) (domain _ domain_a)
    (by_words (codes "B") _ domain_b (by_name (codes "y") [] (lower (codes "y") refl) no_argument_readable)))) no_argument_readable))) no_binding_readable

filter_readable : (taps : ℕ) → taps < 2 ^ 64 → Readable BindingsAt (filter taps)
filter_readable taps small =
    first_readable _ (delays_readable 0 (taps - 1) _ (omega arith) (products_readable 0 taps _ (omega arith)
    (sum_binding_readable taps _ small taken_over_readable)))

pub main_readable : (taps : ℕ) → taps < 2 ^ 64 → Readable TermAt (main_term taps)
main_readable taps small =
    lambda_readable (word (codes "x")) _ _ (lower (codes "x") refl) (signal_type _ domain_a)
    (letrec_readable (filter taps) _ (filter_readable taps small) (simple_readable _ (name_readable (word (codes "z")) (lower (codes "z") refl))))
