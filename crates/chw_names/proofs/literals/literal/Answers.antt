use Rattle.std.proofs.Common.{◌≡◌, ℕ, true, false, not, cond, ◌||◌, ◌&&◌, eqb, Bool, List, [], ◌∷◌, ◌++◌, Option, Some, None, refl, sym, ap, ◌∙◌, subst}
use Rattle.std.specs.Bool.{beq}
use denote.Enum.Bare.{sameb}
use Rattle.std.specs.List.{list_any}
use Rattle.std.specs.Option.{option_eq}
use Rattle.indexmap.specs.IndexSet.{insert_key}
use Rattle.chw_grammar.specs.declared.term_tree.Alternative.{Alternative}
use Rattle.chw_grammar.specs.declared.term_tree.Pattern.TheVariants.{Literal}
use Rattle.chw_grammar.specs.declared.word.Word.{Word}
use Rattle.chw_names.specs.contracts.literals.MeaningPartialEq.TheImpl.{eq-value}
use Rattle.chw_names.specs.contracts.literals.Sort.{the_type}
use Rattle.chw_names.specs.declared.literals.Meaning.{Meaning}
use Rattle.chw_names.specs.declared.literals.Sort.{Sort}
use Rattle.chw_names.specs.declared.literals.Sort.TheVariants.{Unsigned, Signed, Bits}
use Rattle.chw_names.specs.Literals.{is_said, same_flag, same_meaning, same_number, same_sort, with_meaning, meaning_of, DeclaresLiterals}
use Rattle.chw_names.specs.Twices.{literal_in, literal_of_alternative}
use Rattle.chw_names.specs.Words.{sooner}
use Rattle.chw_names.proofs.Declaring.{declares_again, declares_new}
use Rattle.chw_names.proofs.literals.literal.Goals as goal

sort_is : (a b : Sort) → sameb the_type a b ≡ same_sort a b
sort_is Unsigned Unsigned = refl
sort_is Unsigned Signed = refl
sort_is Unsigned Bits = refl
sort_is Signed Unsigned = refl
sort_is Signed Signed = refl
sort_is Signed Bits = refl
sort_is Bits Unsigned = refl
sort_is Bits Signed = refl
sort_is Bits Bits = refl

flag_is : (a b : Bool) → beq a b ≡ same_flag a b
flag_is true true = refl
flag_is true false = refl
flag_is false true = refl
flag_is false false = refl

number_is : (a b : Option ℕ) → option_eq eqb a b ≡ same_number a b
number_is None None = refl
number_is None (Some m) = refl
number_is (Some n) None = refl
number_is (Some n) (Some m) = refl

all_four : (p q r s : Bool) → (p && (q && (r && s))) ≡ (p && q && r && s)
all_four true true r s = refl
all_four true false r s = refl
all_four false q r s = refl

-- the test of the table is the sameness of what literals say
test_is : (a b : Meaning) → eq-value.it a b ≡ same_meaning a b
test_is a b =
    rw (sort_is a.sort b.sort, flag_is a.negative b.negative, number_is a.value b.value, number_is a.width b.width)
    (all_four (same_sort a.sort b.sort) (same_flag a.negative b.negative) (same_number a.value b.value) (same_number a.width b.width))

said_is : (known : List Meaning) (m : Meaning) → list_any (eq-value.it m) known ≡ is_said known m
said_is [] m = refl
said_is (k ∷ ks) m = ap (λ b. b || list_any (eq-value.it m) ks) (test_is m k) ∙ ap (λ b. same_meaning m k || b) (said_is ks m)

kept_is : (known : List Meaning) (m : Meaning) → insert_key eq-value.it known m ≡ with_meaning known m
kept_is known m = ap (λ b. cond b known (known ++ m ∷ [])) (said_is known m)

again : (known after : List Meaning) (met : Option Word) (w : Word) (a : Alternative) (m : Meaning) → a.pattern ≡ Literal w → m ≡ meaning_of w → not (list_any (eq-value.it m) known) ≡ false
    → after ≡ insert_key eq-value.it known m → DeclaresLiterals known after met (sooner met w) (literal_of_alternative a)
again known after met w a m is same old kept =
    subst (DeclaresLiterals known after met (sooner met w)) (ap literal_in (sym is))
    (declares_again is_said with_meaning meaning_of known after met w (ap (λ k. not (is_said known k)) (sym same) ∙ ap not (sym (said_is known m)) ∙ old)
    (kept ∙ kept_is known m ∙ ap (with_meaning known) same))

new : (known after : List Meaning) (met : Option Word) (w : Word) (a : Alternative) (m : Meaning) → a.pattern ≡ Literal w → m ≡ meaning_of w → not (list_any (eq-value.it m) known) ≡ true
    → after ≡ insert_key eq-value.it known m → DeclaresLiterals known after met met (literal_of_alternative a)
new known after met w a m is same fresh kept =
    subst (DeclaresLiterals known after met met) (ap literal_in (sym is))
    (declares_new is_said with_meaning meaning_of known after met w (ap (λ k. not (is_said known k)) (sym same) ∙ ap not (sym (said_is known m)) ∙ fresh)
    (kept ∙ kept_is known m ∙ ap (with_meaning known) same))

pub returns-then-not-branch : goal.returns-then-not-branch
returns-then-not-branch c =
    subst (λ met. DeclaresLiterals c.args.known.now.keys c.insert.new.self.keys c.args.least.now met (literal_of_alternative c.args.alternative.now)) (sym c.meet.ensures)
    (again c.args.known.now.keys c.insert.new.self.keys c.args.least.now c.in-Literal.word c.args.alternative.now c.meaning_of.result c.in-Literal.is c.meaning_of.ensures
    (sym c.in_ok-insert-in-Literal.ensures.added ∙ c.if-not-branch.true) c.in_ok-insert-in-Literal.ensures.keys)

pub returns-else-not-branch : goal.returns-else-not-branch
returns-else-not-branch c =
    new c.args.known.now.keys c.insert.new.self.keys c.args.least.now c.in-Literal.word c.args.alternative.now c.meaning_of.result c.in-Literal.is c.meaning_of.ensures
    (sym c.in_ok-insert-in-Literal.ensures.added ∙ c.if-not-branch.false) c.in_ok-insert-in-Literal.ensures.keys
