-- Bytes of words: none of them parts words or lines.
use Rattle.std.proofs.Common.{◌≡◌, ℕ, Bool, true, false, not, ◌||◌, eqb, List, [], ◌∷◌, ◌++◌, inl, inr, refl, sym, ap, subst, ◌∙◌}
use Rattle.std.specs.List.{AllByRecursion}
use Rattle.std.proofs.lemmas.Bool.{false≢true}
use Rattle.std.proofs.lemmas.Bool.Decides.{eqb_tells}
use Rattle.chw_base.specs.Names.{AllOf, BeginsThen, IsUpper, is_capital, is_digit, is_letter_or_digit, is_name_byte, is_small_letter}
use Rattle.verilog_text.specs.Names.{clock_name}
use Rattle.bit_laws.specs.Gates.{digit_of}
use Rattle.blif_text.specs.BlifText.{IsClock}
use Rattle.blif_text.specs.Statements.{HasForm, IsName, Statement, is_mark, words_of}
use Rattle.blif_text.specs.Statements.Statement.{ends, inputs_are, latch_of, model, outputs_are, row_of, table_of}

-- neither a blank nor a line feed, `#` or `\`
abbrev pub is_plain : ℕ → Bool
is_plain b = not (eqb b 32 || (eqb b 9 || (eqb b 10 || (eqb b 35 || eqb b 92))))

-- a byte that passes a test isn't one that fails it
pub unlike : (test : ℕ → Bool) (b c : ℕ) → test b ≡ true → test c ≡ false → eqb b c ≡ false
unlike test b c is none = elim (eqb_tells b c) [ inl same ↦ absurd (false≢true (sym none ∙ ap test (sym same.1) ∙ is)) | inr other ↦ other.0 ]

plain_by : (test : ℕ → Bool) → test 32 ≡ false → test 9 ≡ false → test 10 ≡ false → test 35 ≡ false → test 92 ≡ false → (b : ℕ) → test b ≡ true → is_plain b ≡ true
plain_by test space tab feed hash joins b is =
    ap (λ t. not (t || (eqb b 9 || (eqb b 10 || (eqb b 35 || eqb b 92))))) (unlike test b 32 is space)
    ∙ ap (λ t. not (t || (eqb b 10 || (eqb b 35 || eqb b 92)))) (unlike test b 9 is tab)
    ∙ ap (λ t. not (t || (eqb b 35 || eqb b 92))) (unlike test b 10 is feed)
    ∙ ap (λ t. not (t || eqb b 92)) (unlike test b 35 is hash)
    ∙ ap (λ t. not t) (unlike test b 92 is joins)

pub plain_name_byte : (b : ℕ) → is_name_byte b ≡ true → is_plain b ≡ true
plain_name_byte b is = plain_by is_name_byte refl refl refl refl refl b is

plain_mark : (b : ℕ) → is_mark b ≡ true → is_plain b ≡ true
plain_mark b is = plain_by is_mark refl refl refl refl refl b is

all_plain : (test : ℕ → Bool) → ((b : ℕ) → test b ≡ true → is_plain b ≡ true) → (bytes : List ℕ) → AllOf test bytes → AllOf is_plain bytes
all_plain test each [] all = tt
all_plain test each (b ∷ bytes) all = (each b all.0, all_plain test each bytes all.1)

-- a word of such bytes
abbrev pub IsWord : List ℕ → Type 0
IsWord = BeginsThen is_plain is_plain

pub name_word : (name : List ℕ) → IsName name → IsWord name
name_word [] form = absurd form
name_word (b ∷ name) form = (plain_name_byte b form.0, all_plain is_name_byte plain_name_byte name form.1)

names_words : (names : List (List ℕ)) → AllByRecursion IsName names → AllByRecursion IsWord names
names_words [] all = tt
names_words (name ∷ names) all = (name_word name all.0, names_words names all.1)

pub all_append : {A : Type 0} (P : A → Type 0) (xs ys : List A) → AllByRecursion P xs → AllByRecursion P ys → AllByRecursion P (xs ++ ys)
all_append P [] ys front back = back
all_append P (x ∷ xs) ys front back = (front.0, all_append P xs ys front.1 back)

digit_word : (bit : Bool) → IsWord (digit_of bit ∷ [])
digit_word true = (refl, tt)
digit_word false = (refl, tt)

-- the words of a statement are words
pub statement_words : (s : Statement) → HasForm s → AllByRecursion IsWord (words_of s)
statement_words model form =
    ((refl, (refl, (refl, (refl, (refl, (refl, tt)))))), ((refl, (refl, (refl, (refl, (refl, (refl, (refl, tt))))))), tt))
statement_words (inputs_are names) form = ((refl, (refl, (refl, (refl, (refl, (refl, (refl, tt))))))), names_words names form)
statement_words (outputs_are names) form = ((refl, (refl, (refl, (refl, (refl, (refl, (refl, (refl, tt)))))))), names_words names form)
statement_words (table_of reads drives) form = (
  (refl, (refl, (refl, (refl, (refl, (refl, tt)))))),
  all_append IsWord reads (drives ∷ []) (names_words reads form.0) (name_word drives form.1, tt),
)
statement_words (row_of []) form = ((refl, tt), tt)
statement_words (row_of (mark ∷ marks)) form =
    ((plain_mark mark form.0, all_plain is_mark plain_mark marks form.1), ((refl, tt), tt))
statement_words (latch_of takes drives clock initial) form = (
  (refl, (refl, (refl, (refl, (refl, (refl, tt)))))),
  (name_word takes form.0, (name_word drives form.1, ((refl, (refl, tt)), (name_word clock form.2, (digit_word initial, tt))))),
)
statement_words ends form = ((refl, (refl, (refl, (refl, tt)))), tt)

or_right : (a b : Bool) → b ≡ true → (a || b) ≡ true
or_right true b is = refl
or_right false b is = is

or_left : (a b : Bool) → a ≡ true → (a || b) ≡ true
or_left true b is = refl
or_left false b is = absurd (false≢true is)

-- letters and digits stand in names
pub letters_named : (bytes : List ℕ) → AllOf is_letter_or_digit bytes → AllOf is_name_byte bytes
letters_named [] all = tt
letters_named (b ∷ bytes) all = (or_left (is_letter_or_digit b) (eqb b 95) all.0, letters_named bytes all.1)

pub digits_named : (bytes : List ℕ) → AllOf is_digit bytes → AllOf is_name_byte bytes
digits_named [] all = tt
digits_named (b ∷ bytes) all = (
  or_left (is_letter_or_digit b) (eqb b 95) (or_right (is_small_letter b) (is_capital b || is_digit b) (or_right (is_capital b) (is_digit b) all.0)),
  digits_named bytes all.1,
)

-- the name of a domain
pub upper_named : (bytes : List ℕ) → IsUpper bytes → AllOf is_name_byte bytes
upper_named [] upper = absurd upper
upper_named (b ∷ bytes) upper = (
  or_left (is_letter_or_digit b) (eqb b 95) (or_right (is_small_letter b) (is_capital b || is_digit b) (or_left (is_capital b) (is_digit b) upper.0)),
  letters_named bytes upper.1,
)

pub small_named : (b : ℕ) → is_small_letter b ≡ true → is_name_byte b ≡ true
small_named b small = or_left (is_letter_or_digit b) (eqb b 95) (or_left (is_small_letter b) (is_capital b || is_digit b) small)

pub joined_named : (xs ys : List ℕ) → AllOf is_name_byte xs → AllOf is_name_byte ys → AllOf is_name_byte (xs ++ ys)
joined_named [] ys first second = second
joined_named (x ∷ xs) ys first second = (first.0, joined_named xs ys first.1 second)

-- the name of a clock is a name
pub clock_named : (name : List ℕ) → IsClock name → IsName name
clock_named name form =
    let own : IsName (clock_name form.0) = (refl, (refl, (refl, (refl, upper_named form.0 form.1.0)))) in
    subst IsName (sym form.1.1) own
