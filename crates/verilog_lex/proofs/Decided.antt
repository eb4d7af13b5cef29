-- Forms are decided, and so is which token is the longest.
use Rattle.std.proofs.Common.{◌≡◌, ℕ, suc, zero, ◌<◌, ◌≤◌, Bool, true, false, eqb, List, [], ◌∷◌, ◌++◌, ◌⊎◌, inl, inr, length, take, drop, sym, refl, ap, ◌∙◌, subst, arith}
use Rattle.std.specs.Prelude.{IsTrue, codes}
use Rattle.std.specs.Str.{bytes_eq}
use Rattle.std.proofs.lemmas.Bool.{eq-eqb, eqb-true, false≢true}
use Rattle.std.proofs.lemmas.Bool.Decides.{leb_tells}
use Rattle.std.proofs.lemmas.List.{append-nil, length-append, length-take-le, take-append-drop, take_at}
use Rattle.std.proofs.lemmas.Slice.Eq.{bytes_eq-Decides}
use Rattle.chw_base.specs.Names.{AllOf, BeginsThen, is_digit, is_name_byte}
use Rattle.verilog_text.specs.VForms.{AreHexDigits, HasForm, IsLiteral, IsNumber, Sort, Token, begins_word, is_hex_digit, is_keyword, is_sign}
use Rattle.verilog_text.specs.VForms.Sort.{keyword, literal, name, number, sign, signed}
use Rattle.verilog_lex.specs.Scanning.{BeginsNoToken, IsRun, IsTokenAt}
use Rattle.verilog_lex.proofs.Longest.{AreWithin, longest_token}
use Rattle.verilog_lex.proofs.Numbers.{literal_split}
use Rattle.verilog_lex.proofs.Tokens.{form_length}

-- it holds, or it doesn't
abbrev Decided : Type 0 → Type 0
Decided P = P ⊎ (P → ⊥)

is_true : (b : Bool) → Decided (IsTrue b)
is_true true = inl refl
is_true false = inr (λ is. false≢true is)

is_false : (b : Bool) → Decided (b ≡ false)
is_false true = inr (λ is. false≢true (sym is))
is_false false = inl refl

decided_pair : {P Q : Type 0} → Decided P → Decided Q → Decided (P × Q)
decided_pair (inl p) (inl q) = inl (p, q)
decided_pair (inl p) (inr other) = inr (λ parts. other parts.1)
decided_pair (inr other) q = inr (λ parts. other parts.0)

same_bytes : (a b : List ℕ) → Decided (a ≡ b)
same_bytes a b =
    elim (is_true (bytes_eq a b)) [
      | inl same ↦ inl ((bytes_eq-Decides a b).0 same)
      | inr other ↦ inr (λ same. other ((bytes_eq-Decides a b).1 same))
    ]

all_pass : (test : ℕ → Bool) (bytes : List ℕ) → Decided (AllOf test bytes)
all_pass test [] = inl tt
all_pass test (b ∷ bytes) = decided_pair (is_true (test b)) (all_pass test bytes)

begin_so : (first other : ℕ → Bool) (bytes : List ℕ) → Decided (BeginsThen first other bytes)
begin_so first other [] = inr (λ begins. begins)
begin_so first other (b ∷ bytes) = decided_pair (is_true (first b)) (all_pass other bytes)

-- each list begins with a run
pub run_of : (test : ℕ → Bool) (bytes : List ℕ) → (n : ℕ) × IsRun test bytes n
run_of test [] = (0, record { within = omega arith; passes = tt; stops = tt })
run_of test (b ∷ bytes) = by_case (test b) refl (run_of test bytes)
  where
    by_case : (v : Bool) → test b ≡ v → (n : ℕ) × IsRun test bytes n → (n : ℕ) × IsRun test (b ∷ bytes) n
    by_case true is (n, run) = (suc n, record { within = let inside = run.within in omega arith; passes = (is, run.passes); stops = run.stops })
    by_case false is more = (0, record { within = omega arith; passes = tt; stops = is })

-- `'h` and hexadecimal digits alone
abbrev IsBased : List ℕ → Type 0
IsBased rest = (digits : List ℕ) × (rest ≡ 39 ∷ 104 ∷ digits) × AreHexDigits digits

is_based : (rest : List ℕ) → Decided (IsBased rest)
is_based [] = inr (λ based. let same = based.1 in cc)
is_based (a ∷ []) = inr (λ based. let same = based.1 in cc)
is_based (a ∷ b ∷ digits) =
    elim (decided_pair (is_true (eqb a 39)) (decided_pair (is_true (eqb b 104)) (begin_so is_hex_digit is_hex_digit digits))) [
      | inl is ↦ inl (digits, ap (λ x. x ∷ b ∷ digits) (eqb-true a 39 is.0) ∙ ap (λ x. 39 ∷ x ∷ digits) (eqb-true b 104 is.1.0), is.1.1)
      | inr other ↦ inr (λ based. other (parts based))
    ]
  where
    parts : IsBased (a ∷ b ∷ digits) → IsTrue (eqb a 39) × (IsTrue (eqb b 104) × AreHexDigits digits)
    parts (found, same, hex) =
        let first : a ≡ 39 = cc in
        let second : b ≡ 104 = cc in
        let tail : found ≡ digits = cc in
        (eq-eqb a 39 first, (eq-eqb b 104 second, subst AreHexDigits tail hex))

is_literal : (bytes : List ℕ) → Decided (IsLiteral bytes)
is_literal bytes = from (run_of is_digit bytes)
  where
    from : (n : ℕ) × IsRun is_digit bytes n → Decided (IsLiteral bytes)
    from (n, run) =
        elim (decided_pair (begin_so is_digit is_digit (take n bytes)) (is_based (drop n bytes))) [
          | inl is ↦ inl (take n bytes, is.1.0, record { size_is = is.0; digits_are = is.1.2; bytes_are = sym (take-append-drop n bytes) ∙ ap (λ r. take n bytes ++ r) is.1.1 })
          | inr other ↦ inr (λ text. other (parts text))
        ]
      where
        parts : IsLiteral bytes → IsNumber (take n bytes) × IsBased (drop n bytes)
        parts (size, digits, found) =
            let split = literal_split bytes n run bytes [] (append-nil bytes) size digits found in
            (subst IsNumber split.0 found.size_is, (digits, sym split.1 ∙ ap (λ d. 39 ∷ 104 ∷ d) (append-nil digits), found.digits_are))

has_form : (sort : Sort) (bytes : List ℕ) → Decided (HasForm sort bytes)
has_form keyword bytes = is_true (is_keyword bytes)
has_form name bytes = decided_pair (begin_so begins_word is_name_byte bytes) (is_false (is_keyword bytes))
has_form number bytes = begin_so is_digit is_digit bytes
has_form literal bytes = is_literal bytes
has_form signed bytes = same_bytes bytes (codes "$signed")
has_form sign bytes = is_true (is_sign bytes)

abbrev HasNoForm : List ℕ → Type 0
HasNoForm bytes = (sort : Sort) → HasForm sort bytes → ⊥

some_form : (bytes : List ℕ) → ((sort : Sort) × HasForm sort bytes) ⊎ HasNoForm bytes
some_form bytes =
    elim (has_form keyword bytes) [
      | inl a ↦ inl (keyword, a)
      | inr no_keyword ↦ elim (has_form name bytes) [
        | inl a ↦ inl (name, a)
        | inr no_name ↦ elim (has_form number bytes) [
          | inl a ↦ inl (number, a)
          | inr no_number ↦ elim (has_form literal bytes) [
            | inl a ↦ inl (literal, a)
            | inr no_literal ↦ elim (has_form signed bytes) [
              | inl a ↦ inl (signed, a)
              | inr no_signed ↦ elim (has_form sign bytes) [
                | inl a ↦ inl (sign, a)
                | inr no_sign ↦ inr (none no_keyword no_name no_number no_literal no_signed no_sign)
              ]
            ]
          ]
        ]
      ]
    ]
  where
    none : (HasForm keyword bytes → ⊥) → (HasForm name bytes → ⊥) → (HasForm number bytes → ⊥) → (HasForm literal bytes → ⊥) → (HasForm signed bytes → ⊥) → (HasForm sign bytes → ⊥) → HasNoForm bytes
    none a b c d e f keyword form = a form
    none a b c d e f name form = b form
    none a b c d e f number form = c form
    none a b c d e f literal form = d form
    none a b c d e f signed form = e form
    none a b c d e f sign form = f form

-- no front of more than m bytes and at most n is a token
abbrev NoneAbove : List ℕ → ℕ → ℕ → Type 0
NoneAbove bytes m n = (k : ℕ) → m < k → k ≤ n → HasNoForm (take k bytes)

-- the first m bytes are the longest token of at most n
record IsBest (bytes : List ℕ) (n m : ℕ) (sort : Sort) : Type 0 where
  within : m ≤ n
  form : HasForm sort (take m bytes)
  none : NoneAbove bytes m n

one_above : (bytes : List ℕ) (m n : ℕ) → HasNoForm (take (suc n) bytes) → NoneAbove bytes m n → NoneAbove bytes m (suc n)
one_above bytes m n last none k more within sort form =
    elim (leb_tells k n) [
      | inl below ↦ none k more below.1 sort form
      | inr above ↦
          let same : k ≡ suc n = let a = above.1 in omega arith in
          last sort (subst (λ j. HasForm sort (take j bytes)) same form)
    ]

best : (bytes : List ℕ) (n : ℕ) → ((m : ℕ) × (sort : Sort) × IsBest bytes n m sort) ⊎ NoneAbove bytes 0 n
best bytes zero = inr (λ k more within sort form. omega arith)
best bytes (suc n) =
    elim (some_form (take (suc n) bytes)) [
      | inl has ↦ inl (suc n, has.0, record { within = omega arith; form = has.1; none = λ k more within sort form. omega arith })
      | inr last ↦ elim (best bytes n) [
        | inl found ↦
            let here : IsBest bytes n found.0 found.1 = found.2 in
            inl (found.0, found.1, record { within = let inside = here.within in omega arith; form = here.form; none = one_above bytes found.0 n last here.none })
        | inr none ↦ inr (one_above bytes 0 n last none)
      ]
    ]

-- a token at the front is one of the first so many bytes
front_of : (bytes word more : List ℕ) → word ++ more ≡ bytes → (take (length word) bytes ≡ word) × (length word ≤ length bytes)
front_of bytes word more same =
    (ap (take (length word)) (sym same) ∙ take_at word more (length word) refl, omega (arith, ap length same, length-append word more))

-- bytes begin with a longest token, or with none
pub token_or_none : (bytes : List ℕ) → ((n : ℕ) × (token : Token) × (0 < n) × IsTokenAt bytes token n) ⊎ BeginsNoToken bytes
token_or_none bytes =
    elim (best bytes (length bytes)) [
      | inl found ↦ inl (found.0, record { sort = found.1; bytes = take found.0 bytes }, some found.0 found.1 found.2, longest found.0 found.1 found.2)
      | inr none ↦ inr (λ sort word more same form.
          let front = front_of bytes word more same in
          none (length word) (form_length sort word form) front.1 sort (subst (HasForm sort) (sym front.0) form))
    ]
  where
    some : (n : ℕ) (sort : Sort) → IsBest bytes (length bytes) n sort → 0 < n
    some n sort here = omega (arith, form_length sort (take n bytes) here.form, length-take-le n bytes here.within)

    longest : (n : ℕ) (sort : Sort) → IsBest bytes (length bytes) n sort → IsTokenAt bytes (record { sort = sort; bytes = take n bytes }) n
    longest n sort here = longest_token bytes n (record { sort = sort; bytes = take n bytes }) here.within refl here.form within
      where
        within : AreWithin bytes n
        within other word more same form =
            let front = front_of bytes word more same in
            elim (leb_tells (length word) n) [
              | inl below ↦ below.1
              | inr above ↦ absurd (here.none (length word) above.1 front.1 other (subst (HasForm other) (sym front.0) form))
            ]
