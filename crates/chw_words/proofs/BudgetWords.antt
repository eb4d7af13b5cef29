-- Arguments of a command, with a budget among them, whatever its value.
use Rattle.std.proofs.Common.{◌≡◌, ◌∙◌, sym, refl, ap, ℕ, ◌<◌, false, ◌==◌, List, [], ◌∷◌, ◌++◌, Option, Some, None, codes, inl, inr, subst, ⊎_elim, append_assoc, drop, arith}
use Rattle.std.specs.Char.{digit_value, encode_utf8}
use Rattle.std.specs.List.{All, AllByRecursion, slice_index_or}
use Rattle.std.specs.Str.{IsUtf8}
use Rattle.std.proofs.lemmas.Bool.Decides.{Decides-eqb}
use Rattle.std.proofs.lemmas.Fmt.{IsAscii-from_digits}
use Rattle.std.proofs.lemmas.List.Elements.{All-cons, All-head, All-tail}
use Rattle.std.proofs.lemmas.Str.{IsUtf8-append, IsUtf8-from_ascii}
use Rattle.clap.specs.Walk.{Text}
use Rattle.chw_words.specs.Commands.{AreWithBudget, IsNumber, SayBudget, apart, is_option, joined, unsaid}
use Rattle.chw_words.specs.Parsing.{BudgetIs}
use Rattle.chw_words.proofs.Shapes.{Form, IsBudgetWord, IsPlain}
use Rattle.chw_words.proofs.Forms.{is_or_not}

-- ---- the word of a number is no option, and text

no_minus : (x : ℕ) → digit_value x < 10 → is_option (x ∷ []) ≡ false
no_minus x l =
    ⊎_elim (λ is. let low : 36 < 10 = subst (λ y. digit_value y < 10) ((Decides-eqb x 45).0 is) l in absurd (omega arith)) (λ is_not. is_not)
    (is_or_not (x == 45))

pub plain_number : (word : Text) (digits most n : ℕ) → IsNumber word digits most n → IsPlain word
plain_number [] digits most n b = refl
plain_number (x ∷ xs) digits most n b = no_minus x b.digits.1.0

pub text_number : (word : Text) (digits most n : ℕ) → IsNumber word digits most n → IsUtf8 word
text_number word digits most n b = IsUtf8-from_ascii word (IsAscii-from_digits word b.digits.1)

-- ---- the words of arguments and a budget

-- the words are these arguments, with what is said of a budget among them
pub data HaveSaid : List Text → List Text → Option Text → Type 0 where
  nothing : (xs : List Text) → HaveSaid xs xs None
  in_two : (before after : List Text) (v : Text) → IsPlain v → HaveSaid (before ++ codes "--budget" ∷ v ∷ after) (before ++ after) (Some v)
  in_one : (before after : List Text) (v : Text) → HaveSaid (before ++ (codes "--budget=" ++ v) ∷ after) (before ++ after) (Some v)

-- .. and this is the budget
abbrev pub Read : List Text → List Text → ℕ → Type 0
Read words arguments budget = (said : Option Text) × HaveSaid words arguments said × BudgetIs said budget

said_there : (before said after : List Text) (budget : ℕ) → SayBudget said budget → Read (before ++ (said ++ after)) (before ++ after) budget
said_there before _ after _ unsaid = (None, nothing (before ++ after), refl)
said_there before _ after _ (apart word budget b) = (Some word, in_two before after word (plain_number word _ _ budget b), b)
said_there before _ after _ (joined word budget b) = (Some word, in_one before after word, b)

pub with_budget : (words arguments : List Text) (budget : ℕ) → AreWithBudget words arguments budget → Read words arguments budget
with_budget words arguments budget w =
    subst (λ ws. Read ws arguments budget) (sym (w.words_are ∙ append_assoc w.before w.said w.after))
    (subst (λ xs. Read (w.before ++ (w.said ++ w.after)) xs budget) (sym w.arguments_are) (said_there w.before w.said w.after budget w.budget_is))

-- and back
pub from_read : (words arguments : List Text) (said : Option Text) (budget : ℕ) → HaveSaid words arguments said → BudgetIs said budget
    → AreWithBudget words arguments budget
from_read _ _ _ budget (nothing xs) b =
    record { before = []; said = []; after = xs; words_are = refl; arguments_are = refl; budget_is = subst (λ n. SayBudget [] n) (sym b) unsaid }
from_read _ _ _ budget (in_two before after v q) b =
    record {
      before = before;
      said = codes "--budget" ∷ v ∷ [];
      after = after;
      words_are = sym (append_assoc before (codes "--budget" ∷ v ∷ []) after);
      arguments_are = refl;
      budget_is = apart v budget b;
    }
from_read _ _ _ budget (in_one before after v) b =
    record {
      before = before;
      said = (codes "--budget=" ++ v) ∷ [];
      after = after;
      words_are = sym (append_assoc before ((codes "--budget=" ++ v) ∷ []) after);
      arguments_are = refl;
      budget_is = joined v budget b;
    }

-- ---- their form

pub plain_form : (words : List Text) → AllByRecursion IsPlain words → Form words
plain_form [] h = tt
plain_form (x ∷ xs) h = inl (h.0, plain_form xs h.1)

form_at : (before after rest : List Text) (word : Text) → IsBudgetWord word → (AllByRecursion IsPlain after → AllByRecursion IsPlain rest)
    → AllByRecursion IsPlain (before ++ after) → Form (before ++ word ∷ rest)
form_at [] after rest word w more h = inr (w, more h)
form_at (x ∷ xs) after rest word w more h = inl (h.0, form_at xs after rest word w more h.1)

pub read_form : (words arguments : List Text) (said : Option Text) → HaveSaid words arguments said → AllByRecursion IsPlain arguments → Form words
read_form _ _ _ (nothing xs) h = plain_form xs h
read_form _ _ _ (in_two before after v q) h = form_at before after (v ∷ after) (codes "--budget") (inl refl) (λ a. (q, a)) h
read_form _ _ _ (in_one before after v) h = form_at before after after (codes "--budget=" ++ v) (inr (v, refl)) (λ a. a) h

-- ---- they are texts exactly if the arguments are

texts_at : (before after rest : List Text) → (All IsUtf8 after → All IsUtf8 rest) → All IsUtf8 (before ++ after) → All IsUtf8 (before ++ rest)
texts_at [] after rest more h = more h
texts_at (x ∷ xs) after rest more h =
    All-cons IsUtf8 x (xs ++ rest) (All-head IsUtf8 x (xs ++ after) h) (texts_at xs after rest more (All-tail IsUtf8 x (xs ++ after) h))

option_text : IsUtf8 (codes "--budget")
unfolding encode_utf8
option_text = (codes "--budget", (refl, refl))

joined_text : (word : Text) → IsUtf8 word → IsUtf8 (codes "--budget=" ++ word)
unfolding encode_utf8
joined_text word t = IsUtf8-append (codes "--budget=") word (codes "--budget=", (refl, refl)) t

pub word_texts : (words arguments : List Text) (said : Option Text) (budget : ℕ) → HaveSaid words arguments said → BudgetIs said budget
    → All IsUtf8 arguments → All IsUtf8 words
word_texts _ _ _ budget (nothing xs) b t = t
word_texts _ _ _ budget (in_two before after v q) b t =
    texts_at before after (codes "--budget" ∷ v ∷ after)
    (λ a. All-cons IsUtf8 (codes "--budget") (v ∷ after) option_text (All-cons IsUtf8 v after (text_number v _ _ budget b) a)) t
word_texts _ _ _ budget (in_one before after v) b t =
    texts_at before after ((codes "--budget=" ++ v) ∷ after)
    (λ a. All-cons IsUtf8 (codes "--budget=" ++ v) after (joined_text v (text_number v _ _ budget b)) a) t

pub argument_texts : (words arguments : List Text) (said : Option Text) → HaveSaid words arguments said → All IsUtf8 words → All IsUtf8 arguments
argument_texts _ _ _ (nothing xs) t = t
argument_texts _ _ _ (in_two before after v q) t =
    texts_at before (codes "--budget" ∷ v ∷ after) after
    (λ a. All-tail IsUtf8 v after (All-tail IsUtf8 (codes "--budget") (v ∷ after) a)) t
argument_texts _ _ _ (in_one before after v) t =
    texts_at before ((codes "--budget=" ++ v) ∷ after) after (λ a. All-tail IsUtf8 (codes "--budget=" ++ v) after a) t

-- ---- the places in one argument or two

none_split : (P : List Text → List Text → Type 0) (before after : List Text) → before ++ after ≡ [] → P [] [] → P before after
none_split P [] after e here = subst (P []) (sym e) here
none_split P (x ∷ xs) after e here = cc

pub one_split : (P : List Text → List Text → Type 0) (before after : List Text) (f : Text) → before ++ after ≡ f ∷ [] → P [] (f ∷ [])
    → P (f ∷ []) [] → P before after
one_split P [] after f e first last = subst (P []) (sym e) first
one_split P (x ∷ xs) after f e first last =
    subst (λ y. P (y ∷ xs) after) (sym (ap (λ l. slice_index_or l 0 []) e)) (none_split (λ b a. P (f ∷ b) a) xs after (ap (drop 1) e) last)

pub two_split : (P : List Text → List Text → Type 0) (before after : List Text) (f g : Text) → before ++ after ≡ f ∷ g ∷ [] → P [] (f ∷ g ∷ [])
    → P (f ∷ []) (g ∷ []) → P (f ∷ g ∷ []) [] → P before after
two_split P [] after f g e first between last = subst (P []) (sym e) first
two_split P (x ∷ xs) after f g e first between last =
    subst (λ y. P (y ∷ xs) after) (sym (ap (λ l. slice_index_or l 0 []) e)) (one_split (λ b a. P (f ∷ b) a) xs after g (ap (drop 1) e) between last)
