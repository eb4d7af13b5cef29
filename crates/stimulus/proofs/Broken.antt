-- What a line breaks, of which the digits of its parts are tested last.
use Rattle.std.proofs.Common.{◌≡◌, ℕ, List, [], ◌∷◌, length, ◌⊎◌, inl, inr, sym, subst}
use Rattle.std.specs.Borrow.{Bor}
use Rattle.std.specs.List.{AllByRecursion}
use Rattle.chw_clock.specs.declared.event.Ports.{Ports}
use Rattle.stimulus.specs.Stimulus.{AreWide, HasCount, HasForm, HasNames, HaveNames, IsBody, IsBroken, IsPart, body_of, domains_of, parts_of}
use Rattle.stimulus.specs.Texts.{texts}
use Rattle.stimulus.specs.Words.{AreWordsOf, HasDigits}
use Rattle.stimulus.specs.declared.fault.StimCode.{StimCode}
use Rattle.stimulus.specs.declared.fault.StimCode.TheVariants.{S01, S02, S03}
use Rattle.stimulus.specs.declared.form.Words.{Words}

-- the parts of a line have digits
digits_of_parts : (parts : List (List ℕ)) → AllByRecursion IsPart parts → AllByRecursion HasDigits parts
digits_of_parts [] all = tt
digits_of_parts (part ∷ parts) all = (all.0.2, digits_of_parts parts all.1)

-- the code of a line that is of the form if its parts have digits
abbrev pub IsCode : List (Bor (List ℕ)) → StimCode → StimCode → Type 0
IsCode parts code found =
    (AllByRecursion HasDigits (texts parts) × (found ≡ code)) ⊎ ((AllByRecursion HasDigits (texts parts) → ⊥) × (found ≡ S01))

-- what is known of such a line
pub record IsShaped (ports : Ports) (line : List ℕ) (words : Words) : Type 0 where
  pub count : HasCount line
  pub words_are : AreWordsOf (body_of line) words
  pub body : AllByRecursion HasDigits (texts words.parts.items) → IsBody (length ports.inputs) (body_of line)

pub shaped : (ports : Ports) (line body : List ℕ) (words : Words) (inputs : ℕ) → HasCount line → body ≡ body_of line → inputs ≡ length ports.inputs
    → AreWordsOf body words → (AllByRecursion HasDigits (texts words.parts.items) → IsBody inputs body) → IsShaped ports line words
shaped ports line body words inputs count is same words_are body_is = record {
  count = count;
  words_are = subst (λ b. AreWordsOf b words) is words_are;
  body = λ digits. subst (IsBody (length ports.inputs)) is (subst (λ n. IsBody n body) same (body_is digits));
}

formless : (ports : Ports) (line : List ℕ) (words : Words) → IsShaped ports line words
    → (AllByRecursion HasDigits (texts words.parts.items) → ⊥) → HasForm ports line → ⊥
formless ports line words known none form =
    none (subst (AllByRecursion HasDigits) (sym known.words_are.parts) (digits_of_parts (parts_of (body_of line)) form.1.words.parts_are))

named : (ports : Ports) (line : List ℕ) (words : Words) → IsShaped ports line words → HasNames ports line
    → HaveNames ports (texts words.domains.items) (texts words.parts.items)
named ports line words known names =
    subst (λ ds. HaveNames ports ds (texts words.parts.items)) (sym known.words_are.domains)
    (subst (HaveNames ports (domains_of (body_of line))) (sym known.words_are.parts) names)

names_of : (ports : Ports) (line : List ℕ) (words : Words) → IsShaped ports line words
    → HaveNames ports (texts words.domains.items) (texts words.parts.items) → HasNames ports line
names_of ports line words known names =
    subst (λ ds. HaveNames ports ds (parts_of (body_of line))) known.words_are.domains
    (subst (HaveNames ports (texts words.domains.items)) known.words_are.parts names)

-- a line whose names aren't those of the ports
pub broken_names : (ports : Ports) (line : List ℕ) (words : Words) (code : StimCode) → IsShaped ports line words
    → (HaveNames ports (texts words.domains.items) (texts words.parts.items) → ⊥) → IsCode words.parts.items S02 code → IsBroken ports line code
broken_names ports line words code known none (inl (digits, is)) =
    subst (IsBroken ports line) (sym is) ((known.count, known.body digits), λ names. none (named ports line words known names))
broken_names ports line words code known none (inr (no_digits, is)) =
    subst (IsBroken ports line) (sym is) (formless ports line words known no_digits)

-- a line whose digits aren't of the widths of the inputs
pub broken_widths : (ports : Ports) (line : List ℕ) (words : Words) (code : StimCode) → IsShaped ports line words
    → HaveNames ports (texts words.domains.items) (texts words.parts.items)
    → (AllByRecursion HasDigits (texts words.parts.items) → AreWide ports.inputs (texts words.parts.items) → ⊥)
    → IsCode words.parts.items S03 code → IsBroken ports line code
broken_widths ports line words code known names none (inl (digits, is)) =
    subst (IsBroken ports line) (sym is) (
      (known.count, known.body digits),
      names_of ports line words known names,
      λ wide. none digits (subst (AreWide ports.inputs) (sym known.words_are.parts) wide),
    )
broken_widths ports line words code known names none (inr (no_digits, is)) =
    subst (IsBroken ports line) (sym is) (formless ports line words known no_digits)
