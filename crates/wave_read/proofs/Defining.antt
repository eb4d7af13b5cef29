-- Definitions that were read.
use Rattle.std.proofs.Common.{◌≡◌, ℕ, List, [], ◌∷◌, ◌++◌, map, codes, sym, ap, ◌∙◌, subst, append_assoc}
use Rattle.chw_base.specs.Outcome.{OfFault}
use Rattle.chw_base.specs.declared.outcome.Or.{Or}
use Rattle.chw_base.specs.declared.outcome.Or.TheVariants.{Fault, Memory}
use Rattle.std.proofs.lemmas.List.{map-append}
use Rattle.wave_text.specs.Faults.{FailsAt}
use Rattle.wave_read.specs.Reading.{Declares, HasDeclarations, IsDefinition, last_slots, variable_slots, words_in}
use Rattle.wave_read.specs.Shown.{variable_of}
use Rattle.wave_read.specs.Slots.{FailsRow, FitsRow}
use Rattle.wave_text.specs.VcdText.{AreChanges, AreDeclarations, Declared, Moment}
use Rattle.wave_text.specs.VcdText.AreDeclarations.{next as variable}
use Rattle.wave_text.specs.Words.{Word}
use Rattle.wave_read.specs.declared.definitions.Definition.TheVariants.{Last, Variable}
use Rattle.wave_read.specs.declared.source.Declared.{Declared as ReadVariable}
use Rattle.wave_read.specs.declared.words.Left.{Left}
use Rattle.wave_read.proofs.Failing.{row_up}
use Rattle.wave_read.proofs.Forms.{definitions_end, last_behind, last_fails, last_form, other_fails, variable_behind, variable_fails}

-- one declaration more
variable_form : (w : Word) (p : List Word) (it : Declared) (words : List Word) (declared : List Declared) (moments : List Moment) → w.bytes ≡ codes "$var"
    → Declares p it → AreDeclarations words declared moments → AreDeclarations (w ∷ (p ++ words)) (it ∷ declared) moments
variable_form w [] it words declared moments is declares rest = absurd declares
variable_form w (v ∷ []) it words declared moments is declares rest = absurd declares
variable_form w (v ∷ n ∷ []) it words declared moments is declares rest = absurd declares
variable_form w (v ∷ n ∷ c ∷ []) it words declared moments is declares rest = absurd declares
variable_form w (v ∷ n ∷ c ∷ name ∷ []) it words declared moments is declares rest = absurd declares
variable_form w (v ∷ n ∷ c ∷ name ∷ e ∷ []) it words declared moments is declares rest =
    subst (λ (d : Declared). AreDeclarations (w ∷ v ∷ n ∷ c ∷ name ∷ e ∷ words) (d ∷ declared) moments) (sym declares.5)
    (variable w v n c name e words it.width declared moments is declares.0 declares.1 declares.2 declares.3 declares.4 rest)
variable_form w (v ∷ n ∷ c ∷ name ∷ e ∷ x ∷ p) it words declared moments is declares rest = absurd declares

pub variable_definition : (w : Word) (p words : List Word) (it : ReadVariable) (behind : Left) (end : ℕ) → w.bytes ≡ codes "$var" → FitsRow variable_slots p
    → Declares p (variable_of it) → words ≡ p ++ words_in behind → IsDefinition end (w ∷ words) (Variable it behind)
variable_definition w p words it behind end is fits declares there = (
  λ declared moments rest.
      subst (λ (ws : List Word). AreDeclarations (w ∷ ws) (variable_of it ∷ declared) moments) (sym there)
      (variable_form w p (variable_of it) (words_in behind) declared moments is declares rest),
  λ at fails.
      subst (λ (ws : List Word). FailsAt HasDeclarations end (w ∷ ws) at) (sym there) (variable_behind w end p (words_in behind) is fits at fails),
)

pub last_definition : (w : Word) (p words : List Word) (behind : Left) (end : ℕ) → w.bytes ≡ codes "$upscope" → FitsRow last_slots p
    → words ≡ p ++ words_in behind → IsDefinition end (w ∷ words) (Last behind)
last_definition w p words behind end is fits there = (
  λ moments rest.
      subst (λ (ws : List Word). AreDeclarations (w ∷ ws) [] moments) (sym there)
      (last_form w (p ++ words_in behind) moments is (row_up last_slots (λ more. AreChanges more [] moments) p (words_in behind) fits rest)),
  λ at fails.
      subst (λ (ws : List Word). FailsAt HasDeclarations end (w ∷ ws) at) (sym there) (last_behind w end p (words_in behind) is fits at fails),
)

-- the variables so far, with one more
pub forms_more : (all rest : List Word) (read pushed : List ReadVariable) (it : ReadVariable) (behind : List Word) → pushed ≡ read ++ it ∷ []
    → ((declared : List Declared) (moments : List Moment) → AreDeclarations rest declared moments → AreDeclarations all (map variable_of read ++ declared) moments)
    → ((declared : List Declared) (moments : List Moment) → AreDeclarations behind declared moments → AreDeclarations rest (variable_of it ∷ declared) moments)
    → (declared : List Declared) (moments : List Moment) → AreDeclarations behind declared moments → AreDeclarations all (map variable_of pushed ++ declared) moments
forms_more all rest read pushed it behind new before step declared moments is =
    let listed : map variable_of pushed ≡ map variable_of read ++ variable_of it ∷ [] = ap (map variable_of) new ∙ map-append variable_of read (it ∷ []) in
    subst (λ (ds : List Declared). AreDeclarations all ds moments)
    (sym (ap (λ (t : List Declared). t ++ declared) listed ∙ append_assoc (map variable_of read) (variable_of it ∷ []) declared))
    (before (variable_of it ∷ declared) moments (step declared moments is))

-- a row that fails
pub variable_row_fails : (end : ℕ) (words : List Word) (e : Or ℕ) → OfFault e (FailsRow variable_slots end words)
    → OfFault e (λ at. (w : Word) → w.bytes ≡ codes "$var" → FailsAt HasDeclarations end (w ∷ words) at)
variable_row_fails end words Memory fails = tt
variable_row_fails end words (Fault at) fails = λ w is. variable_fails w end words at is fails

pub last_row_fails : (end : ℕ) (words : List Word) (e : Or ℕ) → OfFault e (FailsRow last_slots end words)
    → OfFault e (λ at. (w : Word) → w.bytes ≡ codes "$upscope" → FailsAt HasDeclarations end (w ∷ words) at)
last_row_fails end words Memory fails = tt
last_row_fails end words (Fault at) fails = λ w is. last_fails w end words at is fails

-- no word, or one that begins no definition
pub no_definition : (end at : ℕ) (words : List Word) → words ≡ [] → at ≡ end → FailsAt HasDeclarations end words at
no_definition end at words none here =
    subst (λ (ws : List Word). FailsAt HasDeclarations end ws at) (sym none) (subst (FailsAt HasDeclarations end []) (sym here) (definitions_end end))

pub other_word : (w : Word) (end : ℕ) (words rest : List Word) → words ≡ w ∷ rest → (w.bytes ≡ codes "$var" → ⊥) → (w.bytes ≡ codes "$upscope" → ⊥)
    → FailsAt HasDeclarations end words w.at
other_word w end words rest is no_var no_upscope =
    subst (λ (ws : List Word). FailsAt HasDeclarations end ws w.at) (sym is) (other_fails w end rest no_var no_upscope)
