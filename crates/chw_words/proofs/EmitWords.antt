-- Which words after `emit` are read, and as what.
use Rattle.std.proofs.Common.{◌≡◌, ◌∙◌, sym, refl, ap, List, [], ◌∷◌, ◌++◌, Option, Some, None, codes, inl, inr, subst}
use Rattle.std.specs.List.{AllByRecursion}
use Rattle.clap.specs.Walk.{Held, Text, Walk, finished, first_of, idle, rows_after, walked}
use Rattle.clap.specs.Faults.{defaults_fault, walk_fault}
use Rattle.chw_words.proofs.Walks.{Fails, Goes, Leads, at, fails_not, first, goes_back, plain_goes, plain_turn, rest_fault, rest_stops, there, value_goes}
use Rattle.chw_words.proofs.Shapes.{Form, IsPlain, at_option, budget_then_file, emit_shape, file_then_joined, file_then_option, file_then_value, start, with_file, with_joined, with_option, with_value}
use Rattle.chw_words.proofs.BudgetWords.{HaveSaid, in_one, in_two, nothing, one_split}

-- ---- the steps of the walk

reads_file : (f : Text) → IsPlain f → Goes emit_shape start f (with_file f)
reads_file f p = plain_goes emit_shape start.held 1 f (with_file f) p refl refl

reads_option_after_file : (f : Text) → Goes emit_shape (with_file f) (codes "--budget") (file_then_option f)
unfolding walked
reads_option_after_file f = record { quiet = refl; to = refl }

reads_value_after_file : (f v : Text) → IsPlain v → Goes emit_shape (file_then_option f) v (file_then_value f v)
reads_value_after_file f v p = value_goes emit_shape (file_then_option f).held (codes "budget") 2 v (file_then_value f v) p refl

reads_joined_after_file : (f v : Text) → Goes emit_shape (with_file f) (codes "--budget=" ++ v) (file_then_joined f v)
unfolding walked
reads_joined_after_file f v = record { quiet = refl; to = refl }

reads_option : Goes emit_shape start (codes "--budget") with_option
unfolding walked
reads_option = record { quiet = refl; to = refl }

reads_value : (v : Text) → IsPlain v → Goes emit_shape with_option v (with_value v)
reads_value v p = value_goes emit_shape with_option.held (codes "budget") 1 v (with_value v) p refl

reads_joined : (v : Text) → Goes emit_shape start (codes "--budget=" ++ v) (with_joined v)
unfolding walked
reads_joined v = record { quiet = refl; to = refl }

reads_file_after_value : (v f : Text) → IsPlain f → Goes emit_shape (with_value v) f (budget_then_file v f)
reads_file_after_value v f p = plain_goes emit_shape (with_value v).held 1 f (budget_then_file v f) p refl refl

reads_file_after_joined : (v f : Text) → IsPlain f → Goes emit_shape (with_joined v) f (budget_then_file v f)
reads_file_after_joined v f p = plain_goes emit_shape (with_joined v).held 1 f (budget_then_file v f) p refl refl

-- ---- a file and a budget are read

-- what is matched at the end of a walk
abbrev HasRead : List Text → Text → Option Text → Type 0
HasRead words f said =
    (rest_fault emit_shape start words ≡ []) × (first_of (codes "file") (rows_after emit_shape.rules [] words) ≡ Some f)
    × (first_of (codes "budget") (rows_after emit_shape.rules [] words) ≡ said)

-- from where the walk ends
ends : (words : List Text) (f : Text) (said : Option Text) (w : Walk) → Leads emit_shape start words w → rest_fault emit_shape w [] ≡ []
    → first_of (codes "file") (finished emit_shape.rules w.held) ≡ Some f → first_of (codes "budget") (finished emit_shape.rules w.held) ≡ said
    → HasRead words f said
ends words f said w l none file budget = (
  l.faults ∙ none,
  ap (λ (v : Walk). first_of (codes "file") (finished emit_shape.rules v.held)) l.to ∙ file,
  ap (λ (v : Walk). first_of (codes "budget") (finished emit_shape.rules v.held)) l.to ∙ budget,
)

-- where the words are these, they are read
pub emit_read : (words arguments : List Text) (f : Text) (said : Option Text) → HaveSaid words arguments said → arguments ≡ f ∷ [] → IsPlain f
    → HasRead words f said
unfolding walk_fault defaults_fault
emit_read _ _ f _ (nothing xs) e p =
    subst (λ ws. HasRead ws f None) (sym e) (ends (f ∷ []) f None (with_file f) (first (reads_file f p) there) refl refl refl)
emit_read _ _ f _ (in_two before after v q) e p =
    one_split (λ b a. HasRead (b ++ codes "--budget" ∷ v ∷ a) f (Some v)) before after f e
    (ends (codes "--budget" ∷ v ∷ f ∷ []) f (Some v) (budget_then_file v f)
    (first reads_option (first (reads_value v q) (first (reads_file_after_value v f p) there))) refl refl refl)
    (ends (f ∷ codes "--budget" ∷ v ∷ []) f (Some v) (file_then_value f v)
    (first (reads_file f p) (first (reads_option_after_file f) (first (reads_value_after_file f v q) there))) refl refl refl)
emit_read _ _ f _ (in_one before after v) e p =
    one_split (λ b a. HasRead (b ++ (codes "--budget=" ++ v) ∷ a) f (Some v)) before after f e
    (ends ((codes "--budget=" ++ v) ∷ f ∷ []) f (Some v) (budget_then_file v f)
    (first (reads_joined v) (first (reads_file_after_joined v f p) there)) refl refl refl)
    (ends (f ∷ (codes "--budget=" ++ v) ∷ []) f (Some v) (file_then_joined f v)
    (first (reads_file f p) (first (reads_joined_after_file f v) there)) refl refl refl)

-- ---- and nothing else is

-- some file and budget that the words are
abbrev pub SomeEmitWords : List Text → Type 0
SomeEmitWords words = (f : Text) × (said : Option Text) × HaveSaid words (f ∷ []) said × IsPlain f

none_at : (w : Walk) → Fails (rest_fault emit_shape w []) → rest_fault emit_shape w [] ≡ [] → ⊥
none_at w f e = fails_not (rest_fault emit_shape w []) f e

-- a second plain word goes nowhere
stray : (h : Held) (words : List Text) (x : Text) → IsPlain x → rest_fault emit_shape (at h idle 2) (x ∷ words) ≡ [] → ⊥
stray h words x p = rest_stops emit_shape (at h idle 2) x words (let t = plain_turn emit_shape [] h 2 x p refl in rw t tt)

no_more : (h : Held) (words : List Text) → AllByRecursion IsPlain words → rest_fault emit_shape (at h idle 2) words ≡ [] → words ≡ []
no_more h [] a e = refl
no_more h (x ∷ xs) a e = absurd (stray h xs x a.0 e)

-- after a file
after_option : (f : Text) (words : List Text) → IsPlain f → AllByRecursion IsPlain words → rest_fault emit_shape (with_file f) (codes "--budget" ∷ words) ≡ []
    → SomeEmitWords (f ∷ codes "--budget" ∷ words)
unfolding walk_fault defaults_fault
after_option f [] p a e = absurd (none_at (file_then_option f) tt (goes_back emit_shape (with_file f) (file_then_option f) (codes "--budget") [] (reads_option_after_file f) e))
after_option f (v ∷ vs) p a e =
    let at_value = goes_back emit_shape (with_file f) (file_then_option f) (codes "--budget") (v ∷ vs) (reads_option_after_file f) e in
    let at_end = goes_back emit_shape (file_then_option f) (file_then_value f v) v vs (reads_value_after_file f v a.0) at_value in
    subst (λ ws. SomeEmitWords (f ∷ codes "--budget" ∷ v ∷ ws)) (sym (no_more (file_then_value f v).held vs a.1 at_end))
    (f, Some v, in_two (f ∷ []) [] v a.0, p)

after_joined : (f v : Text) (words : List Text) → IsPlain f → AllByRecursion IsPlain words
    → rest_fault emit_shape (with_file f) ((codes "--budget=" ++ v) ∷ words) ≡ [] → SomeEmitWords (f ∷ (codes "--budget=" ++ v) ∷ words)
after_joined f v words p a e =
    let at_end = goes_back emit_shape (with_file f) (file_then_joined f v) (codes "--budget=" ++ v) words (reads_joined_after_file f v) e in
    subst (λ ws. SomeEmitWords (f ∷ (codes "--budget=" ++ v) ∷ ws)) (sym (no_more (file_then_joined f v).held words a at_end))
    (f, Some v, in_one (f ∷ []) [] v, p)

after_file : (f : Text) (words : List Text) → IsPlain f → Form words → rest_fault emit_shape (with_file f) words ≡ [] → SomeEmitWords (f ∷ words)
after_file f [] p h e = (f, None, nothing (f ∷ []), p)
after_file f (x ∷ xs) p (inl h) e = absurd (stray (with_file f).held xs x h.0 e)
after_file f (x ∷ xs) p (inr h) e =
    at_option (λ w. rest_fault emit_shape (with_file f) (w ∷ xs) ≡ [] → SomeEmitWords (f ∷ w ∷ xs)) x h.0 (after_option f xs p h.1)
    (λ v. after_joined f v xs p h.1) e

-- after a budget, and in it
after_value : (v : Text) (words : List Text) → IsPlain v → AllByRecursion IsPlain words → rest_fault emit_shape (with_value v) words ≡ []
    → SomeEmitWords (codes "--budget" ∷ v ∷ words)
unfolding walk_fault defaults_fault
after_value v [] q a e = absurd (none_at (with_value v) tt e)
after_value v (f ∷ fs) q a e =
    let at_end = goes_back emit_shape (with_value v) (budget_then_file v f) f fs (reads_file_after_value v f a.0) e in
    subst (λ ws. SomeEmitWords (codes "--budget" ∷ v ∷ f ∷ ws)) (sym (no_more (budget_then_file v f).held fs a.1 at_end))
    (f, Some v, in_two [] (f ∷ []) v q, a.0)

after_first_option : (words : List Text) → AllByRecursion IsPlain words → rest_fault emit_shape start (codes "--budget" ∷ words) ≡ []
    → SomeEmitWords (codes "--budget" ∷ words)
unfolding walk_fault defaults_fault
after_first_option [] a e = absurd (none_at with_option tt (goes_back emit_shape start with_option (codes "--budget") [] reads_option e))
after_first_option (v ∷ vs) a e =
    let at_value = goes_back emit_shape start with_option (codes "--budget") (v ∷ vs) reads_option e in
    after_value v vs a.0 a.1 (goes_back emit_shape with_option (with_value v) v vs (reads_value v a.0) at_value)

after_first_joined : (v : Text) (words : List Text) → AllByRecursion IsPlain words → rest_fault emit_shape start ((codes "--budget=" ++ v) ∷ words) ≡ []
    → SomeEmitWords ((codes "--budget=" ++ v) ∷ words)
unfolding walk_fault defaults_fault
after_first_joined v [] a e = absurd (none_at (with_joined v) tt (goes_back emit_shape start (with_joined v) (codes "--budget=" ++ v) [] (reads_joined v) e))
after_first_joined v (f ∷ fs) a e =
    let at_file = goes_back emit_shape start (with_joined v) (codes "--budget=" ++ v) (f ∷ fs) (reads_joined v) e in
    let at_end = goes_back emit_shape (with_joined v) (budget_then_file v f) f fs (reads_file_after_joined v f a.0) at_file in
    subst (λ ws. SomeEmitWords ((codes "--budget=" ++ v) ∷ f ∷ ws)) (sym (no_more (budget_then_file v f).held fs a.1 at_end))
    (f, Some v, in_one [] (f ∷ []) v, a.0)

-- words of the form that are read are these
pub emit_words : (words : List Text) → Form words → rest_fault emit_shape start words ≡ [] → SomeEmitWords words
unfolding walk_fault defaults_fault
emit_words [] h e = absurd (none_at start tt e)
emit_words (f ∷ fs) (inl h) e = after_file f fs h.0 h.1 (goes_back emit_shape start (with_file f) f fs (reads_file f h.0) e)
emit_words (w ∷ ws) (inr h) e =
    at_option (λ x. rest_fault emit_shape start (x ∷ ws) ≡ [] → SomeEmitWords (x ∷ ws)) w h.0 (after_first_option ws h.1) (λ v. after_first_joined v ws h.1) e
