-- Which words after `simulate` are read, and as what.
use Rattle.std.proofs.Common.{◌≡◌, ◌∙◌, sym, refl, ap, List, [], ◌∷◌, ◌++◌, Option, Some, None, codes, inl, inr, subst}
use Rattle.std.specs.List.{AllByRecursion}
use Rattle.clap.specs.Walk.{Held, Text, Walk, finished, first_of, idle, option, rows_after, walked}
use Rattle.clap.specs.Faults.{defaults_fault, walk_fault}
use Rattle.chw_words.proofs.Walks.{Fails, Goes, Leads, at, fails_not, first, goes_back, plain_goes, plain_turn, rest_fault, rest_stops, there, value_goes}
use Rattle.chw_words.proofs.Shapes.{Form, IsPlain, at_option, budget_is, budget_then_file, file_then_joined, file_then_option, file_then_value, held, row, simulate_shape, start, waits, with_file, with_joined, with_option, with_value}
use Rattle.chw_words.proofs.BudgetWords.{HaveSaid, in_one, in_two, nothing, two_split}

-- ---- where the walk stands with the stimulus

abbrev stimulus_is : Text → Option (Text × List Text)
stimulus_is g = Some (codes "stimulus", g ∷ [])

-- after both files, and then a budget
abbrev with_files : Text → Text → Walk
with_files f g = at (held (row (codes "file") f ∷ []) (stimulus_is g)) idle 3

abbrev files_then_option : Text → Text → Walk
files_then_option f g = at (held (row (codes "file") f ∷ row (codes "stimulus") g ∷ []) waits) (option (codes "budget")) 3

abbrev files_then_value : Text → Text → Text → Walk
files_then_value f g v = at (held (row (codes "file") f ∷ row (codes "stimulus") g ∷ []) (budget_is v)) idle 3

abbrev files_then_joined : Text → Text → Text → Walk
files_then_joined f g v = at (held (row (codes "file") f ∷ row (codes "stimulus") g ∷ row (codes "budget") v ∷ []) None) idle 3

-- after both, with the budget between them, and before them
abbrev budget_between : Text → Text → Text → Walk
budget_between f v g = at (held (row (codes "file") f ∷ row (codes "budget") v ∷ []) (stimulus_is g)) idle 3

abbrev budget_then_files : Text → Text → Text → Walk
budget_then_files v f g = at (held (row (codes "budget") v ∷ row (codes "file") f ∷ []) (stimulus_is g)) idle 3

-- ---- the steps of the walk

reads_file : (f : Text) → IsPlain f → Goes simulate_shape start f (with_file f)
reads_file f p = plain_goes simulate_shape start.held 1 f (with_file f) p refl refl

reads_stimulus : (f g : Text) → IsPlain g → Goes simulate_shape (with_file f) g (with_files f g)
reads_stimulus f g p = plain_goes simulate_shape (with_file f).held 2 g (with_files f g) p refl refl

reads_option_after_files : (f g : Text) → Goes simulate_shape (with_files f g) (codes "--budget") (files_then_option f g)
unfolding walked
reads_option_after_files f g = record { quiet = refl; to = refl }

reads_value_after_files : (f g v : Text) → IsPlain v → Goes simulate_shape (files_then_option f g) v (files_then_value f g v)
reads_value_after_files f g v p = value_goes simulate_shape (files_then_option f g).held (codes "budget") 3 v (files_then_value f g v) p refl

reads_joined_after_files : (f g v : Text) → Goes simulate_shape (with_files f g) (codes "--budget=" ++ v) (files_then_joined f g v)
unfolding walked
reads_joined_after_files f g v = record { quiet = refl; to = refl }

reads_option_after_file : (f : Text) → Goes simulate_shape (with_file f) (codes "--budget") (file_then_option f)
unfolding walked
reads_option_after_file f = record { quiet = refl; to = refl }

reads_value_after_file : (f v : Text) → IsPlain v → Goes simulate_shape (file_then_option f) v (file_then_value f v)
reads_value_after_file f v p = value_goes simulate_shape (file_then_option f).held (codes "budget") 2 v (file_then_value f v) p refl

reads_joined_after_file : (f v : Text) → Goes simulate_shape (with_file f) (codes "--budget=" ++ v) (file_then_joined f v)
unfolding walked
reads_joined_after_file f v = record { quiet = refl; to = refl }

reads_stimulus_after_value : (f v g : Text) → IsPlain g → Goes simulate_shape (file_then_value f v) g (budget_between f v g)
reads_stimulus_after_value f v g p = plain_goes simulate_shape (file_then_value f v).held 2 g (budget_between f v g) p refl refl

reads_stimulus_after_joined : (f v g : Text) → IsPlain g → Goes simulate_shape (file_then_joined f v) g (budget_between f v g)
reads_stimulus_after_joined f v g p = plain_goes simulate_shape (file_then_joined f v).held 2 g (budget_between f v g) p refl refl

reads_option : Goes simulate_shape start (codes "--budget") with_option
unfolding walked
reads_option = record { quiet = refl; to = refl }

reads_value : (v : Text) → IsPlain v → Goes simulate_shape with_option v (with_value v)
reads_value v p = value_goes simulate_shape with_option.held (codes "budget") 1 v (with_value v) p refl

reads_joined : (v : Text) → Goes simulate_shape start (codes "--budget=" ++ v) (with_joined v)
unfolding walked
reads_joined v = record { quiet = refl; to = refl }

reads_file_after_value : (v f : Text) → IsPlain f → Goes simulate_shape (with_value v) f (budget_then_file v f)
reads_file_after_value v f p = plain_goes simulate_shape (with_value v).held 1 f (budget_then_file v f) p refl refl

reads_file_after_joined : (v f : Text) → IsPlain f → Goes simulate_shape (with_joined v) f (budget_then_file v f)
reads_file_after_joined v f p = plain_goes simulate_shape (with_joined v).held 1 f (budget_then_file v f) p refl refl

reads_stimulus_last : (v f g : Text) → IsPlain g → Goes simulate_shape (budget_then_file v f) g (budget_then_files v f g)
reads_stimulus_last v f g p = plain_goes simulate_shape (budget_then_file v f).held 2 g (budget_then_files v f g) p refl refl

-- ---- two files and a budget are read

-- what is matched at the end of a walk
pub record HaveRead (words : List Text) (f g : Text) (said : Option Text) : Type 0 where
  pub faultless : rest_fault simulate_shape start words ≡ []
  pub file : first_of (codes "file") (rows_after simulate_shape.rules [] words) ≡ Some f
  pub stimulus : first_of (codes "stimulus") (rows_after simulate_shape.rules [] words) ≡ Some g
  pub budget : first_of (codes "budget") (rows_after simulate_shape.rules [] words) ≡ said

-- what is found for an argument where a walk ends
abbrev found_at : Text → Walk → Option Text
found_at id w = first_of id (finished simulate_shape.rules w.held)

-- from where the walk ends
ends : (words : List Text) (f g : Text) (said : Option Text) (w : Walk) → Leads simulate_shape start words w → rest_fault simulate_shape w [] ≡ []
    → found_at (codes "file") w ≡ Some f → found_at (codes "stimulus") w ≡ Some g → found_at (codes "budget") w ≡ said → HaveRead words f g said
ends words f g said w l none file stimulus budget = record {
  faultless = l.faults ∙ none;
  file = ap (found_at (codes "file")) l.to ∙ file;
  stimulus = ap (found_at (codes "stimulus")) l.to ∙ stimulus;
  budget = ap (found_at (codes "budget")) l.to ∙ budget;
}

-- where the words are these, they are read
pub simulate_read : (words arguments : List Text) (f g : Text) (said : Option Text) → HaveSaid words arguments said → arguments ≡ f ∷ g ∷ [] → IsPlain f
    → IsPlain g → HaveRead words f g said
unfolding walk_fault defaults_fault
simulate_read _ _ f g _ (nothing xs) e p r =
    subst (λ ws. HaveRead ws f g None) (sym e)
    (ends (f ∷ g ∷ []) f g None (with_files f g) (first (reads_file f p) (first (reads_stimulus f g r) there)) refl refl refl refl)
simulate_read _ _ f g _ (in_two before after v q) e p r =
    two_split (λ b a. HaveRead (b ++ codes "--budget" ∷ v ∷ a) f g (Some v)) before after f g e
    (ends (codes "--budget" ∷ v ∷ f ∷ g ∷ []) f g (Some v) (budget_then_files v f g)
    (first reads_option (first (reads_value v q) (first (reads_file_after_value v f p) (first (reads_stimulus_last v f g r) there)))) refl refl refl refl)
    (ends (f ∷ codes "--budget" ∷ v ∷ g ∷ []) f g (Some v) (budget_between f v g)
    (first (reads_file f p) (first (reads_option_after_file f) (first (reads_value_after_file f v q) (first (reads_stimulus_after_value f v g r) there))))
    refl refl refl refl)
    (ends (f ∷ g ∷ codes "--budget" ∷ v ∷ []) f g (Some v) (files_then_value f g v)
    (first (reads_file f p) (first (reads_stimulus f g r) (first (reads_option_after_files f g) (first (reads_value_after_files f g v q) there))))
    refl refl refl refl)
simulate_read _ _ f g _ (in_one before after v) e p r =
    two_split (λ b a. HaveRead (b ++ (codes "--budget=" ++ v) ∷ a) f g (Some v)) before after f g e
    (ends ((codes "--budget=" ++ v) ∷ f ∷ g ∷ []) f g (Some v) (budget_then_files v f g)
    (first (reads_joined v) (first (reads_file_after_joined v f p) (first (reads_stimulus_last v f g r) there))) refl refl refl refl)
    (ends (f ∷ (codes "--budget=" ++ v) ∷ g ∷ []) f g (Some v) (budget_between f v g)
    (first (reads_file f p) (first (reads_joined_after_file f v) (first (reads_stimulus_after_joined f v g r) there))) refl refl refl refl)
    (ends (f ∷ g ∷ (codes "--budget=" ++ v) ∷ []) f g (Some v) (files_then_joined f g v)
    (first (reads_file f p) (first (reads_stimulus f g r) (first (reads_joined_after_files f g v) there))) refl refl refl refl)

-- ---- and nothing else is

-- some files and budget that the words are
abbrev pub SomeSimulateWords : List Text → Type 0
SomeSimulateWords words = (f : Text) × (g : Text) × (said : Option Text) × HaveSaid words (f ∷ g ∷ []) said × IsPlain f × IsPlain g

none_at : (w : Walk) → Fails (rest_fault simulate_shape w []) → rest_fault simulate_shape w [] ≡ [] → ⊥
none_at w f e = fails_not (rest_fault simulate_shape w []) f e

-- a third plain word goes nowhere
stray : (h : Held) (words : List Text) (x : Text) → IsPlain x → rest_fault simulate_shape (at h idle 3) (x ∷ words) ≡ [] → ⊥
stray h words x p = rest_stops simulate_shape (at h idle 3) x words (let t = plain_turn simulate_shape [] h 3 x p refl in rw t tt)

no_more : (h : Held) (words : List Text) → AllByRecursion IsPlain words → rest_fault simulate_shape (at h idle 3) words ≡ [] → words ≡ []
no_more h [] a e = refl
no_more h (x ∷ xs) a e = absurd (stray h xs x a.0 e)

-- the words are a stimulus
abbrev AreStimulus : List Text → Type 0
AreStimulus words = (g : Text) × IsPlain g × (words ≡ g ∷ [])

-- where a budget was read, only the stimulus is left
one_more : (h : Held) (after : Text → Held) (words : List Text) → Fails (rest_fault simulate_shape (at h idle 2) [])
    → ((g : Text) → IsPlain g → Goes simulate_shape (at h idle 2) g (at (after g) idle 3)) → AllByRecursion IsPlain words
    → rest_fault simulate_shape (at h idle 2) words ≡ [] → AreStimulus words
one_more h after [] f goes a e = absurd (none_at (at h idle 2) f e)
one_more h after (g ∷ gs) f goes a e =
    let at_end = goes_back simulate_shape (at h idle 2) (at (after g) idle 3) g gs (goes g a.0) e in
    (g, a.0, ap (λ ws. g ∷ ws) (no_more (after g) gs a.1 at_end))

-- the words are a file and a stimulus
abbrev AreFiles : List Text → Type 0
AreFiles words = (f : Text) × (g : Text) × IsPlain f × IsPlain g × (words ≡ f ∷ g ∷ [])

-- where a budget was read before the file, both are left
two_more : (h : Held) (v : Text) (words : List Text) → Fails (rest_fault simulate_shape (at h idle 1) [])
    → ((f : Text) → IsPlain f → Goes simulate_shape (at h idle 1) f (budget_then_file v f)) → AllByRecursion IsPlain words
    → rest_fault simulate_shape (at h idle 1) words ≡ [] → AreFiles words
unfolding walk_fault defaults_fault
two_more h v [] f goes a e = absurd (none_at (at h idle 1) f e)
two_more h v (x ∷ xs) f goes a e =
    let at_file = goes_back simulate_shape (at h idle 1) (budget_then_file v x) x xs (goes x a.0) e in
    let g = one_more (budget_then_file v x).held (λ y. (budget_then_files v x y).held) xs tt (reads_stimulus_last v x) a.1 at_file in
    (x, g.0, a.0, g.1, ap (λ ws. x ∷ ws) (g.2))

-- after a file and a stimulus
after_files_option : (f g : Text) (words : List Text) → IsPlain f → IsPlain g → AllByRecursion IsPlain words
    → rest_fault simulate_shape (with_files f g) (codes "--budget" ∷ words) ≡ [] → SomeSimulateWords (f ∷ g ∷ codes "--budget" ∷ words)
unfolding walk_fault defaults_fault
after_files_option f g [] p r a e =
    absurd (none_at (files_then_option f g) tt
    (goes_back simulate_shape (with_files f g) (files_then_option f g) (codes "--budget") [] (reads_option_after_files f g) e))
after_files_option f g (v ∷ vs) p r a e =
    let at_value = goes_back simulate_shape (with_files f g) (files_then_option f g) (codes "--budget") (v ∷ vs) (reads_option_after_files f g) e in
    let at_end = goes_back simulate_shape (files_then_option f g) (files_then_value f g v) v vs (reads_value_after_files f g v a.0) at_value in
    subst (λ ws. SomeSimulateWords (f ∷ g ∷ codes "--budget" ∷ v ∷ ws)) (sym (no_more (files_then_value f g v).held vs a.1 at_end))
    (f, g, Some v, in_two (f ∷ g ∷ []) [] v a.0, p, r)

after_files_joined : (f g v : Text) (words : List Text) → IsPlain f → IsPlain g → AllByRecursion IsPlain words
    → rest_fault simulate_shape (with_files f g) ((codes "--budget=" ++ v) ∷ words) ≡ [] → SomeSimulateWords (f ∷ g ∷ (codes "--budget=" ++ v) ∷ words)
after_files_joined f g v words p r a e =
    let at_end = goes_back simulate_shape (with_files f g) (files_then_joined f g v) (codes "--budget=" ++ v) words (reads_joined_after_files f g v) e in
    subst (λ ws. SomeSimulateWords (f ∷ g ∷ (codes "--budget=" ++ v) ∷ ws)) (sym (no_more (files_then_joined f g v).held words a at_end))
    (f, g, Some v, in_one (f ∷ g ∷ []) [] v, p, r)

after_files : (f g : Text) (words : List Text) → IsPlain f → IsPlain g → Form words → rest_fault simulate_shape (with_files f g) words ≡ []
    → SomeSimulateWords (f ∷ g ∷ words)
after_files f g [] p r h e = (f, g, None, nothing (f ∷ g ∷ []), p, r)
after_files f g (x ∷ xs) p r (inl h) e = absurd (stray (with_files f g).held xs x h.0 e)
after_files f g (x ∷ xs) p r (inr h) e =
    at_option (λ w. rest_fault simulate_shape (with_files f g) (w ∷ xs) ≡ [] → SomeSimulateWords (f ∷ g ∷ w ∷ xs)) x h.0
    (after_files_option f g xs p r h.1) (λ v. after_files_joined f g v xs p r h.1) e

-- after a file
after_option : (f : Text) (words : List Text) → IsPlain f → AllByRecursion IsPlain words
    → rest_fault simulate_shape (with_file f) (codes "--budget" ∷ words) ≡ [] → SomeSimulateWords (f ∷ codes "--budget" ∷ words)
unfolding walk_fault defaults_fault
after_option f [] p a e =
    absurd (none_at (file_then_option f) tt (goes_back simulate_shape (with_file f) (file_then_option f) (codes "--budget") [] (reads_option_after_file f) e))
after_option f (v ∷ vs) p a e =
    let at_value = goes_back simulate_shape (with_file f) (file_then_option f) (codes "--budget") (v ∷ vs) (reads_option_after_file f) e in
    let at_last = goes_back simulate_shape (file_then_option f) (file_then_value f v) v vs (reads_value_after_file f v a.0) at_value in
    let g = one_more (file_then_value f v).held (λ y. (budget_between f v y).held) vs tt (reads_stimulus_after_value f v) a.1 at_last in
    subst (λ ws. SomeSimulateWords (f ∷ codes "--budget" ∷ v ∷ ws)) (sym (g.2)) (f, g.0, Some v, in_two (f ∷ []) (g.0 ∷ []) v a.0, p, g.1)

after_joined : (f v : Text) (words : List Text) → IsPlain f → AllByRecursion IsPlain words
    → rest_fault simulate_shape (with_file f) ((codes "--budget=" ++ v) ∷ words) ≡ [] → SomeSimulateWords (f ∷ (codes "--budget=" ++ v) ∷ words)
unfolding walk_fault defaults_fault
after_joined f v words p a e =
    let at_last = goes_back simulate_shape (with_file f) (file_then_joined f v) (codes "--budget=" ++ v) words (reads_joined_after_file f v) e in
    let g = one_more (file_then_joined f v).held (λ y. (budget_between f v y).held) words tt (reads_stimulus_after_joined f v) a at_last in
    subst (λ ws. SomeSimulateWords (f ∷ (codes "--budget=" ++ v) ∷ ws)) (sym (g.2)) (f, g.0, Some v, in_one (f ∷ []) (g.0 ∷ []) v, p, g.1)

after_file : (f : Text) (words : List Text) → IsPlain f → Form words → rest_fault simulate_shape (with_file f) words ≡ [] → SomeSimulateWords (f ∷ words)
unfolding walk_fault defaults_fault
after_file f [] p h e = absurd (none_at (with_file f) tt e)
after_file f (g ∷ gs) p (inl h) e =
    after_files f g gs p h.0 h.1 (goes_back simulate_shape (with_file f) (with_files f g) g gs (reads_stimulus f g h.0) e)
after_file f (x ∷ xs) p (inr h) e =
    at_option (λ w. rest_fault simulate_shape (with_file f) (w ∷ xs) ≡ [] → SomeSimulateWords (f ∷ w ∷ xs)) x h.0 (after_option f xs p h.1)
    (λ v. after_joined f v xs p h.1) e

-- after a budget, and in it
after_first_option : (words : List Text) → AllByRecursion IsPlain words → rest_fault simulate_shape start (codes "--budget" ∷ words) ≡ []
    → SomeSimulateWords (codes "--budget" ∷ words)
unfolding walk_fault defaults_fault
after_first_option [] a e = absurd (none_at with_option tt (goes_back simulate_shape start with_option (codes "--budget") [] reads_option e))
after_first_option (v ∷ vs) a e =
    let at_value = goes_back simulate_shape start with_option (codes "--budget") (v ∷ vs) reads_option e in
    let at_file = goes_back simulate_shape with_option (with_value v) v vs (reads_value v a.0) at_value in
    let files = two_more (with_value v).held v vs tt (reads_file_after_value v) a.1 at_file in
    subst (λ ws. SomeSimulateWords (codes "--budget" ∷ v ∷ ws)) (sym (files.4))
    (files.0, files.1, Some v, in_two [] (files.0 ∷ files.1 ∷ []) v a.0, files.2, files.3)

after_first_joined : (v : Text) (words : List Text) → AllByRecursion IsPlain words
    → rest_fault simulate_shape start ((codes "--budget=" ++ v) ∷ words) ≡ [] → SomeSimulateWords ((codes "--budget=" ++ v) ∷ words)
unfolding walk_fault defaults_fault
after_first_joined v words a e =
    let at_file = goes_back simulate_shape start (with_joined v) (codes "--budget=" ++ v) words (reads_joined v) e in
    let files = two_more (with_joined v).held v words tt (reads_file_after_joined v) a at_file in
    subst (λ ws. SomeSimulateWords ((codes "--budget=" ++ v) ∷ ws)) (sym (files.4))
    (files.0, files.1, Some v, in_one [] (files.0 ∷ files.1 ∷ []) v, files.2, files.3)

-- words of the form that are read are these
pub simulate_words : (words : List Text) → Form words → rest_fault simulate_shape start words ≡ [] → SomeSimulateWords words
unfolding walk_fault defaults_fault
simulate_words [] h e = absurd (none_at start tt e)
simulate_words (f ∷ fs) (inl h) e = after_file f fs h.0 h.1 (goes_back simulate_shape start (with_file f) f fs (reads_file f h.0) e)
simulate_words (w ∷ ws) (inr h) e =
    at_option (λ x. rest_fault simulate_shape start (x ∷ ws) ≡ [] → SomeSimulateWords (x ∷ ws)) w h.0 (after_first_option ws h.1)
    (λ v. after_first_joined v ws h.1) e
