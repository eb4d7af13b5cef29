-- Commands with one word after their own, and no option: which words are read, and as what.
use Rattle.std.proofs.Common.{◌≡◌, ◌∙◌, sym, refl, ap, ℕ, List, [], ◌∷◌, Some, inl, inr, subst}
use Rattle.std.proofs.lemmas.Option.{same_Some}
use Rattle.clap.specs.Walk.{Held, Text, Walk, finished, first_of, idle, nothing_held, rows_after}
use Rattle.clap.specs.Simple.{Shape}
use Rattle.clap.specs.Faults.{turn_fault}
use Rattle.chw_words.proofs.Walks.{Fails, Goes, at, fails_not, fold_goes, goes_back, rest_fault, rest_goes, rest_stops}
use Rattle.chw_words.proofs.Shapes.{Form, IsBudgetWord, IsPlain, held, start}

-- where the walk stands after the word
abbrev pub with_word : Text → Text → Walk
with_word id x = at (held [] (Some (id, x ∷ []))) idle 2

-- the command of this shape reads one word, for this argument: it needs one, and takes neither a second one nor an option
pub record TakesOne (s : Shape) (id : Text) : Type 0 where
  pub reads : (x : Text) → IsPlain x → Goes s start x (with_word id x)
  pub whole : (x : Text) → rest_fault s (with_word id x) [] ≡ []
  pub found : (x : Text) → first_of id (finished s.rules (with_word id x).held) ≡ Some x
  pub lacking : Fails (rest_fault s start [])
  pub stray : (x y : Text) → IsPlain y → Fails (turn_fault s [] (with_word id x) y)
  pub no_option : (h : Held) (position : ℕ) (word : Text) → IsBudgetWord word → Fails (turn_fault s [] (at h idle position) word)

-- such a word is read
pub one_read : (s : Shape) (id : Text) → TakesOne s id → (x : Text) → IsPlain x
    → (rest_fault s start (x ∷ []) ≡ []) × (first_of id (rows_after s.rules [] (x ∷ [])) ≡ Some x)
one_read s id t x p =
    let g = t.reads x p in (
      rest_goes s start (with_word id x) x [] g ∙ t.whole x,
      ap (λ (w : Walk). first_of id (finished s.rules w.held)) (fold_goes s start (with_word id x) x [] g) ∙ t.found x,
    )

no_more : (s : Shape) (id : Text) → TakesOne s id → (x : Text) (words : List Text) → Form words → rest_fault s (with_word id x) words ≡ [] → words ≡ []
no_more s id t x [] h e = refl
no_more s id t x (y ∷ ys) (inl h) e = absurd (rest_stops s (with_word id x) y ys (t.stray x y h.0) e)
no_more s id t x (y ∷ ys) (inr h) e = absurd (rest_stops s (with_word id x) y ys (t.no_option (with_word id x).held 2 y h.0) e)

is_one : (s : Shape) (id : Text) → TakesOne s id → (words : List Text) → Form words → rest_fault s start words ≡ [] → (x : Text) × IsPlain x × (words ≡ x ∷ [])
is_one s id t [] h e = absurd (fails_not (rest_fault s start []) t.lacking e)
is_one s id t (x ∷ xs) (inl h) e =
    (x, h.0, ap (λ ws. x ∷ ws) (no_more s id t x xs h.1 (goes_back s start (with_word id x) x xs (t.reads x h.0) e)))
is_one s id t (w ∷ ws) (inr h) e = absurd (rest_stops s start w ws (t.no_option nothing_held 1 w h.0) e)

-- words of the form that are read are the word that is found
pub one_words : (s : Shape) (id : Text) → TakesOne s id → (words : List Text) (x : Text) → Form words → rest_fault s start words ≡ []
    → first_of id (rows_after s.rules [] words) ≡ Some x → IsPlain x × (words ≡ x ∷ [])
one_words s id t words x h e found =
    let one = is_one s id t words h e in
    let read : first_of id (rows_after s.rules [] words) ≡ Some (one.0) =
    subst (λ ws. first_of id (rows_after s.rules [] ws) ≡ Some (one.0)) (sym (one.2)) (one_read s id t (one.0) (one.1)).1 in
    let same : one.0 ≡ x = same_Some _ _ (sym read ∙ found) in
    (subst IsPlain same (one.1), one.2 ∙ ap (λ y. y ∷ []) same)
