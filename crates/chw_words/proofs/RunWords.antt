-- Which words after `run` are read, and as what.
use Rattle.std.proofs.Common.{◌≡◌, ◌∙◌, refl, ap, ℕ, List, [], ◌∷◌, Some, codes, inl, inr}
use Rattle.clap.specs.Walk.{Held, Text, Walk, finished, first_of, idle, nothing_held, rows_after}
use Rattle.clap.specs.Faults.{defaults_fault, turn_fault, walk_fault}
use Rattle.chw_words.proofs.Walks.{Fails, Goes, at, fails_not, fold_goes, goes_back, plain_goes, plain_turn, rest_fault, rest_goes, rest_stops}
use Rattle.chw_words.proofs.Shapes.{Form, IsBudgetWord, IsPlain, at_option, held, row, run_shape, start}

-- where it stands after the first file, and after both
abbrev with_verilog : Text → Walk
with_verilog f = at (held [] (Some (codes "verilog", f ∷ []))) idle 2

abbrev with_both : Text → Text → Walk
with_both f g = at (held (row (codes "verilog") f ∷ []) (Some (codes "stimulus", g ∷ []))) idle 3

reads_verilog : (f : Text) → IsPlain f → Goes run_shape start f (with_verilog f)
reads_verilog f p = plain_goes run_shape nothing_held 1 f (with_verilog f) p refl refl

reads_stimulus : (f g : Text) → IsPlain g → Goes run_shape (with_verilog f) g (with_both f g)
reads_stimulus f g p = plain_goes run_shape (with_verilog f).held 2 g (with_both f g) p refl refl

-- where the words are two files, they are read
pub run_read : (f g : Text) → IsPlain f → IsPlain g → (rest_fault run_shape start (f ∷ g ∷ []) ≡ [])
    × (first_of (codes "verilog") (rows_after run_shape.rules [] (f ∷ g ∷ [])) ≡ Some f)
    × (first_of (codes "stimulus") (rows_after run_shape.rules [] (f ∷ g ∷ [])) ≡ Some g)
unfolding walk_fault defaults_fault
run_read f g p q =
    let a = reads_verilog f p in
    let b = reads_stimulus f g q in
    let there = fold_goes run_shape start (with_verilog f) f (g ∷ []) a ∙ fold_goes run_shape (with_verilog f) (with_both f g) g [] b in (
      rest_goes run_shape start (with_verilog f) f (g ∷ []) a ∙ rest_goes run_shape (with_verilog f) (with_both f g) g [] b,
      ap (λ (w : Walk). first_of (codes "verilog") (finished run_shape.rules w.held)) there,
      ap (λ (w : Walk). first_of (codes "stimulus") (finished run_shape.rules w.held)) there,
    )

-- an option is refused, wherever it stands
no_option : (h : Held) (position : ℕ) (word : Text) (words : List Text) → IsBudgetWord word → rest_fault run_shape (at h idle position) (word ∷ words) ≡ [] → ⊥
no_option h position word words is =
    rest_stops run_shape (at h idle position) word words
    (at_option (λ w. Fails (turn_fault run_shape [] (at h idle position) w)) word is tt (λ v. tt))

after_both : (f g : Text) (words : List Text) → Form words → rest_fault run_shape (with_both f g) words ≡ [] → words ≡ []
after_both f g [] h e = refl
after_both f g (x ∷ xs) (inl h) e =
    absurd (rest_stops run_shape (with_both f g) x xs (let t = plain_turn run_shape [] (with_both f g).held 3 x h.0 refl in rw t tt) e)
after_both f g (x ∷ xs) (inr h) e = absurd (no_option (with_both f g).held 3 x xs h.0 e)

after_verilog : (f : Text) (words : List Text) → Form words → rest_fault run_shape (with_verilog f) words ≡ []
    → (g : Text) × IsPlain g × (words ≡ g ∷ [])
unfolding walk_fault defaults_fault
after_verilog f [] h e = absurd (fails_not (rest_fault run_shape (with_verilog f) []) tt e)
after_verilog f (g ∷ gs) (inl h) e =
    let last = after_both f g gs h.1 (goes_back run_shape (with_verilog f) (with_both f g) g gs (reads_stimulus f g h.0) e) in
    (g, h.0, ap (λ ws. g ∷ ws) last)
after_verilog f (w ∷ ws) (inr h) e = absurd (no_option (with_verilog f).held 2 w ws h.0 e)

-- words of the form that are read are two files
pub run_words : (words : List Text) → Form words → rest_fault run_shape start words ≡ []
    → (f : Text) × (g : Text) × IsPlain f × IsPlain g × (words ≡ f ∷ g ∷ [])
unfolding walk_fault defaults_fault
run_words [] h e = absurd (fails_not (rest_fault run_shape start []) tt e)
run_words (f ∷ fs) (inl h) e =
    let last = after_verilog f fs h.1 (goes_back run_shape start (with_verilog f) f fs (reads_verilog f h.0) e) in
    (f, last.0, h.0, last.1, ap (λ ws. f ∷ ws) last.2)
run_words (w ∷ ws) (inr h) e = absurd (no_option nothing_held 1 w ws h.0 e)
