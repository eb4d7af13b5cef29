-- A text has one splitting, or one first place where no token begins, and not both.
use Rattle.std.proofs.Common.{◌≡◌, ℕ, ◌+◌, ◌≤◌, List, ◌∷◌, ◌++◌, length, take, sym, refl, ap, ◌∙◌, subst, arith}
use Rattle.std.proofs.lemmas.List.{append_cancel_left, take_at}
use Rattle.verilog_text.specs.VForms.{HasForm, Sort}
use Rattle.verilog_text.specs.VTokens.{Gap, IsLongest, NoTokenFrom, Placed, TokensFrom}
use Rattle.verilog_text.specs.VTokens.TokensFrom.{ends, next}
use Rattle.verilog_text.specs.VTokens.NoTokenFrom.{here, later}
use Rattle.verilog_text.proofs.Firsts.{same_sort}
use Rattle.verilog_text.proofs.Gaps.{same_gap, form_no_gap, nothing_no_gap, last_gap_no_token, last_gap_no_fault}

-- the longest token is one
pub same_longest : (sort other : Sort) (word rest longer more : List ℕ) → IsLongest sort word rest → IsLongest other longer more → longer ++ more ≡ word ++ rest → (other ≡ sort) × (longer ≡ word) × (more ≡ rest)
same_longest sort other word rest longer more first second same =
    let within : length longer ≤ length word = first.longest other longer more same second.form in
    let around : length word ≤ length longer = second.longest sort word rest (sym same) first.form in
    let lengths : length longer ≡ length word = omega arith in
    let word_is : longer ≡ word = sym (take_at longer more (length word) lengths) ∙ ap (take (length word)) same ∙ take_at word rest (length word) refl in (
      same_sort sort other word first.form (subst (HasForm other) word_is second.form),
      word_is,
      append_cancel_left word more rest (ap (λ w. w ++ more) (sym word_is) ∙ same),
    )

-- two gaps with the longest tokens behind them, of one text
same_step : (gap word rest other_gap other_word more : List ℕ) (sort other : Sort) → Gap gap → IsLongest sort word rest → Gap other_gap → IsLongest other other_word more → other_gap ++ (other_word ++ more) ≡ gap ++ (word ++ rest) → (other_gap ≡ gap) × (other ≡ sort) × (other_word ≡ word) × (more ≡ rest)
same_step gap word rest other_gap other_word more sort other gaps longest other_gaps other_longest same =
    let gap_is = same_gap gaps other_gaps (word ++ rest) (other_word ++ more) (form_no_gap sort word rest longest.form) (form_no_gap other other_word more other_longest.form) same in
    let word_is = same_longest sort other word rest other_word more longest other_longest gap_is.1 in
    (gap_is.0, word_is.0, word_is.1, word_is.2)

-- a text has at most one splitting
pub one_splitting : {at : ℕ} {text : List ℕ} {tokens : List Placed} → TokensFrom at text tokens → {place : ℕ} {other : List ℕ} {others : List Placed} → TokensFrom place other others → place ≡ at → other ≡ text → others ≡ tokens
one_splitting (ends at rest last) (ends place other other_last) same_place same = refl
one_splitting (ends at rest last) (next place gap word more sort others gaps longest splits) same_place same = absurd (last_gap_no_token rest last gap gaps sort word more longest.form (sym same))
one_splitting (next at gap word rest sort tokens gaps longest splits) (ends place other last) same_place same = absurd (last_gap_no_token other last gap gaps sort word rest longest.form same)
one_splitting (next at gap word rest sort tokens gaps longest splits) (next place other_gap other_word more other others other_gaps other_longest other_splits) same_place same =
    let parts = same_step gap word rest other_gap other_word more sort other gaps longest other_gaps other_longest same in
    let from : place + length other_gap ≡ at + length gap = omega (arith, ap length parts.0) in
    let to : place + length other_gap + length other_word ≡ at + length gap + length word = omega (arith, from, ap length parts.2) in
    let tail : others ≡ tokens = one_splitting splits other_splits to parts.3 in
    let sort_is : other ≡ sort = parts.1 in
    let word_is : other_word ≡ word = parts.2 in
    cc

-- a text that splits has no place where no token begins
pub no_fault : {at : ℕ} {text : List ℕ} {tokens : List Placed} → TokensFrom at text tokens → {place : ℕ} {other : List ℕ} {fault : ℕ} → NoTokenFrom place other fault → other ≡ text → ⊥
no_fault (ends at rest last) (here place gap b more gaps nothing) same = last_gap_no_fault rest last gap gaps b more nothing (sym same)
no_fault (ends at rest last) (later place gap word more sort fault gaps longest faults) same = last_gap_no_token rest last gap gaps sort word more longest.form (sym same)
no_fault (next at gap word rest sort tokens gaps longest splits) (here place other_gap b more other_gaps nothing) same =
    let gap_is = same_gap gaps other_gaps (word ++ rest) (b ∷ more) (form_no_gap sort word rest longest.form) (nothing_no_gap b more nothing) same in
    nothing.no_token sort word rest (sym gap_is.1) longest.form
no_fault (next at gap word rest sort tokens gaps longest splits) (later place other_gap other_word more other fault other_gaps other_longest faults) same =
    no_fault splits faults (same_step gap word rest other_gap other_word more sort other gaps longest other_gaps other_longest same).3

-- there is at most one first place where no token begins
pub one_fault : {at : ℕ} {text : List ℕ} {fault : ℕ} → NoTokenFrom at text fault → {place : ℕ} {other : List ℕ} {other_fault : ℕ} → NoTokenFrom place other other_fault → place ≡ at → other ≡ text → other_fault ≡ fault
one_fault (here at gap b rest gaps nothing) (here place other_gap c more other_gaps other_nothing) same_place same =
    let gap_is = same_gap gaps other_gaps (b ∷ rest) (c ∷ more) (nothing_no_gap b rest nothing) (nothing_no_gap c more other_nothing) same in
    omega (arith, ap length gap_is.0)
one_fault (here at gap b rest gaps nothing) (later place other_gap word more sort fault other_gaps longest faults) same_place same =
    let gap_is = same_gap gaps other_gaps (b ∷ rest) (word ++ more) (nothing_no_gap b rest nothing) (form_no_gap sort word more longest.form) same in
    absurd (nothing.no_token sort word more gap_is.1 longest.form)
one_fault (later at gap word rest sort fault gaps longest faults) (here place other_gap b more other_gaps nothing) same_place same =
    let gap_is = same_gap gaps other_gaps (word ++ rest) (b ∷ more) (form_no_gap sort word rest longest.form) (nothing_no_gap b more nothing) same in
    absurd (nothing.no_token sort word rest (sym gap_is.1) longest.form)
one_fault (later at gap word rest sort fault gaps longest faults) (later place other_gap other_word more other other_fault other_gaps other_longest other_faults) same_place same =
    let parts = same_step gap word rest other_gap other_word more sort other gaps longest other_gaps other_longest same in
    let from : place + length other_gap ≡ at + length gap = omega (arith, ap length parts.0) in
    let to : place + length other_gap + length other_word ≡ at + length gap + length word = omega (arith, from, ap length parts.2) in
    one_fault faults other_faults to parts.3
