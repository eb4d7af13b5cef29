-- The steps of times, one after the other.
use Rattle.std.proofs.Common.{◌≡◌, ℕ, ◌+◌, ◌-◌, ◌^◌, ◌<◌, ◌≤◌, List, [], ◌∷◌, ◌++◌, length, get_or, map, take, drop, sym, ap, ◌∙◌, subst, append_assoc, arith}
use Rattle.std.proofs.lemmas.List.{append-nil, drop-drop, drop_all, drop_more, length-drop, map-append, take-append-drop}
use Rattle.wave_read.specs.Rules.{HaveWidths, Keeps, step_in}
use Rattle.wave_read.specs.Shown.{change_of, count_of, time_with, times_of}
use Rattle.wave_read.specs.declared.rules.Rule.TheVariants.{Width}
use Rattle.wave_read.specs.declared.rules.Table.{Table}
use Rattle.wave_read.specs.declared.source.Changed.{Changed}
use Rattle.wave_read.specs.declared.source.Moment.{Moment}
use Rattle.wave_text.specs.declared.wave.WaveStep.{WaveStep}
use Rattle.wave_read.proofs.Searching.{all_left, all_right}

-- the changes that are left, of the next time and of those behind it
parted : (table : Table) (n : ℕ) (rest : List Changed) → HaveWidths table (map change_of rest)
    → HaveWidths table (map change_of (take n rest)) × HaveWidths table (map change_of (drop n rest))
parted table n rest widths =
    let two = subst (HaveWidths table) (sym (ap (map change_of) (take-append-drop n rest)) ∙ map-append change_of (take n rest) (drop n rest)) widths in (
      all_left (Keeps Width table) (map change_of (take n rest)) (map change_of (drop n rest)) two,
      all_right (Keeps Width table) (map change_of (take n rest)) (map change_of (drop n rest)) two,
    )

-- what is left of a list behind more of it
behind : (changes : List Changed) (from n : ℕ) → drop (from + n) changes ≡ drop n (drop from changes)
behind changes from n = sym (drop-drop n from changes)

pub own_widths : (table : Table) (n : ℕ) (rest own all : List Changed) → own ≡ take n rest → rest ≡ all → HaveWidths table (map change_of all)
    → HaveWidths table (map change_of own)
own_widths table n rest own all own_is rest_is widths =
    subst (λ (cs : List Changed). HaveWidths table (map change_of cs)) (sym (own_is ∙ ap (take n) rest_is)) (parted table n all widths).0

pub rest_widths : (table : Table) (n from : ℕ) (changes : List Changed) → HaveWidths table (map change_of (drop from changes))
    → HaveWidths table (map change_of (drop (from + n) changes))
rest_widths table n from changes widths =
    subst (λ (cs : List Changed). HaveWidths table (map change_of cs)) (sym (behind changes from n)) (parted table n (drop from changes) widths).1

-- how many changes the next time has, and those behind it
next_count : (moments : List Moment) (i : ℕ) (d : Moment) → i < length moments → count_of (drop i moments) ≡ (get_or moments i d).count + count_of (drop (i + 1) moments)
next_count moments i d within = ap count_of (drop_more moments i d within)

enough : (moments : List Moment) (i from all : ℕ) (d : Moment) → i < length moments → from + count_of (drop i moments) ≡ all → from + (get_or moments i d).count ≤ all
enough moments i from all d within count = let next = next_count moments i d within in omega arith

pub fits_more : (moments : List Moment) (i from all : ℕ) (d : Moment) → i < length moments → from + count_of (drop i moments) ≡ all → all < 2 ^ 64
    → from + (get_or moments i d).count < 2 ^ 64
fits_more moments i from all d within count fits = let less = enough moments i from all d within count in omega arith

pub rest_enough : (moments : List Moment) (i from : ℕ) (d : Moment) (changes rest : List Changed) → i < length moments → from + count_of (drop i moments) ≡ length changes
    → rest ≡ drop from changes → (get_or moments i d).count ≤ length rest
rest_enough moments i from d changes rest within count is =
    let within_all = enough moments i from (length changes) d within count in
    let left : length rest ≡ length changes - from = ap length is ∙ length-drop from changes in
    omega arith

pub rest_count : (moments : List Moment) (i from all : ℕ) (d : Moment) → i < length moments → from + count_of (drop i moments) ≡ all
    → from + (get_or moments i d).count + count_of (drop (i + 1) moments) ≡ all
rest_count moments i from all d within count = let next = next_count moments i d within in omega arith

-- one step more
pub steps_more : (table : Table) (moments : List Moment) (i from : ℕ) (d : Moment) (changes rest own : List Changed) (steps pushed all : List WaveStep) (step : WaveStep) → i < length moments
    → rest ≡ drop from changes → own ≡ take (get_or moments i d).count rest → step ≡ step_in table (time_with (get_or moments i d) own) → pushed ≡ steps ++ step ∷ []
    → steps ++ map (step_in table) (times_of (drop i moments) (drop from changes)) ≡ all
    → pushed ++ map (step_in table) (times_of (drop (i + 1) moments) (drop (from + (get_or moments i d).count) changes)) ≡ all
steps_more table moments i from d changes rest own steps pushed all step within rest_is own_is step_is new before =
    let it : Moment = get_or moments i d in
    let left : List Changed = drop from changes in
    let rest_steps : List WaveStep = map (step_in table) (times_of (drop (i + 1) moments) (drop it.count left)) in
    let here : step ≡ step_in table (time_with it (take it.count left)) =
    step_is ∙ ap (λ (cs : List Changed). step_in table (time_with it cs)) (own_is ∙ ap (take it.count) rest_is) in
    (λ j. new j ++ map (step_in table) (times_of (drop (i + 1) moments) (behind changes from it.count j)))
    ∙ append_assoc steps (step ∷ []) rest_steps
    ∙ ap (λ (s : WaveStep). steps ++ s ∷ rest_steps) here
    ∙ ap (λ (ms : List Moment). steps ++ map (step_in table) (times_of ms left)) (sym (drop_more moments i d within))
    ∙ before

-- no time is left
pub steps_all : (table : Table) (moments : List Moment) (i : ℕ) (rest : List Changed) (steps all : List WaveStep) → length moments ≤ i
    → steps ++ map (step_in table) (times_of (drop i moments) rest) ≡ all → steps ≡ all
steps_all table moments i rest steps all none before =
    sym (append-nil steps) ∙ ap (λ (ms : List Moment). steps ++ map (step_in table) (times_of ms rest)) (sym (drop_all i moments none)) ∙ before
