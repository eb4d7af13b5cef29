-- Times of which the changes stand one behind the other.
use Rattle.std.proofs.Common.{◌≡◌, ℕ, ◌+◌, ◌≤◌, List, [], ◌∷◌, ◌++◌, length, map, take, drop, refl, sym, ap, ◌∙◌, arith}
use Rattle.std.proofs.lemmas.List.{drop-append-le, length-append, length-drop, map-append, take-append-drop, take-append-le, take_all}
use Rattle.wave_text.specs.VcdText.{Changed as Change, Moment as Time, all_changes}
use Rattle.wave_read.specs.Shown.{change_of, count_of, time_with, times_of}
use Rattle.wave_read.specs.declared.source.Changed.{Changed}
use Rattle.wave_read.specs.declared.source.Moment.{Moment}

-- how many changes were put behind others
pub added_count : (old new read : List Changed) (count : ℕ) → new ≡ old ++ read → count + length old ≡ length new → count ≡ length read
added_count old new read count is counted =
    let all : length new ≡ length old + length read = ap length is ∙ length-append old read in
    omega arith

count_push : (moments : List Moment) (it : Moment) → count_of (moments ++ it ∷ []) ≡ count_of moments + it.count
count_push [] it = omega arith
count_push (first ∷ moments) it = let more = count_push moments it in omega arith

-- times with one more have all changes
pub whole_more : (moments pushed : List Moment) (it : Moment) (old new : List Changed) → pushed ≡ moments ++ it ∷ [] → it.count + length old ≡ length new
    → count_of moments ≡ length old → count_of pushed ≡ length new
whole_more moments pushed it old new more counted whole =
    let all : count_of pushed ≡ count_of moments + it.count = ap count_of more ∙ count_push moments it in
    omega arith

-- what is left behind the changes of the first time
rest_whole : (count others : ℕ) (changes : List Changed) → count + others ≡ length changes → others ≡ length (drop count changes)
rest_whole count others changes whole = let left = length-drop count changes in omega arith

-- one time more, with the changes behind those of the others
pub times_push : (moments : List Moment) (changes read : List Changed) (it : Moment) → count_of moments ≡ length changes → it.count ≡ length read
    → times_of (moments ++ it ∷ []) (changes ++ read) ≡ times_of moments changes ++ time_with it read ∷ []
times_push [] [] read it whole count = ap (λ (cs : List Changed). time_with it cs ∷ []) (take_all it.count read (omega arith))
times_push [] (c ∷ changes) read it whole count = absurd (omega arith)
times_push (first ∷ moments) changes read it whole count =
    let within : first.count ≤ length changes = omega arith in
    let left = rest_whole first.count (count_of moments) changes whole in
    (λ i. time_with first (take-append-le first.count changes read within i) ∷ times_of (moments ++ it ∷ []) (drop-append-le first.count changes read within i))
    ∙ ap (λ (ts : List Time). time_with first (take first.count changes) ∷ ts) (times_push moments (drop first.count changes) read it left count)

-- all changes of times
pub changes_of_times : (moments : List Moment) (changes : List Changed) → count_of moments ≡ length changes → all_changes (times_of moments changes) ≡ map change_of changes
changes_of_times [] [] whole = refl
changes_of_times [] (c ∷ changes) whole = absurd (omega arith)
changes_of_times (first ∷ moments) changes whole =
    ap (λ (cs : List Change). map change_of (take first.count changes) ++ cs)
    (changes_of_times moments (drop first.count changes) (rest_whole first.count (count_of moments) changes whole))
    ∙ sym (map-append change_of (take first.count changes) (drop first.count changes)) ∙ ap (map change_of) (take-append-drop first.count changes)
