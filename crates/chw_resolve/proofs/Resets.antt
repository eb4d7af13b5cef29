-- The domains that have a reset.
use Rattle.std.proofs.Common.{◌≡◌, ℕ, suc, ◌+◌, ◌<◌, ◌≤◌, true, false, List, [], ◌∷◌, ◌++◌, length, get_or, drop, sym, ap, ◌∙◌, arith}
use Rattle.std.proofs.lemmas.List.{append-nil, drop_all}
use Rattle.std.specs.List.{flat_map}
use Rattle.chw_base.specs.declared.index.DomId.{DomId}
use Rattle.chw_base.specs.Ordered.{AreOrdered, AreOrderedFrom}
use Rattle.chw_grammar.specs.declared.program.Declaration.{Declaration}
use Rattle.chw_grammar.specs.declared.program.Declaration.TheVariants as declaration
use Rattle.chw_terms.proofs.Spines.{left_with_next}
use Rattle.chw_resolve.specs.Programs.{domains_in, resets_from}
use Rattle.chw_resolve.specs.Walks.{ListsReset}

-- domains that are listed from a number on are listed from a lower one on
from_lower : (low high count : ℕ) (rs : List DomId) → low ≤ high → AreOrderedFrom high count rs → AreOrderedFrom low count rs
from_lower low high count [] le ordered = tt
from_lower low high count (r ∷ rs) le ordered = (omega (arith, ordered.0), ordered.1, ordered.2)

ordered_from : (d count : ℕ) (ds : List Declaration) → count ≡ d + length (flat_map domains_in ds) → AreOrderedFrom d count (resets_from d ds)
ordered_from d count [] is = tt
ordered_from d count (declaration.Domain w true ∷ ds) is = (omega arith, omega arith, ordered_from (suc d) count ds (omega arith))
ordered_from d count (declaration.Domain w false ∷ ds) is = from_lower d (suc d) count (resets_from (suc d) ds) (omega arith) (ordered_from (suc d) count ds (omega arith))
ordered_from d count (declaration.Data w ps cs ∷ ds) is = ordered_from d count ds is
ordered_from d count (declaration.Def w t e ∷ ds) is = ordered_from d count ds is

-- they are domains of the program, in order, each once
pub resets_ordered : (ds : List Declaration) → AreOrdered (length (flat_map domains_in ds)) (resets_from 0 ds)
resets_ordered ds = ordered_from 0 (length (flat_map domains_in ds)) ds (omega arith)

-- a loop over declarations that lists them: one more declaration, and all
pub next_left : (ds : List Declaration) (i : ℕ) (d : Declaration) (before after : List DomId) (number next : ℕ) → i < length ds → d ≡ get_or ds i d → ListsReset d number before after next
    → before ++ resets_from number (drop i ds) ≡ resets_from 0 ds → after ++ resets_from next (drop (i + 1) ds) ≡ resets_from 0 ds
next_left ds i d before after number next lt is lists so_far =
    lists (drop (i + 1) ds) ∙ ap (λ xs. before ++ resets_from number xs) (sym (left_with_next ds i d lt is)) ∙ so_far

pub all_listed : (ds : List Declaration) (i : ℕ) (listed : List DomId) (number : ℕ) → length ds ≤ i → listed ++ resets_from number (drop i ds) ≡ resets_from 0 ds → listed ≡ resets_from 0 ds
all_listed ds i listed number le so_far =
    sym (append-nil listed) ∙ ap (λ xs. listed ++ resets_from number xs) (sym (drop_all i ds le)) ∙ so_far
