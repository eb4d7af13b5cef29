-- The places of the registers and RAMs of a domain, listed one after another.
use Rattle.std.proofs.Common.{◌≡◌, ℕ, Bool, zero, suc, ◌+◌, ◌<◌, ◌≤◌, List, [], ◌∷◌, ◌++◌, length, replicate, set, Some, slice_get, ◌⊎◌, inl, inr, refl, sym, ap, subst, ◌∙◌, arith}
use Rattle.std.specs.Prelude.{slice_index, slice_index_or}
use Rattle.std.proofs.lemmas.Bool.{cases_eq, cases_lt}
use Rattle.std.proofs.lemmas.List.{get_or-replicate, get_or-set_other, get_or-set_same, get_or_append_left, get_or_push, length-replicate, length-set, length_push}
use Rattle.chw_base.specs.declared.index.DomId.{DomId}
use Rattle.chw_base.specs.declared.index.WireId.{WireId}
use Rattle.netlist.specs.Sound.{FitsCell}
use Rattle.netlist.specs.declared.net.Cell.{Cell}
use Rattle.netlist.specs.declared.net.Cell.TheVariants.{Reg, Ram}
use Rattle.netlist.specs.declared.net.RamIn.{RamIn}
use Rattle.netlist.specs.declared.net.Flat.{Flat}
use Rattle.net_sim.specs.Ticking.{HaveKeepers, IsKeeperOf, ListsKeepers, behind}
use Rattle.net_sim.proofs.Writing.{behind_within}

-- before the first cell the list is empty
pub keepers_none : (flat : Flat) (number : ℕ) → ListsKeepers flat number [] 0
keepers_none flat number = record {
  rising = λ k lt. absurd (omega (arith, lt));
  within = λ k lt. absurd (omega (arith, lt));
  own = λ k cell lt at. absurd (omega (arith, lt));
  others = λ k place cell le above below lt at is. omega arith;
}

-- a cell that is no register and no RAM of the domain is passed over
pub keeper_passed : (flat : Flat) (number : ℕ) (places : List ℕ) (i : ℕ) (cell : Cell) → ListsKeepers flat number places i
    → slice_get flat.cells i ≡ Some cell → (IsKeeperOf number cell → ⊥) → ListsKeepers flat number places (i + 1)
keeper_passed flat number places i cell lists at keeps_not = record {
  rising = lists.rising;
  own = lists.own;
  within = λ k lt. omega (arith, lists.within k lt);
  others = λ k place other le above below lt at' is. from k place other le above below lt at' is (cases_lt place i);
}
  where
    from : (k place : ℕ) (other : Cell) → k ≤ length places → behind places k ≤ place → (k < length places → place < slice_index places k)
        → place < i + 1 → slice_get flat.cells place ≡ Some other → IsKeeperOf number other → (place < i) ⊎ (i ≤ place) → ⊥
    from k place other le above below lt at' is (inl less) = lists.others k place other le above below less at' is
    from k place other le above below lt at' is (inr more) =
        let same : place ≡ i = omega arith in
        let there = ap (slice_get flat.cells) same in
        let cell_is : other ≡ cell = cc in
        keeps_not (subst (IsKeeperOf number) cell_is is)

-- a register or RAM of the domain is listed
pub keeper_pushed : (flat : Flat) (number : ℕ) (places : List ℕ) (i : ℕ) (cell : Cell) → ListsKeepers flat number places i
    → slice_get flat.cells i ≡ Some cell → IsKeeperOf number cell → ListsKeepers flat number (places ++ i ∷ []) (i + 1)
keeper_pushed flat number places i new lists there keeps = record {
  own = λ k cell lt at. its k cell (omega (arith, length_push places i, lt)) at (cases_lt k (length places));
  rising = λ k lt. rise k (omega (arith, length_push places i, lt)) (cases_lt k (length places));
  within = λ k lt. inside k (omega (arith, length_push places i, lt)) (cases_lt k (length places));
  others = λ k place cell le above below lt at is.
      other k place cell (omega (arith, length_push places i, le)) above below lt at is (cases_lt k (length places + 1));
}
  where
    at_old : (k : ℕ) → k < length places → slice_index (places ++ i ∷ []) k ≡ slice_index places k
    at_old k lt = get_or_append_left places (i ∷ []) 0 k lt

    at_new : slice_index (places ++ i ∷ []) (length places) ≡ i
    at_new = get_or_push places i 0 (length places) refl

    behind_old : (k : ℕ) → k ≤ length places → behind (places ++ i ∷ []) k ≡ behind places k
    behind_old zero le = refl
    behind_old (suc k) le = ap (λ n. n + 1) (at_old k (omega arith))

    its : (k : ℕ) (cell : Cell) → k < length places + 1 → slice_get flat.cells (slice_index (places ++ i ∷ []) k) ≡ Some cell
        → (k < length places) ⊎ (length places ≤ k) → IsKeeperOf number cell
    its k cell lt at (inl less) = lists.own k cell less (ap (slice_get flat.cells) (sym (at_old k less)) ∙ at)
    its k cell lt at (inr more) =
        let same : k ≡ length places = omega arith in
        let here = ap (slice_index (places ++ i ∷ [])) same ∙ at_new in
        let found = ap (slice_get flat.cells) (sym here) ∙ at in
        let cell_is : new ≡ cell = cc in
        subst (IsKeeperOf number) cell_is keeps

    rise : (k : ℕ) → k < length places + 1 → (k < length places) ⊎ (length places ≤ k)
        → behind (places ++ i ∷ []) k ≤ slice_index (places ++ i ∷ []) k
    rise k lt (inl less) = omega (arith, behind_old k (omega arith), at_old k less, lists.rising k less)
    rise k lt (inr more) =
        let same : k ≡ length places = omega arith in
        let here = ap (slice_index (places ++ i ∷ [])) same ∙ at_new in
        let low = behind_within flat number places i k lists (omega arith) in
        omega (arith, behind_old k (omega arith), here, low)

    inside : (k : ℕ) → k < length places + 1 → (k < length places) ⊎ (length places ≤ k) → slice_index (places ++ i ∷ []) k < i + 1
    inside k lt (inl less) = omega (arith, at_old k less, lists.within k less)
    inside k lt (inr more) =
        let same : k ≡ length places = omega arith in
        let here = ap (slice_index (places ++ i ∷ [])) same ∙ at_new in
        omega (arith, here)

    below_i : (k place : ℕ) → k < length places + 1 → place < slice_index (places ++ i ∷ []) k
        → (k < length places) ⊎ (length places ≤ k) → place < i
    below_i k place lt less (inl l) = omega (arith, at_old k l, lists.within k l, less)
    below_i k place lt less (inr m) =
        let same : k ≡ length places = omega arith in
        let here = ap (slice_index (places ++ i ∷ [])) same ∙ at_new in
        omega (arith, here, less)

    other : (k place : ℕ) (cell : Cell) → k ≤ length places + 1 → behind (places ++ i ∷ []) k ≤ place
        → (k < length (places ++ i ∷ []) → place < slice_index (places ++ i ∷ []) k) → place < i + 1
        → slice_get flat.cells place ≡ Some cell → IsKeeperOf number cell → (k < length places + 1) ⊎ (length places + 1 ≤ k) → ⊥
    other k place cell le above below lt at is (inl less) =
        let low : place < slice_index (places ++ i ∷ []) k = below (omega (arith, length_push places i)) in
        lists.others k place cell (omega arith) (omega (arith, behind_old k (omega arith), above))
        (λ l. omega (arith, at_old k l, low)) (below_i k place less low (cases_lt k (length places))) at is
    other k place cell le above below lt at is (inr more) =
        let last : k ≡ suc (length places) = omega arith in
        let end : behind (places ++ i ∷ []) k ≡ i + 1 = ap (behind (places ++ i ∷ [])) last ∙ ap (λ n. n + 1) at_new in
        omega (arith, end, above)

-- no lists hold the cells before the first
pub have_none : (flat : Flat) (keepers : List (List ℕ)) → keepers ≡ replicate (length flat.ports.domains) [] → HaveKeepers flat keepers 0
have_none flat keepers is = record { count = count; lists = lists }
  where
    no_places : List ℕ
    no_places = []

    count : length keepers ≡ length flat.ports.domains
    count = ap length is ∙ length-replicate (length flat.ports.domains) no_places

    lists : (number : ℕ) → number < length keepers → ListsKeepers flat number (slice_index_or keepers number []) 0
    lists number lt =
        let there = get_or-replicate (length flat.ports.domains) number no_places no_places (omega (arith, count, lt)) in
        subst (λ places. ListsKeepers flat number places 0) (sym (ap (λ ks. slice_index_or ks number []) is ∙ there)) (keepers_none flat number)

-- a cell that is no register and no RAM is passed over by all lists
pub have_passed : (flat : Flat) (keepers : List (List ℕ)) (i : ℕ) (cell : Cell) → HaveKeepers flat keepers i → slice_get flat.cells i ≡ Some cell
    → ((number : ℕ) → IsKeeperOf number cell → ⊥) → HaveKeepers flat keepers (i + 1)
have_passed flat keepers i cell have at keeps_not = record {
  count = have.count;
  lists = λ number lt. keeper_passed flat number (slice_index_or keepers number []) i cell (have.lists number lt) at (keeps_not number);
}

-- a register or RAM is listed for its domain, and passed over by the other lists
pub have_pushed : (flat : Flat) (keepers new : List (List ℕ)) (number i : ℕ) (cell : Cell) → HaveKeepers flat keepers i
    → slice_get flat.cells i ≡ Some cell → ((other : ℕ) → IsKeeperOf other cell → number ≡ other) → IsKeeperOf number cell → number < length keepers
    → new ≡ set keepers number (slice_index_or keepers number [] ++ i ∷ []) → HaveKeepers flat new (i + 1)
have_pushed flat keepers new number i cell have at once keeps within is = record {
  count = ap length is ∙ length-set keepers number _ ∙ have.count;
  lists = λ other lt. list other (omega (arith, ap length is, length-set keepers number (slice_index_or keepers number [] ++ i ∷ []), lt)) (cases_eq number other);
}
  where
    list : (other : ℕ) → other < length keepers → (number ≡ other) ⊎ (number ≡ other → ⊥) → ListsKeepers flat other (slice_index_or new other []) (i + 1)
    list other lt (inl same) =
        let its = ap (λ ks. slice_index_or ks other []) is ∙ ap (λ n. slice_index_or (set keepers number (slice_index_or keepers number [] ++ i ∷ [])) n []) (sym same)
        ∙ get_or-set_same keepers number (slice_index_or keepers number [] ++ i ∷ []) [] within in
        subst (λ n. ListsKeepers flat n (slice_index_or new other []) (i + 1)) same
        (subst (λ places. ListsKeepers flat number places (i + 1)) (sym its)
        (keeper_pushed flat number (slice_index_or keepers number []) i cell (have.lists number within) at keeps))
    list other lt (inr apart) =
        let its = ap (λ ks. slice_index_or ks other []) is ∙ get_or-set_other keepers number other (slice_index_or keepers number [] ++ i ∷ []) [] (λ e. apart (sym e)) in
        subst (λ places. ListsKeepers flat other places (i + 1)) (sym its)
        (keeper_passed flat other (slice_index_or keepers other []) i cell (have.lists other lt) at (λ keeps'. apart (once other keeps')))

-- a register or RAM is of its domain alone, which is one of the net's
pub its_domain : (domains : ℕ) (widths : List ℕ) (cell : Cell) (domain : DomId) → FitsCell domains widths cell
    → ((w : WireId) × (initial : List Bool) × (a : WireId) × (cell ≡ Reg w domain initial a))
    ⊎ ((w : WireId) × (words : List (List Bool)) × (inputs : RamIn) × (cell ≡ Ram w domain words inputs))
    → IsKeeperOf domain.number cell × ((other : ℕ) → IsKeeperOf other cell → domain.number ≡ other) × (domain.number < domains)
its_domain domains widths cell domain fits (inl (w, initial, a, is)) =
    subst (λ c. IsKeeperOf domain.number c × ((other : ℕ) → IsKeeperOf other c → domain.number ≡ other) × (domain.number < domains)) (sym is)
    (refl, λ other keeps. keeps, (subst (FitsCell domains widths) is fits).0)
its_domain domains widths cell domain fits (inr (w, words, inputs, is)) =
    subst (λ c. IsKeeperOf domain.number c × ((other : ℕ) → IsKeeperOf other c → domain.number ≡ other) × (domain.number < domains)) (sym is)
    (refl, λ other keeps. keeps, (subst (FitsCell domains widths) is fits).0)
