-- The widths of an instance are those of its module and of the modules that it uses.
use Rattle.std.proofs.Common.{◌≡◌, ◌≢◌, ℕ, zero, suc, ◌+◌, ◌<◌, ◌⊎◌, inl, inr, List, [], ◌∷◌, ◌++◌, length, take, reverse, Some, None, slice_get, refl, sym, ap, subst, ◌∙◌, eqb, arith}
use Rattle.std.specs.Prelude.{flat_map, sum_by, slice_index}
use Rattle.std.specs.List.{AllByRecursion}
use Rattle.std.proofs.lemmas.Bool.{cases_lt, eq-eqb, ne_eqb, cond-true, cond-false}
use Rattle.std.proofs.lemmas.List.{get_or_append_left, get_or_push, length-append, length_push, length-reverse, length-take, reverse-append, reverse-reverse}
use Rattle.std.proofs.lemmas.List.Sums.{sum_by-cons}
use Rattle.std.proofs.lemmas.Option.{slice_get_within}
use Rattle.net_rules.specs.WellFormed.{NamesExist, UseExists, WellFormed}
use Rattle.net_rules.specs.declared.well_formed.NetCode.TheVariants.{Name}
use Rattle.netlist.specs.declared.net.Cell.{Cell}
use Rattle.netlist.specs.declared.net.Cell.TheVariants.{Use}
use Rattle.netlist.specs.declared.net.Module.{Module}
use Rattle.netlist.specs.declared.net.Net.{Net}
use Rattle.net_flat.specs.Flattened.{instance_widths, widths_in, widths_of_use}
use Rattle.net_flat.specs.Sizes.{AreSizes, capped, size_in}
use Rattle.net_flat.proofs.Lists.{all_then, get_either}

-- the cell uses no module but one of so many
abbrev pub UsesBelow : ℕ → Cell → Type 0
UsesBelow n (Use k reads drives) = k.number < n
UsesBelow n _ = Unit {0}

-- the uses of a module of a well formed net are of earlier ones
exists_below : (domains i : ℕ) (modules : List Module) (widths : List ℕ) (cell : Cell)
    → NamesExist domains (take i modules) widths cell → UsesBelow i cell
exists_below domains i modules widths (Use k reads drives) h =
    let part : UseExists (take i modules) k.number reads drives = h.part in
    let w = slice_get_within (take i modules) k.number part.used part.found in
    omega (arith, w, length-take i modules)
exists_below domains i modules widths _ h = tt

pub uses_below : (net : Net) (i : ℕ) (m : Module) → WellFormed net → slice_get net.modules i ≡ Some m → AllByRecursion (UsesBelow i) m.cells
uses_below net i m wf found =
    all_then (NamesExist (length net.ports.domains) (take i net.modules) m.widths) (UsesBelow i) m.cells
    (exists_below (length net.ports.domains) i net.modules m.widths) (wf.rules i m found Name).cells

-- widths that agree on the modules used give the same wires
used_widths : (f g : ℕ → List ℕ) (n : ℕ) (cells : List Cell) → AllByRecursion (UsesBelow n) cells
    → ((k : ℕ) → k < n → f k ≡ g k) → flat_map (widths_of_use f) cells ≡ flat_map (widths_of_use g) cells
used_widths f g n [] h same = refl
used_widths f g n (Use k reads drives ∷ cells) h same =
    let first : f k.number ≡ g k.number = same k.number h.0 in
    let rest = used_widths f g n cells h.1 same in
    cc
used_widths f g n (cell ∷ cells) h same = used_widths f g n cells h.1 same

-- an earlier module among one more
earlier_widths : (m : Module) (earlier : List Module) (k : ℕ) → k < length earlier → instance_widths (m ∷ earlier) k ≡ instance_widths earlier k
unfolding instance_widths
earlier_widths m earlier k l =
    let ne : k ≢ length earlier = omega arith in
    cond-false (eqb k (length earlier)) (m.widths ++ flat_map (widths_of_use (instance_widths earlier)) m.cells) (instance_widths earlier k)
    (ne_eqb k (length earlier) ne)

last_widths : (m : Module) (earlier : List Module) (k : ℕ) → k ≡ length earlier
    → instance_widths (m ∷ earlier) k ≡ m.widths ++ flat_map (widths_of_use (instance_widths earlier)) m.cells
unfolding instance_widths
last_widths m earlier k e =
    cond-true (eqb k (length earlier)) (m.widths ++ flat_map (widths_of_use (instance_widths earlier)) m.cells) (instance_widths earlier k)
    (eq-eqb k (length earlier) e)

step_among : (modules : List Module) (k : ℕ) (m : Module) → slice_get (reverse modules) k ≡ Some m → AllByRecursion (UsesBelow k) m.cells
    → instance_widths modules k ≡ m.widths ++ flat_map (widths_of_use (instance_widths modules)) m.cells
step_among [] k m e below = absurd (let n : None ≡ Some m = e in cc)
step_among (last ∷ earlier) k m e below =
    let turned : reverse (last ∷ earlier) ≡ reverse earlier ++ last ∷ [] = reverse-append (last ∷ []) earlier in
    let there : slice_get (reverse earlier ++ last ∷ []) k ≡ Some m = subst (λ (ms : List Module). slice_get ms k ≡ Some m) turned e in
    by (λ h. step_among earlier k m h below) (get_either (reverse earlier) (last ∷ []) k m there)
  where
    by : (slice_get (reverse earlier) k ≡ Some m → instance_widths earlier k ≡ m.widths ++ flat_map (widths_of_use (instance_widths earlier)) m.cells)
        → (slice_get (reverse earlier) k ≡ Some m) ⊎ ((j : ℕ) × (k ≡ length (reverse earlier) + j) × (slice_get (last ∷ []) j ≡ Some m))
        → instance_widths (last ∷ earlier) k ≡ m.widths ++ flat_map (widths_of_use (instance_widths (last ∷ earlier))) m.cells
    by below_it (inl h) =
        let l : k < length earlier = omega (arith, slice_get_within (reverse earlier) k m h, length-reverse earlier) in
        let first = earlier_widths last earlier k l in
        let ih = below_it h in
        let uses = used_widths (instance_widths earlier) (instance_widths (last ∷ earlier)) k m.cells below
        (λ j lt. sym (earlier_widths last earlier j (omega arith))) in
        first ∙ ih ∙ ap (λ (ws : List ℕ). m.widths ++ ws) uses
    by below_it (inr (zero, at, h)) =
        let same : last ≡ m = cc in
        let l : k ≡ length earlier = omega (arith, at, length-reverse earlier) in
        let first = last_widths last earlier k l in
        let first' : instance_widths (last ∷ earlier) k ≡ m.widths ++ flat_map (widths_of_use (instance_widths earlier)) m.cells =
        subst (λ (x : Module). instance_widths (last ∷ earlier) k ≡ x.widths ++ flat_map (widths_of_use (instance_widths earlier)) x.cells) same first in
        let uses = used_widths (instance_widths earlier) (instance_widths (last ∷ earlier)) k m.cells below
        (λ j lt. sym (earlier_widths last earlier j (omega arith))) in
        first' ∙ ap (λ (ws : List ℕ). m.widths ++ ws) uses
    by below_it (inr (suc j, at, h)) = absurd (let n : None ≡ Some m = h in cc)

-- the widths of an instance: its own, and those of its uses
pub widths_step : (net : Net) (i : ℕ) (m : Module) → WellFormed net → slice_get net.modules i ≡ Some m
    → widths_in net i ≡ m.widths ++ flat_map (widths_of_use (widths_in net)) m.cells
widths_step net i m wf found =
    let there : slice_get (reverse (reverse net.modules)) i ≡ Some m = rw (reverse-reverse net.modules) found in
    step_among (reverse net.modules) i m there (uses_below net i m wf found)

-- sizes count the wires of uses, up to one over the limit
pub capped_uses : (net : Net) (sizes : List ℕ) (n : ℕ) (cells : List Cell) → AreSizes net sizes → AllByRecursion (UsesBelow (length sizes)) cells
    → capped (n + sum_by (size_in sizes) cells) ≡ capped (n + length (flat_map (widths_of_use (widths_in net)) cells))
capped_uses net sizes n [] s h = refl
capped_uses net sizes n (Use k reads drives ∷ cells) s h =
    let size : slice_index sizes k.number ≡ capped (length (widths_in net k.number)) = s k.number h.0 in
    let rest = capped_uses net sizes (n + length (widths_in net k.number)) cells s h.1 in
    let joined = length-append (widths_in net k.number) (flat_map (widths_of_use (widths_in net)) cells) in
    let sum = sum_by-cons (size_in sizes) (Use k reads drives) cells in
    omega arith
capped_uses net sizes n (cell ∷ cells) s h =
    let rest = capped_uses net sizes n cells s h.1 in
    let sum = sum_by-cons (size_in sizes) cell cells in
    omega arith

pub size_step : (net : Net) (sizes : List ℕ) (i : ℕ) (m : Module) → WellFormed net → AreSizes net sizes → i ≡ length sizes
    → slice_get net.modules i ≡ Some m → capped (length m.widths + sum_by (size_in sizes) m.cells) ≡ capped (length (widths_in net i))
size_step net sizes i m wf s at found =
    let below : AllByRecursion (UsesBelow (length sizes)) m.cells = subst (λ (n : ℕ). AllByRecursion (UsesBelow n) m.cells) at (uses_below net i m wf found) in
    let step = widths_step net i m wf found in
    let joined = length-append m.widths (flat_map (widths_of_use (widths_in net)) m.cells) in
    let long : length (widths_in net i) ≡ length m.widths + length (flat_map (widths_of_use (widths_in net)) m.cells) = ap length step ∙ joined in
    capped_uses net sizes (length m.widths) m.cells s below ∙ ap capped (sym long)

-- the sizes of modules, and one more
pub one_more : (net : Net) (sizes more : List ℕ) (i : ℕ) (m : Module) (size : ℕ) → WellFormed net → AreSizes net sizes → i ≡ length sizes
    → slice_get net.modules i ≡ Some m → size ≡ capped (length m.widths + sum_by (size_in sizes) m.cells) → more ≡ sizes ++ size ∷ []
    → AreSizes net more
one_more net sizes more i m size wf s at found is pushed = subst (λ (xs : List ℕ). AreSizes net xs) (sym pushed) each
  where
    each : AreSizes net (sizes ++ size ∷ [])
    each k l = elim (cases_lt k (length sizes)) [
      | inl h ↦ get_or_append_left sizes (size ∷ []) 0 k h ∙ s k h
      | inr h ↦
          let e : k ≡ i = omega (arith, length_push sizes size) in
          let here : length sizes ≡ k = omega arith in
          get_or_push sizes size 0 k here ∙ is ∙ size_step net sizes i m wf s at found ∙ ap (λ (n : ℕ). capped (length (widths_in net n))) (sym e)
    ]
