-- The instances that an instance uses, and the copies of its inputs.
use Rattle.std.proofs.Common.{◌≡◌, ℕ, suc, ◌+◌, List, [], ◌∷◌, ◌++◌, length, take, map, Some, slice_get, refl, sym, ap, subst, arith, length-take}
use Rattle.std.specs.Prelude.{slice_index, sum_by}
use Rattle.std.proofs.lemmas.List.{append-nil, append_assoc}
use Rattle.std.proofs.lemmas.List.Sums.{sum_by-cons, sum_by_push}
use Rattle.std.proofs.lemmas.Option.{slice_get_within}
use Rattle.chw_base.specs.declared.index.ModId.{ModId}
use Rattle.chw_base.specs.declared.index.WireId.{WireId}
use Rattle.netlist.specs.declared.net.Cell.{Cell}
use Rattle.netlist.specs.declared.net.Cell.TheVariants.{Copy, Use}
use Rattle.net_flat.specs.Flattened.{wire_from}
use Rattle.net_flat.specs.Instances.{input_copies, uses_along}
use Rattle.net_flat.specs.Sizes.{size_in}
use Rattle.net_flat.specs.declared.instances.Instance.{Instance}
use Rattle.net_flat.proofs.Lists.{take_next}

pub uses_append : (sizes : List ℕ) (base next : ℕ) (xs ys : List Cell)
    → uses_along sizes base next (xs ++ ys) ≡ uses_along sizes base next xs ++ uses_along sizes base (next + sum_by (size_in sizes) xs) ys
uses_append sizes base next [] ys = let n : next + 0 ≡ next = omega arith in rw n
uses_append sizes base next (Use k reads drives ∷ xs) ys =
    let rest = uses_append sizes base (next + slice_index sizes k.number) xs ys in
    let sum = sum_by-cons (size_in sizes) (Use k reads drives) xs in
    let n : next + slice_index sizes k.number + sum_by (size_in sizes) xs ≡ next + sum_by (size_in sizes) (Use k reads drives ∷ xs) = omega arith in
    cc
uses_append sizes base next (cell ∷ xs) ys =
    let rest = uses_append sizes base next xs ys in
    let sum = sum_by-cons (size_in sizes) cell xs in
    let n : next + sum_by (size_in sizes) xs ≡ next + sum_by (size_in sizes) (cell ∷ xs) = omega arith in
    cc

-- one more cell of an instance was looked at
pub uses_next : (sizes : List ℕ) (base start next : ℕ) (cells : List Cell) (i : ℕ) (cell : Cell) (uses more : List Instance)
    → slice_get cells i ≡ Some cell → uses ≡ uses_along sizes base start (take i cells) → next ≡ start + sum_by (size_in sizes) (take i cells)
    → more ≡ uses ++ uses_along sizes base next (cell ∷ []) → more ≡ uses_along sizes base start (take (i + 1) cells)
uses_next sizes base start next cells i cell uses more here so_far at pushed =
    let taken = take_next cells i cell here in
    let joined = uses_append sizes base start (take i cells) (cell ∷ []) in
    cc

pub sum_next : (sizes : List ℕ) (start next : ℕ) (cells : List Cell) (i : ℕ) (cell : Cell)
    → slice_get cells i ≡ Some cell → next ≡ start + sum_by (size_in sizes) (take i cells)
    → next + size_in sizes cell ≡ start + sum_by (size_in sizes) (take (i + 1) cells)
sum_next sizes start next cells i cell here at =
    let taken = ap (λ cs. sum_by (size_in sizes) cs) (take_next cells i cell here) in
    let more = sum_by_push (size_in sizes) (take i cells) cell in
    omega arith

copies_append : (w : ℕ) (xs ys : List WireId) → input_copies w (xs ++ ys) ≡ input_copies w xs ++ input_copies (w + length xs) ys
copies_append w [] ys = let n : w + 0 ≡ w = omega arith in rw n
copies_append w (x ∷ xs) ys =
    let rest = copies_append (w + 1) xs ys in
    let n : w + 1 + length xs ≡ w + suc (length xs) = omega arith in
    cc

-- one more input was copied
pub copies_next : (base : ℕ) (reads : List WireId) (j : ℕ) (r : WireId) (before cells more : List Cell)
    → slice_get reads j ≡ Some r → cells ≡ before ++ input_copies base (take j reads)
    → more ≡ cells ++ Copy (record { number = base + j }) r ∷ [] → more ≡ before ++ input_copies base (take (j + 1) reads)
copies_next base reads j r before cells more here so_far pushed =
    let taken = take_next reads j r here in
    let joined = copies_append base (take j reads) (r ∷ []) in
    let lt = slice_get_within reads j r here in
    let long : base + length (take j reads) ≡ base + j = omega (arith, length-take j reads) in
    let flat = append_assoc before (input_copies base (take j reads)) (Copy (record { number = base + j }) r ∷ []) in
    cc

-- a use gives one instance, and another cell none
pub use_given : (sizes : List ℕ) (base next : ℕ) (cell : Cell) (k : ModId) (reads drives moved : List WireId) (uses : List Instance)
    → cell ≡ Use k reads drives → moved ≡ map (wire_from base) reads
    → uses ++ record { «module» = k; base = next; reads = moved } ∷ [] ≡ uses ++ uses_along sizes base next (cell ∷ [])
use_given sizes base next cell k reads drives moved uses e m =
    subst (λ (x : Cell). uses ++ record { «module» = k; base = next; reads = moved } ∷ [] ≡ uses ++ uses_along sizes base next (x ∷ [])) (sym e)
    (ap (λ (rs : List WireId). uses ++ record { «module» = k; base = next; reads = rs } ∷ []) m)

pub none_given : (sizes : List ℕ) (base next : ℕ) (cell : Cell) (uses : List Instance)
    → ((k : ModId) (reads drives : List WireId) → cell ≡ Use k reads drives → ⊥)
    → uses ≡ uses ++ uses_along sizes base next (cell ∷ [])
none_given sizes base next (Use k reads drives) uses never = absurd (never k reads drives refl)
none_given sizes base next _ uses never = sym (append-nil uses)
