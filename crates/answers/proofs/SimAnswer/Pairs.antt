-- Types and the bits at their places.
use Rattle.std.proofs.Common.{◌≡◌, ℕ, suc, zero, ◌+◌, ◌<◌, ◌≤◌, Bool, List, [], ◌∷◌, ◌++◌, length, take, get_or, Some, refl, sym, ap, subst, arith}
use Rattle.std.specs.List.{AllByRecursion}
use Rattle.std.specs.Prelude.{slice_get}
use Rattle.std.proofs.lemmas.List.{take_all}
use Rattle.chw_clock.specs.Histories.{FitsEvent, HaveWidths}
use Rattle.chw_clock.specs.declared.event.Event.{Event}
use Rattle.chw_clock.specs.declared.event.Port.{Port}
use Rattle.chw_clock.specs.declared.event.Ports.{Ports}
use Rattle.chw_types.specs.TypeTree.{TypeTree}
use Rattle.chw_types.specs.declared.declarations.Data.{Data}
use Rattle.type_ports.specs.declared.ports.Leaf.{Leaf}
use Rattle.chw_terms.specs.declared.program.Program.{Program}
use Rattle.chw_layout.specs.Measured.{HasWidth}
use Rattle.chw_meaning.specs.Means.{PortsOf, no_ports, port_and, no_port_and}
use Rattle.chw_meaning.proofs.GivenOnce.{wide_and_empty}
use Rattle.answers.specs.SimAnswer.Simulation.{AllPairs, HasInputs, TypesOf, no_type, type_of, no_type_of}
use Rattle.answers.specs.SimAnswer.Types.{AllAreSized, IsMeasured, IsSized}

-- ---- of lists with a test on each pair

pub same_length : (P : TypeTree → List Bool → Type 0) (types : List TypeTree) (inputs : List (List Bool)) → AllPairs P types inputs → length types ≡ length inputs
same_length P [] [] all = refl
same_length P [] (b ∷ inputs) all = absurd all
same_length P (t ∷ types) [] all = absurd all
same_length P (t ∷ types) (b ∷ inputs) all = let q = same_length P types inputs all.1 in omega (arith, q)

-- the pair at a place
pub pair_at : (P : TypeTree → List Bool → Type 0) (types : List TypeTree) (inputs : List (List Bool)) (i : ℕ) (t : TypeTree) (b : List Bool) → AllPairs P types inputs → i < length inputs
    → t ≡ get_or types i t → b ≡ get_or inputs i b → P t b
pair_at P [] [] i t b all below at has = absurd (omega (arith, below))
pair_at P [] (c ∷ inputs) i t b all below at has = absurd all
pair_at P (s ∷ types) [] i t b all below at has = absurd all
pair_at P (s ∷ types) (c ∷ inputs) zero t b all below at has = subst (λ c. P t c) (sym has) (subst (λ s. P s c) (sym at) all.0)
pair_at P (s ∷ types) (c ∷ inputs) (suc i) t b all below at has = pair_at P types inputs i t b all.1 (omega (arith, below)) at has

pairs_push : (P : TypeTree → List Bool → Type 0) (types : List TypeTree) (inputs : List (List Bool)) (t : TypeTree) (b : List Bool) → AllPairs P types inputs → P t b → AllPairs P (types ++ t ∷ []) (inputs ++ b ∷ [])
pairs_push P [] [] t b all here = (here, tt)
pairs_push P [] (c ∷ inputs) t b all here = absurd all
pairs_push P (s ∷ types) [] t b all here = absurd all
pairs_push P (s ∷ types) (c ∷ inputs) t b all here = (all.0, pairs_push P types inputs t b all.1 here)

-- one pair more
pub pairs_more : (P : TypeTree → List Bool → Type 0) (types : List TypeTree) (inputs : List (List Bool)) (i : ℕ) (t : TypeTree) (b : List Bool) → take (i + 1) types ≡ take i types ++ t ∷ []
    → take (i + 1) inputs ≡ take i inputs ++ b ∷ [] → AllPairs P (take i types) (take i inputs) → P t b → AllPairs P (take (i + 1) types) (take (i + 1) inputs)
pairs_more P types inputs i t b one two all here =
    subst (AllPairs P (take (i + 1) types)) (sym two) (subst (λ ts. AllPairs P ts (take i inputs ++ b ∷ [])) (sym one) (pairs_push P (take i types) (take i inputs) t b all here))

-- all pairs, when all of them are taken
pub all_taken : (P : TypeTree → List Bool → Type 0) (types : List TypeTree) (inputs : List (List Bool)) (i : ℕ) → length types ≡ length inputs → length inputs ≤ i → AllPairs P (take i types) (take i inputs) → AllPairs P types inputs
all_taken P types inputs i many le all =
    subst (λ ts. AllPairs P ts inputs) (take_all i types (omega (arith, many, le))) (subst (AllPairs P (take i types)) (take_all i inputs le) all)

-- ---- of lists of events

pub slice_at : {A : Type 0} (xs : List A) (i : ℕ) (x : A) → i < length xs → x ≡ get_or xs i x → slice_get xs i ≡ Some x
slice_at [] i x below e = absurd (omega (arith, below))
slice_at (y ∷ xs) zero x below e = ap Some (sym e)
slice_at (y ∷ xs) (suc i) x below e = slice_at xs i x (omega (arith, below)) e

pub got_within : {A : Type 0} (xs : List A) (i : ℕ) (x : A) → slice_get xs i ≡ Some x → i < length xs
got_within [] i x e = absurd (cc)
got_within (y ∷ xs) zero x e = omega arith
got_within (y ∷ xs) (suc i) x e = let h = got_within xs i x e in omega (arith, h)

pub all_at : {A : Type 0} (P : A → Type 0) (xs : List A) (i : ℕ) (x : A) → AllByRecursion P xs → i < length xs → x ≡ get_or xs i x → P x
all_at P [] i x all below e = absurd (omega (arith, below))
all_at P (y ∷ xs) zero x all below e = subst P (sym e) all.0
all_at P (y ∷ xs) (suc i) x all below e = all_at P xs i x all.1 (omega (arith, below)) e

-- what holds of all holds of the first ones, and of one more
pub all_before : {A : Type 0} (P : A → Type 0) (xs ys : List A) → AllByRecursion P (xs ++ ys) → AllByRecursion P xs
all_before P [] ys all = tt
all_before P (x ∷ xs) ys all = (all.0, all_before P xs ys all.1)

pub all_push : {A : Type 0} (P : A → Type 0) (xs : List A) (x : A) → AllByRecursion P xs → P x → AllByRecursion P (xs ++ x ∷ [])
all_push P [] x all here = (here, tt)
all_push P (y ∷ xs) x all here = (all.0, all_push P xs x all.1 here)

pub all_more : {A : Type 0} (P : A → Type 0) (xs : List A) (i : ℕ) (x : A) → take (i + 1) xs ≡ take i xs ++ x ∷ [] → AllByRecursion P (take i xs) → P x → AllByRecursion P (take (i + 1) xs)
all_more P xs i x one all here = subst (AllByRecursion P) (sym one) (all_push P (take i xs) x all here)

-- ---- the widths of a program's inputs

sized : {datas : List Data} {leaves : List Leaf} {names : List (List ℕ)} {ports : List Port} {types : List TypeTree} → PortsOf datas leaves names ports → TypesOf datas leaves types
    → (inputs : List (List Bool)) → HaveWidths ports inputs → AllPairs (IsSized datas) types inputs
sized no_ports no_type [] fit = tt
sized no_ports no_type (b ∷ inputs) fit = absurd fit
sized (port_and w more) (type_of v types) [] fit = absurd fit
sized {datas} (port_and {leaf = leaf} w more) (type_of v types) (b ∷ inputs) fit = (subst (HasWidth datas leaf.payload) (sym fit.0) w, sized more types inputs fit.1)
sized (port_and w more) (no_type_of v types) inputs fit = wide_and_empty v (_, w)
sized (no_port_and w more) (type_of v types) inputs fit = wide_and_empty w (_, v)
sized (no_port_and w more) (no_type_of v types) inputs fit = sized more types inputs fit

-- the types have widths
pub types_measured : {datas : List Data} {leaves : List Leaf} {types : List TypeTree} → TypesOf datas leaves types → AllByRecursion (IsMeasured datas) types
types_measured no_type = tt
types_measured (type_of w more) = ((_, w), types_measured more)
types_measured (no_type_of w more) = types_measured more

-- events that fit the ports have inputs of the types' widths
pub events_sized : (p : Program) (ports : Ports) (types : List TypeTree) (events : List Event) → HasInputs p ports types → AllByRecursion (FitsEvent ports) events → AllAreSized p.datas types events
events_sized p ports types [] has fit = tt
events_sized p ports types (e ∷ events) has fit = (sized has.are_ports.inputs has.are_types e.inputs fit.0.inputs, events_sized p ports types events has fit.1)
