-- Environments that act so stay so under binders, and with fewer turns.
use Rattle.std.specs.Prelude.{slice_get}
use Rattle.std.proofs.Common.{◌≡◌, ℕ, suc, zero, List, [], ◌∷◌, length, Some, refl, sym, ap, subst}
use Rattle.chw_types.specs.TypeTree.{TypeTree, TypeTrees}
use Rattle.chw_types.specs.TypeMoves.{Renaming}
use Rattle.chw_terms.specs.declared.program.Program.{Program}
use Rattle.chw_meaning.specs.Values.{Thunk, field, Thunks, none, thunk_and, thunk_at, closed_type, joined, fields_from}
use Rattle.chw_meaning.specs.Eval.{plus}
use Rattle.acts.specs.Levels.{Levels, later, thunk_runs, thunk_has, ThunksAct}
use Rattle.acts.specs.Acts.{AllAct}
use Rattle.acts.specs.Terms.{TiedBy}
use Rattle.acts.proofs.Levels.{IsLevels, runs_later}

pub tied_later : {p : Program} {r : Levels} → IsLevels p r → (i : ℕ) (vars : List TypeTree) (ρ' ρ : Renaming) (δ : TypeTrees) (γ' γ : Thunks) → TiedBy p r vars ρ' ρ δ γ' γ → TiedBy p (later i r) vars ρ' ρ δ γ' γ
tied_later {p} l i vars ρ' ρ δ γ' γ h x t e =
    let k = h x t e in
    record { first = k.first; second = k.second; has_first = k.has_first; has_second = k.has_second; acts = runs_later l i (closed_type t δ) (thunk_runs p k.first) (thunk_has p k.second) k.acts }

pub plus_suc : (i k : ℕ) → plus i (suc k) ≡ suc (plus i k)
plus_suc zero k = refl
plus_suc (suc i) k = ap suc (plus_suc i k)

pub plus_zero : (i : ℕ) → plus i zero ≡ i
plus_zero zero = refl
plus_zero (suc i) = ap suc (plus_zero i)

-- the fields of two thunks, from this number on
pub fields_act : {p : Program} {r : Levels} (ts : List TypeTree) (i : ℕ) (x' x : Thunk) → ((k : ℕ) (t : TypeTree) → slice_get ts k ≡ Some t → ThunksAct p r t (field (plus k i) x') (field (plus k i) x)) → AllAct p r ts (fields_from i (length ts) x' none) (fields_from i (length ts) x none)
fields_act [] i x' x acts = tt
fields_act {p} {r} (t ∷ ts) i x' x acts =
    (acts zero t refl, fields_act ts (suc i) x' x (λ k u q. subst (λ j. ThunksAct p r u (field j x') (field j x)) (sym (plus_suc k i)) (acts (suc k) u q)))

pub fields_joined : (i k : ℕ) (x : Thunk) (γ : Thunks) → fields_from i k x γ ≡ joined (fields_from i k x none) γ
fields_joined i zero x γ = refl
fields_joined i (suc k) x γ = ap (thunk_and (field i x)) (fields_joined (suc i) k x γ)

-- the thunk of a place among some that act so
pub part_acts : {p : Program} {r : Levels} (ts : List TypeTree) (xs' xs : Thunks) (i : ℕ) (t : TypeTree) (x' : Thunk) → AllAct p r ts xs' xs → slice_get ts i ≡ Some t → thunk_at xs' i ≡ Some x' → (x : Thunk) × (thunk_at xs i ≡ Some x) × ThunksAct p r t x' x
part_acts {p} {r} (u ∷ us) (thunk_and y' ys') (thunk_and y ys) zero t x' h a b =
    let is : u ≡ t = cc in
    let found : y' ≡ x' = cc in
    (y, refl, subst (λ z. ThunksAct p r t z y) found (subst (λ t. ThunksAct p r t y' y) is h.0))
part_acts (u ∷ us) (thunk_and y' ys') (thunk_and y ys) (suc i) t x' h a b = part_acts us ys' ys i t x' h.1 a b
part_acts [] none none i t x' h a b = cc
part_acts [] none (thunk_and x xs) i t x' h a b = absurd h
part_acts [] (thunk_and x xs) ys i t x' h a b = absurd h
part_acts (u ∷ us) none ys i t x' h a b = absurd h
part_acts (u ∷ us) (thunk_and x xs) none i t x' h a b = absurd h
