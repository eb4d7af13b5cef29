-- A net has at most one fault, and none where it is well formed.
use Rattle.std.proofs.Common.{◌≡◌, ℕ, ◌<◌, ◌≤◌, ◌⊎◌, inl, inr, List, [], length, Some, refl, sym, ap, ◌∙◌, subst, arith}
use Rattle.std.specs.Prelude.{slice_get}
use Rattle.std.proofs.lemmas.Bool.{cases_lt}
use Rattle.net_rules.specs.WellFormed.{Holds, IsFirstBroken, IsNetFault, WellFormed, no_module, broken, place_of}
use Rattle.netlist.specs.declared.net.Module.{Module}
use Rattle.netlist.specs.declared.net.Net.{Net}
use Rattle.net_rules.specs.declared.well_formed.NetCode.{NetCode}
use Rattle.net_rules.specs.declared.well_formed.NetCode.TheVariants.{Name, Width, Driver, Limit}
use Rattle.net_rules.specs.declared.well_formed.NetFault.{NetFault}

-- a well formed net has no fault
pub not_both : (net : Net) (fault : NetFault) → WellFormed net → IsNetFault net fault → ⊥
not_both net fault formed (no_module f none i e) = let l : 1 ≤ length net.modules = formed.some in absurd (empty net.modules none l)
  where
    empty : (ms : List Module) → ms ≡ [] → 1 ≤ length ms → ⊥
    empty ms same l = let k : 1 ≤ length {A = Module} [] = subst (λ (xs : List Module). 1 ≤ length xs) same l in omega (arith, k)
not_both net fault formed (broken f first) = first.breaks.broken (formed.rules f.module.number first.broken_in first.found f.code)

-- the place of a code tells it
one_place : (a b : NetCode) → place_of a ≡ place_of b → a ≡ b
one_place Name Name e = refl
one_place Name Width e = absurd (omega (arith, e))
one_place Name Driver e = absurd (omega (arith, e))
one_place Name Limit e = absurd (omega (arith, e))
one_place Width Name e = absurd (omega (arith, e))
one_place Width Width e = refl
one_place Width Driver e = absurd (omega (arith, e))
one_place Width Limit e = absurd (omega (arith, e))
one_place Driver Name e = absurd (omega (arith, e))
one_place Driver Width e = absurd (omega (arith, e))
one_place Driver Driver e = refl
one_place Driver Limit e = absurd (omega (arith, e))
one_place Limit Name e = absurd (omega (arith, e))
one_place Limit Width e = absurd (omega (arith, e))
one_place Limit Driver e = absurd (omega (arith, e))
one_place Limit Limit e = refl

-- no first broken rule is in an earlier module than another
not_earlier : (net : Net) (i j : ℕ) (a b : NetCode) → IsFirstBroken net i a → IsFirstBroken net j b → i < j → ⊥
not_earlier net i j a b x y l = x.breaks.broken (y.earlier i x.broken_in l x.found a)

-- nor is it an earlier rule of the module
not_before : (net : Net) (i j : ℕ) (a b : NetCode) → i ≡ j → IsFirstBroken net i a → IsFirstBroken net j b → place_of a < place_of b → ⊥
not_before net i j a b same x y l =
    let there : slice_get net.modules j ≡ Some x.broken_in = subst (λ n. slice_get net.modules n ≡ Some x.broken_in) same x.found in
    let found = y.found in
    let one : y.broken_in ≡ x.broken_in = cc in
    let held : Holds net j x.broken_in a = subst (λ m. Holds net j m a) one (y.breaks.before a l) in
    x.breaks.broken (subst (λ n. Holds net n x.broken_in a) (sym same) held)

-- two first broken rules are one
pub one_module : (net : Net) (i j : ℕ) (a b : NetCode) → IsFirstBroken net i a → IsFirstBroken net j b → i ≡ j
one_module net i j a b x y = by (cases_lt i j) (cases_lt j i)
  where
    by : (i < j) ⊎ (j ≤ i) → (j < i) ⊎ (i ≤ j) → i ≡ j
    by (inl h) k = absurd (not_earlier net i j a b x y h)
    by (inr h) (inl k) = absurd (not_earlier net j i b a y x k)
    by (inr h) (inr k) = omega (arith, h, k)

pub one_code : (net : Net) (i j : ℕ) (a b : NetCode) → IsFirstBroken net i a → IsFirstBroken net j b → a ≡ b
one_code net i j a b x y = by (cases_lt (place_of a) (place_of b)) (cases_lt (place_of b) (place_of a))
  where
    same : i ≡ j
    same = one_module net i j a b x y

    by : (place_of a < place_of b) ⊎ (place_of b ≤ place_of a) → (place_of b < place_of a) ⊎ (place_of a ≤ place_of b) → a ≡ b
    by (inl h) k = absurd (not_before net i j a b same x y h)
    by (inr h) (inl k) = absurd (not_before net j i b a (sym same) y x k)
    by (inr h) (inr k) = one_place a b (omega (arith, h, k))

-- a net without a module breaks no rule of one
no_first : (net : Net) (i : ℕ) (a : NetCode) → net.modules ≡ [] → IsFirstBroken net i a → ⊥
no_first net i a none x =
    let there : slice_get {X = Module} [] i ≡ Some x.broken_in = subst (λ (ms : List Module). slice_get ms i ≡ Some x.broken_in) none x.found in
    absurd (cc)

-- two faults of a net are one
pub one_fault : (net : Net) (a b : NetFault) → IsNetFault net a → IsNetFault net b → (a.module.number ≡ b.module.number) × (a.code ≡ b.code)
one_fault net a b (no_module f none i e) (no_module g nil j k) = (i ∙ sym j, e ∙ sym k)
one_fault net a b (no_module f none i e) (broken g y) = absurd (no_first net g.module.number g.code none y)
one_fault net a b (broken f x) (no_module g none j k) = absurd (no_first net f.module.number f.code none x)
one_fault net a b (broken f x) (broken g y) =
    (one_module net f.module.number g.module.number f.code g.code x y, one_code net f.module.number g.module.number f.code g.code x y)
