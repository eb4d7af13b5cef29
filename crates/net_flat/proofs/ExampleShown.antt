-- The flat net of the net of two modules.
use Rattle.std.proofs.Common.{◌≡◌, ℕ, zero, suc, ◌+◌, ◌⊎◌, inl, inr, List, [], ◌∷◌, ◌++◌, length, Some, None, slice_get, refl, sym, ap, subst, ◌∙◌, arith, length-append}
use Rattle.chw_base.specs.declared.index.ModId.{ModId}
use Rattle.chw_base.specs.declared.index.WireId.{WireId}
use Rattle.chw_bits.specs.Bits.{bits_of}
use Rattle.chw_clock.specs.declared.event.Ports.{Ports}
use Rattle.netlist.specs.declared.net.Cell.{Cell}
use Rattle.netlist.specs.declared.net.Cell.TheVariants.{Copy, Reg, Use}
use Rattle.netlist.specs.declared.net.Module.{Module}
use Rattle.net_flat.specs.Examples.{keeper, two_flattened, two_modules, user, wire}
use Rattle.net_flat.specs.Flattened.{IsFlatCell, IsFlatOf, IsInstance, IsUse, NoUse, instance_widths, moved, wires_before}
use Rattle.net_flat.specs.Flattened as flat
use Rattle.net_flat.proofs.OneFlat.{IsIn}

-- a use that is the only cell
only_use : (c : Cell) (before : List Cell) (k : ModId) (reads drives : List WireId) → IsUse (c ∷ []) before k reads drives
    → (before ≡ []) × (c ≡ Use k reads drives)
only_use c [] k reads drives u = (refl, let e : c ∷ [] ≡ Use k reads drives ∷ u.after = u.stands in cc)
only_use c (b ∷ before) k reads drives u =
    let n : suc zero ≡ suc (length (before ++ Use k reads drives ∷ u.after)) = ap length u.stands in
    let m = length-append before (Use k reads drives ∷ u.after) in
    absurd (omega arith)

the_use : (ports : Ports) → IsUse user.cells [] (record { number = 0 }) (wire 0 ∷ []) (wire 1 ∷ [])
the_use ports = record { after = []; stands = refl }

the_top : (ports : Ports) → IsInstance (two_modules ports) 0 1
the_top ports = flat.top 1 refl

the_used : (ports : Ports) → IsInstance (two_modules ports) 2 0
the_used ports = flat.used 0 1 user [] (record { number = 0 }) (wire 0 ∷ []) (wire 1 ∷ []) (the_top ports) refl (the_use ports)

-- what the only use is
record OnlyUse (ports : Ports) (base : ℕ) (m : Module) (before : List Cell) (k : ModId) (reads drives : List WireId) : Type 0 where
  first : base ≡ 0
  wires : wires_before (two_modules ports) m before ≡ 2
  inner : k.number ≡ 0
  reads_are : reads ≡ wire 0 ∷ []
  drives_are : drives ≡ wire 1 ∷ []

use_is : (ports : Ports) (base i : ℕ) (m : Module) (before : List Cell) (k : ModId) (reads drives : List WireId) → ((base ≡ 0) × (i ≡ 1)) ⊎ ((base ≡ 2) × (i ≡ 0))
    → slice_get (two_modules ports).modules i ≡ Some m → IsUse m.cells before k reads drives → OnlyUse ports base m before k reads drives
use_is ports base i m before k reads drives (inl h) found u =
    let there : Some m ≡ Some user = sym found ∙ ap (λ (j : ℕ). slice_get (keeper ∷ user ∷ []) j) h.1 in
    let same : m ≡ user = cc in
    let o = only_use (Use (record { number = 0 }) (wire 0 ∷ []) (wire 1 ∷ [])) before k reads drives (subst (λ (x : Module). IsUse x.cells before k reads drives) same u) in
    let is : Use (record { number = 0 }) (wire 0 ∷ []) (wire 1 ∷ []) ≡ Use k reads drives = o.1 in
    let of : record { number = 0 } ≡ k = cc in
    record {
      first = h.0;
      wires = ap (λ (x : Module). wires_before (two_modules ports) x before) same ∙ ap (λ (cs : List Cell). wires_before (two_modules ports) user cs) o.0;
      inner = sym (ap (λ (x : ModId). x.number) of);
      reads_are = cc;
      drives_are = cc;
    }
use_is ports base i m before k reads drives (inr h) found u =
    let there : Some m ≡ Some keeper = sym found ∙ ap (λ (j : ℕ). slice_get (keeper ∷ user ∷ []) j) h.1 in
    let same : m ≡ keeper = cc in
    let o = only_use (Reg (wire 1) (record { number = 0 }) (bits_of 8 5) (wire 0)) before k reads drives (subst (λ (x : Module). IsUse x.cells before k reads drives) same u) in
    let is : Reg (wire 1) (record { number = 0 }) (bits_of 8 5) (wire 0) ≡ Use k reads drives = o.1 in
    absurd (cc)

-- there are two instances
instances_are : (ports : Ports) (base i : ℕ) → IsInstance (two_modules ports) base i → ((base ≡ 0) × (i ≡ 1)) ⊎ ((base ≡ 2) × (i ≡ 0))
instances_are ports _ _ (flat.top i e) = inl (refl, omega arith)
instances_are ports _ _ (flat.used base i m before k reads drives p found u) =
    let o = use_is ports base i m before k reads drives (instances_are ports base i p) found u in
    inr (omega (arith, o.first, o.wires), o.inner)

-- a cell of the list is a flat one
listed : (ports : Ports) (c : Cell) → IsIn (two_flattened ports).cells c → IsFlatCell (two_modules ports) c
listed ports c (zero, e) =
    let same : Copy (wire 1) (wire 3) ≡ c = cc in
    subst (λ (x : Cell). IsFlatCell (two_modules ports) x) same
    (flat.output 0 1 user [] (record { number = 0 }) (wire 0 ∷ []) (wire 1 ∷ []) (the_top ports) refl (the_use ports) keeper refl zero (wire 1) (wire 1) refl refl)
listed ports c (suc zero, e) =
    let same : Copy (wire 2) (wire 0) ≡ c = cc in
    subst (λ (x : Cell). IsFlatCell (two_modules ports) x) same
    (flat.input 0 1 user [] (record { number = 0 }) (wire 0 ∷ []) (wire 1 ∷ []) (the_top ports) refl (the_use ports) zero (wire 0) refl)
listed ports c (suc (suc zero), e) =
    let same : Reg (wire 3) (record { number = 0 }) (bits_of 8 5) (wire 2) ≡ c = cc in
    subst (λ (x : Cell). IsFlatCell (two_modules ports) x) same
    (flat.own 2 0 zero keeper (Reg (wire 1) (record { number = 0 }) (bits_of 8 5) (wire 0)) (the_used ports) refl refl tt)
listed ports c (suc (suc (suc at)), e) = absurd (let n : None ≡ Some c = e in cc)

-- a flat cell is in the list
own_listed : (ports : Ports) (base i place : ℕ) (m : Module) (c : Cell) → ((base ≡ 0) × (i ≡ 1)) ⊎ ((base ≡ 2) × (i ≡ 0))
    → slice_get (two_modules ports).modules i ≡ Some m → slice_get m.cells place ≡ Some c → NoUse c → IsIn (two_flattened ports).cells (moved base c)
own_listed ports base i place m c (inl h) found at none =
    let there : Some m ≡ Some user = sym found ∙ ap (λ (j : ℕ). slice_get (keeper ∷ user ∷ []) j) h.1 in
    let same : m ≡ user = cc in
    by place (subst (λ (x : Module). slice_get x.cells place ≡ Some c) same at)
  where
    by : (place : ℕ) → slice_get user.cells place ≡ Some c → IsIn (two_flattened ports).cells (moved base c)
    by zero e = let is : Use (record { number = 0 }) (wire 0 ∷ []) (wire 1 ∷ []) ≡ c = cc in absurd (subst (λ (x : Cell). NoUse x) (sym is) none)
    by (suc n) e = absurd (let none : None ≡ Some c = e in cc)
own_listed ports base i place m c (inr h) found at none =
    let there : Some m ≡ Some keeper = sym found ∙ ap (λ (j : ℕ). slice_get (keeper ∷ user ∷ []) j) h.1 in
    let same : m ≡ keeper = cc in
    by place (subst (λ (x : Module). slice_get x.cells place ≡ Some c) same at)
  where
    by : (place : ℕ) → slice_get keeper.cells place ≡ Some c → IsIn (two_flattened ports).cells (moved base c)
    by zero e =
        let is : Reg (wire 1) (record { number = 0 }) (bits_of 8 5) (wire 0) ≡ c = cc in
        (suc (suc zero), ap (λ (x : Cell). Some (moved 2 x)) is ∙ ap (λ (n : ℕ). Some (moved n c)) (sym h.0))
    by (suc n) e = absurd (let none : None ≡ Some c = e in cc)

only_item : (a b : WireId) (j : ℕ) → slice_get (a ∷ []) j ≡ Some b → (j ≡ 0) × (a ≡ b)
only_item a b zero e = (refl, cc)
only_item a b (suc j) e = absurd (let none : None ≡ Some b = e in cc)

same_copy : (a b c d : ℕ) → a ≡ c → b ≡ d → Some (Copy (wire a) (wire b)) ≡ Some (Copy (wire c) (wire d))
same_copy a b c d e f = ap (λ (n : ℕ). Some (Copy (wire n) (wire b))) e ∙ ap (λ (n : ℕ). Some (Copy (wire c) (wire n))) f

flat_listed : (ports : Ports) (c : Cell) → IsFlatCell (two_modules ports) c → IsIn (two_flattened ports).cells c
flat_listed ports _ (flat.own base i place m c p found at none) = own_listed ports base i place m c (instances_are ports base i p) found at none
flat_listed ports _ (flat.input base i m before k reads drives p found u j r e) =
    let o = use_is ports base i m before k reads drives (instances_are ports base i p) found u in
    let item = only_item (wire 0) r j (subst (λ (rs : List WireId). slice_get rs j ≡ Some r) o.reads_are e) in
    let number : 0 ≡ r.number = ap (λ (w : WireId). w.number) item.1 in
    (suc zero, same_copy 2 0 (base + wires_before (two_modules ports) m before + j) (base + r.number) (omega (arith, o.first, o.wires, item.0)) (omega (arith, o.first, number)))
flat_listed ports _ (flat.output base i m before k reads drives p found u used there j w x d g) =
    let o = use_is ports base i m before k reads drives (instances_are ports base i p) found u in
    let item = only_item (wire 1) w j (subst (λ (ds : List WireId). slice_get ds j ≡ Some w) o.drives_are d) in
    let number : 1 ≡ w.number = ap (λ (v : WireId). v.number) item.1 in
    let both : Some used ≡ Some keeper = sym there ∙ ap (λ (n : ℕ). slice_get (keeper ∷ user ∷ []) n) o.inner in
    let same : used ≡ keeper = cc in
    let given = only_item (wire 1) x j (subst (λ (n : Module). slice_get n.outputs j ≡ Some x) same g) in
    let inner : 1 ≡ x.number = ap (λ (v : WireId). v.number) given.1 in
    (zero, same_copy 1 3 (base + w.number) (base + wires_before (two_modules ports) m before + x.number) (omega (arith, o.first, number)) (omega (arith, o.first, o.wires, inner)))

pub shown : (ports : Ports) → IsFlatOf (two_modules ports) (two_flattened ports)
unfolding instance_widths
shown ports = record {
  place = 1;
  m = user;
  top = record { last = refl; stands = refl };
  ports = refl;
  widths = refl;
  outputs = refl;
  in_order = (refl, (refl, (refl, tt)));
  cells = λ c. (listed ports c, flat_listed ports c);
}
