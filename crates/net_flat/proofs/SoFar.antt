-- The wires, cells and waiting instances of a flat net that is being made.
use Rattle.std.proofs.Common.{◌≡◌, ℕ, ◌+◌, ◌<◌, ◌≤◌, ◌⊎◌, inl, inr, List, [], ◌∷◌, ◌++◌, length, reverse, Some, None, slice_get, get_or, refl, sym, ap, subst, ◌∙◌, arith, length-append}
use Rattle.std.specs.Prelude.{flat_map}
use Rattle.std.proofs.lemmas.List.{append-nil, reverse-append, reverse-reverse}
use Rattle.std.proofs.lemmas.Option.{slice_get_cases}
use Rattle.chw_base.specs.declared.index.WireId.{WireId}
use Rattle.chw_base.specs.declared.limits.TheConstants.{FLAT_WIRES, MODULES}
use Rattle.net_rules.specs.WellFormed.{DriversHold, LimitsHold, NamesHold, WellFormed}
use Rattle.net_rules.specs.declared.well_formed.NetCode.TheVariants.{Name, Limit, Driver as DriverCode}
use Rattle.netlist.specs.Sound.{IsWire}
use Rattle.netlist.specs.declared.net.Cell.{Cell}
use Rattle.netlist.specs.declared.net.Module.{Module}
use Rattle.netlist.specs.declared.net.Net.{Net}
use Rattle.net_flat.specs.Entering.{Entered, FitsWhole, IsWhole}
use Rattle.net_flat.specs.Flattened.{IsTop, widths_in}
use Rattle.net_flat.specs.Instances.{input_copies, uses_along}
use Rattle.net_flat.specs.declared.instances.Instance.{Instance}
use Rattle.net_flat.specs.declared.parts.Parts.{Parts}
use Rattle.net_flat.proofs.Below.{widths_at}
use Rattle.net_flat.proofs.Cells.{flat_at}
use Rattle.net_flat.proofs.Lists.{all_at}
use Rattle.net_flat.proofs.Progress.{Driving, HasAll, Progress, Waits, driving_first, driving_next, progress_first, progress_next}

-- what is so far, with the waiting instances from the next one on
pub record SoFar (net : Net) (parts : Parts) : Type 0 where
  pub last : ℕ
  pub m : Module
  pub is_top : IsTop net last m
  pub progress : Progress net last parts.widths.items parts.cells.items (reverse parts.waiting.items)
  pub driving : Driving net m.inputs parts.widths.items parts.cells.items (reverse parts.waiting.items)

-- what is so far, by its lists
by_lists : (net : Net) (last : ℕ) (m : Module) (parts : Parts) (widths : List ℕ) (cells : List Cell) (todo : List Instance) → IsTop net last m
    → parts.widths.items ≡ widths → parts.cells.items ≡ cells → reverse parts.waiting.items ≡ todo → Progress net last widths cells todo
    → Driving net m.inputs widths cells todo → SoFar net parts
by_lists net last m parts widths cells todo t ew ec et p d = record {
  last = last;
  m = m;
  is_top = t;
  progress = subst (λ (ws : List ℕ). Progress net last ws parts.cells.items (reverse parts.waiting.items)) (sym ew)
      (subst (λ (cs : List Cell). Progress net last widths cs (reverse parts.waiting.items)) (sym ec)
      (subst (λ (is : List Instance). Progress net last widths cells is) (sym et) p));
  driving = subst (λ (ws : List ℕ). Driving net m.inputs ws parts.cells.items (reverse parts.waiting.items)) (sym ew)
      (subst (λ (cs : List Cell). Driving net m.inputs widths cs (reverse parts.waiting.items)) (sym ec)
      (subst (λ (is : List Instance). Driving net m.inputs widths cells is) (sym et) d));
}

-- the instances that wait once those that an instance uses are pushed
turned : (waiting before uses : List Instance) → waiting ≡ before ++ reverse uses → reverse waiting ≡ uses ++ reverse before
turned waiting before uses e =
    ap (λ (is : List Instance). reverse is) e ∙ reverse-append before (reverse uses)
    ∙ ap (λ (is : List Instance). is ++ reverse before) (reverse-reverse uses)

same_instance : (x : Instance) → x.base ≡ 0 → x.reads ≡ [] → record { «module» = x.module; base = 0; reads = [] } ≡ x
same_instance x b r =
    ap (λ (n : ℕ). record { «module» = x.module; base = n; reads = [] }) (sym b)
    ∙ ap (λ (rs : List WireId). record { «module» = x.module; base = x.base; reads = rs }) (sym r)

-- the top was entered
pub so_far_first : (net : Net) (sizes : List ℕ) (x : Instance) (before after : Parts) → x.module.number + 1 ≡ length net.modules → x.base ≡ 0 → x.reads ≡ []
    → before.widths.items ≡ [] → before.cells.items ≡ [] → before.waiting.items ≡ [] → Entered net sizes x before after → SoFar net after
so_far_first net sizes x before after last at none bw bc bi e =
    let start = subst (λ (y : Instance). Progress net x.module.number [] [] (y ∷ [])) (same_instance x at none) (progress_first net x.module last) in
    let p = progress_next net sizes x.module.number [] [] x [] e.m e.own start e.enters e.are_own in
    let d = driving_first net sizes x e.m e.own at none e.enters e.are_own in
    by_lists net x.module.number e.m after ([] ++ e.m.widths) ([] ++ (input_copies x.base x.reads ++ e.own))
    (uses_along sizes x.base (x.base + length e.m.widths) e.m.cells ++ [])
    (record { last = last; stands = e.enters.found })
    (e.widths ∙ ap (λ (ws : List ℕ). ws ++ e.m.widths) bw)
    (e.cells ∙ ap (λ (cs : List Cell). cs ++ (input_copies x.base x.reads ++ e.own)) bc)
    (turned after.waiting.items before.waiting.items (uses_along sizes x.base (x.base + length e.m.widths) e.m.cells) e.waiting
    ∙ ap (λ (is : List Instance). uses_along sizes x.base (x.base + length e.m.widths) e.m.cells ++ reverse is) bi)
    p d

-- the next instance, with those behind it
pub next_first : (parts : Parts) (rest : List Instance) (x : Instance) → parts.waiting.items ≡ rest ++ x ∷ [] → reverse parts.waiting.items ≡ x ∷ reverse rest
next_first parts rest x e = ap (λ (is : List Instance). reverse is) e ∙ reverse-append rest (x ∷ [])

pub progress_at : (net : Net) (parts : Parts) (rest : List Instance) (x : Instance) → (s : SoFar net parts) → parts.waiting.items ≡ rest ++ x ∷ []
    → Progress net s.last parts.widths.items parts.cells.items (x ∷ reverse rest)
progress_at net parts rest x s e =
    subst (λ (is : List Instance). Progress net s.last parts.widths.items parts.cells.items is) (next_first parts rest x e) s.progress

pub driving_at : (net : Net) (parts : Parts) (rest : List Instance) (x : Instance) → (s : SoFar net parts) → parts.waiting.items ≡ rest ++ x ∷ []
    → Driving net s.m.inputs parts.widths.items parts.cells.items (x ∷ reverse rest)
driving_at net parts rest x s e =
    subst (λ (is : List Instance). Driving net s.m.inputs parts.widths.items parts.cells.items is) (next_first parts rest x e) s.driving

-- the next instance's wires are within the limit
pub next_fits : (net : Net) (parts : Parts) (rest : List Instance) (x : Instance) → SoFar net parts → parts.waiting.items ≡ rest ++ x ∷ [] → FitsWhole net
    → x.base + length (widths_in net x.module.number) ≤ FLAT_WIRES
next_fits net parts rest x s e fits =
    let p = progress_at net parts rest x s e in
    let all = ap length p.joined in
    let outer = length-append parts.widths.items (widths_in net x.module.number ++ flat_map (widths_at net) (reverse rest)) in
    let inner = length-append (widths_in net x.module.number) (flat_map (widths_at net) (reverse rest)) in
    let few = fits s.last s.is_top.last in
    let at : x.base ≡ length parts.widths.items = p.tiles.0 in
    omega arith

-- the next instance was entered
pub so_far_next : (net : Net) (sizes : List ℕ) (x : Instance) (parts before after : Parts) → SoFar net parts → before.widths.items ≡ parts.widths.items
    → before.cells.items ≡ parts.cells.items → parts.waiting.items ≡ before.waiting.items ++ x ∷ [] → Entered net sizes x before after → SoFar net after
so_far_next net sizes x parts before after s bw bc popped e =
    let p = progress_at net parts before.waiting.items x s popped in
    let d = driving_at net parts before.waiting.items x s popped in
    by_lists net s.last s.m after (parts.widths.items ++ e.m.widths) (parts.cells.items ++ (input_copies x.base x.reads ++ e.own))
    (uses_along sizes x.base (x.base + length e.m.widths) e.m.cells ++ reverse before.waiting.items) s.is_top
    (e.widths ∙ ap (λ (ws : List ℕ). ws ++ e.m.widths) bw)
    (e.cells ∙ ap (λ (cs : List Cell). cs ++ (input_copies x.base x.reads ++ e.own)) bc)
    (turned after.waiting.items before.waiting.items (uses_along sizes x.base (x.base + length e.m.widths) e.m.cells) e.waiting)
    (progress_next net sizes s.last parts.widths.items parts.cells.items x (reverse before.waiting.items) e.m e.own p e.enters e.are_own)
    (driving_next net sizes s.m.inputs parts.widths.items parts.cells.items x (reverse before.waiting.items) e.m e.own d p.tiles.0 e.enters e.are_own)

-- a module that is used has a wire
some_wires : (net : Net) (i : ℕ) (m : Module) → WellFormed net → slice_get net.modules i ≡ Some m → i + 1 < length net.modules → 1 ≤ length m.widths
some_wires net i m wf found l =
    let hold : DriversHold net i m = wf.rules i m found DriverCode in
    let names : NamesHold net i m = wf.rules i m found Name in
    by (hold.outputs l) names (slice_get_cases m.outputs 0).1
  where
    by : 1 ≤ length m.outputs → NamesHold net i m
        → ((w : WireId) × (0 < length m.outputs) × (slice_get m.outputs 0 ≡ Some w) × (get_or m.outputs 0 w ≡ w)) ⊎ ((length m.outputs ≤ 0) × (slice_get m.outputs 0 ≡ None))
        → 1 ≤ length m.widths
    by some names (inl w) = omega (arith, all_at (IsWire m.widths) m.outputs 0 w.0 names.outputs w.2)
    by some names (inr none) = absurd (omega (arith, none.0))

-- wires are gained, up to the limit
pub wires_gained : (net : Net) (sizes : List ℕ) (x : Instance) (parts before after : Parts) → SoFar net parts → before.widths.items ≡ parts.widths.items
    → parts.waiting.items ≡ before.waiting.items ++ x ∷ [] → Entered net sizes x before after → length parts.widths.items < length after.widths.items
wires_gained net sizes x parts before after s bw popped e =
    let d = driving_at net parts before.waiting.items x s popped in
    let some = some_wires net x.module.number e.m e.enters.sized.well_formed e.enters.found d.inner.0 in
    let long = ap length e.widths in
    let both = length-append before.widths.items e.m.widths in
    let old = ap length bw in
    omega arith

pub wires_within : (net : Net) (parts : Parts) → SoFar net parts → FitsWhole net → length parts.widths.items ≤ FLAT_WIRES
wires_within net parts s fits =
    let all = ap length s.progress.joined in
    let both = length-append parts.widths.items (flat_map (widths_at net) (reverse parts.waiting.items)) in
    let few = fits s.last s.is_top.last in
    omega arith

-- the whole flat net, where no instance waits
pub whole : (net : Net) (parts : Parts) → SoFar net parts → parts.waiting.items ≡ [] → IsWhole net parts
whole net parts s e =
    let p : Progress net s.last parts.widths.items parts.cells.items [] =
    subst (λ (is : List Instance). Progress net s.last parts.widths.items parts.cells.items (reverse is)) e s.progress in
    record {
      place = s.last;
      m = s.m;
      top = s.is_top;
      widths = sym (append-nil parts.widths.items) ∙ p.joined;
      in_order = s.driving.order;
      all = s.driving.count;
      cells = λ c. (p.sound c, λ f. let at = flat_at net c f in by at.x (p.complete at.x at.placed) c at.at);
    }
  where
    by : (x : Instance) → HasAll net parts.cells.items x ⊎ Waits net [] x → HasAll net parts.cells.items x
    by x (inl h) = h
    by x (inr (y, n, at, b)) = absurd (let none : None ≡ Some y = at in cc)

-- there are few modules
pub few_modules : (net : Net) → WellFormed net → length net.modules ≤ MODULES
few_modules net wf = by (slice_get_cases net.modules 0).1
  where
    by : ((m : Module) × (0 < length net.modules) × (slice_get net.modules 0 ≡ Some m) × (get_or net.modules 0 m ≡ m)) ⊎ ((length net.modules ≤ 0) × (slice_get net.modules 0 ≡ None))
        → length net.modules ≤ MODULES
    by (inl m) = let hold : LimitsHold net 0 m.0 = wf.rules 0 m.0 m.2 Limit in hold.modules refl
    by (inr none) = omega (arith, none.0)
