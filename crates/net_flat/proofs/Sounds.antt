-- The flat net of a well formed net is sound.
use Rattle.std.proofs.Common.{◌≡◌, ℕ, zero, suc, ◌+◌, ◌<◌, ◌≤◌, List, [], ◌∷◌, ◌++◌, length, map, reverse, take, Some, slice_get, get_or, refl, sym, ap, subst, ◌∙◌, eqb, arith, length-append}
use Rattle.std.specs.Prelude.{flat_map, IfSome}
use Rattle.std.specs.List.{AllByRecursion}
use Rattle.std.proofs.lemmas.Bool.{cond_both}
use Rattle.std.proofs.lemmas.List.{append-nil, append_assoc, reverse-append}
use Rattle.std.proofs.lemmas.Option.{slice_get-get_or, slice_get_within}
use Rattle.chw_base.specs.declared.index.ModId.{ModId}
use Rattle.chw_base.specs.declared.index.WireId.{WireId}
use Rattle.chw_base.specs.declared.limits.TheConstants.{FLAT_WIRES}
use Rattle.chw_clock.specs.declared.event.Port.{Port}
use Rattle.net_rules.specs.WellFormed.{AgreesUse, DriversHold, HasFewWords, LimitsHold, NamesExist, NamesHold, Together, TopNamesHold, TopWidthsHold, UseExists, WellFormed, WidthsAgree, WidthsHold}
use Rattle.net_rules.specs.declared.well_formed.NetCode.TheVariants.{Name, Width, Limit, Driver as DriverCode}
use Rattle.netlist.specs.Sound.{DrivesFrom, FitsCell, HasWidth, IsWire, IsWireWidth, Sound}
use Rattle.netlist.specs.declared.net.Cell.{Cell}
use Rattle.netlist.specs.declared.net.Cell.TheVariants.{Use}
use Rattle.netlist.specs.declared.net.Flat.{Flat}
use Rattle.netlist.specs.declared.net.Module.{Module}
use Rattle.netlist.specs.declared.net.Net.{Net}
use Rattle.net_flat.specs.Flattened.{IsFlatCell, IsFlatOf, IsInstance, IsUse, instance_widths, widths_in, widths_of_use, wire_from, wires_before}
use Rattle.net_flat.specs.Flattened as flat
use Rattle.net_flat.proofs.Fitting.{Shows, fits_moved}
use Rattle.net_flat.proofs.Lists.{all_append, all_at, all_of_each, get_left, get_right, get_taken}
use Rattle.net_flat.proofs.Placed.{use_there}
use Rattle.net_flat.proofs.Widths.{widths_step}
use Rattle.net_flat.proofs.Within.{long_before, use_split, wires_of_uses}

-- a list stands in another behind so many items
record Window (all : List ℕ) (base : ℕ) (part : List ℕ) : Type 0 where
  before : List ℕ
  after : List ℕ
  «is» : all ≡ before ++ (part ++ after)
  at : length before ≡ base

inner_window : (all : List ℕ) (base : ℕ) (part first rest last : List ℕ) (n : ℕ) → Window all base part → part ≡ first ++ (rest ++ last) → length first ≡ n
    → Window all (base + n) rest
inner_window all base part first rest last n w e l = record {
  before = w.before ++ first;
  after = last ++ w.after;
  «is» = w.«is» ∙ ap (λ (p : List ℕ). w.before ++ (p ++ w.after)) e ∙ regroup w.before first rest last w.after;
  at = length-append w.before first ∙ omega (arith, w.at);
}
  where
    regroup : (a b c d e : List ℕ) → a ++ ((b ++ (c ++ d)) ++ e) ≡ (a ++ b) ++ (c ++ (d ++ e))
    regroup a b c d e = simp append_assoc

-- the wires of an instance are among the flat wires, from its first on
window_of : (net : Net) (last base i : ℕ) → WellFormed net → last + 1 ≡ length net.modules → IsInstance net base i
    → Window (widths_in net last) base (widths_in net i)
window_of net last _ _ wf end (flat.top i e) =
    let same : last ≡ i = omega arith in
    record {
      before = [];
      after = [];
      «is» = ap (λ (k : ℕ). widths_in net k) same ∙ sym (append-nil (widths_in net i));
      at = refl;
    }
window_of net last _ _ wf end (flat.used base i m before k reads drives p found u) =
    inner_window (widths_in net last) base (widths_in net i) (m.widths ++ wires_of_uses net before) (widths_in net k.number) (wires_of_uses net u.after)
    (wires_before net m before) (window_of net last base i wf end p) (use_split net i m before k reads drives wf found u) (long_before net m before)

shown : (all : List ℕ) (base : ℕ) (widths rest : List ℕ) → Window all base (widths ++ rest) → Shows widths all base
shown all base widths rest w k n e =
    let inner = get_left (widths ++ rest) w.after k n (get_left widths rest k n e) in
    let there = get_right w.before ((widths ++ rest) ++ w.after) k ∙ inner in
    let place : length w.before + k ≡ base + k = omega (arith, w.at) in
    ap (λ (xs : List ℕ). slice_get xs (base + k)) w.«is» ∙ ap (λ (j : ℕ). slice_get (w.before ++ ((widths ++ rest) ++ w.after)) j) (sym place) ∙ there

shows_of : (net : Net) (last base i : ℕ) (m : Module) → WellFormed net → last + 1 ≡ length net.modules → IsInstance net base i
    → slice_get net.modules i ≡ Some m → Shows m.widths (widths_in net last) base
shows_of net last base i m wf end p found =
    shown (widths_in net last) base m.widths (wires_of_uses net m.cells)
    (subst (λ (ws : List ℕ). Window (widths_in net last) base ws) (widths_step net i m wf found) (window_of net last base i wf end p))

-- the widths of a use agree with those of its module
record Agreeing (net : Net) (i : ℕ) (m : Module) (k : ModId) (reads drives : List WireId) : Type 0 where
  used : Module
  found : slice_get net.modules k.number ≡ Some used
  long : length reads ≡ used.inputs
  wires : AllByRecursion (IsWire m.widths) drives
  agrees : AgreesUse m.widths used reads drives

agreeing : (net : Net) (i : ℕ) (m : Module) (before : List Cell) (k : ModId) (reads drives : List WireId) → WellFormed net
    → slice_get net.modules i ≡ Some m → IsUse m.cells before k reads drives → Agreeing net i m k reads drives
agreeing net i m before k reads drives wf found u =
    let here = use_there m before k reads drives u in
    let names : NamesHold net i m = wf.rules i m found Name in
    let widths : WidthsHold net i m = wf.rules i m found Width in
    let exist = all_at (NamesExist (length net.ports.domains) (take i net.modules) m.widths) m.cells (length before) (Use k reads drives) names.cells here in
    let part : UseExists (take i net.modules) k.number reads drives = exist.part in
    let agree : IfSome (slice_get (take i net.modules) k.number) (λ used. AgreesUse m.widths used reads drives) =
    all_at (WidthsAgree (take i net.modules) m.widths) m.cells (length before) (Use k reads drives) widths.cells here in
    record {
      used = part.used;
      found = get_taken i net.modules k.number part.used part.found;
      long = part.inputs;
      wires = exist.driven;
      agrees = subst (λ o. IfSome o (λ used. AgreesUse m.widths used reads drives)) part.found agree;
    }

same_module : (net : Net) (k : ℕ) (a b : Module) → slice_get net.modules k ≡ Some a → slice_get net.modules k ≡ Some b → a ≡ b
same_module net k a b e f = let both : Some a ≡ Some b = sym e ∙ f in cc

-- each flat cell fits
flat_fits : (net : Net) (last : ℕ) (c : Cell) → WellFormed net → last + 1 ≡ length net.modules → IsFlatCell net c
    → FitsCell (length net.ports.domains) (widths_in net last) c
flat_fits net last _ wf end (flat.own base i place m c p found here none) =
    let names : NamesHold net i m = wf.rules i m found Name in
    let widths : WidthsHold net i m = wf.rules i m found Width in
    let limits : LimitsHold net i m = wf.rules i m found Limit in
    let exist = all_at (NamesExist (length net.ports.domains) (take i net.modules) m.widths) m.cells place c names.cells here in
    let agree = all_at (WidthsAgree (take i net.modules) m.widths) m.cells place c widths.cells here in
    let few = all_at HasFewWords m.cells place c limits.words here in
    fits_moved (length net.ports.domains) (take i net.modules) m.widths (widths_in net last) base c (shows_of net last base i m wf end p found) none exist.part agree few
flat_fits net last _ wf end (flat.input base i m before k reads drives p found u j r e) =
    let a = agreeing net i m before k reads drives wf found u in
    let hold : DriversHold net k.number a.used = wf.rules k.number a.used a.found DriverCode in
    let l : j < length a.used.widths = omega (arith, slice_get_within reads j r e, a.long, hold.inputs) in
    let at = slice_get-get_or a.used.widths j 0 l in
    let read = a.agrees.inputs j r (get_or a.used.widths j 0) e at in (
      get_or a.used.widths j 0,
      shows_of net last (base + wires_before net m before) k.number a.used wf end (flat.used base i m before k reads drives p found u) a.found j (get_or a.used.widths j 0) at,
      shows_of net last base i m wf end p found r.number (get_or a.used.widths j 0) read,
    )
flat_fits net last _ wf end (flat.output base i m before k reads drives p found u used there j w o d g) =
    let a = agreeing net i m before k reads drives wf found u in
    let same : a.used ≡ used = same_module net k.number a.used used a.found there in
    let agrees : AgreesUse m.widths used reads drives = subst (λ (x : Module). AgreesUse m.widths x reads drives) same a.agrees in
    let l : w.number < length m.widths = all_at (IsWire m.widths) drives j w a.wires d in
    let at = slice_get-get_or m.widths w.number 0 l in
    let given = sym (agrees.outputs j w o d g) ∙ at in (
      get_or m.widths w.number 0,
      shows_of net last base i m wf end p found w.number (get_or m.widths w.number 0) at,
      shows_of net last (base + wires_before net m before) k.number used wf end (flat.used base i m before k reads drives p found u) there o.number (get_or m.widths w.number 0) given,
    )

-- each flat wire has a width that a wire may have
used_widths_hold : (f : ℕ → List ℕ) (cells : List Cell) → ((k : ℕ) → AllByRecursion IsWireWidth (f k))
    → AllByRecursion IsWireWidth (flat_map (widths_of_use f) cells)
used_widths_hold f [] h = tt
used_widths_hold f (Use k reads drives ∷ cells) h = all_append IsWireWidth (f k.number) (flat_map (widths_of_use f) cells) (h k.number) (used_widths_hold f cells h)
used_widths_hold f (cell ∷ cells) h = used_widths_hold f cells h

widths_hold_among : (modules : List Module) (k : ℕ) → AllByRecursion (λ m. AllByRecursion IsWireWidth m.widths) modules
    → AllByRecursion IsWireWidth (instance_widths modules k)
unfolding instance_widths
widths_hold_among [] k h = tt
widths_hold_among (m ∷ earlier) k h =
    let here = all_append IsWireWidth m.widths (flat_map (widths_of_use (instance_widths earlier)) m.cells) h.0
    (used_widths_hold (instance_widths earlier) m.cells (λ j. widths_hold_among earlier j h.1)) in
    let there = widths_hold_among earlier k h.1 in
    cond_both (eqb k (length earlier)) (m.widths ++ flat_map (widths_of_use (instance_widths earlier)) m.cells) (instance_widths earlier k)
    (AllByRecursion IsWireWidth) (λ e. here) (λ e. there)

all_reversed : {X : Type 0} (P : X → Type 0) (xs : List X) → AllByRecursion P xs → AllByRecursion P (reverse xs)
all_reversed P [] h = tt
all_reversed P (x ∷ xs) h =
    subst (λ ys. AllByRecursion P ys) (sym (reverse-append (x ∷ []) xs)) (all_append P (reverse xs) (x ∷ []) (all_reversed P xs h.1) (h.0, tt))

widths_hold : (net : Net) (k : ℕ) → WellFormed net → AllByRecursion IsWireWidth (widths_in net k)
widths_hold net k wf =
    widths_hold_among (reverse net.modules) k
    (all_reversed (λ m. AllByRecursion IsWireWidth m.widths) net.modules
    (all_of_each (λ m. AllByRecursion IsWireWidth m.widths) net.modules (λ i m found. limits i m (wf.rules i m found Limit))))
  where
    limits : (i : ℕ) (m : Module) → LimitsHold net i m → AllByRecursion IsWireWidth m.widths
    limits i m h = h.widths

-- the inputs' and outputs' widths are the ports'
inputs_agree : (ports : List Port) (widths rest : List ℕ) → length ports ≤ length widths → Together (λ (p : Port) (n : ℕ). p.width ≡ n) ports widths
    → map (λ p. p.width) ports ≡ take (length ports) (widths ++ rest)
inputs_agree [] widths rest l t = refl
inputs_agree (p ∷ ports) [] rest l t = absurd (omega arith)
inputs_agree (p ∷ ports) (n ∷ widths) rest l t =
    let first : p.width ≡ n = t zero p n refl refl in
    let others = inputs_agree ports widths rest (omega arith) (λ k x y e f. t (suc k) x y e f) in
    cc

outputs_agree : (ports : List Port) (outputs : List WireId) (widths rest : List ℕ) → length ports ≡ length outputs
    → Together (λ (p : Port) (w : WireId). HasWidth widths w p.width) ports outputs
    → map (λ w. slice_get (widths ++ rest) w.number) outputs ≡ map (λ p. Some p.width) ports
outputs_agree [] [] widths rest l t = refl
outputs_agree [] (w ∷ outputs) widths rest l t = absurd (omega arith)
outputs_agree (p ∷ ports) [] widths rest l t = absurd (omega arith)
outputs_agree (p ∷ ports) (w ∷ outputs) widths rest l t =
    let first : slice_get (widths ++ rest) w.number ≡ Some p.width = get_left widths rest w.number p.width (t zero p w refl refl) in
    let others = outputs_agree ports outputs widths rest (omega arith) (λ k x y e f. t (suc k) x y e f) in
    cc

pub sound_of : (net : Net) (f : Flat) → WellFormed net → (i : IsFlatOf net f) → length f.widths ≤ FLAT_WIRES
    → i.m.inputs + length f.cells ≡ length f.widths → Sound f
sound_of net f wf i few all =
    let names : NamesHold net i.place i.m = wf.rules i.place i.m i.top.stands Name in
    let widths : WidthsHold net i.place i.m = wf.rules i.place i.m i.top.stands Width in
    let hold : DriversHold net i.place i.m = wf.rules i.place i.m i.top.stands DriverCode in
    let top_names : TopNamesHold net.ports i.m = names.top i.top.last in
    let top_widths : TopWidthsHold net.ports i.m = widths.top i.top.last in
    let step : f.widths ≡ i.m.widths ++ wires_of_uses net i.m.cells = i.widths ∙ widths_step net i.place i.m wf i.top.stands in
    let inputs : length f.ports.inputs ≡ i.m.inputs = ap (λ p. length p.inputs) i.ports ∙ top_names.inputs in
    record {
      few = few;
      widths = subst (λ (ws : List ℕ). AllByRecursion IsWireWidth ws) (sym i.widths) (widths_hold net i.place wf);
      inputs = subst (λ (ws : List ℕ). map (λ p. p.width) f.ports.inputs ≡ take (length f.ports.inputs) ws) (sym step)
          (subst (λ (ps : List Port). map (λ p. p.width) ps ≡ take (length ps) (i.m.widths ++ wires_of_uses net i.m.cells)) (sym (ap (λ p. p.inputs) i.ports))
          (inputs_agree net.ports.inputs i.m.widths (wires_of_uses net i.m.cells) (omega (arith, top_names.inputs, hold.inputs)) top_widths.inputs));
      outputs = subst (λ (ws : List ℕ). map (λ w. slice_get ws w.number) f.outputs ≡ map (λ p. Some p.width) f.ports.outputs) (sym step)
          (subst (λ (os : List WireId). map (λ w. slice_get (i.m.widths ++ wires_of_uses net i.m.cells) w.number) os ≡ map (λ p. Some p.width) f.ports.outputs) (sym i.outputs)
          (subst (λ (ps : List Port). map (λ w. slice_get (i.m.widths ++ wires_of_uses net i.m.cells) w.number) i.m.outputs ≡ map (λ p. Some p.width) ps) (sym (ap (λ p. p.outputs) i.ports))
          (outputs_agree net.ports.outputs i.m.outputs i.m.widths (wires_of_uses net i.m.cells) top_names.outputs top_widths.outputs)));
      cells = all_of_each (FitsCell (length f.ports.domains) f.widths) f.cells (λ at c e.
          subst (λ (n : ℕ). FitsCell n f.widths c) (sym (ap (λ p. length p.domains) i.ports))
          (subst (λ (ws : List ℕ). FitsCell (length net.ports.domains) ws c) (sym i.widths) (flat_fits net i.place c wf i.top.last ((i.cells c).0 (at, e)))));
      in_order = subst (λ (n : ℕ). DrivesFrom n f.cells) (sym inputs) i.in_order;
      all = omega (arith, inputs);
    }
