-- A flat wire of an instance has the width of the instance's wire.
use Rattle.std.proofs.Common.{◌≡◌, ℕ, ◌+◌, ◌<◌, List, ◌++◌, length, Some, slice_get, get_or, sym, ap, subst, ◌∙◌, arith}
use Rattle.std.proofs.lemmas.Option.{slice_get-get_or}
use Rattle.net_rules.specs.WellFormed.{WellFormed}
use Rattle.netlist.specs.declared.net.Flat.{Flat}
use Rattle.netlist.specs.declared.net.Module.{Module}
use Rattle.netlist.specs.declared.net.Net.{Net}
use Rattle.net_flat.specs.Flattened.{IsFlatOf, IsInstance, wires_before, widths_in}
use Rattle.net_flat.specs.Flattened as flattened
use Rattle.net_flat.proofs.Fitting.{Shows}
use Rattle.net_flat.proofs.Lists.{get_left, get_right}
use Rattle.net_flat.proofs.Widths.{widths_step}
use Rattle.net_flat.proofs.Within.{long_before, use_split, wires_of_uses}
use Rattle.use_laws.proofs.Instances.{InstanceOf}

-- the wires of an instance and of those that it uses are among the flat wires, from its first on
all_shown : (net : Net) (last base i : ℕ) → WellFormed net → last + 1 ≡ length net.modules → IsInstance net base i
    → Shows (widths_in net i) (widths_in net last) base
all_shown net last _ _ wf end (flattened.top i e) w n found =
    let same : i ≡ last = omega arith in
    let here : w ≡ 0 + w = omega arith in
    subst (λ k. slice_get (widths_in net last) k ≡ Some n) here (subst (λ k. slice_get (widths_in net k) w ≡ Some n) same found)
all_shown net last _ _ wf end (flattened.used base i m before k reads drives p found u) w n shown =
    let first = m.widths ++ wires_of_uses net before in
    let rest = widths_in net k.number ++ wires_of_uses net u.after in
    let inner : slice_get rest w ≡ Some n = get_left (widths_in net k.number) (wires_of_uses net u.after) w n shown in
    let there : slice_get (widths_in net i) (length first + w) ≡ Some n =
    ap (λ (ws : List ℕ). slice_get ws (length first + w)) (use_split net i m before k reads drives wf found u) ∙ get_right first rest w ∙ inner in
    let place : base + (length first + w) ≡ base + wires_before net m before + w = omega (arith, long_before net m before) in
    subst (λ j. slice_get (widths_in net last) j ≡ Some n) place (all_shown net last base i wf end p (length first + w) n there)

pub flat_width : (net : Net) (flat : Flat) (base : ℕ) (m : Module) (w n : ℕ) → WellFormed net → IsFlatOf net flat → InstanceOf net base m
    → slice_get m.widths w ≡ Some n → slice_get flat.widths (base + w) ≡ Some n
flat_width net flat base m w n wf f inst e =
    let step = widths_step net inst.i m wf inst.found in
    let own : slice_get (widths_in net inst.i) w ≡ Some n =
    ap (λ (ws : List ℕ). slice_get ws w) step ∙ get_left m.widths (wires_of_uses net m.cells) w n e in
    ap (λ (ws : List ℕ). slice_get ws (base + w)) f.widths ∙ all_shown net f.place base inst.i wf f.top.last inst.stands w n own

-- the other way round, for a wire that exists
pub inner_width : (net : Net) (flat : Flat) (base : ℕ) (m : Module) (w n : ℕ) → WellFormed net → IsFlatOf net flat → InstanceOf net base m
    → w < length m.widths → slice_get flat.widths (base + w) ≡ Some n → slice_get m.widths w ≡ Some n
inner_width net flat base m w n wf f inst l e =
    let here = slice_get-get_or m.widths w 0 l in
    let both : Some (get_or m.widths w 0) ≡ Some n = sym (flat_width net flat base m w (get_or m.widths w 0) wf f inst here) ∙ e in
    here ∙ both
