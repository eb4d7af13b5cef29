-- The widths of what a use joins.
use Rattle.std.proofs.Common.{◌≡◌, ℕ, zero, suc, ◌+◌, ◌<◌, List, [], ◌∷◌, length, map, take, Some, refl, sym, ap, ◌∙◌, subst, arith}
use Rattle.std.specs.Prelude.{slice_get, option_map}
use Rattle.std.specs.List.{AllByRecursion}
use Rattle.std.proofs.lemmas.Bool.{eqb-true}
use Rattle.std.proofs.lemmas.Option.{same_Some, slice_get_within}
use Rattle.chw_base.specs.declared.index.WireId.{WireId}
use Rattle.net_rules.specs.WellFormed.{AgreesUse}
use Rattle.netlist.specs.Sound.{HasWidth}
use Rattle.verilog_tree.specs.declared.module.Module.{Module}
use Rattle.verilog_tree.specs.declared.word.Line.{Line}
use Rattle.verilog_rules.specs.Declarations.{inputs_of, outputs_of, ports_in}
use Rattle.verilog_rules.specs.NetOf.{net_module, shown_wire, shown_wires, wire}
use Rattle.verilog_rules.specs.Texts.{width}
use Rattle.verilog_rules.specs.WidthRules.{joined_checks, port_checks, wide, widths_of, wire_widths}
use Rattle.verilog_rules.specs.declared.resolved.Driver.{Driver}
use Rattle.verilog_rules.specs.declared.resolved.Operand.{Operand}
use Rattle.verilog_rules.specs.declared.resolved.ResolvedModule.{ResolvedModule}
use Rattle.verilog_rules.proofs.Holding.{AllTrue, both_parts, first_part, second_part}
use Rattle.verilog_rules.proofs.Values.{wide_holds}

-- a resolved module is that of the tree, and its outputs are as wide as the wires that they show
pub record ModuleFits (used : Module) (ur : ResolvedModule) : Type 0 where
  pub inputs : ur.inputs ≡ length (inputs_of (ports_in used))
  pub outputs : ur.outputs ≡ outputs_of (ports_in used)
  pub wide_outputs : (k : ℕ) (l : Line) → slice_get ur.outputs k ≡ Some l → HasWidth (wire_widths ur) (shown_wire ur.drivers k) (width l.range)

-- the earlier modules
abbrev pub EarlierFit : List Module → List ResolvedModule → Type 0
EarlierFit earl er = (k : ℕ) (used : Module) → slice_get earl k ≡ Some used → (ur : ResolvedModule) × (slice_get er k ≡ Some ur) × ModuleFits used ur

pub got_net : (er : List ResolvedModule) (k : ℕ) (ur : ResolvedModule) → slice_get er k ≡ Some ur → slice_get (map net_module er) k ≡ Some (net_module ur)
got_net [] k ur found = absurd (cc)
got_net (m ∷ er) zero ur found = ap (option_map net_module) found
got_net (m ∷ er) (suc k) ur found = got_net er k ur found

pub got_mapped_back : {A B : Type 0} (f : A → B) (xs : List A) (k : ℕ) (y : B) → slice_get (map f xs) k ≡ Some y → (x : A) × (slice_get xs k ≡ Some x) × (f x ≡ y)
got_mapped_back f [] k y found = absurd (cc)
got_mapped_back f (x ∷ xs) zero y found = (x, refl, same_Some (f x) y found)
got_mapped_back f (x ∷ xs) (suc k) y found = got_mapped_back f xs k y found

pub got_mapped : {A B : Type 0} (f : A → B) (xs : List A) (k : ℕ) (x : A) → slice_get xs k ≡ Some x → slice_get (map f xs) k ≡ Some (f x)
got_mapped f [] k x found = absurd (cc)
got_mapped f (y ∷ xs) zero x found = ap (option_map f) found
got_mapped f (y ∷ xs) (suc k) x found = got_mapped f xs k x found

pub got_taken : {A : Type 0} (n : ℕ) (xs : List A) (k : ℕ) (x : A) → slice_get (take n xs) k ≡ Some x → slice_get xs k ≡ Some x
got_taken zero xs k x found = absurd (cc)
got_taken (suc n) [] k x found = absurd (cc)
got_taken (suc n) (y ∷ xs) zero x found = found
got_taken (suc n) (y ∷ xs) (suc k) x found = got_taken n xs k x found

pub got_in_front : {A : Type 0} (n : ℕ) (xs : List A) (k : ℕ) (x : A) → k < n → slice_get xs k ≡ Some x → slice_get (take n xs) k ≡ Some x
got_in_front zero xs k x below found = absurd (omega arith)
got_in_front (suc n) [] k x below found = absurd (cc)
got_in_front (suc n) (y ∷ xs) zero x below found = found
got_in_front (suc n) (y ∷ xs) (suc k) x below found = got_in_front n xs k x (omega arith) found

-- the wires of outputs, by their numbers
pub got_shown : (drivers : List Driver) (from : ℕ) (ls : List Line) (k : ℕ) (w : WireId) → slice_get (shown_wires drivers from ls) k ≡ Some w
    → (l : Line) × (slice_get ls k ≡ Some l) × (shown_wire drivers (from + k) ≡ w)
got_shown drivers from [] k w found = absurd (cc)
got_shown drivers from (l ∷ ls) zero w found =
    let none : from + 0 ≡ from = omega arith in
    (l, refl, rw none (same_Some (shown_wire drivers from) w found))
got_shown drivers from (l ∷ ls) (suc k) w found =
    let later = got_shown drivers (from + 1) ls k w found in
    let next : from + suc k ≡ from + 1 + k = omega arith in
    (later.0, later.1, rw next later.2)

-- PORTS

pub port_checks_hold : (widths ns : List ℕ) (ops : List Operand) → ((k n : ℕ) (a : Operand) → slice_get ns k ≡ Some n → slice_get ops k ≡ Some a → HasWidth widths a.wire n)
    → AllTrue (port_checks widths ns ops)
port_checks_hold widths [] ops all = tt
port_checks_hold widths (n ∷ ns) [] all = tt
port_checks_hold widths (n ∷ ns) (a ∷ ops) all =
    (wide_holds widths a n (all 0 n a refl refl), port_checks_hold widths ns ops (λ k m b at also. all (suc k) m b at also))

pub port_widths : (widths ns : List ℕ) (ops : List Operand) → AllTrue (port_checks widths ns ops) → (k n : ℕ) (a : Operand) → slice_get ns k ≡ Some n → slice_get ops k ≡ Some a
    → wide widths a ≡ n
port_widths widths [] ops all k n a at also = absurd (cc)
port_widths widths (m ∷ ns) [] all k n a at also = absurd (cc)
port_widths widths (m ∷ ns) (b ∷ ops) all zero n a at also =
    ap (wide widths) (sym (same_Some b a also)) ∙ eqb-true (wide widths b) m all.0 ∙ same_Some m n at
port_widths widths (m ∷ ns) (b ∷ ops) all (suc k) n a at also = port_widths widths ns ops all.1 k n a at also

-- what a use that passes its checks joins is as wide as the ports
pub use_agrees : (used : Module) (ur : ResolvedModule) (widths : List ℕ) (reads drives : List Operand) → ModuleFits used ur
    → length reads ≡ length (inputs_of (ports_in used))
    → AllByRecursion (λ (a : Operand). HasWidth widths a.wire (wide widths a)) reads → AllByRecursion (λ (a : Operand). HasWidth widths a.wire (wide widths a)) drives
    → AllTrue (joined_checks widths (Some ur) reads drives) → AgreesUse widths (net_module ur) (map wire reads) (map wire drives)
use_agrees used ur widths reads drives fits count reads_have drives_have all =
    let in_checks : AllTrue (port_checks widths (take ur.inputs (wire_widths ur)) reads) = first_part (port_checks widths (take ur.inputs (wire_widths ur)) reads) (port_checks widths (widths_of ur.outputs) drives) all in
    let out_checks : AllTrue (port_checks widths (widths_of ur.outputs) drives) = second_part (port_checks widths (take ur.inputs (wire_widths ur)) reads) (port_checks widths (widths_of ur.outputs) drives) all in
    record {
      inputs = λ k w n at also.
          let a = got_mapped_back wire reads k w at in
          let below : k < length reads = slice_get_within reads k a.0 a.1 in
          let inside : k < ur.inputs = below_inputs k (length reads) ur.inputs (length (inputs_of (ports_in used))) below count fits.inputs in
          let there : slice_get (take ur.inputs (wire_widths ur)) k ≡ Some n = got_in_front ur.inputs (wire_widths ur) k n inside also in
          has reads k a.0 w n reads_have a.1 a.2 (port_widths widths (take ur.inputs (wire_widths ur)) reads in_checks k n a.0 there a.1);
      outputs = λ k w o at also.
          let a = got_mapped_back wire drives k w at in
          let shown = got_shown ur.drivers 0 ur.outputs k o also in
          let n : ℕ = width shown.0.range in
          let there : slice_get (widths_of ur.outputs) k ≡ Some n = got_mapped (λ (l : Line). width l.range) ur.outputs k shown.0 shown.1 in
          let w_has : HasWidth widths w n = has drives k a.0 w n drives_have a.1 a.2 (port_widths widths (widths_of ur.outputs) drives out_checks k n a.0 there a.1) in
          let same : shown_wire ur.drivers k ≡ o = zero_plus ur.drivers k o shown.2 in
          let o_has : HasWidth (wire_widths ur) o n = subst (λ (v : WireId). HasWidth (wire_widths ur) v n) same (fits.wide_outputs k shown.0 shown.1) in
          w_has ∙ sym o_has;
    }
  where
    below_inputs : (k reads inputs ports : ℕ) → k < reads → reads ≡ ports → inputs ≡ ports → k < inputs
    below_inputs k reads inputs ports below count is = omega arith

    zero_plus : (drivers : List Driver) (k : ℕ) (o : WireId) → shown_wire drivers (0 + k) ≡ o → shown_wire drivers k ≡ o
    zero_plus drivers k o is = let none : 0 + k ≡ k = omega arith in rw none at is

    has : (ops : List Operand) (k : ℕ) (a : Operand) (w : WireId) (n : ℕ) → AllByRecursion (λ (a : Operand). HasWidth widths a.wire (wide widths a)) ops → slice_get ops k ≡ Some a
        → a.wire ≡ w → wide widths a ≡ n → HasWidth widths w n
    has [] k a w n all at is same = absurd (cc)
    has (b ∷ ops) zero a w n all at is same =
        subst (λ (v : WireId). HasWidth widths v n) (ap wire (same_Some b a at) ∙ is) (subst (λ (m : ℕ). HasWidth widths b.wire m) (ap (wide widths) (same_Some b a at) ∙ same) all.0)
    has (b ∷ ops) (suc k) a w n all at is same = has ops k a w n all.1 at is same

-- and back
pub use_checked : (used : Module) (ur : ResolvedModule) (widths : List ℕ) (reads drives : List Operand) → ModuleFits used ur
    → AgreesUse widths (net_module ur) (map wire reads) (map wire drives) → AllTrue (joined_checks widths (Some ur) reads drives)
use_checked used ur widths reads drives fits agrees =
    both_parts (port_checks widths (take ur.inputs (wire_widths ur)) reads) (port_checks widths (widths_of ur.outputs) drives)
    (port_checks_hold widths (take ur.inputs (wire_widths ur)) reads (λ k n a at also.
    agrees.inputs k a.wire n (got_mapped wire reads k a also) (got_taken ur.inputs (wire_widths ur) k n at)))
    (port_checks_hold widths (widths_of ur.outputs) drives (λ k n a at also.
    let l = got_mapped_back (λ (l : Line). width l.range) ur.outputs k n at in
    let shown : slice_get (shown_wires ur.drivers 0 ur.outputs) k ≡ Some (shown_wire ur.drivers k) = got_wire ur.drivers ur.outputs k l.0 l.1 in
    agrees.outputs k a.wire (shown_wire ur.drivers k) (got_mapped wire drives k a also) shown
    ∙ fits.wide_outputs k l.0 l.1 ∙ ap Some l.2))
  where
    got_from : (drivers : List Driver) (from : ℕ) (ls : List Line) (k : ℕ) (l : Line) → slice_get ls k ≡ Some l → slice_get (shown_wires drivers from ls) k ≡ Some (shown_wire drivers (from + k))
    got_from drivers from [] k l found = absurd (cc)
    got_from drivers from (m ∷ ls) zero l found = let none : from + 0 ≡ from = omega arith in rw none refl
    got_from drivers from (m ∷ ls) (suc k) l found = let next : from + suc k ≡ from + 1 + k = omega arith in rw next (got_from drivers (from + 1) ls k l found)

    got_wire : (drivers : List Driver) (ls : List Line) (k : ℕ) (l : Line) → slice_get ls k ≡ Some l → slice_get (shown_wires drivers 0 ls) k ≡ Some (shown_wire drivers k)
    got_wire drivers ls k l found = let none : 0 + k ≡ k = omega arith in got_from drivers 0 ls k l found ∙ ap (λ (j : ℕ). Some (shown_wire drivers j)) none
