use Rattle.std.proofs.Common.{◌≡◌, ◌∙◌, sym, ap, ℕ, ◌+◌, ◌-◌, ◌<◌, arith, List, [], ◌∷◌, length, refl}
use Rattle.std.proofs.lemmas.Result.{IfOk-equal}
use Rattle.chw_base.specs.declared.index.WireId.{WireId}
use Rattle.netlist.specs.declared.net.Cell.{Cell}
use Rattle.netlist.specs.declared.net.Cell.TheVariants.{Use}
use Rattle.net_built.specs.Circuits.{use_cells}
use Rattle.net_built.specs.Wires.{present, wire_count, wires_from, ◌▸◌}
use Rattle.net_pieces.proofs.Behind.{next_behind, wires_then_cells, use_some, use_none}
use Rattle.net_pieces.proofs.copies.used.Goals as goal

pub returns-then-count-eq0 : goal.returns-then-count-eq0
returns-then-count-eq0 c =
    let s = c.args.into.now in
    let t = c.add_wires.new.self in
    let widths : List ℕ = c.args.widths.now in
    let more : length t.widths ≡ length s.widths + wire_count widths =
    next_behind s t (record { widths = present widths; cells = [] }) c.in_ok-add_wires.ensures in
    let none : wire_count widths ≡ 0 =
    omega (arith, more, c.next-first.ensures, c.next.ensures, c.if-count-eq0.true) in
    c.in_ok-add_wires.ensures
    ∙ ap (λ (cs : List Cell). s ▸ record { widths = present widths; cells = cs })
    (sym (use_none (length s.widths) widths (λ drives. Use c.args.callee c.args.reads.now drives) none))

pub returns : goal.returns
returns c =
    let s = c.args.into.now in
    let t = c.add_wires.new.self in
    let widths : List ℕ = c.args.widths.now in
    let n : ℕ = length s.widths in
    let reads : List WireId = c.args.reads.now in
    let given : List WireId = c.from.result in
    let drives : List WireId = c.in_ok-drives.drives in
    let more : length t.widths ≡ n + wire_count widths =
    next_behind s t (record { widths = present widths; cells = [] }) c.in_ok-add_wires.ensures in
    let some : 0 < wire_count widths =
    omega (arith, more, c.next-first.ensures, c.next.ensures, c.if-count-eq0.false) in
    let count : c.next.result - c.next-first.result ≡ wire_count widths =
    omega (arith, more, c.next-first.ensures, c.next.ensures) in
    let reads_is : given ≡ reads = c.from.ensures ∙ c.in_ok-reads.ensures.items in
    let drives_is : drives ≡ wires_from n (wire_count widths) =
    c.in_ok-drives.ensures ∙ ap (λ (k : ℕ). wires_from k (c.next.result - c.next-first.result)) c.next-first.ensures
    ∙ ap (wires_from n) count in
    let cells : Use c.args.callee given drives ∷ [] ≡ use_cells n widths (λ ds. Use c.args.callee reads ds) =
    (λ i. Use c.args.callee (reads_is i) (drives_is i) ∷ [])
    ∙ sym (use_some n widths (λ ds. Use c.args.callee reads ds) some) in
    IfOk-equal c.add_cell.result c.add_cell.new.self
    (t ▸ record { widths = []; cells = Use c.args.callee given drives ∷ [] })
    (s ▸ record { widths = present widths; cells = use_cells n widths (λ ds. Use c.args.callee reads ds) })
    c.add_cell.ensures
    (wires_then_cells s t (t ▸ record { widths = []; cells = Use c.args.callee given drives ∷ [] }) (present widths)
    (Use c.args.callee given drives ∷ []) c.in_ok-add_wires.ensures refl
    ∙ ap (λ (cs : List Cell). s ▸ record { widths = present widths; cells = cs }) cells)
