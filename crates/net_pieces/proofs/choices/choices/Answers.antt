use Rattle.std.proofs.Common.{◌≡◌, ◌∙◌, ap, ℕ, ◌-◌, ◌≤◌, reverse, take, length, min, get_or, arith, List}
use Rattle.std.specs.Prelude.{zip}
use Rattle.chw_base.specs.declared.index.WireId.{WireId}
use Rattle.netlist.specs.declared.net.Cell.TheVariants.{Mux}
use Rattle.net_built.specs.Data.{choices}
use Rattle.net_built.specs.Wires.{wire, one, ◌▸◌}
use Rattle.net_pieces.proofs.Choosing.{all_pairs, choice_next}
use Rattle.net_pieces.proofs.choices.choices.Goals as goal

pub loop-i-init : goal.loop-i-init
loop-i-init c =
    let s = c.args.into.now in
    let firsts : List WireId = c.args.tested.now in
    let seconds : List WireId = c.args.results.now in
    ap (λ (n : ℕ). s ▸ choices c.args.width (reverse (take n (zip firsts seconds))) c.args.other (length s.widths)) c.min-count.ensures
    ∙ ap (λ (xs : List (WireId × WireId)). s ▸ choices c.args.width (reverse xs) c.args.other (length s.widths)) (all_pairs firsts seconds)

pub loop-i-preserved : goal.loop-i-preserved
loop-i-preserved c =
    let s = c.loop-i.into in
    let t = c.one.new.self in
    let i : ℕ = c.loop-i.i in
    let width : ℕ = c.args.width in
    let firsts : List WireId = c.args.tested.now in
    let seconds : List WireId = c.args.results.now in
    let d : WireId = wire 0 in
    let left : List (WireId × WireId) = reverse (take (i - 1) (zip firsts seconds)) in
    let few : i ≤ min (length firsts) (length seconds) = omega (arith, c.loop-i.auto.i, c.min-count.ensures) in
    let e : t ≡ s ▸ one width (Mux (wire (length s.widths)) (get_or firsts (i - 1) d) (get_or seconds (i - 1) d) c.loop-i.other) =
    c.in_ok-one.ensures
    ∙ ap (λ (w : WireId). s ▸ one width (Mux w (get_or firsts (i - 1) d) (get_or seconds (i - 1) d) c.loop-i.other)) c.next_wire-w.ensures in
    ap (λ (w : WireId). t ▸ choices width left w (length t.widths)) c.next_wire-w.ensures
    ∙ choice_next s t width firsts seconds i d c.loop-i.other c.requires c.loop-i-test.true few e
    ∙ c.loop-i.invariant
