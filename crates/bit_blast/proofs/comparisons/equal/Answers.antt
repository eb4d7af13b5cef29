use Rattle.std.proofs.Common.{◌≡◌, ℕ, ◌+◌, ◌*◌, [], ◌∷◌, List, ap, subst, arith}
use Rattle.bit_laws.specs.BitNames.{further}
use Rattle.bit_laws.specs.Bitnet.{Node}
use Rattle.bit_laws.specs.Blast.{equal_nodes, gate_of}
use Rattle.bit_laws.specs.Gates.Gate.{always}
use Rattle.bit_nodes.specs.Standing.{node_of}
use Rattle.bit_nodes.specs.declared.nodes.BitGate.TheVariants.{Alike, Always, Both, Buffer}
use Rattle.bit_nodes.specs.declared.nodes.BitName.TheVariants.{Bit, Further}
use Rattle.bit_nodes.specs.declared.nodes.BitNode.TheVariants.{Table}
use Rattle.bit_blast.specs.Adding.{Adds}
use Rattle.bit_blast.specs.Names.{lowest}
use Rattle.bit_blast.proofs.Adding.{one_more, pushed, two_more}
use Rattle.bit_blast.proofs.Steps.{equal_end, equal_step}
use Rattle.bit_blast.proofs.comparisons.equal.Goals as goal

pub loop-place-init : goal.loop-place-init
loop-place-init c = λ flat.
    pushed flat c.args.nodes.now.items c.push.new.self.items (Table Always (Further c.args.w 0)) c.in_ok-push.ensures.items

pub loop-place-preserved : goal.loop-place-preserved
loop-place-preserved c = λ flat.
    let a = c.args.a in
    let b = c.args.b in
    let w = c.args.w in
    let j = c.loop-place.place in
    two_more flat c.args.nodes.now.items c.loop-place.nodes.items c.push-in-loop-place.new.self.items c.push-in-loop-place-2.new.self.items _ _
    (Table (Alike (Bit a j) (Bit b j)) (Further w (2 * j + 1)))
    (Table (Both (Further w (2 * j)) (Further w (2 * j + 1))) (Further w (2 * j + 2)))
    (c.loop-place.invariant flat) c.in_ok-push-2.ensures.items c.in_ok-push-3.ensures.items
    (ap (λ (ns : List Node). node_of flat (Table Always (Further w 0)) ∷ ns) (equal_step flat w a b j))

pub returns : goal.returns
returns c = λ flat.
    let a = c.args.a in
    let b = c.args.b in
    let w = c.args.w in
    let n = c.args.width in
    let done : c.loop-place.place ≡ n = omega arith in
    let before : Adds flat c.args.nodes.now.items c.loop-place.nodes.items
    (gate_of always [] (further w.number 0) ∷ equal_nodes w.number (lowest flat a.number n) (lowest flat b.number n)) =
    subst (λ (i : ℕ). Adds flat c.args.nodes.now.items c.loop-place.nodes.items
    (gate_of always [] (further w.number 0) ∷ equal_nodes w.number (lowest flat a.number i) (lowest flat b.number i)))
    done (c.loop-place.invariant flat) in
    one_more flat c.args.nodes.now.items c.loop-place.nodes.items c.push-2.new.self.items _ _ (Table (Buffer (Further w (2 * n))) (Bit w 0)) before
    c.in_ok-push-4.ensures.items (equal_end flat w a b n)
