-- The nodes of the net of single bits: how many there are, and the text of them.
use Rattle.std.proofs.Common.{◌≡◌, ◌<◌, ◌≤◌, ◌^◌, ℕ, List, length, sym, ap, arith, ◌∙◌}
use Rattle.std.proofs.lemmas.List.{length-map}
use Rattle.bit_blast.specs.declared.limit.TheConstants.{BIT_NODES}
use Rattle.bit_laws.specs.Bitnet.{Bitnet}
use Rattle.bit_laws.specs.Blast.{blast}
use Rattle.bit_nodes.specs.Standing.{bitnet_of, node_of}
use Rattle.bit_nodes.specs.declared.nodes.BitNode.{BitNode}
use Rattle.blif_text.specs.Printed.{blif_text}
use Rattle.chw_cli.specs.Bits.{HasFewBits}
use Rattle.netlist.specs.declared.net.Flat.{Flat}

-- where the nodes are those of the flat net, it has as many single bits
pub few_bits : (flat : Flat) (nodes : List BitNode) → bitnet_of flat nodes ≡ blast flat → length nodes ≤ BIT_NODES → HasFewBits flat
few_bits flat nodes same few =
    let as_many : length (blast flat).nodes ≡ length nodes = ap (λ (b : Bitnet). length b.nodes) (sym same) ∙ length-map nodes (node_of flat) in
    omega (arith, as_many, few)

-- few of them are fewer than 2 to the 64
pub fits_in_a_word : (flat : Flat) → HasFewBits flat → length (blast flat).nodes < 2 ^ 64
fits_in_a_word flat few = omega (arith, few)

-- the text of the nodes is that of the flat net's single bits
pub text_of_nodes : (flat : Flat) (nodes read : List BitNode) (text bytes : List ℕ) → read ≡ nodes → bitnet_of flat nodes ≡ blast flat
    → text ≡ blif_text (bitnet_of flat read) → bytes ≡ text → bytes ≡ blif_text (blast flat)
text_of_nodes flat nodes read text bytes same are is given =
    given ∙ is ∙ ap (λ (ns : List BitNode). blif_text (bitnet_of flat ns)) same ∙ ap blif_text are
