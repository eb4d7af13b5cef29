-- The cells of memories, and the bits of constants.
use Rattle.std.specs.Prelude.{◌≡◌, ℕ, zero, suc, ◌+◌, ◌-◌, ◌==◌, Bool, List, [], ◌∷◌}
use Rattle.std.specs.Prelude.{if◌then◌else◌, nat_lt}
use Rattle.chw_base.specs.declared.index.DomId.{DomId}
use Rattle.chw_base.specs.declared.index.WireId.{WireId}
use Rattle.chw_base.specs.declared.limits.TheConstants.{ADDRESS_BITS}
use Rattle.chw_bits.specs.Bits.{bits_of}
use Rattle.chw_types.specs.declared.declarations.Data.{Data}
use Rattle.chw_types.specs.declared.kind.Scalar.{Scalar}
use Rattle.chw_types.specs.TypeTree.{TypeTree}
use Rattle.chw_terms.specs.TermTree.{TermTree, con, lit, vec_lit, Terms}
use Rattle.chw_layout.specs.Datum.{Datum, word, built, elements, Datums, no_data, datum_and}
use Rattle.chw_layout.specs.Encodes.{Encodes}
use Rattle.netlist.specs.declared.net.Cell.TheVariants.{Const, Join, Cut, Bin, Mux, Ram}
use Rattle.netlist.specs.declared.net.Op2.TheVariants.{LtU}
use Rattle.net_built.specs.Terms.{head_of, operands_of, list_of}
use Rattle.net_built.specs.Wires.{wire, new_wires, Piece, nothing, one, ◌▸◌, after, last_wire}
use Rattle.net_built.specs.Words.{zeros, only}

mutual
  -- the constant is this value
  pub data Denotes : TermTree → Datum → Type 0 where
    denotes_word : {s : Scalar} {bits : List Bool} → Denotes (lit s bits) (word bits)
    denotes_built : {e : TermTree} {c : ℕ} {ds : Datums}
        → head_of e ≡ con c → DenoteEach (operands_of e) ds → Denotes e (built c ds)
    denotes_elements : {t : TypeTree} {es : Terms} {ds : Datums}
        → DenoteEach (list_of es) ds → Denotes (vec_lit t es) (elements ds)

  pub data DenoteEach : List TermTree → Datums → Type 0 where
    denote_none : DenoteEach [] no_data
    denote_and : {e : TermTree} {es : List TermTree} {d : Datum} {ds : Datums}
        → Denotes e d → DenoteEach es ds → DenoteEach (e ∷ es) (datum_and d ds)

-- the constant of the type has these bits
pub record HasBits (datas : List Data) (t : TypeTree) (e : TermTree) (bits : List Bool)
    : Type 0 where
  pub value : Datum
  pub denotes : Denotes e value
  pub encodes : Encodes datas t value bits

-- each value of the type has these bits
abbrev pub EncodeEach : List Data → TypeTree → Datums → List (List Bool) → Type 0
EncodeEach datas t no_data [] = Unit {0}
EncodeEach datas t (datum_and d ds) (bits ∷ more) =
    Encodes datas t d bits × EncodeEach datas t ds more
EncodeEach datas t _ _ = ⊥

-- the constant is a vector of elements of the type, which have these bits
pub record HasWords (datas : List Data) (t : TypeTree) (e : TermTree) (words : List (List Bool))
    : Type 0 where
  pub values : Datums
  pub denotes : Denotes e (elements values)
  pub encode : EncodeEach datas t values words

-- a number that no memory reaches, in place of greater ones
abbrev pub past_all : ℕ
past_all = 4095

-- an address of more than 12 bits: where its number is over 4,094, the greatest of 12 bits; else
-- its low 12 bits
abbrev pub narrowed : (k at : ℕ) → List WireId → Piece
narrowed k at a =
    one k (Const (wire at) (bits_of k (past_all - 1)))
    ▸ one 1 (Bin (wire (at + 1)) LtU (wire at) (only a))
    ▸ one ADDRESS_BITS (Const (wire (at + 2)) (bits_of ADDRESS_BITS past_all))
    ▸ one ADDRESS_BITS (Cut (wire (at + 3)) (only a) (ADDRESS_BITS - 1) 0)
    ▸ one ADDRESS_BITS (Mux (wire (at + 4)) (wire (at + 1)) (wire (at + 2)) (wire (at + 3)))

-- an address of fewer bits, but not of none, with zeros before it
abbrev pub filled_up : (k at : ℕ) → List WireId → Piece
filled_up k at a =
    one (ADDRESS_BITS - k) (Const (wire at) (zeros (ADDRESS_BITS - k)))
    ▸ one ADDRESS_BITS (Join (wire (at + 1)) (wire at ∷ a))

-- an address of k bits as one of 12: of none zeros, and one of 12 as it is
abbrev pub address : (k at : ℕ) → List WireId → Piece
address zero at a = one ADDRESS_BITS (Const (wire at) (zeros ADDRESS_BITS))
address (suc k) at a =
    if suc k == ADDRESS_BITS then nothing
    else (if nat_lt (suc k) ADDRESS_BITS then filled_up (suc k) at a else narrowed (suc k) at a)

-- the wire of that address
abbrev pub address_wire : (k at : ℕ) → List WireId → WireId
address_wire k at a = if k == ADDRESS_BITS then only a else last_wire at (address k at a)

-- a memory of words of so many bits, with addresses of k bits, from its address to read and its
-- write: whether, where and what are cut from the write; both addresses get 12 bits; words without
-- bits need no memory
abbrev pub memory : (width k at : ℕ) → DomId → List (List Bool) → (read write : List WireId) → Piece
memory zero k at domain words read write = nothing
memory (suc w) k at domain words read write =
    let width : ℕ = suc w in
    let p : Piece =
    one 1 (Cut (wire at) (only write) (k + width) (k + width))
    ▸ one k (Cut (wire (at + 1)) (only write) (k + width - 1) width) in
    let q : Piece = p ▸ one width (Cut (wire (after at p)) (only write) (width - 1) 0) in
    let place : List WireId = new_wires (at + 1) (k ∷ []) in
    let r : Piece = address k (after at q) read in
    let s : Piece = address k (after (after at q) r) place in
    q ▸ r ▸ s
    ▸ one width
    (Ram (wire (after (after (after at q) r) s)) domain words
    (record {
      read = address_wire k (after at q) read;
      enable = wire at;
      place = address_wire k (after (after at q) r) place;
      value = last_wire at q;
    }))
