-- Widths of the wires of a sound flat net, and words by them.
use Rattle.std.proofs.Common.{◌≡◌, ℕ, ◌<◌, ◌≤◌, List, length, get_or, Some, slice_get, sym, ap, ◌∙◌, ◌⊎◌, inl, inr, Result, Ok, Err, arith}
use Rattle.std.specs.Prelude.{slice_index, OnOk}
use Rattle.std.proofs.lemmas.List.{get_or_past}
use Rattle.std.proofs.lemmas.Bool.{cases_lt}
use Rattle.std.proofs.lemmas.Option.{get_or_from_slice_get, slice_get-get_or}
use Rattle.chw_base.specs.declared.index.WireId.{WireId}
use Rattle.chw_base.specs.declared.limits.TheConstants.{WIRE_BITS}
use Rattle.netlist.specs.Sound.{IsWireWidth, Sound}
use Rattle.netlist.specs.declared.net.Flat.{Flat}
use Rattle.netlist.proofs.Places.{all_at}
use Rattle.bit_laws.specs.Bitnet.{Node}
use Rattle.bit_laws.specs.Blast.{on_each, word}
use Rattle.bit_laws.specs.Gates.{Gate}
use Rattle.bit_nodes.specs.declared.nodes.BitNode.{BitNode}
use Rattle.bit_blast.specs.Adding.{Adds}
use Rattle.bit_blast.specs.Names.{lowest, names_of}
use Rattle.bit_blast.specs.declared.names.Word.TheVariants.{Part}
use Rattle.bit_blast.proofs.Adding.{added_as}
use Rattle.bit_blast.proofs.Places.{lowest_names}

pub width_known : (flat : Flat) (w : ℕ) → Sound flat → w < length flat.widths → IsWireWidth (slice_index flat.widths w)
width_known flat w sound less = all_at IsWireWidth flat.widths w (get_or flat.widths w 0) sound.widths (slice_get-get_or flat.widths w 0 less)

pub width_within : (flat : Flat) (w : ℕ) → Sound flat → slice_index flat.widths w ≤ WIRE_BITS
width_within flat w sound = by_case (cases_lt w (length flat.widths))
  where
    by_case : (w < length flat.widths) ⊎ (length flat.widths ≤ w) → slice_index flat.widths w ≤ WIRE_BITS
    by_case (inl less) = (width_known flat w sound less).1
    by_case (inr past) = omega (arith, get_or_past flat.widths w 0 past)

-- wires of one width
pub as_wide : (flat : Flat) (a b n : ℕ) → slice_get flat.widths a ≡ Some n → slice_get flat.widths b ≡ Some n
    → slice_index flat.widths a ≡ slice_index flat.widths b
as_wide flat a b n e f = get_or_from_slice_get flat.widths a n 0 e ∙ sym (get_or_from_slice_get flat.widths b n 0 f)

-- the lowest bits of three wires, so many, are their words
pub words_of : (flat : Flat) (F : List (List ℕ) → List (List ℕ) → List (List ℕ) → List Node) (w a b k m n : ℕ)
    → k ≡ slice_index flat.widths w → m ≡ slice_index flat.widths a → n ≡ slice_index flat.widths b
    → F (lowest flat w k) (lowest flat a m) (lowest flat b n) ≡ F (word flat w) (word flat a) (word flat b)
words_of flat F w a b k m n d e f =
    ap (λ (i : ℕ). F (lowest flat w i) (lowest flat a m) (lowest flat b n)) d
    ∙ ap (λ (i : ℕ). F (word flat w) (lowest flat a i) (lowest flat b n)) e
    ∙ ap (λ (i : ℕ). F (word flat w) (word flat a) (lowest flat b i)) f

-- what is added of each flat net is added of this one, and so is what equals it
pub every_then : {T E : Type 0} (r : Result T E) (flat : Flat) (old new : List BitNode) (F : Flat → List Node) (these : List Node) → F flat ≡ these
    → OnOk r ((flat : Flat) → Adds flat old new (F flat)) → OnOk r (Adds flat old new these)
every_then (Ok x) flat old new F these e h = added_as flat old new (F flat) these e (h flat)
every_then (Err x) flat old new F these e h = tt

pub ok_as : {T E : Type 0} (r : Result T E) (flat : Flat) (old new : List BitNode) (these those : List Node) → these ≡ those
    → OnOk r (Adds flat old new these) → OnOk r (Adds flat old new those)
ok_as (Ok x) flat old new these those e h = added_as flat old new these those e h
ok_as (Err x) flat old new these those e h = tt

-- a gate on each of the lowest bits of two wires is one on each bit of their words
pub each_words : (flat : Flat) (gate : Gate) (w a : WireId) (n : ℕ) → n ≡ slice_index flat.widths w.number → n ≡ slice_index flat.widths a.number
    → on_each gate (names_of flat (Part w 0) n) (names_of flat (Part a 0) n) ≡ on_each gate (word flat w.number) (word flat a.number)
each_words flat gate w a n e f =
    ap (λ (xs : List (List ℕ)). on_each gate xs (names_of flat (Part a 0) n)) (lowest_names flat w n ∙ ap (λ (i : ℕ). lowest flat w.number i) e)
    ∙ ap (λ (xs : List (List ℕ)). on_each gate (word flat w.number) xs) (lowest_names flat a n ∙ ap (λ (i : ℕ). lowest flat a.number i) f)
