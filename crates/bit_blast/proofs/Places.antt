-- Words by places: the lowest bits of a wire, one place after another.
use Rattle.std.proofs.Common.{◌≡◌, ℕ, zero, suc, ◌+◌, List, [], ◌∷◌, ◌++◌, length, map, Some, slice_get, refl, sym, ap, ◌∙◌, add-one, zero-add}
use Rattle.std.proofs.lemmas.Option.{get_or_from_slice_get}
use Rattle.chw_base.specs.declared.index.WireId.{WireId}
use Rattle.netlist.specs.declared.net.Flat.{Flat}
use Rattle.bit_laws.specs.BitNames.{place_name, wire_name}
use Rattle.bit_laws.specs.Bitnet.{Node}
use Rattle.bit_laws.specs.Blast.{gate_of, on_each, word}
use Rattle.bit_nodes.specs.Standing.{name_of, node_of}
use Rattle.bit_nodes.specs.declared.nodes.BitName.{BitName}
use Rattle.bit_nodes.specs.declared.nodes.BitNode.{BitNode}
use Rattle.bit_nodes.specs.declared.nodes.BitNode.TheVariants.{Table}
use Rattle.bit_blast.specs.Adding.{Adds}
use Rattle.bit_blast.specs.Gating.{gate_of_one, with_one}
use Rattle.bit_blast.specs.Names.{bit_of, by_places, lowest, names_of}
use Rattle.bit_blast.specs.declared.gates.OneBit.{OneBit}
use Rattle.bit_blast.specs.declared.gates.OneBit.TheVariants.{Same, Opposite}
use Rattle.bit_blast.specs.declared.names.Word.{Word}
use Rattle.bit_blast.specs.declared.names.Word.TheVariants.{Part}
use Rattle.bit_blast.proofs.Adding.{one_added}
use Rattle.bit_blast.proofs.Counted.{length-word_names}

-- names that agree at each place
pub by_places_alike : (f g : ℕ → List ℕ) (n : ℕ) → ((j : ℕ) → f j ≡ g j) → by_places f n ≡ by_places g n
by_places_alike f g zero e = refl
by_places_alike f g (suc n) e =
    ap (λ (x : List ℕ). x ∷ by_places f n) (e n) ∙ ap (λ (xs : List (List ℕ)). g n ∷ xs) (by_places_alike f g n e)

pub length-by_places : (f : ℕ → List ℕ) (n : ℕ) → length (by_places f n) ≡ n
length-by_places f zero = refl
length-by_places f (suc n) = ap suc (length-by_places f n)

pub length-lowest : (flat : Flat) (w n : ℕ) → length (lowest flat w n) ≡ n
length-lowest flat w n = length-word_names (wire_name flat.ports w) n

-- the bits of a wire by places are its lowest bits
lowest_by_places : (flat : Flat) (w n : ℕ) → by_places (λ j. place_name (wire_name flat.ports w) j) n ≡ lowest flat w n
lowest_by_places flat w zero = refl
lowest_by_places flat w (suc n) =
    ap (λ (xs : List (List ℕ)). place_name (wire_name flat.ports w) n ∷ xs) (lowest_by_places flat w n)

pub lowest_names : (flat : Flat) (w : WireId) (n : ℕ) → names_of flat (Part w 0) n ≡ lowest flat w.number n
lowest_names flat w n =
    by_places_alike (λ j. name_of flat (bit_of (Part w 0) j)) (λ j. place_name (wire_name flat.ports w.number) j) n
    (λ j. ap (λ (i : ℕ). place_name (wire_name flat.ports w.number) i) (zero-add j))
    ∙ lowest_by_places flat w.number n

-- all bits of a wire
pub lowest_all : (flat : Flat) (w n : ℕ) → slice_get flat.widths w ≡ Some n → lowest flat w n ≡ word flat w
lowest_all flat w n e = ap (λ (k : ℕ). lowest flat w k) (sym (get_or_from_slice_get flat.widths w n 0 e))

-- one more node of a gate on each bit
node_of_one : (flat : Flat) (gate : OneBit) (a o : BitName)
    → node_of flat (Table (with_one gate a) o) ≡ gate_of (gate_of_one gate) (name_of flat a ∷ []) (name_of flat o)
node_of_one flat Same a o = refl
node_of_one flat Opposite a o = refl

pub each_more : (flat : Flat) (old mid new : List BitNode) (gate : OneBit) (outs xs : Word) (j : ℕ)
    → Adds flat old mid (on_each (gate_of_one gate) (names_of flat outs j) (names_of flat xs j))
    → new ≡ mid ++ Table (with_one gate (bit_of xs j)) (bit_of outs j) ∷ []
    → Adds flat old new (on_each (gate_of_one gate) (names_of flat outs (j + 1)) (names_of flat xs (j + 1)))
each_more flat old mid new gate outs xs j a e =
    rw add-one
    (one_added flat old mid new (on_each (gate_of_one gate) (names_of flat outs j) (names_of flat xs j)) (Table (with_one gate (bit_of xs j)) (bit_of outs j)) a e
    ∙ ap (λ (n : Node). map (node_of flat) old ++ (on_each (gate_of_one gate) (names_of flat outs j) (names_of flat xs j) ++ n ∷ []))
    (node_of_one flat gate (bit_of xs j) (bit_of outs j)))
