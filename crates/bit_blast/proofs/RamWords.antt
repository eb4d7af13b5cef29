-- RAMs: one word after another.
use Rattle.std.proofs.Common.{◌≡◌, ℕ, zero, suc, ◌+◌, ◌-◌, ◌*◌, ◌<◌, ◌≤◌, Bool, false, List, [], ◌∷◌, ◌++◌, length, map, get_or, drop, replicate, Some, refl, sym, ap, subst, ◌∙◌, add-one, zero-add, arith}
use Rattle.std.specs.Prelude.{slice_get, slice_index}
use Rattle.std.proofs.lemmas.List.{append-nil, append_assoc, drop_all, drop_more}
use Rattle.std.proofs.lemmas.Option.{get_or_from_slice_get}
use Rattle.chw_base.specs.declared.index.DomId.{DomId}
use Rattle.chw_base.specs.declared.index.WireId.{WireId}
use Rattle.netlist.specs.declared.net.Cell.TheVariants.{Ram}
use Rattle.netlist.specs.declared.net.Flat.{Flat}
use Rattle.netlist.specs.declared.net.RamIn.{RamIn}
use Rattle.bit_laws.specs.BitNames.{bit_name, further, furthers}
use Rattle.bit_laws.specs.Bitnet.{Node, clock_of}
use Rattle.bit_laws.specs.Bitnet.Node.{latch}
use Rattle.bit_laws.specs.Blast.{RamNames, all_zeros, constants, gate_of, nodes_of, ram_nodes, ram_shown, ram_words}
use Rattle.bit_laws.specs.Blast.{register_nodes, shown_names, word, word_nodes}
use Rattle.bit_laws.specs.Gates.Gate.{added, choice, never}
use Rattle.bit_nodes.specs.Standing.{node_of}
use Rattle.bit_nodes.specs.declared.nodes.BitGate.TheVariants.{Never}
use Rattle.bit_nodes.specs.declared.nodes.BitName.TheVariants.{Bit, Further}
use Rattle.bit_nodes.specs.declared.nodes.BitNode.{BitNode}
use Rattle.bit_nodes.specs.declared.nodes.BitNode.TheVariants.{Latch, Table}
use Rattle.bit_blast.specs.Adding.{Adds}
use Rattle.bit_blast.specs.Latches.{addressed, kept_bit, names_read}
use Rattle.bit_blast.specs.Names.{lowest}
use Rattle.bit_blast.specs.Numbering.{nth, spaced}
use Rattle.bit_blast.specs.declared.numbers.Numbers.{Numbers}
use Rattle.bit_blast.specs.declared.numbers.Numbers.TheVariants.{Each, EachThird}
use Rattle.bit_blast.specs.declared.rams.Memory.{Memory}
use Rattle.bit_blast.proofs.Adding.{added_as, both_added, one_added}
use Rattle.bit_blast.proofs.ByPlaces.{by_places_furthers}
use Rattle.bit_blast.proofs.Latches.{bits_all, bits_more}
use Rattle.bit_blast.proofs.Places.{length-by_places, lowest_all}

-- one more zero
pub zeros_more : (flat : Flat) (old mid new : List BitNode) (w : WireId) (j : ℕ)
    → Adds flat old mid (constants (furthers w.number 0 j) (replicate j false)) → new ≡ mid ++ Table Never (Further w j) ∷ []
    → Adds flat old new (constants (furthers w.number 0 (j + 1)) (replicate (j + 1) false))
zeros_more flat old mid new w j h e =
    let before = constants (furthers w.number 0 j) (replicate j false) in
    let there : ℕ → List Node = λ (i : ℕ). before ++ gate_of never [] (further w.number i) ∷ [] in
    subst (λ (n : ℕ). Adds flat old new (constants (furthers w.number 0 n) (replicate n false))) (sym (add-one j))
    (added_as flat old new (there j) (there (0 + j)) (ap there (sym (zero-add j))) (one_added flat old mid new before (Table Never (Further w j)) h e))

-- what is shown behind a word
pub spaced_shown : (k x n : ℕ) → spaced k (EachThird (x + 4)) n ≡ shown_names k x n
spaced_shown k x zero = refl
spaced_shown k x (suc n) =
    let number : x + 4 + 3 * n ≡ x + (3 * n + 4) = omega arith in
    ap (λ (m : ℕ). further k m ∷ spaced k (EachThird (x + 4)) n) number
    ∙ ap (λ (r : List (List ℕ)). further k (x + (3 * n + 4)) ∷ r) (spaced_shown k x n)

-- the nodes of a bit of a word, by three numbers
abbrev numbered : (k x : ℕ) (clock c v : List ℕ) → Bool → (q next out : ℕ) → List Node
numbered k x clock c v bit q next out =
    latch (further k next) (further k q) clock bit ∷ gate_of choice (further k x ∷ v ∷ further k q ∷ []) (further k next)
    ∷ gate_of added (c ∷ further k (x + 1) ∷ further k q ∷ []) (further k out) ∷ []

word_step : (k x : ℕ) (clock c v : List ℕ) (bit : Bool) (cs values : List (List ℕ)) (bits : List Bool) (j : ℕ) → length cs ≡ j
    → word_nodes k x clock cs values bits ++ kept_bit k x (x + (3 * j + 2)) clock c v bit
    ≡ word_nodes k x clock (c ∷ cs) (v ∷ values) (bit ∷ bits)
word_step k x clock c v bit cs values bits j e =
    let q : x + (3 * j + 2) ≡ x + (3 * length cs + 2) = omega arith in
    let next : x + (3 * j + 2) + 1 ≡ x + (3 * length cs + 3) = omega arith in
    let out : x + (3 * j + 2) + 2 ≡ x + (3 * length cs + 4) = omega arith in
    let before = word_nodes k x clock cs values bits in
    ap (λ (n : ℕ). before ++ numbered k x clock c v bit n (x + (3 * j + 2) + 1) (x + (3 * j + 2) + 2)) q
    ∙ ap (λ (n : ℕ). before ++ numbered k x clock c v bit (x + (3 * length cs + 2)) n (x + (3 * j + 2) + 2)) next
    ∙ ap (λ (n : ℕ). before ++ numbered k x clock c v bit (x + (3 * length cs + 2)) (x + (3 * length cs + 3)) n) out

pub word_more : (flat : Flat) (old mid new : List BitNode) (k x a : ℕ) (domain : DomId) (shown : Numbers) (bits : List Bool) (n j : ℕ) (bit : Bool)
    → n ≡ length bits → j < n
    → Adds flat old mid (word_nodes k x (clock_of flat.ports domain) (spaced k shown j) (lowest flat a j) (drop (n - j) bits))
    → Adds flat mid new
    (kept_bit k x (x + (3 * j + 2)) (clock_of flat.ports domain) (further k (nth shown j)) (bit_name flat.ports a j) bit)
    → bit ≡ get_or bits (n - 1 - j) false
    → Adds flat old new (word_nodes k x (clock_of flat.ports domain) (spaced k shown (j + 1)) (lowest flat a (j + 1)) (drop (n - (j + 1)) bits))
word_more flat old mid new k x a domain shown bits n j bit e less h p f =
    let clock = clock_of flat.ports domain in
    let before = word_nodes k x clock (spaced k shown j) (lowest flat a j) (drop (n - j) bits) in
    let own = kept_bit k x (x + (3 * j + 2)) clock (further k (nth shown j)) (bit_name flat.ports a j) bit in
    let rest = drop (n - (j + 1)) bits in
    subst (λ (q : ℕ). Adds flat old new (word_nodes k x clock (spaced k shown q) (lowest flat a q) rest)) (sym (add-one j))
    (added_as flat old new (before ++ own) (word_nodes k x clock (spaced k shown (suc j)) (lowest flat a (suc j)) rest)
    (word_step k x clock (further k (nth shown j)) (bit_name flat.ports a j) bit (spaced k shown j) (lowest flat a j) (drop (n - j) bits) j
    (length-by_places (λ i. further k (nth shown i)) j)
    ∙ ap (λ (bs : List Bool). word_nodes k x clock (spaced k shown (suc j)) (lowest flat a (suc j)) bs) (sym (bits_more bits n j bit e less f)))
    (both_added flat old mid new before own h p))

-- the latches that show what was read
pub shown_more : (flat : Flat) (old mid new : List BitNode) (w : WireId) (domain : DomId) (shown : Numbers) (j number : ℕ)
    → Adds flat old mid (register_nodes (clock_of flat.ports domain) (lowest flat w.number j) (spaced w.number shown j) (replicate j false))
    → new ≡ mid ++ Latch (Further w number) (Bit w j) domain false ∷ [] → number ≡ nth shown j
    → Adds flat old new
    (register_nodes (clock_of flat.ports domain) (lowest flat w.number (j + 1)) (spaced w.number shown (j + 1)) (replicate (j + 1) false))
shown_more flat old mid new w domain shown j number h e f =
    let clock = clock_of flat.ports domain in
    let before = register_nodes clock (lowest flat w.number j) (spaced w.number shown j) (replicate j false) in
    let there : ℕ → List Node = λ (i : ℕ). before ++ latch (further w.number i) (bit_name flat.ports w.number j) clock false ∷ [] in
    subst (λ (q : ℕ). Adds flat old new (register_nodes clock (lowest flat w.number q) (spaced w.number shown q) (replicate q false))) (sym (add-one j))
    (added_as flat old new (there number) (there (nth shown j)) (ap there f)
    (one_added flat old mid new before (Latch (Further w number) (Bit w j) domain false) h e))

-- the words from this address on, where the first node of the next word has this number
abbrev pub words_from : Flat → Memory → (x at : ℕ) → Numbers → List (List Bool) → List Node
words_from flat memory x at shown words =
    ram_words memory.wire.number memory.width x at (clock_of flat.ports memory.domain) (names_read flat memory.inputs memory.width)
    (spaced memory.wire.number shown memory.width) (drop at words)

-- the nodes of one more word
pub words_more : (flat : Flat) (mid new : List BitNode) (memory : Memory) (x at : ℕ) (shown : Numbers) (words : List (List Bool)) (bits : List Bool)
    → at < length words → bits ≡ get_or words at [] → Adds flat mid new (addressed flat memory at x shown bits)
    → map (node_of flat) new ++ words_from flat memory (x + (2 + 3 * memory.width)) (at + 1) (EachThird (x + 4)) words
    ≡ map (node_of flat) mid ++ words_from flat memory x at shown words
words_more flat mid new memory x at shown words bits less e h =
    let k = memory.wire.number in
    let clock = clock_of flat.ports memory.domain in
    let names = names_read flat memory.inputs memory.width in
    let own = addressed flat memory at x shown bits in
    let later = ram_words k memory.width (x + (2 + 3 * memory.width)) (at + 1) clock names in
    let rest = drop (at + 1) words in
    let old = map (node_of flat) mid in
    ap (λ (cs : List (List ℕ)). map (node_of flat) new ++ later cs rest) (spaced_shown k x memory.width)
    ∙ ap (λ (ns : List Node). ns ++ later (shown_names k x memory.width) rest) h
    ∙ append_assoc old own (later (shown_names k x memory.width) rest)
    ∙ ap (λ (bs : List Bool). old ++ ram_words k memory.width x at clock names (spaced k shown memory.width) (bs ∷ rest)) e
    ∙ ap (λ (ws : List (List Bool)). old ++ ram_words k memory.width x at clock names (spaced k shown memory.width) ws)
    (sym (drop_more words at [] less))

-- what is shown behind one more word
pub shown_names_more : (k width x at : ℕ) (shown : Numbers) (words : List (List Bool)) → at < length words
    → ram_shown k width (x + (2 + 3 * width)) (spaced k (EachThird (x + 4)) width) (drop (at + 1) words)
    ≡ ram_shown k width x (spaced k shown width) (drop at words)
shown_names_more k width x at shown words less =
    ap (λ (cs : List (List ℕ)). ram_shown k width (x + (2 + 3 * width)) cs (drop (at + 1) words)) (spaced_shown k x width)
    ∙ ap (λ (ws : List (List Bool)). ram_shown k width x (spaced k shown width) ws) (sym (drop_more words at [] less))

-- zeros are shown before the first word
pub first_shown : (k n : ℕ) → spaced k (Each 0) n ≡ furthers k 0 n
first_shown k n = by_places_furthers k 0 n

-- all bits of a word
pub word_all : (flat : Flat) (k x a : ℕ) (domain : DomId) (shown : Numbers) (bits : List Bool) (n j : ℕ) → j ≡ n
    → word_nodes k x (clock_of flat.ports domain) (spaced k shown j) (lowest flat a j) (drop (n - j) bits)
    ≡ word_nodes k x (clock_of flat.ports domain) (spaced k shown n) (lowest flat a n) bits
word_all flat k x a domain shown bits n j f =
    let nodes = word_nodes k x (clock_of flat.ports domain) in
    ap (λ (q : ℕ). nodes (spaced k shown q) (lowest flat a q) (drop (n - q) bits)) f
    ∙ ap (λ (bs : List Bool). nodes (spaced k shown n) (lowest flat a n) bs) (bits_all bits n)

-- all words
pub words_all : (flat : Flat) (old new : List BitNode) (memory : Memory) (x at : ℕ) (shown : Numbers) (words : List (List Bool)) → length words ≤ at
    → map (node_of flat) new ++ words_from flat memory x at shown words
    ≡ map (node_of flat) old ++ words_from flat memory memory.width 0 (Each 0) words
    → Adds flat old new
    (ram_words memory.wire.number memory.width memory.width 0 (clock_of flat.ports memory.domain) (names_read flat memory.inputs memory.width)
    (furthers memory.wire.number 0 memory.width) words)
words_all flat old new memory x at shown words le h =
    let k = memory.wire.number in
    let names = names_read flat memory.inputs memory.width in
    let clock = clock_of flat.ports memory.domain in
    let made = map (node_of flat) new in
    sym (append-nil made)
    ∙ ap (λ (ws : List (List Bool)). made ++ ram_words k memory.width x at clock names (spaced k shown memory.width) ws) (sym (drop_all at words le))
    ∙ h
    ∙ ap (λ (cs : List (List ℕ)). map (node_of flat) old ++ ram_words k memory.width memory.width 0 clock names cs words) (first_shown k memory.width)

pub shown_all : (k width x at : ℕ) (shown : Numbers) (words : List (List Bool)) → length words ≤ at
    → ram_shown k width x (spaced k shown width) (drop at words) ≡ ram_shown k width width (spaced k (Each 0) width) words
    → spaced k shown width ≡ ram_shown k width width (furthers k 0 width) words
shown_all k width x at shown words le h =
    ap (λ (ws : List (List Bool)). ram_shown k width x (spaced k shown width) ws) (sym (drop_all at words le)) ∙ h
    ∙ ap (λ (cs : List (List ℕ)). ram_shown k width width cs words) (first_shown k width)

-- what a RAM reads, with these names of its value
abbrev names_with : Flat → RamIn → List (List ℕ) → RamNames
names_with flat inputs value = record {
  read = word flat inputs.read.number;
  enable = word flat inputs.enable.number;
  place = word flat inputs.place.number;
  value = value;
}

-- the nodes of a RAM from its parts
pub ram_is : (flat : Flat) (w : WireId) (domain : DomId) (words : List (List Bool)) (inputs : RamIn) (n m : ℕ) (shown : Numbers)
    → slice_get flat.widths w.number ≡ Some m → slice_get flat.widths inputs.value.number ≡ Some m → n ≡ slice_index flat.widths w.number
    → spaced w.number shown n ≡ ram_shown w.number n n (furthers w.number 0 n) words
    → constants (furthers w.number 0 n) (all_zeros n)
    ++ (ram_words w.number n n 0 (clock_of flat.ports domain) (names_read flat inputs n) (furthers w.number 0 n) words
    ++ register_nodes (clock_of flat.ports domain) (lowest flat w.number n) (spaced w.number shown n) (all_zeros n))
    ≡ nodes_of flat (Ram w domain words inputs)
ram_is flat w domain words inputs n m shown e f own s =
    let k = w.number in
    let clock = clock_of flat.ports domain in
    let zeros = constants (furthers k 0 n) (all_zeros n) in
    let wide : n ≡ m = own ∙ get_or_from_slice_get flat.widths w.number m 0 e in
    let value : lowest flat inputs.value.number n ≡ word flat inputs.value.number =
    ap (λ (q : ℕ). lowest flat inputs.value.number q) wide ∙ lowest_all flat inputs.value.number m f in
    let names = names_with flat inputs (word flat inputs.value.number) in
    ap (λ (cs : List (List ℕ)). zeros
    ++ (ram_words k n n 0 clock (names_read flat inputs n) (furthers k 0 n) words ++ register_nodes clock (lowest flat k n) cs (all_zeros n))) s
    ∙ ap (λ (vs : List (List ℕ)). ram_nodes k n clock (lowest flat k n) (names_with flat inputs vs) words) value
    ∙ ap (λ (q : ℕ). ram_nodes k q clock (lowest flat k q) names words) own
