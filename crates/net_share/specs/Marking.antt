-- Wires that are found to be needed, in order, and marks of them.
use Rattle.std.specs.Prelude.{◌≡◌, ℕ, ◌+◌, ◌<◌, Bool, true, false, List, [], ◌∷◌, length, map}
use Rattle.std.specs.Prelude.{Some, slice_get, slice_index, ◌⊎◌}
use Rattle.chw_base.specs.declared.index.WireId.{WireId}
use Rattle.netlist.specs.Wires.{read_by}
use Rattle.netlist.specs.declared.net.Cell.{Cell}
use Rattle.netlist.specs.declared.net.Flat.{Flat}
use Rattle.net_share.specs.Copying.{Drives}
use Rattle.share_laws.specs.Same.{IsOpen}
use Rattle.share_laws.specs.Shares.{IsAmong, IsLive}

-- how many marks are not set
abbrev pub unmarked : List Bool → ℕ
unmarked [] = 0
unmarked (true ∷ marks) = unmarked marks
unmarked (false ∷ marks) = unmarked marks + 1

-- the wires that were found are those that are marked, each once
pub record AreMarked (marks : List Bool) (found : List ℕ) : Type 0 where
  pub marked : (k w : ℕ) → slice_get found k ≡ Some w → slice_get marks w ≡ Some true
  pub each_found : (w : ℕ) → slice_get marks w ≡ Some true → IsAmong found w
  pub counted : unmarked marks + length found ≡ length marks

-- these wires were marked and no others, and found behind those before
pub record Marks (marks : List Bool) (found : List ℕ) (marks' : List Bool) (found' wires : List ℕ)
    : Type 0 where
  pub marked : AreMarked marks' found'
  pub count : length marks' ≡ length marks
  pub behind : (k w : ℕ) → slice_get found k ≡ Some w → slice_get found' k ≡ Some w
  pub all : (w : ℕ) → IsAmong wires w → IsAmong found' w
  pub only : (w : ℕ) → IsAmong found' w → IsAmong found w ⊎ IsAmong wires w

-- the wires that serve these
abbrev pub served : List ℕ → List WireId → List ℕ
served servers wires = map (λ w. slice_index servers w.number) wires

-- the list tells what serves the wire
abbrev pub IsListed : List ℕ → WireId → Type 0
IsListed servers w = w.number < length servers

-- unless bits of the wire are known, what serves the wires that its cell reads was found
abbrev pub NeedsFound : Flat → (servers found : List ℕ) → ℕ → Type 0
NeedsFound flat servers found w =
    IsOpen flat w → (cell : Cell) → Drives flat w cell
    → (k : ℕ) (r : WireId) → slice_get (read_by cell) k ≡ Some r
    → IsAmong found (slice_index servers r.number)

-- what the wire needs was found and nothing else, behind the wires that were found before
pub record LooksAt (flat : Flat) (servers : List ℕ) (w : ℕ) (marks : List Bool) (found : List ℕ)
    (marks' : List Bool) (found' : List ℕ) : Type 0 where
  pub marked : AreMarked marks' found'
  pub count : length marks' ≡ length marks
  pub behind : (k v : ℕ) → slice_get found k ≡ Some v → slice_get found' k ≡ Some v
  pub needs : NeedsFound flat servers found' w
  pub only : (v : ℕ) → IsAmong found' v → IsAmong found v ⊎ (IsLive flat w → IsLive flat v)

-- So far needed wires were found, among them those that outputs need, and also what the wires
-- before this place need.
pub record LookedAt (flat : Flat) (servers : List ℕ) (marks : List Bool) (found : List ℕ)
    (next : ℕ) : Type 0 where
  pub marked : AreMarked marks found
  pub count : length marks ≡ length flat.widths
  pub live : (w : ℕ) → IsAmong found w → IsLive flat w
  pub outputs : (k : ℕ) (o : WireId) → slice_get flat.outputs k ≡ Some o
      → IsAmong found (slice_index servers o.number)
  pub needs : (k w : ℕ) → k < next → slice_get found k ≡ Some w → NeedsFound flat servers found w

-- exactly the needed wires are marked
pub record MarkLive (flat : Flat) (marks : List Bool) : Type 0 where
  pub count : length marks ≡ length flat.widths
  pub live : (w : ℕ) → slice_get marks w ≡ Some true → IsLive flat w
  pub all : (w : ℕ) → IsLive flat w → slice_get marks w ≡ Some true
