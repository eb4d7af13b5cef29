-- Orders of made definitions by their uses, and what is known where none uses itself.
use Rattle.std.specs.Prelude.{◌≡◌, ℕ, ◌<◌, List, length, slice_index}
use Rattle.chw_terms.specs.declared.program.Program.{Program}
use Rattle.chw_terms.specs.declared.scene.Made.{Made}
use Rattle.chw_terms.specs.TermTree.{TermTree}
use Rattle.normal_forms.specs.Normal.{IsNormal}
use Rattle.normal_forms.specs.Uses.{Uses, IsAcyclic, WholeOf}
use Rattle.normal_form.specs.Entries.{IsEntry}

-- each made definition that is used is there
abbrev pub UsesAreThere : List Made → Type 0
UsesAreThere state = (m n : ℕ) → Uses state m n → n < length state

-- each made definition is a whole
abbrev pub EachIsWhole : List Made → Type 0
EachIsWhole state = (m : ℕ) → m < length state → (e : TermTree) × WholeOf state m e

-- all made definitions, each once and after those that it uses
pub record IsUseOrder (state : List Made) (ms : List ℕ) : Type 0 where
  pub size : length ms ≡ length state
  pub within : (i : ℕ) → i < length ms → slice_index ms i < length state
  pub once : (i j : ℕ) → i < length ms → j < length ms
      → slice_index ms i ≡ slice_index ms j → i ≡ j
  pub all : (m : ℕ) → m < length state → (i : ℕ) × (i < length ms) × (slice_index ms i ≡ m)
  pub after : (j n : ℕ) → j < length ms → Uses state (slice_index ms j) n
      → (i : ℕ) × (i < j) × (slice_index ms i ≡ n)

-- a normal state of a tidy and typed program, of which none uses itself, with an order of its made
-- definitions
pub record IsOrderedState (p : Program) (state : List Made) (ms : List ℕ) : Type 0 where
  pub entry : IsEntry p state
  pub normal : IsNormal p state
  pub acyclic : IsAcyclic state
  pub ordered : IsUseOrder state ms
