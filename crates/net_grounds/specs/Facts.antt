-- All facts, by subject.
use Rattle.net_grounds.specs.Same.{SameFacts}
use Rattle.net_grounds.specs.Scopes.{ScopeFacts}
use Rattle.net_grounds.specs.Kinds.{KindFacts}
use Rattle.net_grounds.specs.Terms.{TermFacts}
use Rattle.net_grounds.specs.Patterns.{PatternFacts}
use Rattle.net_grounds.specs.Constructors.{ConstructorFacts}
use Rattle.net_grounds.specs.Measures.{MeasureFacts}
use Rattle.net_grounds.specs.Widths.{WidthFacts}
use Rattle.net_grounds.specs.SameLayout.{SameLayoutFacts}
use Rattle.net_grounds.specs.Ports.{PortFacts}
use Rattle.net_grounds.specs.Encodings.{EncodingFacts}
use Rattle.net_grounds.specs.Words.{WordFacts}
use Rattle.net_grounds.specs.Shows.{ShowFacts}
use Rattle.net_grounds.specs.Environments.{EnvironmentFacts}
use Rattle.net_grounds.specs.Cases.{CaseFacts}
use Rattle.net_grounds.specs.Data.{DataFacts}
use Rattle.net_grounds.specs.Vectors.{VectorFacts}
use Rattle.net_grounds.specs.Prims.{PrimFacts}
use Rattle.net_grounds.specs.Signals.{SignalFacts}
use Rattle.net_grounds.specs.Cells.{CellFacts}
use Rattle.net_grounds.specs.DataCells.{DataCellFacts}
use Rattle.net_grounds.specs.BuiltParts.{BuiltFacts}
use Rattle.net_grounds.specs.FlatNets.{FlatFacts}

-- the facts on each subject
pub record Facts : Type 0 where
  -- types that are the same up to naturals
  pub same : SameFacts
  -- the types of variables in scope
  pub scopes : ScopeFacts
  -- kinds of types
  pub kinds : KindFacts
  -- types of terms
  pub terms : TermFacts
  -- patterns
  pub patterns : PatternFacts
  -- constructors and their numbers
  pub constructors : ConstructorFacts
  -- measures of types
  pub measures : MeasureFacts
  -- widths of types
  pub widths : WidthFacts
  -- layouts of types that are the same
  pub same_layout : SameLayoutFacts
  -- leaves of ports
  pub ports : PortFacts
  -- encodings of data values
  pub encodings : EncodingFacts
  -- primitives on words
  pub words : WordFacts
  -- the bits that thunks show
  pub shows : ShowFacts
  -- the thunks of variables
  pub environments : EnvironmentFacts
  -- the bits of cases
  pub cases : CaseFacts
  -- the bits of data
  pub data_bits : DataFacts
  -- the bits of vectors
  pub vectors : VectorFacts
  -- the bits of primitives
  pub prims : PrimFacts
  -- the bits of signals
  pub signals : SignalFacts
  -- the bits of cells
  pub cells : CellFacts
  -- the bits of cells of data
  pub data_cells : DataCellFacts
  -- what is built
  pub built : BuiltFacts
  -- the wires of instances in a flat net
  pub flat : FlatFacts
