-- What a program and a stimulus are simulated to, and why a text is refused.
use Rattle.std.specs.Prelude.{◌≡◌, ℕ, zero, suc, ◌+◌, Bool, List, [], ◌∷◌, ◌++◌, length, Some}
use Rattle.std.specs.Prelude.{slice_get}
use Rattle.std.specs.List.{AllByRecursion}
use Rattle.chw_clock.specs.declared.event.Event.{Event}
use Rattle.chw_clock.specs.declared.event.Ports.{Ports}
use Rattle.chw_types.specs.TypeTree.{TypeTree}
use Rattle.chw_types.specs.declared.declarations.Data.{Data}
use Rattle.type_ports.specs.declared.ports.Leaf.{Leaf}
use Rattle.chw_terms.specs.declared.program.Program.{Program}
use Rattle.chw_layout.specs.Datum.{Datum}
use Rattle.chw_layout.specs.Encodes.{Encodes}
use Rattle.chw_layout.specs.Measured.{HasWidth}
use Rattle.data_forms.specs.Forms.{IsEncoding}
use Rattle.chw_meaning.specs.Means.{HasPorts, Means}
use Rattle.chw_meaning.specs.Values.{History}
use Rattle.chw_words.specs.declared.command.SimForm.{SimForm}
use Rattle.chw_words.specs.declared.command.SimForm.TheVariants as sim_form
use Rattle.stimulus.specs.Output.{Lines}
use Rattle.stimulus.specs.Stimulus.{IsStimFault, Stim, event_of}
use Rattle.stimulus.specs.Texts.{lines_of}
use Rattle.stimulus.specs.declared.fault.StimFault.{StimFault}
use Rattle.waves.specs.Vcd.{Vcd}
use Rattle.answers.specs.declared.sim_answer.fault.SimFault.{SimFault}
use Rattle.answers.specs.declared.sim_answer.fault.SimFault.TheVariants.{Stimulus, Value}

-- the types of those of these leaves whose width isn't 0
pub data TypesOf (datas : List Data) : List Leaf → List TypeTree → Type 0 where
  no_type : TypesOf datas [] []
  type_of : {leaf : Leaf} {leaves : List Leaf} {types : List TypeTree} {w : ℕ}
      → HasWidth datas leaf.payload (suc w) → TypesOf datas leaves types
      → TypesOf datas (leaf ∷ leaves) (leaf.payload ∷ types)
  no_type_of : {leaf : Leaf} {leaves : List Leaf} {types : List TypeTree}
      → HasWidth datas leaf.payload zero → TypesOf datas leaves types
      → TypesOf datas (leaf ∷ leaves) types

-- the program has these ports, and the values at their inputs are of these types
pub record HasInputs (p : Program) (ports : Ports) (types : List TypeTree) : Type 0 where
  pub are_ports : HasPorts p ports
  pub are_types : TypesOf p.datas are_ports.ins types

-- this holds of each type with the bits at its place, and there are as many of both
abbrev pub AllPairs : (TypeTree → List Bool → Type 0) → List TypeTree → List (List Bool) → Type 0
AllPairs P [] [] = Unit {0}
AllPairs P (t ∷ types) (bits ∷ more) = P t bits × AllPairs P types more
AllPairs P _ _ = ⊥

-- the inputs of the event are encodings of values of these types, one of each
abbrev pub HasValues : List Data → List TypeTree → Event → Type 0
HasValues datas types event = AllPairs (IsEncoding datas) types event.inputs

-- the text is a stimulus of these events for the program's ports, and all their inputs are
-- encodings of values of their types
pub record IsStimulus (p : Program) (text : List ℕ) (ports : Ports) (events : List Event)
    : Type 0 where
  pub types : List TypeTree
  pub has : HasInputs p ports types
  pub read : Stim text ports events
  pub values : AllByRecursion (HasValues p.datas types) events

-- the bits encode the value that the program means at the history, at the output of this number
pub record IsMeant (p : Program) (h : History) (k : ℕ) (bits : List Bool) : Type 0 where
  pub value : Datum
  pub means : Means p h k value
  pub leaf : Leaf
  pub is_leaf : slice_get means.outs means.leaf ≡ Some leaf
  pub encodes : Encodes p.datas leaf.payload value bits

-- so it is at each of so many outputs
pub record AreMeant (p : Program) (many : ℕ) (h : History) (outputs : List (List Bool))
    : Type 0 where
  pub as_many : length outputs ≡ many
  pub each : (k : ℕ) (bits : List Bool) → slice_get outputs k ≡ Some bits → IsMeant p h k bits

-- behind a past, the latest event first, come these events, and at each of them so it is at the
-- history up to it
pub data MeantAt (p : Program) (many : ℕ)
    : (past events : List Event) → List (List (List Bool)) → Type 0 where
  meant_at_none : (past : List Event) → MeantAt p many past [] []
  meant_at_more : (past events : List Event) (event : Event) (outputs : List (List Bool))
      (others : List (List (List Bool))) → AreMeant p many (event ∷ past) outputs
      → MeantAt p many (event ∷ past) events others
      → MeantAt p many past (event ∷ events) (outputs ∷ others)

-- events, each with the outputs there, in this form: as lines, or as waves
abbrev pub shown : SimForm → Ports → List Event → List (List (List Bool)) → List ℕ
shown sim_form.Lines ports events outputs = Lines ports events outputs
shown sim_form.Waves ports events outputs = Vcd ports events outputs

-- the lines are, in this form, those of the events of the text, each with the bits of what the
-- program means at the outputs there
pub record IsSimulation (p : Program) (form : SimForm) (text lines : List ℕ) : Type 0 where
  pub ports : Ports
  pub events : List Event
  pub stimulus : IsStimulus p text ports events
  pub outputs : List (List (List Bool))
  pub meant : MeantAt p (length ports.outputs) [] events outputs
  pub lines_are : lines ≡ shown form ports events outputs

-- the text is a stimulus for the program's ports, and this is its first line, counted from 1, of
-- which the inputs aren't encodings of values of their types. A line that stands for many events
-- is one line.
pub record IsFirstWithoutValues (p : Program) (text : List ℕ) (number : ℕ) : Type 0 where
  pub ports : Ports
  pub types : List TypeTree
  pub has : HasInputs p ports types
  pub events : List Event
  pub read : Stim text ports events
  pub earlier : List (List ℕ)
  pub line : List ℕ
  pub later : List (List ℕ)
  pub lines : lines_of text ≡ earlier ++ line ∷ later
  pub number_is : number ≡ length earlier + 1
  pub values : AllByRecursion (λ l. HasValues p.datas types (event_of ports l)) earlier
  pub cause : ¬ HasValues p.datas types (event_of ports line)

-- why a text can't be simulated: it is no stimulus for the program's ports; or it is one, but not
-- of values
pub data IsSimFault (p : Program) (text : List ℕ) : SimFault → Type 0 where
  not_stimulus : (ports : Ports) (fault : StimFault) → HasPorts p ports
      → IsStimFault text ports fault → IsSimFault p text (Stimulus fault)
  not_values : (number : ℕ) → IsFirstWithoutValues p text number
      → IsSimFault p text (Value number)
