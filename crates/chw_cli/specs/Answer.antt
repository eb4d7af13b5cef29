-- What the program answers to words, by what was read: bytes for `out`, or a refusal.
use Rattle.std.specs.Prelude.{◌≡◌, ℕ, ◌≤◌, List, [], ◌∷◌, length, map, Some, Result, Ok, Err, ◌⊎◌}
use Rattle.std.specs.List.{slice_get}
use Rattle.bit_laws.specs.Blast.{blast}
use Rattle.blif_text.specs.Printed.{blif_text}
use Rattle.chw_base.specs.declared.outcome.Or.{Or}
use Rattle.chw_base.specs.declared.outcome.Or.TheVariants.{Fault}
use Rattle.chw_base.specs.declared.shelf.Fetched.{Fetched}
use Rattle.chw_base.specs.declared.shelf.Fetched.TheVariants.{TooLong, Absent}
use Rattle.chw_base.specs.declared.shelf.ShelfFault.{ShelfFault}
use Rattle.chw_cli.specs.Bits.{DenotesBits, HasFewBits, HasManyBits, HasOneBitEach}
use Rattle.chw_cli.specs.Descriptions.{Compiles, HasProgram, IsTypedText, IsWrongText}
use Rattle.chw_cli.specs.Faults.{refusal_of, refusal_of_compile, refusal_of_run, refusal_of_sim}
use Rattle.chw_cli.specs.Making.{MakeAnswer}
use Rattle.chw_cli.specs.Reads.{Read, Wanted, wants, whole}
use Rattle.chw_cli.specs.Reads.Read.{fetched}
use Rattle.chw_cli.specs.declared.refusal.Refusal.{Refusal}
use Rattle.chw_cli.specs.declared.refusal.Refusal.TheVariants.{Words, Read as Unread, State, Stimulus, Bits}
use Rattle.chw_grammar.specs.declared.program.Tree.{Tree}
use Rattle.chw_grammar.specs.Text.{Text}
use Rattle.chw_norm.specs.Running.{Ends}
use Rattle.chw_norm.specs.declared.running.RunFault.{RunFault}
use Rattle.chw_terms.specs.declared.program.Program.{Program}
use Rattle.chw_terms.specs.declared.scene.Made.{Made}
use Rattle.chw_words.specs.Commands.{IsCommand, AreNoCommand}
use Rattle.chw_words.specs.declared.command.Command.{Command}
use Rattle.chw_words.specs.declared.command.Command.TheVariants.{Emit, Simulate, Check, Normalise, Run, Make}
use Rattle.chw_words.specs.declared.command.EmitForm.{EmitForm}
use Rattle.chw_words.specs.declared.command.EmitForm.TheVariants.{Verilog, Shared, Blif}
use Rattle.chw_words.specs.declared.command.SimForm.{SimForm}
use Rattle.judge.specs.Lines.{state_line}
use Rattle.judge.specs.States.{IsFinished, RefusesState}
use Rattle.judge.specs.declared.states.StateFault.{StateFault}
use Rattle.netlist.specs.declared.net.Flat.{Flat}
use Rattle.norm_lines.specs.Lines.{normal_lines}
use Rattle.rewriting.specs.Runs.{Step}
use Rattle.answers.specs.Compilation.Compiling.{CompilesTo, IsCompileFault}
use Rattle.answers.specs.Compilation.SingleBits.{BitsMean}
use Rattle.answers.specs.declared.compiled.fault.CompileFault.{CompileFault}
use Rattle.net_means.specs.Outputs.{NetMeans}
use Rattle.net_flat.specs.Flattened.{IsFlatOf}
use Rattle.net_rules.specs.WellFormed.{WellFormed}
use Rattle.netlist.specs.Orders.{HasNoLoop}
use Rattle.netlist.specs.Sound.{Sound}
use Rattle.share_laws.specs.Shares.{Shares, as_net}
use Rattle.normal_forms.specs.Parts.{IsFirstOrder, IsMonomorphic}
use Rattle.netlist.specs.declared.net.Net.{Net}
use Rattle.chw_norm.specs.Rules.{built}
use Rattle.run_answer.specs.Circuits.{CanRun, IsCircuitFault, IsRunBy}
use Rattle.run_answer.specs.declared.fault.CircuitFault.{CircuitFault}
use Rattle.answers.specs.SimAnswer.Simulation.{IsSimFault, IsSimulation}
use Rattle.answers.specs.declared.sim_answer.fault.SimFault.{SimFault}
use Rattle.stimulus.specs.Stimulus.{IsStimFault}
use Rattle.stimulus.specs.declared.fault.StimFault.{StimFault}
use Rattle.verilog_text.specs.Text.{net_text}
use Rattle.verilog_text.specs.VText.{VText}

-- the answer to the text of one file: why it is wrong, or, where it is a description that is typed,
-- the answer to its tree
pub data TextAnswer (TreeAnswer : List ℕ → Tree → Result (List ℕ) Refusal → Type 0)
    : List Read → Result (List ℕ) Refusal → Type 0 where
  wrong : (text : List ℕ) (r : Refusal) → IsWrongText text r
      → TextAnswer TreeAnswer (whole text ∷ []) (Err r)
  typed : (text : List ℕ) (tree : Tree) (answer : Result (List ℕ) Refusal)
      → IsTypedText text tree
      → TreeAnswer text tree answer → TextAnswer TreeAnswer (whole text ∷ []) answer

-- the text denotes the net, and no other
pub record DenotesOnly (text : List ℕ) (net : Net) : Type 0 where
  pub denotes : VText text net
  pub only : (other : Net) → VText text other → other ≡ net

-- each body of the state is monomorphic and first-order
abbrev pub AreFirstOrder : Program → List Made → Type 0
AreFirstOrder p state =
    (m : ℕ) (it : Made) → slice_get state m ≡ Some it
    → IsMonomorphic it.body × IsFirstOrder p.datas it.body

-- the net is one that the program is compiled to by so many steps at most: the state of which it is
-- built is monomorphic and first-order; the net is well formed, and its text, read again, denotes
-- it and no other; its flat net is sound, and at each history of the program the outputs of that
-- have the bits of what they mean
pub record IsNetFor (p : Program) (budget : ℕ) (net : Net) : Type 0 where
  pub flat : Flat
  pub compiles : CompilesTo p budget net flat
  pub first_order : AreFirstOrder p compiles.net_is.state
  pub well_formed : WellFormed net
  pub text : DenotesOnly (net_text net) net
  pub sound : Sound flat
  pub means : NetMeans p flat

-- the net is the shared net, as one module, of one that the program is compiled to by so many
-- steps at most, whose flat net is sound: the shared one is well formed, and its text, read again,
-- denotes it and no other; its flat net is the one that is shared, which is sound and has no loop,
-- and at each history of the program the outputs of that have the bits of what they mean
pub record IsSharedFor (p : Program) (budget : ℕ) (net : Net) : Type 0 where
  pub from : Net
  pub flat : Flat
  pub compiles : CompilesTo p budget from flat
  pub first_order : AreFirstOrder p compiles.net_is.state
  pub from_sound : Sound flat
  pub shared : Flat
  pub shares : Shares flat shared
  pub same : net ≡ as_net shared
  pub well_formed : WellFormed net
  pub text : DenotesOnly (net_text net) net
  pub flattens : IsFlatOf net shared
  pub sound : Sound shared
  pub no_loop : HasNoLoop shared
  pub means : NetMeans p shared

-- the text is that of the net of single bits of a flat net to which the program is compiled by so
-- many steps at most, which is sound: the net of single bits has no more nodes than may be; the
-- text, read again, denotes it and no other; at each history of the program its outputs have the
-- bits of what they mean, and no name has two bits
pub record AreBitsFor (p : Program) (budget : ℕ) (text : List ℕ) : Type 0 where
  pub net : Net
  pub flat : Flat
  pub compiles : CompilesTo p budget net flat
  pub first_order : AreFirstOrder p compiles.net_is.state
  pub well_formed : WellFormed net
  pub sound : Sound flat
  pub few : HasFewBits flat
  pub same : text ≡ blif_text (blast flat)
  pub bits : DenotesBits text (blast flat)
  pub once : HasOneBitEach flat
  pub mean : BitsMean p flat

-- the net is such a net, by the form that is asked for; or one of which the single bits are written
abbrev pub IsNetIn : EmitForm → Program → ℕ → Net → Type 0
IsNetIn Verilog p budget net = IsNetFor p budget net
IsNetIn Shared p budget net = IsSharedFor p budget net
IsNetIn Blif p budget net = (flat : Flat) × CompilesTo p budget net flat

-- the text is that of such a net, or of single bits, by the form that is asked for
abbrev pub IsTextIn : EmitForm → Program → ℕ → List ℕ → Type 0
IsTextIn Verilog p budget text = (net : Net) × IsNetFor p budget net × (text ≡ net_text net)
IsTextIn Shared p budget text = (net : Net) × IsSharedFor p budget net × (text ≡ net_text net)
IsTextIn Blif p budget text = AreBitsFor p budget text

-- the answer of `emit` to a program: such a text; or why the program can't be compiled; or, where
-- single bits are asked for, that there are too many
pub data CompileAnswer (p : Program) (budget : ℕ) (form : EmitForm)
    : Result (List ℕ) Refusal → Type 0 where
  not_compiled : (fault : CompileFault) → IsCompileFault p budget fault
      → CompileAnswer p budget form (Err (refusal_of_compile p fault))
  compiled : (text : List ℕ) → IsTextIn form p budget text
      → CompileAnswer p budget form (Ok text)
  many_bits : (net : Net) (flat : Flat) → form ≡ Blif → CompilesTo p budget net flat
      → HasManyBits flat → CompileAnswer p budget form (Err Bits)

-- the answer of `emit` to a description: that to its program
pub record EmitAnswer (tree : Tree) (budget : ℕ) (form : EmitForm)
    (answer : Result (List ℕ) Refusal) : Type 0 where
  pub program : Program
  pub has : HasProgram tree program
  pub answers : CompileAnswer program budget form answer

-- the answer of `simulate`: why the first text is no description that is typed; or why its program
-- can't be compiled; or, where it can, why the second text is no stimulus of values for it; or,
-- where it is one, the lines or the waves of what the program means
pub data SimulateAnswer (budget : ℕ) (form : SimForm)
    : List Read → Result (List ℕ) Refusal → Type 0 where
  wrong_text : (text : List ℕ) (r : Refusal) → IsWrongText text r
      → SimulateAnswer budget form (whole text ∷ []) (Err r)
  not_compiled : (text : List ℕ) (tree : Tree) (p : Program) (fault : CompileFault)
      → IsTypedText text tree → HasProgram tree p → IsCompileFault p budget fault
      → SimulateAnswer budget form (whole text ∷ []) (Err (refusal_of_compile p fault))
  no_stimulus : (text stimulus : List ℕ) (p : Program) (fault : SimFault)
      → Compiles text budget p → IsSimFault p stimulus fault
      → SimulateAnswer budget form (whole text ∷ whole stimulus ∷ []) (Err (refusal_of_sim fault))
  simulated : (text stimulus lines : List ℕ) (p : Program) → Compiles text budget p
      → IsSimulation p form stimulus lines
      → SimulateAnswer budget form (whole text ∷ whole stimulus ∷ []) (Ok lines)

-- the answer of `normalise` to a description: the lines of the run of its program, by so many steps
-- at most, to a state in which none is left, and which is normal and acyclic; or why the run is
-- refused, or the state to which it leads
pub data NormaliseAnswer (tree : Tree) (budget : ℕ) : Result (List ℕ) Refusal → Type 0 where
  normalised : (p : Program) (steps : List Step) (made : List Made) → HasProgram tree p
      → length steps ≤ budget → Ends built p budget steps (Ok made) → IsFinished p made
      → NormaliseAnswer tree budget (Ok (normal_lines (map (λ (s : Step). s.place) steps) made))
  not_normalised : (p : Program) (steps : List Step) (fault : RunFault) → HasProgram tree p
      → length steps ≤ budget → Ends built p budget steps (Err (Fault fault))
      → NormaliseAnswer tree budget (Err (refusal_of_run fault))
  not_finished : (p : Program) (steps : List Step) (made : List Made) (fault : StateFault)
      → HasProgram tree p → length steps ≤ budget → Ends built p budget steps (Ok made)
      → RefusesState p made fault
      → NormaliseAnswer tree budget (Err (State (state_line p fault)))

-- the answer of `run`: why the first text can't be run; or, where it can, why the second is no
-- stimulus for the ports of its flat net; or, where it is one, the lines of the outputs
pub data RunAnswer : List Read → Result (List ℕ) Refusal → Type 0 where
  no_circuit : (text : List ℕ) (fault : CircuitFault) → IsCircuitFault text fault
      → RunAnswer (whole text ∷ []) (Err (refusal_of fault))
  no_stimulus : (text stimulus : List ℕ) (flat : Flat) (fault : StimFault) → CanRun text flat
      → IsStimFault stimulus flat.ports fault
      → RunAnswer (whole text ∷ whole stimulus ∷ []) (Err (Stimulus fault))
  ran : (text stimulus lines : List ℕ) (flat : Flat) → CanRun text flat
      → IsRunBy flat stimulus lines → RunAnswer (whole text ∷ whole stimulus ∷ []) (Ok lines)

-- the answer of a command to what it read, where that was whole
abbrev pub CommandAnswer : Command → List Read → Result (List ℕ) Refusal → Type 0
CommandAnswer (Emit file budget form) =
    TextAnswer (λ text tree answer. EmitAnswer tree budget form answer)
CommandAnswer (Simulate file stimulus budget form) = SimulateAnswer budget form
CommandAnswer (Check file) = TextAnswer (λ text tree answer. answer ≡ Ok (Text tree))
CommandAnswer (Normalise file budget) =
    TextAnswer (λ text tree answer. NormaliseAnswer tree budget answer)
CommandAnswer (Run verilog stimulus) = RunAnswer
CommandAnswer (Make taps) = MakeAnswer taps

-- the file isn't held, or couldn't be read
abbrev pub IsUnread : Result Fetched (Or ShelfFault) → Type 0
IsUnread answer = (answer ≡ Ok Absent) ⊎ ((f : ShelfFault) × (answer ≡ Err (Fault f)))

-- the last of the reads of wanted files gave no text: the file isn't there, or is too long
pub data LacksText : List Wanted → List Read → Refusal → Type 0 where
  unread : (file : Wanted) (wanted : List Wanted) (answer : Result Fetched (Or ShelfFault))
      (bytes : List ℕ) → IsUnread answer
      → LacksText (file ∷ wanted) (fetched answer bytes ∷ []) (Unread file.name)
  too_long : (file : Wanted) (wanted : List Wanted) (bytes : List ℕ)
      → LacksText (file ∷ wanted) (fetched (Ok TooLong) bytes ∷ []) file.longer
  later : (file : Wanted) (wanted : List Wanted) (text : List ℕ) (reads : List Read) (r : Refusal)
      → LacksText wanted reads r → LacksText (file ∷ wanted) (whole text ∷ reads) r

-- the answer to words, by what was read
pub data Answer (words : List (List ℕ)) : List Read → Result (List ℕ) Refusal → Type 0 where
  no_command : AreNoCommand words → Answer words [] (Err Words)
  no_text : (command : Command) (reads : List Read) (r : Refusal) → IsCommand words command
      → LacksText (wants command) reads r → Answer words reads (Err r)
  texts : (command : Command) (reads : List Read) (answer : Result (List ℕ) Refusal)
      → IsCommand words command → CommandAnswer command reads answer → Answer words reads answer
