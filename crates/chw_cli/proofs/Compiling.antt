-- A text that can be compiled has no fault, and neither has a stimulus of values for its program.
use Rattle.std.proofs.Common.{◌≡◌, ℕ, List, sym, subst}
use Rattle.chw_clock.specs.declared.event.Event.{Event}
use Rattle.chw_clock.specs.declared.event.Ports.{Ports}
use Rattle.chw_cli.specs.Descriptions.{CanCompile, CompilableIsCompiled, Compiles, HasProgram, IsTypedText}
use Rattle.chw_cli.proofs.OneText.{OneDescription, one_program_for, one_program_of}
use Rattle.chw_grammar.specs.declared.program.Tree.{Tree}
use Rattle.chw_terms.specs.declared.program.Program.{Program}
use Rattle.chw_typing.specs.Programs.{IsTyped}
use Rattle.answers.specs.Compilation.Compiling.{CompilesTo, IsCompileFault}
use Rattle.answers.specs.Compilation.Laws.{CompiledEndsSmall, NothingRefusesACompile, SmallEndsCompile}
use Rattle.answers.specs.declared.compiled.fault.CompileFault.{CompileFault}
use Rattle.data_kinds.specs.Laws.{OneProgram}
use Rattle.netlist.specs.declared.net.Flat.{Flat}
use Rattle.netlist.specs.declared.net.Net.{Net}
use Rattle.answers.specs.SimAnswer.Laws.{NothingRefusesAStimulus}
use Rattle.answers.specs.SimAnswer.Simulation.{IsSimFault, IsStimulus}
use Rattle.answers.specs.declared.sim_answer.fault.SimFault.{SimFault}

-- a text that is typed, and of which the program is compiled, compiles
pub text_compiles : (text : List ℕ) (budget : ℕ) (tree : Tree) (p q : Program) (net : Net) (flat : Flat) → IsTypedText text tree → HasProgram tree p → q ≡ p
    → CompilesTo q budget net flat → Compiles text budget q
text_compiles text budget tree p q net flat d has is to = record {
  tree = tree;
  typed = d;
  has = subst (HasProgram tree) (sym is) has;
  net = net;
  flat = flat;
  compiles = to;
}

-- where it can be compiled, its program isn't refused
pub compiles_without_fault : OneDescription → OneProgram → NothingRefusesACompile → (text : List ℕ) (budget : ℕ) (p q : Program) (tree : Tree)
    (fault : CompileFault) → CanCompile text budget p → IsTypedText text tree → HasProgram tree q → IsCompileFault q budget fault → ⊥
compiles_without_fault same alone law text budget p q tree fault can d has w =
    let one = one_program_for same alone text tree can.tree q p d has can.typed can.has in
    law p budget fault can.ends (subst (λ x. IsCompileFault x budget fault) one w)

-- nor is a stimulus of values for its program
pub values_without_fault : OneDescription → OneProgram → NothingRefusesAStimulus → (text stimulus : List ℕ) (budget : ℕ) (p q : Program) (ports : Ports)
    (events : List Event) (fault : SimFault) → CanCompile text budget p → Compiles text budget q → IsStimulus p stimulus ports events → IsSimFault q stimulus fault → ⊥
values_without_fault same alone law text stimulus budget p q ports events fault can can' values w =
    let one = one_program_for same alone text can'.tree can.tree q p can'.typed can'.has can.typed can.has in
    law p stimulus ports events fault values (subst (λ x. IsSimFault x stimulus fault) one w)

-- a text that compiles can be compiled
pub can_compile : CompiledEndsSmall → {text : List ℕ} {budget : ℕ} {p : Program} → Compiles text budget p → CanCompile text budget p
can_compile small {text} {budget} {p} c =
    record { tree = c.tree; typed = c.typed; has = c.has; ends = small p budget c.net c.flat c.compiles }

-- and one that can be compiled compiles
compiles_there : OneProgram → SmallEndsCompile → {text : List ℕ} {budget : ℕ} {p : Program} → CanCompile text budget p → Compiles text budget p
compiles_there alone there {text} {budget} {p} c =
    let typed = subst IsTyped (one_program_of alone c.tree c.typed.program p c.typed.is c.has) c.typed.typed in
    let to = there p budget c.has.tidy typed c.ends in
    record { tree = c.tree; typed = c.typed; has = c.has; net = to.0; flat = to.1; compiles = to.2 }

pub compilable_is_compiled : OneProgram → CompiledEndsSmall → SmallEndsCompile → CompilableIsCompiled
compilable_is_compiled alone small there budget text =
    (λ can. (can.0, compiles_there alone there can.1), λ is. (is.0, can_compile small is.1))
