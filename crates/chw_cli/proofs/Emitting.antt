-- The refusals of `emit`, by what was found.
use Rattle.std.proofs.Common.{◌≡◌, ℕ, List, Result, Err, inl, inr, refl, sym, subst, arith}
use Rattle.bit_blast.specs.declared.limit.TooMany.{TooMany}
use Rattle.chw_base.specs.Outcome.{OfFault}
use Rattle.chw_base.specs.declared.outcome.Or.{Or}
use Rattle.chw_base.specs.declared.outcome.Or.TheVariants.{Memory, Fault}
use Rattle.chw_cli.specs.Answer.{CompileAnswer, EmitAnswer}
use Rattle.chw_cli.specs.Answer.CompileAnswer.{compiled, many_bits, not_compiled}
use Rattle.chw_cli.specs.Bits.{HasFewBits, HasManyBits}
use Rattle.chw_cli.specs.Descriptions.{IsTypedText}
use Rattle.chw_cli.specs.Exact.{FitsForm, IsEmittable}
use Rattle.chw_cli.specs.Faults.{refusal_of_compile}
use Rattle.chw_cli.specs.Lines.{status_of}
use Rattle.chw_cli.specs.Refusals.{IsCompileRefusal, RefusesCompile, RefusesNet, of_bits_fault}
use Rattle.chw_cli.specs.declared.refusal.Refusal.{Refusal}
use Rattle.chw_cli.specs.declared.refusal.Refusal.TheVariants.{Bits}
use Rattle.chw_cli.specs.declared.status.Status.{Status}
use Rattle.chw_cli.specs.declared.status.Status.TheVariants as status
use Rattle.chw_cli.proofs.Compiling.{compiles_without_fault}
use Rattle.chw_cli.proofs.Normal.{run_status}
use Rattle.chw_cli.proofs.OneText.{OneDescription, one_program_for}
use Rattle.chw_words.specs.declared.command.EmitForm.{EmitForm}
use Rattle.chw_words.specs.declared.command.EmitForm.TheVariants.{Blif}
use Rattle.chw_grammar.specs.declared.program.Tree.{Tree}
use Rattle.chw_terms.specs.declared.program.Program.{Program}
use Rattle.answers.specs.Compilation.Compiling.{CompilesTo, IsCompileFault}
use Rattle.answers.specs.Compilation.Laws.{NothingRefusesACompile}
use Rattle.answers.specs.declared.compiled.fault.CompileFault.{CompileFault}
use Rattle.answers.specs.declared.compiled.fault.CompileFault.TheVariants as compile
use Rattle.data_kinds.specs.Laws.{OneProgram}
use Rattle.netlist.specs.declared.net.Flat.{Flat}
use Rattle.netlist.specs.declared.net.Net.{Net}

-- the refusal of what is wrong with a program is the answer to it
pub fault_refuses : (p : Program) (budget : ℕ) (fault : CompileFault) (r : Refusal)
    → IsCompileFault p budget fault → IsCompileRefusal p fault r → RefusesCompile p budget r
fault_refuses p budget fault r wrong (inl short) = inl short
fault_refuses p budget fault r wrong (inr is) = inr (fault, wrong, is)

-- the refusal of a program that isn't compiled is the answer in each form
pub net_refuses : (p : Program) (budget : ℕ) (form : EmitForm) (r : Refusal) → RefusesCompile p budget r → RefusesNet p budget form r
net_refuses p budget form r (inl short) = inl short
net_refuses p budget form r (inr it) = inr (subst (λ x. CompileAnswer p budget form (Err x)) (sym it.2) (not_compiled it.0 it.1))

-- so is that of single bits of which there are too many
pub bits_refuse : (p : Program) (budget : ℕ) (net : Net) (flat : Flat) (e : Or TooMany) → CompilesTo p budget net flat
    → OfFault e (λ (f : TooMany). HasManyBits flat) → RefusesNet p budget Blif (of_bits_fault e)
bits_refuse p budget net flat Memory to h = inl refl
bits_refuse p budget net flat (Fault f) to h = inr (many_bits net flat refl to h)

-- a program that fits the form has no flat net of which the single bits are too many
fits_without_many : (p : Program) (budget : ℕ) (form : EmitForm) (net : Net) (flat : Flat) → FitsForm form p budget → form ≡ Blif
    → CompilesTo p budget net flat → HasManyBits flat → ⊥
fits_without_many p budget form net flat fits is to many =
    let all : FitsForm Blif p budget = subst (λ (f : EmitForm). FitsForm f p budget) is fits in
    let few : HasFewBits flat = all net flat to in
    omega (arith, few, many)

-- a description whose text can be compiled, and fits the form, isn't refused
pub good_is_emitted : OneDescription → OneProgram → NothingRefusesACompile → (budget : ℕ) (form : EmitForm) (text : List ℕ)
    (tree : Tree) (r : Refusal) → IsTypedText text tree → IsEmittable budget form text → EmitAnswer tree budget form (Err r) → ⊥
good_is_emitted same alone law budget form text tree r d h a = only refl a.answers
  where
    only : {answer : Result (List ℕ) Refusal} → answer ≡ Err r → CompileAnswer a.program budget form answer → ⊥
    only e (not_compiled fault wrong) = compiles_without_fault same alone law text budget h.0 a.program tree fault h.1 d a.has wrong
    only e (compiled text is) = absurd cc
    only e (many_bits net flat is to many) =
        let one : a.program ≡ h.0 = one_program_for same alone text tree h.1.tree a.program h.0 d a.has h.1.typed h.1.has in
        fits_without_many h.0 budget form net flat h.2 is (subst (λ (x : Program). CompilesTo x budget net flat) one to) many

-- the refusal of a program has one of two statuses
pub compile_status : (P : Status → Type 0) → P status.Refused → P status.Spent → (p : Program) (fault : CompileFault)
    → P (status_of (refusal_of_compile p fault))
compile_status P refused over p (compile.Run fault) = run_status P refused over fault
compile_status P refused over p (compile.State fault) = refused
compile_status P refused over p compile.TooLarge = refused
compile_status P refused over p (compile.Loop cycle) = refused

answer_status : (P : Status → Type 0) → P status.Refused → P status.Spent → (p : Program) (budget : ℕ) (form : EmitForm)
    (r : Refusal) → CompileAnswer p budget form (Err r) → P (status_of r)
answer_status P refused over p budget form r a = only refl a
  where
    only : {answer : Result (List ℕ) Refusal} → answer ≡ Err r → CompileAnswer p budget form answer → P (status_of r)
    only e (not_compiled fault wrong) =
        let is : refusal_of_compile p fault ≡ r = cc in
        subst (λ q. P (status_of q)) is (compile_status P refused over p fault)
    only e (compiled text is) = absurd cc
    only e (many_bits net flat is to many) = let same : Bits ≡ r = cc in subst (λ q. P (status_of q)) same refused

pub emit_status : (P : Status → Type 0) → P status.Refused → P status.Spent → (tree : Tree) (budget : ℕ) (form : EmitForm)
    (r : Refusal) → EmitAnswer tree budget form (Err r) → P (status_of r)
emit_status P refused over tree budget form r a = answer_status P refused over a.program budget form r a.answers
