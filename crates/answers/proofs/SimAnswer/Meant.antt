-- The bits of a run are those of what the program means.
use Rattle.std.proofs.Common.{◌≡◌, ℕ, suc, zero, ◌<◌, Bool, List, [], ◌∷◌, length, Some, refl, ◌∙◌, subst, arith}
use Rattle.std.specs.List.{AllByRecursion}
use Rattle.std.specs.Prelude.{slice_get}
use Rattle.chw_base.specs.declared.index.WireId.{WireId}
use Rattle.chw_clock.specs.Histories.{FitsEvent}
use Rattle.chw_clock.specs.declared.event.Event.{Event}
use Rattle.chw_clock.specs.declared.event.Ports.{Ports}
use Rattle.chw_types.specs.TypeTree.{TypeTree}
use Rattle.chw_terms.specs.Tidy.{IsTidy}
use Rattle.chw_terms.specs.declared.program.Program.{Program}
use Rattle.chw_layout.specs.Encodes.{Encodes}
use Rattle.chw_meaning.specs.Means.{Fit}
use Rattle.chw_meaning.specs.Values.{History}
use Rattle.chw_meaning.proofs.Once.{same_some}
use Rattle.layout_laws.specs.ZeroThere.{ZeroExists}
use Rattle.net_means.specs.Outputs.{NetMeans}
use Rattle.net_run.specs.Runs.{OutputsAt}
use Rattle.net_run.specs.Runs.OutputsAt.{none, more}
use Rattle.netlist.specs.NetValue.{NetValue, ReadValues}
use Rattle.netlist.specs.NetValue.ReadValues.{read_none, read_and}
use Rattle.netlist.specs.Sound.{Sound}
use Rattle.netlist.specs.declared.net.Flat.{Flat}
use Rattle.chw_words.specs.declared.command.SimForm.{SimForm}
use Rattle.answers.specs.SimAnswer.Laws.{OutputsAreMeant}
use Rattle.answers.specs.SimAnswer.Simulation.{AreMeant, HasInputs, HasValues, IsMeant, IsSimulation, IsStimulus, MeantAt, meant_at_none, meant_at_more}
use Rattle.answers.specs.SimAnswer.Types.{ShowsRun}
use Rattle.answers.proofs.SimAnswer.Histories.{history_fits, stimulus_fits}

-- a wire has one value at a history
abbrev pub OneValue : Type 0
OneValue = (flat : Flat) (h : List Event) (w : ℕ) (a b : List Bool) → Sound flat → NetValue flat h w a → NetValue flat h w b → a ≡ b

as_many : (flat : Flat) (h : History) (wires : List WireId) (values : List (List Bool)) → ReadValues flat h wires values → length values ≡ length wires
as_many flat h _ _ (read_none _) = refl
as_many flat h _ _ (read_and _ w wires bits values v vs) = let n = as_many flat h wires values vs in omega (arith, n)

record ReadAt (flat : Flat) (h : History) (wires : List WireId) (k : ℕ) (bits : List Bool) : Type 0 where
  pub wire : WireId
  pub is_wire : slice_get wires k ≡ Some wire
  pub within : k < length wires
  pub has : NetValue flat h wire.number bits

read_at : (flat : Flat) (h : History) (wires : List WireId) (values : List (List Bool)) (k : ℕ) (bits : List Bool) → ReadValues flat h wires values → slice_get values k ≡ Some bits → ReadAt flat h wires k bits
read_at flat h _ _ k bits (read_none _) at = absurd (cc)
read_at flat h _ _ zero bits (read_and _ w wires here values v vs) at =
    record { wire = w; is_wire = refl; within = omega arith; has = subst (NetValue flat h w.number) (same_some refl at) v }
read_at flat h _ _ (suc k) bits (read_and _ w wires here values v vs) at =
    let r = read_at flat h wires values k bits vs at in
    let within = r.within in
    record { wire = r.wire; is_wire = r.is_wire; within = omega (arith, within); has = r.has }

module _ (one : OneValue) (zeros : ZeroExists) (p : Program) (flat : Flat) (sound : Sound flat) (means : NetMeans p flat) where
  output_meant : (h : History) (k : ℕ) (bits : List Bool) → Fit p h → ReadAt flat h flat.outputs k bits → IsMeant p h k bits
  output_meant h k bits fit r =
      let m = means.each h k fit r.within in
      let wire : m.wire ≡ r.wire = same_some m.is_output r.is_wire in
      let same : m.bits ≡ bits = one flat h r.wire.number m.bits bits sound (subst (λ (w : WireId). NetValue flat h w.number m.bits) wire m.has) r.has in
      record {
        value = m.value;
        means = m.means;
        leaf = m.leaf;
        is_leaf = m.is_leaf;
        encodes = subst (Encodes p.datas m.leaf.payload m.value) same m.encodes;
      }

  outputs_meant : (h : History) (outputs : List (List Bool)) → Fit p h → ReadValues flat h flat.outputs outputs → AreMeant p (length flat.ports.outputs) h outputs
  outputs_meant h outputs fit read = record {
    as_many = as_many flat h flat.outputs outputs read ∙ means.as_many;
    each = λ k bits at. output_meant h k bits fit (read_at flat h flat.outputs outputs k bits read at);
  }

  run_meant : (tidy : IsTidy p) (ports : Ports) (types : List TypeTree) (has : HasInputs p ports types) (past events : List Event) (outputs : List (List (List Bool)))
      → AllByRecursion (FitsEvent ports) past → AllByRecursion (FitsEvent ports) events → AllByRecursion (HasValues p.datas types) past → AllByRecursion (HasValues p.datas types) events
      → OutputsAt flat past events outputs → MeantAt p (length flat.ports.outputs) past events outputs
  run_meant tidy ports types has past _ _ pf ef pv ev (none _) = meant_at_none past
  run_meant tidy ports types has past _ _ pf ef pv ev (more _ events event outputs others read rest) =
      meant_at_more past events event outputs others
      (outputs_meant (event ∷ past) outputs (history_fits zeros p ports types event past tidy.inhabited has (ef.0, pf) (ev.0, pv)) read)
      (run_meant tidy ports types has (event ∷ past) events others (ef.0, pf) ef.1 (ev.0, pv) ev.1 rest)

  of_stimulus : IsTidy p → (text : List ℕ) (events : List Event) (outputs : List (List (List Bool))) → IsStimulus p text flat.ports events
      → OutputsAt flat [] events outputs → MeantAt p (length flat.ports.outputs) [] events outputs
  of_stimulus tidy text events outputs s shown =
      run_meant tidy flat.ports s.types s.has [] events outputs tt (stimulus_fits text flat.ports events s.read) tt s.values shown

  -- the lines of a run on a stimulus of values are, in each form, those of what the program means
  pub simulated : IsTidy p → (form : SimForm) (text : List ℕ) (events : List Event) (lines : List ℕ) → IsStimulus p text flat.ports events → ShowsRun form flat events lines
      → IsSimulation p form text lines
  simulated tidy form text events lines s run = record {
    ports = flat.ports;
    events = events;
    stimulus = s;
    outputs = run.outputs;
    meant = of_stimulus tidy text events run.outputs s run.are_outputs;
    lines_are = run.text_is;
  }

pub outputs_are_meant : OneValue → ZeroExists → OutputsAreMeant
outputs_are_meant one zeros p flat text events outputs tidy sound means = of_stimulus one zeros p flat sound means tidy text events outputs
