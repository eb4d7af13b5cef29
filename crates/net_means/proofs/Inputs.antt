-- At a history of a program the inputs of the top have the bits of what its streams are.
use Rattle.std.specs.Prelude.{slice_get, replicate}
use Rattle.std.specs.List.{AllByRecursion}
use Rattle.std.proofs.Common.{◌≡◌, ℕ, zero, suc, List, [], ◌∷◌, ◌++◌, length, map, Some, refl, sym, ap, subst}
use Rattle.chw_clock.specs.Histories.{FitsPorts}
use Rattle.chw_clock.specs.declared.event.Event.{Event}
use Rattle.chw_types.specs.declared.declarations.Data.{Data}
use Rattle.type_ports.specs.declared.ports.Leaf.{Leaf}
use Rattle.chw_types.specs.SamePromises.{SameValues}
use Rattle.chw_types.specs.TypeTree.{TypeTree}
use Rattle.type_laws.specs.SameKept.{FieldsKeepSame}
use Rattle.chw_terms.specs.declared.scene.Made.{Made}
use Rattle.chw_terms.specs.declared.scene.Sort.TheVariants.{Circuit}
use Rattle.chw_terms.specs.TermTree.{TermTree}
use Rattle.chw_typing.specs.Typing.{HasType}
use Rattle.rewriting.specs.Named.{UnderLambdas}
use Rattle.rewriting.specs.Origins.{setting_at}
use Rattle.rewriting.specs.Steps.{origins_in}
use Rattle.rule_types.specs.States.{IsTypedState}
use Rattle.chw_layout.specs.Datum.{Datum}
use Rattle.chw_layout.specs.EncodingPromises.{EncodingHasWidth}
use Rattle.chw_layout.specs.Encodes.{IsValueOf}
use Rattle.layout_laws.specs.LeavesAgree.{AreStreams}
use Rattle.chw_meaning.specs.Gives.{Input, stream_in, PortGiven}
use Rattle.chw_meaning.specs.Means.{Decoded, decoded_none, decoded_and, Streams, no_streams, stream_and, stream_of_one, LeadsFrom, leads_to, leads_from, Fit}
use Rattle.chw_meaning.specs.Values.{History, Thunk, none}
use Rattle.carrying.specs.TermLaws.{onto, under_lambdas}
use Rattle.net_built.specs.Terms.{Variable}
use Rattle.net_grounds.specs.Facts.{Facts}
use Rattle.net_means.proofs.NetFits.Beginning.{begins_with_circuit, begins_with_type}
use Rattle.net_means.proofs.Lists.{same_some}
use Rattle.normal_form.specs.Entries.{BeginsWithTop}
use Rattle.net_means.specs.CircuitBits.Instances.{Design, HaveBits, NoLambda, Parameters}
use Rattle.net_means.specs.NetBits.Whole.{InputsHaveBits}
use Rattle.net_means.specs.Inputs.{TopGiven}
use Rattle.net_means.proofs.Parameters.{InputsGiven, no_inputs, input_and, on_inputs, result_leaves, ScopeHas, parameters_have}
use Rattle.net_means.proofs.Streams.{streams_show}

all_and : {A : Type 0} (P : A → Type 0) (xs : List A) (y : A) → AllByRecursion P xs → P y → AllByRecursion P (xs ++ y ∷ [])
all_and P [] y all one = (one, tt)
all_and P (x ∷ xs) y all one = (all.0, all_and P xs y all.1 one)

all_alike : {A : Type 0} (P : A → Type 0) (n : ℕ) (x : A) → P x → AllByRecursion P (replicate n x)
all_alike P zero x one = tt
all_alike P (suc n) x one = (one, all_alike P n x one)

-- the items of a stream are values of the leaf
decoded_values : Facts → {datas : List Data} {t : TypeTree} {i : ℕ} {h : History} {ds : List Datum} → Decoded datas t i h ds → AllByRecursion (IsValueOf datas t) ds
decoded_values facts decoded_none = tt
decoded_values facts {datas} {t} (decoded_and {d = d} {ds = ds} at x more) = all_and (IsValueOf datas t) ds d (decoded_values facts more) (facts.encodings.encoded_value x)

-- the streams of the first leaves, and those of the others
record Taken (datas : List Data) (ls rest : List Leaf) (h : History) (ins : List Input) : Type 0 where
  streams : List (List Datum)
  more : List Input
  next : ℕ
  are : ins ≡ map stream_in streams ++ more
  each : AreStreams datas ls streams
  others : Streams datas rest next h more

taken : Facts → {datas : List Data} (ls rest : List Leaf) {i : ℕ} {h : History} {ins : List Input} → Streams datas (ls ++ rest) i h ins → Taken datas ls rest h ins
taken facts [] rest {i = i} {ins = ins} s = record { streams = []; more = ins; next = i; are = refl; each = tt; others = s }
taken facts (l ∷ ls) rest (stream_and {ds = ds} has decoded s) =
    let t = taken facts ls rest s in
    record { streams = ds ∷ t.streams; more = t.more; next = t.next; are = ap (λ ins. stream_in ds ∷ ins) t.are; each = (decoded_values facts decoded, t.each); others = t.others }
taken facts {datas} (l ∷ ls) rest (stream_of_one {h = h} {z = z} has is s) =
    let t = taken facts ls rest s in
    let ds : List Datum = replicate (length h) z in
    record { streams = ds ∷ t.streams; more = t.more; next = t.next; are = ap (λ ins. stream_in ds ∷ ins) t.are; each = (all_alike (IsValueOf datas l.payload) (length h) z (facts.encodings.encoded_value (facts.encodings.zero_bits has is)), t.each); others = t.others }

-- thunks for the parameters
pub record Inputs (datas : List Data) (t : TypeTree) (ls outs : List Leaf) (ins : List Input) : Type 0 where
  pub thunks : List Thunk
  pub result : TypeTree
  pub given : InputsGiven datas t ls ins thunks result outs

no_more : {datas : List Data} {i : ℕ} {h : History} {ins : List Input} → Streams datas [] i h ins → ins ≡ []
no_more no_streams = refl

inputs_there : Facts → {datas : List Data} {t : TypeTree} {ls outs : List Leaf} {i : ℕ} {h : History} {ins : List Input} → LeadsFrom datas t ls outs → Streams datas ls i h ins → Inputs datas t ls outs ins
inputs_there facts {datas} {t} {outs = outs} (leads_to l) s =
    record { thunks = []; result = t; given = subst (λ ins. InputsGiven datas t [] ins [] t outs) (sym (no_more s)) (no_inputs l) }
inputs_there facts {datas} (leads_from {a = a} {ls = ls} {ins = rest} l more) s =
    let first = taken facts ls rest s in
    let port = facts.ports.streams_give l first.streams first.more first.each in
    let others = inputs_there facts more first.others in
    let given : PortGiven datas a _ port.0 first.more = subst (λ ins. PortGiven datas a ins port.0 first.more) (sym first.are) port.1 in
    record { thunks = port.0 ∷ others.thunks; result = others.result; given = input_and l given others.given }

module _ (facts : Facts) (wide : EncodingHasWidth) (values : SameValues) (keep : FieldsKeepSame) (d : Design) (top : Made) (last : History) (typed : IsTypedState d.program d.state) (begins : BeginsWithTop d.program d.state) (is_top : slice_get d.state 0 ≡ Some top) (fit : Fit d.program last) where
  leads : LeadsFrom d.program.datas top.ty fit.are_ports.ins fit.are_ports.outs
  leads = subst (λ t. LeadsFrom d.program.datas t fit.are_ports.ins fit.are_ports.outs) (sym (begins_with_type begins top fit.are_ports.it is_top fit.are_ports.top.held)) fit.are_ports.top.leads

  pub inputs : Inputs d.program.datas top.ty fit.are_ports.ins fit.are_ports.outs fit.streams
  inputs = inputs_there facts leads fit.decode

  scope_has : (later : History) (present : Event) (past : History) (params : List TypeTree) (e : TermTree) (scope : List Variable) → last ≡ later ++ present ∷ past → FitsPorts d.net.ports (present ∷ past) → top.body ≡ under_lambdas params e → NoLambda e → Parameters d.program.datas Circuit zero params [] scope
      → ScopeHas d.program d.net (present ∷ past) scope (onto inputs.thunks none)
  scope_has later present past params e scope is fits body plain parameters =
      let made = typed.each 0 top is_top in
      let form = d.normal.bodies 0 top is_top in
      parameters_have facts (origins_in d.program d.state) d.net (present ∷ past) values keep d.sound e none parameters plain
      (subst (λ b. UnderLambdas [] b top.ty form.path form.vars form.inner) body form.under)
      (subst (λ b. HasType (setting_at (origins_in d.program d.state)) [] [] b form.typed.type) body form.typed.has)
      form.typed.same made.closed.has inputs.given (streams_show facts wide d.net fit.decode later present past is fits) (λ x k it ws known its below. absurd cc)

  pub have : InputsHaveBits d inputs.thunks last
  have h it params e scope past fits known body plain parameters = by h past.0 past.1 fits
    where
      is : it ≡ top
      is = same_some known is_top

      circuit : it.sort ≡ Circuit
      circuit = begins_with_circuit begins it known

      of_top : top.body ≡ under_lambdas params e
      of_top = subst (λ (it : Made). it.body ≡ under_lambdas params e) is body

      by : (h : History) (later : History) → last ≡ later ++ h → FitsPorts d.net.ports h → HaveBits d it.sort [] h scope (onto inputs.thunks none)
      by [] later same fits = absurd fits
      by (present ∷ past) later same fits =
          subst (λ sort. HaveBits d sort [] (present ∷ past) scope (onto inputs.thunks none)) (sym circuit)
          (scope_has later present past params e scope same fits of_top plain (subst (λ sort. Parameters d.program.datas sort zero params [] scope) circuit parameters))

  pub top_given : TopGiven d top.ty fit.are_ports.outs fit.streams last
  top_given = record { inputs = inputs.thunks; result = inputs.result; leaves = result_leaves inputs.given; on_inputs = on_inputs inputs.given; have = have }
