-- Constructors as right sides.
use Rattle.std.proofs.Common.{◌≡◌, ◌≤◌, ℕ, suc, ◌+◌, ◌-◌, Bool, List, [], ◌∷◌, ◌++◌, length, map, Some, slice_get, refl, sym, ap, ◌∙◌, subst, arith}
use Rattle.std.proofs.lemmas.List.{append-nil}
use Rattle.chw_base.specs.declared.index.WireId.{WireId}
use Rattle.chw_clock.specs.declared.event.Event.{Event}
use Rattle.chw_types.specs.declared.declarations.Data.{Data}
use Rattle.chw_types.specs.Arguments.{arguments}
use Rattle.chw_types.specs.Kinds.{kind_data}
use Rattle.chw_types.specs.SamePromises.{SameValues}
use Rattle.chw_types.specs.TypeMoves.{Substitution, sub}
use Rattle.chw_types.specs.TypeTree.{TypeTree, TypeTrees, data_of}
use Rattle.chw_types.specs.TypeView.{trees_of}
use Rattle.type_laws.specs.SameKept.{FieldsKeepSame}
use Rattle.chw_terms.specs.Constructors.{Constructor, con_at}
use Rattle.chw_terms.specs.TermTree.{TermTree, con}
use Rattle.chw_typing.specs.Programs.{IsSound}
use Rattle.chw_typing.specs.Scopes.{Setting, AreTermTypes}
use Rattle.chw_typing.specs.Given.{types_then, AreGiven}
use Rattle.rewriting.specs.Origins.{Origins, setting_at}
use Rattle.normal_forms.specs.Values.{on_names}
use Rattle.chw_layout.specs.Encodes.{first_constructor, filled}
use Rattle.chw_layout.specs.Measured.{Measure, fits, tag_width, MeasuredFields, no_fields_measured, field_measured, HasWidth}
use Rattle.chw_meaning.specs.Values.{closed, Thunks, none}
use Rattle.carrying.specs.Carrying.{tag_of, Shows}
use Rattle.carrying.specs.DataLaws.{CarryAll, carry_nothing, carry_next}
use Rattle.carrying.specs.TermLaws.{each_closed}
use Rattle.netlist.specs.declared.net.Net.{Net}
use Rattle.net_built.specs.Bodies.{ValueCells, value_constructor}
use Rattle.net_built.specs.Circuits.{Ground as Built}
use Rattle.net_built.specs.Data.{constructed}
use Rattle.net_built.specs.Terms.{Variable, wires_of_all}
use Rattle.net_built.specs.Wires.{Piece, last_wires}
use Rattle.cell_bits.specs.Bearing.{HasCells, Bears, BearEach, bear_none, bear_and}
use Rattle.cell_bits.specs.DataLaws.{joined}
use Rattle.net_grounds.specs.Facts.{Facts}
use Rattle.net_grounds.specs.Kinds.{AllLike}
use Rattle.net_means.specs.SideBits.Sides.{types_in, HasBits, SideGiven, SideHas}
use Rattle.net_means.proofs.SideBits.Heads.{names, IsHead, built_at, looks_at, con_busy, same_counts, wide_asks}
use Rattle.net_means.proofs.SideBits.Operands.{Ground, OperandHas, operand_has}

-- of a constructor's cells: which constructor it is, and how wide its fields are
record ConPiece (ground : Built) (scope : List Variable) (n w c : ℕ) (types : List TypeTree) (es : List TermTree) (p : Piece) : Type 0 where
  it : Constructor
  at : con_at ground.datas c ≡ Some it
  fields : ℕ
  measured : MeasuredFields ground.datas it.decl.fields (arguments (trees_of types)) (fits fields)
  is : p ≡ constructed (tag_width (length it.it.cons)) (c - first_constructor ground.datas it.of) fields w n (wires_of_all scope es)

con_piece : {ground : Built} {scope : List Variable} {n w c : ℕ} {types : List TypeTree} {es : List TermTree} {p : Piece} → ValueCells ground scope n w (con c) types es p → ConPiece ground scope n w c types es p
con_piece (value_constructor {fields = fields} {it = it} at measured) = record { it = it; at = at; fields = fields; measured = measured; is = refl }

fits_same : (a b : ℕ) → fits a ≡ fits b → a ≡ b
fits_same a b e = cc

module _ (facts : Facts) (s : Setting) (sound : IsSound s) (values : SameValues) (keep : FieldsKeepSame) where
  fields_kept : {fs : List TypeTree} {σ τ : Substitution} {m : Measure} → MeasuredFields s.datas fs σ m → AllLike s σ τ fs → MeasuredFields s.datas fs τ m
  fields_kept no_fields_measured l = no_fields_measured
  fields_kept (field_measured a b) l = field_measured (facts.same_layout.measured_same s sound values keep a l.0) (fields_kept b l.1)

module _ (facts : Facts) (o : Origins) (order : List ℕ) (scope : List Variable) (γ : Thunks) (δ : TypeTrees) (net : Net) (path : List ℕ) (h : List Event) (values : SameValues) (keep : FieldsKeepSame) where
  -- variables as operands of these types
  record FieldsHave (xs : List ℕ) (ts : List TypeTree) : Type 0 where
    bits : List (List Bool)
    carry : CarryAll o.program ts (each_closed (names xs) γ δ) (joined bits)
    bear : BearEach net path h (wires_of_all scope (names xs)) bits

  fields_have : Ground o → AreTermTypes (setting_at o) [] (types_in scope) → (σ τ : Substitution) (fs : List TypeTree) (xs : List ℕ) → AllLike (setting_at o) σ τ fs → AreGiven (setting_at o) [] (types_in scope) (map (λ f. sub f σ) fs) (names xs)
      → ((i x : ℕ) (it : Variable) → slice_get xs i ≡ Some x → slice_get scope x ≡ Some it → HasBits o.program net path h γ x it) → FieldsHave xs (map (λ f. sub f τ) fs)
  fields_have ground scoped σ τ [] [] like given has = record { bits = []; carry = carry_nothing; bear = bear_none }
  fields_have ground scoped σ τ [] (x ∷ xs) like given has = absurd given
  fields_have ground scoped σ τ (f ∷ fs) [] like given has = absurd given
  fields_have ground scoped σ τ (f ∷ fs) (x ∷ xs) like given has =
      let one : OperandHas o.program γ δ net path h scope x (sub f τ) = operand_has facts o ground scope scoped γ δ net path h x (sub f σ) (sub f τ) given.0 like.0.same (λ it e. has 0 x it refl e) in
      let rest = fields_have ground scoped σ τ fs xs like.1 given.1 (λ i y it e g. has (suc i) y it e g) in
      record { bits = one.bits ∷ rest.bits; carry = carry_next one.carries rest.carry; bear = bear_and one.bears rest.bear }

  pub constructor_side : (n w : ℕ) (t : TypeTree) (piece : Piece) (c : ℕ) (types : List TypeTree) (xs : List ℕ) → SideGiven o order scope γ net path h n w t (on_names (con c) types xs) piece → SideHas o.program γ δ net path h t (on_names (con c) types xs) (last_wires n piece (w ∷ []))
  constructor_side n w t piece c types xs g =
      let s : Setting = setting_at o in
      let datas : List Data = o.program.datas in
      let ground : Ground o = record { values = values; keep = keep; sound = g.sound } in
      let head : IsHead (con c) = record { head = refl; types = refl; operands = refl } in
      let p = con_piece (built_at head types xs g.built) in
      let it : Constructor = p.it in
      let u : TypeTree = g.typed.type in
      let all = facts.terms.con_takes s [] (types_in scope) c it (types_then types (names xs)) u g.sound g.scoped p.at g.typed.has (wide_asks facts g.wide g.typed.same) in
      let are : types_then types (names xs) ≡ types_then all.0.types all.0.es =
      all.0.are ∙ ap (λ more. types_then all.0.types all.0.es ++ more) all.1 ∙ append-nil (types_then all.0.types all.0.es) in
      let counts = same_counts types all.0.types (names xs) all.0.es are in
      let on_types : length types ≡ length it.it.params = counts.0 ∙ all.0.on_types in
      let on_terms : length (names xs) ≡ length it.decl.fields = counts.1 ∙ all.0.on_terms in
      let typed = facts.terms.con_at_arguments s [] (types_in scope) c it types (names xs) u g.sound g.scoped p.at on_types on_terms g.typed.has in
      let ts : TypeTrees = trees_of types in
      let at = facts.same.as_data (facts.same.same_through typed.2 (facts.same.same_turned g.typed.same)) in
      let us : TypeTrees = at.0 in
      let wide : HasWidth datas (data_of it.of us) w = subst (λ t. HasWidth datas t w) at.1 g.wide in
      let place = facts.constructors.is_constructor datas c it p.at in
      let like : AllLike s (arguments ts) (arguments us) it.decl.fields =
      facts.kinds.con_like s (arguments ts) (arguments us) it.it.cons place.place it.decl place.decl
      (facts.kinds.fields_like s g.sound keep it.of it.it ts us it.it.kind place.data_type (kind_data place.data_type typed.0) at.2) in
      let have = fields_have ground g.scoped (arguments ts) (arguments us) it.decl.fields xs like typed.1 (λ i x v e f. g.variables x v (looks_at head types xs i x e (con_busy c types i)) f) in
      let whole = facts.widths.whole_width o.program c it.of it us w p.at refl wide in
      let count : length (joined have.bits) ≡ whole.s = facts.data_bits.fields_length (facts.data_bits.fields_carried (arguments us) it.decl.fields have.carry none) whole.fields whole.small in
      let fields : p.fields ≡ length (joined have.bits) = fits_same p.fields whole.s (facts.measures.fields_once (fields_kept facts s g.sound values keep p.measured like) whole.fields) ∙ sym count in
      let tag : ℕ = tag_width (length it.it.cons) in
      let number : ℕ = c - first_constructor datas it.of in
      let wires : List WireId = wires_of_all scope (names xs) in
      let is : piece ≡ constructed tag number (length (joined have.bits)) w n wires = p.is ∙ ap (λ k. constructed tag number k w n wires) fields in
      let fit : tag + length (joined have.bits) ≤ w = let l = whole.within in omega (arith, l, count) in
      let b : List Bool = filled w (tag_of datas c it ++ joined have.bits) in
      record {
        bits = b;
        carries = λ k. subst (λ t. Shows o.program t (closed (on_names (con c) types xs) γ δ) k b) (sym at.1)
            (facts.data_bits.constructor_carries o.program c it us w types (names xs) γ δ (joined have.bits) p.at wide on_types have.carry k);
        bears = subst (λ (q : Piece). Bears net path h (last_wires n q (w ∷ [])) b) (sym is)
            (facts.data_cells.constructed_bears net path h tag number w n wires have.bits have.bear fit (subst (λ (q : Piece). HasCells net path q.cells) is g.cells));
      }
