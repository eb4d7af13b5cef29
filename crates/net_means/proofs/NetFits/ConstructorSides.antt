-- Right sides that are constructors: their cells agree in width.
use Rattle.std.proofs.Common.{◌≡◌, ℕ, zero, suc, ◌+◌, ◌-◌, ◌≤◌, arith, List, [], ◌∷◌, ◌++◌, length, map, refl, sym, ap, ◌∙◌, subst, append-nil}
use Rattle.std.proofs.lemmas.List.{length-replicate}
use Rattle.chw_base.specs.declared.index.WireId.{WireId}
use Rattle.chw_base.specs.declared.limits.TheConstants.{DATA_BITS}
use Rattle.chw_bits.specs.Bits.{bits_of}
use Rattle.chw_types.specs.declared.kind.Kind.{Kind}
use Rattle.chw_types.specs.Arguments.{arguments}
use Rattle.chw_types.specs.SameTypes.{SameTypes}
use Rattle.chw_types.specs.TypeMoves.{Substitution, sub}
use Rattle.chw_types.specs.TypeTree.{TypeTree, data_of}
use Rattle.chw_types.specs.TypeView.{trees_of}
use Rattle.chw_terms.specs.TermTree.{con}
use Rattle.chw_typing.specs.Programs.{IsSound}
use Rattle.chw_typing.specs.Scopes.{Setting, HasKind, AreTermTypes}
use Rattle.chw_typing.specs.Typing.{HasType}
use Rattle.chw_typing.specs.Given.{types_then, AreGiven}
use Rattle.chw_typing.specs.SpineLaws.{ConAtArguments, ConIsSaturated}
use Rattle.normal_forms.specs.Values.{on_names}
use Rattle.chw_layout.specs.Encodes.{first_constructor}
use Rattle.chw_layout.specs.Measured.{fits, tag_width, HasWidth, Measure, Measured, MeasuredFields, no_fields_measured, field_measured}
use Rattle.layout_laws.specs.SameLayout.{SameKeepsMeasure}
use Rattle.netlist.specs.declared.net.Cell.TheVariants.{Const, Join}
use Rattle.netlist.specs.declared.net.Module.{Module}
use Rattle.net_built.specs.Bodies.{ValueCells, value_constructor}
use Rattle.net_built.specs.Data.{constructed}
use Rattle.net_built.specs.Terms.{Variable, wires_at, wires_of_all}
use Rattle.net_built.specs.Wires.{wire, new_wires, present, Piece, ◌▸◌, one, after}
use Rattle.net_built.specs.Words.{zeros}
use Rattle.net_grounds.specs.Facts.{Facts}
use Rattle.net_means.proofs.Lists.{length-bits_of}
use Rattle.net_means.specs.NetFits.Laws.{ground_over}
use Rattle.net_means.specs.NetFits.Widths.{AreWide, StandFrom, WideAt}
use Rattle.net_means.proofs.NetFits.CircuitDrivers.{type_count, term_count, types_counted, terms_counted, AllKinded, fields_kinded}
use Rattle.net_means.proofs.NetFits.Scopes.{Fits}
use Rattle.net_means.proofs.NetFits.Shapes.{names}
use Rattle.net_means.proofs.NetFits.ValueEnds.{wide_asks}
use Rattle.net_means.proofs.NetFits.ValueWidths.{variable_wide}
use Rattle.net_means.proofs.NetFits.Wide.{stand_parts, wide_from}
use Rattle.net_means.proofs.NetFits.WordWidths.{Agree, const_agrees, join_agrees, then_agree, total_of, wide_append}

pub total_append : (xs ys : List ℕ) → total_of (xs ++ ys) ≡ total_of xs + total_of ys
total_append [] ys = omega arith
total_append (x ∷ xs) ys = let rest = total_append xs ys in omega (arith, rest)

pub total_present : (w : ℕ) → total_of (present (w ∷ [])) ≡ w
total_present zero = refl
total_present (suc w) = omega arith

-- the tag, the fields and the padding are together as wide as the whole
pub constructed_agrees : (earlier : List Module) (all : List ℕ) (tag number fields w at : ℕ) (wires : List WireId) (ws : List ℕ) → AreWide all wires ws → total_of ws ≡ fields → tag + fields ≤ w → StandFrom all at (constructed tag number fields w at wires).widths → Agree earlier all (constructed tag number fields w at wires)
constructed_agrees earlier all tag number fields w at wires ws h total less stand =
    let padding : ℕ = w - (tag + fields) in
    let p : Piece = one tag (Const (wire at) (bits_of tag number)) in
    let q : Piece = one padding (Const (wire (after at p)) (zeros padding)) in
    let front : List ℕ = present (tag ∷ []) in
    let back : List ℕ = present (padding ∷ []) in
    let parts : List WireId = new_wires at (tag ∷ []) ++ wires ++ new_wires (after at p) (padding ∷ []) in
    let d : Piece = one w (Join (wire (after (after at p) q)) parts) in
    let first = stand_parts all at front (q ▸ d).widths stand in
    let second = stand_parts all (after at p) back d.widths first.1 in
    let before : AreWide all (new_wires at (tag ∷ []) ++ wires) (front ++ ws) = wide_append all (new_wires at (tag ∷ [])) wires front ws (wide_from all at front first.0) h in
    let each : AreWide all parts ((front ++ ws) ++ back) = wide_append all (new_wires at (tag ∷ []) ++ wires) (new_wires (after at p) (padding ∷ [])) (front ++ ws) back before (wide_from all (after at p) back second.0) in
    let outer = total_append (front ++ ws) back in
    let inner = total_append front ws in
    let tag_is = total_present tag in
    let pad_is = total_present padding in
    let size : total_of ((front ++ ws) ++ back) ≡ w = omega (arith, outer, inner, tag_is, pad_is, total, less) in
    then_agree earlier all at p (q ▸ d) stand (λ s. const_agrees earlier all at tag (bits_of tag number) (length-bits_of tag number) s)
    (λ s. then_agree earlier all (after at p) q d s (λ s. const_agrees earlier all (after at p) padding (zeros padding) (length-replicate padding _) s)
    (λ s. join_agrees earlier all (after (after at p) q) w parts ((front ++ ws) ++ back) each size s))

-- the wires of operands, and how wide they are together
record FieldWires (all : List ℕ) (wires : List WireId) (total : ℕ) : Type 0 where
  widths : List ℕ
  wide : AreWide all wires widths
  are : total_of widths ≡ total

fits_is : {a b : ℕ} → fits a ≡ fits b → a ≡ b
fits_is e = cc

module _ (facts : Facts) (law : SameKeepsMeasure) (con_args : ConAtArguments) (saturated : ConIsSaturated) (s : Setting) (all : List ℕ) (sound : IsSound s) (vars : List TypeTree) (scope : List Variable) (fit : Fits vars scope) (wide : (y : ℕ) → WideAt s.datas all scope y) where
  field_wires : (fs : List TypeTree) (σ : Substitution) (xs : List ℕ) (m : Measure) (total : ℕ) → MeasuredFields s.datas fs σ m → m ≡ fits total → total ≤ DATA_BITS → AllKinded s σ fs → AreGiven s [] vars (map (λ f. sub f σ) fs) (names xs) → FieldWires all (wires_of_all scope (names xs)) total
  field_wires [] σ [] m total no_fields_measured e l kinded given = record { widths = []; wide = tt; are = fits_is e }
  field_wires [] σ (x ∷ xs) m total measured e l kinded given = absurd given
  field_wires (f ∷ fs) σ [] m total measured e l kinded given = absurd given
  field_wires (f ∷ fs) σ (x ∷ xs) m total (field_measured {m = one_of} {n = others} a more) e l kinded given =
      let sum = facts.measures.then_fits one_of others total (sym e) in
      let is : total ≡ sum.a + sum.b = let whole = sum.is in omega (arith, whole, l) in
      let here : HasWidth s.datas (sub f σ) sum.a = subst (λ m. Measured s.datas (sub f σ) m) sum.one a in
      let rest = field_wires fs σ xs others sum.b more sum.others (omega (arith, is, l)) kinded.1 given.1 in
      let joined = total_append (present (sum.a ∷ [])) rest.widths in
      let single = total_present sum.a in
      let others_are = rest.are in
      record {
        widths = present (sum.a ∷ []) ++ rest.widths;
        wide = wide_append all (wires_at scope x) (wires_of_all scope (names xs)) (present (sum.a ∷ [])) rest.widths
            (variable_wide facts law s all sound vars scope x (sub f σ) given.0.type kinded.0.0 sum.a fit (wide x) given.0.has kinded.0.1 given.0.same here) rest.wide;
        are = omega (arith, joined, single, others_are, is);
      }

  pub constructor_agrees : (earlier : List Module) (scoped : AreTermTypes s [] vars) {order : List ℕ} {n w : ℕ} (t u : TypeTree) (k : Kind) (c : ℕ) (types : List TypeTree) (xs : List ℕ) {p : Piece} → HasKind s [] t k → SameTypes t u → HasWidth s.datas t w → StandFrom all n p.widths
      → HasType s [] vars (on_names (con c) types xs) u → ValueCells (ground_over s order) scope n w (con c) types (names xs) p → Agree earlier all p
  constructor_agrees earlier scoped {n = n} {w = w} t u k c types xs kind same has stand typed (value_constructor {fields = fields} {it = it} known measured) =
      let args = saturated s [] vars c it (types_then types (names xs)) u sound scoped known typed (wide_asks facts has same) in
      let are : types_then types (names xs) ≡ types_then args.0.types args.0.es =
      args.0.are ∙ ap (λ more. types_then args.0.types args.0.es ++ more) args.1 ∙ append-nil (types_then args.0.types args.0.es) in
      let on_types : length types ≡ length it.it.params = sym (types_counted types (names xs)) ∙ ap (λ args. type_count args) are ∙ types_counted args.0.types args.0.es ∙ args.0.on_types in
      let on_terms : length (names xs) ≡ length it.decl.fields = sym (terms_counted types (names xs)) ∙ ap (λ args. term_count args) are ∙ terms_counted args.0.types args.0.es ∙ args.0.on_terms in
      let at = con_args s [] vars c it types (names xs) u sound scoped known on_types on_terms typed in
      let whole : HasWidth s.datas (data_of it.of (trees_of types)) w = law (fits w) s t (data_of it.of (trees_of types)) sound (record { kind = k; has = kind; same = facts.same.same_through same (facts.same.same_turned at.2) }) has in
      let place = facts.constructors.has_place s.datas c it known in
      let x = facts.widths.cons_width it.it place.in_datas whole in
      let y = facts.widths.con_width it.it.cons place.place it.decl place.in_cons x.cons in
      let is : fields ≡ y.s = fits_is (facts.measures.fields_once measured y.fields) in
      let all_is = x.is in
      let limit = x.within in
      let less = y.within in
      let small : fields ≤ DATA_BITS = omega (arith, is, all_is, limit, less) in
      let room : tag_width (length it.it.cons) + fields ≤ w = omega (arith, is, all_is, less) in
      let wires = field_wires it.decl.fields (arguments (trees_of types)) xs (fits fields) fields measured refl small (fields_kinded facts s sound c it (trees_of types) known at.0) at.1 in
      constructed_agrees earlier all (tag_width (length it.it.cons)) (c - first_constructor s.datas it.of) fields w n (wires_of_all scope (names xs)) wires.widths wires.wide wires.are room stand
