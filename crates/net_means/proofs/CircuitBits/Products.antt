-- Products as right sides.
use Rattle.std.specs.Prelude.{slice_get, ◌-◌}
use Rattle.std.proofs.Common.{◌≡◌, ◌<◌, ℕ, zero, suc, ◌+◌, List, [], ◌∷◌, ◌++◌, length, map, Some, refl, sym, ap, ◌∙◌, subst, arith}
use Rattle.std.proofs.lemmas.List.{append-nil, length-map}
use Rattle.chw_base.specs.declared.index.WireId.{WireId}
use Rattle.chw_types.specs.Arguments.{arguments}
use Rattle.chw_types.specs.declared.declarations.Data.{Data}
use Rattle.chw_types.specs.Kinds.{kind_data}
use Rattle.type_ports.specs.Ports.{one_leaf, leaves_of_fields}
use Rattle.chw_types.specs.SamePromises.{SameValues}
use Rattle.chw_types.specs.SameTypes.{SameTypes}
use Rattle.chw_types.specs.TypeMoves.{Substitution, sub}
use Rattle.chw_types.specs.TypeTree.{TypeTree, TypeTrees, data_of}
use Rattle.chw_types.specs.TypeView.{trees_of}
use Rattle.type_laws.specs.SameKept.{FieldsKeepSame}
use Rattle.chw_terms.specs.Constructors.{Constructor, con_at}
use Rattle.chw_terms.specs.declared.program.Program.{Program}
use Rattle.chw_terms.specs.declared.scene.Sort.TheVariants.{Circuit}
use Rattle.chw_terms.specs.TermTree.{TermTree, var, con}
use Rattle.chw_typing.specs.Programs.{IsSound, setting_of}
use Rattle.chw_typing.specs.Scopes.{Setting, AreTermTypes}
use Rattle.chw_typing.specs.Typing.{HasType, HasTypeUpTo}
use Rattle.chw_typing.specs.Alike.{AreLike}
use Rattle.chw_typing.specs.Given.{types_then, AreGiven, AsksForNone}
use Rattle.rewriting.specs.Origins.{Origins, setting_at}
use Rattle.normal_forms.specs.Values.{on_names}
use Rattle.chw_meaning.specs.Values.{History, con_of, Thunk, closed, Thunks, none, field}
use Rattle.chw_meaning.specs.Eval.{plus, f_closed, f_field, r_gives}
use Rattle.chw_meaning.specs.Steps.{params_of, fields_of}
use Rattle.carrying.specs.TermLaws.{onto, each_closed}
use Rattle.netlist.specs.declared.net.Net.{Net}
use Rattle.net_built.specs.Circuits.{Ground as Built, CircuitCells, of_product, HaveParts}
use Rattle.net_built.specs.Data.{HasParts, port_parts}
use Rattle.net_built.specs.Terms.{Variable, wires_at, wires_of_all}
use Rattle.net_built.specs.Wires.{Piece, wire_count, last_wires, copies}
use Rattle.cell_bits.specs.Bearing.{HasCells, Bears}
use Rattle.net_grounds.specs.Facts.{Facts}
use Rattle.net_grounds.specs.Kinds.{AllLike}
use Rattle.net_means.proofs.Lists.{found_in_map, found_before_map}
use Rattle.net_means.specs.SideBits.Sides.{types_in}
use Rattle.net_means.proofs.SideBits.Heads.{names, same_counts}
use Rattle.net_means.proofs.SideBits.Operands.{sound_alone, var_at}
use Rattle.net_means.specs.CircuitBits.Leaves.{HasAllOf, part_wires, leaves_before, IsLeaf, LeafHas, FieldLeaf, AreHeld, CircuitGiven}
use Rattle.net_means.proofs.CircuitBits.FieldLeaves.{only_con, leaf_of_field}
use Rattle.net_means.proofs.CircuitBits.FieldWires.{in_turn, first_part, rest_part, parts_in_turn, field_parts}
use Rattle.net_means.proofs.CircuitBits.Heads.{circuit_built_at}
use Rattle.net_means.proofs.CircuitBits.Names.{LeafAlong, leaf_along, variable_has_all}
use Rattle.net_means.proofs.CircuitBits.PartWires.{copies_part}
use Rattle.net_means.proofs.CircuitBits.Ports.{leaf_width, parts_along}
use Rattle.net_means.proofs.CircuitBits.Signals.{wires_there, operand_like}

-- a port asks for no arguments
pub port_asks : Facts → {datas : List Data} {t : TypeTree} {ws : List ℕ} → HasParts datas Circuit t ws → (u : TypeTree) → SameTypes t u → AsksForNone u
port_asks facts (port_parts (one_leaf r) h) u same = let at = facts.same.as_signal same in subst AsksForNone (sym at.2) tt
port_asks facts (port_parts (leaves_of_fields known as_many one fields a) h) u same = let at = facts.same.as_data same in subst AsksForNone (sym at.1) tt

product_piece : {ground : Built} {scope : List Variable} {n c : ℕ} {widths : List ℕ} {types : List TypeTree} {es : List TermTree} {p : Piece} → CircuitCells ground scope n widths (con c) types es p → p ≡ copies n (wires_of_all scope es) widths
product_piece of_product = refl

there_below : {A : Type 0} (xs : List A) (i : ℕ) (x : A) → slice_get xs i ≡ Some x → i < length xs
there_below [] i x e = absurd cc
there_below (y ∷ xs) zero x e = omega arith
there_below (y ∷ xs) (suc i) x e = let l = there_below xs i x e in omega (arith, l)

-- the field of a variable
pub record GivenAt (s : Setting) (vars : List TypeTree) (σ τ : Substitution) (fs : List TypeTree) (i x : ℕ) : Type 0 where
  pub type : TypeTree
  pub is : slice_get fs i ≡ Some type
  pub typed : HasTypeUpTo s [] vars (var x) (sub type σ)
  pub like : AreLike s (sub type σ) (sub type τ)

pub given_at : (s : Setting) (vars : List TypeTree) (σ τ : Substitution) (fs : List TypeTree) (xs : List ℕ) (i x : ℕ) → AreGiven s [] vars (map (λ f. sub f σ) fs) (names xs) → AllLike s σ τ fs → slice_get xs i ≡ Some x → GivenAt s vars σ τ fs i x
given_at s vars σ τ fs [] i x given like e = absurd cc
given_at s vars σ τ [] (y ∷ xs) i x given like e = absurd given
given_at s vars σ τ (f ∷ fs) (y ∷ xs) zero x given like e =
    let is : y ≡ x = cc in
    record { type = f; is = refl; typed = subst (λ x. HasTypeUpTo s [] vars (var x) (sub f σ)) is given.0; like = like.0 }
given_at s vars σ τ (f ∷ fs) (y ∷ xs) (suc i) x given like e =
    let at = given_at s vars σ τ fs xs i x given.1 like.1 e in
    record { type = at.type; is = at.is; typed = at.typed; like = at.like }

module _ (facts : Facts) (o : Origins) (scope : List Variable) (h : History) (th : Thunk) (values : SameValues) (keep : FieldsKeepSame) (sound : IsSound (setting_at o)) (scoped : AreTermTypes (setting_at o) [] (types_in scope)) (held : AreHeld o.program.datas scope) where
  -- a variable that is used at a port has the wires of the port's parts
  pub operand_count : (x : ℕ) (c : TypeTree) (ws : List ℕ) → HasTypeUpTo (setting_at o) [] (types_in scope) (var x) c → HasParts o.program.datas Circuit c ws → length (wires_at scope x) ≡ wire_count ws
  operand_count x c ws typed parts =
      let v = found_before_map (λ (v : Variable). v.ty) scope x typed.type (var_at typed.has) in
      let own = held x v.0 v.1 in
      let like = operand_like facts o scope x v.0 c sound scoped v.1 typed in
      let same : own.0 ≡ ws = facts.built.parts_once (parts_along facts o.program h (sound_alone o sound) values keep th own.1 like) parts in
      ap (λ (wires : List WireId). length wires) (wires_there scope x v.0 v.1) ∙ own.2 ∙ ap (λ ws. wire_count ws) same

  -- of the wires of all fields those of a leaf of one
  pub fields_wires : (fs : List TypeTree) (σ : Substitution) (xs : List ℕ) (parts : List (List ℕ)) (i j x : ℕ) (ws : List ℕ) → AreGiven (setting_at o) [] (types_in scope) (map (λ f. sub f σ) fs) (names xs) → HaveParts o.program.datas (map (λ f. sub f σ) fs) parts → slice_get xs i ≡ Some x → slice_get parts i ≡ Some ws → j < length ws
      → part_wires (leaves_before i parts + j) (in_turn parts) (wires_of_all scope (names xs)) ≡ part_wires j ws (wires_at scope x)
  fields_wires fs σ [] parts i j x ws given have e one l = absurd cc
  fields_wires [] σ (y ∷ xs) parts i j x ws given have e one l = absurd given
  fields_wires (f ∷ fs) σ (y ∷ xs) [] i j x ws given have e one l = absurd have
  fields_wires (f ∷ fs) σ (y ∷ xs) (vs ∷ parts) zero j x ws given have e one l =
      let is : y ≡ x = cc in
      let part : vs ≡ ws = cc in
      let place : 0 + j ≡ j = omega arith in
      let size : length vs ≡ length ws = ap (λ (ws : List ℕ). length ws) part in
      ap (λ n. part_wires n (vs ++ in_turn parts) (wires_at scope y ++ wires_of_all scope (names xs))) place
      ∙ first_part j vs (in_turn parts) (wires_at scope y) (wires_of_all scope (names xs)) (omega (arith, l, size)) (operand_count y (sub f σ) vs given.0 have.0)
      ∙ (λ k. part_wires j (part k) (wires_at scope (is k)))
  fields_wires (f ∷ fs) σ (y ∷ xs) (vs ∷ parts) (suc i) j x ws given have e one l =
      rest_part (leaves_before i parts + j) (length vs + leaves_before i parts + j) vs (in_turn parts) (wires_at scope y) (wires_of_all scope (names xs)) (omega arith) (operand_count y (sub f σ) vs given.0 have.0)
      ∙ fields_wires fs σ xs parts i j x ws given.1 have.1 e one l

-- fields at types that are the same have the same parts
pub have_along : Facts → (o : Origins) → IsSound (setting_at o) → SameValues → FieldsKeepSame → History → Thunk → (σ τ : Substitution) (fs : List TypeTree) (parts : List (List ℕ)) → AllLike (setting_at o) σ τ fs → HaveParts o.program.datas (map (λ f. sub f σ) fs) parts → HaveParts o.program.datas (map (λ f. sub f τ) fs) parts
have_along facts o sound values keep h th σ τ [] [] like have = tt
have_along facts o sound values keep h th σ τ [] (ws ∷ parts) like have = absurd have
have_along facts o sound values keep h th σ τ (f ∷ fs) [] like have = absurd have
have_along facts o sound values keep h th σ τ (f ∷ fs) (ws ∷ parts) like have =
    let alike : AreLike (setting_of o.program) (sub f σ) (sub f τ) = record { kind = like.0.kind; has = like.0.has; same = like.0.same } in
    (parts_along facts o.program h (sound_alone o sound) values keep th have.0 alike, have_along facts o sound values keep h th σ τ fs parts like.1 have.1)

-- a field of a constructor on variables has what the variable has
product_field : Facts → (p : Program) (c : ℕ) (it : Constructor) (types : List TypeTree) (xs : List ℕ) (γ : Thunks) (δ : TypeTrees) (h : History) (i k x : ℕ) → con_at p.datas c ≡ Some it → length types ≡ length it.it.params → length (names xs) ≡ length it.decl.fields → slice_get xs i ≡ Some x → k + suc i ≡ length it.decl.fields
    → HasAllOf p h (field k (closed (on_names (con c) types xs) γ δ)) (closed (var x) γ δ)
product_field facts p c it types xs γ δ h i k x at on_types on_terms is count n v f =
    let ths : Thunks = onto (each_closed (names xs) γ δ) none in
    let d = facts.prims.con_whole p c γ δ h types (names xs) (on_types ∙ sym (ap params_of at)) (on_terms ∙ sym (ap fields_of at)) zero (con_of c ths) r_gives in
    let there : slice_get (each_closed (names xs) γ δ) i ≡ Some (closed (var x) γ δ) = found_in_map (λ e. closed e γ δ) (names xs) i (var x) (found_in_map (λ x. var x) xs i x is) in
    let many : length (each_closed (names xs) γ δ) ≡ length (names xs) = length-map (names xs) (λ e. closed e γ δ) in
    (suc (plus d.0 n), f_field (f_closed d.1) (facts.environments.parameter_variables (each_closed (names xs) γ δ) none k i (closed (var x) γ δ) there (count ∙ sym (many ∙ on_terms))) f)

-- the types of a product on its variables
pub record ProductTyped (s : Setting) (vars : List TypeTree) (c : ℕ) (it : Constructor) (types : List TypeTree) (xs : List ℕ) (t : TypeTree) : Type 0 where
  pub on_types : length types ≡ length it.it.params
  pub on_terms : length (names xs) ≡ length it.decl.fields
  pub given : AreGiven s [] vars (map (λ f. sub f (arguments (trees_of types))) it.decl.fields) (names xs)
  pub us : TypeTrees
  pub is : t ≡ data_of it.of us
  pub like : AllLike s (arguments (trees_of types)) (arguments us) it.decl.fields

pub product_typed : Facts → (s : Setting) (vars : List TypeTree) (c : ℕ) (it : Constructor) (types : List TypeTree) (xs : List ℕ) (t u : TypeTree) → IsSound s → FieldsKeepSame → AreTermTypes s [] vars → con_at s.datas c ≡ Some it → HasType s [] vars (on_names (con c) types xs) u → SameTypes t u → AsksForNone u → ProductTyped s vars c it types xs t
product_typed facts s vars c it types xs t u sound keep scoped known typed same asks =
    let whole = facts.terms.con_takes s [] vars c it (types_then types (names xs)) u sound scoped known typed asks in
    let are : types_then types (names xs) ≡ types_then whole.0.types whole.0.es =
    whole.0.are ∙ ap (λ more. types_then whole.0.types whole.0.es ++ more) whole.1 ∙ append-nil (types_then whole.0.types whole.0.es) in
    let counts = same_counts types whole.0.types (names xs) whole.0.es are in
    let on_types : length types ≡ length it.it.params = counts.0 ∙ whole.0.on_types in
    let on_terms : length (names xs) ≡ length it.decl.fields = counts.1 ∙ whole.0.on_terms in
    let given = facts.terms.con_at_arguments s [] vars c it types (names xs) u sound scoped known on_types on_terms typed in
    let is = facts.same.as_data (facts.same.same_through given.2 (facts.same.same_turned same)) in
    let place = facts.constructors.is_constructor s.datas c it known in
    record {
      on_types = on_types;
      on_terms = on_terms;
      given = given.1;
      us = is.0;
      is = is.1;
      like = facts.kinds.con_like s (arguments (trees_of types)) (arguments is.0) it.it.cons place.place it.decl place.decl
          (facts.kinds.fields_like s sound keep it.of it.it (trees_of types) is.0 it.it.kind place.data_type (kind_data place.data_type given.0) is.2);
    }

module _ (facts : Facts) (o : Origins) (order : List ℕ) (scope : List Variable) (γ : Thunks) (δ : TypeTrees) (net : Net) (path : List ℕ) (h : History) (n : ℕ) (widths : List ℕ) (t : TypeTree) (piece : Piece) (values : SameValues) (keep : FieldsKeepSame) where
  pub product_has : (c : ℕ) (types : List TypeTree) (xs : List ℕ) (parts : List (List ℕ)) (i j : ℕ) → CircuitGiven o order scope net path n widths t (on_names (con c) types xs) piece → FieldLeaf o.program net path scope γ h c types xs parts i j
      → LeafHas o.program net path h t (closed (on_names (con c) types xs) γ δ) (last_wires n piece widths) (leaves_before i parts + j)
  product_has c types xs parts i j g f = of_port (subst (λ t. HasParts p.datas Circuit t widths) typed.is g.parts)
    where
      p : Program
      p = o.program

      s : Setting
      s = setting_at o

      it : Constructor
      it = f.it

      th : Thunk
      th = closed (on_names (con c) types xs) γ δ

      typed : ProductTyped s (types_in scope) c it types xs t
      typed = product_typed facts s (types_in scope) c it types xs t g.typed.type g.sound keep g.scoped f.known g.typed.has g.typed.same (port_asks facts g.parts g.typed.type g.typed.same)

      σ : Substitution
      σ = arguments (trees_of types)

      τ : Substitution
      τ = arguments typed.us

      have : HaveParts p.datas (map (λ f. sub f τ) it.decl.fields) parts
      have = have_along facts o g.sound values keep h th σ τ it.decl.fields parts typed.like f.have

      one : GivenAt s (types_in scope) σ τ it.decl.fields i f.x
      one = given_at s (types_in scope) σ τ it.decl.fields xs i f.x typed.given typed.like f.is

      part : (ws : List ℕ) × (slice_get parts i ≡ Some ws) × HasParts p.datas Circuit (sub one.type τ) ws
      part = field_parts p.datas (map (λ f. sub f τ) it.decl.fields) parts i (sub one.type τ) have (found_in_map (λ f. sub f τ) it.decl.fields i one.type one.is)

      k : ℕ
      k = length it.decl.fields - suc i

      count : k + suc i ≡ length it.decl.fields
      count = let l = there_below it.decl.fields i one.type one.is in omega (arith, l)

      alike : AreLike (setting_of p) f.leaf.it.ty (sub one.type τ)
      alike = let l = operand_like facts o scope f.x f.leaf.it (sub one.type σ) g.sound g.scoped f.leaf.known one.typed in record { kind = l.kind; has = l.has; same = facts.same.same_through l.same one.like.same }

      all : HasAllOf p h (field k th) f.leaf.thunk
      all m v d = let e = variable_has_all f.leaf.there m v d in product_field facts p c it types xs γ δ h i k f.x f.known typed.on_types typed.on_terms f.is count e.0 v e.1

      along : LeafAlong p h (sub one.type τ) (field k th) j part.0 f.leaf.has.bits
      along = leaf_along facts p (sound_alone o g.sound) values keep (field k th) part.0 f.leaf.has alike all part.2

      same : f.leaf.has.widths ≡ part.0
      same = facts.built.parts_once (parts_along facts p h (sound_alone o g.sound) values keep th f.leaf.has.parts alike) part.2

      wires : List WireId
      wires = wires_of_all scope (names xs)

      piece_is : piece ≡ copies n wires widths
      piece_is = product_piece (circuit_built_at {f = con c} (record { head = refl; types = refl; operands = refl }) types xs g.built)

      bears : Bears net path h (part_wires j part.0 (wires_at scope f.x)) f.leaf.has.bits
      bears = subst (λ ws. Bears net path h (part_wires j ws (wires_at scope f.x)) f.leaf.has.bits) same
          (subst (λ ws. Bears net path h (part_wires j f.leaf.has.widths ws) f.leaf.has.bits) (sym (wires_there scope f.x f.leaf.it f.leaf.known)) f.leaf.has.bears)

      of_port : HasParts p.datas Circuit (data_of it.of typed.us) widths → LeafHas p net path h t th (last_wires n piece widths) (leaves_before i parts + j)
      of_port (port_parts {leaves = ls} leaves has) =
          let con = only_con facts p.datas c it f.known leaves in
          let leaf = leaf_of_field facts p.datas it typed.us ls con th parts i j k one.type along.leaf have one.is count along.is in
          let turn : widths ≡ in_turn parts = parts_in_turn facts con.leaves widths parts has have in
          let at = leaf_width facts (port_parts {leaves = ls} leaves has) leaf in
          let long : slice_get widths (leaves_before i parts + j) ≡ Some (length f.leaf.has.bits) = at.1 ∙ ap (λ w. Some w) (sym (facts.shows.shown_length along.shows at.2)) in
          let these : part_wires (leaves_before i parts + j) (in_turn parts) wires ≡ part_wires j part.0 (wires_at scope f.x) =
          fields_wires facts o scope h th values keep g.sound g.scoped g.held it.decl.fields σ xs parts i j f.x part.0 typed.given f.have f.is part.1 (there_below part.0 j (length f.leaf.has.bits) along.long) in
          let before : Bears net path h (part_wires (leaves_before i parts + j) widths wires) f.leaf.has.bits =
          subst (λ ws. Bears net path h (part_wires (leaves_before i parts + j) ws wires) f.leaf.has.bits) (sym turn)
          (subst (λ (ws : List WireId). Bears net path h ws f.leaf.has.bits) (sym these) bears) in
          record {
            widths = widths;
            parts = g.parts;
            leaf = along.leaf;
            is = subst (λ t. IsLeaf p.datas t th (leaves_before i parts + j) along.leaf) (sym typed.is) leaf;
            bits = f.leaf.has.bits;
            shows = along.shows;
            bears = subst (λ (q : Piece). Bears net path h (part_wires (leaves_before i parts + j) widths (last_wires n q widths)) f.leaf.has.bits) (sym piece_is)
                (copies_part (leaves_before i parts + j) n widths wires f.leaf.has.bits before long (subst (λ (q : Piece). HasCells net path q.cells) piece_is g.cells));
          }
