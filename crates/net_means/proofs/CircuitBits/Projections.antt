-- Projections as right sides.
use Rattle.std.specs.Prelude.{slice_get, ◌-◌, ◌==◌, take, drop}
use Rattle.std.proofs.Common.{◌≡◌, ◌<◌, ◌≤◌, ℕ, zero, suc, ◌+◌, List, [], ◌∷◌, ◌++◌, length, Some, refl, sym, ap, ◌∙◌, subst, arith, length-append, length-drop, length-take-le, take-append-drop}
use Rattle.std.proofs.lemmas.List.{length-map}
use Rattle.chw_base.specs.declared.index.ConId.{ConId}
use Rattle.chw_base.specs.declared.index.WireId.{WireId}
use Rattle.chw_types.specs.Arguments.{arguments}
use Rattle.chw_types.specs.declared.declarations.Data.{Data}
use Rattle.chw_types.specs.declared.kind.Kind.{Kind}
use Rattle.chw_types.specs.Kinds.{KindsOf, kind_data}
use Rattle.chw_types.specs.SamePromises.{SameValues}
use Rattle.chw_types.specs.SameTypes.{SameTypes}
use Rattle.chw_types.specs.TypeMoves.{sub}
use Rattle.chw_types.specs.TypeTree.{TypeTree, TypeTrees, data_of}
use Rattle.type_laws.specs.SameKept.{FieldsKeepSame}
use Rattle.chw_terms.specs.Constructors.{Constructor, con_at}
use Rattle.chw_terms.specs.declared.program.Program.{Program}
use Rattle.chw_terms.specs.declared.scene.Sort.TheVariants.{Circuit}
use Rattle.chw_terms.specs.declared.term.Pattern.TheVariants.{OfCon}
use Rattle.chw_terms.specs.TermTree.{TermTree, var, case_of, no_alts, alt}
use Rattle.chw_typing.specs.HeadTypes.{PatternOf, of_con, fields_at}
use Rattle.chw_typing.specs.Programs.{setting_of}
use Rattle.chw_typing.specs.Scopes.{Setting, HasKind, AreSame, with_more}
use Rattle.chw_typing.specs.Typing.{HasType, h_case}
use Rattle.chw_typing.specs.Alike.{AreLike}
use Rattle.rewriting.specs.Origins.{Origins, setting_at}
use Rattle.chw_meaning.specs.Values.{History, Thunk, closed, Thunks, field}
use Rattle.chw_meaning.specs.Eval.{f_closed, e_takes, e_var, takes, choice, by_fields, is_only}
use Rattle.carrying.specs.Carrying.{Shows}
use Rattle.netlist.specs.declared.net.Net.{Net}
use Rattle.net_built.specs.Circuits.{Ground as Built, CircuitCells, of_projection, HaveParts, field_wires}
use Rattle.net_built.specs.Data.{HasParts, port_parts}
use Rattle.net_built.specs.Terms.{Variable}
use Rattle.net_built.specs.Wires.{Piece, present, wire_count, last_wires, copies}
use Rattle.cell_bits.specs.Bearing.{HasCells, Bears}
use Rattle.net_grounds.specs.Facts.{Facts}
use Rattle.net_means.proofs.Lists.{found_before_map, turned_onto, same_some}
use Rattle.net_means.specs.SideBits.Sides.{ground_of, types_in}
use Rattle.net_means.proofs.SideBits.Operands.{sound_alone, var_at}
use Rattle.net_means.specs.CircuitBits.Leaves.{HasAllOf, part_wires, leaves_before, IsLeaf, LeafHas, ProjectedLeaf, CircuitGiven}
use Rattle.net_means.proofs.CircuitBits.FieldLeaves.{only_con, field_of_leaf}
use Rattle.net_means.proofs.CircuitBits.FieldWires.{in_turn, first_part, rest_part, parts_in_turn, field_parts}
use Rattle.net_means.proofs.CircuitBits.Names.{variable_has_all}
use Rattle.net_means.proofs.CircuitBits.PartWires.{copies_part}
use Rattle.net_means.proofs.CircuitBits.Ports.{field_has_all, Follower, leaf_follows, leaf_width, parts_along}

abbrev pub projected : ConId → ℕ → ℕ → ℕ → TermTree
projected c count x z = case_of (var x) (alt (OfCon c count) (var z) no_alts)

-- the cells of a projection
record ProjectionPiece (ground : Built) (scope : List Variable) (n : ℕ) (widths : List ℕ) (c : ConId) (count x z : ℕ) (p : Piece) : Type 0 where
  it : Variable
  known : slice_get scope x ≡ Some it
  fields : List TypeTree
  pattern : PatternOf ground.datas it.ty (OfCon c count) fields
  parts : List (List ℕ)
  have : HaveParts ground.datas fields parts
  is : p ≡ copies n (field_wires (count - 1 - z) parts it.wires) widths

projection_piece : {ground : Built} {scope : List Variable} {n : ℕ} {widths : List ℕ} {c : ConId} {count x z : ℕ} {p : Piece} → CircuitCells ground scope n widths (projected c count x z) [] [] p → ProjectionPiece ground scope n widths c count x z p
projection_piece (of_projection {it = it} {fields = fields} parts known pattern have) = record { it = it; known = known; fields = fields; pattern = pattern; parts = parts; have = have; is = refl }

-- the constructor of a pattern
pub record ConPattern (datas : List Data) (u : TypeTree) (c : ConId) (count : ℕ) (fields : List TypeTree) : Type 0 where
  pub it : Constructor
  pub known : con_at datas c.number ≡ Some it
  pub ts : TypeTrees
  pub is : u ≡ data_of it.of ts
  pub many : length it.decl.fields ≡ count
  pub are : fields ≡ fields_at it ts

pub con_pattern : {datas : List Data} {u : TypeTree} {c : ConId} {count : ℕ} {fields : List TypeTree} → PatternOf datas u (OfCon c count) fields → ConPattern datas u c count fields
con_pattern (of_con {ts = ts} it known of many) = record { it = it; known = known; ts = ts; is = ap (λ d. data_of d ts) (sym of); many = many; are = refl }

-- a typed case with one alternative
pub record OneCase (s : Setting) (vars : List TypeTree) (x : ℕ) (c : ConId) (count z : ℕ) (t : TypeTree) : Type 0 where
  pub of : TypeTree
  pub is : slice_get vars x ≡ Some of
  pub kind : Kind
  pub has : HasKind s [] of kind
  pub fields : List TypeTree
  pub pattern : PatternOf s.datas of (OfCon c count) fields
  pub names : List TypeTree
  pub same : AreSame fields names
  pub named : slice_get (with_more names vars) z ≡ Some t

pub one_case : {s : Setting} {vars : List TypeTree} {x : ℕ} {c : ConId} {count z : ℕ} {t : TypeTree} → HasType s [] vars (projected c count x z) t → OneCase s vars x c count z t
one_case (h_case {bound = names} {u = u} {j = j} of looked kind b typed of_kind functions more hidden) = record { of = u; is = var_at of; kind = j; has = kind; fields = b.fields; pattern = b.pattern; names = names; same = b.same; named = var_at typed }

pub as_many_same : (ts us : List TypeTree) → AreSame ts us → length ts ≡ length us
as_many_same [] [] a = refl
as_many_same [] (u ∷ us) a = absurd a
as_many_same (t ∷ ts) [] a = absurd a
as_many_same (t ∷ ts) (u ∷ us) a = ap suc (as_many_same ts us a.1)

-- the type that a name has is the same as the field's
pub named_field : (fs us : List TypeTree) (i : ℕ) (u : TypeTree) → AreSame fs us → slice_get us i ≡ Some u → (f : TypeTree) × (slice_get fs i ≡ Some f) × SameTypes f u
named_field [] [] i u a e = absurd cc
named_field [] (v ∷ us) i u a e = absurd a
named_field (f ∷ fs) [] i u a e = absurd a
named_field (f ∷ fs) (v ∷ us) zero u a e = let is : v ≡ u = cc in (f, refl, subst (SameTypes f) is a.0)
named_field (f ∷ fs) (v ∷ us) (suc i) u a e = named_field fs us i u a.1 e

-- names that come in turn
past_names : (ts vs : List TypeTree) (k n : ℕ) → n ≡ length ts + k → slice_get (with_more ts vs) n ≡ slice_get vs k
past_names [] vs k n e = let same : n ≡ k = omega (arith, e) in ap (slice_get vs) same
past_names (t ∷ ts) vs k n e = ap (λ (us : List TypeTree). slice_get us n) (turned_onto t ts vs) ∙ past_names ts (t ∷ vs) (suc k) n (omega (arith, e))

pub name_at : (ts vs : List TypeTree) (z i : ℕ) (u : TypeTree) → z + suc i ≡ length ts → slice_get (with_more ts vs) z ≡ Some u → slice_get ts i ≡ Some u
name_at [] vs z i u e at = absurd (omega (arith, e))
name_at (t ∷ ts) vs z zero u e at =
    sym (past_names ts (t ∷ vs) zero z (omega (arith, e))) ∙ sym (ap (λ (us : List TypeTree). slice_get us z) (turned_onto t ts vs)) ∙ at
name_at (t ∷ ts) vs z (suc i) u e at = name_at ts (t ∷ vs) z i u (omega (arith, e)) (sym (ap (λ (us : List TypeTree). slice_get us z) (turned_onto t ts vs)) ∙ at)

present_append : (xs ys : List ℕ) → present (xs ++ ys) ≡ present xs ++ present ys
present_append [] ys = refl
present_append (zero ∷ xs) ys = present_append xs ys
present_append (suc x ∷ xs) ys = ap (λ zs. suc x ∷ zs) (present_append xs ys)

count_append : (xs ys : List ℕ) → wire_count (xs ++ ys) ≡ wire_count xs + wire_count ys
count_append xs ys = ap (λ (ws : List ℕ). length ws) (present_append xs ys) ∙ length-append (present xs) (present ys)

-- the wires of a leaf of a field are among the field's
pub projected_wires : (parts : List (List ℕ)) (i j : ℕ) (ws : List ℕ) (wires : List WireId) → slice_get parts i ≡ Some ws → j < length ws → length wires ≡ wire_count (in_turn parts) → part_wires (leaves_before i parts + j) (in_turn parts) wires ≡ part_wires j ws (field_wires i parts wires)
projected_wires [] i j ws wires e l many = absurd cc
projected_wires (vs ∷ parts) zero j ws wires e l many =
    let part : vs ≡ ws = cc in
    let size : length vs ≡ length ws = ap (λ (ws : List ℕ). length ws) part in
    let place : 0 + j ≡ j = omega arith in
    let sum = count_append vs (in_turn parts) in
    let fits : wire_count vs ≤ length wires = omega (arith, sum, many) in
    (λ k. part_wires (place k) (vs ++ in_turn parts) (sym (take-append-drop (wire_count vs) wires) k))
    ∙ first_part j vs (in_turn parts) (take (wire_count vs) wires) (drop (wire_count vs) wires) (omega (arith, l, size)) (length-take-le (wire_count vs) wires fits)
    ∙ ap (λ us. part_wires j us (take (wire_count vs) wires)) part
projected_wires (vs ∷ parts) (suc i) j ws wires e l many =
    let sum = count_append vs (in_turn parts) in
    let fits : wire_count vs ≤ length wires = omega (arith, sum, many) in
    let left = length-drop (wire_count vs) wires in
    ap (λ (ws : List WireId). part_wires (length vs + leaves_before i parts + j) (vs ++ in_turn parts) ws) (sym (take-append-drop (wire_count vs) wires))
    ∙ rest_part (leaves_before i parts + j) (length vs + leaves_before i parts + j) vs (in_turn parts) (take (wire_count vs) wires) (drop (wire_count vs) wires) (omega arith) (length-take-le (wire_count vs) wires fits)
    ∙ projected_wires parts i j ws (drop (wire_count vs) wires) e l (omega (arith, left, sum, many))

-- a projection has what the field has
projection_has_all : Facts → (p : Program) (c : ConId) (count x z : ℕ) (it : Constructor) (γ : Thunks) (δ : TypeTrees) (h : History) → con_at p.datas c.number ≡ Some it → length it.it.cons ≡ 1 → z < count → HasAllOf p h (closed (projected c count x z) γ δ) (field z (closed (var x) γ δ))
projection_has_all facts p c count x z it γ δ h known single below n v f =
    let one : (length it.it.cons == 1) ≡ (1 == 1) = ap (λ k. k == 1) single in
    let taken : choice p.datas (alt (OfCon c count) (var z) no_alts) ≡ takes count (var z) = ap (λ o. by_fields (is_only o) count (var z)) known ∙ ap (λ b. by_fields b count (var z)) one in
    (suc (suc n), f_closed (e_takes taken (e_var (facts.environments.field_variables count z (closed (var x) γ δ) γ below) f)))

pub data_kinds : (s : Setting) {d : ℕ} {it : Data} {ts : TypeTrees} {k : Kind} → slice_get s.datas d ≡ Some it → HasKind s [] (data_of d ts) k → KindsOf s.datas s.domains [] ts it.params
data_kinds s {it = it} {ts = ts} known (kind_data {it = other} there kinds) = let same : other ≡ it = same_some there known in subst (λ (x : Data). KindsOf s.datas s.domains [] ts x.params) same kinds

module _ (facts : Facts) (o : Origins) (order : List ℕ) (scope : List Variable) (γ : Thunks) (δ : TypeTrees) (net : Net) (path : List ℕ) (h : History) (n : ℕ) (widths : List ℕ) (t : TypeTree) (piece : Piece) (values : SameValues) (keep : FieldsKeepSame) where
  pub projection_has : (c : ConId) (count x z i j : ℕ) (parts : List (List ℕ)) → z + suc i ≡ count → CircuitGiven o order scope net path n widths t (projected c count x z) piece → ProjectedLeaf o.program net path scope γ h c count x parts i j
      → LeafHas o.program net path h t (closed (projected c count x z) γ δ) (last_wires n piece widths) j
  projection_has c count x z i j parts place g f = of_port (subst (λ t. HasParts p.datas Circuit t f.leaf.has.widths) pattern.is f.leaf.has.parts)
    where
      p : Program
      p = o.program

      s : Setting
      s = setting_at o

      it : Variable
      it = f.leaf.it

      th : Thunk
      th = closed (projected c count x z) γ δ

      pattern : ConPattern p.datas it.ty c count f.fields
      pattern = con_pattern f.pattern

      one : OneCase s (types_in scope) x c count z g.typed.type
      one = one_case g.typed.has

      own : it.ty ≡ one.of
      own = let v = found_before_map (λ (v : Variable). v.ty) scope x one.of one.is in let same : v.0 ≡ it = same_some v.1 f.leaf.known in ap (λ (v : Variable). v.ty) (sym same) ∙ v.2

      fields_are : one.fields ≡ fields_at pattern.it pattern.ts
      fields_are = facts.patterns.pattern_once one.pattern (subst (λ u. PatternOf p.datas u (OfCon c count) f.fields) own f.pattern) ∙ pattern.are

      many : length (fields_at pattern.it pattern.ts) ≡ count
      many = length-map pattern.it.decl.fields (λ f. sub f (arguments pattern.ts)) ∙ pattern.many

      named : (u : TypeTree) × (slice_get (fields_at pattern.it pattern.ts) i ≡ Some u) × SameTypes u g.typed.type
      named =
          let same : AreSame (fields_at pattern.it pattern.ts) one.names = subst (λ fs. AreSame fs one.names) fields_are one.same in
          let counted = as_many_same (fields_at pattern.it pattern.ts) one.names same in
          named_field (fields_at pattern.it pattern.ts) one.names i g.typed.type same (name_at one.names (types_in scope) z i g.typed.type (omega (arith, place, counted, many)) one.named)

      field_type : (u : TypeTree) × (slice_get pattern.it.decl.fields i ≡ Some u) × (sub u (arguments pattern.ts) ≡ named.0)
      field_type = found_before_map (λ f. sub f (arguments pattern.ts)) pattern.it.decl.fields i named.0 named.1

      u : TypeTree
      u = sub field_type.0 (arguments pattern.ts)

      kinded : (k : Kind) × HasKind s [] u k
      kinded =
          let at = facts.constructors.is_constructor p.datas c.number pattern.it pattern.known in
          let whole : HasKind s [] (data_of pattern.it.of pattern.ts) one.kind = subst (λ t. HasKind s [] t one.kind) (sym own ∙ pattern.is) one.has in
          let k = facts.kinds.field_kind s g.sound pattern.it.of pattern.it.it pattern.ts field_type.0 at.data_type (record { con = at.place; of = pattern.it.decl; is_con = at.decl; at = i; is_field = field_type.1 }) (data_kinds s at.data_type whole) in
          (k.0, k.2)

      like : AreLike (setting_of p) u t
      like = record { kind = kinded.0; has = kinded.1; same = facts.same.same_through (subst (λ v. SameTypes v g.typed.type) (sym field_type.2) named.2) (facts.same.same_turned g.typed.same) }

      have : HaveParts p.datas (fields_at pattern.it pattern.ts) parts
      have = subst (λ fs. HaveParts p.datas fs parts) pattern.are f.have

      part : (ws : List ℕ) × (slice_get parts i ≡ Some ws) × HasParts p.datas Circuit named.0 ws
      part = field_parts p.datas (fields_at pattern.it pattern.ts) parts i named.0 have named.1

      field_has : HasParts p.datas Circuit u f.widths
      field_has = let same : part.0 ≡ f.widths = same_some part.1 f.one in subst (λ ws. HasParts p.datas Circuit u ws) same (subst (λ v. HasParts p.datas Circuit v part.0) (sym field_type.2) part.2)

      width : f.widths ≡ widths
      width = facts.built.parts_once (parts_along facts p h (sound_alone o g.sound) values keep th field_has like) g.parts

      q : ProjectionPiece (ground_of p order) scope n widths c count x z piece
      q = projection_piece g.built

      wires_are : field_wires (count - 1 - z) q.parts q.it.wires ≡ field_wires i parts it.wires
      wires_are =
          let same : q.it ≡ it = same_some q.known f.leaf.known in
          let types : q.fields ≡ f.fields = facts.patterns.pattern_once (subst (λ (v : Variable). PatternOf p.datas v.ty (OfCon c count) q.fields) same q.pattern) f.pattern in
          let all : q.parts ≡ parts = facts.built.all_parts_once p.datas f.fields q.parts parts (subst (λ fs. HaveParts p.datas fs q.parts) types q.have) f.have in
          let number : count - 1 - z ≡ i = omega (arith, place) in
          λ k. field_wires (number k) (all k) ((same k).wires)

      of_port : HasParts p.datas Circuit (data_of pattern.it.of pattern.ts) f.leaf.has.widths → LeafHas p net path h t th (last_wires n piece widths) j
      of_port (port_parts {leaves = ls} leaves has) =
          let con = only_con facts p.datas c.number pattern.it pattern.known leaves in
          let count_fields : length pattern.it.decl.fields ≡ count = pattern.many in
          let whole : IsLeaf p.datas (data_of pattern.it.of pattern.ts) f.leaf.thunk (leaves_before i parts + j) f.leaf.has.leaf = subst (λ t. IsLeaf p.datas t f.leaf.thunk (leaves_before i parts + j) f.leaf.has.leaf) pattern.is f.leaf.has.is in
          let leaf : IsLeaf p.datas u (field z f.leaf.thunk) j f.leaf.has.leaf =
          field_of_leaf facts p.datas pattern.it pattern.ts ls con f.leaf.thunk parts i j z field_type.0 f.widths f.leaf.has.leaf have field_type.1 f.one f.within (place ∙ sym count_fields) whole in
          let all : HasAllOf p h th (field z f.leaf.thunk) =
          λ m v d. let e = field_has_all z (variable_has_all f.leaf.there) m v d in projection_has_all facts p c count x z pattern.it γ δ h pattern.known con.single (omega (arith, place)) e.0 v e.1 in
          let follower : Follower p h t th j f.leaf.has.leaf = leaf_follows facts p h (sound_alone o g.sound) keep th leaf like all in
          let shown : Shows p follower.other.payload follower.other.thunk h f.leaf.has.bits = facts.shows.shown_same p (sound_alone o g.sound) values keep (facts.shows.shows_through follower.has f.leaf.has.shows) follower.like in
          let at = leaf_width facts g.parts follower.is in
          let long : slice_get widths j ≡ Some (length f.leaf.has.bits) = at.1 ∙ ap (λ w. Some w) (sym (facts.shows.shown_length shown at.2)) in
          let turn : f.leaf.has.widths ≡ in_turn parts = parts_in_turn facts con.leaves f.leaf.has.widths parts has have in
          let held = g.held x it f.leaf.known in
          let same : held.0 ≡ in_turn parts = facts.built.parts_once held.1 f.leaf.has.parts ∙ turn in
          let counted : length it.wires ≡ wire_count (in_turn parts) = held.2 ∙ ap (λ ws. wire_count ws) same in
          let these : part_wires (leaves_before i parts + j) (in_turn parts) it.wires ≡ part_wires j f.widths (field_wires i parts it.wires) = projected_wires parts i j f.widths it.wires f.one f.within counted in
          let before : Bears net path h (part_wires (leaves_before i parts + j) (in_turn parts) it.wires) f.leaf.has.bits = subst (λ ws. Bears net path h (part_wires (leaves_before i parts + j) ws it.wires) f.leaf.has.bits) turn f.leaf.has.bears in
          let bears : Bears net path h (part_wires j widths (field_wires i parts it.wires)) f.leaf.has.bits =
          subst (λ ws. Bears net path h (part_wires j ws (field_wires i parts it.wires)) f.leaf.has.bits) width (subst (λ (ws : List WireId). Bears net path h ws f.leaf.has.bits) these before) in
          let is : piece ≡ copies n (field_wires i parts it.wires) widths = q.is ∙ ap (λ (ws : List WireId). copies n ws widths) wires_are in
          record {
            widths = widths;
            parts = g.parts;
            leaf = follower.other;
            is = follower.is;
            bits = f.leaf.has.bits;
            shows = shown;
            bears = subst (λ (r : Piece). Bears net path h (part_wires j widths (last_wires n r widths)) f.leaf.has.bits) (sym is)
                (copies_part j n widths (field_wires i parts it.wires) f.leaf.has.bits bears long (subst (λ (r : Piece). HasCells net path r.cells) is g.cells));
          }
