-- A case has the bits of the alternative that is taken.
use Rattle.std.proofs.Common.{Bool, List, Some, [], ap, arith, drop, length, refl, reverse, subst, suc, sym, take, zero, ℕ, ◌++◌, ◌-◌, ◌<◌, ◌∙◌, ◌∷◌, ◌≡◌}
use Rattle.std.specs.Prelude.{slice_get}
use Rattle.chw_meaning.specs.Eval.{looks, choice}
use Rattle.chw_typing.specs.Scopes.{declared}
use Rattle.net_grounds.specs.Facts.{Facts}
use Rattle.net_means.proofs.Lists.{found_in_map, same_some}
use Rattle.net_means.proofs.NetBits.Insides.{piece_first, piece_rest, widths_first, widths_rest}
use Rattle.net_built.specs.Words.{only}
use Rattle.net_means.specs.WireOrder.Awaits.{AllSettle}
use Rattle.chw_terms.specs.TermTree.{Alts, Group, TermTree, alt, case_of, var}
use Rattle.net_built.specs.Bodies.{AltsBuilt}
use Rattle.carrying.specs.DataLaws.{AreFor, CarryParts, Parts, Taken, behind, no_parts, part_and}
use Rattle.chw_typing.specs.Alike.{AreLike}
use Rattle.net_means.specs.SideBits.Cases.{AreTested, FieldsGiven, IsFirst, alts_count}
use Rattle.cell_bits.specs.DataLaws.{BearAll, all_and, all_none}
use Rattle.cell_bits.specs.Bearing.{Bears, HasCells, bears_bits, bears_nothing}
use Rattle.net_means.specs.CircuitBits.Instances.{Block, Inside, an_alternative}
use Rattle.carrying.specs.Carrying.{Carries, Shows}
use Rattle.chw_types.specs.declared.declarations.Data.{Data}
use Rattle.net_means.proofs.NetBits.Forms.{Formed, GroupFormed, SideFormed, held_sized, inside_formed, setting, side_formed}
use Rattle.net_means.proofs.NetBits.Standing.{HasAlt, alt_of_first, formed}
use Rattle.chw_layout.specs.Measured.{HasWidth}
use Rattle.use_laws.specs.ValueIn.{HasWidthAt}
use Rattle.net_means.specs.CircuitBits.Memories.{HasWidths}
use Rattle.net_built.specs.Data.{HaveWidths, Tested, case_cells, case_wires, chosen, field_cuts, test_wires, tested_of, tests, variables_from, words_of}
use Rattle.chw_meaning.specs.Values.{History, Thunks, body_at, closed, count_of, joined}
use Rattle.chw_meaning.specs.Zeros.{IsWide}
use Rattle.net_means.proofs.NetBits.Context.{Known, Situation, Stands, alone, value_wires, variable_typed}
use Rattle.netlist.specs.declared.net.Net.{Net}
use Rattle.net_means.proofs.NetBits.Results.{Opened, opened, value_result}
use Rattle.chw_terms.specs.declared.term.Pattern.{Pattern}
use Rattle.chw_typing.specs.HeadTypes.{PatternOf}
use Rattle.net_built.specs.Wires.{Piece, after, wire_count, ◌▸◌}
use Rattle.net_means.proofs.NetBits.Below.{Ranks, settled_ranks}
use Rattle.chw_types.specs.SameTypes.{SameTypes}
use Rattle.net_means.specs.SideBits.Sides.{SideHas, types_in}
use Rattle.chw_types.specs.TypeTree.{TypeTree, no_types}
use Rattle.chw_terms.specs.declared.scene.Sort.TheVariants.{Value}
use Rattle.net_built.specs.Terms.{Variable}
use Rattle.chw_base.specs.declared.index.WireId.{WireId}
use Rattle.net_means.proofs.NetBits.SomeBits.{WiresOnce}
use Rattle.net_means.proofs.NetBits.ResultBits.{all_bear, alts_counted, case_wide}
use Rattle.net_means.proofs.NetBits.Alternatives.{alt_at, alt_result, alts_for, cells_whole, count_whole, first_whole, for_whole, hidden_whole, none_hidden, results_count}
use Rattle.net_means.proofs.NetFits.ValueDrivers.{case_typed}
use Rattle.net_means.proofs.NetBits.There.{found_at, found_within}
use Rattle.net_built.specs.Built.{ground_of}
use Rattle.net_means.proofs.NetBits.Taken.{looks_many, taken_there}
use Rattle.net_means.proofs.SideBits.Choices.{looks_wide}
use Rattle.chw_typing.specs.Programs.{setting_of}
use Rattle.net_means.proofs.NetFits.Scopes.{var_at}
use Rattle.rewriting.specs.Origins.{with_origins, with_origins_alts}

-- a case in a value's block
pub record CaseIn (s : Situation) (path : List ℕ) (b : Block) (g : Group) (scope : List Variable) (γ : Thunks) (i x n w whole : ℕ) (t : TypeTree) (alts : Alts) (it : Variable) (on : Tested) (p : Piece) (results : List (List WireId)) : Type 0 where
  pub stands : Stands s path b
  pub inside : Inside s.d path b g scope γ
  pub value : b.sort ≡ Value
  pub group : GroupFormed s.d Value g scope
  pub at : body_at g i ≡ Some (case_of (var x) alts)
  pub declares : slice_get (declared g) i ≡ Some t
  pub known : slice_get scope x ≡ Some it
  pub whole_wide : HasWidth s.d.program.datas it.ty whole
  pub wide : HasWidth s.d.program.datas t w
  pub is : on ≡ tested_of s.d.program.datas it.ty whole n it.wires
  pub built : AltsBuilt (ground_of s.d.program s.d.built.order) scope it (whole - on.bits) (after n on.cells) alts p results
  pub has : HasCells s.d.net path (case_cells on alts w n p results).cells
  pub widths : HasWidths s.d.net path n (case_cells on alts w n p results).widths

-- bits of a wire are one
pub bears_once : (net : Net) (path : List ℕ) (h : History) → WiresOnce net h → (w : ℕ) (wires : List WireId) (a b : List Bool) → ((v : ℕ) → w ≡ suc v → HasWidthAt net path (only wires) w) → length a ≡ w → Bears net path h wires a → Bears net path h wires b → a ≡ b
bears_once net path h once w wires a b wide size bears_nothing other = empty other
  where
    empty : {b : List Bool} → Bears net path h [] b → [] ≡ b
    empty bears_nothing = refl
bears_once net path h once zero wires a b wide size (bears_bits value) other = absurd (omega (arith, size))
bears_once net path h once (suc w) wires a b wide size (bears_bits {w = wire_id} {bit = bit} {bits = bits} value) other = one other
  where
    one : {b : List Bool} → Bears net path h (wire_id ∷ []) b → bit ∷ bits ≡ b
    one (bears_bits {bit = x} {bits = xs} v) = once path wire_id (suc w) (bit ∷ bits) (x ∷ xs) (wide w refl) value v

pub all_at : {net : Net} {path : List ℕ} {h : History} {results : List (List WireId)} {values : List (List Bool)} → BearAll net path h results values → (k : ℕ) (wires : List WireId) (bits : List Bool) → slice_get results k ≡ Some wires → slice_get values k ≡ Some bits → Bears net path h wires bits
all_at all_none k wires bits e f = absurd cc
all_at {net} {path} {h} (all_and {wires = ws} {bits = b} one rest) zero wires bits e f =
    let first : ws ≡ wires = cc in
    let second : b ≡ bits = cc in
    subst (λ ws. Bears net path h ws bits) first (subst (λ b. Bears net path h ws b) second one)
all_at (all_and one rest) (suc k) wires bits e f = all_at rest k wires bits e f

-- the first of some bits in parts as wide as these types
pub parts_of : (datas : List Data) (ts : List TypeTree) (ws : List ℕ) (b : List Bool) → HaveWidths datas ts ws → (parts : List (List Bool)) × Parts datas ts b parts
parts_of datas [] [] b have = ([], no_parts)
parts_of datas [] (w ∷ ws) b have = absurd have
parts_of datas (t ∷ ts) [] b have = absurd have
parts_of datas (t ∷ ts) (w ∷ ws) b have = let rest = parts_of datas ts ws (drop w b) have.1 in (take w b ∷ rest.0, part_and have.0 rest.1)

module _ (facts : Facts) (s : Situation) (path : List ℕ) (b : Block) (g : Group) (scope : List Variable) (γ : Thunks) (i x n w whole : ℕ) (t : TypeTree) (alts : Alts) (it : Variable) (on : Tested) (p : Piece) (results : List (List WireId)) (c : CaseIn s path b g scope γ i x n w whole t alts it on p results) where
  pub case_side_of : SideFormed s.d Value scope t (case_of (var x) alts)
  case_side_of = side_formed s.d c.group i t (case_of (var x) alts) c.declares c.at

  pub looked_wires : length it.wires ≡ wire_count (whole ∷ [])
  looked_wires = value_wires facts s.d c.group x it whole c.known c.whole_wide

  pub piece_cells : HasCells s.d.net path p.cells
  piece_cells =
      let words = words_of on.bits on.first alts in
      let m : ℕ = after (after n on.cells) p in
      let q : Piece = tests on.bits on.wires words m in
      let z : Piece = chosen w (test_wires on.bits on.wires words m) results (after m q) in
      piece_first s.d.net path p (q ▸ z) (piece_rest s.d.net path on.cells (p ▸ q ▸ z) c.has)

  pub piece_widths : HasWidths s.d.net path (after n on.cells) p.widths
  piece_widths =
      let words = words_of on.bits on.first alts in
      let m : ℕ = after (after n on.cells) p in
      let q : Piece = tests on.bits on.wires words m in
      let z : Piece = chosen w (test_wires on.bits on.wires words m) results (after m q) in
      widths_first s.d.net path (after n on.cells) p (q ▸ z) (widths_rest s.d.net path n on.cells (p ▸ q ▸ z) c.widths)

  pub result_wires : (k : ℕ) (r : List WireId) → slice_get results k ≡ Some r → length r ≡ wire_count (w ∷ [])
  result_wires k r e =
      let side = case_side_of in
      let typed = case_typed facts side.typed.has in
      let own : typed.of ≡ it.ty = same_some (var_at typed.typed) (found_in_map (λ (v : Variable). v.ty) scope x it c.known) in
      alts_counted facts s.laws.measure (setting s.d) s.d.built.order s.d.sound c.built typed.give typed.has (subst (SameTypes typed.of) own (facts.same.same_self typed.of)) (record { same = facts.scopes.are_same_self (types_in scope) })
      (held_sized facts (setting s.d) scope c.group.held) side.form.free t side.kind w side.kinded side.typed.same c.wide k r e

  -- with several alternatives each result is as wide as the case
  pub result_wide : (q : Pattern) (e : TermTree) (more : Alts) → alts ≡ alt q e more → 0 < alts_count more → (k : ℕ) (r : List WireId) → slice_get results k ≡ Some r → (v : ℕ) → w ≡ suc v → HasWidthAt s.d.net path (only r) w
  result_wide q e more are some k r there v is =
      let many : length results ≡ suc (alts_count more) = results_count c.built ∙ ap (λ alts. alts_count alts) are in
      let has : HasCells s.d.net path (case_cells on (alt q e more) (suc v) n p results).cells =
      subst (λ w. HasCells s.d.net path (case_cells on (alt q e more) w n p results).cells) is (subst (λ alts. HasCells s.d.net path (case_cells on alts w n p results).cells) are c.has) in
      let wide : HasWidths s.d.net path n (case_cells on (alt q e more) (suc v) n p results).widths =
      subst (λ w. HasWidths s.d.net path n (case_cells on (alt q e more) w n p results).widths) is (subst (λ alts. HasWidths s.d.net path n (case_cells on alts w n p results).widths) are c.widths) in
      subst (λ w. HasWidthAt s.d.net path (only r) w) (sym is) (case_wide facts s.d.net path s.good on q e more v n k p results r has wide some many there)

  -- the variables of an alternative have the type of the case in the end
  pub alternative_like : (m : ℕ) (fields : List TypeTree) (widths : List ℕ) (q : Pattern) (e : TermTree) (η : Thunks) (wires : List WireId) → HasAlt alts q e → PatternOf s.d.program.datas it.ty q fields → HaveWidths s.d.program.datas fields widths
      → (at : Stands s path (record { sort = Value; scope = reverse (variables_from m fields widths) ++ scope; outside = η; term = e; results = wires })) (f : Formed s.d (record { sort = Value; scope = reverse (variables_from m fields widths) ++ scope; outside = η; term = e; results = wires }))
      → (o : Opened s.d path (record { sort = Value; scope = reverse (variables_from m fields widths) ++ scope; outside = η; term = e; results = wires }) f.type) → AreLike (setting_of s.d.program) o.it.ty t
  alternative_like m fields widths q e η wires has pattern sizes at f o =
      let same = alt_result facts s.d m i fields widths t f.type c.group c.at c.declares has c.known pattern sizes f.scoped f.typed in
      let typed = variable_typed facts s.d (inside_formed facts s.laws.measure s.d o.inside f) o.x o.it o.known in
      record { kind = typed.kind; has = typed.has; same = subst (λ u. SameTypes u t) o.type same }

module _ (facts : Facts) (s : Situation) (r : ℕ) (known : Known s r) where
  pub looks_bear : (path : List ℕ) (b : Block) (g : Group) (scope : List Variable) (γ : Thunks) (i x n w whole : ℕ) (t : TypeTree) (q0 : Pattern) (e0 : TermTree) (more0 : Alts) (it : Variable) (on : Tested) (p : Piece) (results : List (List WireId)) (first_wire_of : WireId) → CaseIn s path b g scope γ i x n w whole t (alt q0 e0 more0) it on p results
      → choice s.d.program.datas (alt q0 e0 more0) ≡ looks → slice_get (case_wires on (alt q0 e0 more0) w n p results) 0 ≡ Some first_wire_of → Ranks s.order path (case_wires on (alt q0 e0 more0) w n p results) (suc r)
      → SideHas s.d.program γ no_types s.d.net path s.h t (case_of (var x) (with_origins_alts s.d.wholes (alt q0 e0 more0))) (case_wires on (with_origins_alts s.d.wholes (alt q0 e0 more0)) w n p results)
  looks_bear path b g scope γ i x n w whole t q0 e0 more0 it on p results start c looking is_first ranks =
      let d = s.d in
      let alts : Alts = alt q0 e0 more0 in
      let wires : List WireId = case_wires on alts w n p results in
      let side = case_side_of facts s path b g scope γ i x n w whole t alts it on p results c in
      let many = looked_wires facts s path b g scope γ i x n w whole t alts it on p results c in
      let are : AreFor d.program.datas it.ty alts = alts_for c.built in
      let hidden = none_hidden side.typed.has in
      let tested : AreTested d.program.datas it.ty whole alts = record { wide = c.whole_wide; for_type = are; shown = hidden } in
      let two = looks_many s.laws.places d.program.datas alts side.form.complete.0 looking in
      let several : 0 < alts_count more0 = omega (arith, two) in
      let count : length results ≡ alts_count alts = results_count c.built in
      let on_order = s.laws.looks_order d.net path d.program.datas it.ty whole it.wires on alts w n p results tested looking c.is many c.has (omega (arith, two)) count in
      let looked = known.values path b g scope γ x it c.stands c.inside c.value c.known (settled_ranks s.order path path wires it.wires start r on_order is_first ranks) in
      let bits : List Bool = looked.0 in
      let has = looked.1 in
      let is_wide : IsWide d.program.datas it.ty = looks_wide facts s.laws.values d.program.datas whole alts are hidden c.whole_wide (omega (arith, two)) looking in
      let chosen_one = taken_there facts s.laws.tags d.program it.ty has.thunk s.h bits alts side.form.complete.0 are is_wide (has.carries s.h) in
      let number = s.laws.back d.program.datas bits alts chosen_one.0 chosen_one.1 in
      let k : ℕ = number.0 in
      let a : Taken = chosen_one.0 in
      let first : IsFirst d.program.datas bits alts k a = number.1 in
      let alternative_at = alt_at d path c.built (piece_cells facts s path b g scope γ i x n w whole t alts it on p results c) (piece_widths facts s path b g scope γ i x n w whole t alts it on p results c) first in
      let own = alternative_at.own in
      let wide_result = result_wide facts s path b g scope γ i x n w whole t alts it on p results c q0 e0 more0 refl several in
      let all = all_bear d.net path s.h w results s.have (λ k r e. (result_wires facts s path b g scope γ i x n w whole t alts it on p results c k r e, wide_result k r e)) in
      let given = found_at all.0 k (let l = found_within results k alternative_at.wires alternative_at.result in let size = all.3 in omega (arith, l, size)) in
      let given_bears : Bears d.net path s.h alternative_at.wires given.0 = all_at all.1 k alternative_at.wires given.0 alternative_at.result given.1 in
      let result_count = result_wires facts s path b g scope γ i x n w whole t alts it on p results c k alternative_at.wires alternative_at.result in
      let cut = parts_of d.program.datas own.fields own.widths (behind d.program.datas a.pattern bits) own.sizes in
      let body : (ths : Thunks) → count_of ths ≡ length own.fields → CarryParts d.program own.fields ths cut.0 → Carries d.program t (closed (with_origins d.wholes a.body) (joined ths γ) no_types) given.0 =
      λ ths counted carry.
      let fields : FieldsGiven d.program γ d.net path s.h x n own.m a.pattern own.fields own.widths ths = record {
        it = it;
        bits = bits;
        has = has;
        whole = whole;
        wide = c.whole_wide;
        pattern = own.pattern;
        sizes = own.sizes;
        cells = subst (λ (on : Tested). HasCells d.net path (field_cuts (whole - on.bits) it.wires own.widths own.m).cells) c.is own.cuts;
        parts = cut.0;
        cut = cut.1;
        many = counted;
        carry = carry;
      } in
      let at : Stands s path (record { sort = Value; scope = reverse (variables_from own.m own.fields own.widths) ++ scope; outside = joined ths γ; term = a.body; results = alternative_at.wires }) =
      an_alternative i c.stands c.inside c.at fields c.known first (record { n = own.n; piece = own.piece; built = own.built; cells = own.cells; widths = own.wide }) in
      let f = formed facts s.laws.measure d at in
      let o = opened facts d at f in
      let settle = s.laws.results_order d.net path on alts w n k p results alternative_at.wires c.has (omega (arith, two)) count alternative_at.result result_count in
      let inner = known.values path _ o.g o.scope o.γ o.x o.it at o.inside refl o.known
      (settled_ranks s.order path path wires o.it.wires start r (subst (λ ws. AllSettle d.net path wires path ws) o.results settle) is_first ranks) in
      let v = value_result facts d o inner in
      let like = alternative_like facts s path b g scope γ i x n w whole t alts it on p results c own.m own.fields own.widths a.pattern a.body (joined ths γ) alternative_at.wires (alt_of_first first) own.pattern own.sizes at f o in
      let shown : (j : History) → Shows d.program t (closed (with_origins d.wholes a.body) (joined ths γ) no_types) j v.bits = λ j. facts.shows.shown_same d.program (alone d) s.laws.values s.laws.keep (v.carries j) like in
      let size : length v.bits ≡ w = facts.shows.shown_length (shown []) c.wide in
      let same : v.bits ≡ given.0 = bears_once d.net path s.h s.once w alternative_at.wires v.bits given.0 (wide_result k alternative_at.wires alternative_at.result) size v.bears given_bears in
      λ j. subst (λ bits. Shows d.program t (closed (with_origins d.wholes a.body) (joined ths γ) no_types) j bits) same (shown j) in
      s.laws.cases d.program scope γ no_types d.net path s.h n w t x (with_origins_alts d.wholes alts) on p results
      (record {
        it = it;
        bits = bits;
        has = has;
        whole = whole;
        tested = record { wide = c.whole_wide; for_type = for_whole d.wholes d.program.datas it.ty alts are; shown = hidden_whole d.wholes alts hidden };
        is = c.is;
        wide = c.wide;
        values = all.0;
        bear = all.1;
        sizes = all.2;
        as_many = all.3 ∙ count ∙ sym (count_whole d.wholes alts);
        place = k;
        first = record { pattern = a.pattern; body = with_origins d.wholes a.body };
        is_first = first_whole d.wholes first;
        given = given.0;
        at = given.1;
        fields = own.fields;
        pattern = own.pattern;
        parts = cut.0;
        cut = cut.1;
        body = body;
        cells = subst (λ (z : Piece). HasCells d.net path z.cells) (sym (cells_whole d.wholes on alts w n p results)) c.has;
      })
