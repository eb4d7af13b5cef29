-- Variables inside values' blocks have bits, where those have that come before: at lesser ranks, or by
-- the references of bindings, or in a block within.
use Rattle.std.specs.Prelude.{◌==◌, ◌||◌}
use Rattle.std.proofs.lemmas.Bool.{or_left, or_right}
use Rattle.std.proofs.Common.{List, Some, [], ap, arith, inl, inr, length, refl, reverse, subst, suc, sym, true, zero, ℕ, ◌++◌, ◌+◌, ◌-◌, ◌<◌, ◌∙◌, ◌∷◌, ◌≡◌, ◌≤◌, ◌⊎◌}
use Rattle.std.proofs.lemmas.List.{length-map}
use Rattle.std.specs.Prelude.{slice_get}
use Rattle.net_grounds.specs.Facts.{Facts}
use Rattle.net_means.proofs.References.{along_references}
use Rattle.net_means.proofs.Lists.{same_some}
use Rattle.net_means.proofs.NetBits.Insides.{Place, own_place, outer_place, place_of, Within, of_binding, from_outside, within, body_whole}
use Rattle.net_means.proofs.NetFits.ValueDrivers.{same_place, side_in_group}
use Rattle.net_built.specs.Loops.{side_at, refers}
use Rattle.net_means.proofs.NetBits.There.{block_there, found_within, fields_count, inside_there, variables_count}
use Rattle.net_means.proofs.NetBits.Cases.{first_at, first_stands, cut_cells, one_result, unseen_has, unseen_field}
use Rattle.chw_meaning.specs.Eval.{Choice, goes_on, takes, looks, choice}
use Rattle.chw_typing.specs.HeadTypes.{PatternOf, of_con, of_lit, of_any}
use Rattle.net_built.specs.Circuits.{used as used_piece, Ground}
use Rattle.chw_terms.specs.Occurs.{occurs, occurs_group, occurs_alts}
use Rattle.chw_terms.specs.TermTree.{TermTree, var, global, made, lam, app, ty_lam, ty_app, letrec, con, prim, lit, vec_lit, case_of, Group, no_bindings, bind, Alts, no_alts, alt, binders, size_of}
use Rattle.net_built.specs.Wires.{Piece, last_wires, new_wires, present, wire_count, wires_from}
use Rattle.net_means.proofs.NetBits.Alternatives.{AltAt, case_whole, results_count, wires_whole}
use Rattle.net_means.specs.CircuitBits.Instances.{Block, Inside, inside_letrec, inside_variable}
use Rattle.net_means.proofs.NetBits.CaseLooks.{CaseIn, looks_bear, result_wires}
use Rattle.chw_types.specs.declared.declarations.Data.{Data}
use Rattle.net_built.specs.Bodies.{GroupBuilt, SideBuilt, ValueCells, side_of_case, side_of_value, value_call, value_constructor, value_element, value_element_at, value_literal, value_primitive, value_variable, value_vector}
use Rattle.net_means.proofs.NetBits.Forms.{GroupFormed, SideFormed, form_at, inside_formed, setting, side_formed}
use Rattle.net_means.specs.SideBits.Sides.{HasBits, SideHas, types_in}
use Rattle.cell_bits.specs.Bearing.{HasCells}
use Rattle.chw_typing.specs.Typing.{HasType}
use Rattle.chw_layout.specs.Measured.{HasWidth}
use Rattle.net_means.specs.CircuitBits.Memories.{HasWidths}
use Rattle.net_built.specs.Data.{HaveWidths, Tested, case_wires, field_cuts, tested_of, variables_from}
use Rattle.normal_forms.specs.Values.{IsSide, on_names, side_call, side_case, side_constructor, side_literal, side_primitive, side_variable, side_vector}
use Rattle.net_means.proofs.NetBits.Context.{Known, Situation, Stands, value_wires}
use Rattle.rewriting.specs.Origins.{Origins, with_origins, with_origins_alts, with_origins_group}
use Rattle.chw_terms.specs.declared.term.Pattern.{Pattern}
use Rattle.net_means.proofs.NetBits.Below.{Ranks, empty_in, settled_ranks}
use Rattle.chw_terms.specs.declared.scene.Sort.{Sort}
use Rattle.chw_meaning.specs.Values.{Thunks, body_at, closed, count_of, fields_from, in_group, joined, member, none, thunk_at}
use Rattle.chw_types.specs.TypeTree.{TypeTree, no_types}
use Rattle.chw_terms.specs.declared.scene.Sort.TheVariants.{Value}
use Rattle.net_built.specs.Terms.{Variable, head_of, operands_of, wires_of_all}
use Rattle.chw_base.specs.declared.index.WireId.{WireId}
use Rattle.net_means.specs.SideBits.Cases.{alts_count}
use Rattle.chw_types.specs.Arguments.{arguments}
use Rattle.net_means.proofs.NetBits.ValueCalls.{call_bears}
use Rattle.net_means.proofs.NetFits.Pieces.{count_from}
use Rattle.chw_typing.specs.Scopes.{declared}
use Rattle.net_means.proofs.NetBits.Standing.{formed}
use Rattle.net_built.specs.Built.{ground_of}
use Rattle.net_means.proofs.NetFits.Shapes.{head_then}
use Rattle.net_means.proofs.SideBits.Heads.{names}
use Rattle.net_means.proofs.NetBits.Results.{opened}
use Rattle.net_means.proofs.NetFits.CircuitDrivers.{operands_then}
use Rattle.net_means.proofs.NetBits.ValueSides.{plain_bears}
use Rattle.chw_types.specs.TypeMoves.{sub}
use Rattle.net_means.proofs.NetBits.CaseFirst.{unseen_outside}

-- how deep blocks lie in a block
abbrev mutual
  pub nesting : TermTree → ℕ
  nesting (letrec g e) = suc (nesting_group g)
  nesting (case_of e alts) = nesting_alts alts
  nesting _ = zero

  pub nesting_group : Group → ℕ
  nesting_group no_bindings = zero
  nesting_group (bind t e g) = nesting e + nesting_group g

  pub nesting_alts : Alts → ℕ
  nesting_alts no_alts = zero
  nesting_alts (alt q e more) = nesting e + nesting_alts more

nesting_at : (g : Group) (i : ℕ) (e : TermTree) → body_at g i ≡ Some e → nesting e ≤ nesting_group g
nesting_at no_bindings i e at = absurd cc
nesting_at (bind t f g) zero e at = let is : nesting f ≡ nesting e = ap nesting (same_some refl at) in omega (arith, is)
nesting_at (bind t f g) (suc i) e at = let rest = nesting_at g i e at in omega (arith, rest)

side_is : (g : Group) (i : ℕ) (e : TermTree) → body_at g i ≡ Some e → side_at g i ≡ e
side_is no_bindings i e at = absurd cc
side_is (bind t f g) zero e at = same_some refl at
side_is (bind t f g) (suc i) e at = side_is g i e at

body_within : (g : Group) (i : ℕ) (e : TermTree) → body_at g i ≡ Some e → i < size_of g
body_within no_bindings i e at = absurd cc
body_within (bind t f g) zero e at = omega arith
body_within (bind t f g) (suc i) e at = let rest = body_within g i e at in omega (arith, rest)

pattern_names : {datas : List Data} {u : TypeTree} {q : Pattern} {fields : List TypeTree} → PatternOf datas u q fields → length fields ≡ binders q
pattern_names (of_con {ts = ts} it known of count) = length-map it.decl.fields (λ f. sub f (arguments ts)) ∙ count
pattern_names (of_lit l e) = refl
pattern_names of_any = refl

is_made : (e : TermTree) → ((m : ℕ) × (e ≡ made m)) ⊎ ((m : ℕ) → ¬ (e ≡ made m))
is_made (made m) = inl (m, refl)
is_made (var x) = inr (λ m e. cc)
is_made (global d) = inr (λ m e. cc)
is_made (lam t e) = inr (λ m e. cc)
is_made (app f a) = inr (λ m e. cc)
is_made (ty_lam k e) = inr (λ m e. cc)
is_made (ty_app f t) = inr (λ m e. cc)
is_made (letrec g e) = inr (λ m e. cc)
is_made (con c) = inr (λ m e. cc)
is_made (prim p) = inr (λ m e. cc)
is_made (lit r bits) = inr (λ m e. cc)
is_made (vec_lit t es) = inr (λ m e. cc)
is_made (case_of e alts) = inr (λ m e. cc)

-- a call, as a side
record CallOf (e : TermTree) : Type 0 where
  m : ℕ
  xs : List ℕ
  is : e ≡ on_names (made m) [] xs

call_is : {o : Origins} {vars : List TypeTree} {e : TermTree} → IsSide o vars e → (m : ℕ) → head_of e ≡ made m → CallOf e
call_is side_variable m h = absurd cc
call_is side_literal m h = absurd cc
call_is (side_constructor c types xs known n) m h = let k : con c ≡ made m = sym (head_then (con c) types (names xs)) ∙ h in absurd cc
call_is (side_vector t xs) m h = absurd cc
call_is (side_primitive p types xs is n) m h = let k : prim p ≡ made m = sym (head_then (prim p) types (names xs)) ∙ h in absurd cc
call_is (side_call j xs known value n) m h = record { m = j; xs = xs; is = refl }
call_is (side_case at others) m h = absurd cc

called_piece : {ground : Ground} {scope : List Variable} {n w m : ℕ} {h : TermTree} {ts : List TypeTree} {es : List TermTree} {p : Piece} → ValueCells ground scope n w h ts es p → h ≡ made m → p ≡ used_piece ground m n (wires_of_all scope es) (w ∷ [])
called_piece value_variable e = absurd cc
called_piece value_literal e = absurd cc
called_piece (value_constructor known fields) e = absurd cc
called_piece value_vector e = absurd cc
called_piece (value_primitive words) e = absurd cc
called_piece value_element e = absurd cc
called_piece value_element_at e = absurd cc
called_piece {ground} {scope} {n} {w} (value_call {m = k} {es = es}) e = let is = made_number e in ap (λ m. used_piece ground m n (wires_of_all scope es) (w ∷ [])) is
  where
    made_number : {k m : ℕ} → made k ≡ made m → k ≡ m
    made_number e = cc

module _ (facts : Facts) (s : Situation) (r : ℕ) (known : Known s r) where
  -- variables in a scope, of which this holds, have bits
  abbrev pub Have : List ℕ → List Variable → Thunks → (ℕ → Type 0) → Type 0
  Have path scope γ P = (z : ℕ) (v : Variable) → P z → slice_get scope z ≡ Some v → Ranks s.order path v.wires (suc r) → HasBits s.d.program s.d.net path s.h γ z v

  -- so do those inside a block of this depth, where those from outside that occur in it have
  abbrev pub Claim : ℕ → Type 0
  Claim fuel =
      (path : List ℕ) (b : Block) (g : Group) (scope : List Variable) (γ : Thunks) → Stands s path b → Inside s.d path b g scope γ → b.sort ≡ Value → nesting b.term ≤ fuel → Have path b.scope b.outside (λ z. occurs b.term z ≡ true)
      → Have path scope γ (λ x. (z : ℕ) → x ≡ size_of g + z → occurs b.term z ≡ true)

  -- a variable of a field of an alternative that is taken without a look
  pub field_bits : (path : List ℕ) (b : Block) (g : Group) (scope : List Variable) (γ : Thunks) (x n m whole : ℕ) (q : Pattern) (e : TermTree) (more : Alts) (it : Variable) (fields : List TypeTree) (widths : List ℕ) (results : List WireId) (z k : ℕ) (v : Variable) → Stands s path b → Inside s.d path b g scope γ → b.sort ≡ Value → GroupFormed s.d Value g scope → slice_get scope x ≡ Some it
      → ¬ (choice s.d.program.datas (alt q e more) ≡ looks) → HasWidth s.d.program.datas it.ty whole → PatternOf s.d.program.datas it.ty q fields → HaveWidths s.d.program.datas fields widths → HasCells s.d.net path (field_cuts (whole - (tested_of s.d.program.datas it.ty whole n it.wires).bits) it.wires widths m).cells
      → Stands s path (record { sort = Value; scope = reverse (variables_from m fields widths) ++ scope; outside = unseen_outside x fields γ; term = e; results = results }) → slice_get (reverse (variables_from m fields widths) ++ scope) z ≡ Some v → z + suc k ≡ length (variables_from m fields widths) → slice_get (variables_from m fields widths) k ≡ Some v → Ranks s.order path v.wires (suc r)
      → HasBits s.d.program s.d.net path s.h (unseen_outside x fields γ) z v
  field_bits path b g scope γ x n m whole q e more it fields widths results z k v at inside value group place unseen wide pattern sizes cells stands there place_is is lower = of_wires v.wires refl
    where
      count : length (variables_from m fields widths) ≡ length fields
      count = variables_count s.d.program.datas fields widths m sizes

      within_fields : z < length fields
      within_fields = omega (arith, place_is, count)

      of_wires : (ws : List WireId) → v.wires ≡ ws → HasBits s.d.program s.d.net path s.h (unseen_outside x fields γ) z v
      of_wires [] nope = empty_in s.d path s.h (reverse (variables_from m fields widths) ++ scope) z v (block_there facts s.laws.measure s.laws.prims s.d s.inputs s.top stands z v there) (formed facts s.laws.measure s.d stands).held there nope
      of_wires (a ∷ ws) some =
          let settle = s.laws.fields_order s.d.net path (whole - (tested_of s.d.program.datas it.ty whole n it.wires).bits) whole m k it.wires fields widths v cells (value_wires facts s.d group x it whole place wide) is in
          let scrutinee = known.values path b g scope γ x it at inside value place (settled_ranks s.order path path v.wires it.wires a r settle (ap (λ ws. slice_get ws 0) some) lower) in
          unseen_field facts s path scope γ x n m whole q e more it fields widths z v unseen wide pattern sizes cells (there, within_fields) scrutinee

  -- a variable around such an alternative, and around any other, has inside it what it has outside
  pub past_fields : (path : List ℕ) (ths γ : Thunks) (z y : ℕ) (v : Variable) → z ≡ count_of ths + y → HasBits s.d.program s.d.net path s.h γ y v → HasBits s.d.program s.d.net path s.h (joined ths γ) z v
  past_fields path ths γ z y v place has =
      (has.0, record { thunk = has.1.thunk; there = ap (thunk_at (joined ths γ)) place ∙ facts.environments.outside_alternative ths γ y ∙ has.1.there; carries = has.1.carries; bears = has.1.bears })

  -- the result of the first alternative of a case that doesn't look
  unseen_result : (fuel : ℕ) → Claim fuel → (path : List ℕ) (b : Block) (g : Group) (scope : List Variable) (γ : Thunks) (i x n w whole : ℕ) (t : TypeTree) (q : Pattern) (e : TermTree) (more : Alts) (it : Variable) (on : Tested) (p : Piece) (results : List (List WireId)) (start : WireId) (c : CaseIn s path b g scope γ i x n w whole t (alt q e more) it on p results)
      → (unseen : ¬ (choice s.d.program.datas (alt q e more) ≡ looks)) → nesting e ≤ fuel → slice_get (case_wires on (alt q e more) w n p results) 0 ≡ Some start → Ranks s.order path (case_wires on (alt q e more) w n p results) (suc r) → Have path scope γ (λ y. occurs (case_of (var x) (alt q e more)) y ≡ true)
      → SideHas s.d.program γ no_types s.d.net path s.h t (case_of (var x) (with_origins_alts s.d.wholes (alt q e more))) (case_wires on (alt q e more) w n p results)
  unfolding occurs occurs_alts
  unseen_result fuel claim path b g scope γ i x n w whole t q e more it on p results start c unseen small is_first ranks free =
      let d = s.d in
      let own = (first_at facts s path b g scope γ i x n w whole t q e more it on p results c unseen).own in
      let at = first_stands facts s path b g scope γ i x n w whole t q e more it on p results c unseen in
      let f = formed facts s.laws.measure d at in
      let o = opened facts d at f in
      let lower : Ranks s.order path o.it.wires (suc r) = below_result o.results in
      unseen_has facts s path b g scope γ i x n w whole t q e more it on p results c unseen f o
      (claim path _ o.g o.scope o.γ at o.inside refl small outer o.x o.it o.free o.known lower)
    where
      first : AltAt s.d path scope it (whole - on.bits) results 0 q e
      first = first_at facts s path b g scope γ i x n w whole t q e more it on p results c unseen

      fields : List TypeTree
      fields = first.own.fields

      front : List Variable
      front = variables_from first.own.m fields first.own.widths

      stands : Stands s path (record { sort = Value; scope = reverse front ++ scope; outside = unseen_outside x fields γ; term = e; results = first.wires })
      stands = first_stands facts s path b g scope γ i x n w whole t q e more it on p results c unseen

      -- the ranks of the result
      below_result : {wires : List WireId} → first.wires ≡ wires → Ranks s.order path wires (suc r)
      below_result same = subst (λ ws. Ranks s.order path ws (suc r)) same (of_wires more refl)
        where
          of_wires : (others : Alts) → more ≡ others → Ranks s.order path first.wires (suc r)
          of_wires no_alts are =
              let count : length results ≡ 1 = results_count c.built ∙ ap (λ more. suc (alts_count more)) are in
              let one : case_wires on (alt q e no_alts) w n p results ≡ first.wires = one_result results first.wires count first.result in
              subst (λ ws. Ranks s.order path ws (suc r)) one (subst (λ more. Ranks s.order path (case_wires on (alt q e more) w n p results) (suc r)) are ranks)
          of_wires (alt u z others) are =
              let two : 2 ≤ alts_count (alt q e more) = let l : alts_count more ≡ suc (alts_count others) = ap (λ more. alts_count more) are in omega (arith, l) in
              let settle = s.laws.results_order s.d.net path on (alt q e more) w n 0 p results first.wires c.has two (results_count c.built) first.result (result_wires facts s path b g scope γ i x n w whole t (alt q e more) it on p results c 0 first.wires first.result) in
              let lower = settled_ranks s.order path path (case_wires on (alt q e more) w n p results) first.wires start r settle is_first ranks in
              λ k v at. let l = lower k v at in omega (arith, l)

      count : length front ≡ length fields
      count = variables_count s.d.program.datas fields first.own.widths first.own.m first.own.sizes

      outer : Have path (reverse front ++ scope) (unseen_outside x fields γ) (λ z. occurs e z ≡ true)
      outer z v occ there lower = by (place_of front scope z v there)
        where
          by : Place front scope z v → HasBits s.d.program s.d.net path s.h (unseen_outside x fields γ) z v
          by (own_place k place is) =
              field_bits path b g scope γ x n first.own.m whole q e more it fields first.own.widths first.wires z k v c.stands c.inside c.value c.group c.known unseen c.whole_wide first.own.pattern first.own.sizes
              (cut_cells facts s path b g scope γ i x n w whole t q e more it on p results c unseen) stands there place is lower
          by (outer_place y place is) =
              let same : z ≡ y + binders q = let pn = pattern_names first.own.pattern in omega (arith, place, count, pn) in
              let occ_case : occurs (case_of (var x) (alt q e more)) y ≡ true = or_right (x == y) (occurs e (y + binders q) || occurs_alts more y) (or_left (occurs e (y + binders q)) (occurs_alts more y) (ap (λ z. occurs e z) (sym same) ∙ occ)) in
              let number : z ≡ count_of (fields_from zero (length fields) (closed (var x) γ no_types) none) + y = let fc = fields_count (length fields) zero (closed (var x) γ no_types) in omega (arith, place, count, fc) in
              past_fields path (fields_from zero (length fields) (closed (var x) γ no_types) none) γ z y v number (free y v occ_case is lower)

  -- a right side, where what occurs in it has bits
  side_has : (fuel : ℕ) → Claim fuel → (path : List ℕ) (b : Block) (g : Group) (scope : List Variable) (γ : Thunks) (i n : ℕ) (t : TypeTree) (e : TermTree) (p : Piece) (wires : List WireId) (start : WireId) → Stands s path b → Inside s.d path b g scope γ → b.sort ≡ Value → GroupFormed s.d b.sort g scope → body_at g i ≡ Some e → slice_get (declared g) i ≡ Some t
      → SideBuilt (ground_of s.d.program s.d.built.order) Value scope n t e p wires → HasCells s.d.net path p.cells → HasWidths s.d.net path n p.widths → nesting e ≤ fuel → slice_get wires 0 ≡ Some start → Ranks s.order path wires (suc r) → Have path scope γ (λ y. occurs e y ≡ true)
      → SideHas s.d.program γ no_types s.d.net path s.h t (with_origins s.d.wholes e) wires
  side_has fuel claim path b g scope γ i n t e p wires start at inside value group body declares (side_of_value {w = w} wide cells) has widths small is_first ranks free = by (is_made (head_of e))
    where
      by : ((m : ℕ) × (head_of e ≡ made m)) ⊎ ((m : ℕ) → ¬ (head_of e ≡ made m)) → SideHas s.d.program γ no_types s.d.net path s.h t (with_origins s.d.wholes e) (last_wires n p (w ∷ []))
      by (inr nope) = plain_bears s r known i n w t e p start at inside value (subst (λ sort. GroupFormed s.d sort g scope) value group) body declares wide cells has nope is_first ranks
      by (inl call) = of_call (call_is (form_at s.d Value g i e (subst (λ sort. GroupFormed s.d sort g scope) value group).form body).side call.0 call.1)
        where
          of_call : CallOf e → SideHas s.d.program γ no_types s.d.net path s.h t (with_origins s.d.wholes e) (last_wires n p (w ∷ []))
          of_call c =
              let head : head_of e ≡ made c.m = ap (λ e. head_of e) c.is ∙ head_then (made c.m) [] (names c.xs) in
              let operands : operands_of e ≡ names c.xs = ap (λ e. operands_of e) c.is ∙ operands_then (made c.m) [] (names c.xs) in
              let ground = ground_of s.d.program s.d.built.order in
              let piece : p ≡ used_piece ground c.m n (wires_of_all scope (names c.xs)) (w ∷ []) = called_piece cells head ∙ ap (λ es. used_piece ground c.m n (wires_of_all scope es) (w ∷ [])) operands in
              let start_there : slice_get (last_wires n p (w ∷ [])) 0 ≡ Some start = is_first in
              let long : length (last_wires n p (w ∷ [])) ≡ wire_count (w ∷ []) = count_from _ (wire_count (w ∷ [])) in
              let some : 0 < wire_count (w ∷ []) = let l = found_within (last_wires n p (w ∷ [])) 0 start start_there in omega (arith, l, long) in
              let same : last_wires n p (w ∷ []) ≡ new_wires n (w ∷ []) = ap (λ (p : Piece). last_wires n p (w ∷ [])) piece ∙ (let place : n + length (present (w ∷ [])) - wire_count (w ∷ []) ≡ n = omega arith in ap (λ k. wires_from k (wire_count (w ∷ []))) place) in
              let call_has = call_bears facts s r known i c.m n w c.xs t at inside value group (body ∙ ap (λ e. Some e) c.is) declares wide some (subst (λ (p : Piece). HasCells s.d.net path p.cells) piece has) (subst (λ ws. Ranks s.order path ws (suc r)) same ranks) in
              subst (λ ws. SideHas s.d.program γ no_types s.d.net path s.h t (with_origins s.d.wholes e) ws) (sym same)
              (subst (λ e. SideHas s.d.program γ no_types s.d.net path s.h t (with_origins s.d.wholes e) (new_wires n (w ∷ []))) (sym c.is) call_has)
  side_has fuel claim path b g scope γ i n t e p wires start at inside value group body declares (side_of_case {x = x} {whole = whole} {w = w} {alts = alts} {it = it} {p = q} {results = results} on place whole_wide wide is built) has widths small is_first ranks free = by_alts alts refl
    where
      inside_group : GroupFormed s.d Value g scope
      inside_group = subst (λ sort. GroupFormed s.d sort g scope) value group

      case_in : (others : Alts) → alts ≡ others → CaseIn s path b g scope γ i x n w whole t others it on q results
      case_in others are = subst (λ alts. CaseIn s path b g scope γ i x n w whole t alts it on q results) are
          (record { stands = at; inside = inside; value = value; group = inside_group; at = body; declares = declares; known = place; whole_wide = whole_wide; wide = wide; is = is; built = built; has = has; widths = widths })

      by_alts : (others : Alts) → alts ≡ others → SideHas s.d.program γ no_types s.d.net path s.h t (with_origins s.d.wholes (case_of (var x) alts)) (case_wires on alts w n q results)
      by_alts no_alts are = absurd (no_case_typed (subst (λ alts. HasType (setting s.d) [] (types_in scope) (case_of (var x) alts) side.typed.type) are side.typed.has))
        where
          side : SideFormed s.d Value scope t (case_of (var x) alts)
          side = side_formed s.d inside_group i t (case_of (var x) alts) declares body

          no_case_typed : {vars : List TypeTree} {u : TypeTree} → HasType (setting s.d) [] vars (case_of (var x) no_alts) u → ⊥
          no_case_typed h = elim h [ ]
      by_alts (alt u f more) are =
          let back : SideHas s.d.program γ no_types s.d.net path s.h t (case_of (var x) (with_origins_alts s.d.wholes (alt u f more))) (case_wires on (alt u f more) w n q results) = by_choice (choice_looks (choice s.d.program.datas (alt u f more))) in
          subst (λ alts. SideHas s.d.program γ no_types s.d.net path s.h t (with_origins s.d.wholes (case_of (var x) alts)) (case_wires on alts w n q results)) (sym are)
          (subst (λ e. SideHas s.d.program γ no_types s.d.net path s.h t e (case_wires on (alt u f more) w n q results)) (sym (case_whole s.d.wholes x (alt u f more))) back)
        where
          first : slice_get (case_wires on (alt u f more) w n q results) 0 ≡ Some start
          first = subst (λ alts. slice_get (case_wires on alts w n q results) 0 ≡ Some start) are is_first

          lower : Ranks s.order path (case_wires on (alt u f more) w n q results) (suc r)
          lower = subst (λ alts. Ranks s.order path (case_wires on alts w n q results) (suc r)) are ranks

          choice_looks : (c : Choice) → (c ≡ looks) ⊎ (¬ (c ≡ looks))
          choice_looks looks = inl refl
          choice_looks (goes_on e) = inr (λ e. cc)
          choice_looks (takes n e) = inr (λ e. cc)

          by_choice : (choice s.d.program.datas (alt u f more) ≡ looks) ⊎ (¬ (choice s.d.program.datas (alt u f more) ≡ looks)) → SideHas s.d.program γ no_types s.d.net path s.h t (case_of (var x) (with_origins_alts s.d.wholes (alt u f more))) (case_wires on (alt u f more) w n q results)
          by_choice (inl looking) =
              let has_it = looks_bear facts s r known path b g scope γ i x n w whole t u f more it on q results start (case_in (alt u f more) are) looking first lower in
              subst (λ ws. SideHas s.d.program γ no_types s.d.net path s.h t (case_of (var x) (with_origins_alts s.d.wholes (alt u f more))) ws) (wires_whole s.d.wholes on (alt u f more) w n q results) has_it
          by_choice (inr unseen) =
              let depth : nesting_alts alts ≡ nesting_alts (alt u f more) = ap nesting_alts are in
              let bound_here : nesting f ≤ fuel = let sm : nesting_alts alts ≤ fuel = small in omega (arith, depth, sm) in
              unseen_result fuel claim path b g scope γ i x n w whole t u f more it on q results start (case_in (alt u f more) are) unseen bound_here first lower
              (λ y v occ. free y v (subst (λ alts. occurs (case_of (var x) alts) y ≡ true) (sym are) occ))

  -- a binding of a group has bits
  abbrev pub BindingHas : List ℕ → Group → List Variable → Thunks → ℕ → Type 0
  BindingHas path g scope η i = (x : ℕ) (it : Variable) → x + suc i ≡ size_of g → slice_get scope x ≡ Some it → Ranks s.order path it.wires (suc r) → HasBits s.d.program s.d.net path s.h η x it

  -- so variables inside a group have bits, where those have that occur in it from outside
  letrec_items : (fuel : ℕ) → Claim fuel → (path : List ℕ) (γ : Thunks) (sort : Sort) (scope bound : List Variable) (g : Group) (y n : ℕ) (p : Piece) (results : List WireId) → GroupBuilt (ground_of s.d.program s.d.built.order) sort (reverse bound ++ scope) n g p bound → HasCells s.d.net path p.cells → HasWidths s.d.net path n p.widths
      → Stands s path (record { sort = sort; scope = scope; outside = γ; term = letrec g (var y); results = results }) → sort ≡ Value → nesting_group g ≤ fuel → Have path scope γ (λ z. occurs (letrec g (var y)) z ≡ true)
      → Have path (reverse bound ++ scope) (in_group (with_origins_group s.d.wholes g) γ no_types) (λ x. (z : ℕ) → x ≡ size_of g + z → occurs (letrec g (var y)) z ≡ true)
  unfolding occurs
  letrec_items fuel claim path γ sort scope bound g y n p results built has wide at value small outer x it free place ranks = by (within facts s.d path inside x it place)
    where
      b : Block
      b = record { sort = sort; scope = scope; outside = γ; term = letrec g (var y); results = results }

      η : Thunks
      η = in_group (with_origins_group s.d.wholes g) γ no_types

      inside : Inside s.d path b g (reverse bound ++ scope) η
      inside = inside_letrec built has wide

      group : GroupFormed s.d sort g (reverse bound ++ scope)
      group = inside_formed facts s.laws.measure s.d inside (formed facts s.laws.measure s.d at)

      values : GroupFormed s.d Value g (reverse bound ++ scope)
      values = subst (λ sort. GroupFormed s.d sort g (reverse bound ++ scope)) value group

      past_group : (x z : ℕ) (v : Variable) → thunk_at η x ≡ thunk_at γ z → HasBits s.d.program s.d.net path s.h γ z v → HasBits s.d.program s.d.net path s.h η x v
      past_group x z v same has = (has.0, record { thunk = has.1.thunk; there = same ∙ has.1.there; carries = has.1.carries; bears = has.1.bears })

      step : (i : ℕ) → i < size_of g → ((j : ℕ) → j < size_of g → refers g i j ≡ true → BindingHas path g (reverse bound ++ scope) η j) → BindingHas path g (reverse bound ++ scope) η i
      step i l before x it place known_there ranks = of_wires it.wires refl
        where
          in_side : (e : TermTree) → body_at g i ≡ Some e → Have path (reverse bound ++ scope) η (λ y. occurs e y ≡ true)
          in_side e at_e u v occ there lower = from (within facts s.d path inside u v there)
            where
              occ_side : occurs (side_at g i) u ≡ true
              occ_side = ap (λ e. occurs e u) (side_is g i e at_e) ∙ occ

              from : Within s.d path b g (reverse bound ++ scope) η u v → HasBits s.d.program s.d.net path s.h η u v
              from (of_binding k number binding env thunk) = before k (omega (arith, number)) (same_place g i k u (let e : size_of g ≡ suc k + u = omega (arith, number) in e) occ_side) u v number there lower
              from (from_outside z number is same) =
                  let deep : u ≡ z + size_of g = omega (arith, number) in
                  let occ_group : occurs_group g (z + size_of g) ≡ true = ap (λ u. occurs_group g u) (sym deep) ∙ side_in_group g i u l occ_side in
                  past_group u z v same (outer z v (or_left (occurs_group g (z + size_of g)) (occurs (var y) (z + size_of g)) occ_group) is lower)

          of_wires : (ws : List WireId) → it.wires ≡ ws → HasBits s.d.program s.d.net path s.h η x it
          of_wires [] nope = empty_in s.d path s.h (reverse bound ++ scope) x it (inside_there facts s.laws.measure s.laws.prims s.d s.inputs s.top at inside x it known_there) values.held known_there nope
          of_wires (a ∷ ws) some = of_place (within facts s.d path inside x it known_there)
            where
              of_place : Within s.d path b g (reverse bound ++ scope) η x it → HasBits s.d.program s.d.net path s.h η x it
              of_place (from_outside z number is same) = absurd (omega (arith, number, place))
              of_place (of_binding j number binding env thunk) =
                  let same : j ≡ i = omega (arith, number, place) in
                  let at_i : body_at g i ≡ Some binding.term = ap (body_at g) (sym same) ∙ binding.at in
                  let depth = nesting_at g j binding.term binding.at in
                  let side = side_has fuel claim path b g (reverse bound ++ scope) η j binding.n it.ty binding.term binding.piece it.wires a at inside value group binding.at binding.declares
                  (subst (λ sort. SideBuilt (ground_of s.d.program s.d.built.order) sort (reverse bound ++ scope) binding.n it.ty binding.term binding.piece it.wires) value binding.built) binding.cells binding.widths (omega (arith, depth, small))
                  (ap (λ ws. slice_get ws 0) some) ranks (in_side binding.term at_i) in (
                    side.bits,
                    record {
                      thunk = member (with_origins_group s.d.wholes g) j γ no_types;
                      there = thunk;
                      carries = λ k. facts.shows.member_shows (body_whole s.d.wholes g j binding.term binding.at) (side.carries k);
                      bears = side.bears;
                    },
                  )

      by : Within s.d path b g (reverse bound ++ scope) η x it → HasBits s.d.program s.d.net path s.h η x it
      by (of_binding i number binding env thunk) = along_references facts (refers g) values.form.acyclic (size_of g) (BindingHas path g (reverse bound ++ scope) η) step i (omega (arith, number)) x it number place ranks
      by (from_outside z number is same) = past_group x z it same (outer z it (free z number) is ranks)

  step_claim : (fuel : ℕ) → Claim fuel → Claim (suc fuel)
  step_claim fuel claim path b g scope γ at inside_variable value small outer x it free place ranks = let same : x ≡ 0 + x = omega arith in outer x it (free x same) place ranks
  step_claim fuel claim path b g scope γ at (inside_letrec {sort = sort} {scope = outside_scope} {bound = bound} {γ = outside} {x = y} {n = n} {p = p} {results = results} built has wide) value small outer x it free place ranks =
      letrec_items fuel claim path outside sort outside_scope bound g y n p results built has wide at value (let sm : suc (nesting_group g) ≤ suc fuel = small in omega (arith, sm)) outer x it free place ranks

  zero_claim : Claim zero
  zero_claim path b g scope γ at inside_variable value small outer x it free place ranks = let same : x ≡ 0 + x = omega arith in outer x it (free x same) place ranks
  zero_claim path b g scope γ at (inside_letrec built has wide) value small outer x it free place ranks = let sm : suc (nesting_group g) ≤ 0 = small in absurd (omega (arith, sm))

  pub claims : (fuel : ℕ) → Claim fuel
  claims zero = zero_claim
  claims (suc fuel) = step_claim fuel (claims fuel)

  -- all variables inside a block have bits where those outside have
  pub inside_bits : (path : List ℕ) (b : Block) (g : Group) (scope : List Variable) (γ : Thunks) → Stands s path b → Inside s.d path b g scope γ → b.sort ≡ Value → ((z : ℕ) (v : Variable) → slice_get b.scope z ≡ Some v → Ranks s.order path v.wires (suc r) → HasBits s.d.program s.d.net path s.h b.outside z v)
      → (x : ℕ) (v : Variable) → slice_get scope x ≡ Some v → Ranks s.order path v.wires (suc r) → HasBits s.d.program s.d.net path s.h γ x v
  inside_bits path b g scope γ at inside value outer x v place ranks = by (within facts s.d path inside x v place)
    where
      by : Within s.d path b g scope γ x v → HasBits s.d.program s.d.net path s.h γ x v
      by (from_outside z number is same) = let has = outer z v is ranks in (has.0, record { thunk = has.1.thunk; there = same ∙ has.1.there; carries = has.1.carries; bears = has.1.bears })
      by (of_binding i number binding env thunk) =
          claims (nesting b.term) path b g scope γ at inside value (omega arith) (λ z v occ is lower. outer z v is lower) x v (λ z e. absurd (omega (arith, e, number))) place ranks
