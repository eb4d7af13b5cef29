-- Calls and lifted calls in circuits have bits at their leaves.
use Rattle.std.proofs.lemmas.List.{append-nil}
use Rattle.std.proofs.Common.{List, Some, [], ap, arith, length, refl, subst, suc, sym, zero, ℕ, ◌++◌, ◌+◌, ◌-◌, ◌<◌, ◌∙◌, ◌∷◌, ◌≡◌}
use Rattle.std.proofs.lemmas.List.{length-map}
use Rattle.std.specs.Prelude.{slice_get}
use Rattle.net_built.specs.Wires.{Piece, last_wires, new_wires, present, wire_count, wires_from}
use Rattle.net_built.specs.Circuits.{used as used_piece, Ground, CircuitCells, IsLifted, lifted_on_one, lifted_on_more, of_variable, of_synchronizer, of_pure, of_register, of_block_ram, of_mapped, of_lifted, of_call, of_product, of_projection}
use Rattle.net_grounds.specs.Facts.{Facts}
use Rattle.net_means.specs.WireOrder.Awaits.{AllSettle}
use Rattle.chw_typing.specs.Alike.{AreLike}
use Rattle.net_means.specs.CircuitBits.Instances.{Block, InstanceAt, a_call, a_lift}
use Rattle.chw_terms.specs.declared.scene.Sort.TheVariants.{Circuit, Value}
use Rattle.net_means.proofs.NetBits.CircuitBase.{CircuitIn, circuit_side_of}
use Rattle.chw_terms.specs.TermTree.{Group, TermTree, made, var}
use Rattle.net_means.proofs.NetBits.Forms.{GroupFormed, inside_formed, setting}
use Rattle.cell_bits.specs.Bearing.{HasCells}
use Rattle.chw_typing.specs.Scopes.{HasKind}
use Rattle.net_built.specs.Data.{HasParts}
use Rattle.chw_layout.specs.Measured.{HasWidth, fits}
use Rattle.net_means.specs.CircuitBits.Uses.{IsLiftOf, samples}
use Rattle.chw_types.specs.declared.kind.Kind.{Kind}
use Rattle.net_means.proofs.NetBits.Context.{Known, Situation, alone, value_wires, variable_typed}
use Rattle.net_means.specs.CircuitBits.Leaves.{LeafHas, part_wires}
use Rattle.net_means.proofs.NetBits.Below.{Ranks, one_part, settled_ranks}
use Rattle.chw_types.specs.SameTypes.{SameTypes}
use Rattle.chw_meaning.specs.Values.{Thunks, closed}
use Rattle.chw_types.specs.TypeTree.{TypeTree, no_types, signal}
use Rattle.chw_types.specs.declared.kind.Kind.TheVariants.{Val}
use Rattle.net_built.specs.Terms.{Variable, head_of, operands_of, types_of, wires_of, wires_of_all}
use Rattle.chw_base.specs.declared.index.WireId.{WireId}
use Rattle.net_means.proofs.NetFits.Calls.{any_kept}
use Rattle.net_means.proofs.NetBits.Standing.{block_plain, formed}
use Rattle.net_means.proofs.NetBits.Params.{body_result, call_given, function_of}
use Rattle.net_means.proofs.CircuitBits.Instances.{body_stands}
use Rattle.net_means.proofs.NetBits.Sorts.{called_sort, lifted_sort}
use Rattle.net_means.proofs.NetFits.Pieces.{count_from}
use Rattle.carrying.specs.TermLaws.{each_closed, onto, under_lambdas}
use Rattle.net_means.proofs.NetBits.There.{found_at}
use Rattle.net_built.specs.Built.{ground_of}
use Rattle.net_means.proofs.NetBits.Results.{has_block, leaf_result, opened, value_result}
use Rattle.net_means.proofs.NetFits.Shapes.{head_then}
use Rattle.chw_types.specs.Kinds.{kind_signal}
use Rattle.net_means.proofs.NetBits.Lifts.{lift_given}
use Rattle.net_means.proofs.SideBits.Heads.{names}
use Rattle.normal_forms.specs.Values.{on_names}
use Rattle.net_means.proofs.NetFits.CircuitDrivers.{operands_then}
use Rattle.chw_typing.specs.Programs.{setting_of}
use Rattle.net_means.proofs.NetFits.Ports.{signal_part}
use Rattle.net_means.proofs.NetBits.Used.{use_of, whole_of}
use Rattle.net_means.proofs.CircuitBits.Follow.{whole_call, whole_lift}
use Rattle.rewriting.specs.Origins.{with_origins}

-- the cells of a lifted call
lifted_piece : Facts → {ground : Ground} {scope : List Variable} {n m : ℕ} {widths : List ℕ} {e : TermTree} {es : List TermTree} {p : Piece} → IsLifted m e es → CircuitCells ground scope n widths (head_of e) (types_of e) (operands_of e) p → p ≡ used_piece ground m n (wires_of_all scope es) widths
lifted_piece facts {ground} {scope} {n} {m} {widths} (lifted_on_one {x = x}) of_mapped = ap (λ ws. used_piece ground m n ws widths) (sym (append-nil (wires_of scope x)))
lifted_piece facts {ground} {scope} {n} {m} {widths} (lifted_on_more {x = x} {xs = es} before) (of_lifted {m = k} {xs = fs} other) =
    let same = facts.built.lifted_once other before refl in
    λ i. used_piece ground (same.0 i) n (wires_of_all scope (same.1 i ++ x ∷ [])) widths

call_piece : {ground : Ground} {scope : List Variable} {n m : ℕ} {widths : List ℕ} {h : TermTree} {ts : List TypeTree} {es : List TermTree} {p : Piece} → CircuitCells ground scope n widths h ts es p → h ≡ made m → p ≡ used_piece ground m n (wires_of_all scope es) widths
call_piece {ground} {scope} {n} {m} {widths} (of_call {m = k} {es = es}) e = let is = made_number e in ap (λ m. used_piece ground m n (wires_of_all scope es) widths) is
  where
    made_number : {k m : ℕ} → made k ≡ made m → k ≡ m
    made_number e = cc
call_piece of_variable e = absurd cc
call_piece of_synchronizer e = absurd cc
call_piece (of_pure has) e = absurd cc
call_piece (of_register has) e = absurd cc
call_piece (of_block_ram has) e = absurd cc
call_piece of_mapped e = absurd cc
call_piece (of_lifted a) e = absurd cc
call_piece of_product e = absurd cc
call_piece (of_projection parts at pattern have) e = absurd cc

used_wires : (ground : Ground) (m n : ℕ) (reads : List WireId) (widths : List ℕ) → last_wires n (used_piece ground m n reads widths) widths ≡ new_wires n widths
used_wires ground m n reads widths = let place : n + length (present widths) - wire_count widths ≡ n = omega arith in ap (λ k. wires_from k (wire_count widths)) place

module _ (facts : Facts) (s : Situation) (r : ℕ) (known : Known s r) where
  pub call_leaf : (path : List ℕ) (b : Block) (g : Group) (scope : List Variable) (γ : Thunks) (i n m : ℕ) (xs : List ℕ) (t : TypeTree) (p : Piece) (widths : List ℕ) (k : ℕ) (start : WireId) → CircuitIn s path b g scope γ i n t (on_names (made m) [] xs) p widths → k < length widths → slice_get (part_wires k widths (last_wires n p widths)) 0 ≡ Some start
      → Ranks s.order path (part_wires k widths (last_wires n p widths)) (suc r) → LeafHas s.d.program s.d.net path s.h t (closed (with_origins s.d.wholes (on_names (made m) [] xs)) γ no_types) (last_wires n p widths) k
  call_leaf path b g scope γ i n m xs t p widths k start c l first ranks =
      let d = s.d in
      let law = s.laws.measure in
      let ground = ground_of d.program d.built.order in
      let e : TermTree = on_names (made m) [] xs in
      let reads : List WireId = wires_of_all scope (names xs) in
      let head : head_of e ≡ made m = head_then (made m) [] (names xs) in
      let piece : p ≡ used_piece ground m n reads widths = call_piece c.built head ∙ ap (λ es. used_piece ground m n (wires_of_all scope es) widths) (operands_then (made m) [] (names xs)) in
      let wires_are : last_wires n p widths ≡ new_wires n widths = ap (λ (p : Piece). last_wires n p widths) piece ∙ used_wires ground m n reads widths in
      let one = found_at widths k l in
      let first_new : slice_get (part_wires k widths (new_wires n widths)) 0 ≡ Some start = ap (λ ws. slice_get (part_wires k widths ws) 0) (sym wires_are) ∙ first in
      let ranks_new = subst (λ ws. Ranks s.order path (part_wires k widths ws) (suc r)) wires_are ranks in
      let some : 0 < wire_count widths = some_wires k widths (new_wires n widths) start (count_from n (wire_count widths)) first_new in
      let u = use_of d path m n reads widths s.good some (subst (λ (p : Piece). HasCells d.net path p.cells) piece c.cells) in
      let inner : List ℕ = u.at.place ∷ path in
      let η : Thunks = onto (each_closed (names xs) γ no_types) γ in
      let instance : InstanceAt d s.inputs inner s.h m η = a_call i xs c.stands c.inside c.at u.there u.at in
      let stands = body_stands d s.inputs inner s.h m η u.it u.inner instance u.known u.at.is u.of in
      let sort : u.it.sort ≡ Circuit = called_sort d Circuit g scope i m xs u.it c.group c.at u.known in
      let formed_inner = formed facts law d stands.stands in
      let o = opened facts d stands.stands formed_inner in
      let plain = block_plain facts law d (has_block stands.stands).built in
      let f = function_of facts law d m u.it stands.params stands.term u.known stands.body plain in
      let call = call_given facts d Circuit g scope i m xs u.it stands.params t f c.group c.at c.declares u.known in
      let side = circuit_side_of s c in
      let result = body_result facts law d m u.it stands.params stands.term stands.scope formed_inner.type f u.known stands.body stands.parameters formed_inner.typed in
      let same : SameTypes o.it.ty t = facts.same.same_through (facts.same.same_turned (subst (SameTypes f.result) o.type result)) call.result in
      let group_inner = subst (λ sort. GroupFormed d sort o.g o.scope) sort (inside_formed facts law d o.inside formed_inner) in
      let typed = variable_typed facts d group_inner o.x o.it o.known in
      let like : AreLike (setting_of d.program) o.it.ty t = record { kind = typed.kind; has = typed.has; same = same } in
      let parts_inner : HasParts d.program.datas Circuit o.it.ty widths = any_kept facts s.laws.keep law (setting d) d.sound t o.it.ty widths (record { kind = side.kind; has = side.kinded; same = facts.same.same_turned same }) c.parts in
      let settle = s.laws.uses_order d.net path u.inner n k widths reads u.at in
      let all : AllSettle d.net path (part_wires k widths (new_wires n widths)) inner (part_wires k widths o.it.wires) = subst (λ ws. AllSettle d.net path (part_wires k widths (new_wires n widths)) inner (part_wires k widths ws)) o.results settle in
      let leaf = known.leaves inner _ o.g o.scope o.γ o.x k o.it widths stands.stands o.inside sort o.known parts_inner l (settled_ranks s.order path inner (part_wires k widths (new_wires n widths)) (part_wires k widths o.it.wires) start r all first_new ranks_new) in
      let has_inner = leaf_result facts s.laws.followers d k o (alone d) typed leaf in
      let has = s.laws.calls d.program d.net path s.h stands.params (with_origins d.wholes stands.term) xs γ no_types t o.it.ty n widths reads u.inner k u.at (alone d) like c.parts call.count has_inner in
      let whole : with_origins d.wholes e ≡ on_names (under_lambdas stands.params (with_origins d.wholes stands.term)) [] xs = whole_call d.wholes m xs ∙ ap (λ e. on_names e [] xs) (whole_of d m u.it stands.params stands.term u.known stands.body) in
      subst (λ ws. LeafHas d.program d.net path s.h t (closed (with_origins d.wholes e) γ no_types) ws k) (sym wires_are)
      (subst (λ e. LeafHas d.program d.net path s.h t (closed e γ no_types) (new_wires n widths) k) (sym whole) has)
    where
      some_wires : (k : ℕ) (widths : List ℕ) (wires : List WireId) (a : WireId) → length wires ≡ wire_count widths → slice_get (part_wires k widths wires) 0 ≡ Some a → 0 < wire_count widths
      some_wires k [] wires a many e = absurd cc
      some_wires k (suc w ∷ widths) wires a many e = omega arith
      some_wires zero (zero ∷ widths) wires a many e = absurd cc
      some_wires (suc k) (zero ∷ widths) wires a many e = some_wires k widths wires a many e

  pub lift_leaf : (path : List ℕ) (b : Block) (g : Group) (scope : List Variable) (γ : Thunks) (i n m : ℕ) (e : TermTree) (xs : List ℕ) (t : TypeTree) (p : Piece) (widths : List ℕ) (k : ℕ) (start : WireId) → CircuitIn s path b g scope γ i n t e p widths → IsLifted m e (names xs) → k < length widths → slice_get (part_wires k widths (last_wires n p widths)) 0 ≡ Some start
      → Ranks s.order path (part_wires k widths (last_wires n p widths)) (suc r) → LeafHas s.d.program s.d.net path s.h t (closed (with_origins s.d.wholes e) γ no_types) (last_wires n p widths) k
  lift_leaf path b g scope γ i n m e xs t p widths k start c lifted l first ranks =
      let d = s.d in
      let law = s.laws.measure in
      let ground = ground_of d.program d.built.order in
      let reads : List WireId = wires_of_all scope (names xs) in
      let piece : p ≡ used_piece ground m n reads widths = lifted_piece facts lifted c.built in
      let wires_are : last_wires n p widths ≡ new_wires n widths = ap (λ (p : Piece). last_wires n p widths) piece ∙ used_wires ground m n reads widths in
      let first_new : slice_get (part_wires k widths (new_wires n widths)) 0 ≡ Some start = ap (λ ws. slice_get (part_wires k widths ws) 0) (sym wires_are) ∙ first in
      let ranks_new = subst (λ ws. Ranks s.order path (part_wires k widths ws) (suc r)) wires_are ranks in
      let some : 0 < wire_count widths = some_wires k widths start first_new in
      let u = use_of d path m n reads widths s.good some (subst (λ (p : Piece). HasCells d.net path p.cells) piece c.cells) in
      let inner : List ℕ = u.at.place ∷ path in
      let η : Thunks = onto (samples (each_closed (names xs) γ no_types) s.h) γ in
      let instance : InstanceAt d s.inputs inner s.h m η = a_lift i xs c.stands c.inside c.at lifted u.there u.at in
      let stands = body_stands d s.inputs inner s.h m η u.it u.inner instance u.known u.at.is u.of in
      let sorts = lifted_sort d Circuit g scope i m e (names xs) u.it c.group c.at lifted u.known in
      let sort : u.it.sort ≡ Value = sorts.1 in
      let formed_inner = formed facts law d stands.stands in
      let o = opened facts d stands.stands formed_inner in
      let plain = block_plain facts law d (has_block stands.stands).built in
      let f = function_of facts law d m u.it stands.params stands.term u.known stands.body plain in
      let lift = lift_given facts s.laws.prims d g scope i m e xs u.it stands.params t f c.group c.at c.declares lifted u.known in
      let side = circuit_side_of s c in
      let form = facts.same.as_signal lift.result in
      let result = body_result facts law d m u.it stands.params stands.term stands.scope formed_inner.type f u.known stands.body stands.parameters formed_inner.typed in
      let same : SameTypes o.it.ty form.1 = facts.same.same_through (facts.same.same_turned (subst (SameTypes f.result) o.type result)) form.4 in
      let group_inner = subst (λ sort. GroupFormed d sort o.g o.scope) sort (inside_formed facts law d o.inside formed_inner) in
      let typed = variable_typed facts d group_inner o.x o.it o.known in
      let like : AreLike (setting_of d.program) o.it.ty form.1 = record { kind = typed.kind; has = typed.has; same = same } in
      let parts : HasParts d.program.datas Circuit (signal form.0 form.1) widths = subst (λ t. HasParts d.program.datas Circuit t widths) form.2 c.parts in
      let part = signal_part parts in
      let kinded = payload_kinded (subst (λ t. HasKind (setting d) [] t side.kind) form.2 side.kinded) in
      let wide_inner : HasWidth d.program.datas o.it.ty part.0 = law (fits part.0) (setting d) form.1 o.it.ty d.sound (record { kind = Val; has = kinded; same = facts.same.same_turned same }) part.1 in
      let many : length o.it.wires ≡ wire_count (part.0 ∷ []) = value_wires facts d group_inner o.x o.it part.0 o.known wide_inner in
      let leaf_is : k ≡ 0 = single_leaf part.2 in
      let outputs : part_wires 0 (part.0 ∷ []) u.inner.outputs ≡ o.it.wires = ap (λ ws. part_wires 0 (part.0 ∷ []) ws) o.results ∙ one_part part.0 o.it.wires many in
      let settle = s.laws.uses_order d.net path u.inner n 0 widths reads u.at in
      let all : AllSettle d.net path (part_wires 0 widths (new_wires n widths)) inner o.it.wires =
      subst (λ ws. AllSettle d.net path (part_wires 0 widths (new_wires n widths)) inner ws) (ap (λ ws. part_wires 0 ws u.inner.outputs) part.2 ∙ outputs) settle in
      let first_zero : slice_get (part_wires 0 widths (new_wires n widths)) 0 ≡ Some start = ap (λ k. slice_get (part_wires k widths (new_wires n widths)) 0) (sym leaf_is) ∙ first_new in
      let ranks_zero = subst (λ k. Ranks s.order path (part_wires k widths (new_wires n widths)) (suc r)) leaf_is ranks_new in
      let found_inner = known.values inner _ o.g o.scope o.γ o.x o.it stands.stands o.inside sort o.known (settled_ranks s.order path inner (part_wires 0 widths (new_wires n widths)) o.it.wires start r all first_zero ranks_zero) in
      let has_inner = value_result facts d o found_inner in
      let lift_is : IsLiftOf (under_lambdas stands.params (with_origins d.wholes stands.term)) (with_origins d.wholes e) (names xs) = subst (λ w. IsLiftOf w (with_origins d.wholes e) (names xs)) (whole_of d m u.it stands.params stands.term u.known stands.body) (whole_lift d.wholes m e xs lifted) in
      let many_params : length stands.params ≡ length (names xs) = lift.count ∙ sym (length-map xs (λ x. var x)) in
      let has = s.laws.lifts d.program d.net path s.h stands.params (with_origins d.wholes stands.term) (with_origins d.wholes e) (names xs) γ no_types form.0 form.1 o.it.ty n widths reads u.inner u.at (alone d) like parts lift_is many_params has_inner in
      let back : LeafHas d.program d.net path s.h t (closed (with_origins d.wholes e) γ no_types) (new_wires n widths) zero = subst (λ t. LeafHas d.program d.net path s.h t (closed (with_origins d.wholes e) γ no_types) (new_wires n widths) zero) (sym form.2) has in
      subst (λ ws. LeafHas d.program d.net path s.h t (closed (with_origins d.wholes e) γ no_types) ws k) (sym wires_are)
      (subst (λ k. LeafHas d.program d.net path s.h t (closed (with_origins d.wholes e) γ no_types) (new_wires n widths) k) (sym leaf_is) back)
    where
      some_wires : (k : ℕ) (widths : List ℕ) (a : WireId) → slice_get (part_wires k widths (new_wires n widths)) 0 ≡ Some a → 0 < wire_count widths
      some_wires k widths a e = by (wire_count widths) refl
        where
          by : (c : ℕ) → wire_count widths ≡ c → 0 < wire_count widths
          by zero nothing = let none_there : slice_get (part_wires k widths []) 0 ≡ Some a = ap (λ c. slice_get (part_wires k widths (wires_from n c)) 0) (sym nothing) ∙ e in absurd (no_part k widths none_there)
            where
              no_part : (k : ℕ) (widths : List ℕ) → slice_get (part_wires k widths []) 0 ≡ Some a → ⊥
              no_part k [] e = absurd cc
              no_part zero (zero ∷ widths) e = absurd cc
              no_part zero (suc w ∷ widths) e = absurd cc
              no_part (suc k) (zero ∷ widths) e = no_part k widths e
              no_part (suc k) (suc w ∷ widths) e = no_part k widths e
          by (suc c) more = omega (arith, more)

      single_leaf : {w : ℕ} → widths ≡ w ∷ [] → k ≡ 0
      single_leaf single = let long = ap (λ (ws : List ℕ). length ws) single in omega (arith, l, long)

      payload_kinded : {u v : TypeTree} {k : Kind} → HasKind (setting s.d) [] (signal u v) k → HasKind (setting s.d) [] v Val
      payload_kinded (kind_signal e f) = f
