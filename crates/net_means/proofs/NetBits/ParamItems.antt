-- The parameters of instances have bits: those of the top as its inputs have them, those of a use as its
-- operands have them outside.
use Rattle.std.proofs.Common.{List, Some, [], ap, arith, length, refl, subst, suc, sym, zero, ℕ, ◌++◌, ◌+◌, ◌<◌, ◌∙◌, ◌∷◌, ◌≡◌}
use Rattle.std.proofs.lemmas.List.{length-map}
use Rattle.std.specs.Prelude.{slice_get}
use Rattle.net_grounds.specs.Facts.{Facts}
use Rattle.net_means.proofs.Lists.{found_in_map, same_some}
use Rattle.net_means.proofs.CircuitBits.Ports.{leaf_width}
use Rattle.net_means.specs.WireOrder.Awaits.{AllSettle}
use Rattle.chw_typing.specs.Alike.{AreLike}
use Rattle.cell_bits.specs.Bearing.{Bears}
use Rattle.net_means.specs.CircuitBits.Instances.{Block, HaveBits, Inside, InstanceAt, NoLambda, Parameters, a_call, a_lift, the_top}
use Rattle.chw_terms.specs.declared.scene.Sort.TheVariants.{Circuit, Value}
use Rattle.chw_terms.specs.TermTree.{Group, TermTree, made, var}
use Rattle.net_means.proofs.NetBits.Forms.{GroupFormed, inside_formed, origins, setting, value_parts}
use Rattle.net_means.specs.SideBits.Sides.{HasBits, types_in}
use Rattle.net_built.specs.Data.{HasParts}
use Rattle.chw_meaning.specs.Values.{History, Thunk, Thunks, body_at, closed, none, sample}
use Rattle.net_built.specs.Circuits.{IsLifted}
use Rattle.net_means.proofs.NetBits.Context.{Known, Situation, Stands, alone}
use Rattle.net_means.specs.CircuitBits.Leaves.{LeafHas, VariableLeaf, part_wires}
use Rattle.chw_terms.specs.declared.scene.Made.{Made}
use Rattle.netlist.specs.declared.net.Module.{Module}
use Rattle.net_means.proofs.NetBits.Below.{Ranks, one_part, part_length, settled_ranks}
use Rattle.carrying.specs.Carrying.{Shows}
use Rattle.chw_types.specs.TypeTree.{TypeTree, no_types}
use Rattle.net_means.specs.CircuitBits.Uses.{UsedAt, samples}
use Rattle.net_built.specs.Terms.{Variable, wires_at, wires_of_all}
use Rattle.chw_base.specs.declared.index.WireId.{WireId}
use Rattle.net_means.proofs.NetBits.Operands.{call_counts, call_parts, lift_counts, lifted_name, operand_of, operand_thunk, split_use, typed_name, wires_found}
use Rattle.net_means.proofs.NetBits.Params.{call_given, function_of, given_at}
use Rattle.net_means.proofs.NetBits.Sorts.{called_sort, lifted_sort}
use Rattle.net_means.proofs.NetFits.Pieces.{count_from}
use Rattle.net_means.proofs.NetBits.Standing.{declared_there, formed}
use Rattle.carrying.specs.TermLaws.{each_closed, onto, under_lambdas}
use Rattle.net_means.proofs.NetBits.There.{found_at, found_within, params_count}
use Rattle.net_means.proofs.NetBits.Lifts.{lift_given, lifted_at}
use Rattle.net_means.proofs.SideBits.Heads.{names}
use Rattle.net_built.specs.Wires.{new_wires, wire_count}
use Rattle.normal_forms.specs.Values.{on_names}
use Rattle.net_means.proofs.CircuitBits.Uses.{part_enters}
use Rattle.chw_typing.specs.Programs.{setting_of}
use Rattle.net_means.proofs.CircuitBits.Names.{variable_has_all}

none_before : (n : ℕ) → 0 + n ≡ n
none_before n = omega arith

-- one call of a made definition, with what its body's parameters are
record CallIn (s : Situation) (path : List ℕ) (m : ℕ) (it : Made) (params : List TypeTree) (e : TermTree) (scope : List Variable) : Type 0 where
  known : slice_get s.d.state m ≡ Some it
  is : it.body ≡ under_lambdas params e
  plain : NoLambda e
  parameters : Parameters s.d.program.datas it.sort zero params [] scope

module _ (facts : Facts) (s : Situation) (r : ℕ) (known : Known s r) where
  -- an operand whose wires are those of the parameter has lesser ranks
  operand_ranks : (path : List ℕ) (inner : Module) (front wires back drives own : List WireId) (widths : List ℕ) (k : ℕ) (at : UsedAt s.d.net path (front ++ (wires ++ back)) drives inner) → own ≡ new_wires (0 + length front) widths → length (part_wires k widths wires) ≡ length (part_wires k widths own)
      → Ranks s.order (at.place ∷ path) (part_wires k widths own) (suc r) → Ranks s.order path (part_wires k widths wires) r
  operand_ranks path inner front wires back drives own widths k at is long ranks = by (part_wires k widths own) refl
    where
      number : 0 + length front ≡ length front
      number = omega arith

      same : own ≡ new_wires (length front) widths
      same = is ∙ ap (λ n. new_wires n widths) number

      settle : AllSettle s.d.net (at.place ∷ path) (part_wires k widths own) path (part_wires k widths wires)
      settle = subst (λ ws. AllSettle s.d.net (at.place ∷ path) (part_wires k widths ws) path (part_wires k widths wires)) (sym same) (s.laws.inputs_order s.d.net path inner front wires back drives widths k at)

      by : (ws : List WireId) → part_wires k widths own ≡ ws → Ranks s.order path (part_wires k widths wires) r
      by [] nope = λ i w e. let l = found_within (part_wires k widths wires) i w e in let none_long = ap (λ (ws : List WireId). length ws) nope in absurd (omega (arith, l, long, none_long))
      by (a ∷ ws) some = settled_ranks s.order (at.place ∷ path) path (part_wires k widths own) (part_wires k widths wires) a r settle (ap (λ ws. slice_get ws 0) some) ranks

  -- a parameter of a value that is called
  called_value : (path : List ℕ) (m : ℕ) (it : Made) (params : List TypeTree) (e : TermTree) (scope : List Variable) (c : CallIn s path m it params e scope) (b : Block) (g : Group) (outer : List Variable) (γ : Thunks) (drives : List WireId) (inner : Module) (i : ℕ) (xs : List ℕ) → Stands s path b → Inside s.d path b g outer γ → body_at g i ≡ Some (on_names (made m) [] xs)
      → (at : UsedAt s.d.net path (wires_of_all outer (names xs)) drives inner) → it.sort ≡ Value → (z : ℕ) (v : Variable) → slice_get scope z ≡ Some v → Ranks s.order (at.place ∷ path) v.wires (suc r) → HasBits s.d.program s.d.net (at.place ∷ path) s.h (onto (each_closed (names xs) γ no_types) γ) z v
  called_value path m it params e scope c b g outer γ drives inner i xs block inside body at value z v there ranks =
      let d = s.d in
      let law = s.laws.measure in
      let f = function_of facts law d m it params e c.known c.is c.plain in
      let group = inside_formed facts law d inside (formed facts law d block) in
      let sort = called_sort d b.sort g outer i m xs it group body c.known in
      let outer_value : b.sort ≡ Value = sym sort ∙ value in
      let values = subst (λ sort. GroupFormed d sort g outer) outer_value group in
      let t = declared_there g i (on_names (made m) [] xs) body in
      let call = call_given facts d b.sort g outer i m xs it params t.0 f group body t.1 c.known in
      let parameters = subst (λ sort. Parameters d.program.datas sort zero params [] scope) value c.parameters in
      let counts = call_counts facts s.laws d values xs params f.ps f.same call.given in
      let size = params_count parameters in
      let o = operand_of outer parameters xs call.count counts z v there (let l = found_within scope z v there in omega (arith, size, l)) in
      let name = typed_name facts d values o.x v.ty (given_at facts (setting d) (types_in outer) params f.ps xs o.j o.x v.ty f.same call.given o.at o.type) in
      let part = value_parts o.parts in
      let of = call_parts facts s.laws d values o.x v.ty o.widths name o.parts in
      let wires_same : wires_at outer o.x ≡ name.it.wires = wires_found outer o.x name.it name.known in
      let apart : wires_of_all outer (names xs) ≡ o.front ++ (name.it.wires ++ o.back) = o.split ∙ ap (λ ws. o.front ++ (ws ++ o.back)) wires_same in
      let used = split_use at (o.front ++ (name.it.wires ++ o.back)) apart in
      let single : o.widths ≡ part.0 ∷ [] = part.2 in
      let own_count : length v.wires ≡ wire_count (part.0 ∷ []) = ap (λ (ws : List WireId). length ws) o.own ∙ count_from (0 + length o.front) (wire_count o.widths) ∙ ap (λ ws. wire_count ws) single in
      let name_count : length name.it.wires ≡ wire_count (part.0 ∷ []) = of.1 ∙ ap (λ ws. wire_count ws) single in
      let own_part : part_wires 0 (part.0 ∷ []) v.wires ≡ v.wires = one_part part.0 v.wires own_count in
      let name_part : part_wires 0 (part.0 ∷ []) name.it.wires ≡ name.it.wires = one_part part.0 name.it.wires name_count in
      let own_single : v.wires ≡ new_wires (0 + length o.front) (part.0 ∷ []) = o.own ∙ ap (λ ws. new_wires (0 + length o.front) ws) single in
      let lower = operand_ranks path inner o.front name.it.wires o.back drives v.wires (part.0 ∷ []) 0 used own_single
      (ap (λ (ws : List WireId). length ws) name_part ∙ name_count ∙ sym own_count ∙ sym (ap (λ (ws : List WireId). length ws) own_part)) (subst (λ ws. Ranks s.order (at.place ∷ path) ws (suc r)) (sym own_part) ranks) in
      let has = known.values path b g outer γ o.x name.it block inside outer_value name.known (subst (λ ws. Ranks s.order path ws r) name_part lower) in
      let like : AreLike (setting_of d.program) name.it.ty v.ty = record { kind = name.typed.kind; has = name.typed.has; same = name.same } in
      let carries : (k : History) → Shows d.program v.ty (closed (var o.x) γ no_types) k has.0 = λ k. facts.shows.shown_same d.program (alone d) s.laws.values s.laws.keep (facts.shows.variable_shows has.1.there (has.1.carries k)) like in
      let long : length has.0 ≡ part.0 = facts.shows.shown_length (carries []) part.1 in
      let number : 0 + length o.front ≡ length o.front = none_before (length o.front) in
      let enters = part_enters d.net path s.h inner o.front name.it.wires o.back drives (part.0 ∷ []) 0 has.0 used (ap (λ k. Some k) (sym long)) (subst (λ ws. Bears d.net path s.h ws has.0) (sym name_part) has.1.bears) in
      let place = o.place in
      let ths_count : length (each_closed (names xs) γ no_types) ≡ length xs = length-map (names xs) (λ e. closed e γ no_types) ∙ length-map xs (λ x. var x) in
      let many = call.count in (
        has.0,
        record {
          thunk = closed (var o.x) γ no_types;
          there = facts.environments.parameter_variables (each_closed (names xs) γ no_types) γ z o.j (closed (var o.x) γ no_types) (operand_thunk xs γ o.j o.x o.at) (place ∙ many ∙ sym ths_count);
          carries = carries;
          bears = subst (λ ws. Bears d.net (at.place ∷ path) s.h ws has.0) (ap (λ n. part_wires 0 (part.0 ∷ []) (new_wires n (part.0 ∷ []))) (sym number) ∙ ap (λ ws. part_wires 0 (part.0 ∷ []) ws) (sym own_single) ∙ own_part) enters;
        },
      )

  -- a parameter of a value that is lifted
  lifted_value : (path : List ℕ) (m : ℕ) (it : Made) (params : List TypeTree) (e : TermTree) (scope : List Variable) (c : CallIn s path m it params e scope) (b : Block) (g : Group) (outer : List Variable) (γ : Thunks) (lifted_term : TermTree) (drives : List WireId) (inner : Module) (i : ℕ) (xs : List ℕ) → Stands s path b → Inside s.d path b g outer γ → body_at g i ≡ Some lifted_term
      → IsLifted m lifted_term (names xs) → (at : UsedAt s.d.net path (wires_of_all outer (names xs)) drives inner) → (z : ℕ) (v : Variable) → slice_get scope z ≡ Some v → Ranks s.order (at.place ∷ path) v.wires (suc r) → HasBits s.d.program s.d.net (at.place ∷ path) s.h (onto (samples (each_closed (names xs) γ no_types) s.h) γ) z v
  lifted_value path m it params e scope c b g outer γ lifted_term drives inner i xs block inside body lifted at z v there ranks =
      let d = s.d in
      let law = s.laws.measure in
      let f = function_of facts law d m it params e c.known c.is c.plain in
      let group = inside_formed facts law d inside (formed facts law d block) in
      let sorts = lifted_sort d b.sort g outer i m lifted_term (names xs) it group body lifted c.known in
      let circuits = subst (λ sort. GroupFormed d sort g outer) sorts.0 group in
      let t = declared_there g i lifted_term body in
      let call = lift_given facts s.laws.prims d g outer i m lifted_term xs it params t.0 f circuits body t.1 lifted c.known in
      let parameters = subst (λ sort. Parameters d.program.datas sort zero params [] scope) sorts.1 c.parameters in
      let counts = lift_counts facts s.laws d circuits xs params call.ts call.same call.given in
      let size = params_count parameters in
      let o = operand_of outer parameters xs call.count counts z v there (let l = found_within scope z v there in omega (arith, size, l)) in
      let part = value_parts o.parts in
      let w : ℕ = part.0 in
      let typed = lifted_at facts d outer params call.ts xs o.j o.x v.ty call.same call.given o.at o.type in
      let name = lifted_name facts s.laws d circuits o.x v.ty w typed part.1 in
      let wires_same : wires_at outer o.x ≡ name.it.wires = wires_found outer o.x name.it name.known in
      let apart : wires_of_all outer (names xs) ≡ o.front ++ (name.it.wires ++ o.back) = o.split ∙ ap (λ ws. o.front ++ (ws ++ o.back)) wires_same in
      let used = split_use at (o.front ++ (name.it.wires ++ o.back)) apart in
      let own_count : length v.wires ≡ wire_count (w ∷ []) = ap (λ (ws : List WireId). length ws) o.own ∙ count_from (0 + length o.front) (wire_count o.widths) ∙ ap (λ ws. wire_count ws) part.2 in
      let own_part : part_wires 0 (w ∷ []) v.wires ≡ v.wires = one_part w v.wires own_count in
      let name_part : part_wires 0 (w ∷ []) name.it.wires ≡ name.it.wires = one_part w name.it.wires name.count in
      let own_single : v.wires ≡ new_wires (0 + length o.front) (w ∷ []) = o.own ∙ ap (λ ws. new_wires (0 + length o.front) ws) part.2 in
      let lower = operand_ranks path inner o.front name.it.wires o.back drives v.wires (w ∷ []) 0 used own_single
      (ap (λ (ws : List WireId). length ws) name_part ∙ name.count ∙ sym own_count ∙ sym (ap (λ (ws : List WireId). length ws) own_part)) (subst (λ ws. Ranks s.order (at.place ∷ path) ws (suc r)) (sym own_part) ranks) in
      let leaf = known.leaves path b g outer γ o.x 0 name.it (w ∷ []) block inside sorts.0 name.known name.parts (omega arith) lower in
      let sampled = s.laws.samples (origins d) outer γ no_types d.net path s.h o.x typed.dom typed.payload v.ty d.sound circuits.scoped typed.typed typed.same leaf in
      let width : sampled.width ≡ w = facts.widths.width_once sampled.wide part.1 in
      let long : length sampled.bits ≡ w = facts.shows.shown_length (sampled.carries []) part.1 in
      let number : 0 + length o.front ≡ length o.front = none_before (length o.front) in
      let outside : Bears d.net path s.h (part_wires 0 (w ∷ []) name.it.wires) sampled.bits =
      subst (λ ws. Bears d.net path s.h (part_wires 0 (w ∷ []) ws) sampled.bits) wires_same (subst (λ w. Bears d.net path s.h (part_wires 0 (w ∷ []) (wires_at outer o.x)) sampled.bits) width sampled.bears) in
      let enters = part_enters d.net path s.h inner o.front name.it.wires o.back drives (w ∷ []) 0 sampled.bits used (ap (λ k. Some k) (sym long)) outside in
      let place = o.place in
      let ths : List Thunk = each_closed (names xs) γ no_types in
      let ths_count : length (samples ths s.h) ≡ length xs = length-map ths (λ th. sample th s.h) ∙ length-map (names xs) (λ e. closed e γ no_types) ∙ length-map xs (λ x. var x) in
      let many = call.count in (
        sampled.bits,
        record {
          thunk = sample (closed (var o.x) γ no_types) s.h;
          there = facts.environments.parameter_variables (samples ths s.h) γ z o.j (sample (closed (var o.x) γ no_types) s.h) (found_in_map (λ th. sample th s.h) ths o.j (closed (var o.x) γ no_types) (operand_thunk xs γ o.j o.x o.at)) (place ∙ many ∙ sym ths_count);
          carries = sampled.carries;
          bears = subst (λ ws. Bears d.net (at.place ∷ path) s.h ws sampled.bits) (ap (λ n. part_wires 0 (w ∷ []) (new_wires n (w ∷ []))) (sym number) ∙ ap (λ ws. part_wires 0 (w ∷ []) ws) (sym own_single) ∙ own_part) enters;
        },
      )

  -- a leaf of a parameter of a circuit that is called
  called_leaf : (path : List ℕ) (m : ℕ) (it : Made) (params : List TypeTree) (e : TermTree) (scope : List Variable) (c : CallIn s path m it params e scope) (b : Block) (g : Group) (outer : List Variable) (γ : Thunks) (drives : List WireId) (inner : Module) (i : ℕ) (xs : List ℕ) → Stands s path b → Inside s.d path b g outer γ → body_at g i ≡ Some (on_names (made m) [] xs)
      → (at : UsedAt s.d.net path (wires_of_all outer (names xs)) drives inner) → it.sort ≡ Circuit → (z k : ℕ) (v : Variable) (widths : List ℕ) → slice_get scope z ≡ Some v → HasParts s.d.program.datas Circuit v.ty widths → k < length widths → Ranks s.order (at.place ∷ path) (part_wires k widths v.wires) (suc r)
      → VariableLeaf s.d.program s.d.net (at.place ∷ path) scope (onto (each_closed (names xs) γ no_types) γ) s.h z k
  called_leaf path m it params e scope c b g outer γ drives inner i xs block inside body at circuit z k v widths there parts l ranks =
      let d = s.d in
      let law = s.laws.measure in
      let f = function_of facts law d m it params e c.known c.is c.plain in
      let group = inside_formed facts law d inside (formed facts law d block) in
      let sort = called_sort d b.sort g outer i m xs it group body c.known in
      let outer_circuit : b.sort ≡ Circuit = sym sort ∙ circuit in
      let circuits = subst (λ sort. GroupFormed d sort g outer) outer_circuit group in
      let t = declared_there g i (on_names (made m) [] xs) body in
      let call = call_given facts d b.sort g outer i m xs it params t.0 f group body t.1 c.known in
      let parameters = subst (λ sort. Parameters d.program.datas sort zero params [] scope) circuit c.parameters in
      let counts = call_counts facts s.laws d circuits xs params f.ps f.same call.given in
      let size = params_count parameters in
      let o = operand_of outer parameters xs call.count counts z v there (let l = found_within scope z v there in omega (arith, size, l)) in
      let name = typed_name facts d circuits o.x v.ty (given_at facts (setting d) (types_in outer) params f.ps xs o.j o.x v.ty f.same call.given o.at o.type) in
      let own_widths : o.widths ≡ widths = facts.built.parts_once o.parts parts in
      let of = call_parts facts s.laws d circuits o.x v.ty widths name parts in
      let wires_same : wires_at outer o.x ≡ name.it.wires = wires_found outer o.x name.it name.known in
      let apart : wires_of_all outer (names xs) ≡ o.front ++ (name.it.wires ++ o.back) = o.split ∙ ap (λ ws. o.front ++ (ws ++ o.back)) wires_same in
      let used = split_use at (o.front ++ (name.it.wires ++ o.back)) apart in
      let own : v.wires ≡ new_wires (0 + length o.front) widths = o.own ∙ ap (λ ws. new_wires (0 + length o.front) ws) own_widths in
      let own_count : length v.wires ≡ wire_count widths = ap (λ (ws : List WireId). length ws) own ∙ count_from (0 + length o.front) (wire_count widths) in
      let one = found_at widths k l in
      let lower = operand_ranks path inner o.front name.it.wires o.back drives v.wires widths k used own
      (part_length k widths name.it.wires one.0 one.1 of.1 ∙ sym (part_length k widths v.wires one.0 one.1 own_count)) ranks in
      let leaf = known.leaves path b g outer γ o.x k name.it widths block inside outer_circuit name.known of.0 l lower in
      let same_it : leaf.it ≡ name.it = same_some leaf.known name.known in
      let has : LeafHas d.program d.net path s.h name.it.ty leaf.thunk name.it.wires k = subst (λ (u : Variable). LeafHas d.program d.net path s.h u.ty leaf.thunk u.wires k) same_it leaf.has in
      let th : Thunk = closed (var o.x) γ no_types in
      let like : AreLike (setting_of d.program) name.it.ty v.ty = record { kind = name.typed.kind; has = name.typed.has; same = name.same } in
      let outside : LeafHas d.program d.net path s.h v.ty th name.it.wires k = s.laws.followers d.program d.net path s.h name.it.ty v.ty leaf.thunk th name.it.wires k (alone d) like (variable_has_all leaf.there) has in
      let same_widths : outside.widths ≡ widths = facts.built.parts_once outside.parts parts in
      let at_leaf = leaf_width facts outside.parts outside.is in
      let long : length outside.bits ≡ at_leaf.0 = facts.shows.shown_length outside.shows at_leaf.2 in
      let width_there : slice_get widths k ≡ Some (length outside.bits) = ap (λ (ws : List ℕ). slice_get ws k) (sym same_widths) ∙ at_leaf.1 ∙ ap (λ w. Some w) (sym long) in
      let number : 0 + length o.front ≡ length o.front = none_before (length o.front) in
      let enters = part_enters d.net path s.h inner o.front name.it.wires o.back drives widths k outside.bits used width_there (subst (λ ws. Bears d.net path s.h (part_wires k ws name.it.wires) outside.bits) same_widths outside.bears) in
      let place = o.place in
      let ths_count : length (each_closed (names xs) γ no_types) ≡ length xs = length-map (names xs) (λ e. closed e γ no_types) ∙ length-map xs (λ x. var x) in
      let many = call.count in
      record {
        it = v;
        known = there;
        thunk = th;
        there = facts.environments.parameter_variables (each_closed (names xs) γ no_types) γ z o.j th (operand_thunk xs γ o.j o.x o.at) (place ∙ many ∙ sym ths_count);
        has = record {
          widths = widths;
          parts = parts;
          leaf = outside.leaf;
          is = outside.is;
          bits = outside.bits;
          shows = outside.shows;
          bears = subst (λ ws. Bears d.net (at.place ∷ path) s.h (part_wires k widths ws) outside.bits) (ap (λ n. new_wires n widths) (sym number) ∙ sym own) enters;
        };
      }

  -- so the parameters of each instance of a value
  pub value_parameters : (path : List ℕ) (m : ℕ) (γ : Thunks) (it : Made) (params : List TypeTree) (e : TermTree) (scope : List Variable) → InstanceAt s.d s.inputs path s.h m γ → slice_get s.d.state m ≡ Some it → it.body ≡ under_lambdas params e → NoLambda e → Parameters s.d.program.datas it.sort zero params [] scope → it.sort ≡ Value
      → (z : ℕ) (v : Variable) → slice_get scope z ≡ Some v → Ranks s.order path v.wires (suc r) → HasBits s.d.program s.d.net path s.h γ z v
  value_parameters path m γ it params e scope the_top known_it is plain parameters value z v there ranks =
      subst (λ sort. HaveBits s.d sort [] s.h scope (onto s.inputs none)) value (s.given s.h it params e scope s.past s.fits known_it is plain parameters) z v there
  value_parameters _ m _ it params e scope (a_call {path = path} {b = b} {g = g} {scope = outer} {γ = γ} {drives = drives} {inner = inner} i xs block inside body module_there at) known_it is plain parameters value z v there ranks =
      called_value path m it params e scope (record { known = known_it; is = is; plain = plain; parameters = parameters }) b g outer γ drives inner i xs block inside body at value z v there ranks
  value_parameters _ m _ it params e scope (a_lift {path = path} {b = b} {g = g} {scope = outer} {γ = γ} {e = lifted_term} {drives = drives} {inner = inner} i xs block inside body lifted module_there at) known_it is plain parameters value z v there ranks =
      lifted_value path m it params e scope (record { known = known_it; is = is; plain = plain; parameters = parameters }) b g outer γ lifted_term drives inner i xs block inside body lifted at z v there ranks

  -- and of each instance of a circuit
  pub circuit_parameters : (path : List ℕ) (m : ℕ) (γ : Thunks) (it : Made) (params : List TypeTree) (e : TermTree) (scope : List Variable) → InstanceAt s.d s.inputs path s.h m γ → slice_get s.d.state m ≡ Some it → it.body ≡ under_lambdas params e → NoLambda e → Parameters s.d.program.datas it.sort zero params [] scope → it.sort ≡ Circuit
      → (z k : ℕ) (v : Variable) (widths : List ℕ) → slice_get scope z ≡ Some v → HasParts s.d.program.datas Circuit v.ty widths → k < length widths → Ranks s.order path (part_wires k widths v.wires) (suc r) → VariableLeaf s.d.program s.d.net path scope γ s.h z k
  circuit_parameters path m γ it params e scope the_top known_it is plain parameters circuit z k v widths there parts l ranks =
      subst (λ sort. HaveBits s.d sort [] s.h scope (onto s.inputs none)) circuit (s.given s.h it params e scope s.past s.fits known_it is plain parameters) z k v widths there parts l
  circuit_parameters _ m _ it params e scope (a_call {path = path} {b = b} {g = g} {scope = outer} {γ = γ} {drives = drives} {inner = inner} i xs block inside body module_there at) known_it is plain parameters circuit z k v widths there parts l ranks =
      called_leaf path m it params e scope (record { known = known_it; is = is; plain = plain; parameters = parameters }) b g outer γ drives inner i xs block inside body at circuit z k v widths there parts l ranks
  circuit_parameters _ m _ it params e scope (a_lift {path = path} {b = b} {g = g} {scope = outer} {e = lifted_term} i xs block inside body lifted module_there at) known_it is plain parameters circuit z k v widths there parts l ranks =
      let sorts = lifted_sort s.d b.sort g outer i m lifted_term (names xs) it (inside_formed facts s.laws.measure s.d inside (formed facts s.laws.measure s.d block)) body lifted known_it in
      let wrong : Value ≡ Circuit = sym sorts.1 ∙ circuit in
      absurd cc
