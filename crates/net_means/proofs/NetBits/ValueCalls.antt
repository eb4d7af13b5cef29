-- Calls in values' blocks have the bits that the block of the body has inside.
use Rattle.std.proofs.Common.{List, Some, [], ap, length, subst, suc, sym, ℕ, ◌<◌, ◌∙◌, ◌∷◌, ◌≡◌}
use Rattle.std.specs.Prelude.{slice_get}
use Rattle.net_built.specs.Circuits.{used as used_piece}
use Rattle.net_grounds.specs.Facts.{Facts}
use Rattle.net_means.specs.WireOrder.Awaits.{AllSettle}
use Rattle.chw_typing.specs.Alike.{AreLike}
use Rattle.cell_bits.specs.Bearing.{Bears, HasCells}
use Rattle.net_means.specs.CircuitBits.Instances.{Block, Inside, InstanceAt, a_call}
use Rattle.chw_terms.specs.TermTree.{Group, made}
use Rattle.net_means.proofs.NetBits.Forms.{GroupFormed, inside_formed, setting, side_formed}
use Rattle.chw_layout.specs.Measured.{HasWidth, fits}
use Rattle.chw_meaning.specs.Values.{History, Thunks, body_at, closed}
use Rattle.net_means.proofs.NetBits.Context.{Known, Situation, Stands, alone, first_wire, value_wires, variable_typed}
use Rattle.chw_terms.specs.declared.program.Program.{Program}
use Rattle.net_means.proofs.NetBits.Below.{Ranks, one_part, settled_ranks}
use Rattle.chw_types.specs.SameTypes.{SameTypes}
use Rattle.carrying.specs.Carrying.{Shows}
use Rattle.net_means.specs.SideBits.Sides.{SideHas}
use Rattle.chw_types.specs.TypeTree.{TypeTree, no_types}
use Rattle.chw_terms.specs.declared.scene.Sort.TheVariants.{Value}
use Rattle.net_built.specs.Terms.{Variable, wires_of_all}
use Rattle.chw_base.specs.declared.index.WireId.{WireId}
use Rattle.net_means.proofs.NetBits.Standing.{block_plain, formed}
use Rattle.net_means.proofs.NetBits.Params.{body_result, call_given, function_of}
use Rattle.net_means.proofs.CircuitBits.Instances.{body_stands}
use Rattle.net_means.proofs.CircuitBits.Follow.{call_follows, whole_call}
use Rattle.net_means.proofs.NetBits.Sorts.{called_sort}
use Rattle.net_means.proofs.NetFits.Pieces.{count_from}
use Rattle.chw_typing.specs.Scopes.{declared}
use Rattle.carrying.specs.TermLaws.{each_closed, onto, under_lambdas}
use Rattle.net_built.specs.Built.{ground_of}
use Rattle.net_means.proofs.NetBits.Results.{has_block, opened, value_result}
use Rattle.net_means.proofs.SideBits.Heads.{names}
use Rattle.net_built.specs.Wires.{new_wires, wire, wire_count}
use Rattle.normal_forms.specs.Values.{on_names}
use Rattle.net_means.proofs.CircuitBits.Uses.{part_leaves}
use Rattle.net_means.specs.CircuitBits.Leaves.{part_wires}
use Rattle.chw_typing.specs.Programs.{setting_of}
use Rattle.net_means.proofs.NetBits.Used.{use_of, whole_of}
use Rattle.rewriting.specs.Origins.{with_origins}

module _ (facts : Facts) (s : Situation) (r : ℕ) (known : Known s r) where
  pub call_bears : {path : List ℕ} {b : Block} {g : Group} {scope : List Variable} {γ : Thunks} (i m n w : ℕ) (xs : List ℕ) (t : TypeTree) → Stands s path b → Inside s.d path b g scope γ → b.sort ≡ Value → GroupFormed s.d b.sort g scope → body_at g i ≡ Some (on_names (made m) [] xs) → slice_get (declared g) i ≡ Some t
      → HasWidth s.d.program.datas t w → 0 < wire_count (w ∷ []) → HasCells s.d.net path (used_piece (ground_of s.d.program s.d.built.order) m n (wires_of_all scope (names xs)) (w ∷ [])).cells → Ranks s.order path (new_wires n (w ∷ [])) (suc r)
      → SideHas s.d.program γ no_types s.d.net path s.h t (with_origins s.d.wholes (on_names (made m) [] xs)) (new_wires n (w ∷ []))
  call_bears {path} {b} {g} {scope} {γ} i m n w xs t at inside value group body declares wide some has ranks =
      let law = s.laws.measure in
      let p : Program = s.d.program in
      let u = use_of s.d path m n (wires_of_all scope (names xs)) (w ∷ []) s.good some has in
      let inner : List ℕ = u.at.place ∷ path in
      let η : Thunks = onto (each_closed (names xs) γ no_types) γ in
      let instance : InstanceAt s.d s.inputs inner s.h m η = a_call i xs at inside body u.there u.at in
      let stands = body_stands s.d s.inputs inner s.h m η u.it u.inner instance u.known u.at.is u.of in
      let sort : u.it.sort ≡ Value = called_sort s.d b.sort g scope i m xs u.it group body u.known ∙ value in
      let formed_inner = formed facts law s.d stands.stands in
      let o = opened facts s.d stands.stands formed_inner in
      let plain = block_plain facts law s.d (has_block stands.stands).built in
      let f = function_of facts law s.d m u.it stands.params stands.term u.known stands.body plain in
      let c = call_given facts s.d b.sort g scope i m xs u.it stands.params t f group body declares u.known in
      let side = side_formed s.d group i t (on_names (made m) [] xs) declares body in
      let result : SameTypes f.result formed_inner.type = body_result facts law s.d m u.it stands.params stands.term stands.scope formed_inner.type f u.known stands.body stands.parameters formed_inner.typed in
      let same : SameTypes o.it.ty t = facts.same.same_through (facts.same.same_turned (subst (SameTypes f.result) o.type result)) c.result in
      let group_inner = subst (λ sort. GroupFormed s.d sort o.g o.scope) sort (inside_formed facts law s.d o.inside formed_inner) in
      let typed = variable_typed facts s.d group_inner o.x o.it o.known in
      let like : AreLike (setting_of p) o.it.ty t = record { kind = typed.kind; has = typed.has; same = same } in
      let wide_inner : HasWidth p.datas o.it.ty w = law (fits w) (setting s.d) t o.it.ty s.d.sound (record { kind = side.kind; has = side.kinded; same = facts.same.same_turned same }) wide in
      let many : length o.it.wires ≡ wire_count (w ∷ []) = value_wires facts s.d group_inner o.x o.it w o.known wide_inner in
      let outputs : length u.inner.outputs ≡ wire_count (w ∷ []) = ap (λ (ws : List WireId). length ws) o.results ∙ many in
      let driven : part_wires 0 (w ∷ []) (new_wires n (w ∷ [])) ≡ new_wires n (w ∷ []) = one_part w (new_wires n (w ∷ [])) (count_from n (wire_count (w ∷ []))) in
      let given : part_wires 0 (w ∷ []) u.inner.outputs ≡ u.inner.outputs = one_part w u.inner.outputs outputs in
      let settle = s.laws.uses_order s.d.net path u.inner n 0 (w ∷ []) (wires_of_all scope (names xs)) u.at in
      let all : AllSettle s.d.net path (new_wires n (w ∷ [])) inner o.it.wires =
      subst (λ ws. AllSettle s.d.net path ws inner o.it.wires) driven (subst (λ ws. AllSettle s.d.net path (part_wires 0 (w ∷ []) (new_wires n (w ∷ []))) inner ws) (given ∙ o.results) settle) in
      let lower = settled_ranks s.order path inner (new_wires n (w ∷ [])) o.it.wires (wire n) r all (first_wire n (w ∷ []) some) ranks in
      let found_inner = known.values inner _ o.g o.scope o.γ o.x o.it stands.stands o.inside sort o.known lower in
      let has_inner = value_result facts s.d o found_inner in
      let whole : with_origins s.d.wholes (on_names (made m) [] xs) ≡ on_names (under_lambdas stands.params (with_origins s.d.wholes stands.term)) [] xs =
      whole_call s.d.wholes m xs ∙ ap (λ e. on_names e [] xs) (whole_of s.d m u.it stands.params stands.term u.known stands.body) in
      let carries : (k : History) → Shows p t (closed (on_names (under_lambdas stands.params (with_origins s.d.wholes stands.term)) [] xs) γ no_types) k has_inner.bits =
      λ k. facts.shows.shown_same p (alone s.d) s.laws.values s.laws.keep (facts.shows.shows_through (call_follows facts p k stands.params (with_origins s.d.wholes stands.term) xs γ no_types c.count) (has_inner.carries k)) like in
      let size : length has_inner.bits ≡ w = facts.shows.shown_length (carries []) wide in
      let bears = part_leaves s.d.net path s.h u.inner n (w ∷ []) (wires_of_all scope (names xs)) 0 has_inner.bits u.at (ap (λ k. Some k) (sym size)) (subst (λ ws. Bears s.d.net inner s.h ws has_inner.bits) (sym given) has_inner.bears) in
      record {
        bits = has_inner.bits;
        carries = λ k. subst (λ e. Shows p t (closed e γ no_types) k has_inner.bits) (sym whole) (carries k);
        bears = subst (λ ws. Bears s.d.net path s.h ws has_inner.bits) driven bears;
      }
