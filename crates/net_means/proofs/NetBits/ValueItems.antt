-- All variables inside the values' blocks of instances have bits at one rank more.
use Rattle.std.proofs.Common.{List, Some, arith, length, refl, reverse, subst, suc, zero, ℕ, ◌++◌, ◌≡◌}
use Rattle.std.specs.Prelude.{slice_get}
use Rattle.net_grounds.specs.Facts.{Facts}
use Rattle.net_means.specs.CircuitBits.Instances.{Block, BlockAt, Inside, InstanceAt, an_alternative, the_body, unseen_alternative}
use Rattle.chw_terms.specs.declared.scene.Sort.TheVariants.{Circuit, Value}
use Rattle.net_means.specs.SideBits.Cases.{FieldsGiven}
use Rattle.chw_terms.specs.TermTree.{Group, var}
use Rattle.net_means.proofs.NetBits.Forms.{GroupFormed, inside_formed}
use Rattle.net_means.specs.SideBits.Sides.{HasBits}
use Rattle.chw_layout.specs.Measured.{HasWidth}
use Rattle.chw_meaning.specs.Values.{History, Thunks, closed, fields_from, none}
use Rattle.net_means.proofs.NetBits.Context.{Known, Situation, Stands}
use Rattle.net_means.proofs.NetBits.Insides.{Place, outer_place, own_place, place_of}
use Rattle.net_means.proofs.NetBits.Below.{Ranks}
use Rattle.chw_terms.specs.declared.scene.Sort.{Sort}
use Rattle.net_built.specs.Terms.{Variable}
use Rattle.net_means.proofs.NetBits.Standing.{block_plain, formed, port_unwide}
use Rattle.net_means.proofs.NetBits.Blocks.{field_bits, inside_bits, past_fields}
use Rattle.net_means.proofs.NetBits.There.{fields_count, variables_count}
use Rattle.chw_types.specs.TypeTree.{no_types}
use Rattle.net_means.proofs.NetBits.CaseFirst.{unseen_outside}
use Rattle.net_means.proofs.NetBits.ParamItems.{value_parameters}
use Rattle.net_built.specs.Data.{variables_from}

module _ (facts : Facts) (s : Situation) (r : ℕ) (known : Known s r) where
  sort_value : (sort : Sort) {g : Group} {scope : List Variable} (x : ℕ) {whole : ℕ} {it : Variable} → GroupFormed s.d sort g scope → slice_get scope x ≡ Some it → HasWidth s.d.program.datas it.ty whole → sort ≡ Value
  sort_value Value x group place wide = refl
  sort_value Circuit x {it = it} group place wide = let held = group.held x it place in absurd (port_unwide held.1 wide)

  -- the variables around a block, at whatever history that is this one
  block_outer : {path : List ℕ} {h : History} {b : Block} → BlockAt s.d s.inputs path h b → h ≡ s.h → b.sort ≡ Value → (z : ℕ) (v : Variable) → slice_get b.scope z ≡ Some v → Ranks s.order path v.wires (suc r) → HasBits s.d.program s.d.net path s.h b.outside z v
  block_outer {path} (the_body {m = m} {γ = γ} {it = it} {params = params} {e = e} {scope = scope} at known_it is parameters block) now value z v there ranks =
      value_parameters facts s r known path m γ it params e scope (subst (λ h. InstanceAt s.d s.inputs path h m γ) now at) known_it is (block_plain facts s.laws.measure s.d block.built) parameters value z v there ranks
  block_outer {path} (an_alternative {b = b} {g = g} {scope = scope} {γ = γ} {ths = ths} {x = x} {n = n} {m = m} {a = a} {fields = fields} {widths = widths} i at inside body f known_it first block) now value z v there ranks =
      let here : Stands s path b = subst (λ h. BlockAt s.d s.inputs path h b) now at in
      let given : FieldsGiven s.d.program γ s.d.net path s.h x n m a.pattern fields widths ths = subst (λ h. FieldsGiven s.d.program γ s.d.net path h x n m a.pattern fields widths ths) now f in
      let sort = sort_value b.sort x (inside_formed facts s.laws.measure s.d inside (formed facts s.laws.measure s.d here)) known_it f.wide in
      s.laws.fields s.d.program γ s.d.net path s.h x n m a.pattern fields widths ths scope z v given there
      (λ y e at_y. inside_bits facts s r known path b g scope γ here inside sort (λ z v there ranks. block_outer at now sort z v there ranks) y v at_y ranks)
  block_outer {path} (unseen_alternative {b = b} {g = g} {scope = scope} {γ = γ} {x = x} {whole = whole} {q = q} {e = e} {more = more} {it = it} {fields = fields} {results = results} i n m widths at inside body unseen known_it wide pattern have cells block) now value z v there ranks =
      by (place_of (variables_from m fields widths) scope z v there) (λ own z v there ranks. block_outer at now own z v there ranks)
    where
      here : Stands s path b
      here = subst (λ h. BlockAt s.d s.inputs path h b) now at

      group : GroupFormed s.d b.sort g scope
      group = inside_formed facts s.laws.measure s.d inside (formed facts s.laws.measure s.d here)

      sort : b.sort ≡ Value
      sort = sort_value b.sort x group known_it wide

      stands : Stands s path (record { sort = Value; scope = reverse (variables_from m fields widths) ++ scope; outside = unseen_outside x fields γ; term = e; results = results })
      stands = unseen_alternative i n m widths here inside body unseen known_it wide pattern have cells block

      by : Place (variables_from m fields widths) scope z v → (b.sort ≡ Value → (z : ℕ) (v : Variable) → slice_get b.scope z ≡ Some v → Ranks s.order path v.wires (suc r) → HasBits s.d.program s.d.net path s.h b.outside z v) → HasBits s.d.program s.d.net path s.h (unseen_outside x fields γ) z v
      by (own_place k place is) around =
          field_bits facts s r known path b g scope γ x n m whole q e more it fields widths results z k v here inside sort (subst (λ sort. GroupFormed s.d sort g scope) sort group) known_it unseen wide pattern have cells stands there place is ranks
      by (outer_place y place is) around =
          let count = variables_count s.d.program.datas fields widths m have in
          let th : Thunks = fields_from zero (length fields) (closed (var x) γ no_types) none in
          let fc = fields_count (length fields) zero (closed (var x) γ no_types) in
          past_fields facts s r known path th γ z y v (omega (arith, place, count, fc))
          (inside_bits facts s r known path b g scope γ here inside sort (around sort) y v is ranks)

  pub values_next : (path : List ℕ) (b : Block) (g : Group) (scope : List Variable) (γ : Thunks) (x : ℕ) (it : Variable) → Stands s path b → Inside s.d path b g scope γ → b.sort ≡ Value → slice_get scope x ≡ Some it
      → Ranks s.order path it.wires (suc r) → HasBits s.d.program s.d.net path s.h γ x it
  values_next path b g scope γ x it at inside value place ranks = inside_bits facts s r known path b g scope γ at inside value (block_outer at refl value) x it place ranks
