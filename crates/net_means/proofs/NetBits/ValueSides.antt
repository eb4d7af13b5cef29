-- Right sides of values that are neither calls nor cases have bits.
use Rattle.std.proofs.Common.{List, Some, [], ap, refl, subst, suc, sym, ℕ, ◌∙◌, ◌∷◌, ◌≡◌}
use Rattle.std.specs.Prelude.{slice_get}
use Rattle.chw_terms.specs.TermTree.{Alts, Group, TermTree, case_of, made, var}
use Rattle.net_means.specs.CircuitBits.Instances.{Block, Inside}
use Rattle.net_built.specs.Circuits.{Ground}
use Rattle.net_means.proofs.NetBits.Forms.{GroupFormed, origins, side_formed, value_parts}
use Rattle.cell_bits.specs.Bearing.{HasCells}
use Rattle.chw_layout.specs.Measured.{HasWidth}
use Rattle.normal_forms.specs.Values.{IsSide, side_call, side_case, side_constructor, side_literal, side_primitive, side_variable, side_vector}
use Rattle.net_means.proofs.NetBits.Context.{Known, Situation, Stands}
use Rattle.rewriting.specs.Origins.{Origins, with_origins}
use Rattle.net_built.specs.Wires.{Piece, last_wires, wire_count}
use Rattle.net_means.proofs.NetBits.Below.{Ranks, settled_ranks}
use Rattle.net_means.specs.SideBits.Sides.{SideHas, types_in}
use Rattle.net_means.specs.WireOrder.Sides.{SideLaid}
use Rattle.chw_meaning.specs.Values.{Thunks, body_at}
use Rattle.chw_types.specs.TypeTree.{TypeTree, no_types}
use Rattle.chw_terms.specs.declared.scene.Sort.TheVariants.{Value}
use Rattle.net_built.specs.Bodies.{ValueCells}
use Rattle.net_built.specs.Terms.{Variable, head_of, operands_of, types_of}
use Rattle.chw_base.specs.declared.index.WireId.{WireId}
use Rattle.chw_typing.specs.Scopes.{declared}
use Rattle.net_built.specs.Built.{ground_of}
use Rattle.net_means.proofs.SideBits.NoMade.{holds_no_made}

resided : {o : Origins} {names vars : List TypeTree} {e : TermTree} → IsSide o names e → ((x : TermTree) (alts : Alts) → ¬ (e ≡ case_of x alts)) → IsSide o vars e
resided side_variable nope = side_variable
resided side_literal nope = side_literal
resided (side_constructor c types xs known n) nope = side_constructor c types xs known n
resided (side_vector t xs) nope = side_vector t xs
resided (side_primitive p types xs kind n) nope = side_primitive p types xs kind n
resided (side_call m xs known sort n) nope = side_call m xs known sort n
resided (side_case {x = x} {alts = alts} at others) nope = absurd (nope (var x) alts refl)

pub no_case : {ground : Ground} {scope : List Variable} {n w : ℕ} (e : TermTree) {p : Piece} → ValueCells ground scope n w (head_of e) (types_of e) (operands_of e) p → (x : TermTree) (alts : Alts) → ¬ (e ≡ case_of x alts)
no_case {ground} {scope} {n} {w} e {p} cells x alts is = wrong (subst (λ e. ValueCells ground scope n w (head_of e) (types_of e) (operands_of e) p) is cells)
  where
    wrong : ValueCells ground scope n w (case_of x alts) [] [] p → ⊥
    wrong cells = elim cells [ ]

module _ (s : Situation) (r : ℕ) (known : Known s r) where
  pub plain_bears : {path : List ℕ} {b : Block} {g : Group} {scope : List Variable} {γ : Thunks} (i n w : ℕ) (t : TypeTree) (e : TermTree) (p : Piece) (first : WireId) → Stands s path b → Inside s.d path b g scope γ → b.sort ≡ Value → GroupFormed s.d Value g scope → body_at g i ≡ Some e → slice_get (declared g) i ≡ Some t
      → HasWidth s.d.program.datas t w → ValueCells (ground_of s.d.program s.d.built.order) scope n w (head_of e) (types_of e) (operands_of e) p → HasCells s.d.net path p.cells → ((m : ℕ) → ¬ (head_of e ≡ made m)) → slice_get (last_wires n p (w ∷ [])) 0 ≡ Some first → Ranks s.order path (last_wires n p (w ∷ [])) (suc r)
      → SideHas s.d.program γ no_types s.d.net path s.h t (with_origins s.d.wholes e) (last_wires n p (w ∷ []))
  plain_bears {path} {b} {g} {scope} {γ} i n w t e p first at inside value group body declares wide built cells not_call is_first ranks =
      let side = side_formed s.d group i t e declares body in
      let form : IsSide (origins s.d) (types_in scope) e = resided side.form.side (no_case e built) in
      let laid : SideLaid (origins s.d) s.d.built.order scope s.d.net path n w t e p = record {
        sound = s.d.sound;
        scoped = group.scoped;
        typed = side.typed;
        wide = wide;
        built = built;
        cells = cells;
        held = λ x it looks place.
            let held = group.held x it place in
            let part = value_parts held.1 in
            record { width = part.0; has = part.1; many = held.2 ∙ ap (λ ws. wire_count ws) part.2 };
      } in
      let has = s.laws.sides e (origins s.d) s.d.built.order scope γ no_types s.d.net path s.h n w t p form not_call
      (record {
        sound = s.d.sound;
        scoped = group.scoped;
        typed = side.typed;
        wide = wide;
        built = built;
        cells = cells;
        variables = λ x it looks place.
            known.values path b g scope γ x it at inside value place
            (settled_ranks s.order path path (last_wires n p (w ∷ [])) it.wires first r (s.laws.side_order e (origins s.d) s.d.built.order scope s.d.net path n w t p x it form not_call laid looks place) is_first ranks);
      }) in
      subst (λ e. SideHas s.d.program γ no_types s.d.net path s.h t e (last_wires n p (w ∷ []))) (sym (holds_no_made side.form.side not_call (no_case e built) s.d.wholes)) has
