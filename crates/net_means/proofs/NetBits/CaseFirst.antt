-- A case that doesn't look at its variable has what its first alternative has.
use Rattle.std.proofs.lemmas.Bool.{eqb-true}
use Rattle.std.specs.Prelude.{option_map, unwrap_or, ◌==◌}
use Rattle.std.proofs.Common.{Bool, List, Some, [], ap, arith, false, inl, length, refl, replicate, subst, suc, sym, true, zero, ℕ, ◌∙◌, ◌∷◌, ◌≡◌}
use Rattle.std.proofs.lemmas.List.{length-map, length-replicate}
use Rattle.std.specs.Prelude.{slice_get}
use Rattle.chw_meaning.specs.Values.{History, Thunk, Thunks, closed, field, fields_from, joined, none, thunk_and}
use Rattle.cell_bits.specs.ChoiceLaws.{CasesBear as CellCasesBear}
use Rattle.chw_types.specs.SamePromises.{SameValues, natural_value}
use Rattle.net_grounds.specs.Facts.{Facts}
use Rattle.net_means.proofs.SideBits.Choices.{words_wide}
use Rattle.chw_typing.specs.HeadTypes.{PatternOf, of_con, of_lit, of_any}
use Rattle.chw_terms.specs.TermTree.{Alts, TermTree, alt, case_of, no_alts, var}
use Rattle.carrying.specs.DataLaws.{AreFor}
use Rattle.cell_bits.specs.ChoiceLaws.{AreWide}
use Rattle.cell_bits.specs.DataLaws.{BearAll}
use Rattle.cell_bits.specs.Bearing.{Bears, HasCells, bears_nothing}
use Rattle.chw_base.specs.declared.index.ConId.{ConId}
use Rattle.chw_types.specs.declared.declarations.Data.{Data}
use Rattle.chw_terms.specs.declared.term.Pattern.TheVariants.{Default, OfCon, OfLit}
use Rattle.chw_layout.specs.Measured.{HasWidth, tag_width}
use Rattle.netlist.specs.declared.net.Net.{Net}
use Rattle.chw_typing.specs.Alternatives.{NoneHidden}
use Rattle.chw_terms.specs.declared.term.Pattern.{Pattern}
use Rattle.net_built.specs.Wires.{Piece, new_wires, wire_count}
use Rattle.chw_terms.specs.declared.program.Program.{Program}
use Rattle.chw_types.specs.declared.kind.Scalar.{Scalar}
use Rattle.carrying.specs.Carrying.{Shows}
use Rattle.net_built.specs.Data.{Tested, case_cells, case_wires, constructor_count, tested_of, word_of, words_of}
use Rattle.chw_types.specs.TypeTree.{TypeTree, no_types}
use Rattle.chw_base.specs.declared.index.WireId.{WireId}
use Rattle.chw_types.specs.Arguments.{arguments}
use Rattle.chw_meaning.specs.Eval.{by_fields, choice, is_only, looks, takes}
use Rattle.chw_terms.specs.Constructors.{con_at}
use Rattle.chw_types.specs.TypeMoves.{sub}

-- as fields of a thunk before others
joined_fields : (i k : ℕ) (th : Thunk) (γ : Thunks) → joined (fields_from i k th none) γ ≡ fields_from i k th γ
joined_fields i zero th γ = refl
joined_fields i (suc k) th γ = ap (thunk_and (field i th)) (joined_fields (suc i) k th γ)

-- the environment of an alternative that is taken without a look
abbrev pub unseen_outside : ℕ → List TypeTree → Thunks → Thunks
unseen_outside x fields γ = joined (fields_from zero (length fields) (closed (var x) γ no_types) none) γ

fields_named : {datas : List Data} {u : TypeTree} {c : ConId} {n : ℕ} {fields : List TypeTree} → PatternOf datas u (OfCon c n) fields → length fields ≡ n
fields_named (of_con {ts = ts} it known of size) = length-map it.decl.fields (λ f. sub f (arguments ts)) ∙ size

nothing_of_default : {datas : List Data} {u : TypeTree} {fields : List TypeTree} → PatternOf datas u Default fields → fields ≡ []
nothing_of_default of_any = refl

nothing_of_literal : {datas : List Data} {u : TypeTree} {s : Scalar} {a : List Bool} {fields : List TypeTree} → PatternOf datas u (OfLit s a) fields → fields ≡ []
nothing_of_literal (of_lit l e) = refl

module _ (facts : Facts) (p : Program) (t : TypeTree) (x : ℕ) (γ : Thunks) (k : History) (b : List Bool) where
  bare : (f : TermTree) (fields : List TypeTree) → fields ≡ [] → Shows p t (closed f (unseen_outside x fields γ) no_types) k b → Shows p t (closed f γ no_types) k b
  bare f fields nope shown = subst (λ fs. Shows p t (closed f (unseen_outside x fs γ) no_types) k b) nope shown

  pub unseen_shows : (u : TypeTree) (q : Pattern) (e f : TermTree) (more others : Alts) (fields : List TypeTree) → ¬ (choice p.datas (alt q e more) ≡ looks) → (more ≡ no_alts → others ≡ no_alts) → PatternOf p.datas u q fields
      → Shows p t (closed f (unseen_outside x fields γ) no_types) k b → Shows p t (closed (case_of (var x) (alt q f others)) γ no_types) k b
  unseen_shows u Default e f no_alts others fields unseen same pattern shown =
      subst (λ alts. Shows p t (closed (case_of (var x) (alt Default f alts)) γ no_types) k b) (sym (same refl))
      (facts.cases.goes_on_shows p t (var x) f (alt Default f no_alts) γ no_types k b refl (bare f fields (nothing_of_default pattern) shown))
  unseen_shows u Default e f (alt r g more) others fields unseen same pattern shown = absurd (unseen refl)
  unseen_shows u (OfLit s []) e f more others fields unseen same pattern shown = facts.cases.goes_on_shows p t (var x) f (alt (OfLit s []) f others) γ no_types k b refl (bare f fields (nothing_of_literal pattern) shown)
  unseen_shows u (OfLit s (bit ∷ bits)) e f more others fields unseen same pattern shown = absurd (unseen refl)
  unseen_shows u (OfCon c n) e f more others fields unseen same pattern shown = by (is_only (con_at p.datas c.number)) refl
    where
      by : (o : Bool) → is_only (con_at p.datas c.number) ≡ o → Shows p t (closed (case_of (var x) (alt (OfCon c n) f others)) γ no_types) k b
      by false nope = absurd (unseen (ap (λ o. by_fields o n e) nope))
      by true only =
          let is : choice p.datas (alt (OfCon c n) f others) ≡ takes n f = ap (λ o. by_fields o n f) only in
          let th : Thunk = closed (var x) γ no_types in
          let env : unseen_outside x fields γ ≡ fields_from zero n th γ = joined_fields zero (length fields) th γ ∙ ap (λ k. fields_from zero k th γ) (fields_named pattern) in
          facts.cases.takes_shows p t (var x) f n (alt (OfCon c n) f others) γ no_types k b is (subst (λ η. Shows p t (closed f η no_types) k b) env shown)

-- nothing is tested where there are further alternatives
module _ (facts : Facts) (values : SameValues) (datas : List Data) (whole n : ℕ) (wires : List WireId) where
  nothing_tested : (u : TypeTree) (q r : Pattern) (e f : TermTree) (more : Alts) {fields : List TypeTree} → ¬ (choice datas (alt q e (alt r f more)) ≡ looks) → PatternOf datas u q fields → HasWidth datas u whole → length wires ≡ wire_count (whole ∷ [])
      → ((tested_of datas u whole n wires).bits ≡ 0) × ((tested_of datas u whole n wires).wires ≡ [])
  unfolding natural_value
  nothing_tested u Default r e f more unseen pattern wide many = absurd (unseen refl)
  nothing_tested u (OfLit s (bit ∷ bits)) r e f more unseen pattern wide many = absurd (unseen refl)
  nothing_tested u (OfLit s []) r e f more unseen (of_lit {w = w} l same) wide many =
      let zero_whole : whole ≡ 0 = facts.widths.scalar_width wide ∙ facts.same_layout.same_number values same in
      (zero_whole, no_list wires (many ∙ ap (λ w. wire_count (w ∷ [])) zero_whole))
    where
      no_list : (ws : List WireId) → length ws ≡ 0 → ws ≡ []
      no_list [] e = refl
      no_list (a ∷ ws) e = absurd (omega (arith, e))
  nothing_tested u (OfCon c k) r e f more unseen (of_con {d = d} it known of count) wide many = by (is_only (con_at datas c.number)) refl
    where
      by : (o : Bool) → is_only (con_at datas c.number) ≡ o → (tag_width (constructor_count datas d) ≡ 0) × (new_wires n (tag_width (constructor_count datas d) ∷ []) ≡ [])
      by false nope = absurd (unseen (ap (λ o. by_fields o k e) nope))
      by true only =
          let place = facts.constructors.is_constructor datas c.number it known in
          let here : slice_get datas d ≡ Some it.it = subst (λ d. slice_get datas d ≡ Some it.it) of place.data_type in
          let one : (length it.it.cons == 1) ≡ true = sym (ap is_only known) ∙ only in
          let size : constructor_count datas d ≡ 1 = ap (λ o. unwrap_or (option_map (λ (it : Data). length it.cons) o) 0) here ∙ eqb-true (length it.it.cons) 1 one in
          let tag : tag_width (constructor_count datas d) ≡ 0 = ap tag_width size in
          (tag, ap (λ w. new_wires n (w ∷ [])) tag)

-- words without bits
empty_words : (w : List Bool) → length w ≡ 0 → w ≡ []
empty_words [] e = refl
empty_words (b ∷ w) e = absurd (omega (arith, e))

-- so the cells choose the first result
pub unseen_bears : Facts → SameValues → CellCasesBear → (net : Net) (path : List ℕ) (h : History) (datas : List Data) (u : TypeTree) (whole : ℕ) (wires : List WireId) (on : Tested) (q r : Pattern) (e f : TermTree) (more : Alts) {fields : List TypeTree} (w n : ℕ) (p : Piece) (results : List (List WireId)) (all : List (List Bool)) (bits : List Bool)
    → ¬ (choice datas (alt q e (alt r f more)) ≡ looks) → PatternOf datas u q fields → HasWidth datas u whole → AreFor datas u (alt q e (alt r f more)) → NoneHidden (alt q e (alt r f more)) → on ≡ tested_of datas u whole n wires → length wires ≡ wire_count (whole ∷ [])
    → BearAll net path h results all → AreWide w all → slice_get all 0 ≡ Some bits → HasCells net path (case_cells on (alt q e (alt r f more)) w n p results).cells
    → Bears net path h (case_wires on (alt q e (alt r f more)) w n p results) bits
unseen_bears facts values cases net path h datas u whole wires on q r e f more w n p results all bits unseen pattern wide are hidden is many bear sizes first has =
    let alts : Alts = alt q e (alt r f more) in
    let none_tested = nothing_tested facts values datas whole n wires u q r e f more unseen pattern wide many in
    let no_bits : on.bits ≡ 0 = ap (λ (on : Tested). on.bits) is ∙ none_tested.0 in
    let bare_wires : on.wires ≡ [] = ap (λ (on : Tested). on.wires) is ∙ none_tested.1 in
    let long : length (replicate whole false) ≡ whole = length-replicate whole false in
    let wide_words : AreWide on.bits (words_of on.bits on.first alts) = subst (λ (on : Tested). AreWide on.bits (words_of on.bits on.first alts)) (sym is) (words_wide facts values datas whole n wires (replicate whole false) alts are hidden wide long) in
    let word : word_of on.bits on.first q ≡ [] = empty_words (word_of on.bits on.first q) (wide_words.0 ∙ no_bits) in
    cases net path h on alts w n 0 p results all [] bits (subst (λ ws. Bears net path h ws []) (sym bare_wires) bears_nothing) (sym no_bits) wide_words bear sizes first
    (record { none_before = λ i l f. absurd (omega (arith, l)); own_or_last = inl (ap (λ w. Some w) word) }) has
