-- A case that doesn't look has the bits of its first alternative.
use Rattle.std.proofs.lemmas.Bool.{eqb-true}
use Rattle.std.specs.Prelude.{◌==◌}
use Rattle.std.proofs.Common.{Bool, List, Some, [], ap, arith, false, length, refl, reverse, subst, suc, sym, take, true, zero, ℕ, ◌++◌, ◌-◌, ◌<◌, ◌∙◌, ◌∷◌, ◌≡◌}
use Rattle.std.specs.Prelude.{slice_get}
use Rattle.chw_meaning.specs.Eval.{looks, choice, is_only, by_fields}
use Rattle.chw_typing.specs.HeadTypes.{PatternOf, of_con, of_lit, of_any, fields_at}
use Rattle.net_grounds.specs.Facts.{Facts}
use Rattle.net_means.proofs.NetBits.Alternatives.{AltAt, alt_whole, alt_zero, alts_for, none_hidden, results_count}
use Rattle.chw_terms.specs.TermTree.{Alts, Group, TermTree, alt, case_of, no_alts, var}
use Rattle.carrying.specs.DataLaws.{AreFor, CarryParts, FieldsCarry, Parts, behind, behind_con, carry_no_part, no_parts, tag_in}
use Rattle.cell_bits.specs.Bearing.{Bears, HasCells}
use Rattle.net_means.specs.CircuitBits.Instances.{Block, unseen_alternative}
use Rattle.carrying.specs.Carrying.{Carries, Shows, tag_of}
use Rattle.net_means.proofs.NetBits.CaseLooks.{CaseIn, all_at, alternative_like, bears_once, case_side_of, looked_wires, parts_of, piece_cells, piece_widths, result_wide, result_wires}
use Rattle.chw_terms.specs.declared.term.Pattern.TheVariants.{Default, OfCon, OfLit}
use Rattle.net_means.proofs.NetBits.Forms.{Formed}
use Rattle.net_means.specs.SideBits.Sides.{HasBits, SideHas}
use Rattle.chw_layout.specs.Measured.{HasWidth, tag_width}
use Rattle.net_built.specs.Data.{HaveWidths, Tested, case_cells, case_wires, field_cuts, last_of, tested_of, variables_from}
use Rattle.chw_meaning.specs.Values.{History, Thunk, Thunks, closed, fields_from, none}
use Rattle.chw_typing.specs.Alternatives.{NoneHidden}
use Rattle.net_means.proofs.NetBits.Results.{Opened, value_result}
use Rattle.chw_terms.specs.declared.term.Pattern.{Pattern}
use Rattle.net_built.specs.Wires.{Piece}
use Rattle.chw_terms.specs.declared.program.Program.{Program}
use Rattle.net_means.proofs.NetBits.Context.{Situation, Stands, alone}
use Rattle.chw_types.specs.TypeTree.{TypeTree, data_of, no_types}
use Rattle.chw_terms.specs.declared.scene.Sort.TheVariants.{Value}
use Rattle.net_built.specs.Terms.{Variable}
use Rattle.chw_base.specs.declared.index.WireId.{WireId}
use Rattle.net_means.proofs.NetBits.ResultBits.{all_bear}
use Rattle.net_means.proofs.NetBits.Standing.{alt_here}
use Rattle.net_means.specs.SideBits.Cases.{alts_count}
use Rattle.chw_bits.specs.Bits.{bits_of}
use Rattle.chw_terms.specs.Constructors.{con_at}
use Rattle.net_means.proofs.NetBits.There.{fields_count, found_at, found_within}
use Rattle.chw_layout.specs.Encodes.{first_constructor}
use Rattle.net_means.proofs.NetBits.CaseFirst.{unseen_bears, unseen_outside, unseen_shows}
use Rattle.rewriting.specs.Origins.{with_origins, with_origins_alts}

-- the fields of the only constructor of a data type
unseen_fields : FieldsCarry → (p : Program) (u : TypeTree) (q : Pattern) (e : TermTree) (more : Alts) (fields : List TypeTree) (th : Thunk) (b : List Bool) (parts : List (List Bool)) → ¬ (choice p.datas (alt q e more) ≡ looks) → PatternOf p.datas u q fields → Carries p u th b → Parts p.datas fields (behind p.datas q b) parts
    → CarryParts p fields (fields_from zero (length fields) th none) parts
unseen_fields law p u Default e more fields th b parts unseen of_any carries no_parts = carry_no_part
unseen_fields law p u (OfLit s a) e more fields th b parts unseen (of_lit l same) carries no_parts = carry_no_part
unseen_fields law p u (OfCon c n) e more fields th b parts unseen (of_con {d = d} {ts = ts} it known of size) carries cut = by (is_only (con_at p.datas c.number)) refl
  where
    by : (o : Bool) → is_only (con_at p.datas c.number) ≡ o → CarryParts p (fields_at it ts) (fields_from zero (length (fields_at it ts)) th none) parts
    by false nope = absurd (unseen (ap (λ o. by_fields o n e) nope))
    by true single =
        let one : (length it.it.cons == 1) ≡ true = sym (ap is_only known) ∙ single in
        let bare : tag_width (length it.it.cons) ≡ 0 = ap tag_width (eqb-true (length it.it.cons) 1 one) in
        let begins : tag_in it b ≡ tag_of p.datas c.number it = ap (λ k. take k b) bare ∙ sym (ap (λ k. bits_of k (c.number - first_constructor p.datas it.of)) bare) in
        law p c.number it ts th b parts known (λ j. subst (λ d. Shows p (data_of d ts) th j b) (sym of) (carries j)) begins
        (subst (λ o. Parts p.datas (fields_at it ts) (behind_con o b) parts) known cut)

-- a variable of one of the fields of an alternative that is taken without a look
abbrev pub IsField : List Variable → ℕ → List TypeTree → List ℕ → ℕ → Variable → Type 0
IsField scope m fields widths y v = (slice_get (reverse (variables_from m fields widths) ++ scope) y ≡ Some v) × (y < length fields)

-- it has bits where the variable of the case has
pub unseen_field : Facts → (s : Situation) (path : List ℕ) (scope : List Variable) (γ : Thunks) (x n m whole : ℕ) (q : Pattern) (e : TermTree) (more : Alts) (it : Variable) (fields : List TypeTree) (widths : List ℕ) (y : ℕ) (v : Variable) → ¬ (choice s.d.program.datas (alt q e more) ≡ looks)
    → HasWidth s.d.program.datas it.ty whole → PatternOf s.d.program.datas it.ty q fields → HaveWidths s.d.program.datas fields widths → HasCells s.d.net path (field_cuts (whole - (tested_of s.d.program.datas it.ty whole n it.wires).bits) it.wires widths m).cells
    → IsField scope m fields widths y v → HasBits s.d.program s.d.net path s.h γ x it → HasBits s.d.program s.d.net path s.h (unseen_outside x fields γ) y v
unseen_field facts s path scope γ x n m whole q e more it fields widths y v unseen wide pattern sizes cells field has =
    let d = s.d in
    let th : Thunk = closed (var x) γ no_types in
    let cut = parts_of d.program.datas fields widths (behind d.program.datas q has.0) sizes in
    let carries : Carries d.program it.ty th has.0 = λ j. facts.shows.variable_shows has.1.there (has.1.carries j) in
    let carry = unseen_fields s.laws.fields_carry d.program it.ty q e more fields th has.0 cut.0 unseen pattern carries cut.1 in
    s.laws.fields d.program γ d.net path s.h x n m q fields widths (fields_from zero (length fields) th none) scope y v
    (record {
      it = it;
      bits = has.0;
      has = has.1;
      whole = whole;
      wide = wide;
      pattern = pattern;
      sizes = sizes;
      cells = cells;
      parts = cut.0;
      cut = cut.1;
      many = fields_count (length fields) zero th;
      carry = carry;
    })
    field.0 (λ z e at. absurd (let l = field.1 in omega (arith, l, e)))

no_alts_whole : (wholes : ℕ → TermTree) → with_origins_alts wholes no_alts ≡ no_alts
unfolding with_origins
no_alts_whole wholes = refl

-- the wires of the only result
pub one_result : (results : List (List WireId)) (wires : List WireId) → length results ≡ 1 → slice_get results 0 ≡ Some wires → last_of results ≡ wires
one_result [] wires l e = absurd cc
one_result (r ∷ []) wires l e = cc
one_result (r ∷ z ∷ more) wires l e = absurd (omega (arith, l))

module _ (facts : Facts) (s : Situation) (path : List ℕ) (b : Block) (g : Group) (scope : List Variable) (γ : Thunks) (i x n w whole : ℕ) (t : TypeTree) (q : Pattern) (e : TermTree) (more : Alts) (it : Variable) (on : Tested) (p : Piece) (results : List (List WireId)) (c : CaseIn s path b g scope γ i x n w whole t (alt q e more) it on p results) (unseen : ¬ (choice s.d.program.datas (alt q e more) ≡ looks)) where
  -- the first alternative, which stands
  pub first_at : AltAt s.d path scope it (whole - on.bits) results 0 q e
  first_at = alt_zero s.d path c.built (piece_cells facts s path b g scope γ i x n w whole t (alt q e more) it on p results c) (piece_widths facts s path b g scope γ i x n w whole t (alt q e more) it on p results c)

  abbrev pub FirstBlock : Block
  FirstBlock = record {
    sort = Value;
    scope = reverse (variables_from first_at.own.m first_at.own.fields first_at.own.widths) ++ scope;
    outside = unseen_outside x first_at.own.fields γ;
    term = e;
    results = first_at.wires;
  }

  pub cut_cells : HasCells s.d.net path (field_cuts (whole - (tested_of s.d.program.datas it.ty whole n it.wires).bits) it.wires first_at.own.widths first_at.own.m).cells
  cut_cells = subst (λ (on : Tested). HasCells s.d.net path (field_cuts (whole - on.bits) it.wires first_at.own.widths first_at.own.m).cells) c.is first_at.own.cuts

  pub first_stands : Stands s path FirstBlock
  first_stands =
      unseen_alternative i n first_at.own.m first_at.own.widths c.stands c.inside c.at unseen c.known c.whole_wide first_at.own.pattern first_at.own.sizes cut_cells
      (record { n = first_at.own.n; piece = first_at.own.piece; built = first_at.own.built; cells = first_at.own.cells; widths = first_at.own.wide })

  -- the case has what its result has
  pub unseen_has : (f : Formed s.d FirstBlock) (o : Opened s.d path FirstBlock f.type) → HasBits s.d.program s.d.net path s.h o.γ o.x o.it
      → SideHas s.d.program γ no_types s.d.net path s.h t (case_of (var x) (with_origins_alts s.d.wholes (alt q e more))) (case_wires on (alt q e more) w n p results)
  unseen_has f o has =
      let d = s.d in
      let v = value_result facts d o has in
      let like = alternative_like facts s path b g scope γ i x n w whole t (alt q e more) it on p results c first_at.own.m first_at.own.fields first_at.own.widths q e (unseen_outside x first_at.own.fields γ) first_at.wires alt_here first_at.own.pattern first_at.own.sizes first_stands f o in
      let shown : (j : History) → Shows d.program t (closed (with_origins d.wholes e) (unseen_outside x first_at.own.fields γ) no_types) j v.bits = λ j. facts.shows.shown_same d.program (alone d) s.laws.values s.laws.keep (v.carries j) like in
      let size : length v.bits ≡ w = facts.shows.shown_length (shown []) c.wide in
      record {
        bits = v.bits;
        carries = λ j. subst (λ alts. Shows d.program t (closed (case_of (var x) alts) γ no_types) j v.bits) (sym (alt_whole d.wholes q e more))
            (unseen_shows facts d.program t x γ j v.bits it.ty q e (with_origins d.wholes e) more (with_origins_alts d.wholes more) first_at.own.fields unseen (λ none_more. ap (with_origins_alts d.wholes) none_more ∙ no_alts_whole d.wholes) first_at.own.pattern (shown j));
        bears = on_wires more refl v.bits size v.bears;
      }
    where
      on_wires : (others : Alts) → more ≡ others → (bits : List Bool) → length bits ≡ w → Bears s.d.net path s.h first_at.wires bits → Bears s.d.net path s.h (case_wires on (alt q e more) w n p results) bits
      on_wires no_alts are bits size bears =
          let count : length results ≡ 1 = results_count c.built ∙ ap (λ more. suc (alts_count more)) are in
          let same : case_wires on (alt q e no_alts) w n p results ≡ first_at.wires = one_result results first_at.wires count first_at.result in
          subst (λ more. Bears s.d.net path s.h (case_wires on (alt q e more) w n p results) bits) (sym are) (subst (λ ws. Bears s.d.net path s.h ws bits) (sym same) bears)
      on_wires (alt u z others) are bits size bears =
          let d = s.d in
          let alts : Alts = alt q e more in
          let side = case_side_of facts s path b g scope γ i x n w whole t alts it on p results c in
          let several : 0 < alts_count more = let l : alts_count more ≡ suc (alts_count others) = ap (λ more. alts_count more) are in omega (arith, l) in
          let wide_result = result_wide facts s path b g scope γ i x n w whole t alts it on p results c q e more refl several in
          let all = all_bear d.net path s.h w results s.have (λ k r e. (result_wires facts s path b g scope γ i x n w whole t alts it on p results c k r e, wide_result k r e)) in
          let given = found_at all.0 0 (let l = found_within results 0 first_at.wires first_at.result in let size = all.3 in omega (arith, l, size)) in
          let given_bears : Bears d.net path s.h first_at.wires given.0 = all_at all.1 0 first_at.wires given.0 first_at.result given.1 in
          let same : given.0 ≡ bits = sym (bears_once d.net path s.h s.once w first_at.wires bits given.0 (wide_result 0 first_at.wires first_at.result) size bears given_bears) in
          let are_alts : alt q e more ≡ alt q e (alt u z others) = ap (alt q e) are in
          let back : Bears d.net path s.h (case_wires on (alt q e (alt u z others)) w n p results) given.0 =
          unseen_bears facts s.laws.values s.laws.cell_cases d.net path s.h d.program.datas it.ty whole it.wires on q u e z others w n p results all.0 given.0
          (subst (λ alts. ¬ (choice d.program.datas alts ≡ looks)) are_alts unseen) first_at.own.pattern c.whole_wide (subst (AreFor d.program.datas it.ty) are_alts (alts_for c.built)) (subst NoneHidden are_alts (none_hidden side.typed.has)) c.is
          (looked_wires facts s path b g scope γ i x n w whole t alts it on p results c) all.1 all.2 given.1 (subst (λ alts. HasCells d.net path (case_cells on alts w n p results).cells) are_alts c.has) in
          subst (λ bits. Bears d.net path s.h (case_wires on (alt q e more) w n p results) bits) same (subst (λ alts. Bears d.net path s.h (case_wires on alts w n p results) given.0) (sym are_alts) back)
