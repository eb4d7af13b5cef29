-- The cells of a case agree in width: what is tested, the fields, the tests and the choice.
use Rattle.std.proofs.Common.{◌≡◌, ℕ, suc, ◌+◌, ◌-◌, ◌<◌, ◌≤◌, arith, Bool, List, [], ◌∷◌, ◌++◌, length, map, Some, refl, sym, ap, ◌∙◌, subst, unwrap_or, option_map}
use Rattle.std.specs.List.{slice_get, AllByRecursion}
use Rattle.chw_base.specs.declared.index.WireId.{WireId}
use Rattle.chw_base.specs.declared.limits.TheConstants.{DATA_BITS}
use Rattle.chw_types.specs.declared.declarations.Data.{Data}
use Rattle.chw_types.specs.SamePromises.{SameValues, natural_value}
use Rattle.chw_types.specs.TypeMoves.{Substitution, sub}
use Rattle.chw_types.specs.TypeTree.{TypeTree, data_of}
use Rattle.chw_terms.specs.declared.term.Pattern.{Pattern}
use Rattle.chw_terms.specs.declared.term.Pattern.TheVariants.{Default}
use Rattle.chw_terms.specs.TermTree.{TermTree, Alts, no_alts, alt, case_of}
use Rattle.chw_typing.specs.Alternatives.{Hides, NoneHidden}
use Rattle.chw_typing.specs.HeadTypes.{PatternOf, of_con, of_lit, of_any}
use Rattle.chw_typing.specs.Scopes.{Setting}
use Rattle.chw_typing.specs.Typing.{HasType, h_case}
use Rattle.chw_layout.specs.Measured.{fits, tag_width, HasWidth, MeasuredFields}
use Rattle.netlist.specs.declared.net.Cell.TheVariants.{Cut}
use Rattle.netlist.specs.declared.net.Module.{Module}
use Rattle.net_built.specs.Bodies.{AltsBuilt, alts_none, alts_and}
use Rattle.net_built.specs.Circuits.{Ground}
use Rattle.net_built.specs.Data.{HaveWidths, constructor_count, field_cuts, Tested, tested_of, word_of, words_of, tests, test_wires, chosen, case_cells}
use Rattle.net_built.specs.Terms.{Variable}
use Rattle.net_built.specs.Wires.{wire, present, wire_count, Piece, nothing, one, ◌▸◌, after}
use Rattle.net_built.specs.Words.{only}
use Rattle.net_grounds.specs.Facts.{Facts}
use Rattle.net_means.proofs.Lists.{length-bits_of}
use Rattle.net_means.specs.NetFits.Widths.{AreWide, StandFrom}
use Rattle.net_means.proofs.NetFits.Choosing.{EachLong, EachBit, tests_agree, tests_wide, chosen_agrees}
use Rattle.net_means.proofs.NetFits.ValueDrivers.{HasOne}
use Rattle.net_means.proofs.NetFits.ValueWidths.{EachWide}
use Rattle.net_means.proofs.NetFits.Wide.{stand_parts, wide_from}
use Rattle.net_means.proofs.NetFits.WordWidths.{Agree, given_wide, none_agree, one_agrees, then_agree, total_of}
use Rattle.net_means.proofs.NetWidths.Small.{IsPart, Small, none_small, one_small, then_small, tests_small, chosen_small}

-- what has a width may be a part
pub part_of : Facts → {datas : List Data} {t : TypeTree} {w : ℕ} → HasWidth datas t w → IsPart w
part_of facts has = let l = facts.measures.measured_within has in omega (arith, l)

pub each_part : Facts → (datas : List Data) (ts : List TypeTree) (ws : List ℕ) → HaveWidths datas ts ws → AllByRecursion IsPart ws
each_part facts datas [] [] h = tt
each_part facts datas [] (w ∷ ws) h = absurd h
each_part facts datas (t ∷ ts) [] h = absurd h
each_part facts datas (t ∷ ts) (w ∷ ws) h = (part_of facts h.0, each_part facts datas ts ws h.1)

-- in a typed case nothing is hidden
pub case_hidden : {s : Setting} {vars : List TypeTree} {e : TermTree} {alts : Alts} {t : TypeTree} → HasType s [] vars (case_of e alts) t → NoneHidden alts
case_hidden (h_case typed looked kind b has of_kind functions more hidden) = hidden

counted : (datas : List Data) (d : ℕ) (it : Data) → slice_get datas d ≡ Some it → constructor_count datas d ≡ length it.cons
counted datas d it known = ap (λ o. unwrap_or (option_map (λ (it : Data). length it.cons) o) 0) known

module _ (facts : Facts) (earlier : List Module) (all : List ℕ) where
  -- bits of a wire of which so many are below
  cut_agrees : (w below whole at : ℕ) (a : List WireId) → AreWide all a (present (whole ∷ [])) → w ≤ below → below ≤ whole → StandFrom all at (present (w ∷ [])) → Agree earlier all (one w (Cut (wire at) (only a) (below - 1) (below - w)))
  cut_agrees w below whole at a h fit less stand =
      one_agrees earlier all at w (Cut (wire at) (only a) (below - 1) (below - w)) stand
      (λ v e has.
      let order : below - w ≤ below - 1 = omega (arith, e) in
      let size : suc v ≡ below - 1 - (below - w) + 1 = omega (arith, e, fit) in
      let some : whole ≡ suc (whole - 1) = omega (arith, e, fit, less) in
      let high : below - 1 < suc (whole - 1) = omega (arith, less) in
      (order, has ∙ ap (λ n. Some n) size, (suc (whole - 1), high, given_wide earlier all a whole (whole - 1) some h)))

  pub cuts_agree : (ws : List ℕ) (below whole at : ℕ) (a : List WireId) → AreWide all a (present (whole ∷ [])) → total_of ws ≤ below → below ≤ whole → StandFrom all at (field_cuts below a ws at).widths → Agree earlier all (field_cuts below a ws at)
  cuts_agree [] below whole at a h sum less stand = none_agree earlier all (field_cuts below a [] at) refl
  cuts_agree (w ∷ ws) below whole at a h sum less stand =
      let next : ℕ = at + wire_count (w ∷ []) in
      then_agree earlier all at (one w (Cut (wire at) (only a) (below - 1) (below - w))) (field_cuts (below - w) a ws next) stand
      (λ s. cut_agrees w below whole at a h (omega (arith, sum)) less s)
      (λ s. cuts_agree ws (below - w) whole next a h (omega (arith, sum)) (omega (arith, less)) s)

  -- what is tested
  pub record TestedFits (on : Tested) (whole : ℕ) : Type 0 where
    pub agree : Agree earlier all on.cells
    pub small : Small on.cells.widths
    pub wires : AreWide all on.wires (present (on.bits ∷ []))
    pub less : on.bits ≤ whole

  pub tested_fits : (datas : List Data) (t : TypeTree) (whole at : ℕ) (a : List WireId) → HasWidth datas t whole → AreWide all a (present (whole ∷ [])) → StandFrom all at (tested_of datas t whole at a).cells.widths → TestedFits (tested_of datas t whole at a) whole
  tested_fits datas (data_of d ts) whole at a has h stand =
      let m = facts.measures.data_measured has in
      let c = facts.widths.cons_width m.it m.known has in
      let tag : ℕ = tag_width (constructor_count datas d) in
      let same : tag ≡ tag_width (length m.it.cons) = ap (λ n. tag_width n) (counted datas d m.it m.known) in
      let is = c.is in
      let room : tag ≤ whole = omega (arith, is, same) in
      let most = part_of facts has in
      record {
        agree = cut_agrees tag whole whole at a h room (omega arith) stand;
        small = one_small tag (omega (arith, room, most));
        wires = wide_from all at (present (tag ∷ [])) stand;
        less = room;
      }
  tested_fits datas t whole at a has h stand = record { agree = none_agree earlier all nothing refl; small = none_small; wires = h; less = omega arith }

  chosen_fits : {ground : Ground} {scope : List Variable} {it : Variable} {below n : ℕ} {alts : Alts} {p : Piece} {results : List (List WireId)} (w : ℕ) (ts : List WireId) (at : ℕ) → AltsBuilt ground scope it below n alts p results → HasOne alts → EachBit earlier all ts → EachWide all w results
      → StandFrom all at (chosen w ts results at).widths → Agree earlier all (chosen w ts results at)
  chosen_fits w ts at alts_none some bits each stand = absurd some
  chosen_fits w ts at (alts_and {wires = r} {results = rs} ws formed have is block more) some bits each stand = chosen_agrees earlier all w ts r rs at bits each stand

  -- the cells of a case, if those of what is tested and of the alternatives do
  pub case_agrees : {ground : Ground} {scope : List Variable} {it : Variable} {below k : ℕ} {alts : Alts} {p : Piece} {results : List (List WireId)} (on : Tested) (w n : ℕ) → AltsBuilt ground scope it below k alts p results → HasOne alts → EachLong on.bits (words_of on.bits on.first alts) → AreWide all on.wires (present (on.bits ∷ []))
      → Agree earlier all on.cells → Agree earlier all p → EachWide all w results → StandFrom all n (case_cells on alts w n p results).widths → Agree earlier all (case_cells on alts w n p results)
  case_agrees {alts = alts} {p = p} {results = rs} on w n built some long wires tested alternatives each stand =
      let words : List (List Bool) = words_of on.bits on.first alts in
      let m : ℕ = after (after n on.cells) p in
      let q : Piece = tests on.bits on.wires words m in
      let d : Piece = chosen w (test_wires on.bits on.wires words m) rs (after m q) in
      let first = stand_parts all n on.cells.widths (p ▸ q ▸ d).widths stand in
      let second = stand_parts all (after n on.cells) p.widths (q ▸ d).widths first.1 in
      let third = stand_parts all m q.widths d.widths second.1 in
      then_agree earlier all n on.cells (p ▸ q ▸ d) stand (λ s. tested)
      (λ s. then_agree earlier all (after n on.cells) p (q ▸ d) s (λ s. alternatives)
      (λ s. then_agree earlier all m q d s (λ s. tests_agree earlier all on.bits on.wires words m long wires s)
      (λ s. chosen_fits w (test_wires on.bits on.wires words m) (after m q) built some (tests_wide earlier all on.bits on.wires words m third.0) each s)))

pub case_small : (on : Tested) (alts : Alts) (w n : ℕ) (p : Piece) (results : List (List WireId)) → IsPart on.bits → IsPart w → Small on.cells.widths → Small p.widths → Small (case_cells on alts w n p results).widths
case_small on alts w n p rs bits l tested alternatives =
    let words : List (List Bool) = words_of on.bits on.first alts in
    let m : ℕ = after (after n on.cells) p in
    let q : Piece = tests on.bits on.wires words m in
    let d : Piece = chosen w (test_wires on.bits on.wires words m) rs (after m q) in
    then_small on.cells.widths (p.widths ++ (q.widths ++ d.widths)) tested
    (then_small p.widths (q.widths ++ d.widths) alternatives (then_small q.widths d.widths (tests_small on.bits on.wires words m bits) (chosen_small w (test_wires on.bits on.wires words m) rs (after m q) l)))

-- the alternatives have patterns for values of the type
abbrev Patterns : List Data → TypeTree → Alts → Type 0
Patterns datas t no_alts = Unit {0}
Patterns datas t (alt q e more) = ((fs : List TypeTree) × PatternOf datas t q fs) × Patterns datas t more

patterns_of : {ground : Ground} {scope : List Variable} {it : Variable} {below n : ℕ} {alts : Alts} {p : Piece} {results : List (List WireId)} → AltsBuilt ground scope it below n alts p results → Patterns ground.datas it.ty alts
patterns_of alts_none = tt
patterns_of (alts_and {fields = fs} ws formed have is block more) = ((fs, formed), patterns_of more)

-- the word of a pattern but the default has as many bits as are tested
word_long : Facts → SameValues → {datas : List Data} {t : TypeTree} {q : Pattern} {fs : List TypeTree} (whole at : ℕ) (a : List WireId) → PatternOf datas t q fs → (q ≡ Default → ⊥) → HasWidth datas t whole → length (word_of (tested_of datas t whole at a).bits (tested_of datas t whole at a).first q) ≡ (tested_of datas t whole at a).bits
unfolding natural_value
word_long facts values whole at a (of_con it known of count) other has = length-bits_of _ _
word_long facts values whole at a (of_lit l same) other has =
    let number = facts.same_layout.same_number values same in
    let width = facts.widths.scalar_width has in
    omega (arith, number, width, l)
word_long facts values whole at a of_any other has = absurd (other refl)

words_fit : Facts → SameValues → (datas : List Data) (t : TypeTree) (whole at : ℕ) (a : List WireId) (alts : Alts) → Patterns datas t alts → NoneHidden alts → HasWidth datas t whole
    → EachLong (tested_of datas t whole at a).bits (words_of (tested_of datas t whole at a).bits (tested_of datas t whole at a).first alts)
words_fit facts values datas t whole at a no_alts ps hidden has = tt
words_fit facts values datas t whole at a (alt q e no_alts) ps hidden has = tt
words_fit facts values datas t whole at a (alt q e (alt r f more)) ps hidden has = (
  word_long facts values whole at a ps.0.1 (λ is. subst (λ q. Hides q r → ⊥) is hidden.0.0 tt) has,
  words_fit facts values datas t whole at a (alt r f more) ps.1 hidden.1 has,
)

pub words_long : Facts → SameValues → {ground : Ground} {scope : List Variable} {it : Variable} {below n : ℕ} {alts : Alts} {p : Piece} {results : List (List WireId)} (whole at : ℕ) (a : List WireId) → AltsBuilt ground scope it below n alts p results → NoneHidden alts → HasWidth ground.datas it.ty whole
    → EachLong (tested_of ground.datas it.ty whole at a).bits (words_of (tested_of ground.datas it.ty whole at a).bits (tested_of ground.datas it.ty whole at a).first alts)
words_long facts values {ground} {it = it} {alts = alts} whole at a built hidden has = words_fit facts values ground.datas it.ty whole at a alts (patterns_of built) hidden has

none_total : (datas : List Data) (ws : List ℕ) → HaveWidths datas [] ws → total_of ws ≡ 0
none_total datas [] h = refl
none_total datas (w ∷ ws) h = absurd h

none_fits : (s : ℕ) → fits s ≡ fits 0 → s ≡ 0
none_fits s e = cc

-- fields are together as wide as they are measured
fields_total : Facts → {datas : List Data} {σ : Substitution} (fs : List TypeTree) (ws : List ℕ) (s : ℕ) → s ≤ DATA_BITS → MeasuredFields datas fs σ (fits s) → HaveWidths datas (map (λ f. sub f σ) fs) ws → total_of ws ≡ s
fields_total facts [] [] s l m h = sym (none_fits s (facts.measures.no_fields m))
fields_total facts [] (w ∷ ws) s l m h = absurd h
fields_total facts (f ∷ fs) [] s l m h = absurd h
fields_total facts (f ∷ fs) (w ∷ ws) s l m h =
    let x = facts.widths.field_width l m in
    let is = x.is in
    let first : w ≡ x.a = facts.widths.width_once h.0 x.first in
    let rest = fields_total facts fs ws x.b (omega (arith, is, l)) x.rest h.1 in
    omega (arith, first, rest, is)

-- the fields that a pattern binds have room below what is tested
pub fields_room : Facts → {datas : List Data} {t : TypeTree} {q : Pattern} {fs : List TypeTree} (whole at : ℕ) (a : List WireId) (ws : List ℕ) → PatternOf datas t q fs → HasWidth datas t whole → HaveWidths datas fs ws → total_of ws ≤ whole - (tested_of datas t whole at a).bits
fields_room facts {datas} whole at a ws (of_con {d = d} {c = c} {ts = ts} it known of count) has h =
    let place = facts.constructors.has_place datas c.number it known in
    let there : slice_get datas d ≡ Some it.it = subst (λ d. slice_get datas d ≡ Some it.it) of place.in_datas in
    let x = facts.widths.cons_width it.it there has in
    let y = facts.widths.con_width it.it.cons place.place it.decl place.in_cons x.cons in
    let same : tag_width (constructor_count datas d) ≡ tag_width (length it.it.cons) = ap (λ n. tag_width n) (counted datas d it.it there) in
    let all_is = x.is in
    let limit = x.within in
    let less = y.within in
    let total = fields_total facts it.decl.fields ws y.s (omega (arith, all_is, limit, less)) y.fields h in
    omega (arith, all_is, less, total, same)
fields_room facts {datas} whole at a ws (of_lit l same) has h = let none = none_total datas ws h in omega (arith, none)
fields_room facts {datas} whole at a ws of_any has h = let none = none_total datas ws h in omega (arith, none)
