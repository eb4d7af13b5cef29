-- A case whose meaning looks at what is tested tests bits of it.
use Rattle.std.specs.Prelude.{◌^◌, ◌==◌, option_map, unwrap_or}
use Rattle.std.proofs.Common.{◌≡◌, ◌<◌, ◌≤◌, ℕ, zero, suc, Bool, true, false, List, [], ◌∷◌, length, Some, slice_get, refl, sym, ap, ◌∙◌, subst, arith}
use Rattle.std.proofs.lemmas.Bool.{eqb-false}
use Rattle.chw_base.specs.declared.index.WireId.{WireId}
use Rattle.chw_types.specs.declared.declarations.ConDecl.{ConDecl}
use Rattle.chw_types.specs.declared.declarations.Data.{Data}
use Rattle.chw_types.specs.TypeTree.{TypeTree, TypeTrees, data_of}
use Rattle.chw_base.specs.declared.index.ConId.{ConId}
use Rattle.chw_terms.specs.declared.term.Pattern.TheVariants.{OfCon, OfLit, Default}
use Rattle.chw_terms.specs.TermTree.{TermTree, Alts, no_alts, alt}
use Rattle.chw_terms.specs.Constructors.{con_at}
use Rattle.chw_typing.specs.Alternatives.{NoneHidden}
use Rattle.chw_typing.specs.HeadTypes.{PatternOf, of_con}
use Rattle.chw_layout.specs.Measured.{tag_width}
use Rattle.chw_meaning.specs.Eval.{looks, choice, is_only, by_fields}
use Rattle.carrying.specs.DataLaws.{AreFor}
use Rattle.netlist.specs.declared.net.Net.{Net}
use Rattle.net_built.specs.Data.{Tested, tested_of, constructor_count, case_cells, case_wires}
use Rattle.net_built.specs.Wires.{Piece}
use Rattle.cell_bits.specs.Bearing.{HasCells}
use Rattle.net_grounds.specs.Facts.{Facts}
use Rattle.net_means.specs.SideBits.Cases.{alts_count, AreTested}
use Rattle.net_means.specs.WireOrder.Awaits.{AllSettle}
use Rattle.net_means.proofs.WireOrder.Cases.{tested_settle}
use Rattle.net_means.proofs.WireOrder.Reached.{Held, only_is}

some_con : (cs : List ConDecl) (i : ℕ) (c : ConDecl) → slice_get cs i ≡ Some c → 0 < length cs
some_con [] i c e = absurd cc
some_con (x ∷ cs) i c e = omega arith

-- several constructors have a tag with bits
tag_some : Facts → (n : ℕ) → 2 ≤ n → 0 < tag_width n
tag_some facts n l = split (tag_width n) (facts.encodings.tag_suffices n)
  where
    split : (t : ℕ) → n ≤ 2 ^ t → 0 < t
    split zero few = absurd (omega (arith, l, few))
    split (suc t) few = omega arith

-- where a pattern's constructor isn't the only one
pub several : (k c : ℕ) (e : TermTree) → by_fields (c == 1) k e ≡ looks → 0 < c → 2 ≤ c
several k c e f some = split (c == 1) refl
  where
    split : (b : Bool) → (c == 1) ≡ b → 2 ≤ c
    split true is = let wrong = sym (ap (λ b. by_fields b k e) is) ∙ f in absurd cc
    split false is = let apart = eqb-false c 1 is in omega (arith, some, apart)

con_bits : Facts → (datas : List Data) (d : ℕ) (ts : TypeTrees) (c : ConId) (k : ℕ) (e : TermTree) {fields : List TypeTree} → PatternOf datas (data_of d ts) (OfCon c k) fields → by_fields (is_only (con_at datas c.number)) k e ≡ looks → 0 < tag_width (constructor_count datas d)
con_bits facts datas d ts c k e (of_con it at of count) is =
    let place = facts.constructors.is_constructor datas c.number it at in
    let here : slice_get datas d ≡ Some it.it = subst (λ d. slice_get datas d ≡ Some it.it) of place.data_type in
    let many : constructor_count datas d ≡ length it.it.cons = ap (λ o. unwrap_or (option_map (λ (it : Data). length it.cons) o) 0) here in
    let some = some_con it.it.cons place.place it.decl place.decl in
    let two = several k (length it.it.cons) e (sym (ap (λ o. by_fields (is_only o) k e) at) ∙ is) some in
    subst (λ n. 0 < tag_width n) (sym many) (tag_some facts (length it.it.cons) two)

data_bits : Facts → (datas : List Data) (d : ℕ) (ts : TypeTrees) (alts : Alts) → AreFor datas (data_of d ts) alts → NoneHidden alts → 0 < alts_count alts → choice datas alts ≡ looks → 0 < tag_width (constructor_count datas d)
data_bits facts datas d ts no_alts are none l is = absurd (omega (arith, l))
data_bits facts datas d ts (alt (OfCon c k) e more) are none l is = con_bits facts datas d ts c k e are.0.1 is
data_bits facts datas d ts (alt (OfLit s bits) e more) are none l is = elim are.0.1 [ ]
data_bits facts datas d ts (alt Default e no_alts) are none l is = absurd cc
data_bits facts datas d ts (alt Default e (alt r f more)) are none l is = absurd (none.0.0 tt)

looks_bits : Facts → (datas : List Data) (u : TypeTree) (whole n : ℕ) (a : List WireId) (alts : Alts) → AreFor datas u alts → NoneHidden alts → 0 < alts_count alts → choice datas alts ≡ looks → 0 < whole → 0 < (tested_of datas u whole n a).bits
looks_bits facts datas (data_of d ts) whole n a alts are none l is wide = data_bits facts datas d ts alts are none l is
looks_bits facts datas _ whole n a alts are none l is wide = wide

pub looks_settle : Facts → (net : Net) (path : List ℕ) (datas : List Data) (u : TypeTree) (whole : ℕ) (wires : List WireId) (on : Tested) (alts : Alts) (w n : ℕ) (p : Piece) (results : List (List WireId)) → AreTested datas u whole alts → choice datas alts ≡ looks → on ≡ tested_of datas u whole n wires → Held wires whole
    → HasCells net path (case_cells on alts w n p results).cells → 2 ≤ alts_count alts → length results ≡ alts_count alts → AllSettle net path (case_wires on alts w n p results) path wires
looks_settle facts net path datas u whole wires on alts w n p results tested look is h has several count i j x v e f =
    let wide = (only_is wires whole j v h f).1 in
    let bits : 0 < (tested_of datas u whole n wires).bits = looks_bits facts datas u whole n wires alts tested.for_type tested.shown (omega (arith, several)) look wide in
    let some : 0 < on.bits = subst (λ (on : Tested). 0 < on.bits) (sym is) bits in
    tested_settle net path datas u whole wires on alts w n p results is h has several count some i j x v e f
