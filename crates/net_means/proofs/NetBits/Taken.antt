-- Of a complete case there is an alternative for the bits, and a case that looks has several.
use Rattle.std.specs.Prelude.{if◌then◌else◌}
use Rattle.std.proofs.Common.{Bool, List, Some, ap, arith, false, inl, inr, length, refl, subst, suc, sym, true, zero, ℕ, ◌+◌, ◌<◌, ◌==◌, ◌∙◌, ◌≡◌, ◌≤◌, ◌⊎◌}
use Rattle.std.proofs.lemmas.Bool.{cases_lt}
use Rattle.layout_laws.specs.Numbering.{ConstructorsByPlace, HasPlace}
use Rattle.carrying.specs.DataLaws.{AreFor, ShownHasTag, Taken, has_tag, is_for, tag_in, taken}
use Rattle.chw_typing.specs.HeadTypes.{PatternOf, of_con}
use Rattle.chw_typing.specs.Alternatives.{HasDefault, IsFor, IsCovered}
use Rattle.chw_meaning.specs.Eval.{looks, choice, is_only, by_fields, same_bits}
use Rattle.chw_terms.specs.TermTree.{Alts, TermTree, alt, no_alts}
use Rattle.chw_base.specs.declared.index.ConId.{ConId}
use Rattle.chw_terms.specs.Constructors.{Constructor, con_at, first_con}
use Rattle.chw_types.specs.declared.declarations.Data.{Data}
use Rattle.chw_terms.specs.declared.term.Pattern.TheVariants.{Default, OfCon, OfLit}
use Rattle.chw_meaning.specs.Values.{History, Thunk}
use Rattle.chw_meaning.specs.Zeros.{IsWide}
use Rattle.chw_terms.specs.declared.term.Pattern.{Pattern}
use Rattle.chw_terms.specs.declared.program.Program.{Program}
use Rattle.carrying.specs.Carrying.{Shows, tag_of}
use Rattle.chw_types.specs.TypeTree.{TypeTree, TypeTrees, data_of}
use Rattle.net_grounds.specs.Facts.{Facts}
use Rattle.net_means.proofs.Lists.{same_some}
use Rattle.net_means.specs.SideBits.Cases.{alts_count}
use Rattle.net_means.proofs.NetBits.There.{found_at, found_within}

module _ (facts : Facts) (datas : List Data) (b : List Bool) where
  abbrev IsTakenOf : Alts → Type 0
  IsTakenOf alts = (a : Taken) × (taken datas b alts ≡ Some a)

  later_taken : (q : Pattern) (e : TermTree) (more : Alts) → IsTakenOf more → IsTakenOf (alt q e more)
  later_taken q e more rest = by (is_for datas b q) refl
    where
      by : (o : Bool) → is_for datas b q ≡ o → IsTakenOf (alt q e more)
      by true holds = (record { pattern = q; body = e }, ap (λ o. if o then Some (record { pattern = q; body = e }) else taken datas b more) holds)
      by false fails = (rest.0, ap (λ o. if o then Some (record { pattern = q; body = e }) else taken datas b more) fails ∙ rest.1)

  here_taken : (q : Pattern) (e : TermTree) (more : Alts) → is_for datas b q ≡ true → IsTakenOf (alt q e more)
  here_taken q e more holds = (record { pattern = q; body = e }, ap (λ o. if o then Some (record { pattern = q; body = e }) else taken datas b more) holds)

  default_taken : (alts : Alts) → HasDefault alts → IsTakenOf alts
  default_taken no_alts h = absurd h
  default_taken (alt Default e more) h = here_taken Default e more refl
  default_taken (alt (OfLit s a) e more) h = later_taken (OfLit s a) e more (default_taken more h)
  default_taken (alt (OfCon c n) e more) h = later_taken (OfCon c n) e more (default_taken more h)

  con_taken : (c : ℕ) (it : Constructor) (alts : Alts) → con_at datas c ≡ Some it → tag_in it b ≡ tag_of datas c it → IsFor c alts → IsTakenOf alts
  con_taken c it no_alts known begins h = absurd h
  con_taken c it (alt Default e more) known begins h = here_taken Default e more refl
  con_taken c it (alt (OfLit s a) e more) known begins h = later_taken (OfLit s a) e more (con_taken c it more known begins h)
  con_taken c it (alt (OfCon d n) e more) known begins (inr h) = later_taken (OfCon d n) e more (con_taken c it more known begins h)
  con_taken c it (alt (OfCon d n) e more) known begins (inl same) =
      let there : con_at datas d.number ≡ Some it = subst (λ k. con_at datas k ≡ Some it) same known in
      let tag : tag_in it b ≡ tag_of datas d.number it = subst (λ k. tag_in it b ≡ tag_of datas k it) same begins in
      here_taken (OfCon d n) e more (ap (λ o. has_tag datas d.number o b) there ∙ ap (λ y. same_bits y (tag_of datas d.number it)) tag ∙ facts.cases.same_itself (tag_of datas d.number it))

-- the type of a constructor's pattern
con_type_of : {datas : List Data} {u : TypeTree} {c : ConId} {n : ℕ} {fields : List TypeTree} (it : Constructor) → PatternOf datas u (OfCon c n) fields → con_at datas c.number ≡ Some it → (ts : TypeTrees) × (u ≡ data_of it.of ts)
con_type_of it (of_con {ts = ts} other known of count) there =
    let same = same_some known there in
    (ts, ap (λ d. data_of d ts) (sym of ∙ ap (λ (i : Constructor). i.of) same))

case_type : (datas : List Data) {u : TypeTree} (c : ℕ) (it : Constructor) (alts : Alts) → con_at datas c ≡ Some it → AreFor datas u alts → IsFor c alts → (ts : TypeTrees) × (u ≡ data_of it.of ts)
case_type datas c it no_alts known are h = absurd h
case_type datas c it (alt Default e more) known are h = case_type datas c it more known are.1 h
case_type datas c it (alt (OfLit s a) e more) known are h = case_type datas c it more known are.1 h
case_type datas c it (alt (OfCon d n) e more) known are (inl same) = con_type_of it are.0.1 (subst (λ k. con_at datas k ≡ Some it) same known)
case_type datas c it (alt (OfCon d n) e more) known are (inr h) = case_type datas c it more known are.1 h

pub taken_there : Facts → ShownHasTag → (p : Program) (u : TypeTree) (th : Thunk) (h : History) (b : List Bool) (alts : Alts) → IsCovered p.datas alts → AreFor p.datas u alts → IsWide p.datas u → Shows p u th h b → (a : Taken) × (taken p.datas b alts ≡ Some a)
taken_there facts tags p u th h b alts (inl default) are wide shows = default_taken facts p.datas b alts default
taken_there facts tags p u th h b alts (inr all) are wide shows =
    let type = case_type p.datas all.con all.it alts all.is are all.has in
    let begins = tags p all.it.of type.0 th h b (subst (IsWide p.datas) type.1 wide) (subst (λ u. Shows p u th h b) type.1 shows) in
    con_taken facts p.datas b begins.number begins.it alts begins.held begins.begins (all.each begins.number begins.it begins.held begins.of_type)

-- a case that looks has at least two alternatives
not_one : (n : ℕ) → 0 < n → ((n == 1) ≡ true → ⊥) → 1 < n
not_one zero l h = absurd (omega (arith, l))
not_one (suc zero) l h = absurd (h refl)
not_one (suc (suc n)) l h = omega arith

pub looks_many : ConstructorsByPlace → (datas : List Data) (alts : Alts) → IsCovered datas alts → choice datas alts ≡ looks → 1 < alts_count alts
looks_many places datas no_alts (inl h) is = absurd h
looks_many places datas no_alts (inr all) is = absurd all.has
looks_many places datas (alt q e (alt r f more)) covered is = omega arith
looks_many places datas (alt Default e no_alts) covered is = absurd cc
looks_many places datas (alt (OfLit s a) e no_alts) (inl h) is = absurd h
looks_many places datas (alt (OfLit s a) e no_alts) (inr all) is = absurd all.has
looks_many places datas (alt (OfCon c n) e no_alts) (inl h) is = absurd h
looks_many places datas (alt (OfCon c n) e no_alts) (inr all) is = absurd (several place_is)
  where
    place_is : HasPlace datas all.con all.it
    place_is = (places datas all.con all.it).0 all.is

    here : all.con ≡ c.number
    here = only_here all.has
      where
        only_here : (all.con ≡ c.number) ⊎ ⊥ → all.con ≡ c.number
        only_here (inl h) = h
        only_here (inr h) = absurd h

    no_only : (length all.it.it.cons == 1) ≡ true → ⊥
    no_only one =
        let known : con_at datas c.number ≡ Some all.it = subst (λ k. con_at datas k ≡ Some all.it) here all.is in
        let takes_it = ap (λ o. by_fields o n e) (ap is_only known ∙ one) in
        absurd cc

    other : (p : HasPlace datas all.con all.it) (j : ℕ) → j < length all.it.it.cons → (j ≡ p.place → ⊥) → ⊥
    other p j l different =
        let decl = found_at all.it.it.cons j l in
        let k : Constructor = record { of = all.it.of; it = all.it.it; decl = decl.0 } in
        let there = (places datas (first_con datas all.it.of + j) k).1 (record { place = j; in_datas = p.in_datas; in_cons = decl.1; number = refl }) in
        let same = only_other (all.each (first_con datas all.it.of + j) k there refl) in
        let number = p.number in
        different (omega (arith, same, number, here))
      where
        only_other : (first_con datas all.it.of + j ≡ c.number) ⊎ ⊥ → first_con datas all.it.of + j ≡ c.number
        only_other (inl h) = h
        only_other (inr h) = absurd h

    several : HasPlace datas all.con all.it → ⊥
    several p =
        let within = found_within all.it.it.cons p.place all.it.decl p.in_cons in
        let many = not_one (length all.it.it.cons) (omega (arith, within)) no_only in
        by_place many (cases_lt p.place 1)
      where
        by_place : 1 < length all.it.it.cons → (p.place < 1) ⊎ (1 ≤ p.place) → ⊥
        by_place many (inl l) = other p 1 many (λ e. omega (arith, e, l))
        by_place many (inr l) = other p 0 (omega (arith, many)) (λ e. omega (arith, e, l))
