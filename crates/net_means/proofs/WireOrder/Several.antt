-- A case that leaves nothing out and whose meaning looks at what is tested has several alternatives.
use Rattle.std.specs.Prelude.{slice_index_or}
use Rattle.std.proofs.Common.{◌≡◌, ◌≤◌, inl, inr, ℕ, zero, suc, ◌+◌, List, length, Some, slice_get, refl, sym, ap, ◌∙◌, arith}
use Rattle.std.proofs.lemmas.Option.{slice_get-get_or, slice_get_within}
use Rattle.chw_base.specs.declared.index.ConId.{ConId}
use Rattle.chw_types.specs.declared.declarations.ConDecl.{ConDecl}
use Rattle.chw_types.specs.declared.declarations.Data.{Data}
use Rattle.chw_terms.specs.declared.term.Pattern.TheVariants.{OfCon, OfLit, Default}
use Rattle.chw_terms.specs.TermTree.{TermTree, Alts, no_alts, alt}
use Rattle.chw_terms.specs.Constructors.{Constructor, con_at, first_con}
use Rattle.chw_typing.specs.Alternatives.{IsCovered, ForAll}
use Rattle.chw_meaning.specs.Eval.{looks, choice, is_only, by_fields}
use Rattle.layout_laws.specs.Numbering.{HasPlace}
use Rattle.net_grounds.specs.Facts.{Facts}
use Rattle.net_means.specs.SideBits.Cases.{alts_count}
use Rattle.net_means.proofs.WireOrder.Tested.{several}

-- of several constructors one at another place
record Other (cs : List ConDecl) (place : ℕ) : Type 0 where
  at : ℕ
  decl : ConDecl
  there : slice_get cs at ≡ Some decl
  apart : at ≡ place → ⊥

other : (cs : List ConDecl) (place : ℕ) (c : ConDecl) → slice_get cs place ≡ Some c → 2 ≤ length cs → Other cs place
other cs zero c e l = record { at = 1; decl = slice_index_or cs 1 c; there = slice_get-get_or cs 1 c (omega (arith, l)); apart = λ f. omega (arith, f) }
other cs (suc p) c e l = record { at = 0; decl = slice_index_or cs 0 c; there = slice_get-get_or cs 0 c (omega (arith, l)); apart = λ f. omega (arith, f) }

-- one alternative for one of several constructors leaves another out
not_all : Facts → (datas : List Data) (c : ConId) (k : ℕ) (e : TermTree) → by_fields (is_only (con_at datas c.number)) k e ≡ looks → ForAll datas (alt (OfCon c k) e no_alts) → ⊥
not_all facts datas c k e f all = elim all.has [ inl is ↦ by is | inr none ↦ absurd none ]
  where
    by : all.con ≡ c.number → ⊥
    by is =
        let at : con_at datas c.number ≡ Some all.it = ap (λ n. con_at datas n) (sym is) ∙ all.is in
        let place : HasPlace datas all.con all.it = facts.constructors.has_place datas all.con all.it all.is in
        let within = slice_get_within all.it.it.cons place.place all.it.decl place.in_cons in
        let two = several k (length all.it.it.cons) e (sym (ap (λ o. by_fields (is_only o) k e) at) ∙ f) (omega (arith, within)) in
        let o : Other all.it.it.cons place.place = other all.it.it.cons place.place all.it.decl place.in_cons two in
        let con : Constructor = record { of = all.it.of; it = all.it.it; decl = o.decl } in
        let number : ℕ = first_con datas all.it.of + o.at in
        let there : con_at datas number ≡ Some con = facts.constructors.at_place datas number con (record { place = o.at; in_datas = place.in_datas; in_cons = o.there; number = refl }) in
        elim (all.each number con there refl) [
          | inl same ↦ let first = place.number in let apart = o.apart in absurd (apart (omega (arith, same, first, is)))
          | inr none ↦ absurd none
        ]

pub looks_have_several : Facts → (datas : List Data) (alts : Alts) → IsCovered datas alts → choice datas alts ≡ looks → 2 ≤ alts_count alts
looks_have_several facts datas no_alts (inl default) is = absurd default
looks_have_several facts datas no_alts (inr all) is = absurd all.has
looks_have_several facts datas (alt q e (alt r f more)) covered is = omega arith
looks_have_several facts datas (alt Default e no_alts) covered is = absurd cc
looks_have_several facts datas (alt (OfLit s bits) e no_alts) (inl default) is = absurd default
looks_have_several facts datas (alt (OfLit s bits) e no_alts) (inr all) is = absurd all.has
looks_have_several facts datas (alt (OfCon c k) e no_alts) (inl default) is = absurd default
looks_have_several facts datas (alt (OfCon c k) e no_alts) (inr all) is = absurd (not_all facts datas c k e is all)
