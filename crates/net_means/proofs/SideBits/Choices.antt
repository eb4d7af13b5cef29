-- The alternative that the meaning of a case takes is the one that its cells take.
use Rattle.std.specs.Prelude.{take, option_map, unwrap_or, if◌then◌else◌, ◌==◌, ◌-◌, ◌^◌}
use Rattle.std.proofs.Common.{◌≡◌, ◌≤◌, ◌<◌, ◌⊎◌, inl, inr, ℕ, zero, suc, Bool, true, false, List, [], ◌∷◌, length, Some, slice_get, refl, sym, ap, ◌∙◌, subst, arith, take_all}
use Rattle.chw_base.specs.declared.index.ConId.{ConId}
use Rattle.chw_base.specs.declared.index.WireId.{WireId}
use Rattle.chw_bits.specs.Bits.{bits_of}
use Rattle.chw_types.specs.declared.declarations.ConDecl.{ConDecl}
use Rattle.chw_types.specs.declared.declarations.Data.{Data}
use Rattle.chw_types.specs.declared.kind.Scalar.{Scalar}
use Rattle.chw_types.specs.SamePromises.{SameValues, natural_value}
use Rattle.chw_types.specs.SameTypes.{SameTypes}
use Rattle.chw_types.specs.TypeTree.{TypeTree, nat_lit, scalar, data_of}
use Rattle.chw_terms.specs.Constructors.{con_at}
use Rattle.chw_terms.specs.declared.term.Pattern.{Pattern}
use Rattle.chw_terms.specs.declared.term.Pattern.TheVariants.{OfCon, OfLit, Default}
use Rattle.chw_terms.specs.TermTree.{TermTree, Alts, no_alts, alt}
use Rattle.chw_typing.specs.Alternatives.{HidesNone, NoneHidden}
use Rattle.chw_typing.specs.HeadTypes.{PatternOf, of_con, of_lit, of_any, widest}
use Rattle.chw_layout.specs.Encodes.{first_constructor}
use Rattle.chw_layout.specs.Measured.{tag_width, HasWidth}
use Rattle.chw_meaning.specs.Eval.{looks, choice, is_only, by_fields, same_bits}
use Rattle.chw_meaning.specs.Zeros.{IsWide}
use Rattle.carrying.specs.DataLaws.{has_tag, is_for, Taken, AreFor, taken}
use Rattle.net_built.specs.Data.{Tested, tested_of, word_of, words_of, constructor_count}
use Rattle.cell_bits.specs.ChoiceLaws.{AreWide, IsTaken}
use Rattle.net_grounds.specs.Facts.{Facts}
use Rattle.net_means.proofs.Lists.{same_some, length-bits_of}
use Rattle.net_means.specs.SideBits.Cases.{alts_count, IsFirst, first_here, first_later}

are_same : (a b : List Bool) → same_bits a b ≡ true → a ≡ b
are_same [] [] e = refl
are_same [] (y ∷ b) e = absurd (cc)
are_same (x ∷ a) [] e = absurd (cc)
are_same (true ∷ a) (true ∷ b) e = ap (λ c. true ∷ c) (are_same a b e)
are_same (true ∷ a) (false ∷ b) e = absurd (cc)
are_same (false ∷ a) (true ∷ b) e = absurd (cc)
are_same (false ∷ a) (false ∷ b) e = ap (λ c. false ∷ c) (are_same a b e)

abbrev one_of : Pattern → TermTree → Taken
one_of q e = record { pattern = q; body = e }

pub first_taken : {datas : List Data} {x : List Bool} {alts : Alts} {k : ℕ} {a : Taken} → IsFirst datas x alts k a → taken datas x alts ≡ Some a
first_taken {datas} {x} (first_here {q = q} {e = e} {more = more} holds) = ap (λ b. if b then Some (one_of q e) else taken datas x more) holds
first_taken {datas} {x} (first_later {q = q} {e = e} {more = more} fails rest) = ap (λ b. if b then Some (one_of q e) else taken datas x more) fails ∙ first_taken rest

pub taken_first : (datas : List Data) (x : List Bool) (alts : Alts) (a : Taken) → taken datas x alts ≡ Some a → (k : ℕ) × IsFirst datas x alts k a
taken_first datas x no_alts a f = absurd cc
taken_first datas x (alt q e more) a f = split (taken_first datas x more a) (is_for datas x q) refl
  where
    split : (taken datas x more ≡ Some a → (k : ℕ) × IsFirst datas x more k a) → (b : Bool) → is_for datas x q ≡ b → (k : ℕ) × IsFirst datas x (alt q e more) k a
    split others true holds =
        let is : one_of q e ≡ a = same_some (ap (λ b. if b then Some (one_of q e) else taken datas x more) holds) f in
        (zero, subst (λ (a : Taken). IsFirst datas x (alt q e more) zero a) is (first_here holds))
    split others false fails =
        let rest = others (sym (ap (λ b. if b then Some (one_of q e) else taken datas x more) fails) ∙ f) in
        (suc rest.0, first_later fails rest.1)

abbrev IsNoDefault : Pattern → Type 0
IsNoDefault Default = ⊥
IsNoDefault _ = Unit {0}

-- a default hides what stands behind it
no_default : (q r : Pattern) (f : TermTree) (more : Alts) → HidesNone q (alt r f more) → IsNoDefault q
no_default Default r f more none = absurd (none.0 tt)
no_default (OfCon c n) r f more none = tt
no_default (OfLit s a) r f more none = tt

-- a pattern is for bits whose tested bits are its word, which has as many
record Told (datas : List Data) (x tested : List Bool) (tag first : ℕ) (q : Pattern) : Type 0 where
  wide : length (word_of tag first q) ≡ tag
  tells : is_for datas x q ≡ same_bits tested (word_of tag first q)

module _ (facts : Facts) (values : SameValues) (datas : List Data) (whole n : ℕ) (wires : List WireId) where
  literal_width : (s : Scalar) (w : TypeTree) (bits : List Bool) → length bits ≤ widest → SameTypes w (nat_lit (length bits)) → HasWidth datas (scalar s w) whole → length bits ≡ whole
  unfolding natural_value
  literal_width s w bits l e has =
      let width = facts.widths.scalar_width has in
      let number = facts.same_layout.same_number values e in
      omega (arith, width, number, l)

  told : {u : TypeTree} {q : Pattern} {fields : List TypeTree} (x : List Bool) → PatternOf datas u q fields → IsNoDefault q → HasWidth datas u whole → length x ≡ whole → Told datas x (take (tested_of datas u whole n wires).bits x) (tested_of datas u whole n wires).bits (tested_of datas u whole n wires).first q
  told x (of_con {d = d} {n = k} {c = c} {ts = ts} it at of count) free has size =
      let place = facts.constructors.is_constructor datas c.number it at in
      let here : slice_get datas d ≡ Some it.it = subst (λ d. slice_get datas d ≡ Some it.it) of place.data_type in
      let many : constructor_count datas d ≡ length it.it.cons = ap (λ o. unwrap_or (option_map (λ (it : Data). length it.cons) o) 0) here in
      record {
        wide = length-bits_of (tag_width (constructor_count datas d)) (c.number - first_constructor datas d);
        tells = ap (λ o. has_tag datas c.number o x) at
            ∙ (λ i. same_bits (take (tag_width (sym many i)) x) (bits_of (tag_width (sym many i)) (c.number - first_constructor datas (of i))));
      }
  told x (of_lit {s = s} {w = w} {bits = bits} l e) free has size =
      record {
        wide = literal_width s w bits l e has;
        tells = ap (λ y. same_bits y bits) (sym (take_all whole x (omega (arith, size))));
      }
  told x of_any free has size = absurd free

  -- the words that are tested
  pub words_wide : {u : TypeTree} (x : List Bool) (alts : Alts) → AreFor datas u alts → NoneHidden alts → HasWidth datas u whole → length x ≡ whole → AreWide (tested_of datas u whole n wires).bits (words_of (tested_of datas u whole n wires).bits (tested_of datas u whole n wires).first alts)
  words_wide x no_alts are none has size = tt
  words_wide x (alt q e no_alts) are none has size = tt
  words_wide x (alt q e (alt r f more)) are none has size =
      ((told x are.0.1 (no_default q r f more none.0) has size).wide, words_wide x (alt r f more) are.1 none.1 has size)

  next : {A : Type 0} (x y : A) (xs : List A) (k c : ℕ) → (slice_get xs k ≡ Some x) ⊎ (suc k ≡ c) → (slice_get (y ∷ xs) (suc k) ≡ Some x) ⊎ (suc (suc k) ≡ suc c)
  next x y xs k c (inl e) = inl e
  next x y xs k c (inr e) = inr (ap suc e)

  pub first_chosen : {u : TypeTree} {k : ℕ} {a : Taken} (x : List Bool) (alts : Alts) → AreFor datas u alts → NoneHidden alts → HasWidth datas u whole → length x ≡ whole → IsFirst datas x alts k a
      → IsTaken (take (tested_of datas u whole n wires).bits x) (words_of (tested_of datas u whole n wires).bits (tested_of datas u whole n wires).first alts) (alts_count alts) k
  first_chosen x no_alts are none has size first = elim first [ ]
  first_chosen x (alt q e no_alts) are none has size (first_here holds) = record { none_before = λ i l f. omega (arith, l); own_or_last = inr refl }
  first_chosen x (alt q e no_alts) are none has size (first_later fails rest) = elim rest [ ]
  first_chosen x (alt q e (alt r f more)) are none has size (first_here holds) =
      let tells = told x are.0.1 (no_default q r f more none.0) has size in
      record { none_before = λ i l f. omega (arith, l); own_or_last = inl (ap (λ w. Some w) (sym (are_same _ _ (sym tells.tells ∙ holds)))) }
  first_chosen {u} x (alt q e (alt r f more)) are none has size (first_later {k = k} fails rest) =
      let on : Tested = tested_of datas u whole n wires in
      let tells = told x are.0.1 (no_default q r f more none.0) has size in
      let later = first_chosen x (alt r f more) are.1 none.1 has size rest in
      record { none_before = before on tells.tells later.none_before; own_or_last = next (take on.bits x) (word_of on.bits on.first q) (words_of on.bits on.first (alt r f more)) k (alts_count (alt r f more)) later.own_or_last }
    where
      before : (on : Tested) → is_for datas x q ≡ same_bits (take on.bits x) (word_of on.bits on.first q)
          → ((i : ℕ) → i < k → ¬ (slice_get (words_of on.bits on.first (alt r f more)) i ≡ Some (take on.bits x)))
          → (i : ℕ) → i < suc k → ¬ (slice_get (words_of on.bits on.first (alt q e (alt r f more))) i ≡ Some (take on.bits x))
      before on tells others zero l g =
          let word : word_of on.bits on.first q ≡ take on.bits x = cc in
          let holds : is_for datas x q ≡ true = tells ∙ ap (λ w. same_bits (take on.bits x) w) word ∙ facts.cases.same_itself (take on.bits x) in
          let wrong : true ≡ false = sym holds ∙ fails in
          cc
      before on tells others (suc i) l g = others i (omega (arith, l)) g

-- what is tested is no wider than the whole
pub tested_within : Facts → (datas : List Data) (u : TypeTree) (whole n : ℕ) (wires : List WireId) → HasWidth datas u whole → (tested_of datas u whole n wires).bits ≤ whole
tested_within facts datas (data_of d ts) whole n wires has =
    let of = facts.measures.data_measured has in
    let many : constructor_count datas d ≡ length of.it.cons = ap (λ o. unwrap_or (option_map (λ (it : Data). length it.cons) o) 0) of.known in
    let parts = facts.widths.cons_width of.it of.known has in
    let is = parts.is in
    let tag = ap tag_width many in
    omega (arith, is, tag)
tested_within facts datas _ whole n wires has = omega arith

some_con : (cs : List ConDecl) (i : ℕ) (c : ConDecl) → slice_get cs i ≡ Some c → 0 < length cs
some_con [] i c e = absurd cc
some_con (x ∷ cs) i c e = omega arith

-- a case looks at bits only where there are some
module _ (facts : Facts) (values : SameValues) (datas : List Data) where
  con_wide : {u : TypeTree} {fields : List TypeTree} (c : ConId) (k : ℕ) → PatternOf datas u (OfCon c k) fields → HasWidth datas u 0 → is_only (con_at datas c.number) ≡ true
  con_wide c k (of_con {d = d} {ts = ts} it at of count) has =
      let place = facts.constructors.is_constructor datas c.number it at in
      let here : slice_get datas d ≡ Some it.it = subst (λ d. slice_get datas d ≡ Some it.it) of place.data_type in
      let parts = facts.widths.cons_width it.it here has in
      let is = parts.is in
      let bare : tag_width (length it.it.cons) ≡ 0 = omega (arith, is) in
      let few : length it.it.cons ≤ 2 ^ 0 = subst (λ t. length it.it.cons ≤ 2 ^ t) bare (facts.encodings.tag_suffices (length it.it.cons)) in
      let some = some_con it.it.cons place.place it.decl place.decl in
      let one : length it.it.cons ≡ 1 = omega (arith, few, some) in
      ap is_only at ∙ ap (λ n. n == 1) one

  literal_wide : {u : TypeTree} {fields : List TypeTree} {s : Scalar} {bit : Bool} {bits : List Bool} → PatternOf datas u (OfLit s (bit ∷ bits)) fields → HasWidth datas u 0 → ⊥
  literal_wide {s = s} {bit = bit} {bits = bits} (of_lit {w = w} l e) has = let long = literal_width facts values datas 0 0 [] s w (bit ∷ bits) l e has in omega (arith, long)

  pub looks_wide : {u : TypeTree} (whole : ℕ) (alts : Alts) → AreFor datas u alts → NoneHidden alts → HasWidth datas u whole → 0 < alts_count alts → choice datas alts ≡ looks → IsWide datas u
  looks_wide (suc w) alts are none has some is = (w, has)
  looks_wide zero no_alts are none has some is = absurd (omega (arith, some))
  looks_wide zero (alt (OfCon c k) e more) are none has some is =
      let takes = ap (λ b. by_fields b k e) (con_wide c k are.0.1 has) in
      absurd (cc)
  looks_wide zero (alt (OfLit s []) e more) are none has some is = absurd (cc)
  looks_wide zero (alt (OfLit s (bit ∷ bits)) e more) are none has some is = absurd (literal_wide are.0.1 has)
  looks_wide zero (alt Default e no_alts) are none has some is = absurd (cc)
  looks_wide zero (alt Default e (alt r f more)) are none has some is = absurd (none.0.0 tt)

pub first_some : {datas : List Data} {x : List Bool} {alts : Alts} {k : ℕ} {a : Taken} → IsFirst datas x alts k a → 0 < alts_count alts
first_some (first_here holds) = omega arith
first_some (first_later fails rest) = omega arith
