-- A case carries what the alternative for the bits of its scrutinee carries, whichever way it goes.
use Rattle.std.specs.Prelude.{take, if◌then◌else◌, ◌==◌, ◌-◌}
use Rattle.std.proofs.Common.{◌≡◌, ℕ, suc, zero, Bool, true, false, List, [], ◌∷◌, length, Some, refl, sym, ap, ◌∙◌, subst}
use Rattle.std.proofs.lemmas.Bool.{eqb-true}
use Rattle.std.proofs.lemmas.List.{length-map}
use Rattle.chw_bits.specs.Bits.{bits_of}
use Rattle.chw_base.specs.declared.index.ConId.{ConId}
use Rattle.chw_types.specs.declared.kind.Scalar.{Scalar}
use Rattle.chw_types.specs.declared.declarations.Data.{Data}
use Rattle.chw_types.specs.SamePromises.{natural_value}
use Rattle.chw_types.specs.TypeTree.{TypeTree, nat_lit, data_of, TypeTrees}
use Rattle.chw_types.specs.TypeMoves.{sub}
use Rattle.chw_types.specs.Arguments.{arguments}
use Rattle.chw_terms.specs.Constructors.{Constructor, con_at}
use Rattle.chw_terms.specs.declared.program.Program.{Program}
use Rattle.chw_terms.specs.declared.term.Pattern.{Pattern}
use Rattle.chw_terms.specs.declared.term.Pattern.TheVariants.{OfCon, OfLit, Default}
use Rattle.chw_terms.specs.TermTree.{TermTree, case_of, Alts, no_alts, alt}
use Rattle.chw_typing.specs.HeadTypes.{fields_at, PatternOf, of_con, of_lit, of_any}
use Rattle.chw_layout.specs.Encodes.{first_constructor}
use Rattle.chw_layout.specs.Measured.{closed_value, tag_width}
use Rattle.chw_layout.proofs.Encodings.{BitsMean}
use Rattle.chw_layout.proofs.Fitting.{scalar_width}
use Rattle.layout_laws.specs.SameLayout.{SameNumber}
use Rattle.chw_meaning.specs.Zeros.{IsWide}
use Rattle.chw_meaning.specs.Values.{History, Thunk, closed, field, Thunks, none, thunk_and, count_of, joined, fields_from}
use Rattle.chw_meaning.specs.Eval.{takes, looks, choice, is_only, by_fields, same_bits}
use Rattle.chw_meaning.proofs.Once.{same_some}
use Rattle.chw_meaning.proofs.ZerosEncoded.{no_bits}
use Rattle.carrying.specs.Carrying.{tag_of, Shows}
use Rattle.carrying.specs.DataLaws.{Parts, no_parts, CarryParts, carry_no_part, tag_in, behind_tag, has_tag, is_for, behind_con, behind, Taken, taken, AreFor}
use Rattle.carrying.proofs.Cases.{goes_on_shows, takes_shows, same_itself, looks_shows}
use Rattle.carrying.proofs.Data.{fields_carry}
use Rattle.carrying.proofs.Widths.{shown_length}
use Rattle.carrying.proofs.Yields.{shown_width}

-- fields of a thunk before others
joined_fields : (i k : ℕ) (th : Thunk) (γ : Thunks) → joined (fields_from i k th none) γ ≡ fields_from i k th γ
joined_fields i zero th γ = refl
joined_fields i (suc k) th γ = ap (thunk_and (field i th)) (joined_fields (suc i) k th γ)

count_from : (i k : ℕ) (th : Thunk) → count_of (fields_from i k th none) ≡ k
count_from i zero th = refl
count_from i (suc k) th = ap suc (count_from (suc i) k th)

abbrev one_of : Pattern → TermTree → Taken
one_of q e = record { pattern = q; body = e }

-- the only constructor of a data type has no tag
no_tag : (datas : List Data) (c : ℕ) (it : Constructor) → con_at datas c ≡ Some it → is_only (con_at datas c) ≡ true → tag_width (length it.it.cons) ≡ 0
no_tag datas c it at only =
    let one : (length it.it.cons == 1) ≡ true = sym (ap is_only at) ∙ only in
    ap tag_width (eqb-true (length it.it.cons) 1 one)

only_begins : (datas : List Data) (c : ℕ) (it : Constructor) (x : List Bool) → tag_width (length it.it.cons) ≡ 0 → tag_in it x ≡ tag_of datas c it
only_begins datas c it x bare = ap (λ k. take k x) bare ∙ sym (ap (λ k. bits_of k (c - first_constructor datas it.of)) bare)

zero_number : closed_value (nat_lit 0) ≡ 0
unfolding natural_value
zero_number = refl

-- what an empty literal is for has no bits
empty_word : {p : Program} {u : TypeTree} {s : Scalar} {fields : List TypeTree} {th : Thunk} {h : History} {x : List Bool} → SameNumber → PatternOf p.datas u (OfLit s []) fields → Shows p u th h x → x ≡ []
empty_word {x = x} same (of_lit {w = w} l e) shown =
    let has = shown_width shown in
    no_bits x (shown_length shown has.1 ∙ scalar_width has.1 ∙ same w (nat_lit 0) e ∙ zero_number)

nothing_of_default : {datas : List Data} {u : TypeTree} {fields : List TypeTree} → PatternOf datas u Default fields → fields ≡ []
nothing_of_default of_any = refl

nothing_of_literal : {datas : List Data} {u : TypeTree} {s : Scalar} {a : List Bool} {fields : List TypeTree} → PatternOf datas u (OfLit s a) fields → fields ≡ []
nothing_of_literal (of_lit l e) = refl

only_is_for : (p : Program) (u : TypeTree) (c : ConId) (n : ℕ) (x : List Bool) (fields : List TypeTree) → is_only (con_at p.datas c.number) ≡ true → PatternOf p.datas u (OfCon c n) fields → is_for p.datas x (OfCon c n) ≡ true
only_is_for p u c n x fields only (of_con it at of size) =
    let begins = only_begins p.datas c.number it x (no_tag p.datas c.number it at only) in
    ap (λ o. has_tag p.datas c.number o x) at
    ∙ ap (λ y. same_bits y (tag_of p.datas c.number it)) begins
    ∙ same_itself (tag_of p.datas c.number it)

-- what the body of an alternative carries
abbrev BodyCarries : Program → TypeTree → Thunks → TypeTrees → List Bool → Taken → List TypeTree → List (List Bool) → Type 0
BodyCarries p t γ δ b a fields parts =
    (ths : Thunks) → count_of ths ≡ length fields → CarryParts p fields ths parts → (h : History) → Shows p t (closed a.body (joined ths γ) δ) h b

-- that of one that binds nothing
bare_shows : (p : Program) (t : TypeTree) (γ : Thunks) (δ : TypeTrees) (b x : List Bool) (a : Taken) (fields : List TypeTree) (parts : List (List Bool)) (h : History) → fields ≡ [] → Parts p.datas fields x parts → BodyCarries p t γ δ b a fields parts → Shows p t (closed a.body γ δ) h b
bare_shows p t γ δ b x a [] parts h nothing no_parts body = body none refl carry_no_part h
bare_shows p t γ δ b x a (f ∷ fields) parts h nothing ps body = absurd (cc)

-- that of the only constructor, on the fields of the scrutinee
only_shows : (p : Program) (u t : TypeTree) (s e : TermTree) (c : ConId) (n : ℕ) (γ : Thunks) (δ : TypeTrees) (b x : List Bool) (fields : List TypeTree) (parts : List (List Bool)) (h : History) → BitsMean → is_only (con_at p.datas c.number) ≡ true → ((h : History) → Shows p u (closed s γ δ) h x) → PatternOf p.datas u (OfCon c n) fields → Parts p.datas fields (behind p.datas (OfCon c n) x) parts → BodyCarries p t γ δ b (one_of (OfCon c n) e) fields parts → Shows p t (closed e (fields_from zero n (closed s γ δ) γ) δ) h b
only_shows p u t s e c n γ δ b x fields parts h mean only shown (of_con {ts = ts} it at of size) ps body =
    let th = closed s γ δ in
    let begins = only_begins p.datas c.number it x (no_tag p.datas c.number it at only) in
    let parts_behind : Parts p.datas (fields_at it ts) (behind_tag it x) parts = subst (λ o. Parts p.datas (fields_at it ts) (behind_con o x) parts) at ps in
    let whole : (h : History) → Shows p (data_of it.of ts) th h x = λ h. subst (λ d. Shows p (data_of d ts) th h x) (sym of) (shown h) in
    let carry = fields_carry p c.number it ts th x parts mean at whole begins parts_behind in
    let k = length (fields_at it ts) in
    let many : k ≡ n = length-map it.decl.fields (λ f. sub f (arguments ts)) ∙ size in
    let env : joined (fields_from zero k th none) γ ≡ fields_from zero n th γ = joined_fields zero k th γ ∙ ap (λ k. fields_from zero k th γ) many in
    subst (λ η. Shows p t (closed e η δ) h b) env (body (fields_from zero k th none) (count_from zero k th) carry h)

pub case_carries : (p : Program) (u t : TypeTree) (s : TermTree) (alts : Alts) (a : Taken) (fields : List TypeTree) (γ : Thunks) (δ : TypeTrees) (x b : List Bool) (parts : List (List Bool)) → BitsMean → SameNumber → (choice p.datas alts ≡ looks → IsWide p.datas u) → AreFor p.datas u alts → ((h : History) → Shows p u (closed s γ δ) h x) → taken p.datas x alts ≡ Some a → PatternOf p.datas u a.pattern fields → Parts p.datas fields (behind p.datas a.pattern x) parts → BodyCarries p t γ δ b a fields parts → (h : History) → Shows p t (closed (case_of s alts) γ δ) h b
case_carries p u t s no_alts a fields γ δ x b parts mean same wide are shown found of ps body h = absurd (cc)
case_carries p u t s (alt (OfCon c n) e more) a fields γ δ x b parts mean same wide are shown found of ps body h =
    split (is_only (con_at p.datas c.number)) refl
  where
    alts : Alts
    alts = alt (OfCon c n) e more

    one : Taken
    one = one_of (OfCon c n) e

    split : (o : Bool) → is_only (con_at p.datas c.number) ≡ o → Shows p t (closed (case_of s alts) γ δ) h b
    split true only =
        let is : choice p.datas alts ≡ takes n e = ap (λ o. by_fields o n e) only in
        let test = only_is_for p u c n x are.0.0 only are.0.1 in
        let first : one ≡ a = same_some (ap (λ o. if o then Some one else taken p.datas x more) test) found in
        takes_shows p t s e n alts γ δ h b is
        (subst (λ (a : Taken). PatternOf p.datas u a.pattern fields → Parts p.datas fields (behind p.datas a.pattern x) parts → BodyCarries p t γ δ b a fields parts → Shows p t (closed e (fields_from zero n (closed s γ δ) γ) δ) h b) first
        (only_shows p u t s e c n γ δ b x fields parts h mean only shown) of ps body)
    split false several =
        let is : choice p.datas alts ≡ looks = ap (λ o. by_fields o n e) several in
        looks_shows p u t s alts a fields γ δ h x b parts mean is (wide is) are (shown h) found of ps (λ ths many cs. body ths many cs h)
case_carries p u t s (alt (OfLit sort []) e more) a fields γ δ x b parts mean same wide are shown found of ps body h =
    let one = one_of (OfLit sort []) e in
    let test : is_for p.datas x (OfLit sort []) ≡ true = ap (λ y. same_bits y []) (empty_word same are.0.1 (shown h)) in
    let first : one ≡ a = same_some (ap (λ o. if o then Some one else taken p.datas x more) test) found in
    goes_on_shows p t s e (alt (OfLit sort []) e more) γ δ h b refl
    (subst (λ (a : Taken). PatternOf p.datas u a.pattern fields → Parts p.datas fields (behind p.datas a.pattern x) parts → BodyCarries p t γ δ b a fields parts → Shows p t (closed e γ δ) h b) first
    (λ of ps body. bare_shows p t γ δ b x one fields parts h (nothing_of_literal of) ps body) of ps body)
case_carries p u t s (alt (OfLit sort (y ∷ ys)) e more) a fields γ δ x b parts mean same wide are shown found of ps body h =
    looks_shows p u t s (alt (OfLit sort (y ∷ ys)) e more) a fields γ δ h x b parts mean refl (wide refl) are (shown h) found of ps (λ ths many cs. body ths many cs h)
case_carries p u t s (alt Default e no_alts) a fields γ δ x b parts mean same wide are shown found of ps body h =
    let one = one_of Default e in
    let first : one ≡ a = same_some refl found in
    goes_on_shows p t s e (alt Default e no_alts) γ δ h b refl
    (subst (λ (a : Taken). PatternOf p.datas u a.pattern fields → Parts p.datas fields (behind p.datas a.pattern x) parts → BodyCarries p t γ δ b a fields parts → Shows p t (closed e γ δ) h b) first
    (λ of ps body. bare_shows p t γ δ b x one fields parts h (nothing_of_default of) ps body) of ps body)
case_carries p u t s (alt Default e (alt r f rest)) a fields γ δ x b parts mean same wide are shown found of ps body h =
    looks_shows p u t s (alt Default e (alt r f rest)) a fields γ δ h x b parts mean refl (wide refl) are (shown h) found of ps (λ ths many cs. body ths many cs h)
