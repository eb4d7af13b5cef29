-- A case shows what the alternative for the bits of its scrutinee shows.
use Rattle.std.specs.Prelude.{if◌then◌else◌, ◌==◌}
use Rattle.std.proofs.Common.{◌≡◌, ℕ, suc, zero, Bool, true, false, List, [], ◌∷◌, length, Some, refl, sym, ap, ◌∙◌, subst, arith}
use Rattle.std.proofs.lemmas.Bool.{eqb-true, eq-eqb}
use Rattle.std.proofs.lemmas.List.{length-map}
use Rattle.chw_types.specs.declared.declarations.Data.{Data}
use Rattle.chw_types.specs.TypeTree.{TypeTree, TypeTrees}
use Rattle.chw_types.specs.TypeMoves.{sub}
use Rattle.chw_types.specs.Arguments.{arguments}
use Rattle.chw_terms.specs.Constructors.{con_at}
use Rattle.chw_terms.specs.declared.program.Program.{Program}
use Rattle.chw_terms.specs.declared.term.Pattern.{Pattern}
use Rattle.chw_terms.specs.declared.term.Pattern.TheVariants.{OfCon, Default}
use Rattle.chw_terms.specs.TermTree.{TermTree, case_of, Alts, no_alts, alt}
use Rattle.chw_typing.specs.HeadTypes.{fields_at, PatternOf, of_con, of_lit, of_any}
use Rattle.chw_layout.proofs.Encodings.{BitsMean}
use Rattle.chw_meaning.specs.Zeros.{IsWide}
use Rattle.chw_meaning.specs.Values.{History, Value, bits, closed, Thunks, count_of, joined, fields_from}
use Rattle.chw_meaning.specs.Eval.{plus, goes_on, takes, looks, choice, same_bits, matches, bound, Arm, arm_of, e_goes_on, e_takes, e_looks}
use Rattle.chw_meaning.proofs.Once.{same_some}
use Rattle.chw_meaning.proofs.Widths.{width_once}
use Rattle.carrying.specs.Carrying.{tag_of, Holds, holds_word, holds_built, Shows, shows_nothing, shows_bits}
use Rattle.carrying.specs.DataLaws.{Parts, no_parts, CarryParts, carry_no_part, tag_in, behind_tag, has_tag, is_for, behind_con, behind, Taken, taken, AreFor}
use Rattle.carrying.proofs.Data.{parts_carried, is_built, same_con, tag_first}
use Rattle.carrying.proofs.Terms.{evals_through, opened}

pub goes_on_shows : (p : Program) (t : TypeTree) (s e : TermTree) (alts : Alts) (γ : Thunks) (δ : TypeTrees) (h : History) (b : List Bool) → choice p.datas alts ≡ goes_on e → Shows p t (closed e γ δ) h b → Shows p t (closed (case_of s alts) γ δ) h b
goes_on_shows p t s e alts γ δ h b is shown = evals_through (λ n v d. (suc n, e_goes_on is d)) shown

pub takes_shows : (p : Program) (t : TypeTree) (s e : TermTree) (n : ℕ) (alts : Alts) (γ : Thunks) (δ : TypeTrees) (h : History) (b : List Bool) → choice p.datas alts ≡ takes n e → Shows p t (closed e (fields_from zero n (closed s γ δ) γ) δ) h b → Shows p t (closed (case_of s alts) γ δ) h b
takes_shows p t s e n alts γ δ h b is shown = evals_through (λ m v d. (suc m, e_takes is d)) shown

-- the test of bits answers whether they are the same
pub same_itself : (b : List Bool) → same_bits b b ≡ true
same_itself [] = refl
same_itself (true ∷ b) = same_itself b
same_itself (false ∷ b) = same_itself b

are_same : (a b : List Bool) → same_bits a b ≡ true → a ≡ b
are_same [] [] e = refl
are_same [] (y ∷ b) e = absurd (cc)
are_same (x ∷ a) [] e = absurd (cc)
are_same (true ∷ a) (true ∷ b) e = ap (λ c. true ∷ c) (are_same a b e)
are_same (true ∷ a) (false ∷ b) e = absurd (cc)
are_same (false ∷ a) (true ∷ b) e = absurd (cc)
are_same (false ∷ a) (false ∷ b) e = ap (λ c. false ∷ c) (are_same a b e)

-- answers that follow from each other are the same
both_ways : (x y : Bool) → (x ≡ true → y ≡ true) → (y ≡ true → x ≡ true) → x ≡ y
both_ways true y f g = sym (f refl)
both_ways false true f g = g refl
both_ways false false f g = refl

-- a pattern is for a value just where it is for its bits
pub matched : (p : Program) (u : TypeTree) (v : Value) (x : List Bool) (q : Pattern) (fields : List TypeTree) → BitsMean → Holds p u v x → PatternOf p.datas u q fields → matches v q ≡ is_for p.datas x q
matched p u v x q fields mean held of_any = any v
  where
    any : (v : Value) → matches v Default ≡ true
    any v = refl
matched p u v x q fields mean (holds_word l) (of_lit {bits = a} i e) = refl
matched p u v x q fields mean (holds_built {c = i} {w = w} {it = other} {b = b} held of' many fs own) (of_con {c = c} it at of size) =
    let same_of : other.of ≡ it.of = of' ∙ sym of in
    let tag = tag_first p.datas i c.number other it w b held at same_of in
    let read : has_tag p.datas c.number (con_at p.datas c.number) x ≡ same_bits (tag_in it x) (tag_of p.datas c.number it) = ap (λ o. has_tag p.datas c.number o x) at in
    both_ways (i == c.number) (same_bits (tag_in it x) (tag_of p.datas c.number it))
    (λ e.
    let number : i ≡ c.number = eqb-true i c.number e in
    let same : other ≡ it = same_some held (ap (con_at p.datas) number ∙ at) in
    let tags : tag_of p.datas i other ≡ tag_of p.datas c.number it = λ k. tag_of p.datas (number k) (same k) in
    ap (λ a. same_bits a (tag_of p.datas c.number it)) (tag ∙ tags) ∙ same_itself (tag_of p.datas c.number it))
    (λ e. eq-eqb i c.number (same_con p.datas i c.number other it mean held at same_of (sym tag ∙ are_same (tag_in it x) (tag_of p.datas c.number it) e)))
    ∙ sym read

-- the arm of a value is that of the alternative for its bits
arm_taken : (p : Program) (u : TypeTree) (v : Value) (x : List Bool) (alts : Alts) (a : Taken) → BitsMean → Holds p u v x → AreFor p.datas u alts → taken p.datas x alts ≡ Some a → arm_of v alts ≡ Some (record { fields = bound v a.pattern; body = a.body })
arm_taken p u v x no_alts a mean held are e = absurd (cc)
arm_taken p u v x (alt q e more) a mean held are found =
    split (is_for p.datas x q) refl (λ later. arm_taken p u v x more a mean held are.1 later)
  where
    first : Arm
    first = record { fields = bound v q; body = e }

    one : Taken
    one = record { pattern = q; body = e }

    split : (b : Bool) → is_for p.datas x q ≡ b → (taken p.datas x more ≡ Some a → arm_of v more ≡ Some (record { fields = bound v a.pattern; body = a.body })) → arm_of v (alt q e more) ≡ Some (record { fields = bound v a.pattern; body = a.body })
    split true is others =
        let hit : matches v q ≡ true = matched p u v x q are.0.0 mean held are.0.1 ∙ is in
        let same : one ≡ a = same_some (ap (λ b. if b then Some one else taken p.datas x more) is) found in
        ap (λ b. if b then Some first else arm_of v more) hit
        ∙ ap (λ (a : Taken). Some (record { fields = bound v a.pattern; body = a.body })) same
    split false is others =
        let miss : matches v q ≡ false = matched p u v x q are.0.0 mean held are.0.1 ∙ is in
        ap (λ b. if b then Some first else arm_of v more) miss
        ∙ others (sym (ap (λ b. if b then Some one else taken p.datas x more) is) ∙ found)

-- what a pattern binds of a value carries the parts of its bits
record BoundParts (p : Program) (fields : List TypeTree) (ths : Thunks) (parts : List (List Bool)) : Type 0 where
  many : count_of ths ≡ length fields
  carry : CarryParts p fields ths parts

bound_parts : (p : Program) (u : TypeTree) (v : Value) (x : List Bool) (q : Pattern) (fields : List TypeTree) (parts : List (List Bool)) → BitsMean → Holds p u v x → PatternOf p.datas u q fields → is_for p.datas x q ≡ true → Parts p.datas fields (behind p.datas q x) parts → BoundParts p fields (bound v q) parts
bound_parts p u v x q fields parts mean held of_any e no_parts = any v
  where
    any : (v : Value) → BoundParts p [] (bound v Default) []
    any (bits b) = record { many = refl; carry = carry_no_part }
    any v = record { many = refl; carry = carry_no_part }
bound_parts p u v x q fields parts mean (holds_word l) (of_lit i f) e no_parts = record { many = refl; carry = carry_no_part }
bound_parts p u v x q fields parts mean held (of_con {d = d} {n = n} {c = c} {ts = ts} it at of size) e ps =
    let tag : has_tag p.datas c.number (Some it) x ≡ true = sym (ap (λ o. has_tag p.datas c.number o x) at) ∙ e in
    let b = is_built p c.number d it ts v x mean at of held (are_same (tag_in it x) (tag_of p.datas c.number it) tag) in
    let parts_behind : Parts p.datas (fields_at it ts) (behind_tag it x) parts = subst (λ o. Parts p.datas (fields_at it ts) (behind_con o x) parts) at ps in
    let is : bound v (OfCon c n) ≡ b.ths = ap (λ v. bound v (OfCon c n)) b.is in
    let carry = parts_carried b.fields (behind_tag it x) b.more b.rest parts_behind in
    subst (λ ths. BoundParts p (fields_at it ts) ths parts) (sym is)
    (record { many = b.many ∙ sym (length-map it.decl.fields (λ f. sub f (arguments ts))); carry = carry })

taken_is_for : (datas : List Data) (x : List Bool) (alts : Alts) (a : Taken) → taken datas x alts ≡ Some a → is_for datas x a.pattern ≡ true
taken_is_for datas x no_alts a e = absurd (cc)
taken_is_for datas x (alt q e more) a found = split (is_for datas x q) refl (λ later. taken_is_for datas x more a later)
  where
    one : Taken
    one = record { pattern = q; body = e }

    split : (b : Bool) → is_for datas x q ≡ b → (taken datas x more ≡ Some a → is_for datas x a.pattern ≡ true) → is_for datas x a.pattern ≡ true
    split true is others =
        let same : one ≡ a = same_some (ap (λ b. if b then Some one else taken datas x more) is) found in
        ap (λ (a : Taken). is_for datas x a.pattern) (sym same) ∙ is
    split false is others = others (sym (ap (λ b. if b then Some one else taken datas x more) is) ∙ found)

pub looks_shows : (p : Program) (u t : TypeTree) (s : TermTree) (alts : Alts) (a : Taken) (fields : List TypeTree) (γ : Thunks) (δ : TypeTrees) (h : History) (x b : List Bool) (parts : List (List Bool)) → BitsMean → choice p.datas alts ≡ looks → IsWide p.datas u → AreFor p.datas u alts → Shows p u (closed s γ δ) h x → taken p.datas x alts ≡ Some a → PatternOf p.datas u a.pattern fields → Parts p.datas fields (behind p.datas a.pattern x) parts → ((ths : Thunks) → count_of ths ≡ length fields → CarryParts p fields ths parts → Shows p t (closed a.body (joined ths γ) δ) h b) → Shows p t (closed (case_of s alts) γ δ) h b
looks_shows p u t s alts a fields γ δ h x b parts mean is wide are (shows_nothing z) found of ps body =
    let bad : 0 ≡ suc wide.0 = width_once z wide.1 in absurd (omega (arith, bad))
looks_shows p u t s alts a fields γ δ h x b parts mean is wide are (shows_bits {n = m} {v = v} w f held) found of ps body =
    let arm = arm_taken p u v x alts a mean held are found in
    let these = bound_parts p u v x a.pattern fields parts mean held of (taken_is_for p.datas x alts a found) ps in
    evals_through (λ n r d. (suc (plus m n), e_looks is (opened f) arm d)) (body (bound v a.pattern) these.many these.carry)
