-- The search for the first operand that needs a name.
use Rattle.std.proofs.Common.{◌≡◌, ◌∙◌, ◌<◌, ◌+◌, inl, inr, ℕ, ap, sym, subst}
use Rattle.std.proofs.Common.{List, length, Some, slice_get, get_or, arith}
use Rattle.std.proofs.lemmas.Bool.{cases_order}
use Rattle.std.proofs.lemmas.Option.{slice_get-get_or}
use Rattle.chw_types.specs.TypeTree.{TypeTree}
use Rattle.chw_terms.specs.declared.term.Arg.{Arg}
use Rattle.chw_terms.specs.declared.term.Arg.TheVariants.{OfTerm}
use Rattle.chw_terms.specs.TermTree.{TermTree}
use Rattle.rewriting.specs.Origins.{Origins}
use Rattle.rewriting.specs.Spots.{Spot}
use Rattle.rewriting.specs.Operands.{NeedsName}
use Rattle.work_operands.specs.declared.finding.Named.{Named}
use Rattle.work_operands.specs.declared.operands.Operands.{Operands}
use Rattle.work_operands.specs.Firsts.{IsAmong, NeedsNameOf, IsNamedPart, NoneBefore, IsFirstArg}
use Rattle.work_operands.specs.Firsts.{NoElementBefore, IsFirstElement}

-- what a loop reads at its place
pub item : {X : Type 0} (xs : List X) (i : ℕ) (x : X) → i < length xs → x ≡ get_or xs i x
    → slice_get xs i ≡ Some x
item xs i x l q = slice_get-get_or xs i x l ∙ ap (λ y. Some y) (sym q)

-- an argument that needs no name, behind others that need none
pub none_more : {o : Origins} {at : Spot} (among : Operands) (args : List Arg) (n : ℕ) (arg : Arg)
    → n < length args → arg ≡ get_or args n arg → NoneBefore o at among args n
    → ((x : TermTree) → IsAmong among n → arg ≡ OfTerm x → NeedsName o at x → ⊥)
    → NoneBefore o at among args (n + 1)
none_more {o} {at} among args n arg l q before here j x m a is needs = elim (cases_order j n) [
  | inl e ↦
      let there : slice_get args n ≡ Some (OfTerm x) =
      subst (λ j. slice_get args j ≡ Some (OfTerm x)) e is in
      let same : Some arg ≡ Some (OfTerm x) = sym (item args n arg l q) ∙ there in
      let terms : arg ≡ OfTerm x = cc in
      here x (subst (IsAmong among) e a) terms needs
  | inr r ↦ elim r [ inl k ↦ before j x k a is needs | inr k ↦ absurd (omega (arith, m, k)) ]
]

-- one that needs a name
pub first_arg : {o : Origins} {at : Spot} {among : Operands} (args : List Arg) (n : ℕ) (arg : Arg)
    (it : Named) → n < length args → arg ≡ get_or args n arg → NoneBefore o at among args n
    → IsNamedPart o at among n arg it → IsFirstArg o at among args it.number it.ty it.part.now
first_arg {o} {at} {among} args n arg it l q before named =
    let there : slice_get args n ≡ Some (OfTerm it.part.now) =
    item args n arg l q ∙ ap (λ a. Some a) named.is in
    record {
      operand = subst (IsAmong among) (sym named.number) named.operand;
      is = subst (λ i. slice_get args i ≡ Some (OfTerm it.part.now)) (sym named.number) there;
      needs = named.needs;
      first = subst (NoneBefore o at among args) (sym named.number) before;
    }

-- the same of elements
pub no_element_more : {o : Origins} {at : Spot} (es : List TermTree) (n : ℕ) (e : TermTree)
    → n < length es → e ≡ get_or es n e → NoElementBefore o at es n → (NeedsName o at e → ⊥)
    → NoElementBefore o at es (n + 1)
no_element_more {o} {at} es n e l q before here j x m is needs = elim (cases_order j n) [
  | inl k ↦
      let there : slice_get es n ≡ Some x = subst (λ j. slice_get es j ≡ Some x) k is in
      let same : Some e ≡ Some x = sym (item es n e l q) ∙ there in
      let one : x ≡ e = cc in
      here (subst (NeedsName o at) one needs)
  | inr r ↦ elim r [ inl k ↦ before j x k is needs | inr k ↦ absurd (omega (arith, m, k)) ]
]

pub first_element : {o : Origins} {at : Spot} (es : List TermTree) (n : ℕ) (e : TermTree)
    (t : TypeTree) → n < length es → e ≡ get_or es n e → NoElementBefore o at es n
    → NeedsNameOf o at e t → IsFirstElement o at es n t e
first_element es n e t l q before needs =
    record { is = item es n e l q; needs = needs; first = before }
