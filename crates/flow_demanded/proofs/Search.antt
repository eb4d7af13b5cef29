-- The search for the first demanded argument of a form.
use Rattle.std.proofs.Common.{◌≡◌, ◌∙◌, ◌<◌, ◌≤◌, inl, inr, ◌+◌, ℕ, ap, sym, subst, List, length, Some, slice_get, get_or, arith}
use Rattle.std.proofs.lemmas.Bool.{cases_order}
use Rattle.std.proofs.lemmas.Option.{slice_get_within, slice_get-get_or}
use Rattle.chw_prims.specs.declared.prim.Primitive.{Primitive as Prim}
use Rattle.chw_terms.specs.declared.term.Arg.{Arg}
use Rattle.chw_terms.specs.declared.term.Arg.TheVariants.{OfTerm}
use Rattle.chw_terms.specs.TermTree.{TermTree}
use Rattle.rewriting.specs.Origins.{Origins}
use Rattle.rewriting.specs.Spots.{Spot, LooksAt}
use Rattle.flow_demanded.specs.declared.forms.Form.{Form}
use Rattle.flow_demanded.specs.Demanding.{IsUnnamed, DemandsForm, IsFirstOfForm, NoneOfForm}
use Rattle.flow_demanded.specs.Forms.{HasForm}

-- none so far
abbrev pub NoneBefore : Origins → Spot → Prim → List Arg → Form → ℕ → Type 0
NoneBefore o at p args form i = (j : ℕ) → j < i → DemandsForm o at p args form j → ⊥

one_more : {o : Origins} {at : Spot} {p : Prim} {args : List Arg} (form : Form) (i : ℕ) → NoneBefore o at p args form i → (DemandsForm o at p args form i → ⊥) → NoneBefore o at p args form (i + 1)
one_more {o} {at} {p} {args} form i before here j l d = elim (cases_order j i) [
  | inl q ↦ here (subst (DemandsForm o at p args form) q d)
  | inr r ↦ elim r [ inl m ↦ before j m d | inr m ↦ absurd (omega (arith, l, m)) ]
]

item : (args : List Arg) (i : ℕ) (arg : Arg) → i < length args → arg ≡ get_or args i arg → slice_get args i ≡ Some arg
item args i arg l q = slice_get-get_or args i arg l ∙ ap (λ a. Some a) (sym q)

-- the argument is no candidate
pub no_candidate : {o : Origins} {at : Spot} {p : Prim} {args : List Arg} (form : Form) (i : ℕ) (arg : Arg) → i < length args → arg ≡ get_or args i arg → ((a : TermTree) → arg ≡ OfTerm a → LooksAt p i → HasForm form a → ⊥) → NoneBefore o at p args form i → NoneBefore o at p args form (i + 1)
no_candidate {args = args} form i arg l q none before =
    one_more form i before (λ d.
    let same : Some arg ≡ Some (OfTerm d.0) = sym (item args i arg l q) ∙ d.1.is in
    let terms : arg ≡ OfTerm d.0 = cc in
    none d.0 terms d.1.looks d.2)

-- it is one of a type that is named
pub not_unnamed : {o : Origins} {at : Spot} {p : Prim} {args : List Arg} (form : Form) (i : ℕ) (arg : Arg) (b : TermTree) → i < length args → arg ≡ get_or args i arg → arg ≡ OfTerm b → (IsUnnamed o at b → ⊥) → NoneBefore o at p args form i → NoneBefore o at p args form (i + 1)
not_unnamed {o} {at} {args = args} form i arg b l q of_term none before = one_more form i before (λ d.
    let same : Some (OfTerm b) ≡ Some (OfTerm d.0) = ap (λ a. Some a) (sym of_term) ∙ sym (item args i arg l q) ∙ d.1.is in
    let terms : d.0 ≡ b = cc in
    let it = d.1 in
    none (subst (IsUnnamed o at) terms (record { no_constant = it.no_constant; type = it.type; has = it.has; unnamed = it.unnamed })))

-- it is demanded
pub found_first : {o : Origins} {at : Spot} {p : Prim} {args : List Arg} {form : Form} (i : ℕ) (arg : Arg) (b : TermTree) → i < length args → arg ≡ get_or args i arg → arg ≡ OfTerm b → LooksAt p i → HasForm form b → IsUnnamed o at b → NoneBefore o at p args form i → IsFirstOfForm o at p args form i b
found_first {args = args} i arg b l q of_term looks of_form it before =
    record {
      demands = record { no_constant = it.no_constant; looks = looks; is = item args i arg l q ∙ ap (λ a. Some a) of_term; type = it.type; has = it.has; unnamed = it.unnamed };
      of_form = of_form;
      first = before;
    }

-- the loop has come to its end
pub none_at_all : {o : Origins} {at : Spot} {p : Prim} {args : List Arg} (form : Form) (i : ℕ) → NoneBefore o at p args form i → length args ≤ i → NoneOfForm o at p args form
none_at_all {args = args} form i before all j d =
    let l = slice_get_within args j (OfTerm d.0) d.1.is in
    before j (omega (arith, l, all)) d
