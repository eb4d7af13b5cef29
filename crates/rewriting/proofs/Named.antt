-- Which operand gets a name is one.
use Rattle.std.proofs.Common.{◌≡◌, ◌∙◌, sym, ap, refl, subst, inl, inr, ℕ, List, Some}
use Rattle.std.specs.Prelude.{option_and_then}
use Rattle.chw_terms.specs.declared.rule.Rule.{Rule}
use Rattle.chw_terms.specs.declared.term.Arg.{Arg}
use Rattle.chw_terms.specs.TermTree.{TermTree, global, made, con, prim, vec_lit, case_of}
use Rattle.chw_terms.specs.TermView.{applied}
use Rattle.chw_typing.specs.Paths.{part_at, IsEarlier}
use Rattle.chw_typing.proofs.Order.{one_is_earlier}
use Rattle.chw_typing.proofs.PathSpines.{spine_argument}
use Rattle.rewriting.specs.Origins.{Origins}
use Rattle.rewriting.specs.Spots.{Spot}
use Rattle.rewriting.specs.Operands.{OfOperands, anf, StandsAt, of_prim, of_case, of_con, of_vector, StandsInCall, of_global, of_made, IsOperand, IsOperandOfCall, IsFirstOperand, IsFirstOfCall, with_name}
use Rattle.rewriting.proofs.CaseMakes.{one_type_found}
use Rattle.rewriting.proofs.Spines.{head_of, head_applied}

-- an operand is the part at its path
operand_is : {o : Origins} {at : Spot} {e x : TermTree} {path : List ℕ} → StandsAt o at e path x → part_at e path ≡ Some x
operand_is (of_prim p args i {a = a} n k g) = spine_argument args (prim p) a i g
operand_is of_case = refl
operand_is (of_con c args i {a = a} m k n g) = spine_argument args (con c) a i g
operand_is (of_vector m i) = ap (option_and_then (λ c. Some c)) i

call_operand_is : {at : Spot} {e x : TermTree} {path : List ℕ} → StandsInCall at e path x → part_at e path ≡ Some x
call_operand_is (of_global d args i {a = a} m g) = spine_argument args (global d) a i g
call_operand_is (of_made m args i {a = a} l g) = spine_argument args (made m) a i g

-- at one path
pub record SameOperand (p q : List ℕ) (x y : TermTree) : Type 0 where
  pub path : p ≡ q
  pub term : x ≡ y

one_least : (P : List ℕ → TermTree → Type 0) (p q : List ℕ) (x y : TermTree) → P p x → P q y → ((r : List ℕ) (z : TermTree) → P r z → IsEarlier r p → ⊥) → ((r : List ℕ) (z : TermTree) → P r z → IsEarlier r q → ⊥) → p ≡ q
one_least P p q x y h g f d = elim (one_is_earlier p q) [
  | inl e ↦ e
  | inr l ↦ elim l [ inl l ↦ absurd (d p x h l) | inr l ↦ absurd (f q y g l) ]
]

same_part : (e x y : TermTree) (p q : List ℕ) → part_at e p ≡ Some x → part_at e q ≡ Some y → p ≡ q → x ≡ y
same_part e x y p q h g s = let is : Some x ≡ Some y = sym h ∙ ap (part_at e) s ∙ g in cc

pub one_first_operand : {o : Origins} {at : Spot} {e x y : TermTree} {p q : List ℕ} → IsFirstOperand o at e p x → IsFirstOperand o at e q y → SameOperand p q x y
one_first_operand {o} {at} {e} {x} {y} {p} {q} h g =
    let path = one_least (IsOperand o at e) p q x y h.is g.is h.first g.first in
    record { path = path; term = same_part e x y p q (operand_is h.is.0) (operand_is g.is.0) path }

pub one_first_of_call : {o : Origins} {at : Spot} {e x y : TermTree} {p q : List ℕ} → IsFirstOfCall o at e p x → IsFirstOfCall o at e q y → SameOperand p q x y
one_first_of_call {o} {at} {e} {x} {y} {p} {q} h g =
    let path = one_least (IsOperandOfCall o at e) p q x y h.is g.is h.first g.first in
    record { path = path; term = same_part e x y p q (call_operand_is h.is.0) (call_operand_is g.is.0) path }

pub one_operand : {o : Origins} {at : Spot} {r r' : Rule} {e f a b : TermTree} → OfOperands o at r e a → OfOperands o at r' f b → r ≡ r' → e ≡ f → a ≡ b
one_operand {o} {at} (anf {e = e} {x = x} {path = p} {t = t} h d) (anf {e = f} {x = y} {path = p'} {t = u} g c) k q =
    let same = one_first_operand h (subst (λ e. IsFirstOperand o at e p' y) (sym q) g) in
    let type = one_type_found d c same.term in
    λ i. with_name (q i) (same.path i) (type i) (same.term i)

-- a head with operands of its own is no name of a definition
pub no_call : {o : Origins} {at : Spot} {e f x y : TermTree} {p q : List ℕ} (rest : List Arg) → StandsAt o at e p x → StandsInCall at f q y → applied e rest ≡ f → ⊥
no_call rest (of_prim p args i n k g) (of_global d more j m h) s =
    let heads : prim p ≡ global d = sym (head_applied args (prim p)) ∙ sym (head_applied rest (applied (prim p) args)) ∙ ap head_of s ∙ head_applied more (global d) in absurd cc
no_call rest (of_prim p args i n k g) (of_made d more j m h) s =
    let heads : prim p ≡ made d = sym (head_applied args (prim p)) ∙ sym (head_applied rest (applied (prim p) args)) ∙ ap head_of s ∙ head_applied more (made d) in absurd cc
no_call rest (of_case {e = e} {alts = alts}) (of_global d more j m h) s =
    let heads : case_of e alts ≡ global d = sym (head_applied rest (case_of e alts)) ∙ ap head_of s ∙ head_applied more (global d) in absurd cc
no_call rest (of_case {e = e} {alts = alts}) (of_made d more j m h) s =
    let heads : case_of e alts ≡ made d = sym (head_applied rest (case_of e alts)) ∙ ap head_of s ∙ head_applied more (made d) in absurd cc
no_call rest (of_con c args i m' k n g) (of_global d more j m h) s =
    let heads : con c ≡ global d = sym (head_applied args (con c)) ∙ sym (head_applied rest (applied (con c) args)) ∙ ap head_of s ∙ head_applied more (global d) in absurd cc
no_call rest (of_con c args i m' k n g) (of_made d more j m h) s =
    let heads : con c ≡ made d = sym (head_applied args (con c)) ∙ sym (head_applied rest (applied (con c) args)) ∙ ap head_of s ∙ head_applied more (made d) in absurd cc
no_call rest (of_vector {t = t} {es = es} m' i) (of_global d more j m h) s =
    let heads : vec_lit t es ≡ global d = sym (head_applied rest (vec_lit t es)) ∙ ap head_of s ∙ head_applied more (global d) in absurd cc
no_call rest (of_vector {t = t} {es = es} m' i) (of_made d more j m h) s =
    let heads : vec_lit t es ≡ made d = sym (head_applied rest (vec_lit t es)) ∙ ap head_of s ∙ head_applied more (made d) in absurd cc
