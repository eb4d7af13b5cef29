-- A natural without parts that don't matter, whose polynomial is a variable, is that variable.
use Rattle.std.proofs.Common.{◌≡◌, ℕ, suc, zero, ◌*◌, ◌≤◌, true, false, refl, ap, arith}
use Rattle.chw_types.specs.TypeTree.{TypeTree, ty_var, nat_lit, nat_sum, nat_product}
use Rattle.chw_types.specs.Polynomials.{is_natural, SameNaturals}
use Rattle.chw_types.specs.SamePromises.{natural_value}
use Rattle.chw_types.proofs.SameLaws.{one_value}
use Rattle.type_laws.proofs.Parts.{variable_stands}
use Rattle.chw_typing.specs.WithoutZeros.{is_numeral}
use Rattle.chw_typing.proofs.Tight.{Tight, tight_var, tight_numeral, tight_sum, tight_product}

one_by_one : (a b : ℕ) → 1 ≤ a → 1 ≤ b → 1 ≤ a * b
one_by_one zero b h g = absurd (omega arith)
one_by_one (suc a) zero h g = absurd (omega arith)
one_by_one (suc a) (suc b) h g = grind arith

two_by_two : (a b : ℕ) → 2 ≤ a → 2 ≤ b → 4 ≤ a * b
two_by_two zero b h g = absurd (omega arith)
two_by_two (suc zero) b h g = absurd (omega arith)
two_by_two (suc (suc a)) zero h g = absurd (omega arith)
two_by_two (suc (suc a)) (suc zero) h g = absurd (omega arith)
two_by_two (suc (suc a)) (suc (suc b)) h g = grind arith

-- its value is not 0
value_one : (k : ℕ) {t : TypeTree} → 1 ≤ k → Tight t → 1 ≤ natural_value (λ x. k) t
unfolding natural_value
value_one k l tight_var = l
value_one k l (tight_numeral h) = omega arith
value_one k l (tight_sum h g) = let a = value_one k l h in omega arith
value_one k l (tight_product {a = a} {b = b} h g i j) = let c = one_by_one (natural_value (λ x. k) a) (natural_value (λ x. k) b) (value_one k l h) (value_one k l g) in omega arith

numeral_two : (n : ℕ) → 1 ≤ n → is_numeral 1 (nat_lit n) ≡ false → 2 ≤ n
numeral_two zero h e = absurd (omega arith)
numeral_two (suc zero) h e = absurd (cc)
numeral_two (suc (suc n)) h e = omega arith

-- but for the numeral 1, it is 2 at least where each variable is 2
value_two : {t : TypeTree} → Tight t → is_numeral 1 t ≡ false → 2 ≤ natural_value (λ x. 2) t
unfolding natural_value
value_two tight_var e = omega arith
value_two (tight_numeral {n = n} h) e = let l = numeral_two n h e in omega arith
value_two (tight_sum h g) e = let a = value_one 2 (omega arith) h in let b = value_one 2 (omega arith) g in omega arith
value_two (tight_product {a = a} {b = b} h g i j) e = let c = two_by_two (natural_value (λ x. 2) a) (natural_value (λ x. 2) b) (value_two h i) (value_two g j) in omega arith

pub single : {t : TypeTree} (x : ℕ) → Tight t → is_natural t ≡ true → SameNaturals (ty_var x) t → t ≡ ty_var x
unfolding natural_value is_natural
single x (tight_var {x = y}) n p = ap ty_var (variable_stands x (ty_var y) p)
single x (tight_numeral {n = k} h) n p = absurd (variable_stands x (nat_lit k) p)
single x (tight_sum {a = a} {b = b} h g) n p =
    let one : 1 ≡ natural_value (λ y. 1) (nat_sum a b) = one_value (ty_var x) (nat_sum a b) (λ y. 1) (λ y. omega arith) refl n p in
    let left = value_one 1 (omega arith) h in
    let right = value_one 1 (omega arith) g in
    absurd (omega arith)
single x (tight_product {a = a} {b = b} h g i j) n p =
    let two : 2 ≡ natural_value (λ y. 2) (nat_product a b) = one_value (ty_var x) (nat_product a b) (λ y. 2) (λ y. omega arith) refl n p in
    let four = two_by_two (natural_value (λ y. 2) a) (natural_value (λ y. 2) b) (value_two h i) (value_two g j) in
    absurd (omega arith)
