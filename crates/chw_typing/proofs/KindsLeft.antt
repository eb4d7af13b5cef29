-- What is written without zeros is the same type, and has each kind that a type has which is the same.
use Rattle.std.proofs.Common.{◌≡◌, ℕ, ◌+◌, ◌≤◌, Bool, true, false, ◌&&◌, ◌⊎◌, inl, inr, if◌then◌else◌, refl, sym, ap, ◌∙◌, subst, List, [], ◌∷◌, ◌++◌, leb, arith}
use Rattle.std.proofs.lemmas.Bool.{leb-true, leb-false}
use Rattle.std.specs.Prelude.{Some}
use Rattle.std.specs.List.{slice_get}
use Rattle.chw_types.specs.declared.kind.Kind.{Kind}
use Rattle.chw_types.specs.declared.kind.Kind.TheVariants.{Nat}
use Rattle.chw_types.specs.declared.declarations.Data.{Data}
use Rattle.chw_types.specs.TypeTree.{TypeTree, ty_var, nat_lit, nat_sum, nat_product, domain, scalar, vector, data_of, fun, signal, for_all, TypeTrees, no_types, type_and}
use Rattle.chw_types.specs.Kinds.{degree, KindOf, kind_var, kind_nat, kind_sum, kind_product, kind_domain, kind_scalar, kind_vector, kind_data, kind_fun, kind_signal, kind_for_all, KindsOf, no_kinds, kind_and}
use Rattle.chw_types.specs.Polynomials.{ended, Monomial, with_factor, times, same_factors, Summands, by_one, by_each, multiplied, counted, coefficient, is_natural, SameNaturals}
use Rattle.chw_types.specs.SameTypes.{SameTypes, same_naturals, same_sum, same_product, same_domain, same_scalar, same_vector, same_data, same_fun, same_signal, same_for_all, SameAll, same_none, same_and}
use Rattle.chw_types.proofs.SameLaws.{same_self}
use Rattle.chw_types.proofs.Sums.{same_factors_is}
use Rattle.type_laws.specs.KindsKept.{AreOfTerms}
use Rattle.type_laws.specs.Standing.{StandsIn}
use Rattle.type_laws.proofs.OneKind.{nat_natural}
use Rattle.type_laws.proofs.Parts.{variable_stands}
use Rattle.type_laws.proofs.PutSame.{natural_as, polys_as}
use Rattle.chw_typing.proofs.Degrees.{too_long}
use Rattle.chw_typing.specs.WithoutZeros.{reduced, reduced_if, without_zeros, all_without_zeros}
use Rattle.chw_typing.proofs.Longest.{reached}
use Rattle.chw_typing.proofs.Reduced.{reduced_natural, same_reduced}
use Rattle.chw_typing.proofs.Single.{single}
use Rattle.chw_typing.proofs.Tight.{Tight, tight_var, tight_numeral, tight_sum, tight_product, ZeroOrTight, numeral_is, reduced_tight}
use Rattle.chw_typing.proofs.Variables.{IsFactor, occurs}

-- each factor of the product has the kind of naturals
abbrev AreNat : List Kind → Monomial → Type 0
AreNat scope [] = Unit {0}
AreNat scope (x ∷ m) = (slice_get scope x ≡ Some Nat) × AreNat scope m

-- each factor of each summand
abbrev AllAreNat : List Kind → Summands → Type 0
AllAreNat scope [] = Unit {0}
AllAreNat scope (s ∷ p) = AreNat scope s.1 × AllAreNat scope p

nat_append : (scope : List Kind) (p q : Summands) → AllAreNat scope p → AllAreNat scope q → AllAreNat scope (p ++ q)
nat_append scope [] q h g = g
nat_append scope (s ∷ p) q h g = (h.0, nat_append scope p q h.1 g)

nat_factor : (scope : List Kind) (x : ℕ) (m : Monomial) → slice_get scope x ≡ Some Nat → AreNat scope m → AreNat scope (with_factor x m)
nat_factor scope x [] h g = (h, tt)
nat_factor scope x (y ∷ m) h g = by (leb x y) (nat_factor scope x m h g.1)
  where
    by : (b : Bool) → AreNat scope (with_factor x m) → AreNat scope (if b then x ∷ y ∷ m else y ∷ with_factor x m)
    by true rest = (h, g)
    by false rest = (g.0, rest)

nat_times : (scope : List Kind) (m n : Monomial) → AreNat scope m → AreNat scope n → AreNat scope (times m n)
nat_times scope [] n h g = g
nat_times scope (x ∷ m) n h g = nat_times scope m (with_factor x n) h.1 (nat_factor scope x n h.0 g)

nat_by_one : (scope : List Kind) (s : ℕ × Monomial) (q : Summands) → AreNat scope s.1 → AllAreNat scope q → AllAreNat scope (by_one s q)
nat_by_one scope s [] h g = tt
nat_by_one scope s (t ∷ q) h g = (nat_times scope s.1 t.1 h g.0, nat_by_one scope s q h g.1)

nat_by_each : (scope : List Kind) (p q : Summands) → AllAreNat scope p → AllAreNat scope q → AllAreNat scope (by_each p q)
nat_by_each scope [] q h g = tt
nat_by_each scope (s ∷ p) q h g = nat_append scope (by_one s q) (by_each p q) (nat_by_one scope s q h.0 g) (nat_by_each scope p q h.1 g)

-- of what has the kind of naturals
all_nat : {datas : List Data} {domains : ℕ} {scope : List Kind} {u : TypeTree} {k : Kind} → KindOf datas domains scope u k → k ≡ Nat → AllAreNat scope (multiplied u)
unfolding multiplied
all_nat (kind_var e) is = ((e ∙ ap Some is, tt), tt)
all_nat kind_nat is = (tt, tt)
all_nat {scope = scope} (kind_sum {a = a} {b = b} d e small) is = nat_append scope (multiplied a) (multiplied b) (all_nat d refl) (all_nat e refl)
all_nat {scope = scope} (kind_product {a = a} {b = b} d e small) is = nat_by_each scope (multiplied a) (multiplied b) (all_nat d refl) (all_nat e refl)
all_nat (kind_domain l) is = tt
all_nat (kind_scalar d) is = tt
all_nat (kind_vector d e o) is = tt
all_nat (kind_data e ds) is = tt
all_nat (kind_fun d e o) is = tt
all_nat (kind_signal d e) is = tt
all_nat (kind_for_all d o) is = tt

nat_at : (scope : List Kind) (p : Summands) (m : Monomial) → AllAreNat scope p → 1 ≤ coefficient p m → AreNat scope m
nat_at scope [] m h l = absurd (omega arith)
nat_at scope (s ∷ p) m h l = by (same_factors s.1 m) refl l (λ l. nat_at scope p m h.1 l)
  where
    by : (b : Bool) → same_factors s.1 m ≡ b → 1 ≤ counted b s.0 + coefficient p m → (1 ≤ coefficient p m → AreNat scope m) → AreNat scope m
    by true e l rest = subst (AreNat scope) (same_factors_is s.1 m e) h.0
    by false e l rest = rest (omega arith)

factor_nat : (scope : List Kind) (y : ℕ) (m : Monomial) → AreNat scope m → IsFactor y m → slice_get scope y ≡ Some Nat
factor_nat scope y [] h f = absurd f
factor_nat scope y (x ∷ m) h (inl e) = subst (λ z. slice_get scope z ≡ Some Nat) e h.0
factor_nat scope y (x ∷ m) h (inr f) = factor_nat scope y m h.1 f

-- a natural has the kind of naturals where its variables have it and its degree is small enough
nat_kind : {datas : List Data} {domains : ℕ} (scope : List Kind) {t : TypeTree} → Tight t → ((y : ℕ) → StandsIn t y → slice_get scope y ≡ Some Nat) → degree t ≤ 4 → KindOf datas domains scope t Nat
nat_kind scope (tight_var {x = x}) h l = kind_var (h x refl)
nat_kind scope (tight_numeral e) h l = kind_nat
nat_kind scope (tight_sum d e) h l = kind_sum (nat_kind scope d (λ y s. h y (inl s)) (omega arith)) (nat_kind scope e (λ y s. h y (inr s)) (omega arith)) l
nat_kind scope (tight_product d e i j) h l = kind_product (nat_kind scope d (λ y s. h y (inl s)) (omega arith)) (nat_kind scope e (λ y s. h y (inr s)) (omega arith)) l

-- a natural is a variable of its kind, or of the kind of naturals
by_form : {datas : List Data} {domains : ℕ} {scope : List Kind} {u : TypeTree} {k : Kind} → KindOf datas domains scope u k → is_natural u ≡ true → ((x : ℕ) × (u ≡ ty_var x)) ⊎ (k ≡ Nat)
unfolding is_natural
by_form (kind_var {x = x} e) n = inl (x, refl)
by_form kind_nat n = inr refl
by_form (kind_sum d e small) n = inr refl
by_form (kind_product d e small) n = inr refl
by_form (kind_domain l) n = absurd (cc)
by_form (kind_scalar d) n = absurd (cc)
by_form (kind_vector d e o) n = absurd (cc)
by_form (kind_data e ds) n = absurd (cc)
by_form (kind_fun d e o) n = absurd (cc)
by_form (kind_signal d e) n = absurd (cc)
by_form (kind_for_all d o) n = absurd (cc)

tight_nat : {datas : List Data} {domains : ℕ} (scope : List Kind) {r u : TypeTree} → Tight r → SameNaturals r u → KindOf datas domains scope u Nat → KindOf datas domains scope r Nat
tight_nat {datas} {domains} scope {r} {u} h p d = nat_kind scope h nats (small (leb (degree r) 4) refl)
  where
    there : (m : Monomial) → 1 ≤ coefficient (multiplied r) m → 1 ≤ coefficient (multiplied u) m
    there m l = let e : ended (coefficient (multiplied r) m) ≡ ended (coefficient (multiplied u) m) = p m in omega arith

    nats : (y : ℕ) → StandsIn r y → slice_get scope y ≡ Some Nat
    nats y s = let at = occurs h y s in factor_nat scope y at.0 (nat_at scope (multiplied u) at.0 (all_nat d refl) (there at.0 at.1)) at.2

    small : (b : Bool) → leb (degree r) 4 ≡ b → degree r ≤ 4
    small true e = leb-true (degree r) 4 e
    small false e =
        let at = reached h in
        let over = leb-false (degree r) 4 e in
        let long = at.2 in
        absurd (too_long r at.0 at.1 (omega arith) p d)

zero_kind : {datas : List Data} {domains : ℕ} (scope : List Kind) (u : TypeTree) (k : Kind) → SameNaturals (nat_lit 0) u → KindOf datas domains scope u k → is_natural u ≡ true → KindOf datas domains scope (nat_lit 0) k
zero_kind {datas} {domains} scope u k p d n = by (by_form d n)
  where
    by : ((x : ℕ) × (u ≡ ty_var x)) ⊎ (k ≡ Nat) → KindOf datas domains scope (nat_lit 0) k
    by (inl v) = absurd (variable_stands v.0 (nat_lit 0) (subst (λ w. SameNaturals w (nat_lit 0)) v.1 (λ m. sym (p m))))
    by (inr e) = subst (KindOf datas domains scope (nat_lit 0)) (sym e) kind_nat

tight_kind : {datas : List Data} {domains : ℕ} (scope : List Kind) (r u : TypeTree) (k : Kind) → Tight r → is_natural r ≡ true → SameNaturals r u → KindOf datas domains scope u k → is_natural u ≡ true → KindOf datas domains scope r k
tight_kind {datas} {domains} scope r u k h m p d n = by (by_form d n)
  where
    by : ((x : ℕ) × (u ≡ ty_var x)) ⊎ (k ≡ Nat) → KindOf datas domains scope r k
    by (inl v) =
        let is : r ≡ ty_var v.0 = single v.0 h m (subst (λ w. SameNaturals w r) v.1 (λ q. sym (p q))) in
        subst (λ w. KindOf datas domains scope w k) (v.1 ∙ sym is) d
    by (inr e) = subst (KindOf datas domains scope r) (sym e) (tight_nat scope h p (subst (KindOf datas domains scope u) e d))

reduced_kind : {datas : List Data} {domains : ℕ} (scope : List Kind) (t u : TypeTree) (k : Kind) → is_natural t ≡ true → SameTypes t u → KindOf datas domains scope u k → KindOf datas domains scope (reduced t) k
reduced_kind {datas} {domains} scope t u k n h d = by (reduced_tight t n)
  where
    same : SameNaturals (reduced t) u
    same m = sym (polys_as (same_reduced t n) m) ∙ polys_as h m

    natural : is_natural u ≡ true
    natural = sym (natural_as h) ∙ n

    by : ZeroOrTight (reduced t) → KindOf datas domains scope (reduced t) k
    by (inl z) =
        let is : reduced t ≡ nat_lit 0 = numeral_is 0 (reduced t) z in
        subst (λ w. KindOf datas domains scope w k) (sym is) (zero_kind scope u k (subst (λ w. SameNaturals w u) is same) d natural)
    by (inr g) = tight_kind scope (reduced t) u k g (reduced_natural t (same_reduced t n) n) same d natural

-- of a natural that is all
natural_left : (t : TypeTree) → is_natural t ≡ true → reduced t ≡ without_zeros t
unfolding is_natural reduced without_zeros
natural_left (ty_var x) n = refl
natural_left (nat_lit k) n = refl
natural_left (nat_sum a b) n = λ i. reduced_if (sym n i) (nat_sum a b)
natural_left (nat_product a b) n = λ i. reduced_if (sym n i) (nat_product a b)
natural_left (domain d) n = absurd (cc)
natural_left (scalar s w) n = absurd (cc)
natural_left (vector m t) n = absurd (cc)
natural_left (data_of d ts) n = absurd (cc)
natural_left (fun a b) n = absurd (cc)
natural_left (signal d t) n = absurd (cc)
natural_left (for_all k t) n = absurd (cc)

natural_kind : {datas : List Data} {domains : ℕ} (scope : List Kind) (t u : TypeTree) (k : Kind) → is_natural t ≡ true → SameTypes t u → KindOf datas domains scope u k → KindOf datas domains scope (without_zeros t) k
natural_kind {datas} {domains} scope t u k n h d = subst (λ w. KindOf datas domains scope w k) (natural_left t n) (reduced_kind scope t u k n h d)

mutual
  unfolding is_natural without_zeros

  pub kind_left : {datas : List Data} {domains : ℕ} {scope : List Kind} {t u : TypeTree} {k : Kind} → SameTypes t u → AreOfTerms datas → KindOf datas domains scope u k → KindOf datas domains scope (without_zeros t) k
  kind_left {scope = scope} {k = k} (same_naturals {a = a} {b = b} n m p) of d = natural_kind scope a b k n (same_naturals n m p) d
  kind_left {scope = scope} (same_sum {a = a} {b = b} {c = c} {d = e} h g) of (kind_sum left right small) =
      natural_kind scope (nat_sum a b) (nat_sum c e) Nat (λ i. (natural_as h ∙ nat_natural of left refl) i && (natural_as g ∙ nat_natural of right refl) i) (same_sum h g) (kind_sum left right small)
  kind_left {scope = scope} (same_product {a = a} {b = b} {c = c} {d = e} h g) of (kind_product left right small) =
      natural_kind scope (nat_product a b) (nat_product c e) Nat (λ i. (natural_as h ∙ nat_natural of left refl) i && (natural_as g ∙ nat_natural of right refl) i) (same_product h g) (kind_product left right small)
  kind_left same_domain of (kind_domain l) = kind_domain l
  kind_left (same_scalar h) of (kind_scalar d) = kind_scalar (kind_left h of d)
  kind_left (same_vector h g) of (kind_vector d e o) = kind_vector (kind_left h of d) (kind_left g of e) o
  kind_left (same_data h) of (kind_data e ds) = kind_data e (kinds_left h of ds)
  kind_left (same_fun h g) of (kind_fun d e o) = kind_fun (kind_left h of d) (kind_left g of e) o
  kind_left (same_signal h g) of (kind_signal d e) = kind_signal (kind_left h of d) (kind_left g of e)
  kind_left (same_for_all h) of (kind_for_all d o) = kind_for_all (kind_left h of d) o

  pub kinds_left : {datas : List Data} {domains : ℕ} {scope : List Kind} {ts us : TypeTrees} {ks : List Kind} → SameAll ts us → AreOfTerms datas → KindsOf datas domains scope us ks → KindsOf datas domains scope (all_without_zeros ts) ks
  kinds_left same_none of no_kinds = no_kinds
  kinds_left (same_and h hs) of (kind_and d ds) = kind_and (kind_left h of d) (kinds_left hs of ds)

same_if : (b : Bool) (t : TypeTree) → is_natural t ≡ b → SameTypes t (reduced_if b t)
same_if true t n = same_reduced t n
same_if false t n = same_self t

mutual
  unfolding without_zeros

  pub same_left : (t : TypeTree) → SameTypes t (without_zeros t)
  same_left (ty_var x) = same_self (ty_var x)
  same_left (nat_lit n) = same_self (nat_lit n)
  same_left (nat_sum a b) = same_if (is_natural (nat_sum a b)) (nat_sum a b) refl
  same_left (nat_product a b) = same_if (is_natural (nat_product a b)) (nat_product a b) refl
  same_left (domain d) = same_domain
  same_left (scalar s w) = same_scalar (same_left w)
  same_left (vector n t) = same_vector (same_left n) (same_left t)
  same_left (data_of d ts) = same_data (all_left ts)
  same_left (fun a b) = same_fun (same_left a) (same_left b)
  same_left (signal d t) = same_signal (same_left d) (same_left t)
  same_left (for_all k t) = same_for_all (same_left t)

  pub all_left : (ts : TypeTrees) → SameAll ts (all_without_zeros ts)
  all_left no_types = same_none
  all_left (type_and t ts) = same_and (same_left t) (all_left ts)
