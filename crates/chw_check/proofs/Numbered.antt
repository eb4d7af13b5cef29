-- The numbers of the constructors of a data type.
use Rattle.std.proofs.Common.{◌≡◌, ℕ, suc, zero, ◌+◌, ◌-◌, ◌<◌, ◌≤◌, ◌⊎◌, inl, inr, refl, sym, ap, ◌∙◌, subst, List, [], ◌∷◌, length, Some, None, arith, below_more}
use Rattle.std.specs.List.{slice_get}
use Rattle.std.proofs.lemmas.Option.{none-some, same_Some}
use Rattle.chw_types.specs.declared.declarations.ConDecl.{ConDecl}
use Rattle.chw_types.specs.declared.declarations.Data.{Data}
use Rattle.chw_terms.specs.Constructors.{Constructor, cons_of, constructors_from, con_at, first_con}
use Rattle.chw_terms.specs.TermTree.{Alts}
use Rattle.chw_typing.specs.Alternatives.{IsFor}
use Rattle.con_places.specs.declared.table.Constructor.{Constructor as Reference}
use Rattle.con_places.specs.Constructing.{constructor_of, IsConstructor}
use Rattle.chw_check.specs.WithoutAlternative.{IsMissing, NoneMissing}
use Rattle.chw_check.proofs.Covered.{either}

-- a constructor is one of this data type, or stands behind them
abbrev Behind : ℕ → List Constructor → ℕ → Constructor → Type 0
Behind count others n c = (m : ℕ) × (n ≡ count + m) × (slice_get others m ≡ Some c)

abbrev Within : ℕ → Data → ℕ → ℕ → Constructor → Type 0
Within d it count n c = (c.of ≡ d) × (c.it ≡ it) × (n < count)

split : (d : ℕ) (it : Data) (ks : List ConDecl) (others : List Constructor) (n : ℕ) (c : Constructor) → slice_get (cons_of d it ks others) n ≡ Some c → Within d it (length ks) n c ⊎ Behind (length ks) others n c
split d it [] others n c e = let number : n ≡ 0 + n = omega arith in inr (n, number, e)
split d it (k ∷ ks) others zero c e =
    let is : record { of = d; it = it; decl = k } ≡ c = same_Some (record { of = d; it = it; decl = k }) c e in
    inl (ap (λ x. x.of) (sym is), ap (λ x. x.it) (sym is), omega arith)
split d it (k ∷ ks) others (suc n) c e = either (λ h. inl (h.0, h.1, more h.2)) (λ h. inr (h.0, next h.0 h.1, h.2)) (split d it ks others n c e)
  where
    more : n < length ks → suc n < length (k ∷ ks)
    more l = omega arith

    next : (m : ℕ) → n ≡ length ks + m → suc n ≡ length (k ∷ ks) + m
    next m e = omega arith

-- where a constructor stands: which data type it is of, and at which place
record Stands (start : ℕ) (datas : List Data) (n : ℕ) (c : Constructor) : Type 0 where
  data_number : ℕ
  place : ℕ
  of : c.of ≡ start + data_number
  it : slice_get datas data_number ≡ Some c.it
  number : n ≡ first_con datas data_number + place
  less : place < length c.it.cons

stands : (start : ℕ) (datas : List Data) (n : ℕ) (c : Constructor) → slice_get (constructors_from start datas) n ≡ Some c → Stands start datas n c
stands start [] n c e = absurd (none-some c e)
stands start (it ∷ more) n c e = either here (later (λ m f. stands (suc start) more m c f)) (split start it it.cons (constructors_from (suc start) more) n c e)
  where
    here : Within start it (length it.cons) n c → Stands start (it ∷ more) n c
    here h =
        let same : length it.cons ≡ length c.it.cons = ap (λ (x : Data). length x.cons) (sym h.1) in
        record { data_number = zero; place = n; of = omega (arith, h.0); it = ap (λ x. Some x) (sym h.1); number = omega arith; less = omega (arith, h.2) }

    next : (m : ℕ) → n ≡ length it.cons + m → Stands (suc start) more m c → Stands start (it ∷ more) n c
    next m e s =
        let first : first_con (it ∷ more) (suc s.data_number) ≡ length it.cons + first_con more s.data_number = refl in
        record { data_number = suc s.data_number; place = s.place; of = omega (arith, s.of); it = s.it; number = omega (arith, s.number); less = s.less }

    later : ((m : ℕ) → slice_get (constructors_from (suc start) more) m ≡ Some c → Stands (suc start) more m c) → Behind (length it.cons) (constructors_from (suc start) more) n c → Stands start (it ∷ more) n c
    later rest h = next h.0 h.1 (rest h.0 h.2)

-- at each place of a data type stands a constructor of it
abbrev There : ℕ → List Constructor → ℕ → Type 0
There d cons n = (c : Constructor) × (slice_get cons n ≡ Some c) × (c.of ≡ d)

there_within : (d : ℕ) (it : Data) (ks : List ConDecl) (others : List Constructor) (k : ℕ) → k < length ks → There d (cons_of d it ks others) k
there_within d it [] others k l = absurd (omega arith)
there_within d it (x ∷ ks) others zero l = (record { of = d; it = it; decl = x }, refl, refl)
there_within d it (x ∷ ks) others (suc k) l = there_within d it ks others k (omega arith)

behind : (d : ℕ) (it : Data) (ks : List ConDecl) (others : List Constructor) (m : ℕ) → slice_get (cons_of d it ks others) (length ks + m) ≡ slice_get others m
behind d it [] others m = let e : 0 + m ≡ m = omega arith in ap (slice_get others) e
behind d it (x ∷ ks) others m =
    let e : length (x ∷ ks) + m ≡ suc (length ks + m) = omega arith in
    ap (slice_get (cons_of d it (x ∷ ks) others)) e ∙ behind d it ks others m

there : (start : ℕ) (datas : List Data) (d : ℕ) (it : Data) (k : ℕ) → slice_get datas d ≡ Some it → k < length it.cons → There (start + d) (constructors_from start datas) (first_con datas d + k)
there start [] d it k e l = absurd (none-some it e)
there start (x ∷ more) zero it k e l =
    let same : length x.cons ≡ length it.cons = ap (λ (y : Data). length y.cons) (same_Some x it e) in
    let number : k ≡ first_con (x ∷ more) zero + k = omega arith in
    let of : start ≡ start + zero = omega arith in
    subst (There (start + zero) (constructors_from start (x ∷ more))) number
    (subst (λ d. There d (constructors_from start (x ∷ more)) k) of (there_within start x x.cons (constructors_from (suc start) more) k (omega arith)))
there start (x ∷ more) (suc d) it k e l = further (there (suc start) more d it k e l)
  where
    further : There (suc start + d) (constructors_from (suc start) more) (first_con more d + k) → There (start + suc d) (constructors_from start (x ∷ more)) (first_con (x ∷ more) (suc d) + k)
    further h =
        let number : first_con (x ∷ more) (suc d) + k ≡ length x.cons + (first_con more d + k) = omega arith in
        let of : suc start + d ≡ start + suc d = omega arith in
        (h.0, ap (slice_get (constructors_from start (x ∷ more))) number ∙ behind start x x.cons (constructors_from (suc start) more) (first_con more d + k) ∙ h.1, h.2 ∙ of)

-- a data type, the number of its first constructor, and how many it has
record Numbers (datas : List Data) (of first count : ℕ) : Type 0 where
  there : (p : ℕ) → p < count → There of (constructors_from zero datas) (first + p)
  each : (b : ℕ) (c : Constructor) → con_at datas b ≡ Some c → c.of ≡ of → (p : ℕ) × (b ≡ first + p) × (p < count)

numbers : (datas : List Data) (c : ℕ) (con : Reference) (first : ℕ) → IsConstructor datas c con → first ≡ c - con.place → Numbers datas con.of.number first (length con.it.now.cons)
numbers datas c con first is e =
    record {
      there = λ p l. subst (λ n. There con.of.number (constructors_from zero datas) (n + p)) (sym start)
          (subst (λ d. There d (constructors_from zero datas) (first_con datas con.of.number + p)) of (there zero datas con.of.number con.it.now p held l));
      each = λ b k at same. from (stands zero datas b k at) same;
    }
  where
    at : Stands zero datas c (constructor_of con)
    at = stands zero datas c (constructor_of con) is.is

    of : zero + con.of.number ≡ con.of.number
    of = omega arith

    here : at.data_number ≡ con.of.number
    here = omega (arith, at.of)

    held : slice_get datas con.of.number ≡ Some con.it.now
    held = ap (slice_get datas) (sym here) ∙ at.it

    start : first ≡ first_con datas con.of.number
    start = omega (arith, is.number)

    from : {b : ℕ} {k : Constructor} → Stands zero datas b k → k.of ≡ con.of.number → (p : ℕ) × (b ≡ first + p) × (p < length con.it.now.cons)
    from {b} {k} s same =
        let d : s.data_number ≡ con.of.number = omega (arith, s.of) in
        let it : k.it ≡ con.it.now = same_Some k.it con.it.now (sym s.it ∙ ap (slice_get datas) d ∙ held) in
        let count : length k.it.cons ≡ length con.it.now.cons = ap (λ (x : Data). length x.cons) it in
        let begin : first_con datas s.data_number ≡ first_con datas con.of.number = ap (first_con datas) d in
        (s.place, omega (arith, s.number), omega (arith, s.less))

-- each constructor of the data type at a place below this one has an alternative
abbrev pub AllBefore : ℕ → Alts → ℕ → Type 0
AllBefore first alts place = (p : ℕ) → p < place → IsFor (first + p) alts

pub one_more : (first : ℕ) (alts : Alts) (place : ℕ) → AllBefore first alts place → IsFor (first + place) alts → AllBefore first alts (place + 1)
one_more first alts place before here = below_more (λ p. IsFor (first + p) alts) place before here

-- the first one that has none
pub missing_at : (datas : List Data) (c : ℕ) (con : Reference) (alts : Alts) (first place d : ℕ) → IsConstructor datas c con → first ≡ c - con.place → place < length con.it.now.cons → d ≡ first + place → AllBefore first alts place → (IsFor d alts → ⊥) → IsMissing datas c alts d
missing_at datas c con alts first place d is e l number before none =
    let n = numbers datas c con first is e in
    let lacking = n.there place l in
    record {
      it = constructor_of con;
      is = is.is;
      lacking = lacking.0;
      at = ap (con_at datas) number ∙ lacking.1;
      same = lacking.2;
      not_for = none;
      earlier = λ b other less at same. by b less (n.each b other at same);
    }
  where
    by : (b : ℕ) → b < d → (p : ℕ) × (b ≡ first + p) × (p < length con.it.now.cons) → IsFor b alts
    by b less h = subst (λ m. IsFor m alts) (sym h.1) (before h.0 (omega (arith, h.1)))

-- where all have one
pub none_missing : (datas : List Data) (c : ℕ) (con : Reference) (alts : Alts) (first place : ℕ) → IsConstructor datas c con → first ≡ c - con.place → length con.it.now.cons ≤ place → AllBefore first alts place → NoneMissing datas c alts
none_missing datas c con alts first place is e l before it at b other there same =
    let n = numbers datas c con first is e in
    let of : it ≡ constructor_of con = same_Some it (constructor_of con) (sym at ∙ is.is) in
    by b (n.each b other there (same ∙ ap (λ x. x.of) of))
  where
    by : (b : ℕ) → (p : ℕ) × (b ≡ first + p) × (p < length con.it.now.cons) → IsFor b alts
    by b h = subst (λ m. IsFor m alts) (sym h.1) (before h.0 (omega (arith, h.2)))

-- where the number stands for no constructor
pub none_there : (datas : List Data) (c : ℕ) (alts : Alts) → con_at datas c ≡ None → NoneMissing datas c alts
none_there datas c alts none it at = absurd (none-some it (sym none ∙ at))
