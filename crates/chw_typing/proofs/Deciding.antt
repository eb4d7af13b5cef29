-- Whether a type is representable, and whether it is a port, by unfolding its data types.
use Rattle.std.proofs.Common.{◌≡◌, ℕ, suc, zero, ◌<◌, ◌⊎◌, inl, inr, Bool, true, false, refl, sym, ap, subst, ◌∙◌, List, [], ◌∷◌, ◌++◌, length, map, arith}
use Rattle.std.specs.Prelude.{Option, Some, None, nat_eq}
use Rattle.std.specs.List.{slice_get}
use Rattle.std.proofs.lemmas.Bool.{eqb-true, eq-eqb}
use Rattle.std.proofs.lemmas.Option.{none-some}
use Rattle.chw_types.specs.declared.declarations.ConDecl.{ConDecl}
use Rattle.chw_types.specs.declared.declarations.Data.{Data}
use Rattle.type_ports.specs.declared.ports.Leaf.{Leaf}
use Rattle.chw_types.specs.TypeTree.{TypeTree, ty_var, nat_lit, nat_sum, nat_product, domain, scalar, vector, data_of, fun, signal, for_all, TypeTrees}
use Rattle.chw_types.specs.TypeMoves.{Substitution, sub}
use Rattle.chw_types.specs.Arguments.{list_of, arguments, all_fields}
use Rattle.chw_types.specs.References.{HasNoCycle}
use Rattle.type_ports.specs.Representable.{Representable, representable_scalar, representable_vector, representable_data, AllRepresentable, none_to_represent, represent_and}
use Rattle.type_ports.specs.Ports.{Leaves, one_leaf, leaves_of_fields, LeavesOfAll, no_leaves, leaves_and, IsPort}
use Rattle.chw_types.proofs.Weights.{whole, all_whole, unfolded, whole_vector}
use Rattle.chw_typing.proofs.NamedParts.{fields_of_one, element_representable}

-- it is so, or it isn't
abbrev pub IsDecided : Type 0 → Type 0
IsDecided P = P ⊎ (P → ⊥)

-- both are so
abbrev both_decided : {P Q R : Type 0} → (P → Q → R) → (R → P) → (R → Q) → IsDecided P → IsDecided Q → IsDecided R
both_decided make first rest (inl p) (inl q) = inl (make p q)
both_decided make first rest (inr np) b = inr (λ r. np (first r))
both_decided make first rest (inl p) (inr nq) = inr (λ r. nq (rest r))

same_numbers : (m n : ℕ) → IsDecided (m ≡ n)
same_numbers m n = by (nat_eq m n) refl
  where
    by : (b : Bool) → nat_eq m n ≡ b → IsDecided (m ≡ n)
    by true e = inl (eqb-true m n e)
    by false e = inr (λ same. let is = eq-eqb m n same in absurd (cc))

-- these types with this put in
abbrev put_in : Substitution → List TypeTree → List TypeTree
put_in σ fs = map (λ f. sub f σ) fs

-- what a representable data type has
record Fields (datas : List Data) (it : Data) (ts : TypeTrees) : Type 0 where
  as_many : length (list_of ts) ≡ length it.params
  all : AllRepresentable datas (all_fields it.cons) (arguments ts)

fields_of : {datas : List Data} {d : ℕ} {ts : TypeTrees} (it : Data) → slice_get datas d ≡ Some it → Representable datas (data_of d ts) → Fields datas it ts
fields_of {datas} {ts = ts} it known (representable_data {it = other} e many all) =
    let same : other ≡ it = cc in
    record {
      as_many = subst (λ (o : Data). length (list_of ts) ≡ length o.params) same many;
      all = subst (λ (o : Data). AllRepresentable datas (all_fields o.cons) (arguments ts)) same all;
    }

no_data : {datas : List Data} {d : ℕ} {ts : TypeTrees} → slice_get datas d ≡ None → Representable datas (data_of d ts) → ⊥
no_data none (representable_data {it = it} e many all) = none-some it (sym none ∙ e)

first_represented : {datas : List Data} {f : TypeTree} {fs : List TypeTree} {σ : Substitution} → AllRepresentable datas (f ∷ fs) σ → Representable datas (sub f σ)
first_represented (represent_and r all) = r

rest_represented : {datas : List Data} {f : TypeTree} {fs : List TypeTree} {σ : Substitution} → AllRepresentable datas (f ∷ fs) σ → AllRepresentable datas fs σ
rest_represented (represent_and r all) = all

all_decided : (datas : List Data) (n : ℕ) → ((t : TypeTree) → whole datas t < n → IsDecided (Representable datas t)) → (fs : List TypeTree) (σ : Substitution) → all_whole datas (put_in σ fs) < n → IsDecided (AllRepresentable datas fs σ)
all_decided datas n rec [] σ l = inl none_to_represent
all_decided datas n rec (f ∷ fs) σ l =
    both_decided represent_and first_represented rest_represented (rec (sub f σ) (omega arith)) (all_decided datas n rec fs σ (omega arith))

module _ (datas : List Data) (order : HasNoCycle datas) where
  data_decided : (n d : ℕ) (ts : TypeTrees) → ((t : TypeTree) → whole datas t < n → IsDecided (Representable datas t)) → whole datas (data_of d ts) < suc n → IsDecided (Representable datas (data_of d ts))
  data_decided n d ts rec l = by (slice_get datas d) refl
    where
      by : (o : Option Data) → slice_get datas d ≡ o → IsDecided (Representable datas (data_of d ts))
      by None e = inr (no_data e)
      by (Some it) e =
          let weight = unfolded datas order d it ts e in
          both_decided (representable_data e) (λ r. (fields_of it e r).as_many) (λ r. (fields_of it e r).all)
          (same_numbers (length (list_of ts)) (length it.params))
          (all_decided datas n rec (all_fields it.cons) (arguments ts) (omega arith))

  decided_below : (n : ℕ) (t : TypeTree) → whole datas t < n → IsDecided (Representable datas t)
  decided_below zero t l = absurd (omega arith)
  decided_below (suc n) (scalar s w) l = inl representable_scalar
  decided_below (suc n) (vector m t) l =
      let weight = whole_vector datas m t in
      elim (decided_below n t (omega arith)) as (λ _. IsDecided (Representable datas (vector m t))) [ inl r ↦ inl (representable_vector r) | inr other ↦ inr (λ r. other (element_representable r)) ]
  decided_below (suc n) (data_of d ts) l = data_decided n d ts (decided_below n) l
  decided_below (suc n) (ty_var x) l = inr (λ r. elim r [ ])
  decided_below (suc n) (nat_lit x) l = inr (λ r. elim r [ ])
  decided_below (suc n) (nat_sum a b) l = inr (λ r. elim r [ ])
  decided_below (suc n) (nat_product a b) l = inr (λ r. elim r [ ])
  decided_below (suc n) (domain d) l = inr (λ r. elim r [ ])
  decided_below (suc n) (fun a b) l = inr (λ r. elim r [ ])
  decided_below (suc n) (signal a b) l = inr (λ r. elim r [ ])
  decided_below (suc n) (for_all k t) l = inr (λ r. elim r [ ])

  pub representable_decided : (t : TypeTree) → IsDecided (Representable datas t)
  representable_decided t = decided_below (suc (whole datas t)) t (omega arith)

-- the leaves of ports
abbrev ArePorts : List Data → List TypeTree → Substitution → Type 0
ArePorts datas fs σ = (ls : List Leaf) × LeavesOfAll datas fs σ ls

first_port : {datas : List Data} {f : TypeTree} {fs : List TypeTree} {σ : Substitution} {ls : List Leaf} → LeavesOfAll datas (f ∷ fs) σ ls → IsPort datas (sub f σ)
first_port (leaves_and {ls = ls} a b) = (ls, a)

rest_ports : {datas : List Data} {f : TypeTree} {fs : List TypeTree} {σ : Substitution} {ls : List Leaf} → LeavesOfAll datas (f ∷ fs) σ ls → ArePorts datas fs σ
rest_ports (leaves_and {ms = ms} a b) = (ms, b)

ports_decided : (datas : List Data) (n : ℕ) → ((t : TypeTree) → whole datas t < n → IsDecided (IsPort datas t)) → (fs : List TypeTree) (σ : Substitution) → all_whole datas (put_in σ fs) < n → IsDecided (ArePorts datas fs σ)
ports_decided datas n rec [] σ l = inl ([], no_leaves)
ports_decided datas n rec (f ∷ fs) σ l =
    both_decided (λ p ps. (p.0 ++ ps.0, leaves_and p.1 ps.1)) (λ ps. first_port ps.1) (λ ps. rest_ports ps.1) (rec (sub f σ) (omega arith)) (ports_decided datas n rec fs σ (omega arith))

-- the fields of a data type that is a port
record Product (datas : List Data) (it : Data) (ts : TypeTrees) : Type 0 where
  as_many : length (list_of ts) ≡ length it.params
  con : ConDecl
  one : it.cons ≡ con ∷ []
  first : TypeTree
  rest : List TypeTree
  fields : con.fields ≡ first ∷ rest
  ports : ArePorts datas (first ∷ rest) (arguments ts)

product_along : {datas : List Data} {ts : TypeTrees} {a b : Data} → a ≡ b → Product datas a ts → Product datas b ts
product_along {datas} {ts} e p = subst (λ (o : Data). Product datas o ts) e p

product_of : {datas : List Data} {d : ℕ} {ts : TypeTrees} {ls : List Leaf} (it : Data) → slice_get datas d ≡ Some it → Leaves datas (data_of d ts) ls → Product datas it ts
product_of it known (leaves_of_fields {it = other} {c = c} {f = f} {fs = fs} {ls = ls} e many one fields all) =
    let same : other ≡ it = cc in
    product_along same (record { as_many = many; con = c; one = one; first = f; rest = fs; fields = fields; ports = (ls, all) })

product_port : {datas : List Data} {d : ℕ} {ts : TypeTrees} (it : Data) → slice_get datas d ≡ Some it → Product datas it ts → IsPort datas (data_of d ts)
product_port it known p = (p.ports.0, leaves_of_fields known p.as_many p.one p.fields p.ports.1)

no_data_port : {datas : List Data} {d : ℕ} {ts : TypeTrees} {ls : List Leaf} → slice_get datas d ≡ None → Leaves datas (data_of d ts) ls → ⊥
no_data_port none (leaves_of_fields {it = it} e many one fields all) = none-some it (sym none ∙ e)

payload_of : {datas : List Data} {d t : TypeTree} {ls : List Leaf} → Leaves datas (signal d t) ls → Representable datas t
payload_of (one_leaf r) = r

module _ (datas : List Data) (order : HasNoCycle datas) where
  -- whether a data type with these constructors is a product of ports
  product_decided : (n : ℕ) → ((t : TypeTree) → whole datas t < n → IsDecided (IsPort datas t)) → (it : Data) (ts : TypeTrees) → all_whole datas (put_in (arguments ts) (all_fields it.cons)) < n → IsDecided (Product datas it ts)
  product_decided n rec it ts l = by it.cons refl
    where
      by_fields : (c : ConDecl) → it.cons ≡ c ∷ [] → (fs : List TypeTree) → c.fields ≡ fs → IsDecided (Product datas it ts)
      by_fields c one [] e = inr (λ p. let same : c ∷ [] ≡ p.con ∷ [] = sym one ∙ p.one in let is : c ≡ p.con = cc in let bad : [] ≡ p.first ∷ p.rest = sym e ∙ (ap (λ (k : ConDecl). k.fields) is ∙ p.fields) in absurd (cc))
      by_fields c one (f ∷ fs) e =
          let are = fields_of_one it c (f ∷ fs) one e in
          both_decided
          (λ many ports. record { as_many = many; con = c; one = one; first = f; rest = fs; fields = e; ports = ports })
          (λ p. p.as_many)
          (λ p.
          let is : p.first ∷ p.rest ≡ f ∷ fs = sym (fields_of_one it p.con (p.first ∷ p.rest) p.one p.fields) ∙ are in
          subst (λ gs. ArePorts datas gs (arguments ts)) is p.ports)
          (same_numbers (length (list_of ts)) (length it.params))
          (ports_decided datas n rec (f ∷ fs) (arguments ts) (subst (λ gs. all_whole datas (put_in (arguments ts) gs) < n) are l))

      by : (cs : List ConDecl) → it.cons ≡ cs → IsDecided (Product datas it ts)
      by [] e = inr (λ p. let bad : [] ≡ p.con ∷ [] = sym e ∙ p.one in absurd (cc))
      by (c ∷ []) e = by_fields c e c.fields refl
      by (c ∷ k ∷ cs) e = inr (λ p. let bad : c ∷ k ∷ cs ≡ p.con ∷ [] = sym e ∙ p.one in absurd (cc))

  data_port_decided : (n d : ℕ) (ts : TypeTrees) → ((t : TypeTree) → whole datas t < n → IsDecided (IsPort datas t)) → whole datas (data_of d ts) < suc n → IsDecided (IsPort datas (data_of d ts))
  data_port_decided n d ts rec l = by (slice_get datas d) refl
    where
      by : (o : Option Data) → slice_get datas d ≡ o → IsDecided (IsPort datas (data_of d ts))
      by None e = inr (λ p. no_data_port e p.1)
      by (Some it) e =
          let weight = unfolded datas order d it ts e in
          elim (product_decided n rec it ts (omega arith)) as (λ _. IsDecided (IsPort datas (data_of d ts))) [ inl p ↦ inl (product_port it e p) | inr other ↦ inr (λ p. other (product_of it e p.1)) ]

  port_below : (n : ℕ) (t : TypeTree) → whole datas t < n → IsDecided (IsPort datas t)
  port_below zero t l = absurd (omega arith)
  port_below (suc n) (data_of d ts) l = data_port_decided n d ts (port_below n) l
  port_below (suc n) (signal (domain d) t) l =
      elim (representable_decided datas order t) as (λ _. IsDecided (IsPort datas (signal (domain d) t))) [ inl r ↦ inl (_, one_leaf {dom = record { number = d }} r) | inr other ↦ inr (λ p. other (payload_of p.1)) ]
  port_below (suc n) (signal _ t) l = inr (λ p. elim p.1 [ ])
  port_below (suc n) _ l = inr (λ p. elim p.1 [ ])

  pub port_decided : (t : TypeTree) → IsDecided (IsPort datas t)
  port_decided t = port_below (suc (whole datas t)) t (omega arith)
