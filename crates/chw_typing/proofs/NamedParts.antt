-- The parts of representable types and of ports.
use Rattle.std.proofs.Common.{◌≡◌, ℕ, suc, zero, sym, ap, subst, ◌∙◌, List, [], ◌∷◌, ◌++◌}
use Rattle.std.specs.Prelude.{Some}
use Rattle.std.specs.List.{slice_get, AllByRecursion}
use Rattle.std.proofs.lemmas.List.{append-nil}
use Rattle.chw_types.specs.declared.declarations.ConDecl.{ConDecl}
use Rattle.chw_types.specs.declared.declarations.Data.{Data}
use Rattle.type_ports.specs.declared.ports.Leaf.{Leaf}
use Rattle.chw_types.specs.TypeTree.{TypeTree, vector, data_of, TypeTrees}
use Rattle.chw_types.specs.TypeMoves.{Substitution, sub}
use Rattle.chw_types.specs.Arguments.{arguments, all_fields}
use Rattle.type_ports.specs.Representable.{Representable, representable_vector, representable_data, AllRepresentable, none_to_represent, represent_and}
use Rattle.type_ports.specs.Ports.{Leaves, one_leaf, leaves_of_fields, LeavesOfAll, no_leaves, leaves_and, IsPort}
use Rattle.chw_terms.specs.References.{IsField}

one_of : {X : Type 0} (P : X → Type 0) (xs : List X) (i : ℕ) (x : X) → slice_get xs i ≡ Some x → AllByRecursion P xs → P x
one_of P [] i x e h = absurd (cc)
one_of P (y ∷ xs) zero x e h = let same : y ≡ x = cc in subst P same h.0
one_of P (y ∷ xs) (suc i) x e h = one_of P xs i x e h.1

before : {X : Type 0} (P : X → Type 0) (xs ys : List X) → AllByRecursion P (xs ++ ys) → AllByRecursion P xs × AllByRecursion P ys
before P [] ys h = (tt, h)
before P (x ∷ xs) ys h = let more = before P xs ys h.1 in ((h.0, more.0), more.1)

-- what holds of all fields holds of those of each constructor
of_con : (P : TypeTree → Type 0) (cs : List ConDecl) (i : ℕ) (c : ConDecl) → slice_get cs i ≡ Some c → AllByRecursion P (all_fields cs) → AllByRecursion P c.fields
of_con P [] i c e h = absurd (cc)
of_con P (x ∷ cs) zero c e h = let same : x ≡ c = cc in subst (λ (y : ConDecl). AllByRecursion P y.fields) same (before P x.fields (all_fields cs) h).0
of_con P (x ∷ cs) (suc i) c e h = of_con P cs i c e (before P x.fields (all_fields cs) h).1

-- and of each field
pub of_field : (P : TypeTree → Type 0) (it : Data) (f : TypeTree) → IsField it f → AllByRecursion P (all_fields it.cons) → P f
of_field P it f field h = one_of P field.of.fields field.at f field.is_field (of_con P it.cons field.con field.of field.is_con h)

-- the fields of a data type with one constructor
pub fields_of_one : (it : Data) (c : ConDecl) (fs : List TypeTree) → it.cons ≡ c ∷ [] → c.fields ≡ fs → all_fields it.cons ≡ fs
fields_of_one it c fs one fields = ap all_fields one ∙ append-nil c.fields ∙ fields

pub element_representable : {datas : List Data} {n t : TypeTree} → Representable datas (vector n t) → Representable datas t
element_representable (representable_vector r) = r

all_representable : {datas : List Data} {fs : List TypeTree} {σ : Substitution} → AllRepresentable datas fs σ → AllByRecursion (λ f. Representable datas (sub f σ)) fs
all_representable none_to_represent = tt
all_representable (represent_and r all) = (r, all_representable all)

pub fields_representable : {datas : List Data} {d : ℕ} {ts : TypeTrees} (it : Data) (f : TypeTree) → slice_get datas d ≡ Some it → IsField it f → Representable datas (data_of d ts) → Representable datas (sub f (arguments ts))
fields_representable {datas} it f known field (representable_data {it = other} {ts = ts} e many all) =
    let same : other ≡ it = cc in
    of_field (λ g. Representable datas (sub g (arguments ts))) it f field (subst (λ (o : Data). AllByRecursion (λ g. Representable datas (sub g (arguments ts))) (all_fields o.cons)) same (all_representable all))

all_ports : {datas : List Data} {fs : List TypeTree} {σ : Substitution} {ls : List Leaf} → LeavesOfAll datas fs σ ls → AllByRecursion (λ f. IsPort datas (sub f σ)) fs
all_ports no_leaves = tt
all_ports (leaves_and {ls = ls} a b) = ((ls, a), all_ports b)

fields_leaves : {datas : List Data} {d : ℕ} {ts : TypeTrees} {ls : List Leaf} (it : Data) (f : TypeTree) → slice_get datas d ≡ Some it → IsField it f → Leaves datas (data_of d ts) ls → IsPort datas (sub f (arguments ts))
fields_leaves {datas} it f known field (leaves_of_fields {it = other} {ts = ts} {c = c} {f = g} {fs = gs} e many one fields all) =
    let same : it ≡ other = cc in
    let are = ap (λ (o : Data). all_fields o.cons) same ∙ fields_of_one other c (g ∷ gs) one fields in
    of_field (λ x. IsPort datas (sub x (arguments ts))) it f field (subst (AllByRecursion (λ x. IsPort datas (sub x (arguments ts)))) (sym are) (all_ports all))

pub fields_ports : {datas : List Data} {d : ℕ} {ts : TypeTrees} (it : Data) (f : TypeTree) → slice_get datas d ≡ Some it → IsField it f → IsPort datas (data_of d ts) → IsPort datas (sub f (arguments ts))
fields_ports it f known field port = fields_leaves it f known field port.1

mutual
  -- no type is representable and a port
  not_leaves : {datas : List Data} {t : TypeTree} {ls : List Leaf} → Representable datas t → Leaves datas t ls → ⊥
  not_leaves {datas} (representable_data {it = a} i many all) (leaves_of_fields {it = b} {ts = ts} {c = c} {f = f} {fs = fs} j as_many one fields x) =
      let same : a ≡ b = cc in
      let are = ap (λ (o : Data). all_fields o.cons) same ∙ fields_of_one b c (f ∷ fs) one fields in
      first_not (subst (λ gs. AllRepresentable datas gs (arguments ts)) are all) x
  not_leaves r (one_leaf q) = elim r [ ]

  first_not : {datas : List Data} {f : TypeTree} {fs : List TypeTree} {σ : Substitution} {ls : List Leaf} → AllRepresentable datas (f ∷ fs) σ → LeavesOfAll datas (f ∷ fs) σ ls → ⊥
  first_not (represent_and r all) (leaves_and l more) = not_leaves r l

pub not_both : {datas : List Data} {t : TypeTree} → Representable datas t → IsPort datas t → ⊥
not_both r port = not_leaves r port.1
