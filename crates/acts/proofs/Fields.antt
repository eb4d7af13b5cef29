-- Fields and elements of thunks act so where the thunks do.
use Rattle.std.specs.Prelude.{slice_get}
use Rattle.std.proofs.Common.{◌≡◌, ℕ, suc, zero, List, [], ◌∷◌, length, reverse, Some, refl, sym, ap, ◌∙◌, subst}
use Rattle.chw_types.specs.declared.declarations.ConDecl.{ConDecl}
use Rattle.chw_types.specs.declared.declarations.Data.{Data}
use Rattle.chw_types.specs.TypeTree.{TypeTree, vector, data_of, TypeTrees}
use Rattle.chw_terms.specs.declared.program.Program.{Program}
use Rattle.chw_terms.specs.Constructors.{Constructor, con_at}
use Rattle.chw_typing.specs.HeadTypes.{fields_at}
use Rattle.chw_typing.proofs.Heads.{is_constructor}
use Rattle.chw_meaning.specs.Values.{con_of, vec_of, Thunk, field, element, Thunks, none, thunk_and, thunk_at}
use Rattle.chw_meaning.specs.Eval.{plus, f_field, f_element}
use Rattle.chw_meaning.proofs.Once.{same_some}
use Rattle.acts.specs.Levels.{Levels, later, thunk_has, ThunksAct}
use Rattle.acts.specs.Acts.{EachAct, BuiltActs, VectorActs}
use Rattle.acts.proofs.Levels.{at_end, later_plus, IsLevels, at_later, more, opens}
use Rattle.acts.proofs.Tied.{part_acts}

one_place : (ks : List ConDecl) (i j : ℕ) (a b : ConDecl) → length ks ≡ 1 → slice_get ks i ≡ Some a → slice_get ks j ≡ Some b → a ≡ b
one_place [] i j a b n e f = cc
one_place (k ∷ []) zero zero a b n e f = same_some e f
one_place (k ∷ []) zero (suc j) a b n e f = cc
one_place (k ∷ []) (suc i) j a b n e f = cc
one_place (k ∷ l ∷ ks) i j a b n e f = cc

-- a data type's only constructor
pub only_one : (datas : List Data) (c d : ℕ) (it other : Constructor) → con_at datas c ≡ Some it → con_at datas d ≡ Some other → other.of ≡ it.of → length it.it.cons ≡ 1 → other.decl ≡ it.decl
only_one datas c d it other e f same n =
    let a = is_constructor datas c it e in
    let b = is_constructor datas d other f in
    let its : other.it ≡ it.it = same_some (ap (λ i. slice_get datas i) (sym same) ∙ b.data_type) a.data_type in
    one_place it.it.cons b.place a.place other.decl it.decl n (ap (λ (x : Data). slice_get x.cons b.place) (sym its) ∙ b.decl) a.decl

-- a field of a data type with one constructor
pub field_acts : {p : Program} {r : Levels} → IsLevels p r → (c d : ℕ) (us : TypeTrees) (it : Constructor) (i : ℕ) (t : TypeTree) (x' x : Thunk) → con_at p.datas c ≡ Some it → it.of ≡ d → length it.it.cons ≡ 1 → slice_get (reverse (fields_at it us)) i ≡ Some t → ThunksAct p r (data_of d us) x' x → ThunksAct p r t (field i x') (field i x)
field_acts {p} {r} l c d us it i t x' x held of one typed acts h' h m v al (f_field {m = k} {n = j} {c = tag} {x = y'} {ths = ys'} fx found fy) =
    let result = opens l k (data_of d us) (con_of tag ys') (thunk_has p x h) (λ q. later j q zero t v (thunk_has p (field i x) h)) (at_end p j t v (thunk_has p (field i x) h)) (acts h' h k (con_of tag ys') tt fx) step in
    subst (λ q. q zero t v (thunk_has p (field i x) h)) (sym (later_plus (suc k) j r)) result
  where
    step : BuiltActs p (later (suc k) r) d us (con_of tag ys') (thunk_has p x h) → later j (later (suc k) r) zero t v (thunk_has p (field i x) h)
    step b =
        let decl : b.it.decl ≡ it.decl = only_one p.datas c b.tag it b.it held b.held (b.of_type ∙ sym of) one in
        let args : ys' ≡ b.first = let e = b.is in cc in
        let types : slice_get (reverse (fields_at b.it us)) i ≡ Some t = ap (λ (k : ConDecl). slice_get (reverse (fields_at (record { of = it.of; it = it.it; decl = k }) us)) i) decl ∙ typed in
        let part = part_acts (reverse (fields_at b.it us)) b.first b.second i t y' b.parts types (ap (λ a. thunk_at a i) (sym args) ∙ found) in
        more (at_later (suc k) l) j t v (thunk_has p part.0 h) (thunk_has p (field i x) h) (λ w q. (suc (plus b.has_value.0 q.0), f_field b.has_value.1 part.1 q.1)) (part.2 h' h j v al fy)

element_part : {p : Program} {r : Levels} (t : TypeTree) (xs' xs : Thunks) (i : ℕ) (x' : Thunk) → EachAct p r t xs' xs → thunk_at xs' i ≡ Some x' → (x : Thunk) × (thunk_at xs i ≡ Some x) × ThunksAct p r t x' x
element_part {p} {r} t (thunk_and y' ys') (thunk_and y ys) zero x' h a =
    let found : y' ≡ x' = cc in
    (y, refl, subst (λ z. ThunksAct p r t z y) found h.0)
element_part t (thunk_and y' ys') (thunk_and y ys) (suc i) x' h a = element_part t ys' ys i x' h.1 a
element_part t none none i x' h a = cc
element_part t none (thunk_and x xs) i x' h a = absurd h
element_part t (thunk_and x xs) none i x' h a = absurd h

pub element_acts : {p : Program} {r : Levels} → IsLevels p r → (n t : TypeTree) (i : ℕ) (x' x : Thunk) → ThunksAct p r (vector n t) x' x → ThunksAct p r t (element i x') (element i x)
element_acts {p} {r} l n t i x' x acts h' h m v al (f_element {m = k} {n = j} {x = y'} {ths = ys'} fx found fy) =
    let result = opens l k (vector n t) (vec_of ys') (thunk_has p x h) (λ q. later j q zero t v (thunk_has p (element i x) h)) (at_end p j t v (thunk_has p (element i x) h)) (acts h' h k (vec_of ys') tt fx) step in
    subst (λ q. q zero t v (thunk_has p (element i x) h)) (sym (later_plus (suc k) j r)) result
  where
    step : VectorActs p (later (suc k) r) t (vec_of ys') (thunk_has p x h) → later j (later (suc k) r) zero t v (thunk_has p (element i x) h)
    step b =
        let args : ys' ≡ b.first = let e = b.is in cc in
        let part = element_part t b.first b.second i y' b.parts (ap (λ a. thunk_at a i) (sym args) ∙ found) in
        more (at_later (suc k) l) j t v (thunk_has p part.0 h) (thunk_has p (element i x) h) (λ w q. (suc (plus b.has_value.0 q.0), f_element b.has_value.1 part.1 q.1)) (part.2 h' h j v al fy)
