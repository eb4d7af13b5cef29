-- Lists that are related place by place, and the bindings of a letrec as a list.
use Rattle.std.proofs.Common.{◌≡◌, ◌∙◌, sym, ap, refl, subst, ℕ, zero, suc, ◌+◌, ◌<◌, arith}
use Rattle.std.proofs.Common.{List, [], ◌∷◌, ◌++◌, length, take, get_or, ◌≤◌, Some}
use Rattle.std.proofs.lemmas.List.{take_all, take_more}
use Rattle.std.specs.List.{slice_get}
use Rattle.std.specs.Prelude.{Vec}
use Rattle.std.specs.declared.alloc.Global.{Global}
use Rattle.chw_types.specs.TypeTree.{TypeTree}
use Rattle.chw_terms.specs.declared.term.Binding.{Binding}
use Rattle.chw_terms.specs.TermTree.{TermTree, size_of}
use Rattle.chw_terms.specs.TermView.{group_of}
use Rattle.graph_order.specs.Orders.{numbers}
use Rattle.chw_typing.specs.Groups.{binding_at}
use Rattle.blocked_places.specs.Cycles.{AreRelated}

pub related_more : {A B : Type 0} (R : A → B → Type 0) (xs : List A) (ys : List B) (x : A) (y : B)
    → AreRelated R xs ys → R x y → AreRelated R (xs ++ x ∷ []) (ys ++ y ∷ [])
related_more R [] [] x y h r = (r, tt)
related_more R [] (v ∷ ys) x y h r = absurd h
related_more R (u ∷ xs) [] x y h r = absurd h
related_more R (u ∷ xs) (v ∷ ys) x y h r = (h.0, related_more R xs ys x y h.1 r)

-- the loop over the items of one list
pub related_next : {A B : Type 0} (R : A → B → Type 0) (xs : List A) (i : ℕ) (x : A) (ys : List B)
    (y : B)
    → i < length xs → x ≡ get_or xs i x → AreRelated R (take i xs) ys → R x y
    → AreRelated R (take (i + 1) xs) (ys ++ y ∷ [])
related_next R xs i x ys y l is h r =
    subst (λ zs. AreRelated R zs (ys ++ y ∷ []))
    (sym (take_more xs i x l ∙ ap (λ z. take i xs ++ z ∷ []) (sym is)))
    (related_more R (take i xs) ys x y h r)

pub related_end : {A B : Type 0} (R : A → B → Type 0) (xs : List A) (i : ℕ) (ys : List B)
    → length xs ≤ i → AreRelated R (take i xs) ys → AreRelated R xs ys
related_end R xs i ys l h = subst (λ zs. AreRelated R zs ys) (take_all i xs l) h

pub related_length : {A B : Type 0} (R : A → B → Type 0) (xs : List A) (ys : List B)
    → AreRelated R xs ys → length xs ≡ length ys
related_length R [] [] h = refl
related_length R [] (v ∷ ys) h = absurd h
related_length R (u ∷ xs) [] h = absurd h
related_length R (u ∷ xs) (v ∷ ys) h = ap suc (related_length R xs ys h.1)

pub related_at : {A B : Type 0} (R : A → B → Type 0) (xs : List A) (ys : List B) (i : ℕ) (x : A)
    (y : B)
    → AreRelated R xs ys → slice_get xs i ≡ Some x → slice_get ys i ≡ Some y → R x y
related_at R [] ys i x y h a b = absurd cc
related_at R (u ∷ xs) [] i x y h a b = absurd h
related_at R (u ∷ xs) (v ∷ ys) zero x y h a b =
    let p : u ≡ x = cc in
    let q : v ≡ y = cc in
    subst (λ z. R z y) p (subst (R u) q h.0)
related_at R (u ∷ xs) (v ∷ ys) (suc i) x y h a b = related_at R xs ys i x y h.1 a b

pub item_there : {A : Type 0} (xs : List A) (i : ℕ) → i < length xs
    → (x : A) × (slice_get xs i ≡ Some x)
item_there [] i l = absurd (omega (arith, l))
item_there (x ∷ xs) zero l = (x, refl)
item_there (x ∷ xs) (suc i) l = item_there xs i (omega (arith, l))

-- bindings as a list
pub record IsListed (bs : List Binding) (i : ℕ) (b : TypeTree × TermTree) : Type 0 where
  pub item : Binding
  pub is : slice_get bs i ≡ Some item
  pub type : item.ty ≡ b.0
  pub side : item.body ≡ b.1

pub is_listed : (bs : List Binding) (i : ℕ) (b : TypeTree × TermTree)
    → binding_at (group_of bs) i ≡ Some b → IsListed bs i b
is_listed [] i b h = absurd cc
is_listed (x ∷ bs) zero b h =
    let is : (x.ty, x.body) ≡ b = cc in
    record {
      item = x;
      is = refl;
      type = ap (λ (c : TypeTree × TermTree). c.0) is;
      side = ap (λ (c : TypeTree × TermTree). c.1) is;
    }
is_listed (x ∷ bs) (suc i) b h =
    let more = is_listed bs i b h in
    record { item = more.item; is = more.is; type = more.type; side = more.side }

pub is_bound : (bs : List Binding) (i : ℕ) (x : Binding) → slice_get bs i ≡ Some x
    → binding_at (group_of bs) i ≡ Some (x.ty, x.body)
is_bound [] i x h = absurd cc
is_bound (y ∷ bs) zero x h =
    let is : y ≡ x = cc in ap (λ (c : Binding). Some (c.ty, c.body)) is
is_bound (y ∷ bs) (suc i) x h = is_bound bs i x h

pub size_listed : (bs : List Binding) → size_of (group_of bs) ≡ length bs
size_listed [] = refl
size_listed (b ∷ bs) = ap suc (size_listed bs)

pub numbers_push : (ls : List (Vec ℕ Global)) (v : Vec ℕ Global)
    → numbers (ls ++ v ∷ []) ≡ numbers ls ++ v.items ∷ []
numbers_push [] v = refl
numbers_push (x ∷ ls) v = ap (λ more. x.items ∷ more) (numbers_push ls v)
