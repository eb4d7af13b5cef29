-- How the logic stores a type: as a tree of numbers, which gives it back.
use Rattle.std.specs.Prelude.{◌≡◌, ℕ, suc, zero, List, [], ◌∷◌, refl}
use Rattle.std.proofs.Common.{sym, ap, ◌∙◌}
use Rattle.std.specs.Coded.{Coded}
use base.Stored.{Gv, gnil, gnum, gcons}
use Rattle.chw_grammar.specs.declared.type_tree.KindTree.{KindTree}
use Rattle.chw_grammar.specs.declared.type_tree.KindTree.TheVariants.{Nat, Dom, Val, Cir}
use Rattle.chw_grammar.specs.declared.word.Word.{Word}
use Rattle.chw_grammar.specs.TypeTree.{Ty, type_forall, type_arrow, type_sum, type_product, type_named, type_variable, type_numeral, Tys, no_types, type_and}

abbrev pub kind_number : KindTree → ℕ
kind_number Nat = 0
kind_number Dom = 1
kind_number Val = 2
kind_number Cir = 3

abbrev pub kind_at : ℕ → KindTree
kind_at zero = Nat
kind_at (suc zero) = Dom
kind_at (suc (suc zero)) = Val
kind_at (suc (suc (suc n))) = Cir

abbrev pub num : Gv → ℕ
num gnil = 0
num (gnum n) = n
num (gcons a b) = 0

abbrev pub bytes_code : List ℕ → Gv
bytes_code [] = gnil
bytes_code (b ∷ bytes) = gcons (gnum b) (bytes_code bytes)

abbrev pub bytes_back : Gv → List ℕ
bytes_back (gcons b bytes) = num b ∷ bytes_back bytes
bytes_back _ = []

abbrev pub word_code : Word → Gv
word_code w = gcons (gnum w.at) (bytes_code w.bytes)

abbrev pub word_back : Gv → Word
word_back (gcons at bytes) = record { at = num at; bytes = bytes_back bytes }
word_back _ = record { at = 0; bytes = [] }

-- a tag with three parts
abbrev pub node : ℕ → Gv → Gv → Gv → Gv
node n a b c = gcons (gnum n) (gcons a (gcons b c))

abbrev mutual
  pub type_code : Ty → Gv
  type_code (type_forall w k t) = node 0 (word_code w) (gnum (kind_number k)) (type_code t)
  type_code (type_arrow a b) = node 1 gnil (type_code a) (type_code b)
  type_code (type_sum ts) = node 2 gnil (types_code ts) gnil
  type_code (type_product ts) = node 3 gnil (types_code ts) gnil
  type_code (type_named w ts) = node 4 (word_code w) (types_code ts) gnil
  type_code (type_variable w) = node 5 (word_code w) gnil gnil
  type_code (type_numeral w) = node 6 (word_code w) gnil gnil

  pub types_code : Tys → Gv
  types_code no_types = gnil
  types_code (type_and t ts) = gcons (type_code t) (types_code ts)

-- the type with this tag, of what its parts give
abbrev pub type_at : ℕ → Word → KindTree → (a b : Ty) → Tys → Ty
type_at zero w k a b ts = type_forall w k b
type_at (suc zero) w k a b ts = type_arrow a b
type_at (suc (suc zero)) w k a b ts = type_sum ts
type_at (suc (suc (suc zero))) w k a b ts = type_product ts
type_at (suc (suc (suc (suc zero)))) w k a b ts = type_named w ts
type_at (suc (suc (suc (suc (suc zero))))) w k a b ts = type_variable w
type_at (suc (suc (suc (suc (suc (suc n)))))) w k a b ts = type_numeral w

abbrev mutual
  pub type_back : Gv → Ty
  type_back (gcons t (gcons w (gcons a b))) = type_at (num t) (word_back w) (kind_at (num a)) (type_back a) (type_back b) (types_back a)
  type_back _ = type_variable (record { at = 0; bytes = [] })

  pub types_back : Gv → Tys
  types_back (gcons a b) = type_and (type_back a) (types_back b)
  types_back _ = no_types

pub kind_same : (k : KindTree) → kind_at (kind_number k) ≡ k
kind_same Nat = refl
kind_same Dom = refl
kind_same Val = refl
kind_same Cir = refl

pub bytes_same : (bytes : List ℕ) → bytes_back (bytes_code bytes) ≡ bytes
bytes_same [] = refl
bytes_same (b ∷ bytes) = ap (λ bs. b ∷ bs) (bytes_same bytes)

pub word_same : (w : Word) → word_back (word_code w) ≡ w
word_same w = let f : List ℕ → Word = λ bs. record { at = w.at; bytes = bs } in ap f (bytes_same w.bytes)

mutual
  pub type_same : (t : Ty) → type_back (type_code t) ≡ t
  type_same (type_forall w k t) = λ i. type_forall (word_same w i) (kind_same k i) (type_same t i)
  type_same (type_arrow a b) = λ i. type_arrow (type_same a i) (type_same b i)
  type_same (type_sum ts) = λ i. type_sum (types_same ts i)
  type_same (type_product ts) = λ i. type_product (types_same ts i)
  type_same (type_named w ts) = λ i. type_named (word_same w i) (types_same ts i)
  type_same (type_variable w) = λ i. type_variable (word_same w i)
  type_same (type_numeral w) = λ i. type_numeral (word_same w i)

  pub types_same : (ts : Tys) → types_back (types_code ts) ≡ ts
  types_same no_types = refl
  types_same (type_and t ts) = λ i. type_and (type_same t i) (types_same ts i)

abbrev pub coded_type : Coded Ty
coded_type = record { code = type_code; inj = λ x y p. sym (type_same x) ∙ (ap type_back p ∙ type_same y) }
