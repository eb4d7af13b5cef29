-- What a rule makes of a letrec is one term.
use Rattle.std.proofs.Common.{◌≡◌, ◌∙◌, sym, ap, refl, subst, inl, inr, ◌⊎◌, ◌↔◌, suc, ◌+◌, ◌<◌, Bool, true, false, List, Some, slice_get, true≢false}
use Rattle.chw_types.specs.TypeTree.{TypeTree}
use Rattle.chw_types.specs.declared.declarations.Data.{Data}
use Rattle.chw_terms.specs.declared.rule.Rule.{Rule}
use Rattle.chw_terms.specs.declared.scene.Mode.{Mode}
use Rattle.chw_terms.specs.Occurs.{occurs}
use Rattle.chw_terms.specs.TermMoves.{shift}
use Rattle.chw_terms.specs.TermTree.{TermTree, letrec, Group, no_bindings, bind, size_of}
use Rattle.chw_typing.specs.Groups.{joined, Reached}
use Rattle.chw_typing.proofs.GroupParts.{size_joined}
use Rattle.rewriting.specs.Named.{IsNamed}
use Rattle.rewriting.specs.Origins.{Origins}
use Rattle.rewriting.specs.Spots.{Spot}
use Rattle.rewriting.specs.Lets.{OfLets, flat_side, flat_body, dead, inline, side_joined, inlined, kept, MarksReached, EachStays}
use Rattle.rewriting.specs.Shapes.{IsLet, NoLetIn}
use Rattle.rewriting.proofs.Lists.{marks_same}

-- a group in two parts
pub record SameParts (front front' rest rest' : Group) : Type 0 where
  pub first : front ≡ front'
  pub second : rest ≡ rest'

-- of each binding: its type, its right side, and the bindings behind it
abbrev Claim : Type 1
Claim = TypeTree → TermTree → Group → Type 0

-- the first binding of a group is of this form; each in the front part, before the rest, isn't
abbrev Begins : Claim → Group → Type 0
Begins P no_bindings = ⊥
Begins P (bind t e g) = P t e g

abbrev NoneBefore : Claim → Group → Group → Type 0
NoneBefore P no_bindings rest = Unit {0}
NoneBefore P (bind t e g) rest = (P t e (joined g rest) → ⊥) × NoneBefore P g rest

-- the first binding of a form parts a group in one way
one_parting : (P : Claim) (front front' rest rest' : Group) → NoneBefore P front rest → NoneBefore P front' rest' → Begins P rest → Begins P rest' → joined front rest ≡ joined front' rest' → SameParts front front' rest rest'
one_parting P no_bindings no_bindings rest rest' n m b c q = record { first = refl; second = q }
one_parting P no_bindings (bind t e g) rest rest' n m b c q = absurd (m.0 (subst (Begins P) q b))
one_parting P (bind t e g) no_bindings rest rest' n m b c q = absurd (n.0 (subst (Begins P) (sym q) c))
one_parting P (bind t e g) (bind u f h) rest rest' n m b c q =
    let type : t ≡ u = cc in
    let side : e ≡ f = cc in
    let behind : joined g rest ≡ joined h rest' = cc in
    let same = one_parting P g h rest rest' n.1 m.1 b c behind in
    record { first = λ i. bind (type i) (side i) (same.first i); second = same.second }

-- a right side that is a letrec
abbrev LetSide : Claim
LetSide t e g = IsLet e

no_let_side : (front rest : Group) → NoLetIn front → NoneBefore LetSide front rest
no_let_side no_bindings rest n = tt
no_let_side (bind t e g) rest n = (n.0, no_let_side g rest n.1)

one_side : (front front' back back' cs cs' : Group) (t t' : TypeTree) (x x' : TermTree) → NoLetIn front → NoLetIn front' → joined front (bind t (letrec cs x) back) ≡ joined front' (bind t' (letrec cs' x') back') → SameParts front front' (bind t (letrec cs x) back) (bind t' (letrec cs' x') back')
one_side front front' back back' cs cs' t t' x x' n m q =
    one_parting LetSide front front' (bind t (letrec cs x) back) (bind t' (letrec cs' x') back') (no_let_side front _ n) (no_let_side front' _ m) tt tt q

-- where one is, there isn't none
side_found : (front back cs : Group) (t : TypeTree) (x : TermTree) → NoLetIn (joined front (bind t (letrec cs x) back)) → ⊥
side_found no_bindings back cs t x n = n.0 tt
side_found (bind u e g) back cs t x n = side_found g back cs t x n.1

-- a binding that goes
abbrev Goes : List Data → Mode → Claim
Goes datas mode t e g = (IsNamed datas mode t → ⊥) × (occurs e (size_of g) ≡ false)

none_goes : (datas : List Data) (mode : Mode) (front rest : Group) → EachStays datas mode front (size_of rest) → NoneBefore (Goes datas mode) front rest
none_goes datas mode no_bindings rest s = tt
none_goes datas mode (bind t e g) rest s = (stays s.0, none_goes datas mode g rest s.1)
  where
    stays : (IsNamed datas mode t ⊎ (occurs e (size_of g + size_of rest) ≡ true)) → Goes datas mode t e (joined g rest) → ⊥
    stays (inl n) h = h.0 n
    stays (inr o) h = true≢false (sym o ∙ ap (occurs e) (sym (size_joined g rest)) ∙ h.1)

one_inlined : (datas : List Data) (mode : Mode) (front front' back back' : Group) (t t' : TypeTree) (x x' : TermTree) → (IsNamed datas mode t → ⊥) → (IsNamed datas mode t' → ⊥) → occurs x (size_of back) ≡ false → occurs x' (size_of back') ≡ false → EachStays datas mode front (suc (size_of back)) → EachStays datas mode front' (suc (size_of back')) → joined front (bind t x back) ≡ joined front' (bind t' x' back') → SameParts front front' (bind t x back) (bind t' x' back')
one_inlined datas mode front front' back back' t t' x x' n m p r s w q =
    one_parting (Goes datas mode) front front' (bind t x back) (bind t' x' back') (none_goes datas mode front (bind t x back) s) (none_goes datas mode front' (bind t' x' back') w) (n, p) (m, r) q

one_marking : (g h : Group) (e f : TermTree) (xs ys : List Bool) → MarksReached g e xs → MarksReached h f ys → g ≡ h → e ≡ f → xs ≡ ys
one_marking g h e f xs ys m n p q =
    marks_same (Reached h f) xs ys (m.each_one ∙ ap size_of p ∙ sym n.each_one)
    (λ i l. subst (λ g. slice_get xs i ≡ Some true ↔ Reached g f i) p
    (subst (λ e. slice_get xs i ≡ Some true ↔ Reached g e i) q (m.reached i (subst (λ k. i < k) m.each_one l))))
    (λ i l. n.reached i (subst (λ k. i < k) n.each_one l))

pub one_let : {o : Origins} {at : Spot} {r r' : Rule} {e f a b : TermTree} → OfLets o at r e a → OfLets o at r' f b → r ≡ r' → e ≡ f → a ≡ b
one_let (flat_side front t cs x back {e = e} m n) (flat_side front' t' cs' x' back' {e = e'} m' n') k q =
    let groups : joined front (bind t (letrec cs x) back) ≡ joined front' (bind t' (letrec cs' x') back') = cc in
    let body : e ≡ e' = cc in
    let same = one_side front front' back back' cs cs' t t' x x' n n' groups in
    let first : front ≡ front' = same.first in
    let second : bind t (letrec cs x) back ≡ bind t' (letrec cs' x') back' = same.second in
    let type : t ≡ t' = cc in
    let inner : cs ≡ cs' = cc in
    let side : x ≡ x' = cc in
    let behind : back ≡ back' = cc in
    λ i. letrec (side_joined (first i) (type i) (inner i) (side i) (behind i)) (shift (body i) (suc (size_of (behind i))) (size_of (inner i)))
one_let (flat_side front t cs x back m n) (flat_body {g = g} m' n') k q =
    let groups : joined front (bind t (letrec cs x) back) ≡ g = cc in
    absurd (side_found front back cs t x (subst NoLetIn (sym groups) n'))
one_let (flat_body {g = g} m' n') (flat_side front t cs x back m n) k q =
    let groups : g ≡ joined front (bind t (letrec cs x) back) = cc in
    absurd (side_found front back cs t x (subst NoLetIn groups n'))
one_let (flat_body m n) (flat_body m' n') k q = cc
one_let (dead {g = g} {e = e} {marks = xs} m d u) (dead {g = h} {e = f} {marks = ys} m' d' u') k q =
    let groups : g ≡ h = cc in
    let body : e ≡ f = cc in
    let marks = one_marking g h e f xs ys d d' groups body in
    λ i. kept (marks i) (groups i) (body i)
one_let {o} {at} (inline front t x back {e = e} m n d s) (inline front' t' x' back' {e = e'} m' n' d' s') k q =
    let groups : joined front (bind t x back) ≡ joined front' (bind t' x' back') = cc in
    let body : e ≡ e' = cc in
    let same = one_inlined o.program.datas at.mode front front' back back' t t' x x' n n' d d' s s' groups in
    let first : front ≡ front' = same.first in
    let second : bind t x back ≡ bind t' x' back' = same.second in
    let side : x ≡ x' = cc in
    let behind : back ≡ back' = cc in
    λ i. inlined (first i) (side i) (behind i) (body i)
one_let (flat_side front t cs x back m n) (dead m' d' u') k q = absurd cc
one_let (flat_side front t cs x back m n) (inline front' t' x' back' m' n' d' s') k q = absurd cc
one_let (flat_body m n) (dead m' d' u') k q = absurd cc
one_let (flat_body m n) (inline front' t' x' back' m' n' d' s') k q = absurd cc
one_let (dead m d u) (flat_side front' t' cs' x' back' m' n') k q = absurd cc
one_let (dead m d u) (flat_body m' n') k q = absurd cc
one_let (dead m d u) (inline front' t' x' back' m' n' d' s') k q = absurd cc
one_let (inline front t x back m n d s) (flat_side front' t' cs' x' back' m' n') k q = absurd cc
one_let (inline front t x back m n d s) (flat_body m' n') k q = absurd cc
one_let (inline front t x back m n d s) (dead m' d' u') k q = absurd cc
