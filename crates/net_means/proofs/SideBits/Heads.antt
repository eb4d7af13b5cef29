-- Heads on types and variables.
use Rattle.std.proofs.Common.{◌≡◌, ℕ, suc, ◌+◌, List, [], ◌∷◌, ◌++◌, length, map, Some, slice_get, refl, sym, ap, ◌∙◌, subst, arith, append_assoc}
use Rattle.std.proofs.lemmas.List.{append-nil}
use Rattle.chw_types.specs.SameTypes.{SameTypes}
use Rattle.chw_types.specs.TypeTree.{TypeTree}
use Rattle.chw_types.specs.declared.declarations.Data.{Data}
use Rattle.chw_prims.specs.declared.prim.Primitive.{Primitive as Prim}
use Rattle.chw_prims.specs.declared.prim.Primitive.TheVariants.{VAt}
use Rattle.chw_terms.specs.declared.term.Arg.{Arg}
use Rattle.chw_terms.specs.declared.term.Arg.TheVariants.{OfTerm, OfType}
use Rattle.chw_terms.specs.TermTree.{TermTree, var, app, ty_app, con, prim}
use Rattle.chw_terms.specs.TermView.{applied}
use Rattle.chw_typing.specs.Given.{types_then, AsksForNone}
use Rattle.normal_forms.specs.Values.{on_names}
use Rattle.chw_layout.specs.Measured.{Measure, Measured, measured_scalar, measured_vector, measured_data}
use Rattle.net_built.specs.Bodies.{ValueCells}
use Rattle.net_built.specs.Circuits.{Ground}
use Rattle.net_built.specs.Terms.{head_of, types_of, operands_of, Variable}
use Rattle.net_built.specs.Wires.{Piece}
use Rattle.net_grounds.specs.Facts.{Facts}
use Rattle.net_means.proofs.Lists.{found_in_map}
use Rattle.net_means.specs.SideBits.Sides.{IsIdle, index_of_one, LooksAt, at_operand}

-- the variables of these numbers
abbrev pub names : List ℕ → List TermTree
names xs = map (λ x. var x) xs

-- it applies nothing
pub record IsHead (f : TermTree) : Type 0 where
  pub head : head_of f ≡ f
  pub types : types_of f ≡ []
  pub operands : operands_of f ≡ []

head_then : (f : TermTree) (types : List TypeTree) (es : List TermTree) → head_of (applied f (types_then types es)) ≡ head_of f
head_then f [] [] = refl
head_then f [] (e ∷ es) = head_then (app f e) [] es
head_then f (t ∷ types) es = head_then (ty_app f t) types es

types_after : (f : TermTree) (types : List TypeTree) (es : List TermTree) → types_of (applied f (types_then types es)) ≡ types_of f ++ types
types_after f [] [] = sym (append-nil (types_of f))
types_after f [] (e ∷ es) = types_after (app f e) [] es
types_after f (t ∷ types) es = types_after (ty_app f t) types es ∙ append_assoc (types_of f) (t ∷ []) types

operands_after : (f : TermTree) (types : List TypeTree) (es : List TermTree) → operands_of (applied f (types_then types es)) ≡ operands_of f ++ es
operands_after f [] [] = sym (append-nil (operands_of f))
operands_after f [] (e ∷ es) = operands_after (app f e) [] es ∙ append_assoc (operands_of f) (e ∷ []) es
operands_after f (t ∷ types) es = operands_after (ty_app f t) types es

module _ {f : TermTree} (is : IsHead f) (types : List TypeTree) (xs : List ℕ) where
  pub the_head : head_of (on_names f types xs) ≡ f
  the_head = head_then f types (names xs) ∙ is.head

  the_types : types_of (on_names f types xs) ≡ types
  the_types = types_after f types (names xs) ∙ ap (λ ts. ts ++ types) is.types

  the_operands : operands_of (on_names f types xs) ≡ names xs
  the_operands = operands_after f types (names xs) ∙ ap (λ es. es ++ names xs) is.operands

  -- the cells of a head on these types and variables
  pub built_at : {ground : Ground} {scope : List Variable} {n w : ℕ} {p : Piece} → ValueCells ground scope n w (head_of (on_names f types xs)) (types_of (on_names f types xs)) (operands_of (on_names f types xs)) p → ValueCells ground scope n w f types (names xs) p
  built_at {ground} {scope} {n} {w} {p} built =
      let one = subst (λ e. ValueCells ground scope n w e (types_of (on_names f types xs)) (operands_of (on_names f types xs)) p) the_head built in
      let two = subst (λ ts. ValueCells ground scope n w f ts (operands_of (on_names f types xs)) p) the_types one in
      subst (λ es. ValueCells ground scope n w f types es p) the_operands two

  -- it looks at each variable, but at the idle one
  pub looks_at : (i x : ℕ) → slice_get xs i ≡ Some x → ¬ IsIdle f types i → LooksAt (on_names f types xs) x
  looks_at i x e busy =
      at_operand i (ap (λ es. slice_get es i) the_operands ∙ found_in_map (λ x. var x) xs i x e)
      (λ idle. busy (subst (λ ts. IsIdle f ts i) the_types (subst (λ g. IsIdle g (types_of (on_names f types xs)) i) the_head idle)))

pub idle_head : {f : TermTree} {types : List TypeTree} {i : ℕ} → IsIdle f types i → f ≡ prim VAt
idle_head (index_of_one e) = refl

pub con_busy : (c : ℕ) (types : List TypeTree) (i : ℕ) → ¬ IsIdle (con c) types i
con_busy c types i idle = let is : con c ≡ prim VAt = idle_head idle in absurd cc

-- how many arguments are types, and how many are terms
abbrev type_count : List Arg → ℕ
type_count [] = 0
type_count (OfType t ∷ args) = suc (type_count args)
type_count (OfTerm e ∷ args) = type_count args

abbrev term_count : List Arg → ℕ
term_count [] = 0
term_count (OfType t ∷ args) = term_count args
term_count (OfTerm e ∷ args) = suc (term_count args)

types_counted : (types : List TypeTree) (es : List TermTree) → type_count (types_then types es) ≡ length types
types_counted [] [] = refl
types_counted [] (e ∷ es) = types_counted [] es
types_counted (t ∷ types) es = ap suc (types_counted types es)

terms_counted : (types : List TypeTree) (es : List TermTree) → term_count (types_then types es) ≡ length es
terms_counted [] [] = refl
terms_counted [] (e ∷ es) = ap suc (terms_counted [] es)
terms_counted (t ∷ types) es = terms_counted types es

-- the same arguments are as many types and as many terms
pub same_counts : (types ts : List TypeTree) (es fs : List TermTree) → types_then types es ≡ types_then ts fs → (length types ≡ length ts) × (length es ≡ length fs)
same_counts types ts es fs e = (
  sym (types_counted types es) ∙ ap (λ args. type_count args) e ∙ types_counted ts fs,
  sym (terms_counted types es) ∙ ap (λ args. term_count args) e ∙ terms_counted ts fs,
)

pub all_counted : (types : List TypeTree) (es : List TermTree) → length (types_then types es) ≡ length types + length es
all_counted [] [] = refl
all_counted [] (e ∷ es) = let k = all_counted [] es in omega (arith, k)
all_counted (t ∷ types) es = let k = all_counted types es in omega (arith, k)

-- what has a width asks for nothing
pub wide_asks : Facts → {datas : List Data} {t u : TypeTree} {m : Measure} → Measured datas t m → SameTypes t u → AsksForNone u
wide_asks facts measured_scalar same = let at = facts.same.as_scalar same in subst AsksForNone (sym at.1) tt
wide_asks facts (measured_vector a) same = let at = facts.same.as_vector same in subst AsksForNone (sym at.2) tt
wide_asks facts (measured_data known many a) same = let at = facts.same.as_data same in subst AsksForNone (sym at.1) tt
