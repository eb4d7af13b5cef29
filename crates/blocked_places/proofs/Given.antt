-- The types at which a primitive stands.
use Rattle.std.proofs.Common.{◌≡◌, ◌∙◌, sym, ap, refl, ℕ, zero, suc, ◌+◌, ◌<◌, arith}
use Rattle.std.proofs.Common.{List, [], ◌∷◌, ◌++◌, map, append_assoc, length, length-append}
use Rattle.std.proofs.Common.{Some}
use Rattle.std.specs.List.{slice_get}
use Rattle.std.proofs.lemmas.List.{map-append}
use Rattle.chw_types.specs.declared.kind.Kind.{Kind}
use Rattle.chw_types.specs.declared.ty.TyNode.{TyNode}
use Rattle.chw_types.specs.declared.ty.TyNode.TheVariants.{Var, NatLit, Sum, Times, DomOf, Unsigned}
use Rattle.chw_types.specs.declared.ty.TyNode.TheVariants.{Signed, BitVector, Vec, DataOf, Fun}
use Rattle.chw_types.specs.declared.ty.TyNode.TheVariants.{Signal, Forall}
use Rattle.chw_types.specs.TypeTree.{TypeTree, for_all}
use Rattle.chw_types.specs.TypeView.{tree_of}
use Rattle.chw_terms.specs.declared.term.Arg.{Arg}
use Rattle.chw_terms.specs.declared.term.Arg.TheVariants.{OfType}
use Rattle.rewriting.proofs.Lists.{mapped_same}
use Rattle.rewriting.proofs.Spines.{fronts_same}
use Rattle.normal_forms.specs.Blocked.{types_asked}
use Rattle.blocked_places.specs.Limits.{AreGiven}

abbrev of_types : List TypeTree → List Arg
of_types types = map (λ t. OfType t) types

mapped_length : (types : List TypeTree) → length (of_types types) ≡ length types
mapped_length [] = refl
mapped_length (t ∷ types) = ap suc (mapped_length types)

-- the first types, and what a primitive's type asks for behind them
pub record AreGivenSoFar (schema rest : TypeTree) (args : List Arg) (types : List TypeTree)
    : Type 0
  where
    pub more : List Arg
    pub are : args ≡ map (λ t. OfType t) types ++ more
    pub asked : length types + types_asked rest ≡ types_asked schema

pub given_at_start : (schema : TypeTree) (args : List Arg) → AreGivenSoFar schema schema args []
given_at_start schema args = record { more = args; are = refl; asked = omega arith }

behind_types : (types : List TypeTree) (more : List Arg)
    → slice_get (of_types types ++ more) (length types) ≡ slice_get more 0
behind_types [] more = refl
behind_types (t ∷ types) more = behind_types types more

record HasFirst (a : Arg) (more : List Arg) : Type 0 where
  rest : List Arg
  is : more ≡ a ∷ rest

has_first : (a : Arg) (more : List Arg) → slice_get more 0 ≡ Some a → HasFirst a more
has_first a [] h = absurd cc
has_first a (b ∷ more) h =
    let same : b ≡ a = cc in record { rest = more; is = λ i. same i ∷ more }

asks_one_more : (rest to : TypeTree) (k : Kind) → rest ≡ for_all k to
    → types_asked rest ≡ suc (types_asked to)
asks_one_more rest to k e = ap types_asked e

pub given_next : (schema rest to : TypeTree) (k : Kind) (args : List Arg) (types : List TypeTree)
    (t : TypeTree)
    → rest ≡ for_all k to → AreGivenSoFar schema rest args types
    → slice_get args (length types) ≡ Some (OfType t)
    → AreGivenSoFar schema to args (types ++ t ∷ [])
given_next schema rest to k args types t e h at =
    let there = sym (behind_types types h.more) ∙ ap (λ xs. slice_get xs (length types)) (sym h.are) ∙ at in
    let first = has_first (OfType t) h.more there in
    let one : List TypeTree = t ∷ [] in
    let f : TypeTree → Arg = λ u. OfType u in
    record {
      more = first.rest;
      are =
          h.are ∙ ap (λ xs. of_types types ++ xs) first.is
          ∙ sym (append_assoc (of_types types) (of_types one) first.rest)
          ∙ ap (λ xs. xs ++ first.rest) (sym (map-append f types one));
      asked = omega (arith, h.asked, asks_one_more rest to k e, length-append types one);
    }

pub given_in_all : (schema rest : TypeTree) (args : List Arg) (types : List TypeTree)
    → types_asked rest ≡ 0 → AreGivenSoFar schema rest args types → AreGiven schema args types
given_in_all schema rest args types none h =
    record { more = h.more; are = h.are; all = omega (arith, none, h.asked) }

type_at : (types : List TypeTree) (more : List Arg) (i : ℕ) → i < length types
    → (t : TypeTree) × (slice_get (of_types types ++ more) i ≡ Some (OfType t))
type_at [] more i l = absurd (omega (arith, l))
type_at (t ∷ types) more zero l = (t, refl)
type_at (t ∷ types) more (suc i) l = type_at types more i (omega (arith, l))

pub none_given : (schema rest to : TypeTree) (k : Kind) (args : List Arg) (types : List TypeTree)
    → rest ≡ for_all k to → AreGivenSoFar schema rest args types
    → ((t : TypeTree) → slice_get args (length types) ≡ Some (OfType t) → ⊥)
    → (others : List TypeTree) → AreGiven schema args others → ⊥
none_given schema rest to k args types e h none others g =
    let it = type_at others g.more (length types) (omega (arith, h.asked, asks_one_more rest to k e, g.all)) in
    none it.0 (ap (λ xs. slice_get xs (length types)) g.are ∙ it.1)

-- a type that isn't one for all types asks for none
pub asks_none : (n : TyNode) → ((a b : _) → n ≡ Forall a b → ⊥) → types_asked (tree_of n) ≡ 0
asks_none (Var x) none = refl
asks_none (NatLit n) none = refl
asks_none (Sum x y) none = refl
asks_none (Times x y) none = refl
asks_none (DomOf d) none = refl
asks_none (Unsigned w) none = refl
asks_none (Signed w) none = refl
asks_none (BitVector w) none = refl
asks_none (Vec n t) none = refl
asks_none (DataOf d ts) none = refl
asks_none (Fun x y) none = refl
asks_none (Signal d t) none = refl
asks_none (Forall k t) none = absurd (none k t refl)

-- there is one such list of types
pub given_once : (schema : TypeTree) (args : List Arg) (types others : List TypeTree)
    → AreGiven schema args types → AreGiven schema args others → types ≡ others
given_once schema args types others g h =
    let count : length (of_types types) ≡ length (of_types others) =
    mapped_length types ∙ g.all ∙ sym h.all ∙ sym (mapped_length others) in
    mapped_same (λ t. OfType t) (λ t u q. cc) types others
    (fronts_same (of_types types) (of_types others) g.more h.more count (sym g.are ∙ h.are))
