-- The names of the primitives.
use Rattle.std.proofs.Common.{◌≡◌, ℕ, zero, suc, ◌+◌, ◌<◌, Bool, true, false, cond, List, [], ◌∷◌, map, length, get_or, Option, Some, None, is_some, IfSome, IfNone, refl, sym, ap, ◌∙◌, arith}
use Rattle.std.specs.List.{Contains}
use Rattle.std.specs.Option.{option_map}
use Rattle.std.specs.Str.{bytes_eq}
use Rattle.std.proofs.lemmas.Slice.Eq.{bytes_eq-Decides}
use Rattle.chw_prims.specs.declared.prim.Primitive.{Primitive}
use Rattle.chw_prims.specs.declared.names.TheConstants.{ALL}
use Rattle.chw_prims.specs.Names.{name_of, primitive_names}
use Rattle.name_tables.specs.Names.{place_of, is_among}

later : (o : Option ℕ) → is_some o ≡ true → is_some (option_map (λ (i : ℕ). i + 1) o) ≡ true
later (Some i) is = refl
later None is = is

one_among : (ps : List Primitive) (p : Primitive) (k : ℕ) → k < length ps → get_or ps k p ≡ p → is_among (map name_of ps) (name_of p) ≡ true
one_among [] p k lt e = absurd (omega arith)
one_among (q ∷ ps) p zero lt e = ap (λ b. is_some (cond b (Some 0) (option_map (λ (i : ℕ). i + 1) (place_of (map name_of ps) (name_of p))))) ((bytes_eq-Decides (name_of p) (name_of q)).1 (ap name_of (sym e)))
one_among (q ∷ ps) p (suc k) lt e = by (bytes_eq (name_of p) (name_of q)) (later (place_of (map name_of ps) (name_of p)) (one_among ps p k (omega arith) e))
  where
    by : (b : Bool) → is_some (option_map (λ (i : ℕ). i + 1) (place_of (map name_of ps) (name_of p))) ≡ true
        → is_some (cond b (Some 0) (option_map (λ (i : ℕ). i + 1) (place_of (map name_of ps) (name_of p)))) ≡ true
    by true rest = refl
    by false rest = rest

none_among : (ps : List Primitive) (name : List ℕ) → ((p : Primitive) → name_of p ≡ name → ⊥) → place_of (map name_of ps) name ≡ None
none_among [] name none = refl
none_among (p ∷ ps) name none = by (bytes_eq name (name_of p)) refl (none_among ps name none)
  where
    by : (b : Bool) → bytes_eq name (name_of p) ≡ b → place_of (map name_of ps) name ≡ None
        → cond b (Some 0) (option_map (λ (i : ℕ). i + 1) (place_of (map name_of ps) name)) ≡ None
    by true is rest = absurd (none p (sym ((bytes_eq-Decides name (name_of p)).0 is)))
    by false is rest = ap (option_map (λ (i : ℕ). i + 1)) rest

-- a primitive is found by the names of all primitives
pub is_found : ((p : Primitive) → Contains ALL p) → (found : Option Primitive) (name : List ℕ) → IfSome found (λ p. name_of p ≡ name) → IfNone found ((p : Primitive) → name_of p ≡ name → ⊥)
    → is_some found ≡ is_among primitive_names name
is_found all (Some p) name some none = sym (ap (is_among primitive_names) (sym some) ∙ one_among ALL p (all p).0 (all p).1 (all p).2)
is_found all None name some none = sym (ap is_some (none_among ALL name none))
